-- What the laws of proofs/OfChanged.antt say of a number of words that two lists have in common.
use Rattle.std.specs.Prelude.{ℕ, ◌-◌, ◌≤◌, ◌≡◌, List, length, take, drop}

-- the first n words of two lists are the same
pub record CommonBeginning (n : ℕ) (xs ys : List ℕ) : Type 0 where
  pub in_first : n ≤ length xs
  pub in_second : n ≤ length ys
  pub same : take n xs ≡ take n ys

-- the last n words of two lists are the same
pub record CommonEnding (n : ℕ) (xs ys : List ℕ) : Type 0 where
  pub in_first : n ≤ length xs
  pub in_second : n ≤ length ys
  pub same : drop (length xs - n) xs ≡ drop (length ys - n) ys
