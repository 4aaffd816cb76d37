-- Keys and words: what it is to begin with one, and to be one. Assumes nothing.
use mathlib.Core.Path.{◌≡◌, refl, ap, ap₂, sym, ◌∙◌}
use mathlib.Core.Bool.{Bool, true, false, cond, not, ◌&&◌, false≢true}
use mathlib.Core.List.{List, [], ◌∷◌, ◌++◌}
use Prim.Native.Nat.{ℕ, ◌≤◌}
use native.Mathlib.Omega.{arith}
use borrow.Author.Tests.{eqb-true, eqb-false, ne_eqb, not-true}
use lib.Dec.{eqb}
use lib.ListN.{length, take, drop}
use Rattle.std.specs.Cmp.Lexicographic.{pointwise}
use Rattle.laws.proofs.OfTests.{both, by_test_lem}
use Rattle.std.specs.Prelude.{Option, Some, None, option_map}
use Rattle.card.specs.Text.{found, line_feed, first_line, behind_first, behind, line_of, begins_with, same_as, value_of, value_at}
use Rattle.ascii.specs.Code.{feedless}

-- the library's test for a prefix
pub begins_as : (key t : List ℕ) → pointwise eqb (take (length key) t) key ≡ begins_with key t
unfolding begins_with
begins_as [] t = refl
begins_as (k ∷ key) [] = refl
begins_as (k ∷ key) (b ∷ t) = ap (λ (x : Bool). eqb b k && x) (begins_as key t)

-- the library's test for the same bytes
pub same_is : (a b : List ℕ) → pointwise eqb a b ≡ same_as a b
unfolding same_as
same_is [] [] = refl
same_is [] (y ∷ ys) = refl
same_is (x ∷ xs) [] = refl
same_is (x ∷ xs) (y ∷ ys) = ap (λ (t : Bool). eqb x y && t) (same_is xs ys)

-- a text that begins with the key is no shorter
pub begins_length : (key t : List ℕ) → begins_with key t ≡ true → length key ≤ length t
unfolding begins_with
begins_length [] t e = omega arith
begins_length (k ∷ ks) [] e = absurd (false≢true e)
begins_length (k ∷ ks) (b ∷ t) e = let l = begins_length ks t (both (eqb b k) (begins_with ks t) e).1 in omega arith

-- a text that begins with the key is the key and a rest
pub begins_text : (key t : List ℕ) → begins_with key t ≡ true → t ≡ key ++ drop (length key) t
unfolding begins_with
begins_text [] t h = refl
begins_text (k ∷ key) [] h = absurd (false≢true h)
begins_text (k ∷ key) (b ∷ t) h =
    let w = both (eqb b k) (begins_with key t) h in
    ap₂ (λ (x : ℕ) (xs : List ℕ). x ∷ xs) (eqb-true b k w.0) (begins_text key t w.1)

-- two texts that are the same
pub same_text : (a b : List ℕ) → same_as a b ≡ true → a ≡ b
unfolding same_as
same_text [] [] h = refl
same_text [] (y ∷ ys) h = absurd (false≢true h)
same_text (x ∷ xs) [] h = absurd (false≢true h)
same_text (x ∷ xs) (y ∷ ys) h =
    let w = both (eqb x y) (same_as xs ys) h in
    ap₂ (λ (a : ℕ) (l : List ℕ). a ∷ l) (eqb-true x y w.0) (same_text xs ys w.1)

-- ---- bytes without a line feed, at the front of a line

pub behind_joined : (l t : List ℕ) → feedless l ≡ true → behind_first (l ++ t) ≡ behind_first t
unfolding behind_first
behind_joined [] t h = refl
behind_joined (b ∷ l) t h =
    let w = both (not (eqb b line_feed)) (feedless l) h in
    rw (not-true (eqb b line_feed) w.0, behind_joined l t w.1)

-- ---- the value of the first line

-- a byte that is a line feed is none of the key's
feed_other : (b k : ℕ) → not (eqb k line_feed) ≡ true → eqb b line_feed ≡ true → eqb b k ≡ false
feed_other b k f e =
    let g = eqb-false k line_feed (not-true (eqb k line_feed) f) in
    ne_eqb b k (λ p. g (sym p ∙ eqb-true b line_feed e))

-- by the bytes: the first line of what stands behind the key
key_line : (key t : List ℕ) → feedless key ≡ true
    → found (first_line t) (value_of key) ≡ cond (begins_with key t) (first_line (drop (length key) t)) None
unfolding first_line begins_with value_of
key_line [] t f = by (first_line t)
  where
    by : (o : Option (List ℕ)) → found o (λ l. Some l) ≡ o
    by None = refl
    by (Some l) = refl
key_line (k ∷ key) [] f = refl
key_line (k ∷ key) (b ∷ t) f =
    let w = both (not (eqb k line_feed)) (feedless key) f in
    by_test_lem (eqb b line_feed) (λ e. ended (feed_other b k w.0 e) e) (λ e. by_test_lem (eqb b k) (more (key_line key t w.1) e) (other e))
  where
    Goal : Type 0
    Goal = found (cond (eqb b line_feed) (Some []) (option_map (λ l. b ∷ l) (first_line t))) (value_of (k ∷ key))
        ≡ cond (eqb b k && begins_with key t) (first_line (drop (length key) t)) None

    ended : eqb b k ≡ false → eqb b line_feed ≡ true → Goal
    ended g e = rw (e, g)

    same : (o : Option (List ℕ)) → eqb b k ≡ true → found (option_map (λ l. b ∷ l) o) (value_of (k ∷ key)) ≡ found o (value_of key)
    same None g = refl
    same (Some l) g = rw g

    differs : (o : Option (List ℕ)) → eqb b k ≡ false → found (option_map (λ l. b ∷ l) o) (value_of (k ∷ key)) ≡ None
    differs None g = refl
    differs (Some l) g = rw g

    more : found (first_line t) (value_of key) ≡ cond (begins_with key t) (first_line (drop (length key) t)) None
        → eqb b line_feed ≡ false → eqb b k ≡ true → Goal
    more h e g = rw (e, same (first_line t) g, g) h

    other : eqb b line_feed ≡ false → eqb b k ≡ false → Goal
    other e g = rw (e, differs (first_line t) g, g)

-- as the code finds it: the key first, and what stands behind it then
module _ (key s : List ℕ) (f : feedless key ≡ true) where
  by_key : value_at 1 key s ≡ cond (begins_with key s) (first_line (drop (length key) s)) None
  unfolding value_at line_of behind
  by_key = key_line key s f

  pub value_other : pointwise eqb (take (length key) s) key ≡ false → value_at 1 key s ≡ None
  value_other e = by_key ∙ rw (sym (begins_as key s) ∙ e)

  module _ (e : pointwise eqb (take (length key) s) key ≡ true) where
    pub value_there : value_at 1 key s ≡ first_line (drop (length key) s)
    value_there = by_key ∙ rw (sym (begins_as key s) ∙ e)

    pub behind_there : behind_first s ≡ behind_first (drop (length key) s)
    behind_there =
        ap behind_first (begins_text key s (sym (begins_as key s) ∙ e)) ∙ behind_joined key (drop (length key) s) f
