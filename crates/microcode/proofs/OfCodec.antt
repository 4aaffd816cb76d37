-- Words that are written over a part of a buffer, and words that are read and written there again. Assumes nothing.
use Rattle.std.proofs.Common.{◌≡◌, ℕ, ◌+◌, ◌<◌, ◌≤◌, List, ◌∷◌, ◌++◌, length, get_or, take, drop, sym, ap, arith}
use Rattle.std.proofs.lemmas.Grind.{common_steps}
use Rattle.std.proofs.lemmas.List.{drop_more, take-append-drop, get_or_append_left, get_or-append_right}
use mathlib.Core.Path.{◌∙◌}

-- a part as long as ws, from at on
module _ (at : ℕ) (ws l : List ℕ) (h : at + length ws ≤ length l) where
  pub length-over : length (take at l ++ (ws ++ drop (at + length ws) l)) ≡ length l
  length-over = grind (arith, common_steps)

  pub get_or-over : (k : ℕ) → k < length ws → get_or (take at l ++ (ws ++ drop (at + length ws) l)) (at + k) 0 ≡ get_or ws k 0
  get_or-over k j =
      let front : length (take at l) ≡ at = grind (arith, common_steps) in
      get_or-append_right (take at l) (ws ++ drop (at + length ws) l) at (at + k) 0 front (omega arith)
      ∙ ap (λ (i : ℕ). get_or (ws ++ drop (at + length ws) l) i 0) (omega arith)
      ∙ get_or_append_left ws (drop (at + length ws) l) 0 k j

-- the first of n + 1 words from at on, and the n behind it
pub word_more : (at : ℕ) (l rest : List ℕ) → at < length l → drop (at + 1) l ≡ rest → drop at l ≡ get_or l at 0 ∷ rest
word_more at l rest h e = drop_more l at 0 h ∙ ap (λ (r : List ℕ). get_or l at 0 ∷ r) e

-- what is behind at in a buffer, behind what is before it
pub parts_again : (at : ℕ) (l part : List ℕ) → drop at l ≡ part → take at l ++ part ≡ l
parts_again at l part e = ap (λ (p : List ℕ). take at l ++ p) (sym e) ∙ take-append-drop at l
