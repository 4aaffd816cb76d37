-- Lines: found one byte after the other, and one after the other from the start. Assumes nothing.
use mathlib.Core.Path.{◌≡◌, refl, ap, sym, ◌∙◌}
use mathlib.Core.Bool.{Bool, true, false, cond, not}
use mathlib.Core.List.{List, [], ◌∷◌}
use Rattle.std.specs.Prelude.{Option, None, Some, option_map}
use Rattle.std.specs.List.{position, position_or_len}
use Rattle.std.proofs.lemmas.Option.{none-some, cond_some}
use Prim.Native.Nat.{ℕ, zero, suc, ◌+◌, ◌-◌, ◌≤◌, ◌<◌}
use native.Mathlib.Numerals.{add-one}
use native.Mathlib.Omega.{arith}
use borrow.Author.Tests.{eq-eqb, ne_eqb, lt-ltb, le-ltb, ltb-true, ltb-false}
use lib.Dec.{eqb, ltb}
use lib.ListN.{length, get_or, take, drop, length-drop}
use lib.Seq.{drop-cons, drop-drop}
use Rattle.card.specs.Text.{line_feed, line_end, first_line, behind_first, behind, lines_length}

-- the bytes from a place to the end, as a part of them that the code takes
abbrev pub part : List ℕ → ℕ → List ℕ
part l n = take (length l - n) (drop n l)

-- ---- the end of the first line

pub end_within : (t : List ℕ) → line_end t ≤ length t
unfolding line_end
end_within [] = omega arith
end_within (b ∷ t) = by (eqb b line_feed) (end_within t)
  where
    by : (x : Bool) → line_end t ≤ length t → cond x 0 (suc (line_end t)) ≤ suc (length t)
    by true h = omega arith
    by false h = omega arith

-- no line feed stands before i
abbrev pub Passed : List ℕ → ℕ → Type 0
Passed t i = line_end t ≡ i + line_end (drop i t)

pub passed_more : (t : List ℕ) (i : ℕ) → i < length t → (get_or t i 0 ≡ line_feed → ⊥) → Passed t i → Passed t (i + 1)
unfolding line_end
passed_more t i h e w = w ∙ rw (drop-cons t i 0, ne_eqb (get_or t i 0) line_feed e, add-one) (omega arith)

-- so the line ends there where a line feed or nothing follows
pub passed_here : (t : List ℕ) (i : ℕ) → i < length t → get_or t i 0 ≡ line_feed → Passed t i → i ≡ line_end t
unfolding line_end
passed_here t i h e w = sym (w ∙ rw (drop-cons t i 0, eq-eqb (get_or t i 0) line_feed e) (omega arith))

pub passed_all : (t : List ℕ) (i : ℕ) → length t ≤ i → Passed t i → i ≡ line_end t
passed_all t i h w = omega (arith, w, end_within t)

-- ---- the first line, and what stands behind it

-- the line is what stands before the line feed
pub first_end : (t : List ℕ) → first_line t ≡ cond (ltb (line_end t) (length t)) (Some (take (line_end t) t)) None
unfolding line_end first_line
first_end [] = refl
first_end (b ∷ t) = by (eqb b line_feed) (first_end t)
  where
    by : (x : Bool) → first_line t ≡ cond (ltb (line_end t) (length t)) (Some (take (line_end t) t)) None
        → cond x (Some []) (option_map (λ l. b ∷ l) (first_line t))
        ≡ cond (ltb (cond x 0 (suc (line_end t))) (suc (length t))) (Some (take (cond x 0 (suc (line_end t))) (b ∷ t))) None
    by true h = rw (lt-ltb 0 (suc (length t)) (omega arith))
    by false h = ap (option_map (λ (l : List ℕ). b ∷ l)) h ∙ under (ltb (line_end t) (length t)) refl
      where
        under : (y : Bool) → ltb (line_end t) (length t) ≡ y
            → option_map (λ (l : List ℕ). b ∷ l) (cond y (Some (take (line_end t) t)) None)
            ≡ cond (ltb (suc (line_end t)) (suc (length t))) (Some (b ∷ take (line_end t) t)) None
        under true e = rw (lt-ltb (suc (line_end t)) (suc (length t)) (omega (arith, ltb-true (line_end t) (length t) e)))
        under false e = rw (le-ltb (suc (line_end t)) (suc (length t)) (omega (arith, ltb-false (line_end t) (length t) e)))

-- the place at which the code finds it
end_place : (t : List ℕ) → position_or_len (λ b. eqb b line_feed) t ≡ line_end t
unfolding line_end
end_place [] = refl
end_place (b ∷ t) = by (eqb b line_feed) (end_place t)
  where
    by : (x : Bool) → position_or_len (λ c. eqb c line_feed) t ≡ line_end t → cond (not x) (1 + position_or_len (λ c. eqb c line_feed) t) 0 ≡ cond x 0 (suc (line_end t))
    by true h = refl
    by false h = omega arith

behind_end : (t : List ℕ) → behind_first t ≡ drop (line_end t + 1) t
unfolding line_end behind_first
behind_end [] = refl
behind_end (b ∷ t) = by (eqb b line_feed) (behind_end t)
  where
    by : (x : Bool) → behind_first t ≡ drop (line_end t + 1) t → cond x t (behind_first t) ≡ drop (cond x 0 (suc (line_end t)) + 1) (b ∷ t)
    by true h = refl
    by false h = h ∙ rw (add-one (line_end t), add-one (suc (line_end t)))

-- what the code finds
abbrev pub feed_at : List ℕ → Option ℕ
feed_at t = position (λ b. eqb b line_feed) t

pub feed_lem : (t : List ℕ) → feed_at t ≡ cond (ltb (line_end t) (length t)) (Some (line_end t)) None
feed_lem t = ap (λ (n : ℕ). cond (ltb n (length t)) (Some n) None) (end_place t)

pub no_line : (t : List ℕ) → feed_at t ≡ None → first_line t ≡ None
no_line t h = first_end t ∙ by (ltb (line_end t) (length t)) (sym (feed_lem t) ∙ h)
  where
    by : (x : Bool) → ◌≡◌ {A = Option ℕ} (cond x (Some (line_end t)) None) None → ◌≡◌ {A = Option (List ℕ)} (cond x (Some (take (line_end t) t)) None) None
    by true e = absurd (none-some (line_end t) (sym e))
    by false e = refl

pub record Ended (t : List ℕ) (n : ℕ) : Type 0 where
  pub within : n < length t
  pub line : first_line t ≡ Some (take n t)
  pub rest : behind_first t ≡ drop (n + 1) t

pub line_there : (t : List ℕ) (n : ℕ) → feed_at t ≡ Some n → Ended t n
line_there t n h =
    let w = cond_some (ltb (line_end t) (length t)) (line_end t) n (sym (feed_lem t) ∙ h) in
    record {
      within = omega (arith, w.1, ltb-true (line_end t) (length t) w.0);
      line = first_end t ∙ rw (w.0, w.1);
      rest = behind_end t ∙ ap (λ (k : ℕ). drop (k + 1) t) w.1;
    }

-- ---- one line after the other

-- what stands behind n lines is a part of the bytes, up to their end
behind_drop : (n : ℕ) (s : List ℕ) → (k : ℕ) × (behind n s ≡ drop k s)
unfolding behind
behind_drop zero s = (0, refl)
behind_drop (suc n) s = next (behind_drop n s)
  where
    next : (k : ℕ) × (behind n s ≡ drop k s) → (k : ℕ) × (behind_first (behind n s) ≡ drop k s)
    next w = (
      w.0 + (line_end (behind n s) + 1),
      behind_end (behind n s) ∙ ap (drop (line_end (behind n s) + 1)) w.1 ∙ drop-drop (line_end (behind n s) + 1) w.0 s,
    )

-- a part up to the end, by its length
by_length : (k : ℕ) (s : List ℕ) → drop (length s - length (drop k s)) s ≡ drop k s
by_length zero s = let e : length s - length s ≡ 0 = omega arith in ap (λ (i : ℕ). drop i s) e
by_length (suc k) [] = refl
by_length (suc k) (b ∷ s) =
    let e : suc (length s) - length (drop k s) ≡ suc (length s - length (drop k s)) = omega (arith, length-drop k s) in
    ap (λ (i : ℕ). drop i (b ∷ s)) e ∙ by_length k s

-- behind the bytes that n lines take stands what stands behind n lines
pub lines_behind : (n : ℕ) (s : List ℕ) → drop (lines_length n s) s ≡ behind n s
unfolding lines_length
lines_behind n s =
    let w = behind_drop n s in
    ap (λ (u : List ℕ). drop (length s - length u) s) w.1 ∙ by_length w.0 s ∙ sym w.1

pub lines_within : (n : ℕ) (s : List ℕ) → lines_length n s ≤ length s
unfolding lines_length
lines_within n s = omega arith

-- no more stands behind lines than there is
pub behind_less : (n : ℕ) (s : List ℕ) → length (behind n s) ≤ length s
behind_less n s = let w = behind_drop n s in omega (arith, ap length w.1, length-drop w.0 s)

-- the place of a part that stands behind n lines
pub lines_place : (n k : ℕ) (s : List ℕ) → k ≤ length s → drop k s ≡ behind n s → k ≡ lines_length n s
unfolding lines_length
lines_place n k s h e = omega (arith, length-drop k s, ap length e)
