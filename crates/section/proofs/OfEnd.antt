-- The end of the section, as the search finds it: it is an end, no pair before it is one, and it lies in the buffer. By induction
-- over the pairs searched. Assumes nothing.
use mathlib.Core.Path.{◌≡◌, refl, sym, ap, ◌∙◌}
use mathlib.Core.Bool.{Bool, true, false, cond}
use mathlib.Core.Logic.{⊎_elim}
use mathlib.Core.List.{List}
use Prim.Native.Nat.{ℕ, zero, suc, ◌+◌, ◌*◌, ◌-◌, ◌≤◌, ◌<◌}
use native.Mathlib.Nat.{eq-or-lt_of_le}
use native.Mathlib.Numerals.{add-one}
use native.Mathlib.Omega.{arith}
use lib.ListN.{length, get_or}
use borrow.Author.Tests.{leb-false}
use Rattle.units.specs.declared.Quadwords.{Quadwords}
use Rattle.units.specs.declared.Words.{Words}
use Rattle.units.specs.Units.{quadwords, high_word, high_at}
use Rattle.units.specs.Code.{capped, words_in_64}
use Rattle.section.specs.Control.{is_end, searched, end_from, end_of}
use Rattle.section.specs.Rules.{no_end}

-- ---- the search, pair by pair

-- the high word that the code reads of a pair that is searched: no count here comes near the cap
pub high_read : (w : List ℕ) (q : Quadwords) (p : ℕ) (at : Words) → q ≡ quadwords (searched w) → p < q.0 → at ≡ words_in_64 (high_word (quadwords p)) → get_or w at.0 0 ≡ high_at w p
unfolding high_at
high_read w q p at e h f =
    let n : q.0 ≡ searched w = ap (λ (x : Quadwords). x.0) e in
    let a : at.0 ≡ capped (2 * p + 1) = ap (λ (x : Words). x.0) f in
    let same : at.0 ≡ 2 * p + 1 = omega arith in
    ap (λ (k : ℕ). get_or w k 0) same

-- from the first pair on it finds the end
pub end_first : (w : List ℕ) (q : Quadwords) → q ≡ quadwords (searched w) → end_from w 0 (q.0 - 0) ≡ end_of w
unfolding end_of
end_first w q e =
    let a : q.0 ≡ searched w = ap (λ (x : Quadwords). x.0) e in
    let b : q.0 - 0 ≡ searched w = omega arith in
    ap (end_from w 0) b

-- from p on it finds p, or what it finds from the next pair on
pub end-step : (w : List ℕ) (p n : ℕ) (t : Bool) → p < n → is_end (high_at w p) ≡ t → end_from w p (n - p) ≡ cond t p (end_from w (p + 1) (n - (p + 1)))
unfolding end_from
end-step w p n t h e =
    let one_more : n - p ≡ suc (n - (p + 1)) = omega arith in
    rw (one_more, add-one p, e)

-- behind the last pair it finds none
pub end_none : (w : List ℕ) (p n : ℕ) → p ≤ n → n ≤ p → end_from w p (n - p) ≡ n
unfolding end_from
end_none w p n h k =
    let none : n - p ≡ 0 = omega arith in
    let last : p ≡ n = omega arith in
    rw none last

-- ---- the end that was found

module _ (w : List ℕ) where
  from_here : (p n : ℕ) → p ≤ end_from w p n
  unfolding end_from
  from_here p zero = omega arith
  from_here p (suc n) = by (is_end (high_at w p)) (from_here (suc p) n)
    where
      by : (t : Bool) → suc p ≤ end_from w (suc p) n → p ≤ cond t p (end_from w (suc p) n)
      by true h = omega arith
      by false h = omega arith

  at_most : (p n : ℕ) → end_from w p n ≤ p + n
  unfolding end_from
  at_most p zero = omega arith
  at_most p (suc n) = by (is_end (high_at w p)) (at_most (suc p) n)
    where
      by : (t : Bool) → end_from w (suc p) n ≤ suc p + n → cond t p (end_from w (suc p) n) ≤ p + suc n
      by true h = omega arith
      by false h = omega arith

  is_end_there : (p n : ℕ) → end_from w p n < p + n → is_end (high_at w (end_from w p n)) ≡ true
  unfolding end_from
  is_end_there p zero h = absurd (omega arith)
  is_end_there p (suc n) h = by (is_end (high_at w p)) refl h (is_end_there (suc p) n)
    where
      by : (t : Bool) → is_end (high_at w p) ≡ t → cond t p (end_from w (suc p) n) < p + suc n → (end_from w (suc p) n < suc p + n → is_end (high_at w (end_from w (suc p) n)) ≡ true) → is_end (high_at w (cond t p (end_from w (suc p) n))) ≡ true
      by true e h k = e
      by false e h k = k (omega arith)

  none_before : (p n k : ℕ) → p ≤ k → k < end_from w p n → is_end (high_at w k) ≡ false
  unfolding end_from
  none_before p zero k g h = absurd (omega arith)
  none_before p (suc n) k g h = by (is_end (high_at w p)) refl h (none_before (suc p) n k)
    where
      by : (t : Bool) → is_end (high_at w p) ≡ t → k < cond t p (end_from w (suc p) n) → (suc p ≤ k → k < end_from w (suc p) n → is_end (high_at w k) ≡ false) → is_end (high_at w k) ≡ false
      by true e h later = absurd (omega arith)
      by false e h later =
          ⊎_elim (λ (q : p ≡ k). ap (λ (j : ℕ). is_end (high_at w j)) (sym q) ∙ e) (λ q. later q h) (eq-or-lt_of_le g)

  -- whether there is an end or not
  pub end_at_most : end_of w ≤ searched w
  unfolding end_of
  end_at_most = omega (arith, at_most 0 (searched w))

  -- rule 3 is clean: e is an end, the first one, and one of the first 512 pairs in the buffer
  pub record Ends (e : ℕ) : Type 0 where
    pub is_an_end : is_end (high_at w e) ≡ true
    pub is-first : (p : ℕ) → p < e → is_end (high_at w p) ≡ false
    pub among_512 : e < 512
    pub in_buffer : 2 * e + 1 < length w

  pub ends_at : no_end w ≡ false → Ends (end_of w)
  unfolding no_end end_of
  ends_at h =
      let found : end_from w 0 (searched w) < searched w = leb-false (searched w) (end_from w 0 (searched w)) h in
      record {
        is_an_end = is_end_there 0 (searched w) (omega arith);
        is-first = λ p k. none_before 0 (searched w) p (omega arith) k;
        among_512 = omega arith;
        in_buffer = omega arith;
      }
