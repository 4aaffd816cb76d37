-- Rule 13 by the bits of a number, as the code has it, and by the units of a list, as document 01 has it: they agree, and where the rule is
-- kept the units of a group rise. What a single unit does to the bits is computed for all 32 numbers of five bits. Assumes nothing.
use mathlib.Core.Path.{◌≡◌, refl, sym, ap, ◌∙◌}
use mathlib.Core.Logic.{⊎_elim}
use mathlib.Core.Bool.{Bool, true, false, cond, not, ◌&&◌, ◌||◌, beq, and-false, or-true, false≢true}
use mathlib.Core.List.{List, [], ◌∷◌}
use Prim.Native.Nat.{ℕ, zero, suc, ◌<◌, ◌≤◌}
use native.Mathlib.Omega.{arith}
use lib.Dec.{eqb, ltb, leb}
use borrow.Author.Tests.{not-true, ltb-true, ltb-false, leb-false, eqb-true, eqb-false, lt-ltb, le-leb, lt-leb, ne_eqb}
use Rattle.laws.proofs.OfTests.{both, neither}
use Rattle.formats.specs.Fields.{◌of◌, BANK_SWIZZLE, DST_CHAN}
use Rattle.opcodes.specs.declared.alu.Unit.TheVariants.{Any, Trans}
use Rattle.opcodes.specs.Alu.{is_unit}
use Rattle.instructions.specs.Instruction.{class_of}
use Rattle.groups.specs.Group.{PerInstruction, all_below, trans, some_unit, unit_for, units_before, unit_at, bad_unit, bad_unit_at}
use Rattle.groups.specs.Code.{Taken, is_taken, occupied, taken_by, taken_before, taken_from}
use Rattle.groups.specs.Code as code
use Rattle.groups.proofs.OfBelow.{last_or_below, below_unless, each_passes}

-- ---- there are five units

abbrev Units : List ℕ → Type 0
Units [] = Unit {0}
Units (u ∷ us) = (u ≤ trans) × Units us

unit_most : (us : List ℕ) (h : ℕ) → unit_for us h ≤ trans
unfolding unit_for
unit_most us h =
    by (is_unit (class_of h).unit Trans || (is_unit (class_of h).unit Any && some_unit (eqb (DST_CHAN of h)) us))
  where
    by : (b : Bool) → cond b trans (DST_CHAN of h) ≤ trans
    by true = omega arith
    by false = omega arith

module _ (hi : PerInstruction) where
  units_before_lem : (j : ℕ) → Units (units_before hi j)
  unfolding units_before
  units_before_lem zero = tt
  units_before_lem (suc j) = (unit_most (units_before hi j) (hi j), units_before_lem j)

  at_most : (j : ℕ) → unit_at hi j ≤ trans
  unfolding unit_at
  at_most j = unit_most (units_before hi j) (hi j)

-- ---- bits and units

-- one unit more: with u too, unit v is taken if it is u or was taken; and one from v on, if u is one or one was
abbrev is_step : Taken → ℕ → ℕ → Bool
is_step t u v =
    ltb (occupied t u) 32
    && (beq (is_taken (occupied t u) v) (eqb v u || is_taken t v)
    && beq (taken_from (occupied t u) v) (leb v u || taken_from t v))

-- no unit: none is taken
abbrev is_start : ℕ → Bool
is_start v = not (is_taken 0 v) && not (taken_from 0 v)

steps : all_below (λ t. all_below (λ u. all_below (is_step t u) 5) 5) 32 ≡ true
unfolding all_below is_taken occupied taken_from
steps = refl

starts : all_below is_start 5 ≡ true
unfolding all_below is_taken taken_from
starts = refl

same : (a b : Bool) → beq a b ≡ true → a ≡ b
same true true h = refl
same true false h = absurd (false≢true h)
same false true h = absurd (false≢true h)
same false false h = refl

-- what the bits say of unit v
record ByBits (us : List ℕ) (v : ℕ) : Type 0 where
  few : taken_by us < 32
  held : is_taken (taken_by us) v ≡ some_unit (eqb v) us
  above : taken_from (taken_by us) v ≡ some_unit (leb v) us

by_bits : (us : List ℕ) → Units us → (v : ℕ) → v ≤ trans → ByBits us v
unfolding taken_by some_unit
by_bits [] h v l =
    let r = both (not (is_taken 0 v)) (not (taken_from 0 v)) (each_passes is_start 5 starts v (omega arith)) in
    record { few = omega arith; held = not-true (is_taken 0 v) r.0; above = not-true (taken_from 0 v) r.1 }
by_bits (u ∷ us) h v l =
    let b = by_bits us h.1 v l in
    let t = taken_by us in
    let step = each_passes (is_step t u) 5 (each_passes (λ w. all_below (is_step t w) 5) 5 (each_passes (λ s. all_below (λ w. all_below (is_step s w) 5) 5) 32 steps t b.few) u (omega (arith, h.0))) v (omega arith) in
    let r = both (ltb (occupied t u) 32) _ step in
    let q = both (beq (is_taken (occupied t u) v) (eqb v u || is_taken t v)) _ r.1 in
    record {
      few = ltb-true (occupied t u) 32 r.0;
      held = same (is_taken (occupied t u) v) (eqb v u || is_taken t v) q.0 ∙ ap (λ (x : Bool). eqb v u || x) b.held;
      above = same (taken_from (occupied t u) v) (leb v u || taken_from t v) q.1 ∙ ap (λ (x : Bool). leb v u || x) b.above;
    }

-- ---- what is refused of a unit: one from it on is taken, since Trans is the last

refused :
    (us : List ℕ) → Units us → (u : ℕ) → u ≤ trans
    → (some_unit (eqb u) us || ((ltb u trans && some_unit (ltb u) us) || some_unit (eqb trans) us)) ≡ some_unit (leb u) us
unfolding some_unit
refused [] h u l = rw (and-false (ltb u trans))
refused (v ∷ us) h u l = by (ltb u v) refl (eqb u v) refl (refused us h.1 u l)
  where
    by :
        (a : Bool) → ltb u v ≡ a → (b : Bool) → eqb u v ≡ b
        → (some_unit (eqb u) us || ((ltb u trans && some_unit (ltb u) us) || some_unit (eqb trans) us)) ≡ some_unit (leb u) us
        → (b || some_unit (eqb u) us || (ltb u trans && (a || some_unit (ltb u) us) || (eqb trans v || some_unit (eqb trans) us))) ≡ (leb u v || some_unit (leb u) us)
    by true e b f r =
        let k = ltb-true u v e in
        rw (lt-ltb u trans (omega (arith, k, h.0)), le-leb u v (omega (arith, k))) (or-true (b || some_unit (eqb u) us))
    by false e true f r = rw (le-leb u v (omega (arith, eqb-true u v f)))
    by false e false f r =
        let k = ltb-false u v e in
        let n = eqb-false u v f in
        let m : v < u = below_unless k (λ q. n (sym q)) in
        rw (lt-leb u v m, ne_eqb trans v (λ q. omega (arith, q, m))) r

-- the two ways to find a unit, and to refuse it
module _ (us : List ℕ) (h : Units us) where
  unit_same : (w : ℕ) → code.unit_of (taken_by us) w ≡ unit_for us w
  unfolding code.unit_of code.unit_for unit_for
  unit_same w =
      ap (λ (b : Bool). cond (is_unit (class_of w).unit Trans || (is_unit (class_of w).unit Any && b)) trans (DST_CHAN of w))
      (by_bits us h (DST_CHAN of w) (omega arith)).held

  bad_same : (u : ℕ) → u ≤ trans → (swizzle : ℕ) → code.bad_unit (taken_by us) u swizzle ≡ bad_unit us u swizzle
  unfolding code.bad_unit bad_unit
  bad_same u l swizzle =
      ap (λ (b : Bool). b || (eqb u trans && ltb 3 swizzle)) ((by_bits us h u l).above ∙ sym (refused us h u l))
      ∙ regroup (some_unit (eqb u) us) (ltb u trans && some_unit (ltb u) us) (some_unit (eqb trans) us) (eqb u trans && ltb 3 swizzle)
    where
      regroup : (a b d e : Bool) → ((a || (b || d)) || e) ≡ (a || (b || (d || e)))
      regroup true b d e = refl
      regroup false true d e = refl
      regroup false false d e = refl

-- ---- instruction by instruction

module _ (hi : PerInstruction) where
  pub unit_at_lem : (j : ℕ) → code.unit_of (taken_before hi j) (hi j) ≡ unit_at hi j
  unfolding unit_at
  unit_at_lem j = unit_same (units_before hi j) (units_before_lem hi j) (hi j)

  pub bad_at : (j : ℕ) → code.bad_unit (taken_before hi j) (unit_at hi j) (BANK_SWIZZLE of (hi j)) ≡ bad_unit_at hi j
  unfolding bad_unit_at
  bad_at j = bad_same (units_before hi j) (units_before_lem hi j) (unit_at hi j) (at_most hi j) (BANK_SWIZZLE of (hi j))

  pub taken_held : (m v : ℕ) → v ≤ trans → is_taken (taken_before hi m) v ≡ some_unit (eqb v) (units_before hi m)
  taken_held m v l = (by_bits (units_before hi m) (units_before_lem hi m) v l).held

  -- a unit before j is that of an instruction before j
  pub some_before : (f : ℕ → Bool) (j : ℕ) → some_unit f (units_before hi j) ≡ true → (k : ℕ) × (k < j) × (f (unit_at hi k) ≡ true)
  unfolding units_before some_unit unit_at
  some_before f zero h = absurd (false≢true h)
  some_before f (suc j) h = by (f (unit_at hi j)) refl h (λ q. some_before f j q)
    where
      by :
          (b : Bool) → f (unit_at hi j) ≡ b → (b || some_unit f (units_before hi j)) ≡ true
          → (some_unit f (units_before hi j) ≡ true → (k : ℕ) × (k < j) × (f (unit_at hi k) ≡ true))
          → (k : ℕ) × (k < suc j) × (f (unit_at hi k) ≡ true)
      by true e q rest = (j, omega arith, e)
      by false e q rest = let r = rest q in (r.0, omega (arith, r.1), r.2)

  -- what is so of no unit before j is not so of that of an instruction before j
  not_before : (f : ℕ → Bool) (j k : ℕ) → k < j → some_unit f (units_before hi j) ≡ false → f (unit_at hi k) ≡ false
  unfolding units_before some_unit unit_at
  not_before f zero k l h = absurd (omega arith)
  not_before f (suc j) k l h =
      let r = neither (f (unit_at hi j)) (some_unit f (units_before hi j)) h in
      ⊎_elim (λ e. ap (λ (n : ℕ). f (unit_at hi n)) e ∙ r.0) (λ m. not_before f j k m r.1) (last_or_below l)

  -- where the rule is kept below m
  module _ (m : ℕ) (kept : (j : ℕ) → j < m → bad_unit_at hi j ≡ false) where
    pub rises : (k j : ℕ) → k < j → j < m → unit_at hi k < unit_at hi j
    unfolding code.bad_unit
    rises k j l h =
        let us = units_before hi j in
        let u = unit_at hi j in
        let r = neither (taken_from (taken_by us) u) _ (bad_at j ∙ kept j h) in
        leb-false u (unit_at hi k) (not_before (leb u) j k l (sym (by_bits us (units_before_lem hi j) u (at_most hi j)).above ∙ r.0))

    pub rises-from : (j : ℕ) → j < m → j ≤ unit_at hi j
    rises-from zero h = omega arith
    rises-from (suc j) h =
        let l : j < m = omega arith in
        let k : j < suc j = omega arith in
        omega (arith, rises-from j l, rises j (suc j) k h)

-- so a group has at most five instructions
pub kept_few : (hi : PerInstruction) (m : ℕ) → ((j : ℕ) → j < m → bad_unit_at hi j ≡ false) → m ≤ 5
kept_few hi zero kept = omega arith
kept_few hi (suc m) kept = let l : m < suc m = omega arith in omega (arith, rises-from hi (suc m) kept m l, at_most hi m)
