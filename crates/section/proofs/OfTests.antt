-- What the code tests of rules 2, 3 and 6, in the papers' words. Assumes nothing.
use mathlib.Core.Path.{◌≡◌, refl, ap}
use mathlib.Core.Bool.{Bool, true, false, not, ◌||◌}
use mathlib.Core.List.{List}
use Prim.Native.Nat.{ℕ, ◌+◌, ◌*◌, ◌^◌, ◌<◌}
use native.Mathlib.Omega.{arith}
use lib.Dec.{eqb}
use lib.ListN.{length}
use borrow.Author.Tests.{eq-eqb, ne_eqb, le-leb, lt-leb, eqb-true, eqb-false, ltb-true, leb-true, leb-false}
use Rattle.units.specs.declared.Quadwords.{Quadwords}
use Rattle.units.specs.declared.Words.{Words}
use Rattle.units.specs.Units.{slots, words_of, counted, range_end, is_below, is_at_most}
use Rattle.units.specs.Code.{capped, slots_in_64, words_in_64}
use Rattle.units.proofs.OfUnits.{capped_exact}
use Rattle.section.specs.declared.Range.{Range}
use Rattle.section.specs.Code.{range_in_64}
use Rattle.section.specs.Rules.{bad_length, outside}

-- ---- 2

-- no slice is as long as the cap, so that a capped length is never taken for a true one
pub length_told : (w : List ℕ) (q : Quadwords) (n : Words) → length w * 4 < 2 ^ 63 → n ≡ words_in_64 (words_of q) → not (eqb (length w) n.0) ≡ bad_length w q
unfolding bad_length
length_told w q n h e = ap not (by (eqb (length w) (2 * q.0)) refl)
  where
    m : n.0 ≡ capped (2 * q.0)
    m = ap (λ (x : Words). x.0) e

    by : (t : Bool) → eqb (length w) (2 * q.0) ≡ t → eqb (length w) n.0 ≡ t
    by true p = eq-eqb (length w) n.0 (omega (arith, m, eqb-true (length w) (2 * q.0) p))
    by false p = ne_eqb (length w) n.0 (λ z. eqb-false (length w) (2 * q.0) p (omega (arith, m)))

-- ---- 6

-- a length at the cap of 64 bits lies outside as the true one does: a start behind the end is not 0
pub capped_outside : (e quads : Quadwords) (r : Range) → quads.0 < 2 ^ 64 → outside e quads (range_in_64 r) ≡ outside e quads r
unfolding outside
capped_outside e quads r h = by (is_below e r.start) refl
  where
    at_most : e.0 < r.start.0 → (t : Bool) → is_at_most (range_end r.start r.size) quads ≡ t → is_at_most (range_end r.start (range_in_64 r).size) quads ≡ t
    at_most l true p = le-leb _ quads.0 (omega (arith, leb-true (r.start.0 + r.size.0) quads.0 p))
    at_most l false p = lt-leb _ quads.0 (omega (arith, leb-false (r.start.0 + r.size.0) quads.0 p))

    by : (t : Bool) → is_below e r.start ≡ t → (not t || not (is_at_most (range_end r.start (range_in_64 r).size) quads)) ≡ (not t || not (is_at_most (range_end r.start r.size) quads))
    by true p = ap not (at_most (ltb-true e.0 r.start.0 p) (is_at_most (range_end r.start r.size) quads) refl)
    by false p = refl

-- a COUNT field is far from the cap
pub counted_exact : (field : ℕ) → field < 2 ^ 32 → slots_in_64 (counted (slots field)) ≡ counted (slots field)
counted_exact field h = ap slots (capped_exact (field + 1) (omega arith))
