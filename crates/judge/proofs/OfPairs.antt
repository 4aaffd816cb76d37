-- Rules 4 to 15 and 22 at one pair, stretch by stretch, and what a pair that breaks none of them is sure of. Assumes nothing.
use mathlib.Core.Path.{◌≡◌, ◌∙◌}
use mathlib.Core.Bool.{false}
use mathlib.Core.List.{List, ◌++◌}
use Prim.Native.Nat.{ℕ, ◌≤◌}
use native.Mathlib.Omega.{arith}
use Rattle.std.specs.Prelude.{Option, Some, None, Err}
use Rattle.units.specs.declared.Quadwords.{Quadwords}
use Rattle.units.specs.Units.{quadwords, low_at, high_at}
use Rattle.checks.specs.declared.Refusal.{Refusal}
use Rattle.checks.specs.Verdict.{Accepted}
use Rattle.checks.specs.Checks.{first_broken}
use Rattle.checks.proofs.OfChecks.{first_clean, rest_clean, joined_clean, joined_refused, left_clean, right_clean}
use Rattle.card.specs.declared.Card.{Card}
use Rattle.section.specs.declared.Clause.{Clause}
use Rattle.section.specs.Control.{control_at}
use Rattle.section.specs.Rules.{is_not_taken, bad_field, clause_at, range_of, bad_range, bad_export}
use Rattle.section.proofs.OfRules.{inside}
use Rattle.apart.specs.Apart.{behind, layout_checks}
use Rattle.judge.specs.Judge.{clause_checks, range_checks, inside_checks, pair_checks}

-- ---- one stretch, and then the next

module _ (card : Card) (w : List ℕ) (e p : ℕ) where
  pub range_refused : {r : Refusal} → first_broken (range_checks card w e p) ≡ Err r → first_broken (pair_checks card w e p) ≡ Err r
  unfolding pair_checks
  range_refused h = joined_refused (range_checks card w e p) (layout_checks (clause_at w) p ++ inside_checks card w p) h

  module _ (h : first_broken (range_checks card w e p) ≡ Accepted) where
    behind-range : first_broken (pair_checks card w e p) ≡ first_broken (layout_checks (clause_at w) p ++ inside_checks card w p)
    unfolding pair_checks
    behind-range = joined_clean (range_checks card w e p) (layout_checks (clause_at w) p ++ inside_checks card w p) h

    pub layout-refused : {r : Refusal} → first_broken (layout_checks (clause_at w) p) ≡ Err r → first_broken (pair_checks card w e p) ≡ Err r
    layout-refused k = behind-range ∙ joined_refused (layout_checks (clause_at w) p) (inside_checks card w p) k

    pub then-inside : first_broken (layout_checks (clause_at w) p) ≡ Accepted → first_broken (pair_checks card w e p) ≡ first_broken (inside_checks card w p)
    then-inside k = behind-range ∙ joined_clean (layout_checks (clause_at w) p) (inside_checks card w p) k

-- ---- what accepted stretches say, by name

pub record RangeKept (card : Card) (w : List ℕ) (e p : ℕ) : Type 0 where
  pub taken : is_not_taken (control_at w p) ≡ false
  pub fields : bad_field (control_at w p) (high_at w p) ≡ false
  pub range : bad_range (quadwords e) card.quads (clause_at w p) ≡ false

pub range_kept : (card : Card) (w : List ℕ) (e p : ℕ) → first_broken (range_checks card w e p) ≡ Accepted → RangeKept card w e p
unfolding range_checks
range_kept card w e p h =
    record {
      taken = first_clean _ _ h;
      fields = first_clean _ _ (rest_clean _ _ h);
      range = first_clean _ _ (rest_clean _ _ (rest_clean _ _ h));
    }

-- a clause that keeps rule 6 ends by quads
pub ends_by_quads : (e quads : Quadwords) (k : Option Clause) → bad_range e quads k ≡ false → (behind k).0 ≤ quads.0
unfolding bad_range
ends_by_quads e quads None h = omega arith
ends_by_quads e quads (Some clause) h = (inside e quads (range_of clause) h).1

pub record InsideKept (card : Card) (w : List ℕ) (p : ℕ) : Type 0 where
  pub exported : bad_export (control_at w p) card.kind card.gprs (low_at w p) (high_at w p) ≡ false
  pub clause : first_broken (clause_checks card w (quadwords p) (clause_at w p)) ≡ Accepted

pub inside_kept : (card : Card) (w : List ℕ) (p : ℕ) → first_broken (inside_checks card w p) ≡ Accepted → InsideKept card w p
unfolding inside_checks
inside_kept card w p h = record { exported = first_clean _ _ h; clause = rest_clean _ _ h }

-- the three stretches of an accepted pair
module _ (card : Card) (w : List ℕ) (e p : ℕ) (h : first_broken (pair_checks card w e p) ≡ Accepted) where
  pub pair_range : RangeKept card w e p
  unfolding pair_checks
  pair_range = range_kept card w e p (left_clean (range_checks card w e p) (layout_checks (clause_at w) p ++ inside_checks card w p) h)

  pub pair_inside : InsideKept card w p
  unfolding pair_checks
  pair_inside =
      inside_kept card w p
      (right_clean (layout_checks (clause_at w) p) (inside_checks card w p)
      (right_clean (range_checks card w e p) (layout_checks (clause_at w) p ++ inside_checks card w p) h))
