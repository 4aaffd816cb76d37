-- The first pass: a place from its parts, and one place more. Assumes nothing.
use mathlib.Core.Path.{◌≡◌, ◌∙◌, sym, subst}
use mathlib.Core.List.{List}
use Prim.Native.Nat.{ℕ, suc, ◌+◌, ◌-◌, ◌≤◌, ◌<◌}
use native.Mathlib.Omega.{arith}
use lib.ListN.{length, set, length-set}
use Rattle.std.specs.Prelude.{Result, Ok, Err}
use Rattle.checks.specs.declared.Refusal.{Refusal}
use Rattle.checks.specs.Verdict.{Verdict, Accepted}
use Rattle.checks.specs.Checks.{first_broken, below}
use Rattle.checks.proofs.OfChecks.{joined_clean, joined_refused, below_none, below_next, below_found}
use Rattle.card.specs.declared.Card.{Card}
use Rattle.walk.specs.declared.Frames.{Frames}
use Rattle.walk.specs.declared.rows.Row.{Row}
use Rattle.walk.specs.CodeRows.{row, frames, row_checks}
use Rattle.walk.specs.CodeHeld.{Recorded}
use Rattle.walk.specs.Flow.{flow_at}
use Rattle.walk.specs.Rules.{stack_checks, second_checks}
use Rattle.walk.proofs.OfFollow.{held_start, recorded_none, recorded_more}
use Rattle.walk.proofs.OfSecond.{second_pass_is}
use Rattle.judge.specs.Judge.{pair_checks, first_checks, passes}
use Rattle.judge.specs.Code.{Standing, StackFound, Found}

-- ---- one place

module _ (card : Card) (w : List ℕ) (e p : ℕ) where
  pub pair_refused : {r : Refusal} → first_broken (pair_checks card w e p) ≡ Err r → first_broken (first_checks card w e p) ≡ Err r
  unfolding first_checks
  pair_refused h = joined_refused (pair_checks card w e p) (stack_checks card.stack e (flow_at w) p) h

  pub then_stack : first_broken (pair_checks card w e p) ≡ Accepted → (x : Result Frames Refusal) → StackFound card.stack e (flow_at w) p x → Found card w e p x
  unfolding first_checks
  then_stack h x g = by x g
    where
      clean : first_broken (first_checks card w e p) ≡ first_broken (stack_checks card.stack e (flow_at w) p)
      clean = joined_clean (pair_checks card w e p) (stack_checks card.stack e (flow_at w) p) h

      by : (x : Result Frames Refusal) → StackFound card.stack e (flow_at w) p x → Found card w e p x
      by (Err r) k = clean ∙ k
      by (Ok f) k = (clean ∙ k.0, k.1, k.2)

-- ---- the places in a row

pub standing_first : (card : Card) (w : List ℕ) (e : ℕ) (rows : List Row) → e < length rows → Standing card w e 0 (frames (row 0 0) 0) rows
standing_first card w e rows h =
    record {
      room = h;
      near = omega arith;
      clean_before = below_none (first_checks card w e);
      held = held_start (flow_at w);
      not_deep = omega arith;
      recorded = recorded_none (flow_at w) rows;
    }

-- a place from what was found there, with its row written
module _ (card : Card) (w : List ℕ) (e p : ℕ) (s : Frames) (rows : List Row) (here : Standing card w e p s rows) (in_section : p ≤ e) where
  pub stops : {r : Refusal} → first_broken (first_checks card w e p) ≡ Err r → first_broken (below (first_checks card w e) (suc e)) ≡ Err r
  stops h = below_found (first_checks card w e) (suc e) p (omega arith) here.clean_before h

  pub standing_next : (f : Frames) → Found card w e p (Ok f) → Standing card w e (suc p) f (set rows p s.row)
  standing_next f h =
      record {
        room = omega (arith, length-set rows p s.row, here.room);
        near = omega arith;
        clean_before = below_next (first_checks card w e) p here.clean_before h.0;
        held = h.1;
        not_deep = h.2;
        recorded = recorded_more (flow_at w) rows p s.row (omega (arith, here.room)) here.recorded here.held.shape;
      }

-- it stands behind the last place
pub passes_all :
    (card : Card) (w : List ℕ) (e : ℕ) (s : Frames) (rows : List Row) (n : ℕ) → n ≡ e + 1 → Standing card w e n s rows
    → (first_broken (below (first_checks card w e) (suc e)) ≡ Accepted) × Recorded (flow_at w) (suc e) rows
passes_all card w e s rows n q g =
    let behind : n ≡ suc e = omega arith in
    (subst (λ (k : ℕ). first_broken (below (first_checks card w e) k) ≡ Accepted) behind g.clean_before, subst (λ (k : ℕ). Recorded (flow_at w) k rows) behind g.recorded)

-- ---- both passes

module _ (card : Card) (w : List ℕ) (e : ℕ) where
  pub first_refused : {r : Refusal} → first_broken (below (first_checks card w e) (suc e)) ≡ Err r → first_broken (passes card w e) ≡ Err r
  unfolding passes
  first_refused h = joined_refused (below (first_checks card w e) (suc e)) (below (second_checks e (flow_at w)) (suc e)) h

  -- the second pass's answer over so many pairs
  pub then_second :
      (pairs : ℕ) (rows : List Row) (v : Verdict) → pairs ≡ suc e → first_broken (below (first_checks card w e) (suc e)) ≡ Accepted
      → Recorded (flow_at w) (suc e) rows → v ≡ first_broken (below (row_checks (flow_at w) (pairs - 1) rows) pairs) → v ≡ first_broken (passes card w e)
  unfolding passes
  then_second pairs rows v n h r g =
      second_pass_is (flow_at w) e pairs rows v n r g
      ∙ sym (joined_clean (below (first_checks card w e) (suc e)) (below (second_checks e (flow_at w)) (suc e)) h)
