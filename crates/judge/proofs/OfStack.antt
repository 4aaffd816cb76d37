-- Rules 16 and 17 at one place, from what the step found there. Assumes nothing.
use mathlib.Core.Path.{◌≡◌}
use mathlib.Core.List.{List}
use Prim.Native.Nat.{ℕ, suc, ◌<◌}
use native.Mathlib.Omega.{arith}
use Rattle.std.specs.Prelude.{Ok, Err}
use Rattle.units.specs.declared.Quadwords.{Quadwords}
use Rattle.units.specs.Units.{quadwords, slots, quadword_behind}
use Rattle.units.specs.Code.{quadwords_in_64}
use Rattle.units.proofs.OfUnits.{behind_exact}
use Rattle.checks.specs.declared.Place.TheVariants.{Quadword}
use Rattle.checks.specs.Verdict.{Refused}
use Rattle.checks.specs.Checks.{first_broken}
use Rattle.card.specs.declared.Card.{Card}
use Rattle.walk.specs.declared.Flow.{Flow}
use Rattle.walk.specs.declared.Frames.{Frames}
use Rattle.walk.specs.declared.StackFault.{StackFault}
use Rattle.walk.specs.declared.rows.Row.{Row}
use Rattle.walk.specs.CodeRows.{Followed, followed}
use Rattle.walk.specs.Flow.{flow_at}
use Rattle.walk.specs.Rules.{stack_checks}
use Rattle.walk.proofs.OfFollow.{at_place, moves, frames-refused, end_refused, stack-accepted}
use Rattle.judge.specs.Code.{Standing, StackFound}

module _ (card : Card) (w : List ℕ) (e p : ℕ) (s : Frames) (rows : List Row) (at : Standing card w e p s rows) (few : p < 512) {flow : Flow}
    (here : flow ≡ flow_at w p) {behind : Quadwords} (next : behind ≡ quadwords_in_64 (quadword_behind (quadwords p))) {m : Followed}
    (g : m ≡ followed card.stack flow behind.0 s rows) where
  step : m ≡ followed card.stack (flow_at w p) (suc p) s rows
  step = at_place card.stack (flow_at w) p s rows behind flow m (behind_exact (quadwords p) behind next (omega arith)) here g

  pub breaks_16 : (fault : StackFault) → m ≡ Err fault → first_broken (stack_checks card.stack e (flow_at w) p) ≡ Refused 16 (Quadword (quadwords p)) (slots 0)
  breaks_16 fault q = frames-refused card.stack (flow_at w) p s at.held rows at.recorded m step e fault q

  module _ (f : Frames) (q : m ≡ Ok f) where
    pub breaks-17 : p ≡ e → (s.depth ≡ 0 → ⊥) → first_broken (stack_checks card.stack e (flow_at w) p) ≡ Refused 17 (Quadword (quadwords p)) (slots 0)
    breaks-17 h d = end_refused card.stack (flow_at w) p s at.held rows at.recorded m step e f q at.not_deep h d

    pub found-next : (p ≡ e → s.depth ≡ 0) → StackFound card.stack e (flow_at w) p (Ok f)
    found-next h =
        let z = moves card.stack (flow_at w) p s at.held rows at.recorded m step f q in
        (stack-accepted card.stack (flow_at w) p s at.held rows at.recorded m step e f q at.not_deep h, z.held, z.no_deeper at.not_deep)
