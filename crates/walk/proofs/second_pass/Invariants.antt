-- `walk::second_pass`: the places passed break nothing.
use Rattle.std.proofs.Common.{◌≡◌, ◌-◌}
use Rattle.checks.specs.Verdict.{Accepted}
use Rattle.checks.specs.Checks.{first_broken, below}
use Rattle.walk.specs.Flow.{flow_at}
use Rattle.walk.specs.CodeRows.{row_checks}
use Rattle.walk.proofs.second_pass.Given as goal

abbrev pub invariant-loop-p : goal.invariant-loop-p
invariant-loop-p l = first_broken (below (row_checks (flow_at l.words) (l.fn.pairs.0 - 1) l.rows) l.p) ≡ Accepted
