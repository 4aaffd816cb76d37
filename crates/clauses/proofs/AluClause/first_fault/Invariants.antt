-- `clauses::AluClause::first_fault` meets its contract. The loop's invariant: the groups passed break nothing, and the verdict is that of the
-- groups left. Assumes nothing.
use Rattle.std.proofs.Common.{◌-◌}
use Rattle.clauses.proofs.OfPlace.{Going}
use Rattle.clauses.proofs.AluClause.first_fault.Given as goal

abbrev pub invariant-loop-first : goal.invariant-loop-first
invariant-loop-first l = let s = l.self in Going s.kind s.limits s.words.now s.place s.start s.slots l.setters l.first

abbrev pub decreases-loop-first : goal.decreases-loop-first
decreases-loop-first l = l.self.slots.0 - l.first.0
