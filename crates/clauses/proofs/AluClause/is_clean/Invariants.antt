-- `clauses::AluClause::is_clean` meets its contract. The loop's invariant: the glance stands where the groups before break nothing, and what is
-- kept says what has been seen of the one under way; behind the clause's end nothing is said. Assumes nothing.
use Rattle.std.proofs.Common.{◌+◌, ◌-◌, ◌≤◌}
use Rattle.clauses.proofs.OfScreen.{Glancing}
use Rattle.clauses.proofs.AluClause.is_clean.Given as goal

abbrev pub invariant-loop-at : goal.invariant-loop-at
invariant-loop-at l =
    let s = l.self in
    l.at ≤ s.start.0 + s.slots.0 → Glancing s.limits l.pixel s.words.now s.start s.slots l.at l.setters l.seen

abbrev pub decreases-loop-at : goal.decreases-loop-at
decreases-loop-at l = l.end - l.at
