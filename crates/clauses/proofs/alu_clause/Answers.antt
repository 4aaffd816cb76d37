-- `clauses::alu_clause` meets its contract: accepted at a glance, or by its first fault. Assumes nothing.
use Rattle.std.proofs.Common.{ap, not, sym, ◌∙◌}
use borrow.Author.Tests.{not-true, not-false}
use Rattle.clauses.proofs.OfRead.{reach}
use Rattle.clauses.proofs.OfClause.{outside}
use Rattle.clauses.proofs.alu_clause.Goals as goal

pub returns-then-not-slots_lie_in : goal.returns-then-not-slots_lie_in
returns-then-not-slots_lie_in c =
    let a = c.args in
    outside a.kind a.push_before a.limits a.words.now a.place a.start a.slots
    (sym c.slots_lie_in.ensures ∙ not-true _ (ap not c.if-not-slots_lie_in.true))

pub invariant_of-clause : goal.invariant_of-clause
invariant_of-clause c =
    let a = c.args in
    record { inside = reach a.words.now a.start a.slots (sym c.slots_lie_in.ensures ∙ not-false _ (ap not c.if-not-slots_lie_in.false)) }
