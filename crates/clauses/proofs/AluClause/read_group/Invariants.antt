-- `clauses::AluClause::read_group` meets its contract. The loop's invariant: so many instructions are read, none of them the last. Assumes
-- nothing.
use Rattle.units.specs.Units.{slot_quadword, slots_left}
use Rattle.clauses.proofs.OfRead.{Reading}
use Rattle.clauses.proofs.AluClause.read_group.Given as goal

abbrev pub invariant-loop-j : goal.invariant-loop-j
invariant-loop-j l =
    Reading l.self.words.now (slot_quadword l.self.start l.fn.first) (slots_left l.self.slots l.fn.first) l.self.limits l.first_high l.seen l.j
