-- `apart::marks::first_unfit` meets its contract. The loop's invariant: all places passed are fit, and the marks are those of their clauses. Assumes
-- nothing.
use mathlib.Core.Path.{◌≡◌}
use lib.ListN.{length}
use Rattle.section.specs.Rules.{clause_at}
use Rattle.apart.proofs.OfMarks.{Searching}
use Rattle.apart.proofs.marks.first_unfit.Given as goal

abbrev pub invariant-loop-p : goal.invariant-loop-p
invariant-loop-p g l = Searching (clause_at l.words) l.pairs.0 l.limit.0 l.p l.marks × (length l.marks ≡ length l.initial.marks)
