-- `apart::marks::has_clash` meets its contract. The loop's invariant: the quadwords passed were free and are marked. Assumes nothing.
use Rattle.apart.proofs.OfMarks.{Filling}
use Rattle.apart.proofs.marks.has_clash.Given as goal

abbrev pub invariant-loop-mark : goal.invariant-loop-mark
invariant-loop-mark l = Filling l.initial.marks l.marks l.mark-index
