-- `section::find_end` meets its contract. The loop's invariant: the end is the first one from here on. Assumes nothing.
use mathlib.Core.Path.{◌≡◌}
use Prim.Native.Nat.{◌-◌}
use Rattle.section.specs.Control.{end_from, end_of}
use Rattle.section.proofs.find_end.Given as goal

abbrev pub invariant-loop-p : goal.invariant-loop-p
invariant-loop-p l = end_from l.words l.p (l.p-end - l.p) ≡ end_of l.words
