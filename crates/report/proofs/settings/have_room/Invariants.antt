-- `report::settings::have_room` meets its contract: the lines of what is left were not yet taken off the room. Assumes nothing.
use Rattle.std.specs.Iterator.Adapters.{zip_first, zip_second}
use Rattle.std.specs.Slice.Iter.{iter_rest}
use Rattle.report.proofs.OfLines.{Fitting}
use Rattle.report.proofs.OfSettings.{lines_for}
use Rattle.report.proofs.settings.have_room.Given as goal

abbrev pub invariant-loop-key : goal.invariant-loop-key
invariant-loop-key l =
    (goal.iterator-loop-key).can_next l.key-iterator
    × (goal.iterator-loop-key).is_finite l.key-iterator
    × Fitting (lines_for l.keys l.values) (lines_for (iter_rest (zip_first l.key-iterator)) (iter_rest (zip_second l.key-iterator))) l.room l.left
