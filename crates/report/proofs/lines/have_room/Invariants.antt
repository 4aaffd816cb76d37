-- `report::lines::have_room` meets its contract: the lines passed were taken off the room. Assumes nothing.
use Rattle.std.proofs.Common.{drop}
use Rattle.report.specs.Code.{text_lines}
use Rattle.report.proofs.OfLines.{Fitting}
use Rattle.report.proofs.lines.have_room.Given as goal

abbrev pub invariant-loop-key : goal.invariant-loop-key
invariant-loop-key l = Fitting (text_lines l.lines) (text_lines (drop l.key-index l.lines)) l.room l.left
