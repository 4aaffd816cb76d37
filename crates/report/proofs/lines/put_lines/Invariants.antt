-- `report::lines::put_lines` meets its contract: the lines passed stand at the start of the buffer. Assumes nothing.
use Rattle.std.proofs.Common.{drop}
use Rattle.report.specs.Code.{text_lines}
use Rattle.report.proofs.OfLines.{Putting}
use Rattle.report.proofs.lines.put_lines.Given as goal

abbrev pub invariant-loop-key : goal.invariant-loop-key
invariant-loop-key l = Putting (text_lines l.lines) (text_lines (drop l.key-index l.lines)) l.fn.out l.out l.at
