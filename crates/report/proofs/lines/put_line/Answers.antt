-- `report::lines::put_line` meets its contract: one part behind the other. Assumes nothing.
use Rattle.report.proofs.OfBuffer.{both_appended}
use Rattle.report.proofs.lines.put_line.Goals as goal

pub returns : goal.returns
returns c = both_appended c.put-at_value.ensures (both_appended c.put_value-at_feed.ensures c.put.ensures)
