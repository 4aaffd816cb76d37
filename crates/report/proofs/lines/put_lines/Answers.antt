-- `report::lines::put_lines` meets its contract: the lines passed stand at the start of the buffer. Assumes nothing.
use Rattle.report.proofs.OfLines.{all_put, line_room, line_put, putting_here, no_lines_left}
use Rattle.report.proofs.lines.put_lines.Goals as goal

pub put_line-at-requires : goal.put_line-at-requires
put_line-at-requires c =
    rw c.as_bytes.ensures.value (line_room (putting_here c.args.lines.now c.loop-key.key-index _ c.loop-key-test.true c.loop-key.invariant) c.requires)

pub loop-key-preserved : goal.loop-key-preserved
loop-key-preserved c =
    line_put (putting_here c.args.lines.now c.loop-key.key-index _ c.loop-key-test.true c.loop-key.invariant) c.put_line-at.auto.out
    (rw c.as_bytes.ensures.value at c.put_line-at.ensures)

pub returns : goal.returns
returns c = all_put (rw (no_lines_left c.args.lines.now c.loop-key.key-index c.loop-key-test.false) at c.loop-key.invariant)
