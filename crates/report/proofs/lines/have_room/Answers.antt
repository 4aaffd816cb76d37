-- `report::lines::have_room` meets its contract: the lines passed were taken off the room. Assumes nothing.
use Rattle.std.proofs.Common.{sym}
use Rattle.report.proofs.OfLines.{all_taken, line_too_long, line_taken, too_long, left_over, fitting_here, no_lines_left}
use Rattle.report.proofs.lines.have_room.Goals as goal

pub returns-in_default : goal.returns-in_default
returns-in_default c =
    line_too_long (fitting_here c.args.lines.now c.loop-key.key-index _ c.loop-key-test.true c.loop-key.invariant) (too_long _ _ (rw c.as_bytes.ensures.value at c.in_default.ensures))

pub loop-key-preserved : goal.loop-key-preserved
loop-key-preserved c =
    let l = left_over _ _ (rw c.as_bytes.ensures.value at c.in-Some.ensures) in
    rw (sym l.1) (line_taken (fitting_here c.args.lines.now c.loop-key.key-index _ c.loop-key-test.true c.loop-key.invariant) l.0)

pub returns : goal.returns
returns c = all_taken (rw (no_lines_left c.args.lines.now c.loop-key.key-index c.loop-key-test.false) at c.loop-key.invariant)
