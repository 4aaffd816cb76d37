-- So many bytes as the answer says are in the buffer.
use Rattle.std.proofs.Common.{sym, arith, length-take-le}
use Rattle.report.proofs.OfBuffer.{written_within}
use Rattle.test_reports.proofs.print.Goals as goal

pub slice_bounds-write_all-end : goal.slice_bounds-write_all-end
slice_bounds-write_all-end g c = omega (arith, written_within _ _ _ c.in-Ok.ensures.value)

pub slice_bounds-write_all-end-in-Ok : goal.slice_bounds-write_all-end-in-Ok
slice_bounds-write_all-end-in-Ok g c = sym (length-take-le _ _ (omega (arith, written_within _ _ _ c.in-Ok.ensures.value)))
