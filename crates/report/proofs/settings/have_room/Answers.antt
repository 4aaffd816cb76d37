-- `report::settings::have_room` meets its contract: the lines of what is left were not yet taken off the room. Assumes nothing.
use Rattle.std.proofs.Common.{sym, arith}
use Rattle.std.specs.Iterator.Adapters.{zip_first, zip_second}
use Rattle.std.specs.Slice.Iter.{iter_rest}
use mathlib.Core.Logic.{inl, inr, ⊎_elim}
use Rattle.report.proofs.OfLines.{all_taken, line_too_long, line_taken, too_long, left_over}
use Rattle.report.proofs.OfSettings.{settings_lines, lines_next, lines_end}
use Rattle.report.proofs.settings.have_room.Goals as goal

pub returns-in_default : goal.returns-in_default
returns-in_default c =
    let w = rw (lines_next c.in-Some.ensures.steps) at c.loop-key.invariant.2 in
    rw (settings_lines c.args.keys.now c.args.values.now) (line_too_long w (too_long _ _ c.in_default.ensures))

pub loop-key-preserved : goal.loop-key-preserved
loop-key-preserved c =
    let w = rw (lines_next c.in-Some.ensures.steps) at c.loop-key.invariant.2 in
    let l = left_over _ _ c.in-Some-room_behind.ensures in
    ((tt, tt), tt, rw (sym l.1) (line_taken w l.0))

pub returns : goal.returns
returns c =
    rw (settings_lines c.args.keys.now c.args.values.now)
    (all_taken (rw (lines_end (iter_rest (zip_first c.loop-key.key-iterator)) (iter_rest (zip_second c.loop-key.key-iterator))
    (⊎_elim (λ e. inl (omega (arith, e.1.0))) (λ e. inr (omega (arith, e.1.0))) c.in-None.ensures.steps)) at c.loop-key.invariant.2))
