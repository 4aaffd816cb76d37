-- `report::settings::put_settings` meets its contract: the lines of what is left do not stand in the buffer yet. Assumes nothing.
use Rattle.std.proofs.Common.{ap, length, arith}
use Rattle.std.specs.Iterator.Adapters.{zip_first, zip_second}
use Rattle.std.specs.Slice.Iter.{iter_rest}
use mathlib.Core.Logic.{inl, inr, ⊎_elim}
use Rattle.report.proofs.OfLines.{all_put, line_room, line_put}
use Rattle.report.proofs.OfSettings.{settings_lines, lines_next, lines_end}
use Rattle.report.proofs.settings.put_settings.Goals as goal

pub put_line-at-requires : goal.put_line-at-requires
put_line-at-requires c =
    let w = rw (lines_next c.in-Some.ensures.steps) at c.loop-key.invariant.2 in
    line_room w (omega (arith, ap length (settings_lines c.args.keys.now c.args.values.now)))

pub loop-key-preserved : goal.loop-key-preserved
loop-key-preserved c =
    let w = rw (lines_next c.in-Some.ensures.steps) at c.loop-key.invariant.2 in
    ((tt, tt), tt, line_put w c.put_line-at.auto.out c.put_line-at.ensures)

pub returns : goal.returns
returns c =
    rw (settings_lines c.args.keys.now c.args.values.now)
    (all_put (rw (lines_end (iter_rest (zip_first c.loop-key.key-iterator)) (iter_rest (zip_second c.loop-key.key-iterator))
    (⊎_elim (λ e. inl (omega (arith, e.1.0))) (λ e. inr (omega (arith, e.1.0))) c.in-None.ensures.steps)) at c.loop-key.invariant.2))
