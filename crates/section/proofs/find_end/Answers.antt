-- `section::find_end` meets its contract: the end is the first one from here on. Assumes nothing.
use mathlib.Core.Path.{sym, ap, ◌∙◌}
use mathlib.Core.Bool.{true, false}
use Rattle.units.specs.Units.{quadwords}
use Rattle.section.specs.Control.{is_end}
use Rattle.section.proofs.OfEnd.{high_read, end_first, end-step, end_none}
use Rattle.section.proofs.find_end.Goals as goal

pub loop-p-init : goal.loop-p-init
loop-p-init c = end_first c.args.words.now _ c.searched_pairs-pairs.ensures

pub returns-then-is_end : goal.returns-then-is_end
returns-then-is_end c =
    let w = c.args.words.now in
    let high = high_read w _ _ _ c.searched_pairs-pairs.ensures c.loop-p-test.true c.high_word.ensures in
    let here = ap is_end (sym high) ∙ sym c.is_end.ensures ∙ c.if-is_end.true in
    ap quadwords (sym (end-step w c.loop-p.p _ true c.loop-p-test.true here) ∙ c.loop-p.invariant)

pub loop-p-preserved : goal.loop-p-preserved
loop-p-preserved c =
    let w = c.args.words.now in
    let high = high_read w _ _ _ c.searched_pairs-pairs.ensures c.loop-p-test.true c.high_word.ensures in
    let here = ap is_end (sym high) ∙ sym c.is_end.ensures ∙ c.if-is_end.false in
    sym (end-step w c.loop-p.p _ false c.loop-p-test.true here) ∙ c.loop-p.invariant

pub returns : goal.returns
returns c =
    ap quadwords (sym (end_none c.args.words.now _ _ c.loop-p.auto.p-end c.loop-p-test.false) ∙ c.loop-p.invariant)
