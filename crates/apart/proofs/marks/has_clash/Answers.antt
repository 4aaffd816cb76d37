-- `apart::marks::has_clash` meets its contract. Assumes nothing.
use borrow.Author.Rules.{rules}
use Rattle.apart.specs.Code.{again, clashes}
use Rattle.apart.proofs.OfMarks.{filling_none, filling-next, filling-clash, filling-all}
use Rattle.apart.proofs.marks.has_clash.Goals as goal

pub returns-then-marks-first : goal.returns-then-marks-first
returns-then-marks-first c = again (search rules)

pub loop-mark-init : goal.loop-mark-init
loop-mark-init c = filling_none c.args.marks.now

pub returns-then-mark-ne0 : goal.returns-then-mark-ne0
returns-then-mark-ne0 c =
    clashes (filling-clash _ _ _ c.loop-mark.invariant c.loop-mark-test.true c.if-mark-ne0.true) c.if-marks-first.false

pub loop-mark-preserved : goal.loop-mark-preserved
loop-mark-preserved c = filling-next _ _ _ c.loop-mark.invariant c.loop-mark-test.true c.if-mark-ne0.false

pub returns : goal.returns
returns c = filling-all _ _ _ c.loop-mark.invariant c.loop-mark.auto.mark-index-end c.loop-mark-test.false
