-- A line more is put into the row, or it is wrong.
use Rattle.fetch_text.proofs.OfEdits.{some_left, none_left, all_put, line_wrong, line_put, line_shorter}
use Rattle.fetch_text.proofs.rows.edit_row.Goals as goal

pub returns-in-Err : goal.returns-in-Err
returns-in-Err c =
    line_wrong c.loop-rest.invariant (some_left _ c.is_empty.ensures c.loop-rest-test.true) c.split_line.ensures.line c.split_line.ensures.behind c.set_line.ensures c.in-Err.is

pub loop-rest-smaller : goal.loop-rest-smaller
loop-rest-smaller c = line_shorter _ (some_left _ c.is_empty.ensures c.loop-rest-test.true) c.split_line.ensures.behind

pub loop-rest-preserved : goal.loop-rest-preserved
loop-rest-preserved c =
    line_put c.loop-rest.invariant (some_left _ c.is_empty.ensures c.loop-rest-test.true) c.split_line.ensures.line c.split_line.ensures.behind c.set_line.ensures c.in_default.is

pub returns : goal.returns
returns c = all_put c.loop-rest.invariant (none_left _ c.is_empty.ensures c.loop-rest-test.false)
