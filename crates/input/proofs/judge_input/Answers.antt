-- `input::judge_input` meets its contract: by the card's answer; what stands behind the card is the pack. Assumes nothing.
use Rattle.laws.proofs.OfLists.{to_the_end}
use Rattle.input.proofs.OfInput.{bad-line-answer, taken-within, read-in-range, whole-answer}
use Rattle.input.proofs.judge_input.Goals as goal

pub slice_bounds-judged_by-count : goal.slice_bounds-judged_by-count
slice_bounds-judged_by-count c = taken-within c.args.input.now c.read_card.ensures c.in-Ok.is

pub slice_bounds-judged_by-start : goal.slice_bounds-judged_by-start
slice_bounds-judged_by-start c = taken-within c.args.input.now c.read_card.ensures c.in-Ok.is

pub judged_by-requires : goal.judged_by-requires
judged_by-requires c = read-in-range c.args.input.now c.read_card.ensures c.in-Ok.is

pub returns-in-Ok : goal.returns-in-Ok
returns-in-Ok c =
    let a = c.args in
    whole-answer a.input.now c.read_card.ensures c.in-Ok.is (to_the_end c.in-Ok.taken a.input.now) c.judged_by.ensures

pub returns-in-Err : goal.returns-in-Err
returns-in-Err c = bad-line-answer c.args.input.now c.read_card.ensures c.in-Err.is c.without_card.ensures
