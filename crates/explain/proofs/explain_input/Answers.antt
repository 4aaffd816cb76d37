-- `explain::explain_input` meets its contract: by what the card says; what stands behind the card is the pack. Assumes nothing.
use Rattle.laws.proofs.OfLists.{to_the_end}
use Rattle.input.proofs.OfInput.{taken-within}
use Rattle.explain.proofs.OfExplain.{input_whole, input_line}
use Rattle.explain.proofs.explain_input.Goals as goal

pub slice_bounds-explained-count : goal.slice_bounds-explained-count
slice_bounds-explained-count c = taken-within c.args.input.now c.read_card.ensures c.in-Ok.is

pub slice_bounds-explained-start : goal.slice_bounds-explained-start
slice_bounds-explained-start c = taken-within c.args.input.now c.read_card.ensures c.in-Ok.is

pub returns-in-Ok : goal.returns-in-Ok
returns-in-Ok c =
    let a = c.args in
    let both = input_whole a.input.now c.read_card.ensures c.judge_input-verdict.ensures c.in-Ok.is
    (to_the_end c.in-Ok.taken a.input.now) c.explained.ensures in
    record { value = both.0; explains_input = both.1 }

pub returns-in-Err : goal.returns-in-Err
returns-in-Err c =
    let a = c.args in
    let both = input_line a.input.now c.read_card.ensures c.judge_input-verdict.ensures c.in-Err.is c.plain.ensures in
    record { value = both.0; explains_input = both.1 }
