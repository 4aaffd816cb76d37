-- `input::verdict_in_range` meets its contract: by the length. Assumes nothing.
use Rattle.std.proofs.Common.{ap, not, Err}
use Rattle.input.proofs.OfInput.{bad-length, few_words, judged-verdict}
use Rattle.input.proofs.verdict_in_range.Goals as goal

pub returns-then-not-is_right_length : goal.returns-then-not-is_right_length
returns-then-not-is_right_length c =
    bad-length c.args.card c.args.pack.now c.requires c.is_right_length.ensures (ap not c.if-not-is_right_length.true) (ap Err c.of_place.ensures)

pub judge_words-requires : goal.judge_words-requires
judge_words-requires c =
    few_words c.args.card c.args.pack.now c.requires c.is_right_length.ensures (ap not c.if-not-is_right_length.false)

pub returns : goal.returns
returns c =
    judged-verdict c.args.card c.args.pack.now c.requires c.is_right_length.ensures (ap not c.if-not-is_right_length.false)
    c.judge_words.ensures
