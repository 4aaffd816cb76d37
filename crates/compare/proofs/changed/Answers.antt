-- `compare::changed` meets its contract: the two counts are those of the definition, and the part starts so many words of four bytes
-- behind the newer's first. Assumes nothing.
use mathlib.Core.Path.{◌∙◌}
use Rattle.compare.proofs.OfChanged.{counted, counted_back, part_words, part_place}
use Rattle.compare.proofs.changed.Goals as goal

pub returns : goal.returns
returns c =
    let beginning = c.common_beginning-start.ensures.value ∙ counted _ _ in
    record {
      result_value = part_words _ _ _ _ beginning (c.common_ending-ending.ensures.value ∙ counted_back _ _);
      ref_ptr_value = part_place c.args.newer _ _ beginning;
    }
