-- `files_for_c::zlatomruk_judge_files` meets its contract, from what it calls. Assumes nothing.
use mathlib.Core.Path.{ap, ◌∙◌}
use mathlib.Core.Bool.{Bool, cond}
use Rattle.judge_for_c.specs.Packed.{packed}
use Rattle.files_for_c.specs.Files.{packed_answer}
use Rattle.files_for_c.proofs.OfReleased.{bit_made, files_read}
use Rattle.files_for_c.proofs.zlatomruk_judge_files.Goals as goal

pub returns : goal.returns
returns c =
    let args = c.args in
    let number =
    c.packed_number.ensures
    ∙ ap (packed c.judge_files-judged.result.verdict) (c.from.ensures ∙ bit_made _ ∙ ap (λ (x : Bool). cond x 1 0) c.is_released-released.ensures)
    ∙ ap packed_answer c.judge_files-judged.ensures.value in
    record { value = number; files_read = files_read args.card.now args.pack.now _ number }
