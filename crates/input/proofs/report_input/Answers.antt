-- `input::report_input` meets its contract: the report on what was judged, and what its release line tells. Assumes nothing.
use mathlib.Core.Path.{◌∙◌, ap, sym}
use Rattle.report.specs.Buffer.{written_of, buffer_after}
use Rattle.input.proofs.OfInput.{report_on_lem}
use Rattle.input.proofs.OfRelease.{release_told}
use Rattle.input.proofs.report_input.Goals as goal

pub returns : goal.returns
returns c =
    let a = c.args in
    let report = report_on_lem a.input.now c.judge_input.result c.judge_input.ensures in
    let result = c.report.ensures.value ∙ ap (λ bytes. written_of bytes a.out.now) report in
    let buffer = c.report.ensures.out_after ∙ ap (λ bytes. buffer_after bytes a.out.now) report in
    record { value = result; out_after = buffer; by_index = λ n e. release_told a.out.now _ n a.input.now (sym e ∙ result) buffer }
