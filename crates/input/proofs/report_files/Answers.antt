-- `input::report_files` meets its contract: the report on what was judged, and what its release line tells. Assumes nothing.
use mathlib.Core.Path.{◌∙◌, ap, sym}
use Rattle.report.specs.Buffer.{written_of, buffer_after}
use Rattle.input.proofs.OfInput.{report_on_files, all_lines_report}
use Rattle.input.proofs.OfRelease.{files_told}
use Rattle.input.proofs.report_files.Goals as goal

pub returns : goal.returns
returns c =
    let a = c.args in
    let report = report_on_files a.text.now a.pack.now c.judge_files.result c.judge_files.ensures.value in
    let result = c.report.ensures.value ∙ ap (λ bytes. written_of bytes a.out.now) report in
    let buffer = c.report.ensures.out_after ∙ ap (λ bytes. buffer_after bytes a.out.now) report in
    record { value = result; out_after = buffer; by_index = λ n e. files_told a.out.now _ n a.text.now a.pack.now (sym e ∙ result) buffer; pack_value = all_lines_report a.text.now a.pack.now }
