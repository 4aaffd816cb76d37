-- `report::write_report` meets its contract: the lines are those of the report. Assumes nothing.
use Rattle.std.proofs.Common.{◌∙◌, ap, List, ℕ}
use Rattle.report.specs.Report.{build_text, yes_or_no}
use Rattle.report.specs.Buffer.{written_of, buffer_after}
use Rattle.report.proofs.OfReport.{report_made}
use Rattle.report.proofs.write_report.Goals as goal

pub returns-clause-value : goal.returns-clause-value
returns-clause-value c =
    c.write_lines.ensures.value
    ∙ ap (λ (bytes : List ℕ). written_of bytes c.args.out.now)
    (report_made c.args.build c.args.verdict (c.build_word.ensures ∙ ap build_text c.shown_build.ensures)
    c.verdict_number.ensures c.verdict_place.ensures c.verdict_slot.ensures (c.yes_or_no.ensures ∙ ap yes_or_no c.is_released.ensures))

pub returns-clause-out_after : goal.returns-clause-out_after
returns-clause-out_after c =
    c.write_lines.ensures.out_after
    ∙ ap (λ (bytes : List ℕ). buffer_after bytes c.args.out.now)
    (report_made c.args.build c.args.verdict (c.build_word.ensures ∙ ap build_text c.shown_build.ensures)
    c.verdict_number.ensures c.verdict_place.ensures c.verdict_slot.ensures (c.yes_or_no.ensures ∙ ap yes_or_no c.is_released.ensures))
