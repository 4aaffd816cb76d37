-- `report::explanation::write_explanation` meets its contract: one line for an accepted pack. Assumes nothing.
use Rattle.std.proofs.Common.{◌∙◌, ap, List, ℕ}
use Rattle.report.specs.Buffer.{written_of, buffer_after}
use Rattle.report.proofs.OfExplanation.{accepted_made}
use Rattle.report.proofs.explanation.write_explanation.Goals as goal

pub returns-in-Ok-clause-value : goal.returns-in-Ok-clause-value
returns-in-Ok-clause-value c =
    c.write_lines.ensures.value ∙ ap (λ (bytes : List ℕ). written_of bytes c.args.out.now) (accepted_made c.args.explanation c.in-Ok.is)

pub returns-in-Ok-clause-out_after : goal.returns-in-Ok-clause-out_after
returns-in-Ok-clause-out_after c =
    c.write_lines.ensures.out_after ∙ ap (λ (bytes : List ℕ). buffer_after bytes c.args.out.now) (accepted_made c.args.explanation c.in-Ok.is)
