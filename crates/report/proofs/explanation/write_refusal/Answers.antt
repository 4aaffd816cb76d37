-- `report::explanation::write_refusal` meets its contract: the lines are those of the explanation. Assumes nothing.
use Rattle.std.proofs.Common.{◌∙◌, ap, List, ℕ}
use Rattle.report.specs.Buffer.{written_of, buffer_after}
use Rattle.report.proofs.OfExplanation.{refusal_made}
use Rattle.report.proofs.explanation.write_refusal.Goals as goal

pub returns-clause-value : goal.returns-clause-value
returns-clause-value c =
    c.write_lines.ensures.value
    ∙ ap (λ (bytes : List ℕ). written_of bytes c.args.out.now)
    (refusal_made c.args.refusal c.args.fault c.from.ensures c.rule_word.ensures c.numbers_of.ensures.found c.numbers_of.ensures.limit)

pub returns-clause-out_after : goal.returns-clause-out_after
returns-clause-out_after c =
    c.write_lines.ensures.out_after
    ∙ ap (λ (bytes : List ℕ). buffer_after bytes c.args.out.now)
    (refusal_made c.args.refusal c.args.fault c.from.ensures c.rule_word.ensures c.numbers_of.ensures.found c.numbers_of.ensures.limit)
