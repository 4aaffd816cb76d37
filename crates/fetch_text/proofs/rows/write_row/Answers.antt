-- The lines of the row are the text of its fetch.
use Rattle.std.proofs.Common.{ap, ◌∙◌, List, ℕ}
use Rattle.report.specs.Buffer.{written_of, buffer_after}
use Rattle.fetch_text.proofs.OfRows.{row_text}
use Rattle.fetch_text.proofs.rows.write_row.Goals as goal

pub returns-clause-value : goal.returns-clause-value
returns-clause-value c = c.write_settings.ensures.value ∙ ap (λ (t : List ℕ). written_of t c.args.out.now) (row_text c.args.row.now c.requires c.row_keys.ensures)

pub returns-clause-out_after : goal.returns-clause-out_after
returns-clause-out_after c = c.write_settings.ensures.out_after ∙ ap (λ (t : List ℕ). buffer_after t c.args.out.now) (row_text c.args.row.now c.requires c.row_keys.ensures)
