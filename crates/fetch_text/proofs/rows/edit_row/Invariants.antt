-- The lines before the rest of the text are put into the row.
use Rattle.std.proofs.Common.{length}
use Rattle.fetch_text.proofs.OfEdits.{Editing}
use Rattle.fetch_text.proofs.rows.edit_row.Given as goal

abbrev pub invariant-loop-rest : goal.invariant-loop-rest
invariant-loop-rest l = Editing l.text l.initial.row l.row l.rest

abbrev pub decreases-loop-rest : goal.decreases-loop-rest
decreases-loop-rest l = length l.rest
