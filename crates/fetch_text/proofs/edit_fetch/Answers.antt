-- There is a fetch or not, and a setting is wrong or none.
use Rattle.std.proofs.Common.{sym, subst}
use Rattle.fetch_text.specs.Edit.{Promised}
use Rattle.fetch_text.proofs.OfPromises.{row_wrong, row_done, is_err}
use Rattle.fetch_text.proofs.edit_fetch.Goals as goal

pub returns-in_err-edit_row-clause-promised : goal.returns-in_err-edit_row-clause-promised
returns-in_err-edit_row-clause-promised c =
    let a = c.args in
    let kept = row_wrong a.clause a.words.now a.start a.settings.now c.read_row.ensures c.in_ok-row.was c.edit_row.ensures c.in_err-edit_row.was in
    subst (Promised _ _ _ _ _) (sym (is_err _ c.from_residual-in_err-edit_row.ensures.1)) kept.promised

pub returns-clause-words_after : goal.returns-clause-words_after
returns-clause-words_after c =
    let a = c.args in
    (row_done a.clause a.words.now a.start a.settings.now c.read_row.ensures c.in_ok-row.was c.edit_row.ensures c.in_ok-edit_row.was c.encode_fetch_row.ensures.words_after).words_after

pub returns-clause-promised : goal.returns-clause-promised
returns-clause-promised c =
    let a = c.args in
    (row_done a.clause a.words.now a.start a.settings.now c.read_row.ensures c.in_ok-row.was c.edit_row.ensures c.in_ok-edit_row.was c.encode_fetch_row.ensures.words_after).promised
