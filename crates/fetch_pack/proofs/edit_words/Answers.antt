-- Nothing is stored, or the edited words are.
use Rattle.std.proofs.Common.{subst, sym, ◌∙◌, rules}
use Rattle.fetch_pack.specs.Code.{EditedIn}
use Rattle.fetch_pack.proofs.OfPack.{is_err, edit_refused, edit_stored}
use Rattle.fetch_pack.proofs.edit_words.Goals as goal

pub returns-in_err-edit_fetch : goal.returns-in_err-edit_fetch
returns-in_err-edit_fetch c =
    let a = c.args in
    let e = c.edit_fetch.ensures in
    subst (EditedIn _ _ _ _ _) (c.in_err-edit_fetch.was ∙ sym (is_err _ c.from_residual.ensures.1))
    (edit_refused a.clause a.pack.now a.settings.now a.start c.requires.words e.value e.words_after e.promised c.in_err-edit_fetch.was)

pub returns : goal.returns
returns c =
    let a = c.args in
    let e = c.edit_fetch.ensures in
    subst (EditedIn _ _ _ _ _) c.in_ok-edit_fetch.was
    (edit_stored a.clause a.pack.now a.settings.now a.start c.requires.words e.value e.words_after e.promised c.in_ok-edit_fetch.was c.requires.whole
    (λ k. (c.slice_known-3-1.given k).fits) (λ k. (c.slice_known-2-1.given k).fits) c.store.ensures)
