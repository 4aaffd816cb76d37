-- The keys are those of the tables of the row's form.
use Rattle.std.proofs.Common.{refl, sym, ◌∙◌}
use Rattle.formats.specs.Tex as tex
use Rattle.formats.specs.Vtx as vtx
use Rattle.codec_for_c.specs.FetchValues.{fetch_in}
use Rattle.fetch_text.proofs.OfForms.{tex_keys, gpr_keys, sem_keys}
use Rattle.fetch_text.proofs.OfRows.{form_of_row}
use Rattle.fetch_text.proofs.rows.row_keys.Goals as goal

pub returns-then-form-eq5 : goal.returns-then-form-eq5
unfolding tex.word0_fields tex.word1_fields tex.word2_fields
returns-then-form-eq5 c =
    let row = c.args.row.now in
    tex_keys refl (fetch_in row) (sym (form_of_row row c.requires.is_a_fetch) ∙ c.if-form-eq5.true)

pub returns-then-form-eq6 : goal.returns-then-form-eq6
unfolding vtx.word0_fields vtx.gpr_fields vtx.word2_fields
returns-then-form-eq6 c =
    let row = c.args.row.now in
    gpr_keys refl (fetch_in row) (sym (form_of_row row c.requires.is_a_fetch) ∙ c.if-form-eq6.true)

pub returns-else-form-eq6 : goal.returns-else-form-eq6
unfolding vtx.word0_fields vtx.sem_fields vtx.word2_fields
returns-else-form-eq6 c =
    let row = c.args.row.now in
    let form_is = form_of_row row c.requires.is_a_fetch in
    sem_keys refl (fetch_in row) (λ e. c.if-form-eq5.false (form_is ∙ e)) (λ e. c.if-form-eq6.false (form_is ∙ e))
