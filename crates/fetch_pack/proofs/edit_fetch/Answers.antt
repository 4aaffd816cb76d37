-- The words that are edited are the pack's.
use Rattle.std.proofs.Common.{◌≡◌, sym, ap, ◌∙◌, subst, Result, arith}
use Rattle.std.specs.Prelude.{⊤}
use Rattle.input.proofs.OfWords.{whole_loaded}
use Rattle.fetch_text.specs.declared.EditError.{EditError}
use Rattle.fetch_pack.specs.Pack.{on_words, PackPromised}
use Rattle.fetch_pack.proofs.OfPack.{is_pack, is_err, pack_told, pack_edited, pack_promised_lem}
use Rattle.fetch_pack.proofs.edit_fetch.Goals as goal

pub edit_words-requires-clause-words : goal.edit_words-requires-clause-words
edit_words-requires-clause-words c =
    let p = is_pack c.args.pack.now c.in_ok-test_length.was c.test_length.ensures in
    whole_loaded c.args.pack.now _ (omega (arith, p.short)) c.load-n.ensures.value c.load-n.ensures.words_after

pub returns-in_err-edit_words : goal.returns-in_err-edit_words
returns-in_err-edit_words c =
    let p = is_pack c.args.pack.now c.in_ok-test_length.was c.test_length.ensures in
    let e = c.edit_words.ensures in
    let told = is_err _ c.from_residual-in_err-edit_words.ensures.1 ∙ ap (λ (x : Result ⊤ EditError). on_words x) (sym c.in_err-edit_words.was) in
    record { value = told ∙ pack_told p e; pack_after = pack_edited p e; pack_promised = subst (PackPromised _ _ _ _ _) (sym told) (pack_promised_lem p e) }

pub returns : goal.returns
returns c =
    let p = is_pack c.args.pack.now c.in_ok-test_length.was c.test_length.ensures in
    let e = c.edit_words.ensures in
    let told = ap (λ (x : Result ⊤ EditError). on_words x) (sym c.in_ok-edit_words.was) in
    record { value = told ∙ pack_told p e; pack_after = pack_edited p e; pack_promised = subst (PackPromised _ _ _ _ _) (sym told) (pack_promised_lem p e) }
