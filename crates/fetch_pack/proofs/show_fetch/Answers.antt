-- The words that are shown are the pack's.
use Rattle.std.proofs.Common.{◌≡◌, sym, ap, ◌∙◌, ℕ, ◌/◌, ◌≤◌, Result, List, length, take, arith}
use Rattle.input.specs.Words.{words_in}
use Rattle.input.proofs.OfWords.{whole_loaded}
use Rattle.fetch_text.specs.declared.ShowError.{ShowError}
use Rattle.fetch_pack.specs.Pack.{on_words}
use Rattle.fetch_pack.proofs.OfPack.{is_pack, is_err, shown_told, shown_written}
use Rattle.fetch_pack.proofs.show_fetch.Goals as goal

pub returns-in_err-write_fetch-clause-value : goal.returns-in_err-write_fetch-clause-value
returns-in_err-write_fetch-clause-value c =
    let p = is_pack c.args.pack.now c.in_ok-test_length.was c.test_length.ensures in
    let loaded = whole_loaded c.args.pack.now _ (omega (arith, p.short)) c.load-n.ensures.value c.load-n.ensures.words_after in
    is_err _ c.from_residual-in_err-write_fetch.ensures.1
    ∙ ap (λ (x : Result ℕ ShowError). on_words x) (sym c.in_err-write_fetch.was)
    ∙ shown_told c.args.clause c.args.pack.now c.args.start c.args.out.now p loaded c.write_fetch.ensures.value c.write_fetch.ensures.out_after

pub returns-in_err-write_fetch-clause-out_after : goal.returns-in_err-write_fetch-clause-out_after
returns-in_err-write_fetch-clause-out_after c =
    let p = is_pack c.args.pack.now c.in_ok-test_length.was c.test_length.ensures in
    let loaded = whole_loaded c.args.pack.now _ (omega (arith, p.short)) c.load-n.ensures.value c.load-n.ensures.words_after in
    shown_written c.args.clause c.args.pack.now c.args.start c.args.out.now p loaded c.write_fetch.ensures.value c.write_fetch.ensures.out_after

pub returns-clause-value : goal.returns-clause-value
returns-clause-value c =
    let p = is_pack c.args.pack.now c.in_ok-test_length.was c.test_length.ensures in
    let loaded = whole_loaded c.args.pack.now _ (omega (arith, p.short)) c.load-n.ensures.value c.load-n.ensures.words_after in
    ap (λ (x : Result ℕ ShowError). on_words x) (sym c.in_ok-write_fetch.was)
    ∙ shown_told c.args.clause c.args.pack.now c.args.start c.args.out.now p loaded c.write_fetch.ensures.value c.write_fetch.ensures.out_after

pub returns-clause-out_after : goal.returns-clause-out_after
returns-clause-out_after c =
    let p = is_pack c.args.pack.now c.in_ok-test_length.was c.test_length.ensures in
    let loaded = whole_loaded c.args.pack.now _ (omega (arith, p.short)) c.load-n.ensures.value c.load-n.ensures.words_after in
    shown_written c.args.clause c.args.pack.now c.args.start c.args.out.now p loaded c.write_fetch.ensures.value c.write_fetch.ensures.out_after
