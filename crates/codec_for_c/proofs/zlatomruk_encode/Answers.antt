-- `codec_for_c::zlatomruk_encode` meets its contract: the first elements are encoded as all are. Assumes nothing.
use mathlib.Core.Path.{sym, ap, ◌∙◌, subst}
use mathlib.Core.List.{List}
use Prim.Native.Nat.{ℕ}
use Rattle.checks.specs.Verdict.{verdict_number}
use Rattle.microcode.specs.Pair.{stream_of}
use Rattle.microcode.specs.Buffer.{encoded_verdict}
use Rattle.codec_for_c.specs.Values.{encoded_from, encoded_words, record_of, stream_number, RowAgain}
use Rattle.codec_for_c.proofs.OfCodec.{first_from, first_words}
use Rattle.codec_for_c.proofs.OfValues.{words_round_trip}
use Rattle.codec_for_c.proofs.zlatomruk_encode.Goals as goal

pub returns-clause-value : goal.returns-clause-value
returns-clause-value c =
    let a = c.args in
    let first = c.in-Some.ensures.cases in
    c.number-2.ensures
    ∙ ap verdict_number
    (c.encoded_verdict-2.ensures
    ∙ ap encoded_verdict (c.encode_row.ensures.value ∙ ap (λ (row : List ℕ). encoded_from row a.words.now a.start) first.same ∙ first_from a.values.now a.words.now a.start first.enough))

pub returns-clause-words_after : goal.returns-clause-words_after
returns-clause-words_after c =
    let a = c.args in
    let first = c.in-Some.ensures.cases in
    c.encode_row.ensures.words_after ∙ ap (λ (row : List ℕ). encoded_words row a.words.now a.start) first.same ∙ first_words a.values.now a.words.now a.start first.enough

pub returns-clause-row_again : goal.returns-clause-row_again
returns-clause-row_again c =
    let a = c.args in
    let vs = a.values.now in
    λ h.
    subst (λ (m : List ℕ). RowAgain (stream_number (stream_of (record_of vs))) m a.start vs) (sym (returns-clause-words_after c))
    (words_round_trip a.words.now a.start vs (sym (returns-clause-value c) ∙ h))
