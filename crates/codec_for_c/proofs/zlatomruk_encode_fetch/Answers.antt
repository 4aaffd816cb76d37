-- `codec_for_c::zlatomruk_encode_fetch` meets its contract: the first elements are encoded as all are. Assumes nothing.
use mathlib.Core.Path.{sym, ap, ◌∙◌, subst}
use mathlib.Core.List.{List}
use Prim.Native.Nat.{ℕ}
use Rattle.checks.specs.Verdict.{verdict_number}
use Rattle.microcode.specs.Buffer.{encoded_verdict}
use Rattle.codec_for_c.specs.FetchValues.{clause_number, fetch_from, fetch_words, FetchRowAgain}
use Rattle.codec_for_c.proofs.OfFetchCodec.{first_from, first_words}
use Rattle.codec_for_c.proofs.OfFetches.{words_round_trip}
use Rattle.codec_for_c.proofs.zlatomruk_encode_fetch.Goals as goal

pub returns-clause-value : goal.returns-clause-value
returns-clause-value c =
    let a = c.args in
    let first = c.in-Some.ensures.cases in
    c.number-2.ensures
    ∙ ap verdict_number
    (c.encoded_verdict-2.ensures
    ∙ ap encoded_verdict (c.encode_fetch_row.ensures.value ∙ ap (λ (row : List ℕ). fetch_from row a.words.now a.start) first.same ∙ first_from a.values.now a.words.now a.start first.enough))

pub returns-clause-words_after : goal.returns-clause-words_after
returns-clause-words_after c =
    let a = c.args in
    let first = c.in-Some.ensures.cases in
    c.encode_fetch_row.ensures.words_after ∙ ap (λ (row : List ℕ). fetch_words row a.words.now a.start) first.same ∙ first_words a.values.now a.words.now a.start first.enough

pub returns-clause-fetch_row_again : goal.returns-clause-fetch_row_again
returns-clause-fetch_row_again c =
    let a = c.args in
    let vs = a.values.now in
    λ h clause kind.
    subst (λ (m : List ℕ). FetchRowAgain (clause_number clause) m a.start vs) (sym (returns-clause-words_after c))
    (words_round_trip a.words.now a.start vs clause kind (sym (returns-clause-value c) ∙ h))
