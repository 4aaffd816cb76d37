-- `codec_for_c::zlatomruk_decode_fetch` meets its contract: what was found is put into the first elements. Assumes nothing.
use mathlib.Core.Path.{◌≡◌, sym, subst}
use mathlib.Core.List.{List, ◌++◌}
use Prim.Native.Nat.{ℕ}
use lib.ListN.{drop}
use Rattle.fetch_codec.specs.Buffer.{record_found}
use Rattle.codec_for_c.specs.Values.{row_length}
use Rattle.codec_for_c.specs.FetchValues.{fetch_row, FetchWordsAgain}
use Rattle.codec_for_c.proofs.OfFetchCodec.{decoded_0, decoded_row}
use Rattle.codec_for_c.proofs.OfFetches.{values_round_trip}
use Rattle.codec_for_c.proofs.zlatomruk_decode_fetch.Goals as goal

pub returns-clause-values_after : goal.returns-clause-values_after
returns-clause-values_after c =
    let a = c.args in
    let first = c.in-Some-first_chunk_mut.ensures.cases in
    decoded_row a.kind a.words.now a.start a.values.now c.in-Some.clause (record_found c.in-Ok.found) first.enough (sym c.in-Some.ensures)
    c.in-Ok.ensures.result_value first.same c.put_found.ensures

pub returns-clause-fetch_words_again : goal.returns-clause-fetch_words_again
returns-clause-fetch_words_again c =
    let a = c.args in
    let first = c.in-Some-first_chunk_mut.ensures.cases in
    let f = record_found c.in-Ok.found in
    let number = decoded_0 a.kind a.words.now a.start a.values.now c.in-Some.clause f first.enough (sym c.in-Some.ensures) c.in-Ok.ensures.result_value in
    let after : c.put_found.new.row ++ drop row_length a.values.now ≡ fetch_row a.kind a.words.now a.start a.values.now =
    decoded_row a.kind a.words.now a.start a.values.now c.in-Some.clause f first.enough (sym c.in-Some.ensures) c.in-Ok.ensures.result_value first.same c.put_found.ensures in
    λ h.
    subst (λ (m : List ℕ). FetchWordsAgain m a.words.now a.start) (sym after)
    (values_round_trip a.words.now a.start a.values.now (λ k. (c.type_inv.words k).fits) a.kind (sym number))
