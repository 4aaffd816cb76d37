-- `codec_for_c::zlatomruk_decode` meets its contract: what was found is put into the first elements. Assumes nothing.
use mathlib.Core.Path.{◌≡◌, sym, subst}
use mathlib.Core.List.{List, ◌++◌}
use Prim.Native.Nat.{ℕ}
use lib.ListN.{drop}
use Rattle.microcode.specs.Buffer.{record_found}
use Rattle.codec_for_c.specs.Values.{decoded_values, row_length, WordsAgain}
use Rattle.codec_for_c.proofs.OfCodec.{decoded_0, decoded_row}
use Rattle.codec_for_c.proofs.OfValues.{values_round_trip}
use Rattle.codec_for_c.proofs.zlatomruk_decode.Goals as goal

pub returns-clause-values_after : goal.returns-clause-values_after
returns-clause-values_after c =
    let a = c.args in
    let first = c.in-Some-first_chunk_mut.ensures.cases in
    decoded_row a.stream a.words.now a.start a.values.now c.in-Some.stream (record_found c.in-Ok.found) first.enough (sym c.in-Some.ensures)
    c.in-Ok.ensures first.same c.put_found.ensures

pub returns-clause-words_again : goal.returns-clause-words_again
returns-clause-words_again c =
    let a = c.args in
    let first = c.in-Some-first_chunk_mut.ensures.cases in
    let i = record_found c.in-Ok.found in
    let number = decoded_0 a.stream a.words.now a.start a.values.now c.in-Some.stream i first.enough (sym c.in-Some.ensures) c.in-Ok.ensures in
    let after : c.put_found.new.row ++ drop row_length a.values.now ≡ decoded_values a.stream a.words.now a.start a.values.now =
    decoded_row a.stream a.words.now a.start a.values.now c.in-Some.stream i first.enough (sym c.in-Some.ensures) c.in-Ok.ensures first.same c.put_found.ensures in
    λ h.
    subst (λ (m : List ℕ). WordsAgain m a.words.now a.start) (sym after)
    (values_round_trip a.words.now a.start a.values.now (λ k. (c.type_inv.words k).fits) a.stream (sym number))
