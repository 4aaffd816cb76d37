-- `codec_for_c::fetch_rows::encode_fetch_row` meets its contract: the form picks the case. Assumes nothing.
use mathlib.Core.Bool.{not, ◌&&◌}
use native.Mathlib.Omega.{arith}
use Rattle.fetch_codec.specs.Fetch.{fields_fit, word0_of, word1_of, word2_of, words_if}
use Rattle.codec_for_c.specs.FetchValues.{tex_in, vtx_gpr_in, vtx_sem_in}
use Rattle.codec_for_c.proofs.OfFetchCodec.{encoded_answer, encoded_after, form_5, form_6, form_7}
use Rattle.codec_for_c.proofs.fetch_rows.encode_fetch_row.Goals as goal

pub returns-in-5-clause-value : goal.returns-in-5-clause-value
returns-in-5-clause-value c =
    let row = c.args.row.now in
    let f = tex_in row in
    encoded_answer row c.args.words.now c.args.start f (omega arith) (omega arith) (omega arith) (form_5 row c.in-5.is)
    (λ i. words_if (fields_fit f && (c.fetch_taken-taken.ensures i)) (word0_of f) (word1_of f) (word2_of f)) c.encode_three.ensures.value

pub returns-in-5-clause-words_after : goal.returns-in-5-clause-words_after
returns-in-5-clause-words_after c =
    let row = c.args.row.now in
    let f = tex_in row in
    encoded_after row c.args.words.now c.args.start f (omega arith) (omega arith) (omega arith) (form_5 row c.in-5.is)
    (λ i. words_if (fields_fit f && (c.fetch_taken-taken.ensures i)) (word0_of f) (word1_of f) (word2_of f)) c.encode_three.ensures.words_after

pub returns-in-6-clause-value : goal.returns-in-6-clause-value
returns-in-6-clause-value c =
    let row = c.args.row.now in
    let f = vtx_gpr_in row in
    encoded_answer row c.args.words.now c.args.start f (omega arith) (omega arith) (omega arith) (form_6 row c.in-6.is)
    (λ i. words_if (fields_fit f && (c.fetch_taken-taken-in-6.ensures i && not (c.is_semantic-semantic.ensures i))) (word0_of f) (word1_of f) (word2_of f)) c.encode_three-in-6.ensures.value

pub returns-in-6-clause-words_after : goal.returns-in-6-clause-words_after
returns-in-6-clause-words_after c =
    let row = c.args.row.now in
    let f = vtx_gpr_in row in
    encoded_after row c.args.words.now c.args.start f (omega arith) (omega arith) (omega arith) (form_6 row c.in-6.is)
    (λ i. words_if (fields_fit f && (c.fetch_taken-taken-in-6.ensures i && not (c.is_semantic-semantic.ensures i))) (word0_of f) (word1_of f) (word2_of f)) c.encode_three-in-6.ensures.words_after

pub returns-in-7-clause-value : goal.returns-in-7-clause-value
returns-in-7-clause-value c =
    let row = c.args.row.now in
    let f = vtx_sem_in row in
    encoded_answer row c.args.words.now c.args.start f (omega arith) (omega arith) (omega arith) (form_7 row c.in-7.is)
    (λ i. words_if (fields_fit f && (c.fetch_taken-taken-in-7.ensures i && c.is_semantic-semantic-in-7.ensures i)) (word0_of f) (word1_of f) (word2_of f)) c.encode_three-in-7.ensures.value

pub returns-in-7-clause-words_after : goal.returns-in-7-clause-words_after
returns-in-7-clause-words_after c =
    let row = c.args.row.now in
    let f = vtx_sem_in row in
    encoded_after row c.args.words.now c.args.start f (omega arith) (omega arith) (omega arith) (form_7 row c.in-7.is)
    (λ i. words_if (fields_fit f && (c.fetch_taken-taken-in-7.ensures i && c.is_semantic-semantic-in-7.ensures i)) (word0_of f) (word1_of f) (word2_of f)) c.encode_three-in-7.ensures.words_after
