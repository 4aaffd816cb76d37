-- The codec for fetches with rows of values: a fetch as a row of values of 32 bits, and what the functions on rows and those for C answer and leave
-- in what is lent to them. All go by the decoder and the encoder of crate fetch_codec: document 02, request 2.
use Rattle.std.specs.Prelude.{ℕ, ◌≡◌, Bool, cond, ◌&&◌, List, ◌∷◌, ◌++◌, eqb, leb, Option, Some, None, Ok, Err}
use Rattle.units.specs.Units.{words}
use Rattle.checks.specs.Verdict.{Verdict, verdict_number}
use Rattle.formats.specs.Tex as tex
use Rattle.formats.specs.Vtx as vtx
use Rattle.microcode.specs.declared.EncodeError.TheVariants.{NoRecord}
use Rattle.microcode.specs.Answer.{Encoded}
use Rattle.microcode.specs.Buffer.{encoded_verdict}
use Rattle.fetch_codec.specs.declared.Fetch.{Fetch}
use Rattle.fetch_codec.specs.declared.Fetch.TheVariants.{Tex, VtxGpr, VtxSem}
use Rattle.fetch_codec.specs.declared.Clause.{Clause}
use Rattle.fetch_codec.specs.declared.Clause.TheVariants as clause
use Rattle.fetch_codec.specs.Buffer.{Decoded, decode_of, decoded_verdict, encode_answer, encode_words}
use Rattle.codec_for_c.specs.Values.{form_of, roomy, row_answer, written}

-- ---- a fetch as values: the form, then the fields of word 0, of word 1 and of word 2, each in AMD's order from the lowest bit up. The forms
-- go on where those of the pairs end, so that neither encoder takes a row of the other's

-- the forms are 5, a texture fetch, the longest with 30 values, 6, a vertex fetch that names its destination register, and 7, one with a semantic id
abbrev pub fetch_values : Fetch → List ℕ
fetch_values (Tex a b c) = 5 ∷ tex.word0_values a ++ tex.word1_values b ++ tex.word2_values c
fetch_values (VtxGpr a b c) = 6 ∷ vtx.word0_values a ++ vtx.gpr_values b ++ vtx.word2_values c
fetch_values (VtxSem a b c) = 7 ∷ vtx.word0_values a ++ vtx.sem_values b ++ vtx.word2_values c

-- ---- values as a fetch: each field where `fetch_values` has it (`fetch_of_values`, proofs/OfFetches.antt)

abbrev pub tex_in : List ℕ → Fetch
tex_in vs = Tex (tex.word0_at 1 vs) (tex.word1_at 10 vs) (tex.word2_at 22 vs)

abbrev pub vtx_gpr_in : List ℕ → Fetch
vtx_gpr_in vs = VtxGpr (vtx.word0_at 1 vs) (vtx.gpr_at 9 vs) (vtx.word2_at 21 vs)

abbrev pub vtx_sem_in : List ℕ → Fetch
vtx_sem_in vs = VtxSem (vtx.word0_at 1 vs) (vtx.sem_at 9 vs) (vtx.word2_at 20 vs)

-- by the form; that it is from 5 to 7 is asked by `is_fetch`
unfoldable pub fetch_in : List ℕ → Fetch
fetch_in vs = cond (eqb (form_of vs) 5) (tex_in vs) (cond (eqb (form_of vs) 6) (vtx_gpr_in vs) (vtx_sem_in vs))

abbrev pub is_fetch : List ℕ → Bool
is_fetch vs = roomy vs && (leb 5 (form_of vs) && leb (form_of vs) 7)

-- ---- decoding

-- the row afterwards: a refusal changes nothing
abbrev pub fetch_after : Decoded → List ℕ → List ℕ
fetch_after (Ok f) vs = cond (roomy vs) (written (fetch_values f) vs) vs
fetch_after (Err e) vs = vs

-- ---- decoding for C

-- the clauses by the CF number of their opener; there is no other
abbrev pub clause_number : Clause → ℕ
clause_number clause.Tex = 1
clause_number clause.Vtx = 2
clause_number clause.VtxTc = 3

abbrev pub clause_numbered : ℕ → Option Clause
clause_numbered n =
    cond (eqb n 1) (Some clause.Tex) (cond (eqb n 2) (Some clause.Vtx) (cond (eqb n 3) (Some clause.VtxTc) None))

-- the decoder's refusal, and of a fetch what the row answers: room is asked for last, as the encoder does
abbrev pub fetch_verdict : Decoded → List ℕ → Verdict
fetch_verdict (Ok f) vs = encoded_verdict (row_answer vs)
fetch_verdict (Err e) vs = decoded_verdict (Err e)

-- 21 before all others where there is no such clause, since then there is no record to ask for
abbrev pub clause_verdict : Option Clause → List ℕ → ℕ → List ℕ → Verdict
clause_verdict (Some clause) l start vs = fetch_verdict (decode_of clause l (words start)) vs
clause_verdict None l start vs = encoded_verdict (Err NoRecord)

abbrev pub clause_row : Option Clause → List ℕ → ℕ → List ℕ → List ℕ
clause_row (Some clause) l start vs = fetch_after (decode_of clause l (words start)) vs
clause_row None l start vs = vs

-- the answer's number, and the row afterwards
abbrev pub fetch_number : ℕ → List ℕ → ℕ → List ℕ → ℕ
fetch_number kind l start vs = verdict_number (clause_verdict (clause_numbered kind) l start vs)

abbrev pub fetch_row : ℕ → List ℕ → ℕ → List ℕ → List ℕ
fetch_row kind l start vs = clause_row (clause_numbered kind) l start vs

-- ---- encoding

-- what the encoder answers, and before that no record where the row is shorter or its form is no fetch's
abbrev pub fetch_from : List ℕ → List ℕ → ℕ → Encoded
fetch_from vs l start = cond (is_fetch vs) (encode_answer (fetch_in vs) l (words start)) (Err NoRecord)

abbrev pub fetch_from_number : List ℕ → List ℕ → ℕ → ℕ
fetch_from_number vs l start = verdict_number (encoded_verdict (fetch_from vs l start))

-- the words afterwards: a refusal changes none, here or in `encode_words`
abbrev pub fetch_words : List ℕ → List ℕ → ℕ → List ℕ
fetch_words vs l start = cond (is_fetch vs) (encode_words (fetch_in vs) l (words start)) l

-- ---- the round trips

-- the row encodes at the start to 0 and to the words as they are, all of them
pub record FetchWordsAgain (vs l : List ℕ) (start : ℕ) : Type 0 where
  pub number : fetch_from_number vs l start ≡ 0
  pub same : fetch_words vs l start ≡ l

-- what stands at the start decodes into the row to 0 and to the row as it is, all of it
pub record FetchRowAgain (kind : ℕ) (l : List ℕ) (start : ℕ) (vs : List ℕ) : Type 0 where
  pub number : fetch_number kind l start vs ≡ 0
  pub same : fetch_row kind l start vs ≡ vs
