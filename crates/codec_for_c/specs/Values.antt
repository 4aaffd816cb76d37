-- The codec with rows of values: an instruction as a row of values of 32 bits, and what the functions on rows and those for C answer and leave in
-- what is lent to them. All go by the decoder and the encoder of crate microcode: document 01, "Numbers and what they mean".
use Rattle.std.specs.Prelude.{ℕ, ◌%◌, ◌^◌, ◌≡◌, ⊤, Bool, cond, ◌&&◌, List, [], ◌∷◌, ◌++◌, eqb, leb, length, get_or, drop, Option, Some, None, Result, Ok, Err}
use Rattle.units.specs.Units.{words}
use Rattle.checks.specs.Verdict.{Verdict, verdict_number}
use Rattle.formats.specs.declared.cf.CfWord0.{CfWord0}
use Rattle.formats.specs.declared.cf.CfWord1.{CfWord1}
use Rattle.formats.specs.declared.cf_alu.CfAluWord0.{CfAluWord0}
use Rattle.formats.specs.declared.cf_alu.CfAluWord1.{CfAluWord1}
use Rattle.formats.specs.Cf as cf
use Rattle.formats.specs.CfAlu as cf_alu
use Rattle.formats.specs.Export as export
use Rattle.formats.specs.Alu as alu
use Rattle.microcode.specs.declared.Instruction.{Instruction}
use Rattle.microcode.specs.declared.Instruction.TheVariants.{CfAlu, Cf, Export, Op2, Op3}
use Rattle.microcode.specs.declared.DecodeError.{DecodeError}
use Rattle.microcode.specs.declared.EncodeError.TheVariants.{NoRecord, NoRoom}
use Rattle.microcode.specs.declared.Stream.{Stream}
use Rattle.microcode.specs.declared.Stream.TheVariants.{ControlFlow, Alu}
use Rattle.microcode.specs.Answer.{Decoded, Encoded, Done}
use Rattle.microcode.specs.Buffer.{decode_of, decoded_verdict, encode_answer, encode_words, encoded_verdict}

-- ---- a record as values: the form, then the fields of word 0, then those of word 1, each in AMD's order from the lowest bit up

-- of CF_ALU and CF: ADDR and COUNT are cut to 32 bits, since no record that was decoded has more, nor one that can be encoded. COUNT, which has
-- two pieces in the word of a CF, is one value; `rest` is bit 20
abbrev pub cf_alu_word0_row : CfAluWord0 → List ℕ
cf_alu_word0_row r =
    r.addr.0 % 2 ^ 32
    ∷ r.kcache_bank0
    ∷ r.kcache_bank1
    ∷ r.kcache_mode0
    ∷ []

abbrev pub cf_alu_word1_row : CfAluWord1 → List ℕ
cf_alu_word1_row r =
    r.kcache_mode1
    ∷ r.kcache_addr0
    ∷ r.kcache_addr1
    ∷ r.count.0 % 2 ^ 32
    ∷ r.alt_const
    ∷ r.cf_inst
    ∷ r.whole_quad_mode
    ∷ r.barrier
    ∷ []

abbrev pub cf_word0_row : CfWord0 → List ℕ
cf_word0_row r = r.addr.0 % 2 ^ 32 ∷ []

abbrev pub cf_word1_row : CfWord1 → List ℕ
cf_word1_row r =
    r.pop_count
    ∷ r.cf_const
    ∷ r.cond
    ∷ r.count.0 % 2 ^ 32
    ∷ r.call_count
    ∷ r.rest
    ∷ r.end_of_program
    ∷ r.valid_pixel_mode
    ∷ r.cf_inst
    ∷ r.whole_quad_mode
    ∷ r.barrier
    ∷ []

-- the forms are 0, CF_ALU, 1, CF, 2, export, whose carried bits 16:12 are one value, 3, ALU with OP2, the longest with 24 values, and 4, ALU with OP3
abbrev pub values_of : Instruction → List ℕ
values_of (CfAlu a b) = 0 ∷ cf_alu_word0_row a ++ cf_alu_word1_row b
values_of (Cf a b) = 1 ∷ cf_word0_row a ++ cf_word1_row b
values_of (Export a b) = 2 ∷ export.word0_values a ++ export.word1_values b
values_of (Op2 a b) = 3 ∷ alu.word0_values a ++ alu.op2_values b
values_of (Op3 a b) = 4 ∷ alu.word0_values a ++ alu.op3_values b

-- ---- values as a record: each field where `values_of` has it (`record_of_values`, proofs/OfValues.antt)

abbrev pub form_of : List ℕ → ℕ
form_of vs = get_or vs 0 0

-- by the form; that it is at most 4 is asked by `is_record`
unfoldable pub record_of : List ℕ → Instruction
record_of vs =
    cond (eqb (form_of vs) 0) (CfAlu (cf_alu.word0_at 1 vs) (cf_alu.word1_at 5 vs))
    (cond (eqb (form_of vs) 1) (Cf (cf.word0_at 1 vs) (cf.word1_at 2 vs))
    (cond (eqb (form_of vs) 2) (Export (export.word0_at 1 vs) (export.word1_at 7 vs))
    (cond (eqb (form_of vs) 3) (Op2 (alu.word0_at 1 vs) (alu.op2_at 12 vs)) (Op3 (alu.word0_at 1 vs) (alu.op3_at 12 vs)))))

-- a row has 32 elements or more, whatever its form; the longest, a texture fetch, takes 30 of them
abbrev pub row_length : ℕ
row_length = 32

abbrev pub roomy : List ℕ → Bool
roomy vs = leb row_length (length vs)

abbrev pub is_record : List ℕ → Bool
is_record vs = roomy vs && leb (form_of vs) 4

-- ---- decoding

-- values over the beginning of l; what stands behind them stays
abbrev pub written : List ℕ → List ℕ → List ℕ
written vs l = vs ++ drop (length vs) l

-- what was decoded is put into a row, or isn't
abbrev pub told : {A : Type 0} → Result A DecodeError → Result ⊤ DecodeError
told (Ok a) = Ok (record {})
told (Err e) = Err e

-- the row afterwards: a refusal changes nothing
abbrev pub row_after : Decoded → List ℕ → List ℕ
row_after (Ok i) vs = cond (roomy vs) (written (values_of i) vs) vs
row_after (Err e) vs = vs

-- ---- decoding for C

-- the streams by number: 0 is control flow, 1 is ALU, and there is no other
abbrev pub stream_number : Stream → ℕ
stream_number ControlFlow = 0
stream_number Alu = 1

abbrev pub stream_numbered : ℕ → Option Stream
stream_numbered n = cond (eqb n 0) (Some ControlFlow) (cond (eqb n 1) (Some Alu) None)

-- the values of a record go into such a row; a shorter one has no room for them
abbrev pub row_answer : List ℕ → Encoded
row_answer vs = cond (roomy vs) Done (Err NoRoom)

-- the decoder's refusal, and of a record what the row answers: room is asked for last, as the encoder does
abbrev pub row_verdict : Stream → Decoded → List ℕ → Verdict
row_verdict stream (Ok i) vs = encoded_verdict (row_answer vs)
row_verdict stream (Err e) vs = decoded_verdict stream (Err e)

-- 21 before all others where there is no such stream, since then there is no record to ask for
abbrev pub stream_verdict : Option Stream → List ℕ → ℕ → List ℕ → Verdict
stream_verdict (Some stream) l start vs = row_verdict stream (decode_of stream l (words start)) vs
stream_verdict None l start vs = encoded_verdict (Err NoRecord)

abbrev pub stream_row : Option Stream → List ℕ → ℕ → List ℕ → List ℕ
stream_row (Some stream) l start vs = row_after (decode_of stream l (words start)) vs
stream_row None l start vs = vs

-- the answer's number, and the row afterwards
abbrev pub decoded_number : ℕ → List ℕ → ℕ → List ℕ → ℕ
decoded_number stream l start vs = verdict_number (stream_verdict (stream_numbered stream) l start vs)

abbrev pub decoded_values : ℕ → List ℕ → ℕ → List ℕ → List ℕ
decoded_values stream l start vs = stream_row (stream_numbered stream) l start vs

-- ---- encoding

-- what the encoder answers, and before that no record where the row is shorter or its form is none
abbrev pub encoded_from : List ℕ → List ℕ → ℕ → Encoded
encoded_from vs l start = cond (is_record vs) (encode_answer (record_of vs) l (words start)) (Err NoRecord)

abbrev pub encoded_number : List ℕ → List ℕ → ℕ → ℕ
encoded_number vs l start = verdict_number (encoded_verdict (encoded_from vs l start))

-- the words afterwards: a refusal changes none, here or in `encode_words`
abbrev pub encoded_words : List ℕ → List ℕ → ℕ → List ℕ
encoded_words vs l start = cond (is_record vs) (encode_words (record_of vs) l (words start)) l

-- ---- the round trips

-- the row encodes at the start to 0 and to the words as they are, all of them
pub record WordsAgain (vs l : List ℕ) (start : ℕ) : Type 0 where
  pub number : encoded_number vs l start ≡ 0
  pub same : encoded_words vs l start ≡ l

-- what stands at the start decodes into the row to 0 and to the row as it is, all of it
pub record RowAgain (stream : ℕ) (l : List ℕ) (start : ℕ) (vs : List ℕ) : Type 0 where
  pub number : decoded_number stream l start vs ≡ 0
  pub same : decoded_values stream l start vs ≡ vs
