-- Decoding and encoding at a start in a buffer of words: document 01, "Numbers and what they mean", the two paragraphs on encoder and
-- decoder. A start is a word number and may be any number.
use Rattle.std.specs.Prelude.{ℕ, ◌+◌, ◌≡◌, Bool, cond, List, leb, length, get_or, take, drop, ◌++◌, Option, Some, None, Result, Ok, Err}
use Rattle.units.specs.declared.Words.{Words}
use Rattle.checks.specs.declared.Place.TheVariants.{Whole}
use Rattle.checks.specs.Verdict.{Verdict, Accepted, refusal, verdict_number, verdict_place, verdict_slot}
use Rattle.formats.specs.Cf as cf
use Rattle.formats.specs.CfAlu as cf_alu
use Rattle.formats.specs.Export as export
use Rattle.formats.specs.Alu as alu
use Rattle.microcode.specs.declared.Instruction.{Instruction}
use Rattle.microcode.specs.declared.Instruction.TheVariants.{CfAlu, Cf, Export, Op2, Op3}
use Rattle.microcode.specs.declared.FoundPair.{FoundPair}
use Rattle.microcode.specs.declared.FoundPair.TheVariants as found
use Rattle.microcode.specs.declared.DecodeError.{DecodeError}
use Rattle.microcode.specs.declared.DecodeError.TheVariants.{Outside, NotTaken}
use Rattle.microcode.specs.declared.EncodeError.TheVariants.{NoRecord, NoRoom}
use Rattle.microcode.specs.declared.Stream.{Stream}
use Rattle.microcode.specs.declared.Stream.TheVariants.{ControlFlow, Alu}
use Rattle.microcode.specs.Answer.{Decoded, Encoded, Done}
use Rattle.microcode.specs.Pair.{pair_of, number_taken, words_of}

-- n words from start on lie wholly in the words
abbrev pub room : ℕ → List ℕ → ℕ → Bool
room n l start = leb (start + n) (length l)

-- the pair at start, where it is wholly in the words
abbrev pub decode_of : Stream → List ℕ → Words → Decoded
decode_of stream l start =
    cond (room 2 l start.0) (pair_of stream (get_or l start.0 0) (get_or l (start.0 + 1) 0)) (Err Outside)

-- the record of a form that was found with these words
abbrev pub record_found : FoundPair → Instruction
record_found (found.CfAlu lo hi) = CfAlu (cf_alu.word0_of lo) (cf_alu.word1_of hi)
record_found (found.Cf lo hi) = Cf (cf.word0_of lo) (cf.word1_of hi)
record_found (found.Export lo hi) = Export (export.word0_of lo) (export.word1_of hi)
record_found (found.Op2 lo hi) = Op2 (alu.word0_of lo) (alu.op2_of hi)
record_found (found.Op3 lo hi) = Op3 (alu.word0_of lo) (alu.op3_of hi)

abbrev pub decoded_from : Result FoundPair DecodeError → Decoded
decoded_from (Ok found) = Ok (record_found found)
decoded_from (Err e) = Err e

-- the words of a record at start, or none where it is no record: that is asked about before the room
abbrev pub write_answer : Option (List ℕ) → List ℕ → Words → Encoded
write_answer None l start = Err NoRecord
write_answer (Some ws) l start = cond (room (length ws) l start.0) Done (Err NoRoom)

-- the whole buffer afterwards: all other words stay, and a refusal writes nothing
abbrev pub write_words : Option (List ℕ) → List ℕ → Words → List ℕ
write_words None l start = l
write_words (Some ws) l start = cond (room (length ws) l start.0) (take start.0 l ++ (ws ++ drop (start.0 + length ws) l)) l

-- a record at start
abbrev pub encode_answer : Instruction → List ℕ → Words → Encoded
encode_answer i l start = write_answer (words_of i) l start

abbrev pub encode_words : Instruction → List ℕ → Words → List ℕ
encode_words i l start = write_words (words_of i) l start

-- what decodes encodes at the same start to Done and to the same whole buffer
pub record Rewritten (i : Instruction) (l : List ℕ) (start : Words) : Type 0 where
  pub done : encode_answer i l start ≡ Done
  pub same : encode_words i l start ≡ l

-- ---- the answers by the paper's number, place and slot

-- CF number not taken, ALU number not taken
abbrev pub not_taken : Stream → ℕ
not_taken ControlFlow = 4
not_taken Alu = 11

-- every refusal has place and slot 0
abbrev pub refused : ℕ → Verdict
refused rule = Err (refusal rule Whole 0)

abbrev pub decoded_verdict : Stream → Decoded → Verdict
decoded_verdict stream (Err Outside) = refused 2
decoded_verdict stream (Err NotTaken) = refused (not_taken stream)
decoded_verdict stream (Ok i) = Accepted

abbrev pub encoded_verdict : Encoded → Verdict
encoded_verdict (Err NoRecord) = refused 21
encoded_verdict (Err NoRoom) = refused 20
encoded_verdict Done = Accepted

-- a verdict of that number, with place and slot 0
pub record Answers (v : Verdict) (n : ℕ) : Type 0 where
  pub number : verdict_number v ≡ n
  pub place : verdict_place v ≡ 0
  pub slot : verdict_slot v ≡ 0

-- 2 if the pair isn't wholly in the words, else 4 or 11 if the number isn't taken, and otherwise always a record
abbrev pub decode_number : Stream → List ℕ → Words → ℕ
decode_number stream l start =
    cond (room 2 l start.0) (cond (number_taken stream (get_or l (start.0 + 1) 0)) 0 (not_taken stream)) 2

-- 21 if they are no record's words, else 20 if they don't fit at the start
abbrev pub write_number : Option (List ℕ) → List ℕ → Words → ℕ
write_number None l start = 21
write_number (Some ws) l start = cond (room (length ws) l start.0) 0 20

-- 21 if a field exceeds its width or the record isn't of a taken form, else 20 if the words don't fit at the start
abbrev pub encode_number : Instruction → List ℕ → Words → ℕ
encode_number i l start = write_number (words_of i) l start
