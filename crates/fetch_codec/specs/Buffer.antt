-- Decoding and encoding a fetch at a start in a buffer of words: document 02, request 2. Told the kind, the decoder answers 2, or 8 by that
-- rule, place and slot 0; the encoder 20 and 21 as before. A start is a word number and may be any number.
use Rattle.std.specs.Prelude.{ℕ, ◌+◌, ◌≡◌, cond, List, get_or, Result, Ok, Err}
use Rattle.units.specs.declared.Words.{Words}
use Rattle.checks.specs.Verdict.{Verdict, Accepted}
use Rattle.opcodes.specs.declared.cf.FetchKind.{FetchKind}
use Rattle.opcodes.specs.declared.cf.FetchKind.TheVariants.{Vertex, Texture}
use Rattle.formats.specs.Fields.{◌of◌, FETCH_INST}
use Rattle.formats.specs.Tex as tex
use Rattle.formats.specs.Vtx as vtx
use Rattle.fetches.specs.Fetches.{bad_fetch, is_semantic}
use Rattle.microcode.specs.declared.DecodeError.{DecodeError}
use Rattle.microcode.specs.declared.DecodeError.TheVariants.{Outside, NotTaken}
use Rattle.microcode.specs.Answer.{Encoded, Done}
use Rattle.microcode.specs.Buffer.{room, write_answer, write_words, write_number, refused}
use Rattle.fetch_codec.specs.declared.Fetch.{Fetch}
use Rattle.fetch_codec.specs.declared.Fetch.TheVariants.{Tex, VtxGpr, VtxSem}
use Rattle.fetch_codec.specs.declared.Found.{Found}
use Rattle.fetch_codec.specs.declared.Found.TheVariants as found
use Rattle.fetch_codec.specs.declared.Clause.{Clause}
use Rattle.fetch_codec.specs.Fetch.{kind_of, fetch_of, words_of}

-- ---- decoding

-- what the decoder answers
abbrev pub Decoded : Type 0
Decoded = Result Fetch DecodeError

-- four words in a clause of that kind: what rule 8 refuses is not taken, and everything else is a record
abbrev pub four_of : FetchKind → ℕ → ℕ → ℕ → ℕ → Decoded
four_of kind w0 w1 w2 w3 = cond (bad_fetch kind (FETCH_INST of w0) w3) (Err NotTaken) (Ok (fetch_of kind w0 w1 w2))

-- the fetch at start, where it is wholly in the words
abbrev pub decode_of : Clause → List ℕ → Words → Decoded
decode_of clause l start =
    cond (room 4 l start.0)
    (four_of (kind_of clause) (get_or l start.0 0) (get_or l (start.0 + 1) 0) (get_or l (start.0 + 2) 0) (get_or l (start.0 + 3) 0))
    (Err Outside)

-- ---- which form stands there, with the first three words, before a field is read

abbrev pub found_in : FetchKind → ℕ → ℕ → ℕ → Found
found_in Texture w0 w1 w2 = found.Tex w0 w1 w2
found_in Vertex w0 w1 w2 = cond (is_semantic Vertex (FETCH_INST of w0)) (found.VtxSem w0 w1 w2) (found.VtxGpr w0 w1 w2)

abbrev pub four_found : FetchKind → ℕ → ℕ → ℕ → ℕ → Result Found DecodeError
four_found kind w0 w1 w2 w3 = cond (bad_fetch kind (FETCH_INST of w0) w3) (Err NotTaken) (Ok (found_in kind w0 w1 w2))

abbrev pub found_of : Clause → List ℕ → Words → Result Found DecodeError
found_of clause l start =
    cond (room 4 l start.0)
    (four_found (kind_of clause) (get_or l start.0 0) (get_or l (start.0 + 1) 0) (get_or l (start.0 + 2) 0) (get_or l (start.0 + 3) 0))
    (Err Outside)

-- the record that was found
abbrev pub record_found : Found → Fetch
record_found (found.Tex w0 w1 w2) = Tex (tex.word0_of w0) (tex.word1_of w1) (tex.word2_of w2)
record_found (found.VtxGpr w0 w1 w2) = VtxGpr (vtx.word0_of w0) (vtx.gpr_of w1) (vtx.word2_of w2)
record_found (found.VtxSem w0 w1 w2) = VtxSem (vtx.word0_of w0) (vtx.sem_of w1) (vtx.word2_of w2)

abbrev pub decoded_from : Result Found DecodeError → Decoded
decoded_from (Ok found) = Ok (record_found found)
decoded_from (Err e) = Err e

-- ---- encoding: four words, the fourth of them 0, as `write_answer` and `write_words` of crate microcode have it of any words

-- a record at start
abbrev pub encode_answer : Fetch → List ℕ → Words → Encoded
encode_answer f l start = write_answer (words_of f) l start

-- the whole buffer afterwards: all other words stay, and a refusal writes nothing
abbrev pub encode_words : Fetch → List ℕ → Words → List ℕ
encode_words f l start = write_words (words_of f) l start

-- what decodes encodes at the same start to Done and to the same whole buffer
pub record Rewritten (f : Fetch) (l : List ℕ) (start : Words) : Type 0 where
  pub done : encode_answer f l start ≡ Done
  pub same : encode_words f l start ≡ l

-- ---- the answers by the paper's number, place and slot

abbrev pub decoded_verdict : Decoded → Verdict
decoded_verdict (Err Outside) = refused 2
decoded_verdict (Err NotTaken) = refused 8
decoded_verdict (Ok f) = Accepted

-- 2 if the four words aren't wholly in the words, else 8 by that rule, and otherwise always a record
abbrev pub decode_number : Clause → List ℕ → Words → ℕ
decode_number clause l start =
    cond (room 4 l start.0)
    (cond (bad_fetch (kind_of clause) (FETCH_INST of (get_or l start.0 0)) (get_or l (start.0 + 3) 0)) 8 0)
    2

-- 21 if they are no record's words, else 20 if they don't fit at the start
abbrev pub encode_number : Fetch → List ℕ → Words → ℕ
encode_number f l start = write_number (words_of f) l start
