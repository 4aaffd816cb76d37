-- The text of a fetch: document 02, request 2, for people who edit by hand. A line NAME=number for each field, with AMD's names in AMD's
-- order. Names and order are those of the tables in Tex and Vtx of crate formats, and values those of the rows in crate codec_for_c.
use Rattle.std.specs.Prelude.{ℕ, ◌≤◌, ◌≡◌, true, List, ◌++◌, map, length, drop, Result, Ok, Err}
use Prim.Native.String.{String}
use Rattle.bits.specs.Fields.{width_of}
use Rattle.formats.specs.Fields.{Field, position}
use Rattle.formats.specs.Tex as tex
use Rattle.formats.specs.Vtx as vtx
use Rattle.report.specs.Settings.{key_of, settings_text}
use Rattle.report.specs.Buffer.{Written, Length, NoRoom, written_of, buffer_after}
use Rattle.fetch_codec.specs.declared.Fetch.{Fetch}
use Rattle.fetch_codec.specs.declared.Fetch.TheVariants.{Tex, VtxGpr, VtxSem}
use Rattle.fetch_codec.specs.Buffer.{Decoded}
use Rattle.fetch_codec.specs.Fetch.{encodable}
use Rattle.codec_for_c.specs.FetchValues.{fetch_values}
use Rattle.fetch_text.specs.declared.ShowError.{ShowError}
use Rattle.fetch_text.specs.declared.ShowError.TheVariants as show

-- the fields of a fetch's form, those of word 0, of word 1 and of word 2
unfoldable pub form_fields : Fetch → List (String × Field)
form_fields (Tex a b c) = tex.word0_fields ++ tex.word1_fields ++ tex.word2_fields
form_fields (VtxGpr a b c) = vtx.word0_fields ++ vtx.gpr_fields ++ vtx.word2_fields
form_fields (VtxSem a b c) = vtx.word0_fields ++ vtx.sem_fields ++ vtx.word2_fields

-- their names, each with its equals sign
unfoldable pub keys_of : Fetch → List (List ℕ)
keys_of f = map (λ (x : String × Field). key_of x.0) (form_fields f)

-- how many bits each has
unfoldable pub widths_of : Fetch → List ℕ
widths_of f = map (λ (x : String × Field). width_of (position x.1)) (form_fields f)

-- the number in each: a fetch's row without the form, which stands first
abbrev pub values_of : Fetch → List ℕ
values_of f = drop 1 (fetch_values f)

-- a line for each
abbrev pub text_of : Fetch → List ℕ
text_of f = settings_text (keys_of f) (values_of f)

-- a room for the text of every fetch that can be encoded, as each is that was decoded
abbrev pub HoldsText : List ℕ → Type 0
HoldsText room = (f : Fetch) → encodable f ≡ true → length (text_of f) ≤ length room

-- ---- what is shown of the words at a start, and the buffer afterwards

-- the code's type for the answer: how many bytes the text has
abbrev pub Shown : Type 0
Shown = Result ℕ ShowError

abbrev pub shown_written : Written → Shown
shown_written (Length n) = Ok n
shown_written NoRoom = Err show.TooSmall

abbrev pub shown_of : Decoded → List ℕ → Shown
shown_of (Err e) buffer = Err (show.NoFetch e)
shown_of (Ok f) buffer = shown_written (written_of (text_of f) buffer)

abbrev pub shown_after : Decoded → List ℕ → List ℕ
shown_after (Err e) buffer = buffer
shown_after (Ok f) buffer = buffer_after (text_of f) buffer
