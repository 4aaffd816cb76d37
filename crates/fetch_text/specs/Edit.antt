-- A fetch edited by settings NAME=number, a line each: document 02, request 2, for people who edit by hand. Where one of the settings is wrong
-- nothing is changed, and the first that is wrong is named; else they are put into the fetch one after the other, so of two for one field the
-- last counts.
use Rattle.std.specs.Prelude.{ℕ, ◌+◌, ◌^◌, ◌≡◌, Bool, true, cond, not, ◌&&◌, List, [], ◌∷◌, eqb, ltb, length, get_or, Option, Some, None, Result, Ok, Err, IsOk, ⊤}
use Rattle.units.specs.declared.Words.{Words}
use Rattle.ascii.specs.Ascii.{ascii, line_feed}
use Rattle.report.specs.Report.{before_first}
use Rattle.settings.specs.declared.SettingError.{SettingError}
use Rattle.settings.specs.declared.SettingError.TheVariants as error
use Rattle.settings.specs.Setting.{Setting, Is, setting_of, changed_by}
use Rattle.fetch_codec.specs.declared.Fetch.{Fetch}
use Rattle.fetch_codec.specs.declared.Clause.{Clause}
use Rattle.fetch_codec.specs.Fetch.{takes_number, encodable}
use Rattle.fetch_codec.specs.Buffer.{Decoded, decode_of, encode_words}
use Rattle.codec_for_c.specs.Values.{form_of}
use Rattle.codec_for_c.specs.FetchValues.{fetch_values, fetch_in}
use Rattle.fetch_text.specs.Text.{keys_of, widths_of, values_of, text_of}
use Rattle.fetch_text.specs.declared.Fault.{Fault}
use Rattle.fetch_text.specs.declared.Fault.TheVariants as fault
use Rattle.fetch_text.specs.declared.EditError.{EditError}
use Rattle.fetch_text.specs.declared.EditError.TheVariants.{NoFetch, Wrong}

-- the byte that ends a line
abbrev pub ends_line : ℕ → Bool
ends_line b = eqb b line_feed

-- the lines of a text, without their line feeds; bytes behind the last line feed are a line, too
unfoldable pub lines_in : List ℕ → List (List ℕ)
lines_in [] = []
lines_in (b ∷ bs) = cond (ends_line b) ([] ∷ lines_in bs) (before_first b (lines_in bs))

-- ---- what is wrong with a setting, which goes by the fetch's form alone and not by the numbers in its fields

-- no such field, or no number
abbrev pub fault_read : SettingError → Fault
fault_read error.NoName = fault.NoField
fault_read error.NoNumber = fault.NoNumber

-- either; one that exceeds the field's width; or, for the first field, a number that the form doesn't have
unfoldable pub fault_of : Fetch → Setting → Option Fault
fault_of f (Err e) = Some (fault_read e)
fault_of f (Is index n) =
    cond (ltb n (2 ^ get_or (widths_of f) index 0))
    (cond (eqb index 0 && not (takes_number f n)) (Some fault.NotTaken) None)
    (Some fault.TooWide)

-- in words
abbrev pub fault_words : Fault → List ℕ
fault_words fault.NoField = ascii "no such field"
fault_words fault.NoNumber = ascii "no number of 32 bits"
fault_words fault.TooWide = ascii "beyond the field's width"
fault_words fault.NotTaken = ascii "not a number of this form"

-- the first that is wrong of some lines, and how many bytes stand before it; the first line stands behind `at` of them
abbrev pub or_later : ℕ → Option Fault → Option EditError → Option EditError
or_later at None later = later
or_later at (Some why) later = Some (Wrong at why)

unfoldable pub first_fault : Fetch → ℕ → List (List ℕ) → Option EditError
first_fault f at [] = None
first_fault f at (line ∷ lines) = or_later at (fault_of f (setting_of (keys_of f) line)) (first_fault f (at + length line + 1) lines)

-- ---- what becomes of the fetch, and of the words that it stands in

-- the fetch of the same form with the values that the settings make of those it has
abbrev pub edited : Fetch → List (List ℕ) → Fetch
edited f lines = fetch_in (form_of (fetch_values f) ∷ changed_by (keys_of f) (values_of f) lines)

-- done, unless something is wrong
abbrev pub unless : {E : Type 0} → Option E → Result ⊤ E
unless None = Ok (record {})
unless (Some e) = Err e

abbrev pub edit_of : Decoded → List ℕ → Result ⊤ EditError
edit_of (Err e) text = Err (NoFetch e)
edit_of (Ok f) text = unless (first_fault f 0 (lines_in text))

-- all words stay where something is wrong, and all others where nothing is
abbrev pub words_with : Option EditError → Fetch → List ℕ → Words → List ℕ
words_with None f l start = encode_words f l start
words_with (Some e) f l start = l

abbrev pub edited_words : Decoded → List ℕ → List ℕ → Words → List ℕ
edited_words (Err e) text l start = l
edited_words (Ok f) text l start = words_with (first_fault f 0 (lines_in text)) (edited f (lines_in text)) l start

-- ---- what is promised besides: the edited fetch is what stands there then, and the text of a fetch, read back, is that fetch

pub record Promised (clause : Clause) (before after text : List ℕ) (start : Words) (answer : Result ⊤ EditError) : Type 0 where
  -- what was edited decodes to the edited fetch
  pub decodes : (f : Fetch) → decode_of clause before start ≡ Ok f → IsOk answer → decode_of clause after start ≡ Ok (edited f (lines_in text))
  -- the text of a fetch that can be encoded, put into any other of its form, makes it that fetch
  pub read_back : (f g : Fetch) → decode_of clause before start ≡ Ok f → form_of (fetch_values f) ≡ form_of (fetch_values g) → encodable g ≡ true → text ≡ text_of g
      → IsOk answer × (decode_of clause after start ≡ Ok g)
