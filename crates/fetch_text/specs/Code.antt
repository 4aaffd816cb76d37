-- What the private functions ask of each other and answer; no public contract reaches it.
use Rattle.std.specs.Prelude.{ℕ, suc, ◌≡◌, true, List, length, set, Result, Ok, Err, OnOk, ⊤}
use Rattle.microcode.specs.declared.DecodeError.{DecodeError}
use Rattle.fetch_codec.specs.Fetch.{encodable}
use Rattle.fetch_codec.specs.Buffer.{Decoded}
use Rattle.codec_for_c.specs.Values.{row_length, form_of}
use Rattle.codec_for_c.specs.FetchValues.{is_fetch, fetch_values, fetch_in}
use Rattle.settings.specs.Setting.{Is, setting_of, changed}
use Rattle.fetch_text.specs.Text.{keys_of, values_of}
use Rattle.fetch_text.specs.Edit.{lines_in, fault_of, first_fault, edited, unless}
use Rattle.fetch_text.specs.declared.Fault.{Fault}
use Rattle.fetch_text.specs.declared.EditError.{EditError}

-- a row with the values of a fetch that can be encoded
pub record Holds (row : List ℕ) : Type 0 where
  pub long : length row ≡ row_length
  pub is_a_fetch : is_fetch row ≡ true
  pub can : encodable (fetch_in row) ≡ true

-- it holds the fetch that was decoded, where one was
abbrev pub RowRead : Decoded → Result (List ℕ) DecodeError → Type 0
RowRead (Err e) r = r ≡ Err e
RowRead (Ok f) (Ok row) = Holds row × (fetch_in row ≡ f)
RowRead (Ok f) (Err e) = ⊥

-- a number was put into the field of an index, and what is wrong with that
pub record NumberPut (row after : List ℕ) (index n : ℕ) (answer : Result ⊤ Fault) : Type 0 where
  pub told : answer ≡ unless (fault_of (fetch_in row) (Is index n))
  pub put : after ≡ set row (suc index) n
  pub holds : OnOk answer (Holds after)

-- a row holds a fetch of the same form, with other values
pub record Changed (row after values : List ℕ) : Type 0 where
  pub holds : Holds after
  pub form : form_of (fetch_values (fetch_in after)) ≡ form_of (fetch_values (fetch_in row))
  pub values_are : values_of (fetch_in after) ≡ values

-- a setting was put into the row, and what is wrong with it
pub record SettingPut (row after line : List ℕ) (answer : Result ⊤ Fault) : Type 0 where
  pub told : answer ≡ unless (fault_of (fetch_in row) (setting_of (keys_of (fetch_in row)) line))
  pub put : OnOk answer (Changed row after (changed (keys_of (fetch_in row)) (values_of (fetch_in row)) line))

-- the edited fetch stands in the row
pub record Edited (row after text : List ℕ) : Type 0 where
  pub holds : Holds after
  pub form : form_of (fetch_values (fetch_in after)) ≡ form_of (fetch_values (fetch_in row))
  pub fetch : fetch_in after ≡ edited (fetch_in row) (lines_in text)

-- all settings of a text were put into the row, up to the first that is wrong
pub record AllPut (row after text : List ℕ) (answer : Result ⊤ EditError) : Type 0 where
  pub told : answer ≡ unless (first_fault (fetch_in row) 0 (lines_in text))
  pub put : OnOk answer (Edited row after text)
