-- What one setting NAME=number says, and what values become that settings change. The keys are a caller's, each a name with its equals
-- sign: nothing here knows them. How settings are written is said in report's Settings.antt.
use Rattle.std.specs.Prelude.{ℕ, suc, cond, Option, Some, None, Result, Ok, Err, List, [], ◌∷◌, length, drop, set}
use Rattle.card.specs.Text.{begins_with, number_in, of_32_bits}
use Rattle.settings.specs.declared.SettingError.{SettingError}
use Rattle.settings.specs.declared.SettingError.TheVariants as error

-- what a setting says, in the code's type for it: which key, counted from 0, is set to which number; or what is wrong with it
abbrev pub Setting : Type 0
Setting = Result (ℕ × ℕ) SettingError

pattern abbrev pub Is : ℕ → ℕ → Setting
Is index n = Ok (index, n)

pattern abbrev pub NoName : Setting
NoName = Err error.NoName

pattern abbrev pub NoNumber : Setting
NoNumber = Err error.NoNumber

-- a setting of the key at `index`, by the number that stands behind the key
abbrev pub value_read : ℕ → Option ℕ → Setting
value_read index None = NoNumber
value_read index (Some n) = Is index n

-- the first key that the bytes begin with, and the number of 32 bits that the bytes behind it are; the keys are counted from `index`
unfoldable pub setting_from : ℕ → List (List ℕ) → List ℕ → Setting
setting_from index [] bytes = NoName
setting_from index (key ∷ keys) bytes =
    cond (begins_with key bytes) (value_read index (number_in of_32_bits (drop (length key) bytes))) (setting_from (suc index) keys bytes)

-- the keys are counted from 0
abbrev pub setting_of : List (List ℕ) → List ℕ → Setting
setting_of keys bytes = setting_from 0 keys bytes

-- ---- values, one for each key

-- the value of the key that is set becomes the number; what is no setting changes none
abbrev pub changed_to : List ℕ → Setting → List ℕ
changed_to values NoName = values
changed_to values NoNumber = values
changed_to values (Is index n) = set values index n

abbrev pub changed : List (List ℕ) → List ℕ → List ℕ → List ℕ
changed keys values bytes = changed_to values (setting_of keys bytes)

-- by one setting after the other
unfoldable pub changed_by : List (List ℕ) → List ℕ → List (List ℕ) → List ℕ
changed_by keys values [] = values
changed_by keys values (bytes ∷ more) = changed_by keys (changed keys values bytes) more
