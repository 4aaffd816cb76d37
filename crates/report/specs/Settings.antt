-- Settings as text: lines NAME=number, one for each of some names. The names are a caller's: nothing here knows them.
use Rattle.std.specs.Prelude.{ℕ, List, [], ◌∷◌, ◌++◌, map}
use Rattle.std.specs.Borrow.{Bor}
use Prim.Native.Char.{code}
use Prim.Native.String.{String}
use Rattle.ascii.specs.Ascii.{ascii}
use Rattle.ascii.specs.Decimal.{decimal}
use Rattle.report.specs.Report.{joined}

-- the byte that ends a key
abbrev pub equals_sign : ℕ
equals_sign = code "="

-- a name's key: the name with an equals sign behind it
abbrev pub key_of : String → List ℕ
key_of name = ascii name ++ ascii "="

-- the keys that are lent to the code, each whole
abbrev pub keys_lent : List (Bor (List ℕ)) → List (List ℕ)
keys_lent keys = map (λ (key : Bor (List ℕ)). key.now) keys

-- keys set to values, the first to the first and so on, as many as there are of both: the key, and the value in decimal
unfoldable pub setting_lines : List (List ℕ) → List ℕ → List (List ℕ)
setting_lines [] values = []
setting_lines (key ∷ keys) [] = []
setting_lines (key ∷ keys) (value ∷ values) = (key ++ decimal value) ∷ setting_lines keys values

-- as text: each with a line feed behind it
unfoldable pub settings_text : List (List ℕ) → List ℕ → List ℕ
settings_text keys values = joined (map (λ l. l ++ ascii "\n") (setting_lines keys values))
