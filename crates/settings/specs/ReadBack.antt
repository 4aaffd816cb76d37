-- What is written is read back: of which keys that is so, and what it says of one setting.
use Rattle.std.specs.Prelude.{ℕ, ◌^◌, ◌<◌, ◌≡◌, Bool, true, false, not, ◌&&◌, List, [], ◌∷◌, ◌++◌, eqb, length, get_or}
use Rattle.ascii.specs.Decimal.{decimal}
use Rattle.card.specs.Text.{same_as}
use Rattle.report.specs.Settings.{equals_sign}
use Rattle.settings.specs.Setting.{Setting, Is}

-- the last byte is an equals sign, and no other is
abbrev pub is_key : List ℕ → Bool
is_key [] = false
is_key (b ∷ []) = eqb b equals_sign
is_key (b ∷ c ∷ t) = not (eqb b equals_sign) && is_key (c ∷ t)

-- a key is none of some others
abbrev pub none_is : List ℕ → List (List ℕ) → Bool
none_is key [] = true
none_is key (other ∷ others) = not (same_as key other) && none_is key others

-- each is a key, and no two are the same
abbrev pub good_keys : List (List ℕ) → Bool
good_keys [] = true
good_keys (key ∷ keys) = is_key key && (none_is key keys && good_keys keys)

-- a good key and a number of 32 bits in decimal are read as that key set to that number
abbrev pub ReadBack : List (List ℕ) → List ℕ → Setting → Type 0
ReadBack keys bytes r =
    (index n : ℕ) → good_keys keys ≡ true → index < length keys → n < 2 ^ 32 → bytes ≡ get_or keys index [] ++ decimal n → r ≡ Is index n
