-- Worked examples, by computation: keys of names, settings as text, and read.
use mathlib.Core.Path.{◌≡◌, refl}
use mathlib.Core.Bool.{true, false}
use mathlib.Core.List.{List, [], ◌∷◌, map}
use Prim.Native.String.{String}
use Prim.Native.Nat.{ℕ}
use Rattle.ascii.specs.Ascii.{ascii}
use Rattle.ascii.specs.Decimal.{decimal, decimal_within, all_digits, digits_value}
use Rattle.card.specs.Text.{begins_with, same_as, is_decimal, number_of, number_in}
use Rattle.report.specs.Settings.{key_of, keys_lent, setting_lines, settings_text}
use Rattle.settings.specs.Setting.{NoName, NoNumber, Is, setting_from, setting_of, changed_by}
use Rattle.settings.specs.ReadBack.{good_keys}

-- ---- keys: X is the start of XY, and no line takes the one for the other

abbrev keys : List (List ℕ)
keys = key_of "X" ∷ key_of "XY" ∷ key_of "MODE" ∷ []

-- as the code has them
lent : keys_lent (map (λ (key : String). record { ref_ptr = (0, 0); now = ascii key }) ("X=" ∷ "XY=" ∷ "MODE=" ∷ [])) ≡ keys
lent = refl

good : good_keys keys ≡ true
unfolding same_as
good = refl

one_twice : good_keys (key_of "X" ∷ key_of "Y" ∷ key_of "X" ∷ []) ≡ false
unfolding same_as
one_twice = refl

-- ---- written

three_lines : settings_text keys (7 ∷ 0 ∷ 4294967295 ∷ []) ≡ ascii "X=7\nXY=0\nMODE=4294967295\n"
unfolding settings_text setting_lines decimal decimal_within
three_lines = refl

a_value_short : settings_text keys (7 ∷ 12 ∷ []) ≡ ascii "X=7\nXY=12\n"
unfolding settings_text setting_lines decimal decimal_within
a_value_short = refl

-- ---- read

second : setting_of keys (ascii "XY=12") ≡ Is 1 12
unfolding setting_from begins_with number_in number_of is_decimal all_digits digits_value
second = refl

largest : setting_of keys (ascii "MODE=4294967295") ≡ Is 2 4294967295
unfolding setting_from begins_with number_in number_of is_decimal all_digits digits_value
largest = refl

too_large : setting_of keys (ascii "MODE=4294967296") ≡ NoNumber
unfolding setting_from begins_with number_in number_of is_decimal all_digits digits_value
too_large = refl

leading_zero : setting_of keys (ascii "X=07") ≡ NoNumber
unfolding setting_from begins_with number_in number_of is_decimal all_digits digits_value
leading_zero = refl

no_number : setting_of keys (ascii "X=") ≡ NoNumber
unfolding setting_from begins_with number_in number_of is_decimal all_digits digits_value
no_number = refl

no_key : setting_of keys (ascii "x=7") ≡ NoName
unfolding setting_from begins_with
no_key = refl

-- the last one counts, and what is no setting changes nothing
set_twice : changed_by keys (1 ∷ 2 ∷ 3 ∷ []) (ascii "XY=5" ∷ ascii "Z=9" ∷ ascii "XY=6" ∷ []) ≡ 1 ∷ 6 ∷ 3 ∷ []
unfolding changed_by setting_from begins_with number_in number_of is_decimal all_digits digits_value
set_twice = refl
