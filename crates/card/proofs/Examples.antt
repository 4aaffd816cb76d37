-- Worked examples, by computation: the card of document 01's copy pack, and cards that are refused, with the line that is blamed.
use mathlib.Core.Path.{◌≡◌, refl}
use mathlib.Core.List.{List, [], ◌∷◌, ◌++◌, map}
use Prim.Native.Nat.{ℕ}
use Prim.Native.String.{String}
use lib.ListN.{take}
use Rattle.card.specs.Text.{text, first_line, behind_first, behind, line_of, lines_length, begins_with, same_as, value_of, value_at, word_in, all_digits, is_decimal, digits_value, number_of, number_in}
use Rattle.card.specs.Card.{card_with, card_of}
use Rattle.card.specs.Made.{test_of}
use Rattle.ascii.specs.Decimal.{decimal_within, decimal}
use Rattle.card.specs.Written.{written}
use Rattle.card.specs.declared.Kind.TheVariants.{Pixel, Vertex, Geometry}
use Rattle.card.specs.declared.Build.TheVariants.{Production, Debug}
use Rattle.card.specs.declared.Card.{Card}
use Rattle.card.specs.Card.{CardRead}
use Rattle.card.specs.Card.{Whole, BadAt}
use Rattle.card.specs.Made.{CardTest}
use Rattle.card.specs.Made.{InRange}

-- seven lines, each ended by one line feed
abbrev seven : String → String → String → String → String → String → String → List ℕ
seven a b c d e f g =
    let feed = text "\n" in
    text a ++ feed ++ text b ++ feed ++ text c ++ feed ++ text d ++ feed ++ text e ++ feed ++ text f ++ feed ++ text g ++ feed

-- the copy pack's card
abbrev copy : List ℕ
copy = seven "kind=ps" "build=production" "gprs=2" "temps=0" "consts=0" "stack=0" "quads=3"

-- the same with other lines 3 and 4
abbrev registers : String → String → List ℕ
registers gprs temps = seven "kind=ps" "build=production" gprs temps "consts=0" "stack=0" "quads=3"

-- bytes, and what they are read as
abbrev cards : List (List ℕ × CardRead)
cards =
    (copy, Whole (card_with Pixel Production 2 0 0 0 3) 65)
    -- what stands behind line 7 is the pack's
    ∷ (copy ++ text "quads=4\n", Whole (card_with Pixel Production 2 0 0 0 3) 65)
    -- the largest figures
    ∷ (seven "kind=gs" "build=debug" "gprs=124" "temps=4" "consts=256" "stack=32" "quads=8192", Whole (card_with Geometry Debug 124 4 256 32 8192) 68)
    -- a line that is missing, or not ended
    ∷ ([], BadAt 1)
    ∷ (text "kind=ps", BadAt 1)
    ∷ (text "kind=vs\n", BadAt 2)
    ∷ (take 64 copy, BadAt 7)
    -- a line that is misspelt: a carriage return, another case, a blank, another key, an empty line
    ∷ (seven "kind=ps\r" "build=production" "gprs=2" "temps=0" "consts=0" "stack=0" "quads=3", BadAt 1)
    ∷ (seven "kind=PS" "build=production" "gprs=2" "temps=0" "consts=0" "stack=0" "quads=3", BadAt 1)
    ∷ (seven "kind=ps" "build= production" "gprs=2" "temps=0" "consts=0" "stack=0" "quads=3", BadAt 2)
    ∷ (seven "kind=ps" "build=production" "temps=0" "gprs=2" "consts=0" "stack=0" "quads=3", BadAt 3)
    ∷ (text "\n" ++ copy, BadAt 1)
    -- a number that is none: empty, a leading zero, a sign, a figure behind it
    ∷ (registers "gprs=" "temps=0", BadAt 3)
    ∷ (registers "gprs=02" "temps=0", BadAt 3)
    ∷ (registers "gprs=2" "temps=00", BadAt 4)
    ∷ (registers "gprs=+2" "temps=0", BadAt 3)
    ∷ (registers "gprs=2x" "temps=0", BadAt 3)
    -- a number out of range, by itself and together with the one before
    ∷ (registers "gprs=0" "temps=0", BadAt 3)
    ∷ (registers "gprs=129" "temps=0", BadAt 3)
    ∷ (registers "gprs=2" "temps=5", BadAt 4)
    ∷ (registers "gprs=126" "temps=2", Whole (card_with Pixel Production 126 2 0 0 3) 67)
    ∷ (registers "gprs=126" "temps=3", BadAt 4)
    -- 2 more than 2^32 and than 2^64
    ∷ (registers "gprs=4294967298" "temps=0", BadAt 3)
    ∷ (registers "gprs=18446744073709551618" "temps=0", BadAt 3)
    ∷ []

cards_read : map (λ e. card_of e.0) cards ≡ map (λ e. e.1) cards
unfolding card_of first_line behind_first behind line_of lines_length begins_with same_as value_of value_at word_in all_digits is_decimal digits_value number_of number_in
cards_read = refl

-- the text of a card
copy_written : written (card_with Pixel Production 2 0 0 0 3) ≡ copy
unfolding written decimal decimal_within
copy_written = refl

-- cards that a caller makes, and the line out of range
abbrev made : List (Card × CardTest)
made =
    (card_with Pixel Production 2 0 0 0 3, InRange)
    ∷ (card_with Geometry Debug 124 4 256 32 8192, InRange)
    ∷ (card_with Vertex Debug 0 5 257 33 0, BadAt 3)
    ∷ (card_with Vertex Debug 129 5 257 33 0, BadAt 3)
    ∷ (card_with Vertex Debug 128 5 257 33 0, BadAt 4)
    ∷ (card_with Vertex Debug 126 3 257 33 0, BadAt 4)
    ∷ (card_with Vertex Debug 125 3 257 33 0, BadAt 5)
    ∷ (card_with Vertex Debug 125 3 256 33 0, BadAt 6)
    ∷ (card_with Vertex Debug 125 3 256 32 0, BadAt 7)
    ∷ (card_with Vertex Debug 125 3 256 32 8193, BadAt 7)
    ∷ []

cards_tested : map (λ e. test_of e.0) made ≡ map (λ e. e.1) made
unfolding test_of
cards_tested = refl
