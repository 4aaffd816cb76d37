-- Worked examples, by computation: document 01's copy pack as words, and what is answered to inputs and packs before the judge is asked.
use mathlib.Core.Path.{◌≡◌, refl}
use mathlib.Core.List.{List, [], ◌∷◌, ◌++◌, map}
use Prim.Native.Nat.{ℕ}
use lib.ListN.{take, drop}
use Rattle.card.specs.Text.{text, first_line, behind_first, behind, line_of, lines_length, begins_with, same_as, value_of, value_at, word_in, all_digits, is_decimal, digits_value, number_of, number_in}
use Rattle.card.specs.Card.{card_with, card_of}
use Rattle.card.specs.Made.{test_of}
use Rattle.card.specs.declared.Card.{Card}
use Rattle.card.specs.declared.Kind.TheVariants.{Pixel}
use Rattle.card.specs.declared.Build.TheVariants.{Production, Debug}
use Rattle.ascii.specs.Decimal.{decimal, decimal_within}
use Rattle.std.specs.Prelude.{Some, None}
use Rattle.checks.specs.Verdict.{Verdict}
use Rattle.report.specs.Report.{report_lines, report_bytes}
use Rattle.judge.specs.Judge.{judgement}
use Rattle.input.specs.Words.{words_in}
use Rattle.input.specs.Input.{answer, bad_line, bad_length, pack_verdict, judged_of, judged_of_files, report_of}
use Rattle.input.specs.declared.Judged.{Judged}

-- ---- bytes and words

-- the copy pack's file
abbrev copy_bytes : List ℕ
copy_bytes =
    2 ∷ 0 ∷ 0 ∷ 0 ∷ 0 ∷ 0 ∷ 0 ∷ 160 ∷ 0 ∷ 0 ∷ 0 ∷ 0 ∷ 0 ∷ 0 ∷ 32 ∷ 0 ∷ 0 ∷ 0 ∷ 0 ∷ 128 ∷ 144 ∷ 12 ∷ 32 ∷ 0 ∷ []

-- 00000002 A0000000, 00000000 00200000, 80000000 00200C90
abbrev copy_words : List ℕ
copy_words = 2 ∷ 2684354560 ∷ 0 ∷ 2097152 ∷ 2147483648 ∷ 2100368 ∷ []

copy_words_lem : words_in copy_bytes ≡ copy_words
unfolding words_in
copy_words_lem = refl

-- fewer than four bytes left over are no word
abbrev seven : List ℕ
seven = 1 ∷ 2 ∷ 3 ∷ 4 ∷ 5 ∷ 6 ∷ 7 ∷ []

left_over_lem : map (λ n. words_in (take n seven)) (0 ∷ 1 ∷ 3 ∷ 4 ∷ 7 ∷ []) ≡ [] ∷ [] ∷ [] ∷ (67305985 ∷ []) ∷ (67305985 ∷ []) ∷ []
unfolding words_in
left_over_lem = refl

-- ---- inputs

-- the copy pack's card, by its build
abbrev copy_card : List ℕ → List ℕ
copy_card built =
    text "kind=ps\nbuild=" ++ (built ++ text "\ngprs=2\ntemps=0\nconsts=0\nstack=0\nquads=3\n")

abbrev production : List ℕ
production = copy_card (text "production")

-- inputs, and what is answered to them
abbrev inputs : List (List ℕ × Judged)
inputs =
    -- the copy pack: what the judge says of its words
    (production ++ copy_bytes, answer (Some Production) (judgement (card_with Pixel Production 2 0 0 0 3) copy_words))
    ∷ (copy_card (text "debug") ++ copy_bytes, answer (Some Debug) (judgement (card_with Pixel Debug 2 0 0 0 3) copy_words))
    -- a byte more, a byte less, no pack
    ∷ (production ++ (copy_bytes ++ (0 ∷ [])), answer (Some Production) bad_length)
    ∷ (production ++ take 23 copy_bytes, answer (Some Production) bad_length)
    ∷ (production, answer (Some Production) bad_length)
    -- a card that ends too early, one with a wrong line, nothing
    ∷ (take 64 production, answer None (bad_line 7))
    ∷ (copy_card (text "release") ++ copy_bytes, answer None (bad_line 2))
    ∷ (copy_bytes, answer None (bad_line 1))
    ∷ ([], answer None (bad_line 1))
    ∷ []

inputs_judged : map (λ e. judged_of e.0) inputs ≡ map (λ e. e.1) inputs
unfolding judged_of pack_verdict test_of words_in card_of first_line behind_first behind line_of lines_length begins_with same_as value_of value_at word_in all_digits is_decimal digits_value number_of number_in
inputs_judged = refl

-- ---- files, and what is answered to them

abbrev files : List (List ℕ × List ℕ × Judged)
files =
    (production, copy_bytes, answer (Some Production) (judgement (card_with Pixel Production 2 0 0 0 3) copy_words))
    -- the pack's first eight bytes moved behind the card; an empty line there
    ∷ (production ++ take 8 copy_bytes, drop 8 copy_bytes, answer None (bad_line 8))
    ∷ (production ++ text "\n", copy_bytes, answer None (bad_line 8))
    -- a byte more in the pack; a card that ends too early, though the pack would go on with it; a wrong line, with bytes behind the card
    ∷ (production, copy_bytes ++ (0 ∷ []), answer (Some Production) bad_length)
    ∷ (take 64 production, drop 64 production ++ copy_bytes, answer None (bad_line 7))
    ∷ (copy_card (text "release") ++ text "\n", copy_bytes, answer None (bad_line 2))
    ∷ []

files_judged : map (λ e. judged_of_files e.0 e.1) files ≡ map (λ e. e.2) files
unfolding judged_of_files pack_verdict test_of words_in card_of first_line behind_first behind line_of lines_length begins_with same_as value_of value_at word_in all_digits is_decimal digits_value number_of number_in
files_judged = refl

-- the report on nothing
nothing_reported : report_of [] ≡ text "build=unknown\nverdict=1\nplace=1\nslot=0\nrelease=no\n"
unfolding report_of judged_of card_of line_of behind first_line value_at report_bytes report_lines decimal decimal_within
nothing_reported = refl

-- ---- a card that a caller makes, by its gprs and quads, with the copy pack and with a byte less: 1 before 2
abbrev made : ℕ → ℕ → Card
made gprs quads = card_with Pixel Production gprs 0 0 0 quads

abbrev verdicts : List (Card × List ℕ × Verdict)
verdicts =
    (made 2 3, copy_bytes, judgement (made 2 3) copy_words)
    ∷ (made 2 3, take 23 copy_bytes, bad_length)
    ∷ (made 2 4, copy_bytes, bad_length)
    ∷ (made 0 3, copy_bytes, bad_line 3)
    ∷ (made 0 3, take 23 copy_bytes, bad_line 3)
    ∷ (made 2 8193, copy_bytes, bad_line 7)
    ∷ (made 2 0, [], bad_line 7)
    ∷ []

verdicts_given : map (λ e. pack_verdict e.0 e.1) verdicts ≡ map (λ e. e.2) verdicts
unfolding pack_verdict test_of words_in
verdicts_given = refl
