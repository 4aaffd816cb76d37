-- Worked examples, by computation: whole reports and explanations, and numbers in decimal.
use mathlib.Core.Path.{◌≡◌, refl}
use mathlib.Core.List.{[], ◌∷◌}
use Prim.Native.Nat.{◌-◌, ◌^◌}
use Rattle.units.specs.Units.{quadwords, slots}
use Rattle.checks.specs.declared.Place.TheVariants.{Line, Quadword}
use Rattle.std.specs.Prelude.{Some, None}
use Rattle.checks.specs.Verdict.{Verdict, Accepted, Refused}
use Rattle.card.specs.declared.Build.TheVariants.{Production, Debug}
use Rattle.ascii.specs.Ascii.{ascii}
use Rattle.ascii.specs.Decimal.{decimal, decimal_within}
use Rattle.report.specs.Report.{report_lines, report_bytes}
use Rattle.report.specs.Explanation.{rule_word, explanation_lines, explanation_bytes}
use Rattle.report.specs.Buffer.{Length, NoRoom, written_of, buffer_after}

-- a text's bytes
bytes_of_a_line : ascii "slot=0\n" ≡ 115 ∷ 108 ∷ 111 ∷ 116 ∷ 61 ∷ 48 ∷ 10 ∷ []
bytes_of_a_line = refl

-- ---- numbers

nought : decimal 0 ≡ ascii "0"
unfolding decimal decimal_within
nought = refl

one_digit : decimal 9 ≡ ascii "9"
unfolding decimal decimal_within
one_digit = refl

two_digits : decimal 10 ≡ ascii "10"
unfolding decimal decimal_within
two_digits = refl

zeros_inside : decimal 4005 ≡ ascii "4005"
unfolding decimal decimal_within
zeros_inside = refl

largest_of_64_bits : decimal (2 ^ 64 - 1) ≡ ascii "18446744073709551615"
unfolding decimal decimal_within
largest_of_64_bits = refl

-- ---- reports

-- document 01's, for the accepted copy pack
accepted_production : report_bytes (Some Production) Accepted ≡ ascii "build=production\nverdict=0\nplace=0\nslot=0\nrelease=yes\n"
unfolding report_bytes report_lines decimal decimal_within
accepted_production = refl

accepted_debug : report_bytes (Some Debug) Accepted ≡ ascii "build=debug\nverdict=0\nplace=0\nslot=0\nrelease=no\n"
unfolding report_bytes report_lines decimal decimal_within
accepted_debug = refl

-- 15 at quadword 40, slot 3
abbrev not_granted : Verdict
not_granted = Refused 15 (Quadword (quadwords 40)) (slots 3)

refused_debug : report_bytes (Some Debug) not_granted ≡ ascii "build=debug\nverdict=15\nplace=40\nslot=3\nrelease=no\n"
unfolding report_bytes report_lines decimal decimal_within
refused_debug = refl

-- line 7 of the card is at fault: the build is not shown, though line 2 was good
card_line : report_bytes (Some Production) (Refused 1 (Line 7) (slots 0)) ≡ ascii "build=unknown\nverdict=1\nplace=7\nslot=0\nrelease=no\n"
unfolding report_bytes report_lines decimal decimal_within
card_line = refl

-- ---- explanations

-- register 12 where the card grants 8
a_register_too_high : explanation_bytes (record { verdict = not_granted; fault = Some (record { found = 12; limit = 8 }) }) ≡ ascii "verdict=15\nplace=40\nslot=3\nrule=not-granted\nfound=12\nlimit=8\n"
unfolding explanation_bytes explanation_lines rule_word decimal decimal_within
a_register_too_high = refl

without_numbers : explanation_bytes (record { verdict = Refused 1 (Line 7) (slots 0); fault = None }) ≡ ascii "verdict=1\nplace=7\nslot=0\nrule=card-line\nfound=-\nlimit=-\n"
unfolding explanation_bytes explanation_lines rule_word decimal decimal_within
without_numbers = refl

-- quadword 2 opens a clause at an odd quadword, or one that shares a part of an earlier one
clause_layout : explanation_bytes (record { verdict = Refused 22 (Quadword (quadwords 2)) (slots 0); fault = None }) ≡ ascii "verdict=22\nplace=2\nslot=0\nrule=clause-layout\nfound=-\nlimit=-\n"
unfolding explanation_bytes explanation_lines rule_word decimal decimal_within
clause_layout = refl

-- 0, the encoder's numbers, and the first behind the last word
numbers_without_a_word : (rule_word 0 ≡ "unknown") × (rule_word 20 ≡ "unknown") × (rule_word 21 ≡ "unknown") × (rule_word 23 ≡ "unknown")
unfolding rule_word
numbers_without_a_word = (refl, refl, refl, refl)

accepted_in_one_line : explanation_bytes (record { verdict = Accepted; fault = None }) ≡ ascii "verdict=0\n"
unfolding explanation_bytes explanation_lines decimal decimal_within
accepted_in_one_line = refl

-- ---- buffers: seven bytes of report, with room for one more, just enough, and one too few

more_than_enough : (written_of (ascii "slot=0\n") (ascii "12345678") ≡ Length 7) × (buffer_after (ascii "slot=0\n") (ascii "12345678") ≡ ascii "slot=0\n8")
unfolding written_of buffer_after
more_than_enough = (refl, refl)

just_enough : (written_of (ascii "slot=0\n") (ascii "1234567") ≡ Length 7) × (buffer_after (ascii "slot=0\n") (ascii "1234567") ≡ ascii "slot=0\n")
unfolding written_of buffer_after
just_enough = (refl, refl)

one_too_few : (written_of (ascii "slot=0\n") (ascii "123456") ≡ NoRoom) × (buffer_after (ascii "slot=0\n") (ascii "123456") ≡ ascii "123456")
unfolding written_of buffer_after
one_too_few = (refl, refl)
