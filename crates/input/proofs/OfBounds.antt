-- Few bits hold the number, the place and the slot of every verdict on an input, or on a card's file and a pack's; and so no report is longer
-- than 111 bytes. Assumes nothing.
use mathlib.Core.Path.{◌≡◌, refl}
use mathlib.Core.Bool.{Bool, true, false, cond}
use mathlib.Core.List.{List}
use lib.Dec.{eqb}
use lib.ListN.{length, drop}
use Prim.Native.Nat.{ℕ, suc, ◌≤◌}
use native.Mathlib.Omega.{arith}
use Rattle.std.specs.Prelude.{Err}
use Rattle.card.specs.Card.{CardRead, Whole, card_lines, card_of}
use Rattle.card.specs.Made.{CardTest, InRange, test_of}
use Rattle.card.specs.declared.Card.{Card}
use Rattle.card.proofs.OfCard.{bad_line_lem, bad_figure}
use Rattle.report.proofs.OfReport.{at_most_111_bytes}
use Rattle.judge.specs.Judge.{judgement}
use Rattle.judge.proofs.OfBounds.{Narrow, judgement_narrow, line_narrow}
use Rattle.input.specs.declared.Judged.{Judged}
use Rattle.input.specs.Words.{words_in}
use Rattle.input.specs.Input.{bad_length, right_length, by_test, pack_verdict, judged_by, without_card, behind_card, judged_of, beside_card, judged_of_files, report_on, report_of, report_of_files}

length_narrow : Narrow bad_length
length_narrow = record { number = omega arith; refused = λ z. absurd (omega arith); place = omega arith; slot = omega arith }

pack_narrow : (card : Card) (pack : List ℕ) → Narrow (pack_verdict card pack)
unfolding pack_verdict
pack_narrow card pack = by (test_of card) refl
  where
    by_right : (x : Bool) → Narrow (cond x (judgement card (words_in pack)) bad_length)
    by_right true = judgement_narrow card (words_in pack)
    by_right false = length_narrow

    by : (t : CardTest) → test_of card ≡ t → Narrow (by_test card pack t)
    by (Err bad) e = line_narrow bad.0 (omega (arith, (bad_figure card bad.0 e).1))
    by InRange e = by_right (right_length card.quads (length pack))

pub input_narrow : (input : List ℕ) → Narrow (judged_of input).verdict
unfolding judged_of
input_narrow input = by (card_of input) refl
  where
    by : (r : CardRead) → card_of input ≡ r → Narrow (behind_card input r).verdict
    by (Err bad) e = line_narrow bad.0 (omega (arith, (bad_line_lem input bad.0 e).1))
    by (Whole card n) e = pack_narrow card (drop n input)

pub files_narrow : (text pack : List ℕ) → Narrow (judged_of_files text pack).verdict
unfolding judged_of_files
files_narrow text pack = by (card_of text) refl
  where
    by_end : (card : Card) (x : Bool) → Narrow (cond x (judged_by card pack) (without_card (suc card_lines))).verdict
    by_end card true = pack_narrow card pack
    by_end card false = line_narrow (suc card_lines) (omega arith)

    by : (r : CardRead) → card_of text ≡ r → Narrow (beside_card text pack r).verdict
    by (Err bad) e = line_narrow bad.0 (omega (arith, (bad_line_lem text bad.0 e).1))
    by (Whole card n) e = by_end card (eqb n (length text))

-- ---- reports

short : (judged : Judged) → Narrow judged.verdict → length (report_on judged) ≤ 111
short judged narrow =
    at_most_111_bytes judged.build judged.verdict
    (omega (arith, narrow.number)) (omega (arith, narrow.place)) (omega (arith, narrow.slot))

pub report_short : (input : List ℕ) → length (report_of input) ≤ 111
unfolding report_of
report_short input = short (judged_of input) (input_narrow input)

pub files_report_short : (text pack : List ℕ) → length (report_of_files text pack) ≤ 111
unfolding report_of_files
files_report_short text pack = short (judged_of_files text pack) (files_narrow text pack)
