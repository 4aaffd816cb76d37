-- A card and a pack, one behind the other or each in a file, and what is answered to them: document 01, "What the judge reads", with the
-- numbers 1 and 2 of "Numbers and what they mean". Every other number is the judge's.
use Rattle.std.specs.Prelude.{ℕ, suc, ◌*◌, ◌≡◌, Bool, cond, Option, Some, None, Err, List, [], eqb, length, drop}
use Rattle.units.specs.Units.{slots}
use Rattle.units.specs.declared.Quadwords.{Quadwords}
use Rattle.checks.specs.declared.Place.TheVariants as place
use Rattle.checks.specs.Verdict.{Verdict, Refused}
use Rattle.card.specs.Text.{behind, line_of}
use Rattle.card.specs.Card.{CardRead, Whole, card_lines, card_of}
use Rattle.card.specs.Made.{CardTest, InRange, test_of}
use Rattle.card.specs.declared.Build.{Build}
use Rattle.card.specs.declared.Card.{Card}
use Rattle.report.specs.Report.{report_bytes}
use Rattle.judge.specs.Judge.{judgement}
use Rattle.input.specs.Words.{words_in}
use Rattle.input.specs.declared.Judged.{Judged}

-- ---- what is answered

-- a build and a verdict, which the report is made of
abbrev pub answer : Option Build → Verdict → Judged
answer build verdict = record { build = build; verdict = verdict }

-- 1: a card line is missing, misspelt or out of range; the place is the first such line
abbrev pub bad_line : ℕ → Verdict
bad_line n = Refused 1 (place.Line n) (slots 0)

-- 2: length is not 8 times quads bytes
abbrev pub bad_length : Verdict
bad_length = Refused 2 place.Whole (slots 0)

-- ---- the pack

-- the pack must be 8 times quads bytes and no more
abbrev pub right_length : Quadwords → ℕ → Bool
right_length quads bytes = eqb bytes (8 * quads.0)

-- Order: 1, 2, and then the judge's numbers. A card that a caller makes may have a line out of range; one that was read has none
abbrev pub by_test : Card → List ℕ → CardTest → Verdict
by_test card pack (Err bad) = bad_line bad.0
by_test card pack InRange = cond (right_length card.quads (length pack)) (judgement card (words_in pack)) bad_length

-- the verdict on a pack in bytes, by any card
unfoldable pub pack_verdict : Card → List ℕ → Verdict
pack_verdict card pack = by_test card pack (test_of card)

-- ---- the card and the pack

-- by a card that was read: its build, and the verdict on the pack
abbrev pub judged_by : Card → List ℕ → Judged
judged_by card pack = answer (Some card.build) (pack_verdict card pack)

-- by no card: 1, with the build unknown
abbrev pub without_card : ℕ → Judged
without_card n = answer None (bad_line n)

-- one behind the other, as the program reads them from standard input: what stands behind the card is the pack
abbrev pub behind_card : List ℕ → CardRead → Judged
behind_card input (Whole card taken) = judged_by card (drop taken input)
behind_card input (Err bad) = without_card bad.0

-- what is answered to an input
unfoldable pub judged_of : List ℕ → Judged
judged_of input = behind_card input (card_of input)

-- each in a file of its own: in the card's nothing stands behind its lines, or else it is 1 at the line behind them
abbrev pub beside_card : List ℕ → List ℕ → CardRead → Judged
beside_card text pack (Whole card taken) = cond (eqb taken (length text)) (judged_by card pack) (without_card (suc card_lines))
beside_card text pack (Err bad) = without_card bad.0

-- what is answered to a card's file and a pack's
unfoldable pub judged_of_files : List ℕ → List ℕ → Judged
judged_of_files text pack = beside_card text pack (card_of text)

-- a card's file that has all its lines, right or wrong, each ended by its line feed, and nothing behind them
pub record AllLines (text : List ℕ) : Type 0 where
  pub last : List ℕ
  pub is_there : line_of card_lines text ≡ Some last
  pub none_behind : behind card_lines text ≡ []

-- ---- the report

-- the report on an answer
abbrev pub report_on : Judged → List ℕ
report_on judged = report_bytes judged.build judged.verdict

-- the report on an input
unfoldable pub report_of : List ℕ → List ℕ
report_of input = report_on (judged_of input)

-- the report on a card's file and a pack's
unfoldable pub report_of_files : List ℕ → List ℕ → List ℕ
report_of_files text pack = report_on (judged_of_files text pack)
