-- What release=yes in a report stands for: document 01, "What the judge reads". release is yes exactly if verdict is 0 and build is
-- production, else no.
use Rattle.std.specs.Prelude.{◌≡◌, ◌↔◌, ℕ, ◌*◌, length}
use mathlib.Core.List.{List, ◌++◌, Memᴰ}
use Rattle.checks.specs.Verdict.{Accepted}
use Rattle.card.specs.Made.{Ranges}
use Rattle.card.specs.Written.{written}
use Rattle.card.specs.declared.Build.TheVariants.{Production}
use Rattle.card.specs.declared.Card.{Card}
use Rattle.ascii.specs.Ascii.{ascii}
use Rattle.report.specs.Report.{lines_of}
use Rattle.judge.specs.Judge.{judgement}
use Rattle.judge.specs.Safe.{Safely}
use Rattle.input.specs.Words.{words_in}

-- the text is that of a production card in range, and the pack has the card's length and words that the judge accepts
pub record Released (text pack : List ℕ) : Type 0 where
  pub card : Card
  pub is_card : text ≡ written card
  pub in_range : Ranges card
  pub production : card.build ≡ Production
  pub length_is_right : length pack ≡ 8 * card.quads.0
  pub accepted : judgement card (words_in pack) ≡ Accepted

-- the input is such a text, and behind it such a pack
pub record ReleasedInput (input : List ℕ) : Type 0 where
  pub text : List ℕ
  pub pack : List ℕ
  pub is_both : input ≡ text ++ pack
  pub released : Released text pack

-- the line release=yes is one of a report's lines
abbrev pub SaysYes : List ℕ → Type 0
SaysYes report = Memᴰ (ascii "release=yes\n") (lines_of report)

-- what the bytes of a report on a card's file and a pack's tell
pub record FilesTold (text pack report : List ℕ) : Type 0 where
  -- release=yes exactly if they are released
  pub yes_exactly_if : SaysYes report ↔ Released text pack
  -- and then, whatever the answers, the walk of that pack by that card is safe (demand 3)
  pub then_safe : (r : Released text pack) → Safely r.card (words_in pack)

-- what the bytes of a report on an input tell: the same of the card and the pack that it is
pub record ReleaseTold (input report : List ℕ) : Type 0 where
  pub yes_exactly_if : SaysYes report ↔ ReleasedInput input
  pub then_safe : (r : ReleasedInput input) → Safely r.released.card (words_in r.pack)
