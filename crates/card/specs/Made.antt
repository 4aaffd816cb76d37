-- A card that a caller makes: whether its figures are in range, and which line is the first whose figure isn't.
use Rattle.std.specs.Prelude.{ℕ, ◌+◌, ◌≤◌, Bool, cond, Result, Ok, List, [], ◌∷◌, ⊤}
use Rattle.card.specs.Card.{BadAt, figure_tests}
use Rattle.card.specs.declared.Card.{Card}
use Rattle.card.specs.declared.BadLine.{BadLine}

-- the code's type for the answer: in range, or the first line that isn't
abbrev pub CardTest : Type 0
CardTest = Result ⊤ BadLine

pattern abbrev pub InRange : CardTest
InRange = Ok (record {})

-- the first line whose test fails
abbrev pub first_not : List (ℕ × Bool) → CardTest
first_not [] = InRange
first_not (t ∷ ts) = cond t.1 (first_not ts) (BadAt t.0)

-- the card held to the table's limits
unfoldable pub test_of : Card → CardTest
test_of card = first_not (figure_tests card)

-- the same limits said of the figures
pub record Ranges (card : Card) : Type 0 where
  pub gprs_least : 1 ≤ card.gprs
  pub gprs_most : card.gprs ≤ 128
  pub temps_most : card.temps ≤ 4
  pub together_most : card.gprs + card.temps ≤ 128
  pub consts_most : card.consts ≤ 256
  pub stack_most : card.stack ≤ 32
  pub quads_least : 1 ≤ card.quads.0
  pub quads_most : card.quads.0 ≤ 8192
