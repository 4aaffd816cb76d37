-- The order of all checks, and the judgement: document 01, "Numbers and what they mean". Order: 1, 2, 3. Then first pass, CF positions
-- rising; at each, 4 to 17 rising, with 22 directly behind 6 (document 02, request 4). Only if the first pass is clean, second pass:
-- positions rising, 18 before 19.
use Rattle.std.specs.Prelude.{ℕ, suc, Bool, not, Option, Some, None, Ok, Err, List, [], ◌∷◌, ◌++◌}
use Rattle.units.specs.declared.Quadwords.{Quadwords}
use Rattle.units.specs.Units.{quadwords, slots, low_at, high_at}
use Rattle.checks.specs.declared.Place.TheVariants.{Whole, Line}
use Rattle.checks.specs.Verdict.{Verdict, Refused}
use Rattle.checks.specs.Checks.{Check, check, of_pair, first_broken, below}
use Rattle.card.specs.declared.Card.{Card}
use Rattle.card.specs.Card.{CardRead, figure_tests, card_of}
use Rattle.grants.specs.declared.Limits.{Limits}
use Rattle.fetches.specs.Fetches as fetches
use Rattle.clauses.specs.Clause as alu
use Rattle.section.specs.declared.Clause.{Clause}
use Rattle.section.specs.declared.Clause.TheVariants.{Alu, Fetch}
use Rattle.section.specs.Control.{control_at, end_of}
use Rattle.section.specs.Rules.{bad_length, no_end, is_not_taken, bad_field, clause_at, bad_range, bad_export}
use Rattle.apart.specs.Apart.{layout_checks}
use Rattle.walk.specs.Flow.{flow_at}
use Rattle.walk.specs.Rules.{stack_checks, second_checks}

-- ---- 1: a card line is missing, misspelt or out of range. Of a card by value only a figure can be wrong

unfoldable pub line_checks : List (ℕ × Bool) → List Check
line_checks [] = []
line_checks (t ∷ ts) = check 1 (Line t.0) (slots 0) (not t.1) ∷ line_checks ts

-- ---- 4 to 15, and 22, at place p of a section that ends at e

-- what is granted in a clause: the card's figures, and the modes of an ALU clause
abbrev pub limits_with : Card → ℕ → ℕ → Limits
limits_with card mode0 mode1 =
    record { gprs = card.gprs; temps = card.temps; consts = card.consts; mode0 = mode0; mode1 = mode1 }

abbrev pub limits_in : Card → Option Clause → Limits
limits_in card None = limits_with card 0 0
limits_in card (Some (Alu start n push mode0 mode1)) = limits_with card mode0 mode1
limits_in card (Some (Fetch start n kind)) = limits_with card 0 0

-- 8 to 15 in a clause
unfoldable pub clause_checks : Card → List ℕ → Quadwords → Option Clause → List Check
clause_checks card w place None = []
clause_checks card w place (Some (Alu start n push mode0 mode1)) =
    alu.clause_checks card.kind push (limits_with card mode0 mode1) w place start n
clause_checks card w place (Some (Fetch start n kind)) = fetches.clause_checks kind (limits_with card 0 0) w place start n

-- 4, 5, 6
unfoldable pub range_checks : Card → List ℕ → ℕ → ℕ → List Check
range_checks card w e p =
    of_pair 4 p (is_not_taken (control_at w p))
    ∷ of_pair 5 p (bad_field (control_at w p) (high_at w p))
    ∷ of_pair 6 p (bad_range (quadwords e) card.quads (clause_at w p))
    ∷ []

-- 7, then the clause
unfoldable pub inside_checks : Card → List ℕ → ℕ → List Check
inside_checks card w p =
    of_pair 7 p (bad_export (control_at w p) card.kind card.gprs (low_at w p) (high_at w p))
    ∷ clause_checks card w (quadwords p) (clause_at w p)

-- 4, 5, 6, then 22, then 7 and the clause
unfoldable pub pair_checks : Card → List ℕ → ℕ → ℕ → List Check
pair_checks card w e p = range_checks card w e p ++ (layout_checks (clause_at w) p ++ inside_checks card w p)

-- ---- all checks

-- the first pass at p: those, then 16 and 17
unfoldable pub first_checks : Card → List ℕ → ℕ → ℕ → List Check
first_checks card w e p = pair_checks card w e p ++ stack_checks card.stack e (flow_at w) p

unfoldable pub passes : Card → List ℕ → ℕ → List Check
passes card w e = below (first_checks card w e) (suc e) ++ below (second_checks e (flow_at w)) (suc e)

unfoldable pub checks : Card → List ℕ → List Check
checks card w =
    line_checks (figure_tests card)
    ++ (check 2 Whole (slots 0) (bad_length w card.quads) ∷ check 3 Whole (slots 0) (no_end w) ∷ passes card w (end_of w))

-- the verdict on a pack
unfoldable pub judgement : Card → List ℕ → Verdict
judgement card w = first_broken (checks card w)

-- on a card in bytes: the first line at fault is 1's place; what stands behind line 7 is not looked at
abbrev pub read_judgement : CardRead → List ℕ → Verdict
read_judgement (Err line) w = Refused 1 (Line line.0) (slots 0)
read_judgement (Ok (card, n)) w = judgement card w

unfoldable pub judgement_of_bytes : List ℕ → List ℕ → Verdict
judgement_of_bytes bytes w = read_judgement (card_of bytes) w
