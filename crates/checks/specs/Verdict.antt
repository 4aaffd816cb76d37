-- The answer's number, place and slot: document 01's table, "Numbers and what they mean". A rule is its number there.
use Rattle.std.specs.Prelude.{ℕ, Bool, Result, Ok, Err, is_ok, ⊤}
use Rattle.units.specs.declared.Slots.{Slots}
use Rattle.units.specs.Units.{slots}
use Rattle.checks.specs.declared.Place.{Place}
use Rattle.checks.specs.declared.Place.TheVariants.{Whole, Line, Quadword}
use Rattle.checks.specs.declared.Refusal.{Refusal}

-- the code's type for it: `Ok`, or the refusal
abbrev pub Verdict : Type 0
Verdict = Result ⊤ Refusal

abbrev pub refusal : ℕ → Place → ℕ → Refusal
refusal rule place slot = record { rule = rule; place = place; slot = slots slot }

pattern abbrev pub Accepted : Verdict
Accepted = Ok (record {})

abbrev pub Refused : ℕ → Place → Slots → Verdict
Refused rule place slot = Err (record { rule = rule; place = place; slot = slot })

abbrev pub is_accepted : Verdict → Bool
is_accepted v = is_ok v

-- the place as a number: 0, the card's line, the control-flow quadword
abbrev pub line_or_quadword : Place → ℕ
line_or_quadword Whole = 0
line_or_quadword (Line n) = n
line_or_quadword (Quadword q) = q.0

-- the answer's three numbers; an accepted pack has 0, 0, 0
abbrev pub verdict_number : Verdict → ℕ
verdict_number (Ok t) = 0
verdict_number (Err r) = r.rule

abbrev pub verdict_place : Verdict → ℕ
verdict_place (Ok t) = 0
verdict_place (Err r) = line_or_quadword r.place

abbrev pub verdict_slot : Verdict → ℕ
verdict_slot (Ok t) = 0
verdict_slot (Err r) = r.slot.0
