-- What the code's parts answer. It is for the code alone.
use Rattle.std.specs.Prelude.{ℕ, cond, Option, Some, None, Err}
use Rattle.units.specs.declared.Slots.{Slots}
use Rattle.checks.specs.declared.Place.{Place}
use Rattle.checks.specs.declared.Place.TheVariants as place
use Rattle.checks.specs.Verdict.{Verdict, Accepted}
use Rattle.explain.specs.declared.instruction.Asked.{Asked}
use Rattle.explain.specs.Explain.{asks_names}

-- the instruction that a refusal is about
abbrev pub asked_there : ℕ → Place → Slots → Option Asked
asked_there rule place.Whole slot = None
asked_there rule (place.Line n) slot = None
asked_there rule (place.Quadword q) slot = cond (asks_names rule) (Some (record { opener = q; slot = slot })) None

abbrev pub asked_by : Verdict → Option Asked
asked_by Accepted = None
asked_by (Err refusal) = asked_there refusal.rule refusal.place refusal.slot
