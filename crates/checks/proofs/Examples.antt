-- Worked examples, by computation: the order of the list decides, and not the rule's number.
use mathlib.Core.Path.{◌≡◌, refl}
use mathlib.Core.Bool.{Bool, true, false}
use mathlib.Core.List.{List, [], ◌∷◌}
use Prim.Native.Nat.{ℕ}
use Rattle.units.specs.Units.{quadwords, slots}
use Rattle.checks.specs.declared.Place.TheVariants.{Quadword}
use Rattle.checks.specs.Verdict.{Verdict}
use Rattle.checks.specs.Verdict.{verdict_number, verdict_place, verdict_slot}
use Rattle.checks.specs.Checks.{Check, check, first_broken}

-- 5 at quadword 0; 15 at quadword 0, slot 3; 6 at quadword 40
abbrev three : Bool → Bool → Bool → List Check
three field grant range =
    check 5 (Quadword (quadwords 0)) (slots 0) field
    ∷ check 15 (Quadword (quadwords 0)) (slots 3) grant
    ∷ check 6 (Quadword (quadwords 40)) (slots 0) range
    ∷ []

-- a verdict as the report has it
abbrev reported : Verdict → List ℕ
reported v = verdict_number v ∷ verdict_place v ∷ verdict_slot v ∷ []

none_broken : reported (first_broken (three false false false)) ≡ 0 ∷ 0 ∷ 0 ∷ []
unfolding first_broken
none_broken = refl

last_broken : reported (first_broken (three false false true)) ≡ 6 ∷ 40 ∷ 0 ∷ []
unfolding first_broken
last_broken = refl

-- 15 comes before 6 here, since its place comes first
two_broken : reported (first_broken (three false true true)) ≡ 15 ∷ 0 ∷ 3 ∷ []
unfolding first_broken
two_broken = refl

all_broken : reported (first_broken (three true true true)) ≡ 5 ∷ 0 ∷ 0 ∷ []
unfolding first_broken
all_broken = refl
