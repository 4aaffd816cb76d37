-- The order of checks: a list of them, in document 01's order, and the verdict that it gives. Nothing here knows a rule.
use Rattle.std.specs.Prelude.{ℕ, zero, suc, Bool, cond, List, [], ◌∷◌, ◌++◌}
use Rattle.units.specs.declared.Slots.{Slots}
use Rattle.units.specs.Units.{quadwords, slots}
use Rattle.checks.specs.declared.Place.{Place}
use Rattle.checks.specs.declared.Place.TheVariants.{Quadword}
use Rattle.checks.specs.Verdict.{Verdict, Accepted, Refused}

-- one rule asked at one place and slot, and whether it is broken there
pub record Check : Type 0 where
  pub rule : ℕ
  pub place : Place
  pub slot : Slots
  pub broken : Bool

abbrev pub check : ℕ → Place → Slots → Bool → Check
check r p s b = record { rule = r; place = p; slot = s; broken = b }

-- one asked of the control-flow pair at quadword p as a whole
abbrev pub of_pair : ℕ → ℕ → Bool → Check
of_pair r p b = check r (Quadword (quadwords p)) (slots 0) b

-- the verdict of a list of checks: the first broken one, Accepted where there is none
unfoldable pub first_broken : List Check → Verdict
first_broken [] = Accepted
first_broken (c ∷ cs) = cond c.broken (Refused c.rule c.place c.slot) (first_broken cs)

-- the checks of the positions below n, positions rising
unfoldable pub below : (ℕ → List Check) → ℕ → List Check
below f zero = []
below f (suc n) = below f n ++ f n
