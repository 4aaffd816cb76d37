-- What the laws of proofs/OfChecks.antt say of a list of checks.
use Rattle.std.specs.Prelude.{ℕ, ◌≡◌, true, false}
use mathlib.Core.List.{List, [], ◌∷◌, ◌++◌, Memᴰ}
use Rattle.units.specs.declared.Slots.{Slots}
use Rattle.checks.specs.declared.Place.{Place}
use Rattle.checks.specs.Checks.{Check, check}

-- no check of the list is broken
abbrev pub Unbroken : List Check → Type 0
Unbroken cs = (c : Check) → Memᴰ c cs → c.broken ≡ false

-- the list has a broken check of that rule, place and slot, and none before it is broken
pub record BrokenFirst (cs : List Check) (r : ℕ) (p : Place) (s : Slots) : Type 0 where
  pub earlier : List Check
  pub later : List Check
  pub parts : cs ≡ earlier ++ (check r p s true ∷ later)
  pub none_earlier : Unbroken earlier

-- the second check asks the same rule at the same place and slot, and is broken only where the first is
pub record Eases (c d : Check) : Type 0 where
  pub same_rule : d.rule ≡ c.rule
  pub same_place : d.place ≡ c.place
  pub same_slot : d.slot ≡ c.slot
  pub no_harder : d.broken ≡ true → c.broken ≡ true

-- the same of two lists, check by check
pub data EachEases : List Check → List Check → Type 0 where
  none_left : EachEases [] []
  and_then : {c d : Check} {cs ds : List Check} → Eases c d → EachEases cs ds → EachEases (c ∷ cs) (d ∷ ds)
