-- Worked examples of rule 22, by computation. Assumes nothing.
use Prim.Native.Nat.{ℕ}
use mathlib.Core.Path.{◌≡◌, refl}
use mathlib.Core.Bool.{Bool, true, false, not}
use mathlib.Core.List.{[], ◌∷◌, map}
use lib.ListN.{get_or}
use Rattle.std.specs.Prelude.{Option, Some, None}
use Rattle.units.specs.Units.{quadwords, slots}
use Rattle.checks.specs.Verdict.{is_accepted}
use Rattle.checks.specs.Checks.{first_broken, below}
use Rattle.opcodes.specs.declared.cf.FetchKind.TheVariants.{Texture}
use Rattle.section.specs.declared.Clause.{Clause}
use Rattle.section.specs.declared.Clause.TheVariants.{Alu, Fetch}
use Rattle.apart.specs.Apart.{same_range, disjoint, half_shared, odd_fetch, shared_checks, layout_checks}

-- a clause of n slots, or of n fetches, from a quadword on
abbrev alu : ℕ → ℕ → Option Clause
alu start n = Some (Alu (quadwords start) (slots n) false 0 0)

abbrev fetches : ℕ → ℕ → Option Clause
fetches start n = Some (Fetch (quadwords start) (slots n) Texture)

-- whether the rule refuses the third of three
abbrev third_refused : Option Clause × Option Clause × Option Clause → Bool
third_refused k = not (is_accepted (first_broken (layout_checks (λ q. get_or (k.0 ∷ k.1 ∷ k.2 ∷ []) q None) 2)))

-- behind 8 to 11: touching it, in its tail, the same; around it; its head, with another between; of another kind, the same; odd, of fetches and of slots
table :
    map third_refused
    ((alu 8 4, alu 20 4, alu 12 4)
    ∷ (alu 8 4, alu 20 4, alu 10 4)
    ∷ (alu 8 4, alu 20 4, alu 8 4)
    ∷ (alu 8 4, alu 20 4, alu 7 6)
    ∷ (alu 8 4, alu 20 4, alu 8 3)
    ∷ (alu 8 4, None, fetches 8 2)
    ∷ (alu 8 4, None, fetches 13 2)
    ∷ (alu 8 4, None, alu 13 2)
    ∷ [])
    ≡ false ∷ true ∷ false ∷ true ∷ true ∷ false ∷ true ∷ false ∷ []
unfolding first_broken below same_range disjoint half_shared odd_fetch shared_checks layout_checks
table = refl
