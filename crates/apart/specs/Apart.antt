-- Rule 22: document 02, request 4. A fetch clause starts at an even quadword, and two clauses are either the same range or disjoint. It is
-- asked of a clause against those of earlier positions only.
use Rattle.std.specs.Prelude.{ℕ, ◌%◌, ◌≤◌, ◌≡◌, Bool, false, not, ◌&&◌, ◌||◌, Option, Some, None, List, [], ◌∷◌, ◌⊎◌, eqb}
use Rattle.units.specs.declared.Quadwords.{Quadwords}
use Rattle.units.specs.Units.{quadwords, range_end, is_at_most}
use Rattle.checks.specs.Checks.{Check, of_pair, below}
use Rattle.section.specs.declared.Clause.{Clause}
use Rattle.section.specs.declared.Clause.TheVariants.{Alu, Fetch}
use Rattle.section.specs.Rules.{range_of}

-- ---- the range of the clause that a pair opens, and the quadword behind it. Where none is opened it has no quadword

abbrev pub start_of : Option Clause → Quadwords
start_of None = quadwords 0
start_of (Some c) = (range_of c).start

abbrev pub length_of : Option Clause → Quadwords
length_of None = quadwords 0
length_of (Some c) = (range_of c).size

abbrev pub behind : Option Clause → Quadwords
behind k = range_end (start_of k) (length_of k)

-- ---- two clauses

-- the same range, whatever their kinds
unfoldable pub same_range : Option Clause → Option Clause → Bool
same_range a b = eqb (start_of a).0 (start_of b).0 && eqb (length_of a).0 (length_of b).0

-- no quadword in common: one ends by the other's start
unfoldable pub disjoint : Option Clause → Option Clause → Bool
disjoint a b = is_at_most (behind a) (start_of b) || is_at_most (behind b) (start_of a)

unfoldable pub half_shared : Option Clause → Option Clause → Bool
half_shared a b = not (same_range a b || disjoint a b)

-- ---- 22

-- a fetch clause that starts at an odd quadword
unfoldable pub odd_fetch : Option Clause → Bool
odd_fetch None = false
odd_fetch (Some (Alu start n push mode0 mode1)) = false
odd_fetch (Some (Fetch start n kind)) = eqb (start.0 % 2) 1

-- the clause that the pair at p opens against each that an earlier pair opens
unfoldable pub shared_checks : (ℕ → Option Clause) → ℕ → List Check
shared_checks opens p = below (λ q. of_pair 22 p (half_shared (opens q) (opens p)) ∷ []) p

unfoldable pub layout_checks : (ℕ → Option Clause) → ℕ → List Check
layout_checks opens p = of_pair 22 p (odd_fetch (opens p)) ∷ shared_checks opens p

-- ---- what the laws say of two clauses of an accepted pack (proofs/OfApart.antt, and `judge`'s OfSafe.antt)

abbrev pub SameOrDisjoint : Option Clause → Option Clause → Type 0
SameOrDisjoint a b =
    (((start_of a).0 ≡ (start_of b).0) × ((length_of a).0 ≡ (length_of b).0)) ⊎ (((behind a).0 ≤ (start_of b).0) ⊎ ((behind b).0 ≤ (start_of a).0))
