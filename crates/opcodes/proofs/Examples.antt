-- The tables by computation: how many numbers each class has, and that each number is listed once.
use mathlib.Core.Path.{◌≡◌, refl}
use mathlib.Core.Bool.{Bool, true, false, cond, not, ◌&&◌, ◌||◌}
use mathlib.Core.List.{List, [], ◌∷◌}
use Prim.Native.Nat.{ℕ, suc}
use lib.Dec.{eqb}
use lib.ListN.{length}
use Rattle.opcodes.specs.declared.alu.Class.{Class}
use Rattle.opcodes.specs.declared.alu.Unit.{Unit}
use Rattle.opcodes.specs.declared.alu.Unit.TheVariants.{Any, Vector, Trans}
use Rattle.opcodes.specs.declared.alu.Issue.{Issue}
use Rattle.opcodes.specs.declared.alu.Issue.TheVariants.{Predicate, Kill, Mova, Reduction}
use Rattle.opcodes.specs.Table.{Row}
use Rattle.opcodes.specs.Alu.{op2, op3, op2_class, op3_class, not_taken, is_unit, is_issue}
use Rattle.opcodes.specs.Numbers.{cf, cf_alu, texture_fetches}

-- no number of a table stands in it a second time
abbrev is_listed : {A : Type 0} → ℕ → List (Row A) → Bool
is_listed n [] = false
is_listed n (r ∷ rs) = eqb n r.number || is_listed n rs

abbrev once : {A : Type 0} → List (Row A) → Bool
once [] = true
once (r ∷ rs) = not (is_listed r.number rs) && once rs

abbrev count : (Class → Bool) → List (Row Class) → ℕ
count f [] = 0
count f (r ∷ rs) = cond (f r.answer) (suc (count f rs)) (count f rs)

abbrev of_unit : Unit → List (Row Class) → ℕ
of_unit u rs = count (λ c. is_unit c.unit u) rs

abbrev of_issue : Issue → List (Row Class) → ℕ
of_issue i rs = count (λ c. is_issue c.issue i) rs

op2_once : once op2 ≡ true
unfolding op2
op2_once = refl

op3_once : once op3 ≡ true
unfolding op3
op3_once = refl

cf_once : (once cf ≡ true) × (once cf_alu ≡ true) × (once texture_fetches ≡ true)
unfolding cf cf_alu texture_fetches
cf_once = (refl, refl, refl)

-- 96 OP2 numbers are taken: 67 in any unit, 8 vector only, 21 trans only
op2_units : (length op2 ≡ 96) × (of_unit Any op2 ≡ 67) × (of_unit Vector op2 ≡ 8) × (of_unit Trans op2 ≡ 21)
unfolding op2
op2_units = (refl, refl, refl, refl)

-- 24 predicate setters, 4 kills, 3 MOVA, 4 reductions
op2_issues : (of_issue Predicate op2 ≡ 24) × (of_issue Kill op2 ≡ 4) × (of_issue Mova op2 ≡ 3) × (of_issue Reduction op2 ≡ 4)
unfolding op2
op2_issues = (refl, refl, refl, refl)

-- 15 OP3 numbers are taken: 11 in any unit, 4 trans only
op3_units : (length op3 ≡ 15) × (of_unit Any op3 ≡ 11) × (of_unit Trans op3 ≡ 4)
unfolding op3
op3_units = (refl, refl, refl)

-- NOP has ADD's number in chapter 9, so 26 is not taken; 70 is a predicate setter; CNDE_INT is CMOVE_INT in chapter 9
nop : op2_class 26 ≡ not_taken
unfolding op2_class op2
nop = refl

setlt : op2_class 70 ≡ record { unit = Any; issue = Predicate; sources = 2 }
unfolding op2_class op2
setlt = refl

cnde_int : op3_class 28 ≡ not_taken
unfolding op3_class op3
cnde_int = refl
