-- The first name at fault: lists one behind the other, and a source by its number. Assumes nothing.
use mathlib.Core.Path.{◌≡◌, refl}
use mathlib.Core.Bool.{Bool, true, false, cond}
use mathlib.Core.List.{List, [], ◌∷◌, ◌++◌}
use Rattle.std.specs.Option.{option_or}
use Rattle.grants.specs.declared.Limits.{Limits}
use Rattle.grants.specs.Grants.{Name, granted}
use Rattle.faults.specs.Faults.{number_of, limit_of, at_fault, first_fault}

-- one list behind the other
pub joined_fault : (l : Limits) (a b : List Name) → first_fault l (a ++ b) ≡ option_or (first_fault l a) (first_fault l b)
unfolding first_fault
joined_fault l [] b = refl
joined_fault l (n ∷ a) b = by (granted l n) (joined_fault l a b)
  where
    by :
        (t : Bool) → first_fault l (a ++ b) ≡ option_or (first_fault l a) (first_fault l b)
        → cond t (first_fault l (a ++ b)) (at_fault (number_of n) (limit_of l n))
        ≡ option_or (cond t (first_fault l a) (at_fault (number_of n) (limit_of l n))) (first_fault l b)
    by true h = h
    by false h = refl
