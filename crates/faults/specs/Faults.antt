-- Found and limit: document 02, request 1. Found is the first number at fault, destination then sources, and limit the first one not granted
-- there: gprs, 128, 144, 160, 176, or 256 plus consts.
use Rattle.std.specs.Prelude.{ℕ, ◌+◌, cond, List, [], ◌∷◌, Option, Some, None}
use Rattle.checks.specs.declared.NotGranted.{NotGranted}
use Rattle.grants.specs.declared.Limits.{Limits}
use Rattle.grants.specs.Grants.{Name, register, alu_register, set0, set1, constant, locked, granted}

-- the number that stands in the field of an operand that names this
abbrev pub number_of : Name → ℕ
number_of (register r) = r
number_of (alu_register r) = r
number_of (set0 k) = 128 + k
number_of (set1 k) = 160 + k
number_of (constant k) = 256 + k

-- the k-th name of the same sort
abbrev pub same_sort : Name → ℕ → Name
same_sort (register r) k = register k
same_sort (alu_register r) k = alu_register k
same_sort (set0 j) k = set0 k
same_sort (set1 j) k = set1 k
same_sort (constant j) k = constant k

-- so many of its sort are granted from the first on. (An ALU instruction's clause temporaries are not: they are granted from register 127 down)
abbrev pub granted_of_sort : Limits → Name → ℕ
granted_of_sort l (register r) = l.gprs
granted_of_sort l (alu_register r) = l.gprs
granted_of_sort l (set0 k) = locked l.mode0
granted_of_sort l (set1 k) = locked l.mode1
granted_of_sort l (constant k) = l.consts

abbrev pub limit_of : Limits → Name → ℕ
limit_of l n = number_of (same_sort n (granted_of_sort l n))

-- a number at fault, and the first of its sort that is not granted
abbrev pub at_fault : ℕ → ℕ → Option NotGranted
at_fault found limit = Some (record { found = found; limit = limit })

-- the first of some names that is not granted
unfoldable pub first_fault : Limits → List Name → Option NotGranted
first_fault l [] = None
first_fault l (n ∷ ns) = cond (granted l n) (first_fault l ns) (at_fault (number_of n) (limit_of l n))
