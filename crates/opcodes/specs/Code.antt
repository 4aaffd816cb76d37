-- A class as a row of the code's table has it, and eight rows as one word. Only the code's contracts and proofs use this: which class a number
-- has is Alu's to say.
use Rattle.std.specs.Prelude.{ℕ, zero, suc, ◌+◌, ◌-◌, ◌*◌, ◌/◌, ◌%◌, ◌^◌, cond, List, [], ◌∷◌, eqb, ltb}
use Rattle.std.specs.Int.{w64, from_le_bytes}
use Rattle.opcodes.specs.declared.alu.Class.{Class}
use Rattle.opcodes.specs.declared.alu.Unit.{Unit}
use Rattle.opcodes.specs.declared.alu.Unit.TheVariants.{NotTaken, Any, Vector, Trans}
use Rattle.opcodes.specs.declared.alu.Issue.{Issue}
use Rattle.opcodes.specs.declared.alu.Issue.TheVariants.{Plain, Predicate, Kill, Mova, Reduction}
use Rattle.opcodes.specs.Alu.{op2_class, op3_class, not_taken, unit_number, issue_number}

-- bits 1:0 are the unit, 4:2 the issue kind, 6:5 how many sources are read
abbrev pub code_of : Class → ℕ
code_of c = unit_number c.unit + issue_number c.issue * 4 + c.sources * 32

-- the rows of m numbers from n on, in a table of f
abbrev pub rows_from : (ℕ → Class) → ℕ → ℕ → List ℕ
rows_from f n zero = []
rows_from f n (suc m) = code_of (f n) ∷ rows_from f (suc n) m

-- eight rows as one word, a byte each, the first lowest
unfoldable pub joined_of : List ℕ → ℕ
joined_of rows = from_le_bytes w64 rows

-- the rows of numbers 8 k to 8 k + 7
unfoldable pub eight : (ℕ → Class) → ℕ → ℕ
eight f k = joined_of (rows_from f (k * 8) 8)

-- the eights of OP2, then those of OP3
unfoldable pub eight_at : ℕ → ℕ
eight_at k = cond (ltb k 32) (eight op2_class k) (eight op3_class (k - 32))

-- the class at a place of both tables, one behind the other
unfoldable pub class_placed : ℕ → Class
class_placed i = cond (ltb i 256) (op2_class i) (op3_class (i - 256))

-- where the row of the number in bits 17:7 of a high word stands
unfoldable pub place_of : ℕ → ℕ
place_of n = cond (ltb n 256) n (256 + n / 64)

-- the class of an instruction by bits 17:7 of its high word: OP2 has its number there, OP3 in bits 17:13
unfoldable pub class_numbered : ℕ → Class
class_numbered n = cond (ltb n 256) (op2_class n) (op3_class (n / 64))

-- ---- and back

abbrev pub unit_numbered : ℕ → Unit
unit_numbered n = cond (eqb n 0) NotTaken (cond (eqb n 1) Any (cond (eqb n 2) Vector Trans))

abbrev pub issue_numbered : ℕ → Issue
issue_numbered n = cond (eqb n 0) Plain (cond (eqb n 1) Predicate (cond (eqb n 2) Kill (cond (eqb n 3) Mova Reduction)))

abbrev pub class_of_code : ℕ → Class
class_of_code c = record { unit = unit_numbered (c % 4); issue = issue_numbered (c % 32 / 4); sources = c / 32 }

-- the class in a row of such a word, of rows 0 to 7
unfoldable pub class_in : ℕ → ℕ → Class
class_in e row = class_of_code (e / 2 ^ (row * 8) % 256)

-- what a table of so many eights, from eight first on, has for n
abbrev pub looked_up : ℕ → ℕ → ℕ → Class
looked_up first eights n = cond (ltb (n / 8) eights) (class_in (eight_at (first + n / 8)) (n % 8)) not_taken
