-- Only pairs with bit 29 set open ALU clauses. Assumes nothing.
use mathlib.Core.Path.{◌≡◌, refl, sym, ap, ◌∙◌}
use mathlib.Core.Bool.{Bool, true, false, cond}
use mathlib.Core.List.{List, [], ◌∷◌}
use Prim.Native.Nat.{ℕ}
use lib.Dec.{eqb}
use Rattle.formats.specs.Fields.{◌of◌, CF_INST}
use Rattle.opcodes.specs.declared.cf.Control.{Control}
use Rattle.opcodes.specs.declared.cf.Control.TheVariants.{NotTaken, Nop, Fetch, Branch, Export, Alu}
use Rattle.opcodes.specs.Table.{Row, lookup}
use Rattle.opcodes.specs.Numbers.{cf, cf_control}
use Rattle.section.specs.Control.{is_alu_opener, control_of}

control_cf : (hi : ℕ) → is_alu_opener hi ≡ false → cf_control (CF_INST of hi) ≡ control_of hi
unfolding control_of
control_cf hi h = rw h

-- ---- CF_ALU pairs are those with bit 29 set, and no others

abbrev pub is_alu : Control → Bool
is_alu NotTaken = false
is_alu Nop = false
is_alu (Fetch kind) = false
is_alu (Branch b) = false
is_alu Export = false
is_alu (Alu push pops) = true

-- what every answer of a table has, and the answer for other numbers, the table has at each number
abbrev each : {A : Type 0} → (A → Bool) → List (Row A) → Type 0
each q [] = Unit {0}
each q (r ∷ rs) = (q r.answer ≡ false) × each q rs

at_each : {A : Type 0} (q : A → Bool) (other : A) → q other ≡ false → (rs : List (Row A)) → each q rs → (n : ℕ) → q (lookup other rs n) ≡ false
at_each q other e [] h n = e
at_each q other e (r ∷ rs) h n = by (eqb r.number n) (at_each q other e rs h.1 n)
  where
    by : (t : Bool) → q (lookup other rs n) ≡ false → q (cond t r.answer (lookup other rs n)) ≡ false
    by true k = h.0
    by false k = k

cf_not_alu : (n : ℕ) → is_alu (cf_control n) ≡ false
unfolding cf_control cf
cf_not_alu n =
    at_each is_alu NotTaken refl cf (refl, (refl, (refl, (refl, (refl, (refl, (refl, (refl, (refl, (refl, (refl, (refl, (refl, tt))))))))))))) n

-- a pair with bit 29 clear is no ALU clause opener, whatever its number
pub not_alu : (hi : ℕ) → is_alu_opener hi ≡ false → is_alu (control_of hi) ≡ false
not_alu hi h = ap is_alu (sym (control_cf hi h)) ∙ cf_not_alu (CF_INST of hi)
