-- What every taken number has, by one test that is computed over the table's rows. Assumes nothing.
use mathlib.Core.Path.{◌≡◌, refl, ap, sym, ◌∙◌}
use mathlib.Core.Bool.{Bool, true, false, cond, ◌&&◌, false≢true}
use mathlib.Core.List.{List, [], ◌∷◌}
use Prim.Native.Nat.{ℕ, ◌/◌, ◌≤◌, ◌<◌}
use lib.Dec.{eqb, ltb, leb}
use borrow.Author.Tests.{eqb-true, ltb-true, leb-true}
use Rattle.laws.proofs.OfTests.{both}
use Rattle.opcodes.specs.Table.{Row, lookup}
use Rattle.opcodes.specs.declared.cf.Control.TheVariants.{NotTaken}
use Rattle.opcodes.specs.Numbers.{cf_alu, cf, cf_alu_control, cf_control, is_taken}
use Rattle.opcodes.specs.Alu.{op2, op3, op2_class, op3_class, not_taken}
use Rattle.opcodes.specs.Alu as alu

-- every row's number passes the test q
abbrev each_number : {A : Type 0} → (ℕ → Bool) → List (Row A) → Bool
each_number q [] = true
each_number q (r ∷ rs) = q r.number && each_number q rs

-- a number for which the table has an answer that passes p, which the answer for numbers without a row does not, passes q
each_taken : {A : Type 0} (other : A) (p : A → Bool) → p other ≡ false → (q : ℕ → Bool) (rs : List (Row A)) → each_number q rs ≡ true → (n : ℕ) → p (lookup other rs n) ≡ true → q n ≡ true
each_taken other p f q [] h n t = absurd (false≢true (sym f ∙ t))
each_taken other p f q (r ∷ rs) h n t = by (eqb r.number n) refl t (each_taken other p f q rs halves.1 n)
  where
    halves : (q r.number ≡ true) × (each_number q rs ≡ true)
    halves = both (q r.number) (each_number q rs) h

    by : (b : Bool) → eqb r.number n ≡ b → p (cond b r.answer (lookup other rs n)) ≡ true → (p (lookup other rs n) ≡ true → q n ≡ true) → q n ≡ true
    by true e t k = ap q (sym (eqb-true r.number n e)) ∙ halves.0
    by false e t k = k t

-- an ALU clause opener's number has its highest bit, bit 29 of the word, set
pub cf_alu_number : (n : ℕ) → is_taken (cf_alu_control n) ≡ true → n / 8 ≡ 1
unfolding cf_alu_control cf_alu
cf_alu_number n t = eqb-true (n / 8) 1 (each_taken NotTaken is_taken refl (λ k. eqb (k / 8) 1) cf_alu refl n t)

-- any other control-flow number has it clear
pub cf_number : (n : ℕ) → is_taken (cf_control n) ≡ true → n < 64
unfolding cf_control cf
cf_number n t = ltb-true n 64 (each_taken NotTaken is_taken refl (λ k. ltb k 64) cf refl n t)

-- an OP2 number has its three highest bits clear, an OP3 number not all of its three
pub op2_number : (n : ℕ) → alu.is_taken (op2_class n) ≡ true → n < 256
unfolding op2_class op2
op2_number n t = ltb-true n 256 (each_taken not_taken alu.is_taken refl (λ k. ltb k 256) op2 refl n t)

pub op3_number : (n : ℕ) → alu.is_taken (op3_class n) ≡ true → 4 ≤ n
unfolding op3_class op3
op3_number n t = leb-true 4 n (each_taken not_taken alu.is_taken refl (λ k. leb 4 k) op3 refl n t)
