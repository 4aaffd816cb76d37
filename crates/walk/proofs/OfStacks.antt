-- Marks over a base: what a pop finds, and when two such stacks are the same. By induction on the marks. Assumes nothing.
use Prim.Native.Nat.{ℕ, zero, suc, ◌<◌, ◌≤◌, ◌+◌, ◌-◌}
use mathlib.Core.Path.{◌≡◌, refl, sym, ◌∙◌, ap}
use mathlib.Core.Bool.{Bool, true, false, ◌&&◌, and-false, and-true}
use mathlib.Core.List.{[], ◌∷◌}
use lib.ListN.{length}
use lib.Dec.{eqb, eqb-zero-suc, eqb-suc-zero, eqb-suc-suc}
use borrow.Author.Tests.{eq-eqb, eqb-true}
use native.Mathlib.Omega.{arith}
use native.Mathlib.Nat.{not-suc-le-zero, sub-zero, suc-sub-suc, le_of_suc-le-suc}
use Rattle.walk.specs.declared.Flow.{Flow}
use Rattle.walk.specs.Flow.{M, L, Stack, lacks, goes, pop_to, stack_at}
use Rattle.walk.specs.Rules.{same_frame, same_stack, on_top}
use Rattle.walk.specs.CodeHeld.{marked, base}

pub length_marked : (m : ℕ) (s : Stack) → length (marked m s) ≡ m + length s
unfolding marked
length_marked zero s = omega arith
length_marked (suc m) s = omega (arith, length_marked m s)

-- enough marks: the pop goes
pub pop_enough : (t n m : ℕ) (s : Stack) → n ≤ m → pop_to t n (marked m s) ≡ goes t (marked (m - n) s)
unfolding pop_to marked
pop_enough t zero m s l = rw sub-zero
pop_enough t (suc n) zero s l = absurd (not-suc-le-zero l)
pop_enough t (suc n) (suc m) s l = rw suc-sub-suc (pop_enough t n m s (le_of_suc-le-suc l))

-- too few: it lacks a frame, since a base has no mark on top
pub pop_short : (t n m : ℕ) (code : ℕ → Flow) (top : ℕ) → m < n → pop_to t n (marked m (base code top)) ≡ lacks
unfolding pop_to marked base
pop_short t zero m code top l = absurd (not-suc-le-zero l)
pop_short t (suc n) zero code zero l = refl
pop_short t (suc n) zero code (suc q) l = refl
pop_short t (suc n) (suc m) code top l = pop_short t n m code top (le_of_suc-le-suc l)

same_self : (s : Stack) → same_stack s s ≡ true
unfolding same_stack same_frame
same_self [] = refl
same_self (M ∷ s) = same_self s
same_self (L q ∷ s) = rw (eq-eqb q q refl) (same_self s)

-- stacks that compare as the same are equal
pub same_is : (s t : Stack) → same_stack s t ≡ true → s ≡ t
unfolding same_stack same_frame
same_is [] [] h = refl
same_is [] (g ∷ t) h = cc
same_is (f ∷ s) [] h = cc
same_is (M ∷ s) (M ∷ t) h = ap (λ (k : Stack). M ∷ k) (same_is s t h)
same_is (M ∷ s) (L r ∷ t) h = cc
same_is (L q ∷ s) (M ∷ t) h = cc
same_is (L q ∷ s) (L r ∷ t) h = by (eqb q r) refl h (λ k. same_is s t k)
  where
    by : (b : Bool) → eqb q r ≡ b → (b && same_stack s t) ≡ true → (same_stack s t ≡ true → s ≡ t) → L q ∷ s ≡ L r ∷ t
    by true e h rest = ap (λ (k : ℕ). L k ∷ s) (eqb-true q r e) ∙ ap (λ (k : Stack). L r ∷ k) (rest h)
    by false e h rest = cc

-- two stacks of two numbers each: one test for each number
pub same_marked : (code : ℕ → Flow) (m n a b : ℕ)
    → same_stack (marked m (base code a)) (marked n (base code b)) ≡ (eqb a b && eqb m n)
unfolding same_stack same_frame marked base
same_marked code zero zero zero zero = refl
same_marked code zero zero zero (suc r) = rw eqb-zero-suc
same_marked code zero zero (suc q) zero = rw eqb-suc-zero
same_marked code zero zero (suc q) (suc r) = rw eqb-suc-suc (by (eqb q r) refl)
  where
    by : (t : Bool) → eqb q r ≡ t → (t && same_stack (stack_at code q) (stack_at code r)) ≡ (t && true)
    by true e = ap (λ (k : ℕ). same_stack (stack_at code q) (stack_at code k)) (sym (eqb-true q r e)) ∙ same_self (stack_at code q)
    by false e = refl
same_marked code zero (suc n) zero b = rw (eqb-zero-suc n, and-false)
same_marked code zero (suc n) (suc q) b = rw (eqb-zero-suc n, and-false)
same_marked code (suc m) zero a zero = rw (eqb-suc-zero m, and-false)
same_marked code (suc m) zero a (suc r) = rw (eqb-suc-zero m, and-false)
same_marked code (suc m) (suc n) a b = rw (eqb-suc-suc m n) (same_marked code m n a b)

-- a loop frame on top
pub on_top_lem : (code : ℕ → Flow) (p m a : ℕ) → on_top p (marked m (base code a)) ≡ (eqb (suc p) a && eqb 0 m)
unfolding on_top same_frame marked base
on_top_lem code p zero zero = rw (eqb-suc-zero p)
on_top_lem code p zero (suc q) = rw (eqb-suc-suc p q, and-true)
on_top_lem code p (suc m) a = rw (eqb-zero-suc m, and-false)
