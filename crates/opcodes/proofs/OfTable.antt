-- The rows of the code's table are the definition's, by tests that are computed, and what is looked up in them is the definition's answer.
-- Assumes nothing.
use mathlib.Core.Path.{◌≡◌, refl, ap, sym, ◌∙◌}
use mathlib.Core.Bool.{Bool, true, false, cond}
use mathlib.Core.List.{List, [], ◌∷◌}
use Prim.Native.Nat.{ℕ, suc, ◌+◌, ◌-◌, ◌*◌, ◌/◌, ◌%◌, ◌^◌, ◌<◌, ◌≤◌}
use native.Mathlib.Omega.{arith}
use lib.Dec.{eqb, ltb}
use lib.ListN.{length}
use borrow.Author.Tests.{eqb-true, ltb-true, ltb-false, lt-ltb, le-ltb}
use Rattle.laws.proofs.OfTests.{by_test_lem}
use Rattle.opcodes.specs.declared.alu.Class.{Class}
use Rattle.opcodes.specs.Alu.{op2, op3, op2_class, op3_class, not_taken}
use Rattle.opcodes.specs.Code.{code_of, rows_from, joined_of, eight, eight_at, class_in, looked_up, place_of, class_placed, class_numbered}
use Rattle.opcodes.proofs.OfRuns.{Listed, behind, same_below}

-- the numbers whose row is not the one that f has for them, where the rows are those of n, n + 1, ..
abbrev pub wrong_rows : (ℕ → Class) → ℕ → List ℕ → List ℕ
wrong_rows f n [] = []
wrong_rows f n (row ∷ rows) = cond (eqb row (code_of (f n))) (wrong_rows f (suc n) rows) (n ∷ wrong_rows f (suc n) rows)

none_wrong : (f : ℕ → Class) (n : ℕ) (rows : List ℕ) → wrong_rows f n rows ≡ [] → rows ≡ rows_from f n (length rows)
none_wrong f n [] e = refl
none_wrong f n (row ∷ rows) e = by (eqb row (code_of (f n))) refl e (none_wrong f (suc n) rows)
  where
    by : (b : Bool) → eqb row (code_of (f n)) ≡ b → cond b (wrong_rows f (suc n) rows) (n ∷ wrong_rows f (suc n) rows) ≡ [] → (wrong_rows f (suc n) rows ≡ [] → rows ≡ rows_from f (suc n) (length rows)) → row ∷ rows ≡ rows_from f n (suc (length rows))
    by true t e rest = λ i. eqb-true row (code_of (f n)) t i ∷ rest e i
    by false t e rest = absurd (omega (arith, ap length e))

-- eight rows none of which is wrong are, joined, what the code's contracts say
rows_right : (f : ℕ → Class) (k : ℕ) (rows : List ℕ) {r : ℕ} → r ≡ joined_of rows → length rows ≡ 8 → wrong_rows f (k * 8) rows ≡ [] → r ≡ eight f k
unfolding eight
rows_right f k rows p l e = p ∙ ap joined_of (none_wrong f (k * 8) rows e ∙ ap (rows_from f (k * 8)) l)

pub eight_of_op2 : (k : ℕ) → k < 32 → eight_at k ≡ eight op2_class k
unfolding eight_at
eight_of_op2 k h = rw (lt-ltb k 32 h)

pub eight_of_op3 : (k : ℕ) → eight_at (32 + k) ≡ eight op3_class k
unfolding eight_at
eight_of_op3 k = let m : 32 ≤ 32 + k = omega arith in let e : 32 + k - 32 ≡ k = omega arith in rw (le-ltb (32 + k) 32 m, e)

-- in the match: of the first 32, and of the four behind them
pub op2_rows : (k : ℕ) (rows : List ℕ) {j r : ℕ} → j ≡ k → r ≡ joined_of rows → length rows ≡ 8 → k < 32 → wrong_rows op2_class (k * 8) rows ≡ [] → r ≡ eight_at j
op2_rows k rows q p l h e = rows_right op2_class k rows p l e ∙ sym (eight_of_op2 k h) ∙ ap eight_at (sym q)

pub op3_rows : (k : ℕ) (rows : List ℕ) {j r : ℕ} → j ≡ 32 + k → r ≡ joined_of rows → length rows ≡ 8 → wrong_rows op3_class (k * 8) rows ≡ [] → r ≡ eight_at j
op3_rows k rows q p l e = rows_right op3_class k rows p l e ∙ sym (eight_of_op3 k) ∙ ap eight_at (sym q)

-- what is looked up is the definition's answer: at each number of the table by one test over all of them, and behind it the definition has none
listed_op2 : Listed not_taken op2 op2_class
unfolding op2_class
listed_op2 = record { agrees = λ k. refl }

listed_op3 : Listed not_taken op3 op3_class
unfolding op3_class
listed_op3 = record { agrees = λ k. refl }

within_op2 : (n : ℕ) → n < 256 → looked_up 0 32 n ≡ op2_class n
unfolding class_in eight_at joined_of eight op2_class op2
within_op2 n h = same_below (looked_up 0 32) op2_class 256 refl n h

within_op3 : (n : ℕ) → n < 32 → looked_up 32 4 n ≡ op3_class n
unfolding class_in eight_at joined_of eight op3_class op3
within_op3 n h = same_below (looked_up 32 4) op3_class 32 refl n h

behind_op2 : (n : ℕ) → 256 ≤ n → looked_up 0 32 n ≡ op2_class n
unfolding op2
behind_op2 n h = rw (le-ltb (n / 8) 32 (omega arith)) (behind listed_op2 256 refl n h)

behind_op3 : (n : ℕ) → 32 ≤ n → looked_up 32 4 n ≡ op3_class n
unfolding op3
behind_op3 n h = rw (le-ltb (n / 8) 4 (omega arith)) (behind listed_op3 32 refl n h)

pub op2_looked_up : (n : ℕ) → looked_up 0 32 n ≡ op2_class n
op2_looked_up n =
    by_test_lem (ltb n 256) (λ t. within_op2 n (ltb-true n 256 t)) (λ t. behind_op2 n (ltb-false n 256 t))

pub op3_looked_up : (n : ℕ) → looked_up 32 4 n ≡ op3_class n
op3_looked_up n = by_test_lem (ltb n 32) (λ t. within_op3 n (ltb-true n 32 t)) (λ t. behind_op3 n (ltb-false n 32 t))

-- ---- the same as one number

-- the row at a place of both tables
unfoldable pub placed : ℕ → ℕ
placed i = eight_at (i / 8) / 2 ^ (i % 8 * 8) % 256

abbrev code_placed : ℕ → ℕ
code_placed i = code_of (class_placed i)

pub code_placed_lem : (i : ℕ) → i < 288 → placed i ≡ code_of (class_placed i)
unfolding placed eight_at joined_of eight class_placed op2_class op3_class op2 op3
code_placed_lem i h = same_below placed code_placed 288 refl i h

pub placed_few : (n : ℕ) → n ≤ 2047 → place_of n < 288
unfolding place_of
placed_few n h = by (ltb n 256) refl
  where
    by : (t : Bool) → ltb n 256 ≡ t → cond t n (256 + n / 64) < 288
    by true e = omega (arith, ltb-true n 256 e)
    by false e = omega arith

pub code_numbered : (n : ℕ) → code_of (class_placed (place_of n)) ≡ code_of (class_numbered n)
unfolding class_placed place_of class_numbered
code_numbered n = by (ltb n 256) refl
  where
    by :
        (t : Bool) → ltb n 256 ≡ t
        → code_of (cond (ltb (cond t n (256 + n / 64)) 256) (op2_class (cond t n (256 + n / 64))) (op3_class (cond t n (256 + n / 64) - 256))) ≡ code_of (cond t (op2_class n) (op3_class (n / 64)))
    by true e = rw e
    by false e =
        let m : 256 ≤ 256 + n / 64 = omega arith in
        let q : 256 + n / 64 - 256 ≡ n / 64 = omega arith in
        rw (le-ltb (256 + n / 64) 256 m, q)

-- no number of more than eleven bits is taken
pub code_behind : (n : ℕ) → 2047 < n → 0 ≡ code_of (class_numbered n)
unfolding class_numbered op3
code_behind n h =
    let m : 256 ≤ n = omega arith in
    let l : 32 ≤ n / 64 = omega arith in
    ap code_of (behind listed_op3 32 refl (n / 64) l) ∙ rw (le-ltb n 256 m)
