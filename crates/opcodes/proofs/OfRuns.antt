-- A definition over a run of numbers, by one test that is computed over the run. Assumes nothing.
use mathlib.Core.Path.{◌≡◌, refl, ap, sym, ◌∙◌}
use mathlib.Core.Logic.{⊎_elim}
use mathlib.Core.Bool.{Bool, true, ◌&&◌}
use mathlib.Core.List.{List, [], ◌∷◌, map}
use Prim.Native.Nat.{ℕ, zero, suc, ◌+◌, ◌≤◌, ◌<◌}
use native.Mathlib.Nat.{eq-or-lt_of_le, zero-add}
use native.Mathlib.Omega.{arith}
use lib.Dec.{ltb}
use lib.ListN.{get_or, drop, replicate}
use borrow.Author.Tests.{ne_eqb, ltb-true}
use Rattle.laws.proofs.OfLists.{up_from, at_number}
use Rattle.laws.proofs.OfTests.{both}
use Rattle.opcodes.specs.Table.{Row, lookup}

in_run : {A : Type 0} (f : ℕ → A) (lo n : ℕ) (a : A) → map f (up_from lo n) ≡ replicate n a → (k : ℕ) → lo ≤ k → k < lo + n → f k ≡ a
in_run f lo zero a e k h j = absurd (omega arith)
in_run f lo (suc n) a e k h j =
    ⊎_elim
    (λ p. ap f (sym p) ∙ ap (λ l. get_or l 0 a) e)
    (λ p. in_run f (suc lo) n a (ap (drop 1) e) k p (omega arith))
    (eq-or-lt_of_le h)

-- a definition that is what a table has for each number
pub record Listed {A : Type 0} (other : A) (rs : List (Row A)) (f : ℕ → A) : Type 0 where
  pub agrees : (k : ℕ) → f k ≡ lookup other rs k

-- it is a at each of the n numbers from lo on, if the table is
pub run : {A : Type 0} {other : A} {rs : List (Row A)} {f : ℕ → A} → Listed other rs f → (lo n : ℕ) (a : A) → map (lookup other rs) (up_from lo n) ≡ replicate n a → (k : ℕ) → lo ≤ k → k < lo + n → a ≡ f k
run {other = other} {rs = rs} d lo n a e k h j = sym (d.agrees k ∙ in_run (lookup other rs) lo n a e k h j)

-- two definitions that agree at each number below m, by one test that is computed over those numbers
pub same_below : {A : Type 0} (f g : ℕ → A) (m : ℕ) → map f (up_from 0 m) ≡ map g (up_from 0 m) → (k : ℕ) → k < m → f k ≡ g k
same_below f g m e k h =
    ap f (sym (zero-add k))
    ∙ sym (at_number f (f 0) 0 m k h)
    ∙ ap (λ l. get_or l k (f 0)) e
    ∙ at_number g (f 0) 0 m k h
    ∙ ap g (zero-add k)

-- every number of a table is below lo
abbrev below : {A : Type 0} → ℕ → List (Row A) → Bool
below lo [] = true
below lo (r ∷ rs) = ltb r.number lo && below lo rs

no_row : {A : Type 0} (other : A) (rs : List (Row A)) (lo : ℕ) → below lo rs ≡ true → (k : ℕ) → lo ≤ k → lookup other rs k ≡ other
no_row other [] lo e k h = refl
no_row other (r ∷ rs) lo e k h =
    let b = both (ltb r.number lo) (below lo rs) e in
    rw (ne_eqb r.number k (λ q. omega (arith, ltb-true r.number lo b.0))) (no_row other rs lo b.1 k h)

-- and it is what the table has for other numbers, behind the table's last one
pub behind : {A : Type 0} {other : A} {rs : List (Row A)} {f : ℕ → A} → Listed other rs f → (lo : ℕ) → below lo rs ≡ true → (k : ℕ) → lo ≤ k → other ≡ f k
behind {other = other} {rs = rs} d lo e k h = sym (d.agrees k ∙ no_row other rs lo e k h)

-- what a match over 0, 1, .. m - 1 has found of a number that is none of them
abbrev Passed : ℕ → ℕ → Type 0
Passed zero k = Unit {0}
Passed (suc m) k = Passed m k × (k ≡ m → ⊥)

passed : (m k : ℕ) → Passed m k → m ≤ k
passed zero k r = omega arith
passed (suc m) k r = past (passed m k r.0) r.1
  where
    past : m ≤ k → (k ≡ m → ⊥) → suc m ≤ k
    past h n = omega arith

-- so it is not below m
pub none_left : (m k : ℕ) → Passed m k → k < m → ⊥
none_left m k r h = let l = passed m k r in omega (arith, l)

-- below m + 1 it is m
pub last_one : (m k : ℕ) → Passed m k → k < suc m → k ≡ m
last_one m k r h = between (passed m k r)
  where
    between : m ≤ k → k ≡ m
    between l = omega arith
