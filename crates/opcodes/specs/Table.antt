-- Tables of instruction numbers: a number, AMD's mnemonic for it, and what is to be known of it.
use Rattle.std.specs.Prelude.{ℕ, cond, List, [], ◌∷◌, eqb}
use Prim.Native.String.{String}

pub record Row (A : Type 0) : Type 0 where
  pub number : ℕ
  pub mnemonic : String
  pub answer : A

abbrev pub row : {A : Type 0} → ℕ → String → A → Row A
row n m a = record { number = n; mnemonic = m; answer = a }

-- several numbers of which the same is to be known
abbrev pub rows_for : {A : Type 0} → A → List (ℕ × String) → List (Row A)
rows_for a [] = []
rows_for a (n ∷ ns) = row n.0 n.1 a ∷ rows_for a ns

-- what a table knows of n, and where it has no row of that number, other
abbrev pub lookup : {A : Type 0} → A → List (Row A) → ℕ → A
lookup other [] n = other
lookup other (r ∷ rs) n = cond (eqb r.number n) r.answer (lookup other rs n)
