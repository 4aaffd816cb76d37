-- Parts of a list, and lists over numbers in a row. Assumes nothing.
use mathlib.Core.Path.{◌≡◌, sym, ap, ◌∙◌}
use mathlib.Core.List.{List, [], ◌∷◌, map}
use Prim.Native.Nat.{ℕ, zero, suc, ◌+◌, ◌-◌, ◌<◌}
use native.Mathlib.Nat.{add-zero}
use native.Mathlib.Omega.{arith}
use lib.ListN.{length, take, drop, get_or, length-drop}
use lib.Seq.{take_all}

-- a slice from n to its end, as the code takes it, is what stands behind the first n
pub to_the_end : {A : Type 0} (n : ℕ) (l : List A) → take (length l - n) (drop n l) ≡ drop n l
to_the_end n l = take_all (length l - n) (drop n l) (omega (arith, length-drop n l))

-- lo, lo + 1, ..: n of them
abbrev pub up_from : ℕ → ℕ → List ℕ
up_from lo zero = []
up_from lo (suc n) = lo ∷ up_from (suc lo) n

-- what a definition gives for each of them, read at one
pub at_number : {A : Type 0} (f : ℕ → A) (other : A) (lo m n : ℕ) → n < m → get_or (map f (up_from lo m)) n other ≡ f (lo + n)
at_number f other lo zero n h = absurd (omega arith)
at_number f other lo (suc m) zero h = ap f (sym (add-zero lo))
at_number f other lo (suc m) (suc n) h = at_number f other (suc lo) m n (omega arith) ∙ ap f (omega arith)
