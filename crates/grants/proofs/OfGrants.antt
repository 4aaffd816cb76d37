-- Grants by what the code tests, and a name read off a list of granted ones. Assumes nothing.
use mathlib.Core.Path.{◌≡◌, refl, sym, ap, ◌∙◌}
use mathlib.Core.Bool.{Bool, true, false, cond, ◌&&◌, and_assoc}
use mathlib.Core.List.Memᴰ
use mathlib.Core.List.{List, [], ◌∷◌, ◌++◌, Memᴰ}
use mathlib.Core.Logic.{⊎_elim}
use Prim.Native.Nat.{ℕ, ◌≤◌}
use native.Mathlib.Omega.{arith}
use lib.Dec.{eqb}
use Rattle.laws.proofs.OfTests.{both}
use Rattle.grants.specs.declared.Limits.{Limits}
use Rattle.grants.specs.Grants.{Name, locked, granted, all_granted}

-- ---- a list

-- each name of a list whose names are all granted is granted
pub each_granted : (l : Limits) (ns : List Name) → all_granted l ns ≡ true → (n : Name) → Memᴰ n ns → granted l n ≡ true
each_granted l [] h n m = absurd (Memᴰ.not-nil m)
each_granted l (k ∷ ns) h n m =
    let b = both (granted l k) (all_granted l ns) h in
    ⊎_elim (λ e. ap (granted l) e ∙ b.0) (λ t. each_granted l ns b.1 n t) (Memᴰ.cases_cons m)

-- two lists joined: the first decides where it is not granted, else the second
pub all_joined : (l : Limits) (a b : List Name) → all_granted l (a ++ b) ≡ all_granted l a && all_granted l b
all_joined l [] b = refl
all_joined l (n ∷ a) b =
    ap (λ (t : Bool). granted l n && t) (all_joined l a b) ∙ sym (and_assoc (granted l n) (all_granted l a) (all_granted l b))

-- ---- the modes

pub locked_most : (m : ℕ) → locked m ≤ 32
locked_most m = by (eqb m 0) (eqb m 1)
  where
    by : (a b : Bool) → cond a 0 (cond b 16 32) ≤ 32
    by true b = omega arith
    by false true = omega arith
    by false false = omega arith
