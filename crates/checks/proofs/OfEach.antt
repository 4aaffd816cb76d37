-- What holds of each check of a list, from lists that are joined. Assumes nothing.
use Prim.Native.Nat.{ℕ, zero, suc, ◌<◌}
use mathlib.Core.Path.{◌≡◌, refl, subst}
use mathlib.Core.Bool.{Bool, true, false, cond}
use mathlib.Core.List.{List, [], ◌∷◌, ◌++◌}
use native.Mathlib.Nat.{le_refl, le_step}
use Rattle.units.specs.declared.Slots.{Slots}
use Rattle.checks.specs.declared.Place.{Place}
use Rattle.checks.specs.Checks.{Check, check, below}
use Rattle.checks.specs.Laws.{BrokenFirst}

pub data Each (P : Check → Type 0) : List Check → Type 0 where
  empty : Each P []
  more : {c : Check} {cs : List Check} → P c → Each P cs → Each P (c ∷ cs)

module _ {P : Check → Type 0} where
  pub each_joined : {a b : List Check} → Each P a → Each P b → Each P (a ++ b)
  each_joined empty k = k
  each_joined (more c h) k = more c (each_joined h k)

  pub each_below : (f : ℕ → List Check) (n : ℕ) → ((i : ℕ) → i < n → Each P (f i)) → Each P (below f n)
  unfolding below
  each_below f zero h = empty
  each_below f (suc n) h = each_joined (each_below f n (λ i l. h i (le_step l))) (h n (le_refl (suc n)))

  pub each_if : (t : Bool) {cs : List Check} → (t ≡ true → Each P cs) → Each P (cond t cs [])
  each_if true h = h refl
  each_if false h = empty

  each_inside : (a b : List Check) (c : Check) → Each P (a ++ (c ∷ b)) → P c
  each_inside [] b c (more n h) = n
  each_inside (d ∷ a) b c (more n h) = each_inside a b c h

  -- the first broken check is one of them
  pub each_first : (cs : List Check) (r : ℕ) (p : Place) (s : Slots) → Each P cs → BrokenFirst cs r p s → P (check r p s true)
  each_first cs r p s h b = each_inside b.earlier b.later (check r p s true) (subst (Each P) b.parts h)
