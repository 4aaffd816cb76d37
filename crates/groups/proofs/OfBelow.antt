-- Tests over the numbers below m: one passes, or all do. Assumes nothing.
use mathlib.Core.Path.{◌≡◌, refl, sym, ap, ◌∙◌}
use mathlib.Core.Logic.{◌⊎◌, inl, inr, ⊎_elim}
use mathlib.Core.Bool.{Bool, true, false, ◌&&◌, ◌||◌, or-true, false≢true, true≢false}
use Prim.Native.Nat.{ℕ, zero, suc, ◌<◌, ◌≤◌}
use native.Mathlib.Nat.{eq-or-lt_of_le}
use native.Mathlib.Omega.{arith}
use Rattle.laws.proofs.OfTests.{both}
use Rattle.groups.specs.Group.{any_below, all_below}

either : (a b : Bool) → (a || b) ≡ true → (a ≡ true) ⊎ (b ≡ true)
either true b h = inl refl
either false b h = inr h

-- the last number below suc m, or one below m
pub last_or_below : {j m : ℕ} → j < suc m → (j ≡ m) ⊎ (j < m)
last_or_below {j} {m} l = let h : j ≤ m = omega arith in eq-or-lt_of_le h

-- at most m, and not m
pub below_unless : {j m : ℕ} → j ≤ m → (j ≡ m → ⊥) → j < m
below_unless l n = ⊎_elim (λ e. absurd (n e)) (λ k. k) (eq-or-lt_of_le l)

module _ (f : ℕ → Bool) where
  -- one that passes
  pub found : (m : ℕ) → any_below f m ≡ true → (j : ℕ) × (j < m) × (f j ≡ true)
  unfolding any_below
  found zero h = absurd (false≢true h)
  found (suc m) h =
      ⊎_elim (λ e. let r = found m e in (r.0, omega (arith, r.1), r.2)) (λ e. (m, omega arith, e))
      (either (any_below f m) (f m) h)

  pub find : (m j : ℕ) → j < m → f j ≡ true → any_below f m ≡ true
  unfolding any_below
  find zero j l h = absurd (omega arith)
  find (suc m) j l h =
      ⊎_elim (λ e. ap (λ (b : Bool). any_below f m || b) (ap f (sym e) ∙ h) ∙ or-true (any_below f m))
      (λ k. ap (λ (b : Bool). b || f m) (find m j k h)) (last_or_below l)

  -- none does
  pub none_passes : (m : ℕ) → any_below f m ≡ false → (j : ℕ) → j < m → f j ≡ false
  none_passes m e j l = by (f j) refl
    where
      by : (b : Bool) → f j ≡ b → b ≡ false
      by true h = absurd (true≢false (sym (find m j l h) ∙ e))
      by false h = refl

  pub pass_none : (m : ℕ) → ((j : ℕ) → j < m → f j ≡ false) → any_below f m ≡ false
  pass_none m each = by (any_below f m) refl
    where
      by : (b : Bool) → any_below f m ≡ b → b ≡ false
      by true h = let r = found m h in absurd (true≢false (sym r.2 ∙ each r.0 r.1))
      by false h = refl

  -- all do
  pub each_passes : (m : ℕ) → all_below f m ≡ true → (j : ℕ) → j < m → f j ≡ true
  unfolding all_below
  each_passes zero h j l = absurd (omega arith)
  each_passes (suc m) h j l =
      let r = both (all_below f m) (f m) h in
      ⊎_elim (λ e. ap f e ∙ r.1) (λ k. each_passes m r.0 j k) (last_or_below l)

  pub pass_each : (m : ℕ) → ((j : ℕ) → j < m → f j ≡ true) → all_below f m ≡ true
  unfolding all_below
  pass_each zero each = refl
  pass_each (suc m) each =
      λ i. pass_each m (λ j l. each j (omega (arith, l))) i && each m (omega arith) i
