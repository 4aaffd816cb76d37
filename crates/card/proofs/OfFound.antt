-- An answer of the definitions, by the steps it came by: something was found, a test was passed. Assumes nothing.
use mathlib.Core.Path.{◌≡◌, refl, ap, sym, ◌∙◌}
use mathlib.Core.Bool.{Bool, true, false, cond}
use mathlib.Core.List.{List}
use Rattle.std.specs.Prelude.{Option, None, Some, Result, Err, ok_or, option_map}
use Rattle.std.proofs.lemmas.Option.{none-some, same_Some}
use Prim.Native.Nat.{ℕ}
use Rattle.card.specs.Text.{found, number_of, number_in}

pub found_some : {A B : Type 0} (o : Option A) (f : A → Option B) {b : B} → found o f ≡ Some b → (a : A) × (o ≡ Some a) × (f a ≡ Some b)
found_some None f {b} h = absurd (none-some b h)
found_some (Some a) f h = (a, refl, h)

pub tested_some : {A : Type 0} (t : Bool) {a b : A} → ◌≡◌ {A = Option A} (cond t (Some a) None) (Some b) → (t ≡ true) × (a ≡ b)
tested_some true {a} {b} h = (refl, same_Some a b h)
tested_some false {b = b} h = absurd (none-some b h)

-- a number that is read is an allowed one
pub number_some : (allowed : ℕ → Bool) (t : List ℕ) {n : ℕ} → number_in allowed t ≡ Some n → (number_of t ≡ Some n) × (allowed n ≡ true)
unfolding number_in
number_some allowed t h =
    let w = found_some (number_of t) (λ m. cond (allowed m) (Some m) None) h in
    let v = tested_some (allowed w.0) w.2 in
    (w.1 ∙ ap Some v.1, ap allowed (sym v.1) ∙ v.0)

-- what is found under a function is that of what was found
pub mapped_some : {A B : Type 0} (f : A → B) (o : Option A) {b : B} → option_map f o ≡ Some b → (a : A) × (o ≡ Some a) × (f a ≡ b)
mapped_some f None {b} h = absurd (none-some b h)
mapped_some f (Some a) {b} h = (a, refl, same_Some (f a) b h)

-- what `ok_or` answers where there is nothing
pub refused_with : {A E : Type 0} (o : Option A) {e e' : E} → o ≡ None → ◌≡◌ {A = Result A E} (Err e) (ok_or o e') → e ≡ e'
refused_with None h p = same_Err p
  where
    same_Err : {A E : Type 0} {e e' : E} → ◌≡◌ {A = Result A E} (Err e) (Err e') → e ≡ e'
    same_Err q = cc
refused_with (Some a) h p = absurd (none-some a (sym h))
