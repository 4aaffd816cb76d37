-- `bits::fits` meets its contract: a value is its own low bits exactly if it is within them. Assumes nothing.
use mathlib.Core.Path.{◌≡◌, ap, ◌∙◌}
use Prim.Native.Nat.{ℕ, ◌%◌, ◌^◌}
use native.Mathlib.Nat.{div-one, mod-lt, mod-eq_of_lt}
use native.Mathlib.Omega.{arith}
use lib.Dec.{ltb, eqb}
use lib.Pow.{pow_pos}
use borrow.Author.Tests.{ltb-true, ltb-false, eq-eqb, ne_eqb}
use Rattle.laws.proofs.OfTests.{same_test}
use Rattle.bits.specs.Fields.{field_of}
use Rattle.bits.proofs.fits.Goals as goal

own-low-bits : (v w : ℕ) → eqb (field_of v 0 w) v ≡ ltb v (2 ^ w)
own-low-bits v w =
    ap (λ (x : ℕ). eqb (x % 2 ^ w) v) (div-one v)
    ∙ same_test (eqb (v % 2 ^ w) v) (ltb v (2 ^ w))
    (λ h. eq-eqb (v % 2 ^ w) v (mod-eq_of_lt (ltb-true v (2 ^ w) h)))
    (λ h. ne_eqb (v % 2 ^ w) v (λ e. omega (arith, mod-lt v (pow_pos w), ltb-false v (2 ^ w) h)))

pub returns : goal.returns
returns c =
    let v = c.args.value in
    ap (λ (x : ℕ). eqb x v) c.field.ensures
    ∙ ap (λ (w : ℕ). eqb (field_of v 0 w) v) c.width_of.ensures
    ∙ own-low-bits v _
