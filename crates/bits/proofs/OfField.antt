-- One field of a word replaced: the field reads as what was put there, every other field keeps its value. Assumes nothing.
use mathlib.Core.Bool.{Bool, true, false, cond}
use mathlib.Core.Path.{◌≡◌, refl, sym, ap, ap₂, ◌∙◌, subst}
use mathlib.Core.Logic.{◌⊎◌, ⊎_elim}
use Prim.Native.Nat.{ℕ, ◌+◌, ◌-◌, ◌*◌, ◌/◌, ◌%◌, ◌^◌, ◌≤◌, ◌<◌, max}
use native.Mathlib.Nat.{add-zero, zero-add, zero-mul, div-eq_of_lt, lt_of_lt_of_le, add-mul, mul_assoc, mul_comm, add_assoc, add_comm, mod-lt, mod-mod, mod-eq_of_lt, mul-mod_left, sub-add_cancel}
use native.Mathlib.Omega.{arith}
use lib.Dec.{ltb}
use borrow.Author.Tests.{ltb-true, ltb-false}
use lib.Bits.{bit_or, or_step, or_zero_r, or_block}
use lib.Pow.{pow_pos, pow-add, pow_mono, shl_exact, shr_lt, shr-shr, split, high, low, field, mod-pow-add, mod-mod-pow}
use lib.Arith.{digits_lt}
use Rattle.bits.specs.Fields.{field_of}
use Rattle.bits.specs.Code.{lifted_of, with_field}

-- the sum behind `with_field`, before it is cut to 32 bits
abbrev pub spliced : ℕ → ℕ → ℕ → ℕ → ℕ
spliced n o w v = n / 2 ^ (o + w) * 2 ^ (o + w) + (v % 2 ^ w * 2 ^ o + n % 2 ^ o)

-- the same by what lies from bit o on and what lies below
pub spliced_at : (n o w v : ℕ) → spliced n o w v ≡ (n / 2 ^ (o + w) * 2 ^ w + v % 2 ^ w) * 2 ^ o + n % 2 ^ o
spliced_at n o w v =
    let h = n / 2 ^ (o + w) in
    let x = v % 2 ^ w in
    ap (λ (y : ℕ). h * y + (x * 2 ^ o + n % 2 ^ o)) (pow-add 2 o w ∙ mul_comm (2 ^ o) (2 ^ w))
    ∙ ap (λ (y : ℕ). y + (x * 2 ^ o + n % 2 ^ o)) (sym (mul_assoc h (2 ^ w) (2 ^ o)))
    ∙ sym (add_assoc (h * 2 ^ w * 2 ^ o) (x * 2 ^ o) (n % 2 ^ o))
    ∙ ap (λ (y : ℕ). y + n % 2 ^ o) (sym (add-mul (h * 2 ^ w) x (2 ^ o)))

-- the field with what lies below it
pub under_end : (n o w v : ℕ) → v % 2 ^ w * 2 ^ o + n % 2 ^ o < 2 ^ (o + w)
under_end n o w v =
    subst (λ (m : ℕ). v % 2 ^ w * 2 ^ o + n % 2 ^ o < m) (mul_comm (2 ^ w) (2 ^ o) ∙ sym (pow-add 2 o w))
    (digits_lt (mod-lt v (pow_pos w)) (mod-lt n (pow_pos o)))

-- a field depends only on the bits below its end, and only on those from its start on
low_bits : (n m o p w : ℕ) → n % 2 ^ o ≡ m % 2 ^ o → p + w ≤ o → field_of n p w ≡ field_of m p w
low_bits n m o p w e l = cut n ∙ ap (λ (x : ℕ). x % 2 ^ (w + p) / 2 ^ p) e ∙ sym (cut m)
  where
    cut : (k : ℕ) → field_of k p w ≡ k % 2 ^ o % 2 ^ (w + p) / 2 ^ p
    cut k =
        sym (field k w p)
        ∙ ap (λ (x : ℕ). x / 2 ^ p)
        (sym (mod-mod-pow k (o - (w + p)) (w + p)) ∙ ap (λ (x : ℕ). k % 2 ^ x % 2 ^ (w + p)) (sub-add_cancel (omega arith)))

high_bits : (n m o p w : ℕ) → n / 2 ^ o ≡ m / 2 ^ o → o ≤ p → field_of n p w ≡ field_of m p w
high_bits n m o p w e l = cut n ∙ ap (λ (x : ℕ). x / 2 ^ (p - o) % 2 ^ w) e ∙ sym (cut m)
  where
    cut : (k : ℕ) → field_of k p w ≡ k / 2 ^ o / 2 ^ (p - o) % 2 ^ w
    cut k =
        let e : p ≡ o + (p - o) = omega arith in
        ap (λ (x : ℕ). x % 2 ^ w) (ap (λ (x : ℕ). k / 2 ^ x) e ∙ sym (shr-shr k o (p - o)))

-- the upper bits of a field, as a field of their own
pub upper_part : (n o k w : ℕ) → field_of n (o + k) w ≡ field_of n o (w + k) / 2 ^ k
upper_part n o k w = ap (λ (x : ℕ). x % 2 ^ w) (sym (shr-shr n o k)) ∙ sym (field (n / 2 ^ o) w k)

-- a field that lies in the word
module _ (n o w : ℕ) (h : n < 2 ^ 32) (l : o + w ≤ 32) where
  -- nothing is cut off
  pub in_word : (v : ℕ) → with_field n o w v ≡ spliced n o w v
  in_word v =
      let k = o + w in
      let e : 32 - k + k ≡ 32 = sub-add_cancel l in
      let above : n / 2 ^ k < 2 ^ (32 - k) = shr_lt (32 - k) k (subst (λ (j : ℕ). n < 2 ^ j) (sym e) h) in
      mod-eq_of_lt
      (subst (λ (m : ℕ). spliced n o w v < m) (sym (pow-add 2 (32 - k) k) ∙ ap (λ (j : ℕ). 2 ^ j) e)
      (digits_lt above (under_end n o w v)))

  -- the field that was set
  pub get_set : (v : ℕ) → field_of (with_field n o w v) o w ≡ v % 2 ^ w
  get_set v =
      let q = n / 2 ^ (o + w) * 2 ^ w + v % 2 ^ w in
      ap (λ (m : ℕ). field_of m o w) (in_word v ∙ spliced_at n o w v)
      ∙ ap (λ (m : ℕ). m % 2 ^ w) (high q o (mod-lt n (pow_pos o)))
      ∙ low (n / 2 ^ (o + w)) w (mod-lt v (pow_pos w))

  -- a field that lies below it or above it
  pub get_set_other : (v p u : ℕ) → (p + u ≤ o) ⊎ (o + w ≤ p) → field_of (with_field n o w v) p u ≡ field_of n p u
  get_set_other v p u d =
      ap (λ (m : ℕ). field_of m p u) (in_word v)
      ∙ ⊎_elim
      (λ b.
      low_bits (spliced n o w v) n o p u
      (ap (λ (m : ℕ). m % 2 ^ o) (spliced_at n o w v) ∙ low (n / 2 ^ (o + w) * 2 ^ w + v % 2 ^ w) o (mod-lt n (pow_pos o))) b)
      (λ a. high_bits (spliced n o w v) n (o + w) p u (high (n / 2 ^ (o + w)) (o + w) (under_end n o w v)) a)
      d

  -- a field set to what it holds
  pub set_get : with_field n o w (field_of n o w) ≡ n
  set_get =
      in_word (field_of n o w)
      ∙ ap (λ (x : ℕ). n / 2 ^ (o + w) * 2 ^ (o + w) + (x * 2 ^ o + n % 2 ^ o)) (mod-mod (n / 2 ^ o) (2 ^ w))
      ∙ ap (λ (x : ℕ). n / 2 ^ (o + w) * 2 ^ (o + w) + x) (sym (mod-pow-add n w o) ∙ ap (λ (k : ℕ). n % 2 ^ k) (add_comm w o))
      ∙ split n (o + w)

-- ---- a field that is not wholly in the word

-- what is moved up by 32 or more leaves nothing in the word
pub lost : (n o : ℕ) → 32 ≤ o → 0 ≡ lifted_of n o
lost n o l =
    sym
    (ap (lifted_of n) (sym (sub-add_cancel l))
    ∙ ap (λ (x : ℕ). n * x % 2 ^ 32) (pow-add 2 (o - 32) 32)
    ∙ ap (λ (x : ℕ). x % 2 ^ 32) (sym (mul_assoc n (2 ^ (o - 32)) (2 ^ 32)))
    ∙ mul-mod_left (n * 2 ^ (o - 32)) (2 ^ 32))

-- and what is moved down by so much leaves nothing at all
pub none_left : (n o : ℕ) → n < 2 ^ 32 → 32 ≤ o → 0 ≡ n / 2 ^ o
none_left n o h l = sym (div-eq_of_lt (lt_of_lt_of_le h (pow_mono l)))

-- the library's shifts, which answer 0 there
pub moved_up : (n o : ℕ) → cond (ltb o 32) (n * 2 ^ o % 2 ^ 32) 0 ≡ lifted_of n o
moved_up n o = by (ltb o 32) refl
  where
    by : (t : Bool) → ltb o 32 ≡ t → cond t (n * 2 ^ o % 2 ^ 32) 0 ≡ lifted_of n o
    by true e = refl
    by false e = lost n o (ltb-false o 32 e)

pub moved_down : (n o : ℕ) → n < 2 ^ 32 → cond (ltb o 32) (n / 2 ^ o) 0 ≡ n / 2 ^ o
moved_down n o h = by (ltb o 32) refl
  where
    by : (t : Bool) → ltb o 32 ≡ t → cond t (n / 2 ^ o) 0 ≡ n / 2 ^ o
    by true e = refl
    by false e = none_left n o h (ltb-false o 32 e)

-- a field that ends behind bit 31 leaves nothing above it
pub no_top : (n o w v : ℕ) → n < 2 ^ 32 → 32 ≤ o + w → with_field n o w v ≡ (v % 2 ^ w * 2 ^ o + n % 2 ^ o) % 2 ^ 32
no_top n o w v h l =
    ap (λ (q : ℕ). (q * 2 ^ (o + w) + (v % 2 ^ w * 2 ^ o + n % 2 ^ o)) % 2 ^ 32) (div-eq_of_lt (lt_of_lt_of_le h (pow_mono l)))
    ∙ ap (λ (q : ℕ). (q + (v % 2 ^ w * 2 ^ o + n % 2 ^ o)) % 2 ^ 32) (zero-mul (2 ^ (o + w)))
    ∙ ap (λ (q : ℕ). q % 2 ^ 32) (zero-add (v % 2 ^ w * 2 ^ o + n % 2 ^ o))

-- a field that starts behind bit 31 changes nothing
pub behind : (n o w v : ℕ) → n < 2 ^ 32 → 32 ≤ o → n ≡ with_field n o w v
behind n o w v h l =
    let x = v % 2 ^ w in
    let up : x * 2 ^ o ≡ x * 2 ^ (o - 32) * 2 ^ 32 =
    ap (λ (k : ℕ). x * 2 ^ k) (sym (sub-add_cancel l)) ∙ ap (λ (y : ℕ). x * y) (pow-add 2 (o - 32) 32) ∙ sym (mul_assoc x (2 ^ (o - 32)) (2 ^ 32)) in
    sym
    (no_top n o w v h (omega arith)
    ∙ ap₂ (λ (a b : ℕ). (a + b) % 2 ^ 32) up (mod-eq_of_lt (lt_of_lt_of_le h (pow_mono l)))
    ∙ low (x * 2 ^ (o - 32)) 32 h)

-- ---- one bit

-- joined by `|` with one bit, a word has that bit set; there is none behind bit 31
pub bit_set : (n o : ℕ) → n < 2 ^ 32 → bit_or n (lifted_of 1 o) ≡ with_field n o 1 1
bit_set n o h = by (ltb o 32) refl
  where
    inside : o < 32 → bit_or n (lifted_of 1 o) ≡ with_field n o 1 1
    inside l =
        let q = n / 2 ^ o in
        let r = n % 2 ^ o in
        let odd : bit_or q 1 ≡ q / 2 * 2 + 1 =
        or_step q 1 ∙ ap (λ (x : ℕ). x * 2 + max (q % 2) (1 % 2)) (or_zero_r (q / 2)) ∙ (omega arith) in
        let above : q / 2 ≡ n / 2 ^ (o + 1) = shr-shr n o 1 in
        ap₂ bit_or (sym (split n o)) (shl_exact 1 o 32 (omega arith) (omega arith) ∙ sym (add-zero (1 * 2 ^ o)))
        ∙ or_block o q 1 r 0 (mod-lt n (pow_pos o)) (pow_pos o)
        ∙ ap₂ (λ (x y : ℕ). x * 2 ^ o + y) (odd ∙ ap (λ (x : ℕ). x * 2 + 1) above) (or_zero_r r)
        ∙ sym (spliced_at n o 1 1)
        ∙ sym (in_word n o 1 h (omega arith) 1)

    by : (t : Bool) → ltb o 32 ≡ t → bit_or n (lifted_of 1 o) ≡ with_field n o 1 1
    by true e = inside (ltb-true o 32 e)
    by false e =
        let l = ltb-false o 32 e in
        ap (bit_or n) (sym (lost 1 o l)) ∙ or_zero_r n ∙ behind n o 1 1 h l
