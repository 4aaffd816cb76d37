-- Each number has exactly one text in decimal without leading zeros. Assumes nothing.
use mathlib.Core.Path.{◌≡◌, refl, ap, ap₂, sym, ◌∙◌, subst}
use mathlib.Core.Bool.{true, not, ◌&&◌, false≢true}
use mathlib.Core.List.{List, [], ◌∷◌, ◌++◌}
use Rattle.std.specs.Prelude.{Some}
use Prim.Native.Nat.{ℕ, ◌+◌, ◌-◌, ◌*◌, ◌/◌, ◌%◌, ◌^◌, ◌≤◌, ◌<◌}
use native.Mathlib.Nat.{pow-succ', mul-le-mul_right, pow-le-pow_right, le_trans, lt_of_lt_of_le}
use native.Mathlib.Omega.{arith}
use borrow.Author.Tests.{eqb-false, ne_eqb, ltb-true, ltb-false, not-true}
use lib.Arith.{digits_lt, digits_div, digits_mod}
use lib.Dec.{eqb, ltb}
use lib.ListN.{length}
use Rattle.laws.proofs.OfTests.{both, both_hold, by_test_lem}
use Rattle.ascii.specs.Decimal.{digit_of, decimal}
use Rattle.ascii.proofs.OfDecimal.{below_10, from_10, by_digits, digit_bounds, is_digit_lem, digits_end, read_back}
use Rattle.card.specs.Text.{is_digit, all_digits, is_decimal, digits_value, number_of}
use Rattle.card.proofs.OfFound.{tested_some}

-- ---- a number's text is read as the number

-- one digit more at the end
decimal_end : (u : List ℕ) (b : ℕ) → is_decimal u ≡ true → (digits_value u ≡ 0 → ⊥) → is_digit b ≡ true → is_decimal (u ++ (b ∷ [])) ≡ true
unfolding is_decimal digits_value all_digits
decimal_end [] b h z d = absurd (false≢true h)
decimal_end (x ∷ []) b h z d =
    let f : x ≡ 48 → ⊥ = λ e. z (omega arith) in
    both_hold (not (eqb x 48)) (is_digit x && (is_digit b && true)) (ap not (ne_eqb x 48 f)) (digits_end (x ∷ []) b (both_hold (is_digit x) true h refl) d)
decimal_end (x ∷ y ∷ t) b h z d =
    let w = both (not (eqb x 48)) (all_digits (x ∷ y ∷ t)) h in
    both_hold (not (eqb x 48)) (all_digits (x ∷ y ∷ (t ++ (b ∷ [])))) w.0 (digits_end (x ∷ y ∷ t) b w.1 d)

is_decimal_lem : (n : ℕ) → is_decimal (decimal n) ≡ true
unfolding is_decimal
is_decimal_lem = by_digits (λ n. is_decimal (decimal n) ≡ true) one more
  where
    one : (n : ℕ) → n < 10 → is_decimal (decimal n) ≡ true
    one n h = ap is_decimal (below_10 n h) ∙ is_digit_lem (digit_of n) (omega arith) (omega arith)

    more : (n : ℕ) → 10 ≤ n → is_decimal (decimal (n / 10)) ≡ true → is_decimal (decimal n) ≡ true
    more n h d =
        let some-value : digits_value (decimal (n / 10)) ≡ 0 → ⊥ = λ z. (omega (arith, read_back (n / 10))) in
        ap is_decimal (from_10 n h)
        ∙ decimal_end (decimal (n / 10)) (digit_of (n % 10)) d some-value (is_digit_lem (digit_of (n % 10)) (omega arith) (omega arith))

pub decimal_read : (n : ℕ) → number_of (decimal n) ≡ Some n
unfolding number_of
decimal_read n = rw (is_decimal_lem n, read_back n)

-- ---- two texts of one number are the same

value_below : (t : List ℕ) → all_digits t ≡ true → digits_value t < 10 ^ length t
unfolding all_digits digits_value
value_below [] h = omega arith
value_below (b ∷ t) h =
    let w = both (is_digit b) (all_digits t) h in
    let d = digit_bounds b w.0 in
    subst (λ (n : ℕ). (b - 48) * 10 ^ length t + digits_value t < n) (sym (pow-succ' 10 (length t)))
    (digits_lt {q = b - 48} {m = 10} (omega arith) (value_below t w.1))

pub value_above : (b : ℕ) (t : List ℕ) → 48 < b → 10 ^ length t ≤ digits_value (b ∷ t)
unfolding digits_value
value_above b t h =
    let p = 10 ^ length t in
    let l : 1 * p ≤ (b - 48) * p = mul-le-mul_right p (omega arith) in
    omega arith

-- of one length
same_length : (u v : List ℕ) → length u ≡ length v → all_digits u ≡ true → all_digits v ≡ true → digits_value u ≡ digits_value v → u ≡ v
unfolding all_digits digits_value
same_length [] [] l hu hv e = refl
same_length [] (c ∷ v) l hu hv e = absurd (omega arith)
same_length (b ∷ u) [] l hu hv e = absurd (omega arith)
same_length (b ∷ u) (c ∷ v) l hu hv e =
    let wu = both (is_digit b) (all_digits u) hu in
    let wv = both (is_digit c) (all_digits v) hv in
    let db = digit_bounds b wu.0 in
    let dc = digit_bounds c wv.0 in
    let k : length u ≡ length v = omega arith in
    let p = 10 ^ length v in
    let f : (b - 48) * p + digits_value u ≡ (c - 48) * p + digits_value v = ap (λ (n : ℕ). (b - 48) * 10 ^ n + digits_value u) (sym k) ∙ e in
    let lu : digits_value u < p = subst (λ (n : ℕ). digits_value u < 10 ^ n) k (value_below u wu.1) in
    let lv : digits_value v < p = value_below v wv.1 in
    let q : b - 48 ≡ c - 48 = sym (digits_div (b - 48) lu) ∙ ap (λ (n : ℕ). n / p) f ∙ digits_div (c - 48) lv in
    let r : digits_value u ≡ digits_value v = sym (digits_mod (b - 48) lu) ∙ ap (λ (n : ℕ). n % p) f ∙ digits_mod (c - 48) lv in
    let g : b ≡ c = omega arith in
    ap₂ (λ (x : ℕ) (xs : List ℕ). x ∷ xs) g (same_length u v k wu.1 wv.1 r)

decimal_digits : (t : List ℕ) → is_decimal t ≡ true → all_digits t ≡ true
unfolding is_decimal all_digits
decimal_digits [] h = refl
decimal_digits (b ∷ []) h = both_hold (is_digit b) true h refl
decimal_digits (b ∷ c ∷ t) h = (both (not (eqb b 48)) (all_digits (b ∷ c ∷ t)) h).1

first_digit : (b : ℕ) (t : List ℕ) → all_digits (b ∷ t) ≡ true → is_digit b ≡ true
unfolding all_digits
first_digit b t h = (both (is_digit b) (all_digits t) h).0

-- a longer one stands for more
no_longer : (u v : List ℕ) → is_decimal u ≡ true → is_decimal v ≡ true → length u < length v → digits_value u < digits_value v
unfolding is_decimal
no_longer [] v hu hv l = absurd (false≢true hu)
no_longer (a ∷ u) [] hu hv l = absurd (omega arith)
no_longer (a ∷ u) (b ∷ []) hu hv l = absurd (omega arith)
no_longer (a ∷ u) (b ∷ c ∷ t) hu hv l =
    let w = both (not (eqb b 48)) (all_digits (b ∷ c ∷ t)) hv in
    let f : b ≡ 48 → ⊥ = eqb-false b 48 (not-true (eqb b 48) w.0) in
    let d = digit_bounds b (first_digit b (c ∷ t) w.1) in
    let less : digits_value (a ∷ u) < 10 ^ length (a ∷ u) = value_below (a ∷ u) (decimal_digits (a ∷ u) hu) in
    let power : 10 ^ length (a ∷ u) ≤ 10 ^ length (c ∷ t) = pow-le-pow_right {n = 10} (omega arith) (omega arith) in
    let more : 10 ^ length (c ∷ t) ≤ digits_value (b ∷ c ∷ t) = value_above b (c ∷ t) (omega arith) in
    lt_of_lt_of_le less (le_trans power more)

one_length : (u v : List ℕ) → is_decimal u ≡ true → is_decimal v ≡ true → digits_value u ≡ digits_value v → length u ≡ length v
one_length u v hu hv e =
    by_test_lem (ltb (length u) (length v))
    (λ t. let l = no_longer u v hu hv (ltb-true (length u) (length v) t) in absurd (omega arith))
    (λ f. by_test_lem (ltb (length v) (length u))
    (λ t. let l = no_longer v u hv hu (ltb-true (length v) (length u) t) in absurd (omega arith))
    (λ g. let p = ltb-false (length u) (length v) f in let q = ltb-false (length v) (length u) g in omega arith))

decimals_same : (u v : List ℕ) → is_decimal u ≡ true → is_decimal v ≡ true → digits_value u ≡ digits_value v → u ≡ v
decimals_same u v hu hv e = same_length u v (one_length u v hu hv e) (decimal_digits u hu) (decimal_digits v hv) e

-- the text of a number that is read is the number in decimal
pub number_text : (t : List ℕ) (n : ℕ) → number_of t ≡ Some n → t ≡ decimal n
unfolding number_of
number_text t n h =
    let w = tested_some (is_decimal t) h in
    decimals_same t (decimal n) w.0 (is_decimal_lem n) (w.1 ∙ sym (read_back n))
