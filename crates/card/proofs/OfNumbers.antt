-- Decimal numbers: read one digit after the other, and refused as soon as they are above a limit. Assumes nothing.
use mathlib.Core.Path.{◌≡◌, refl, ap, sym, ◌∙◌}
use mathlib.Core.Bool.{Bool, true, false, cond, ◌&&◌, and-false, and-true, true≢false, false≢true}
use mathlib.Core.List.{List, [], ◌∷◌}
use Rattle.std.specs.Prelude.{Option, None, Some}
use Rattle.std.proofs.lemmas.Option.{none-some}
use Prim.Native.Nat.{ℕ, ◌+◌, ◌-◌, ◌*◌, ◌^◌, ◌≤◌, ◌<◌}
use native.Mathlib.Nat.{add-zero, mul-one, add-mul, mul_assoc, add_assoc, pow-succ', one-le-pow, mul-le-mul_left}
use native.Mathlib.Numerals.{add-one}
use native.Mathlib.Omega.{arith}
use borrow.Author.Tests.{le-leb, lt-leb, leb-false}
use lib.Dec.{leb}
use lib.ListN.{length, get_or, drop, drop_of_length-le}
use lib.Seq.{drop-cons}
use Rattle.card.specs.Text.{found, is_digit, all_digits, is_decimal, digits_value, number_of, number_in, from◌to◌, of_32_bits}
use Rattle.card.specs.Code.{malformed}
use Rattle.card.proofs.OfFound.{number_some}

-- ---- what digits are

not_digits : (t : List ℕ) → all_digits t ≡ false → is_decimal t ≡ false
unfolding is_decimal all_digits
not_digits [] h = refl
not_digits (b ∷ []) h = sym (and-true (is_digit b)) ∙ h
not_digits (b ∷ c ∷ t) h = rw (h, and-false)

all_formed : (t : List ℕ) → all_digits t ≡ true → malformed t ≡ false → is_decimal t ≡ true
unfolding is_decimal all_digits
all_formed [] h f = absurd (true≢false f)
all_formed (b ∷ []) h f = sym (and-true (is_digit b)) ∙ h
all_formed (b ∷ c ∷ t) h f = rw (f, h)

refused : (t : List ℕ) (allowed : ℕ → Bool) → is_decimal t ≡ false → number_in allowed t ≡ None
unfolding number_in number_of
refused t allowed e = rw e

not_allowed : (t : List ℕ) (allowed : ℕ → Bool) → allowed (digits_value t) ≡ false → number_in allowed t ≡ None
unfolding number_in number_of
not_allowed t allowed e = by (is_decimal t)
  where
    by : (x : Bool) → found (cond x (Some (digits_value t)) None) (λ n. cond (allowed n) (Some n) None) ≡ None
    by true = rw e
    by false = refl

-- ---- one digit after the other

-- the i bytes passed are digits, and stand for n
pub record Counted (t : List ℕ) (n i : ℕ) : Type 0 where
  pub digits : all_digits t ≡ all_digits (drop i t)
  pub counted : digits_value t ≡ n * 10 ^ length (drop i t) + digits_value (drop i t)

module _ (t : List ℕ) (n i : ℕ) (h : i < length t) (w : Counted t n i) where
  digit : drop i t ≡ get_or t i 0 ∷ drop (i + 1) t
  digit = rw (add-one) (drop-cons t i 0 h)

  counted_other : is_digit (get_or t i 0) ≡ false → all_digits t ≡ false
  unfolding all_digits
  counted_other e = w.digits ∙ rw (digit, e)

  pub counted_more : is_digit (get_or t i 0) ≡ true → Counted t (n * 10 + (get_or t i 0 - 48)) (i + 1)
  unfolding all_digits digits_value
  counted_more e =
      let d = get_or t i 0 - 48 in
      let u = drop (i + 1) t in
      let p = 10 ^ length u in
      record {
        digits = w.digits ∙ rw (digit, e);
        counted =
            w.counted
            ∙ ap (λ (x : List ℕ). n * 10 ^ length x + digits_value x) digit
            ∙ ap (λ (x : ℕ). n * x + (d * p + digits_value u)) (pow-succ' 10 (length u))
            ∙ ap (λ (x : ℕ). x + (d * p + digits_value u)) (sym (mul_assoc n 10 p))
            ∙ sym (add_assoc (n * 10 * p) (d * p) (digits_value u))
            ∙ ap (λ (x : ℕ). x + digits_value u) (sym (add-mul (n * 10) d p));
      }

-- past the highest no further digit helps
counted_over : (t : List ℕ) (n i low high : ℕ) → high < n → Counted t n i → number_in (from low to high) t ≡ None
counted_over t n i low high h w =
    let u = drop i t in
    let p : 1 ≤ 10 ^ length u = one-le-pow (length u) 10 (omega arith) in
    let q : n * 1 ≤ n * 10 ^ length u = mul-le-mul_left n p in
    let v : high < digits_value t = omega (arith, w.counted, mul-one n) in
    not_allowed t (from low to high) (rw (lt-leb (digits_value t) high v, and-false))

counted_all : (t : List ℕ) (n i : ℕ) → length t ≤ i → Counted t n i → (all_digits t ≡ true) × (digits_value t ≡ n)
unfolding all_digits digits_value
counted_all t n i h w =
    let e : drop i t ≡ [] = drop_of_length-le t h in (
      w.digits ∙ ap all_digits e,
      w.counted ∙ ap (λ (x : List ℕ). n * 10 ^ length x + digits_value x) e ∙ add-zero (n * 1) ∙ mul-one n,
    )

-- ---- the number that a text is

not_decimal : (t : List ℕ) → malformed t ≡ true → is_decimal t ≡ false
unfolding is_decimal
not_decimal [] h = refl
not_decimal (b ∷ []) h = absurd (false≢true h)
not_decimal (b ∷ c ∷ t) h = rw h

pub read_malformed : (t : List ℕ) (allowed : ℕ → Bool) → malformed t ≡ true → None ≡ number_in allowed t
read_malformed t allowed h = sym (refused t allowed (not_decimal t h))

module _ (t : List ℕ) (n i : ℕ) (w : Counted t n i) where
  pub read_all : length t ≤ i → malformed t ≡ false → n < 2 ^ 32 → Some n ≡ number_in of_32_bits t
  unfolding number_in number_of
  read_all h f l =
      let a = counted_all t n i h w in
      rw (all_formed t a.0 f, a.1, le-leb 0 n (omega arith), le-leb n 4294967295 (omega arith))

  module _ (h : i < length t) where
    pub read_other : is_digit (get_or t i 0) ≡ false → None ≡ number_in of_32_bits t
    read_other e = sym (refused t of_32_bits (not_digits t (counted_other t n i h w e)))

    pub read_over : is_digit (get_or t i 0) ≡ true → 4294967295 < n * 10 + (get_or t i 0 - 48) → None ≡ number_in of_32_bits t
    read_over e l = sym (counted_over t (n * 10 + (get_or t i 0 - 48)) (i + 1) 0 4294967295 l (counted_more t n i h w e))

-- ---- a number of 32 bits held to limits

module _ (t : List ℕ) (low high : ℕ) where
  pub within_some : {n : ℕ} → Some n ≡ number_in of_32_bits t → (from low to high) n ≡ true → number_in (from low to high) t ≡ Some n
  unfolding number_in
  within_some {n} h e = let w = number_some of_32_bits t (sym h) in rw (w.0, e)

  pub within_not : {n : ℕ} → Some n ≡ number_in of_32_bits t → (from low to high) n ≡ false → number_in (from low to high) t ≡ None
  unfolding number_in
  within_not {n} h e = let w = number_some of_32_bits t (sym h) in rw (w.0, e)

  pub within_none : high < 2 ^ 32 → None ≡ number_in of_32_bits t → number_in (from low to high) t ≡ None
  unfolding number_in
  within_none l h = by (number_of t) h
    where
      by_test : (n : ℕ) (x : Bool) → leb n 4294967295 ≡ x → None ≡ cond (leb 0 n && x) (Some n) None → cond (leb low n && leb n high) (Some n) None ≡ None
      by_test n true e k = absurd (none-some n (k ∙ rw (le-leb 0 n (omega arith))))
      by_test n false e k = let m = leb-false n 4294967295 e in rw (lt-leb n high (omega arith), and-false)

      by : (o : Option ℕ) → None ≡ found o (λ n. cond (of_32_bits n) (Some n) None) → found o (λ n. cond ((from low to high) n) (Some n) None) ≡ None
      by None k = refl
      by (Some n) k = by_test n (leb n 4294967295) refl k
