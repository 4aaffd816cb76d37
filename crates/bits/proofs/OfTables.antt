-- Rows of fields, at any widths (mixed radix): joining what was split gives the word back, and splitting what was joined gives
-- the values back where each is within its width. Assumes nothing.
use mathlib.Core.Path.{◌≡◌, refl, sym, ap, ap₂, ◌∙◌, subst}
use mathlib.Core.List.{List, [], ◌∷◌, map}
use mathlib.Core.Bool.{Bool, true, false, ◌&&◌, and-true, and-false, and_assoc, false≢true}
use Prim.Native.Nat.{ℕ, ◌+◌, ◌*◌, ◌/◌, ◌%◌, ◌^◌, ◌≤◌, ◌<◌}
use native.Mathlib.Nat.{add-mul, mul_assoc, mul_comm, mul-one, div-one, zero-mul, add_comm, zero-add, add-zero, mod-lt, mod-mod, mod-one, mod-eq_of_lt}
use native.Mathlib.Omega.{arith}
use lib.Pow.{pow_pos, pow-add, shr-shr, mod-pow-add, high, low, shl_exact}
use lib.Bits.{bit_or, or_shifted_r}
use lib.Arith.{digits_lt}
use lib.Dec.{ltb, eqb}
use borrow.Author.Tests.{ltb-true, lt-ltb, eqb-true}
use Rattle.laws.proofs.OfTests.{both}
use Rattle.bits.specs.declared.Bits.{Bits}
use Rattle.bits.specs.Fields.{field_of, width_of}
use Rattle.bits.specs.Tables.{place_of, total, split, join, within, fields_of, word_of, fits_table, fills_word}
use Rattle.bits.specs.Code.{lifted_of}

-- ---- the same rows as digits of a number, lowest first, with no offset

abbrev digits : List ℕ → ℕ → List ℕ
digits [] n = []
digits (w ∷ ws) n = n % 2 ^ w ∷ digits ws (n / 2 ^ w)

abbrev number : List ℕ → List ℕ → ℕ
number [] vs = 0
number (w ∷ ws) [] = 0
number (w ∷ ws) (v ∷ vs) = number ws vs * 2 ^ w + v % 2 ^ w

split_digits : (o : ℕ) (ws : List ℕ) (n : ℕ) → split o ws n ≡ digits ws (n / 2 ^ o)
split_digits o [] n = refl
split_digits o (w ∷ ws) n =
    ap (λ (l : List ℕ). field_of n o w ∷ l) (split_digits (o + w) ws n ∙ ap (digits ws) (sym (shr-shr n o w)))

join_number : (o : ℕ) (ws vs : List ℕ) → join o ws vs ≡ number ws vs * 2 ^ o
join_number o [] vs = sym (zero-mul (2 ^ o))
join_number o (w ∷ ws) [] = sym (zero-mul (2 ^ o))
join_number o (w ∷ ws) (v ∷ vs) =
    let n = number ws vs in
    let x = v % 2 ^ w in
    ap (λ (y : ℕ). x * 2 ^ o + y)
    (join_number (o + w) ws vs
    ∙ ap (λ (y : ℕ). n * y) (pow-add 2 o w ∙ mul_comm (2 ^ o) (2 ^ w))
    ∙ sym (mul_assoc n (2 ^ w) (2 ^ o)))
    ∙ add_comm (x * 2 ^ o) (n * 2 ^ w * 2 ^ o)
    ∙ sym (add-mul (n * 2 ^ w) x (2 ^ o))

-- the first value of a row that is within its widths, and the rest
module _ (w v : ℕ) (ws vs : List ℕ) (h : within (w ∷ ws) (v ∷ vs) ≡ true) where
  first_within : v < 2 ^ w
  first_within = ltb-true v (2 ^ w) (both (ltb v (2 ^ w)) (within ws vs) h).0

  rest_within : within ws vs ≡ true
  rest_within = (both (ltb v (2 ^ w)) (within ws vs) h).1

digits_number : (ws vs : List ℕ) → within ws vs ≡ true → digits ws (number ws vs) ≡ vs
digits_number [] [] h = refl
digits_number [] (v ∷ vs) h = absurd (false≢true h)
digits_number (w ∷ ws) [] h = absurd (false≢true h)
digits_number (w ∷ ws) (v ∷ vs) h =
    let n = number ws vs in
    let l : v % 2 ^ w < 2 ^ w = mod-lt v (pow_pos w) in
    ap₂ (λ (x : ℕ) (xs : List ℕ). x ∷ xs)
    (low n w l ∙ mod-eq_of_lt (first_within w v ws vs h))
    (ap (digits ws) (high n w l) ∙ digits_number ws vs (rest_within w v ws vs h))

number_digits : (ws : List ℕ) (n : ℕ) → number ws (digits ws n) ≡ n % 2 ^ total ws
number_digits [] n = sym (mod-one n)
number_digits (w ∷ ws) n =
    ap₂ (λ (a b : ℕ). a * 2 ^ w + b) (number_digits ws (n / 2 ^ w)) (mod-mod n (2 ^ w))
    ∙ sym (mod-pow-add n (total ws) w)
    ∙ ap (λ (k : ℕ). n % 2 ^ k) (add_comm (total ws) w)

number_lt : (ws vs : List ℕ) → number ws vs < 2 ^ total ws
number_lt [] vs = pow_pos 0
number_lt (w ∷ ws) [] = pow_pos (w + total ws)
number_lt (w ∷ ws) (v ∷ vs) =
    subst (λ (m : ℕ). number (w ∷ ws) (v ∷ vs) < m) (mul_comm (2 ^ total ws) (2 ^ w) ∙ sym (pow-add 2 w (total ws)))
    (digits_lt (number_lt ws vs) (mod-lt v (pow_pos w)))

-- ---- a word and its row of fields, from bit 0

join_number_0 : (ws vs : List ℕ) → join 0 ws vs ≡ number ws vs
join_number_0 ws vs = join_number 0 ws vs ∙ mul-one (number ws vs)

split_digits_0 : (ws : List ℕ) (n : ℕ) → split 0 ws n ≡ digits ws n
split_digits_0 ws n = split_digits 0 ws n ∙ ap (digits ws) (div-one n)

-- a word is its fields joined
pub join_split : (ws : List ℕ) (n : ℕ) → n < 2 ^ total ws → join 0 ws (split 0 ws n) ≡ n
join_split ws n h =
    ap (join 0 ws) (split_digits_0 ws n) ∙ join_number_0 ws (digits ws n) ∙ number_digits ws n ∙ mod-eq_of_lt h

-- the fields of a joined word are the values, where each is within its width
pub split_join : (ws vs : List ℕ) → within ws vs ≡ true → split 0 ws (join 0 ws vs) ≡ vs
split_join ws vs h =
    ap (split 0 ws) (join_number_0 ws vs) ∙ split_digits_0 ws (number ws vs) ∙ digits_number ws vs h

-- a joined word takes no more bits than its fields
pub join_lt : (ws vs : List ℕ) → join 0 ws vs < 2 ^ total ws
join_lt ws vs = subst (λ (n : ℕ). n < 2 ^ total ws) (sym (join_number_0 ws vs)) (number_lt ws vs)

within_split_from : (o : ℕ) (ws : List ℕ) (n : ℕ) → within ws (split o ws n) ≡ true
within_split_from o [] n = refl
within_split_from o (w ∷ ws) n =
    ap₂ (λ (a b : Bool). a && b) (lt-ltb (field_of n o w) (2 ^ w) (mod-lt (n / 2 ^ o) (pow_pos w))) (within_split_from (o + w) ws n)

-- what is split is within its widths
pub within_split : (ws : List ℕ) (n : ℕ) → within ws (split 0 ws n) ≡ true
within_split ws n = within_split_from 0 ws n

-- ---- rows as code makes and tests them

-- `place(a, 0, 22) | place(b, 22, 4) | ..`, from acc on
abbrev pub joined : ℕ → ℕ → List ℕ → List ℕ → ℕ
joined acc o [] vs = acc
joined acc o (w ∷ ws) [] = acc
joined acc o (w ∷ ws) (v ∷ vs) = joined (bit_or acc (place_of v o w)) (o + w) ws vs

joined_from : (acc o : ℕ) (ws vs : List ℕ) → acc < 2 ^ o → o + total ws ≤ 32 → joined acc o ws vs ≡ acc + join o ws vs
joined_from acc o [] vs h l = sym (add-zero acc)
joined_from acc o (w ∷ ws) [] h l = sym (add-zero acc)
joined_from acc o (w ∷ ws) (v ∷ vs) h l =
    let x = v % 2 ^ w in
    let small : x < 2 ^ w = mod-lt v (pow_pos w) in
    let put : bit_or acc (place_of v o w) ≡ x * 2 ^ o + acc =
    ap (bit_or acc) (shl_exact w o 32 small (omega arith)) ∙ or_shifted_r x o acc h in
    let next : x * 2 ^ o + acc < 2 ^ (o + w) =
    subst (λ (m : ℕ). x * 2 ^ o + acc < m) (mul_comm (2 ^ w) (2 ^ o) ∙ sym (pow-add 2 o w)) (digits_lt small h) in
    ap (λ (a : ℕ). joined a (o + w) ws vs) put ∙ joined_from (x * 2 ^ o + acc) (o + w) ws vs next (omega arith) ∙ (omega arith)

-- what code joins by `|` is the joined word
pub joined_join : (ws vs : List ℕ) → total ws ≤ 32 → joined 0 0 ws vs ≡ join 0 ws vs
joined_join ws vs l = joined_from 0 0 ws vs (pow_pos 0) (omega arith) ∙ zero-add (join 0 ws vs)

-- the same of values as they are: `lift(a, 21:0) | lift(b, 25:22) | ..`
abbrev pub lifted : ℕ → ℕ → List ℕ → List ℕ → ℕ
lifted acc o [] vs = acc
lifted acc o (w ∷ ws) [] = acc
lifted acc o (w ∷ ws) (v ∷ vs) = lifted (bit_or acc (lifted_of v o)) (o + w) ws vs

-- of values within their widths it makes the same word
lifted_joined : (acc o : ℕ) (ws vs : List ℕ) → within ws vs ≡ true → lifted acc o ws vs ≡ joined acc o ws vs
lifted_joined acc o [] vs h = refl
lifted_joined acc o (w ∷ ws) [] h = refl
lifted_joined acc o (w ∷ ws) (v ∷ vs) h =
    let cut : lifted_of v o ≡ place_of v o w = ap (λ (x : ℕ). x * 2 ^ o % 2 ^ 32) (sym (mod-eq_of_lt (first_within w v ws vs h))) in
    lifted_joined (bit_or acc (lifted_of v o)) (o + w) ws vs (rest_within w v ws vs h)
    ∙ ap (λ (x : ℕ). joined (bit_or acc x) (o + w) ws vs) cut

-- `(a < 0x400000) & (b < 0x10) & ..`, from t on
abbrev pub tested : Bool → List ℕ → List ℕ → Bool
tested t [] [] = t
tested t [] (v ∷ vs) = false
tested t (w ∷ ws) [] = false
tested t (w ∷ ws) (v ∷ vs) = tested (t && ltb v (2 ^ w)) ws vs

-- what code tests by `&` is that each value is within its width, and what was tested before
pub tested_within : (t : Bool) (ws vs : List ℕ) → tested t ws vs ≡ t && within ws vs
tested_within t [] [] = sym (and-true t)
tested_within t [] (v ∷ vs) = sym (and-false t)
tested_within t (w ∷ ws) [] = sym (and-false t)
tested_within t (w ∷ ws) (v ∷ vs) = tested_within (t && ltb v (2 ^ w)) ws vs ∙ and_assoc t (ltb v (2 ^ w)) (within ws vs)

-- ---- tables

fields_split_from : (o : ℕ) (fs : List Bits) (n : ℕ) → fills_word o fs ≡ true → fields_of fs n ≡ split o (map width_of fs) n
fields_split_from o [] n h = refl
fields_split_from o (f ∷ fs) n h =
    let b = both (eqb f.1 o) (fills_word (o + width_of f) fs) h in
    ap₂ (λ (x : ℕ) (xs : List ℕ). x ∷ xs)
    (ap (λ (k : ℕ). field_of n k (width_of f)) (eqb-true f.1 o b.0))
    (fields_split_from (o + width_of f) fs n b.1)

fields_split : (fs : List Bits) (n : ℕ) → fills_word 0 fs ≡ true → fields_of fs n ≡ split 0 (map width_of fs) n
fields_split fs n h = fields_split_from 0 fs n h

total_from : (o : ℕ) (fs : List Bits) → fills_word o fs ≡ true → o + total (map width_of fs) ≡ 32
total_from o [] h = omega (arith, eqb-true o 32 h)
total_from o (f ∷ fs) h =
    let b = both (eqb f.1 o) (fills_word (o + width_of f) fs) h in
    omega (arith, total_from (o + width_of f) fs b.1)

-- a table that takes each bit of the word once
module _ (fs : List Bits) (h : fills_word 0 fs ≡ true) where
  widths_32 : total (map width_of fs) ≡ 32
  widths_32 = omega (arith, total_from 0 fs h)

  -- the word that its fields make up
  pub word_of_fields : (n : ℕ) → n < 2 ^ 32 → word_of fs (fields_of fs n) ≡ n
  word_of_fields n l =
      ap (word_of fs) (fields_split fs n h)
      ∙ join_split (map width_of fs) n (subst (λ (k : ℕ). n < 2 ^ k) (sym widths_32) l)

  -- the fields of a word made of values that fit
  pub fields_of_word : (vs : List ℕ) → fits_table fs vs ≡ true → fields_of fs (word_of fs vs) ≡ vs
  fields_of_word vs f = fields_split fs (word_of fs vs) h ∙ split_join (map width_of fs) vs f

  pub fields_fit_lem : (n : ℕ) → fits_table fs (fields_of fs n) ≡ true
  fields_fit_lem n = ap (fits_table fs) (fields_split fs n h) ∙ within_split (map width_of fs) n

  pub word_lt : (vs : List ℕ) → word_of fs vs < 2 ^ 32
  word_lt vs = subst (λ (k : ℕ). word_of fs vs < 2 ^ k) widths_32 (join_lt (map width_of fs) vs)

  -- what code joins by `|`
  pub joined_word : (vs : List ℕ) → joined 0 0 (map width_of fs) vs ≡ word_of fs vs
  joined_word vs = joined_join (map width_of fs) vs (omega (arith, widths_32))

  pub lifted_word : (vs : List ℕ) → fits_table fs vs ≡ true → lifted 0 0 (map width_of fs) vs ≡ word_of fs vs
  lifted_word vs f = lifted_joined 0 0 (map width_of fs) vs f ∙ joined_word vs

-- what code tests by `&`
pub tested_fits : (fs : List Bits) (vs : List ℕ) → tested true (map width_of fs) vs ≡ fits_table fs vs
tested_fits fs vs = tested_within true (map width_of fs) vs
