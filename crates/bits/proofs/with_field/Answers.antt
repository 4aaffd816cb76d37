-- `bits::with_field` meets its contract: what is above the field, the field and what is below it have no bit in common, so that
-- joining them by `|` adds them; of a field that runs past bit 31 the part in the word is joined. Assumes nothing.
use borrow.Author.Rules.{rules}
use mathlib.Core.Path.{◌≡◌, refl, sym, ap, ap₂, ◌∙◌, subst}
use Prim.Native.Nat.{ℕ, ◌+◌, ◌-◌, ◌*◌, ◌/◌, ◌%◌, ◌^◌, ◌≤◌, ◌<◌, min}
use native.Mathlib.Nat.{mod-lt, mod-eq_of_lt, lt_of_lt_of_le, lt_of_le_of_lt, div-mul-le_self, div-one, mul_comm, add-zero, sub-add_cancel}
use native.Mathlib.Omega.{arith}
use lib.Pow.{pow_pos, pow_mono, pow-add, high, low, mod-pow-add, shl_lt, shl_exact}
use lib.Bits.{bit_or, or_shifted, or_zero_l}
use mathlib.Core.Bool.{Bool, true, false}
use lib.Dec.{leb}
use borrow.Author.Tests.{leb-true, leb-false}
use Rattle.bits.specs.Tables.{place_of}
use Rattle.bits.specs.Code.{lifted_of, with_field}
use Rattle.bits.proofs.OfField.{spliced_at, in_word, no_top, behind, lost, moved_up, moved_down}
use Rattle.bits.proofs.with_field.Goals as goal

-- what lies at bit o and above, cut to the word, over what lies below
cut : (x o r : ℕ) → o ≤ 32 → r < 2 ^ o → (x * 2 ^ o + r) % 2 ^ 32 ≡ x % 2 ^ (32 - o) * 2 ^ o + r
cut x o r l h =
    ap (λ (k : ℕ). (x * 2 ^ o + r) % 2 ^ k) (sym (sub-add_cancel l))
    ∙ mod-pow-add (x * 2 ^ o + r) (32 - o) o
    ∙ ap₂ (λ (a b : ℕ). a % 2 ^ (32 - o) * 2 ^ o + b) (high x o h) (low x o h)

-- a field that starts in the word and ends behind bit 31
to-the-top : (n o w v : ℕ) → n < 2 ^ 32 → o ≤ 32 → 32 ≤ o + w → bit_or (place_of v o w) (n % 2 ^ o) ≡ with_field n o w v
to-the-top n o w v h l k =
    let x = v % 2 ^ w in
    let small : n % 2 ^ o < 2 ^ o = mod-lt n (pow_pos o) in
    ap (λ (y : ℕ). bit_or y (n % 2 ^ o))
    (ap (λ (y : ℕ). y % 2 ^ 32) (sym (add-zero (x * 2 ^ o))) ∙ cut x o 0 l (pow_pos o) ∙ add-zero (x % 2 ^ (32 - o) * 2 ^ o))
    ∙ or_shifted (x % 2 ^ (32 - o)) o (n % 2 ^ o) small
    ∙ sym (cut x o (n % 2 ^ o) l small)
    ∙ sym (no_top n o w v h k)

-- a field that ends in the word
module _ (n o w v : ℕ) (h : n < 2 ^ 32) (l : o + w ≤ 32) where
  above : lifted_of (n / 2 ^ (o + w)) (o + w) ≡ n / 2 ^ (o + w) * 2 ^ (o + w)
  above = mod-eq_of_lt (lt_of_le_of_lt (div-mul-le_self n (2 ^ (o + w))) h)

  own : place_of v o w ≡ v % 2 ^ w * 2 ^ o
  own = shl_exact w o 32 (mod-lt v (pow_pos w)) (omega arith)

  joins : bit_or (bit_or (lifted_of (n / 2 ^ (o + w)) (o + w)) (place_of v o w)) (n % 2 ^ o) ≡ with_field n o w v
  joins =
      let q = n / 2 ^ (o + w) in
      let x = v % 2 ^ w in
      let fits : x * 2 ^ o < 2 ^ (o + w) =
      subst (λ (k : ℕ). x * 2 ^ o < k) (pow-add 2 w o ∙ mul_comm (2 ^ w) (2 ^ o) ∙ sym (pow-add 2 o w)) (shl_lt w o (mod-lt v (pow_pos w))) in
      let line : q * 2 ^ (o + w) + x * 2 ^ o ≡ (q * 2 ^ w + x) * 2 ^ o = omega (arith, spliced_at n o w v) in
      ap (λ (y : ℕ). bit_or y (n % 2 ^ o)) (ap₂ bit_or above own ∙ or_shifted q (o + w) (x * 2 ^ o) fits ∙ line)
      ∙ or_shifted (q * 2 ^ w + x) o (n % 2 ^ o) (mod-lt n (pow_pos o))
      ∙ sym (spliced_at n o w v)
      ∙ sym (in_word n o w h l v)

-- any field, by where the code sees its end: the numbers of 32 bits stop behind every bit of a word
any_field :
    (n o w v e : ℕ) → n < 2 ^ 32 → e ≡ min (o + w) (2 ^ 32 - 1)
    → bit_or (bit_or (lifted_of (n / 2 ^ e) e) (place_of v o w)) (n % 2 ^ o) ≡ with_field n o w v
any_field n o w v e h k = by (leb (o + w) 32) refl
  where
    -- what is joined where nothing of the word lies above the field
    topless : 32 ≤ o + w → bit_or (place_of v o w) (n % 2 ^ o) ≡ with_field n o w v
    topless l = by_start (leb o 32) refl
      where
        by_start : (t : Bool) → leb o 32 ≡ t → bit_or (place_of v o w) (n % 2 ^ o) ≡ with_field n o w v
        by_start true s = to-the-top n o w v h (leb-true o 32 s) l
        by_start false s =
            let far = leb-false o 32 s in
            ap₂ bit_or (sym (lost (v % 2 ^ w) o (omega arith))) (mod-eq_of_lt (lt_of_lt_of_le h (pow_mono {i = 32} (omega arith))))
            ∙ or_zero_l n
            ∙ behind n o w v h (omega arith)

    by : (t : Bool) → leb (o + w) 32 ≡ t → bit_or (bit_or (lifted_of (n / 2 ^ e) e) (place_of v o w)) (n % 2 ^ o) ≡ with_field n o w v
    by true s =
        let l = leb-true (o + w) 32 s in
        let same : e ≡ o + w = omega arith in
        ap (λ (x : ℕ). bit_or (bit_or (lifted_of (n / 2 ^ x) x) (place_of v o w)) (n % 2 ^ o)) same ∙ joins n o w v h l
    by false s =
        let l = leb-false (o + w) 32 s in
        ap (λ (x : ℕ). bit_or (bit_or x (place_of v o w)) (n % 2 ^ o)) (sym (lost (n / 2 ^ e) e (omega arith)))
        ∙ ap (λ (x : ℕ). bit_or x (n % 2 ^ o)) (or_zero_l (place_of v o w))
        ∙ topless (omega arith)

pub returns : goal.returns
returns c =
    let a = c.args in
    let h : a.word < 2 ^ 32 = search rules in
    let below = c.field-below.ensures ∙ ap (λ (x : ℕ). x % 2 ^ a.offset) (div-one a.word) in
    let above = c.unbounded_shl-above.ensures ∙ moved_up _ _ ∙ ap (λ (x : ℕ). lifted_of x c.saturating_add-end.result) (c.unbounded_shr.ensures ∙ moved_down _ _ h) in
    (λ i. bit_or (bit_or (above i) (c.place-own.ensures i)) (below i))
    ∙ any_field a.word a.offset a.width a.value c.saturating_add-end.result h c.saturating_add-end.ensures
