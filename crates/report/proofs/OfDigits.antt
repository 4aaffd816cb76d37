-- The digits of a number one by one, as a loop writes them: backwards, into the last places of a buffer. Assumes nothing.
use mathlib.Core.Path.{◌≡◌, refl, sym, ap, ap₂, ◌∙◌}
use mathlib.Core.List.{List, [], ◌∷◌, ◌++◌, append-nil, append_assoc}
use Prim.Native.Nat.{ℕ, suc, ◌-◌, ◌/◌, ◌%◌, ◌^◌, ◌≤◌, ◌<◌}
use native.Mathlib.Omega.{arith}
use lib.ListN.{length, drop, set, length-append, length-drop, length-set}
use lib.Seq.{drop-length, drop-cons, drop-set-lt, get_or-set_same}
use Rattle.ascii.specs.Decimal.{digit_of, decimal}
use Rattle.ascii.proofs.OfDecimal.{by_digit, below_10, from_10, some_digit, at_most_20_digits}

-- those of `rest` are still to come, before the ones from `first` on
pub record Spelt (n : ℕ) (buffer digits : List ℕ) (first rest : ℕ) : Type 0 where
  pub within : first ≤ length digits
  pub same_length : length digits ≡ length buffer
  pub so_far : decimal rest ++ drop first digits ≡ decimal n

pub none_spelt : (n : ℕ) (buffer : List ℕ) → Spelt n buffer buffer (length buffer) n
none_spelt n buffer =
    record {
      within = omega arith;
      same_length = refl;
      so_far = ap (λ (l : List ℕ). decimal n ++ l) (drop-length buffer) ∙ append-nil (decimal n);
    }

-- there is a place for the next one
pub place_left : {n : ℕ} {buffer digits : List ℕ} {first rest : ℕ} → n < 2 ^ 64 → 20 ≤ length buffer → Spelt n buffer digits first rest → 0 < first
place_left {n} {buffer} {digits} {first} {rest} h k s =
    omega (
      arith,
      ap length s.so_far,
      length-append (decimal rest) (drop first digits),
      length-drop first digits,
      some_digit rest,
      at_most_20_digits n h,
    )

-- what stands from a place on, once a digit is put before it
put_before : (digits : List ℕ) (first d : ℕ) → 0 < first → first ≤ length digits → drop (first - 1) (set digits (first - 1) d) ≡ d ∷ drop first digits
put_before digits first d h k =
    drop-cons (set digits (first - 1) d) (first - 1) 0 (omega (arith, length-set digits (first - 1) d))
    ∙ ap₂ (λ (x : ℕ) (l : List ℕ). x ∷ l) (get_or-set_same digits (first - 1) d 0 (omega arith))
    (drop-set-lt (suc (first - 1)) digits (first - 1) d (omega arith) ∙ ap (λ (k : ℕ). drop k digits) next)
  where
    next : suc (first - 1) ≡ first
    next = omega arith

-- the next one of several
pub one_more_spelt : {n : ℕ} {buffer digits : List ℕ} {first rest : ℕ} (d : ℕ) → Spelt n buffer digits first rest → 0 < first → d ≡ digit_of (rest % 10) → (rest / 10 ≡ 0 → ⊥) → Spelt n buffer (set digits (first - 1) d) (first - 1) (rest / 10)
one_more_spelt {n} {buffer} {digits} {first} {rest} d s h e more =
    record {
      within = omega (arith, length-set digits (first - 1) d);
      same_length = length-set digits (first - 1) d ∙ s.same_length;
      so_far =
          ap (λ (l : List ℕ). decimal (rest / 10) ++ l) (put_before digits first d h (omega arith))
          ∙ sym (append_assoc (decimal (rest / 10)) (d ∷ []) (drop first digits))
          ∙ ap (λ (x : ℕ). (decimal (rest / 10) ++ (x ∷ [])) ++ drop first digits) e
          ∙ ap (λ (l : List ℕ). l ++ drop first digits) (sym (from_10 rest ten))
          ∙ s.so_far;
    }
  where
    ten : 10 ≤ rest
    ten = by_digit rest (λ l. absurd (more (omega arith))) (λ l. l)

-- the last one
pub all_spelt : {n : ℕ} {buffer digits : List ℕ} {first rest : ℕ} (d : ℕ) → Spelt n buffer digits first rest → 0 < first → d ≡ digit_of (rest % 10) → rest / 10 ≡ 0 → drop (first - 1) (set digits (first - 1) d) ≡ decimal n
all_spelt {n} {buffer} {digits} {first} {rest} d s h e none =
    put_before digits first d h (omega arith)
    ∙ ap (λ (x : ℕ). x ∷ drop first digits) (e ∙ one)
    ∙ ap (λ (l : List ℕ). l ++ drop first digits) (sym (below_10 rest (omega arith)))
    ∙ s.so_far
  where
    one : digit_of (rest % 10) ≡ digit_of rest
    one = omega arith
