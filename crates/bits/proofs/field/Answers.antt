-- `bits::field` meets its contract at any offset and width: behind bit 31 a word has nothing, and 32 bits need no mask.
-- Assumes nothing.
use borrow.Author.Rules.{rules}
use mathlib.Core.Path.{◌≡◌, sym, ap, ◌∙◌}
use Prim.Native.Nat.{ℕ, ◌-◌, ◌*◌, ◌/◌, ◌%◌, ◌^◌, ◌≤◌, ◌<◌}
use native.Mathlib.Nat.{one-mul, mod-eq_of_lt, lt_of_lt_of_le, lt_of_le_of_lt}
use lib.Pow.{pow_mono, pow-lt, shr_le}
use lib.Bits.{bit_and, and_mask}
use Rattle.bits.specs.Fields.{field_of}
use Rattle.bits.proofs.OfField.{moved_down}
use Rattle.bits.proofs.field.Goals as goal

unmasked : (n o w : ℕ) → n < 2 ^ 32 → 32 ≤ w → n / 2 ^ o ≡ field_of n o w
unmasked n o w h l = sym (mod-eq_of_lt (lt_of_le_of_lt (shr_le n o) (lt_of_lt_of_le h (pow_mono l))))

-- `1 << w`, for w below 32
one_shifted : (w : ℕ) → w < 32 → 1 * 2 ^ w % 2 ^ 32 ≡ 2 ^ w
one_shifted w h = ap (λ (x : ℕ). x % 2 ^ 32) (one-mul (2 ^ w)) ∙ mod-eq_of_lt (pow-lt h)

masked : (n w : ℕ) → w < 32 → bit_and n (1 * 2 ^ w % 2 ^ 32 - 1) ≡ n % 2 ^ w
masked n w h = ap (λ (x : ℕ). bit_and n (x - 1)) (one_shifted w h) ∙ and_mask n w

pub returns-then-width-ge32 : goal.returns-then-width-ge32
returns-then-width-ge32 c = c.unbounded_shr-from_offset.ensures ∙ moved_down _ _ (search rules) ∙ unmasked _ _ _ (search rules) c.if-width-ge32.true

pub returns : goal.returns
returns c =
    masked _ _ c.if-width-ge32.false
    ∙ ap (λ (x : ℕ). x % 2 ^ c.args.width) (c.unbounded_shr-from_offset.ensures ∙ moved_down _ _ (search rules))
