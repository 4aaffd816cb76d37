-- The cap of 64 bits is out of the way: it changes no number that 64 bits hold, and no comparison with a limit below it. So no
-- ADDR of 32 bits can seem to lie inside a buffer by wrapping round. Assumes nothing.
use mathlib.Core.Path.{◌≡◌, refl, ap}
use mathlib.Core.Bool.{false}
use mathlib.Core.List.{List}
use Prim.Native.Nat.{ℕ, ◌+◌, ◌*◌, ◌/◌, ◌-◌, ◌^◌, ◌<◌}
use native.Mathlib.Omega.{arith}
use lib.Dec.{leb}
use lib.ListN.{length, get_or}
use borrow.Author.Tests.{leb-true, leb-false, le-leb, lt-leb}
use Rattle.laws.proofs.OfTests.{same_test}
use Rattle.units.specs.declared.Quadwords.{Quadwords}
use Rattle.units.specs.declared.Slots.{Slots}
use Rattle.units.specs.declared.Words.{Words}
use Rattle.units.specs.Units.{quadwords, slots, words, quadword_behind, low_word, high_word, low_at, high_at, counted, slots_length, fetches_length, whole_quadwords, range_end, is_at_most, lies_in}
use Rattle.units.specs.Code.{capped, quadwords_in_64, words_in_64}

pub capped_exact : (n : ℕ) → n < 2 ^ 64 → capped n ≡ n
capped_exact n h = omega arith

-- a test against a limit gives the same before and after the cap
pub capped_leb : (n limit : ℕ) → limit < 2 ^ 64 - 1 → leb (capped n) limit ≡ leb n limit
capped_leb n limit h =
    same_test (leb (capped n) limit) (leb n limit)
    (λ e. le-leb (capped n) limit (omega (arith, leb-true n limit e)))
    (λ e. lt-leb (capped n) limit (omega (arith, leb-false n limit e)))

-- the next quadword is the true one for any that a buffer can have
pub behind_exact : (p r : Quadwords) → r ≡ quadwords_in_64 (quadword_behind p) → p.0 < 2 ^ 64 - 1 → r.0 ≡ p.0 + 1
behind_exact p r f h =
    let b : r.0 ≡ capped (p.0 + 1) = ap (λ (x : Quadwords). x.0) f in
    omega arith

-- a quadword that lies in the words: where its low word stands there, and its high word behind it
pub record Stands (w : List ℕ) (p at : ℕ) : Type 0 where
  pub is_low : get_or w at 0 ≡ low_at w p
  pub is_high : get_or w (at + 1) 0 ≡ high_at w p
  pub in_words : at + 1 < length w

pub stands :
    (w : List ℕ) (p : Quadwords) (at : Words) → at ≡ words_in_64 (low_word p) → p.0 < (whole_quadwords (words (length w))).0 → length w < 2 ^ 64
    → Stands w p.0 at.0
unfolding low_at high_at
stands w p at f l m =
    let b : at.0 ≡ capped (2 * p.0) = ap (λ (x : Words). x.0) f in
    let exact : at.0 ≡ 2 * p.0 = omega arith in
    record {
      is_low = ap (λ (n : ℕ). get_or w n 0) exact;
      is_high = ap (λ (n : ℕ). get_or w (n + 1) 0) exact;
      in_words = omega arith;
    }

-- ---- worked examples, by computation

-- the largest ADDR and an ALU clause of 128 slots: the true sum, in no buffer of 8,192 quadwords
largest_addr : range_end (quadwords 0xffff_ffff) (slots_length (counted (slots 127))) ≡ quadwords 0x1_0000_007f
largest_addr = refl

largest_addr_outside : is_at_most (range_end (quadwords 0xffff_ffff) (slots_length (counted (slots 127)))) (quadwords 8192) ≡ false
largest_addr_outside = refl

-- COUNT 15 of a fetch opener: 16 fetches, 32 quadwords
most_fetches : fetches_length (counted (slots 15)) ≡ quadwords 32
most_fetches = refl

-- document 01's copy pack: the slot at quadword 2 is words 4 and 5
third_pair : (low_word (quadwords 2) ≡ words 4) × (high_word (quadwords 2) ≡ words 5)
third_pair = (refl, refl)

-- past 64 bits: the largest number, and not a small one
past_the_cap : words_in_64 (low_word (quadwords (2 ^ 64 - 1))) ≡ words (2 ^ 64 - 1)
past_the_cap = refl

-- a clause of fetches that lies in a buffer: the cap on its length changes nothing
pub fetches_inside :
    (buffer : Words) (s : Quadwords) (f : Slots) → buffer.0 < 2 ^ 64
    → is_at_most (range_end s (quadwords_in_64 (fetches_length f))) (whole_quadwords buffer) ≡ lies_in buffer s (fetches_length f)
unfolding lies_in
fetches_inside buffer s f h =
    same_test (leb (s.0 + capped (2 * f.0)) (buffer.0 / 2)) (leb (s.0 + 2 * f.0) (buffer.0 / 2))
    (λ e. le-leb (s.0 + capped (2 * f.0)) (buffer.0 / 2) (omega (arith, leb-true (s.0 + 2 * f.0) (buffer.0 / 2) e)))
    (λ e. lt-leb (s.0 + capped (2 * f.0)) (buffer.0 / 2) (omega (arith, leb-false (s.0 + 2 * f.0) (buffer.0 / 2) e)))
