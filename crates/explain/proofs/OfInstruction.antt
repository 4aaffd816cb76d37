-- The instruction that a verdict names, read again: a place beyond what 64 bits count lies beyond every pack. Assumes nothing.
use mathlib.Core.Path.{◌≡◌, sym, ap, ◌∙◌}
use mathlib.Core.List.{List}
use Prim.Native.Nat.{ℕ, ◌+◌, ◌*◌}
use native.Mathlib.Omega.{arith}
use lib.ListN.{get_or}
use Rattle.std.specs.Prelude.{Option, Some, None}
use Rattle.units.specs.declared.Quadwords.{Quadwords}
use Rattle.units.specs.declared.Slots.{Slots}
use Rattle.units.specs.declared.Words.{Words}
use Rattle.units.specs.Units.{low_word, high_word, low_at, high_at, slot_quadword}
use Rattle.units.specs.Code.{capped, quadwords_in_64, words_in_64}
use Rattle.checks.specs.declared.NotGranted.{NotGranted}
use Rattle.card.specs.declared.Card.{Card}
use Rattle.faults.specs.Faults.{first_fault}
use Rattle.opcodes.specs.declared.cf.Control.{Control}
use Rattle.section.specs.declared.Clause.{Clause}
use Rattle.section.specs.declared.Range.{Range}
use Rattle.section.specs.Control.{control_of, control_at}
use Rattle.section.specs.Code.{range_in_64}
use Rattle.section.specs.Rules.{clause_of, clause_at, range_of}
use Rattle.judge.specs.Judge.{limits_in}
use Rattle.explain.specs.Explain.{named_by, named_in, fault_at}

-- word n, by its number cut to 64 bits
abbrev ReadAt : List ℕ → Words → ℕ → Type 0
ReadAt w i x = (n : ℕ) → i.0 ≡ capped n → x ≡ get_or w n 0

module _ (w : List ℕ) where
  -- the words of a quadword whose own number may be cut
  low_there : (n : ℕ) {q : Quadwords} {i : Words} {x : ℕ} → q.0 ≡ capped n → i ≡ words_in_64 (low_word q) → ReadAt w i x → x ≡ low_at w n
  unfolding low_at
  low_there n {q} {i} e h f =
      let z : i.0 ≡ capped (2 * q.0) = ap (λ (k : Words). k.0) h in
      f (2 * n) (omega (arith, z, e))

  high_there : (n : ℕ) {q : Quadwords} {i : Words} {x : ℕ} → q.0 ≡ capped n → i ≡ words_in_64 (high_word q) → ReadAt w i x → x ≡ high_at w n
  unfolding high_at
  high_there n {q} {i} e h f =
      let z : i.0 ≡ capped (2 * q.0 + 1) = ap (λ (k : Words). k.0) h in
      f (2 * n + 1) (omega (arith, z, e))

  -- the clause that the opener opens, as it was read
  pub clause_read :
      (p : Quadwords) {lo hi : ℕ} {i j : Words} {control : Control} {k : Option Clause} → p.0 ≡ capped p.0 → i ≡ words_in_64 (low_word p) → ReadAt w i lo
      → j ≡ words_in_64 (high_word p) → ReadAt w j hi → control ≡ control_of hi → k ≡ clause_of control lo hi → k ≡ clause_at w p.0
  unfolding clause_at control_at
  clause_read p {lo} {hi} small e f g h a d =
      let low : lo ≡ low_at w p.0 = low_there p.0 small e f in
      let high : hi ≡ high_at w p.0 = high_there p.0 small g h in
      d ∙ (λ i. clause_of (a i) (low i) (high i)) ∙ (λ i. clause_of (control_of (high i)) (low_at w p.0) (high_at w p.0))

  module _ (card : Card) (p : ℕ) (slot : Slots) where
    -- none is opened
    pub no_fault : clause_at w p ≡ None → None ≡ fault_at card w p slot
    unfolding fault_at first_fault
    no_fault e = ap (λ (k : Option Clause). first_fault (limits_in card k) (named_in w slot k)) (sym e)

    -- the instruction's two words, by the clause's range as the code has it
    pub fault_found :
        {c : Clause} {r : Range} {at : Quadwords} {i j : Words} {first second : ℕ} {f : Option NotGranted} → clause_at w p ≡ Some c → r ≡ range_in_64 (range_of c)
        → at ≡ quadwords_in_64 (slot_quadword r.start slot) → i ≡ words_in_64 (low_word at) → ReadAt w i first → j ≡ words_in_64 (high_word at)
        → ReadAt w j second → f ≡ first_fault (limits_in card (Some c)) (named_by c first second) → f ≡ fault_at card w p slot
    unfolding fault_at
    fault_found {c} {r} {at} {first = first} {second = second} e range d a x b y h =
        let n : ℕ = (range_of c).start.0 + slot.0 in
        let z : at.0 ≡ capped n = ap (λ (q : Quadwords). q.0) d ∙ ap (λ (q : Range). capped (q.start.0 + slot.0)) range in
        let low : first ≡ low_at w n = low_there n z a x in
        let high : second ≡ high_at w n = high_there n z b y in
        h
        ∙ (λ i. first_fault (limits_in card (Some c)) (named_by c (low i) (high i)))
        ∙ ap (λ (k : Option Clause). first_fault (limits_in card k) (named_in w slot k)) (sym e)
