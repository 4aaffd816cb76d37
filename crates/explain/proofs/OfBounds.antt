-- No explanation of an input, or of a card's file and a pack's, is longer than 156 bytes. Assumes nothing.
use mathlib.Core.Path.{◌≡◌, refl}
use mathlib.Core.Bool.{Bool, true, false, cond}
use mathlib.Core.List.{List}
use Prim.Native.Nat.{ℕ, ◌≤◌}
use native.Mathlib.Omega.{arith}
use lib.ListN.{length}
use Rattle.std.specs.Prelude.{Option, Some, None, Err}
use Rattle.units.specs.declared.Slots.{Slots}
use Rattle.units.specs.Units.{low_at, high_at, slot_quadword}
use Rattle.checks.specs.declared.NotGranted.{NotGranted}
use Rattle.checks.specs.declared.Explanation.{Explanation}
use Rattle.checks.specs.declared.Place.{Place}
use Rattle.checks.specs.declared.Place.TheVariants as place
use Rattle.checks.specs.Verdict.{Verdict, Accepted}
use Rattle.card.specs.Card.{CardRead, Whole, card_of}
use Rattle.card.specs.Made.{Ranges}
use Rattle.card.specs.declared.Card.{Card}
use Rattle.card.proofs.OfCard.{whole_in_range, range_figures}
use Rattle.faults.specs.Faults.{first_fault}
use Rattle.faults.proofs.OfBounds.{Small, named_small, fetch_named_small, small_fault}
use Rattle.section.specs.declared.Clause.{Clause}
use Rattle.section.specs.declared.Clause.TheVariants.{Alu, Fetch}
use Rattle.section.specs.Rules.{clause_at}
use Rattle.report.specs.Explanation.{explanation_bytes}
use Rattle.report.proofs.OfExplanation.{Of64Bits, at_most_156_bytes}
use Rattle.judge.specs.Judge.{limits_in}
use Rattle.judge.proofs.OfBounds.{Narrow}
use Rattle.input.specs.Input.{judged_of, judged_of_files}
use Rattle.input.proofs.OfBounds.{input_narrow, files_narrow}
use Rattle.explain.specs.Explain.{asks_names, named_in, fault_at, fault_there, fault_of, by_read, explanation_of, explanation_of_files}
use Rattle.explain.specs.Lines.{lines_of_input, lines_of_files}

-- ---- found and limit

module _ (card : Card) (r : Ranges card) (w : List ℕ) where
  small_in : (s : Slots) (k : Option Clause) → Small (first_fault (limits_in card k) (named_in w s k))
  small_in s None = small_fault _ r.gprs_most r.consts_most _ tt
  small_in s (Some (Alu start n push mode0 mode1)) = small_fault _ r.gprs_most r.consts_most _ (named_small (low_at w (slot_quadword start s).0) (high_at w (slot_quadword start s).0))
  small_in s (Some (Fetch start n kind)) =
      small_fault _ r.gprs_most r.consts_most _
      (fetch_named_small kind (low_at w (slot_quadword start s).0) (high_at w (slot_quadword start s).0))

  small_there : (rule : ℕ) (at : Place) (slot : Slots) → Small (fault_there card w rule at slot)
  unfolding fault_at
  small_there rule place.Whole slot = tt
  small_there rule (place.Line n) slot = tt
  small_there rule (place.Quadword q) slot = by (asks_names rule)
    where
      by : (t : Bool) → Small (cond t (first_fault (limits_in card (clause_at w q.0)) (named_in w slot (clause_at w q.0))) None)
      by true = small_in slot (clause_at w q.0)
      by false = tt

  small_at : (v : Verdict) → Small (fault_of card w v)
  small_at Accepted = tt
  small_at (Err refusal) = small_there refusal.rule refusal.place refusal.slot

-- of a card that was read
small_read : (text : List ℕ) (k : CardRead) → card_of text ≡ k → (w : List ℕ) (v : Verdict) → Small (by_read k w v).fault
small_read text (Whole card n) e w v = small_at card (range_figures card (whole_in_range text card n e)) w v
small_read text (Err bad) e w v = tt

-- ---- the lines

of_64_bits : (f : Option NotGranted) → Small f → Of64Bits f
of_64_bits None h = tt
of_64_bits (Some fault) h = (omega (arith, h.0), omega (arith, h.1))

-- the verdict stays what it was
same_verdict : (k : CardRead) (w : List ℕ) (v : Verdict) → Narrow v → Narrow (by_read k w v).verdict
same_verdict (Whole card n) w v h = h
same_verdict (Err bad) w v h = h

short : (x : Explanation) → Narrow x.verdict → Small x.fault → length (explanation_bytes x) ≤ 156
short x narrow small =
    at_most_156_bytes x (omega (arith, narrow.number)) (omega (arith, narrow.place)) (omega (arith, narrow.slot)) (of_64_bits x.fault small)

pub lines_short : (input : List ℕ) → length (lines_of_input input) ≤ 156
unfolding lines_of_input explanation_of
lines_short input =
    short (explanation_of input) (same_verdict (card_of input) _ (judged_of input).verdict (input_narrow input))
    (small_read input (card_of input) refl _ (judged_of input).verdict)

pub files_lines_short : (text pack : List ℕ) → length (lines_of_files text pack) ≤ 156
unfolding lines_of_files explanation_of_files
files_lines_short text pack =
    short (explanation_of_files text pack) (same_verdict (card_of text) _ (judged_of_files text pack).verdict (files_narrow text pack))
    (small_read text (card_of text) refl _ (judged_of_files text pack).verdict)
