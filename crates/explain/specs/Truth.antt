-- What an explanation claims: document 02, request 1. The place named breaks that rule, found stands in the words there, and nothing earlier is broken.
use Rattle.std.specs.Prelude.{ℕ, suc, ◌≤◌, ◌<◌, ◌≡◌, true, false, Option, Some, None, List, [], length, drop}
use Rattle.units.specs.declared.Quadwords.{Quadwords}
use Rattle.units.specs.declared.Slots.{Slots}
use Rattle.units.specs.Units.{low_at, high_at, words_of, slot_quadword, range_end}
use Rattle.checks.specs.declared.NotGranted.{NotGranted}
use Rattle.checks.specs.declared.Explanation.{Explanation}
use Rattle.checks.specs.declared.Place.{Place}
use Rattle.checks.specs.declared.Place.TheVariants.{Quadword}
use Rattle.checks.specs.Verdict.{Accepted, Refused}
use Rattle.checks.specs.Laws.{Unbroken, BrokenFirst}
use Rattle.card.specs.declared.Card.{Card}
use Rattle.card.specs.Card.{Whole, BadAt, card_lines, card_of}
use Rattle.faults.specs.Faults.{at_fault}
use Rattle.faults.specs.Operands.{Operand, operands_of, fetch_operands, FirstAtFault}
use Rattle.section.specs.declared.Clause.{Clause}
use Rattle.section.specs.declared.Clause.TheVariants.{Alu, Fetch}
use Rattle.section.specs.Control.{end_of}
use Rattle.section.specs.Rules.{range_of, clause_at}
use Rattle.judge.specs.Judge.{limits_in, checks}
use Rattle.input.specs.Words.{words_in}
use Rattle.input.specs.Input.{bad_line, bad_length, right_length}
use Rattle.explain.specs.Explain.{asks_names, plain}

-- the operands of an instruction of a clause, or of a fetch, by its first two words
abbrev pub operands_by : Clause → ℕ → ℕ → List Operand
operands_by (Alu start n push mode0 mode1) lo hi = operands_of lo hi
operands_by (Fetch start n kind) lo hi = fetch_operands kind lo hi

-- of the one at a slot of the clause that is opened
abbrev pub operands_in : List ℕ → Slots → Option Clause → List Operand
operands_in w s None = []
operands_in w s (Some c) =
    operands_by c (low_at w (slot_quadword (range_of c).start s).0) (high_at w (slot_quadword (range_of c).start s).0)

-- a slot is one of the clause's, and all of the clause lies in a buffer of m words
abbrev pub HasSlot : ℕ → Slots → Option Clause → Type 0
HasSlot m s None = ⊥
HasSlot m s (Some c) = (s.0 < (range_of c).size.0) × ((words_of (range_end (range_of c).start (range_of c).size)).0 ≤ m)

-- found and limit of a refusal at a place and a slot
pub record FoundThere (card : Card) (w : List ℕ) (place : Place) (slot : Slots) (fault : Option NotGranted) : Type 0 where
  pub opener : Quadwords
  pub place_is : place ≡ Quadword opener
  -- a pair of the control-flow section opens a clause with that slot
  pub in_section : opener.0 ≤ end_of w
  pub in_clause : HasSlot (length w) slot (clause_at w opener.0)
  pub found : ℕ
  pub limit : ℕ
  pub fault_is : fault ≡ at_fault found limit
  -- of the operands of the instruction there found is the first at fault
  pub first : FirstAtFault (limits_in card (clause_at w opener.0)) (operands_in w slot (clause_at w opener.0)) found limit

-- an explanation by a card and a pack's words
pub record Explains (card : Card) (w : List ℕ) (x : Explanation) : Type 0 where
  -- accepted: no check is broken
  pub accepted : x.verdict ≡ Accepted → Unbroken (checks card w)
  -- refused: the check named is broken there, and all before it are unbroken
  pub refused : (rule : ℕ) (place : Place) (slot : Slots) → x.verdict ≡ Refused rule place slot → BrokenFirst (checks card w) rule place slot
  -- 9 and 15 have found and limit
  pub numbers :
      (rule : ℕ) (place : Place) (slot : Slots) → x.verdict ≡ Refused rule place slot → asks_names rule ≡ true
      → FoundThere card w place slot x.fault
  -- and no other answer has
  pub no_numbers_refused : (rule : ℕ) (place : Place) (slot : Slots) → x.verdict ≡ Refused rule place slot → asks_names rule ≡ false → x.fault ≡ None
  pub no_numbers_accepted : x.verdict ≡ Accepted → x.fault ≡ None

-- by a card in bytes and a pack's words
pub record ExplainsBytes (bytes w : List ℕ) (x : Explanation) : Type 0 where
  pub by_card : (card : Card) (n : ℕ) → card_of bytes ≡ Whole card n → Explains card w x
  -- 1 at the card's first line at fault
  pub by_line : (n : ℕ) → card_of bytes ≡ BadAt n → x ≡ plain (bad_line n)

-- by a card and a pack in bytes: 2 where the pack is not 8 times quads bytes, else by its words
pub record ExplainsPack (card : Card) (pack : List ℕ) (x : Explanation) : Type 0 where
  pub wrong_length : right_length card.quads (length pack) ≡ false → x ≡ plain bad_length
  pub length_is_right : right_length card.quads (length pack) ≡ true → Explains card (words_in pack) x

-- by an input, a card and behind it a pack
pub record ExplainsInput (input : List ℕ) (x : Explanation) : Type 0 where
  pub by_card : (card : Card) (taken : ℕ) → card_of input ≡ Whole card taken → ExplainsPack card (drop taken input) x
  pub by_line : (n : ℕ) → card_of input ≡ BadAt n → x ≡ plain (bad_line n)

-- by a card's file and a pack's: bytes behind the card's last line are 1 at the line behind it
pub record ExplainsFiles (text pack : List ℕ) (x : Explanation) : Type 0 where
  pub by_card : (card : Card) (taken : ℕ) → card_of text ≡ Whole card taken → taken ≡ length text → ExplainsPack card pack x
  pub by_more : (card : Card) (taken : ℕ) → card_of text ≡ Whole card taken → (taken ≡ length text → ⊥) → x ≡ plain (bad_line (suc card_lines))
  pub by_line : (n : ℕ) → card_of text ≡ BadAt n → x ≡ plain (bad_line n)
