-- Why a pack is refused: document 02, request 1. The verdict is the judge's, the first broken check of the ordered list; for 9 and 15 found and limit
-- stand beside it.
use Rattle.std.specs.Prelude.{ℕ, Bool, cond, ◌||◌, Option, Some, None, Err, List, [], eqb, drop}
use Rattle.units.specs.declared.Slots.{Slots}
use Rattle.units.specs.Units.{low_at, high_at, slot_quadword}
use Rattle.formats.specs.Fields.{◌of◌, FETCH_INST}
use Rattle.checks.specs.declared.NotGranted.{NotGranted}
use Rattle.checks.specs.declared.Explanation.{Explanation}
use Rattle.checks.specs.declared.Place.{Place}
use Rattle.checks.specs.declared.Place.TheVariants as place
use Rattle.checks.specs.Verdict.{Verdict, Accepted}
use Rattle.card.specs.declared.Card.{Card}
use Rattle.card.specs.Card.{CardRead, Whole, card_of}
use Rattle.grants.specs.Grants.{Name}
use Rattle.instructions.specs.Instruction.{named}
use Rattle.fetches.specs.Fetches as fetches
use Rattle.faults.specs.Faults.{first_fault}
use Rattle.section.specs.declared.Clause.{Clause}
use Rattle.section.specs.declared.Clause.TheVariants.{Alu, Fetch}
use Rattle.section.specs.Rules.{range_of, clause_at}
use Rattle.judge.specs.Judge.{limits_in, judgement, judgement_of_bytes}
use Rattle.input.specs.Words.{words_in}
use Rattle.input.specs.Input.{judged_of, judged_of_files}

-- ---- found and limit

-- 9 and 15 ask what an instruction names; no other rule has a number at fault
abbrev pub asks_names : ℕ → Bool
asks_names rule = eqb rule 9 || eqb rule 15

-- what an instruction of a clause names, or a fetch, by its first two words
abbrev pub named_by : Clause → ℕ → ℕ → List Name
named_by (Alu start n push mode0 mode1) lo hi = named lo hi
named_by (Fetch start n kind) lo hi = fetches.named kind (FETCH_INST of lo) lo hi

-- what the one at a slot of the clause that is opened names
abbrev pub named_in : List ℕ → Slots → Option Clause → List Name
named_in w s None = []
named_in w s (Some c) =
    named_by c (low_at w (slot_quadword (range_of c).start s).0) (high_at w (slot_quadword (range_of c).start s).0)

-- the first that is not granted of what is named at a slot of the clause that the pair at p opens
unfoldable pub fault_at : Card → List ℕ → ℕ → Slots → Option NotGranted
fault_at card w p s = first_fault (limits_in card (clause_at w p)) (named_in w s (clause_at w p))

-- where a rule is broken
abbrev pub fault_there : Card → List ℕ → ℕ → Place → Slots → Option NotGranted
fault_there card w rule place.Whole slot = None
fault_there card w rule (place.Line n) slot = None
fault_there card w rule (place.Quadword q) slot = cond (asks_names rule) (fault_at card w q.0 slot) None

abbrev pub fault_of : Card → List ℕ → Verdict → Option NotGranted
fault_of card w Accepted = None
fault_of card w (Err refusal) = fault_there card w refusal.rule refusal.place refusal.slot

-- ---- the explanation

-- a verdict by a card and the pack's words
abbrev pub explained : Card → List ℕ → Verdict → Explanation
explained card w verdict = record { verdict = verdict; fault = fault_of card w verdict }

-- a verdict that has no numbers: 1 by no card, or 2 by a pack's bytes
abbrev pub plain : Verdict → Explanation
plain verdict = record { verdict = verdict; fault = None }

abbrev pub by_read : CardRead → List ℕ → Verdict → Explanation
by_read (Whole card n) w verdict = explained card w verdict
by_read (Err bad) w verdict = plain verdict

-- of a card by value and a pack's words
unfoldable pub explanation : Card → List ℕ → Explanation
explanation card w = explained card w (judgement card w)

-- of a card in bytes
unfoldable pub explanation_of_bytes : List ℕ → List ℕ → Explanation
explanation_of_bytes bytes w = by_read (card_of bytes) w (judgement_of_bytes bytes w)

-- ---- of a card and a pack in bytes

-- one behind the other: what stands behind the card is the pack
abbrev pub pack_behind : List ℕ → CardRead → List ℕ
pack_behind input (Whole card taken) = drop taken input
pack_behind input (Err bad) = []

unfoldable pub explanation_of : List ℕ → Explanation
explanation_of input = by_read (card_of input) (words_in (pack_behind input (card_of input))) (judged_of input).verdict

-- each in a file
unfoldable pub explanation_of_files : List ℕ → List ℕ → Explanation
explanation_of_files text pack = by_read (card_of text) (words_in pack) (judged_of_files text pack).verdict
