-- Demand 3: what holds of document 01's walk of an accepted pack, after any list of answers.
use Rattle.std.specs.Prelude.{ℕ, zero, suc, ◌≤◌, ◌<◌, ◌≡◌, Bool, true, false, Option, Some, None, length}
use mathlib.Core.List.{List, [], ◌∷◌, ◌++◌, Memᴰ}
use Rattle.units.specs.declared.Slots.{Slots}
use Rattle.units.specs.Units.{slots, low_at, high_at, words_of, range_end, slots_length, fetches_length}
use Rattle.card.specs.declared.Card.{Card}
use Rattle.card.specs.Card.{Whole, card_of}
use Rattle.grants.specs.Grants.{Name, granted}
use Rattle.fetches.specs.Fetches as fetches
use Rattle.clauses.specs.Clause as alu
use Rattle.opcodes.specs.declared.cf.Control.TheVariants.{NotTaken}
use Rattle.section.specs.declared.Clause.{Clause}
use Rattle.section.specs.declared.Clause.TheVariants.{Alu, Fetch}
use Rattle.section.specs.Control.{control_at, is_end, end_of}
use Rattle.section.specs.Rules.{clause_at, export_names}
use Rattle.walk.specs.Flow.{flow_at}
use Rattle.walk.specs.Walk.{State, start, step, walk}
use Rattle.judge.specs.Judge.{limits_in}

-- ---- what the clause that a pair opens (TEX, VTX, VTX_TC, CF_ALU) is sure of, and what is named

-- a clause lies wholly behind the section, which ends at e, and inside a buffer of m words
abbrev pub LiesBehind : ℕ → ℕ → Option Clause → Type 0
LiesBehind e m None = Unit {0}
LiesBehind e m (Some (Alu s n push mode0 mode1)) = (e < s.0) × ((words_of (range_end s (slots_length n))).0 ≤ m)
LiesBehind e m (Some (Fetch s n kind)) = (e < s.0) × ((words_of (range_end s (fetches_length n))).0 ≤ m)

-- the groups of an ALU clause fill it exactly, from its first slot to its last: there is no instruction in it but theirs
abbrev pub IsFilled : List ℕ → Option Clause → Type 0
IsFilled w None = Unit {0}
IsFilled w (Some (Alu s n push mode0 mode1)) = alu.Fills w s n (slots 0) (alu.groups_of w s n)
IsFilled w (Some (Fetch s n kind)) = Unit {0}

-- the names below n, and those of a list of groups
unfoldable pub names_below : (ℕ → List Name) → ℕ → List Name
names_below f zero = []
names_below f (suc n) = names_below f n ++ f n

unfoldable pub names_of_each : (Slots → List Name) → List Slots → List Name
names_of_each f [] = []
names_of_each f (g ∷ gs) = f g ++ names_of_each f gs

-- every register and constant directly named in a clause: by each instruction of each group, by each fetch
unfoldable pub clause_names : List ℕ → Option Clause → List Name
clause_names w None = []
clause_names w (Some (Alu s n push mode0 mode1)) =
    names_of_each (λ g. names_below (alu.named_at w s g) (alu.size_at w s n g)) (alu.groups_of w s n)
clause_names w (Some (Fetch s n kind)) = names_below (fetches.named_at kind w s) n.0

-- by the pair at p itself (exports) or in its clause
unfoldable pub names_at : List ℕ → ℕ → List Name
names_at w p = export_names (control_at w p) (low_at w p) (high_at w p) ++ clause_names w (clause_at w p)

-- ---- the claim

-- the end: the first pair with bit 29 clear and bit 21 set
pub record FirstEnd (w : List ℕ) (e : ℕ) : Type 0 where
  pub is_an_end : is_end (high_at w e) ≡ true
  pub none_earlier : (p : ℕ) → p < e → is_end (high_at w p) ≡ false

pub record Safe (card : Card) (w : List ℕ) (s : State) : Type 0 where
  -- no step has lacked a frame or stood outside the section
  pub no_fault : s.fault ≡ false
  -- the section runs from quadword 0 to the end, which it has
  pub has_end : FirstEnd w (end_of w)
  -- the place is inside the section
  pub inside : s.at ≤ end_of w
  -- the pair there has a number that is taken
  pub number_is_taken : control_at w s.at ≡ NotTaken → ⊥
  -- the clause opened there lies wholly behind the section and inside the buffer
  pub clause_behind : LiesBehind (end_of w) (length w) (clause_at w s.at)
  -- the groups of an ALU clause are all that stands in it
  pub clause_filled : IsFilled w (clause_at w s.at)
  -- every register and constant directly named there or in the clause is granted
  pub names_are_granted :
      (x : Name) → Memᴰ x (names_at w s.at) → granted (limits_in card (clause_at w s.at)) x ≡ true
  -- the stack is at most the card's number
  pub not_deep : length s.stack ≤ card.stack
  -- until the walk has halted, which it has at the end, either answer leads to a next instruction inside the section
  pub goes_on :
      (s.at ≡ end_of w → ⊥) → (a : Bool) → ((step (end_of w) (flow_at w) s a).fault ≡ false) × ((step (end_of w) (flow_at w) s a).at ≤ end_of w)
  -- if it has halted the stack is empty
  pub halted_empty : s.at ≡ end_of w → s.stack ≡ []

-- the walk from quadword 0 with an empty stack, along every list of yes and no
abbrev pub Safely : Card → List ℕ → Type 0
Safely card w = (answers : List Bool) → Safe card w (walk (end_of w) (flow_at w) start answers)

-- the same of a card in bytes
abbrev pub SafelyRead : List ℕ → List ℕ → Type 0
SafelyRead bytes w = (card : Card) (n : ℕ) → card_of bytes ≡ Whole card n → Safely card w
