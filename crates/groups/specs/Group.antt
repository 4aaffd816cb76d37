-- Rules 11 to 15 on one group: document 01, "Groups of ALU slots". A group of m instructions is given by its words: instruction j, from
-- 0 on, is `lo j` and `hi j`. What is asked of an instruction by itself stands in `instructions`.
use Rattle.std.specs.Prelude.{ℕ, zero, suc, ◌+◌, max, Bool, true, false, cond, not, ◌&&◌, ◌||◌, List, [], ◌∷◌, ◌++◌, eqb, ltb}
use Rattle.units.specs.declared.Quadwords.{Quadwords}
use Rattle.units.specs.declared.Slots.{Slots}
use Rattle.units.specs.Units.{slots, slot_behind}
use Rattle.formats.specs.Fields.{◌of◌, BANK_SWIZZLE, DST_CHAN, «CLAMP», «OMOD», OP2_INST}
use Rattle.checks.specs.declared.Place.TheVariants.{Quadword}
use Rattle.checks.specs.Checks.{Check, check, below}
use Rattle.opcodes.specs.declared.alu.Unit.TheVariants.{Any, Trans}
use Rattle.opcodes.specs.declared.alu.Issue.{Issue}
use Rattle.opcodes.specs.declared.alu.Issue.TheVariants.{Predicate, Kill, Mova, Reduction}
use Rattle.opcodes.specs.Alu.{is_unit, is_issue}
use Rattle.grants.specs.declared.Limits.{Limits}
use Rattle.grants.specs.Grants.{all_granted}
use Rattle.instructions.specs.Instruction.{class_of, bad_number, bad_field, has_relative, literals, named}

-- ---- over the numbers below m

-- a word of each instruction, by its number in the group
abbrev pub PerInstruction : Type 0
PerInstruction = ℕ → ℕ

unfoldable pub count_below : (ℕ → Bool) → ℕ → ℕ
count_below f zero = 0
count_below f (suc m) = cond (f m) (suc (count_below f m)) (count_below f m)

unfoldable pub any_below : (ℕ → Bool) → ℕ → Bool
any_below f zero = false
any_below f (suc m) = any_below f m || f m

unfoldable pub all_below : (ℕ → Bool) → ℕ → Bool
all_below f zero = true
all_below f (suc m) = all_below f m && f m

-- ---- 10: the literal quadwords of a group, by its highest literal channel

unfoldable pub literals_below : PerInstruction → PerInstruction → ℕ → ℕ
literals_below lo hi zero = 0
literals_below lo hi (suc m) = max (literals_below lo hi m) (literals (lo m) (hi m))

-- ---- 13: units. 0 to 3 are the vector units X, Y, Z, W, and then comes Trans

abbrev pub trans : ℕ
trans = 4

-- one of the units of a list is such a unit
unfoldable pub some_unit : (ℕ → Bool) → List ℕ → Bool
some_unit f [] = false
some_unit f (u ∷ us) = f u || some_unit f us

-- trans only goes to Trans, vector only to its DST_CHAN, any unit to its DST_CHAN or, that being taken, to Trans: of the units of the
-- instructions before and the high word. (A number that is not taken is rule 11's)
unfoldable pub unit_for : List ℕ → ℕ → ℕ
unit_for before h =
    cond (is_unit (class_of h).unit Trans || (is_unit (class_of h).unit Any && some_unit (eqb (DST_CHAN of h)) before)) trans
    (DST_CHAN of h)

unfoldable pub units_before : PerInstruction → ℕ → List ℕ
units_before hi zero = []
units_before hi (suc j) = unit_for (units_before hi j) (hi j) ∷ units_before hi j

unfoldable pub unit_at : PerInstruction → ℕ → ℕ
unit_at hi j = unit_for (units_before hi j) (hi j)

-- refused: a unit taken twice, a vector unit below an earlier one, anything after Trans, swizzle above 3 in Trans
unfoldable pub bad_unit : List ℕ → ℕ → ℕ → Bool
bad_unit before u swizzle =
    some_unit (eqb u) before
    || ((ltb u trans && some_unit (ltb u) before) || (some_unit (eqb trans) before || (eqb u trans && ltb 3 swizzle)))

unfoldable pub bad_unit_at : PerInstruction → ℕ → Bool
bad_unit_at hi j = bad_unit (units_before hi j) (unit_at hi j) (BANK_SWIZZLE of (hi j))

-- ---- 14: issue, by number alone

-- the instructions of an issue kind
unfoldable pub issued : Issue → PerInstruction → ℕ → ℕ
issued kind hi m = count_below (λ j. is_issue (class_of (hi j)).issue kind) m

-- one number, equal OMOD and CLAMP
unfoldable pub is_alike : ℕ → ℕ → Bool
is_alike g h =
    eqb (OP2_INST of g) (OP2_INST of h) && (eqb («OMOD» of g) («OMOD» of h) && eqb («CLAMP» of g) («CLAMP» of h))

-- each of the four vector units is held by an instruction like the one with high word g
unfoldable pub is_filled : ℕ → PerInstruction → ℕ → Bool
is_filled g hi m = all_below (λ u. any_below (λ k. eqb (unit_at hi k) u && is_alike g (hi k)) m) trans

-- a reduction fills all four vector units with one number, equal OMOD and CLAMP
unfoldable pub bad_reduction : PerInstruction → ℕ → Bool
bad_reduction hi m = any_below (λ j. is_issue (class_of (hi j)).issue Reduction && not (is_filled (hi j) hi m)) m

-- at most one of all predicate setters and kills together; kills only where they may stand; no MOVA in a group with any relative bit set
unfoldable pub bad_issue : Bool → PerInstruction → PerInstruction → ℕ → Bool
bad_issue may_kill lo hi m =
    ltb 1 (issued Predicate hi m + issued Kill hi m)
    || ((ltb 0 (issued Kill hi m) && not may_kill)
    || ((ltb 0 (issued Mova hi m) && any_below (λ j. has_relative (lo j) (hi j)) m)
    || bad_reduction hi m))

-- ---- the order: 11 to 15 rising, lowest slot first. The group's first slot is g, its opener stands at the place

-- a rule asked of each instruction: instruction j stands j slots behind the first
unfoldable pub each_of : ℕ → Quadwords → Slots → (ℕ → Bool) → ℕ → List Check
each_of rule place g f m = below (λ j. check rule (Quadword place) (slot_behind g (slots j)) (f j) ∷ []) m

unfoldable pub rule_checks : Quadwords → Slots → Limits → Bool → PerInstruction → PerInstruction → ℕ → List Check
rule_checks place g limits may_kill lo hi m =
    each_of 11 place g (λ j. bad_number (hi j)) m
    ++ (each_of 12 place g (λ j. bad_field (lo j) (hi j)) m
    ++ (each_of 13 place g (bad_unit_at hi) m
    ++ (check 14 (Quadword place) g (bad_issue may_kill lo hi m)
    ∷ each_of 15 place g (λ j. not (all_granted limits (named (lo j) (hi j)))) m)))
