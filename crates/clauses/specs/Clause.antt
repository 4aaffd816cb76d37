-- An ALU clause, group by group: document 01, "Groups of ALU slots", and the order of rules 10 to 15 in "Numbers and what they mean".
-- A clause of n slots starts at quadword s; what is asked of one group stands in `groups`.
use Rattle.std.specs.Prelude.{◌≡◌, ℕ, zero, suc, ◌+◌, ◌<◌, ◌≤◌, Bool, true, false, cond, not, ◌&&◌, ◌||◌, List, [], ◌∷◌, ◌++◌, length, ◌==◌}
use Rattle.units.specs.declared.Quadwords.{Quadwords}
use Rattle.units.specs.declared.Slots.{Slots}
use Rattle.units.specs.Units.{slots, words, low_at, high_at, slot_quadword, slot_behind, slots_left, slots_length, lies_in, is_slot_below}
use Rattle.formats.specs.Fields.{◌of◌, «LAST»}
use Rattle.checks.specs.declared.Place.TheVariants.{Quadword}
use Rattle.checks.specs.Checks.{Check, check}
use Rattle.card.specs.declared.Kind.{Kind}
use Rattle.card.specs.declared.Kind.TheVariants.{Pixel, Vertex, Geometry}
use Rattle.opcodes.specs.declared.alu.Issue.TheVariants.{Predicate}
use Rattle.grants.specs.declared.Limits.{Limits}
use Rattle.grants.specs.Grants.{Name}
use Rattle.instructions.specs.Instruction.{named}
use Rattle.groups.specs.Group.{literals_below, issued, rule_checks}

-- ---- one group, whose first slot is quadword q, with so many slots left in its clause

-- instruction j of the group stands j slots behind the first
unfoldable pub low_of : List ℕ → Quadwords → ℕ → ℕ
low_of w q j = low_at w (slot_quadword q (slots j)).0

unfoldable pub high_of : List ℕ → Quadwords → ℕ → ℕ
high_of w q j = high_at w (slot_quadword q (slots j)).0

unfoldable pub is_last : ℕ → Bool
is_last l = («LAST» of l) == 1

-- how many instructions the group has: up to the first with LAST set, five at most. j are passed and k more are allowed; 0 where none
-- of those in the clause has LAST
unfoldable pub size_from : List ℕ → Quadwords → Slots → ℕ → ℕ → ℕ
size_from w q left j zero = 0
size_from w q left j (suc k) =
    cond (is_slot_below (slots j) left) (cond (is_last (low_of w q j)) (suc j) (size_from w q left (suc j) k)) 0

unfoldable pub size_of : List ℕ → Quadwords → Slots → ℕ
size_of w q left = size_from w q left 0 5

-- the slots that it takes: instructions, then literal quadwords
unfoldable pub span_of : List ℕ → Quadwords → Slots → Slots
span_of w q left = slot_behind (slots (size_of w q left)) (slots (literals_below (low_of w q) (high_of w q) (size_of w q left)))

-- 10: a group is 1 to 5 instructions, the last with LAST set, then literal quadwords; groups fill the clause exactly
unfoldable pub bad_shape : List ℕ → Quadwords → Slots → Bool
bad_shape w q left = size_of w q left == 0 || is_slot_below left (span_of w q left)

-- ---- a clause of n slots that starts at quadword s: its groups, by their first slots

-- how many instructions the group at slot g has, the slots that it takes, and the names of its instruction j
abbrev pub size_at : List ℕ → Quadwords → Slots → Slots → ℕ
size_at w s n g = size_of w (slot_quadword s g) (slots_left n g)

abbrev pub span_at : List ℕ → Quadwords → Slots → Slots → Slots
span_at w s n g = span_of w (slot_quadword s g) (slots_left n g)

abbrev pub named_at : List ℕ → Quadwords → Slots → ℕ → List Name
named_at w s g j = named (low_of w (slot_quadword s g) j) (high_of w (slot_quadword s g) j)

-- from slot g on, at most k of them; behind a group of bad shape there is none
unfoldable pub groups_from : List ℕ → Quadwords → Slots → ℕ → Slots → List Slots
groups_from w s n zero g = []
groups_from w s n (suc k) g =
    cond (is_slot_below g n)
    (g ∷ cond (bad_shape w (slot_quadword s g) (slots_left n g)) [] (groups_from w s n k (slot_behind g (span_at w s n g)))) []

unfoldable pub groups_of : List ℕ → Quadwords → Slots → List Slots
groups_of w s n = groups_from w s n n.0 (slots 0)

-- ---- the order of a clause's checks

unfoldable pub is_pixel : Kind → Bool
is_pixel Pixel = true
is_pixel Vertex = false
is_pixel Geometry = false

-- kills only in ps and in the clause's last group, the one that the clause ends with
abbrev pub may_kill : Bool → Slots → Slots → Bool
may_kill pixel n end = pixel && end.0 == n.0

-- group by group: 10, then 11 to 15
unfoldable pub group_checks : Bool → Limits → List ℕ → Quadwords → Quadwords → Slots → Slots → List Check
group_checks pixel limits w place s n g =
    check 10 (Quadword place) g (bad_shape w (slot_quadword s g) (slots_left n g))
    ∷ rule_checks place g limits (may_kill pixel n (slot_behind g (span_at w s n g))) (low_of w (slot_quadword s g)) (high_of w (slot_quadword s g)) (size_at w s n g)

unfoldable pub checks_of : Bool → Limits → List ℕ → Quadwords → Quadwords → Slots → List Slots → List Check
checks_of pixel limits w place s n [] = []
checks_of pixel limits w place s n (g ∷ gs) =
    group_checks pixel limits w place s n g ++ checks_of pixel limits w place s n gs

-- 14, after all groups: PUSH_BEFORE holds exactly one predicate setter (slot 0 if not)
unfoldable pub setters_in : List ℕ → Quadwords → Slots → List Slots → ℕ
setters_in w s n [] = 0
setters_in w s n (g ∷ gs) = issued Predicate (high_of w (slot_quadword s g)) (size_at w s n g) + setters_in w s n gs

unfoldable pub bad_push : Bool → ℕ → Bool
bad_push pushBefore count = pushBefore && not (count == 1)

-- nothing is asked of a clause that does not lie in the buffer: rule 6 refuses it before
unfoldable pub clause_checks : Kind → Bool → Limits → List ℕ → Quadwords → Quadwords → Slots → List Check
clause_checks kind pushBefore limits w place s n =
    cond (lies_in (words (length w)) s (slots_length n))
    (checks_of (is_pixel kind) limits w place s n (groups_of w s n)
    ++ (check 14 (Quadword place) (slots 0) (bad_push pushBefore (setters_in w s n (groups_of w s n))) ∷ [])) []

-- ---- what rule 10 comes to: no instruction of an accepted clause stands outside its groups

-- a group starts at slot g
pub record GroupAt (w : List ℕ) (s : Quadwords) (n g : Slots) : Type 0 where
  -- it has 1 to 5 instructions
  pub some : 0 < size_at w s n g
  pub few : size_at w s n g ≤ 5
  -- LAST is set on the last of them and on no other
  pub last : (j : ℕ) → suc j ≡ size_at w s n g → is_last (low_of w (slot_quadword s g) j) ≡ true
  pub others : (j : ℕ) → suc j < size_at w s n g → is_last (low_of w (slot_quadword s g) j) ≡ false
  -- its slots lie in the clause
  pub inside : (slot_behind g (span_at w s n g)).0 ≤ n.0

-- groups that start at the slots of the list fill the clause exactly from slot g on: the first starts at g, each other one behind the
-- slots that the one before it takes, and the clause ends behind the last
abbrev pub Fills : List ℕ → Quadwords → Slots → Slots → List Slots → Type 0
Fills w s n g [] = g ≡ n
Fills w s n g (h ∷ hs) = (h ≡ g) × (GroupAt w s n g × Fills w s n (slot_behind g (span_at w s n g)) hs)
