-- What the code keeps of a group while it reads it, instruction by instruction, so that each is decoded once; and what that says of the
-- group's rules. It is for the code alone: that it comes to what specs/Group.antt asks is proved in proofs/OfUnits.antt,
-- proofs/OfReduction.antt and proofs/OfGroup.antt.
use Rattle.std.specs.Prelude.{ℕ, zero, suc, ◌+◌, ◌%◌, ◌^◌, ◌≤◌, max, ◌≡◌, Bool, true, false, cond, not, ◌&&◌, ◌||◌, List, [], ◌∷◌, eqb, ltb, leb, Option, Some, None, Result, Ok, Err, ⊤}
use Rattle.std.specs.Bool.{then_some}
use Rattle.std.specs.Option.{option_or}
use Rattle.units.specs.declared.Slots.{Slots}
use Rattle.units.specs.Units.{slots}
use Rattle.bits.specs.Fields.{field_of}
use Rattle.bits.specs.Code.{with_field}
use Rattle.formats.specs.Fields.{◌of◌, BANK_SWIZZLE, DST_CHAN}
use Rattle.opcodes.specs.declared.alu.Unit.{Unit}
use Rattle.opcodes.specs.declared.alu.Unit.TheVariants.{Any, Trans}
use Rattle.opcodes.specs.declared.alu.Issue.{Issue}
use Rattle.opcodes.specs.declared.alu.Issue.TheVariants.{Predicate, Kill, Mova, Reduction}
use Rattle.opcodes.specs.Alu.{is_unit, is_issue, issue_number}
use Rattle.grants.specs.declared.Limits.{Limits}
use Rattle.grants.specs.Grants.{all_granted}
use Rattle.instructions.specs.Instruction.{class_of, bad_number, bad_field, has_relative, literals, named}
use Rattle.groups.specs.declared.counts.Count.{Count}
use Rattle.groups.specs.declared.counts.Count.TheVariants.{Nothing, One, Several}
use Rattle.groups.specs.declared.Issues.{Issues}
use Rattle.groups.specs.declared.Seen.{Seen}
use Rattle.groups.specs.declared.GroupFault.{GroupFault}
use Rattle.groups.specs.Group.{PerInstruction, any_below, all_below, literals_below, trans, units_before, unit_at, bad_unit_at, issued, is_alike}

-- ---- 13: the units taken are the bits of a number

abbrev pub Taken : Type 0
Taken = ℕ

-- that unit is taken
unfoldable pub is_taken : Taken → ℕ → Bool
is_taken t u = eqb (field_of t u 1) 1

-- the units taken, with that one too
unfoldable pub occupied : Taken → ℕ → Taken
occupied t u = with_field t u 1 1

-- the units of a list
unfoldable pub taken_by : List ℕ → Taken
taken_by [] = 0
taken_by (u ∷ us) = occupied (taken_by us) u

abbrev pub taken_before : PerInstruction → ℕ → Taken
taken_before hi j = taken_by (units_before hi j)

-- the unit that an instruction of this class gets with this DST_CHAN
unfoldable pub unit_for : Taken → Unit → ℕ → ℕ
unit_for t k chan = cond (is_unit k Trans || (is_unit k Any && is_taken t chan)) trans chan

-- the same of a unit class by its number, and by 1 where the instruction goes to Trans
unfoldable pub moves_by : Taken → ℕ → ℕ → ℕ
moves_by t n chan = cond (eqb n 3 || (eqb n 1 && is_taken t chan)) 1 0

unfoldable pub unit_by : Taken → ℕ → ℕ → ℕ
unit_by t n chan = cond (eqb n 3 || (eqb n 1 && is_taken t chan)) trans chan

-- and one with this high word
unfoldable pub unit_of : Taken → ℕ → ℕ
unit_of t h = unit_for t (class_of h).unit (DST_CHAN of h)

-- that unit or one above it is taken; there are five
unfoldable pub taken_from : Taken → ℕ → Bool
taken_from t u = not (eqb (field_of t u 5) 0)

unfoldable pub bad_unit : Taken → ℕ → ℕ → Bool
bad_unit t u swizzle = taken_from t u || (eqb u trans && ltb 3 swizzle)

-- ---- 14: a reduction's group. Units rise where rule 13 is kept, so the four vector units are filled exactly if instruction j is in
-- unit j for j from 0 to 3

-- an instruction is one of the first four, and not in the unit of its number or unlike the group's first
unfoldable pub is_uneven : ℕ → ℕ → ℕ → ℕ → Bool
is_uneven j u first h = ltb j trans && not (eqb u j && is_alike first h)

unfoldable pub any_uneven : PerInstruction → ℕ → Bool
any_uneven hi m = any_below (λ j. is_uneven j (unit_at hi j) (hi 0) (hi j)) m

unfoldable pub any_reduction : PerInstruction → ℕ → Bool
any_reduction hi m = any_below (λ j. is_issue (class_of (hi j)).issue Reduction) m

-- ---- counts: none, one or several

unfoldable pub count_of : ℕ → Count
count_of zero = Nothing
count_of (suc zero) = One
count_of (suc (suc n)) = Several

abbrev pub one_if : Bool → Count
one_if b = cond b One Nothing

-- two counts together
abbrev pub together : Count → Count → Count
together Nothing n = n
together One Nothing = One
together One One = Several
together One Several = Several
together Several n = Several

abbrev pub is_one : Count → Bool
is_one Nothing = false
is_one One = true
is_one Several = false

abbrev pub is_several : Count → Bool
is_several Nothing = false
is_several One = false
is_several Several = true

-- ---- the first instruction that breaks a rule, by how many slots it lies behind the group's first

-- the one that broke it before, or else the one in slot j if it does
abbrev pub or_here : Option Slots → Slots → Bool → Option Slots
or_here first j b = option_or first (then_some b j)

unfoldable pub first_below : (ℕ → Bool) → ℕ → Option Slots
first_below f zero = None
first_below f (suc m) = or_here (first_below f m) (slots m) (f m)

-- ---- rule 14's figures

unfoldable pub next_issues : Issues → Issue → Bool → Bool → Issues
next_issues i issue relative uneven =
    record {
      setters = together i.setters (one_if (is_issue issue Predicate));
      issued = together i.issued (one_if (is_issue issue Predicate || is_issue issue Kill));
      kill = i.kill || is_issue issue Kill;
      mova = i.mova || is_issue issue Mova;
      relative = i.relative || relative;
      reduction = i.reduction || is_issue issue Reduction;
      uneven = i.uneven || uneven;
    }

unfoldable pub issues_of : PerInstruction → PerInstruction → ℕ → Issues
issues_of lo hi m =
    record {
      setters = count_of (issued Predicate hi m);
      issued = count_of (issued Predicate hi m + issued Kill hi m);
      kill = ltb 0 (issued Kill hi m);
      mova = ltb 0 (issued Mova hi m);
      relative = any_below (λ j. has_relative (lo j) (hi j)) m;
      reduction = any_reduction hi m;
      uneven = any_uneven hi m;
    }

-- the issue kinds of the first m instructions in one number, a digit for each kind: plain ones, setters, kills, MOVAs, reductions
unfoldable pub tally_of : PerInstruction → ℕ → ℕ
tally_of hi zero = 0
tally_of hi (suc m) = tally_of hi m + 16 ^ issue_number (class_of (hi m)).issue

-- the four vector units are taken by the group's first four instructions, which are like its first
unfoldable pub is_straight : PerInstruction → ℕ → Taken → Bool
is_straight hi m t = leb trans m && (eqb (t % 16) 15 && all_below (λ k. is_alike (hi 0) (hi k)) trans)

-- rule 14 on a group of m instructions that takes these units, by what is counted
pub record Issued (lo hi : PerInstruction) (m : ℕ) (t : Taken) (may_kill : Bool) : Type 0 where
  pub few : issued Predicate hi m + issued Kill hi m ≤ 1
  pub kills : (ltb 0 (issued Kill hi m) && not may_kill) ≡ false
  pub movas : (ltb 0 (issued Mova hi m) && any_below (λ j. has_relative (lo j) (hi j)) m) ≡ false
  pub reductions : (ltb 0 (issued Reduction hi m) && not (is_straight hi m t)) ≡ false

unfoldable pub bad_issues : Issues → ℕ → Bool → Bool
bad_issues i m may_kill =
    is_several i.issued
    || ((i.kill && not may_kill) || ((i.mova && i.relative) || (i.reduction && (ltb m trans || i.uneven))))

-- ---- all of it

abbrev pub none_seen : Seen
none_seen =
    record {
      literals = 0;
      numbers = None;
      fields = None;
      units = None;
      grants = None;
      taken = 0;
      issues =
          record {
            setters = Nothing;
            issued = Nothing;
            kill = false;
            mova = false;
            relative = false;
            reduction = false;
            uneven = false;
          };
    }

-- one instruction more, in slot j of the group, where `first` is the high word of the group's first
unfoldable pub next_seen : Limits → Slots → ℕ → ℕ → ℕ → Seen → Seen
next_seen limits j first l h s =
    record {
      literals = max s.literals (literals l h);
      numbers = or_here s.numbers j (bad_number h);
      fields = or_here s.fields j (bad_field l h);
      units = or_here s.units j (bad_unit s.taken (unit_of s.taken h) (BANK_SWIZZLE of h));
      grants = or_here s.grants j (not (all_granted limits (named l h)));
      taken = occupied s.taken (unit_of s.taken h);
      issues = next_issues s.issues (class_of h).issue (has_relative l h) (is_uneven j.0 (unit_of s.taken h) first h);
    }

-- what has been seen of the first m instructions
unfoldable pub seen_of : Limits → PerInstruction → PerInstruction → ℕ → Seen
seen_of limits lo hi m =
    record {
      literals = literals_below lo hi m;
      numbers = first_below (λ j. bad_number (hi j)) m;
      fields = first_below (λ j. bad_field (lo j) (hi j)) m;
      units = first_below (bad_unit_at hi) m;
      grants = first_below (λ j. not (all_granted limits (named (lo j) (hi j)))) m;
      taken = taken_before hi m;
      issues = issues_of lo hi m;
    }

-- ---- the group's first broken rule of 11 to 15, and how far behind the group's first slot it shows

-- the code's type for it: `Ok`, or the fault
abbrev pub Outcome : Type 0
Outcome = Result ⊤ GroupFault

pattern abbrev pub Clean : Outcome
Clean = Ok (record {})

abbrev pub Broken : ℕ → Slots → Outcome
Broken r j = Err (record { rule = r; behind = j })

unfoldable pub first_fault : ℕ → Option Slots → Outcome → Outcome
first_fault r None rest = rest
first_fault r (Some j) rest = Broken r j

unfoldable pub fault_of : Seen → ℕ → Bool → Outcome
fault_of s m may_kill =
    first_fault 11 s.numbers
    (first_fault 12 s.fields
    (first_fault 13 s.units
    (cond (bad_issues s.issues m may_kill) (Broken 14 (slots 0)) (first_fault 15 s.grants Clean))))
