-- What the code keeps of a group, step by step. Assumes nothing.
use mathlib.Core.Path.{◌≡◌, refl, ap, ◌∙◌}
use mathlib.Core.Bool.{Bool, false, not}
use Prim.Native.Nat.{ℕ, ◌%◌, max}
use Rattle.std.specs.Prelude.{Option, None}
use Rattle.units.specs.declared.Slots.{Slots}
use Rattle.formats.specs.Fields.{◌of◌, BANK_SWIZZLE, DST_CHAN}
use Rattle.opcodes.specs.declared.alu.Class.{Class}
use Rattle.opcodes.specs.declared.alu.Unit.{Unit}
use Rattle.opcodes.specs.declared.alu.Unit.TheVariants.{NotTaken, Any, Vector, Trans}
use Rattle.opcodes.specs.contracts.alu.Unit.{the_type}
use denote.Enum.Declared.{tag_of}
use Rattle.opcodes.specs.Alu as alu
use Rattle.grants.specs.declared.Limits.{Limits}
use Rattle.grants.specs.Grants.{all_granted}
use Rattle.instructions.specs.Instruction.{class_of, bad_number, bad_field, has_relative, literals, named}
use Rattle.groups.specs.declared.Issues.{Issues}
use Rattle.groups.specs.declared.Seen.{Seen}
use Rattle.groups.specs.Code.{Taken, unit_for, unit_by, unit_of, bad_unit, occupied, is_uneven, or_here, next_issues, bad_issues, next_seen, Clean, first_fault, fault_of}

-- a class by its number in the code is the class
pub unit_by_tag : (t : Taken) (k : Unit) (chan : ℕ) → unit_by t (tag_of the_type k % 4) chan ≡ unit_for t k chan
unfolding unit_by unit_for
unit_by_tag t NotTaken chan = refl
unit_by_tag t Any chan = refl
unit_by_tag t Vector chan = refl
unit_by_tag t Trans chan = refl

-- it does not, and none did before
pub not_here : (j : Slots) (b : Bool) → b ≡ false → None ≡ or_here None j b
not_here j b h = rw h

-- ---- one instruction more, from what was asked of it

-- its class, its unit and what follows from them
pub record Asked (t : Taken) (j : Slots) (first h : ℕ) (k : Class) (chan u swizzle : ℕ) (bad uneven taken : Bool) : Type 0 where
  pub class_is : k ≡ class_of h
  pub chan_is : chan ≡ DST_CHAN of h
  pub unit_is : u ≡ unit_for t k.unit chan
  pub swizzle_is : swizzle ≡ BANK_SWIZZLE of h
  pub bad_is : bad ≡ bad_unit t u swizzle
  pub uneven_is : uneven ≡ is_uneven j.0 u first h
  pub taken_is : taken ≡ alu.is_taken k

module _ (limits : Limits) (j : Slots) (first l h : ℕ) (s : Seen) {k : Class} {chan u swizzle : ℕ} {bad uneven taken : Bool}
    (q : Asked s.taken j first h k chan u swizzle bad uneven taken) where
  unit_of_lem : u ≡ unit_of s.taken h
  unfolding unit_of
  unit_of_lem = q.unit_is ∙ (λ i. unit_for s.taken (q.class_is i).unit (q.chan_is i))

  pub next_seen_lem :
      {literal : ℕ} {numbers fields units grants : Option Slots} {after : Taken} {issues : Issues} {wrong-field relative granted : Bool}
      {own : ℕ}
      → own ≡ literals l h
      → literal ≡ max s.literals own
      → numbers ≡ or_here s.numbers j (not taken)
      → wrong-field ≡ bad_field l h
      → fields ≡ or_here s.fields j wrong-field
      → units ≡ or_here s.units j bad
      → granted ≡ all_granted limits (named l h)
      → grants ≡ or_here s.grants j (not granted)
      → after ≡ occupied s.taken u
      → relative ≡ has_relative l h
      → issues ≡ next_issues s.issues k.issue relative uneven
      → record { literals = literal; numbers = numbers; fields = fields; units = units; grants = grants; taken = after; issues = issues } ≡ next_seen limits j first l h s
  unfolding next_seen bad_number
  next_seen_lem own_is literal-is numbers-is wrong-is fields-is units-is granted-is grants-is after_is relative-is issues-is =
      λ i.
      record {
        literals = (literal-is ∙ ap (max s.literals) own_is) i;
        numbers = (numbers-is ∙ (λ n. or_here s.numbers j (not ((q.taken_is ∙ ap alu.is_taken q.class_is) n)))) i;
        fields = (fields-is ∙ ap (or_here s.fields j) wrong-is) i;
        units = (units-is ∙ ap (or_here s.units j) (q.bad_is ∙ (λ n. bad_unit s.taken (unit_of_lem n) (q.swizzle_is n)))) i;
        grants = (grants-is ∙ (λ n. or_here s.grants j (not (granted-is n)))) i;
        taken = (after_is ∙ ap (occupied s.taken) unit_of_lem) i;
        issues =
            (issues-is ∙ (λ n. next_issues s.issues (q.class_is n).issue (relative-is n) ((q.uneven_is ∙ (λ m. is_uneven j.0 (unit_of_lem m) first h)) n)))
            i;
      }

-- ---- a group that breaks nothing

module _ (s : Seen) (m : ℕ) (may_kill : Bool) where
  pub breaks-none :
      s.numbers ≡ None → s.fields ≡ None → s.units ≡ None → bad_issues s.issues m may_kill ≡ false → s.grants ≡ None
      → Clean ≡ fault_of s m may_kill
  unfolding fault_of first_fault
  breaks-none a b d e g = rw (a, b, d, e, g)
