-- Small clauses and their answers, by computation: each way in which rules 10 to 15 can break, and what just passes. Assumes nothing.
use Rattle.std.proofs.Common.{◌≡◌, ℕ, Bool, true, false, List, [], ◌∷◌, refl}
use Rattle.units.specs.Units.{quadwords, slots, low_at, high_at, lies_in}
use Rattle.checks.specs.Verdict.{verdict_number, verdict_place, verdict_slot}
use Rattle.checks.specs.Checks.{first_broken, below}
use Rattle.card.specs.declared.Kind.{Kind}
use Rattle.card.specs.declared.Kind.TheVariants.{Pixel, Vertex}
use Rattle.opcodes.specs.Alu.{op2, op3, op2_class, op3_class}
use Rattle.grants.specs.declared.Limits.{Limits}
use Rattle.instructions.specs.Instruction.{is_op3, class_of, bad_number, is_relative, source_literals, literals, bad_source, bad_field, has_relative, is_written, destination_names, names_of, named}
use Rattle.groups.specs.Group.{count_below, any_below, all_below, literals_below, some_unit, unit_for, units_before, unit_at, bad_unit, bad_unit_at, issued, is_alike, is_filled, bad_reduction, bad_issue, each_of, rule_checks}
use Rattle.clauses.specs.Clause.{low_of, high_of, is_last, size_from, size_of, span_of, bad_shape, groups_from, groups_of, is_pixel, group_checks, checks_of, setters_in, bad_push, clause_checks}

-- four registers, two clause temporaries, eight constants, the first sixteen of set 0 and all of set 1
abbrev limits : Limits
limits = record { gprs = 4; temps = 2; consts = 8; mode0 = 1; mode1 = 2 }

-- a clause of n slots at quadword 1, opened at quadword 0: number, place, slot
abbrev answer : Kind → Bool → ℕ → List ℕ → List ℕ
answer kind push n clause =
    let v = first_broken (clause_checks kind push limits (0 ∷ 0 ∷ clause) (quadwords 0) (quadwords 1) (slots n)) in
    verdict_number v ∷ verdict_place v ∷ verdict_slot v ∷ []

answers :
    -- ---- 10: group shape
    -- MOV; a group of one
    (answer Pixel false 1 (0x80000000 ∷ 0xc90 ∷ []) ≡ 0 ∷ 0 ∷ 0 ∷ [])
    -- no LAST before the clause's end
    × (answer Pixel false 1 (0 ∷ 0xc90 ∷ []) ≡ 10 ∷ 0 ∷ 0 ∷ [])
    -- six instructions, the sixth with LAST: five at most
    × (answer Pixel false 6 (0 ∷ 0xc90 ∷ 0 ∷ 0x20000c90 ∷ 0 ∷ 0x40000c90 ∷ 0 ∷ 0x60000c90 ∷ 0 ∷ 0xc90 ∷ 0x80000000 ∷ 0x20000c90 ∷ []) ≡ 10 ∷ 0 ∷ 0 ∷ [])
    -- one literal quadword for 253.y
    × (answer Pixel false 2 (0x800004fd ∷ 0xc90 ∷ 0x3f800000 ∷ 0x40000000 ∷ []) ≡ 0 ∷ 0 ∷ 0 ∷ [])
    -- 253.z asks for two, and the clause has one
    × (answer Pixel false 2 (0x800008fd ∷ 0xc90 ∷ 0x3f800000 ∷ 0x40000000 ∷ []) ≡ 10 ∷ 0 ∷ 0 ∷ [])
    -- a literal in the unread source 1 counts
    × (answer Pixel false 1 (0x801fa000 ∷ 0xc90 ∷ []) ≡ 10 ∷ 0 ∷ 0 ∷ [])
    -- the second group's shape is at its own first slot
    × (answer Pixel false 2 (0x80000000 ∷ 0xc90 ∷ 0 ∷ 0xc90 ∷ []) ≡ 10 ∷ 0 ∷ 1 ∷ [])
    -- ---- 11: ALU number not taken; 12: ALU field rule. The rule comes first, then the slot
    -- number 26, in the second instruction
    × (answer Pixel false 2 (0 ∷ 0xc90 ∷ 0x80000000 ∷ 0x20000d10 ∷ []) ≡ 11 ∷ 0 ∷ 1 ∷ [])
    -- PRED_SEL 1 in the first and number 26 in the second: 11 comes first
    × (answer Pixel false 2 (0x20000000 ∷ 0xc90 ∷ 0x80000000 ∷ 0x20000d10 ∷ []) ≡ 11 ∷ 0 ∷ 1 ∷ [])
    -- PRED_SEL 1; bank swizzle 6; source 200
    × (answer Pixel false 1 (0xa0000000 ∷ 0xc90 ∷ []) ≡ 12 ∷ 0 ∷ 0 ∷ [])
    × (answer Pixel false 1 (0x80000000 ∷ 0x180c90 ∷ []) ≡ 12 ∷ 0 ∷ 0 ∷ [])
    × (answer Pixel false 1 (0x800000c8 ∷ 0xc90 ∷ []) ≡ 12 ∷ 0 ∷ 0 ∷ [])
    -- ---- 13: unit rule
    -- X, Y, Z, W and then X again, which goes to Trans
    × (answer Pixel false 5 (0 ∷ 0xc90 ∷ 0 ∷ 0x20000c90 ∷ 0 ∷ 0x40000c90 ∷ 0 ∷ 0x60000c90 ∷ 0x80000000 ∷ 0xc90 ∷ []) ≡ 0 ∷ 0 ∷ 0 ∷ [])
    -- Y before X: a vector unit below an earlier one
    × (answer Pixel false 2 (0 ∷ 0x20000c90 ∷ 0x80000000 ∷ 0xc90 ∷ []) ≡ 13 ∷ 0 ∷ 1 ∷ [])
    -- RECIP_IEEE takes Trans, so nothing may follow
    × (answer Pixel false 2 (0 ∷ 0x3310 ∷ 0x80000000 ∷ 0x20000c90 ∷ []) ≡ 13 ∷ 0 ∷ 1 ∷ [])
    -- X three times: Trans is taken twice
    × (answer Pixel false 3 (0 ∷ 0xc90 ∷ 0 ∷ 0xc90 ∷ 0x80000000 ∷ 0xc90 ∷ []) ≡ 13 ∷ 0 ∷ 2 ∷ [])
    -- ADD_INT is vector only: X twice
    × (answer Pixel false 2 (0 ∷ 0x1a10 ∷ 0x80000000 ∷ 0x1a10 ∷ []) ≡ 13 ∷ 0 ∷ 1 ∷ [])
    -- bank swizzle 4 in Trans, and in X
    × (answer Pixel false 1 (0x80000000 ∷ 0x103310 ∷ []) ≡ 13 ∷ 0 ∷ 0 ∷ [])
    × (answer Pixel false 1 (0x80000000 ∷ 0x100c90 ∷ []) ≡ 0 ∷ 0 ∷ 0 ∷ [])
    -- ---- 14: issue rule, at the group's first slot
    -- two predicate setters; a setter and a kill
    × (answer Pixel false 2 (0 ∷ 0x1000 ∷ 0x80000000 ∷ 0x20001000 ∷ []) ≡ 14 ∷ 0 ∷ 0 ∷ [])
    × (answer Pixel false 2 (0 ∷ 0x1000 ∷ 0x80000000 ∷ 0x20001600 ∷ []) ≡ 14 ∷ 0 ∷ 0 ∷ [])
    -- a kill in ps: in the last group, before it, and in vs
    × (answer Pixel false 2 (0x80000000 ∷ 0xc90 ∷ 0x80000000 ∷ 0x1600 ∷ []) ≡ 0 ∷ 0 ∷ 0 ∷ [])
    × (answer Pixel false 3 (0x80000000 ∷ 0xc90 ∷ 0x80000000 ∷ 0x1600 ∷ 0x80000000 ∷ 0xc90 ∷ []) ≡ 14 ∷ 0 ∷ 1 ∷ [])
    × (answer Vertex false 1 (0x80000000 ∷ 0x1600 ∷ []) ≡ 14 ∷ 0 ∷ 0 ∷ [])
    -- MOVA beside a relative source that MOV does not read
    × (answer Pixel false 2 (0 ∷ 0xa80 ∷ 0x80400000 ∷ 0x20000c90 ∷ []) ≡ 14 ∷ 0 ∷ 0 ∷ [])
    -- DOT4 in all four; one of another number; only three of them; CLAMP in one; OMOD in one
    × (answer Pixel false 4 (0 ∷ 0x2810 ∷ 0 ∷ 0x20002810 ∷ 0 ∷ 0x40002810 ∷ 0x80000000 ∷ 0x60002810 ∷ []) ≡ 0 ∷ 0 ∷ 0 ∷ [])
    × (answer Pixel false 4 (0 ∷ 0x2810 ∷ 0 ∷ 0x20002810 ∷ 0 ∷ 0x40002810 ∷ 0x80000000 ∷ 0x60002910 ∷ []) ≡ 14 ∷ 0 ∷ 0 ∷ [])
    × (answer Pixel false 3 (0 ∷ 0x2810 ∷ 0 ∷ 0x20002810 ∷ 0x80000000 ∷ 0x40002810 ∷ []) ≡ 14 ∷ 0 ∷ 0 ∷ [])
    × (answer Pixel false 4 (0 ∷ 0x2810 ∷ 0 ∷ 0xa0002810 ∷ 0 ∷ 0x40002810 ∷ 0x80000000 ∷ 0x60002810 ∷ []) ≡ 14 ∷ 0 ∷ 0 ∷ [])
    × (answer Pixel false 4 (0 ∷ 0x2810 ∷ 0 ∷ 0x20002830 ∷ 0 ∷ 0x40002810 ∷ 0x80000000 ∷ 0x60002810 ∷ []) ≡ 14 ∷ 0 ∷ 0 ∷ [])
    -- DOT4 in all four and a MOV in Trans
    × (answer Pixel false 5 (0 ∷ 0x2810 ∷ 0 ∷ 0x20002810 ∷ 0 ∷ 0x40002810 ∷ 0 ∷ 0x60002810 ∷ 0x80000000 ∷ 0xc90 ∷ []) ≡ 0 ∷ 0 ∷ 0 ∷ [])
    -- ---- 14, after all groups: PUSH_BEFORE holds exactly one predicate setter
    -- one; none; two in two groups
    × (answer Pixel true 2 (0x80000000 ∷ 0xc90 ∷ 0x80000000 ∷ 0x1000 ∷ []) ≡ 0 ∷ 0 ∷ 0 ∷ [])
    × (answer Pixel true 1 (0x80000000 ∷ 0xc90 ∷ []) ≡ 14 ∷ 0 ∷ 0 ∷ [])
    × (answer Pixel true 2 (0x80000000 ∷ 0x1000 ∷ 0x80000000 ∷ 0x1000 ∷ []) ≡ 14 ∷ 0 ∷ 0 ∷ [])
    -- two in two groups of another opener
    × (answer Pixel false 2 (0x80000000 ∷ 0x1000 ∷ 0x80000000 ∷ 0x1000 ∷ []) ≡ 0 ∷ 0 ∷ 0 ∷ [])
    -- 15 of the last group comes before it
    × (answer Pixel true 1 (0x80000000 ∷ 0x800c90 ∷ []) ≡ 15 ∷ 0 ∷ 0 ∷ [])
    -- ---- 15: register or constant not granted
    -- R4 as destination; as destination without WRITE_MASK; R126, a clause temporary; R125
    × (answer Pixel false 1 (0x80000000 ∷ 0x800c90 ∷ []) ≡ 15 ∷ 0 ∷ 0 ∷ [])
    × (answer Pixel false 1 (0x80000000 ∷ 0x800c80 ∷ []) ≡ 0 ∷ 0 ∷ 0 ∷ [])
    × (answer Pixel false 1 (0x80000000 ∷ 0xfc00c90 ∷ []) ≡ 0 ∷ 0 ∷ 0 ∷ [])
    × (answer Pixel false 1 (0x80000000 ∷ 0xfa00c90 ∷ []) ≡ 15 ∷ 0 ∷ 0 ∷ [])
    -- set 0 under mode 1: the sixteenth constant and the seventeenth; set 1 under mode 2: the last
    × (answer Pixel false 1 (0x8000008f ∷ 0xc90 ∷ []) ≡ 0 ∷ 0 ∷ 0 ∷ [])
    × (answer Pixel false 1 (0x80000090 ∷ 0xc90 ∷ []) ≡ 15 ∷ 0 ∷ 0 ∷ [])
    × (answer Pixel false 1 (0x800000bf ∷ 0xc90 ∷ []) ≡ 0 ∷ 0 ∷ 0 ∷ [])
    -- c7 and c8; c8 in an unread source; c8 in source 2 of a MULADD in the second group
    × (answer Pixel false 1 (0x80000107 ∷ 0xc90 ∷ []) ≡ 0 ∷ 0 ∷ 0 ∷ [])
    × (answer Pixel false 1 (0x80000108 ∷ 0xc90 ∷ []) ≡ 15 ∷ 0 ∷ 0 ∷ [])
    × (answer Pixel false 1 (0x80210000 ∷ 0xc90 ∷ []) ≡ 15 ∷ 0 ∷ 0 ∷ [])
    × (answer Pixel false 3 (0x80000000 ∷ 0xc90 ∷ 0 ∷ 0xc90 ∷ 0x80000000 ∷ 0x20020108 ∷ []) ≡ 15 ∷ 0 ∷ 2 ∷ [])
    -- a clause that does not lie in the buffer is rule 6's
    × (answer Pixel false 3 (0 ∷ 0xc90 ∷ []) ≡ 0 ∷ 0 ∷ 0 ∷ [])
unfolding clause_checks lies_in checks_of group_checks groups_of groups_from bad_shape span_of size_of size_from is_last low_of high_of low_at high_at setters_in bad_push is_pixel first_broken below is_op3 class_of bad_number is_relative source_literals literals bad_source bad_field has_relative is_written destination_names names_of named op2 op3 op2_class op3_class count_below any_below all_below literals_below some_unit unit_for units_before unit_at bad_unit bad_unit_at issued is_alike is_filled bad_reduction bad_issue each_of rule_checks
answers = (
  refl,
  refl,
  refl,
  refl,
  refl,
  refl,
  refl,
  refl,
  refl,
  refl,
  refl,
  refl,
  refl,
  refl,
  refl,
  refl,
  refl,
  refl,
  refl,
  refl,
  refl,
  refl,
  refl,
  refl,
  refl,
  refl,
  refl,
  refl,
  refl,
  refl,
  refl,
  refl,
  refl,
  refl,
  refl,
  refl,
  refl,
  refl,
  refl,
  refl,
  refl,
  refl,
  refl,
  refl,
  refl,
  refl,
  refl,
  refl,
)
