-- The examples of document 01 that are marked [t], as a single proved table: card, words, answer. By computation. Assumes nothing.
use Prim.Native.Nat.{ℕ}
use mathlib.Core.Path.{◌≡◌, refl}
use mathlib.Core.List.{List, [], ◌∷◌}
use Rattle.card.specs.declared.Card.{Card}
use Rattle.card.specs.declared.Kind.TheVariants.{Pixel}
use Rattle.card.specs.declared.Build.TheVariants.{Production}
use Rattle.card.specs.Card.{card_with}
use Rattle.checks.specs.Verdict.{verdict_number, verdict_place, verdict_slot}
use Rattle.checks.specs.Checks.{first_broken, below}
use Rattle.judge.specs.Judge.{line_checks, clause_checks, range_checks, inside_checks, pair_checks, first_checks, passes, checks, judgement}
use Rattle.units.specs.Units.{low_at, high_at, lies_in}
use Rattle.section.specs.Control.{is_alu_opener, control_of, control_at, is_end, end_from, end_of}
use Rattle.section.specs.Rules.{bad_length, no_end, is_not_taken, bad_modes, bad_still, bad_branch, bad_reserved, bad_field, clause_of, clause_at, outside, bad_range, pixel_target, vertex_target, bad_target, bad_selectors, bad_export_register, export_rule, bad_export}
use Rattle.apart.specs.Apart.{same_range, disjoint, half_shared, odd_fetch, shared_checks, layout_checks}
use Rattle.walk.specs.Flow.{pop_to, move, stack_of, stack_at, flow_of, flow_at}
use Rattle.opcodes.specs.Numbers.{cf, cf_alu, cf_control, cf_alu_control}
use Rattle.walk.specs.Rules.{lacking, lacks_at, bad_depth, left_over, is_loop_end, is_forward, is_backward, wrong_target, same_frame, same_stack, carries, on_top, back_to, ends_loop, differs, bad_stack, stack_checks, second_checks}
use Rattle.opcodes.specs.Alu.{op2, op3, op2_class, op3_class}
use Rattle.instructions.specs.Instruction.{is_op3, class_of, bad_number, is_relative, source_literals, literals, bad_source, has_relative, is_written, destination_names, names_of, named}
use Rattle.groups.specs.Group.{count_below, any_below, all_below, literals_below, some_unit, unit_for, units_before, unit_at, bad_unit, bad_unit_at, issued, is_alike, is_filled, bad_reduction, bad_issue, each_of, rule_checks}
use Rattle.clauses.specs.Clause.{low_of, high_of, is_last, size_from, size_of, span_of, bad_shape, groups_from, groups_of, is_pixel, group_checks, checks_of, setters_in, bad_push}
use Rattle.instructions.specs.Instruction as instruction
use Rattle.clauses.specs.Clause as alu
use Rattle.walk.specs.Rules as flow
use mathlib.Core.List.{map}

-- all are ps, figures not given are 0: gprs, stack, quads
abbrev card : ℕ → ℕ → ℕ → Card
card gprs stack quads = card_with Pixel Production gprs 0 0 stack quads

-- an example: its card, its words, and document 01's number, place and slot
record Example : Type 0 where
  by : Card
  words : List ℕ
  answer : List ℕ

abbrev example : Card → List ℕ → List ℕ → Example
example c w a = record { by = c; words = w; answer = a }

examples : List Example
examples =
    -- the copy pack
    example (card 2 0 3) (0x2 ∷ 0xa0000000 ∷ 0 ∷ 0x200000 ∷ 0x80000000 ∷ 0x200c90 ∷ []) (0 ∷ 0 ∷ 0 ∷ [])
    -- with gprs 1
    ∷ example (card 1 0 3) (0x2 ∷ 0xa0000000 ∷ 0 ∷ 0x200000 ∷ 0x80000000 ∷ 0x200c90 ∷ []) (15 ∷ 0 ∷ 0 ∷ [])
    -- with its third low word 0
    ∷ example (card 2 0 3) (0x2 ∷ 0xa0000000 ∷ 0 ∷ 0x200000 ∷ 0 ∷ 0x200c90 ∷ []) (10 ∷ 0 ∷ 0 ∷ [])
    -- with its first high word A0040000
    ∷ example (card 2 0 3) (0x2 ∷ 0xa0040000 ∷ 0 ∷ 0x200000 ∷ 0x80000000 ∷ 0x200c90 ∷ []) (6 ∷ 0 ∷ 0 ∷ [])
    -- with its second high word 0: the third pair then reads as the end
    ∷ example (card 2 0 3) (0x2 ∷ 0xa0000000 ∷ 0 ∷ 0 ∷ 0x80000000 ∷ 0x200c90 ∷ []) (6 ∷ 0 ∷ 0 ∷ [])
    -- with its second and third high words 0
    ∷ example (card 2 0 3) (0x2 ∷ 0xa0000000 ∷ 0 ∷ 0 ∷ 0x80000000 ∷ 0 ∷ []) (3 ∷ 0 ∷ 0 ∷ [])
    -- the branch pack
    ∷ example (card 1 1 5) (0x4 ∷ 0x24000000 ∷ 0x3 ∷ 0x5000001 ∷ 0x3 ∷ 0x7000001 ∷ 0 ∷ 0x200000 ∷ 0x801f0000 ∷ 0x100c ∷ []) (0 ∷ 0 ∷ 0 ∷ [])
    -- with stack 0
    ∷ example (card 1 0 5) (0x4 ∷ 0x24000000 ∷ 0x3 ∷ 0x5000001 ∷ 0x3 ∷ 0x7000001 ∷ 0 ∷ 0x200000 ∷ 0x801f0000 ∷ 0x100c ∷ []) (16 ∷ 0 ∷ 0 ∷ [])
    -- with its JUMP's high word 05000000
    ∷ example (card 1 1 5) (0x4 ∷ 0x24000000 ∷ 0x3 ∷ 0x5000000 ∷ 0x3 ∷ 0x7000001 ∷ 0 ∷ 0x200000 ∷ 0x801f0000 ∷ 0x100c ∷ []) (19 ∷ 1 ∷ 0 ∷ [])
    -- with its JUMP's ADDR 4
    ∷ example (card 1 1 5) (0x4 ∷ 0x24000000 ∷ 0x4 ∷ 0x5000001 ∷ 0x3 ∷ 0x7000001 ∷ 0 ∷ 0x200000 ∷ 0x801f0000 ∷ 0x100c ∷ []) (18 ∷ 1 ∷ 0 ∷ [])
    -- the loop pack
    ∷ example (card 1 1 3) (0x2 ∷ 0x3000000 ∷ 0x1 ∷ 0x2800000 ∷ 0 ∷ 0x200000 ∷ []) (0 ∷ 0 ∷ 0 ∷ [])
    -- with its second low word 0
    ∷ example (card 1 1 3) (0x2 ∷ 0x3000000 ∷ 0 ∷ 0x2800000 ∷ 0 ∷ 0x200000 ∷ []) (19 ∷ 1 ∷ 0 ∷ [])
    ∷ []

abbrev judged : Example → List ℕ
judged x = let v = judgement x.by x.words in verdict_number v ∷ verdict_place v ∷ verdict_slot v ∷ []

abbrev given : Example → List ℕ
given x = x.answer

table : map judged examples ≡ map given examples
unfolding low_at high_at is_alu_opener cf_alu_control cf_alu cf_control cf control_of control_at is_end end_from end_of bad_length no_end is_not_taken bad_modes bad_still bad_branch bad_reserved bad_field clause_at clause_of outside bad_range same_range disjoint half_shared odd_fetch shared_checks layout_checks pixel_target vertex_target bad_target bad_selectors bad_export_register export_rule bad_export pop_to move stack_of stack_at flow_of flow_at lacking lacks_at bad_depth left_over is_loop_end is_forward is_backward wrong_target same_frame same_stack carries on_top back_to ends_loop differs bad_stack stack_checks second_checks op2 op3 op2_class op3_class is_op3 class_of bad_number is_relative source_literals literals bad_source has_relative is_written destination_names names_of named count_below any_below all_below literals_below some_unit unit_for units_before unit_at bad_unit bad_unit_at issued is_alike is_filled bad_reduction bad_issue each_of rule_checks low_of high_of is_last size_from size_of span_of bad_shape groups_from groups_of is_pixel group_checks checks_of setters_in bad_push lies_in instruction.bad_field alu.clause_checks flow.bad_target first_broken below line_checks clause_checks range_checks inside_checks pair_checks first_checks passes checks judgement examples
table = refl
