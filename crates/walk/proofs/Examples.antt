-- Worked control flow, by computation: document 01's branch and loop packs from their words, what their changes break, and
-- walks along lists of answers.
use Prim.Native.Nat.{ℕ, suc}
use mathlib.Core.Path.{◌≡◌, refl}
use mathlib.Core.Bool.{true, false}
use mathlib.Core.List.{List, [], ◌∷◌, ◌++◌}
use lib.ListN.{get_or}
use Rattle.units.specs.declared.Quadwords.{Quadwords}
use Rattle.units.specs.Units.{quadwords, low_at, high_at}
use Rattle.checks.specs.Verdict.{verdict_number, verdict_place, verdict_slot}
use Rattle.checks.specs.Checks.{first_broken, below}
use Rattle.opcodes.specs.Numbers.{cf, cf_alu, cf_control, cf_alu_control}
use Rattle.section.specs.Control.{is_alu_opener, control_of, control_at}
use Rattle.walk.specs.declared.Flow.{Flow}
use Rattle.opcodes.specs.declared.cf.Branch.TheVariants.{LoopEnd, LoopStart, BreakOrContinue, Jump, Else, Pop}
use Rattle.walk.specs.declared.Flow.TheVariants.{Still, PushMark, PopMarks, Branch}
use Rattle.walk.specs.Flow.{M, L, pop_to, move, stack_of, stack_at, flow_of, flow_at}
use Rattle.walk.specs.Rules.{lacking, lacks_at, bad_depth, left_over, is_loop_end, is_forward, is_backward, wrong_target, bad_target, same_frame, same_stack, carries, on_top, back_to, ends_loop, differs, bad_stack, stack_checks, second_checks}
use Rattle.walk.specs.Walk.{start, land, step, walk}

-- number, place and slot of rules 16 to 19 over a section that ends at e: both passes
abbrev answer : ℕ → ℕ → (ℕ → Flow) → List ℕ
answer limit e code =
    let v = first_broken (below (stack_checks limit e code) (suc e) ++ below (second_checks e code) (suc e)) in
    verdict_number v ∷ verdict_place v ∷ verdict_slot v ∷ []

-- a section by its pairs
abbrev code : List Flow → ℕ → Flow
code l p = get_or l p Still

-- a target
abbrev to : ℕ → Quadwords
to n = quadwords n

-- ---- document 01's branch pack, its control flow: PUSH_BEFORE, JUMP, POP, NOP at the end

abbrev branch : ℕ → ℕ → ℕ → List ℕ
branch addr jump pop = 0x4 ∷ 0x24000000 ∷ addr ∷ jump ∷ 0x3 ∷ pop ∷ 0x0 ∷ 0x00200000 ∷ []

branch_read :
    (flow_at (branch 3 0x05000001 0x07000001) 0 ≡ PushMark)
    × (flow_at (branch 3 0x05000001 0x07000001) 1 ≡ Branch Jump 1 (to 3))
    × (flow_at (branch 3 0x05000001 0x07000001) 2 ≡ Branch Pop 1 (to 3))
    × (flow_at (branch 3 0x05000001 0x07000001) 3 ≡ Still)
unfolding low_at high_at is_alu_opener cf_alu_control cf_alu cf_control cf control_of control_at flow_of flow_at
branch_read = (refl, refl, refl, refl)

-- accepted; stack 0: 16 at 0; JUMP with POP_COUNT 0: 19 at 1; JUMP to 4: 18 at 1; POP of none: 17 at 3
branch_pack :
    (answer 1 3 (flow_at (branch 3 0x05000001 0x07000001)) ≡ 0 ∷ 0 ∷ 0 ∷ [])
    × (answer 0 3 (flow_at (branch 3 0x05000001 0x07000001)) ≡ 16 ∷ 0 ∷ 0 ∷ [])
    × (answer 1 3 (flow_at (branch 3 0x05000000 0x07000001)) ≡ 19 ∷ 1 ∷ 0 ∷ [])
    × (answer 1 3 (flow_at (branch 4 0x05000001 0x07000001)) ≡ 18 ∷ 1 ∷ 0 ∷ [])
    × (answer 1 3 (flow_at (branch 3 0x05000001 0x07000000)) ≡ 17 ∷ 3 ∷ 0 ∷ [])
unfolding low_at high_at is_alu_opener cf_alu_control cf_alu cf_control cf control_of control_at flow_of flow_at first_broken below stack_checks second_checks bad_depth lacks_at lacking left_over is_loop_end is_forward is_backward wrong_target bad_target same_frame same_stack carries on_top back_to ends_loop differs bad_stack pop_to move stack_of stack_at
branch_pack = (refl, refl, refl, refl, refl)

-- ---- its loop pack: LOOP_START_DX10, LOOP_END, NOP at the end

abbrev loop : ℕ → List ℕ
loop back = 0x2 ∷ 0x03000000 ∷ back ∷ 0x02800000 ∷ 0x0 ∷ 0x00200000 ∷ []

-- accepted; LOOP_END to 0: 19 at 1
loop_pack :
    (answer 1 2 (flow_at (loop 1)) ≡ 0 ∷ 0 ∷ 0 ∷ [])
    × (answer 1 2 (flow_at (loop 0)) ≡ 19 ∷ 1 ∷ 0 ∷ [])
unfolding low_at high_at is_alu_opener cf_alu_control cf_alu cf_control cf control_of control_at flow_of flow_at first_broken below stack_checks second_checks bad_depth lacks_at lacking left_over is_loop_end is_forward is_backward wrong_target bad_target same_frame same_stack carries on_top back_to ends_loop differs bad_stack pop_to move stack_of stack_at
loop_pack = (refl, refl)

-- ---- other sections

-- JUMP to an ELSE, which jumps over its part: accepted. With a loop's frame on top instead: 16 at the ELSE
elses :
    (answer 1 5 (code (PushMark ∷ Branch Jump 0 (to 3) ∷ Still ∷ Branch Else 1 (to 5) ∷ Branch Pop 1 (to 5) ∷ [])) ≡ 0 ∷ 0 ∷ 0 ∷ [])
    × (answer 1 3 (code (Branch LoopStart 0 (to 3) ∷ Branch Else 0 (to 2) ∷ Branch LoopEnd 0 (to 1) ∷ [])) ≡ 16 ∷ 1 ∷ 0 ∷ [])
unfolding first_broken below stack_checks second_checks bad_depth lacks_at lacking left_over is_loop_end is_forward is_backward wrong_target bad_target same_frame same_stack carries on_top back_to ends_loop differs bad_stack pop_to move stack_of stack_at
elses = (refl, refl)

-- a BREAK or CONTINUE onto the LOOP_END is accepted, one onto another pair is 18
breaks :
    (answer 1 4 (code (Branch LoopStart 0 (to 4) ∷ Branch BreakOrContinue 0 (to 3) ∷ Still ∷ Branch LoopEnd 0 (to 1) ∷ [])) ≡ 0 ∷ 0 ∷ 0 ∷ [])
    × (answer 1 4 (code (Branch LoopStart 0 (to 4) ∷ Branch BreakOrContinue 0 (to 2) ∷ Still ∷ Branch LoopEnd 0 (to 1) ∷ [])) ≡ 18 ∷ 1 ∷ 0 ∷ [])
unfolding first_broken below stack_checks second_checks bad_depth lacks_at lacking left_over is_loop_end is_forward is_backward wrong_target bad_target same_frame same_stack carries on_top back_to ends_loop differs bad_stack pop_to move stack_of stack_at
breaks = (refl, refl)

-- under an M, a BREAK has to pop it: with POP_COUNT 0, 19; with 1, accepted; with 2 it would take the loop's frame for an M: 16
marked_breaks :
    (answer 2 5 (code (Branch LoopStart 0 (to 5) ∷ PushMark ∷ Branch BreakOrContinue 0 (to 4) ∷ PopMarks 1 ∷ Branch LoopEnd 0 (to 1) ∷ [])) ≡ 19 ∷ 2 ∷ 0 ∷ [])
    × (answer 2 5 (code (Branch LoopStart 0 (to 5) ∷ PushMark ∷ Branch BreakOrContinue 1 (to 4) ∷ PopMarks 1 ∷ Branch LoopEnd 0 (to 1) ∷ [])) ≡ 0 ∷ 0 ∷ 0 ∷ [])
    × (answer 2 5 (code (Branch LoopStart 0 (to 5) ∷ PushMark ∷ Branch BreakOrContinue 2 (to 4) ∷ PopMarks 1 ∷ Branch LoopEnd 0 (to 1) ∷ [])) ≡ 16 ∷ 2 ∷ 0 ∷ [])
unfolding first_broken below stack_checks second_checks bad_depth lacks_at lacking left_over is_loop_end is_forward is_backward wrong_target bad_target same_frame same_stack carries on_top back_to ends_loop differs bad_stack pop_to move stack_of stack_at
marked_breaks = (refl, refl, refl)

-- a jump to its own place: 18. Two loops whose LOOP_STARTs have each other's ends: 19 at the first
crossed :
    (answer 0 1 (code (Branch Jump 0 (to 0) ∷ [])) ≡ 18 ∷ 0 ∷ 0 ∷ [])
    × (answer 2 4 (code (Branch LoopStart 0 (to 3) ∷ Branch LoopStart 0 (to 4) ∷ Branch LoopEnd 0 (to 2) ∷ Branch LoopEnd 0 (to 1) ∷ [])) ≡ 19 ∷ 0 ∷ 0 ∷ [])
unfolding first_broken below stack_checks second_checks bad_depth lacks_at lacking left_over is_loop_end is_forward is_backward wrong_target bad_target same_frame same_stack carries on_top back_to ends_loop differs bad_stack pop_to move stack_of stack_at
crossed = (refl, refl)

-- ---- walks

-- twice round document 01's loop and out; at the end answers left over change nothing
walked :
    (walk 2 (flow_at (loop 1)) start (false ∷ true ∷ true ∷ []) ≡ record { fault = false; at = 1; stack = L 0 ∷ [] })
    × (walk 2 (flow_at (loop 1)) start (false ∷ true ∷ true ∷ false ∷ true ∷ []) ≡ record { fault = false; at = 2; stack = [] })
unfolding low_at high_at is_alu_opener cf_alu_control cf_alu cf_control cf control_of control_at flow_of flow_at pop_to move land step walk
walked = (refl, refl)

-- over its loop by the first answer
walked_over : walk 2 (flow_at (loop 1)) start (true ∷ false ∷ []) ≡ record { fault = false; at = 2; stack = [] }
unfolding low_at high_at is_alu_opener cf_alu_control cf_alu cf_control cf control_of control_at flow_of flow_at pop_to move land step walk
walked_over = refl

-- a step that lacks a frame faults, and so does one behind the section; place and stack stay
faults :
    (walk 2 (code (PushMark ∷ Branch LoopEnd 0 (to 1) ∷ [])) start (false ∷ false ∷ true ∷ []) ≡ record { fault = true; at = 1; stack = M ∷ [] })
    × (walk 1 (code (Branch Jump 0 (to 7) ∷ [])) start (true ∷ false ∷ []) ≡ record { fault = true; at = 7; stack = [] })
unfolding pop_to move land step walk
faults = (refl, refl)
