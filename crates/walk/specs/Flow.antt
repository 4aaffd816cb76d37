-- What a control-flow pair does to the stack and where it goes: document 01, "The walk". The walk, the first pass's stacks and
-- rules 16 to 19 all go by `move`. A pack's control flow is given as `code`, what stands at each place; places are quadwords.
use Rattle.std.specs.Prelude.{ℕ, zero, suc, Bool, true, false, cond, List, [], ◌∷◌}
use Rattle.units.specs.Units.{quadwords, low_at, high_at}
use Rattle.formats.specs.Fields.{◌of◌, POP_COUNT, «ADDR»}
use Rattle.opcodes.specs.declared.cf.Control.{Control}
use Rattle.opcodes.specs.declared.cf.Control.TheVariants as control
use Rattle.section.specs.Control.{control_at}
use Rattle.walk.specs.declared.Flow.{Flow}
use Rattle.opcodes.specs.declared.cf.Branch.TheVariants.{LoopEnd, LoopStart, BreakOrContinue, Jump, Else, Pop}
use Rattle.walk.specs.declared.Flow.TheVariants.{Still, PushMark, PopMarks, Branch}

-- frames M and L(q)
pub data Frame : Type 0 where
  M : Frame
  L : ℕ → Frame

abbrev pub Stack : Type 0
Stack = List Frame

-- a step goes to a place with a stack, or lacks a frame
pub data Move : Type 0 where
  lacks : Move
  goes : ℕ → Stack → Move

-- pops n frames M and goes to t; popping L as M is a missing frame
unfoldable pub pop_to : ℕ → ℕ → Stack → Move
pop_to t zero s = goes t s
pop_to t (suc n) [] = lacks
pop_to t (suc n) (M ∷ s) = pop_to t n s
pop_to t (suc n) (L q ∷ s) = lacks

-- what stands at p does, on an answer, to a stack
unfoldable pub move : Flow → ℕ → Bool → Stack → Move
-- NOP, fetches, ALU, exports: no effect
move Still p a s = goes (suc p) s
-- PUSH_BEFORE pushes M
move PushMark p a s = goes (suc p) (M ∷ s)
-- POP_AFTER pops one M, POP2_AFTER two
move (PopMarks n) p a s = pop_to (suc p) n s
-- JUMP, LOOP_BREAK, LOOP_CONTINUE: yes pops POP_COUNT M and goes to ADDR
move (Branch Jump n t) p true s = pop_to t.0 n s
move (Branch Jump n t) p false s = goes (suc p) s
move (Branch BreakOrContinue n t) p true s = pop_to t.0 n s
move (Branch BreakOrContinue n t) p false s = goes (suc p) s
-- ELSE: the same, and needs M on top either way
move (Branch Else n t) p a [] = lacks
move (Branch Else n t) p a (L q ∷ s) = lacks
move (Branch Else n t) p true (M ∷ s) = pop_to t.0 n (M ∷ s)
move (Branch Else n t) p false (M ∷ s) = goes (suc p) (M ∷ s)
-- POP: pops POP_COUNT M first; yes goes to ADDR
move (Branch Pop n t) p true s = pop_to t.0 n s
move (Branch Pop n t) p false s = pop_to (suc p) n s
-- LOOP_START_DX10: no pushes L(p); yes goes to ADDR, nothing pushed
move (Branch LoopStart n t) p true s = goes t.0 s
move (Branch LoopStart n t) p false s = goes (suc p) (L p ∷ s)
-- LOOP_END needs L(q) on top: no pops it; yes keeps it and goes to ADDR
move (Branch LoopEnd n t) p a [] = lacks
move (Branch LoopEnd n t) p a (M ∷ s) = lacks
move (Branch LoopEnd n t) p true (L q ∷ s) = goes t.0 (L q ∷ s)
move (Branch LoopEnd n t) p false (L q ∷ s) = goes (suc p) s

-- what a pair does, from what it is and its words: those that go to ADDR have POP_COUNT
unfoldable pub flow_of : Control → ℕ → ℕ → Flow
flow_of control.NotTaken lo hi = Still
flow_of control.Nop lo hi = Still
flow_of (control.Fetch kind) lo hi = Still
flow_of (control.Branch b) lo hi = Branch b (POP_COUNT of hi) (quadwords («ADDR» of lo))
flow_of control.Export lo hi = Still
flow_of (control.Alu push pops) lo hi = cond push PushMark (PopMarks pops)

-- what stands at a place of the words
unfoldable pub flow_at : List ℕ → ℕ → Flow
flow_at w p = flow_of (control_at w p) (low_at w p) (high_at w p)

-- ---- the first pass: every answer is no

unfoldable pub stack_of : Move → Stack
stack_of lacks = []
stack_of (goes t s) = s

-- its stack before p
unfoldable pub stack_at : (ℕ → Flow) → ℕ → Stack
stack_at code zero = []
stack_at code (suc p) = stack_of (move (code p) p false (stack_at code p))
