-- Rules 16 to 19 and their order: document 01, "The walk" and "Numbers and what they mean". Each is asked of a place p of the
-- section, whose last place is e, and answers whether it is broken there. Places are quadwords.
use Rattle.std.specs.Prelude.{ℕ, suc, ◌-◌, Bool, true, false, not, ◌&&◌, ◌||◌, List, [], ◌∷◌, eqb, ltb, leb, length}
use Rattle.checks.specs.Checks.{Check, of_pair}
use Rattle.walk.specs.declared.Flow.{Flow}
use Rattle.opcodes.specs.declared.cf.Branch.{Branch as BranchKind}
use Rattle.opcodes.specs.declared.cf.Branch.TheVariants.{LoopEnd, LoopStart, BreakOrContinue, Jump, Else, Pop}
use Rattle.walk.specs.declared.Flow.TheVariants.{Still, PushMark, PopMarks, Branch}
use Rattle.walk.specs.Flow.{Frame, M, L, Stack, Move, lacks, goes, move, stack_at}

-- ---- 16: stack too deep, or a needed frame missing

unfoldable pub lacking : Move → Bool
lacking lacks = true
lacking (goes t s) = false

-- the first pass follows "no" and also tests that the M frames a "yes" needs are there
unfoldable pub lacks_at : (ℕ → Flow) → ℕ → Bool
lacks_at code p = lacking (move (code p) p false (stack_at code p)) || lacking (move (code p) p true (stack_at code p))

-- each frame counts one against the card's stack, asked where it is pushed
unfoldable pub bad_depth : ℕ → (ℕ → Flow) → ℕ → Bool
bad_depth limit code p = lacks_at code p || ltb limit (length (stack_at code (suc p)))

-- ---- 17: stack not empty at the end

unfoldable pub left_over : ℕ → (ℕ → Flow) → ℕ → Bool
left_over e code p = eqb p e && ltb 0 (length (stack_at code p))

-- ---- 18: target wrong

abbrev pub ends_loops : BranchKind → Bool
ends_loops LoopEnd = true
ends_loops LoopStart = false
ends_loops BreakOrContinue = false
ends_loops Jump = false
ends_loops Else = false
ends_loops Pop = false

unfoldable pub is_loop_end : Flow → Bool
is_loop_end Still = false
is_loop_end PushMark = false
is_loop_end (PopMarks n) = false
is_loop_end (Branch b n t) = ends_loops b

-- targets lie in the section; forward (above p)
unfoldable pub is_forward : ℕ → ℕ → ℕ → Bool
is_forward e p t = ltb p t && leb t e

-- but for LOOP_END at most p
unfoldable pub is_backward : ℕ → ℕ → ℕ → Bool
is_backward e p t = leb t p && leb t e

-- BREAK and CONTINUE hit a LOOP_END
unfoldable pub wrong_target : ℕ → (ℕ → Flow) → ℕ → Flow → Bool
wrong_target e code p Still = false
wrong_target e code p PushMark = false
wrong_target e code p (PopMarks n) = false
wrong_target e code p (Branch Jump n t) = not (is_forward e p t.0)
wrong_target e code p (Branch BreakOrContinue n t) = not (is_forward e p t.0 && is_loop_end (code t.0))
wrong_target e code p (Branch Else n t) = not (is_forward e p t.0)
wrong_target e code p (Branch Pop n t) = not (is_forward e p t.0)
wrong_target e code p (Branch LoopStart n t) = not (is_forward e p t.0)
wrong_target e code p (Branch LoopEnd n t) = not (is_backward e p t.0)

unfoldable pub bad_target : ℕ → (ℕ → Flow) → ℕ → Bool
bad_target e code p = wrong_target e code p (code p)

-- ---- 19: stacks differ, or loop ends don't pair

-- frames are compared one by one; L(q) equals only L(q)
unfoldable pub same_frame : Frame → Frame → Bool
same_frame M M = true
same_frame M (L q) = false
same_frame (L q) M = false
same_frame (L q) (L r) = eqb q r

unfoldable pub same_stack : Stack → Stack → Bool
same_stack [] [] = true
same_stack [] (g ∷ t) = false
same_stack (f ∷ s) [] = false
same_stack (f ∷ s) (g ∷ t) = same_frame f g && same_stack s t

-- the stack carried equals the one the first pass had at the target
unfoldable pub carries : (ℕ → Flow) → Move → Bool
carries code lacks = false
carries code (goes t s) = same_stack s (stack_at code t)

-- L(q) is on top
unfoldable pub on_top : ℕ → Stack → Bool
on_top q [] = false
on_top q (f ∷ s) = same_frame (L q) f

-- LOOP_END goes to q+1, where L(q) is on top
unfoldable pub back_to : ℕ → Stack → Bool
back_to t [] = false
back_to t (M ∷ s) = false
back_to t (L q ∷ s) = eqb t (suc q)

-- its LOOP_START goes to just behind that end: k is the LOOP_END that pops L(q)
unfoldable pub ends_loop : (ℕ → Flow) → ℕ → ℕ → Bool
ends_loop code q k = is_loop_end (code k) && on_top q (stack_at code k)

-- each tested at its own position
unfoldable pub differs : (ℕ → Flow) → ℕ → Flow → Bool
differs code p Still = false
differs code p PushMark = false
differs code p (PopMarks n) = false
differs code p (Branch Jump n t) = not (carries code (move (Branch Jump n t) p true (stack_at code p)))
differs code p (Branch BreakOrContinue n t) = not (carries code (move (Branch BreakOrContinue n t) p true (stack_at code p)))
differs code p (Branch Else n t) = not (carries code (move (Branch Else n t) p true (stack_at code p)))
differs code p (Branch Pop n t) = not (carries code (move (Branch Pop n t) p true (stack_at code p)))
differs code p (Branch LoopStart n t) =
    not (carries code (move (Branch LoopStart n t) p true (stack_at code p)) && ends_loop code p (t.0 - 1))
differs code p (Branch LoopEnd n t) =
    not (carries code (move (Branch LoopEnd n t) p true (stack_at code p)) && back_to t.0 (stack_at code p))

unfoldable pub bad_stack : (ℕ → Flow) → ℕ → Bool
bad_stack code p = differs code p (code p)

-- ---- the order: 16 before 17 in the first pass, 18 before 19 in the second; each at its CF quadword, slot 0

unfoldable pub stack_checks : ℕ → ℕ → (ℕ → Flow) → ℕ → List Check
stack_checks limit e code p = of_pair 16 p (bad_depth limit code p) ∷ of_pair 17 p (left_over e code p) ∷ []

unfoldable pub second_checks : ℕ → (ℕ → Flow) → ℕ → List Check
second_checks e code p = of_pair 18 p (bad_target e code p) ∷ of_pair 19 p (bad_stack code p) ∷ []
