-- What only the code's contracts cite. The first pass's stacks as the code keeps them: for each place a row of two numbers, the place behind the innermost loop's
-- start (0 outside of loops) and how many frames M lie above that loop's frame. What lies below L(q) is the stack at q, so row q says
-- the rest. Here is what the public functions compute on such rows, whatever the rows hold; proofs/OfFollow.antt and
-- proofs/OfSecond.antt say that they are rules 16 to 19 where the rows hold the first pass's stacks (CodeHeld.antt). Places are
-- quadwords.
use Rattle.std.specs.Prelude.{ℕ, suc, ◌+◌, ◌-◌, Bool, false, cond, not, ◌&&◌, List, [], ◌∷◌, eqb, ltb, leb, get_or, Result, Ok, Err}
use Rattle.units.specs.Units.{quadwords}
use Rattle.checks.specs.Checks.{Check, of_pair}
use Rattle.walk.specs.declared.Flow.{Flow}
use Rattle.opcodes.specs.declared.cf.Branch.TheVariants.{LoopEnd, LoopStart, BreakOrContinue, Jump, Else, Pop}
use Rattle.walk.specs.declared.Flow.TheVariants.{Still, PushMark, PopMarks, Branch}
use Rattle.walk.specs.declared.Frames.{Frames}
use Rattle.walk.specs.declared.StackFault.{StackFault}
use Rattle.walk.specs.declared.StackFault.TheVariants.{Lacks, TooDeep}
use Rattle.walk.specs.declared.rows.Row.{Row}
use Rattle.walk.specs.Rules.{is_loop_end, bad_target}

abbrev pub row : ℕ → ℕ → Row
row top marks = record { top = quadwords top; marks = marks }

-- row p; behind the last row the empty stack's
abbrev pub row_at : List Row → ℕ → Row
row_at rows p = get_or rows p (row 0 0)

-- ---- the first pass: the step on "no", and whether either answer lacks a frame

-- what a step finds
abbrev pub Followed : Type 0
Followed = Result Frames StackFault

abbrev pub frames : Row → ℕ → Frames
frames row depth = record { row = row; depth = depth }

-- one M more
unfoldable pub pushed : ℕ → Frames → Followed
pushed limit s =
    cond (ltb s.depth limit)
    (cond (ltb s.row.marks limit) (Ok (frames (row s.row.top.0 (s.row.marks + 1)) (s.depth + 1))) (Err TooDeep))
    (Err TooDeep)

-- a loop's frame more, of the loop whose start lies before `behind`
unfoldable pub entered : ℕ → ℕ → Frames → Followed
entered limit behind s = cond (ltb s.depth limit) (Ok (frames (row behind 0) (s.depth + 1))) (Err TooDeep)

-- n frames M fewer
unfoldable pub popped : ℕ → Frames → Followed
popped n s =
    cond (leb n s.row.marks)
    (cond (leb n s.depth) (Ok (frames (row s.row.top.0 (s.row.marks - n)) (s.depth - n))) (Err Lacks))
    (Err Lacks)

-- nothing moves, but n frames M have to be there
unfoldable pub needing : ℕ → Frames → Followed
needing n s = cond (leb n s.row.marks) (Ok s) (Err Lacks)

-- ELSE: M on top besides
unfoldable pub needing_top : ℕ → Frames → Followed
needing_top n s = cond (eqb s.row.marks 0) (Err Lacks) (needing n s)

-- the innermost loop's frame fewer: below it lies what its start's row says
unfoldable pub ended : Frames → List Row → Followed
ended s rows =
    cond (eqb s.row.marks 0)
    (cond (eqb s.row.top.0 0) (Err Lacks)
    (cond (eqb s.depth 0) (Err Lacks)
    (Ok (frames (row_at rows (s.row.top.0 - 1)) (s.depth - 1)))))
    (Err Lacks)

-- the card's stack, what stands at a place, the place behind it, the stack there, the rows of the places before
unfoldable pub followed : ℕ → Flow → ℕ → Frames → List Row → Followed
followed limit Still behind s rows = Ok s
followed limit PushMark behind s rows = pushed limit s
followed limit (PopMarks n) behind s rows = popped n s
followed limit (Branch Jump n t) behind s rows = needing n s
followed limit (Branch BreakOrContinue n t) behind s rows = needing n s
followed limit (Branch Else n t) behind s rows = needing_top n s
followed limit (Branch Pop n t) behind s rows = popped n s
followed limit (Branch LoopStart n t) behind s rows = entered limit behind s
followed limit (Branch LoopEnd n t) behind s rows = ended s rows

-- ---- the second pass

-- row t is these two numbers
unfoldable pub same_row : List Row → ℕ → ℕ → ℕ → Bool
same_row rows t top m = eqb top (row_at rows t).top.0 && eqb m (row_at rows t).marks

-- row t is row p with n frames M fewer
unfoldable pub row_carries : List Row → ℕ → ℕ → ℕ → Bool
row_carries rows p n t = leb n (row_at rows p).marks && same_row rows t (row_at rows p).top.0 ((row_at rows p).marks - n)

-- the same of an ELSE, which needs M on top
unfoldable pub row_else : List Row → ℕ → ℕ → ℕ → Bool
row_else rows p n t = not (eqb (row_at rows p).marks 0) && row_carries rows p n t

-- k is the LOOP_END of the loop that starts at q
unfoldable pub row_ends : (ℕ → Flow) → List Row → ℕ → ℕ → Bool
row_ends code rows q k = is_loop_end (code k) && same_row rows k (suc q) 0

-- a LOOP_START at p goes to t, just behind its LOOP_END, with the stack that stands there
unfoldable pub row_starts : (ℕ → Flow) → List Row → ℕ → ℕ → Bool
row_starts code rows p t = row_carries rows p 0 t && row_ends code rows p (t - 1)

-- a LOOP_END at p goes to t, just behind the innermost loop's start, and that loop's frame is on top
unfoldable pub row_back : List Row → ℕ → ℕ → Bool
row_back rows p t =
    eqb (row_at rows p).marks 0 && (not (eqb (row_at rows p).top.0 0) && (eqb t (row_at rows p).top.0 && same_row rows t t 0))

unfoldable pub row_differs : (ℕ → Flow) → List Row → ℕ → Flow → Bool
row_differs code rows p Still = false
row_differs code rows p PushMark = false
row_differs code rows p (PopMarks n) = false
row_differs code rows p (Branch Jump n t) = not (row_carries rows p n t.0)
row_differs code rows p (Branch BreakOrContinue n t) = not (row_carries rows p n t.0)
row_differs code rows p (Branch Else n t) = not (row_else rows p n t.0)
row_differs code rows p (Branch Pop n t) = not (row_carries rows p n t.0)
row_differs code rows p (Branch LoopStart n t) = not (row_starts code rows p t.0)
row_differs code rows p (Branch LoopEnd n t) = not (row_back rows p t.0)

unfoldable pub row_stack : (ℕ → Flow) → List Row → ℕ → Bool
row_stack code rows p = row_differs code rows p (code p)

-- 18, then 19, at p of a section that ends at e
unfoldable pub row_checks : (ℕ → Flow) → ℕ → List Row → ℕ → List Check
row_checks code e rows p =
    of_pair 18 p (bad_target e code p)
    ∷ of_pair 19 p (row_stack code rows p)
    ∷ []
