-- The first pass's step on rows is the step on stacks: `followed` finds exactly what rule 16 asks, and holds the stack behind.
-- Each kind of pair by what it tests. Assumes nothing.
use Prim.Native.Nat.{ℕ, zero, suc, ◌<◌, ◌≤◌, ◌+◌, ◌-◌}
use mathlib.Core.Path.{◌≡◌, refl, sym, ◌∙◌, ap, subst}
use mathlib.Core.Bool.{Bool, true, false, cond, ◌&&◌, ◌||◌}
use mathlib.Core.List.{List, ◌∷◌}
use mathlib.Core.Logic.{◌⊎◌, inl, inr, ⊎_elim}
use Rattle.std.specs.Prelude.{Ok, Err}
use lib.ListN.{length, set}
use lib.Seq.{get_or-set_same, get_or-set_other}
use lib.Dec.{eqb, ltb, leb}
use borrow.Author.Tests.{ltb-true, ltb-false, leb-true, leb-false, eqb-true, eqb-false, lt-ltb, le-ltb, eq-eqb, ne_eqb}
use native.Mathlib.Omega.{arith}
use native.Mathlib.Nat.{le_of_suc-le-suc, eq-or-lt_of_le, not-suc-le-zero}
use native.Mathlib.Numerals.{add-one}
use Rattle.units.specs.declared.Quadwords.{Quadwords}
use Rattle.units.specs.Units.{quadwords, slots}
use Rattle.checks.specs.declared.Place.TheVariants.{Quadword}
use Rattle.checks.specs.Verdict.{Accepted, Refused}
use Rattle.checks.specs.Checks.{first_broken}
use Rattle.laws.proofs.OfTests.{or_right}
use Rattle.walk.specs.declared.Flow.{Flow}
use Rattle.opcodes.specs.declared.cf.Branch.TheVariants.{LoopEnd, LoopStart, BreakOrContinue, Jump, Else, Pop}
use Rattle.walk.specs.declared.Flow.TheVariants.{Still, PushMark, PopMarks, Branch}
use Rattle.walk.specs.declared.Frames.{Frames}
use Rattle.walk.specs.declared.StackFault.{StackFault}
use Rattle.walk.specs.declared.StackFault.TheVariants.{Lacks, TooDeep}
use Rattle.walk.specs.declared.rows.Row.{Row}
use Rattle.walk.specs.Flow.{M, L, Stack, lacks, goes, pop_to, move, stack_of, stack_at}
use Rattle.walk.specs.Rules.{lacking, lacks_at, bad_depth, left_over, stack_checks}
use Rattle.walk.specs.CodeRows.{Followed, row, row_at, frames, pushed, entered, popped, needing, needing_top, ended, followed}
use Rattle.walk.specs.CodeHeld.{marked, base, Shape, Held, Recorded}
use Rattle.walk.proofs.OfStacks.{length_marked, pop_enough, pop_short}

-- what a step of the first pass finds
pub record Goes (limit : ℕ) (code : ℕ → Flow) (p : ℕ) (s f : Frames) : Type 0 where
  pub has_frames : lacks_at code p ≡ false
  pub held : Held code (suc p) f
  pub no_deeper : s.depth ≤ limit → f.depth ≤ limit

abbrev pub Follows : ℕ → (ℕ → Flow) → ℕ → Frames → Followed → Type 0
Follows limit code p s (Err Lacks) = lacks_at code p ≡ true
Follows limit code p s (Err TooDeep) = limit < length (stack_at code (suc p))
Follows limit code p s (Ok f) = Goes limit code p s f

-- a stack that is held has as many frames as marks and loops
pub marks_counted : (code : ℕ → Flow) (p : ℕ) (s : Frames) → Held code p s → s.depth ≡ s.row.marks + length (base code s.row.top.0)
marks_counted code p s h = omega (arith, h.size, ap length h.shape.stack, length_marked s.row.marks (base code s.row.top.0))

or_none : (a b : Bool) → a ≡ false → b ≡ false → (a || b) ≡ false
or_none a b h k = rw h k

-- rule 17 by the depth
module _ (code : ℕ → Flow) (p : ℕ) (s : Frames) (h : Held code p s) (e : ℕ) where
  pub left_over_lem : p ≡ e → (s.depth ≡ 0 → ⊥) → left_over e code p ≡ true
  unfolding left_over
  left_over_lem q n = rw (eq-eqb p e q, lt-ltb 0 (length (stack_at code p)) (omega (arith, h.size)))

  pub none_left : (p ≡ e → s.depth ≡ 0) → left_over e code p ≡ false
  unfolding left_over
  none_left n = by (eqb p e) refl
    where
      by : (b : Bool) → eqb p e ≡ b → (b && ltb 0 (length (stack_at code p))) ≡ false
      by true u = le-ltb 0 (length (stack_at code p)) (omega (arith, h.size, n (eqb-true p e u)))
      by false u = refl

module _ (limit : ℕ) (code : ℕ → Flow) (p : ℕ) (s : Frames) (h : Held code p s) where
  -- the step at p, once what stands there is known
  module _ (i : Flow) (q : code p ≡ i) where
    behind : stack_at code (suc p) ≡ stack_of (move i p false (stack_at code p))
    unfolding stack_at
    behind = rw q

    either : lacks_at code p ≡ (lacking (move i p false (stack_at code p)) || lacking (move i p true (stack_at code p)))
    unfolding lacks_at
    either = rw q

  -- what a pop of n marks finds in what is held
  pops : (t n : ℕ) → n ≤ s.row.marks → pop_to t n (stack_at code p) ≡ goes t (marked (s.row.marks - n) (base code s.row.top.0))
  pops t n l = rw h.shape.stack (pop_enough t n s.row.marks (base code s.row.top.0) l)

  short : (t n : ℕ) → s.row.marks < n → pop_to t n (stack_at code p) ≡ lacks
  short t n l = rw h.shape.stack (pop_short t n s.row.marks code s.row.top.0 l)

  -- the step leaves the stack as it is
  kept : stack_at code (suc p) ≡ stack_at code p → lacks_at code p ≡ false → Goes limit code p s s
  kept e l =
      record {
        has_frames = l;
        held =
            record {
              shape = record { stack = e ∙ h.shape.stack; near = omega (arith, h.shape.near) };
              size = h.size ∙ ap length (sym e);
            };
        no_deeper = λ d. d;
      }

  -- ---- by what is done

  find_pushed : stack_at code (suc p) ≡ M ∷ stack_at code p → lacks_at code p ≡ false → Follows limit code p s (pushed limit s)
  unfolding pushed marked
  find_pushed b z = by (ltb s.depth limit) (ltb s.row.marks limit) refl refl
    where
      by : (x y : Bool) → ltb s.depth limit ≡ x → ltb s.row.marks limit ≡ y
          → Follows limit code p s (cond x (cond y (Ok (frames (row s.row.top.0 (s.row.marks + 1)) (s.depth + 1))) (Err TooDeep)) (Err TooDeep))
      by true true u v =
          record {
            has_frames = z;
            held =
                record {
                  shape =
                      record {
                        stack = rw (add-one s.row.marks) (b ∙ ap (λ (k : Stack). M ∷ k) h.shape.stack);
                        near = omega (arith, h.shape.near);
                      };
                  size = omega (arith, h.size, ap length b);
                };
            no_deeper = λ d. omega (arith, ltb-true s.depth limit u);
          }
      by true false u v =
          omega (arith, ltb-true s.depth limit u, ltb-false s.row.marks limit v, marks_counted code p s h)
      by false y u v = omega (arith, ltb-false s.depth limit u, h.size, ap length b)

  find_entered : stack_at code (suc p) ≡ L p ∷ stack_at code p → lacks_at code p ≡ false
      → Follows limit code p s (entered limit (suc p) s)
  unfolding entered marked base
  find_entered b z = by (ltb s.depth limit) refl
    where
      by : (x : Bool) → ltb s.depth limit ≡ x → Follows limit code p s (cond x (Ok (frames (row (suc p) 0) (s.depth + 1))) (Err TooDeep))
      by true u =
          record {
            has_frames = z;
            held = record { shape = record { stack = b; near = omega arith }; size = omega (arith, h.size, ap length b) };
            no_deeper = λ d. omega (arith, ltb-true s.depth limit u);
          }
      by false u = omega (arith, ltb-false s.depth limit u, h.size, ap length b)

  find_popped : (n t : ℕ) → stack_at code (suc p) ≡ stack_of (pop_to (suc p) n (stack_at code p))
      → lacks_at code p ≡ (lacking (pop_to (suc p) n (stack_at code p)) || lacking (pop_to t n (stack_at code p)))
      → Follows limit code p s (popped n s)
  unfolding popped lacking stack_of
  find_popped n t b z = by (leb n s.row.marks) (leb n s.depth) refl refl
    where
      by : (x y : Bool) → leb n s.row.marks ≡ x → leb n s.depth ≡ y
          → Follows limit code p s (cond x (cond y (Ok (frames (row s.row.top.0 (s.row.marks - n)) (s.depth - n))) (Err Lacks)) (Err Lacks))
      by true true u v =
          let l : n ≤ s.row.marks = leb-true n s.row.marks u in
          let k : stack_at code (suc p) ≡ marked (s.row.marks - n) (base code s.row.top.0) = b ∙ ap stack_of (pops (suc p) n l) in
          record {
            has_frames = z ∙ rw (pops (suc p) n l, pops t n l);
            held =
                record {
                  shape = record { stack = k; near = omega (arith, h.shape.near) };
                  size =
                      omega
                      (arith, marks_counted code p s h, ap length k, length_marked (s.row.marks - n) (base code s.row.top.0));
                };
            no_deeper = λ d. omega arith;
          }
      by true false u v =
          absurd (omega (arith, leb-true n s.row.marks u, leb-false n s.depth v, marks_counted code p s h))
      by false y u v = z ∙ rw (short (suc p) n (leb-false n s.row.marks u))

  find_needing : (n t : ℕ) → stack_at code (suc p) ≡ stack_at code p → lacks_at code p ≡ lacking (pop_to t n (stack_at code p))
      → Follows limit code p s (needing n s)
  unfolding needing lacking
  find_needing n t b z = by (leb n s.row.marks) refl
    where
      by : (x : Bool) → leb n s.row.marks ≡ x → Follows limit code p s (cond x (Ok s) (Err Lacks))
      by true u = kept b (z ∙ rw (pops t n (leb-true n s.row.marks u)))
      by false u = z ∙ rw (short t n (leb-false n s.row.marks u))

  -- ELSE needs a mark on top, whatever it pops
  find_else : (n : ℕ) (t : Quadwords) → code p ≡ Branch Else n t → Follows limit code p s (needing_top n s)
  unfolding move marked base lacking stack_of needing_top
  find_else n t q = by s.row.marks refl
    where
      none : (a : ℕ) → (lacking (move (Branch Else n t) p false (base code a)) || lacking (move (Branch Else n t) p true (base code a))) ≡ true
      none zero = refl
      none (suc r) = refl

      by : (m : ℕ) → s.row.marks ≡ m → Follows limit code p s (needing_top n s)
      by zero u =
          let f : stack_at code p ≡ base code s.row.top.0 = h.shape.stack ∙ rw u in
          rw (eq-eqb s.row.marks 0 u)
          (either (Branch Else n t) q
          ∙ ap (λ (k : Stack). lacking (move (Branch Else n t) p false k) || lacking (move (Branch Else n t) p true k)) f
          ∙ none s.row.top.0)
      by (suc m) u =
          let f : stack_at code p ≡ M ∷ marked m (base code s.row.top.0) = h.shape.stack ∙ rw u in
          rw (ne_eqb s.row.marks 0 (omega arith))
          (find_needing n t.0
          (behind (Branch Else n t) q ∙ rw f)
          (either (Branch Else n t) q ∙ rw f))

  -- a loop end needs a loop frame on top
  no_loop : (pops : ℕ) (t : Quadwords) → code p ≡ Branch LoopEnd pops t → (s.row.marks ≡ 0 → ⊥) ⊎ (s.row.top.0 ≡ 0) → lacks_at code p ≡ true
  unfolding move lacking marked base
  no_loop pops t q c =
      either (Branch LoopEnd pops t) q
      ∙ ap (λ (k : Stack). lacking (move (Branch LoopEnd pops t) p false k) || lacking (move (Branch LoopEnd pops t) p true k)) h.shape.stack
      ∙ by s.row.marks s.row.top.0 c
    where
      by : (m a : ℕ) → (m ≡ 0 → ⊥) ⊎ (a ≡ 0)
          → (lacking (move (Branch LoopEnd pops t) p false (marked m (base code a))) || lacking (move (Branch LoopEnd pops t) p true (marked m (base code a)))) ≡ true
      by zero zero c = refl
      by zero (suc r) (inl l) = absurd (l refl)
      by zero (suc r) (inr n) = absurd (omega arith)
      by (suc m) a c = refl

  module _ (rows : List Row) (r : Recorded code p rows) where
    pops-loop : (pops : ℕ) (t : Quadwords) → code p ≡ Branch LoopEnd pops t → s.row.marks ≡ 0 → (x : ℕ) → s.row.top.0 ≡ suc x
        → Goes limit code p s (frames (row_at rows x) (s.depth - 1))
    unfolding move lacking stack_of marked base
    pops-loop pops t q m x n =
        let f : stack_at code p ≡ L x ∷ stack_at code x = h.shape.stack ∙ rw (m, n) in
        let b : stack_at code (suc p) ≡ stack_at code x = behind (Branch LoopEnd pops t) q ∙ rw f in
        let below : Shape code x (row_at rows x) = r x (omega (arith, h.shape.near)) in
        record {
          has_frames = either (Branch LoopEnd pops t) q ∙ rw f;
          held =
              record {
                shape = record { stack = b ∙ below.stack; near = omega (arith, below.near, h.shape.near) };
                size = omega (arith, h.size, ap length f, ap length b);
              };
          no_deeper = λ d. omega arith;
        }

    find-ended : (pops : ℕ) (t : Quadwords) → code p ≡ Branch LoopEnd pops t → Follows limit code p s (ended s rows)
    unfolding ended base
    find-ended pops t q = by (eqb s.row.marks 0) (eqb s.row.top.0 0) (eqb s.depth 0) refl refl refl
      where
        by : (x y z : Bool) → eqb s.row.marks 0 ≡ x → eqb s.row.top.0 0 ≡ y → eqb s.depth 0 ≡ z
            → Follows limit code p s
            (cond x (cond y (Err Lacks) (cond z (Err Lacks) (Ok (frames (row_at rows (s.row.top.0 - 1)) (s.depth - 1))))) (Err Lacks))
        by true true z u v w = no_loop pops t q (inr (eqb-true s.row.top.0 0 v))
        by true false z u v w = by-depth z w
          where
            n : s.row.top.0 ≡ suc (s.row.top.0 - 1)
            n = omega (arith, eqb-false s.row.top.0 0 v)

            by-depth : (z : Bool) → eqb s.depth 0 ≡ z
                → Follows limit code p s (cond z (Err Lacks) (Ok (frames (row_at rows (s.row.top.0 - 1)) (s.depth - 1))))
            by-depth true w =
                absurd (omega (arith, eqb-true s.depth 0 w, marks_counted code p s h, ap (λ (a : ℕ). length (base code a)) n))
            by-depth false w = pops-loop pops t q (eqb-true s.row.marks 0 u) (s.row.top.0 - 1) n
        by false y z u v w = no_loop pops t q (inl (eqb-false s.row.marks 0 u))

    -- ---- any pair

    find : (i : Flow) → code p ≡ i → Follows limit code p s (followed limit i (suc p) s rows)
    unfolding followed move lacking stack_of
    find Still q = kept (behind Still q) (either Still q)
    find PushMark q = find_pushed (behind PushMark q) (either PushMark q)
    find (PopMarks n) q = find_popped n (suc p) (behind (PopMarks n) q) (either (PopMarks n) q)
    find (Branch Jump n t) q = find_needing n t.0 (behind (Branch Jump n t) q) (either (Branch Jump n t) q)
    find (Branch BreakOrContinue n t) q = find_needing n t.0 (behind (Branch BreakOrContinue n t) q) (either (Branch BreakOrContinue n t) q)
    find (Branch Else n t) q = find_else n t q
    find (Branch Pop n t) q = find_popped n t.0 (behind (Branch Pop n t) q) (either (Branch Pop n t) q)
    find (Branch LoopStart n t) q = find_entered (behind (Branch LoopStart n t) q) (either (Branch LoopStart n t) q)
    find (Branch LoopEnd n t) q = find-ended n t q

    pub follows : (r : Followed) → r ≡ followed limit (code p) (suc p) s rows → Follows limit code p s r
    follows r g = subst (Follows limit code p s) (sym g) (find (code p) refl)

    -- what `follow` answers, and rule 16: (Err Lacks) or (Err TooDeep) exactly where it is broken
    module _ (m : Followed) (g : m ≡ followed limit (code p) (suc p) s rows) where
      pub lacks-found : m ≡ (Err Lacks) → lacks_at code p ≡ true
      lacks-found e = subst (Follows limit code p s) e (follows m g)

      pub missing-frame : m ≡ (Err Lacks) → bad_depth limit code p ≡ true
      unfolding bad_depth
      missing-frame e = rw (lacks-found e)

      pub too-deep : m ≡ (Err TooDeep) → bad_depth limit code p ≡ true
      unfolding bad_depth
      too-deep e =
          or_right (lacks_at code p) _ (lt-ltb limit (length (stack_at code (suc p))) (subst (Follows limit code p s) e (follows m g)))

      pub moves : (f : Frames) → m ≡ Ok f → Goes limit code p s f
      moves f e = subst (Follows limit code p s) e (follows m g)

      pub fits : (f : Frames) → m ≡ Ok f → s.depth ≤ limit → bad_depth limit code p ≡ false
      unfolding bad_depth
      fits f e l =
          let k = moves f e in
          or_none (lacks_at code p) _ k.has_frames
          (le-ltb limit (length (stack_at code (suc p))) (omega (arith, k.held.size, k.no_deeper l)))

      -- rules 16 and 17 at p, as the first pass asks them
      pub frames-refused : (e : ℕ) (fault : StackFault) → m ≡ Err fault
          → first_broken (stack_checks limit e code p) ≡ Refused 16 (Quadword (quadwords p)) (slots 0)
      unfolding stack_checks first_broken
      frames-refused e Lacks q = rw (missing-frame q)
      frames-refused e TooDeep q = rw (too-deep q)

      pub end_refused : (e : ℕ) (f : Frames) → m ≡ Ok f → s.depth ≤ limit → p ≡ e → (s.depth ≡ 0 → ⊥)
          → first_broken (stack_checks limit e code p) ≡ Refused 17 (Quadword (quadwords p)) (slots 0)
      unfolding stack_checks first_broken
      end_refused e f q l k n = rw (fits f q l, left_over_lem code p s h e k n)

      pub stack-accepted : (e : ℕ) (f : Frames) → m ≡ Ok f → s.depth ≤ limit → (p ≡ e → s.depth ≡ 0)
          → first_broken (stack_checks limit e code p) ≡ Accepted
      unfolding stack_checks first_broken
      stack-accepted e f q l k = rw (fits f q l, none_left code p s h e k)

-- what the code's call of `follow` at p is told
pub at_place : (limit : ℕ) (code : ℕ → Flow) (p : ℕ) (s : Frames) (rows : List Row) (next : Quadwords) (i : Flow) (m : Followed)
    → next.0 ≡ p + 1
    → i ≡ code p
    → m ≡ followed limit i next.0 s rows
    → m ≡ followed limit (code p) (suc p) s rows
at_place limit code p s rows next i m b e h = h ∙ (λ j. followed limit (e j) ((b ∙ add-one p) j) s rows)

-- ---- the first pass's rows

-- it starts with an empty stack and no rows
pub held_start : (code : ℕ → Flow) → Held code 0 (frames (row 0 0) 0)
unfolding stack_at marked base
held_start code = record { shape = record { stack = refl; near = omega arith }; size = refl }

pub recorded_none : (code : ℕ → Flow) (rows : List Row) → Recorded code 0 rows
recorded_none code rows k l = absurd (not-suc-le-zero l)

-- one row more
pub recorded_more : (code : ℕ → Flow) (rows : List Row) (p : ℕ) (r : Row) → p < length rows → Recorded code p rows → Shape code p r
    → Recorded code (suc p) (set rows p r)
recorded_more code rows p r inside before here k l =
    ⊎_elim
    (λ e. subst (λ (j : ℕ). Shape code j (row_at (set rows p r) j)) (sym e) (rw (get_or-set_same rows p r (row 0 0) inside) here))
    (λ lt.
    let n : k ≡ p → ⊥ = omega arith in
    rw (get_or-set_other rows p k r (row 0 0) n) (before k lt))
    (eq-or-lt_of_le (le_of_suc-le-suc l))
