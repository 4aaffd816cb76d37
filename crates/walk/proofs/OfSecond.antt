-- The second pass on rows is rules 18 and 19: where the rows hold the first pass's stacks, and rule 18 is not broken at p, two
-- numbers compare as the stacks do; so both lists of checks have one verdict at each place, and over the section. Assumes
-- nothing.
use Prim.Native.Nat.{ℕ, zero, suc, ◌<◌, ◌≤◌, ◌-◌}
use mathlib.Core.Path.{◌≡◌, refl, sym, ◌∙◌, ap}
use mathlib.Core.Bool.{Bool, true, false, cond, not, ◌&&◌, and-true, and-false}
use mathlib.Core.List.{List, ◌∷◌}
use lib.Dec.{eqb, ltb, leb}
use borrow.Author.Tests.{ltb-true, leb-true, leb-false, eqb-true, eq-eqb, ne_eqb, not-false}
use native.Mathlib.Omega.{arith}
use native.Mathlib.Nat.{le_refl, le_step}
use Rattle.units.specs.declared.Quadwords.{Quadwords}
use Rattle.units.specs.Units.{quadwords, slots}
use Rattle.checks.specs.declared.Place.TheVariants.{Quadword}
use Rattle.checks.specs.Verdict.{Verdict, Accepted, Refused}
use Rattle.checks.specs.Checks.{Check, first_broken, below}
use Rattle.checks.proofs.OfChecks.{and_then_lem, joined}
use Rattle.walk.specs.declared.Flow.{Flow}
use Rattle.opcodes.specs.declared.cf.Branch.TheVariants.{LoopEnd, LoopStart, BreakOrContinue, Jump, Else, Pop}
use Rattle.laws.proofs.OfTests.{both}
use Rattle.walk.specs.declared.Flow.TheVariants.{Still, PushMark, PopMarks, Branch}
use Rattle.walk.specs.Flow.{M, Stack, goes, pop_to, move, stack_at}
use Rattle.walk.specs.Rules.{is_loop_end, is_forward, is_backward, wrong_target, bad_target, same_stack, carries, on_top, back_to, ends_loop, differs, bad_stack, second_checks}
use Rattle.walk.specs.declared.rows.Row.{Row}
use Rattle.walk.specs.CodeRows.{row_at, same_row, row_carries, row_else, row_ends, row_starts, row_back, row_differs, row_stack, row_checks}
use Rattle.walk.specs.CodeHeld.{marked, base, Shape, Recorded}
use Rattle.walk.proofs.OfStacks.{pop_enough, pop_short, same_marked, on_top_lem}

-- a target that rule 18 lets pass, forward and backward
pub forward_in : (e p t : ℕ) → is_forward e p t ≡ true → (p < t) × (t ≤ e)
unfolding is_forward
forward_in e p t h =
    let k = both (ltb p t) (leb t e) h in
    (ltb-true p t k.0, leb-true t e k.1)

pub backward_in : (e p t : ℕ) → is_backward e p t ≡ true → (t ≤ p) × (t ≤ e)
unfolding is_backward
backward_in e p t h =
    let k = both (leb t p) (leb t e) h in
    (leb-true t p k.0, leb-true t e k.1)

-- BREAK and CONTINUE
pub hits : (code : ℕ → Flow) (e p t : ℕ) → not (is_forward e p t && is_loop_end (code t)) ≡ false → t ≤ e
hits code e p t w = (forward_in e p t (both (is_forward e p t) (is_loop_end (code t)) (not-false _ w)).0).1

module _ (code : ℕ → Flow) (e : ℕ) (rows : List Row) (r : Recorded code (suc e) rows) (p : ℕ) (l : p ≤ e) where
  here : Shape code p (row_at rows p)
  here = r p (omega arith)

  -- a stack of two numbers goes to t
  lands : (t top m : ℕ) → t ≤ e → carries code (goes t (marked m (base code top))) ≡ same_row rows t top m
  unfolding carries same_row
  lands t top m k =
      ap (same_stack (marked m (base code top))) (r t (omega arith)).stack
      ∙ same_marked code m (row_at rows t).marks top (row_at rows t).top.0

  -- a pop of n marks goes to t
  pops_to : (n t : ℕ) → t ≤ e → carries code (pop_to t n (stack_at code p)) ≡ row_carries rows p n t
  unfolding carries row_carries
  pops_to n t k = rw here.stack (by (leb n (row_at rows p).marks) refl)
    where
      by : (b : Bool) → leb n (row_at rows p).marks ≡ b
          → carries code (pop_to t n (marked (row_at rows p).marks (base code (row_at rows p).top.0)))
          ≡ (b && same_row rows t (row_at rows p).top.0 ((row_at rows p).marks - n))
      by true u =
          ap (carries code) (pop_enough t n (row_at rows p).marks (base code (row_at rows p).top.0) (leb-true n (row_at rows p).marks u))
          ∙ lands t (row_at rows p).top.0 ((row_at rows p).marks - n) k
      by false u = ap (carries code) (pop_short t n (row_at rows p).marks code (row_at rows p).top.0 (leb-false n (row_at rows p).marks u))

  -- ELSE needs a mark on top
  else_to : (n : ℕ) (t : Quadwords) → t.0 ≤ e
      → carries code (move (Branch Else n t) p true (stack_at code p)) ≡ row_else rows p n t.0
  unfolding move carries marked base row_else
  else_to n t k = by (row_at rows p).marks refl
    where
      none : (a : ℕ) → carries code (move (Branch Else n t) p true (base code a)) ≡ false
      none zero = refl
      none (suc q) = refl

      by : (m : ℕ) → (row_at rows p).marks ≡ m
          → carries code (move (Branch Else n t) p true (stack_at code p)) ≡ row_else rows p n t.0
      by zero u =
          let f : stack_at code p ≡ base code (row_at rows p).top.0 = here.stack ∙ rw u in
          rw (eq-eqb (row_at rows p).marks 0 u) (ap (λ (s : Stack). carries code (move (Branch Else n t) p true s)) f ∙ none (row_at rows p).top.0)
      by (suc m) u =
          let f : stack_at code p ≡ M ∷ marked m (base code (row_at rows p).top.0) = here.stack ∙ rw u in
          rw (ne_eqb (row_at rows p).marks 0 (omega arith))
          (ap (λ (s : Stack). carries code (move (Branch Else n t) p true s)) f
          ∙ ap (λ (s : Stack). carries code (pop_to t.0 n s)) (sym f)
          ∙ pops_to n t.0 k)

  -- the LOOP_END before t ends the loop that starts at p
  ends : (k : ℕ) → k ≤ e → ends_loop code p k ≡ row_ends code rows p k
  unfolding ends_loop row_ends same_row
  ends k n =
      ap (λ (b : Bool). is_loop_end (code k) && b)
      (ap (on_top p) (r k (omega arith)).stack ∙ on_top_lem code p (row_at rows k).marks (row_at rows k).top.0)

  -- a LOOP_END that keeps its loop's frame and goes back
  goes_back : (n : ℕ) (t : Quadwords) → t.0 ≤ e
      → (carries code (move (Branch LoopEnd n t) p true (stack_at code p)) && back_to t.0 (stack_at code p)) ≡ row_back rows p t.0
  unfolding move carries back_to marked base row_back
  goes_back n t k = by (row_at rows p).marks (row_at rows p).top.0 here.stack
    where
      turned : (q : ℕ) (b : Bool) → eqb t.0 (suc q) ≡ b
          → (same_row rows t.0 (suc q) 0 && b) ≡ (b && same_row rows t.0 t.0 0)
      turned q true u =
          and-true (same_row rows t.0 (suc q) 0)
          ∙ ap (λ (a : ℕ). same_row rows t.0 a 0) (sym (eqb-true t.0 (suc q) u))
      turned q false u = and-false (same_row rows t.0 (suc q) 0)

      by : (m a : ℕ) → stack_at code p ≡ marked m (base code a)
          → (carries code (move (Branch LoopEnd n t) p true (stack_at code p)) && back_to t.0 (stack_at code p))
          ≡ (eqb m 0 && (not (eqb a 0) && (eqb t.0 a && same_row rows t.0 t.0 0)))
      by zero zero f = rw f
      by zero (suc q) f =
          rw (f, ne_eqb (suc q) 0 (omega arith))
          (ap (λ (b : Bool). b && eqb t.0 (suc q)) (lands t.0 (suc q) 0 k) ∙ turned q (eqb t.0 (suc q)) refl)
      by (suc m) a f = rw (f, ne_eqb (suc m) 0 (omega arith))

  -- rule 19 by the rows, once rule 18 is not broken
  same_differs : (i : Flow) → wrong_target e code p i ≡ false → row_differs code rows p i ≡ differs code p i
  unfolding wrong_target row_differs row_starts differs move pop_to
  same_differs Still w = refl
  same_differs PushMark w = refl
  same_differs (PopMarks n) w = refl
  same_differs (Branch Jump n t) w = ap not (sym (pops_to n t.0 (forward_in e p t.0 (not-false _ w)).1))
  same_differs (Branch BreakOrContinue n t) w = ap not (sym (pops_to n t.0 (hits code e p t.0 w)))
  same_differs (Branch Else n t) w = ap not (sym (else_to n t (forward_in e p t.0 (not-false _ w)).1))
  same_differs (Branch Pop n t) w = ap not (sym (pops_to n t.0 (forward_in e p t.0 (not-false _ w)).1))
  same_differs (Branch LoopStart n t) w =
      let k = forward_in e p t.0 (not-false _ w) in
      let a = pops_to 0 t.0 k.1 in
      let b = ends (t.0 - 1) (omega (arith, k.1)) in
      λ j. not (sym a j && sym b j)
  same_differs (Branch LoopEnd n t) w = ap not (sym (goes_back n t (backward_in e p t.0 (not-false _ w)).1))

  pub same_stack_lem : bad_target e code p ≡ false → row_stack code rows p ≡ bad_stack code p
  unfolding bad_target row_stack bad_stack
  same_stack_lem w = same_differs (code p) w

  pub same_verdict : first_broken (row_checks code e rows p) ≡ first_broken (second_checks e code p)
  unfolding row_checks second_checks first_broken
  same_verdict = by (bad_target e code p) refl
    where
      by : (b : Bool) → bad_target e code p ≡ b
          → cond b (Refused 18 (Quadword (quadwords p)) (slots 0))
          (cond (row_stack code rows p) (Refused 19 (Quadword (quadwords p)) (slots 0)) Accepted)
          ≡ cond b (Refused 18 (Quadword (quadwords p)) (slots 0))
          (cond (bad_stack code p) (Refused 19 (Quadword (quadwords p)) (slots 0)) Accepted)
      by true w = refl
      by false w =
          ap (λ (b : Bool). cond b (Refused 19 (Quadword (quadwords p)) (slots 0)) Accepted) (same_stack_lem w)

-- ---- over positions

-- two rows of positions that have one verdict at each position have one verdict
pub below_same : (f g : ℕ → List Check) (n : ℕ) → ((p : ℕ) → p < n → first_broken (f p) ≡ first_broken (g p))
    → first_broken (below f n) ≡ first_broken (below g n)
unfolding below
below_same f g zero h = refl
below_same f g (suc n) h =
    let a = below_same f g n (λ p l. h p (le_step l)) in
    let b = h n (le_refl (suc n)) in
    joined (below f n) (f n) ∙ (λ j. and_then_lem (a j) (b j)) ∙ sym (joined (below g n) (g n))

pub second_same : (code : ℕ → Flow) (e : ℕ) (rows : List Row) → Recorded code (suc e) rows
    → first_broken (below (row_checks code e rows) (suc e)) ≡ first_broken (below (second_checks e code) (suc e))
second_same code e rows r =
    below_same (row_checks code e rows) (second_checks e code) (suc e) (λ p l. same_verdict code e rows r p (omega arith))

-- what `second_pass` answers of a section of n pairs
pub second_pass_is : (code : ℕ → Flow) (e n : ℕ) (rows : List Row) (v : Verdict) → n ≡ suc e → Recorded code (suc e) rows
    → v ≡ first_broken (below (row_checks code (n - 1) rows) n) → v ≡ first_broken (below (second_checks e code) (suc e))
second_pass_is code e n rows v q r h =
    let k : n - 1 ≡ e = omega arith in
    h ∙ (λ j. first_broken (below (row_checks code (k j) rows) (q j))) ∙ second_same code e rows r
