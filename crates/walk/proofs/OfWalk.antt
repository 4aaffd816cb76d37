-- The walk of a pack that breaks none of rules 16 to 19: along any list of answers it carries the first pass's stack of the
-- place where it stands. By induction on the answers; a step by what stands there. Assumes nothing.
use Prim.Native.Nat.{ℕ, zero, suc, ◌<◌, ◌≤◌, ◌-◌}
use mathlib.Core.Path.{◌≡◌, refl, sym, ◌∙◌, ap, subst}
use mathlib.Core.Bool.{Bool, true, false, not, ◌&&◌, false≢true}
use mathlib.Core.List.{List, [], ◌∷◌}
use mathlib.Core.Logic.{⊎_elim}
use lib.ListN.{length}
use lib.Dec.{ltb}
use borrow.Author.Tests.{ltb-false, not-false, eq-eqb, ne_eqb, le-ltb}
use native.Mathlib.Omega.{arith}
use native.Mathlib.Nat.{eq-or-lt_of_le}
use Rattle.laws.proofs.OfTests.{both, neither}
use Rattle.checks.specs.Verdict.{Accepted}
use Rattle.checks.specs.Checks.{first_broken, below}
use Rattle.checks.proofs.OfChecks.{first_clean, rest_clean, below_each}
use Rattle.walk.specs.declared.Flow.{Flow}
use Rattle.opcodes.specs.declared.cf.Branch.TheVariants.{LoopEnd, LoopStart, BreakOrContinue, Jump, Else, Pop}
use Rattle.walk.specs.declared.Flow.TheVariants.{Still, PushMark, PopMarks, Branch}
use Rattle.walk.specs.Flow.{M, L, Stack, Move, goes, pop_to, move, stack_of, stack_at}
use Rattle.walk.specs.Rules.{lacking, lacks_at, bad_depth, left_over, wrong_target, bad_target, carries, ends_loop, back_to, differs, bad_stack, stack_checks, second_checks}
use Rattle.walk.specs.Walk.{State, start, land, step, walk}
use Rattle.walk.proofs.OfStacks.{same_is}
use Rattle.walk.proofs.OfSecond.{forward_in, backward_in, hits}

-- what holds wherever the walk stands
pub record Sound (limit e : ℕ) (code : ℕ → Flow) (s : State) : Type 0 where
  -- no step lacked a frame or stood outside the section
  pub no_fault : s.fault ≡ false
  pub inside : s.at ≤ e
  -- the stack is the first pass's, and the card's stack holds it
  pub same_stack_lem : s.stack ≡ stack_at code s.at
  pub not_deep : length s.stack ≤ limit
  -- halted means empty
  pub halted_empty : s.at ≡ e → s.stack ≡ []
  -- elsewhere it can go on, by either answer
  pub goes_on : (s.at ≡ e → ⊥) → (a : Bool) → ((step e code s a).fault ≡ false) × ((step e code s a).at ≤ e)

-- ---- none of rules 16 to 19 is broken

pub record Clean (limit e : ℕ) (code : ℕ → Flow) : Type 0 where
  pub deep_enough : (p : ℕ) → p ≤ e → bad_depth limit code p ≡ false
  pub empty_at_end : left_over e code e ≡ false
  pub right_target : (p : ℕ) → p ≤ e → bad_target e code p ≡ false
  pub right_stack : (p : ℕ) → p ≤ e → bad_stack code p ≡ false

-- the two checks of the first pass at p are unbroken exactly if they are accepted
module _ (limit e : ℕ) (code : ℕ → Flow) (p : ℕ) where
  pub stack_unbroken : first_broken (stack_checks limit e code p) ≡ Accepted
      → (bad_depth limit code p ≡ false) × (left_over e code p ≡ false)
  unfolding stack_checks
  stack_unbroken h = (first_clean _ _ h, first_clean _ _ (rest_clean _ _ h))

-- and so are the two of the second
module _ (e : ℕ) (code : ℕ → Flow) (p : ℕ) where
  pub second_unbroken : first_broken (second_checks e code p) ≡ Accepted → (bad_target e code p ≡ false) × (bad_stack code p ≡ false)
  unfolding second_checks
  second_unbroken h = (first_clean _ _ h, first_clean _ _ (rest_clean _ _ h))

-- accepted at each place: clean
pub clean : (limit e : ℕ) (code : ℕ → Flow) → ((p : ℕ) → p ≤ e → first_broken (stack_checks limit e code p) ≡ Accepted)
    → ((p : ℕ) → p ≤ e → first_broken (second_checks e code p) ≡ Accepted) → Clean limit e code
clean limit e code f s =
    record {
      deep_enough = λ p l. (stack_unbroken limit e code p (f p l)).0;
      empty_at_end = (stack_unbroken limit e code e (f e (omega arith))).1;
      right_target = λ p l. (second_unbroken e code p (s p l)).0;
      right_stack = λ p l. (second_unbroken e code p (s p l)).1;
    }

-- the same, from the second pass as a whole
pub clean_passes : (limit e : ℕ) (code : ℕ → Flow) → ((p : ℕ) → p ≤ e → first_broken (stack_checks limit e code p) ≡ Accepted)
    → first_broken (below (second_checks e code) (suc e)) ≡ Accepted → Clean limit e code
clean_passes limit e code f s =
    clean limit e code f (λ p l. below_each (second_checks e code) (suc e) p s (omega arith))

-- ---- what a step does that lacks nothing

pop_goes : (t n : ℕ) (s : Stack) → lacking (pop_to t n s) ≡ false → pop_to t n s ≡ goes t (stack_of (pop_to t n s))
unfolding pop_to lacking stack_of
pop_goes t zero s h = refl
pop_goes t (suc n) [] h = absurd (false≢true (sym h))
pop_goes t (suc n) (M ∷ s) h = pop_goes t n s h
pop_goes t (suc n) (L q ∷ s) h = absurd (false≢true (sym h))

-- on no it goes to the next place
no_goes : (i : Flow) (p : ℕ) (s : Stack) → lacking (move i p false s) ≡ false
    → move i p false s ≡ goes (suc p) (stack_of (move i p false s))
unfolding move lacking stack_of
no_goes Still p s h = refl
no_goes PushMark p s h = refl
no_goes (PopMarks n) p s h = pop_goes (suc p) n s h
no_goes (Branch Jump n t) p s h = refl
no_goes (Branch BreakOrContinue n t) p s h = refl
no_goes (Branch Else n t) p [] h = absurd (false≢true (sym h))
no_goes (Branch Else n t) p (L q ∷ s) h = absurd (false≢true (sym h))
no_goes (Branch Else n t) p (M ∷ s) h = refl
no_goes (Branch Pop n t) p s h = pop_goes (suc p) n s h
no_goes (Branch LoopStart n t) p s h = refl
no_goes (Branch LoopEnd n t) p [] h = absurd (false≢true (sym h))
no_goes (Branch LoopEnd n t) p (M ∷ s) h = absurd (false≢true (sym h))
no_goes (Branch LoopEnd n t) p (L q ∷ s) h = refl

-- where a step lands with the first pass's stack of that place
record Lands (e : ℕ) (code : ℕ → Flow) (m : Move) : Type 0 where
  to : ℕ
  inside : to ≤ e
  same : m ≡ goes to (stack_at code to)

carried : (code : ℕ → Flow) (m : Move) (t : ℕ) → m ≡ goes t (stack_of m) → carries code m ≡ true → m ≡ goes t (stack_at code t)
unfolding carries
carried code m t h k = h ∙ ap (goes t) (same_is (stack_of m) (stack_at code t) (sym (ap (carries code) h) ∙ k))

nothing : (s : Stack) → length s ≤ 0 → s ≡ []
nothing [] l = refl
nothing (f ∷ s) l = absurd (omega arith)

-- where a yes goes, once its target and the stack that it carries are right
module _ (e : ℕ) (code : ℕ → Flow) (p : ℕ) (l : p < e) where
  -- without a choice, as on no
  on : (m : Move) → m ≡ goes (suc p) (stack_of m) → stack_at code (suc p) ≡ stack_of m → Lands e code m
  on m g a = record { to = suc p; inside = l; same = g ∙ ap (goes (suc p)) (sym a) }

  -- pops and jumps forward
  jumps : (n t : ℕ) → t ≤ e → lacking (pop_to t n (stack_at code p)) ≡ false
      → not (carries code (pop_to t n (stack_at code p))) ≡ false
      → Lands e code (pop_to t n (stack_at code p))
  jumps n t i y b =
      record {
        to = t;
        inside = i;
        same = carried code (pop_to t n (stack_at code p)) t (pop_goes t n (stack_at code p) y) (not-false _ b);
      }

  yes_lands : (i : Flow) → lacking (move i p false (stack_at code p)) ≡ false → lacking (move i p true (stack_at code p)) ≡ false
      → stack_at code (suc p) ≡ stack_of (move i p false (stack_at code p)) → wrong_target e code p i ≡ false
      → differs code p i ≡ false
      → Lands e code (move i p true (stack_at code p))
  unfolding wrong_target differs move stack_of lacking
  yes_lands Still f y a w d = on _ refl a
  yes_lands PushMark f y a w d = on _ refl a
  yes_lands (PopMarks n) f y a w d = on (pop_to (suc p) n (stack_at code p)) (pop_goes (suc p) n (stack_at code p) f) a
  yes_lands (Branch Jump n t) f y a w d = jumps n t.0 (forward_in e p t.0 (not-false _ w)).1 y d
  yes_lands (Branch BreakOrContinue n t) f y a w d = jumps n t.0 (hits code e p t.0 w) y d
  yes_lands (Branch Else n t) f y a w d =
      record {
        to = t.0;
        inside = (forward_in e p t.0 (not-false _ w)).1;
        same = carried code (move (Branch Else n t) p true (stack_at code p)) t.0 (by (stack_at code p) y) (not-false _ d);
      }
    where
      by : (s : Stack) → lacking (move (Branch Else n t) p true s) ≡ false
          → move (Branch Else n t) p true s ≡ goes t.0 (stack_of (move (Branch Else n t) p true s))
      by [] h = absurd (false≢true (sym h))
      by (L q ∷ s) h = absurd (false≢true (sym h))
      by (M ∷ s) h = pop_goes t.0 n (M ∷ s) h
  yes_lands (Branch Pop n t) f y a w d = jumps n t.0 (forward_in e p t.0 (not-false _ w)).1 y d
  yes_lands (Branch LoopStart n t) f y a w d =
      record {
        to = t.0;
        inside = (forward_in e p t.0 (not-false _ w)).1;
        same =
            carried code (goes t.0 (stack_at code p)) t.0 refl
            (both (carries code (goes t.0 (stack_at code p))) (ends_loop code p (t.0 - 1)) (not-false _ d)).0;
      }
  yes_lands (Branch LoopEnd n t) f y a w d =
      record {
        to = t.0;
        inside = (backward_in e p t.0 (not-false _ w)).1;
        same =
            carried code (move (Branch LoopEnd n t) p true (stack_at code p)) t.0 (by (stack_at code p) y)
            (both (carries code (move (Branch LoopEnd n t) p true (stack_at code p))) (back_to t.0 (stack_at code p)) (not-false _ d)).0;
      }
    where
      by : (s : Stack) → lacking (move (Branch LoopEnd n t) p true s) ≡ false
          → move (Branch LoopEnd n t) p true s ≡ goes t.0 (stack_of (move (Branch LoopEnd n t) p true s))
      by [] h = absurd (false≢true (sym h))
      by (M ∷ s) h = absurd (false≢true (sym h))
      by (L q ∷ s) h = refl

-- ---- the walk

-- it stands where the first pass stood
record Stands (e : ℕ) (code : ℕ → Flow) (s : State) : Type 0 where
  no_fault : s.fault ≡ false
  inside : s.at ≤ e
  same : s.stack ≡ stack_at code s.at

module _ (limit e : ℕ) (code : ℕ → Flow) (c : Clean limit e code) where
  has_frames : (p : ℕ) → p ≤ e
      → (lacking (move (code p) p false (stack_at code p)) ≡ false) × (lacking (move (code p) p true (stack_at code p)) ≡ false)
  unfolding bad_depth lacks_at
  has_frames p l = neither _ _ (neither _ _ (c.deep_enough p l)).0

  within : (p : ℕ) → p ≤ e → length (stack_at code p) ≤ limit
  unfolding bad_depth stack_at
  within zero l = omega arith
  within (suc p) l = ltb-false limit (length (stack_at code (suc p))) (neither (lacks_at code p) _ (c.deep_enough p (omega arith))).1

  ends_empty : stack_at code e ≡ []
  unfolding left_over
  ends_empty =
      nothing (stack_at code e)
      (ltb-false 0 _
      (sym (ap (λ (b : Bool). b && ltb 0 (length (stack_at code e))) (eq-eqb e e refl)) ∙ c.empty_at_end))

  lands : (p : ℕ) → p < e → (a : Bool) → Lands e code (move (code p) p a (stack_at code p))
  unfolding bad_target bad_stack stack_at
  lands p l true =
      let k = has_frames p (omega arith) in
      yes_lands e code p l (code p) k.0 k.1 refl (c.right_target p (omega arith)) (c.right_stack p (omega arith))
  lands p l false = record { to = suc p; inside = l; same = no_goes (code p) p (stack_at code p) (has_frames p (omega arith)).0 }

  stands_step : (s : State) → Stands e code s → (a : Bool) → Stands e code (step e code s a)
  unfolding step land
  stands_step s h a = ⊎_elim halted on (eq-or-lt_of_le h.inside)
    where
      halted : s.at ≡ e → Stands e code (step e code s a)
      halted q =
          rw (h.no_fault, le-ltb e s.at (omega arith), eq-eqb s.at e q)
          record { no_fault = refl; inside = h.inside; same = h.same }

      on : s.at < e → Stands e code (step e code s a)
      on l =
          let z = lands s.at l a in
          rw (h.no_fault, le-ltb e s.at (omega arith), ne_eqb s.at e (omega arith), h.same, z.same)
          record { no_fault = refl; inside = z.inside; same = refl }

  stands_walk : (s : State) → Stands e code s → (answers : List Bool) → Stands e code (walk e code s answers)
  unfolding walk
  stands_walk s h [] = h
  stands_walk s h (a ∷ rest) = stands_walk (step e code s a) (stands_step s h a) rest

  -- demand 3's part: whatever the answers
  pub walk_sound : (answers : List Bool) → Sound limit e code (walk e code start answers)
  unfolding stack_at
  walk_sound answers =
      let h = stands_walk start (record { no_fault = refl; inside = omega arith; same = refl }) answers in
      let s = walk e code start answers in
      record {
        no_fault = h.no_fault;
        inside = h.inside;
        same_stack_lem = h.same;
        not_deep = subst (λ (k : Stack). length k ≤ limit) (sym h.same) (within s.at h.inside);
        halted_empty = λ q. h.same ∙ ap (stack_at code) q ∙ ends_empty;
        goes_on = λ n a. let k = stands_step s h a in (k.no_fault, k.inside);
      }
