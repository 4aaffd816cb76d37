-- Demand 3: the walk of an accepted pack, along any list of answers, is safe. The flow of control is `walk`'s part; here is what lies at
-- each place of the section. Assumes nothing.
use mathlib.Core.Path.{◌≡◌, refl, sym, ap, ◌∙◌}
use mathlib.Core.Bool.{Bool, true, false, true≢false}
use mathlib.Core.List.Memᴰ
use mathlib.Core.List.{List, [], ◌∷◌, ◌++◌, Memᴰ}
use mathlib.Core.Logic.{◌⊎◌, inl, inr, ⊎_elim}
use Prim.Native.Nat.{ℕ, zero, suc, ◌+◌, ◌*◌, ◌/◌, ◌≤◌, ◌<◌}
use native.Mathlib.Omega.{arith}
use native.Mathlib.Nat.{eq-or-lt_of_le, le_refl, le_step}
use Rattle.std.specs.Prelude.{Option, Some, None}
use lib.Dec.{ltb}
use lib.ListN.{length}
use borrow.Author.Tests.{ltb-true, ltb-false, le-leb}
use Rattle.laws.proofs.OfTests.{by_test_lem}
use Rattle.units.specs.declared.Quadwords.{Quadwords}
use Rattle.units.specs.declared.Slots.{Slots}
use Rattle.units.specs.Units.{quadwords, words, low_at, high_at, slots_length, fetches_length, lies_in}
use Rattle.checks.specs.Verdict.{Accepted}
use Rattle.checks.specs.Checks.{first_broken, below}
use Rattle.checks.proofs.OfChecks.{first_clean, rest_clean, left_clean, right_clean, below_each}
use Rattle.card.specs.declared.Card.{Card}
use Rattle.card.specs.Card.{figure_tests}
use Rattle.grants.specs.Grants.{Name, granted}
use Rattle.fetches.specs.Fetches as fetches
use Rattle.fetches.proofs.OfClause as of-fetches
use Rattle.clauses.specs.Clause as alu
use Rattle.clauses.proofs.OfNames as of-alu
use Rattle.opcodes.specs.declared.cf.FetchKind.{FetchKind}
use Rattle.opcodes.specs.declared.cf.Control.{Control}
use Rattle.opcodes.specs.declared.cf.Control.TheVariants.{NotTaken}
use Rattle.section.specs.declared.Clause.{Clause}
use Rattle.section.specs.declared.Clause.TheVariants.{Alu, Fetch}
use Rattle.section.specs.Control.{control_at, end_of}
use Rattle.section.specs.Rules.{is_not_taken, clause_at, range_of, bad_range, export_names}
use Rattle.section.proofs.OfEnd.{ends_at}
use Rattle.section.proofs.OfRules.{length_right, inside, each_export_granted}
use Rattle.apart.specs.Apart.{start_of, length_of, odd_fetch, SameOrDisjoint}
use Rattle.apart.proofs.OfApart.{not_half, other_way}
use Rattle.walk.specs.Flow.{flow_at}
use Rattle.walk.specs.Rules.{stack_checks, second_checks}
use Rattle.walk.specs.Walk.{State, start, walk}
use Rattle.walk.proofs.OfWalk.{Sound, clean_passes, walk_sound}
use Rattle.judge.specs.Judge.{line_checks, limits_with, limits_in, clause_checks, pair_checks, first_checks, passes, checks, judgement}
use Rattle.judge.proofs.OfPairs.{RangeKept, InsideKept, pair_range, pair_inside}
use Rattle.judge.proofs.OfLayout.{pair_layout}
use Rattle.judge.specs.Safe.{LiesBehind, IsFilled, names_below, names_of_each, clause_names, names_at, FirstEnd, Safe, Safely}

-- ---- a name in a list of names

in_joined : {x : Name} (a b : List Name) → Memᴰ x (a ++ b) → Memᴰ x a ⊎ Memᴰ x b
in_joined [] b m = inr m
in_joined (n ∷ a) b m =
    ⊎_elim (λ e. inl (Memᴰ.head e)) (λ t. ⊎_elim (λ l. inl (Memᴰ.tail l)) (λ r. inr r) (in_joined a b t))
    (Memᴰ.cases_cons m)

module _ {P : Name → Type 0} where
  each_below :
      (f : ℕ → List Name) (n : ℕ) → ((i : ℕ) → i < n → (x : Name) → Memᴰ x (f i) → P x) → (x : Name)
      → Memᴰ x (names_below f n) → P x
  unfolding names_below
  each_below f zero h x m = absurd (Memᴰ.not-nil m)
  each_below f (suc n) h x m =
      ⊎_elim (λ a. each_below f n (λ i l. h i (le_step l)) x a) (λ b. h n (le_refl (suc n)) x b)
      (in_joined (names_below f n) (f n) m)

  each_of_lem :
      (f : Slots → List Name) (gs : List Slots) → ((g : Slots) → Memᴰ g gs → (x : Name) → Memᴰ x (f g) → P x) → (x : Name)
      → Memᴰ x (names_of_each f gs) → P x
  unfolding names_of_each
  each_of_lem f [] h x m = absurd (Memᴰ.not-nil m)
  each_of_lem f (g ∷ gs) h x m =
      ⊎_elim (λ a. h g (Memᴰ.head refl) x a) (λ b. each_of_lem f gs (λ k t. h k (Memᴰ.tail t)) x b)
      (in_joined (f g) (names_of_each f gs) m)

-- ---- what rules 4 and 6 let through

taken_number : (c : Control) → is_not_taken c ≡ false → c ≡ NotTaken → ⊥
unfolding is_not_taken
taken_number c h e = true≢false (sym (ap is_not_taken e) ∙ h)

lies_behind :
    (e : ℕ) (quads : Quadwords) (m : ℕ) → m ≡ 2 * quads.0 → (k : Option Clause) → bad_range (quadwords e) quads k ≡ false
    → LiesBehind e m k
unfolding bad_range
lies_behind e quads m q None h = tt
lies_behind e quads m q (Some (Alu s n push mode0 mode1)) h =
    let r = inside (quadwords e) quads (range_of (Alu s n push mode0 mode1)) h in (r.0, omega (arith, r.1))
lies_behind e quads m q (Some (Fetch s n kind)) h =
    let r = inside (quadwords e) quads (range_of (Fetch s n kind)) h in (r.0, omega (arith, r.1))

-- ---- a place of the section whose checks are unbroken

-- the clause that is asked about lies in the buffer
module _ (w : List ℕ) (e : ℕ) (s : Quadwords) (n : Slots) where
  alu_inside :
      (push : Bool) (mode0 mode1 : ℕ) → LiesBehind e (length w) (Some (Alu s n push mode0 mode1))
      → lies_in (words (length w)) s (slots_length n) ≡ true
  unfolding lies_in
  alu_inside push mode0 mode1 l = le-leb (s.0 + n.0) (length w / 2) (omega (arith, l.1))

  fetches_inside :
      (kind : FetchKind) → LiesBehind e (length w) (Some (Fetch s n kind)) → lies_in (words (length w)) s (fetches_length n) ≡ true
  unfolding lies_in
  fetches_inside kind l = le-leb (s.0 + 2 * n.0) (length w / 2) (omega (arith, l.1))

module _ (card : Card) (w : List ℕ) (e p : ℕ) where
  in_clause :
      (k : Option Clause) → LiesBehind e (length w) k → first_broken (clause_checks card w (quadwords p) k) ≡ Accepted → (x : Name)
      → Memᴰ x (clause_names w k) → granted (limits_in card k) x ≡ true
  unfolding clause_names clause_checks
  in_clause None l h = λ x m. absurd (Memᴰ.not-nil m)
  in_clause (Some (Alu s n push mode0 mode1)) l h =
      each_of_lem (λ g. names_below (alu.named_at w s g) (alu.size_at w s n g)) (alu.groups_of w s n)
      (λ g t.
      each_below (alu.named_at w s g) (alu.size_at w s n g)
      (of-alu.accepted_granted card.kind push (limits_with card mode0 mode1) w (quadwords p) s n
      (alu_inside w e s n push mode0 mode1 l) h g t))
  in_clause (Some (Fetch s n kind)) l h =
      each_below (fetches.named_at kind w s) n.0
      (of-fetches.accepted_granted kind (limits_with card 0 0) w (quadwords p) s n (fetches_inside w e s n kind l) h)

  filled :
      (k : Option Clause) → LiesBehind e (length w) k → first_broken (clause_checks card w (quadwords p) k) ≡ Accepted → IsFilled w k
  unfolding clause_checks
  filled None l h = tt
  filled (Some (Alu s n push mode0 mode1)) l h =
      of-alu.accepted_filled card.kind push (limits_with card mode0 mode1) w (quadwords p) s n
      (alu_inside w e s n push mode0 mode1 l) h
  filled (Some (Fetch s n kind)) l h = tt

  -- the card's figures are granted whatever the clause
  same_gprs : (k : Option Clause) → (limits_in card k).gprs ≡ card.gprs
  same_gprs None = refl
  same_gprs (Some (Alu s n push mode0 mode1)) = refl
  same_gprs (Some (Fetch s n kind)) = refl

  module _ (whole : length w ≡ 2 * card.quads.0) (r : RangeKept card w e p) (i : InsideKept card w p) where
    pub place-taken : control_at w p ≡ NotTaken → ⊥
    place-taken = taken_number (control_at w p) r.taken

    pub place-behind : LiesBehind e (length w) (clause_at w p)
    place-behind = lies_behind e card.quads (length w) whole (clause_at w p) r.range

    pub place-filled : IsFilled w (clause_at w p)
    place-filled = filled (clause_at w p) place-behind i.clause

    pub place-granted : (x : Name) → Memᴰ x (names_at w p) → granted (limits_in card (clause_at w p)) x ≡ true
    unfolding names_at
    place-granted x m =
        ⊎_elim
        (each_export_granted (control_at w p) card.kind (limits_in card (clause_at w p)) card.gprs (low_at w p) (high_at w p)
        (same_gprs (clause_at w p)) i.exported x)
        (in_clause (clause_at w p) place-behind i.clause x)
        (in_joined (export_names (control_at w p) (low_at w p) (high_at w p)) (clause_names w (clause_at w p)) m)

-- ---- the walk

-- what an accepted pack's checks say
record Judged (card : Card) (w : List ℕ) : Type 0 where
  whole : length w ≡ 2 * card.quads.0
  end : FirstEnd w (end_of w)
  first : (p : ℕ) → p ≤ end_of w → first_broken (first_checks card w (end_of w) p) ≡ Accepted
  second : first_broken (below (second_checks (end_of w) (flow_at w)) (suc (end_of w))) ≡ Accepted

judged : (card : Card) (w : List ℕ) → judgement card w ≡ Accepted → Judged card w
unfolding judgement checks passes
judged card w h =
    let rest = right_clean (line_checks (figure_tests card)) _ h in
    let both = rest_clean _ _ (rest_clean _ _ rest) in
    let e : ℕ = end_of w in
    record {
      whole = length_right w card.quads (first_clean _ _ rest);
      end =
          let z = ends_at w (first_clean _ _ (rest_clean _ _ rest)) in record { is_an_end = z.is_an_end; none_earlier = z.is-first };
      first =
          λ p l.
          below_each (first_checks card w e) (suc e) p (left_clean (below (first_checks card w e) (suc e)) _ both) (omega arith);
      second = right_clean (below (first_checks card w e) (suc e)) _ both;
    }

module _ (card : Card) (w : List ℕ) (j : Judged card w) where
  pair_clean : (p : ℕ) → p ≤ end_of w → first_broken (pair_checks card w (end_of w) p) ≡ Accepted
  unfolding first_checks
  pair_clean p l = left_clean (pair_checks card w (end_of w) p) _ (j.first p l)

  stack_clean : (p : ℕ) → p ≤ end_of w → first_broken (stack_checks card.stack (end_of w) (flow_at w) p) ≡ Accepted
  unfolding first_checks
  stack_clean p l = right_clean (pair_checks card w (end_of w) p) _ (j.first p l)

  safe_at : (s : State) → Sound card.stack (end_of w) (flow_at w) s → Safe card w s
  safe_at s k =
      let r = pair_range card w (end_of w) s.at (pair_clean s.at k.inside) in
      let i = pair_inside card w (end_of w) s.at (pair_clean s.at k.inside) in
      record {
        no_fault = k.no_fault;
        has_end = j.end;
        inside = k.inside;
        number_is_taken = place-taken card w (end_of w) s.at j.whole r i;
        clause_behind = place-behind card w (end_of w) s.at j.whole r i;
        clause_filled = place-filled card w (end_of w) s.at j.whole r i;
        names_are_granted = place-granted card w (end_of w) s.at j.whole r i;
        not_deep = k.not_deep;
        goes_on = k.goes_on;
        halted_empty = k.halted_empty;
      }

  safely : Safely card w
  safely answers =
      safe_at (walk (end_of w) (flow_at w) start answers)
      (walk_sound card.stack (end_of w) (flow_at w) (clean_passes card.stack (end_of w) (flow_at w) stack_clean j.second) answers)

-- an accepted pack's walk is safe
pub accepted_safely : (card : Card) (w : List ℕ) → judgement card w ≡ Accepted → Safely card w
accepted_safely card w h = safely card w (judged card w h)

-- ---- what rule 22 adds: of an accepted pack's clauses two are the same range or disjoint, and those of fetches start at even quadwords

module _ (card : Card) (w : List ℕ) (h : judgement card w ≡ Accepted) where
  pub accepted_even : (p : ℕ) → p ≤ end_of w → odd_fetch (clause_at w p) ≡ false
  accepted_even p l = (pair_layout card w (end_of w) p (pair_clean card w (judged card w h) p l)).even

  earlier_apart : (q p : ℕ) → q < p → p ≤ end_of w → SameOrDisjoint (clause_at w q) (clause_at w p)
  earlier_apart q p k l =
      not_half (clause_at w q) (clause_at w p) ((pair_layout card w (end_of w) p (pair_clean card w (judged card w h) p l)).apart q k)

  pub accepted_apart : (p q : ℕ) → p ≤ end_of w → q ≤ end_of w → SameOrDisjoint (clause_at w p) (clause_at w q)
  accepted_apart p q l m =
      by_test_lem (ltb p q) (λ e. earlier_apart p q (ltb-true p q e) m)
      (λ e.
      ⊎_elim (λ same. inl (ap (λ (j : ℕ). (start_of (clause_at w j)).0) (sym same), ap (λ (j : ℕ). (length_of (clause_at w j)).0) (sym same)))
      (λ k. other_way (clause_at w q) (clause_at w p) (earlier_apart q p k l)) (eq-or-lt_of_le (ltb-false p q e)))
