-- A clause, group by group: the groups passed break nothing, so the verdict is that of the groups left. Assumes nothing.
use Rattle.std.proofs.Common.{◌≡◌, ℕ, zero, suc, ◌+◌, ◌-◌, ◌<◌, ◌≤◌, Bool, true, false, cond, not, ◌&&◌, ◌||◌, eqb, List, [], ◌∷◌, ◌++◌, length, Err, sym, refl, ap, ◌∙◌, arith, le-ltb, lt-ltb}
use mathlib.Core.Bool.{false≢true}
use Rattle.units.specs.declared.Quadwords.{Quadwords}
use Rattle.units.specs.declared.Slots.{Slots}
use Rattle.units.specs.Units.{words, slots, slot_quadword, slot_behind, slots_left, slots_length, lies_in}
use Rattle.checks.specs.declared.Place.TheVariants.{Quadword}
use Rattle.checks.specs.Verdict.{Verdict, Accepted, Refused}
use Rattle.checks.specs.Checks.{check, first_broken}
use Rattle.checks.proofs.OfChecks.{hit, miss, and_then_lem, joined, joined_clean, joined_refused}
use Rattle.card.specs.declared.Kind.{Kind}
use Rattle.opcodes.specs.declared.alu.Issue.TheVariants.{Predicate}
use Rattle.grants.specs.declared.Limits.{Limits}
use Rattle.groups.specs.declared.GroupFault.{GroupFault}
use Rattle.groups.specs.Group.{issued, rule_checks}
use Rattle.groups.specs.Code.{count_of, is_one, seen_of, Outcome, Clean, fault_of}
use Rattle.groups.proofs.OfGroup.{counts_one, answer, group_answer}
use Rattle.clauses.specs.Clause.{low_of, high_of, size_of, span_of, bad_shape, groups_from, groups_of, is_pixel, may_kill, group_checks, checks_of, setters_in, bad_push, clause_checks}
use Rattle.clauses.specs.CodeRead.{push_verdict}
use Rattle.clauses.proofs.OfRead.{shaped}

-- ---- PUSH_BEFORE's count

-- nothing is pushed, or there is one
pub push_one :
    (push : Bool) (passed : ℕ) (place : Quadwords) → (not push || eqb passed 1) ≡ true → Accepted ≡ push_verdict push (count_of passed) place
unfolding push_verdict
push_one push passed place h = by push (eqb passed 1) (counts_one passed) h
  where
    by : (push one : Bool) → is_one (count_of passed) ≡ one → (not push || one) ≡ true → Accepted ≡ cond (push && not (is_one (count_of passed))) (Refused 14 (Quadword place) (slots 0)) Accepted
    by false one e q = refl
    by true true e q = rw e
    by true false e q = absurd (false≢true q)

push_check :
    (push : Bool) (n : ℕ) (place : Quadwords)
    → push_verdict push (count_of n) place ≡ first_broken (check 14 (Quadword place) (slots 0) (bad_push push n) ∷ [])
unfolding push_verdict bad_push first_broken
push_check push n place = rw (counts_one n)

-- ---- the groups

module _ (pixel : Bool) (limits : Limits) (w : List ℕ) (place s : Quadwords) (n : Slots) where
  abbrev size : Slots → ℕ
  size g = size_of w (slot_quadword s g) (slots_left n g)

  abbrev span : Slots → Slots
  span g = span_of w (slot_quadword s g) (slots_left n g)

  abbrev verdict : List Slots → Verdict
  verdict gs = first_broken (checks_of pixel limits w place s n gs)

  -- before slot g, where a group starts or the clause ends: the groups passed break nothing, and so many setters were counted
  pub record Along (passed : ℕ) (g : Slots) : Type 0 where
    pub within : g.0 ≤ n.0
    pub fuel : ℕ
    pub enough : n.0 - g.0 ≤ fuel
    pub total : setters_in w s n (groups_of w s n) ≡ passed + setters_in w s n (groups_from w s n fuel g)
    pub rest : verdict (groups_of w s n) ≡ verdict (groups_from w s n fuel g)

  pub along_none : Along 0 (slots 0)
  unfolding groups_of
  along_none =
      record {
        within = omega arith;
        fuel = n.0;
        enough = omega arith;
        total = let t : ℕ = setters_in w s n (groups_from w s n n.0 (slots 0)) in let e : t ≡ 0 + t = omega arith in e;
        rest = refl;
      }

  -- the groups from g on, where one starts there
  from_here :
      (g : Slots) (k : ℕ) → g.0 < n.0 → n.0 - g.0 ≤ k
      → groups_from w s n k g ≡ g ∷ cond (bad_shape w (slot_quadword s g) (slots_left n g)) [] (groups_from w s n (k - 1) (slot_behind g (span g)))
  unfolding groups_from
  from_here g zero l m = absurd (omega arith)
  from_here g (suc k) l m = let e : suc k - 1 ≡ k = omega arith in rw (lt-ltb g.0 n.0 l, e) refl

  module _ {passed : ℕ} {g : Slots} (a : Along passed g) (l : g.0 < n.0) where
    here :
        verdict (groups_of w s n) ≡ verdict
        (g ∷ cond (bad_shape w (slot_quadword s g) (slots_left n g)) [] (groups_from w s n (a.fuel - 1) (slot_behind g (span g))))
    here = a.rest ∙ ap verdict (from_here g a.fuel l a.enough)

    pub along-bad :
        bad_shape w (slot_quadword s g) (slots_left n g) ≡ true
        → verdict (groups_of w s n) ≡ Refused 10 (Quadword place) g
    unfolding checks_of group_checks
    along-bad h = here ∙ hit (check 10 (Quadword place) g (bad_shape w (slot_quadword s g) (slots_left n g))) _ h

    module _ (h : bad_shape w (slot_quadword s g) (slots_left n g) ≡ false) {fault : Outcome}
        (f : fault ≡ fault_of (seen_of limits (low_of w (slot_quadword s g)) (high_of w (slot_quadword s g)) (size g)) (size g) (may_kill pixel n (slot_behind g (span g)))) where
      -- past the shape: the group's rules, then the groups behind it
      past :
          verdict (groups_of w s n) ≡ and_then_lem (answer place g fault)
          (verdict (groups_from w s n (a.fuel - 1) (slot_behind g (span g))))
      unfolding checks_of group_checks
      past =
          here
          ∙ miss (check 10 (Quadword place) g (bad_shape w (slot_quadword s g) (slots_left n g))) _ h
          ∙ ap
          (λ (b : Bool). first_broken (rule_checks place g limits (may_kill pixel n (slot_behind g (span g))) (low_of w (slot_quadword s g)) (high_of w (slot_quadword s g)) (size g) ++ checks_of pixel limits w place s n (cond b [] (groups_from w s n (a.fuel - 1) (slot_behind g (span g))))))
          h
          ∙ joined
          (rule_checks place g limits (may_kill pixel n (slot_behind g (span g))) (low_of w (slot_quadword s g)) (high_of w (slot_quadword s g)) (size g))
          (checks_of pixel limits w place s n (groups_from w s n (a.fuel - 1) (slot_behind g (span g))))
          ∙ ap (λ (v : Verdict). and_then_lem v (verdict (groups_from w s n (a.fuel - 1) (slot_behind g (span g)))))
          (group_answer place g limits (may_kill pixel n (slot_behind g (span g))) (low_of w (slot_quadword s g)) (high_of w (slot_quadword s g)) (size g) ∙ ap (answer place g) (sym f))

      pub along-fault :
          {broken : GroupFault} → fault ≡ Err broken
          → verdict (groups_of w s n) ≡ Refused broken.rule (Quadword place) (slot_behind g broken.behind)
      along-fault q =
          past
          ∙ ap (λ (x : Outcome). and_then_lem (answer place g x) (verdict (groups_from w s n (a.fuel - 1) (slot_behind g (span g))))) q

      setters-here :
          setters_in w s n (groups_from w s n a.fuel g) ≡ issued Predicate (high_of w (slot_quadword s g)) (size g) + setters_in w
          s n (groups_from w s n (a.fuel - 1) (slot_behind g (span g)))
      unfolding setters_in
      setters-here =
          ap (setters_in w s n) (from_here g a.fuel l a.enough)
          ∙ ap
          (λ (b : Bool). issued Predicate (high_of w (slot_quadword s g)) (size g) + setters_in w s n (cond b [] (groups_from w s n (a.fuel - 1) (slot_behind g (span g)))))
          h

      pub along-next : fault ≡ Clean → Along (passed + issued Predicate (high_of w (slot_quadword s g)) (size g)) (slot_behind g (span g))
      along-next q =
          let room = shaped w (slot_quadword s g) (slots_left n g) h in
          record {
            within = omega (arith, room.1);
            fuel = a.fuel - 1;
            enough = omega (arith, a.enough, room.0);
            total = omega (arith, a.total, setters-here);
            rest =
                past
                ∙ ap
                (λ (x : Outcome). and_then_lem (answer place g x) (verdict (groups_from w s n (a.fuel - 1) (slot_behind g (span g)))))
                q;
          }

  none_left : (k : ℕ) (g : Slots) → n.0 ≤ g.0 → groups_from w s n k g ≡ []
  unfolding groups_from
  none_left zero g l = refl
  none_left (suc k) g l = rw (le-ltb g.0 n.0 l)

  -- ---- the whole clause

  module _ (kind : Kind) (push : Bool) (i : lies_in (words (length w)) s (slots_length n) ≡ true) (p : pixel ≡ is_pixel kind) where
    whole :
        first_broken (clause_checks kind push limits w place s n) ≡ first_broken
        (checks_of pixel limits w place s n (groups_of w s n) ++ (check 14 (Quadword place) (slots 0) (bad_push push (setters_in w s n (groups_of w s n))) ∷ []))
    unfolding clause_checks
    whole =
        rw i
        (λ j.
        first_broken
        (checks_of (sym p j) limits w place s n (groups_of w s n)
        ++ (check 14 (Quadword place) (slots 0) (bad_push push (setters_in w s n (groups_of w s n))) ∷ [])))

    pub clause-refused :
        {v : Verdict} {r : ℕ} {x : Slots} → verdict (groups_of w s n) ≡ Refused r (Quadword place) x
        → v ≡ Refused r (Quadword place) x → v ≡ first_broken (clause_checks kind push limits w place s n)
    clause-refused h e = e ∙ sym (whole ∙ joined_refused (checks_of pixel limits w place s n (groups_of w s n)) _ h)

    pub clause-done :
        {v : Verdict} {passed : ℕ} {g : Slots} → Along passed g → n.0 ≤ g.0 → v ≡ push_verdict push (count_of passed) place
        → v ≡ first_broken (clause_checks kind push limits w place s n)
    unfolding setters_in checks_of first_broken
    clause-done {passed = passed} {g = g} z l e =
        let last = none_left z.fuel g l in
        let seen : setters_in w s n (groups_of w s n) ≡ passed = z.total ∙ ap (λ (gs : List Slots). passed + setters_in w s n gs) last ∙ (omega arith) in
        e
        ∙ ap (λ (k : ℕ). push_verdict push (count_of k) place) (sym seen)
        ∙ push_check push (setters_in w s n (groups_of w s n)) place
        ∙ sym (whole ∙ joined_clean (checks_of pixel limits w place s n (groups_of w s n)) _ (z.rest ∙ ap verdict last))

pub outside :
    (kind : Kind) (push : Bool) (limits : Limits) (w : List ℕ) (place s : Quadwords) (n : Slots)
    → lies_in (words (length w)) s (slots_length n) ≡ false → Accepted ≡ first_broken (clause_checks kind push limits w place s n)
unfolding clause_checks first_broken
outside kind push limits w place s n h = rw h
