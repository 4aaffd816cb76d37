-- Where the loop over a clause's groups stands, by the first slot of the next group: in the buffer every number on the way is exact. Assumes
-- nothing.
use Rattle.std.proofs.Common.{◌≡◌, ℕ, ◌+◌, ◌-◌, ◌*◌, ◌^◌, ◌<◌, ◌≤◌, Bool, List, length, Ok, Err, refl, ap, ◌∙◌, arith}
use Rattle.units.specs.declared.Quadwords.{Quadwords}
use Rattle.units.specs.declared.Slots.{Slots}
use Rattle.units.specs.Units.{slots, slot_quadword, slot_behind, slots_left}
use Rattle.units.specs.Code.{slots_in_64}
use Rattle.units.proofs.OfUnits.{capped_exact}
use Rattle.checks.specs.declared.Place.TheVariants.{Quadword}
use Rattle.checks.specs.Verdict.{Verdict, Refused}
use Rattle.checks.specs.Checks.{first_broken}
use Rattle.card.specs.declared.Kind.{Kind}
use Rattle.grants.specs.declared.Limits.{Limits}
use Rattle.groups.specs.declared.counts.Count.{Count}
use Rattle.groups.specs.declared.counts.Count.TheVariants.{Nothing}
use Rattle.groups.specs.declared.GroupFault.{GroupFault}
use Rattle.groups.specs.Code.{count_of, together}
use Rattle.groups.proofs.OfGroup.{counted_together}
use Rattle.clauses.specs.declared.Passed.{Passed}
use Rattle.clauses.specs.Clause.{is_pixel, clause_checks}
use Rattle.clauses.specs.CodeRead.{Step, step_of, push_verdict}
use Rattle.clauses.proofs.OfRead.{reached}
use Rattle.clauses.proofs.OfClause.{Along, along_none, clause-refused, clause-done}
use Rattle.clauses.proofs.OfStep.{passed-few, broken-few, along_broken, along_passed}

module _ (kind : Kind) (limits : Limits) (w : List ℕ) (place s : Quadwords) (n : Slots) where
  -- the next group starts at slot g
  pub record Going (count : Count) (g : Slots) : Type 0 where
    pub passed : ℕ
    pub count-is : count ≡ count_of passed
    pub along : Along (is_pixel kind) limits w place s n passed g

  pub going_none : Going Nothing (slots 0)
  unfolding count_of
  going_none = record { passed = 0; count-is = refl; along = along_none (is_pixel kind) limits w place s n }

  module _ (h : length w < 2 ^ 64) (room : 2 * (s.0 + n.0) ≤ length w) {count : Count} {g : Slots} (a : Going count g) where
    -- behind the last group
    pub going_done :
        (push : Bool) {v : Verdict} → n.0 ≤ g.0 → v ≡ push_verdict push count place
        → v ≡ first_broken (clause_checks kind push limits w place s n)
    going_done push l f =
        clause-done (is_pixel kind) limits w place s n kind push (reached w s n room) refl a.along l
        (f ∙ ap (λ (k : Count). push_verdict push k place) a.count-is)

    module _ (l : g.0 < n.0) {step : Step} (f : step ≡ step_of limits (is_pixel kind) w (slot_quadword s g) (slots_left n g)) where
      -- a group that breaks a rule is the clause's answer
      pub going-broken :
          (push : Bool) {fault : GroupFault} {slot : Slots} {v : Verdict} → step ≡ Err fault → slot ≡ slots_in_64 (slot_behind g fault.behind)
          → v ≡ Refused fault.rule (Quadword place) slot → v ≡ first_broken (clause_checks kind push limits w place s n)
      going-broken push {fault = fault} q d e =
          let close = broken-few limits (is_pixel kind) w (slot_quadword s g) (slots_left n g) f q in
          clause-refused (is_pixel kind) limits w place s n kind push (reached w s n room) refl
          (along_broken (is_pixel kind) limits w place s n a.along l f q)
          (e ∙ ap (Refused fault.rule (Quadword place)) (d ∙ ap slots (capped_exact (g.0 + fault.behind.0) (omega (arith, close, room, h, l)))))

      -- one that breaks none leads to the next
      module _ {passed : Passed} (q : step ≡ Ok passed) {next : Slots} (d : next ≡ slots_in_64 (slot_behind g passed.span)) where
        exact : next ≡ slot_behind g passed.span
        exact =
            let k = passed-few limits (is_pixel kind) w (slot_quadword s g) (slots_left n g) f q in
            d ∙ ap slots (capped_exact (g.0 + passed.span.0) (omega (arith, k.1, room, h, l)))

        pub going_less : n.0 - next.0 < n.0 - g.0
        going_less =
            let k = passed-few limits (is_pixel kind) w (slot_quadword s g) (slots_left n g) f q in
            omega (arith, k.0, l, ap (λ (x : Slots). x.0) exact)

        pub going_next : {more : Count} → more ≡ together count passed.setters → Going more next
        going_next m =
            let there = along_passed (is_pixel kind) limits w place s n a.along l f q exact in
            record {
              passed = _;
              count-is = m ∙ (λ i. together (a.count-is i) (there.1 i)) ∙ counted_together a.passed _;
              along = there.0;
            }
