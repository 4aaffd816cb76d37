-- What a group comes to, from all that was read of it, and what that says of the clause. Assumes nothing.
use Rattle.std.proofs.Common.{◌≡◌, ℕ, ◌+◌, ◌-◌, ◌^◌, ◌<◌, ◌≤◌, Bool, true, false, cond, not, ◌&&◌, eqb, ltb, List, Option, Some, None, Ok, Err, sym, refl, ap, ◌∙◌, subst, true≢false, arith, ltb-false, ltb-true, eq-eqb, ne_eqb, zero, suc}
use lib.Dec.{eqb-suc-zero}
use mathlib.Core.Bool.{false≢true}
use Rattle.std.proofs.lemmas.Bool.Decides.{nat_tests}
use Rattle.std.specs.Ordering.{is_le, nat_cmp}
use Rattle.units.specs.declared.Quadwords.{Quadwords}
use Rattle.units.specs.declared.Slots.{Slots}
use Rattle.units.specs.Units.{slots, slot_quadword, slot_behind, slots_left}
use Rattle.units.specs.Code.{slots_in_64}
use Rattle.units.proofs.OfUnits.{capped_exact}
use Rattle.checks.specs.declared.Place.TheVariants.{Quadword}
use Rattle.checks.specs.Verdict.{Verdict, Accepted, Refused}
use Rattle.checks.specs.Checks.{first_broken}
use Rattle.opcodes.specs.declared.alu.Issue.TheVariants.{Predicate}
use Rattle.grants.specs.declared.Limits.{Limits}
use Rattle.groups.specs.declared.counts.Count.{Count}
use Rattle.groups.specs.declared.counts.Count.TheVariants.{Nothing}
use Rattle.groups.specs.declared.GroupFault.{GroupFault}
use Rattle.groups.specs.Group.{issued}
use Rattle.groups.specs.Code.{count_of, issues_of, seen_of, Outcome, Clean, fault_of}
use Rattle.groups.proofs.OfGroup.{FaultIn, fault_in}
use Rattle.clauses.specs.declared.Group.{Group}
use Rattle.clauses.specs.declared.Passed.{Passed}
use Rattle.clauses.specs.Clause.{low_of, high_of, size_of, span_of, bad_shape, size_at, span_at, groups_of, may_kill, checks_of}
use Rattle.clauses.specs.CodeRead.{group_of, ends_clause, Step, Unshaped, step_by, step_of}
use Rattle.clauses.proofs.OfRead.{size_few, bad_size, bad_span, good, shaped}
use Rattle.clauses.proofs.OfClause.{Along, along-bad, along-fault, along-next}

-- ---- the parts of a group that may be there, and of a step

abbrev is_some : Option Group → Bool
is_some None = false
is_some (Some group) = true

some_same : {a b : Group} → Some a ≡ Some b → a ≡ b
some_same h = cc

-- a group with no slot left behind it ends its clause
ends-by : (left span : ℕ) → is_le (nat_cmp left span) ≡ not (ltb span left)
ends-by left span = grind (arith, nat_tests)

abbrev is_passed : Step → Bool
is_passed (Ok passed) = true
is_passed (Err fault) = false

abbrev span_in : Step → Slots
span_in (Ok passed) = passed.span
span_in (Err fault) = slots 0

abbrev count_in : Step → Count
count_in (Ok passed) = passed.setters
count_in (Err fault) = Nothing

abbrev behind_in : Step → Slots
behind_in (Ok passed) = slots 0
behind_in (Err fault) = fault.behind

module _ (limits : Limits) (pixel : Bool) (w : List ℕ) (at : Quadwords) (left : Slots) where
  abbrev fault_of_lem : Outcome
  fault_of_lem =
      fault_of (seen_of limits (low_of w at) (high_of w at) (size_of w at left)) (size_of w at left) (pixel && ends_clause left (span_of w at left))

  abbrev count_of_lem : Count
  count_of_lem = count_of (issued Predicate (high_of w at) (size_of w at left))

  broken_shape : bad_shape w at left ≡ true → Unshaped ≡ step_of limits pixel w at left
  unfolding step_of
  broken_shape h = rw h

  by_fault :
      bad_shape w at left ≡ false → {x : Outcome} → x ≡ fault_of_lem → {s : Slots} → s ≡ span_of w at left → {c : Count} → c ≡ count_of_lem
      → step_by x s c ≡ step_of limits pixel w at left
  unfolding step_of
  by_fault h {x} f {s} e {c} g = (λ i. step_by (f i) (e i) (g i)) ∙ rw h

  -- the group of k instructions
  abbrev read_of : ℕ → Group
  read_of k = record { size = slots k; seen = seen_of limits (low_of w at) (high_of w at) k }

  abbrev read_if : ℕ → Option Group
  read_if k = cond (eqb k 0) None (Some (read_of k))

  read_some : (k : ℕ) → Some (read_of (suc k)) ≡ read_if (suc k)
  read_some k = rw (eqb-suc-zero k)

  -- no group of a size
  pub step-no-size : {found : Option Group} → found ≡ group_of limits w at left → found ≡ None → Unshaped ≡ step_of limits pixel w at left
  unfolding group_of
  step-no-size e h = broken_shape (bad_size w at left (by (size_of w at left) (sym e ∙ h)))
    where
      by : (k : ℕ) → read_if k ≡ None → k ≡ 0
      by zero h = refl
      by (suc k) h = absurd (true≢false (ap is_some (read_some k ∙ h)))

  -- a group that was read
  module _ {group : Group} (e : Some group ≡ group_of limits w at left) where
    parts : (0 < size_of w at left) × (group ≡ read_of (size_of w at left))
    unfolding group_of
    parts = by (size_of w at left) (sym e)
      where
        by : (k : ℕ) → read_if k ≡ Some group → (0 < k) × (group ≡ read_of k)
        by zero h = absurd (false≢true (ap is_some h))
        by (suc k) h = (omega arith, some_same (sym h ∙ sym (read_some k)))

    abbrev whole : Slots
    whole = slot_behind group.size (slots group.seen.literals)

    size_is : group.size.0 ≡ size_of w at left
    size_is = ap (λ (x : Group). x.size.0) parts.1

    span-is : whole ≡ span_of w at left
    unfolding span_of seen_of
    span-is = ap (λ (x : Group). slot_behind x.size (slots x.seen.literals)) parts.1

    count-is : group.seen.issues.setters ≡ count_of_lem
    unfolding seen_of issues_of
    count-is = ap (λ (x : Group). x.seen.issues.setters) parts.1

    -- its slots, as the code adds them up
    module _ (few : group.seen.literals < 2 ^ 32) {span : Slots} (k : span ≡ slots_in_64 whole) where
      span-exact : span ≡ span_of w at left
      span-exact =
          k
          ∙ ap slots (capped_exact (group.size.0 + group.seen.literals) (omega (arith, few, size_is, (size_few w at left).0)))
          ∙ span-is

      pub step-too-long : left.0 < span.0 → Unshaped ≡ step_of limits pixel w at left
      step-too-long f = broken_shape (bad_span w at left (omega (arith, f, ap (λ (x : Slots). x.0) span-exact)))

      module _ (f : span.0 ≤ left.0) {p b : Bool} (p-is : p ≡ pixel) (b-is : b ≡ is_le (nat_cmp left.0 span.0)) {x : Outcome}
          (y : x ≡ fault_of group.seen group.size.0 (p && b)) where
        read-fault : step_by x span group.seen.issues.setters ≡ step_of limits pixel w at left
        read-fault =
            by_fault
            (good w at left (λ z. absurd (omega (arith, z, parts.0))) (omega (arith, f, ap (λ (x : Slots). x.0) span-exact)))
            (y ∙ (λ i. fault_of (parts.1 i).seen (parts.1 i).size.0 (p-is i && (b-is ∙ ends-by left.0 span.0 ∙ (λ j. ends_clause left (span-exact j))) i)))
            span-exact count-is

        pub step-broken : {broken : GroupFault} → x ≡ Err broken → Err broken ≡ step_of limits pixel w at left
        step-broken q = ap (λ (z : Outcome). step_by z span group.seen.issues.setters) (sym q) ∙ read-fault

        pub step-passed : x ≡ Clean → Ok (record { span = span; setters = group.seen.issues.setters }) ≡ step_of limits pixel w at left
        step-passed q = ap (λ (z : Outcome). step_by z span group.seen.issues.setters) (sym q) ∙ read-fault

  -- ---- how far a step goes

  module _ {x : Step} (e : x ≡ step_of limits pixel w at left) where
    -- a group that passes takes at least one slot, and none behind those left
    pub passed-few : {p : Passed} → x ≡ Ok p → (0 < p.span.0) × (p.span.0 ≤ left.0)
    unfolding step_of span_of
    passed-few {p = p} q = by (bad_shape w at left) refl fault_of_lem (sym e ∙ q)
      where
        by :
            (t : Bool) → bad_shape w at left ≡ t → (y : Outcome)
            → cond t Unshaped (step_by y (span_of w at left) count_of_lem) ≡ Ok p → (0 < p.span.0) × (p.span.0 ≤ left.0)
        by true f y h = absurd (false≢true (ap is_passed h))
        by false f (Err broken) h = absurd (false≢true (ap is_passed h))
        by false f Clean h =
            let z : (span_of w at left).0 ≡ p.span.0 = ap (λ (k : Step). (span_in k).0) h in
            let g = shaped w at left f in
            (omega (arith, z, g.0), omega (arith, z, g.1))

    -- a fault shows among them
    pub broken-few : {b : GroupFault} → x ≡ Err b → b.behind.0 ≤ left.0
    unfolding step_of
    broken-few {b = b} q =
        by (bad_shape w at left) fault_of_lem
        (fault_in limits (pixel && ends_clause left (span_of w at left)) (low_of w at) (high_of w at) (size_of w at left)) (sym e ∙ q)
      where
        by :
            (t : Bool) (y : Outcome) → FaultIn (size_of w at left) y
            → cond t Unshaped (step_by y (span_of w at left) count_of_lem) ≡ Err b → b.behind.0 ≤ left.0
        by true y f h = let z : 0 ≡ b.behind.0 = ap (λ (k : Step). (behind_in k).0) h in omega (arith, z)
        by false (Err broken) f h =
            let z : broken.behind.0 ≡ b.behind.0 = ap (λ (k : Step). (behind_in k).0) h in omega (arith, z, f, (size_few w at left).1)
        by false Clean f h = absurd (true≢false (ap is_passed h))

-- ---- the clause

-- a group with no slot left behind it ends its clause
same_end : (n g span : Slots) → g.0 < n.0 → span.0 ≤ n.0 - g.0 → ends_clause (slots_left n g) span ≡ eqb (g.0 + span.0) n.0
same_end n g span l m = by (ltb span.0 (n.0 - g.0)) refl
  where
    by : (t : Bool) → ltb span.0 (n.0 - g.0) ≡ t → not t ≡ eqb (g.0 + span.0) n.0
    by true e = sym (ne_eqb (g.0 + span.0) n.0 (λ z. absurd (omega (arith, z, ltb-true span.0 (n.0 - g.0) e))))
    by false e = sym (eq-eqb (g.0 + span.0) n.0 (omega (arith, l, m, ltb-false span.0 (n.0 - g.0) e)))

module _ (pixel : Bool) (limits : Limits) (w : List ℕ) (place s : Quadwords) (n : Slots) {passed : ℕ} {g : Slots}
    (a : Along pixel limits w place s n passed g) (l : g.0 < n.0) {x : Step}
    (e : x ≡ step_of limits pixel w (slot_quadword s g) (slots_left n g)) where
  abbrev fault_here : Outcome
  fault_here = fault_of_lem limits pixel w (slot_quadword s g) (slots_left n g)

  fault_is :
      bad_shape w (slot_quadword s g) (slots_left n g) ≡ false
      → fault_here ≡ fault_of (seen_of limits (low_of w (slot_quadword s g)) (high_of w (slot_quadword s g)) (size_at w s n g)) (size_at w s n g) (may_kill pixel n (slot_behind g (span_at w s n g)))
  fault_is h =
      ap
      (λ (b : Bool). fault_of (seen_of limits (low_of w (slot_quadword s g)) (high_of w (slot_quadword s g)) (size_at w s n g)) (size_at w s n g) (pixel && b))
      (same_end n g (span_at w s n g) l (shaped w (slot_quadword s g) (slots_left n g) h).1)

  abbrev verdict_of : Step → Verdict
  verdict_of (Ok passed) = Accepted
  verdict_of (Err fault) = Refused fault.rule (Quadword place) (slot_behind g fault.behind)

  -- a group that breaks a rule is the clause's answer
  pub along_broken :
      {b : GroupFault} → x ≡ Err b
      → first_broken (checks_of pixel limits w place s n (groups_of w s n)) ≡ Refused b.rule (Quadword place) (slot_behind g b.behind)
  unfolding step_of
  along_broken {b = b} q = by (bad_shape w (slot_quadword s g) (slots_left n g)) refl fault_here refl (sym e ∙ q)
    where
      by :
          (t : Bool) → bad_shape w (slot_quadword s g) (slots_left n g) ≡ t → (y : Outcome) → fault_here ≡ y
          → cond t Unshaped (step_by y (span_at w s n g) (count_of_lem limits pixel w (slot_quadword s g) (slots_left n g))) ≡ Err b
          → first_broken (checks_of pixel limits w place s n (groups_of w s n)) ≡ Refused b.rule (Quadword place) (slot_behind g b.behind)
      by true f y k h =
          let z : g.0 ≡ g.0 + 0 = omega arith in
          along-bad pixel limits w place s n a l f
          ∙ ap (λ (m : ℕ). Refused 10 (Quadword place) (slots m)) z
          ∙ ap verdict_of h
      by false f Clean k h = absurd (true≢false (ap is_passed h))
      by false f (Err broken) k h =
          along-fault pixel limits w place s n a l f (sym k ∙ fault_is f) refl
          ∙ ap verdict_of h

  -- the setters of this group
  abbrev own_setters : ℕ
  own_setters = issued Predicate (high_of w (slot_quadword s g)) (size_at w s n g)

  -- one that breaks none leads to the next
  pub along_passed :
      {p : Passed} {next : Slots} → x ≡ Ok p → next ≡ slot_behind g p.span
      → Along pixel limits w place s n (passed + own_setters) next × (p.setters ≡ count_of own_setters)
  unfolding step_of
  along_passed {p = p} {next = next} q d =
      by (bad_shape w (slot_quadword s g) (slots_left n g)) refl fault_here refl (sym e ∙ q)
    where
      by :
          (b : Bool) → bad_shape w (slot_quadword s g) (slots_left n g) ≡ b → (y : Outcome) → fault_here ≡ y
          → cond b Unshaped (step_by y (span_at w s n g) (count_of_lem limits pixel w (slot_quadword s g) (slots_left n g))) ≡ Ok p
          → Along pixel limits w place s n (passed + own_setters) next × (p.setters ≡ count_of own_setters)
      by true f y k h = absurd (false≢true (ap is_passed h))
      by false f (Err broken) k h = absurd (false≢true (ap is_passed h))
      by false f Clean k h =
          (subst (Along pixel limits w place s n (passed + own_setters)) (ap (λ (v : Step). slot_behind g (span_in v)) h ∙ sym d) (along-next pixel limits w place s n a l f (sym k ∙ fault_is f) refl), sym (ap count_in h))
