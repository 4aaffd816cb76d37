-- A group: what has been seen of it answers its checks, and an accepted one names only what is granted. Assumes nothing.
use mathlib.Core.Path.{◌≡◌, refl, sym, ap, ◌∙◌}
use mathlib.Core.Logic.{⊎_elim}
use mathlib.Core.Bool.{Bool, true, false, cond, not, ◌&&◌, ◌||◌, or-true, or-false, false≢true, true≢false}
use mathlib.Core.List.{List, [], ◌∷◌, ◌++◌, Memᴰ}
use Prim.Native.Nat.{ℕ, zero, suc, ◌+◌, ◌<◌, ◌≤◌}
use Rattle.std.specs.Prelude.{Option, Some, None, Err}
use native.Mathlib.Nat.{add-zero}
use native.Mathlib.Omega.{arith}
use lib.Dec.{eqb, ltb, eqb-zero-suc, eqb-suc-zero, eqb-suc-suc}
use borrow.Author.Tests.{not-false, lt-ltb}
use Rattle.units.specs.declared.Quadwords.{Quadwords}
use Rattle.units.specs.declared.Slots.{Slots}
use Rattle.units.specs.Units.{slots, slot_behind}
use Rattle.checks.specs.declared.Place.TheVariants.{Quadword}
use Rattle.checks.specs.Verdict.{Verdict, Accepted, Refused}
use Rattle.checks.specs.Checks.{Check, check, first_broken, below}
use Rattle.checks.proofs.OfChecks.{and_then_lem, joined, first_clean, rest_clean, right_clean, below_each}
use Rattle.formats.specs.Fields.{◌of◌, BANK_SWIZZLE}
use Rattle.opcodes.specs.declared.alu.Issue.{Issue}
use Rattle.opcodes.specs.declared.alu.Issue.TheVariants.{Plain, Predicate, Kill, Mova, Reduction}
use Rattle.opcodes.specs.Alu.{is_issue}
use Rattle.grants.specs.declared.Limits.{Limits}
use Rattle.grants.specs.Grants.{Name, granted, all_granted}
use Rattle.grants.proofs.OfGrants.{each_granted}
use Rattle.instructions.specs.Instruction.{class_of, bad_number, bad_field, has_relative, named}
use Rattle.groups.specs.Group.{PerInstruction, count_below, any_below, literals_below, units_before, unit_at, bad_unit_at, issued, bad_issue, each_of, rule_checks}
use Rattle.groups.specs.Code.{taken_by, taken_before, occupied, is_uneven, any_uneven, any_reduction, count_of, one_if, together, is_one, is_several, or_here, first_below, next_issues, issues_of, bad_issues, none_seen, next_seen, seen_of, Outcome, Clean, Broken, first_fault, fault_of}
use Rattle.groups.specs.Code as code
use Rattle.groups.proofs.OfBelow.{last_or_below}
use Rattle.groups.proofs.OfUnits.{unit_at_lem, bad_at}
use Rattle.groups.proofs.OfReduction.{same_reduction}

-- ---- counts

pub counted_together : (a b : ℕ) → together (count_of a) (count_of b) ≡ count_of (a + b)
unfolding count_of
counted_together zero b = let e : b ≡ zero + b = omega arith in ap count_of e
counted_together (suc zero) zero = refl
counted_together (suc zero) (suc zero) = refl
counted_together (suc zero) (suc (suc b)) = let e : suc (suc (suc b)) ≡ suc zero + suc (suc b) = omega arith in ap count_of e
counted_together (suc (suc a)) b = let e : suc (suc (a + b)) ≡ suc (suc a) + b = omega arith in ap count_of e

pub counted : (b : Bool) (n : ℕ) → together (count_of n) (one_if b) ≡ count_of (cond b (suc n) n)
unfolding count_of
counted true n = counted_together n 1 ∙ (let e : n + 1 ≡ suc n = omega arith in ap count_of e)
counted false n = counted_together n 0 ∙ (let e : n + 0 ≡ n = omega arith in ap count_of e)

pub counts_one : (n : ℕ) → is_one (count_of n) ≡ eqb n 1
unfolding count_of
counts_one zero = sym (eqb-zero-suc 0)
counts_one (suc zero) = refl
counts_one (suc (suc n)) = sym (eqb-suc-suc (suc n) 0 ∙ eqb-suc-zero n)

pub counts_several : (n : ℕ) → is_several (count_of n) ≡ ltb 1 n
unfolding count_of
counts_several zero = refl
counts_several (suc zero) = refl
counts_several (suc (suc n)) = sym (lt-ltb 1 (suc (suc n)) (omega arith))

-- two counts, of which one more at most
counted_one :
    (x y : Bool) → (x && y) ≡ false → (a b : ℕ) → together (count_of (a + b)) (one_if (x || y)) ≡ count_of (cond x (suc a) a + cond y (suc b) b)
counted_one true true h a b = absurd (true≢false h)
counted_one true false h a b = counted true (a + b) ∙ (let e : suc (a + b) ≡ suc a + b = omega arith in ap count_of e)
counted_one false y h a b = counted y (a + b) ∙ ap count_of (by y)
  where
    by : (y : Bool) → cond y (suc (a + b)) (a + b) ≡ a + cond y (suc b) b
    by true = let e : suc (a + b) ≡ a + suc b = omega arith in e
    by false = refl

-- some, where there were some or there is one more
some_more : (b : Bool) (n : ℕ) → (ltb 0 n || b) ≡ ltb 0 (cond b (suc n) n)
some_more true n = or-true (ltb 0 n) ∙ sym (lt-ltb 0 (suc n) (omega arith))
some_more false n = or-false (ltb 0 n)

-- ---- reading instruction by instruction

-- no instruction is both a predicate setter and a kill
one_kind : (i : Issue) → (is_issue i Predicate && is_issue i Kill) ≡ false
one_kind Plain = refl
one_kind Predicate = refl
one_kind Kill = refl
one_kind Mova = refl
one_kind Reduction = refl

module _ (limits : Limits) (lo hi : PerInstruction) where
  pub seen_none : none_seen ≡ seen_of limits lo hi 0
  unfolding seen_of literals_below first_below taken_by units_before issues_of issued any_reduction any_uneven count_below any_below count_of
  seen_none = refl

  pub seen_next : (j : ℕ) → next_seen limits (slots j) (hi 0) (lo j) (hi j) (seen_of limits lo hi j) ≡ seen_of limits lo hi (suc j)
  unfolding seen_of next_seen literals_below first_below taken_by units_before unit_at issues_of next_issues issued any_reduction any_uneven count_below any_below
  seen_next j =
      let kind = (class_of (hi j)).issue in
      λ i.
      record {
        literals = literals_below lo hi (suc j);
        numbers = first_below (λ k. bad_number (hi k)) (suc j);
        fields = first_below (λ k. bad_field (lo k) (hi k)) (suc j);
        units =
            or_here (first_below (bad_unit_at hi) j) (slots j)
            (((λ n. code.bad_unit (taken_before hi j) (unit_at_lem hi j n) (BANK_SWIZZLE of (hi j))) ∙ bad_at hi j) i);
        grants = first_below (λ k. not (all_granted limits (named (lo k) (hi k)))) (suc j);
        taken = occupied (taken_before hi j) (unit_at_lem hi j i);
        issues =
            record {
              setters = counted (is_issue kind Predicate) (issued Predicate hi j) i;
              issued = counted_one (is_issue kind Predicate) (is_issue kind Kill) (one_kind kind) (issued Predicate hi j) (issued Kill hi j) i;
              kill = some_more (is_issue kind Kill) (issued Kill hi j) i;
              mova = some_more (is_issue kind Mova) (issued Mova hi j) i;
              relative = any_below (λ k. has_relative (lo k) (hi k)) (suc j);
              reduction = any_reduction hi (suc j);
              uneven = any_uneven hi j || is_uneven j (unit_at_lem hi j i) (hi 0) (hi j);
            };
      }

-- ---- the verdict of a fault

abbrev pub answer : Quadwords → Slots → Outcome → Verdict
answer place g Clean = Accepted
answer place g (Err fault) = Refused fault.rule (Quadword place) (slot_behind g fault.behind)

-- no instruction breaks it
pub first_none : (f : ℕ → Bool) (m : ℕ) → first_below f m ≡ None → (j : ℕ) → j < m → f j ≡ false
unfolding first_below
first_none f zero h j l = absurd (omega arith)
first_none f (suc m) h j l =
    let r = by (first_below f m) (f m) h in
    ⊎_elim (λ e. ap f e ∙ r.1) (λ k. first_none f m r.0 j k) (last_or_below l)
  where
    by : (x : Option Slots) (b : Bool) → or_here x (slots m) b ≡ None → (x ≡ None) × (b ≡ false)
    by None false e = (refl, refl)
    by None true e = absurd (false≢true (cc))
    by (Some k) b e = absurd (false≢true (cc))

module _ (place : Quadwords) (g : Slots) where
  -- a rule that was asked of each instruction
  each_answer :
      (r : ℕ) (f : ℕ → Bool) (m : ℕ)
      → first_broken (each_of r place g f m) ≡ answer place g (first_fault r (first_below f m) Clean)
  unfolding each_of below first_broken first_below first_fault
  each_answer r f zero = refl
  each_answer r f (suc m) =
      joined (each_of r place g f m) (check r (Quadword place) (slot_behind g (slots m)) (f m) ∷ [])
      ∙ ap (λ (v : Verdict). and_then_lem v (first_broken (check r (Quadword place) (slot_behind g (slots m)) (f m) ∷ []))) (each_answer r f m)
      ∙ by (first_below f m) (f m)
    where
      by : (x : Option Slots) (b : Bool)
          → and_then_lem (answer place g (first_fault r x Clean)) (cond b (Refused r (Quadword place) (slot_behind g (slots m))) Accepted)
          ≡ answer place g (first_fault r (or_here x (slots m) b) Clean)
      by None true = refl
      by None false = refl
      by (Some k) b = refl

  -- and the rules behind it, which count only where it is kept
  each_then :
      (r : ℕ) (f : ℕ → Bool) (m : ℕ) (cs : List Check) (rest : Outcome)
      → (((j : ℕ) → j < m → f j ≡ false) → first_broken cs ≡ answer place g rest)
      → first_broken (each_of r place g f m ++ cs) ≡ answer place g (first_fault r (first_below f m) rest)
  unfolding first_fault
  each_then r f m cs rest h =
      joined (each_of r place g f m) cs
      ∙ ap (λ (v : Verdict). and_then_lem v (first_broken cs)) (each_answer r f m)
      ∙ by (first_below f m) refl
    where
      by :
          (x : Option Slots) → first_below f m ≡ x
          → and_then_lem (answer place g (first_fault r x Clean)) (first_broken cs) ≡ answer place g (first_fault r x rest)
      by None e = h (first_none f m e)
      by (Some k) e = refl

  issue_then :
      (b : Bool) (cs : List Check) (rest : Outcome) → first_broken cs ≡ answer place g rest
      → first_broken (check 14 (Quadword place) g b ∷ cs) ≡ answer place g (cond b (Broken 14 (slots 0)) rest)
  unfolding first_broken
  issue_then true cs rest h = ap (λ (n : ℕ). Refused 14 (Quadword place) (slots n)) (sym (add-zero g.0))
  issue_then false cs rest h = h

-- ---- the group

module _ (place : Quadwords) (g : Slots) (limits : Limits) (may_kill : Bool) (lo hi : PerInstruction) (m : ℕ) where
  -- rule 14 where rule 13 is kept
  same_issue : ((j : ℕ) → j < m → bad_unit_at hi j ≡ false) → bad_issue may_kill lo hi m ≡ bad_issues (issues_of lo hi m) m may_kill
  unfolding bad_issue bad_issues issues_of
  same_issue kept =
      λ i.
      sym (counts_several (issued Predicate hi m + issued Kill hi m)) i
      || ((ltb 0 (issued Kill hi m) && not may_kill)
      || ((ltb 0 (issued Mova hi m) && any_below (λ j. has_relative (lo j) (hi j)) m) || sym (same_reduction hi m kept) i))

  -- the answer read off at the group's end is the verdict of its checks
  pub group_answer :
      first_broken (rule_checks place g limits may_kill lo hi m) ≡ answer place g (fault_of (seen_of limits lo hi m) m may_kill)
  unfolding rule_checks fault_of seen_of
  group_answer =
      each_then place g 11 (λ j. bad_number (hi j)) m _ _
      (λ numbers.
      each_then place g 12 (λ j. bad_field (lo j) (hi j)) m _ _
      (λ fields.
      each_then place g 13 (bad_unit_at hi) m _ _
      (λ kept.
      ap (λ (b : Bool). first_broken (check 14 (Quadword place) g b ∷ each_of 15 place g (λ j. not (all_granted limits (named (lo j) (hi j)))) m)) (same_issue kept)
      ∙ issue_then place g (bad_issues (issues_of lo hi m) m may_kill) _ _
      (each_answer place g 15 (λ j. not (all_granted limits (named (lo j) (hi j)))) m))))

  -- every register and constant that any of its instructions names is granted
  pub group_granted :
      first_broken (rule_checks place g limits may_kill lo hi m) ≡ Accepted → (j : ℕ) → j < m → (n : Name)
      → Memᴰ n (named (lo j) (hi j)) → granted limits n ≡ true
  unfolding rule_checks each_of
  group_granted h j l n =
      let clean = rest_clean _ _ (right_clean (each_of 13 place g (bad_unit_at hi) m) _ (right_clean (each_of 12 place g (λ k. bad_field (lo k) (hi k)) m) _ (right_clean (each_of 11 place g (λ k. bad_number (hi k)) m) _ h))) in
      each_granted limits (named (lo j) (hi j))
      (not-false (all_granted limits (named (lo j) (hi j)))
      (first_clean (check 15 (Quadword place) (slot_behind g (slots j)) (not (all_granted limits (named (lo j) (hi j))))) []
      (below_each (λ k. check 15 (Quadword place) (slot_behind g (slots k)) (not (all_granted limits (named (lo k) (hi k)))) ∷ []) m j clean l)))
      n

-- ---- a fault shows within the group

abbrev FirstIn : ℕ → Option Slots → Type 0
FirstIn m None = Unit {0}
FirstIn m (Some k) = k.0 < m

first_in : (f : ℕ → Bool) (m : ℕ) → FirstIn m (first_below f m)
unfolding first_below
first_in f zero = tt
first_in f (suc m) = by (first_below f m) (f m) (first_in f m)
  where
    by : (x : Option Slots) (b : Bool) → FirstIn m x → FirstIn (suc m) (or_here x (slots m) b)
    by None true h = omega arith
    by None false h = tt
    by (Some k) b h = omega arith

abbrev pub FaultIn : ℕ → Outcome → Type 0
FaultIn m Clean = Unit {0}
FaultIn m (Err fault) = fault.behind.0 ≤ m

fault_then : (m : ℕ) (r : ℕ) (x : Option Slots) (rest : Outcome) → FirstIn m x → FaultIn m rest → FaultIn m (first_fault r x rest)
unfolding first_fault
fault_then m r None rest h k = k
fault_then m r (Some j) rest h k = omega arith

issue_in : (m : ℕ) (b : Bool) (rest : Outcome) → FaultIn m rest → FaultIn m (cond b (Broken 14 (slots 0)) rest)
issue_in m true rest k = omega arith
issue_in m false rest k = k

pub fault_in : (limits : Limits) (may_kill : Bool) (lo hi : PerInstruction) (m : ℕ) → FaultIn m (fault_of (seen_of limits lo hi m) m may_kill)
unfolding fault_of seen_of
fault_in limits may_kill lo hi m =
    fault_then m 11 (first_below (λ j. bad_number (hi j)) m) _ (first_in (λ j. bad_number (hi j)) m)
    (fault_then m 12 (first_below (λ j. bad_field (lo j) (hi j)) m) _ (first_in (λ j. bad_field (lo j) (hi j)) m)
    (fault_then m 13 (first_below (bad_unit_at hi) m) _ (first_in (bad_unit_at hi) m)
    (issue_in m (bad_issues (issues_of lo hi m) m may_kill) _
    (fault_then m 15 (first_below (λ j. not (all_granted limits (named (lo j) (hi j)))) m) Clean (first_in (λ j. not (all_granted limits (named (lo j) (hi j)))) m) tt))))
