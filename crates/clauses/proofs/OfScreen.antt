-- A clause at a glance: what is kept of a group is all that has been seen of it, as long as nothing is broken; and where every group passes the
-- clause is accepted. Assumes nothing.
use Rattle.std.proofs.Common.{◌≡◌, ℕ, zero, suc, ◌+◌, ◌-◌, ◌*◌, ◌/◌, ◌%◌, ◌^◌, ◌<◌, ◌≤◌, Bool, true, false, cond, not, ◌&&◌, ◌||◌, eqb, ltb, List, length, get_or, sym, refl, ap, ◌∙◌, subst, mod-eq_of_lt, add-one, arith, ltb-false, ltb-true, eq-eqb, ne_eqb, eqb-true, le-leb, le-ltb, lt-ltb}
use borrow.Author.Tests.{eqb-false, lt-leb}
use mathlib.Core.Path.{transport}
use mathlib.Core.Bool.{false≢true}
use lib.Bits.{bit_and, and_zero_r, and_mask}
use Rattle.laws.proofs.OfTests.{neither, by_test_lem}
use Rattle.units.specs.declared.Quadwords.{Quadwords}
use Rattle.units.specs.declared.Slots.{Slots}
use Rattle.units.specs.Units.{quadwords, slots, slot_quadword, slot_behind, slots_left, low_at, high_at}
use Rattle.units.specs.Code.{quadwords_in_64}
use Rattle.units.proofs.OfUnits.{capped_exact}
use Rattle.formats.specs.Fields.{◌of◌, BANK_SWIZZLE, «CLAMP», DST_CHAN, «LAST», «OMOD», OP2_INST}
use Rattle.opcodes.specs.Alu as alu
use Rattle.opcodes.specs.Code.{code_of}
use Rattle.opcodes.specs.declared.alu.Issue.TheVariants.{Predicate, Kill, Mova, Reduction}
use Rattle.grants.specs.declared.Limits.{Limits}
use Rattle.grants.specs.Grants.{all_granted}
use Rattle.instructions.specs.Instruction.{class_of, bad_field, has_relative, named}
use Rattle.screens.specs.declared.Gap.{Gap}
use Rattle.screens.specs.Code.{gaps_of, broken_by, more_literals}
use Rattle.screens.proofs.OfGaps.{unbroken_field, unbroken_grants, unbroken_literals}
use Rattle.std.specs.Prelude.{None}
use Rattle.checks.specs.Verdict.{Accepted}
use Rattle.checks.specs.Checks.{first_broken}
use Rattle.card.specs.declared.Kind.{Kind}
use Rattle.groups.specs.declared.Issues.{Issues}
use Rattle.groups.specs.declared.Seen.{Seen}
use Rattle.groups.specs.Group.{PerInstruction, any_below, all_below, literals_below, trans, bad_unit_at, issued, is_alike}
use Rattle.groups.specs.Code.{Taken, unit_for, unit_by, bad_unit, occupied, taken_before, is_uneven, next_issues, issues_of, tally_of, is_straight, Issued, next_seen, seen_of, bad_issues, Clean, fault_of}
use Rattle.groups.proofs.OfCode.{not_here, next_seen_lem, breaks-none}
use Rattle.groups.proofs.OfGroup.{first_none, seen_none, seen_next}
use Rattle.groups.proofs.OfTally.{code_unit, code_issue, unit_by_code, Digits, digits, counted-clear, plain-clear}
use Rattle.groups.proofs.OfUnits.{kept_few}
use Rattle.clauses.specs.declared.screen.Tally.{Tally}
use Rattle.clauses.specs.Clause.{low_of, high_of, is_last, size_from, size_of, span_of, bad_shape, is_pixel, may_kill, clause_checks}
use Rattle.clauses.specs.CodeScreen.{no_tally, is_wrong, with_one, kept_of, size_in, first_of, Ends}
use Rattle.clauses.proofs.OfRead.{reached, size_here, size_next, good}
use Rattle.clauses.proofs.OfClause.{Along, along_none, along-next, clause-done, push_one}

-- ---- masks and digits

-- 0 less a bit is no bit or all of them
pub masked : (bit x r : ℕ) → bit < 2 → x < 2 ^ 32 → r < 2 ^ 32 → (r + bit) % 2 ^ 32 ≡ 0 → bit_and x r ≡ bit * x
masked zero x r l h k e =
    let z : r ≡ 0 = omega (arith, k, e) in ap (bit_and x) z ∙ and_zero_r x ∙ (let y : 0 ≡ 0 * x = omega arith in y)
masked (suc zero) x r l h k e =
    let z : r ≡ 2 ^ 32 - 1 = omega (arith, k, e) in
    ap (bit_and x) z ∙ and_mask x 32 ∙ mod-eq_of_lt h ∙ (let y : x ≡ 1 * x = omega arith in y)
masked (suc (suc bit)) x r l h k e = absurd (omega arith)

pub weighed : (k : ℕ) → k < 8 → 1 * 2 ^ (k * 4) % 2 ^ 32 ≡ 16 ^ k
weighed zero h = refl
weighed (suc zero) h = refl
weighed (suc (suc zero)) h = refl
weighed (suc (suc (suc zero))) h = refl
weighed (suc (suc (suc (suc zero)))) h = refl
weighed (suc (suc (suc (suc (suc zero))))) h = refl
weighed (suc (suc (suc (suc (suc (suc zero)))))) h = refl
weighed (suc (suc (suc (suc (suc (suc (suc zero))))))) h = refl
weighed (suc (suc (suc (suc (suc (suc (suc (suc k)))))))) h = absurd (omega arith)

pub weight_few : (k : ℕ) → k < 8 → 16 ^ k < 2 ^ 31
weight_few zero h = omega arith
weight_few (suc zero) h = omega arith
weight_few (suc (suc zero)) h = omega arith
weight_few (suc (suc (suc zero))) h = omega arith
weight_few (suc (suc (suc (suc zero)))) h = omega arith
weight_few (suc (suc (suc (suc (suc zero))))) h = omega arith
weight_few (suc (suc (suc (suc (suc (suc zero)))))) h = omega arith
weight_few (suc (suc (suc (suc (suc (suc (suc zero))))))) h = omega arith
weight_few (suc (suc (suc (suc (suc (suc (suc (suc k)))))))) h = absurd (omega arith)

-- five digits of a number, the last of which may be any
five_digits :
    (n a b d e f : ℕ) → n ≡ a + 16 * b + 256 * d + 4096 * e + 65536 * f → a < 16 → b < 16 → d < 16 → e < 16
    → (n % 16 ≡ a) × ((n / 16 % 16 ≡ b) × ((n / 256 % 16 ≡ d) × ((n / 4096 % 16 ≡ e) × (n / 65536 ≡ f))))
five_digits n a b d e f p h k l m =
    let x : n / 16 ≡ b + 16 * (d + 16 * e + 256 * f) = omega arith in
    let y : n / 256 ≡ d + 16 * (e + 16 * f) = omega arith in
    let z : n / 4096 ≡ e + 16 * f = omega arith in
    (omega arith, (ap (λ (q : ℕ). q % 16) x ∙ (omega arith), (ap (λ (q : ℕ). q % 16) y ∙ (omega arith), (ap (λ (q : ℕ). q % 16) z ∙ (omega arith), omega arith))))

-- ---- one instruction's tests

module _ (gaps : List Gap) (t : Taken) (code u lo hi : ℕ) where
  pub wrong_alone : broken_by gaps lo hi ≡ true → true ≡ is_wrong gaps t code u lo hi
  unfolding is_wrong
  wrong_alone h = rw h

  pub wrong_there :
      {bad : Bool} {swizzle : ℕ} → broken_by gaps lo hi ≡ false → swizzle ≡ BANK_SWIZZLE of hi → bad ≡ bad_unit t u swizzle
      → (eqb (code % 4) 0 || bad) ≡ is_wrong gaps t code u lo hi
  unfolding is_wrong
  wrong_there h s f = (λ i. eqb (code % 4) 0 || (f ∙ (λ j. bad_unit t u (s j))) i) ∙ rw h

  -- none of them: rules 12 and 15, 11, 13
  right : is_wrong gaps t code u lo hi ≡ false
      → (broken_by gaps lo hi ≡ false) × ((eqb (code % 4) 0 ≡ false) × (bad_unit t u (BANK_SWIZZLE of hi) ≡ false))
  unfolding is_wrong
  right h = by (broken_by gaps lo hi) (eqb (code % 4) 0) (bad_unit t u (BANK_SWIZZLE of hi)) h
    where
      by : (a b d : Bool) → cond a true (b || d) ≡ false → (a ≡ false) × ((b ≡ false) × (d ≡ false))
      by false false d e = (refl, (refl, e))
      by false true d e = absurd (false≢true (sym e))
      by true b d e = absurd (false≢true (sym e))

-- ---- instruction by instruction

-- all that has been seen, where nothing was broken
abbrev clear_seen : ℕ → Taken → Issues → Seen
clear_seen n t i =
    record { literals = n; numbers = None; fields = None; units = None; grants = None; taken = t; issues = i }

-- what is kept says what has been seen of the first j instructions
abbrev Clear : Limits → PerInstruction → PerInstruction → Tally → ℕ → Type 0
Clear limits lo hi t j = clear_seen t.literals t.taken (issues_of lo hi j) ≡ seen_of limits lo hi j

-- one instruction more
module _ (limits : Limits) (lo hi : PerInstruction) (j : ℕ) (t : Tally) (c : Clear limits lo hi t j) {code u : ℕ}
    (code_is : code ≡ code_of (class_of (hi j))) (unit_is : u ≡ unit_by t.taken (code % 4) (DST_CHAN of (hi j)))
    (h : is_wrong (gaps_of limits) t.taken code u (lo j) (hi j) ≡ false) where
  unit_there : u ≡ unit_for t.taken (class_of (hi j)).unit (DST_CHAN of (hi j))
  unit_there =
      unit_is
      ∙ ap (λ (k : ℕ). unit_by t.taken (k % 4) (DST_CHAN of (hi j))) code_is
      ∙ unit_by_code (class_of (hi j)) t.taken (DST_CHAN of (hi j))

  tests : (broken_by (gaps_of limits) (lo j) (hi j) ≡ false) × ((eqb (code % 4) 0 ≡ false) × (bad_unit t.taken u (BANK_SWIZZLE of (hi j)) ≡ false))
  tests = right (gaps_of limits) t.taken code u (lo j) (hi j) h

  taken_there : not (alu.is_taken (class_of (hi j))) ≡ false
  taken_there =
      ap (λ (b : Bool). not (not b))
      (ap (λ (k : ℕ). eqb k 0) (sym (code_unit (class_of (hi j))) ∙ ap (λ (k : ℕ). k % 4) (sym code_is)) ∙ tests.1.0)

  abbrev more_issues : Issues
  more_issues =
      next_issues (issues_of lo hi j) (class_of (hi j)).issue (has_relative (lo j) (hi j)) (is_uneven j u (hi 0) (hi j))

  seen_one :
      clear_seen (more_literals t.literals (lo j) (hi j)) (occupied t.taken u) more_issues ≡ next_seen limits (slots j) (hi 0) (lo j) (hi j) (clear_seen t.literals t.taken (issues_of lo hi j))
  seen_one =
      next_seen_lem limits (slots j) (hi 0) (lo j) (hi j) (clear_seen t.literals t.taken (issues_of lo hi j))
      (record {
        class_is = refl;
        chan_is = refl;
        unit_is = unit_there;
        swizzle_is = refl;
        bad_is = refl;
        uneven_is = refl;
        taken_is = refl;
      })
      refl
      (unbroken_literals limits (lo j) (hi j) tests.0 t.literals)
      (not_here (slots j) (not (alu.is_taken (class_of (hi j)))) taken_there)
      refl
      (not_here (slots j) (bad_field (lo j) (hi j)) (unbroken_field limits (lo j) (hi j) tests.0))
      (not_here (slots j) (bad_unit t.taken u (BANK_SWIZZLE of (hi j))) tests.1.1)
      refl
      (not_here (slots j) (not (all_granted limits (named (lo j) (hi j)))) (ap not (unbroken_grants limits (lo j) (hi j) tests.0)))
      refl
      refl
      refl

  seen_there :
      clear_seen (more_literals t.literals (lo j) (hi j)) (occupied t.taken u) more_issues ≡ seen_of limits lo hi (suc j)
  seen_there = seen_one ∙ ap (next_seen limits (slots j) (hi 0) (lo j) (hi j)) c ∙ seen_next limits lo hi j

  pub clear_next : Clear limits lo hi (with_one t code u (more_literals t.literals (lo j) (hi j))) (j + 1)
  unfolding seen_of
  clear_next =
      ap (λ (k : ℕ). clear_seen (more_literals t.literals (lo j) (hi j)) (occupied t.taken u) (issues_of lo hi k)) (add-one j)
      ∙ ap (clear_seen (more_literals t.literals (lo j) (hi j)) (occupied t.taken u)) (sym (ap (λ (x : Seen). x.issues) seen_there))
      ∙ seen_there
      ∙ ap (seen_of limits lo hi) (sym (add-one j))

  pub counts_next : t.issued ≡ tally_of hi j → t.issued + 16 ^ (code / 4 % 8) ≡ tally_of hi (j + 1)
  unfolding tally_of
  counts_next e =
      (λ i. e i + 16 ^ ((ap (λ (k : ℕ). k / 4 % 8) code_is ∙ code_issue (class_of (hi j))) i))
      ∙ ap (tally_of hi) (sym (add-one j))

-- ---- what is known of a group's figures

-- the digits of what is counted
module _ (hi : PerInstruction) (m n : ℕ) (few : m ≤ 5) (e : n ≡ tally_of hi m) where
  abbrev numbers : Digits hi m (tally_of hi m)
  numbers = digits hi m

  pub issued_few : n < 2 ^ 31
  issued_few = omega (arith, e, few, numbers.sums, numbers.all)

  few_each : (numbers.plain < 16) × ((issued Predicate hi m < 16) × ((issued Kill hi m < 16) × (issued Mova hi m < 16)))
  few_each =
      (omega (arith, few, numbers.all), (omega (arith, few, numbers.all), (omega (arith, few, numbers.all), omega (arith, few, numbers.all))))

  abbrev each : (n % 16 ≡ numbers.plain) × ((n / 16 % 16 ≡ issued Predicate hi m) × ((n / 256 % 16 ≡ issued Kill hi m) × ((n / 4096 % 16 ≡ issued Mova hi m) × (n / 65536 ≡ issued Reduction hi m))))
  each =
      five_digits n numbers.plain (issued Predicate hi m) (issued Kill hi m) (issued Mova hi m) (issued Reduction hi m) (e ∙ numbers.sums)
      few_each.0 few_each.1.0 few_each.1.1.0 few_each.1.1.1

  pub setters_are : n / 16 % 16 ≡ issued Predicate hi m
  setters_are = each.1.0

  pub kills_are : n / 256 % 16 ≡ issued Kill hi m
  kills_are = each.1.1.0

  pub movas_are : n / 4096 % 16 ≡ issued Mova hi m
  movas_are = each.1.1.1.0

  pub reductions_are : n / 65536 ≡ issued Reduction hi m
  reductions_are = each.1.1.1.1

  pub size_is : size_in n ≡ m
  size_is = (λ i. each.0 i + each.1.0 i + each.1.1.0 i + each.1.1.1.0 i + each.1.1.1.1 i) ∙ sym numbers.all

  pub setters_few : issued Predicate hi m ≤ m
  setters_few = omega (arith, numbers.all)

module _ (limits : Limits) (lo hi : PerInstruction) (m : ℕ) (t : Tally) (c : Clear limits lo hi t m) where
  pub unit_kept : (j : ℕ) → j < m → bad_unit_at hi j ≡ false
  unfolding seen_of
  unit_kept = first_none (bad_unit_at hi) m (sym (ap (λ (x : Seen). x.units) c))

  pub few_there : m ≤ 5
  few_there = kept_few hi m unit_kept

  taken_is : t.taken ≡ taken_before hi m
  unfolding seen_of
  taken_is = ap (λ (x : Seen). x.taken) c

  literals_are : t.literals ≡ literals_below lo hi m
  unfolding seen_of
  literals_are = ap (λ (x : Seen). x.literals) c

-- ---- rule 14's questions

module _ (hi : PerInstruction) (m t : ℕ) where
  pub straight_short : m < trans → false ≡ is_straight hi m t
  unfolding is_straight
  straight_short h = rw (lt-leb trans m h)

  module _ (l : trans ≤ m) where
    self : (g : ℕ) → is_alike g g ≡ true
    unfolding is_alike
    self g =
        λ i.
        eq-eqb (OP2_INST of g) (OP2_INST of g) refl i
        && (eq-eqb («OMOD» of g) («OMOD» of g) refl i && eq-eqb («CLAMP» of g) («CLAMP» of g) refl i)

    pub straight-is :
        {a b d : Bool} → a ≡ is_alike (hi 0) (hi 1) → b ≡ is_alike (hi 0) (hi 2) → d ≡ is_alike (hi 0) (hi 3)
        → (eqb (t % 16) 15 && (a && (b && d))) ≡ is_straight hi m t
    unfolding is_straight all_below
    straight-is p q r =
        (λ i. eqb (t % 16) 15 && (p i && (q i && r i)))
        ∙ by (eqb (t % 16) 15) (is_alike (hi 0) (hi 1)) (is_alike (hi 0) (hi 2)) (is_alike (hi 0) (hi 3))
        ∙ sym
        (λ i. le-leb trans m l i && (eqb (t % 16) 15 && (((true && self (hi 0) i) && is_alike (hi 0) (hi 1)) && is_alike (hi 0) (hi 2) && is_alike (hi 0) (hi 3))))
      where
        by : (e a b d : Bool) → (e && (a && (b && d))) ≡ (true && (e && (((true && true) && a) && b && d)))
        by false a b d = refl
        by true true b d = refl
        by true false b d = refl

-- rule 14 on the group that ends at a quadword, question by question
module _ (w : List ℕ) (at n t : ℕ) (e : Ends w at n) where
  abbrev his : PerInstruction
  his = high_of w (first_of at n)

  abbrev los : PerInstruction
  los = low_of w (first_of at n)

  pub issues_kept :
      {kill : Bool} → n / 16 % 16 + n / 256 % 16 ≤ 1 → (ltb 0 (n / 256 % 16) && not kill) ≡ false
      → {a b : Bool} → a ≡ (ltb 0 (n / 4096 % 16) && any_below (λ j. has_relative (los j) (his j)) (size_in n))
      → b ≡ (ltb 0 (n / 65536) && not (is_straight his (size_in n) t)) → (a || b) ≡ false → Issued los his (size_in n) t kill
  issues_kept {kill = kill} few kills {a = a} {b = b} p q h =
      let z = neither a b h in
      record {
        few = omega (arith, few, setters_are his (size_in n) n e.few e.counts, kills_are his (size_in n) n e.few e.counts);
        kills = ap (λ (k : ℕ). ltb 0 k && not kill) (sym (kills_are his (size_in n) n e.few e.counts)) ∙ kills;
        movas =
            ap (λ (k : ℕ). ltb 0 k && any_below (λ j. has_relative (los j) (his j)) (size_in n)) (sym (movas_are his (size_in n) n e.few e.counts))
            ∙ sym p
            ∙ z.0;
        reductions =
            ap (λ (k : ℕ). ltb 0 k && not (is_straight his (size_in n) t)) (sym (reductions_are his (size_in n) n e.few e.counts))
            ∙ sym q
            ∙ z.1;
      }

-- a question that is asked where there are some, and not where there are none
pub asked : (n : ℕ) {b d : Bool} → 0 < n → b ≡ d → b ≡ (ltb 0 n && d)
asked n l e = e ∙ rw (lt-ltb 0 n l)

pub unasked : (n : ℕ) {b : Bool} (d : Bool) → n ≤ 0 → b ≡ ltb 0 n → b ≡ (ltb 0 n && d)
unasked n d l e = e ∙ rw (le-ltb 0 n l) refl

-- all of it, and nothing
kept_all : (t : Tally) → t ≡ kept_of 1 t
kept_all t =
    let a : t.taken ≡ 1 * t.taken = omega arith in
    let b : t.issued ≡ 1 * t.issued = omega arith in
    let d : t.literals ≡ 1 * t.literals = omega arith in
    λ i. record { taken = a i; issued = b i; literals = d i }

kept_none : (t : Tally) → no_tally ≡ kept_of 0 t
kept_none t =
    let a : 0 ≡ 0 * t.taken = omega arith in
    let b : 0 ≡ 0 * t.issued = omega arith in
    let d : 0 ≡ 0 * t.literals = omega arith in
    λ i. record { taken = a i; issued = b i; literals = d i }

-- where a clause's slots end, as the code adds it up
pub ended :
    (w : List ℕ) (s : Quadwords) (n : Slots) {q : Quadwords} → length w < 2 ^ 64 → 2 * (s.0 + n.0) ≤ length w → q ≡ quadwords_in_64 (slot_quadword s n)
    → q.0 ≡ s.0 + n.0
ended w s n h room e = ap (λ (x : Quadwords). x.0) e ∙ capped_exact (s.0 + n.0) (omega (arith, h, room))

-- ---- the clause

module _ (limits : Limits) (pixel : Bool) (w : List ℕ) (s : Quadwords) (n : Slots) where
  -- the words of the group that starts at slot g
  abbrev lows : Slots → PerInstruction
  lows g = low_of w (slot_quadword s g)

  abbrev highs : Slots → PerInstruction
  highs g = high_of w (slot_quadword s g)

  -- the glance stands at a quadword: the groups before slot g break nothing, and of the one that starts there j instructions are read, none of
  -- them its last
  pub record Glancing (at setters : ℕ) (t : Tally) : Type 0 where
    pub g : Slots
    pub j : ℕ
    pub at-is : at ≡ s.0 + (g.0 + j)
    pub few : setters ≤ g.0
    pub along : (place : Quadwords) → Along pixel limits w place s n setters g
    pub clear : Clear limits (lows g) (highs g) t j
    pub counts : t.issued ≡ tally_of (highs g) j
    pub size-left : size_of w (slot_quadword s g) (slots_left n g) ≡ size_from w (slot_quadword s g) (slots_left n g) j (5 - j)

  -- at the first slot of a group
  fresh :
      (g : Slots) (setters at : ℕ) → at ≡ s.0 + g.0 → setters ≤ g.0 → ((place : Quadwords) → Along pixel limits w place s n setters g)
      → Glancing at setters no_tally
  unfolding seen_of tally_of size_of
  fresh g setters at e l a =
      record {
        g = g;
        j = 0;
        at-is = omega (arith, e);
        few = l;
        along = a;
        clear =
            ap (clear_seen 0 0) (sym (ap (λ (x : Seen). x.issues) (seen_none limits (lows g) (highs g))))
            ∙ seen_none limits (lows g) (highs g);
        counts = refl;
        size-left = refl;
      }

  pub glancing_none : (t : Tally) → t ≡ no_tally → Glancing s.0 0 t
  glancing_none t e =
      subst (Glancing s.0 0) (sym e)
      (fresh (slots 0) 0 s.0 (omega arith) (omega arith) (λ place. along_none pixel limits w place s n))

  module _ {at setters : ℕ} {t : Tally} (r : Glancing at setters t) where
    -- no group is under way: the clause ends here
    pub glancing-done :
        (kind : Kind) (place : Quadwords) (push : Bool) → 2 * (s.0 + n.0) ≤ length w → pixel ≡ is_pixel kind → at ≡ s.0 + n.0 → t.issued ≡ 0
        → (not push || eqb setters 1) ≡ true → Accepted ≡ first_broken (clause_checks kind push limits w place s n)
    glancing-done kind place push i p e z h =
        let m = size_is (highs r.g) r.j t.issued (few_there limits (lows r.g) (highs r.g) r.j t r.clear) r.counts in
        let none : r.j ≡ 0 = omega (arith, m, z) in
        let end : n.0 ≤ r.g.0 = omega (arith, none, e, r.at-is) in
        clause-done pixel limits w place s n kind push (reached w s n i) p (r.along place) end (push_one push setters place h)

    pub issued-small : t.issued < 2 ^ 31
    issued-small = issued_few (highs r.g) r.j t.issued (few_there limits (lows r.g) (highs r.g) r.j t r.clear) r.counts

    -- one instruction more, which breaks nothing by itself
    module _ (here : at < s.0 + n.0) {code u : ℕ} {low high : ℕ} (low-is : low ≡ get_or w (2 * at) 0) (high_is : high ≡ get_or w (2 * at + 1) 0)
        (code_is : code ≡ code_of (class_of high)) (unit_is : u ≡ unit_by t.taken (code % 4) (DST_CHAN of high))
        {gaps : List Gap} (gaps-are : gaps ≡ gaps_of limits)
        {wrong : Bool} (wrong-is : wrong ≡ is_wrong gaps t.taken code u low high) (h : wrong ≡ false)
        {literal : ℕ} (literal-is : literal ≡ more_literals t.literals low high) {more : Tally} (more-is : more ≡ with_one t code u literal) where
      abbrev q : Quadwords
      q = slot_quadword s r.g

      abbrev left : Slots
      left = slots_left n r.g

      low_there : low ≡ lows r.g r.j
      unfolding low_of low_at
      low_there = low-is ∙ (let z : 2 * at ≡ 2 * (s.0 + r.g.0 + r.j) = omega (arith, r.at-is) in ap (λ (k : ℕ). get_or w k 0) z)

      high_there : high ≡ highs r.g r.j
      unfolding high_of high_at
      high_there =
          high_is ∙ (let z : 2 * at + 1 ≡ 2 * (s.0 + r.g.0 + r.j) + 1 = omega (arith, r.at-is) in ap (λ (k : ℕ). get_or w k 0) z)

      right_there : is_wrong (gaps_of limits) t.taken code u (lows r.g r.j) (highs r.g r.j) ≡ false
      right_there =
          (λ i. is_wrong (sym gaps-are i) t.taken code u (sym low_there i) (sym high_there i))
          ∙ sym wrong-is
          ∙ h

      code-there : code ≡ code_of (class_of (highs r.g r.j))
      code-there = code_is ∙ ap (λ (k : ℕ). code_of (class_of k)) high_there

      unit-here : u ≡ unit_by t.taken (code % 4) (DST_CHAN of (highs r.g r.j))
      unit-here = unit_is ∙ ap (λ (k : ℕ). unit_by t.taken (code % 4) (DST_CHAN of k)) high_there

      more-there : more ≡ with_one t code u (more_literals t.literals (lows r.g r.j) (highs r.g r.j))
      more-there =
          more-is ∙ ap (with_one t code u) (literal-is ∙ (λ i. more_literals t.literals (low_there i) (high_there i)))

      literals-kept : literal ≡ more.literals
      literals-kept = sym (ap (λ (x : Tally). x.literals) more-is)

      clear-here : Clear limits (lows r.g) (highs r.g) more (r.j + 1)
      clear-here =
          ap (λ (x : Tally). clear_seen x.literals x.taken (issues_of (lows r.g) (highs r.g) (r.j + 1))) more-there
          ∙ clear_next limits (lows r.g) (highs r.g) r.j t r.clear code-there unit-here right_there

      counts-here : more.issued ≡ tally_of (highs r.g) (r.j + 1)
      counts-here =
          ap (λ (x : Tally). x.issued) more-there
          ∙ counts_next limits (lows r.g) (highs r.g) r.j t r.clear code-there unit-here right_there r.counts

      few-here : r.j + 1 ≤ 5
      few-here = few_there limits (lows r.g) (highs r.g) (r.j + 1) more clear-here

      size-here-is : size_in more.issued ≡ r.j + 1
      size-here-is = size_is (highs r.g) (r.j + 1) more.issued few-here counts-here

      -- the group as rule 14 is asked of it
      first-is : first_of at more.issued ≡ q
      first-is = let z : at + 1 - size_in more.issued ≡ s.0 + r.g.0 = omega (arith, size-here-is, r.at-is) in ap quadwords z

      pub glancing-ends : 2 * (s.0 + n.0) ≤ length w → Ends w at more.issued
      glancing-ends room =
          record {
            few = omega (arith, size-here-is, few-here);
            some = omega (arith, size-here-is, r.at-is);
            inside = omega (arith, room, here);
            counts = counts-here ∙ (λ i. tally_of (high_of w (sym first-is i)) (sym size-here-is i));
          }

      module _ {last : ℕ} (last-is : last ≡ «LAST» of low) where
        last-there : (b : Bool) → eqb last 1 ≡ b → is_last (lows r.g r.j) ≡ b
        unfolding is_last
        last-there b e = (λ i. eqb («LAST» of (sym low_there i)) 1) ∙ ap (λ (k : ℕ). eqb k 1) (sym last-is) ∙ e

        -- the group goes on
        pub glancing-next : last ≡ 0 → Glancing (at + 1) setters more
        glancing-next z =
            record {
              g = r.g;
              j = r.j + 1;
              at-is = omega (arith, r.at-is);
              few = r.few;
              along = r.along;
              clear = clear-here;
              counts = counts-here;
              size-left =
                  r.size-left
                  ∙ size_next w q left r.j (omega (arith, few-here)) (omega (arith, here, r.at-is)) (last-there false (ne_eqb last 1 (λ e. omega (arith, e, z))));
            }

        -- the group ends
        module _ (e : last ≡ 1) (fits : at + 1 + more.literals ≤ s.0 + n.0)
            (keeps : bad_issues (issues_of (lows r.g) (highs r.g) (r.j + 1)) (r.j + 1) (pixel && eqb (at + 1 + more.literals) (s.0 + n.0)) ≡ false) where
          size-now : size_of w q left ≡ r.j + 1
          size-now =
              r.size-left
              ∙ size_here w q left r.j (omega (arith, few-here)) (omega (arith, here, r.at-is)) (last-there true (eq-eqb last 1 e))

          literals-now : literals_below (lows r.g) (highs r.g) (size_of w q left) ≡ more.literals
          literals-now =
              ap (literals_below (lows r.g) (highs r.g)) size-now
              ∙ sym (literals_are limits (lows r.g) (highs r.g) (r.j + 1) more clear-here)

          span-now : (span_of w q left).0 ≡ r.j + 1 + more.literals
          unfolding span_of
          span-now = λ i. size-now i + literals-now i

          shape : bad_shape w q left ≡ false
          shape = good w q left (λ z. omega (arith, z, size-now)) (omega (arith, span-now, fits, r.at-is))

          end_is : eqb (at + 1 + more.literals) (s.0 + n.0) ≡ eqb (slot_behind r.g (span_of w q left)).0 n.0
          end_is = by (eqb (at + 1 + more.literals) (s.0 + n.0)) refl
            where
              by :
                  (b : Bool) → eqb (at + 1 + more.literals) (s.0 + n.0) ≡ b
                  → b ≡ eqb (r.g.0 + (span_of w q left).0) n.0
              by true p =
                  let z = eqb-true (at + 1 + more.literals) (s.0 + n.0) p in
                  sym (eq-eqb (r.g.0 + (span_of w q left).0) n.0 (omega (arith, z, span-now, r.at-is)))
              by false p =
                  let z = eqb-false (at + 1 + more.literals) (s.0 + n.0) p in
                  sym (ne_eqb (r.g.0 + (span_of w q left).0) n.0 (λ y. z (omega (arith, y, span-now, r.at-is))))

          clean : fault_of (seen_of limits (lows r.g) (highs r.g) (size_of w q left)) (size_of w q left) (may_kill pixel n (slot_behind r.g (span_of w q left))) ≡ Clean
          clean =
              sym
              (breaks-none (clear_seen more.literals more.taken (issues_of (lows r.g) (highs r.g) (r.j + 1))) (r.j + 1) (pixel && eqb (at + 1 + more.literals) (s.0 + n.0)) refl refl refl keeps refl
              ∙
              (λ i.
              fault_of ((clear-here ∙ ap (seen_of limits (lows r.g) (highs r.g)) (sym size-now)) i) (sym size-now i) (pixel && end_is i)))

          setters-now : issued Predicate (highs r.g) (size_of w q left) ≡ more.issued / 16 % 16
          setters-now =
              ap (issued Predicate (highs r.g)) size-now
              ∙ sym (setters_are (highs r.g) (r.j + 1) more.issued few-here counts-here)

          pub glancing-past : Glancing (at + 1 + more.literals) (setters + more.issued / 16 % 16) no_tally
          glancing-past =
              let own = setters_few (highs r.g) (r.j + 1) more.issued few-here counts-here in
              let same = setters_are (highs r.g) (r.j + 1) more.issued few-here counts-here in
              fresh (slot_behind r.g (span_of w q left)) (setters + more.issued / 16 % 16) (at + 1 + more.literals)
              (omega (arith, span-now, r.at-is))
              (omega (arith, own, same, span-now, r.few))
              (λ place.
              subst (λ (k : ℕ). Along pixel limits w place s n (setters + k) (slot_behind r.g (span_of w q left))) setters-now
              (along-next pixel limits w place s n (r.along place) (omega (arith, here, r.at-is)) shape refl clean))

        -- rule 14 is kept: nothing but plain instructions and a setter, or what was asked
        pub keeps-plain :
            more.issued < 32
            → bad_issues (issues_of (lows r.g) (highs r.g) (r.j + 1)) (r.j + 1) (pixel && eqb (at + 1 + more.literals) (s.0 + n.0)) ≡ false
        keeps-plain l =
            plain-clear (highs r.g) (lows r.g) (r.j + 1)
            (unit_kept limits (lows r.g) (highs r.g) (r.j + 1) more clear-here)
            (pixel && eqb (at + 1 + more.literals) (s.0 + n.0))
            (taken_is limits (lows r.g) (highs r.g) (r.j + 1) more clear-here)
            (omega (arith, l, counts-here))

        pub keeps-asked :
            {kill : Bool} → kill ≡ (pixel && eqb (at + 1 + more.literals) (s.0 + n.0))
            → Issued (low_of w (first_of at more.issued)) (high_of w (first_of at more.issued)) (size_in more.issued) more.taken kill
            → bad_issues (issues_of (lows r.g) (highs r.g) (r.j + 1)) (r.j + 1) (pixel && eqb (at + 1 + more.literals) (s.0 + n.0)) ≡ false
        keeps-asked p d =
            counted-clear (highs r.g) (lows r.g) (r.j + 1)
            (unit_kept limits (lows r.g) (highs r.g) (r.j + 1) more clear-here)
            (taken_is limits (lows r.g) (highs r.g) (r.j + 1) more clear-here)
            (transport (λ i. Issued (low_of w (first-is i)) (high_of w (first-is i)) (size-here-is i) more.taken (p i)) d)

        keeps-either :
            {kill : Bool} → kill ≡ (pixel && eqb (at + 1 + more.literals) (s.0 + n.0))
            → (31 < more.issued → Issued (low_of w (first_of at more.issued)) (high_of w (first_of at more.issued)) (size_in more.issued) more.taken kill)
            → bad_issues (issues_of (lows r.g) (highs r.g) (r.j + 1)) (r.j + 1) (pixel && eqb (at + 1 + more.literals) (s.0 + n.0)) ≡ false
        keeps-either p d =
            by_test_lem (ltb 31 more.issued) (λ e. keeps-asked p (d (ltb-true 31 more.issued e))) (λ e. keeps-plain (omega (arith, ltb-false 31 more.issued e)))

        -- either way, and whether it reaches past the clause or not
        pub glancing-step :
            {lits counted setters' : ℕ} {rest : Tally} {kill : Bool} {bad : Bool} → last < 2 → lits ≡ last * literal → counted ≡ last * more.issued
            → kill ≡ (pixel && eqb (at + 1 + lits) (s.0 + n.0))
            → (bad ≡ false → 31 < counted → Issued (low_of w (first_of at more.issued)) (high_of w (first_of at more.issued)) (size_in more.issued) more.taken kill)
            → bad ≡ false → setters' ≡ setters + counted / 16 % 16 → rest ≡ kept_of (1 - last) more → at + 1 + lits ≤ s.0 + n.0
            → Glancing (at + 1 + lits) setters' rest
        glancing-step {lits = lits} {counted = counted} {setters' = setters'} {rest = rest} {kill = kill} {bad = bad} l a b k i f d x fits = by last refl l
          where
            by : (v : ℕ) → last ≡ v → v < 2 → Glancing (at + 1 + lits) setters' rest
            by zero z m =
                let none : lits ≡ 0 = a ∙ ap (λ (y : ℕ). y * literal) z ∙ (let q : 0 * literal ≡ 0 = omega arith in q) in
                let no : counted ≡ 0 = b ∙ ap (λ (y : ℕ). y * more.issued) z ∙ (let q : 0 * more.issued ≡ 0 = omega arith in q) in
                let place : at + 1 ≡ at + 1 + lits = omega (arith, none) in
                let same : setters ≡ setters' = omega (arith, d, no) in
                let stays : more ≡ rest = kept_all more ∙ ap (λ (y : ℕ). kept_of (1 - y) more) (sym z) ∙ sym x in
                transport (λ i. Glancing (place i) (same i) (stays i)) (glancing-next z)
            by (suc zero) z m =
                let all : lits ≡ more.literals = a ∙ ap (λ (y : ℕ). y * literal) z ∙ (let q : 1 * literal ≡ literal = omega arith in q) ∙ literals-kept in
                let whole : counted ≡ more.issued = b ∙ ap (λ (y : ℕ). y * more.issued) z ∙ (let q : 1 * more.issued ≡ more.issued = omega arith in q) in
                let place : at + 1 + more.literals ≡ at + 1 + lits = omega (arith, all) in
                let same : setters + more.issued / 16 % 16 ≡ setters' = sym (d ∙ ap (λ (y : ℕ). setters + y / 16 % 16) whole) in
                let gone : no_tally ≡ rest = kept_none more ∙ ap (λ (y : ℕ). kept_of (1 - y) more) (sym z) ∙ sym x in
                let keeps = keeps-either (k ∙ (λ y. pixel && eqb (sym place y) (s.0 + n.0))) (λ h. i f (omega (arith, h, whole))) in
                transport (λ y. Glancing (place y) (same y) (gone y)) (glancing-past z (omega (arith, fits, all)) keeps)
            by (suc (suc v)) z m = absurd (omega arith)
