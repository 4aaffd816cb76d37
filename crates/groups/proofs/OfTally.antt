-- Rule 14 by the issue kinds in one number, and rule 13 by a class in one number: what is counted there is what the rules count. Assumes nothing.
use mathlib.Core.Path.{◌≡◌, refl, sym, ap, ◌∙◌}
use mathlib.Core.Bool.{Bool, true, false, cond, not, ◌&&◌, ◌||◌, false≢true}
use Prim.Native.Nat.{ℕ, zero, suc, ◌+◌, ◌*◌, ◌/◌, ◌%◌, ◌^◌, ◌<◌}
use native.Mathlib.Omega.{arith}
use lib.Bits.{bit_and, bit_or}
use lib.Dec.{eqb, ltb}
use borrow.Author.Tests.{le-ltb, ltb-false}
use Rattle.bits.specs.Fields.{field_of}
use Rattle.opcodes.specs.declared.alu.Class.{Class}
use Rattle.opcodes.specs.declared.alu.Unit.{Unit}
use Rattle.opcodes.specs.declared.alu.Unit.TheVariants.{NotTaken, Any, Vector, Trans}
use Rattle.opcodes.specs.declared.alu.Issue.{Issue}
use Rattle.opcodes.specs.declared.alu.Issue.TheVariants.{Plain, Predicate, Kill, Mova, Reduction}
use Rattle.opcodes.specs.Alu.{unit_number, issue_number, is_issue}
use Rattle.opcodes.specs.Code.{code_of}
use Rattle.instructions.specs.Instruction.{class_of, has_relative}
use Rattle.groups.specs.Group.{PerInstruction, count_below, any_below, trans, bad_unit_at, issued}
use Rattle.groups.specs.Code.{Taken, is_taken, taken_before, unit_for, moves_by, unit_by, any_uneven, any_reduction, tally_of, is_straight, Issued, issues_of, bad_issues}
use Rattle.groups.proofs.OfGroup.{counts_several}
use Rattle.groups.proofs.OfReduction.{straight-clear}
use Rattle.groups.proofs.OfUnits.{kept_few}

-- ---- a class as one number

module _ (k : Class) where
  pub code_unit : code_of k % 4 ≡ unit_number k.unit
  code_unit = by k.unit
    where
      by : (u : Unit) → (unit_number u + issue_number k.issue * 4 + k.sources * 32) % 4 ≡ unit_number u
      by NotTaken = omega arith
      by Any = omega arith
      by Vector = omega arith
      by Trans = omega arith

  pub code_issue : code_of k / 4 % 8 ≡ issue_number k.issue
  code_issue = by k.unit k.issue
    where
      by : (u : Unit) (i : Issue) → (unit_number u + issue_number i * 4 + k.sources * 32) / 4 % 8 ≡ issue_number i
      by NotTaken Plain = omega arith
      by NotTaken Predicate = omega arith
      by NotTaken Kill = omega arith
      by NotTaken Mova = omega arith
      by NotTaken Reduction = omega arith
      by Any Plain = omega arith
      by Any Predicate = omega arith
      by Any Kill = omega arith
      by Any Mova = omega arith
      by Any Reduction = omega arith
      by Vector Plain = omega arith
      by Vector Predicate = omega arith
      by Vector Kill = omega arith
      by Vector Mova = omega arith
      by Vector Reduction = omega arith
      by Trans Plain = omega arith
      by Trans Predicate = omega arith
      by Trans Kill = omega arith
      by Trans Mova = omega arith
      by Trans Reduction = omega arith

  pub unit_by_code : (t : Taken) (chan : ℕ) → unit_by t (code_of k % 4) chan ≡ unit_for t k.unit chan
  unfolding unit_by unit_for
  unit_by_code t chan =
      ap (λ (n : ℕ). cond (eqb n 3 || (eqb n 1 && is_taken t chan)) trans chan) code_unit

-- ---- Trans by bits

by_bits : (n b : ℕ) → n < 4 → b < 2 → bit_and (bit_or (n / 2) b) (n % 2) ≡ cond (eqb n 3 || (eqb n 1 && eqb b 1)) 1 0
by_bits zero zero h l = refl
by_bits zero (suc zero) h l = refl
by_bits (suc zero) zero h l = refl
by_bits (suc zero) (suc zero) h l = refl
by_bits (suc (suc zero)) zero h l = refl
by_bits (suc (suc zero)) (suc zero) h l = refl
by_bits (suc (suc (suc zero))) zero h l = refl
by_bits (suc (suc (suc zero))) (suc zero) h l = refl
by_bits zero (suc (suc b)) h l = absurd (omega arith)
by_bits (suc zero) (suc (suc b)) h l = absurd (omega arith)
by_bits (suc (suc zero)) (suc (suc b)) h l = absurd (omega arith)
by_bits (suc (suc (suc zero))) (suc (suc b)) h l = absurd (omega arith)
by_bits (suc (suc (suc (suc n)))) b h l = absurd (omega arith)

pub moves_by_lem : (t code chan : ℕ) {b : ℕ} → b ≡ field_of t chan 1 → bit_and (bit_or (code % 4 / 2) b) (code % 4 % 2) ≡ moves_by t (code % 4) chan
unfolding moves_by is_taken
moves_by_lem t code chan e =
    ap (λ (b : ℕ). bit_and (bit_or (code % 4 / 2) b) (code % 4 % 2)) e
    ∙ by_bits (code % 4) (field_of t chan 1) (omega arith) (omega arith)

module _ (t n chan : ℕ) {m : ℕ} (e : m ≡ moves_by t n chan) where
  pub unit_moved : m ≡ 1 → trans ≡ unit_by t n chan
  unfolding moves_by unit_by
  unit_moved h = by (eqb n 3 || (eqb n 1 && is_taken t chan)) (sym e ∙ h)
    where
      by : (b : Bool) → ◌≡◌ {A = ℕ} (cond b 1 0) 1 → trans ≡ cond b trans chan
      by true q = refl
      by false q = absurd (omega (arith, q))

  pub unit_stays : (m ≡ 1 → ⊥) → chan ≡ unit_by t n chan
  unfolding moves_by unit_by
  unit_stays h = by (eqb n 3 || (eqb n 1 && is_taken t chan)) (sym e)
    where
      by : (b : Bool) → cond b 1 0 ≡ m → chan ≡ cond b trans chan
      by true q = absurd (h (sym q))
      by false q = refl

-- ---- the issue kinds in one number

module _ (hi : PerInstruction) where
  -- its digits, which say how many instructions there are
  pub record Digits (m n : ℕ) : Type 0 where
    pub plain : ℕ
    pub sums : n ≡ plain + 16 * issued Predicate hi m + 256 * issued Kill hi m + 4096 * issued Mova hi m + 65536 * issued Reduction hi m
    pub all : m ≡ plain + issued Predicate hi m + issued Kill hi m + issued Mova hi m + issued Reduction hi m

  one_more_lem :
      (i : Issue) (m n a b d e f : ℕ) → n ≡ a + 16 * b + 256 * d + 4096 * e + 65536 * f → m ≡ a + b + d + e + f
      → (n + 16 ^ issue_number i ≡ cond (is_issue i Plain) (suc a) a + 16 * cond (is_issue i Predicate) (suc b) b + 256 * cond (is_issue i Kill) (suc d) d + 4096 * cond (is_issue i Mova) (suc e) e + 65536 * cond (is_issue i Reduction) (suc f) f)
      × (suc m ≡ cond (is_issue i Plain) (suc a) a + cond (is_issue i Predicate) (suc b) b + cond (is_issue i Kill) (suc d) d + cond (is_issue i Mova) (suc e) e + cond (is_issue i Reduction) (suc f) f)
  one_more_lem Plain m n a b d e f p q = (omega arith, omega arith)
  one_more_lem Predicate m n a b d e f p q = (omega arith, omega arith)
  one_more_lem Kill m n a b d e f p q = (omega arith, omega arith)
  one_more_lem Mova m n a b d e f p q = (omega arith, omega arith)
  one_more_lem Reduction m n a b d e f p q = (omega arith, omega arith)

  pub digits : (m : ℕ) → Digits m (tally_of hi m)
  unfolding tally_of issued count_below
  digits zero = record { plain = 0; sums = refl; all = refl }
  digits (suc m) =
      let r = digits m in
      let i = (class_of (hi m)).issue in
      let s = one_more_lem i m (tally_of hi m) r.plain (issued Predicate hi m) (issued Kill hi m) (issued Mova hi m) (issued Reduction hi m) r.sums r.all in
      record { plain = cond (is_issue i Plain) (suc r.plain) r.plain; sums = s.0; all = s.1 }

  -- some are counted where one passes
  any_counted : (f : ℕ → Bool) (m : ℕ) → count_below f m ≡ 0 → any_below f m ≡ false
  unfolding count_below any_below
  any_counted f zero h = refl
  any_counted f (suc m) h = by (f m) h (any_counted f m)
    where
      by :
          (b : Bool) → cond b (suc (count_below f m)) (count_below f m) ≡ 0 → (count_below f m ≡ 0 → any_below f m ≡ false)
          → (any_below f m || b) ≡ false
      by true e r = absurd (omega (arith, e))
      by false e r = ap (λ (x : Bool). x || false) (r e)

  -- ---- rule 14

  module _ (lo : PerInstruction) (m : ℕ) (kept : (j : ℕ) → j < m → bad_unit_at hi j ≡ false) where
    pub counted-clear : {t : Taken} {may_kill : Bool} → t ≡ taken_before hi m → Issued lo hi m t may_kill → bad_issues (issues_of lo hi m) m may_kill ≡ false
    unfolding bad_issues issues_of any_reduction issued
    counted-clear {t = t} {may_kill = may_kill} e r =
        join
        (counts_several (issued Predicate hi m + issued Kill hi m) ∙ le-ltb 1 (issued Predicate hi m + issued Kill hi m) r.few)
        r.kills r.movas (by (ltb 0 (issued Reduction hi m)) refl (is_straight hi m t) refl r.reductions)
      where
        join : {a b d f : Bool} → a ≡ false → b ≡ false → d ≡ false → f ≡ false → (a || (b || (d || f))) ≡ false
        join p q s u = λ i. p i || (q i || (s i || u i))

        by :
            (a : Bool) → ltb 0 (issued Reduction hi m) ≡ a → (b : Bool) → is_straight hi m t ≡ b → (a && not b) ≡ false
            → (any_reduction hi m && (ltb m trans || any_uneven hi m)) ≡ false
        by false p b q h =
            ap (λ (x : Bool). x && (ltb m trans || any_uneven hi m))
            (any_counted (λ j. is_issue (class_of (hi j)).issue Reduction) m (omega (arith, ltb-false 0 (issued Reduction hi m) p)))
        by true p true q h = straight-clear hi m kept (sym e) q
        by true p false q h = absurd (false≢true (sym h))

    -- plain instructions, and at most one setter, break nothing
    pub plain-clear : (may_kill : Bool) {t : Taken} → t ≡ taken_before hi m → tally_of hi m < 32 → bad_issues (issues_of lo hi m) m may_kill ≡ false
    plain-clear may_kill {t = t} e l =
        let r = digits m in
        let few = kept_few hi m kept in
        let kill : issued Kill hi m ≡ 0 = omega (arith, l, r.sums) in
        let mova : issued Mova hi m ≡ 0 = omega (arith, l, r.sums) in
        let reduction : issued Reduction hi m ≡ 0 = omega (arith, l, r.sums) in
        counted-clear {t = t} {may_kill = may_kill} e
        (record {
          few = omega (arith, l, r.sums, kill);
          kills = none kill (not may_kill);
          movas = none mova (any_below (λ j. has_relative (lo j) (hi j)) m);
          reductions = none reduction (not (is_straight hi m t));
        })
      where
        none : {n : ℕ} → n ≡ 0 → (b : Bool) → (ltb 0 n && b) ≡ false
        none {n} z b = rw (le-ltb 0 n (omega (arith, z)))
