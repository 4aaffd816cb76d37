-- What words and pairs that break none of rules 2 to 7 are sure of, for the claim about the walk. Assumes nothing.
use mathlib.Core.Path.{◌≡◌, refl, sym, ◌∙◌}
use mathlib.Core.Bool.{Bool, true, false, cond, not, ◌&&◌, ◌||◌, true≢false}
use mathlib.Core.List.{List, [], Memᴰ}
use Prim.Native.Nat.{ℕ, zero, suc, ◌+◌, ◌*◌, ◌≤◌, ◌<◌}
use native.Mathlib.Omega.{arith}
use lib.Dec.{eqb, ltb}
use lib.ListN.{length}
use borrow.Author.Tests.{eqb-true, ltb-true, leb-true, lt-ltb, not-false}
use Rattle.units.specs.declared.Quadwords.{Quadwords}
use Rattle.units.specs.Units.{range_end, is_below, is_at_most}
use Rattle.card.specs.declared.Kind.{Kind}
use Rattle.grants.specs.declared.Limits.{Limits}
use Rattle.grants.specs.Grants.{Name, granted, all_granted}
use Rattle.grants.proofs.OfGrants.{each_granted}
use Rattle.formats.specs.Fields.{◌of◌, BIT_20, END_OF_PROGRAM, «TYPE», ARRAY_BASE, BURST_COUNT, RW_GPR, RW_REL}
use Rattle.opcodes.specs.declared.cf.FetchKind.{FetchKind}
use Rattle.opcodes.specs.declared.cf.Control.{Control}
use Rattle.opcodes.specs.declared.cf.Control.TheVariants.{NotTaken, Nop, Fetch, Branch, Export, Alu}
use Rattle.opcodes.specs.Numbers.{is_export}
use Rattle.laws.proofs.OfTests.{both, neither, or_right}
use Rattle.section.specs.declared.Range.{Range}
use Rattle.section.specs.Control.{is_alu_opener, is_end, control_of}
use Rattle.section.specs.Rules.{bad_length, is_not_taken, bad_modes, bad_branch, bad_field, outside, bad_target, bad_selectors, bad_export_register, export_rule, bad_export, registers_from, export_names}
use Rattle.section.proofs.OfControl.{is_alu, not_alu}

-- ---- 2

pub length_right : (w : List ℕ) (quads : Quadwords) → bad_length w quads ≡ false → length w ≡ 2 * quads.0
unfolding bad_length
length_right w quads h = eqb-true (length w) (2 * quads.0) (not-false (eqb (length w) (2 * quads.0)) h)

-- ---- 4 and 5: what stands at the end

-- the pairs that may have the end bit: NOP, fetches and exports
pub data MayEnd : Control → Type 0 where
  nop : MayEnd Nop
  fetch : (kind : FetchKind) → MayEnd (Fetch kind)
  export : MayEnd Export

end_bit : (hi : ℕ) → is_end hi ≡ true → eqb (END_OF_PROGRAM of hi) 1 ≡ true
unfolding is_end
end_bit hi h = (both (not (is_alu_opener hi)) (eqb (END_OF_PROGRAM of hi) 1) h).1

-- the end is no ALU clause opener
pub end_no_opener : (hi : ℕ) → is_end hi ≡ true → is_alu_opener hi ≡ false
unfolding is_end
end_no_opener hi h = by (is_alu_opener hi) (both (not (is_alu_opener hi)) (eqb (END_OF_PROGRAM of hi) 1) h).0
  where
    by : (t : Bool) → not t ≡ true → t ≡ false
    by true e = sym e
    by false e = refl

branch_at_end : (hi : ℕ) → is_end hi ≡ true → bad_branch hi ≡ true
unfolding bad_branch
branch_at_end hi h = or_right (eqb (BIT_20 of hi) 1 || bad_modes hi) (eqb (END_OF_PROGRAM of hi) 1) (end_bit hi h)

may_end : (c : Control) (hi : ℕ) → bad_branch hi ≡ true → is_alu c ≡ false → is_not_taken c ≡ false → bad_field c hi ≡ false → MayEnd c
unfolding is_not_taken bad_field
may_end NotTaken hi b a t f = absurd (true≢false t)
may_end Nop hi b a t f = nop
may_end (Fetch kind) hi b a t f = fetch kind
may_end (Branch x) hi b a t f = absurd (true≢false (sym b ∙ f))
may_end Export hi b a t f = export
may_end (Alu push pops) hi b a t f = absurd (true≢false a)

-- an end that breaks neither 4 nor 5 is one of them
pub at_end : (hi : ℕ) → is_end hi ≡ true → is_not_taken (control_of hi) ≡ false → bad_field (control_of hi) hi ≡ false → MayEnd (control_of hi)
at_end hi h t f = may_end (control_of hi) hi (branch_at_end hi h) (not_alu hi (end_no_opener hi h)) t f

-- ---- 6: a range that is not outside starts behind e and ends by quads

pub inside : (e quads : Quadwords) (r : Range) → outside e quads r ≡ false → (e.0 < r.start.0) × (r.start.0 + r.size.0 ≤ quads.0)
unfolding outside
inside e quads r h =
    let sides = neither (not (is_below e r.start)) (not (is_at_most (range_end r.start r.size) quads)) h in (
      ltb-true e.0 r.start.0 (not-false (is_below e r.start) sides.0),
      leb-true (r.start.0 + r.size.0) quads.0 (not-false (is_at_most (range_end r.start r.size) quads) sides.1),
    )

-- ---- 7: every register that an export names is granted

all_below_lem : (l : Limits) (r n : ℕ) → r + n ≤ l.gprs → all_granted l (registers_from r n) ≡ true
all_below_lem l r zero h = refl
all_below_lem l r (suc n) h = rw (lt-ltb r l.gprs (omega arith)) (all_below_lem l (suc r) n (omega arith))

module _ (c : Control) (kind : Kind) (l : Limits) (gprs lo hi : ℕ) (g : l.gprs ≡ gprs) (clean : bad_export c kind gprs lo hi ≡ false) where
  pub export_granted : all_granted l (export_names c lo hi) ≡ true
  unfolding bad_export export_names export_rule bad_export_register
  export_granted = by (is_export c) (eqb (RW_REL of lo) 0) clean
    where
      by : (t u : Bool) → t && (bad_target kind («TYPE» of lo) (ARRAY_BASE of lo) (BURST_COUNT of hi) || bad_selectors hi || (u && not (ltb (RW_GPR of lo + BURST_COUNT of hi) gprs))) ≡ false → all_granted l (cond (t && u) (registers_from (RW_GPR of lo) (suc (BURST_COUNT of hi))) []) ≡ true
      by false u h = refl
      by true false h = refl
      by true true h =
          let others = bad_target kind («TYPE» of lo) (ARRAY_BASE of lo) (BURST_COUNT of hi) || bad_selectors hi in
          let last : RW_GPR of lo + BURST_COUNT of hi < gprs =
          ltb-true (RW_GPR of lo + BURST_COUNT of hi) gprs
          (not-false (ltb (RW_GPR of lo + BURST_COUNT of hi) gprs)
          (neither others (not (ltb (RW_GPR of lo + BURST_COUNT of hi) gprs)) h).1)
          in
          all_below_lem l (RW_GPR of lo) (suc (BURST_COUNT of hi)) (omega arith)

  pub each_export_granted : (r : Name) → Memᴰ r (export_names c lo hi) → granted l r ≡ true
  each_export_granted r m = each_granted l (export_names c lo hi) export_granted r m
