-- `apart::marks::first_unfit` meets its contract. Assumes nothing.
use native.Mathlib.Omega.{arith}
use mathlib.Core.List.{List}
use mathlib.Core.Path.{◌≡◌, sym, ◌∙◌}
use lib.ListN.{length, replicate, length-replicate}
use Prim.Native.Nat.{ℕ, ◌≤◌}
use Rattle.section.specs.Rules.{clause_at}
use Rattle.apart.proofs.OfApart.{sized_at}
use Rattle.apart.proofs.OfMarks.{searching-none, searching-sized, searching-next, searching-found}
use Rattle.apart.proofs.marks.first_unfit.Goals as goal

-- the marks have room up to the limit
room : (marks : List ℕ) (limit n : ℕ) → length marks ≡ length {A = ℕ} (replicate n 0) → limit ≤ n → limit ≤ length marks
room marks limit n e h = omega (arith, length-replicate {A = ℕ} n 0)

pub loop-p-preserved-in_default : goal.loop-p-preserved-in_default
loop-p-preserved-in_default g c =
    let w = c.args.words.now in
    (searching-none (clause_at w) (sized_at w) c.args.pairs.0 c.args.limit.0 c.loop-p.p _ c.loop-p.invariant.0 c.loop-p-test.true (sym c.clause_at.ensures ∙ c.in_default.is), c.loop-p.invariant.1)

pub is_unfit-requires : goal.is_unfit-requires
is_unfit-requires g c =
    let w = c.args.words.now in
    let sized = searching-sized (clause_at w) (sized_at w) c.args.pairs.0 c.args.limit.0 c.loop-p.p _ c.loop-p.invariant.0 (sym c.clause_at.ensures ∙ c.in-Some.is) c.range.ensures in
    (sized.0, sized.1, room _ _ _ c.loop-p.invariant.1 c.requires.room.0)

pub returns-then-is_unfit : goal.returns-then-is_unfit
returns-then-is_unfit g c =
    let w = c.args.words.now in
    searching-found (clause_at w) (sized_at w) c.args.pairs.0 c.args.limit.0 c.loop-p.p _ c.loop-p.invariant.0 (sym c.clause_at.ensures ∙ c.in-Some.is) c.range.ensures
    c.loop-p-test.true (room _ _ _ c.loop-p.invariant.1 c.requires.room.0) c.is_unfit.ensures c.if-is_unfit.true

pub loop-p-preserved : goal.loop-p-preserved
loop-p-preserved g c =
    let w = c.args.words.now in (
      searching-next (clause_at w) (sized_at w) c.args.pairs.0 c.args.limit.0 c.loop-p.p _ c.loop-p.invariant.0 (sym c.clause_at.ensures ∙ c.in-Some.is) c.range.ensures
          c.loop-p-test.true (room _ _ _ c.loop-p.invariant.1 c.requires.room.0) c.is_unfit.ensures c.if-is_unfit.false,
      c.is_unfit.auto.marks ∙ c.loop-p.invariant.1,
    )
