-- `apart::marks::is_unfit` meets its contract. Assumes nothing.
use Rattle.std.proofs.Common.{ap, not}
use borrow.Author.Tests.{leb-true, leb-false, not-true, not-false}
use borrow.Rule.Slice.PartMut.{Post-is}
use mathlib.Core.List.{List, ◌++◌}
use mathlib.Core.Path.{sym, ◌∙◌}
use native.Mathlib.Omega.{arith}
use Prim.Native.Nat.{ℕ, ◌+◌}
use lib.ListN.{take}
use Rattle.apart.specs.Code.{outside, within}
use Rattle.apart.proofs.marks.is_unfit.Goals as goal

pub returns-then-not-ends_by : goal.returns-then-not-ends_by
returns-then-not-ends_by c = outside (leb-false _ _ (sym c.ends_by.ensures ∙ not-true _ (ap not c.if-not-ends_by.true)))

pub returns : goal.returns
returns c =
    let s = c.args.range.start.0 in
    within (leb-true _ _ (sym c.ends_by.ensures ∙ not-false _ (ap not c.if-not-ends_by.false)))
    c.has_clash.ensures
    (ap (λ (l : List ℕ). take s c.args.marks.now ++ (c.has_clash.new.marks ++ l)) (Post-is s (s + c.args.range.size.0) c.args.marks.now (omega arith)))
