-- `clauses::screen::Tally::breaks_counted` meets its contract, question by question. Assumes nothing.
use Rattle.std.proofs.Common.{◌≡◌, ◌+◌, ◌-◌, ◌*◌, ◌/◌, ◌%◌, ◌≤◌, length, not, ◌&&◌, ltb, ap, ◌∙◌, arith}
use Rattle.units.specs.Units.{quadwords}
use Rattle.instructions.specs.Instruction.{has_relative}
use Rattle.groups.specs.Group.{any_below}
use Rattle.groups.specs.Code.{is_straight}
use Rattle.clauses.specs.Clause.{low_of, high_of}
use Rattle.clauses.specs.CodeScreen.{size_in}
use Rattle.clauses.proofs.OfSlice.{relative_in, straight_in}
use Rattle.clauses.proofs.OfScreen.{asked, unasked, issues_kept}
use Rattle.clauses.proofs.screen.Tally.breaks_counted.Goals as goal
use Rattle.clauses.proofs.screen.Tally.breaks_counted.Goals.{then-issued-gt0, else-issued-gt0, then-issued-gt0-2, else-issued-gt0-2}

pub returns : goal.returns
returns c e =
    let a = c.args in
    let w = a.words.now in
    let r = c.requires in
    let n = a.self.issued in
    let size = size_in n in
    let first = a.at + 1 - size in
    let room : 2 * (first + size) ≤ length w = omega (arith, r.some, r.inside) in
    let from : 2 * (a.at + 1 - c.size_in.result) ≡ 2 * first = omega (arith, c.size_in.ensures) in
    let count : 2 * a.at + 2 - 2 * (a.at + 1 - c.size_in.result) ≡ 2 * size = omega (arith, c.size_in.ensures, r.some) in
    let relative = any_below (λ j. has_relative (low_of w (quadwords first) j) (high_of w (quadwords first) j)) size in
    let uneven = not (is_straight (high_of w (quadwords first)) size a.self.taken) in
    let mova : c.if-issued-gt0.wrong_mova ≡ (ltb 0 (n / 4096 % 16) && relative) =
    elim c.if-issued-gt0.branch [
      | then-issued-gt0 b ↦ asked (n / 4096 % 16) b.if-issued-gt0.true (b.wrong_mova-is ∙ b.has_relative-wrong_mova.ensures ∙ relative_in w first size room from count)
      | else-issued-gt0 b ↦ unasked (n / 4096 % 16) relative b.if-issued-gt0.false b.wrong_mova-is
    ] in
    let reduction : c.if-issued-gt0-2.wrong_reduction ≡ (ltb 0 (n / 65536) && uneven) =
    elim c.if-issued-gt0-2.branch [
      | then-issued-gt0-2 b ↦ asked (n / 65536) b.if-issued-gt0-2.true (b.wrong_reduction-is ∙ ap not (b.is_straight.ensures ∙ straight_in w first size room from count a.self.taken))
      | else-issued-gt0-2 b ↦ unasked (n / 65536) uneven b.if-issued-gt0-2.false b.wrong_reduction-is
    ] in
    issues_kept w a.at n a.self.taken r c.if-issued-kills-gt1.false c.if-kills-may_kill.false mova reduction e
