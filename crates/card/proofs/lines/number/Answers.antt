-- `card::lines::number` meets its contract: the value is a number within limits, or not. Assumes nothing.
use Rattle.std.proofs.Common.{sym, ◌∙◌, refl, arith}
use Rattle.std.proofs.lemmas.Result.{err_from_is_err_and}
use Rattle.card.specs.Text.{value_at}
use Rattle.card.proofs.OfFound.{refused_with}
use Rattle.card.proofs.OfNumbers.{within_some, within_not, within_none}
use Rattle.card.proofs.OfShort.{long_number}
use Rattle.card.proofs.lines.number.Goals as goal

pub returns-in_err-text : goal.returns-in_err-text
returns-in_err-text c =
    let p = err_from_is_err_and c.from_residual.result c.from_residual.ensures.1 in
    rw (p.1, p.2, c.in_err-text.ensures.1)
    (long_number (value_at 1 c.args.key.now c.args.bytes.now) c.args.limits.low c.args.limits.high (omega arith) c.in_err-text.ensures.0, refl)

pub returns-in_err-n : goal.returns-in_err-n
returns-in_err-n c =
    let p = err_from_is_err_and c.from_residual-in_err-n.result c.from_residual-in_err-n.ensures.1 in
    let nothing = c.in_err-n.ensures.ok_part in
    let v = c.in_ok-text.ensures.0 in
    rw (p.1, p.2, v) (
      within_none c.in_ok-text.text.now c.args.limits.low c.args.limits.high (omega arith) (sym nothing ∙ c.read_number.ensures),
      refused_with c.read_number.result nothing c.in_err-n.ensures.value,
    )

pub returns-then-not-allow : goal.returns-then-not-allow
returns-then-not-allow c =
    let v = c.in_ok-text.ensures.0 in
    rw v (
      within_not c.in_ok-text.text.now c.args.limits.low c.args.limits.high (sym c.in_ok-n.ensures.ok_part ∙ c.read_number.ensures)
          (sym c.allow.ensures ∙ c.if-not-allow.true),
      refl,
    )

pub returns : goal.returns
returns c =
    let v = c.in_ok-text.ensures.0 in
    rw v (
      within_some c.in_ok-text.text.now c.args.limits.low c.args.limits.high (sym c.in_ok-n.ensures.ok_part ∙ c.read_number.ensures)
          (sym c.allow.ensures ∙ c.if-not-allow.false),
      c.in_ok-text.ensures.1,
    )
