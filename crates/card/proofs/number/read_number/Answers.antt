-- `card::number::read_number` meets its contract: the bytes are digits, or one is none, or the number grows too large. Assumes nothing.
use Rattle.std.proofs.Common.{sym, ◌∙◌, subst, ◌≡◌, ℕ, get_or, ◌+◌, ◌-◌, ◌*◌, arith}
use Rattle.card.proofs.OfNumbers.{Counted, read_malformed, read_other, read_over, read_all, counted_more}
use Rattle.card.proofs.number.read_number.Goals as goal

pub returns-then-is_malformed : goal.returns-then-is_malformed
returns-then-is_malformed c = read_malformed _ _ (sym c.is_malformed.ensures ∙ c.if-is_malformed.true)

pub returns-then-not-is_ascii_digit : goal.returns-then-not-is_ascii_digit
returns-then-not-is_ascii_digit c =
    read_other _ _ _ c.loop-b.invariant.1 c.loop-b-test.true (sym c.is_ascii_digit.ensures.value ∙ c.if-not-is_ascii_digit.true)

pub returns-in_err-checked_mul : goal.returns-in_err-checked_mul
returns-in_err-checked_mul c =
    c.from_residual.ensures
    ∙ read_over _ _ _ c.loop-b.invariant.1 c.loop-b-test.true (sym c.is_ascii_digit.ensures.value ∙ c.if-not-is_ascii_digit.false)
    (omega (arith, c.in_err-checked_mul.ensures))

pub returns-in_err-n : goal.returns-in_err-n
returns-in_err-n c =
    c.from_residual-in_err-n.ensures
    ∙ read_over _ _ _ c.loop-b.invariant.1 c.loop-b-test.true (sym c.is_ascii_digit.ensures.value ∙ c.if-not-is_ascii_digit.false)
    (omega (arith, c.in_ok-checked_mul.ensures, c.in_err-n.ensures))

pub loop-b-preserved : goal.loop-b-preserved
loop-b-preserved c =
    let t = c.args.text.now in
    let i = c.loop-b.b-index in
    let e : c.loop-b.n * 10 + (get_or t i 0 - 48) ≡ c.in_ok-n.n = omega (arith, c.in_ok-checked_mul.ensures, c.in_ok-n.ensures) in (
      omega (arith, c.in_ok-checked_mul.ensures, c.in_ok-n.ensures),
      subst (λ (n : ℕ). Counted t n (i + 1)) e
          (counted_more _ _ _ c.loop-b-test.true c.loop-b.invariant.1 (sym c.is_ascii_digit.ensures.value ∙ c.if-not-is_ascii_digit.false)),
    )

pub returns : goal.returns
returns c =
    read_all c.args.text.now c.loop-b.n c.loop-b.b-index c.loop-b.invariant.1 (omega arith)
    (sym c.is_malformed.ensures ∙ c.if-is_malformed.false) (omega arith)
