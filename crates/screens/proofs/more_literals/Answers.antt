-- `screens::more_literals` meets its contract: the literals of an instruction that has one are as many as the code says. Assumes nothing.
use Rattle.std.proofs.Common.{◌≡◌, ◌+◌, max, Bool, true, false, cond, sym, refl, ap, ◌∙◌}
use mir.Val.{bool_byte}
use Rattle.screens.specs.Code.{asks_second}
use Rattle.screens.proofs.OfGaps.{literal_asked}
use Rattle.screens.proofs.more_literals.Goals as goal

one_or_two : (b : Bool) → 1 + bool_byte b ≡ cond b 2 1
one_or_two true = refl
one_or_two false = refl

pub returns-then-asks_literal : goal.returns-then-asks_literal
returns-then-asks_literal c =
    let a = c.args in
    c.max.ensures
    ∙ ap (max a.so_far) (ap (λ (b : Bool). 1 + bool_byte b) c.asks_second.ensures ∙ one_or_two (asks_second a.low a.high))
    ∙ literal_asked a.low a.high a.so_far (sym c.asks_literal.ensures ∙ c.if-asks_literal.true)
