-- `explain::explain_bytes` meets its contract: by what the card says. Assumes nothing.
use mathlib.Core.Path.{sym, ◌∙◌}
use Rattle.explain.proofs.OfExplain.{whole_card, bad_card}
use Rattle.explain.proofs.explain_bytes.Goals as goal

pub returns-in-Ok : goal.returns-in-Ok
returns-in-Ok c =
    let a = c.args in
    let both = whole_card a.bytes.now a.words.now (sym c.read_card.ensures ∙ c.in-Ok.is) c.explain.ensures.value in
    record { value = both.0; explains_bytes = both.1 }

pub returns-in-Err : goal.returns-in-Err
returns-in-Err c =
    let a = c.args in
    let both = bad_card a.bytes.now a.words.now (sym c.read_card.ensures ∙ c.in-Err.is) c.bad_line.ensures in
    record { value = both.0; explains_bytes = both.1 }
