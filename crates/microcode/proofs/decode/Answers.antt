-- `microcode::decode` meets its contract: what is decoded is written again as it stands there. Assumes nothing.
use mathlib.Core.Path.{sym, ap, ◌∙◌}
use Rattle.std.specs.Prelude.{Ok}
use Rattle.microcode.proofs.RoundTrip.{words_again}
use Rattle.microcode.proofs.decode.Goals as goal

pub returns-clause-rewritten : goal.returns-clause-rewritten
returns-clause-rewritten c =
    let a = c.args in
    λ i h.
    words_again i a.words.now a.start a.stream (λ k. (c.type_inv.words k).fits)
    (sym c.in_ok-found.ensures ∙ ap Ok (sym c.record.ensures) ∙ h)
