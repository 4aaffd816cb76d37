-- `fetch_codec::decode` meets its contract: what is decoded is written again as it stands there. Assumes nothing.
use mathlib.Core.Path.{sym, ap, ◌∙◌}
use Rattle.std.specs.Prelude.{Ok}
use Rattle.fetch_codec.proofs.RoundTrip.{words_again}
use Rattle.fetch_codec.proofs.decode.Goals as goal

pub returns-clause-rewritten : goal.returns-clause-rewritten
returns-clause-rewritten c =
    let a = c.args in
    λ f h.
    words_again f a.words.now a.start a.clause (λ k. (c.type_inv.words k).fits)
    (sym c.in_ok-found.ensures.result_value ∙ ap Ok (sym c.record.ensures) ∙ h)
