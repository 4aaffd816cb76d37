-- `judge_for_c::zlatomruk_judge` meets its contract, from what it calls and from the bounds of the judge's verdicts. Assumes nothing.
use mathlib.Core.Path.{ap, ◌∙◌}
use native.Mathlib.Omega.{arith}
use Rattle.judge.proofs.OfBounds.{bytes_narrow}
use Rattle.judge_for_c.specs.Packed.{packed}
use Rattle.judge_for_c.proofs.OfPacked.{read_back, zero_accepted}
use Rattle.judge_for_c.proofs.zlatomruk_judge.Goals as goal

pub returns : goal.returns
returns c =
    let judged = c.judge_bytes.ensures in
    let args = c.args in
    let e = c.packed_number.ensures ∙ ap (λ v. packed v 0) judged.value in
    let narrow = bytes_narrow args.card.now args.words.now in
    record {
      value = e;
      read_back = read_back _ narrow 0 (omega arith) e;
      safely_read = λ z. judged.safely_read (judged.value ∙ zero_accepted _ narrow 0 (omega arith) e z);
    }
