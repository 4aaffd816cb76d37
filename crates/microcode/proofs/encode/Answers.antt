-- `microcode::encode` meets its contract: what is written is decoded again. Assumes nothing.
use mathlib.Core.Path.{◌≡◌}
use Rattle.microcode.specs.Answer.{Done}
use Rattle.microcode.specs.Buffer.{encode_answer, encode_words}
use Rattle.microcode.proofs.RoundTrip.{record_again_at}
use Rattle.microcode.proofs.encode.Goals as goal

pub returns-clause-start_after : goal.returns-clause-start_after
returns-clause-start_after c =
    let i = c.args.i in
    let l = c.args.out.now in
    let start = c.args.start in
    λ h.
    let done : encode_answer i l start ≡ Done = cc c.write.ensures.value in
    let written : c.write.new.out ≡ encode_words i l start = cc c.write.ensures.out_after in
    rw written (record_again_at i l start done)
