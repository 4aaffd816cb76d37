-- `fetch_codec::encode` meets its contract: what is written is decoded again. Assumes nothing.
use mathlib.Core.Path.{◌≡◌}
use Rattle.microcode.specs.Answer.{Done}
use Rattle.fetch_codec.specs.Buffer.{encode_answer, encode_words}
use Rattle.fetch_codec.proofs.RoundTrip.{record_again_at}
use Rattle.fetch_codec.proofs.encode.Goals as goal

pub returns-clause-start_after : goal.returns-clause-start_after
returns-clause-start_after c =
    let f = c.args.f in
    let l = c.args.out.now in
    let start = c.args.start in
    λ h clause kind.
    let done : encode_answer f l start ≡ Done = cc c.write.ensures.value in
    let written : c.write.new.out ≡ encode_words f l start = cc c.write.ensures.out_after in
    rw written (record_again_at f l start done clause kind)
