-- `codec_for_c::fetch_words::TexWord0::lift` meets its contract: values within their widths need no mask. Assumes nothing.
use mathlib.Core.Path.{refl, ◌∙◌}
use lib.Bits.{bit_or}
use Rattle.bits.proofs.OfTables.{lifted_word}
use Rattle.formats.specs.Tex.{word0_fields, word0_table, word0_values}
use Rattle.codec_for_c.proofs.fetch_words.TexWord0Lift.lift.Goals as goal

pub returns : goal.returns
unfolding word0_fields
returns c =
    (λ i. bit_or (bit_or (bit_or (bit_or (bit_or (bit_or (bit_or (bit_or (c.lift.ensures i) (c.lift-2.ensures i)) (c.lift-3.ensures i)) (c.lift-4.ensures i)) (c.lift-5.ensures i)) (c.lift-6.ensures i)) (c.lift-7.ensures i)) (c.lift-8.ensures i)) (c.lift-9.ensures i))
    ∙ lifted_word word0_table refl (word0_values c.args.self) c.requires
