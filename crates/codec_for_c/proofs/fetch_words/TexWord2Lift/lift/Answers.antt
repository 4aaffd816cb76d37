-- `codec_for_c::fetch_words::TexWord2::lift` meets its contract: values within their widths need no mask. Assumes nothing.
use mathlib.Core.Path.{refl, ◌∙◌}
use lib.Bits.{bit_or}
use Rattle.bits.proofs.OfTables.{lifted_word}
use Rattle.formats.specs.Tex.{word2_fields, word2_table, word2_values}
use Rattle.codec_for_c.proofs.fetch_words.TexWord2Lift.lift.Goals as goal

pub returns : goal.returns
unfolding word2_fields
returns c =
    (λ i. bit_or (bit_or (bit_or (bit_or (bit_or (bit_or (bit_or (c.lift.ensures i) (c.lift-2.ensures i)) (c.lift-3.ensures i)) (c.lift-4.ensures i)) (c.lift-5.ensures i)) (c.lift-6.ensures i)) (c.lift-7.ensures i)) (c.lift-8.ensures i))
    ∙ lifted_word word2_table refl (word2_values c.args.self) c.requires
