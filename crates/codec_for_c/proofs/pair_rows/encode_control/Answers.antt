-- `codec_for_c::pair_rows::encode_control` meets its contract: the form picks the case. Assumes nothing.
use mathlib.Core.Path.{◌∙◌}
use native.Mathlib.Omega.{arith}
use Rattle.formats.specs.Cf as cf
use Rattle.formats.specs.CfAlu as cf_alu
use Rattle.formats.specs.Export as export
use Rattle.microcode.specs.declared.Instruction.TheVariants.{CfAlu, Cf, Export}
use Rattle.microcode.specs.Pair.{words_of}
use Rattle.codec_for_c.proofs.OfCodec.{encoded_answer, encoded_after, form_0, form_1, form_2}
use Rattle.codec_for_c.proofs.pair_rows.encode_control.Goals as goal

pub returns-in-0-clause-value : goal.returns-in-0-clause-value
returns-in-0-clause-value c =
    let row = c.args.row.now in
    encoded_answer row c.args.words.now c.args.start (CfAlu (cf_alu.word0_at 1 row) (cf_alu.word1_at 5 row)) (omega arith) (omega arith) (form_0 row c.in-0.is)
    (c.of_cf_alu.ensures ∙ (λ i. words_of (CfAlu (c.get_two.ensures.first i) (c.get_two.ensures.second i)))) c.write.ensures.value

pub returns-in-0-clause-words_after : goal.returns-in-0-clause-words_after
returns-in-0-clause-words_after c =
    let row = c.args.row.now in
    encoded_after row c.args.words.now c.args.start (CfAlu (cf_alu.word0_at 1 row) (cf_alu.word1_at 5 row)) (omega arith) (omega arith) (form_0 row c.in-0.is)
    (c.of_cf_alu.ensures ∙ (λ i. words_of (CfAlu (c.get_two.ensures.first i) (c.get_two.ensures.second i)))) c.write.ensures.out_after

pub returns-in-1-clause-value : goal.returns-in-1-clause-value
returns-in-1-clause-value c =
    let row = c.args.row.now in
    encoded_answer row c.args.words.now c.args.start (Cf (cf.word0_at 1 row) (cf.word1_at 2 row)) (omega arith) (omega arith) (form_1 row c.in-1.is)
    (c.of_cf.ensures ∙ (λ i. words_of (Cf (c.get_two-in-1.ensures.first i) (c.get_two-in-1.ensures.second i)))) c.write-in-1.ensures.value

pub returns-in-1-clause-words_after : goal.returns-in-1-clause-words_after
returns-in-1-clause-words_after c =
    let row = c.args.row.now in
    encoded_after row c.args.words.now c.args.start (Cf (cf.word0_at 1 row) (cf.word1_at 2 row)) (omega arith) (omega arith) (form_1 row c.in-1.is)
    (c.of_cf.ensures ∙ (λ i. words_of (Cf (c.get_two-in-1.ensures.first i) (c.get_two-in-1.ensures.second i)))) c.write-in-1.ensures.out_after

pub returns-in_default-clause-value : goal.returns-in_default-clause-value
returns-in_default-clause-value c =
    let row = c.args.row.now in
    encoded_answer row c.args.words.now c.args.start (Export (export.word0_at 1 row) (export.word1_at 7 row)) (omega arith) (omega arith) (form_2 row (omega arith))
    (c.of_export.ensures ∙ (λ i. words_of (Export (c.get_two-in_default.ensures.first i) (c.get_two-in_default.ensures.second i)))) c.write-in_default.ensures.value

pub returns-in_default-clause-words_after : goal.returns-in_default-clause-words_after
returns-in_default-clause-words_after c =
    let row = c.args.row.now in
    encoded_after row c.args.words.now c.args.start (Export (export.word0_at 1 row) (export.word1_at 7 row)) (omega arith) (omega arith) (form_2 row (omega arith))
    (c.of_export.ensures ∙ (λ i. words_of (Export (c.get_two-in_default.ensures.first i) (c.get_two-in_default.ensures.second i)))) c.write-in_default.ensures.out_after
