-- `codec_for_c::pair_rows::encode_alu` meets its contract: the form picks the case. Assumes nothing.
use mathlib.Core.Path.{◌∙◌}
use native.Mathlib.Omega.{arith}
use Rattle.formats.specs.Alu as alu
use Rattle.microcode.specs.declared.Instruction.TheVariants.{Op2, Op3}
use Rattle.microcode.specs.Pair.{words_of}
use Rattle.codec_for_c.proofs.OfCodec.{encoded_answer, encoded_after, form_3, form_4}
use Rattle.codec_for_c.proofs.pair_rows.encode_alu.Goals as goal

pub returns-in-3-clause-value : goal.returns-in-3-clause-value
returns-in-3-clause-value c =
    let row = c.args.row.now in
    encoded_answer row c.args.words.now c.args.start (Op2 (alu.word0_at 1 row) (alu.op2_at 12 row)) (omega arith) (omega arith) (form_3 row c.in-3.is)
    (c.of_op2.ensures ∙ (λ i. words_of (Op2 (c.get_two.ensures.first i) (c.get_two.ensures.second i)))) c.write.ensures.value

pub returns-in-3-clause-words_after : goal.returns-in-3-clause-words_after
returns-in-3-clause-words_after c =
    let row = c.args.row.now in
    encoded_after row c.args.words.now c.args.start (Op2 (alu.word0_at 1 row) (alu.op2_at 12 row)) (omega arith) (omega arith) (form_3 row c.in-3.is)
    (c.of_op2.ensures ∙ (λ i. words_of (Op2 (c.get_two.ensures.first i) (c.get_two.ensures.second i)))) c.write.ensures.out_after

pub returns-in-4-clause-value : goal.returns-in-4-clause-value
returns-in-4-clause-value c =
    let row = c.args.row.now in
    encoded_answer row c.args.words.now c.args.start (Op3 (alu.word0_at 1 row) (alu.op3_at 12 row)) (omega arith) (omega arith) (form_4 row c.in-4.is)
    (c.of_op3.ensures ∙ (λ i. words_of (Op3 (c.get_two-in-4.ensures.first i) (c.get_two-in-4.ensures.second i)))) c.write-in-4.ensures.value

pub returns-in-4-clause-words_after : goal.returns-in-4-clause-words_after
returns-in-4-clause-words_after c =
    let row = c.args.row.now in
    encoded_after row c.args.words.now c.args.start (Op3 (alu.word0_at 1 row) (alu.op3_at 12 row)) (omega arith) (omega arith) (form_4 row c.in-4.is)
    (c.of_op3.ensures ∙ (λ i. words_of (Op3 (c.get_two-in-4.ensures.first i) (c.get_two-in-4.ensures.second i)))) c.write-in-4.ensures.out_after
