-- The answers of decoder and encoder by document 01's numbers. Assumes nothing.
use mathlib.Core.Path.{refl}
use mathlib.Core.Bool.{Bool, true, false, cond}
use mathlib.Core.List.{List}
use Prim.Native.Nat.{ℕ, ◌+◌}
use lib.Dec.{eqb}
use lib.ListN.{length, get_or}
use Rattle.units.specs.declared.Words.{Words}
use Rattle.checks.specs.Verdict.{Accepted}
use Rattle.opcodes.specs.Numbers.{cf_alu_control, cf_control, is_taken, is_export}
use Rattle.opcodes.specs.Alu.{op2_class, op3_class}
use Rattle.opcodes.specs.Alu as class
use Rattle.formats.specs.Fields.{◌of◌, CF_ALU_MARK, CF_ALU_INST, CF_INST, OP3_MARK, OP2_INST, OP3_INST}
use Rattle.laws.proofs.OfTests.{by_test_lem}
use Rattle.microcode.specs.declared.Instruction.{Instruction}
use Rattle.microcode.specs.declared.DecodeError.TheVariants.{NotTaken}
use Rattle.std.specs.Prelude.{Option, Some, None, Ok, Err}
use Rattle.microcode.specs.declared.Stream.{Stream}
use Rattle.microcode.specs.declared.Stream.TheVariants.{ControlFlow, Alu}
use Rattle.microcode.specs.Pair.{opener_pair_of, plain_pair_of, op2_pair_of, op3_pair_of, pair_of, number_taken}
use Rattle.microcode.specs.Buffer.{room, decode_of, write_answer, not_taken, refused, decoded_verdict, encoded_verdict, Answers, decode_number, write_number}
use Rattle.microcode.proofs.RoundTrip.{export_is_taken}

pub accepted_0 : Answers Accepted 0
accepted_0 = record { number = refl; place = refl; slot = refl }

pub refused_by : (rule : ℕ) → Answers (refused rule) rule
refused_by rule = record { number = refl; place = refl; slot = refl }

-- ---- a pair

by_number : (s : Stream) (i : Instruction) (taken : Bool) → Answers (decoded_verdict s (cond taken (Ok i) (Err NotTaken))) (cond taken 0 (not_taken s))
by_number s i true = accepted_0
by_number s i false = refused_by (not_taken s)

module _ (lo hi : ℕ) where
  opener_number : Answers (decoded_verdict ControlFlow (opener_pair_of lo hi)) (cond (is_taken (cf_alu_control (CF_ALU_INST of hi))) 0 (not_taken ControlFlow))
  opener_number = by_number ControlFlow _ (is_taken (cf_alu_control (CF_ALU_INST of hi)))

  plain_number : Answers (decoded_verdict ControlFlow (plain_pair_of lo hi)) (cond (is_taken (cf_control (CF_INST of hi))) 0 (not_taken ControlFlow))
  plain_number =
      by_test_lem (is_export (cf_control (CF_INST of hi)))
      (λ t. rw (t, export_is_taken (cf_control (CF_INST of hi)) t) accepted_0)
      (λ t. rw t (by_number ControlFlow _ (is_taken (cf_control (CF_INST of hi)))))

  op2_number : Answers (decoded_verdict Alu (op2_pair_of lo hi)) (cond (class.is_taken (op2_class (OP2_INST of hi))) 0 (not_taken Alu))
  op2_number = by_number Alu _ (class.is_taken (op2_class (OP2_INST of hi)))

  op3_number : Answers (decoded_verdict Alu (op3_pair_of lo hi)) (cond (class.is_taken (op3_class (OP3_INST of hi))) 0 (not_taken Alu))
  op3_number = by_number Alu _ (class.is_taken (op3_class (OP3_INST of hi)))

  -- a record exactly if the pair's number is taken in its stream, and 4 or 11 otherwise
  pub pair_number : (s : Stream) → Answers (decoded_verdict s (pair_of s lo hi)) (cond (number_taken s hi) 0 (not_taken s))
  pair_number ControlFlow = by_test_lem (eqb (CF_ALU_MARK of hi) 1) (λ t. rw t opener_number) (λ t. rw t plain_number)
  pair_number Alu = by_test_lem (eqb (OP3_MARK of hi) 0) (λ t. rw t op2_number) (λ t. rw t op3_number)

-- ---- at a start of a buffer

pub decode_number_lem : (s : Stream) (l : List ℕ) (start : Words) → Answers (decoded_verdict s (decode_of s l start)) (decode_number s l start)
decode_number_lem s l start =
    by_test_lem (room 2 l start.0)
    (λ t. rw t (pair_number (get_or l start.0 0) (get_or l (start.0 + 1) 0) s))
    (λ t. rw t (refused_by 2))

pub write_number_lem : (w : Option (List ℕ)) (l : List ℕ) (start : Words) → Answers (encoded_verdict (write_answer w l start)) (write_number w l start)
write_number_lem None l start = refused_by 21
write_number_lem (Some ws) l start =
    by_test_lem (room (length ws) l start.0) (λ t. rw t accepted_0) (λ t. rw t (refused_by 20))
