-- The five forms of a word pair: which instruction two words hold, and which words an instruction has. Document 01, "Control-flow
-- words" and "Groups of ALU slots"; the fields are those of the tables in Cf, CfAlu, Export and Alu of crate formats.
use Rattle.std.specs.Prelude.{ℕ, Bool, cond, not, ◌&&◌, eqb, List, [], ◌∷◌, Option, Some, None, Ok, Err}
use Rattle.bits.specs.Tables.{word_of, fits_table}
use Rattle.opcodes.specs.Numbers.{cf_alu_control, cf_control, is_taken, is_export}
use Rattle.opcodes.specs.Alu.{op2_class, op3_class}
use Rattle.opcodes.specs.Alu as class
use Rattle.formats.specs.Fields.{◌of◌, CF_ALU_MARK, CF_ALU_INST, CF_INST, OP3_MARK, OP2_INST, OP3_INST}
use Rattle.formats.specs.Cf as cf
use Rattle.formats.specs.CfAlu as cf_alu
use Rattle.formats.specs.Export as export
use Rattle.formats.specs.Alu as alu
use Rattle.microcode.specs.declared.Instruction.{Instruction}
use Rattle.microcode.specs.declared.Instruction.TheVariants.{CfAlu, Cf, Export, Op2, Op3}
use Rattle.microcode.specs.declared.DecodeError.TheVariants.{NotTaken}
use Rattle.microcode.specs.declared.Stream.{Stream}
use Rattle.microcode.specs.declared.Stream.TheVariants as stream
use Rattle.microcode.specs.Answer.{Decoded}

-- ---- from words

-- an ALU clause opener
abbrev pub opener_pair_of : ℕ → ℕ → Decoded
opener_pair_of lo hi =
    cond (is_taken (cf_alu_control (CF_ALU_INST of hi))) (Ok (CfAlu (cf_alu.word0_of lo) (cf_alu.word1_of hi))) (Err NotTaken)

-- any other control-flow pair; exports have a layout of their own
abbrev pub plain_pair_of : ℕ → ℕ → Decoded
plain_pair_of lo hi =
    cond (is_export (cf_control (CF_INST of hi))) (Ok (Export (export.word0_of lo) (export.word1_of hi)))
    (cond (is_taken (cf_control (CF_INST of hi))) (Ok (Cf (cf.word0_of lo) (cf.word1_of hi))) (Err NotTaken))

-- an ALU clause opener has high bit 29 set
abbrev pub cf_pair_of : ℕ → ℕ → Decoded
cf_pair_of lo hi = cond (eqb (CF_ALU_MARK of hi) 1) (opener_pair_of lo hi) (plain_pair_of lo hi)

abbrev pub op2_pair_of : ℕ → ℕ → Decoded
op2_pair_of lo hi =
    cond (class.is_taken (op2_class (OP2_INST of hi))) (Ok (Op2 (alu.word0_of lo) (alu.op2_of hi))) (Err NotTaken)

abbrev pub op3_pair_of : ℕ → ℕ → Decoded
op3_pair_of lo hi =
    cond (class.is_taken (op3_class (OP3_INST of hi))) (Ok (Op3 (alu.word0_of lo) (alu.op3_of hi))) (Err NotTaken)

-- OP2 if high bits 17:15 are 0, else OP3
abbrev pub alu_pair_of : ℕ → ℕ → Decoded
alu_pair_of lo hi = cond (eqb (OP3_MARK of hi) 0) (op2_pair_of lo hi) (op3_pair_of lo hi)

abbrev pub pair_of : Stream → ℕ → ℕ → Decoded
pair_of stream.ControlFlow lo hi = cf_pair_of lo hi
pair_of stream.Alu lo hi = alu_pair_of lo hi

-- ---- the number of a pair is taken, by its high word. `pair_of` gives a record exactly then (`pair_number`, proofs/OfNumbers.antt)

abbrev pub cf_number_taken : ℕ → Bool
cf_number_taken hi =
    cond (eqb (CF_ALU_MARK of hi) 1) (is_taken (cf_alu_control (CF_ALU_INST of hi))) (is_taken (cf_control (CF_INST of hi)))

abbrev pub alu_number_taken : ℕ → Bool
alu_number_taken hi =
    cond (eqb (OP3_MARK of hi) 0) (class.is_taken (op2_class (OP2_INST of hi))) (class.is_taken (op3_class (OP3_INST of hi)))

abbrev pub number_taken : Stream → ℕ → Bool
number_taken stream.ControlFlow hi = cf_number_taken hi
number_taken stream.Alu hi = alu_number_taken hi

-- ---- to words

-- the stream that a form stands in
abbrev pub stream_of : Instruction → Stream
stream_of (CfAlu a b) = stream.ControlFlow
stream_of (Cf a b) = stream.ControlFlow
stream_of (Export a b) = stream.ControlFlow
stream_of (Op2 a b) = stream.Alu
stream_of (Op3 a b) = stream.Alu

-- no field exceeds its width
abbrev pub fields_fit : Instruction → Bool
fields_fit (CfAlu a b) = fits_table cf_alu.word0_table (cf_alu.word0_values a) && fits_table cf_alu.word1_table (cf_alu.word1_values b)
fields_fit (Cf a b) = fits_table cf.word0_table (cf.word0_values a) && fits_table cf.word1_table (cf.word1_values b)
fields_fit (Export a b) = fits_table export.word0_table (export.word0_values a) && fits_table export.word1_table (export.word1_values b)
fields_fit (Op2 a b) = fits_table alu.word0_table (alu.word0_values a) && fits_table alu.op2_table (alu.op2_values b)
fields_fit (Op3 a b) = fits_table alu.word0_table (alu.word0_values a) && fits_table alu.op3_table (alu.op3_values b)

-- the record is of a taken form: its number is one that the form takes, so no words read back as another form
abbrev pub form_taken : Instruction → Bool
form_taken (CfAlu a b) = is_taken (cf_alu_control b.cf_inst)
form_taken (Cf a b) = is_taken (cf_control b.cf_inst) && not (is_export (cf_control b.cf_inst))
form_taken (Export a b) = is_export (cf_control b.cf_inst)
form_taken (Op2 a b) = class.is_taken (op2_class b.alu_inst)
form_taken (Op3 a b) = class.is_taken (op3_class b.alu_inst)

abbrev pub encodable : Instruction → Bool
encodable i = fields_fit i && form_taken i

abbrev pub low_of : Instruction → ℕ
low_of (CfAlu a b) = word_of cf_alu.word0_table (cf_alu.word0_values a)
low_of (Cf a b) = word_of cf.word0_table (cf.word0_values a)
low_of (Export a b) = word_of export.word0_table (export.word0_values a)
low_of (Op2 a b) = word_of alu.word0_table (alu.word0_values a)
low_of (Op3 a b) = word_of alu.word0_table (alu.word0_values a)

abbrev pub high_of : Instruction → ℕ
high_of (CfAlu a b) = word_of cf_alu.word1_table (cf_alu.word1_values b)
high_of (Cf a b) = word_of cf.word1_table (cf.word1_values b)
high_of (Export a b) = word_of export.word1_table (export.word1_values b)
high_of (Op2 a b) = word_of alu.op2_table (alu.op2_values b)
high_of (Op3 a b) = word_of alu.op3_table (alu.op3_values b)

-- two words, where they are a record's
abbrev pub words_if : Bool → ℕ → ℕ → Option (List ℕ)
words_if is_record low high = cond is_record (Some (low ∷ high ∷ [])) None

-- what the encoder makes of a record
abbrev pub words_of : Instruction → Option (List ℕ)
words_of i = words_if (encodable i) (low_of i) (high_of i)
