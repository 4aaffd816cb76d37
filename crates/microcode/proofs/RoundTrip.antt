-- Decoding and encoding undo each other, both ways: over two words, and at any start of any buffer. Assumes nothing.
use mathlib.Core.Path.{◌≡◌, refl, sym, ap, ap₂, ◌∙◌, subst}
use mathlib.Core.Bool.{Bool, true, false, cond, not, ◌&&◌}
use mathlib.Core.List.{List, [], ◌∷◌, ◌++◌}
use Prim.Native.Nat.{ℕ, ◌+◌, ◌/◌, ◌^◌, ◌≤◌, ◌<◌}
use native.Mathlib.Nat.{div-eq_of_lt, add-zero}
use native.Mathlib.Omega.{arith}
use lib.Dec.{eqb}
use lib.ListN.{length, get_or, take, drop}
use Rattle.microcode.proofs.OfCodec.{length-over, get_or-over, word_more, parts_again}
use borrow.Author.Tests.{eq-eqb, ne_eqb, leb-true, le-leb, not-true}
use Rattle.laws.proofs.OfCases.{impossible}
use Rattle.units.specs.declared.Words.{Words}
use Rattle.bits.specs.Tables.{fits_table}
use Rattle.laws.proofs.OfTests.{both, by_test_lem}
use Rattle.bits.proofs.OfField.{upper_part}
use Rattle.opcodes.specs.declared.cf.Control.{Control}
use Rattle.opcodes.specs.declared.cf.Control.TheVariants as control
use Rattle.opcodes.specs.Numbers.{cf_alu_control, cf_control, is_taken, is_export}
use Rattle.opcodes.specs.Alu.{op2_class, op3_class}
use Rattle.opcodes.specs.Alu as class
use Rattle.opcodes.proofs.OfTaken.{cf_alu_number, cf_number, op2_number, op3_number}
use Rattle.microcode.specs.declared.Instruction.{Instruction}
use Rattle.microcode.specs.declared.Instruction.TheVariants.{CfAlu, Cf, Export, Op2, Op3}
use Rattle.microcode.specs.declared.DecodeError.TheVariants.{Outside, NotTaken}
use Rattle.microcode.specs.Answer.{Decoded, Done}
use Rattle.std.specs.Prelude.{Option, Some, None, Ok, Err}
use Rattle.microcode.specs.declared.Stream.{Stream}
use Rattle.microcode.specs.declared.Stream.TheVariants.{ControlFlow, Alu}
use Rattle.formats.specs.declared.cf.CfWord0.{CfWord0}
use Rattle.formats.specs.declared.cf.CfWord1.{CfWord1}
use Rattle.formats.specs.declared.cf_alu.CfAluWord0.{CfAluWord0}
use Rattle.formats.specs.declared.cf_alu.CfAluWord1.{CfAluWord1}
use Rattle.formats.specs.declared.export.CfAllocExportWord0.{CfAllocExportWord0}
use Rattle.formats.specs.declared.export.CfAllocExportWord1Swiz.{CfAllocExportWord1Swiz}
use Rattle.formats.specs.declared.alu.AluWord0.{AluWord0}
use Rattle.formats.specs.declared.alu.AluWord1Op2.{AluWord1Op2}
use Rattle.formats.specs.declared.alu.AluWord1Op3.{AluWord1Op3}
use Rattle.formats.specs.Fields.{◌of◌, CF_ALU_MARK, CF_ALU_INST, CF_INST, OP3_MARK, OP2_INST, OP3_INST}
use Rattle.formats.specs.Cf as cf
use Rattle.formats.specs.CfAlu as cf_alu
use Rattle.formats.specs.Export as export
use Rattle.formats.specs.Alu as alu
use Rattle.microcode.specs.Pair.{opener_pair_of, plain_pair_of, cf_pair_of, op2_pair_of, op3_pair_of, alu_pair_of, pair_of, stream_of, encodable, low_of, high_of, words_of}
use Rattle.microcode.specs.Buffer.{room, decode_of, encode_answer, write_answer, write_words, encode_words, Rewritten}
use Rattle.formats.proofs.OfFormats.{word_again, read_fits, record_again}

-- three tests that all pass, together and one by one
split : (a b c : Bool) → a && b && c ≡ true → (a ≡ true) × (b ≡ true) × (c ≡ true)
split a b c h =
    let k = both (a && b) c h in
    let j = both a b k.0 in
    (j.0, j.1, k.1)

all_three : {a b c : Bool} → a ≡ true → b ≡ true → c ≡ true → a && b && c ≡ true
all_three p q r = ap₂ (λ (x y : Bool). x && y) (ap₂ (λ (x y : Bool). x && y) p q) r

-- an export's number is taken
pub export_is_taken : (c : Control) → is_export c ≡ true → is_taken c ≡ true
export_is_taken control.NotTaken h = h
export_is_taken control.Nop h = refl
export_is_taken (control.Fetch kind) h = refl
export_is_taken (control.Branch b) h = refl
export_is_taken control.Export h = refl
export_is_taken (control.Alu pushes pops) h = refl

-- a number that is taken and no export's, as one test and as two
no_export : {s t : Bool} → s ≡ false → t ≡ true → t && not s ≡ true
no_export e f = ap₂ (λ (x y : Bool). x && not y) f e

taken_no_export : (s t : Bool) → t && not s ≡ true → (s ≡ false) × (t ≡ true)
taken_no_export s t h = let k = both t (not s) h in (not-true s k.1, k.0)

-- ---- words, read and written

-- what an instruction that was read from two words has
pub record ReadFrom (s : Stream) (lo hi : ℕ) (i : Instruction) : Type 0 where
  pub fits : encodable i ≡ true
  pub stream : stream_of i ≡ s
  pub low : low_of i ≡ lo
  pub high : high_of i ≡ hi

module _ (lo hi : ℕ) (hl : lo < 2 ^ 32) (hh : hi < 2 ^ 32) (i : Instruction) where
  -- by the test that picks a form
  read_as : (s : Stream) (j : Instruction) (t : Bool) → (t ≡ true → ReadFrom s lo hi j) → cond t (Ok j) (Err NotTaken) ≡ Ok i → ReadFrom s lo hi i
  read_as s j true r e = let same : j ≡ i = cc in subst (ReadFrom s lo hi) same (r refl)
  read_as s j false r e = impossible cc

  opener_again : opener_pair_of lo hi ≡ Ok i → ReadFrom ControlFlow lo hi i
  opener_again e =
      read_as ControlFlow (CfAlu (cf_alu.word0_of lo) (cf_alu.word1_of hi)) (is_taken (cf_alu_control (CF_ALU_INST of hi)))
      (λ t. record { fits = all_three (read_fits cf_alu.word0_laws lo) (read_fits cf_alu.word1_laws hi) t; stream = refl; low = word_again cf_alu.word0_laws lo hl; high = word_again cf_alu.word1_laws hi hh })
      e

  plain_again : plain_pair_of lo hi ≡ Ok i → ReadFrom ControlFlow lo hi i
  plain_again e =
      by_test_lem (is_export (cf_control (CF_INST of hi)))
      (λ t. read_as ControlFlow (Export (export.word0_of lo) (export.word1_of hi)) true
      (λ u. record { fits = all_three (read_fits export.word0_laws lo) (read_fits export.word1_laws hi) t; stream = refl; low = word_again export.word0_laws lo hl; high = word_again export.word1_laws hi hh })
      (rw t at e))
      (λ t. read_as ControlFlow (Cf (cf.word0_of lo) (cf.word1_of hi)) (is_taken (cf_control (CF_INST of hi)))
      (λ u. record { fits = all_three (read_fits cf.word0_laws lo) (read_fits cf.word1_laws hi) (no_export t u); stream = refl; low = word_again cf.word0_laws lo hl; high = word_again cf.word1_laws hi hh })
      (rw t at e))

  op2_again : op2_pair_of lo hi ≡ Ok i → ReadFrom Alu lo hi i
  op2_again e =
      read_as Alu (Op2 (alu.word0_of lo) (alu.op2_of hi)) (class.is_taken (op2_class (OP2_INST of hi)))
      (λ t. record { fits = all_three (read_fits alu.word0_laws lo) (read_fits alu.op2_laws hi) t; stream = refl; low = word_again alu.word0_laws lo hl; high = word_again alu.op2_laws hi hh })
      e

  op3_again : op3_pair_of lo hi ≡ Ok i → ReadFrom Alu lo hi i
  op3_again e =
      read_as Alu (Op3 (alu.word0_of lo) (alu.op3_of hi)) (class.is_taken (op3_class (OP3_INST of hi)))
      (λ t. record { fits = all_three (read_fits alu.word0_laws lo) (read_fits alu.op3_laws hi) t; stream = refl; low = word_again alu.word0_laws lo hl; high = word_again alu.op3_laws hi hh })
      e

  -- every pair of words of a taken form gives the same words back
  pub pair_again : (s : Stream) → pair_of s lo hi ≡ Ok i → ReadFrom s lo hi i
  pair_again ControlFlow e =
      by_test_lem (eqb (CF_ALU_MARK of hi) 1) (λ t. opener_again (rw t at e)) (λ t. plain_again (rw t at e))
  pair_again Alu e =
      by_test_lem (eqb (OP3_MARK of hi) 0) (λ t. op2_again (rw t at e)) (λ t. op3_again (rw t at e))

-- ---- records, written and read

module _ (a : CfAluWord0) (b : CfAluWord1) (p : fits_table cf_alu.word0_table (cf_alu.word0_values a) ≡ true) (q : fits_table cf_alu.word1_table (cf_alu.word1_values b) ≡ true) (t : is_taken (cf_alu_control b.cf_inst) ≡ true) where
  opener_back : cf_pair_of (low_of (CfAlu a b)) (high_of (CfAlu a b)) ≡ Ok (CfAlu a b)
  opener_back =
      let lo = low_of (CfAlu a b) in
      let hi = high_of (CfAlu a b) in
      let r0 = record_again cf_alu.word0_laws a p in
      let r1 = record_again cf_alu.word1_laws b q in
      let n : CF_ALU_INST of hi ≡ b.cf_inst = ap (λ (w : CfAluWord1). w.cf_inst) r1 in
      let top : CF_ALU_MARK of hi ≡ 1 = upper_part hi 26 3 1 ∙ ap (λ (k : ℕ). k / 8) n ∙ cf_alu_number b.cf_inst t in
      rw (eq-eqb (CF_ALU_MARK of hi) 1 top, ap (λ (k : ℕ). is_taken (cf_alu_control k)) n ∙ t) (λ i. Ok (CfAlu (r0 i) (r1 i)))

-- bit 29 is clear under a number below 64
not_opener : (hi n : ℕ) → CF_INST of hi ≡ n → n < 64 → eqb (CF_ALU_MARK of hi) 1 ≡ false
not_opener hi n e l =
    let top : CF_ALU_MARK of hi ≡ 0 = upper_part hi 23 6 1 ∙ ap (λ (k : ℕ). k / 64) e ∙ div-eq_of_lt l in
    ne_eqb (CF_ALU_MARK of hi) 1 (λ h. omega arith)

module _ (a : CfWord0) (b : CfWord1) (p : fits_table cf.word0_table (cf.word0_values a) ≡ true) (q : fits_table cf.word1_table (cf.word1_values b) ≡ true) (t : is_taken (cf_control b.cf_inst) && not (is_export (cf_control b.cf_inst)) ≡ true) where
  cf_back : cf_pair_of (low_of (Cf a b)) (high_of (Cf a b)) ≡ Ok (Cf a b)
  cf_back =
      let hi = high_of (Cf a b) in
      let r0 = record_again cf.word0_laws a p in
      let r1 = record_again cf.word1_laws b q in
      let n : CF_INST of hi ≡ b.cf_inst = ap (λ (w : CfWord1). w.cf_inst) r1 in
      let k = taken_no_export (is_export (cf_control b.cf_inst)) (is_taken (cf_control b.cf_inst)) t in
      rw (not_opener hi b.cf_inst n (cf_number b.cf_inst k.1), ap (λ (k : ℕ). is_export (cf_control k)) n ∙ k.0, ap (λ (k : ℕ). is_taken (cf_control k)) n ∙ k.1) (λ i. Ok (Cf (r0 i) (r1 i)))

module _ (a : CfAllocExportWord0) (b : CfAllocExportWord1Swiz) (p : fits_table export.word0_table (export.word0_values a) ≡ true) (q : fits_table export.word1_table (export.word1_values b) ≡ true) (t : is_export (cf_control b.cf_inst) ≡ true) where
  export_back : cf_pair_of (low_of (Export a b)) (high_of (Export a b)) ≡ Ok (Export a b)
  export_back =
      let hi = high_of (Export a b) in
      let r0 = record_again export.word0_laws a p in
      let r1 = record_again export.word1_laws b q in
      let n : CF_INST of hi ≡ b.cf_inst = ap (λ (w : CfAllocExportWord1Swiz). w.cf_inst) r1 in
      rw (not_opener hi b.cf_inst n (cf_number b.cf_inst (export_is_taken (cf_control b.cf_inst) t)), ap (λ (k : ℕ). is_export (cf_control k)) n ∙ t) (λ i. Ok (Export (r0 i) (r1 i)))

module _ (a : AluWord0) (p : fits_table alu.word0_table (alu.word0_values a) ≡ true) where
  op2_back : (b : AluWord1Op2) → fits_table alu.op2_table (alu.op2_values b) ≡ true → class.is_taken (op2_class b.alu_inst) ≡ true → alu_pair_of (low_of (Op2 a b)) (high_of (Op2 a b)) ≡ Ok (Op2 a b)
  op2_back b q t =
      let hi = high_of (Op2 a b) in
      let r0 = record_again alu.word0_laws a p in
      let r1 = record_again alu.op2_laws b q in
      let n : OP2_INST of hi ≡ b.alu_inst = ap (λ (w : AluWord1Op2). w.alu_inst) r1 in
      let top : OP3_MARK of hi ≡ 0 = upper_part hi 7 8 3 ∙ ap (λ (k : ℕ). k / 256) n ∙ div-eq_of_lt (op2_number b.alu_inst t) in
      rw (eq-eqb (OP3_MARK of hi) 0 top, ap (λ (k : ℕ). class.is_taken (op2_class k)) n ∙ t) (λ i. Ok (Op2 (r0 i) (r1 i)))

  op3_back : (b : AluWord1Op3) → fits_table alu.op3_table (alu.op3_values b) ≡ true → class.is_taken (op3_class b.alu_inst) ≡ true → alu_pair_of (low_of (Op3 a b)) (high_of (Op3 a b)) ≡ Ok (Op3 a b)
  op3_back b q t =
      let hi = high_of (Op3 a b) in
      let r0 = record_again alu.word0_laws a p in
      let r1 = record_again alu.op3_laws b q in
      let n : OP3_INST of hi ≡ b.alu_inst = ap (λ (w : AluWord1Op3). w.alu_inst) r1 in
      let top : OP3_MARK of hi ≡ b.alu_inst / 4 = upper_part hi 13 2 3 ∙ ap (λ (k : ℕ). k / 4) n in
      let l : 4 ≤ b.alu_inst = op3_number b.alu_inst t in
      rw (ne_eqb (OP3_MARK of hi) 0 (λ h. four-up b.alu_inst l (sym top ∙ h)), ap (λ (k : ℕ). class.is_taken (op3_class k)) n ∙ t) (λ i. Ok (Op3 (r0 i) (r1 i)))
    where
      four-up : (n : ℕ) → 4 ≤ n → n / 4 ≡ 0 → ⊥
      four-up n l e = omega arith

-- every record of a taken form that fits its fields is read back from its words
pub record_back : (i : Instruction) → encodable i ≡ true → pair_of (stream_of i) (low_of i) (high_of i) ≡ Ok i
record_back (CfAlu a b) h = let k = split _ _ _ h in opener_back a b k.0 k.1 k.2
record_back (Cf a b) h = let k = split _ _ _ h in cf_back a b k.0 k.1 k.2
record_back (Export a b) h = let k = split _ _ _ h in export_back a b k.0 k.1 k.2
record_back (Op2 a b) h = let k = split _ _ _ h in op2_back a k.0 b k.1 k.2
record_back (Op3 a b) h = let k = split _ _ _ h in op3_back a k.0 b k.1 k.2

-- ---- at a start of a buffer

-- what is decoded at a start had room, and is the pair there
room_by : (d : Decoded) (i : Instruction) (t : Bool) → cond t d (Err Outside) ≡ Ok i → (t ≡ true) × (d ≡ Ok i)
room_by d i true e = (refl, e)
room_by d i false e = impossible cc

room_of : (s : Stream) (l : List ℕ) (start : Words) (i : Instruction) → decode_of s l start ≡ Ok i → (room 2 l start.0 ≡ true) × (pair_of s (get_or l start.0 0) (get_or l (start.0 + 1) 0) ≡ Ok i)
room_of s l start i e = room_by (pair_of s (get_or l start.0 0) (get_or l (start.0 + 1) 0)) i (room 2 l start.0) e

-- words at a start that are a record's if t holds: done means that it does, and that there was room
pub done_by : (ws l : List ℕ) (start : Words) (t : Bool) → write_answer (cond t (Some ws) None) l start ≡ Done → (t ≡ true) × (room (length ws) l start.0 ≡ true)
done_by ws l start true e = by_test_lem (room (length ws) l start.0) (λ r. (refl, r)) (λ r. impossible (cc (rw r at e)))
done_by ws l start false e = impossible cc

module _ (i : Instruction) (l : List ℕ) (start : Words) where
  -- words that were read at a start and are written there again: done, and the whole buffer is as it was
  pub words_again : (s : Stream) → ((k : ℕ) → get_or l k 0 < 2 ^ 32) → decode_of s l start ≡ Ok i → Rewritten i l start
  words_again s small e =
      let at = start.0 in
      let d = room_of s l start i e in
      let fit : at + 2 ≤ length l = leb-true (at + 2) (length l) d.0 in
      let r = pair_again (get_or l at 0) (get_or l (at + 1) 0) (small at) (small (at + 1)) i s d.1 in
      let same : words_of i ≡ Some (get_or l at 0 ∷ get_or l (at + 1) 0 ∷ []) =
      rw r.fits (λ j. Some (r.low j ∷ r.high j ∷ [])) in
      let part : drop at l ≡ get_or l at 0 ∷ get_or l (at + 1) 0 ∷ drop (at + 2) l =
      word_more at l _ (omega arith) (word_more (at + 1) l _ (omega arith) (ap (λ (k : ℕ). drop k l) (omega arith))) in
      record {
        done = ap (λ (w : Option (List ℕ)). write_answer w l start) same ∙ rw d.0 refl;
        same = ap (λ (w : Option (List ℕ)). write_words w l start) same ∙ rw d.0 (parts_again at l _ part);
      }

  -- what is written was of a taken form and within its widths, and had room
  pub done_fits : encode_answer i l start ≡ Done → (encodable i ≡ true) × (room 2 l start.0 ≡ true)
  done_fits e = done_by (low_of i ∷ high_of i ∷ []) l start (encodable i) e

  -- a record that was written is read there again
  pub record_again_at : encode_answer i l start ≡ Done → decode_of (stream_of i) (encode_words i l start) start ≡ Ok i
  record_again_at e =
      let k = done_fits e in
      let h = k.0 in
      let t = k.1 in
      let at = start.0 in
      let fit : at + 2 ≤ length l = leb-true (at + 2) (length l) t in
      let ws = low_of i ∷ high_of i ∷ [] in
      let m = take at l ++ (ws ++ drop (at + 2) l) in
      let made : encode_words i l start ≡ m = rw (h, t) refl in
      let long : length m ≡ length l = length-over at ws l fit in
      let room_m : room 2 m at ≡ true = le-leb (at + 2) (length m) (omega arith) in
      let low : get_or m at 0 ≡ low_of i = ap (λ (n : ℕ). get_or m n 0) (sym (add-zero at)) ∙ get_or-over at ws l fit 0 (omega arith) in
      let high : get_or m (at + 1) 0 ≡ high_of i = get_or-over at ws l fit 1 (omega arith) in
      ap (λ (x : List ℕ). decode_of (stream_of i) x start) made
      ∙ rw (room_m, low, high) (record_back i h)
