-- Decoder and encoder on rows, and for C on as many values or more, by what the code tests and calls. Assumes nothing.
use mathlib.Core.Path.{◌≡◌, refl, sym, ap, ◌∙◌}
use mathlib.Core.Bool.{true}
use mathlib.Core.List.{List, ◌++◌}
use Prim.Native.Nat.{ℕ, ◌≤◌}
use native.Mathlib.Omega.{arith}
use lib.ListN.{length, take, drop, length-take}
use borrow.Author.Tests.{le-leb, eq-eqb, ne_eqb}
use Rattle.std.specs.Prelude.{Option, Some, Ok}
use Rattle.std.proofs.Common.{append_assoc}
use Rattle.std.proofs.lemmas.List.{drop-append-le, take-append-drop}
use Rattle.units.specs.declared.Words.{Words}
use Rattle.units.specs.Units.{words}
use Rattle.checks.specs.Verdict.{verdict_number}
use Rattle.formats.specs.Cf as cf
use Rattle.formats.specs.CfAlu as cf_alu
use Rattle.formats.specs.Export as export
use Rattle.formats.specs.Alu as alu
use Rattle.microcode.specs.declared.Instruction.{Instruction}
use Rattle.microcode.specs.declared.Instruction.TheVariants.{CfAlu, Cf, Export, Op2, Op3}
use Rattle.microcode.specs.declared.Stream.{Stream}
use Rattle.microcode.specs.Answer.{Decoded, Encoded}
use Rattle.microcode.specs.Pair.{words_of}
use Rattle.microcode.specs.Buffer.{decode_of, write_answer, write_words}
use Rattle.codec_for_c.specs.Values.{values_of, written, form_of, record_of, row_length, roomy, row_verdict, row_after, stream_numbered, stream_verdict, stream_row, decoded_number, decoded_values, encoded_from, encoded_words}
use Rattle.codec_for_c.proofs.OfValues.{elements, elements_rest}

pub roomy_yes : (vs : List ℕ) → row_length ≤ length vs → roomy vs ≡ true
roomy_yes vs h = le-leb row_length (length vs) h

-- ---- the first elements of longer values, as a row

-- values put there are put over the whole
pub written_row : (row vs : List ℕ) → length row ≤ row_length → row_length ≤ length vs → written row (take row_length vs) ++ drop row_length vs ≡ written row vs
written_row row vs h k =
    append_assoc row (drop (length row) (take row_length vs)) (drop row_length vs)
    ∙ ap (λ (q : List ℕ). row ++ q)
    (sym (drop-append-le (length row) (take row_length vs) (drop row_length vs) (omega (arith, length-take row_length vs)))
    ∙ ap (drop (length row)) (take-append-drop row_length vs))

-- and element by element they are the values
pub row_elements : (vs : List ℕ) → row_length ≤ length vs → take row_length vs ≡ elements vs 0 32
row_elements vs h = sym (ap (take row_length) (elements_rest vs 0 32 h))

-- ---- a pair's row

module _ (vs : List ℕ) where
  pub form_0 : form_of vs ≡ 0 → record_of vs ≡ CfAlu (cf_alu.word0_at 1 vs) (cf_alu.word1_at 5 vs)
  unfolding record_of
  form_0 h = rw (eq-eqb (form_of vs) 0 h)

  pub form_1 : form_of vs ≡ 1 → record_of vs ≡ Cf (cf.word0_at 1 vs) (cf.word1_at 2 vs)
  unfolding record_of
  form_1 h = rw (ne_eqb (form_of vs) 0 (λ e. omega arith), eq-eqb (form_of vs) 1 h)

  pub form_2 : form_of vs ≡ 2 → record_of vs ≡ Export (export.word0_at 1 vs) (export.word1_at 7 vs)
  unfolding record_of
  form_2 h = rw (ne_eqb (form_of vs) 0 (λ e. omega arith), ne_eqb (form_of vs) 1 (λ e. omega arith), eq-eqb (form_of vs) 2 h)

  pub form_3 : form_of vs ≡ 3 → record_of vs ≡ Op2 (alu.word0_at 1 vs) (alu.op2_at 12 vs)
  unfolding record_of
  form_3 h = rw (ne_eqb (form_of vs) 0 (λ e. omega arith), ne_eqb (form_of vs) 1 (λ e. omega arith), ne_eqb (form_of vs) 2 (λ e. omega arith), eq-eqb (form_of vs) 3 h)

  pub form_4 : form_of vs ≡ 4 → record_of vs ≡ Op3 (alu.word0_at 1 vs) (alu.op3_at 12 vs)
  unfolding record_of
  form_4 h = rw (ne_eqb (form_of vs) 0 (λ e. omega arith), ne_eqb (form_of vs) 1 (λ e. omega arith), ne_eqb (form_of vs) 2 (λ e. omega arith), ne_eqb (form_of vs) 3 (λ e. omega arith))

-- what was written of a record's words is what is encoded of its row
module _ (vs l : List ℕ) (start : Words) (i : Instruction) (h : row_length ≤ length vs) (k : form_of vs ≤ 4) (same : record_of vs ≡ i) where
  pub encoded_answer : {w : Option (List ℕ)} {r : Encoded} → w ≡ words_of i → r ≡ write_answer w l start → r ≡ encoded_from vs l start.0
  encoded_answer e p =
      rw (roomy_yes vs h, le-leb (form_of vs) 4 k)
      (p ∙ ap (λ (w : Option (List ℕ)). write_answer w l start) (e ∙ ap words_of (sym same)))

  pub encoded_after : {w : Option (List ℕ)} {m : List ℕ} → w ≡ words_of i → m ≡ write_words w l start → m ≡ encoded_words vs l start.0
  encoded_after e p =
      rw (roomy_yes vs h, le-leb (form_of vs) 4 k)
      (p ∙ ap (λ (w : Option (List ℕ)). write_words w l start) (e ∙ ap words_of (sym same)))

-- the row of longer values is encoded as they are
module _ (vs l : List ℕ) (start : ℕ) (h : row_length ≤ length vs) where
  pub first_from : encoded_from (take row_length vs) l start ≡ encoded_from vs l start
  unfolding record_of
  first_from = ap (λ (row : List ℕ). encoded_from row l start) (row_elements vs h) ∙ rw (roomy_yes vs h) refl

  pub first_words : encoded_words (take row_length vs) l start ≡ encoded_words vs l start
  unfolding record_of
  first_words = ap (λ (row : List ℕ). encoded_words row l start) (row_elements vs h) ∙ rw (roomy_yes vs h) refl

values_few : (i : Instruction) → length (values_of i) ≤ row_length
values_few (CfAlu a b) = omega arith
values_few (Cf a b) = omega arith
values_few (Export a b) = omega arith
values_few (Op2 a b) = omega arith
values_few (Op3 a b) = omega arith

-- a pair that was found, put into the row of longer values
module _ (n : ℕ) (l : List ℕ) (start : ℕ) (vs : List ℕ) (s : Stream) (i : Instruction) (h : row_length ≤ length vs) (e : stream_numbered n ≡ Some s) (f : Ok i ≡ decode_of s l (words start)) where
  pub decoded_0 : 0 ≡ decoded_number n l start vs
  decoded_0 =
      sym
      (ap (λ (o : Option Stream). verdict_number (stream_verdict o l start vs)) e
      ∙ ap (λ (d : Decoded). verdict_number (row_verdict s d vs)) (sym f)
      ∙ rw (roomy_yes vs h) refl)

  pub decoded_row : {row new : List ℕ} → row ≡ take row_length vs → new ≡ written (values_of i) row → new ++ drop row_length vs ≡ decoded_values n l start vs
  decoded_row p q =
      ap (λ (x : List ℕ). x ++ drop row_length vs) (q ∙ ap (written (values_of i)) p)
      ∙ written_row (values_of i) vs (values_few i) h
      ∙ sym
      (ap (λ (o : Option Stream). stream_row o l start vs) e
      ∙ ap (λ (d : Decoded). row_after d vs) (sym f)
      ∙ rw (roomy_yes vs h) refl)
