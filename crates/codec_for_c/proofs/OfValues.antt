-- The codec's round trips through values: what was decoded encodes to the same words, and what was encoded decodes to the same values.
-- Both rest on microcode's round trips; what is new is that a record is what its values say. Assumes nothing.
use mathlib.Core.Path.{◌≡◌, refl, sym, ap, ◌∙◌, subst}
use mathlib.Core.Bool.{Bool, true, false, ◌&&◌}
use mathlib.Core.List.{List, [], ◌∷◌, ◌++◌, map}
use Prim.Native.Nat.{ℕ, zero, suc, ◌+◌, ◌%◌, ◌^◌, ◌≤◌, ◌<◌}
use native.Mathlib.Nat.{mod-eq_of_lt, add-zero, zero-add, add-suc, suc-add}
use native.Mathlib.Omega.{arith}
use lib.Dec.{eqb, leb, ltb}
use lib.ListN.{length, get_or, drop, length-append, length-drop}
use lib.Seq.{drop-cons}
use borrow.Author.Tests.{ltb-true, leb-true, le-leb, eqb-true, eqb-false}
use Rattle.laws.proofs.OfCases.{impossible}
use Rattle.std.specs.Prelude.{Option, Some, None, Ok, Err}
use Rattle.units.specs.Units.{words}
use Rattle.checks.specs.Verdict.{verdict_number}
use Rattle.bits.specs.Tables.{within, fits_table}
use Rattle.bits.specs.Fields.{width_of}
use Rattle.laws.proofs.OfTests.{both, by_test_lem}
use Rattle.formats.specs.declared.cf.CfWord0.{CfWord0}
use Rattle.formats.specs.declared.cf.CfWord1.{CfWord1}
use Rattle.formats.specs.declared.cf_alu.CfAluWord0.{CfAluWord0}
use Rattle.formats.specs.declared.cf_alu.CfAluWord1.{CfAluWord1}
use Rattle.formats.specs.Fields.{position, CF_ALU_ADDR, CF_ALU_COUNT, COUNT_3}
use Rattle.formats.specs.Cf.{top_count}
use Rattle.formats.specs.Cf as cf
use Rattle.formats.specs.CfAlu as cf_alu
use Rattle.formats.specs.Export as export
use Rattle.formats.specs.Alu as alu
use Rattle.microcode.specs.declared.Instruction.{Instruction}
use Rattle.microcode.specs.declared.Instruction.TheVariants.{CfAlu, Cf, Export, Op2, Op3}
use Rattle.microcode.specs.declared.DecodeError.TheVariants.{Outside, NotTaken}
use Rattle.microcode.specs.declared.EncodeError.TheVariants.{NoRecord, NoRoom}
use Rattle.microcode.specs.Answer.{Decoded, Encoded, Done}
use Rattle.microcode.specs.declared.Stream.{Stream}
use Rattle.microcode.specs.declared.Stream.TheVariants as stream
use Rattle.microcode.specs.Pair.{encodable, stream_of}
use Rattle.microcode.specs.Buffer.{decode_of, encode_answer, encode_words, encoded_verdict}
use Rattle.microcode.proofs.RoundTrip.{words_again, done_fits, record_again_at}
use Rattle.codec_for_c.specs.Values.{values_of, written, form_of, record_of, row_length, roomy, is_record, stream_number, stream_numbered, stream_verdict, stream_row, row_verdict, row_after, decoded_number, decoded_values, encoded_from, encoded_number, encoded_words, WordsAgain, RowAgain}

-- ---- a record and its values

-- values that fit their widths, one by one
pub within_at : (ws vs : List ℕ) (k : ℕ) → within ws vs ≡ true → k < length ws → get_or vs k 0 < 2 ^ get_or ws k 0
within_at [] vs k h l = absurd (omega arith)
within_at (w ∷ ws) [] k h l = impossible cc
within_at (w ∷ ws) (v ∷ vs) zero h l = ltb-true v (2 ^ w) (both (ltb v (2 ^ w)) (within ws vs) h).0
within_at (w ∷ ws) (v ∷ vs) (suc k) h l = within_at ws vs k (both (ltb v (2 ^ w)) (within ws vs) h).1 (omega arith)

-- the first two of three tests that all pass
first_two : (a b c : Bool) → a && b && c ≡ true → (a ≡ true) × (b ≡ true)
first_two a b c h = both a b (both (a && b) c h).0

-- ADDR and COUNT of a record that can be encoded have 32 bits
module _ (a : CfAluWord0) (b : CfAluWord1) (h : encodable (CfAlu a b) ≡ true) where
  cf_alu_fits : (fits_table cf_alu.word0_table (cf_alu.word0_values a) ≡ true) × (fits_table cf_alu.word1_table (cf_alu.word1_values b) ≡ true)
  cf_alu_fits = first_two _ _ _ h

  cf_alu_addr : a.addr.0 % 2 ^ 32 ≡ a.addr.0
  unfolding cf_alu.word0_table
  cf_alu_addr =
      let l : a.addr.0 < 2 ^ width_of (position CF_ALU_ADDR) = within_at (map width_of cf_alu.word0_table) (cf_alu.word0_values a) 0 cf_alu_fits.0 (omega arith) in
      mod-eq_of_lt (omega arith)

  cf_alu_count : b.count.0 % 2 ^ 32 ≡ b.count.0
  unfolding cf_alu.word1_table
  cf_alu_count =
      let l : b.count.0 < 2 ^ width_of (position CF_ALU_COUNT) = within_at (map width_of cf_alu.word1_table) (cf_alu.word1_values b) 3 cf_alu_fits.1 (omega arith) in
      mod-eq_of_lt (omega arith)

module _ (a : CfWord0) (b : CfWord1) (h : encodable (Cf a b) ≡ true) where
  cf_fits : (fits_table cf.word0_table (cf.word0_values a) ≡ true) × (fits_table cf.word1_table (cf.word1_values b) ≡ true)
  cf_fits = first_two _ _ _ h

  cf_addr : a.addr.0 % 2 ^ 32 ≡ a.addr.0
  unfolding cf.word0_table
  cf_addr = mod-eq_of_lt (within_at (map width_of cf.word0_table) (cf.word0_values a) 0 cf_fits.0 (omega arith))

  cf_count : b.count.0 % 2 ^ 32 ≡ b.count.0
  unfolding cf.word1_table
  cf_count =
      let l : top_count b.count < 2 ^ width_of (position COUNT_3) = within_at (map width_of cf.word1_table) (cf.word1_values b) 5 cf_fits.1 (omega arith) in
      mod-eq_of_lt (omega arith)

-- a record is read from its values, whatever stands behind them
pub record_of_values : (i : Instruction) (pad : List ℕ) → encodable i ≡ true → record_of (values_of i ++ pad) ≡ i
unfolding record_of
record_of_values (CfAlu a b) pad h = rw (cf_alu_addr a b h, cf_alu_count a b h)
record_of_values (Cf a b) pad h = rw (cf_addr a b h, cf_count a b h)
record_of_values (Export a b) pad h = refl
record_of_values (Op2 a b) pad h = refl
record_of_values (Op3 a b) pad h = refl

-- the first n elements, one by one
abbrev pub elements : List ℕ → ℕ → ℕ → List ℕ
elements vs k zero = []
elements vs k (suc n) = get_or vs k 0 ∷ elements vs (suc k) n

pub elements_rest : (vs : List ℕ) (k n : ℕ) → k + n ≤ length vs → elements vs k n ++ drop (k + n) vs ≡ drop k vs
elements_rest vs k zero h = ap (λ (m : ℕ). drop m vs) (add-zero k)
elements_rest vs k (suc n) h =
    ap (λ (t : List ℕ). get_or vs k 0 ∷ t)
    (ap (λ (m : ℕ). elements vs (suc k) n ++ drop m vs) (add-suc k n ∙ sym (suc-add k n)) ∙ elements_rest vs (suc k) n (omega arith))
    ∙ sym (drop-cons vs k 0 (omega arith))

-- a form and the elements behind it, and what stands behind those
pub values_first : (vs : List ℕ) (form n : ℕ) → form_of vs ≡ form → suc n ≤ length vs → form ∷ elements vs 1 n ++ drop (suc n) vs ≡ vs
values_first vs form n e h =
    ap (λ (x : ℕ). x ∷ elements vs 1 n ++ drop (suc n) vs) (sym e)
    ∙ ap (λ (m : ℕ). elements vs 0 (suc n) ++ drop m vs) (sym (zero-add (suc n)))
    ∙ elements_rest vs 0 (suc n) (omega arith)

record_room : (vs : List ℕ) → is_record vs ≡ true → roomy vs ≡ true
record_room vs r = (both (roomy vs) (leb (form_of vs) 4) r).0

-- the values of the record that was read from values are those, and written over them they change none
module _ (vs : List ℕ) (r : is_record vs ≡ true) (h : encodable (record_of vs) ≡ true) where
  long : row_length ≤ length vs
  long = leb-true row_length (length vs) (record_room vs r)

  form_4 : form_of vs ≤ 4
  form_4 = leb-true (form_of vs) 4 (both (roomy vs) (leb (form_of vs) 4) r).1

  no_other : eqb (form_of vs) 0 ≡ false → eqb (form_of vs) 1 ≡ false → eqb (form_of vs) 2 ≡ false → eqb (form_of vs) 3 ≡ false → form_of vs ≡ 4
  no_other a b c d =
      let n = form_of vs in
      omega (arith, form_4, eqb-false n 0 a, eqb-false n 1 b, eqb-false n 2 c, eqb-false n 3 d)

  as_form : (i : Instruction) → record_of vs ≡ i → (encodable i ≡ true → written (values_of i) vs ≡ vs) → written (values_of (record_of vs)) vs ≡ vs
  as_form i e f = ap (λ (j : Instruction). written (values_of j) vs) e ∙ f (ap encodable (sym e) ∙ h)

  pub values_of_record : written (values_of (record_of vs)) vs ≡ vs
  unfolding record_of
  values_of_record =
      by_test_lem (eqb (form_of vs) 0)
      (λ t. as_form (CfAlu (cf_alu.word0_at 1 vs) (cf_alu.word1_at 5 vs)) (rw t)
      (λ k. rw (cf_alu_addr (cf_alu.word0_at 1 vs) (cf_alu.word1_at 5 vs) k, cf_alu_count (cf_alu.word0_at 1 vs) (cf_alu.word1_at 5 vs) k)
      (values_first vs 0 12 (eqb-true (form_of vs) 0 t) (omega (arith, long)))))
      (λ t0. by_test_lem (eqb (form_of vs) 1)
      (λ t. as_form (Cf (cf.word0_at 1 vs) (cf.word1_at 2 vs)) (rw (t0, t))
      (λ k. rw (cf_addr (cf.word0_at 1 vs) (cf.word1_at 2 vs) k, cf_count (cf.word0_at 1 vs) (cf.word1_at 2 vs) k)
      (values_first vs 1 12 (eqb-true (form_of vs) 1 t) (omega (arith, long)))))
      (λ t1. by_test_lem (eqb (form_of vs) 2)
      (λ t. as_form (Export (export.word0_at 1 vs) (export.word1_at 7 vs)) (rw (t0, t1, t))
      (λ k. values_first vs 2 17 (eqb-true (form_of vs) 2 t) (omega (arith, long))))
      (λ t2. by_test_lem (eqb (form_of vs) 3)
      (λ t. as_form (Op2 (alu.word0_at 1 vs) (alu.op2_at 12 vs)) (rw (t0, t1, t2, t))
      (λ k. values_first vs 3 23 (eqb-true (form_of vs) 3 t) (omega (arith, long))))
      (λ t3. as_form (Op3 (alu.word0_at 1 vs) (alu.op3_at 12 vs)) (rw (t0, t1, t2, t3))
      (λ k. values_first vs 4 21 (no_other t0 t1 t2 t3) (omega (arith, long)))))))

-- ---- the round trips

-- the number 0 is a record's, and one that had room
taken_with : {P : Type 0} (s : Stream) (vs : List ℕ) (d : Decoded) → verdict_number (row_verdict s d vs) ≡ 0 → ((i : Instruction) → d ≡ Ok i → roomy vs ≡ true → P) → P
taken_with s vs (Err Outside) h f = absurd (omega arith)
taken_with stream.ControlFlow vs (Err NotTaken) h f = absurd (omega arith)
taken_with stream.Alu vs (Err NotTaken) h f = absurd (omega arith)
taken_with s vs (Ok i) h f = by_test_lem (roomy vs) (λ t. f i refl t) (λ t. let z : verdict_number (encoded_verdict (Err NoRoom)) ≡ 0 = rw t at h in absurd (omega arith))

-- and one that was written
pub done_with : (x : Encoded) → verdict_number (encoded_verdict x) ≡ 0 → x ≡ Done
done_with (Err NoRecord) h = absurd (omega arith)
done_with (Err NoRoom) h = absurd (omega arith)
done_with Done h = refl

-- the values of a record, with room behind them, are a record's
form_of_values : (i : Instruction) (pad : List ℕ) → leb (form_of (values_of i ++ pad)) 4 ≡ true
form_of_values (CfAlu a b) pad = refl
form_of_values (Cf a b) pad = refl
form_of_values (Export a b) pad = refl
form_of_values (Op2 a b) pad = refl
form_of_values (Op3 a b) pad = refl

-- what was written into such a row leaves one
pub written_roomy : (row vs : List ℕ) → roomy vs ≡ true → roomy (written row vs) ≡ true
written_roomy row vs h =
    let k : row_length ≤ length vs = leb-true row_length (length vs) h in
    le-leb row_length (length (written row vs)) (omega (arith, length-append row (drop (length row) vs), length-drop (length row) vs))

written_record : (i : Instruction) (vs : List ℕ) → roomy vs ≡ true → is_record (written (values_of i) vs) ≡ true
written_record i vs h = rw (written_roomy (values_of i) vs h) (form_of_values i (drop (length (values_of i)) vs))

-- a record's row is the record's, encoded or not
row_record : (vs l : List ℕ) (start : ℕ) (i : Instruction) → is_record vs ≡ true → record_of vs ≡ i
    → (encoded_from vs l start ≡ encode_answer i l (words start)) × (encoded_words vs l start ≡ encode_words i l (words start))
row_record vs l start i is same =
    (rw is (ap (λ (j : Instruction). encode_answer j l (words start)) same), rw is (ap (λ (j : Instruction). encode_words j l (words start)) same))

-- words that were decoded, encoded from their values at the same place: 0, and every word is as it was. The premise on the words is that
-- they have 32 bits
module _ (l : List ℕ) (start : ℕ) (vs : List ℕ) (small : (k : ℕ) → get_or l k 0 < 2 ^ 32) where
  in_stream : (o : Option Stream) → verdict_number (stream_verdict o l start vs) ≡ 0 → WordsAgain (stream_row o l start vs) l start
  in_stream None h = absurd (omega arith)
  in_stream (Some s) h =
      taken_with s vs (decode_of s l (words start)) h
      (λ i e t.
      let again = words_again i l (words start) s small e in
      let fit = (done_fits i l (words start) again.done).0 in
      let row = written (values_of i) vs in
      let made : stream_row (Some s) l start vs ≡ row = ap (λ (d : Decoded). row_after d vs) e ∙ rw t refl in
      let k = row_record row l start i (written_record i vs t) (record_of_values i (drop (length (values_of i)) vs) fit) in
      subst (λ (m : List ℕ). WordsAgain m l start) (sym made)
      (record { number = ap (λ (x : Encoded). verdict_number (encoded_verdict x)) (k.0 ∙ again.done); same = k.1 ∙ again.same }))

  pub values_round_trip : (stream : ℕ) → decoded_number stream l start vs ≡ 0 → WordsAgain (decoded_values stream l start vs) l start
  values_round_trip stream h = in_stream (stream_numbered stream) h

-- a stream's number is its own
known_stream : (s : Stream) → stream_numbered (stream_number s) ≡ Some s
known_stream stream.ControlFlow = refl
known_stream stream.Alu = refl

-- values that were encoded, decoded from their place in the record's stream: 0, and every value is as it was
module _ (l : List ℕ) (start : ℕ) (vs : List ℕ) where
  of_record : is_record vs ≡ true → encoded_number vs l start ≡ 0 → RowAgain (stream_number (stream_of (record_of vs))) (encoded_words vs l start) start vs
  of_record t h =
      let i = record_of vs in
      let s = stream_of i in
      let k = row_record vs l start i t refl in
      let d = done_with (encode_answer i l (words start)) (ap (λ (x : Encoded). verdict_number (encoded_verdict x)) (sym k.0) ∙ h) in
      let fit = done_fits i l (words start) d in
      let u : roomy vs ≡ true = record_room vs t in
      let again : decode_of s (encoded_words vs l start) (words start) ≡ Ok i =
      ap (λ (m : List ℕ). decode_of s m (words start)) k.1 ∙ record_again_at i l (words start) d in
      record {
        number =
            ap (λ (o : Option Stream). verdict_number (stream_verdict o (encoded_words vs l start) start vs)) (known_stream s)
            ∙ ap (λ (x : Decoded). verdict_number (row_verdict s x vs)) again
            ∙ rw u refl;
        same =
            ap (λ (o : Option Stream). stream_row o (encoded_words vs l start) start vs) (known_stream s)
            ∙ ap (λ (x : Decoded). row_after x vs) again
            ∙ rw u (values_of_record vs t fit.0);
      }

  pub words_round_trip : encoded_number vs l start ≡ 0 → RowAgain (stream_number (stream_of (record_of vs))) (encoded_words vs l start) start vs
  words_round_trip h =
      by_test_lem (is_record vs)
      (λ t. of_record t h)
      (λ t. let z : verdict_number (encoded_verdict (Err NoRecord)) ≡ 0 = rw t at h in absurd (omega arith))
