-- The codec for fetches through values: the round trips. They rest on those of crate fetch_codec; what is new is that a fetch is what its values
-- say. Assumes nothing.
use mathlib.Core.Path.{◌≡◌, refl, sym, ap, ◌∙◌, subst}
use mathlib.Core.Bool.{true, false, ◌&&◌}
use mathlib.Core.List.{List, ◌++◌}
use Prim.Native.Nat.{ℕ, ◌^◌, ◌≤◌, ◌<◌}
use native.Mathlib.Omega.{arith}
use lib.Dec.{eqb, leb}
use lib.ListN.{length, get_or, drop}
use borrow.Author.Tests.{leb-true, eqb-true, eqb-false}
use Rattle.std.specs.Prelude.{Option, Some, None, Ok, Err}
use Rattle.laws.proofs.OfTests.{both, by_test_lem}
use Rattle.units.specs.Units.{words}
use Rattle.checks.specs.Verdict.{verdict_number}
use Rattle.opcodes.specs.declared.cf.Control.TheVariants as control
use Rattle.opcodes.specs.Numbers.{cf, cf_control}
use Rattle.microcode.specs.declared.DecodeError.TheVariants.{Outside, NotTaken}
use Rattle.microcode.specs.declared.EncodeError.TheVariants.{NoRecord, NoRoom}
use Rattle.microcode.specs.Answer.{Encoded}
use Rattle.microcode.specs.Buffer.{encoded_verdict}
use Rattle.fetch_codec.specs.declared.Fetch.{Fetch}
use Rattle.fetch_codec.specs.declared.Fetch.TheVariants.{Tex, VtxGpr, VtxSem}
use Rattle.fetch_codec.specs.declared.Clause.{Clause}
use Rattle.fetch_codec.specs.declared.Clause.TheVariants as clause
use Rattle.fetch_codec.specs.Fetch.{kind_of, form_kind}
use Rattle.fetch_codec.specs.Buffer.{Decoded, decode_of, encode_answer, encode_words}
use Rattle.fetch_codec.proofs.RoundTrip.{words_again, record_again_at}
use Rattle.codec_for_c.specs.Values.{form_of, roomy, row_length, written}
use Rattle.codec_for_c.specs.FetchValues.{fetch_values, fetch_in, is_fetch, clause_number, clause_numbered, fetch_verdict, fetch_after, clause_verdict, clause_row, fetch_number, fetch_row, fetch_from, fetch_from_number, fetch_words, FetchWordsAgain, FetchRowAgain}
use Rattle.codec_for_c.proofs.OfValues.{values_first, done_with, written_roomy}

-- ---- a fetch and its values

-- a fetch is read from its values, whatever stands behind them
pub fetch_of_values : (f : Fetch) (pad : List ℕ) → fetch_in (fetch_values f ++ pad) ≡ f
unfolding fetch_in
fetch_of_values (Tex a b c) pad = refl
fetch_of_values (VtxGpr a b c) pad = refl
fetch_of_values (VtxSem a b c) pad = refl

-- the values of the fetch that was read from values are those, and written over them they change none
module _ (vs : List ℕ) (r : is_fetch vs ≡ true) where
  fetch_parts : (roomy vs ≡ true) × ((leb 5 (form_of vs) ≡ true) × (leb (form_of vs) 7 ≡ true))
  fetch_parts =
      let k = both (roomy vs) (leb 5 (form_of vs) && leb (form_of vs) 7) r in
      (k.0, both (leb 5 (form_of vs)) (leb (form_of vs) 7) k.1)

  long : row_length ≤ length vs
  long = leb-true row_length (length vs) fetch_parts.0

  no_other : eqb (form_of vs) 5 ≡ false → eqb (form_of vs) 6 ≡ false → form_of vs ≡ 7
  no_other a b =
      let n = form_of vs in
      omega (arith, leb-true 5 n fetch_parts.1.0, leb-true n 7 fetch_parts.1.1, eqb-false n 5 a, eqb-false n 6 b)

  pub values_of_fetch : written (fetch_values (fetch_in vs)) vs ≡ vs
  unfolding fetch_in
  values_of_fetch =
      by_test_lem (eqb (form_of vs) 5)
      (λ t. rw t (values_first vs 5 29 (eqb-true (form_of vs) 5 t) (omega (arith, long))))
      (λ t5. by_test_lem (eqb (form_of vs) 6)
      (λ t. rw (t5, t) (values_first vs 6 26 (eqb-true (form_of vs) 6 t) (omega (arith, long))))
      (λ t. rw (t5, t) (values_first vs 7 25 (no_other t5 t) (omega (arith, long)))))

-- ---- the round trips

-- the number 0 is a fetch's, and one that had room
taken_with : {P : Type 0} (vs : List ℕ) (d : Decoded) → verdict_number (fetch_verdict d vs) ≡ 0 → ((f : Fetch) → d ≡ Ok f → roomy vs ≡ true → P) → P
taken_with vs (Err Outside) h f = absurd (omega arith)
taken_with vs (Err NotTaken) h f = absurd (omega arith)
taken_with vs (Ok g) h f = by_test_lem (roomy vs) (λ t. f g refl t) (λ t. let z : verdict_number (encoded_verdict (Err NoRoom)) ≡ 0 = rw t at h in absurd (omega arith))

-- the values of a fetch, with room behind them, are a fetch's
form_of_values : (f : Fetch) (pad : List ℕ) → leb 5 (form_of (fetch_values f ++ pad)) && leb (form_of (fetch_values f ++ pad)) 7 ≡ true
form_of_values (Tex a b c) pad = refl
form_of_values (VtxGpr a b c) pad = refl
form_of_values (VtxSem a b c) pad = refl

written_fetch : (f : Fetch) (vs : List ℕ) → roomy vs ≡ true → is_fetch (written (fetch_values f) vs) ≡ true
written_fetch f vs h = rw (written_roomy (fetch_values f) vs h) (form_of_values f (drop (length (fetch_values f)) vs))

-- a fetch's row is the fetch's, encoded or not
row_fetch : (vs l : List ℕ) (start : ℕ) (f : Fetch) → is_fetch vs ≡ true → fetch_in vs ≡ f
    → (fetch_from vs l start ≡ encode_answer f l (words start)) × (fetch_words vs l start ≡ encode_words f l (words start))
row_fetch vs l start f is same =
    (rw is (ap (λ (g : Fetch). encode_answer g l (words start)) same), rw is (ap (λ (g : Fetch). encode_words g l (words start)) same))

-- words that were decoded, encoded from their values at the same place: 0, and every word is as it was. The premise on the words is that
-- they have 32 bits
module _ (l : List ℕ) (start : ℕ) (vs : List ℕ) (small : (k : ℕ) → get_or l k 0 < 2 ^ 32) where
  in_clause : (o : Option Clause) → verdict_number (clause_verdict o l start vs) ≡ 0 → FetchWordsAgain (clause_row o l start vs) l start
  in_clause None h = absurd (omega arith)
  in_clause (Some c) h =
      taken_with vs (decode_of c l (words start)) h
      (λ f e t.
      let again = words_again f l (words start) c small e in
      let row = written (fetch_values f) vs in
      let made : clause_row (Some c) l start vs ≡ row = ap (λ (d : Decoded). fetch_after d vs) e ∙ rw t refl in
      let k = row_fetch row l start f (written_fetch f vs t) (fetch_of_values f (drop (length (fetch_values f)) vs)) in
      subst (λ (m : List ℕ). FetchWordsAgain m l start) (sym made)
      (record { number = ap (λ (x : Encoded). verdict_number (encoded_verdict x)) (k.0 ∙ again.done); same = k.1 ∙ again.same }))

  pub values_round_trip : (kind : ℕ) → fetch_number kind l start vs ≡ 0 → FetchWordsAgain (fetch_row kind l start vs) l start
  values_round_trip kind h = in_clause (clause_numbered kind) h

-- a clause's number is its own
pub known_clause : (c : Clause) → clause_numbered (clause_number c) ≡ Some c
known_clause clause.Tex = refl
known_clause clause.Vtx = refl
known_clause clause.VtxTc = refl

-- and it is the control-flow number of such a clause's opener
pub opener_number : (c : Clause) → cf_control (clause_number c) ≡ control.Fetch (kind_of c)
unfolding cf_control cf
opener_number clause.Tex = refl
opener_number clause.Vtx = refl
opener_number clause.VtxTc = refl

-- values that were encoded, decoded from their place in a clause of their kind: 0, and every value is as it was
module _ (l : List ℕ) (start : ℕ) (vs : List ℕ) (c : Clause) (kind : kind_of c ≡ form_kind (fetch_in vs)) where
  of_fetch : is_fetch vs ≡ true → fetch_from_number vs l start ≡ 0 → FetchRowAgain (clause_number c) (fetch_words vs l start) start vs
  of_fetch t h =
      let f = fetch_in vs in
      let k = row_fetch vs l start f t refl in
      let d = done_with (encode_answer f l (words start)) (ap (λ (x : Encoded). verdict_number (encoded_verdict x)) (sym k.0) ∙ h) in
      let u : roomy vs ≡ true = (fetch_parts vs t).0 in
      let again : decode_of c (fetch_words vs l start) (words start) ≡ Ok f =
      ap (λ (m : List ℕ). decode_of c m (words start)) k.1 ∙ record_again_at f l (words start) d c kind in
      record {
        number =
            ap (λ (o : Option Clause). verdict_number (clause_verdict o (fetch_words vs l start) start vs)) (known_clause c)
            ∙ ap (λ (x : Decoded). verdict_number (fetch_verdict x vs)) again
            ∙ rw u refl;
        same =
            ap (λ (o : Option Clause). clause_row o (fetch_words vs l start) start vs) (known_clause c)
            ∙ ap (λ (x : Decoded). fetch_after x vs) again
            ∙ rw u (values_of_fetch vs t);
      }

  pub words_round_trip : fetch_from_number vs l start ≡ 0 → FetchRowAgain (clause_number c) (fetch_words vs l start) start vs
  words_round_trip h =
      by_test_lem (is_fetch vs)
      (λ t. of_fetch t h)
      (λ t. let z : verdict_number (encoded_verdict (Err NoRecord)) ≡ 0 = rw t at h in absurd (omega arith))
