-- Decoder and encoder of fetches on rows, and for C on as many values or more, by what the code tests and calls. Assumes nothing.
use mathlib.Core.Path.{◌≡◌, refl, sym, ap, ◌∙◌}
use mathlib.Core.List.{List, ◌++◌}
use Prim.Native.Nat.{ℕ, ◌≤◌}
use native.Mathlib.Omega.{arith}
use lib.ListN.{length, take, drop}
use borrow.Author.Tests.{le-leb, eq-eqb, ne_eqb}
use Rattle.std.specs.Prelude.{Option, Some, Ok}
use Rattle.units.specs.declared.Words.{Words}
use Rattle.units.specs.Units.{words}
use Rattle.checks.specs.Verdict.{verdict_number}
use Rattle.microcode.specs.Answer.{Encoded}
use Rattle.microcode.specs.Buffer.{write_answer, write_words}
use Rattle.fetch_codec.specs.declared.Fetch.{Fetch}
use Rattle.fetch_codec.specs.declared.Fetch.TheVariants.{Tex, VtxGpr, VtxSem}
use Rattle.fetch_codec.specs.declared.Clause.{Clause}
use Rattle.fetch_codec.specs.Fetch.{words_of}
use Rattle.fetch_codec.specs.Buffer.{Decoded, decode_of}
use Rattle.codec_for_c.specs.Values.{written, form_of, row_length}
use Rattle.codec_for_c.specs.FetchValues.{fetch_values, fetch_in, tex_in, vtx_gpr_in, vtx_sem_in, fetch_verdict, fetch_after, clause_numbered, clause_verdict, clause_row, fetch_number, fetch_row, fetch_from, fetch_words}
use Rattle.codec_for_c.proofs.OfCodec.{roomy_yes, written_row, row_elements}

module _ (vs : List ℕ) where
  pub form_5 : form_of vs ≡ 5 → fetch_in vs ≡ tex_in vs
  unfolding fetch_in
  form_5 h = rw (eq-eqb (form_of vs) 5 h)

  pub form_6 : form_of vs ≡ 6 → fetch_in vs ≡ vtx_gpr_in vs
  unfolding fetch_in
  form_6 h = rw (ne_eqb (form_of vs) 5 (λ e. omega arith), eq-eqb (form_of vs) 6 h)

  pub form_7 : form_of vs ≡ 7 → fetch_in vs ≡ vtx_sem_in vs
  unfolding fetch_in
  form_7 h = rw (ne_eqb (form_of vs) 5 (λ e. omega arith), ne_eqb (form_of vs) 6 (λ e. omega arith))

-- what was written of a fetch's words is what is encoded of its row
module _ (vs l : List ℕ) (start : Words) (f : Fetch) (h : row_length ≤ length vs) (low : 5 ≤ form_of vs) (high : form_of vs ≤ 7) (same : fetch_in vs ≡ f) where
  pub encoded_answer : {w : Option (List ℕ)} {r : Encoded} → w ≡ words_of f → r ≡ write_answer w l start → r ≡ fetch_from vs l start.0
  encoded_answer e p =
      rw (roomy_yes vs h, le-leb 5 (form_of vs) low, le-leb (form_of vs) 7 high)
      (p ∙ ap (λ (w : Option (List ℕ)). write_answer w l start) (e ∙ ap words_of (sym same)))

  pub encoded_after : {w : Option (List ℕ)} {m : List ℕ} → w ≡ words_of f → m ≡ write_words w l start → m ≡ fetch_words vs l start.0
  encoded_after e p =
      rw (roomy_yes vs h, le-leb 5 (form_of vs) low, le-leb (form_of vs) 7 high)
      (p ∙ ap (λ (w : Option (List ℕ)). write_words w l start) (e ∙ ap words_of (sym same)))

-- the row of longer values is encoded as they are
module _ (vs l : List ℕ) (start : ℕ) (h : row_length ≤ length vs) where
  pub first_from : fetch_from (take row_length vs) l start ≡ fetch_from vs l start
  unfolding fetch_in
  first_from = ap (λ (row : List ℕ). fetch_from row l start) (row_elements vs h) ∙ rw (roomy_yes vs h) refl

  pub first_words : fetch_words (take row_length vs) l start ≡ fetch_words vs l start
  unfolding fetch_in
  first_words = ap (λ (row : List ℕ). fetch_words row l start) (row_elements vs h) ∙ rw (roomy_yes vs h) refl

values_few : (f : Fetch) → length (fetch_values f) ≤ row_length
values_few (Tex a b c) = omega arith
values_few (VtxGpr a b c) = omega arith
values_few (VtxSem a b c) = omega arith

-- a fetch that was found, put into the row of longer values
module _ (n : ℕ) (l : List ℕ) (start : ℕ) (vs : List ℕ) (c : Clause) (f : Fetch) (h : row_length ≤ length vs) (e : clause_numbered n ≡ Some c) (p : Ok f ≡ decode_of c l (words start)) where
  pub decoded_0 : 0 ≡ fetch_number n l start vs
  decoded_0 =
      sym
      (ap (λ (o : Option Clause). verdict_number (clause_verdict o l start vs)) e
      ∙ ap (λ (d : Decoded). verdict_number (fetch_verdict d vs)) (sym p)
      ∙ rw (roomy_yes vs h) refl)

  pub decoded_row : {row new : List ℕ} → row ≡ take row_length vs → new ≡ written (fetch_values f) row → new ++ drop row_length vs ≡ fetch_row n l start vs
  decoded_row q r =
      ap (λ (x : List ℕ). x ++ drop row_length vs) (r ∙ ap (written (fetch_values f)) q)
      ∙ written_row (fetch_values f) vs (values_few f) h
      ∙ sym
      (ap (λ (o : Option Clause). clause_row o l start vs) e
      ∙ ap (λ (d : Decoded). fetch_after d vs) (sym p)
      ∙ rw (roomy_yes vs h) refl)
