-- Decoding and encoding a fetch undo each other, both ways: over four words, and at any start of any buffer. Assumes nothing.
use mathlib.Core.Path.{◌≡◌, refl, sym, ap, ◌∙◌, subst}
use mathlib.Core.Bool.{Bool, true, false, cond, not, ◌&&◌}
use mathlib.Core.List.{List, [], ◌∷◌, ◌++◌}
use Prim.Native.Nat.{ℕ, ◌+◌, ◌^◌, ◌≤◌, ◌<◌}
use native.Mathlib.Nat.{add-zero}
use native.Mathlib.Omega.{arith}
use lib.Dec.{eqb}
use lib.ListN.{length, get_or, take, drop}
use borrow.Author.Tests.{leb-true, le-leb, not-true, not-false, eqb-true}
use Rattle.laws.proofs.OfCases.{impossible}
use Rattle.laws.proofs.OfTests.{both, neither, by_test_lem}
use Rattle.std.specs.Prelude.{Option, Some, Ok, Err}
use Rattle.units.specs.declared.Words.{Words}
use Rattle.opcodes.specs.declared.cf.FetchKind.{FetchKind}
use Rattle.opcodes.specs.declared.cf.FetchKind.TheVariants.{Vertex, Texture}
use Rattle.opcodes.specs.Numbers.{fetch_taken}
use Rattle.formats.specs.Fields.{◌of◌, FETCH_INST}
use Rattle.formats.specs.declared.tex.TexWord0.{TexWord0}
use Rattle.formats.specs.declared.vtx.VtxWord0.{VtxWord0}
use Rattle.formats.specs.Tex as tex
use Rattle.formats.specs.Vtx as vtx
use Rattle.formats.proofs.OfFormats.{word_again, read_fits, record_again}
use Rattle.fetches.specs.Fetches.{is_semantic, bad_fetch}
use Rattle.microcode.specs.declared.DecodeError.TheVariants.{Outside, NotTaken}
use Rattle.microcode.specs.Answer.{Done}
use Rattle.microcode.specs.Buffer.{room, write_answer, write_words}
use Rattle.microcode.proofs.OfCodec.{length-over, get_or-over, word_more, parts_again}
use Rattle.microcode.proofs.RoundTrip.{done_by}
use Rattle.fetch_codec.specs.declared.Fetch.{Fetch}
use Rattle.fetch_codec.specs.declared.Fetch.TheVariants.{Tex, VtxGpr, VtxSem}
use Rattle.fetch_codec.specs.declared.Clause.{Clause}
use Rattle.fetch_codec.specs.Fetch.{kind_of, fetch_of, form_kind, encodable, word0_of, word1_of, word2_of, words_of}
use Rattle.fetch_codec.specs.Buffer.{Decoded, four_of, decode_of, encode_answer, encode_words, Rewritten}

-- ---- words, read and written

-- what a record that was read from four words has
pub record ReadFrom (k : FetchKind) (w0 w1 w2 w3 : ℕ) (f : Fetch) : Type 0 where
  pub fits : encodable f ≡ true
  pub kind : form_kind f ≡ k
  pub first : word0_of f ≡ w0
  pub second : word1_of f ≡ w1
  pub third : word2_of f ≡ w2
  pub fourth : w3 ≡ 0

all_four : {a b c d : Bool} → a ≡ true → b ≡ true → c ≡ true → d ≡ true → a && b && c && d ≡ true
all_four p q r s = rw (p, q, r, s)

-- what rule 8 passes has a number that is taken and a fourth word 0
passed_8 : (k : FetchKind) (n w3 : ℕ) → bad_fetch k n w3 ≡ false → (fetch_taken k n ≡ true) × (w3 ≡ 0)
passed_8 k n w3 h =
    let p = neither (not (eqb w3 0)) (not (fetch_taken k n)) h in
    (not-false (fetch_taken k n) p.1, eqb-true w3 0 (not-false (eqb w3 0) p.0))

module _ (w0 w1 w2 w3 : ℕ) (h0 : w0 < 2 ^ 32) (h1 : w1 < 2 ^ 32) (h2 : w2 < 2 ^ 32) where
  record_read : (k : FetchKind) → bad_fetch k (FETCH_INST of w0) w3 ≡ false → ReadFrom k w0 w1 w2 w3 (fetch_of k w0 w1 w2)
  record_read Texture h =
      let t = passed_8 Texture (FETCH_INST of w0) w3 h in
      record {
        fits = all_four (read_fits tex.word0_laws w0) (read_fits tex.word1_laws w1) (read_fits tex.word2_laws w2) t.0;
        kind = refl;
        first = word_again tex.word0_laws w0 h0;
        second = word_again tex.word1_laws w1 h1;
        third = word_again tex.word2_laws w2 h2;
        fourth = t.1;
      }
  record_read Vertex h =
      let n = FETCH_INST of w0 in
      let t = passed_8 Vertex n w3 h in
      by_test_lem (is_semantic Vertex n)
      (λ s. rw s
      (record {
        fits = all_four (read_fits vtx.word0_laws w0) (read_fits vtx.sem_laws w1) (read_fits vtx.word2_laws w2) (rw (t.0, s));
        kind = refl;
        first = word_again vtx.word0_laws w0 h0;
        second = word_again vtx.sem_laws w1 h1;
        third = word_again vtx.word2_laws w2 h2;
        fourth = t.1;
      }))
      (λ s. rw s
      (record {
        fits = all_four (read_fits vtx.word0_laws w0) (read_fits vtx.gpr_laws w1) (read_fits vtx.word2_laws w2) (rw (t.0, s));
        kind = refl;
        first = word_again vtx.word0_laws w0 h0;
        second = word_again vtx.gpr_laws w1 h1;
        third = word_again vtx.word2_laws w2 h2;
        fourth = t.1;
      }))

  -- by the test of rule 8
  read_as : (k : FetchKind) (f g : Fetch) (t : Bool) → (t ≡ false → ReadFrom k w0 w1 w2 w3 g) → cond t (Err NotTaken) (Ok g) ≡ Ok f → ReadFrom k w0 w1 w2 w3 f
  read_as k f g true r e = impossible cc
  read_as k f g false r e = let same : g ≡ f = cc in subst (ReadFrom k w0 w1 w2 w3) same (r refl)

  -- every four words that are taken give the same words back
  pub four_again : (k : FetchKind) (f : Fetch) → four_of k w0 w1 w2 w3 ≡ Ok f → ReadFrom k w0 w1 w2 w3 f
  four_again k f e = read_as k f (fetch_of k w0 w1 w2) (bad_fetch k (FETCH_INST of w0) w3) (record_read k) e

-- ---- records, written and read

-- rule 8 passes a number that is taken with a fourth word 0
taken_passes : (k : FetchKind) (n : ℕ) → fetch_taken k n ≡ true → bad_fetch k n 0 ≡ false
taken_passes k n t = rw t

split_four : (a b c d : Bool) → a && b && c && d ≡ true → (a ≡ true) × ((b ≡ true) × ((c ≡ true) × (d ≡ true)))
split_four a b c d h =
    let k = both (a && b && c) d h in
    let j = both (a && b) c k.0 in
    let i = both a b j.0 in
    (i.0, (i.1, (j.1, k.1)))

-- by the number that the first word has
taken_by_lem : (k : FetchKind) (w0 w1 w2 n : ℕ) (f : Fetch) → FETCH_INST of w0 ≡ n → fetch_taken k n ≡ true → fetch_of k w0 w1 w2 ≡ f → four_of k w0 w1 w2 0 ≡ Ok f
taken_by_lem k w0 w1 w2 n f e t p = rw (ap (λ (m : ℕ). bad_fetch k m 0) e ∙ taken_passes k n t) (ap (λ (x : Fetch). Ok x) p)

-- every record of its form that fits its fields is read back from its words
pub record_back : (f : Fetch) → encodable f ≡ true → four_of (form_kind f) (word0_of f) (word1_of f) (word2_of f) 0 ≡ Ok f
record_back (Tex a b c) h =
    let k = split_four _ _ _ _ h in
    let r0 = record_again tex.word0_laws a k.0 in
    let r1 = record_again tex.word1_laws b k.1.0 in
    let r2 = record_again tex.word2_laws c k.1.1.0 in
    taken_by_lem Texture (word0_of (Tex a b c)) (word1_of (Tex a b c)) (word2_of (Tex a b c)) a.tex_inst (Tex a b c)
    (ap (λ (w : TexWord0). w.tex_inst) r0) k.1.1.1 (λ i. Tex (r0 i) (r1 i) (r2 i))
record_back (VtxGpr a b c) h =
    let f = VtxGpr a b c in
    let k = split_four _ _ _ _ h in
    let t = both (fetch_taken Vertex a.vtx_inst) (not (is_semantic Vertex a.vtx_inst)) k.1.1.1 in
    let r0 = record_again vtx.word0_laws a k.0 in
    let r1 = record_again vtx.gpr_laws b k.1.0 in
    let r2 = record_again vtx.word2_laws c k.1.1.0 in
    let n : FETCH_INST of (word0_of f) ≡ a.vtx_inst = ap (λ (w : VtxWord0). w.vtx_inst) r0 in
    let s : is_semantic Vertex (FETCH_INST of (word0_of f)) ≡ false = ap (is_semantic Vertex) n ∙ not-true (is_semantic Vertex a.vtx_inst) t.1 in
    taken_by_lem Vertex (word0_of f) (word1_of f) (word2_of f) a.vtx_inst f n t.0 (rw s (λ i. VtxGpr (r0 i) (r1 i) (r2 i)))
record_back (VtxSem a b c) h =
    let f = VtxSem a b c in
    let k = split_four _ _ _ _ h in
    let t = both (fetch_taken Vertex a.vtx_inst) (is_semantic Vertex a.vtx_inst) k.1.1.1 in
    let r0 = record_again vtx.word0_laws a k.0 in
    let r1 = record_again vtx.sem_laws b k.1.0 in
    let r2 = record_again vtx.word2_laws c k.1.1.0 in
    let n : FETCH_INST of (word0_of f) ≡ a.vtx_inst = ap (λ (w : VtxWord0). w.vtx_inst) r0 in
    let s : is_semantic Vertex (FETCH_INST of (word0_of f)) ≡ true = ap (is_semantic Vertex) n ∙ t.1 in
    taken_by_lem Vertex (word0_of f) (word1_of f) (word2_of f) a.vtx_inst f n t.0 (rw s (λ i. VtxSem (r0 i) (r1 i) (r2 i)))

-- ---- at a start of a buffer

-- what is decoded at a start had room, and is the four words there
room_by : (d : Decoded) (f : Fetch) (t : Bool) → cond t d (Err Outside) ≡ Ok f → (t ≡ true) × (d ≡ Ok f)
room_by d f true e = (refl, e)
room_by d f false e = impossible cc

module _ (f : Fetch) (l : List ℕ) (start : Words) where
  -- words that were read at a start and are written there again: done, and the whole buffer is as it was
  pub words_again : (clause : Clause) → ((k : ℕ) → get_or l k 0 < 2 ^ 32) → decode_of clause l start ≡ Ok f → Rewritten f l start
  words_again clause small e =
      let at = start.0 in
      let w0 = get_or l at 0 in
      let w1 = get_or l (at + 1) 0 in
      let w2 = get_or l (at + 2) 0 in
      let w3 = get_or l (at + 3) 0 in
      let d = room_by (four_of (kind_of clause) w0 w1 w2 w3) f (room 4 l at) e in
      let fit : at + 4 ≤ length l = leb-true (at + 4) (length l) d.0 in
      let r = four_again w0 w1 w2 w3 (small at) (small (at + 1)) (small (at + 2)) (kind_of clause) f d.1 in
      let zero_word = sym r.fourth in
      let same : words_of f ≡ Some (w0 ∷ w1 ∷ w2 ∷ w3 ∷ []) =
      rw r.fits (λ j. Some (r.first j ∷ r.second j ∷ r.third j ∷ zero_word j ∷ [])) in
      let part : drop at l ≡ w0 ∷ w1 ∷ w2 ∷ w3 ∷ drop (at + 4) l =
      word_more at l _ (omega arith)
      (word_more (at + 1) l _ (omega arith)
      (ap (λ (k : ℕ). drop k l) (omega arith)
      ∙ word_more (at + 2) l _ (omega arith)
      (ap (λ (k : ℕ). drop k l) (omega arith)
      ∙ word_more (at + 3) l _ (omega arith) (ap (λ (k : ℕ). drop k l) (omega arith))))) in
      record {
        done = ap (λ (w : Option (List ℕ)). write_answer w l start) same ∙ rw d.0 refl;
        same = ap (λ (w : Option (List ℕ)). write_words w l start) same ∙ rw d.0 (parts_again at l _ part);
      }

  -- what is written was of its form and within its widths, and had room
  pub done_fits : encode_answer f l start ≡ Done → (encodable f ≡ true) × (room 4 l start.0 ≡ true)
  done_fits e = done_by (word0_of f ∷ word1_of f ∷ word2_of f ∷ 0 ∷ []) l start (encodable f) e

  -- a record that was written is read there again, in every clause of its kind
  pub record_again_at : encode_answer f l start ≡ Done → (clause : Clause) → kind_of clause ≡ form_kind f → decode_of clause (encode_words f l start) start ≡ Ok f
  record_again_at e clause kind =
      let k = done_fits e in
      let at = start.0 in
      let fit : at + 4 ≤ length l = leb-true (at + 4) (length l) k.1 in
      let ws = word0_of f ∷ word1_of f ∷ word2_of f ∷ 0 ∷ [] in
      let m = take at l ++ (ws ++ drop (at + 4) l) in
      let made : encode_words f l start ≡ m = rw (k.0, k.1) refl in
      let long : length m ≡ length l = length-over at ws l fit in
      let room_m : room 4 m at ≡ true = le-leb (at + 4) (length m) (omega arith) in
      let first : get_or m at 0 ≡ word0_of f = ap (λ (n : ℕ). get_or m n 0) (sym (add-zero at)) ∙ get_or-over at ws l fit 0 (omega arith) in
      let second : get_or m (at + 1) 0 ≡ word1_of f = get_or-over at ws l fit 1 (omega arith) in
      let third : get_or m (at + 2) 0 ≡ word2_of f = get_or-over at ws l fit 2 (omega arith) in
      let fourth : get_or m (at + 3) 0 ≡ 0 = get_or-over at ws l fit 3 (omega arith) in
      ap (λ (x : List ℕ). decode_of clause x start) made
      ∙ rw (room_m, first, second, third, fourth, kind) (record_back f k.0)
