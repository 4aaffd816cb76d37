-- What `edit_fetch` promises, by what became of its row; and that the text of a fetch, read back, is that fetch. Assumes nothing.
use mathlib.Core.Path.{◌≡◌, refl, sym, ap, ◌∙◌, subst}
use mathlib.Core.Bool.{Bool, true, ◌&&◌}
use mathlib.Core.List.{List, [], ◌∷◌, ◌++◌}
use Rattle.std.specs.Prelude.{Option, Some, None, Result, Ok, Err, IsErrAnd, OnOk, ⊤}
use Prim.Native.Nat.{ℕ, zero, suc, ◌+◌, ◌*◌, ◌^◌, ◌≤◌, ◌<◌}
use native.Mathlib.Omega.{arith}
use native.Mathlib.Nat.{pow-le-pow_right}
use lib.Dec.{leb}
use lib.ListN.{length, get_or, length-append}
use borrow.Author.Tests.{lt-ltb, leb-true, ne_eqb}
use Rattle.laws.proofs.OfTests.{both, by_test_lem}
use Rattle.laws.proofs.OfCases.{impossible}
use Rattle.opcodes.specs.declared.cf.FetchKind.{FetchKind}
use Rattle.opcodes.specs.declared.cf.FetchKind.TheVariants.{Vertex, Texture}
use Rattle.formats.specs.Fields.{◌of◌, FETCH_INST}
use Rattle.formats.specs.Tex as tex
use Rattle.formats.specs.Vtx as vtx
use Rattle.fetches.specs.Fetches.{bad_fetch, is_semantic}
use Rattle.units.specs.declared.Words.{Words}
use Rattle.card.specs.Text.{same_as}
use Rattle.ascii.specs.Ascii.{ascii}
use Rattle.ascii.specs.Decimal.{decimal}
use Rattle.ascii.proofs.OfDecimal.{fewer_digits}
use Rattle.report.specs.Settings.{setting_lines, settings_text}
use Rattle.settings.specs.Setting.{Is, setting_of, changed_by}
use Rattle.settings.specs.ReadBack.{good_keys}
use Rattle.settings.proofs.OfChanges.{Of32Bits, line_count, line_read_back, all_read_back}
use Rattle.fetch_codec.specs.declared.Fetch.{Fetch}
use Rattle.fetch_codec.specs.declared.Fetch.TheVariants.{Tex, VtxGpr, VtxSem}
use Rattle.microcode.specs.Answer.{Done}
use Rattle.microcode.specs.declared.DecodeError.{DecodeError}
use Rattle.microcode.specs.declared.DecodeError.TheVariants.{Outside, NotTaken}
use Rattle.microcode.specs.Buffer.{room}
use Rattle.fetch_codec.specs.declared.Clause.{Clause}
use Rattle.fetch_codec.specs.Fetch.{kind_of, form_kind, fetch_of, fields_fit, takes_number, form_taken, encodable}
use Rattle.fetch_codec.specs.Buffer.{Decoded, decode_of, encode_answer, encode_words}
use Rattle.fetch_codec.proofs.RoundTrip.{record_again_at}
use Rattle.codec_for_c.specs.FetchValues.{fetch_in, fetch_words}
use Rattle.codec_for_c.proofs.OfValues.{within_at}
use Rattle.fetch_text.specs.declared.EditError.{EditError}
use Rattle.fetch_text.specs.declared.EditError.TheVariants.{NoFetch}
use Rattle.fetch_text.specs.Text.{form_fields, keys_of, widths_of, values_of, text_of}
use Rattle.fetch_text.specs.Edit.{lines_in, fault_of, or_later, first_fault, edited, edit_of, edited_words, words_with, unless, Promised}
use Rattle.fetch_text.specs.Code.{RowRead, Edited, AllPut}
use Rattle.fetch_text.proofs.OfForms.{form, keys_same, kind_same, fault_same, length_same, keys_count, widths_count, values_row, fetch_itself, fits_all}
use Rattle.fetch_text.proofs.OfEdits.{nothing_wrong, something_wrong}
use Rattle.fetch_text.proofs.OfLines.{feedless_keys, lines_written}

-- ---- the lines of a fetch

-- keys that can be told apart, without a line feed
keys_good : (f : Fetch) → good_keys (keys_of f) ≡ true
unfolding keys_of form_fields tex.word0_fields tex.word1_fields tex.word2_fields vtx.word0_fields vtx.gpr_fields vtx.sem_fields vtx.word2_fields same_as
keys_good (Tex a b c) = refl
keys_good (VtxGpr a b c) = refl
keys_good (VtxSem a b c) = refl

keys_feedless : (f : Fetch) → feedless_keys (keys_of f) ≡ true
unfolding keys_of form_fields tex.word0_fields tex.word1_fields tex.word2_fields vtx.word0_fields vtx.gpr_fields vtx.sem_fields vtx.word2_fields
keys_feedless (Tex a b c) = refl
keys_feedless (VtxGpr a b c) = refl
keys_feedless (VtxSem a b c) = refl

text_lines : (g : Fetch) → lines_in (text_of g) ≡ setting_lines (keys_of g) (values_of g)
text_lines g = lines_written (keys_of g) (values_of g) (keys_feedless g)

-- no field is wider than a word
abbrev all_narrow : List ℕ → Bool
all_narrow [] = true
all_narrow (w ∷ ws) = leb w 32 && all_narrow ws

widths_narrow : (f : Fetch) → all_narrow (widths_of f) ≡ true
unfolding widths_of form_fields tex.word0_fields tex.word1_fields tex.word2_fields vtx.word0_fields vtx.gpr_fields vtx.sem_fields vtx.word2_fields
widths_narrow (Tex a b c) = refl
widths_narrow (VtxGpr a b c) = refl
widths_narrow (VtxSem a b c) = refl

narrow_at : (ws : List ℕ) (k : ℕ) → all_narrow ws ≡ true → k < length ws → get_or ws k 0 ≤ 32
narrow_at [] k h l = absurd (omega arith)
narrow_at (w ∷ ws) zero h l = leb-true w 32 (both (leb w 32) (all_narrow ws) h).0
narrow_at (w ∷ ws) (suc k) h l = narrow_at ws k (both (leb w 32) (all_narrow ws) h).1 (omega arith)

-- the first value is the number
number_first : (g : Fetch) → takes_number g (get_or (values_of g) 0 0) ≡ form_taken g
number_first (Tex a b c) = refl
number_first (VtxGpr a b c) = refl
number_first (VtxSem a b c) = refl

module _ (g : Fetch) (can : encodable g ≡ true) where
  value_fits : (k : ℕ) → k < length (values_of g) → get_or (values_of g) k 0 < 2 ^ get_or (widths_of g) k 0
  value_fits k h =
      within_at (widths_of g) (values_of g) k (sym (fits_all g) ∙ (both (fields_fit g) (form_taken g) can).0) (omega (arith, widths_count g))

  values_32 : Of32Bits (values_of g)
  values_32 k h =
      let narrow = narrow_at (widths_of g) k (widths_narrow g) (omega (arith, widths_count g)) in
      let more = pow-le-pow_right {n = 2} (omega arith) narrow in
      omega (arith, value_fits k h, more)

  -- nothing is wrong with a value of its own
  own_right : (k : ℕ) → k < length (values_of g) → fault_of g (Is k (get_or (values_of g) k 0)) ≡ None
  unfolding fault_of
  own_right zero h = rw (lt-ltb _ _ (value_fits zero h), number_first g, (both (fields_fit g) (form_taken g) can).1)
  own_right (suc k) h = rw (lt-ltb _ _ (value_fits (suc k) h), ne_eqb (suc k) 0 (λ e. omega arith))

-- ---- how long the text is

-- the bytes of some keys
abbrev keys_size : List (List ℕ) → ℕ
keys_size [] = 0
keys_size (k ∷ ks) = length k + keys_size ks

-- a number of 32 bits has ten digits at most
settings_short : (keys : List (List ℕ)) (values : List ℕ) → Of32Bits values → length (settings_text keys values) ≤ keys_size keys + 11 * length keys
unfolding settings_text setting_lines
settings_short [] values small = omega arith
settings_short (k ∷ ks) [] small = omega arith
settings_short (k ∷ ks) (v ∷ vs) small =
    let value = small 0 (omega arith) in
    let digits = fewer_digits 9 v (omega arith) in
    let rest = settings_short ks vs (λ j h. small (suc j) (omega arith)) in
    omega (
      arith,
      digits,
      rest,
      length-append k (decimal v),
      length-append (k ++ decimal v) (ascii "\n"),
      length-append (k ++ decimal v ++ ascii "\n") (settings_text ks vs),
    )

keys_short : (f : Fetch) → leb (keys_size (keys_of f) + 11 * length (keys_of f)) 628 ≡ true
unfolding keys_of form_fields tex.word0_fields tex.word1_fields tex.word2_fields vtx.word0_fields vtx.gpr_fields vtx.sem_fields vtx.word2_fields
keys_short (Tex a b c) = refl
keys_short (VtxGpr a b c) = refl
keys_short (VtxSem a b c) = refl

pub text_short : (f : Fetch) → encodable f ≡ true → length (text_of f) ≤ 628
text_short f can =
    let short = settings_short (keys_of f) (values_of f) (values_32 f can) in
    let few = leb-true (keys_size (keys_of f) + 11 * length (keys_of f)) 628 (keys_short f) in
    omega (arith, short, few)

-- ---- read back

-- no line is wrong, so none is the first
none_wrong : (f : Fetch) (at : ℕ) (lines : List (List ℕ)) → ((k : ℕ) → k < length lines → fault_of f (setting_of (keys_of f) (get_or lines k [])) ≡ None)
    → first_fault f at lines ≡ None
unfolding first_fault
none_wrong f at [] h = refl
none_wrong f at (line ∷ lines) h =
    ap (λ (o : Option _). or_later at o (first_fault f (at + length line + 1) lines)) (h 0 (omega arith))
    ∙ none_wrong f (at + length line + 1) lines (λ k l. h (suc k) (omega arith))

module _ (f g : Fetch) (same : form f ≡ form g) (can : encodable g ≡ true) where
  values_length : length (values_of f) ≡ length (values_of g)
  values_length = omega (arith, length_same f g same, ap length (values_row f), ap length (values_row g))

  right_lines : first_fault f 0 (setting_lines (keys_of g) (values_of g)) ≡ None
  right_lines =
      none_wrong f 0 (setting_lines (keys_of g) (values_of g))
      (λ k h.
      let inside : k < length (values_of g) = omega (arith, line_count (keys_of g) (values_of g) (omega (arith, keys_count g))) in
      ap (λ (keys : List (List ℕ)). fault_of f (setting_of keys (get_or (setting_lines (keys_of g) (values_of g)) k []))) (keys_same f g same)
      ∙ ap (fault_of f) (line_read_back (keys_of g) (values_of g) (keys_good g) (values_32 g can) k (omega (arith, keys_count g)) inside)
      ∙ fault_same (Is k (get_or (values_of g) k 0)) f g same
      ∙ own_right g can k inside)

  pub text_right : first_fault f 0 (lines_in (text_of g)) ≡ None
  text_right = ap (first_fault f 0) (text_lines g) ∙ right_lines

  pub text_back : edited f (lines_in (text_of g)) ≡ g
  text_back =
      let back = all_read_back (keys_of g) (values_of g) (values_of f) (keys_good g) (values_32 g can) (omega (arith, keys_count g)) values_length in
      ap (edited f) (text_lines g)
      ∙ ap (λ (keys : List (List ℕ)). fetch_in (form f ∷ changed_by keys (values_of f) (setting_lines (keys_of g) (values_of g)))) (keys_same f g same)
      ∙ (λ i. fetch_in (same i ∷ back i))
      ∙ fetch_itself g

-- ---- what is promised

-- a fetch that stands there is of the clause's kind, and lies in the words
kind_of_lem : (k : FetchKind) (w0 w1 w2 : ℕ) → form_kind (fetch_of k w0 w1 w2) ≡ k
kind_of_lem Texture w0 w1 w2 = refl
kind_of_lem Vertex w0 w1 w2 = by_test_lem (is_semantic Vertex (FETCH_INST of w0)) (λ t. rw t) (λ t. rw t)

module _ (clause : Clause) (l : List ℕ) (start : Words) (f : Fetch) (e : decode_of clause l start ≡ Ok f) where
  taken_room : room 4 l start.0 ≡ true
  taken_room = by_test_lem (room 4 l start.0) (λ t. t) (λ t. let z : Err Outside ≡ Ok f = rw t at e in impossible cc)

  taken_kind : kind_of clause ≡ form_kind f
  taken_kind =
      let w0 = get_or l start.0 0 in
      let w1 = get_or l (start.0 + 1) 0 in
      let w2 = get_or l (start.0 + 2) 0 in
      let w3 = get_or l (start.0 + 3) 0 in
      by_test_lem (bad_fetch (kind_of clause) (FETCH_INST of w0) w3)
      (λ t. let z : Err NotTaken ≡ Ok f = rw (taken_room, t) at e in impossible cc)
      (λ t.
      let z : Ok (fetch_of (kind_of clause) w0 w1 w2) ≡ Ok f = rw (taken_room, t) at e in
      let is : fetch_of (kind_of clause) w0 w1 w2 ≡ f = cc in
      sym (kind_of_lem (kind_of clause) w0 w1 w2) ∙ ap form_kind is)

-- a row that was read holds the fetch that stands there
row_is : (d : Decoded) {read : Result (List ℕ) DecodeError} {row : List ℕ} → RowRead d read → read ≡ Ok row → d ≡ Ok (fetch_in row)
row_is (Err e) {read} {row} w is = absurd (by w is)
  where
    by : read ≡ Err e → read ≡ Ok row → ⊥
    by p q = absurd cc
row_is (Ok f) {read} {row} w is = let h = subst (RowRead (Ok f)) is w in ap (λ (g : Fetch). Ok g) (sym h.1)

-- an answer that hands an error on is that error
pub is_err : (r : Result ⊤ EditError) {e : EditError} → IsErrAnd r (λ x. x ≡ e) → r ≡ Err e
is_err (Ok t) h = absurd h
is_err (Err x) h = ap (λ (y : EditError). Err y) h

-- of two fetches that stand at one place
same_fetch : {d : Decoded} {f g : Fetch} → d ≡ Ok f → d ≡ Ok g → f ≡ g
same_fetch p q = cc

module _ (clause : Clause) (l : List ℕ) (start : Words) (text : List ℕ) where
  -- what `edit_fetch` answers and what becomes of the words
  pub record Kept (answer : Result ⊤ EditError) (after : List ℕ) : Type 0 where
    pub value : answer ≡ edit_of (decode_of clause l start) text
    pub words_after : after ≡ edited_words (decode_of clause l start) text l start
    pub promised : Promised clause l after text start answer

  -- there is no fetch
  pub kept_none : {e : DecodeError} → decode_of clause l start ≡ Err e → Kept (Err (NoFetch e)) l
  kept_none {e} is =
      record {
        value = sym (ap (λ (d : Decoded). edit_of d text) is);
        words_after = sym (ap (λ (d : Decoded). edited_words d text l start) is);
        promised = record { decodes = λ f h. absurd (no (sym is ∙ h)); read_back = λ f g h. absurd (no (sym is ∙ h)) };
      }
    where
      no : {f : Fetch} → Err e ≡ Ok f → ⊥
      no z = impossible cc

  module _ (g : Fetch) (is : decode_of clause l start ≡ Ok g) where
    -- a setting is wrong: the text is no fetch's
    pub kept_wrong : {e : EditError} → first_fault g 0 (lines_in text) ≡ Some e → Kept (Err e) l
    kept_wrong {e} wrong =
        record {
          value = sym (ap (λ (d : Decoded). edit_of d text) is ∙ ap unless wrong);
          words_after =
              sym (ap (λ (d : Decoded). edited_words d text l start) is ∙ ap (λ (o : Option EditError). words_with o (edited g (lines_in text)) l start) wrong);
          promised = record {
            decodes = λ f h d. absurd cc;
            read_back = λ f h k same can t.
                let f_is = same_fetch k is in
                let right = ap (λ (x : Fetch). first_fault x 0 (lines_in text)) (sym f_is) ∙ ap (λ (x : List ℕ). first_fault f 0 (lines_in x)) t ∙ text_right f h same can in
                let never = sym right ∙ wrong in
                impossible cc;
          };
        }

    -- none is: the edited fetch stands there
    pub kept_done :
        {after : List ℕ} {t : ⊤} → first_fault g 0 (lines_in text) ≡ None → form (edited g (lines_in text)) ≡ form g → encodable (edited g (lines_in text)) ≡ true
        → after ≡ encode_words (edited g (lines_in text)) l start → Kept (Ok t) after
    kept_done {after} right same can words =
        let h = edited g (lines_in text) in
        let done : encode_answer h l start ≡ Done = rw (can, taken_room clause l start g is) in
        let there : decode_of clause after start ≡ Ok h =
        ap (λ (x : List ℕ). decode_of clause x start) words ∙ record_again_at h l start done clause (taken_kind clause l start g is ∙ sym (kind_same h g same)) in
        record {
          value = sym (ap (λ (d : Decoded). edit_of d text) is ∙ ap unless right);
          words_after =
              words
              ∙ sym (ap (λ (d : Decoded). edited_words d text l start) is ∙ ap (λ (o : Option EditError). words_with o h l start) right);
          promised = record {
            decodes = λ f k d. there ∙ ap (λ (x : Fetch). Ok (edited x (lines_in text))) (sym (same_fetch k is));
            read_back = λ f x k form_same x_can t.
                let f_is = same_fetch k is in
                let back : h ≡ x = ap (λ (y : Fetch). edited y (lines_in text)) (sym f_is) ∙ ap (λ (y : List ℕ). edited f (lines_in y)) t ∙ text_back f x form_same x_can in
                (refl, there ∙ ap (λ (y : Fetch). Ok y) back);
          };
        }

  -- by the row that the fetch was read into, and what became of it
  module _ {read : Result (List ℕ) DecodeError} {row after : List ℕ} (w : RowRead (decode_of clause l start) read) (is : read ≡ Ok row)
      {answer : Result ⊤ EditError} (p : AllPut row after text answer) where
    pub row_wrong : {e : EditError} → answer ≡ Err e → Kept (Err e) l
    row_wrong q = kept_wrong (fetch_in row) (row_is (decode_of clause l start) w is) (something_wrong (first_fault (fetch_in row) 0 (lines_in text)) q p.told)

    pub row_done : {words_after : List ℕ} {t : ⊤} → answer ≡ Ok t → words_after ≡ fetch_words after l start.0 → Kept (Ok t) words_after
    row_done q e =
        let put : Edited row after text = subst (λ (r : Result ⊤ EditError). OnOk r (Edited row after text)) q p.put in
        kept_done (fetch_in row) (row_is (decode_of clause l start) w is) (nothing_wrong (first_fault (fetch_in row) 0 (lines_in text)) q p.told)
        (ap form (sym put.fetch) ∙ put.form)
        (ap encodable (sym put.fetch) ∙ put.holds.can)
        (e ∙ rw put.holds.is_a_fetch (ap (λ (f : Fetch). encode_words f l start) put.fetch))
