-- Rows of a fetch's values: what stands in them, as the decoder leaves them, and what the encoder says of them. Assumes nothing.
use mathlib.Core.Path.{◌≡◌, refl, sym, ap, ◌∙◌}
use mathlib.Core.Bool.{true, false, ◌&&◌}
use mathlib.Core.List.{List, [], ◌∷◌, ◌++◌}
use Rattle.std.specs.Prelude.{Some, Result, Ok, Err, is_ok, ⊤}
use Prim.Native.Nat.{ℕ, suc, ◌+◌, ◌-◌, ◌^◌, ◌≤◌, ◌<◌}
use native.Mathlib.Numerals.{add-one}
use native.Mathlib.Omega.{arith}
use lib.Dec.{ltb, leb}
use borrow.Author.Tests.{le-leb}
use lib.ListN.{length, get_or, drop, set, length-append, length-drop, length-set}
use lib.Seq.{set-append_left, get_or-set_other}
use borrow.Rule.Slice.PartMut.{mid_of}
use Rattle.laws.proofs.OfLists.{to_the_end}
use Rattle.laws.proofs.OfTests.{by_test_lem}
use Rattle.ascii.specs.Decimal.{decimal}
use Rattle.report.specs.Settings.{setting_lines, settings_text}
use Rattle.bits.specs.Fields.{width_of}
use Rattle.formats.specs.Fields.{position, FETCH_INST}
use Rattle.units.specs.Units.{words}
use Rattle.units.specs.declared.Words.{Words}
use Rattle.microcode.specs.declared.DecodeError.{DecodeError}
use Rattle.microcode.specs.Answer.{Encoded, Done}
use Rattle.fetch_codec.specs.declared.Fetch.{Fetch}
use Rattle.fetch_codec.specs.declared.Fetch.TheVariants.{Tex, VtxGpr, VtxSem}
use Rattle.fetch_codec.specs.declared.Clause.{Clause}
use Rattle.fetch_codec.specs.Fetch.{encodable}
use Rattle.fetch_codec.specs.Buffer.{Decoded, decode_of, encode_answer}
use Rattle.fetch_codec.proofs.RoundTrip.{words_again, done_fits}
use Rattle.codec_for_c.specs.Values.{form_of, written, told}
use Rattle.codec_for_c.specs.FetchValues.{fetch_values, fetch_in, is_fetch, fetch_after, fetch_from}
use Rattle.codec_for_c.proofs.OfFetches.{fetch_of_values, values_of_fetch}
use Rattle.settings.specs.Setting.{Is}
use Rattle.fetch_text.specs.declared.Fault.{Fault}
use Rattle.fetch_text.specs.declared.Fault.TheVariants.{TooWide, NotTaken}
use Rattle.fetch_text.specs.Text.{keys_of, values_of, text_of}
use Rattle.fetch_text.specs.Edit.{fault_of, unless}
use Rattle.fetch_text.specs.Code.{Holds, RowRead, NumberPut}
use Rattle.fetch_text.proofs.OfForms.{form, keys_count, values_few, values_row, with_value, with_row, with_same_form, with_values, nothing-wrong, number-wrong, first-too-wide, other-too-wide}

-- ---- what was read into a row

-- a row with the values of a fetch at its beginning
written_length : (g : Fetch) (vs : List ℕ) → length vs ≡ 32 → length (written (fetch_values g) vs) ≡ 32
written_length g vs long =
    omega (
      arith,
      length-append (fetch_values g) (drop (length (fetch_values g)) vs),
      length-drop (length (fetch_values g)) vs,
      values_few g,
      ap length (values_row g),
    )

written_is_fetch : (g : Fetch) (vs : List ℕ) → length vs ≡ 32 → is_fetch (written (fetch_values g) vs) ≡ true
written_is_fetch g vs long = rw (written_length g vs long) (by g)
  where
    by : (g : Fetch) → leb 5 (form_of (written (fetch_values g) vs)) && leb (form_of (written (fetch_values g) vs)) 7 ≡ true
    by (Tex a b c) = refl
    by (VtxGpr a b c) = refl
    by (VtxSem a b c) = refl

pub none_read : (d : Decoded) {r : Result ⊤ DecodeError} {e : DecodeError} → r ≡ told d → r ≡ Err e → RowRead d (Err e)
none_read (Err why) {r} {e} p q = let same : e ≡ why = cc in ap (λ (x : DecodeError). Err x) same
none_read (Ok f) p q = absurd (cc)

module _ (clause : Clause) (l : List ℕ) (start : Words) (small : (k : ℕ) → get_or l k 0 < 2 ^ 32) where
  pub one_read : {r : Result ⊤ DecodeError} {t : ⊤} (vs : List ℕ) {row : List ℕ} → length vs ≡ 32 → r ≡ told (decode_of clause l start) → r ≡ Ok t
      → row ≡ fetch_after (decode_of clause l start) vs → RowRead (decode_of clause l start) (Ok row)
  one_read {r} {t} vs {row} long p q e = by (decode_of clause l start) refl (sym q ∙ p) e
    where
      by : (d : Decoded) → decode_of clause l start ≡ d → Ok t ≡ told d → row ≡ fetch_after d vs → RowRead d (Ok row)
      by (Err why) is p e = absurd (cc)
      by (Ok g) is p e =
          let can = (done_fits g l start (words_again g l start clause small is).done).0 in
          let whole : row ≡ written (fetch_values g) vs = e ∙ rw (le-leb 32 (length vs) (omega arith)) in
          let fetch_is : fetch_in row ≡ g = ap fetch_in whole ∙ fetch_of_values g (drop (length (fetch_values g)) vs) in (
            record { long = ap length whole ∙ written_length g vs long; is_a_fetch = ap is_fetch whole ∙ written_is_fetch g vs long; can = ap encodable fetch_is ∙ can },
            fetch_is,
          )

-- ---- what the encoder says of a row

is_done : (r : Encoded) → is_ok r ≡ true → r ≡ Done
is_done (Ok t) h = refl
is_done (Err e) h = absurd (cc)

-- one that is encoded holds a fetch
pub row_holds : (vs l : List ℕ) (start : ℕ) → length vs ≡ 32 → is_ok (fetch_from vs l start) ≡ true → Holds vs
row_holds vs l start long h =
    by_test_lem (is_fetch vs)
    (λ t. record { long = long; is_a_fetch = t; can = (done_fits (fetch_in vs) l (words start) (is_done (encode_answer (fetch_in vs) l (words start)) (rw t at h))).0 })
    (λ t. let z : false ≡ true = rw t at h in absurd (cc))

-- and one that isn't, though the words have room, is no record's
pub row_holds_not : (vs : List ℕ) → is_fetch vs ≡ true → is_ok (fetch_from vs (0 ∷ 0 ∷ 0 ∷ 0 ∷ []) 0) ≡ false → encodable (fetch_in vs) ≡ false
row_holds_not vs t h = by_test_lem (encodable (fetch_in vs)) (λ e. let z : true ≡ false = rw (t, e) at h in absurd (cc)) (λ e. e)

-- ---- the row of a fetch

-- it holds the values of its fetch, and others behind them
pub row_of : (row : List ℕ) → is_fetch row ≡ true → row ≡ fetch_values (fetch_in row) ++ drop (length (fetch_values (fetch_in row))) row
row_of row t = sym (values_of_fetch row t)

pub form_of_row : (row : List ℕ) → is_fetch row ≡ true → form_of row ≡ form (fetch_in row)
form_of_row row t = ap form_of (row_of row t) ∙ rw (values_row (fetch_in row))

-- values behind those of the keys make no line
lines_longer : (keys : List (List ℕ)) (vs pad : List ℕ) → length keys ≤ length vs → setting_lines keys (vs ++ pad) ≡ setting_lines keys vs
unfolding setting_lines
lines_longer [] vs pad h = refl
lines_longer (k ∷ ks) [] pad h = absurd (omega arith)
lines_longer (k ∷ ks) (v ∷ vs) pad h = ap (λ (ls : List (List ℕ)). (k ++ decimal v) ∷ ls) (lines_longer ks vs pad (omega arith))

-- so the lines of the row are the text of its fetch
pub row_text : (row : List ℕ) → Holds row → {keys : List (List ℕ)} → keys ≡ keys_of (fetch_in row) → settings_text keys (mid_of 1 31 row) ≡ text_of (fetch_in row)
unfolding settings_text
row_text row w e =
    let f = fetch_in row in
    let pad = drop (length (fetch_values f)) row in
    let values : drop 1 row ≡ values_of f ++ pad = ap (drop 1) (row_of row w.is_a_fetch ∙ ap (λ (vs : List ℕ). vs ++ pad) (values_row f)) in
    let behind : mid_of 1 31 row ≡ drop 1 row =
    (let rest : 31 ≡ length row - 1 = omega (arith, w.long) in ap (λ (n : ℕ). mid_of 1 n row) rest) ∙ to_the_end 1 row in
    rw (e, behind, values, lines_longer (keys_of f) (values_of f) pad (omega (arith, keys_count f)))

-- one of them set: the row of the fetch with that value
module _ (row : List ℕ) (t : is_fetch row ≡ true) (i n : ℕ) (h : i < length (values_of (fetch_in row))) where
  pub set_is_fetch : is_fetch (set row (suc i) n) ≡ true
  set_is_fetch =
      let first : form_of (set row (suc i) n) ≡ form_of row = get_or-set_other row (suc i) 0 n 0 (λ e. omega arith) in
      rw (length-set row (suc i) n, first) t

  pub set_fetch : fetch_in (set row (suc i) n) ≡ with_value (fetch_in row) i n h
  set_fetch =
      let f = fetch_in row in
      let pad = drop (length (fetch_values f)) row in
      let inside : suc i < length (fetch_values f) = omega (arith, ap length (values_row f)) in
      ap (λ (r : List ℕ). fetch_in (set r (suc i) n)) (row_of row t)
      ∙ ap fetch_in (set-append_left (fetch_values f) pad (suc i) n inside ∙ ap (λ (vs : List ℕ). vs ++ pad) (sym (with_row f i n h)))
      ∙ fetch_of_values (with_value f i n h) pad

  pub set_form : form (fetch_in (set row (suc i) n)) ≡ form (fetch_in row)
  set_form = ap form set_fetch ∙ with_same_form (fetch_in row) i n h

  pub set_values : values_of (fetch_in (set row (suc i) n)) ≡ set (values_of (fetch_in row)) i n
  set_values = ap values_of set_fetch ∙ with_values (fetch_in row) i n h

-- ---- a number put into a row

module _ (row : List ℕ) (w : Holds row) (index n : ℕ) (h : index < length (keys_of (fetch_in row))) (answer : Encoded)
    (e : answer ≡ fetch_from (set row (index + 1) n) (0 ∷ 0 ∷ 0 ∷ 0 ∷ []) 0) where
  inside : index < length (values_of (fetch_in row))
  inside = omega (arith, keys_count (fetch_in row))

  same_place : set row (index + 1) n ≡ set row (suc index) n
  same_place = ap (λ (k : ℕ). set row k n) (add-one index)

  -- the fetch with that number can't be encoded
  can_not : is_ok answer ≡ false → encodable (with_value (fetch_in row) index n inside) ≡ false
  can_not z =
      ap encodable (sym (set_fetch row w.is_a_fetch index n inside))
      ∙ row_holds_not (set row (suc index) n) (set_is_fetch row w.is_a_fetch index n inside)
      (ap is_ok (sym (e ∙ ap (λ (r : List ℕ). fetch_from r (0 ∷ 0 ∷ 0 ∷ 0 ∷ []) 0) same_place)) ∙ z)

  pub number_put : is_ok answer ≡ true → NumberPut row (set row (index + 1) n) index n (Ok (record {}))
  number_put z =
      let after = row_holds (set row (index + 1) n) (0 ∷ 0 ∷ 0 ∷ 0 ∷ []) 0 (length-set row (index + 1) n ∙ w.long) (ap is_ok (sym e) ∙ z) in
      let can = ap encodable (sym (set_fetch row w.is_a_fetch index n inside) ∙ ap fetch_in (sym same_place)) ∙ after.can in
      record {
        told = sym (ap unless (nothing-wrong (fetch_in row) index n inside w.can can));
        put = same_place;
        holds = after;
      }

  wrong : (why : Fault) → fault_of (fetch_in row) (Is index n) ≡ Some why → NumberPut row (set row (index + 1) n) index n (Err why)
  wrong why k = record { told = sym (ap unless k); put = same_place; holds = record {} }

  pub number_not_taken : is_ok answer ≡ false → index ≡ 0 → ltb n (2 ^ width_of (position FETCH_INST)) ≡ true → NumberPut row (set row (index + 1) n) index n (Err NotTaken)
  number_not_taken z first t = wrong NotTaken (number-wrong (fetch_in row) index n inside w.can (can_not z) first t)

  pub first_wide : index ≡ 0 → ltb n (2 ^ width_of (position FETCH_INST)) ≡ false → NumberPut row (set row (index + 1) n) index n (Err TooWide)
  first_wide first t = wrong TooWide (first-too-wide (fetch_in row) index n inside w.can first t)

  pub other_wide : is_ok answer ≡ false → (index ≡ 0 → ⊥) → NumberPut row (set row (index + 1) n) index n (Err TooWide)
  other_wide z other = wrong TooWide (other-too-wide (fetch_in row) index n inside w.can (can_not z) other)
