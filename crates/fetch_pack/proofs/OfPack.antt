-- A pack in bytes: taken or not by its length; and what became of its words is what becomes of its bytes. Assumes nothing.
use mathlib.Core.Path.{◌≡◌, refl, sym, ap, ◌∙◌, subst}
use mathlib.Core.Bool.{true, ◌&&◌}
use mathlib.Core.List.{List, [], ◌∷◌, ◌++◌, append-nil, append_assoc}
use Rattle.std.specs.Prelude.{Option, Some, None, Result, Ok, Err, IsErrAnd, ⊤}
use Prim.Native.Nat.{ℕ, zero, suc, ◌+◌, ◌*◌, ◌/◌, ◌%◌, ◌^◌, ◌≤◌, ◌<◌, min}
use native.Mathlib.Nat.{min-eq_left}
use native.Mathlib.Omega.{arith}
use lib.ListN.{length, get_or, take, drop, length-append, drop_of_length-le}
use lib.Seq.{take_all, take_at, drop_at, length-take-le, sets, sets-eq, length-sets}
use lib.Dec.{leb, eqb}
use borrow.Author.Tests.{le-leb, leb-true, eq-eqb, eqb-true}
use Rattle.laws.proofs.OfTests.{both, by_test_lem}
use Rattle.units.specs.declared.Words.{Words}
use Rattle.card.specs.Card.{quads_allowed}
use Rattle.fetch_codec.specs.declared.Clause.{Clause}
use Rattle.fetch_codec.specs.declared.Fetch.{Fetch}
use Rattle.fetch_codec.specs.Fetch.{encodable, word0_of, word1_of, word2_of}
use Rattle.microcode.specs.Buffer.{room}
use Rattle.microcode.proofs.OfCodec.{length-over}
use Rattle.fetch_codec.specs.Buffer.{Decoded, decode_of, encode_words}
use Rattle.fetch_text.specs.declared.EditError.{EditError}
use Rattle.fetch_text.specs.declared.ShowError.{ShowError}
use Rattle.fetch_text.specs.Text.{shown_of, shown_after}
use Rattle.fetch_text.specs.Edit.{lines_in, first_fault, words_with, unless, edit_of, edited_words, edited, Promised}
use Rattle.input.specs.Words.{words_in, bytes_of, stored_in}
use Rattle.input.proofs.OfWords.{words_length, words_back, bytes_back, bytes_take, bytes_drop}
use Rattle.laws.proofs.OfCases.{impossible}
use Rattle.fetch_pack.specs.declared.PackError.{PackError}
use Rattle.fetch_pack.specs.declared.PackError.TheVariants.{TooLong, NotWhole}
use Rattle.fetch_pack.specs.declared.PackError.TheVariants as pack_error
use Rattle.fetch_pack.specs.Pack.{of_pack, length_test, on_words, pack_shown, pack_shown_after, pack_edit, pack_after, bytes_after, OthersStay, PackPromised}
use Rattle.fetch_pack.specs.Code.{EditedIn}

-- ---- by the pack's length

-- a pack that is taken
pub record IsPack (pack : List ℕ) : Type 0 where
  pub short : length pack ≤ 65536
  pub whole : length pack % 8 ≡ 0

pub is_pack : {E : Type 0} (pack : List ℕ) {r : Result ⊤ (PackError E)} {t : ⊤} → r ≡ Ok t → r ≡ length_test pack → IsPack pack
is_pack {E} pack {r} {t} is e =
    by_test_lem (leb (length pack) (8192 * 8))
    (λ short. by_test_lem (eqb (length pack % 8) 0)
    (λ whole. record { short = leb-true (length pack) 65536 short; whole = eqb-true (length pack % 8) 0 whole })
    (λ part. let z : Ok t ≡ Err NotWhole = rw (short, part) at (sym is ∙ e) in impossible cc))
    (λ long. let z : Ok t ≡ Err TooLong = rw long at (sym is ∙ e) in impossible cc)

on_pack : {A : Type 0} {pack : List ℕ} → IsPack pack → (x y z : A) → of_pack pack x y z ≡ z
on_pack {A} {pack} p x y z = rw (le-leb (length pack) 65536 p.short, eq-eqb (length pack % 8) 0 p.whole)

-- an answer that hands an error on is that error
pub is_err : {A E : Type 0} (r : Result A E) {e : E} → IsErrAnd r (λ x. x ≡ e) → r ≡ Err e
is_err (Ok t) h = absurd h
is_err {E = E} (Err x) h = ap (λ (y : E). Err y) h

-- what is shown of the pack is shown of its words
module _ (clause : Clause) (pack : List ℕ) (start : Words) (out : List ℕ) {ws after : List ℕ} {r : Result ℕ ShowError} (p : IsPack pack) (is : ws ≡ words_in pack)
    (told : r ≡ shown_of (decode_of clause ws start) out) (written : after ≡ shown_after (decode_of clause ws start) out) where
  pub shown_told : on_words r ≡ pack_shown clause pack start out
  shown_told =
      ap (λ (x : Result ℕ ShowError). on_words x) (told ∙ ap (λ (l : List ℕ). shown_of (decode_of clause l start) out) is)
      ∙ sym (on_pack p (Err TooLong) (Err NotWhole) (on_words (shown_of (decode_of clause (words_in pack) start) out)))

  pub shown_written : after ≡ pack_shown_after clause pack start out
  shown_written =
      written
      ∙ ap (λ (l : List ℕ). shown_after (decode_of clause l start) out) is
      ∙ sym (on_pack p out out (shown_after (decode_of clause (words_in pack) start) out))

-- ---- what becomes of the bytes

-- an answer that nothing was edited leaves the words
words_stay : (d : Decoded) (text ws : List ℕ) (start : Words) {e : EditError} → edit_of d text ≡ Err e → edited_words d text ws start ≡ ws
words_stay (Err why) text ws start h = refl
words_stay (Ok f) text ws start {e} h = by (first_fault f 0 (lines_in text)) h
  where
    by : (o : Option EditError) → unless o ≡ Err e → words_with o (edited f (lines_in text)) ws start ≡ ws
    by None h = impossible cc
    by (Some x) h = refl

-- no edit makes them more or fewer, nor changes any but the fetch's four
module _ (f : Fetch) (ws : List ℕ) (start : Words) where
  four : List ℕ
  four = word0_of f ∷ word1_of f ∷ word2_of f ∷ 0 ∷ []

  -- what holds of the words as they were, and of the four over them, holds of them then
  encoded_by :
      (P : List ℕ → Type 0) → P ws → (start.0 + 4 ≤ length ws → P (take start.0 ws ++ (four ++ drop (start.0 + 4) ws))) → P (encode_words f ws start)
  unfolding four
  encoded_by P same over =
      by_test_lem (encodable f)
      (λ e. by_test_lem (room 4 ws start.0) (λ t. rw (e, t) (over (leb-true (start.0 + 4) (length ws) t))) (λ t. rw (e, t) same))
      (λ e. rw e same)

  encoded_length : length (encode_words f ws start) ≡ length ws
  unfolding four
  encoded_length = encoded_by (λ l. length l ≡ length ws) refl (λ fits. length-over start.0 four ws fits)

  encoded_earlier : take start.0 (encode_words f ws start) ≡ take start.0 ws
  encoded_earlier =
      encoded_by (λ l. take start.0 l ≡ take start.0 ws) refl
      (λ fits. take_at (take start.0 ws) (four ++ drop (start.0 + 4) ws) start.0 (length-take-le start.0 ws (omega arith)))

  encoded_later : drop (start.0 + 4) (encode_words f ws start) ≡ drop (start.0 + 4) ws
  unfolding four
  encoded_later =
      encoded_by (λ l. drop (start.0 + 4) l ≡ drop (start.0 + 4) ws) refl
      (λ fits.
      let first = take start.0 ws in
      let place : start.0 + 4 ≡ length (first ++ four) = omega (arith, length-append first four, length-take-le start.0 ws (omega arith)) in
      ap (drop (start.0 + 4)) (sym (append_assoc first four (drop (start.0 + 4) ws)))
      ∙ drop_at (first ++ four) (drop (start.0 + 4) ws) (start.0 + 4) (sym place))

pub edited_length : (d : Decoded) (text ws : List ℕ) (start : Words) → length (edited_words d text ws start) ≡ length ws
edited_length (Err e) text ws start = refl
edited_length (Ok f) text ws start = by (first_fault f 0 (lines_in text))
  where
    by : (o : Option EditError) → length (words_with o (edited f (lines_in text)) ws start) ≡ length ws
    by None = encoded_length (edited f (lines_in text)) ws start
    by (Some x) = refl

module _ (d : Decoded) (text ws : List ℕ) (start : Words) where
  edited_earlier : take start.0 (edited_words d text ws start) ≡ take start.0 ws
  edited_earlier = by d
    where
      at : (o : Option EditError) (f : Fetch) → take start.0 (words_with o f ws start) ≡ take start.0 ws
      at None f = encoded_earlier f ws start
      at (Some x) f = refl

      by : (d : Decoded) → take start.0 (edited_words d text ws start) ≡ take start.0 ws
      by (Err e) = refl
      by (Ok f) = at (first_fault f 0 (lines_in text)) (edited f (lines_in text))

  edited_later : drop (start.0 + 4) (edited_words d text ws start) ≡ drop (start.0 + 4) ws
  edited_later = by d
    where
      at : (o : Option EditError) (f : Fetch) → drop (start.0 + 4) (words_with o f ws start) ≡ drop (start.0 + 4) ws
      at None f = encoded_later f ws start
      at (Some x) f = refl

      by : (d : Decoded) → drop (start.0 + 4) (edited_words d text ws start) ≡ drop (start.0 + 4) ws
      by (Err e) = refl
      by (Ok f) = at (first_fault f 0 (lines_in text)) (edited f (lines_in text))

-- so of the pack's bytes only the fetch's change
others_stay : (d : Decoded) (pack text : List ℕ) (start : Words) → ((k : ℕ) → get_or pack k 0 < 256) → length pack % 4 ≡ 0
    → OthersStay pack (bytes_of (edited_words d text (words_in pack) start)) start
others_stay d pack text start small w =
    let ws = words_in pack in
    let after = edited_words d text ws start in
    let back = bytes_back pack small w in
    let place : (start.0 + 4) * 4 ≡ start.0 * 4 + 16 = omega arith in
    record {
      earlier =
          bytes_take start.0 after
          ∙ ap bytes_of (edited_earlier d text ws start)
          ∙ sym (bytes_take start.0 ws)
          ∙ ap (take (start.0 * 4)) back;
      later =
          ap (λ (n : ℕ). drop n (bytes_of after)) (sym place)
          ∙ bytes_drop (start.0 + 4) after
          ∙ ap bytes_of (edited_later d text ws start)
          ∙ sym (bytes_drop (start.0 + 4) ws)
          ∙ ap (drop ((start.0 + 4) * 4)) back
          ∙ ap (λ (n : ℕ). drop n pack) place;
    }

all_stay : (pack : List ℕ) (start : Words) → OthersStay pack pack start
all_stay pack start = record { earlier = refl; later = refl }

-- as many words as the pack has, stored over it, are its bytes
stored_whole : (pack ws : List ℕ) → length pack % 4 ≡ 0 → length ws ≡ length pack / 4 → stored_in ws pack ≡ bytes_of ws
stored_whole pack ws w e =
    let n : min (length ws) (length pack / 4) ≡ length ws = ap (λ (k : ℕ). min (length ws) k) (sym e) ∙ min-eq_left (omega arith) in
    ap (λ (k : ℕ). bytes_of (take k ws) ++ drop (k * 4) pack) n
    ∙ (λ i. bytes_of (take_all (length ws) ws (omega arith) i) ++ drop_of_length-le pack {i = length ws * 4} (omega arith) i)
    ∙ append-nil (bytes_of ws)

-- what is answered on the words is told of the pack
told_of : (e x : Result ⊤ EditError) → on_words e ≡ on_words x → e ≡ x
told_of (Ok s) (Ok t) h = refl
told_of (Ok s) (Err why) h = impossible cc
told_of (Err why) (Ok t) h = impossible cc
told_of (Err why) (Err more) h = cc

module _ (clause : Clause) (pack text : List ℕ) (start : Words) {ws after : List ℕ} {r : Result ⊤ EditError} (is : ws ≡ words_in pack)
    (told : r ≡ edit_of (decode_of clause ws start) text) (words : after ≡ edited_words (decode_of clause ws start) text ws start)
    (promised : Promised clause ws after text start r) where
  as_many : length after ≡ length pack / 4
  as_many = ap length words ∙ edited_length (decode_of clause ws start) text ws start ∙ ap length is ∙ words_length pack

  answered : r ≡ edit_of (decode_of clause (words_in pack) start) text
  answered = told ∙ ap (λ (l : List ℕ). edit_of (decode_of clause l start) text) is

  -- nothing was stored
  pub edit_refused : {e : EditError} → r ≡ Err e → EditedIn clause pack pack text start r
  edit_refused {e} h =
      let stay = words ∙ words_stay (decode_of clause ws start) text ws start (sym told ∙ h) in
      record {
        told = answered;
        bytes = ap (λ (x : Result ⊤ EditError). bytes_after x pack (edited_words (decode_of clause (words_in pack) start) text (words_in pack) start)) (sym h ∙ answered);
        others = all_stay pack start;
        promised = subst (λ (l : List ℕ). Promised clause l l text start r) is (subst (λ (l : List ℕ). Promised clause ws l text start r) stay promised);
      }

  -- the words were stored
  pub edit_stored : {bytes : List ℕ} {t : ⊤} → r ≡ Ok t → length pack % 4 ≡ 0 → ((k : ℕ) → get_or after k 0 < 2 ^ 32) → ((k : ℕ) → get_or pack k 0 < 256)
      → bytes ≡ stored_in after pack → EditedIn clause pack bytes text start r
  edit_stored {bytes} q w small pack_small b =
      let whole = b ∙ stored_whole pack after w as_many in
      let back : after ≡ words_in bytes = sym (ap words_in whole ∙ words_back after small) in
      let edited_bytes = whole ∙ ap bytes_of (words ∙ ap (λ (l : List ℕ). edited_words (decode_of clause l start) text l start) is) in
      record {
        told = answered;
        bytes =
            edited_bytes
            ∙ ap (λ (x : Result ⊤ EditError). bytes_after x pack (edited_words (decode_of clause (words_in pack) start) text (words_in pack) start)) (sym q ∙ answered);
        others = subst (λ (b : List ℕ). OthersStay pack b start) (sym edited_bytes) (others_stay (decode_of clause (words_in pack) start) pack text start pack_small w);
        promised = subst (λ (l : List ℕ). Promised clause (words_in pack) l text start r) back (subst (λ (l : List ℕ). Promised clause l after text start r) is promised);
      }

-- what a pack of the right length becomes, and what is told of it
module _ {clause : Clause} {pack bytes text : List ℕ} {start : Words} {r : Result ⊤ EditError} (p : IsPack pack) (e : EditedIn clause pack bytes text start r) where
  pub pack_told : on_words r ≡ pack_edit clause pack start text
  pack_told =
      ap (λ (x : Result ⊤ EditError). on_words x) e.told
      ∙ sym (on_pack p (Err TooLong) (Err NotWhole) (on_words (edit_of (decode_of clause (words_in pack) start) text)))

  pub pack_edited : bytes ≡ pack_after clause pack start text
  pack_edited =
      e.bytes
      ∙ sym (on_pack p pack pack
      (bytes_after (edit_of (decode_of clause (words_in pack) start) text) pack (edited_words (decode_of clause (words_in pack) start) text (words_in pack) start)))

  pub pack_promised_lem : PackPromised clause pack bytes text start (on_words r)
  pack_promised_lem =
      record {
        others = e.others;
        words = λ x q. subst (λ (x : Result ⊤ EditError). Promised clause (words_in pack) (words_in bytes) text start x) (told_of r x q) e.promised;
      }

-- every pack that a card allows is taken
pub any_pack_taken : (quads : ℕ) → quads_allowed quads ≡ true → quads * 8 ≤ 65536
any_pack_taken quads h = let k = leb-true quads 8192 (both (leb 1 quads) (leb quads 8192) h).1 in omega arith
