-- Values over the beginning of a row, part by part. Assumes nothing.
use mathlib.Core.Path.{◌≡◌, refl, sym, ap, ◌∙◌}
use mathlib.Core.Bool.{Bool, true, false}
use mathlib.Core.List.{List, [], ◌∷◌, ◌++◌}
use Prim.Native.Nat.{ℕ, zero, suc, ◌+◌, ◌-◌, ◌≤◌, ◌<◌}
use native.Mathlib.Nat.{suc-add}
use native.Mathlib.Omega.{arith}
use lib.ListN.{length, take, drop, set, length-append, length-drop, drop_of_length-le}
use lib.Seq.{take_all, take-append_seam, drop-append_seam}
use borrow.Rule.Slice.PartMut.{put_mid, mid_of}
use Rattle.std.proofs.Common.{append_assoc, append-nil}
use Rattle.std.proofs.lemmas.List.{drop-drop}
use borrow.Author.Tests.{le-leb, lt-leb}
use Rattle.std.specs.Prelude.{Err}
use Rattle.laws.proofs.OfLists.{to_the_end}
use Rattle.units.specs.declared.Words.{Words}
use Rattle.microcode.specs.declared.EncodeError.TheVariants.{NoRecord, NoRoom}
use Rattle.microcode.specs.Answer.{Done}
use Rattle.microcode.specs.Buffer.{write_answer, write_words}
use Rattle.fetch_codec.specs.Fetch.{words_if}
use Rattle.codec_for_c.specs.Values.{written}

-- the form, over the first element
pub form_put : (vs : List ℕ) (form : ℕ) → 0 < length vs → set vs 0 form ≡ written (form ∷ []) vs
form_put [] form h = absurd (omega arith)
form_put (v ∷ vs) form h = refl

module _ (xs ys vs : List ℕ) where
  -- the part behind the first
  rest : mid_of (length xs) (length (written xs vs) - length xs) (written xs vs) ≡ drop (length xs) vs
  rest = to_the_end (length xs) (written xs vs) ∙ drop-append_seam xs (drop (length xs) vs)

  nothing-behind : drop (length (written xs vs) - length xs) (drop (length xs) (written xs vs)) ≡ []
  nothing-behind = drop_of_length-le (drop (length xs) (written xs vs)) (omega (arith, length-drop (length xs) (written xs vs)))

  behind : (p : List ℕ) → put_mid (length xs) (length (written xs vs) - length xs) (written xs vs) p ≡ xs ++ p
  behind p =
      (λ i. take-append_seam xs (drop (length xs) vs) i ++ (p ++ nothing-behind i))
      ∙ ap (λ (q : List ℕ). xs ++ q) (append-nil p)

  both_written : xs ++ written ys (drop (length xs) vs) ≡ written (xs ++ ys) vs
  both_written =
      sym (append_assoc xs ys (drop (length ys) (drop (length xs) vs)))
      ∙ ap (λ (q : List ℕ). xs ++ ys ++ q)
      (drop-drop (length ys) (length xs) vs ∙ ap (λ (n : ℕ). drop n vs) (sym (length-append xs ys)))

-- what is put into the part behind the first values is put behind them
pub put_behind : (xs ys vs : List ℕ) (from len : ℕ) {l p : List ℕ} → l ≡ written xs vs → from ≡ length xs → len ≡ length vs → from ≤ len
    → p ≡ written ys (mid_of from (len - from) l) → put_mid from (len - from) l p ≡ written (xs ++ ys) vs
put_behind xs ys vs from len {l} {p} a e f fit q =
    let g : len ≡ length (written xs vs) = omega (arith, length-append xs (drop (length xs) vs), length-drop (length xs) vs) in
    let r : p ≡ written ys (drop (length xs) vs) = q ∙ (λ i. written ys (mid_of (e i) (g i - e i) (a i))) ∙ ap (written ys) (rest xs ys vs) in
    (λ i. put_mid (e i) (g i - e i) (a i) (r i)) ∙ behind xs ys vs (written ys (drop (length xs) vs)) ∙ both_written xs ys vs

-- a record is read from the part behind as from the whole
pub got_behind : {W : Type 0} {at : ℕ → List ℕ → W} → ((k : ℕ) (vs : List ℕ) → at 0 (drop k vs) ≡ at k vs) → (from len : ℕ) (row : List ℕ) → length row ≤ len
    → at 0 (mid_of from (len - from) row) ≡ at from row
got_behind {W} {at} law from len row h =
    ap (at 0) (take_all (len - from) (drop from row) (omega (arith, length-drop from row))) ∙ law from row

-- four elements written in that order
pub four_over : (at : ℕ) (l : List ℕ) (a b c : ℕ) → at + 4 ≤ length l
    → set (set (set (set l (at + 3) 0) at a) (at + 1) b) (at + 2) c ≡ take at l ++ (a ∷ b ∷ c ∷ 0 ∷ drop (at + 4) l)
four_over zero [] a b c h = absurd (omega arith)
four_over zero (w ∷ []) a b c h = absurd (omega arith)
four_over zero (w ∷ x ∷ []) a b c h = absurd (omega arith)
four_over zero (w ∷ x ∷ y ∷ []) a b c h = absurd (omega arith)
four_over zero (w ∷ x ∷ y ∷ z ∷ l) a b c h = refl
four_over (suc at) [] a b c h = absurd (omega arith)
four_over (suc at) (w ∷ l) a b c h =
    rw (suc-add at 1, suc-add at 2, suc-add at 3, suc-add at 4) (ap (λ (m : List ℕ). w ∷ m) (four_over at l a b c (omega arith)))

-- what the writer of a fetch's words answers and leaves, by whether they are a fetch's and whether there is room
module _ (t : Bool) (w0 w1 w2 : ℕ) (l : List ℕ) (start : Words) where
  pub none_answer : t ≡ false → Err NoRecord ≡ write_answer (words_if t w0 w1 w2) l start
  none_answer e = rw e refl

  pub none_after : t ≡ false → l ≡ write_words (words_if t w0 w1 w2) l start
  none_after e = rw e refl

  module _ (e : t ≡ true) where
    pub short_answer : length l < start.0 + 4 → Err NoRoom ≡ write_answer (words_if t w0 w1 w2) l start
    short_answer h = rw (e, lt-leb (start.0 + 4) (length l) h) refl

    pub short_after : length l < start.0 + 4 → l ≡ write_words (words_if t w0 w1 w2) l start
    short_after h = rw (e, lt-leb (start.0 + 4) (length l) h) refl

    pub four_answer : start.0 + 4 ≤ length l → Done ≡ write_answer (words_if t w0 w1 w2) l start
    four_answer h = rw (e, le-leb (start.0 + 4) (length l) h) refl

    pub four_after : start.0 + 4 ≤ length l → {a b c : ℕ} → a ≡ w0 → b ≡ w1 → c ≡ w2
        → set (set (set (set l (start.0 + 3) 0) start.0 a) (start.0 + 1) b) (start.0 + 2) c ≡ write_words (words_if t w0 w1 w2) l start
    four_after h {a} {b} {c} p q r =
        rw (e, le-leb (start.0 + 4) (length l) h)
        (four_over start.0 l a b c h ∙ (λ i. take start.0 l ++ (p i ∷ q i ∷ r i ∷ 0 ∷ drop (start.0 + 4) l)))
