-- A fetch of a pack in bytes: document 02, request 2, for people who edit by hand. A pack is whole quadwords, 8,192 at most, as document 01 has
-- it; what is shown of its words and becomes of them is said in fetch_text's Text.antt and Edit.antt.
use Rattle.std.specs.Prelude.{ℕ, ◌+◌, ◌*◌, ◌%◌, ◌≡◌, cond, List, eqb, leb, length, take, drop, Result, Ok, Err, ⊤}
use Rattle.units.specs.declared.Words.{Words}
use Rattle.fetch_codec.specs.declared.Clause.{Clause}
use Rattle.fetch_codec.specs.Buffer.{decode_of}
use Rattle.fetch_text.specs.declared.ShowError.{ShowError}
use Rattle.fetch_text.specs.declared.EditError.{EditError}
use Rattle.fetch_text.specs.Text.{shown_of, shown_after}
use Rattle.fetch_text.specs.Edit.{edit_of, edited_words, Promised}
use Rattle.input.specs.Words.{words_in, bytes_of}
use Rattle.fetch_pack.specs.declared.PackError.{PackError}
use Rattle.fetch_pack.specs.declared.PackError.TheVariants.{TooLong, NotWhole, Fetch}

-- one of three: the pack is too long, or no whole quadwords, or a pack
abbrev pub of_pack : {A : Type 0} → List ℕ → A → A → A → A
of_pack pack too_long not_whole whole = cond (leb (length pack) (8192 * 8)) (cond (eqb (length pack % 8) 0) whole not_whole) too_long

-- what is wrong with its length, if anything
abbrev pub length_test : {E : Type 0} → List ℕ → Result ⊤ (PackError E)
length_test pack = of_pack pack (Err TooLong) (Err NotWhole) (Ok (record {}))

-- what is answered on its words
abbrev pub on_words : {A E : Type 0} → Result A E → Result A (PackError E)
on_words (Ok a) = Ok a
on_words (Err e) = Err (Fetch e)

-- ---- shown

abbrev pub pack_shown : Clause → List ℕ → Words → List ℕ → Result ℕ (PackError ShowError)
pack_shown clause pack start buffer =
    of_pack pack (Err TooLong) (Err NotWhole) (on_words (shown_of (decode_of clause (words_in pack) start) buffer))

abbrev pub pack_shown_after : Clause → List ℕ → Words → List ℕ → List ℕ
pack_shown_after clause pack start buffer =
    of_pack pack buffer buffer (shown_after (decode_of clause (words_in pack) start) buffer)

-- ---- edited

abbrev pub pack_edit : Clause → List ℕ → Words → List ℕ → Result ⊤ (PackError EditError)
pack_edit clause pack start text = of_pack pack (Err TooLong) (Err NotWhole) (on_words (edit_of (decode_of clause (words_in pack) start) text))

-- the pack's bytes afterwards: those of the words where the edit is done, else as they were
abbrev pub bytes_after : Result ⊤ EditError → List ℕ → List ℕ → List ℕ
bytes_after (Err e) pack words = pack
bytes_after (Ok t) pack words = bytes_of words

abbrev pub pack_after : Clause → List ℕ → Words → List ℕ → List ℕ
pack_after clause pack start text =
    let d = decode_of clause (words_in pack) start in
    of_pack pack pack pack (bytes_after (edit_of d text) pack (edited_words d text (words_in pack) start))

-- the bytes before the fetch's sixteen and behind them stay
pub record OthersStay (before after : List ℕ) (start : Words) : Type 0 where
  pub earlier : take (start.0 * 4) after ≡ take (start.0 * 4) before
  pub later : drop (start.0 * 4 + 16) after ≡ drop (start.0 * 4 + 16) before

-- whatever is answered; and what is promised of the words is true of those that the bytes hold then
pub record PackPromised (clause : Clause) (before after text : List ℕ) (start : Words) (r : Result ⊤ (PackError EditError)) : Type 0 where
  pub others : OthersStay before after start
  pub words : (e : Result ⊤ EditError) → r ≡ on_words e → Promised clause (words_in before) (words_in after) text start e
