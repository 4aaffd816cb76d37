-- What the private functions promise; no public contract reaches it.
use Rattle.std.specs.Prelude.{ℕ, ◌≡◌, List, Result, ⊤}
use Rattle.units.specs.declared.Words.{Words}
use Rattle.fetch_codec.specs.declared.Clause.{Clause}
use Rattle.fetch_codec.specs.Buffer.{decode_of}
use Rattle.fetch_text.specs.declared.EditError.{EditError}
use Rattle.fetch_text.specs.Edit.{edit_of, edited_words, Promised}
use Rattle.input.specs.Words.{words_in}
use Rattle.fetch_pack.specs.Pack.{bytes_after, OthersStay}

-- an edit of a pack that is whole quadwords
pub record EditedIn (clause : Clause) (before after text : List ℕ) (start : Words) (r : Result ⊤ EditError) : Type 0 where
  pub told : r ≡ edit_of (decode_of clause (words_in before) start) text
  pub bytes : after
      ≡ bytes_after (edit_of (decode_of clause (words_in before) start) text) before (edited_words (decode_of clause (words_in before) start) text (words_in before) start)
  pub others : OthersStay before after start
  pub promised : Promised clause (words_in before) (words_in after) text start r
