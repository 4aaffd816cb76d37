-- Any word format: the word of a record that was read is the word, and the record of a word that was written is the record, where
-- its fields fit. Assumes nothing.
use mathlib.Core.Path.{◌≡◌, ap, ◌∙◌}
use mathlib.Core.Bool.{true}
use mathlib.Core.List.{List}
use Prim.Native.Nat.{ℕ, ◌^◌, ◌<◌}
use Rattle.bits.specs.declared.Bits.{Bits}
use Rattle.bits.specs.Tables.{fields_of, word_of, fits_table}
use Rattle.bits.proofs.OfTables.{word_of_fields, fields_of_word, fields_fit_lem, word_lt}
use Rattle.formats.specs.Laws.{FormatLaws}

module _ {W : Type 0} {table : List Bits} {values : W → List ℕ} {of : ℕ → W} (f : FormatLaws table values of) where
  -- read and written
  pub word_again : (n : ℕ) → n < 2 ^ 32 → word_of table (values (of n)) ≡ n
  word_again n h = ap (word_of table) (f.read n) ∙ word_of_fields table f.filled n h

  pub read_fits : (n : ℕ) → fits_table table (values (of n)) ≡ true
  read_fits n = ap (fits_table table) (f.read n) ∙ fields_fit_lem table f.filled n

  -- written and read
  pub fields_again : (r : W) → fits_table table (values r) ≡ true → fields_of table (word_of table (values r)) ≡ values r
  fields_again r h = fields_of_word table f.filled (values r) h

  pub record_again : (r : W) → fits_table table (values r) ≡ true → of (word_of table (values r)) ≡ r
  record_again r h =
      let n = word_of table (values r) in
      f.same (of n) r (f.read n ∙ fields_again r h)

  pub word_32 : (r : W) → word_of table (values r) < 2 ^ 32
  word_32 r = word_lt table f.filled (values r)
