-- What every word format keeps. By it reading and writing undo each other, both ways (proofs/OfFormats.antt).
use Rattle.std.specs.Prelude.{◌≡◌, ℕ, true, List}
use Rattle.bits.specs.declared.Bits.{Bits}
use Rattle.bits.specs.Tables.{fields_of, fills_word}

-- of the table of a word's fields, the values that a record has of them, and the record that a word holds
pub record FormatLaws {W : Type 0} (table : List Bits) (values : W → List ℕ) (of_word : ℕ → W) : Type 0 where
  -- each of the 32 bits is in one field
  pub filled : fills_word 0 table ≡ true
  -- a record that is read has the values that the fields have in the word
  pub read : (n : ℕ) → values (of_word n) ≡ fields_of table n
  -- and a record has nothing besides
  pub same : (r s : W) → values r ≡ values s → r ≡ s
