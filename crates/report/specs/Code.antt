-- What the private functions promise each other.
use Rattle.std.specs.Prelude.{ℕ, ◌+◌, ◌≡◌, List, ◌++◌, length, take, drop, map}
use Rattle.std.specs.Borrow.{Bor}
use Rattle.ascii.specs.Ascii.{ascii}
use Rattle.ascii.specs.Decimal.{decimal}
use Rattle.report.specs.declared.lines.Value.{Value}
use Rattle.report.specs.declared.lines.Value.TheVariants.{Word, Number}

-- bytes were put into a buffer at a place, behind what stood before it; what stands behind their end is as it was
pub record Appended (at : ℕ) (bytes earlier later : List ℕ) (end : ℕ) : Type 0 where
  pub ends : end ≡ at + length bytes
  pub written : take end later ≡ take at earlier ++ bytes
  pub kept : drop end later ≡ drop end earlier

-- a line NAME=value: a key with its equals sign, and a value
abbrev pub text_line : List ℕ → List ℕ → List ℕ
text_line key value = key ++ (value ++ ascii "\n")

-- what stands behind a key
abbrev pub value_text : Value → List ℕ
value_text (Word word) = word.now
value_text (Number n) = decimal n

-- lines as the code has them, and as text
abbrev pub text_lines : List (Bor (List ℕ) × Value) → List (List ℕ)
text_lines lines = map (λ (l : Bor (List ℕ) × Value). text_line l.0.now (value_text l.1)) lines
