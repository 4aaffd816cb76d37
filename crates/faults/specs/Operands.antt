-- What found and limit claim: an operand's field holds the one, and the other is the first of its sort that is not granted. This is said of the
-- fields, by AMD's names, and not of `first_fault`.
use Rattle.std.specs.Prelude.{ℕ, ◌<◌, ◌≡◌, true, false, cond}
use mathlib.Core.List.{List, [], ◌∷◌, ◌++◌, Memᴰ}
use Rattle.formats.specs.Fields.{◌of◌, DST_GPR, SRC0_SEL, SRC1_SEL, SRC2_SEL, FETCH_INST, FETCH_DST_GPR, FETCH_SRC_GPR}
use Rattle.opcodes.specs.declared.cf.FetchKind.{FetchKind}
use Rattle.grants.specs.declared.Limits.{Limits}
use Rattle.grants.specs.Grants.{Name, granted}
use Rattle.instructions.specs.Instruction.{is_op3, source0_of, source1_of, source2_of, destination_names, names_of}
use Rattle.fetches.specs.Fetches as fetches
use Rattle.faults.specs.Faults.{number_of, same_sort}

-- an operand: the number that stands in its field, and what the instruction names by it directly. That is nothing where the operand is relative, or a
-- destination that is not written
pub record Operand : Type 0 where
  pub number : ℕ
  pub names : List Name

abbrev pub operand : ℕ → List Name → Operand
operand number names = record { number = number; names = names }

-- of an ALU instruction by its two words, destination, then sources; the third is OP3's only
unfoldable pub operands_of : ℕ → ℕ → List Operand
operands_of lo hi =
    operand (DST_GPR of hi) (destination_names hi)
    ∷ operand (SRC0_SEL of lo) (names_of (source0_of lo))
    ∷ operand (SRC1_SEL of lo) (names_of (source1_of lo))
    ∷ cond (is_op3 hi) (operand (SRC2_SEL of hi) (names_of (source2_of hi)) ∷ []) []

-- of a fetch by its first two words
unfoldable pub fetch_operands : FetchKind → ℕ → ℕ → List Operand
fetch_operands kind w0 w1 =
    operand (FETCH_DST_GPR of w1) (fetches.destination kind (FETCH_INST of w0) w1)
    ∷ operand (FETCH_SRC_GPR of w0) (fetches.source w0)
    ∷ []

-- limit is the first number of a name's sort that is not granted: its k-th is not, and all before that are
pub record FirstOfSort (limits : Limits) (name : Name) (limit : ℕ) : Type 0 where
  pub k : ℕ
  pub limit_is : limit ≡ number_of (same_sort name k)
  pub not_granted : granted limits (same_sort name k) ≡ false
  pub granted_before : (j : ℕ) → j < k → granted limits (same_sort name j) ≡ true

-- the first operand at fault holds found
pub record FirstAtFault (limits : Limits) (operands : List Operand) (found limit : ℕ) : Type 0 where
  pub earlier : List Operand
  pub later : List Operand
  pub name : Name
  -- found stands in the field of one of the operands, which names something directly
  pub parts : operands ≡ earlier ++ (operand found (name ∷ []) ∷ later)
  -- and that is not granted
  pub not_granted : granted limits name ≡ false
  -- all that the operands before it name is
  pub none_earlier : (o : Operand) → Memᴰ o earlier → (n : Name) → Memᴰ n o.names → granted limits n ≡ true
  pub limit_first : FirstOfSort limits name limit
