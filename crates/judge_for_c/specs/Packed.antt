-- A verdict as one number of 64 bits, for C: the verdict's number in bits 7:0, its place in bits 31:16, its slot in bits 47:32, and a bit of
-- its own, 48, which the function on files sets where the pack is released. Bits 15:8 are kept for the operand at fault; they and all behind
-- bit 48 are 0.
use Rattle.std.specs.Prelude.{ℕ, ◌≡◌, [], ◌∷◌}
use Rattle.bits.specs.Fields.{field_of}
use Rattle.bits.specs.Tables.{join}
use Rattle.checks.specs.Verdict.{Verdict, verdict_number, verdict_place, verdict_slot}

-- a row of fields of 8, 8, 16, 16 and 1 bits, lowest first. A value that its bits don't hold is cut to them: no verdict on a pack has one
unfoldable pub packed : Verdict → ℕ → ℕ
packed v bit = join 0 (8 ∷ 8 ∷ 16 ∷ 16 ∷ 1 ∷ []) (verdict_number v ∷ 0 ∷ verdict_place v ∷ verdict_slot v ∷ bit ∷ [])

-- that bit of an answer
abbrev pub bit_of : ℕ → ℕ
bit_of r = field_of r 48 1

-- the verdict's three numbers and the bit are read off r as they are, and r has no other bits
pub record ReadBack (v : Verdict) (bit r : ℕ) : Type 0 where
  pub number : field_of r 0 8 ≡ verdict_number v
  pub operand : field_of r 8 8 ≡ 0
  pub place : field_of r 16 16 ≡ verdict_place v
  pub slot : field_of r 32 16 ≡ verdict_slot v
  pub is_set : bit_of r ≡ bit
  pub rest : field_of r 49 15 ≡ 0
