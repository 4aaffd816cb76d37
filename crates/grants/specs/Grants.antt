-- Registers and constants that an instruction names directly, and which of them are granted: document 01, rules 7, 9 and 15.
use Rattle.std.specs.Prelude.{ℕ, ◌-◌, Bool, true, cond, ◌&&◌, ◌||◌, List, [], ◌∷◌, eqb, ltb, leb}
use Rattle.grants.specs.declared.Limits.{Limits}

-- what an operand without its relative bit names
pub data Name : Type 0 where
  -- a register, by an export or a fetch
  register : ℕ → Name
  -- a register, by an ALU instruction
  alu_register : ℕ → Name
  -- a constant of the two sets that the clause's opener locks: sources 128 to 159 less 128, and 160 to 191 less 160
  set0 set1 : ℕ → Name
  -- a constant of the constant file: sources 256 to 511 less 256
  constant : ℕ → Name

-- mode 0 grants none of a set, 1 the first 16, 2 and 3 all 32
abbrev pub locked : ℕ → ℕ
locked mode = cond (eqb mode 0) 0 (cond (eqb mode 1) 16 32)

-- rules 7 and 9: registers below gprs. Rule 15: registers below gprs or at least 128 less temps; a set's constants by its mode;
-- constants below consts
abbrev pub granted : Limits → Name → Bool
granted l (register r) = ltb r l.gprs
granted l (alu_register r) = ltb r l.gprs || leb (128 - l.temps) r
granted l (set0 k) = ltb k (locked l.mode0)
granted l (set1 k) = ltb k (locked l.mode1)
granted l (constant k) = ltb k l.consts

abbrev pub all_granted : Limits → List Name → Bool
all_granted l [] = true
all_granted l (n ∷ ns) = granted l n && all_granted l ns

-- what an ALU source names by its number. 192 to 247 are rule 12's; 248 to 255 are inline constants, literals, PV and PS, which are
-- always granted; a source has nine bits
abbrev pub source_names : ℕ → List Name
source_names s =
    cond (ltb s 128) (alu_register s ∷ [])
    (cond (ltb s 160) (set0 (s - 128) ∷ [])
    (cond (ltb s 192) (set1 (s - 160) ∷ [])
    (cond (ltb s 256) [] (constant (s - 256) ∷ []))))
