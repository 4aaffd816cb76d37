-- Rules 8 and 9 on a fetch clause: document 01, the paragraph on fetches in "Control-flow words".
use Rattle.std.specs.Prelude.{ℕ, Bool, false, cond, not, ◌||◌, List, [], ◌∷◌, ◌++◌, eqb, length}
use Rattle.units.specs.declared.Quadwords.{Quadwords}
use Rattle.units.specs.declared.Slots.{Slots}
use Rattle.units.specs.Units.{slots, words, low_at, high_at, fetch_slot, fetches_length, slot_quadword, quadword_behind, lies_in}
use Rattle.formats.specs.Fields.{◌of◌, FETCH_INST, FETCH_SRC_GPR, FETCH_SRC_REL, FETCH_DST_GPR, FETCH_DST_REL}
use Rattle.checks.specs.declared.Place.TheVariants.{Quadword}
use Rattle.checks.specs.Checks.{Check, check, below}
use Rattle.opcodes.specs.declared.cf.FetchKind.{FetchKind}
use Rattle.opcodes.specs.declared.cf.FetchKind.TheVariants.{Vertex, Texture}
use Rattle.opcodes.specs.Numbers.{fetch_taken}
use Rattle.grants.specs.declared.Limits.{Limits}
use Rattle.grants.specs.Grants.{Name, register, all_granted}

-- ---- one fetch: its number (VTX_INST or TEX_INST) and its words

-- the semantic fetch is number 1 of section 9.3
abbrev pub is_semantic : FetchKind → ℕ → Bool
is_semantic Vertex n = eqb n 1
is_semantic Texture n = false

-- 8: fetch number not taken, or fourth word not 0
abbrev pub bad_fetch : FetchKind → ℕ → ℕ → Bool
bad_fetch kind n w3 = not (eqb w3 0) || not (fetch_taken kind n)

-- the registers that a fetch names directly, destination (word 1), then source (word 0): none that is relative, and no destination by a
-- semantic fetch, which has its id there
abbrev pub destination : FetchKind → ℕ → ℕ → List Name
destination kind n w1 = cond (is_semantic kind n) [] (cond (eqb (FETCH_DST_REL of w1) 0) (register (FETCH_DST_GPR of w1) ∷ []) [])

abbrev pub source : ℕ → List Name
source w0 = cond (eqb (FETCH_SRC_REL of w0) 0) (register (FETCH_SRC_GPR of w0) ∷ []) []

abbrev pub named : FetchKind → ℕ → ℕ → ℕ → List Name
named kind n w0 w1 = destination kind n w1 ++ source w0

-- 9: fetch register not below gprs
abbrev pub bad_register : FetchKind → Limits → ℕ → ℕ → Bool
bad_register kind limits w0 w1 = not (all_granted limits (named kind (FETCH_INST of w0) w0 w1))

-- ---- a clause

-- fetch i of a clause that starts at quadword s is two quadwords, the first of them this one; its words 0, 1 and 3
abbrev pub fetch_quadword : Quadwords → ℕ → Quadwords
fetch_quadword s i = slot_quadword s (fetch_slot (slots i))

abbrev pub word0 : List ℕ → Quadwords → ℕ → ℕ
word0 w s i = low_at w (fetch_quadword s i).0

abbrev pub word1 : List ℕ → Quadwords → ℕ → ℕ
word1 w s i = high_at w (fetch_quadword s i).0

abbrev pub word3 : List ℕ → Quadwords → ℕ → ℕ
word3 w s i = high_at w (quadword_behind (fetch_quadword s i)).0

-- the names of fetch i
abbrev pub named_at : FetchKind → List ℕ → Quadwords → ℕ → List Name
named_at kind w s i = named kind (FETCH_INST of (word0 w s i)) (word0 w s i) (word1 w s i)

-- the checks of fetch i, at the opener's place, in slot 2i
unfoldable pub fetch_checks : FetchKind → Limits → List ℕ → Quadwords → Quadwords → ℕ → List Check
fetch_checks kind limits w place s i =
    check 8 (Quadword place) (fetch_slot (slots i)) (bad_fetch kind (FETCH_INST of (word0 w s i)) (word3 w s i))
    ∷ check 9 (Quadword place) (fetch_slot (slots i)) (bad_register kind limits (word0 w s i) (word1 w s i))
    ∷ []

-- the checks of a clause of n fetches, fetch by fetch. Nothing is asked of a clause that does not lie in the buffer: rule 6 refuses it
-- before
unfoldable pub clause_checks : FetchKind → Limits → List ℕ → Quadwords → Quadwords → Slots → List Check
clause_checks kind limits w place s n =
    cond (lies_in (words (length w)) s (fetches_length n)) (below (fetch_checks kind limits w place s) n.0) []
