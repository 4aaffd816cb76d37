-- Rules 2 to 7: document 01, "Numbers and what they mean" and "Control-flow words". Rules 4 to 7 are asked of one control-flow
-- pair, by what it is and by its words.
use Rattle.std.specs.Prelude.{ℕ, zero, suc, ◌+◌, Bool, true, false, cond, not, ◌&&◌, ◌||◌, Option, Some, None, List, [], ◌∷◌, eqb, ltb, leb, length}
use Rattle.units.specs.declared.Quadwords.{Quadwords}
use Rattle.units.specs.Units.{quadwords, slots, low_at, high_at, words_of, counted, slots_length, fetches_length, range_end, is_below, is_at_most}
use Rattle.formats.specs.Fields.{◌of◌, «ADDR», «COND», BIT_20, END_OF_PROGRAM, VALID_PIXEL_MODE, WHOLE_QUAD_MODE, CF_ALU_ADDR, CF_ALU_COUNT, KCACHE_MODE0, KCACHE_MODE1, ARRAY_BASE, «TYPE», RW_GPR, RW_REL, SEL_X, SEL_Y, SEL_Z, SEL_W, BITS_16_12, BURST_COUNT}
use Rattle.formats.specs.Cf.{count_of}
use Rattle.opcodes.specs.declared.cf.FetchKind.{FetchKind}
use Rattle.opcodes.specs.declared.cf.Control.{Control}
use Rattle.opcodes.specs.declared.cf.Control.TheVariants.{NotTaken, Nop, Fetch, Branch, Export, Alu}
use Rattle.opcodes.specs.Numbers.{is_taken, is_export}
use Rattle.card.specs.declared.Kind.{Kind}
use Rattle.card.specs.declared.Kind.TheVariants.{Pixel, Vertex, Geometry}
use Rattle.grants.specs.Grants.{Name, register}
use Rattle.section.specs.declared.Clause.{Clause}
use Rattle.section.specs.declared.Clause.TheVariants as clause
use Rattle.section.specs.declared.Range.{Range}
use Rattle.section.specs.Control.{control_at, searched, end_of}

-- 2: length is not 2 times quads words
unfoldable pub bad_length : List ℕ → Quadwords → Bool
bad_length w quads = not (eqb (length w) (words_of quads).0)

-- 3: none of the first 512 pairs in the buffer is an end
unfoldable pub no_end : List ℕ → Bool
no_end w = leb (searched w) (end_of w)

-- 4: CF number not taken
unfoldable pub is_not_taken : Control → Bool
is_not_taken c = not (is_taken c)

-- ---- 5: CF field rule, which CF_ALU is free of

-- bits 22 (VALID_PIXEL_MODE) and 30 (WHOLE_QUAD_MODE) not both set
unfoldable pub bad_modes : ℕ → Bool
bad_modes hi = eqb (VALID_PIXEL_MODE of hi) 1 && eqb (WHOLE_QUAD_MODE of hi) 1

-- bit 20 is 0; COND is 0 on NOP and fetches
unfoldable pub bad_still : ℕ → Bool
bad_still hi = eqb (BIT_20 of hi) 1 || bad_modes hi || not (eqb («COND» of hi) 0)

-- bit 20 is 0; the end bit only on NOP, fetches and exports
unfoldable pub bad_branch : ℕ → Bool
bad_branch hi = eqb (BIT_20 of hi) 1 || bad_modes hi || eqb (END_OF_PROGRAM of hi) 1

-- exports instead: bits 16:12 are 0
unfoldable pub bad_reserved : ℕ → Bool
bad_reserved hi = not (eqb (BITS_16_12 of hi) 0) || bad_modes hi

-- (a number that is not taken was refused by 4)
unfoldable pub bad_field : Control → ℕ → Bool
bad_field NotTaken hi = bad_branch hi
bad_field Nop hi = bad_still hi
bad_field (Fetch kind) hi = bad_still hi
bad_field (Branch b) hi = bad_branch hi
bad_field Export hi = bad_reserved hi
bad_field (Alu push pops) hi = false

-- ---- 6: the clause that a pair opens: its start, its COUNT+1 slots or fetches, and what is to be known inside it

abbrev pub fetch_clause : FetchKind → ℕ → ℕ → Clause
fetch_clause kind lo hi = clause.Fetch (quadwords («ADDR» of lo)) (counted (count_of hi)) kind

-- of whether it pushes M, and the words
abbrev pub alu_clause : Bool → ℕ → ℕ → Clause
alu_clause push lo hi =
    clause.Alu (quadwords (CF_ALU_ADDR of lo)) (counted (slots (CF_ALU_COUNT of hi))) push (KCACHE_MODE0 of lo) (KCACHE_MODE1 of hi)

unfoldable pub clause_of : Control → ℕ → ℕ → Option Clause
clause_of NotTaken lo hi = None
clause_of Nop lo hi = None
clause_of (Fetch kind) lo hi = Some (fetch_clause kind lo hi)
clause_of (Branch b) lo hi = None
clause_of Export lo hi = None
clause_of (Alu push pops) lo hi = Some (alu_clause push lo hi)

unfoldable pub clause_at : List ℕ → ℕ → Option Clause
clause_at w p = clause_of (control_at w p) (low_at w p) (high_at w p)

-- the quadwords of a clause: slots of one each, or fetches of two
abbrev pub range_of : Clause → Range
range_of (clause.Alu start n push mode0 mode1) = record { start = start; size = slots_length n }
range_of (clause.Fetch start n kind) = record { start = start; size = fetches_length n }

-- not (start is above e, and start plus length, here size, at most quads)
unfoldable pub outside : Quadwords → Quadwords → Range → Bool
outside e quads r = not (is_below e r.start) || not (is_at_most (range_end r.start r.size) quads)

-- of the end e, quads and a clause: not wholly behind e and inside the buffer
unfoldable pub bad_range : Quadwords → Quadwords → Option Clause → Bool
bad_range e quads None = false
bad_range e quads (Some c) = outside e quads (range_of c)

-- ---- 7: exports

-- type 0 only in ps with base+B at most 7, or base 61 and B 0
unfoldable pub pixel_target : ℕ → ℕ → ℕ → Bool
pixel_target type base burst = eqb type 0 && (leb (base + burst) 7 || (eqb base 61 && eqb burst 0))

-- type 1 only in vs with base 60 or more and base+B at most 63; type 2 only in vs with base+B at most 31
unfoldable pub vertex_target : ℕ → ℕ → ℕ → Bool
vertex_target type base burst =
    cond (eqb type 1) (leb 60 base && leb (base + burst) 63) (eqb type 2 && leb (base + burst) 31)

-- and so type 3 never, and nothing in gs: of the kind, the type, the base and the burst
unfoldable pub bad_target : Kind → ℕ → ℕ → ℕ → Bool
bad_target Pixel type base burst = not (pixel_target type base burst)
bad_target Vertex type base burst = not (vertex_target type base burst)
bad_target Geometry type base burst = true

-- selector 6 is refused
unfoldable pub bad_selectors : ℕ → Bool
bad_selectors hi = eqb (SEL_X of hi) 6 || eqb (SEL_Y of hi) 6 || eqb (SEL_Z of hi) 6 || eqb (SEL_W of hi) 6

-- unless relative, RW_GPR+B is below gprs: of gprs and the words
unfoldable pub bad_export_register : ℕ → ℕ → ℕ → Bool
bad_export_register gprs lo hi = eqb (RW_REL of lo) 0 && not (ltb (RW_GPR of lo + BURST_COUNT of hi) gprs)

unfoldable pub export_rule : Kind → ℕ → ℕ → ℕ → Bool
export_rule kind gprs lo hi =
    bad_target kind («TYPE» of lo) (ARRAY_BASE of lo) (BURST_COUNT of hi) || bad_selectors hi || bad_export_register gprs lo hi

-- of the pair, the kind, gprs and the words
unfoldable pub bad_export : Control → Kind → ℕ → ℕ → ℕ → Bool
bad_export c kind gprs lo hi = is_export c && export_rule kind gprs lo hi

-- n registers from r on
abbrev pub registers_from : ℕ → ℕ → List Name
registers_from r zero = []
registers_from r (suc n) = register r ∷ registers_from (suc r) n

-- the registers that an export names directly: RW_GPR to RW_GPR+B, none if relative
unfoldable pub export_names : Control → ℕ → ℕ → List Name
export_names c lo hi =
    cond (is_export c && eqb (RW_REL of lo) 0) (registers_from (RW_GPR of lo) (suc (BURST_COUNT of hi))) []
