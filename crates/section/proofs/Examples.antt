-- Document 01's packs, and each way to break rules 3 to 7, by computation.
use mathlib.Core.Path.{◌≡◌, refl}
use mathlib.Core.Bool.{Bool, true, false}
use mathlib.Core.List.{List, [], ◌∷◌, ◌++◌, map}
use Prim.Native.Nat.{ℕ, ◌+◌, ◌^◌}
use Rattle.std.specs.Prelude.{Some, None}
use lib.ListN.{replicate}
use Rattle.units.specs.Units.{quadwords, slots, low_at, high_at}
use Rattle.card.specs.declared.Kind.TheVariants.{Pixel, Vertex, Geometry}
use Rattle.grants.specs.Grants.{register}
use Rattle.opcodes.specs.declared.cf.FetchKind.TheVariants as fetches
use Rattle.opcodes.specs.declared.cf.Branch.TheVariants as branches
use Rattle.opcodes.specs.declared.cf.Control.{Control}
use Rattle.opcodes.specs.declared.cf.Control.TheVariants.{Nop, Fetch, Branch, Export, Alu}
use Rattle.opcodes.specs.Numbers.{cf, cf_alu, cf_control, cf_alu_control}
use Rattle.section.specs.declared.Clause.TheVariants as clause
use Rattle.section.specs.Control.{is_alu_opener, control_of, control_at, is_end, end_from, end_of}
use Rattle.section.specs.Rules.{bad_length, no_end, is_not_taken, bad_modes, bad_still, bad_branch, bad_reserved, bad_field, clause_of, clause_at, outside, bad_range, pixel_target, vertex_target, bad_target, bad_selectors, bad_export_register, export_rule, bad_export, export_names}

-- ---- the packs, words low, high

-- the copy pack, by its pair's words
abbrev copy_with : ℕ → ℕ → ℕ → ℕ → List ℕ
copy_with low0 high0 high1 high2 = low0 ∷ high0 ∷ 0 ∷ high1 ∷ 0x80000000 ∷ high2 ∷ []

abbrev copy : List ℕ
copy = copy_with 0x2 0xa0000000 0x200000 0x200c90

abbrev branch : List ℕ
branch = 0x4 ∷ 0x24000000 ∷ 0x3 ∷ 0x05000001 ∷ 0x3 ∷ 0x07000001 ∷ 0 ∷ 0x200000 ∷ 0x801f0000 ∷ 0x100c ∷ []

abbrev loop : List ℕ
loop = 0x2 ∷ 0x03000000 ∷ 0x1 ∷ 0x02800000 ∷ 0 ∷ 0x200000 ∷ []

abbrev alu : Control
alu = Alu false 0

abbrev tex : Control
tex = Fetch fetches.Texture

abbrev jump : Control
jump = Branch branches.Jump

-- whether rule 6 is broken at pair p
abbrev rule6 : List ℕ → ℕ → ℕ → Bool
rule6 w quads p = bad_range (quadwords (end_of w)) (quadwords quads) (clause_at w p)

-- what each pair of the section is
copy_pairs : map (control_at copy) (0 ∷ 1 ∷ []) ≡ alu ∷ Nop ∷ []
unfolding control_at high_at control_of is_alu_opener cf_alu_control cf_alu cf_control cf
copy_pairs = refl

branch_pairs : map (control_at branch) (0 ∷ 1 ∷ 2 ∷ 3 ∷ []) ≡ Alu true 0 ∷ jump ∷ Branch branches.Pop ∷ Nop ∷ []
unfolding control_at high_at control_of is_alu_opener cf_alu_control cf_alu cf_control cf
branch_pairs = refl

loop_pairs : map (control_at loop) (0 ∷ 1 ∷ 2 ∷ []) ≡ Branch branches.LoopStart ∷ Branch branches.LoopEnd ∷ Nop ∷ []
unfolding control_at high_at control_of is_alu_opener cf_alu_control cf_alu cf_control cf
loop_pairs = refl

-- ---- 2 and 3

lengths : map (bad_length copy) (quadwords 2 ∷ quadwords 3 ∷ quadwords 4 ∷ quadwords (2 ^ 63 + 3) ∷ []) ≡ true ∷ false ∷ true ∷ true ∷ []
unfolding bad_length
lengths = refl

ends : map end_of (copy ∷ branch ∷ loop ∷ []) ≡ 1 ∷ 3 ∷ 2 ∷ []
unfolding end_of end_from high_at is_end is_alu_opener
ends = refl

-- second high word 0: the third pair reads as the end; second and third high words 0: 3
no_end_lem : map no_end (copy ∷ copy_with 0x2 0xa0000000 0 0x200c90 ∷ copy_with 0x2 0xa0000000 0 0 ∷ [] ∷ []) ≡ false ∷ false ∷ true ∷ true ∷ []
unfolding no_end end_of end_from high_at is_end is_alu_opener
no_end_lem = refl

-- an end in the last of the first 512 pairs, and in the pair behind them
most_pairs : (no_end (replicate 1022 0 ++ (0 ∷ 0x200000 ∷ [])) ≡ false) × (no_end (replicate 1024 0 ++ (0 ∷ 0x200000 ∷ [])) ≡ true)
unfolding no_end end_of end_from high_at is_end is_alu_opener
most_pairs = (refl, refl)

-- bit 21 is the end of any pair but an ALU clause opener, where it is part of COUNT; the number is not asked
end_bits : map is_end (0x200000 ∷ 0 ∷ 0xa0200000 ∷ 0x02200000 ∷ []) ≡ true ∷ false ∷ false ∷ true ∷ []
unfolding is_end is_alu_opener
end_bits = refl

-- ---- 4

-- 0 NOP, 4, 7, 39 EXPORT, 41; openers 8 ALU, 12
numbers : map (λ h. is_not_taken (control_of h)) (0 ∷ 0x02000000 ∷ 0x03800000 ∷ 0x13800000 ∷ 0x14800000 ∷ 0x20000000 ∷ 0x30000000 ∷ []) ≡ false ∷ true ∷ true ∷ false ∷ true ∷ false ∷ true ∷ []
unfolding is_not_taken control_of is_alu_opener cf_alu_control cf_alu cf_control cf
numbers = refl

-- ---- 5

-- NOP and fetches: bit 20, both modes, COND; one mode and the end bit are free
still_fields : (map (bad_field Nop) (0x100000 ∷ 0x40400000 ∷ 0x100 ∷ 0x400000 ∷ 0x40000000 ∷ 0x200000 ∷ []) ≡ true ∷ true ∷ true ∷ false ∷ false ∷ false ∷ []) × (map (λ c. bad_field c 0x200) (tex ∷ Fetch fetches.Vertex ∷ []) ≡ true ∷ true ∷ [])
unfolding bad_field bad_still bad_modes
still_fields = (refl, refl)

-- JUMP: bit 20, both modes, the end bit; COND is free
branch_fields : map (bad_field jump) (0x05100000 ∷ 0x45400000 ∷ 0x05200000 ∷ 0x05000300 ∷ []) ≡ true ∷ true ∷ true ∷ false ∷ []
unfolding bad_field bad_branch bad_modes
branch_fields = refl

-- exports: bits 16:12, both modes; bit 20 and the end bit are free
export_fields : map (bad_field Export) (0x13801000 ∷ 0x13810000 ∷ 0x53c00000 ∷ 0x13900000 ∷ 0x13a00000 ∷ []) ≡ true ∷ true ∷ true ∷ false ∷ false ∷ []
unfolding bad_field bad_reserved bad_modes
export_fields = refl

-- CF_ALU is free of the rule
alu_free : bad_field alu 0xe3ffffff ≡ false
unfolding bad_field
alu_free = refl

-- ---- 6

-- COUNT 0 is one slot, 127 is 128; ADDR has 22 bits
alu_clauses : (clause_at copy 0 ≡ Some (clause.Alu (quadwords 2) (slots 1) false 0 0)) × (clause_of alu 0xffffffff 0xa1fc0002 ≡ Some (clause.Alu (quadwords 0x3fffff) (slots 128) false 3 2))
unfolding clause_at clause_of control_at low_at high_at control_of is_alu_opener cf_alu_control cf_alu
alu_clauses = (refl, refl)

-- COUNT of a fetch opener in two pieces: 7 is 8 fetches, with bit 19 it is 16
fetch_clauses : (clause_of tex 5 0x00801c00 ≡ Some (clause.Fetch (quadwords 5) (slots 8) fetches.Texture)) × (clause_of (Fetch fetches.Vertex) 5 0x01081c00 ≡ Some (clause.Fetch (quadwords 5) (slots 16) fetches.Vertex)) × (clause_of jump 5 0x05001c00 ≡ None)
unfolding clause_of
fetch_clauses = (refl, refl, refl)

-- the copy pack; its first high word A0040000; its ADDR 1; its second high word 0
copy_clause : (rule6 copy 3 0 ≡ false) × (rule6 (copy_with 0x2 0xa0040000 0x200000 0x200c90) 3 0 ≡ true) × (rule6 (copy_with 0x1 0xa0000000 0x200000 0x200c90) 3 0 ≡ true) × (rule6 (copy_with 0x2 0xa0000000 0 0x200c90) 3 0 ≡ true)
unfolding bad_range outside clause_at clause_of control_at low_at high_at control_of is_alu_opener cf_alu_control cf_alu end_of end_from is_end
copy_clause = (refl, refl, refl, refl)

branch_clause : (rule6 branch 5 0 ≡ false) × (rule6 branch 4 0 ≡ true) × (rule6 branch 5 1 ≡ false)
unfolding bad_range outside clause_at clause_of control_at low_at high_at control_of is_alu_opener cf_alu_control cf_alu cf_control cf end_of end_from is_end
branch_clause = (refl, refl, refl)

-- TEX in 8 quadwords, e being 1: two fetches from 4 on end with the buffer; three do not, nor do two from 5 on; from 1 on they
-- are not behind e
fetch_range : map (bad_range (quadwords 1) (quadwords 8)) (clause_of tex 4 0x00800400 ∷ clause_of tex 4 0x00800800 ∷ clause_of tex 5 0x00800400 ∷ clause_of tex 1 0x00800400 ∷ []) ≡ false ∷ true ∷ true ∷ true ∷ []
unfolding bad_range outside clause_at clause_of
fetch_range = refl

-- ADDR FFFFFFFF and a length: not inside by wrapping round, whatever the buffer
largest_addr : map (λ q. bad_range (quadwords 1) (quadwords q) (clause_of tex 0xffffffff 0x00800000)) (3 ∷ 8192 ∷ 0x100000000 ∷ 0x100000001 ∷ []) ≡ true ∷ true ∷ true ∷ false ∷ []
unfolding bad_range outside clause_at clause_of
largest_addr = refl

-- ---- 7: of the type, the base and the burst

pixel_targets : (bad_target Pixel 0 7 0 ≡ false) × (bad_target Pixel 0 7 1 ≡ true) × (bad_target Pixel 0 61 0 ≡ false) × (bad_target Pixel 0 61 1 ≡ true) × (bad_target Pixel 1 60 0 ≡ true) × (bad_target Pixel 2 0 0 ≡ true) × (bad_target Pixel 3 0 0 ≡ true)
unfolding bad_target pixel_target
pixel_targets = (refl, refl, refl, refl, refl, refl, refl)

vertex_targets : (bad_target Vertex 1 60 3 ≡ false) × (bad_target Vertex 1 60 4 ≡ true) × (bad_target Vertex 1 59 0 ≡ true) × (bad_target Vertex 1 63 0 ≡ false) × (bad_target Vertex 2 31 0 ≡ false) × (bad_target Vertex 2 31 1 ≡ true) × (bad_target Vertex 0 0 0 ≡ true) × (bad_target Vertex 3 0 0 ≡ true)
unfolding bad_target vertex_target
vertex_targets = (refl, refl, refl, refl, refl, refl, refl, refl)

geometry_targets : (bad_target Geometry 0 0 0 ≡ true) × (bad_target Geometry 2 0 0 ≡ true)
unfolding bad_target
geometry_targets = (refl, refl)

-- 6 in X, Y, Z, W; 7 (mask) and the rest pass
selectors : map bad_selectors (0x006 ∷ 0x030 ∷ 0x180 ∷ 0xc00 ∷ 0xfff ∷ 0x688 ∷ []) ≡ true ∷ true ∷ true ∷ true ∷ false ∷ false ∷ []
unfolding bad_selectors
selectors = refl

-- R1 and R2, so three registers are needed; relative, none is named
registers : (map (λ g. bad_export Export Pixel g 0x00008000 0x13820688) (2 ∷ 3 ∷ []) ≡ true ∷ false ∷ []) × (bad_export Export Pixel 0 0x00408000 0x13820688 ≡ false)
unfolding bad_export export_rule bad_target pixel_target bad_selectors bad_export_register
registers = (refl, refl)

registers_named : (export_names Export 0x00008000 0x13820688 ≡ register 1 ∷ register 2 ∷ []) × (export_names Export 0x00408000 0x13820688 ≡ []) × (export_names Nop 0x00008000 0x13820688 ≡ [])
unfolding export_names
registers_named = (refl, refl, refl)

-- no other pair breaks the rule
no_export : bad_export jump Geometry 0 0xffffffff 0x05000fff ≡ false
unfolding bad_export
no_export = refl
