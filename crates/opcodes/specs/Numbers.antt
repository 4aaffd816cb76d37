-- The numbers of control flow, and what each is (document 01, "Control-flow words"; document 002, section 10.1), and those of fetches
-- (document 002, sections 9.3 and 9.4), with AMD's mnemonics. A number that no row has is not taken.
use Rattle.std.specs.Prelude.{ℕ, Bool, true, false, List, [], ◌∷◌, ◌++◌}
use Rattle.opcodes.specs.Table.{Row, row, rows_for, lookup}
use Rattle.opcodes.specs.declared.cf.FetchKind.{FetchKind}
use Rattle.opcodes.specs.declared.cf.FetchKind.TheVariants.{Vertex, Texture}
use Rattle.opcodes.specs.declared.cf.Branch.TheVariants.{LoopEnd, LoopStart, BreakOrContinue, Jump, Else, Pop}
use Rattle.opcodes.specs.declared.cf.Control.{Control}
use Rattle.opcodes.specs.declared.cf.Control.TheVariants.{NotTaken, Nop, Fetch, Branch, Export, Alu}

-- a pair with high bit 29 set, an ALU clause opener (CF_ALU): whether it pushes M, and how many M it pops
unfoldable pub cf_alu : List (Row Control)
cf_alu =
    row 8 "ALU" (Alu false 0)
    ∷ row 9 "PUSH_BEFORE" (Alu true 0)
    ∷ row 10 "POP_AFTER" (Alu false 1)
    ∷ row 11 "POP2_AFTER" (Alu false 2)
    ∷ []

-- any other pair
unfoldable pub cf : List (Row Control)
cf =
    row 0 "NOP" Nop
    ∷ row 1 "TEX" (Fetch Texture)
    ∷ row 2 "VTX" (Fetch Vertex)
    ∷ row 3 "VTX_TC" (Fetch Vertex)
    ∷ row 5 "LOOP_END" (Branch LoopEnd)
    ∷ row 6 "LOOP_START_DX10" (Branch LoopStart)
    ∷ row 8 "LOOP_CONTINUE" (Branch BreakOrContinue)
    ∷ row 9 "LOOP_BREAK" (Branch BreakOrContinue)
    ∷ row 10 "JUMP" (Branch Jump)
    ∷ row 13 "ELSE" (Branch Else)
    ∷ row 14 "POP" (Branch Pop)
    ∷ row 39 "EXPORT" Export
    ∷ row 40 "EXPORT_DONE" Export
    ∷ []

unfoldable pub cf_alu_control : ℕ → Control
cf_alu_control n = lookup NotTaken cf_alu n

unfoldable pub cf_control : ℕ → Control
cf_control n = lookup NotTaken cf n

abbrev pub is_taken : Control → Bool
is_taken NotTaken = false
is_taken Nop = true
is_taken (Fetch kind) = true
is_taken (Branch b) = true
is_taken Export = true
is_taken (Alu push pops) = true

abbrev pub is_export : Control → Bool
is_export NotTaken = false
is_export Nop = false
is_export (Fetch kind) = false
is_export (Branch b) = false
is_export Export = true
is_export (Alu push pops) = false

-- section 9.3, for VTX and VTX_TC clauses
unfoldable pub vertex_fetches : List (Row Bool)
vertex_fetches = rows_for true ((0, "FETCH") ∷ (1, "SEMANTIC") ∷ [])

-- section 9.4, for TEX clauses
unfoldable pub texture_fetches : List (Row Bool)
texture_fetches =
    rows_for true ((2, "MEM") ∷ (3, "LD") ∷ (4, "GET_TEXTURE_RESINFO") ∷ (5, "GET_NUMBER_OF_SAMPLES") ∷ (6, "GET_COMP_TEX_LOD") ∷ [])
    ++ rows_for true ((7, "GET_GRADIENTS_H") ∷ (8, "GET_GRADIENTS_V") ∷ (10, "KEEP_GRADIENTS") ∷ (11, "SET_GRADIENTS_H") ∷ [])
    ++ rows_for true ((12, "SET_GRADIENTS_V") ∷ (14, "SET_CUBEMAP_INDEX") ∷ (16, "SAMPLE") ∷ (17, "SAMPLE_L") ∷ (18, "SAMPLE_LB") ∷ [])
    ++ rows_for true ((19, "SAMPLE_LZ") ∷ (20, "SAMPLE_G") ∷ (21, "SAMPLE_G_L") ∷ (22, "SAMPLE_G_LB") ∷ (23, "SAMPLE_G_LZ") ∷ [])
    ++ rows_for true ((24, "SAMPLE_C") ∷ (25, "SAMPLE_C_L") ∷ (26, "SAMPLE_C_LB") ∷ (27, "SAMPLE_C_LZ") ∷ (28, "SAMPLE_C_G") ∷ [])
    ++ rows_for true ((29, "SAMPLE_C_G_L") ∷ (30, "SAMPLE_C_G_LB") ∷ (31, "SAMPLE_C_G_LZ") ∷ [])

unfoldable pub fetch_taken : FetchKind → ℕ → Bool
fetch_taken Vertex n = lookup false vertex_fetches n
fetch_taken Texture n = lookup false texture_fetches n
