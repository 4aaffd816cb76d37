-- The class of each ALU number (document 01, "Groups of ALU slots"). The unit is that of the first of document 002's tables 4.4 (any
-- unit), 4.5 (vector only) and 4.6 (trans only) that has the mnemonic; the number, and how many sources are read, are chapter 9's.
-- A number that no line has is not taken: its mnemonic is missing from the tables or from chapter 9, or has 64 in it.
use Rattle.std.specs.Prelude.{ℕ, Bool, not, List, [], ◌∷◌, ◌++◌, eqb}
use Prim.Native.String.{String}
use Rattle.opcodes.specs.Table.{Row, rows_for, lookup}
use Rattle.opcodes.specs.declared.alu.Class.{Class}
use Rattle.opcodes.specs.declared.alu.Unit.{Unit}
use Rattle.opcodes.specs.declared.alu.Unit.TheVariants.{NotTaken, Any, Vector, Trans}
use Rattle.opcodes.specs.declared.alu.Issue.{Issue}
use Rattle.opcodes.specs.declared.alu.Issue.TheVariants.{Plain, Predicate, Kill, Mova, Reduction}

-- unit class, issue kind, sources read; and the numbers that have them, with their mnemonics
abbrev op : Unit → Issue → ℕ → List (ℕ × String) → List (Row Class)
op u i s ns = rows_for (record { unit = u; issue = i; sources = s }) ns

-- chapter 9 gives NOP the number 0 too, which is ADD's; both have the same class
unfoldable pub op2 : List (Row Class)
op2 =
    op Any Plain 2 ((0, "ADD") ∷ (1, "MUL") ∷ (2, "MUL_IEEE") ∷ (3, "MAX") ∷ (4, "MIN") ∷ (5, "MAX_DX10") ∷ (6, "MIN_DX10") ∷ [])
    ++ op Any Plain 2 ((8, "SETE") ∷ (9, "SETGT") ∷ (10, "SETGE") ∷ (11, "SETNE") ∷ (12, "SETE_DX10") ∷ (13, "SETGT_DX10") ∷ [])
    ++ op Any Plain 2 ((14, "SETGE_DX10") ∷ (15, "SETNE_DX10") ∷ (48, "AND_INT") ∷ (49, "OR_INT") ∷ (50, "XOR_INT") ∷ [])
    ++ op Any Plain 2 ((53, "SUB_INT") ∷ (54, "MAX_INT") ∷ (55, "MIN_INT") ∷ (56, "MAX_UINT") ∷ (57, "MIN_UINT") ∷ [])
    ++ op Any Plain 2 ((58, "SETE_INT") ∷ (59, "SETGT_INT") ∷ (60, "SETGE_INT") ∷ (61, "SETNE_INT") ∷ (62, "SETGT_UINT") ∷ [])
    ++ op Any Plain 2 ((63, "SETGE_UINT") ∷ (112, "ASHR_INT") ∷ (113, "LSHR_INT") ∷ (114, "LSHL_INT") ∷ [])
    ++ op Any Plain 1 ((16, "FRACT") ∷ (17, "TRUNC") ∷ (18, "CEIL") ∷ (19, "RNDNE") ∷ (20, "FLOOR") ∷ (25, "MOV") ∷ [])
    ++ op Any Plain 1 ((51, "NOT_INT") ∷ [])
    ++ op Any Predicate 2 ((32, "PRED_SETE") ∷ (33, "PRED_SETGT") ∷ (34, "PRED_SETGE") ∷ (35, "PRED_SETNE") ∷ (37, "PRED_SET_POP") ∷ [])
    ++ op Any Predicate 2 ((40, "PRED_SETE_PUSH") ∷ (41, "PRED_SETGT_PUSH") ∷ (42, "PRED_SETGE_PUSH") ∷ (43, "PRED_SETNE_PUSH") ∷ [])
    ++ op Any Predicate 2 ((66, "PRED_SETE_INT") ∷ (67, "PRED_SETGT_INT") ∷ (68, "PRED_SETGE_INT") ∷ (69, "PRED_SETNE_INT") ∷ [])
    ++ op Any Predicate 2 ((70, "PRED_SETLT_INT") ∷ (71, "PRED_SETLE_INT") ∷ (74, "PRED_SETE_PUSH_INT") ∷ [])
    ++ op Any Predicate 2 ((75, "PRED_SETGT_PUSH_INT") ∷ (76, "PRED_SETGE_PUSH_INT") ∷ (77, "PRED_SETNE_PUSH_INT") ∷ [])
    ++ op Any Predicate 2 ((78, "PRED_SETLT_PUSH_INT") ∷ (79, "PRED_SETLE_PUSH_INT") ∷ [])
    ++ op Any Predicate 1 ((36, "PRED_SET_INV") ∷ (39, "PRED_SET_RESTORE") ∷ [])
    ++ op Any Predicate 0 ((38, "PRED_SET_CLR") ∷ [])
    ++ op Any Kill 2 ((44, "KILLE") ∷ (45, "KILLGT") ∷ (46, "KILLGE") ∷ (47, "KILLNE") ∷ [])
    ++ op Vector Plain 2 ((52, "ADD_INT") ∷ [])
    ++ op Vector Mova 1 ((21, "MOVA") ∷ (22, "MOVA_FLOOR") ∷ (24, "MOVA_INT") ∷ [])
    ++ op Vector Reduction 2 ((80, "DOT4") ∷ (81, "DOT4_IEEE") ∷ (82, "CUBE") ∷ [])
    ++ op Vector Reduction 1 ((83, "MAX4") ∷ [])
    ++ op Trans Plain 2 ((115, "MULLO_INT") ∷ (116, "MULHI_INT") ∷ (117, "MULLO_UINT") ∷ (118, "MULHI_UINT") ∷ [])
    ++ op Trans Plain 1 ((97, "EXP_IEEE") ∷ (98, "LOG_CLAMPED") ∷ (99, "LOG_IEEE") ∷ (100, "RECIP_CLAMPED") ∷ (101, "RECIP_FF") ∷ [])
    ++ op Trans Plain 1 ((102, "RECIP_IEEE") ∷ (103, "RECIPSQRT_CLAMPED") ∷ (104, "RECIPSQRT_FF") ∷ (105, "RECIPSQRT_IEEE") ∷ [])
    ++ op Trans Plain 1 ((106, "SQRT_IEEE") ∷ (107, "FLT_TO_INT") ∷ (108, "INT_TO_FLT") ∷ (109, "UINT_TO_FLT") ∷ (110, "SIN") ∷ [])
    ++ op Trans Plain 1 ((111, "COS") ∷ (119, "RECIP_INT") ∷ (120, "RECIP_UINT") ∷ [])

unfoldable pub op3 : List (Row Class)
op3 =
    op Any Plain 3 ((16, "MULADD") ∷ (17, "MULADD_M2") ∷ (18, "MULADD_M4") ∷ (19, "MULADD_D2") ∷ (20, "MULADD_IEEE") ∷ [])
    ++ op Any Plain 3 ((21, "MULADD_IEEE_M2") ∷ (22, "MULADD_IEEE_M4") ∷ (23, "MULADD_IEEE_D2") ∷ (24, "CMOVE") ∷ (25, "CMOVGT") ∷ [])
    ++ op Any Plain 3 ((26, "CMOVGE") ∷ [])
    ++ op Trans Plain 3 ((12, "MUL_LIT") ∷ (13, "MUL_LIT_M2") ∷ (14, "MUL_LIT_M4") ∷ (15, "MUL_LIT_D2") ∷ [])

abbrev pub not_taken : Class
not_taken = record { unit = NotTaken; issue = Plain; sources = 0 }

unfoldable pub op2_class : ℕ → Class
op2_class n = lookup not_taken op2 n

unfoldable pub op3_class : ℕ → Class
op3_class n = lookup not_taken op3 n

-- ---- unit classes and issue kinds, each told from the others by a number

abbrev pub unit_number : Unit → ℕ
unit_number NotTaken = 0
unit_number Any = 1
unit_number Vector = 2
unit_number Trans = 3

abbrev pub is_unit : Unit → Unit → Bool
is_unit u v = eqb (unit_number u) (unit_number v)

abbrev pub issue_number : Issue → ℕ
issue_number Plain = 0
issue_number Predicate = 1
issue_number Kill = 2
issue_number Mova = 3
issue_number Reduction = 4

abbrev pub is_issue : Issue → Issue → Bool
is_issue i k = eqb (issue_number i) (issue_number k)

abbrev pub is_taken : Class → Bool
is_taken c = not (is_unit c.unit NotTaken)
