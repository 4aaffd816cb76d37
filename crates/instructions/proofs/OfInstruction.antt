-- Questions about one instruction, by tests that are joined and not branched on. Assumes nothing.
use mathlib.Core.Path.{◌≡◌, refl, ◌∙◌}
use mathlib.Core.Bool.{Bool, true, false, cond, not, ◌&&◌}
use mathlib.Core.List.{[]}
use Prim.Native.Nat.{ℕ, ◌/◌, ◌<◌, ◌≤◌}
use native.Mathlib.Omega.{arith}
use lib.Dec.{eqb, ltb}
use borrow.Author.Tests.{lt-ltb, le-ltb, eqb-true, eqb-false}
use Rattle.formats.specs.Fields.{◌of◌, OP2_INST, OP3_INST, OP3_MARK}
use Rattle.opcodes.specs.Alu.{op2_class, op3_class}
use Rattle.opcodes.specs.Code.{class_numbered}
use Rattle.instructions.specs.declared.Source.{Source}
use Rattle.instructions.specs.Instruction.{is_op3, class_of, source2_of, is_relative, source_literals, bad_source, names_of}
use Rattle.instructions.specs.Code.{no_source, third_of}

-- ---- the class

-- by bits 17:7, of which 17:15 say whether it is OP3, and 17:13 are an OP3's number
pub class_numbered_lem : (hi : ℕ) → class_numbered (OP2_INST of hi) ≡ class_of hi
unfolding class_numbered class_of is_op3
class_numbered_lem hi = by (eqb (OP3_MARK of hi) 0) refl
  where
    by :
        (b : Bool) → eqb (OP3_MARK of hi) 0 ≡ b
        → cond (ltb (OP2_INST of hi) 256) (op2_class (OP2_INST of hi)) (op3_class (OP2_INST of hi / 64)) ≡ cond (not b) (op3_class (OP3_INST of hi)) (op2_class (OP2_INST of hi))
    by true e =
        let z = eqb-true (OP3_MARK of hi) 0 e in
        let l : OP2_INST of hi < 256 = omega (arith, z) in
        rw (lt-ltb (OP2_INST of hi) 256 l)
    by false e =
        let z = eqb-false (OP3_MARK of hi) 0 e in
        let l : 256 ≤ OP2_INST of hi = omega (arith, z) in
        let q : OP2_INST of hi / 64 ≡ OP3_INST of hi = omega arith in
        rw (le-ltb (OP2_INST of hi) 256 l, q)

-- ---- the third source

-- what is asked of it is asked of an OP3's source 2, and of what stands for it in an OP2
by_third : {A : Type 0} (f : Source → A) (hi : ℕ) → f (third_of hi) ≡ cond (is_op3 hi) (f (source2_of hi)) (f no_source)
unfolding third_of
by_third f hi = by (is_op3 hi)
  where
    by : (b : Bool) → f (cond b (source2_of hi) no_source) ≡ cond b (f (source2_of hi)) (f no_source)
    by true = refl
    by false = refl

only_if : (b d : Bool) → cond b d false ≡ (b && d)
only_if true d = refl
only_if false d = refl

pub third_bad : (hi : ℕ) → bad_source (third_of hi) ≡ (is_op3 hi && bad_source (source2_of hi))
unfolding bad_source is_relative
third_bad hi = by_third bad_source hi ∙ only_if (is_op3 hi) (bad_source (source2_of hi))

pub third_relative : (hi : ℕ) → is_relative (third_of hi) ≡ (is_op3 hi && is_relative (source2_of hi))
unfolding is_relative
third_relative hi = by_third is_relative hi ∙ only_if (is_op3 hi) (is_relative (source2_of hi))

pub third_literals : (hi : ℕ) → source_literals (third_of hi) ≡ cond (is_op3 hi) (source_literals (source2_of hi)) 0
unfolding source_literals
third_literals hi = by_third source_literals hi

pub third_names : (hi : ℕ) → names_of (third_of hi) ≡ cond (is_op3 hi) (names_of (source2_of hi)) []
unfolding names_of is_relative
third_names hi = by_third names_of hi
