-- `opcodes::table::eight_at` meets its contract: no row of an eight is wrong. Assumes nothing.
use mathlib.Core.Path.{refl}
use native.Mathlib.Omega.{arith}
use Rattle.opcodes.specs.Alu.{op2, op3, op2_class, op3_class}
use Rattle.opcodes.proofs.OfTable.{op2_rows, op3_rows}
use Rattle.opcodes.proofs.table.eight_at.Goals as goal

pub returns-in-0 : goal.returns-in-0
unfolding op2_class op2 op3_class op3
returns-in-0 c = op2_rows 0 _ c.in-0.is c.joined.ensures refl (omega arith) refl

pub returns-in-1 : goal.returns-in-1
unfolding op2_class op2 op3_class op3
returns-in-1 c = op2_rows 1 _ c.in-1.is c.joined-in-1.ensures refl (omega arith) refl

pub returns-in-2 : goal.returns-in-2
unfolding op2_class op2 op3_class op3
returns-in-2 c = op2_rows 2 _ c.in-2.is c.joined-in-2.ensures refl (omega arith) refl

pub returns-in-3 : goal.returns-in-3
unfolding op2_class op2 op3_class op3
returns-in-3 c = op2_rows 3 _ c.in-3.is c.joined-in-3.ensures refl (omega arith) refl

pub returns-in-4 : goal.returns-in-4
unfolding op2_class op2 op3_class op3
returns-in-4 c = op2_rows 4 _ c.in-4.is c.joined-in-4.ensures refl (omega arith) refl

pub returns-in-5 : goal.returns-in-5
unfolding op2_class op2 op3_class op3
returns-in-5 c = op2_rows 5 _ c.in-5.is c.joined-in-5.ensures refl (omega arith) refl

pub returns-in-6 : goal.returns-in-6
unfolding op2_class op2 op3_class op3
returns-in-6 c = op2_rows 6 _ c.in-6.is c.joined-in-6.ensures refl (omega arith) refl

pub returns-in-7 : goal.returns-in-7
unfolding op2_class op2 op3_class op3
returns-in-7 c = op2_rows 7 _ c.in-7.is c.joined-in-7.ensures refl (omega arith) refl

pub returns-in-8 : goal.returns-in-8
unfolding op2_class op2 op3_class op3
returns-in-8 c = op2_rows 8 _ c.in-8.is c.joined-in-8.ensures refl (omega arith) refl

pub returns-in-9 : goal.returns-in-9
unfolding op2_class op2 op3_class op3
returns-in-9 c = op2_rows 9 _ c.in-9.is c.joined-in-9.ensures refl (omega arith) refl

pub returns-in-10 : goal.returns-in-10
unfolding op2_class op2 op3_class op3
returns-in-10 c = op2_rows 10 _ c.in-10.is c.joined-in-10.ensures refl (omega arith) refl

pub returns-in-11 : goal.returns-in-11
unfolding op2_class op2 op3_class op3
returns-in-11 c = op2_rows 11 _ c.in-11.is c.joined-in-11.ensures refl (omega arith) refl

pub returns-in-12 : goal.returns-in-12
unfolding op2_class op2 op3_class op3
returns-in-12 c = op2_rows 12 _ c.in-12.is c.joined-in-12.ensures refl (omega arith) refl

pub returns-in-13 : goal.returns-in-13
unfolding op2_class op2 op3_class op3
returns-in-13 c = op2_rows 13 _ c.in-13.is c.joined-in-13.ensures refl (omega arith) refl

pub returns-in-14 : goal.returns-in-14
unfolding op2_class op2 op3_class op3
returns-in-14 c = op2_rows 14 _ c.in-14.is c.joined-in-14.ensures refl (omega arith) refl

pub returns-in-15 : goal.returns-in-15
unfolding op2_class op2 op3_class op3
returns-in-15 c = op2_rows 15 _ c.in-15.is c.joined-in-15.ensures refl (omega arith) refl

pub returns-in-16 : goal.returns-in-16
unfolding op2_class op2 op3_class op3
returns-in-16 c = op2_rows 16 _ c.in-16.is c.joined-in-16.ensures refl (omega arith) refl

pub returns-in-17 : goal.returns-in-17
unfolding op2_class op2 op3_class op3
returns-in-17 c = op2_rows 17 _ c.in-17.is c.joined-in-17.ensures refl (omega arith) refl

pub returns-in-18 : goal.returns-in-18
unfolding op2_class op2 op3_class op3
returns-in-18 c = op2_rows 18 _ c.in-18.is c.joined-in-18.ensures refl (omega arith) refl

pub returns-in-19 : goal.returns-in-19
unfolding op2_class op2 op3_class op3
returns-in-19 c = op2_rows 19 _ c.in-19.is c.joined-in-19.ensures refl (omega arith) refl

pub returns-in-20 : goal.returns-in-20
unfolding op2_class op2 op3_class op3
returns-in-20 c = op2_rows 20 _ c.in-20.is c.joined-in-20.ensures refl (omega arith) refl

pub returns-in-21 : goal.returns-in-21
unfolding op2_class op2 op3_class op3
returns-in-21 c = op2_rows 21 _ c.in-21.is c.joined-in-21.ensures refl (omega arith) refl

pub returns-in-22 : goal.returns-in-22
unfolding op2_class op2 op3_class op3
returns-in-22 c = op2_rows 22 _ c.in-22.is c.joined-in-22.ensures refl (omega arith) refl

pub returns-in-23 : goal.returns-in-23
unfolding op2_class op2 op3_class op3
returns-in-23 c = op2_rows 23 _ c.in-23.is c.joined-in-23.ensures refl (omega arith) refl

pub returns-in-24 : goal.returns-in-24
unfolding op2_class op2 op3_class op3
returns-in-24 c = op2_rows 24 _ c.in-24.is c.joined-in-24.ensures refl (omega arith) refl

pub returns-in-25 : goal.returns-in-25
unfolding op2_class op2 op3_class op3
returns-in-25 c = op2_rows 25 _ c.in-25.is c.joined-in-25.ensures refl (omega arith) refl

pub returns-in-26 : goal.returns-in-26
unfolding op2_class op2 op3_class op3
returns-in-26 c = op2_rows 26 _ c.in-26.is c.joined-in-26.ensures refl (omega arith) refl

pub returns-in-27 : goal.returns-in-27
unfolding op2_class op2 op3_class op3
returns-in-27 c = op2_rows 27 _ c.in-27.is c.joined-in-27.ensures refl (omega arith) refl

pub returns-in-28 : goal.returns-in-28
unfolding op2_class op2 op3_class op3
returns-in-28 c = op2_rows 28 _ c.in-28.is c.joined-in-28.ensures refl (omega arith) refl

pub returns-in-29 : goal.returns-in-29
unfolding op2_class op2 op3_class op3
returns-in-29 c = op2_rows 29 _ c.in-29.is c.joined-in-29.ensures refl (omega arith) refl

pub returns-in-30 : goal.returns-in-30
unfolding op2_class op2 op3_class op3
returns-in-30 c = op2_rows 30 _ c.in-30.is c.joined-in-30.ensures refl (omega arith) refl

pub returns-in-31 : goal.returns-in-31
unfolding op2_class op2 op3_class op3
returns-in-31 c = op2_rows 31 _ c.in-31.is c.joined-in-31.ensures refl (omega arith) refl

pub returns-in-32 : goal.returns-in-32
unfolding op2_class op2 op3_class op3
returns-in-32 c = op3_rows 0 _ c.in-32.is c.joined-in-32.ensures refl refl

pub returns-in-33 : goal.returns-in-33
unfolding op2_class op2 op3_class op3
returns-in-33 c = op3_rows 1 _ c.in-33.is c.joined-in-33.ensures refl refl

pub returns-in-34 : goal.returns-in-34
unfolding op2_class op2 op3_class op3
returns-in-34 c = op3_rows 2 _ c.in-34.is c.joined-in-34.ensures refl refl

pub returns-in-35 : goal.returns-in-35
unfolding op2_class op2 op3_class op3
returns-in-35 c = op3_rows 3 _ c.in-35.is c.joined-in-35.ensures refl refl
