-- `codec_for_c::in_row::put_three` meets its contract: the third behind the two. Assumes nothing.
use mathlib.Core.List.{◌∷◌, ◌++◌}
use Prim.Native.Nat.{◌+◌}
use native.Mathlib.Omega.{arith}
use lib.ListN.{length-append}
use Rattle.codec_for_c.proofs.OfRows.{put_behind}
use Rattle.codec_for_c.proofs.in_row.put_three.Goals as goal

pub returns : goal.returns
returns g c =
    let a = c.args in
    let first = g.A.InRow.row_values a.a in
    let second = g.B.InRow.row_values a.b in
    let first_counted = g.met.A.InRow.laws.counted a.a in
    let second_counted = g.met.B.InRow.laws.counted a.b in
    put_behind (a.form ∷ first ++ second) (g.C.InRow.row_values a.c) a.row.now (1 + c.COUNT.result + c.COUNT-2.result) 32 c.put_two.ensures
    (omega (arith, length-append first second)) (omega arith) (omega arith) c.put.ensures
