-- `codec_for_c::in_row::put_two` meets its contract: part by part. Assumes nothing.
use mathlib.Core.Path.{refl}
use mathlib.Core.List.{[], ◌∷◌}
use Prim.Native.Nat.{◌+◌}
use native.Mathlib.Omega.{arith}
use Rattle.codec_for_c.proofs.OfRows.{form_put, put_behind}
use Rattle.codec_for_c.proofs.in_row.put_two.Goals as goal

pub returns : goal.returns
returns g c =
    let a = c.args in
    let row = a.row.now in
    let first = g.A.InRow.row_values a.a in
    let put = put_behind (a.form ∷ []) first row 1 32 (form_put row a.form (omega arith)) refl (omega arith) (omega arith) c.put.ensures in
    put_behind (a.form ∷ first) (g.B.InRow.row_values a.b) row (1 + c.COUNT.result) 32 put (omega (arith, g.met.A.InRow.laws.counted a.a)) (omega arith)
    (omega (arith, g.met.A.InRow.laws.counted a.a)) c.put-2.ensures
