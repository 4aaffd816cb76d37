-- A packed verdict: its three numbers and its bit are read back where their bits hold them, by the law of rows of fields; and 0 is an
-- accepted one's alone. Assumes nothing.
use mathlib.Core.Path.{◌≡◌, sym, ap, ◌∙◌}
use mathlib.Core.List.{List, [], ◌∷◌}
use Prim.Native.Nat.{ℕ, ◌^◌, ◌<◌}
use native.Mathlib.Omega.{arith}
use borrow.Author.Tests.{lt-ltb}
use Rattle.bits.specs.Fields.{field_of}
use Rattle.bits.specs.Tables.{split}
use Rattle.bits.proofs.OfTables.{split_join, join_lt}
use Rattle.checks.specs.Verdict.{Verdict, Accepted, verdict_number, verdict_place, verdict_slot}
use Rattle.judge.proofs.OfBounds.{Narrow}
use Rattle.judge_for_c.specs.Packed.{packed, ReadBack}

abbrev widths : List ℕ
widths = 8 ∷ 8 ∷ 16 ∷ 16 ∷ 1 ∷ []

abbrev row : Verdict → ℕ → List ℕ
row v bit = verdict_number v ∷ 0 ∷ verdict_place v ∷ verdict_slot v ∷ bit ∷ []

module _ (v : Verdict) (narrow : Narrow v) (bit : ℕ) (one : bit < 2) {r : ℕ} (e : r ≡ packed v bit) where
  fields : split 0 widths r ≡ row v bit
  unfolding packed
  fields =
      ap (split 0 widths) e
      ∙ split_join widths (row v bit)
      (rw (lt-ltb (verdict_number v) (2 ^ 8) narrow.number, lt-ltb (verdict_place v) (2 ^ 16) narrow.place, lt-ltb (verdict_slot v) (2 ^ 16) narrow.slot, lt-ltb bit (2 ^ 1) one))

  pub read_back : ReadBack v bit r
  unfolding packed
  read_back =
      let f = fields in
      let l : packed v bit < 2 ^ 49 = join_lt widths (row v bit) in
      record { number = cc; operand = cc; place = cc; slot = cc; is_set = cc; rest = omega arith }

  pub zero_accepted : r ≡ 0 → v ≡ Accepted
  zero_accepted z = narrow.refused (sym read_back.number ∙ ap (λ (n : ℕ). field_of n 0 8) z)
