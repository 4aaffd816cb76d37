-- `opcodes::alu::code_at` meets its contract: by the test over all rows. Assumes nothing.
use mathlib.Core.Path.{ap, ◌∙◌}
use Prim.Native.Nat.{ℕ, ◌*◌, ◌/◌, ◌%◌, ◌^◌}
use Rattle.opcodes.proofs.OfTable.{placed, code_placed_lem}
use Rattle.opcodes.proofs.alu.code_at.Goals as goal

pub returns : goal.returns
unfolding placed
returns c =
    let i = c.args.place in
    ap (λ (e : ℕ). e / 2 ^ (i % 8 * 8) % 256) c.eight_at-eight.ensures ∙ code_placed_lem i c.requires
