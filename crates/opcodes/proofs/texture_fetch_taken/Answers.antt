-- `opcodes::texture_fetch_taken` meets its contract: below 32 its bits are the table's answers, by one test over the 32 numbers, and the table
-- has none from 32 on. Assumes nothing.
use mathlib.Core.Path.{◌≡◌, refl}
use mathlib.Core.Bool.{Bool, false}
use Prim.Native.Nat.{ℕ, ◌/◌, ◌%◌, ◌^◌, ◌<◌}
use native.Mathlib.Omega.{arith}
use lib.Dec.{eqb}
use Rattle.opcodes.specs.declared.cf.FetchKind.TheVariants.{Texture}
use Rattle.opcodes.specs.Numbers.{texture_fetches, fetch_taken}
use Rattle.opcodes.proofs.OfRuns.{Listed, behind, same_below}
use Rattle.opcodes.proofs.texture_fetch_taken.Goals as goal

listed : Listed false texture_fetches (fetch_taken Texture)
unfolding fetch_taken
listed = record { agrees = λ k. refl }

-- src/lib.rt, TEXTURE_FETCHES
bitSet : ℕ → Bool
bitSet n = eqb (0xffff_5dfc / 2 ^ n % 2) 1

bit-taken : (n : ℕ) → n < 32 → bitSet n ≡ fetch_taken Texture n
unfolding bitSet fetch_taken texture_fetches
bit-taken n h = same_below bitSet (fetch_taken Texture) 32 refl n h

pub returns-then-number-gt31 : goal.returns-then-number-gt31
unfolding texture_fetches
returns-then-number-gt31 c = behind listed 32 refl _ (omega arith)

pub returns : goal.returns
unfolding bitSet
returns c = bit-taken _ (omega arith)
