-- Found and limit are small numbers, by a card in range: a field of an operand has at most nine bits. Assumes nothing.
use mathlib.Core.Path.{◌≡◌, refl}
use mathlib.Core.Bool.{Bool, true, false, cond, ◌&&◌}
use mathlib.Core.List.{List, [], ◌∷◌, ◌++◌}
use Prim.Native.Nat.{ℕ, ◌≤◌, ◌<◌}
use native.Mathlib.Omega.{arith}
use lib.Dec.{eqb, ltb}
use borrow.Author.Tests.{ltb-true, ltb-false}
use Rattle.formats.specs.Fields.{◌of◌, DST_REL, FETCH_INST, FETCH_DST_REL, FETCH_SRC_REL}
use Rattle.std.specs.Prelude.{Option, Some, None}
use Rattle.checks.specs.declared.NotGranted.{NotGranted}
use Rattle.grants.specs.declared.Limits.{Limits}
use Rattle.grants.specs.Grants.{Name, register, alu_register, set0, set1, constant, granted, source_names}
use Rattle.grants.proofs.OfGrants.{locked_most}
use Rattle.opcodes.specs.declared.cf.FetchKind.{FetchKind}
use Rattle.instructions.specs.declared.Source.{Source}
use Rattle.instructions.specs.Instruction.{is_op3, is_relative, is_written, source0_of, source1_of, source2_of, names_of, destination_names, named}
use Rattle.fetches.specs.Fetches as fetches
use Rattle.faults.specs.Faults.{number_of, limit_of, at_fault, first_fault}

-- at most nine bits
abbrev pub Small : Option NotGranted → Type 0
Small None = Unit {0}
Small (Some fault) = (fault.found < 512) × (fault.limit ≤ 512)

abbrev AllSmall : List Name → Type 0
AllSmall [] = Unit {0}
AllSmall (n ∷ ns) = (number_of n < 512) × AllSmall ns

small_joined : (a b : List Name) → AllSmall a → AllSmall b → AllSmall (a ++ b)
small_joined [] b h k = k
small_joined (n ∷ a) b h k = (h.0, small_joined a b h.1 k)

small_if : (t : Bool) (a b : List Name) → (t ≡ true → AllSmall a) → (t ≡ false → AllSmall b) → AllSmall (cond t a b)
small_if true a b h k = h refl
small_if false a b h k = k refl

small_source : (s : ℕ) → s < 512 → AllSmall (source_names s)
small_source s h =
    small_if (ltb s 128) _ _ (λ a. (h, tt))
    (λ a. small_if (ltb s 160) _ _ (λ b. (omega (arith, ltb-true s 160 b), tt))
    (λ b. small_if (ltb s 192) _ _ (λ d. (omega (arith, ltb-true s 192 d), tt))
    (λ d. small_if (ltb s 256) _ _ (λ e. tt) (λ e. (omega (arith, h, ltb-false s 256 e), tt)))))

small_direct : (s : Source) → s.sel < 512 → AllSmall (names_of s)
unfolding names_of
small_direct s h = small_if (is_relative s) _ _ (λ a. tt) (λ a. small_source s.sel h)

pub named_small : (lo hi : ℕ) → AllSmall (named lo hi)
unfolding named destination_names
named_small lo hi =
    small_joined (destination_names hi) _ (small_if (is_written hi && eqb (DST_REL of hi) 0) _ _ (λ a. (omega arith, tt)) (λ a. tt))
    (small_joined (names_of (source0_of lo)) _ (small_direct (source0_of lo) (omega arith))
    (small_joined (names_of (source1_of lo)) _ (small_direct (source1_of lo) (omega arith))
    (small_if (is_op3 hi) _ _ (λ a. small_direct (source2_of hi) (omega arith)) (λ a. tt))))

pub fetch_named_small : (kind : FetchKind) (w0 w1 : ℕ) → AllSmall (fetches.named kind (FETCH_INST of w0) w0 w1)
fetch_named_small kind w0 w1 =
    small_joined (fetches.destination kind (FETCH_INST of w0) w1) (fetches.source w0)
    (small_if (fetches.is_semantic kind (FETCH_INST of w0)) _ _ (λ a. tt)
    (λ a. small_if (eqb (FETCH_DST_REL of w1) 0) _ _ (λ b. (omega arith, tt)) (λ b. tt)))
    (small_if (eqb (FETCH_SRC_REL of w0) 0) _ _ (λ b. (omega arith, tt)) (λ b. tt))

module _ (l : Limits) (g : l.gprs ≤ 128) (c : l.consts ≤ 256) where
  small_limit : (n : Name) → limit_of l n ≤ 512
  small_limit (register r) = omega (arith, g)
  small_limit (alu_register r) = omega (arith, g)
  small_limit (set0 k) = omega (arith, locked_most l.mode0)
  small_limit (set1 k) = omega (arith, locked_most l.mode1)
  small_limit (constant k) = omega (arith, c)

  pub small_fault : (ns : List Name) → AllSmall ns → Small (first_fault l ns)
  unfolding first_fault
  small_fault [] h = tt
  small_fault (n ∷ ns) h = by (granted l n) (small_fault ns h.1)
    where
      by : (t : Bool) → Small (first_fault l ns) → Small (cond t (first_fault l ns) (at_fault (number_of n) (limit_of l n)))
      by true k = k
      by false k = (h.0, small_limit n)
