-- What the numbers of a call stand for, and its answer as a number.
use Rattle.std.specs.Prelude.{ℕ, ◌+◌, ◌*◌, ◌/◌, ◌%◌, ◌^◌, cond, eqb}
use Rattle.checks.specs.Verdict.{Verdict, verdict_number, verdict_slot}
use Rattle.card.specs.declared.Kind.{Kind}
use Rattle.card.specs.declared.Kind.TheVariants.{Pixel, Vertex, Geometry}
use Rattle.grants.specs.declared.Limits.{Limits}

-- the kind by its number: 0 is ps, 1 is vs, any other gs
unfoldable pub kind_of : ℕ → Kind
kind_of n = cond (eqb n 0) Pixel (cond (eqb n 1) Vertex Geometry)

-- what a clause is granted; the modes are mode 0 in bits 1:0 and mode 1 in bits 3:2
unfoldable pub limits_of : ℕ → ℕ → ℕ → ℕ → Limits
limits_of gprs temps consts modes =
    record { gprs = gprs; temps = temps; consts = consts; mode0 = modes % 4; mode1 = modes / 4 % 4 }

-- the verdict's number in bits 7:0 and its slot, cut to 16 bits, in bits 47:32
unfoldable pub answer_of : Verdict → ℕ
answer_of v = verdict_number v + verdict_slot v % 2 ^ 16 * 2 ^ 32
