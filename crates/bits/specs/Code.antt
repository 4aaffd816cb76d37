-- What the code answers that moves a value up or sets a field: no definition of the judge or of the codec cites it.
use Rattle.std.specs.Prelude.{ℕ, ◌+◌, ◌*◌, ◌/◌, ◌%◌, ◌^◌}

-- v moved up to bit o; what passes bit 31 is lost
abbrev pub lifted_of : ℕ → ℕ → ℕ
lifted_of v o = v * 2 ^ o % 2 ^ 32

-- n with the low w bits of v in place of its own from bit o on: what is above the field, the field, what is below; what passes
-- bit 31 is lost
abbrev pub with_field : ℕ → ℕ → ℕ → ℕ → ℕ
with_field n o w v = (n / 2 ^ (o + w) * 2 ^ (o + w) + (v % 2 ^ w * 2 ^ o + n % 2 ^ o)) % 2 ^ 32
