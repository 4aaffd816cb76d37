-- What is kept of a clause's groups at a glance. It is for the code alone.
use Rattle.std.specs.Prelude.{◌≡◌, ℕ, ◌+◌, ◌-◌, ◌*◌, ◌/◌, ◌%◌, ◌^◌, ◌≤◌, Bool, true, cond, ◌||◌, List, length, ◌==◌}
use Rattle.units.specs.declared.Quadwords.{Quadwords}
use Rattle.units.specs.Units.{quadwords}
use Rattle.formats.specs.Fields.{◌of◌, BANK_SWIZZLE}
use Rattle.groups.specs.Code.{Taken, bad_unit, occupied, tally_of}
use Rattle.screens.specs.declared.Gap.{Gap}
use Rattle.screens.specs.Code.{broken_by}
use Rattle.clauses.specs.declared.screen.Tally.{Tally}
use Rattle.clauses.specs.Clause.{high_of}

abbrev pub no_tally : Tally
no_tally = record { taken = 0; issued = 0; literals = 0 }

-- an instruction breaks rule 12 or 15, 11 or 13; its class is given as one number
unfoldable pub is_wrong : List Gap → Taken → ℕ → ℕ → ℕ → ℕ → Bool
is_wrong gaps taken code unit lo hi =
    cond (broken_by gaps lo hi) true (code % 4 == 0 || bad_unit taken unit (BANK_SWIZZLE of hi))

-- one instruction more, with which the group has so many literal quadwords
abbrev pub with_one : Tally → ℕ → ℕ → ℕ → Tally
with_one t code unit literals = record { taken = occupied t.taken unit; issued = t.issued + 16 ^ (code / 4 % 8); literals = literals }

-- all of it where the group goes on, nothing where it has ended
abbrev pub kept_of : ℕ → Tally → Tally
kept_of stays t = record { taken = stays * t.taken; issued = stays * t.issued; literals = stays * t.literals }

-- how many instructions were counted, and the first of them where the last stands at a quadword
abbrev pub size_in : ℕ → ℕ
size_in n = n % 16 + n / 16 % 16 + n / 256 % 16 + n / 4096 % 16 + n / 65536

abbrev pub first_of : ℕ → ℕ → Quadwords
first_of at n = quadwords (at + 1 - size_in n)

-- a group's last instruction stands at that quadword, in the buffer, and its issue kinds are counted
pub record Ends (w : List ℕ) (at n : ℕ) : Type 0 where
  pub few : size_in n ≤ 5
  pub some : size_in n ≤ at + 1
  pub inside : 2 * at + 2 ≤ length w
  pub counts : n ≡ tally_of (high_of w (first_of at n)) (size_in n)
