-- Worked instructions and fetches, by computation: found and limit of each sort, and what has none. Assumes nothing.
use mathlib.Core.Path.{◌≡◌, refl}
use Prim.Native.Nat.{ℕ}
use Rattle.std.specs.Prelude.{Option, None}
use Rattle.checks.specs.declared.NotGranted.{NotGranted}
use Rattle.opcodes.specs.declared.cf.FetchKind.{FetchKind}
use Rattle.opcodes.specs.declared.cf.FetchKind.TheVariants.{Vertex, Texture}
use Rattle.formats.specs.Fields.{◌of◌, FETCH_INST}
use Rattle.grants.specs.declared.Limits.{Limits}
use Rattle.instructions.specs.Instruction.{is_op3, is_relative, is_written, destination_names, names_of, named}
use Rattle.fetches.specs.Fetches as fetches
use Rattle.faults.specs.Faults.{at_fault, first_fault}

-- four registers, two temporaries, eight constants, and a clause's modes
abbrev granting : ℕ → ℕ → Limits
granting mode0 mode1 = record { gprs = 4; temps = 2; consts = 8; mode0 = mode0; mode1 = mode1 }

abbrev fault : ℕ → ℕ → ℕ → ℕ → Option NotGranted
fault mode0 mode1 lo hi = first_fault (granting mode0 mode1) (named lo hi)

abbrev fetch_fault : FetchKind → ℕ → ℕ → Option NotGranted
fetch_fault kind w0 w1 = first_fault (granting 0 0) (fetches.named kind (FETCH_INST of w0) w0 w1)

-- MOV R5, R6: the destination first; not written, the source; MOV R3, R3 has none at fault
registers : (fault 0 0 6 0x00a0_0c90 ≡ at_fault 5 4) × (fault 0 0 6 0x00a0_0c80 ≡ at_fault 6 4) × (fault 0 0 3 0x0060_0c90 ≡ None)
unfolding first_fault named destination_names is_written is_op3 names_of is_relative
registers = (refl, refl, refl)

-- R126 is a clause temporary; R125 is not, and its limit is gprs
temporaries : (fault 0 0 126 0x0fc0_0c90 ≡ None) × (fault 0 0 125 0x0fc0_0c90 ≡ at_fault 125 4)
unfolding first_fault named destination_names is_written is_op3 names_of is_relative
temporaries = (refl, refl)

-- source 144, by set 0's mode: none of the set, the first 16, all of it
set_0 : (fault 0 2 144 0xc80 ≡ at_fault 144 128) × (fault 1 2 144 0xc80 ≡ at_fault 144 144) × (fault 2 0 144 0xc80 ≡ None)
unfolding first_fault named destination_names is_written is_op3 names_of is_relative
set_0 = (refl, refl, refl)

-- source 176, by set 1's
set_1 : (fault 2 0 176 0xc80 ≡ at_fault 176 160) × (fault 2 1 176 0xc80 ≡ at_fault 176 176) × (fault 0 3 176 0xc80 ≡ None)
unfolding first_fault named destination_names is_written is_op3 names_of is_relative
set_1 = (refl, refl, refl)

-- constants 7 and 8; source 1, which a MOV does not read; source 2 of an OP3, behind two that are granted
constants : (fault 0 0 263 0xc80 ≡ None) × (fault 0 0 264 0xc80 ≡ at_fault 264 264) × (fault 0 0 0x0021_0000 0xc80 ≡ at_fault 264 264) × (fault 0 0 0 0x0002_0108 ≡ at_fault 264 264)
unfolding first_fault named destination_names is_written is_op3 names_of is_relative
constants = (refl, refl, refl, refl)

-- relative: a destination and a source that would be at fault
relatives : (fault 0 0 0x206 0xc80 ≡ None) × (fault 0 0 0 0x10a0_0c90 ≡ None)
unfolding first_fault named destination_names is_written is_op3 names_of is_relative
relatives = (refl, refl)

-- a fetch of R6 into R5: the destination first, then the source; a semantic fetch has none there
fetched : (fetch_fault Texture 0x0006_0010 5 ≡ at_fault 5 4) × (fetch_fault Texture 0x0006_0010 3 ≡ at_fault 6 4) × (fetch_fault Vertex 1 5 ≡ None) × (fetch_fault Vertex 0x0006_0001 5 ≡ at_fault 6 4)
unfolding first_fault
fetched = (refl, refl, refl, refl)
