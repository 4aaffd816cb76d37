-- Worked clauses, by computation: two quadwords of control flow before them, two registers granted.
use mathlib.Core.Path.{◌≡◌, refl}
use mathlib.Core.List.{List, [], ◌∷◌, ◌++◌}
use Prim.Native.Nat.{ℕ}
use Rattle.units.specs.Units.{quadwords, slots, low_at, high_at, lies_in}
use Rattle.checks.specs.Verdict.{verdict_number, verdict_place, verdict_slot}
use Rattle.checks.specs.Checks.{first_broken, below}
use Rattle.opcodes.specs.Numbers.{fetch_taken, vertex_fetches, texture_fetches}
use Rattle.grants.specs.declared.Limits.{Limits}
use Rattle.opcodes.specs.declared.cf.FetchKind.{FetchKind}
use Rattle.opcodes.specs.declared.cf.FetchKind.TheVariants.{Vertex, Texture}
use Rattle.fetches.specs.Fetches.{fetch_checks, clause_checks}

abbrev two : Limits
two = record { gprs = 2; temps = 4; consts = 0; mode0 = 0; mode1 = 0 }

-- a fetch by its four words
abbrev fetch : ℕ → ℕ → ℕ → ℕ → List ℕ
fetch w0 w1 w2 w3 = w0 ∷ w1 ∷ w2 ∷ w3 ∷ []

-- the answer of a clause of n fetches at quadword 2, opened at quadword 1: number, place, slot
abbrev answer : FetchKind → ℕ → List ℕ → List ℕ
answer kind n fetches =
    let v = first_broken (clause_checks kind two (0 ∷ 0 ∷ 0 ∷ 0 ∷ [] ++ fetches) (quadwords 1) (quadwords 2) (slots n)) in
    verdict_number v ∷ verdict_place v ∷ verdict_slot v ∷ []

-- SAMPLE of R0 into R1, twice
accepted : answer Texture 2 (fetch 0x10 0x1 0 0 ++ fetch 0x10 0x1 0 0) ≡ 0 ∷ 0 ∷ 0 ∷ []
unfolding clause_checks lies_in fetch_checks low_at high_at below first_broken fetch_taken texture_fetches
accepted = refl

-- number 9 is not in section 9.4; 2 is not in section 9.3
numbers : (answer Texture 1 (fetch 0x9 0x1 0 0) ≡ 8 ∷ 1 ∷ 0 ∷ []) × (answer Vertex 1 (fetch 0x2 0x1 0 0) ≡ 8 ∷ 1 ∷ 0 ∷ [])
unfolding clause_checks lies_in fetch_checks low_at high_at below first_broken fetch_taken texture_fetches vertex_fetches
numbers = (refl, refl)

-- the second fetch's fourth word: slot 2
fourth : answer Texture 2 (fetch 0x10 0x1 0 0 ++ fetch 0x10 0x1 0 7) ≡ 8 ∷ 1 ∷ 2 ∷ []
unfolding clause_checks lies_in fetch_checks low_at high_at below first_broken fetch_taken texture_fetches
fourth = refl

-- R2 as destination and as source; R127, a clause temporary, is not granted to fetches
registers : (answer Texture 1 (fetch 0x10 0x2 0 0) ≡ 9 ∷ 1 ∷ 0 ∷ []) × (answer Vertex 1 (fetch 0x20000 0x1 0 0) ≡ 9 ∷ 1 ∷ 0 ∷ []) × (answer Vertex 1 (fetch 0 0x7f 0 0) ≡ 9 ∷ 1 ∷ 0 ∷ [])
unfolding clause_checks lies_in fetch_checks low_at high_at below first_broken fetch_taken texture_fetches vertex_fetches
registers = (refl, refl, refl)

-- relative operands name nothing, and a semantic fetch's low bits are its id
unnamed : (answer Vertex 1 (fetch 0xa0_0000 0x85 0 0) ≡ 0 ∷ 0 ∷ 0 ∷ []) × (answer Vertex 1 (fetch 0x1 0x45 0 0) ≡ 0 ∷ 0 ∷ 0 ∷ [])
unfolding clause_checks lies_in fetch_checks low_at high_at below first_broken fetch_taken vertex_fetches
unnamed = (refl, refl)

-- 8 of a later fetch comes behind 9 of an earlier one
in_order : answer Texture 2 (fetch 0x10 0x2 0 0 ++ fetch 0x9 0x1 0 0) ≡ 9 ∷ 1 ∷ 0 ∷ []
unfolding clause_checks lies_in fetch_checks low_at high_at below first_broken fetch_taken texture_fetches
in_order = refl

-- a clause that does not lie in the buffer is rule 6's
elsewhere : answer Texture 3 (fetch 0x9 0x1 0 0 ++ fetch 0x10 0x1 0 0) ≡ 0 ∷ 0 ∷ 0 ∷ []
unfolding clause_checks lies_in fetch_checks low_at high_at below first_broken fetch_taken texture_fetches
elsewhere = refl
