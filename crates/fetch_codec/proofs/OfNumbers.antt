-- The answers of the decoder by the paper's numbers. Assumes nothing.
use mathlib.Core.List.{List}
use Prim.Native.Nat.{◌+◌, ℕ}
use lib.ListN.{get_or}
use Rattle.laws.proofs.OfTests.{by_test_lem}
use Rattle.units.specs.declared.Words.{Words}
use Rattle.formats.specs.Fields.{◌of◌, FETCH_INST}
use Rattle.fetches.specs.Fetches.{bad_fetch}
use Rattle.microcode.specs.Buffer.{Answers, room}
use Rattle.microcode.proofs.OfNumbers.{accepted_0, refused_by}
use Rattle.fetch_codec.specs.declared.Clause.{Clause}
use Rattle.fetch_codec.specs.Fetch.{kind_of}
use Rattle.fetch_codec.specs.Buffer.{decode_of, decoded_verdict, decode_number}

pub decode_number_lem : (clause : Clause) (l : List ℕ) (start : Words) → Answers (decoded_verdict (decode_of clause l start)) (decode_number clause l start)
decode_number_lem clause l start =
    by_test_lem (room 4 l start.0)
    (λ t. by_test_lem (bad_fetch (kind_of clause) (FETCH_INST of (get_or l start.0 0)) (get_or l (start.0 + 3) 0))
    (λ b. rw (t, b) (refused_by 8))
    (λ b. rw (t, b) accepted_0))
    (λ t. rw t (refused_by 2))
