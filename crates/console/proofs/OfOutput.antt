-- What is written of what stands in a room. Assumes nothing.
use Rattle.std.proofs.Common.{◌≡◌, refl, sym, ◌∙◌, ap, ℕ, ◌≤◌, Bool, true, false, cond, List, [], ◌++◌, length, drop, take, Result, Ok, Err, arith, length-append}
use Rattle.std.proofs.Math.Seq.{take-append_seam}
use Rattle.std.specs.Counts.{IsPrefixLen}
use Rattle.std.proofs.lemmas.List.{length-take-le}
use Rattle.report.specs.declared.TooSmall.{TooSmall}
use Rattle.report.specs.Buffer.{room, written_of, buffer_after}
use Rattle.console.specs.Output.{fitting}

-- by whether a room has room for some bytes
abbrev written_by : Bool → List ℕ → Result ℕ TooSmall
written_by t bytes = cond t (Ok (length bytes)) (Err (record {}))

abbrev after_by : Bool → List ℕ → List ℕ → List ℕ
after_by t bytes before = cond t (bytes ++ drop (length bytes) before) before

-- bytes that were made in a room are its first, and all are written
pub record Made (bytes before after : List ℕ) (n : ℕ) : Type 0 where
  pub within : IsPrefixLen n after
  pub first : take n after ≡ fitting bytes before

pub made :
    {bytes before after : List ℕ} {n : ℕ} {answer : Result ℕ TooSmall}
    → answer ≡ Ok n → answer ≡ written_of bytes before → after ≡ buffer_after bytes before → Made bytes before after n
unfolding written_of buffer_after
made {bytes} {before} {after} {n} is e h =
    let (inside, first) = by (room bytes before) (sym is ∙ e) h in
    record { within = (inside, sym (length-take-le n after inside)); first = first }
  where
    by : (t : Bool) → Ok n ≡ written_by t bytes → after ≡ after_by t bytes before → (n ≤ length after) × (take n after ≡ cond t bytes [])
    by true e h =
        let same : n ≡ length bytes = cc in (
          omega (arith, ap length h, length-append bytes (drop (length bytes) before)),
          rw (h, same) (take-append_seam bytes (drop (length bytes) before)),
        )
    by false e h = absurd (cc)

-- where none were made, none are written
pub none_made :
    (bytes before : List ℕ) {answer : Result ℕ TooSmall} {why : TooSmall} → answer ≡ Err why → answer ≡ written_of bytes before → fitting bytes before ≡ []
unfolding written_of
none_made bytes before {answer} {why} is e = by (room bytes before) (sym is ∙ e)
  where
    by : (t : Bool) → Err why ≡ written_by t bytes → cond t bytes [] ≡ []
    by true e = absurd (cc)
    by false e = refl
