-- Rooms, and bytes that begin one. Assumes nothing.
use Rattle.std.proofs.Common.{◌≡◌, ℕ, ◌+◌, ◌≤◌, List, ◌++◌, length, take, replicate, ◌∙◌, sym, ap, arith}
use Rattle.std.proofs.Math.Seq.{take-append-add}
use Rattle.std.proofs.lemmas.List.{length-take-le, take-append-le, length-replicate}

-- a room of n zeros has room for as few bytes
pub zeros : {k n : ℕ} → k ≤ n → k ≤ length (replicate {A = ℕ} n 0)
zeros {k} {n} h = omega (arith, length-replicate {A = ℕ} n 0)

-- n bytes of a part that follows the first `done` of a room stand behind them
pub read_more : (done n : ℕ) (room part rest : List ℕ) → done ≤ length room → n ≤ length part
    → take (done + n) (take done room ++ (part ++ rest)) ≡ take done room ++ take n part
read_more done n room part rest h k =
    ap (λ d. take (d + n) (take done room ++ (part ++ rest))) (sym (length-take-le done room h))
    ∙ take-append-add (take done room) (part ++ rest) n
    ∙ ap (λ ys. take done room ++ ys) (take-append-le n part rest k)
