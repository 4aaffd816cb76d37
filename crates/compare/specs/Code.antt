-- What only the code's contracts cite: the words in common, as a chain over the pairs of both counts them.
use Rattle.std.specs.Prelude.{ℕ, List, ◌==◌, length, take_while, zip}

abbrev pub in_common : List ℕ → List ℕ → ℕ
in_common xs ys = length (take_while (λ p. p.0 == p.1) (zip xs ys))
