-- What contracts inside a crate, and laws, ask of bytes.
use Rattle.std.specs.Prelude.{ℕ, Bool, true, not, ◌&&◌, List, [], ◌∷◌, eqb}
use Rattle.ascii.specs.Ascii.{line_feed}

-- no byte is a line feed
abbrev pub feedless : List ℕ → Bool
feedless [] = true
feedless (b ∷ t) = not (eqb b line_feed) && feedless t
