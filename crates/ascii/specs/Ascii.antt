-- A quoted text as bytes.
use Rattle.std.specs.Prelude.{ℕ, List, [], ◌∷◌}
use Prim.Native.Char.{code}
use Prim.Native.String.{String, [] as []ᵗ, ◌∷◌ as ◌∷ᵗ◌}

-- the code of each character, which for the ASCII characters of document 01's texts is one byte
abbrev pub ascii : String → List ℕ
ascii []ᵗ = []
ascii (c ∷ᵗ t) = code c ∷ ascii t

-- the byte that ends a line
abbrev pub line_feed : ℕ
line_feed = code "\n"
