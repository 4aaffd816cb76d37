-- What private functions ask and answer. The public contracts need none of it.
use Rattle.std.specs.Prelude.{ℕ, Bool, true, false, cond, Option, Some, None, List, [], ◌∷◌, eqb, leb, length}
use Prim.Native.Char.{code}
use Rattle.card.specs.declared.Kind.{Kind}
use Rattle.card.specs.declared.Kind.TheVariants.{Pixel, Vertex, Geometry}
use Rattle.card.specs.declared.Build.{Build}
use Rattle.card.specs.declared.Build.TheVariants.{Production, Debug}
use Rattle.card.specs.declared.lines.TheConstants.{LONGEST}

abbrev pub every_kind : List Kind
every_kind = Pixel ∷ Vertex ∷ Geometry ∷ []

abbrev pub every_build : List Build
every_build = Production ∷ Debug ∷ []

-- no byte, or a 0 with more behind it: no number, whatever stands behind
abbrev pub malformed : List ℕ → Bool
malformed [] = true
malformed (b ∷ []) = false
malformed (b ∷ c ∷ t) = eqb b (code "0")

-- a value, unless it is longer than any that is right
abbrev pub short : Option (List ℕ) → Option (List ℕ)
short None = None
short (Some v) = cond (leb (length v) LONGEST) (Some v) None
