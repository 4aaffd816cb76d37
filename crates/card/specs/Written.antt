-- A card as text. No function writes one: this is the other way round of reading, for the laws of proofs/OfWritten.antt, by which
-- the bytes of a whole card are exactly the text of that card.
use Rattle.std.specs.Prelude.{ℕ, List, ◌++◌}
use Prim.Native.String.{String}
use Rattle.ascii.specs.Decimal.{decimal}
use Rattle.card.specs.Text.{text}
use Rattle.card.specs.declared.Kind.{Kind}
use Rattle.card.specs.declared.Kind.TheVariants.{Pixel, Vertex, Geometry}
use Rattle.card.specs.declared.Build.{Build}
use Rattle.card.specs.declared.Build.TheVariants.{Production, Debug}
use Rattle.card.specs.declared.Card.{Card}

abbrev pub kind_word : Kind → String
kind_word Pixel = "ps"
kind_word Vertex = "vs"
kind_word Geometry = "gs"

abbrev pub build_word : Build → String
build_word Production = "production"
build_word Debug = "debug"

-- one line, with its line feed
abbrev pub row : String → List ℕ → List ℕ
row key value = text key ++ text "=" ++ value ++ text "\n"

-- the seven lines of a card
unfoldable pub written : Card → List ℕ
written card =
    row "kind" (text (kind_word card.kind))
    ++ row "build" (text (build_word card.build))
    ++ row "gprs" (decimal card.gprs)
    ++ row "temps" (decimal card.temps)
    ++ row "consts" (decimal card.consts)
    ++ row "stack" (decimal card.stack)
    ++ row "quads" (decimal card.quads.0)
