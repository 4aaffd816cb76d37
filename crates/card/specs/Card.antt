-- The card of document 01, "What the judge reads": seven lines key=value, each ended by one line feed, in the order of its table.
use Rattle.std.specs.Prelude.{ℕ, ◌+◌, Bool, ◌&&◌, Option, Result, Ok, Err, ok_or, List, [], ◌∷◌, ◌++◌, leb}
use Prim.Native.String.{String}
use Rattle.units.specs.Units.{quadwords}
use Rattle.card.specs.Text.{text, found, lines_length, value_at, word_in, number_in, from◌to◌}
use Rattle.card.specs.declared.Kind.{Kind}
use Rattle.card.specs.declared.Kind.TheVariants.{Pixel, Vertex, Geometry}
use Rattle.card.specs.declared.Build.{Build}
use Rattle.card.specs.declared.Build.TheVariants.{Production, Debug}
use Rattle.card.specs.declared.Card.{Card}
use Rattle.card.specs.declared.BadLine.{BadLine}

-- ---- what each line allows: the table's last column, for a card that is read and for one that a caller makes

-- 1, the paper's kind: ps, vs, gs (pixel, vertex and geometry shader)
abbrev pub kinds : List (String × Kind)
kinds = ("ps", Pixel) ∷ ("vs", Vertex) ∷ ("gs", Geometry) ∷ []

-- 2, the paper's build: production, debug
abbrev pub builds : List (String × Build)
builds = ("production", Production) ∷ ("debug", Debug) ∷ []

-- 3, the paper's gprs, the number of registers granted: 1 to 128
abbrev pub gprs_allowed : ℕ → Bool
gprs_allowed gprs = (from 1 to 128) gprs

-- 4, the paper's temps, the number of clause temporaries granted: 0 to 4, and gprs+temps at most 128
abbrev pub temps_allowed : ℕ → ℕ → Bool
temps_allowed gprs temps = (from 0 to 4) temps && leb (gprs + temps) 128

-- 5, the paper's consts, the number of constants granted: 0 to 256
abbrev pub consts_allowed : ℕ → Bool
consts_allowed consts = (from 0 to 256) consts

-- 6, the paper's stack, the number of frames that may stand on the stack: 0 to 32
abbrev pub stack_allowed : ℕ → Bool
stack_allowed stack = (from 0 to 32) stack

-- 7, the paper's quads, the pack's length in quadwords: 1 to 8,192
abbrev pub quads_allowed : ℕ → Bool
quads_allowed quads = (from 1 to 8192) quads

-- ---- a card in bytes

-- what line n says: the value behind `key=`, where it is an allowed one; none for a line that is missing or anything else
abbrev pub line_says : {A : Type 0} → List ℕ → ℕ → String → (List ℕ → Option A) → Option A
line_says s n key allowed = found (value_at n (text key ++ text "=") s) allowed

-- the number of the first line that is missing, misspelt or out of range
abbrev pub bad_line : ℕ → BadLine
bad_line n = record { 0 = n }

-- what bytes are read as: a card, with the bytes that it takes; or which line is at fault
abbrev pub CardRead : Type 0
CardRead = Result (Card × ℕ) BadLine

pattern abbrev pub Whole : Card → ℕ → CardRead
Whole card taken = Ok (card, taken)

abbrev pub BadAt : {A : Type 0} → ℕ → Result A BadLine
BadAt n = Err (bad_line n)

-- a line that is exactly right, with its value; or the number of one that isn't
abbrev pub judged : {A : Type 0} → ℕ → Option A → Result A BadLine
judged n said = ok_or said (bad_line n)

abbrev pub line : {A : Type 0} → List ℕ → ℕ → String → (List ℕ → Option A) → Result A BadLine
line s n key allowed = judged n (line_says s n key allowed)

-- a line that is right hands its value to the lines behind; one that is wrong is the answer, whatever they are
infixl 30 ◌>>=◌
abbrev pub ◌>>=◌ : {A : Type 0} → Result A BadLine → (A → CardRead) → CardRead
◌>>=◌ (Ok value) behind = behind value
◌>>=◌ (Err bad) behind = Err bad

-- the card that seven values make
abbrev pub card_with : Kind → Build → ℕ → ℕ → ℕ → ℕ → ℕ → Card
card_with kind build gprs temps consts stack quads =
    record { kind = kind; build = build; gprs = gprs; temps = temps; consts = consts; stack = stack; quads = quadwords quads }

-- how many lines a card has
abbrev pub card_lines : ℕ
card_lines = 7

-- the paper's card: its table, line by line. The n-th stretch of bytes up to a line feed is tested as line n. Seven lines that are
-- exactly right make a card, with the bytes that they take; else the first that isn't is the answer
unfoldable pub card_of : List ℕ → CardRead
card_of s = do
  kind ← line s 1 "kind" (word_in kinds)
  build ← line s 2 "build" (word_in builds)
  gprs ← line s 3 "gprs" (number_in gprs_allowed)
  temps ← line s 4 "temps" (number_in (temps_allowed gprs))
  consts ← line s 5 "consts" (number_in consts_allowed)
  stack ← line s 6 "stack" (number_in stack_allowed)
  quads ← line s 7 "quads" (number_in quads_allowed)
  Whole (card_with kind build gprs temps consts stack quads) (lines_length card_lines s)

-- ---- a card by value

-- the figures held to the same table, line by line; kind and build are always one of those that it allows
abbrev pub figure_tests : Card → List (ℕ × Bool)
figure_tests card =
    (3, gprs_allowed card.gprs) ∷ (4, temps_allowed card.gprs card.temps) ∷ (5, consts_allowed card.consts)
    ∷ (6, stack_allowed card.stack) ∷ (7, quads_allowed card.quads.0) ∷ []
