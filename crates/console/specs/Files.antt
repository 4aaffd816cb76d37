-- Files read into a room. What a file gives is for the system to say: of one only how much of the room it takes is said, in src/files.rt; of a reader
-- whose bytes are known, that they stand in the room.
use Rattle.std.specs.Prelude.{ℕ, ◌<◌, ◌≤◌, ⊤, Option, Some, None, List, length, take}
use Rattle.std.specs.Io.KnownBytes.{Keeps, Consumes, IsAtEnd}

-- where it is known which bytes a reader has left: the first of them stand at the room's start, though it is not said how many
abbrev pub GaveSome : Option (List ℕ) → Option (List ℕ) → List ℕ → Type 0
GaveSome old new room = (n : ℕ) × (n ≤ length room) × Consumes old new (take n room)

-- likewise: those that are counted are the first of them; and where the room has more, all of them
abbrev pub ReadFrom : Option (List ℕ) → Option (List ℕ) → Option ℕ → List ℕ → Type 0
ReadFrom old new None room = GaveSome old new room
ReadFrom old new (Some n) room = Consumes old new (take n room) × (n < length room → IsAtEnd new)

-- nothing is told where a file was read
abbrev pub IsSilent : Option ℕ → Option (List ℕ) → Option (List ℕ) → Type 0
IsSilent None old new = ⊤
IsSilent (Some n) old new = Keeps old new
