-- What was made in the room is what is to be written.
use Rattle.std.proofs.Common.{sym, subst, arith}
use Rattle.std.specs.Io.KnownBytes.{Appends}
use Rattle.std.proofs.KnownBytes.{Appends-nil}
use Rattle.console.proofs.OfOutput.{made, none_made}
use Rattle.console.proofs.answers.write_answer.Goals as goal

pub returns-in_default-clause-written : goal.returns-in_default-clause-written
returns-in_default-clause-written g c t = subst (Appends _ _) (sym (none_made _ _ c.in_default.is c.make.ensures.value)) (Appends-nil _)

pub slice_bounds-write_all-end : goal.slice_bounds-write_all-end
slice_bounds-write_all-end g c = (made c.in-Ok.is c.make.ensures.value c.make.ensures.room_after).within.0

pub slice_bounds-write_all-end-2 : goal.slice_bounds-write_all-end-2
slice_bounds-write_all-end-2 g c = (made c.in-Ok.is c.make.ensures.value c.make.ensures.room_after).within.1

pub returns-in-Ok-write_all-clause-written : goal.returns-in-Ok-write_all-clause-written
returns-in-Ok-write_all-clause-written g c t =
    subst (Appends _ _) (made c.in-Ok.is c.make.ensures.value c.make.ensures.room_after).first c.in-Ok-write_all.ensures.bytes
