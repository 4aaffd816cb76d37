-- `report::settings::write_settings` meets its contract: the lines have room, and stand at the start, or not. Assumes nothing.
use Rattle.std.proofs.Common.{sym, ◌∙◌, arith}
use borrow.Author.Tests.{leb-true, leb-false}
use Rattle.report.proofs.OfBuffer.{whole_buffer, whole_length, no_room_answer, no_room_buffer}
use Rattle.report.proofs.settings.write_settings.Goals as goal

pub returns-then-not-have_room-clause-value : goal.returns-then-not-have_room-clause-value
returns-then-not-have_room-clause-value c =
    no_room_answer _ _ (leb-false _ _ (sym c.have_room.ensures ∙ c.if-not-have_room.true))

pub returns-then-not-have_room-clause-out_after : goal.returns-then-not-have_room-clause-out_after
returns-then-not-have_room-clause-out_after c =
    no_room_buffer _ _ (leb-false _ _ (sym c.have_room.ensures ∙ c.if-not-have_room.true))

pub returns-clause-value : goal.returns-clause-value
returns-clause-value c =
    whole_length _ _ c.put_settings.result (omega (arith, c.put_settings.ensures.ends)) (leb-true _ _ (sym c.have_room.ensures ∙ c.if-not-have_room.false))

pub returns-clause-out_after : goal.returns-clause-out_after
returns-clause-out_after c =
    whole_buffer _ _ _ _ c.put_settings.ensures (leb-true _ _ (sym c.have_room.ensures ∙ c.if-not-have_room.false))
