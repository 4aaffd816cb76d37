-- Enough zeros.
use Rattle.fetch_text.proofs.OfPromises.{text_short}
use Rattle.fetch_text.proofs.text_room.Goals as goal

pub returns-clause-holds_text : goal.returns-clause-holds_text
returns-clause-holds_text c f can = text_short f can
