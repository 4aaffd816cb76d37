-- `settings::read_setting` meets its contract. The loop's invariant: the keys so far do not begin the setting. Assumes nothing.
use Rattle.settings.proofs.OfReading.{Searched}
use Rattle.settings.proofs.read_setting.Given as goal

abbrev pub invariant-loop-index : goal.invariant-loop-index
invariant-loop-index l = Searched l.keys l.setting l.index
