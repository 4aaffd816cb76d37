-- What is read in a turn stands behind what was read before.
use Rattle.std.proofs.Common.{sym, subst, rules}
use Rattle.std.specs.Io.KnownBytes.{Consumes}
use Rattle.std.proofs.KnownBytes.{Consumes-trans}
use Rattle.console.proofs.OfFiles.{read_more}
use Rattle.console.proofs.files.read_all.Goals as goal

pub loop-done-preserved : goal.loop-done-preserved
loop-done-preserved g c =
    let before = c.loop-done.invariant in
    let read = c.in_ok-more.ensures in (
      search rules,
      search rules,
      subst (Consumes _ _) (sym (read_more c.loop-done.done c.in_ok-more.more c.loop-done.room c.read.new.buf _ before.1 read.bound.0)) (Consumes-trans _ _ _ _ _ before.2 read.bytes.0),
    )
