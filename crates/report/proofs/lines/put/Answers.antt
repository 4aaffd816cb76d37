-- `report::lines::put` meets its contract: the bytes stand in a part of the buffer. Assumes nothing.
use Rattle.std.proofs.Common.{refl, ◌∙◌, ap, ◌++◌, take, length, List, ℕ, arith}
use Rattle.std.proofs.lemmas.Slice.{take-put_mid, drop-put_mid}
use Rattle.report.proofs.lines.put.Goals as goal

pub returns : goal.returns
returns c =
    let a = c.args.at in
    let out = c.args.out.now in
    let same = c.copy_from_slice.ensures.after in
    let size = ap length same in
    record {
      ends = refl;
      written = take-put_mid a _ out c.copy_from_slice.new.self _ (omega (arith, size)) (omega arith) ∙ ap (λ (l : List ℕ). take a out ++ l) same;
      kept = drop-put_mid a _ out c.copy_from_slice.new.self _ (omega arith) (omega arith) (omega (arith, size));
    }
