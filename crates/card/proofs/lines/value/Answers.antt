-- `card::lines::value` meets its contract: the bytes begin with the key or not, and a line feed is found behind it or not. Assumes nothing.
use Rattle.std.proofs.Common.{ap, sym, ◌∙◌, ◌+◌, length, take}
use lib.ListN.{drop}
use Rattle.std.proofs.lemmas.Result.{err_from_is_err_and}
use Rattle.std.proofs.lemmas.Option.{MatchOption-at_none, MatchOption-at_some}
use Rattle.laws.proofs.OfLists.{to_the_end}
use Rattle.card.specs.Text.{first_line, behind_first}
use Rattle.card.specs.Code.{short}
use Rattle.card.specs.declared.lines.TheConstants.{LONGEST}
use Rattle.card.proofs.OfLines.{feed_at, line_there}
use Rattle.card.proofs.OfKeys.{value_other, value_there, behind_there}
use Rattle.card.proofs.OfShort.{feed_found, feed_missing}
use Rattle.card.proofs.OfFound.{refused_with}
use Rattle.card.proofs.lines.value.Goals as goal

pub returns-in_err-behind : goal.returns-in_err-behind
returns-in_err-behind c =
    let p = err_from_is_err_and c.from_residual.result c.from_residual.ensures.1 in
    let nothing = c.in_err-behind.ensures.ok_part in
    rw (p.1, p.2) (
      ap short (value_other c.args.key.now c.args.bytes.now c.requires (MatchOption-at_none _ _ nothing c.strip_prefix.ensures.cases)),
      refused_with c.strip_prefix.result nothing c.in_err-behind.ensures.value,
    )

pub returns-in_err-end : goal.returns-in_err-end
returns-in_err-end c =
    let w = MatchOption-at_some _ _ c.in_ok-behind.behind c.in_ok-behind.ensures.ok_part c.strip_prefix.ensures.cases in
    let p = err_from_is_err_and c.from_residual-in_err-end.result c.from_residual-in_err-end.ensures.1 in
    let nothing = c.in_err-end.ensures.ok_part in
    rw (p.1, p.2) (
      ap short (value_there c.args.key.now c.args.bytes.now c.requires w.0)
          ∙ feed_missing (drop (length c.args.key.now) c.args.bytes.now) (ap (λ l. feed_at (take (LONGEST + 1) l)) (sym w.1) ∙ sym c.line_feed.ensures ∙ nothing),
      refused_with c.line_feed.result nothing c.in_err-end.ensures.value,
    )

pub returns : goal.returns
returns c =
    let w = MatchOption-at_some _ _ c.in_ok-behind.behind c.in_ok-behind.ensures.ok_part c.strip_prefix.ensures.cases in
    let t = c.in_ok-behind.behind.now in
    let found-it = feed_found t c.in_ok-end.end (sym c.line_feed.ensures ∙ c.in_ok-end.ensures.ok_part) in
    let e = line_there t c.in_ok-end.end found-it in (
      value_there c.args.key.now c.args.bytes.now c.requires w.0 ∙ ap first_line (sym w.1) ∙ e.line,
      to_the_end (c.in_ok-end.end + 1) t ∙ sym e.rest ∙ ap behind_first w.1 ∙ sym (behind_there c.args.key.now c.args.bytes.now c.requires w.0),
    )
