use Rattle.std.proofs.Common.{subst, arith, rules}
use Rattle.std.specs.Io.BufRead.{FillKeeps}
use Rattle.lines.proofs.Taking.{shown_in_part, shown_to_the_end}
use Rattle.lines.proofs.reading.take_shown.Goals as goal

pub returns-then-is_ended-clause-taken : goal.returns-then-is_ended-clause-taken
returns-then-is_ended-clause-taken g c =
    let rested = c.fill_buf.follows.lender-at-none in
    let filled = subst (FillKeeps _ (g.R.Read.remaining rested) (g.R.BufRead.consumable_len rested)) c.in-Ok.is
    c.fill_buf.follows.holds-at-none in
    let front = c.front_of_line-len.result in
    shown_to_the_end _ _ _ (g.R.BufRead.consumable_len rested) c.in-Ok.shown.now _ _ c.args.limit _ front.0
    c.args.scan front.2 c.in-Ok.ensures.front c.in-Ok.ensures.end filled.0 filled.1 c.append.ensures.items front.1
    c.if-is_ended.true c.front_of_line-len.ensures (search (rules, arith)) c.consume.ensures.bytes

pub returns-else-is_ended-clause-taken : goal.returns-else-is_ended-clause-taken
returns-else-is_ended-clause-taken g c =
    let rested = c.fill_buf.follows.lender-at-none in
    let filled = subst (FillKeeps _ (g.R.Read.remaining rested) (g.R.BufRead.consumable_len rested)) c.in-Ok.is
    c.fill_buf.follows.holds-at-none in
    let front = c.front_of_line-len.result in
    shown_in_part _ _ _ (g.R.BufRead.consumable_len rested) c.in-Ok.shown.now _ _ c.args.limit _ front.0
    c.args.scan front.2 c.in-Ok.ensures.front c.in-Ok.ensures.end filled.0 filled.1 c.append.ensures.items front.1
    c.if-is_ended.false c.front_of_line-len.ensures (search (rules, arith)) (search (rules, arith))
    (search (rules, arith)) c.consume-else-is_ended.ensures.bytes
