use Rattle.std.proofs.Common.{arith, rules}
use Rattle.lines.proofs.Taking.{byte_more, last_line, line_ended, line_grown}
use Rattle.lines.proofs.reading.LineReader.next_line.Goals as goal

pub returns-in-None-2-clause-taken : goal.returns-in-None-2-clause-taken
returns-in-None-2-clause-taken g c =
    last_line _ _ _ _ _ _ _ _ _ _ _ c.line_limit-limit.ensures c.parts.invariant.consumed c.parts.invariant.unbroken
    c.in-Nothing.is c.in_ok-take_shown.ensures.taken
    c.in-None-2.is c.in_ok-byte-in-Nothing.ensures.taken (search (rules, arith)) (search (rules, arith))

pub returns-in-Ended-clause-taken : goal.returns-in-Ended-clause-taken
returns-in-Ended-clause-taken g c =
    line_ended _ _ _ _ _ _ _ _ c.line_limit-limit.ensures c.parts.invariant.consumed c.parts.invariant.unbroken
    c.parts.invariant.stands _ c.in-Ended.is c.in_ok-take_shown.ensures.taken

pub parts-preserved-in-Part : goal.parts-preserved-in-Part
parts-preserved-in-Part g c =
    let more = line_grown _ _ _ _ _ _ _ _ c.line_limit-limit.ensures c.parts.invariant.consumed
    c.parts.invariant.unbroken c.parts.invariant.stands _ c.in-Part.behind c.in-Part.is
    c.in_ok-take_shown.ensures.taken in
    record {
      consumed = more.0;
      unbroken = more.1;
      stands = more.2;
      short = more.3;
      flushed = search (rules);
      room = search (rules, arith);
    }

pub parts-preserved : goal.parts-preserved
parts-preserved g c =
    let more = byte_more _ _ _ _ _ _ _ _ c.line_limit-limit.ensures c.parts.invariant.consumed
    c.parts.invariant.unbroken c.parts.invariant.stands _ _ _ c.in-Some.byte _ _ c.in-Nothing.is
    c.in_ok-take_shown.ensures.taken c.in-Some.is c.in_ok-byte-in-Nothing.ensures.taken c.push_reserved.ensures.items
    c.behind-scan.ensures (c.ends_at.ensures.goes_on c.if-ends_at.false) (search (rules, arith)) in
    record {
      consumed = more.0;
      unbroken = more.1;
      stands = more.2;
      short = more.3;
      flushed = search (rules);
      room = search (rules, arith);
    }
