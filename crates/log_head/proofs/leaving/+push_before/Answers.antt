use Rattle.std.proofs.Common.{arith}
use Rattle.entry.specs.Limits.{ids_in}
use Rattle.log_head.proofs.Waiting.{behind_rise, behind_less, first_comes, none_comes}
use Rattle.log_head.proofs.leaving.+push_before.Goals as goal

pub push_before-requires : goal.push_before-requires
push_before-requires t c =
    let some = c.in-len1-up.len_at_least in
    let room = c.requires.room in
    let less = behind_less c.args.waits.now some c.requires.rise in
    let len = c.push_reserved.ensures.len in
    let capacity = c.push_reserved.ensures.capacity in
    let measure = c.decreases in
    (omega arith, (omega arith, behind_rise c.args.waits.now some c.requires.rise))

pub returns-in-len1-up-clause-items : goal.returns-in-len1-up-clause-items
returns-in-len1-up-clause-items t c rest =
    first_comes c.args.waits.now c.in-len1-up.len_at_least c.requires.rise c.args.id c.if-first-id.true _ _ _
    (ids_in c.push_before.result.now) rest
    c.push_reserved.ensures.items (c.push_before.ensures.items rest)

pub returns-in_default-2-clause-items : goal.returns-in_default-2-clause-items
returns-in_default-2-clause-items t c rest =
    none_comes c.args.waits.now c.in-len1-up.len_at_least c.requires.rise c.args.id c.if-first-id.false _ rest
