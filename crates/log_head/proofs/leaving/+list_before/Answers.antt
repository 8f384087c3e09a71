use Rattle.std.proofs.Common.{ap, ◌∙◌, arith}
use Rattle.entry.specs.Limits.{ids_in}
use Rattle.entry.proofs.ListLemmas.{all_push}
use Rattle.log_laws.proofs.ListedIds.{ids_push}
use Rattle.log_head.proofs.Waiting.{first_of, behind_rise, behind_less, first_comes, none_comes, listed_behind}
use Rattle.log_head.proofs.leaving.+list_before.Goals as goal

pub list_before-requires : goal.list_before-requires
list_before-requires t c =
    let some = c.in-len1-up.len_at_least in
    let room = c.requires.room in
    let less = behind_less c.args.waits.now some c.requires.rise in
    let len = c.push_reserved.ensures.len in
    let capacity = c.push_reserved.ensures.capacity in
    let measure = c.decreases in
    (omega arith, (omega arith, behind_rise c.args.waits.now some c.requires.rise))

pub returns-in-len1-up-clause-items : goal.returns-in-len1-up-clause-items
returns-in-len1-up-clause-items t c rest =
    first_comes c.args.waits.now c.in-len1-up.len_at_least c.requires.rise c.args.id c.if-first-id.true _ _ _
    (ids_in c.list_before.result.now) rest
    (ap ids_in c.push_reserved.ensures.items ∙ ids_push c.args.segments.now.items (first_of c.args.waits.now))
    (c.list_before.ensures.items rest)

pub returns-in-len1-up-clause-lens : goal.returns-in-len1-up-clause-lens
returns-in-len1-up-clause-lens t c f waits before =
    let both = listed_behind c.args.waits.now c.in-len1-up.len_at_least c.requires.rise f waits in
    c.list_before.ensures.lens f both.1
    (rw c.push_reserved.ensures.items (all_push _ c.args.segments.now.items (first_of c.args.waits.now) before both.0))

pub returns-in_default-2-clause-items : goal.returns-in_default-2-clause-items
returns-in_default-2-clause-items t c rest =
    none_comes c.args.waits.now c.in-len1-up.len_at_least c.requires.rise c.args.id c.if-first-id.false _ rest
