use Rattle.std.proofs.Common.{◌≡◌, length, ◌∙◌, arith}
use Rattle.entry.specs.View.{shown_object}
use Rattle.object_list.proofs.ObjectTexts.{objects_more, listed_more, count_within}
use Rattle.object_list.proofs.list.ObjectList.push.Goals as goal

pub overflow_add-self : goal.overflow_add-self
overflow_add-self c =
    let text = c.self.inside.text in
    let few = count_within text.items c.self.inside.count c.self.inside.last c.self.invariant in
    omega (arith, few, text.ok.0, text.ok.1, text.small)

pub invariant_of-self-2 : goal.invariant_of-self-2
invariant_of-self-2 c =
    let text = c.self.inside.text in
    let at : c.len-at.result ≡ length text.items = c.len-at.ensures ∙ text.ok.0 in
    listed_more text.items c.write.new.out.items (shown_object c.args.object.now) c.self.invariant.spelled
    c.spelled_len.ensures.valid c.in_ok-write.ensures.ok c.self.inside.count c.self.inside.last c.len-at.result
    c.self.invariant at

pub returns-clause-ok : goal.returns-clause-ok
returns-clause-ok c =
    rw (← c.self.view_is) (objects_more c.self.inside.text.items c.write.new.out.items (shown_object c.args.object.now)
    c.self.invariant.spelled c.spelled_len.ensures.valid c.in_ok-write.ensures.ok)
