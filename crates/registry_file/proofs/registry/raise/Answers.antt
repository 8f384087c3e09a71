use Rattle.std.proofs.Common.{◌<◌, List, length, sym, ◌∙◌, ap, arith, rules, Vec}
use Rattle.std.specs.declared.alloc.Global.{Global}
use Rattle.registry_file.specs.Kept.{least_in, raised_at}
use Rattle.registry_file.specs.declared.registry.LeastHead.{LeastHead}
use Rattle.registry_file.proofs.Lists.{least_changed, least_kept, least_pushed}
use Rattle.registry_file.proofs.registry.raise.Goals as goal

pub returns-then-listed-least-2 : goal.returns-then-listed-least-2
returns-then-listed-least-2 c =
    let xs = c.loop-i.leasts.items in
    let x = c.args.least in
    let d = c.index-listed.result.now in
    let is = sym c.index-listed.ensures in
    let lt : c.loop-i.i < length xs = search rules in
    let less = c.if-listed-least-2.true in
    let head = ap (λ (y : LeastHead). y.head) is in
    least_changed xs c.loop-i.i x d lt (ap (λ (y : LeastHead). y.master) is ∙ c.if-listed-least.true)
    (omega (arith, less, head))
    ∙ ap (λ (v : Vec LeastHead Global). raised_at (least_in v.items) x.master x.head) c.loop-i.invariant

pub returns-else-listed-least-2 : goal.returns-else-listed-least-2
returns-else-listed-least-2 c =
    let xs = c.loop-i.leasts.items in
    let x = c.args.least in
    let lt : c.loop-i.i < length xs = search rules in
    least_kept xs c.loop-i.i c.index-listed.result.now x.master x.head lt c.index-listed.ensures
    c.if-listed-least.true c.if-listed-least-2.false
    ∙ ap (λ (v : Vec LeastHead Global). raised_at (least_in v.items) x.master x.head) c.loop-i.invariant

pub returns : goal.returns
returns c =
    let x = c.args.least in
    ap (λ (l : List LeastHead). least_in l) c.push_reserved.ensures.items
    ∙ least_pushed c.loop-i.leasts.items x
    ∙ ap (λ (v : Vec LeastHead Global). raised_at (least_in v.items) x.master x.head) c.loop-i.invariant
