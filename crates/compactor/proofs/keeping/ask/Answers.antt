use Rattle.std.proofs.Common.{◌≡◌, ◌+◌, ◌≤◌, ap, arith, if◌then◌else◌}
use Rattle.places.specs.Relocation.{holds}
use Rattle.compactor.specs.Asked.{asked_of, asked_bytes, held_bytes}
use Rattle.compactor.proofs.Asking.{asked_append, held_append}
use Rattle.compactor.proofs.keeping.ask.Goals.{then-is_full, else-is_full}
use Rattle.compactor.proofs.keeping.ask.Goals as goal

pub returns-clause-sum : goal.returns-clause-sum
returns-clause-sum c =
    let held = c.args.index.now.held in
    let id = c.args.id in
    let one = c.args.one in
    let pushed = ap (held_bytes held id) c.push.ensures.items in
    let more = held_append held id c.if-is_full.asked.items one in
    elim c.if-is_full.branch as (λ _. c.if-is_full.len + held_bytes held id c.push.new.self.items
    ≡ held_bytes held id c.args.asked.now.items + (if holds held (asked_of id one) then one.len else 0)) [
      | then-is_full w ↦ omega (
        arith,
        pushed,
        more,
        w.len-is,
        ap (λ v. held_bytes held id v.items) w.asked-is,
        ap (held_bytes held id) w.clear.ensures,
        w.held_bytes-len.ensures.sum,
        ap (held_bytes held id) w.as_slice.ensures.value,
      )
      | else-is_full w ↦ omega (arith, pushed, more, w.len-is, ap (λ v. held_bytes held id v.items) w.asked-is)
    ]

pub returns-clause-limit : goal.returns-clause-limit
returns-clause-limit c =
    let one = c.args.one in
    let pushed = ap asked_bytes c.push.ensures.items in
    let more = asked_append c.if-is_full.asked.items one in
    elim c.if-is_full.branch as (λ _. c.if-is_full.len + asked_bytes c.push.new.self.items
    ≤ asked_bytes c.args.asked.now.items + one.len) [
      | then-is_full w ↦ omega (
        arith,
        pushed,
        more,
        w.len-is,
        ap (λ v. asked_bytes v.items) w.asked-is,
        ap asked_bytes w.clear.ensures,
        w.held_bytes-len.ensures.limit,
        ap asked_bytes w.as_slice.ensures.value,
      )
      | else-is_full w ↦ omega (arith, pushed, more, w.len-is, ap (λ v. asked_bytes v.items) w.asked-is)
    ]
