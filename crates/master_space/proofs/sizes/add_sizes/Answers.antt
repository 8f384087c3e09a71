use Rattle.std.proofs.Common.{◌≤◌, ◌+◌, ◌++◌, ◌∷◌, [], List, length, sym, ap, subst, ◌∙◌, arith}
use Rattle.std.specs.Prelude.{Option}
use Rattle.std.specs.Option.{option_to_list}
use Rattle.std.proofs.lemmas.List.{append-nil}
use Rattle.entry.specs.declared.tablet.Size.{Size}
use Rattle.entry.specs.View.{shown}
use Rattle.compactor.proofs.Cutting.{cut_length}
use Rattle.compactor.proofs.Walking.{here_of, not_unread, cut_behind}
use Rattle.master_space.proofs.SizeWalk.{IsListed, IsListed-next, IsListed-end}
use Rattle.master_space.proofs.sizes.add_sizes.Goals.{in-Some+in_ok-push, in_default-live_size}
use Rattle.master_space.proofs.sizes.add_sizes.Goals as goal

pub unreachable-requires : goal.unreachable-requires
unreachable-requires c =
    let s = c.loop-at.invariant.listed in
    not_unread c.args.segment.now c.bytes-text.result.now c.bytes-text.ensures.text c.bytes-text.ensures.valid.each
    s.before s.rest c.loop-at.at s.cut c.loop-at-test.true c.in_default.ensures.complete

pub loop-at-preserved : goal.loop-at-preserved
loop-at-preserved c =
    let s = c.loop-at.invariant.listed in
    let at = c.loop-at.at in
    let sizes = c.loop-at.sizes.items in
    let n = c.in-Ok.taken in
    let e = shown c.in-Ok.entry in
    let held = c.args.index.now.held in
    let id = c.args.id in
    let es = c.args.segment.now in
    let old = c.args.sizes.now.items in
    let text = c.bytes-text.result.now in
    let here =
    here_of es text c.bytes-text.ensures.text c.bytes-text.ensures.valid.each s.before s.rest at s.cut
    c.loop-at-test.true e n c.in-Ok.ensures.complete in
    let below : at + n ≤ length text =
    omega (
      arith,
      cut_length es (s.before ++ e ∷ []) here.later (at + n)
          (cut_behind [] held id es s.before here.later e at n here.cut here.size),
      ap length c.bytes-text.ensures.text,
    ) in
    let next = IsListed-next held id es old at sizes s e n here c.live_size.result c.live_size.ensures in
    elim c.match-live_size.branch as (λ _. record {
      listed : IsListed held id es old (at + n) c.match-live_size.sizes.items;
      within : at + n ≤ length text;
    }) [
      | in-Some+in_ok-push w ↦ rw w.sizes-is (record {
        listed = subst (λ (l : List Size). IsListed held id es old (at + n) l)
            (ap (λ (x : Option Size). sizes ++ option_to_list x) w.in-Some.is ∙ sym w.in_ok-push.ensures.items) next;
        within = below;
      })
      | in_default-live_size w ↦ rw w.sizes-is (record {
        listed = subst (λ (l : List Size). IsListed held id es old (at + n) l)
            (ap (λ (x : Option Size). sizes ++ option_to_list x) w.in_default-live_size.is ∙ append-nil sizes) next;
        within = below;
      })
    ]

pub returns : goal.returns
returns c =
    IsListed-end c.args.index.now.held c.args.id c.args.segment.now c.args.sizes.now.items c.loop-at.at
    c.loop-at.sizes.items
    c.loop-at.invariant.listed (rw (← c.bytes-text.ensures.text) (omega (arith, c.loop-at-test.false)))
