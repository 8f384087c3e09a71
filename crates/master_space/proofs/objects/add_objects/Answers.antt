use Rattle.std.proofs.Common.{◌≤◌, ◌+◌, ◌++◌, ◌∷◌, [], List, length, map, sym, ap, subst, ◌∙◌, arith}
use Rattle.std.specs.Prelude.{Option}
use Rattle.std.specs.Option.{option_map, option_to_list}
use Rattle.std.proofs.lemmas.List.{append-nil, map-append}
use Rattle.entry.specs.declared.entry.Object.{Object}
use Rattle.entry.specs.declared.view.ObjectRef.{ObjectRef}
use Rattle.entry.specs.View.{shown, shown_object}
use Rattle.compactor.proofs.Cutting.{cut_length}
use Rattle.compactor.proofs.Walking.{here_of, not_unread, cut_behind}
use Rattle.master_space.proofs.ObjectWalk.{IsListed, IsListed-next, IsListed-end}
use Rattle.master_space.proofs.objects.add_objects.Goals.{in-Some+in_ok-reserve, in_default-object_in}
use Rattle.master_space.proofs.objects.add_objects.Goals as goal

pub unreachable-requires : goal.unreachable-requires
unreachable-requires c =
    let s = c.loop-at.invariant.listed in
    not_unread c.args.segment.now c.bytes-text.result.now c.bytes-text.ensures.text c.bytes-text.ensures.valid.each
    s.before s.rest c.loop-at.at s.cut c.loop-at-test.true c.in_default.ensures.complete

pub loop-at-preserved : goal.loop-at-preserved
loop-at-preserved c =
    let s = c.loop-at.invariant.listed in
    let at = c.loop-at.at in
    let objects = c.loop-at.objects.items in
    let n = c.in-Ok.taken in
    let e = shown c.in-Ok.entry in
    let held = c.args.index.now.held in
    let id = c.args.id in
    let es = c.args.segment.now in
    let old = map shown_object c.args.objects.now.items in
    let text = c.bytes-text.result.now in
    let found = option_to_list (option_map shown_object c.object_in.result) in
    let here =
    here_of es text c.bytes-text.ensures.text c.bytes-text.ensures.valid.each s.before s.rest at s.cut
    c.loop-at-test.true e n c.in-Ok.ensures.complete in
    let below : at + n ≤ length text =
    omega (
      arith,
      cut_length es (s.before ++ e ∷ []) here.later (at + n)
          (cut_behind [] held id es s.before here.later e at n here.cut here.size),
      ap length c.bytes-text.ensures.text,
    ) in
    let next =
    IsListed-next held c.args.table id es old at (map shown_object objects) s e n here found c.object_in.ensures in
    elim c.match-object_in.branch as (λ _. record {
      listed : IsListed held c.args.table id es old (at + n) (map shown_object c.match-object_in.objects.items);
      within : at + n ≤ length text;
    }) [
      | in-Some+in_ok-reserve w ↦ rw w.objects-is (record {
        listed = subst (λ (l : List Object). IsListed held c.args.table id es old (at + n) l)
            (ap (λ (x : Option ObjectRef). map shown_object objects ++ option_to_list (option_map shown_object x))
            w.in-Some.is
            ∙ sym (map-append shown_object objects (w.in-Some.object ∷ []))
            ∙ ap (λ (rs : List ObjectRef). map shown_object (rs ++ w.in-Some.object ∷ [])) (sym w.reserve.ensures.items)
            ∙ ap (map shown_object) (sym w.push_reserved.ensures.items)) next;
        within = below;
      })
      | in_default-object_in w ↦ rw w.objects-is (record {
        listed = subst (λ (l : List Object). IsListed held c.args.table id es old (at + n) l)
            (ap (λ (x : Option ObjectRef). map shown_object objects ++ option_to_list (option_map shown_object x))
            w.in_default-object_in.is
            ∙ append-nil (map shown_object objects)) next;
        within = below;
      })
    ]

pub returns : goal.returns
returns c =
    IsListed-end c.args.index.now.held c.args.table c.args.id c.args.segment.now
    (map shown_object c.args.objects.now.items) c.loop-at.at (map shown_object c.loop-at.objects.items)
    c.loop-at.invariant.listed (rw (← c.bytes-text.ensures.text) (omega (arith, c.loop-at-test.false)))
