use Rattle.std.proofs.Common.{◌≡◌, ◌+◌, ◌++◌, ◌∷◌, [], ℕ, List, length, vec_capacity, sym, ap, subst, ◌∙◌, arith}
use Rattle.entry.specs.Limits.{ids_in}
use Rattle.entry.specs.Text.{listed_ids}
use Rattle.entry.specs.View.{shown_digest, shown_ids}
use Rattle.entry.proofs.LengthLemmas.{length-ids_in}
use Rattle.log_laws.specs.Ids.{all_inserted, without}
use Rattle.log_head.specs.Head.{digest_of}
use Rattle.log_head.proofs.Digests.{IsPushed, waits_fits, pushed_fits, pushed_all, pushed_victim, id_fits, pushed_other}
use Rattle.log_head.proofs.Digests.{pushed_begins, digest_some, digest_none, alone}
use Rattle.log_head.proofs.leaving.next_ids.Goals as goal

pub returns-in_default-clause-ids : goal.returns-in_default-clause-ids
returns-in_default-clause-ids c =
    let none : digest_of c.args.image.now ≡ [] =
    sym (ap digest_of c.view.ensures) ∙ ap listed_ids (digest_none _ c.in_default.ensures) in
    c.push_all.ensures.items
    ∙ ap (λ (l : List ℕ). l ++ ids_in c.args.leaving.survivors.now) c.in_ok-ids.ensures.items
    ∙ sym (alone (ids_in c.args.leaving.survivors.now) c.requires.rise)
    ∙ ap (λ (l : List ℕ). all_inserted (ids_in c.args.leaving.survivors.now)
    (without c.args.leaving.victims.now l)) (sym none)

pub loop-place-init : goal.loop-place-init
loop-place-init c =
    let left = c.count_left-left.ensures.left in
    let room = c.in_ok-ids-2.ensures.capacity in
    let size = length-ids_in c.args.leaving.survivors.now in
    pushed_begins _ _ _ _ _ c.in_ok-ids-2.ensures.items c.requires.rise (omega arith)

pub loop-place-preserved-then-is_victim : goal.loop-place-preserved-then-is_victim
loop-place-preserved-then-is_victim c =
    pushed_victim _ _ _ _ _ _ _ c.loop-place.invariant c.id-id.result c.id-id.ensures
    (sym c.is_victim.ensures ∙ c.if-is_victim.true)

pub push_before-waits-requires-clause-room : goal.push_before-waits-requires-clause-room
push_before-waits-requires-clause-room c =
    let fits = waits_fits _ _ _ _ _ _ _ c.loop-place.invariant in
    let size = length-ids_in c.loop-place.waits.now in omega arith

pub push_before-waits-requires-clause-rise : goal.push_before-waits-requires-clause-rise
push_before-waits-requires-clause-rise c = c.loop-place.invariant.rise

pub push_reserved-requires : goal.push_reserved-requires
push_reserved-requires c =
    let other = sym c.is_victim.ensures ∙ c.if-is_victim.false in
    let fits = id_fits _ _ _ _ _ _ _ c.loop-place.invariant c.id-id.result c.id-id.ensures other
    c.push_before-waits.new.ids.items (ids_in c.push_before-waits.result.now) c.push_before-waits.ensures.items in
    let capacity = c.push_before-waits.ensures.capacity in
    omega arith

pub loop-place-preserved : goal.loop-place-preserved
loop-place-preserved c =
    let other = sym c.is_victim.ensures ∙ c.if-is_victim.false in
    let waits = ids_in c.push_before-waits.result.now in
    let step = pushed_other _ _ _ _ _ _ _ c.loop-place.invariant c.id-id.result c.id-id.ensures other
    c.push_before-waits.new.ids.items waits c.push_before-waits.ensures.items c.push_before-waits.ensures.rise in
    let same = c.push_reserved.ensures.capacity ∙ c.push_before-waits.ensures.capacity in
    subst (λ (xs : List ℕ). IsPushed c.args.leaving.victims.now (shown_ids c.in-Some.digest)
    (ids_in c.args.leaving.survivors.now) xs waits (c.loop-place.place + 1) (vec_capacity c.push_reserved.new.self))
    (sym c.push_reserved.ensures.items)
    (subst (λ (n : ℕ). IsPushed c.args.leaving.victims.now (shown_ids c.in-Some.digest)
    (ids_in c.args.leaving.survivors.now) (c.push_before-waits.new.ids.items ++ c.id-id.result ∷ []) waits
    (c.loop-place.place + 1) n) (sym same) step)

pub push_all-requires-2 : goal.push_all-requires-2
push_all-requires-2 c =
    let fits = waits_fits _ _ _ _ _ _ _ c.loop-place.invariant in
    let size = length-ids_in c.loop-place.waits.now in omega arith

pub returns-clause-ids : goal.returns-clause-ids
returns-clause-ids c =
    let end = c.loop-place-test.false in
    let count = c.count-count.ensures in
    let in_force : shown_ids c.in-Some.digest ≡ digest_of c.args.image.now =
    ap listed_ids (sym (digest_some _ (shown_digest c.in-Some.digest) c.in-Some.ensures))
    ∙ ap digest_of c.view.ensures in
    c.push_all-2.ensures.items
    ∙ pushed_all _ _ _ _ _ _ _ c.loop-place.invariant (omega arith)
    ∙ ap (λ (l : List ℕ). all_inserted (ids_in c.args.leaving.survivors.now)
    (without c.args.leaving.victims.now l)) in_force

pub returns-clause-room : goal.returns-clause-room
returns-clause-room c =
    let fits = pushed_fits _ _ _ _ _ _ _ c.loop-place.invariant in
    let size = ap length c.push_all-2.ensures.items in
    let capacity = c.push_all-2.ensures.capacity in
    omega arith
