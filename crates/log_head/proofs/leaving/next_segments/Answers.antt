use Rattle.std.proofs.Common.{◌≡◌, ℕ, List, length, sym, ap, subst, ◌∙◌, arith}
use Rattle.std.specs.Prelude.{Option, IsSomeAnd}
use Rattle.entry.specs.Bag.{IsAmong}
use Rattle.entry.specs.Limits.{ids_in}
use Rattle.entry.specs.Text.{listed_ids, listed_len}
use Rattle.entry.specs.View.{shown_digest, shown_ids}
use Rattle.entry.proofs.LengthLemmas.{length-ids_in}
use Rattle.log_laws.specs.Ids.{all_inserted, without}
use Rattle.log_head.specs.Head.{digest_in}
use Rattle.log_head.specs.Steps.{IsLen}
use Rattle.log_head.proofs.Digests.{digest_some, waits_fits, pushed_fits, pushed_all, id_fits}
use Rattle.log_head.proofs.Listing.{listing_begins, listing_victim, listing_other, len_is, own_fits, is_left}
use Rattle.log_head.proofs.Listing.{listed_fits, text_len, ids_all, listed_all}
use Rattle.log_head.proofs.leaving.next_segments.Goals as goal

pub loop-place-init : goal.loop-place-init
loop-place-init c =
    let left = c.count_left-left.ensures.left in
    let room = c.in_ok-segments.ensures.capacity in
    listing_begins _ _ _ _ _ _ _ c.in_ok-segments.ensures.items c.requires.survivors (omega arith)

pub loop-place-preserved-then-is_victim : goal.loop-place-preserved-then-is_victim
loop-place-preserved-then-is_victim c =
    listing_victim _ _ _ _ _ _ _ _ _ c.loop-place.invariant c.id-segment.result c.id-segment.ensures
    (sym c.is_victim.ensures ∙ c.if-is_victim.true)

pub list_before-waits-requires-clause-room : goal.list_before-waits-requires-clause-room
list_before-waits-requires-clause-room c =
    let fits = waits_fits _ _ _ _ _ _ _ c.loop-place.invariant.pushed in
    let waits = length-ids_in c.loop-place.waits.now in
    let size = length-ids_in c.loop-place.segments.items in omega arith

pub list_before-waits-requires-clause-rise : goal.list_before-waits-requires-clause-rise
list_before-waits-requires-clause-rise c = c.loop-place.invariant.pushed.rise

pub push_reserved-requires : goal.push_reserved-requires
push_reserved-requires c =
    let other = sym c.is_victim.ensures ∙ c.if-is_victim.false in
    let fits = id_fits _ _ _ _ _ _ _ c.loop-place.invariant.pushed c.id-segment.result c.id-segment.ensures other
    (ids_in c.list_before-waits.new.segments.items) (ids_in c.list_before-waits.result.now)
    c.list_before-waits.ensures.items in
    let size = length-ids_in c.list_before-waits.new.segments.items in
    let capacity = c.list_before-waits.ensures.capacity in
    omega arith

pub loop-place-preserved : goal.loop-place-preserved
loop-place-preserved c =
    let other = sym c.is_victim.ensures ∙ c.if-is_victim.false in
    let d = c.in-Some.digest in
    let bears : digest_in c.args.image.now ≡ shown_digest d =
    sym (ap digest_in c.view.ensures) ∙ digest_some _ (shown_digest d) c.in-Some.ensures in
    let listed : c.len.result ≡ listed_len c.id-segment.result (shown_digest d) =
    subst (λ (o : Option ℕ). IsSomeAnd o (λ id. c.len.result ≡ listed_len id (shown_digest d))) c.id-segment.ensures
    c.len.ensures in
    let own : IsLen c.bytes_len-whole.result =
    subst IsLen (sym c.bytes_len-whole.ensures) (text_len c.args.image.now c.requires.segment c.requires.limit) in
    let left = is_left _ _ _ c.id-segment.result c.id-segment.ensures other in
    listing_other _ _ _ _ _ _ _ _ _ c.loop-place.invariant c.id-segment.result c.len_of-len.result
    c.id-segment.ensures other c.list_before-waits.new.segments.items _ c.list_before-waits.result.now
    c.list_before-waits.ensures.items c.list_before-waits.ensures.rise
    (c.list_before-waits.ensures.lens _ c.loop-place.invariant.waiting c.loop-place.invariant.listed)
    c.push_reserved.ensures.items c.id-segment.type_inv
    (subst IsLen (sym c.len_of-len.ensures) (own_fits c.id-segment.result c.args.old _ c.len.result own
    (λ n some. listed_fits d.has_lengths d.count d.text.now d.lengths c.id-segment.result n (sym listed ∙ some))))
    (c.len_of-len.ensures ∙ len_is _ _ c.args.leaving.survivors.now _ _ (shown_digest d) _
    (λ m. c.requires.outside c.id-segment.result m
    (subst (λ (ids : List ℕ). IsAmong c.id-segment.result (without c.args.leaving.victims.now ids))
    (sym (ap listed_ids bears)) left))
    bears c.bytes_len-whole.ensures listed)
    _ (c.push_reserved.ensures.capacity ∙ c.list_before-waits.ensures.capacity)

pub list_all-requires : goal.list_all-requires
list_all-requires c =
    let fits = waits_fits _ _ _ _ _ _ _ c.loop-place.invariant.pushed in
    let waits = length-ids_in c.loop-place.waits.now in
    let size = length-ids_in c.loop-place.segments.items in omega arith

pub returns-clause-ids : goal.returns-clause-ids
returns-clause-ids c =
    let end = c.loop-place-test.false in
    let count = c.count-listed.ensures in
    let in_force : shown_ids c.in-Some.digest ≡ listed_ids (digest_in c.args.image.now) =
    ap listed_ids (sym (digest_some _ (shown_digest c.in-Some.digest) c.in-Some.ensures)
    ∙ ap digest_in c.view.ensures) in
    ids_all _ _ _ c.list_all.ensures.items
    ∙ pushed_all _ _ _ _ _ _ _ c.loop-place.invariant.pushed (omega arith)
    ∙ ap (λ (l : List ℕ). all_inserted (ids_in c.args.leaving.survivors.now)
    (without c.args.leaving.victims.now l)) in_force

pub returns-clause-lens : goal.returns-clause-lens
returns-clause-lens c =
    listed_all _ _ _ _ c.list_all.ensures.items c.loop-place.invariant.listed c.loop-place.invariant.waiting

pub returns-clause-room : goal.returns-clause-room
returns-clause-room c =
    let fits = pushed_fits _ _ _ _ _ _ _ c.loop-place.invariant.pushed in
    let same = ap length (ids_all c.loop-place.segments.items c.loop-place.waits.now c.list_all.new.segments.items
    c.list_all.ensures.items) in
    let size = length-ids_in c.list_all.new.segments.items in
    let capacity = c.list_all.ensures.capacity in
    omega arith
