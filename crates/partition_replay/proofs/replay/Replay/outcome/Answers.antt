use Rattle.std.proofs.Common.{rules, ◌≡◌, ap, map, max, subst, sym, ◌∙◌, None, false}
use Rattle.std.specs.Prelude.{List, ℕ}
use Rattle.entry.specs.Bag.{IsAmong}
use Rattle.division.specs.declared.group.Group.{Group}
use Rattle.division.specs.Groups.{Grouped, grouped, bag_of}
use Rattle.claims.specs.declared.claim.Claim.{Claim}
use Rattle.claims.specs.Claims.{Claimed, claimed, bound_of_claims, has_clash, objects_in, tops}
use Rattle.claims.proofs.Bounds.{one_less}
use Rattle.claims.proofs.ClaimOrder.{Rises, Rises-from_sorted}
use Rattle.partition_replay.specs.Keeping.{kept_at, IsKept}
use Rattle.partition_replay.specs.Replaying.{Replaying, IsLowest, IsFinishFault}
use Rattle.partition_replay.proofs.Meant.{unclashed}
use Rattle.partition_replay.proofs.ReplayLemmas.{replayed, live_only, live_each, unfinished}
use Rattle.partition_replay.proofs.replay.Replay.outcome.Goals.{After-as_slice-4}
use Rattle.partition_replay.proofs.replay.Replay.outcome.Goals as goal

rises : (c : After-as_slice-4) → Rises (map claimed c.sort_unstable.new.self.items)
rises c = Rises-from_sorted claimed c.sort_unstable.new.self.items c.sort_unstable.ensures.sorted

only : (c : After-as_slice-4) (d : Claimed) → IsAmong d (map claimed c.sort_unstable.new.self.items)
    → IsKept (kept_at c.self.inside.kept.entries) d
only c =
    live_only (kept_at c.self.inside.kept.entries) c.in_ok-claims.claims.items c.drop_dead.new.claims.items
    c.sort_unstable.new.self.items c.drop_dead.ensures c.sort_unstable.ensures.permutation
    c.in_ok-claims.ensures.only c.in_ok-claims.ensures.each

each : (c : After-as_slice-4) (d : Claimed) → IsKept (kept_at c.self.inside.kept.entries) d → d.dead ≡ false
    → IsAmong d (map claimed c.sort_unstable.new.self.items)
each c =
    live_each (kept_at c.self.inside.kept.entries) c.in_ok-claims.claims.items c.drop_dead.new.claims.items
    c.sort_unstable.new.self.items c.drop_dead.ensures c.sort_unstable.ensures.permutation
    c.in_ok-claims.ensures.only c.in_ok-claims.ensures.each

-- once no group is missing
none_missing : (seen ids : List ℕ) (shown gs : List Group) (r : Replaying) → seen ≡ ids → shown ≡ gs
    → r.ids ≡ ids → r.groups ≡ map grouped gs → IsLowest seen (map grouped shown) None → IsLowest r.ids r.groups None
none_missing seen ids shown gs r same alike listed taken h =
    subst (λ (ns : List ℕ). IsLowest ns r.groups None) (same ∙ sym listed)
    (subst (λ (hs : List Grouped). IsLowest seen hs None) (ap (map grouped) alike ∙ sym taken) h)

pub returns-in_err-claims-clause-fault : goal.returns-in_err-claims-clause-fault
returns-in_err-claims-clause-fault c =
    let whole : IsLowest c.args.self.now.ids c.args.self.now.groups None =
    none_missing c.as_slice.result.now _ c.as_slice-2.result.now _ c.args.self.now c.as_slice.ensures.value
    c.as_slice-2.ensures.value (ap (λ (r : Replaying). r.ids) (sym c.self.view_is))
    (ap (λ (r : Replaying). r.groups) (sym c.self.view_is)) c.in_default.ensures in
    search (rules, whole)

pub returns-in_err-objects-clause-fault : goal.returns-in_err-objects-clause-fault
returns-in_err-objects-clause-fault c =
    let a = (goal.at.returns-in_err-objects-clause-fault c).After-as_slice-4 in
    let inside = c.self.inside in
    let clean : has_clash (map claimed c.as_slice-4.result.now) ≡ false =
    ap (λ (cs : List Claim). has_clash (map claimed cs)) c.as_slice-4.ensures.value
    ∙ unclashed (bag_of (map grouped inside.groups.items)) (kept_at inside.kept.entries) c.self.invariant
    (map claimed c.sort_unstable.new.self.items) (rises a) (only a) (each a) in
    let whole : IsLowest c.args.self.now.ids c.args.self.now.groups None =
    none_missing c.as_slice.result.now _ c.as_slice-2.result.now _ c.args.self.now c.as_slice.ensures.value
    c.as_slice-2.ensures.value (ap (λ (r : Replaying). r.ids) (sym c.self.view_is))
    (ap (λ (r : Replaying). r.groups) (sym c.self.view_is)) c.in_default.ensures in
    let refused : IsFinishFault c.args.self.now c.in_err-objects.field-0.0 =
    unfinished c.args.self.now (map claimed c.as_slice-4.result.now) c.in_err-objects.field-0.0 whole clean
    c.in_err-objects.ensures.err in
    search (rules, refused)

pub returns-clause-ok : goal.returns-clause-ok
returns-clause-ok c =
    let a = (goal.at.returns-clause-ok c).After-as_slice-4 in
    let inside = c.self.inside in
    let all = c.in_ok-claims.claims.items in
    let sorted = c.sort_unstable.new.self.items in
    let whole : IsLowest inside.ids.items (map grouped inside.groups.items) None =
    subst (λ (ids : List ℕ). IsLowest ids (map grouped inside.groups.items) None) c.as_slice.ensures.value
    (subst (λ (gs : List Group). IsLowest c.as_slice.result.now (map grouped gs) None) c.as_slice-2.ensures.value
    c.in_default.ensures) in
    let listed = c.in_ok-objects.ensures.objects
    ∙ ap (λ (cs : List Claim). objects_in (tops (map claimed cs))) c.as_slice-4.ensures.value in
    let greatest : c.get-greatest.result ≡ max 1 (bound_of_claims (map claimed all)) =
    c.get-greatest.ensures.value ∙ c.safe_above.ensures
    ∙ ap (λ n. max n (bound_of_claims (map claimed c.as_slice-3.result.now))) c.first.ensures
    ∙ ap (λ (cs : List Claim). max 1 (bound_of_claims (map claimed cs))) c.as_slice-3.ensures.value in
    rw (← c.self.view_is)
    (replayed inside.partition inside.ids.items (map grouped inside.groups.items) inside.kept.entries
    (map claimed all) (map claimed sorted) _ c.self.invariant whole (rises a) c.in_ok-claims.ensures.only
    c.in_ok-claims.ensures.each (only a) (each a) listed c.in_ok-objects.ensures.valid
    (one_less _ _ greatest))
