use Rattle.std.proofs.Common.{rules, ◌≡◌, ◌++◌, ◌∷◌, [], map, List, sym, ◌∙◌, ap, subst}
use Rattle.std.proofs.lemmas.List.{map-append}
use Rattle.division.specs.declared.group.Group.{Group}
use Rattle.division.specs.Groups.{Grouped, grouped, bag_of}
use Rattle.claims.specs.Claims.{claims_of}
use Rattle.entry.specs.declared.key.Key.{Key}
use Rattle.partition_replay.specs.Keeping.{kept_at}
use Rattle.partition_replay.specs.Replaying.{Replaying, IsTakeFault, HasClash}
use Rattle.partition_replay.proofs.ReplayLemmas.{AreToppedBy, reordered, same_tops, tops_more, take_fault, settled_more}
use Rattle.partition_replay.proofs.replay.Replay.take.Goals.{After-put}
use Rattle.partition_replay.proofs.replay.Replay.take.Goals as goal

pub returns-in_err-fresh-clause-fault : goal.returns-in_err-fresh-clause-fault
returns-in_err-fresh-clause-fault c =
    let gs = map grouped c.self.inside.groups.items in
    let refused : IsTakeFault c.args.self.now (grouped c.args.group) c.in_err-fresh.field-0.0 =
    take_fault gs (grouped c.args.group) c.self.inside.kept.entries c.self.invariant c.args.self.now
    c.in_err-fresh.field-0.0 (ap (λ (r : Replaying). r.groups) c.self.view_is) c.in_ok-check_place.ensures.ok
    c.in_err-fresh.ensures.err c.in_err-fresh.ensures.clash in
    search (rules, refused)

-- to make room for more keys changes nothing of any
moved : (c : After-put) → (k : Key) → kept_at c.reserve.new.self.entries k ≡ kept_at c.self.inside.kept.entries k
moved c = reordered c.self.inside.kept.entries c.reserve.new.self.entries c.in_ok-reserve.ensures.entries.2

pub invariant_of-self-in_err-reserve-2 : goal.invariant_of-self-in_err-reserve-2
invariant_of-self-in_err-reserve-2 c =
    let old = c.self.inside.groups.items in
    let same : old ≡ c.reserve-2.new.self.items = sym c.in_err-reserve-2.ensures.items in
    subst (λ (gs : List Group). AreToppedBy (map grouped gs) c.reserve.new.self.entries) same
    (same_tops (claims_of (bag_of (map grouped old))) (kept_at c.self.inside.kept.entries)
    (kept_at c.reserve.new.self.entries)
    (reordered c.self.inside.kept.entries c.reserve.new.self.entries c.in_ok-reserve.ensures.entries.2)
    c.self.invariant)

-- what is kept with the group
kept_more : (c : After-put) → AreToppedBy (map grouped c.self.inside.groups.items ++ grouped c.args.group ∷ [])
    c.put.new.kept.entries
kept_more c =
    tops_more (map grouped c.self.inside.groups.items) (grouped c.args.group) c.self.inside.kept.entries
    c.self.invariant c.in_ok-fresh.fresh.entries c.reserve.new.self.entries c.put.new.kept.entries
    c.in_ok-fresh.ensures.ok (moved c) c.put.ensures

pub invariant_of-self-2 : goal.invariant_of-self-2
invariant_of-self-2 c =
    let a = (goal.at.invariant_of-self-2 c).After-put in
    let old = c.self.inside.groups.items in
    let pushed : map grouped c.push_reserved.new.self.items ≡ map grouped old ++ grouped c.args.group ∷ [] =
    ap (map grouped) (c.push_reserved.ensures.items ∙ ap (λ (gs : List Group). gs ++ c.args.group ∷ [])
    c.in_ok-reserve-2.ensures.items) ∙ map-append grouped old (c.args.group ∷ []) in
    subst (λ (gs : List Grouped). AreToppedBy gs c.put.new.kept.entries) (sym pushed) (kept_more a)

pub returns-clause-sound : goal.returns-clause-sound
returns-clause-sound c =
    let a = (goal.at.returns-clause-sound c).After-put in
    record {
      placed = c.in_ok-check_place.ensures.ok;
      passed =
          subst (λ (r : Replaying). HasClash r (grouped c.args.group) → ⊥) c.self.view_is
          (c.in_ok-fresh.ensures.passed (bag_of (map grouped c.self.inside.groups.items)) c.self.invariant);
      settled =
          settled_more c.args.self.now (grouped c.args.group) c.put.new.kept.entries
          (subst (λ (r : Replaying). AreToppedBy (r.groups ++ grouped c.args.group ∷ []) c.put.new.kept.entries)
          c.self.view_is (kept_more a));
    }
