use Rattle.std.proofs.Common.{◌≡◌, ◌==◌, ℕ, List, sym, ◌∙◌, ap, refl, subst}
use Rattle.std.specs.List.{list_any}
use Rattle.division.specs.declared.group.Group.{Group}
use Rattle.entry.specs.Bag.{IsAmong}
use Rattle.partition_replay.specs.Replaying.{Replaying, IsDone}
use Rattle.partition_replay.proofs.ReplayLemmas.{has_yes, has_no}
use Rattle.claims.proofs.Members.{id_yes, id_no}
use Rattle.partition_replay.proofs.replay.Replay.check_place.Goals.{After-has_id, After-has_group}
use Rattle.partition_replay.proofs.replay.Replay.check_place.Goals as goal

-- the test of the list, of the ids that are kept
listed : (c : After-has_id)
    → list_any (λ (id : ℕ). id == c.args.segment) c.self.inside.ids.items ≡ c.has_id.result
listed c =
    sym (c.has_id.ensures ∙ ap (λ (ids : List ℕ). list_any (λ (id : ℕ). id == c.args.segment) ids)
    c.as_slice.ensures.value)

had : (c : After-has_group)
    → list_any (λ (g : Group). g.segment == c.args.segment) c.self.inside.groups.items ≡ c.has_group.result
had c =
    sym (c.has_group.ensures ∙ ap (λ (gs : List Group). list_any (λ (g : Group). g.segment == c.args.segment) gs)
    c.as_slice-2.ensures.value)

pub returns-then-partition-self-clause-err : goal.returns-then-partition-self-clause-err
returns-then-partition-self-clause-err c =
    λ w. c.if-partition-self.true (w.same ∙ ap (λ (r : Replaying). r.partition) (sym c.self.view_is))

pub returns-then-not-has_id-clause-err : goal.returns-then-not-has_id-clause-err
returns-then-not-has_id-clause-err c =
    let a = (goal.at.returns-then-not-has_id-clause-err c).After-has_id in
    λ w. id_no c.self.inside.ids.items c.args.segment (listed a ∙ c.if-not-has_id.true)
    (subst (λ (r : Replaying). IsAmong c.args.segment r.ids) (sym c.self.view_is) w.listed)

pub returns-then-has_group-clause-err : goal.returns-then-has_group-clause-err
returns-then-has_group-clause-err c =
    let a = (goal.at.returns-then-has_group-clause-err c).After-has_id in
    let b = (goal.at.returns-then-has_group-clause-err c).After-has_group in (
      refl,
      record {
        same = c.if-partition-self.false ∙ ap (λ (r : Replaying). r.partition) c.self.view_is;
        listed = subst (λ (r : Replaying). IsAmong c.args.segment r.ids) c.self.view_is
            (id_yes c.self.inside.ids.items c.args.segment (listed a ∙ c.if-not-has_id.false));
      },
      subst (λ (r : Replaying). IsDone r c.args.segment) c.self.view_is
          (has_yes c.self.inside.groups.items c.args.segment (had b ∙ c.if-has_group.true)),
    )

pub returns-clause-ok : goal.returns-clause-ok
returns-clause-ok c =
    let a = (goal.at.returns-clause-ok c).After-has_id in
    let b = (goal.at.returns-clause-ok c).After-has_group in
    record {
      wanted = record {
        same = c.if-partition-self.false ∙ ap (λ (r : Replaying). r.partition) c.self.view_is;
        listed = subst (λ (r : Replaying). IsAmong c.args.segment r.ids) c.self.view_is
            (id_yes c.self.inside.ids.items c.args.segment (listed a ∙ c.if-not-has_id.false));
      };
      new =
          λ done. has_no c.self.inside.groups.items c.args.segment (had b ∙ c.if-has_group.false)
          (subst (λ (r : Replaying). IsDone r c.args.segment) (sym c.self.view_is) done);
    }
