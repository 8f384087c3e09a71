use Rattle.std.proofs.Common.{◌≡◌, ◌+◌, ◌∷◌, ◌++◌, [], ℕ, List, Option, Some, map, take, get_or, sym, subst, ◌∙◌}
use Rattle.std.proofs.lemmas.List.{take_more, take_all}
use Rattle.division.specs.Groups.{grouped}
use Rattle.partition_replay.specs.Replaying.{IsLowest}
use Rattle.partition_replay.proofs.ReplayLemmas.{lowest_done, lowest_more, has_yes, has_no}
use Rattle.partition_replay.proofs.replay.lowest_missing.Goals.{then-not-has_group, else-not-has_group}
use Rattle.partition_replay.proofs.replay.lowest_missing.Goals as goal

pub loop-id-preserved : goal.loop-id-preserved
loop-id-preserved c =
    let ids = c.args.ids.now in
    let gs = map grouped c.args.groups.now in
    let front = take c.loop-id.id-index ids in
    let id = get_or ids c.loop-id.id-index 0 in
    let more : take (c.loop-id.id-index + 1) ids ≡ front ++ id ∷ [] =
    take_more ids c.loop-id.id-index 0 c.loop-id-test.true in
    subst (λ (ns : List ℕ). IsLowest ns gs c.if-not-has_group.lowest) (sym more)
    (elim c.if-not-has_group.branch as (λ _. IsLowest (front ++ id ∷ []) gs c.if-not-has_group.lowest) [
      | then-not-has_group w ↦ subst (λ (low : Option ℕ). IsLowest (front ++ id ∷ []) gs low)
          (sym (w.lowest-is ∙ (λ i. Some (w.lower.ensures i))))
          (lowest_more front gs id c.loop-id.lowest c.loop-id.invariant
          (has_no c.args.groups.now id (sym c.has_group.ensures ∙ w.if-not-has_group.true)))
      | else-not-has_group w ↦ subst (λ (low : Option ℕ). IsLowest (front ++ id ∷ []) gs low) (sym w.lowest-is)
          (lowest_done front gs id c.loop-id.lowest c.loop-id.invariant
          (has_yes c.args.groups.now id (sym c.has_group.ensures ∙ w.if-not-has_group.false)))
    ])

pub returns : goal.returns
returns c =
    subst (λ (ns : List ℕ). IsLowest ns (map grouped c.args.groups.now) c.loop-id.lowest)
    (take_all c.loop-id.id-index c.args.ids.now c.loop-id-test.false) c.loop-id.invariant
