use Rattle.std.proofs.Common.{◌≡◌, ◌∷◌, [], true, List, ℕ, length, ◌∙◌, sym, ap, subst, arith}
use Rattle.std.proofs.lemmas.List.{length-append}
use Rattle.entry.specs.Text.{ends_with, listed_ids}
use Rattle.log_laws.proofs.ListedIds.{ids_digest}
use Rattle.log_head.specs.Steps.{others_after}
use Rattle.log_head.proofs.Rolls.{ends_with_push}
use Rattle.log_head.proofs.rolling.next_image.Goals as goal

pub begin_head-requires-clause-last : goal.begin_head-requires-clause-last
begin_head-requires-clause-last c =
    subst (λ (ids : List ℕ). ends_with c.args.id ids ≡ true)
    (sym (ap listed_ids c.in_ok-digest.ensures ∙ ids_digest _ _ c.args.id))
    (ends_with_push (others_after c.args.image.now c.args.leaving) c.args.id)

pub begin_head-requires-clause-count : goal.begin_head-requires-clause-count
begin_head-requires-clause-count c =
    let same = ap length (ap listed_ids c.in_ok-digest.ensures ∙ ids_digest _ _ c.args.id) in
    let size = length-append (others_after c.args.image.now c.args.leaving) (c.args.id ∷ []) in
    let few = c.requires.count in
    omega arith
