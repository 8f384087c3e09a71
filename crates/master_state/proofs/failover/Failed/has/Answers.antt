use Rattle.std.proofs.Common.{ℕ, List, reverse, ap, ◌∙◌}
use Rattle.std.specs.Prelude.{◌==◌}
use Rattle.std.specs.List.{list_any}
use Rattle.std.proofs.lemmas.List.Sorted.{IsPermutation-reverse, list_any-IsPermutation}
use Rattle.log_head.proofs.Digests.{has_any}
use Rattle.log_head.specs.log_laws.Ids.{has}
use Rattle.master_state.proofs.failover.Failed.has.Goals as goal

pub returns : goal.returns
returns c =
    let items = c.self.inside.backups.items in
    c.contains.ensures.value
    ∙ ap (λ (bs : List ℕ). list_any (λ (y : ℕ). y == c.args.backup) bs) c.as_slice.ensures.value
    ∙ list_any-IsPermutation (λ (y : ℕ). y == c.args.backup) items (reverse items) (IsPermutation-reverse items)
    ∙ has_any (reverse items) c.args.backup
    ∙ ap (λ (bs : List ℕ). has bs c.args.backup) c.self.view_is
