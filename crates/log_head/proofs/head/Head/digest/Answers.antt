use Rattle.std.proofs.Common.{◌≡◌, ◌∙◌, List, ℕ, ap, subst}
use Rattle.std.specs.Prelude.{IfOk}
use Rattle.log_head.specs.Head.{HeadValue, digest_of}
use Rattle.log_head.proofs.Digests.{without_none}
use Rattle.log_head.proofs.head.Head.digest.Goals as goal

pub returns : goal.returns
returns c =
    subst (λ (l : List ℕ). IfOk c.next_ids.result (λ ids. ids.items ≡ l))
    (without_none (digest_of c.self.inside.image) ∙ ap (λ (h : HeadValue). digest_of h.image) c.self.view_is)
    c.next_ids.ensures.ids
