use Rattle.std.proofs.Common.{◌≡◌, ◌≤◌, ℕ, length, sym, ap, ◌∙◌, arith}
use Rattle.std.specs.Prelude.{is_some}
use Rattle.std.proofs.lemmas.Option.{slice_get_within}
use Rattle.log_head.specs.Head.{HeadValue, is_up_to, record_at}
use Rattle.log_head.specs.declared.next.Next.TheVariants.{Extend}
use Rattle.log_head.proofs.Heads.{is_some_then, lacks_none, lagging_has}
use Rattle.log_head.proofs.head.Head.next_for.Goals as goal

pub returns-in_err-replica-clause-lacks : goal.returns-in_err-replica-clause-lacks
returns-in_err-replica-clause-lacks c =
    let h = c.args.self.now in
    let taken : length c.self.inside.taken.items ≡ length h.taken =
    ap (λ (x : HeadValue). length x.taken) c.self.view_is in
    let replicas : c.self.inside.replicas ≡ h.replicas = ap (λ (x : HeadValue). x.replicas) c.self.view_is in
    let opened : h.replicas ≤ length h.taken = omega arith in
    ap is_some c.from_residual.ensures ∙ sym (lacks_none h opened c.in_err-replica.ensures c.args.number)

pub units_of-requires : goal.units_of-requires
units_of-requires c =
    let least = c.in_ok-replica.ensures in
    slice_get_within c.args.self.now.taken c.in_ok-replica.replica least.0 least.1

pub returns-clause-lacks : goal.returns-clause-lacks
returns-clause-lacks c =
    let h = c.args.self.now in
    let taken : length c.self.inside.taken.items ≡ length h.taken =
    ap (λ (x : HeadValue). length x.taken) c.self.view_is in
    let replicas : c.self.inside.replicas ≡ h.replicas = ap (λ (x : HeadValue). x.replicas) c.self.view_is in
    let opened : h.replicas ≤ length h.taken = omega arith in
    let has = lagging_has h opened c.in_ok-replica.replica c.units_of.result c.in_ok-replica.ensures
    c.units_of.ensures.units in
    ap is_some c.then_some-2.ensures
    ∙ is_some_then c.has_unit_to-is_lacking-2.result (Extend c.in_ok-replica.replica)
    ∙ c.has_unit_to-is_lacking-2.ensures
    ∙ sym (ap (λ (n : ℕ). is_up_to c.args.number (record_at h.units n)) has)
