use Rattle.std.proofs.Common.{◌≡◌, length, rules, sym, ◌∙◌}
use Rattle.std.specs.Prelude.{slice_get, None}
use Rattle.log_head.specs.Head.{everywhere}
use Rattle.master_state.specs.contracts.state.Core.{the_view}
use Rattle.master_state.specs.Data.{MasterData}
use Rattle.master_state.proofs.Counted.{durable_is, from_none, from_some}
use Rattle.master_state.proofs.state.Core.durable.Goals as goal

pub returns-in-None : goal.returns-in-None
returns-in-None c =
    let d : MasterData = the_view c.self.inside in
    let len : c.len.result ≡ length d.history = search rules in
    let calm : d.failover ≡ None = c.in_default.is in
    rw (← c.self.view_is) (len
    ∙ sym (from_none (slice_get d.head.units (everywhere d.head)) (length d.history)
    (sym c.first_missing.ensures.missing ∙ c.in-None.is))
    ∙ durable_is d calm)

pub returns-in-Some-first_missing : goal.returns-in-Some-first_missing
returns-in-Some-first_missing c =
    let d : MasterData = the_view c.self.inside in
    let calm : d.failover ≡ None = c.in_default.is in
    rw (← c.self.view_is)
    (sym (from_some (slice_get d.head.units (everywhere d.head)) (length d.history) c.in-Some-first_missing.number
    (sym c.first_missing.ensures.missing ∙ c.in-Some-first_missing.is))
    ∙ durable_is d calm)
