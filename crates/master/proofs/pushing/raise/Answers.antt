use Rattle.std.proofs.Common.{ℕ, sym, subst}
use Rattle.replica.specs.Picture.{FleetState}
use Rattle.replica.specs.Registry.{Raises, RefusesRaise}
use Rattle.replica.specs.declared.op.TakeFault.{TakeFault}
use Rattle.master_core.specs.master_failover.declared.push.Push.TheVariants as push
use Rattle.master_core.specs.master_state.Data.{MasterData}
use Rattle.master_core.specs.master_state.Invariant.{IsCore}
use Rattle.master.specs.Invariant.{StaysServed}
use Rattle.master.proofs.MendServed.{served_mends, served_mended, raise_declines, raise_keeps}
use Rattle.master.proofs.pushing.raise.Given as given
use Rattle.master.proofs.pushing.raise.Goals as goal
use Rattle.master.proofs.pushing.raise.Goals.{After-raise}

module _ (g : given.Over) (c : goal.After-raise g) where
  abbrev d : MasterData
  d = c.args.core.now

  abbrev f : FleetState
  f = g.F.Fleet.state c.args.fleet.now

  abbrev after : FleetState
  after = g.F.Fleet.state c.raise.new.self

  takes : Raises f c.master.result c.args.id after → Raises f d.config.master c.args.id after
  takes = subst (λ (master : ℕ). Raises f master c.args.id after) c.master.ensures

  refuses : (x : TakeFault) → RefusesRaise f c.master.result c.args.id x after
      → RefusesRaise f d.config.master c.args.id x after
  refuses x = subst (λ (master : ℕ). RefusesRaise f master c.args.id x after) c.master.ensures

pub raised-requires : goal.raised-requires
raised-requires g c = (c.args.id, c.requires.next)

pub returns-in-Ok-clause-accepted : goal.returns-in-Ok-clause-accepted
returns-in-Ok-clause-accepted g c =
    let t = (goal.at.returns-in-Ok-clause-accepted g c).After-raise in
    let is = c.raised.ensures.raised in
    let core = subst IsCore is c.raised.ensures.valid in
    rw is
    (served_mends (d g t) (push.Raise c.args.id) (f g t) c.requires.running c.requires.next tt tt
    c.requires.served core (after g t) (takes g t c.in-Ok.ensures))

pub returns-in-Ok-clause-served : goal.returns-in-Ok-clause-served
returns-in-Ok-clause-served g c =
    let t = (goal.at.returns-in-Ok-clause-served g c).After-raise in
    let is = c.raised.ensures.raised in
    subst (λ (x : MasterData). StaysServed (d g t) (f g t) x (after g t)) (sym is)
    (served_mended (d g t) (push.Raise c.args.id) (f g t) c.requires.running c.requires.next tt tt
    (subst IsCore is c.raised.ensures.valid) (after g t) (takes g t c.in-Ok.ensures))

pub returns-in-Err-clause-refused : goal.returns-in-Err-clause-refused
returns-in-Err-clause-refused g c =
    let t = (goal.at.returns-in-Err-clause-refused g c).After-raise in
    rw (c.refuse_raise.ensures.answer 0, c.refuse_raise.ensures.failed 0)
    (raise_declines (d g t) c.args.id (f g t) c.requires.running c.requires.next c.requires.served (after g t)
    c.in-Err.fault (refuses g t c.in-Err.fault c.in-Err.ensures) 0)

pub returns-in-Err-clause-served : goal.returns-in-Err-clause-served
returns-in-Err-clause-served g c =
    let t = (goal.at.returns-in-Err-clause-served g c).After-raise in
    subst (λ (x : MasterData). StaysServed (d g t) (f g t) x (after g t)) (sym (c.refuse_raise.ensures.failed 0))
    (raise_keeps (d g t) c.args.id (f g t) c.requires.running c.requires.next (after g t)
    c.in-Err.fault (refuses g t c.in-Err.fault c.in-Err.ensures) 0)
