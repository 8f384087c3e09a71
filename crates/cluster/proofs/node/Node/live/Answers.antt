use Rattle.std.proofs.Common.{◌∙◌, refl, sym, ap, subst}
use Rattle.backup.specs.State.{fleet_state}
use Rattle.lines.specs.Grammar.{LiveBytes}
use Rattle.answers.specs.driving.master.master_state.declared.config.Config.{Config}
use Rattle.answers.specs.driving.master.master_state.Data.{MasterData}
use Rattle.answers.specs.declared.answer.Answer.TheVariants as answer
use Rattle.cluster.specs.declared.node.Node.{Node}
use Rattle.cluster.specs.declared.node.Node.TheVariants.{Up}
use Rattle.cluster.specs.Served.{IsOf}
use Rattle.cluster.specs.Shows.{ShowsLive}
use Rattle.cluster.proofs.Downs.{live_down}
use Rattle.cluster.proofs.Standing.{down_told, lived_longer, not_up, stays_told}
use Rattle.cluster.proofs.node.Node.live.Goals as goal

pub returns-in_default : goal.returns-in_default
returns-in_default c =
    let node = c.args.self.now in
    let down = not_up node c.in_default.not-Up in
    record { told = λ config. down_told node config LiveBytes down refl; shown = live_down node down }

pub returns-clause-told : goal.returns-clause-told
returns-clause-told c = λ config.
    let node = c.args.self.now in
    stays_told node config LiveBytes (answer.Live c.live.result c.most_live.result) (λ d at s.
    let was : IsOf (Up c.in-Up.up) at.left d = subst (λ (n : Node). IsOf n at.left d) c.in-Up.is s.node_of in
    let f = fleet_state c.in-Up.up.fleet in (
      was.0,
      refl,
      (
        d,
        f,
        lived_longer d d node node config at at.left s.node_of s f was.2 at.made s.configured s.made,
        c.live.ensures ∙ ap (λ (x : MasterData). x.live) was.1,
      ),
      c.most_live.ensures ∙ ap (λ (x : MasterData). x.config.most_live) was.1
          ∙ ap (λ (k : Config). k.most_live) s.configured,
      refl,
    ))

pub returns-clause-shown : goal.returns-clause-shown
returns-clause-shown c =
    subst (λ (n : Node). ShowsLive n (answer.Live c.live.result c.most_live.result)) (sym c.in-Up.is)
    (λ i. answer.Live (c.live.ensures i) (c.most_live.ensures i))
