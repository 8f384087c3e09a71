use Rattle.std.proofs.Common.{◌≡◌, ◌==◌, ◌+◌, ℕ, suc, None, false, sym, subst, ◌∙◌, arith}
use Rattle.std.proofs.lemmas.Bool.Decides.{nat_tests}
use Rattle.master_state.specs.Log.{home, place_in}
use Rattle.master_state.proofs.Homes.{none_up_to, place_in_at}
use Rattle.master_state.proofs.config.Config.place_in.Goals as goal

pub returns-then-home-backup-clause-place : goal.returns-then-home-backup-clause-place
returns-then-home-backup-clause-place c =
    let test = c.loop-replica-test.true in
    let end = c.loop-replica.auto.replica-end in
    sym (place_in_at c.args.self.now c.args.failed.now c.args.segment c.args.replicas c.args.backup
    c.loop-replica.replica c.requires.replicas (omega arith) (sym c.home.ensures ∙ c.if-home-backup.true))

pub loop-replica-preserved : goal.loop-replica-preserved
loop-replica-preserved c =
    let test = c.loop-replica-test.true in
    let elsewhere = c.if-home-backup.false in
    let here = c.home.ensures in
    let other : (home c.args.self.now c.args.failed.now c.args.segment c.loop-replica.replica == c.args.backup)
    ≡ false =
    grind (arith, nat_tests) in
    let more : suc c.loop-replica.replica ≡ c.loop-replica.replica + 1 = omega arith in (
      omega (arith, test),
      subst (λ (n : ℕ). place_in c.args.self.now c.args.failed.now c.args.segment n c.args.backup ≡ None) more
          (none_up_to c.args.self.now c.args.failed.now c.args.segment c.loop-replica.replica c.args.backup other
          c.loop-replica.invariant.1),
    )
