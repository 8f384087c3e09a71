use Rattle.std.proofs.Common.{◌≡◌, ◌<◌, ℕ, [], List, length, sym, ap, subst, ◌∙◌, arith}
use Rattle.master_state.specs.Log.{home, working}
use Rattle.master_state.proofs.Homes.{working_few, home_first}
use Rattle.master_state.proofs.Refusals.{has_homes}
use Rattle.master_state.proofs.config.Config.home.Goals as goal

pub backup_at-requires-clause-place : goal.backup_at-requires-clause-place
backup_at-requires-clause-place c =
    let homes = has_homes c.args.self.now c.requires.config in
    let most = homes.few in
    let few = working_few c.args.self.now c.args.failed.now c.args.segment in
    let lt = c.requires.replica in
    omega arith

pub returns-then-is_empty : goal.returns-then-is_empty
returns-then-is_empty c =
    let none : c.args.failed.now ≡ [] = c.is_empty.ensures c.if-is_empty.true in
    let lt = subst (λ (bs : List ℕ). c.args.replica < length (working c.args.self.now bs c.args.segment)) none
    c.requires.replica in
    c.backup_at.ensures ∙ sym (home_first c.args.self.now c.args.segment c.args.replica lt)
    ∙ ap (λ (bs : List ℕ). home c.args.self.now bs c.args.segment c.args.replica) (sym none)
