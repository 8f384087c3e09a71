use Rattle.master_commands.proofs.LoadedCore.{rolling_bare, pushed_bare, pushed_calm, pushed_whole}
use Rattle.master_commands.proofs.laws.loading_goes_on.Goals as goal

pub returns : goal.returns
returns c = record {
  bare = λ d is. (
    rolling_bare d is,
    record { history = is.history; pass = is.pass; waiting = is.waiting },
    λ push. pushed_bare d is push,
  );
  whole = λ d core done. (pushed_calm d core done, pushed_whole d core done);
}
