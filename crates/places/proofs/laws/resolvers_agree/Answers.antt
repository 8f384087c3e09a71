use Rattle.std.proofs.Common.{◌≡◌, true}
use Rattle.places.proofs.Words.{found_again, found_holds, found_is, kept_again}
use Rattle.places.proofs.laws.resolvers_agree.Goals as goal

pub returns-clause-again : goal.returns-clause-again
returns-clause-again c = λ keys again ps all same. (kept_again keys again ps all same, found_again keys again ps same)

pub returns-clause-told : goal.returns-clause-told
returns-clause-told c = λ keys ps k p found. (
  found_is keys k ps p found,
  λ test all. found_holds keys (λ q. test q ≡ true) k ps p all found,
)
