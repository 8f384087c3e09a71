use Rattle.places.proofs.Words.{named_found, found_named}
use Rattle.places.proofs.laws.names_what_is_found.Goals as goal

pub returns : goal.returns
returns c = λ keys ps k p all there. (named_found keys k p there ps all, found_named keys k p ps all)
