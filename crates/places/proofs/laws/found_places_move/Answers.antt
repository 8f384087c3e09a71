use Rattle.places.proofs.Words.{found_gone, kept_gone, moved_set}
use Rattle.places.proofs.laws.found_places_move.Goals as goal

pub returns-clause-one : goal.returns-clause-one
returns-clause-one c = moved_set

pub returns-clause-all : goal.returns-clause-all
returns-clause-all c = λ keys again goes ps all told.
    (kept_gone goes keys again ps told all, found_gone goes keys again ps told)
