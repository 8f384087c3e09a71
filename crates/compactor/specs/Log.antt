-- The ids of the segments that count as in the log.
use Rattle.std.specs.Prelude.{ℕ, List, ◌∷◌, ◌++◌, map}
use Rattle.std.specs.Option.{option_to_list}
use Rattle.images.specs.Image.{Image}
use Rattle.compactor.specs.declared.log_set.LogSet.{LogSet}

-- the closed segments' ids, the head's, and that of the head that is being opened
abbrev pub ids_of_log : LogSet → List ℕ
ids_of_log log = map (λ (image : Image). image.id) log.closed.now.images ++ log.head ∷ option_to_list log.new
