-- Which segments still lack replicas.
use Rattle.std.specs.Prelude.{ℕ, nat_lt, if◌then◌else◌, List, [], ◌∷◌, Option, Some, None}
use Rattle.images.specs.Image.{Image}
use Rattle.images.specs.Sorted.{replicas_of}

-- the first of these segments that has fewer than `replicas` replicas: its id, and how many it has
abbrev pub first_lacking : ℕ → List Image → List ℕ → Option (ℕ × ℕ)
first_lacking replicas images [] = None
first_lacking replicas images (s ∷ ids) =
    if nat_lt (replicas_of images s) replicas then Some (s, replicas_of images s)
    else first_lacking replicas images ids
