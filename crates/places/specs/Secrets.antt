-- The seed of the default hasher.
use Rattle.std.specs.Prelude.{ℕ, List, [], ◌∷◌, Option, Some, None}
use Rattle.places.specs.declared.hashing.KeyHasher.{KeyHasher}
use Rattle.places.specs.declared.hashing.Secret.{Secret}

-- the seed: the two numbers of the secret, or nothing without a secret
abbrev pub secret_seed : Option Secret → List ℕ
secret_seed None = []
secret_seed (Some secret) = secret.first ∷ secret.second ∷ []

-- the hasher without a secret
abbrev pub fast_hasher : KeyHasher
fast_hasher = record { secret = None }
