-- Hashes of keys.
use Rattle.std.specs.Prelude.{ℕ, ◌/◌, ◌^◌, max, List, [], ◌∷◌}
use Rattle.std.specs.Hash as fed
use Rattle.std.specs.Hash.FoldHasher as folding
use Rattle.std.specs.Hash.DefaultHasher as sip
use Rattle.entry.specs.declared.key.Key.{Key}

-- the hash without a secret: that of a fast hasher, which is fed the key's table and then its bytes
unfoldable pub fast_hash : Key → ℕ
fast_hash k = folding.finish (folding.write (folding.write folding.initial (fed.le_bytes 8 k.table)) k.bytes)

-- the hash under a secret of two numbers: that of SipHash, which is fed the secret, the key's table and then its bytes
unfoldable pub secret_hash : ℕ → ℕ → Key → ℕ
secret_hash first second k =
    let one = sip.write sip.initial (fed.le_bytes 8 first) in
    let both = sip.write one (fed.le_bytes 8 second) in
    sip.finish (sip.write (sip.write both (fed.le_bytes 8 k.table)) k.bytes)

-- the hash of the default hasher, by its seed: the two numbers of the secret, or nothing
abbrev pub hash_by : List ℕ → Key → ℕ
hash_by [] k = fast_hash k
hash_by (first ∷ []) k = fast_hash k
hash_by (first ∷ second ∷ others) k = secret_hash first second k

-- the piece of a hash that an index keeps: its upper 25 bits, or 512 if these are a smaller number
unfoldable pub piece : ℕ → ℕ
piece hash = max 512 (hash / 2 ^ 39)

-- the piece of the hash of a key
abbrev pub pieces : (List ℕ → Key → ℕ) → List ℕ → Key → ℕ
pieces hash_of seed k = piece (hash_of seed k)

-- the piece of hash under which an index with the default hasher holds a key's place
abbrev pub hash_of : List ℕ → Key → ℕ
hash_of seed k = piece (hash_by seed k)
