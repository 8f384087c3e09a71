-- The buckets of a table.
use Rattle.std.specs.Prelude.{◌≡◌, ℕ, zero, suc, ◌%◌, ◌^◌, ◌<◌, ◌-◌, min, nat_lt, List, [], ◌∷◌, ◌++◌, length}
use Rattle.std.specs.Prelude.{not, Option, Some, None, if◌then◌else◌}
use Rattle.std.specs.List.{flat_map}
use Rattle.std.specs.declared.boxed.Box.{Box}
use Rattle.std.specs.declared.vec.Vec.{Vec}
use Rattle.places.specs.declared.place.Held.{Held}
use Rattle.place_index.specs.Steps.{HashesPass, BringsNoHash, IsShuffled, ListValue}
use Rattle.place_index.specs.Parted.{belongs}

-- the places of the list; none if there is no list
abbrev pub listed : {A : Type 0} → Option (Box ListValue A) → List Held
listed None = []
listed (Some list) = list.value.held

-- ---- which bucket has a hash

-- the number that the lowest bits of a hash make: at most k bits, and as many as keep the number below n
abbrev pub longest : ℕ → ℕ → ℕ → ℕ
longest zero n hash = 0
longest (suc k) n hash = if nat_lt (hash % 2 ^ suc k) n then hash % 2 ^ suc k else longest k n hash

-- the number of the bucket, among n buckets, that has a hash
unfoldable pub bucket_of : ℕ → ℕ → ℕ
bucket_of n hash = longest 64 n hash

-- The places of a bucket are divided between it and a new bucket, which is number n: those whose hash belongs to the
-- new bucket go there, and the others stay.
pub record Divides (n : ℕ) (old stays goes : List Held) : Type 0 where
  pub same : IsShuffled old (stays ++ goes)
  pub new : HashesPass (belongs (bucket_of (suc n)) n) goes
  pub old_ones : HashesPass (λ (hash : ℕ). not (belongs (bucket_of (suc n)) n hash)) stays
  pub hashes : BringsNoHash old stays

-- ---- the blocks

-- the buckets of all blocks, one after another
abbrev pub in_blocks : {A : Type 0} → List (Vec (List Held) A) → List (List Held)
in_blocks bs = flat_map (λ b. b.items) bs

-- the blocks have n buckets: 64 in each block, and in the last block those that are left
abbrev pub AreBlocks : {A : Type 0} → ℕ → List (Vec (List Held) A) → Type 0
AreBlocks n [] = n ≡ 0
AreBlocks n (b ∷ bs) = (0 < n) × (length b.items ≡ min 64 n) × AreBlocks (n - 64) bs
