-- The meaning of a bag in terms of membership alone. It is used where a cleaner drops or moves entries.
use Rattle.std.specs.Prelude.{◌≡◌, ℕ, ◌*◌, ◌<◌, List, Some, None}
use Rattle.entry.specs.declared.key.Key.{Key}
use Rattle.entry.specs.declared.entry.Entry.{Entry}
use Rattle.entry.specs.Meaning.{Versioned, Contents, IsOfKey, rank_of, IsTop, object_at, IsMeaning, IsClean, among}

-- the bag has an entry of the key that ranks above an object of this version
abbrev pub IsOutranked : (Entry → Type 0) → Key → ℕ → Type 0
IsOutranked bag k version = (e : Entry) × bag e × IsOfKey k e × (2 * version < rank_of e)

-- The object of each present key is the key's entry of greatest rank, and each object of an absent key is outranked.
pub record IsMeaningBy (bag : Entry → Type 0) (contents : Contents) : Type 0 where
  pub present : (k : Key) (x : Versioned) → contents k ≡ Some x → IsTop k bag (object_at k x)
  pub absent : (k : Key) (x : Versioned) → contents k ≡ None → bag (object_at k x) → IsOutranked bag k x.version

-- ---- laws

-- If a list is clean, then its meaning by membership is its meaning.
abbrev pub MembershipIsMeaning : Type 0
MembershipIsMeaning =
    (bag : List Entry) (contents : Contents) → IsClean (among bag) → IsMeaningBy (among bag) contents
    → IsMeaning (among bag) contents

-- The meaning of a list is also its meaning by membership.
abbrev pub MeaningIsMembership : Type 0
MeaningIsMembership =
    (bag : List Entry) (contents : Contents) → IsMeaning (among bag) contents → IsMeaningBy (among bag) contents

-- A list has at most one meaning.
abbrev pub MeaningIsOne : Type 0
MeaningIsOne =
    (bag : List Entry) (contents other : Contents) → IsMeaning (among bag) contents
    → IsMeaning (among bag) other → contents ≡ other
