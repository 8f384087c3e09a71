-- What objects and tombstones claim of their keys.
use Rattle.std.specs.Prelude.{◌≡◌, ℕ, ◌+◌, ◌*◌, max, List, [], ◌∷◌, Option, Some, None, Bool, true}
use Rattle.std.specs.Prelude.{false, not, ◌==◌, ◌&&◌, ◌||◌, nat_eq, if◌then◌else◌, ⊤}
use Rattle.std.specs.List.{filter_map}
use Rattle.std.specs.Ordering.{nat_cmp, bool_cmp, ordering_then, is_lt}
use Rattle.std.specs.declared.cmp.Ordering.{Ordering}
use Rattle.std.specs.Cmp.Lexicographic.{pointwise, slice_cmp}
use Rattle.entry.specs.declared.key.Key.{Key}
use Rattle.entry.specs.declared.entry.Object.{Object}
use Rattle.entry.specs.declared.entry.Entry.{Entry}
use Rattle.entry.specs.declared.entry.Entry.TheVariants as entry
use Rattle.entry.specs.Order.{key_cmp, key_eq}
use Rattle.claims.specs.declared.claim.Claim.{Claim}
use Rattle.claims.specs.Placed.{placed_key}
use Rattle.claims.specs.declared.fault.ReplayFault.{ReplayFault}
use Rattle.claims.specs.declared.fault.ReplayFault.TheVariants as fault

-- what an entry says of its key: at this version it has this value, or was deleted
pub record Claimed : Type 0 where
  pub key : Key
  pub version : ℕ
  pub dead : Bool
  pub value : List ℕ

-- a claim in the program's memory, by its values
abbrev pub claimed : Claim → Claimed
claimed c = record { key = placed_key c.key; version = c.version; dead = c.dead; value = c.value.now }

-- what an entry claims, if it is an object or a tombstone
abbrev pub claim_of : Entry → Option Claimed
claim_of (entry.Header h) = None
claim_of (entry.Digest ids) = None
claim_of (entry.Safe version) = None
claim_of (entry.Object o) = Some (record { key = o.key; version = o.version; dead = false; value = o.value })
claim_of (entry.Tombstone t) = Some (record { key = t.key; version = t.version; dead = true; value = [] })

-- what the objects and tombstones among the entries claim
abbrev pub claims_of : List Entry → List Claimed
claims_of es = filter_map claim_of es

-- the object that a claim of an object stands for
abbrev pub object_of : Claimed → Object
object_of c = record { key = c.key; version = c.version; value = c.value }

-- one above the greatest version of the claims, or 0 if there are none
abbrev pub bound_of_claims : List Claimed → ℕ
bound_of_claims [] = 0
bound_of_claims (c ∷ cs) = max (c.version + 1) (bound_of_claims cs)

-- the rank of a claim: a greater version ranks higher, and at one version the tombstone ranks above the object
abbrev pub rank : Claimed → ℕ
rank c = if c.dead then 2 * c.version + 1 else 2 * c.version

-- ---- order

-- the order of claims: by key, then by version, and at one version the tombstone is last
abbrev pub claim_cmp : Claimed → Claimed → Ordering
claim_cmp a b =
    ordering_then (key_cmp a.key b.key)
    (ordering_then (nat_cmp a.version b.version)
    (ordering_then (bool_cmp a.dead b.dead) (slice_cmp nat_cmp a.value b.value)))

-- the first claim comes before the second
abbrev pub is_before : Claim → Claim → Bool
is_before a b = is_lt (claim_cmp (claimed a) (claimed b))

-- both are claims of objects with one key and version, and with different values
abbrev pub is_clash : Claimed → Claimed → Bool
is_clash a b =
    key_eq a.key b.key && (a.version == b.version) && not a.dead && not b.dead && not (pointwise nat_eq a.value b.value)

-- the next claim, if there is one, is of another key
abbrev pub is_last : Claimed → List Claimed → Bool
is_last c [] = true
is_last c (d ∷ cs) = not (key_eq c.key d.key)

-- the next claim clashes with this one
abbrev pub next_clashes : Claimed → List Claimed → Bool
next_clashes c [] = false
next_clashes c (d ∷ cs) = is_clash c d

-- some claim clashes with the next one
abbrev pub has_clash : List Claimed → Bool
has_clash [] = false
has_clash (c ∷ cs) = next_clashes c cs || has_clash cs

-- the last claim of each row of neighbours that have one key
abbrev pub tops : List Claimed → List Claimed
tops [] = []
tops (c ∷ cs) = if is_last c cs then c ∷ tops cs else tops cs

-- the objects among the claims
abbrev pub objects_in : List Claimed → List Object
objects_in [] = []
objects_in (c ∷ cs) = if c.dead then objects_in cs else object_of c ∷ objects_in cs

-- The claims are refused: memory ran out, or there is a clash.
abbrev pub IsRefusedFor : Bool → ReplayFault → Type 0
IsRefusedFor clash fault.NoMemory = ⊤
IsRefusedFor clash fault.Clash = clash ≡ true
IsRefusedFor clash _ = ⊥
