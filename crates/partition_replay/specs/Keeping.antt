-- What a replay keeps in memory: the claim of greatest rank of each key.
use Rattle.std.specs.Prelude.{◌≡◌, ◌≢◌, ◌<◌, ◌≤◌, List, ◌∷◌, ◌++◌, map, Option, Some, None}
use Rattle.std.specs.Prelude.{Bool, true, false, ⊤}
use Rattle.std.specs.Option.{option_or}
use Rattle.std.specs.Map.{lookup}
use Rattle.entry.specs.declared.key.Key.{Key}
use Rattle.entry.specs.declared.entry.Object.{Object}
use Rattle.entry.specs.declared.entry.Entry.{Entry}
use Rattle.entry.specs.declared.entry.Entry.TheVariants as entry
use Rattle.entry.specs.Bag.{IsAmong}
use Rattle.entry.specs.Meaning.{Versioned, IsTop, among, object_at}
use Rattle.entry.specs.Order.{key_eq}
use Rattle.claims.specs.declared.placed.PlacedKey.{PlacedKey}
use Rattle.claims.specs.declared.fault.ReplayFault.{ReplayFault}
use Rattle.claims.specs.declared.fault.ReplayFault.TheVariants as fault
use Rattle.claims.specs.Placed.{placed_key}
use Rattle.claims.specs.Claims.{Claimed, claims_of, rank, is_clash}
use Rattle.partition_replay.specs.declared.kept.Kept.{Kept}

-- the claim of a key for what is kept of it
abbrev pub kept_claim : Key → Kept → Claimed
kept_claim k x = record { key = k; version = x.version; dead = x.dead; value = x.value.now }

-- what a map with these entries keeps of a key
abbrev pub kept_at : List (PlacedKey × Kept) → Key → Option Kept
kept_at es k = lookup (λ (p : PlacedKey). key_eq k (placed_key p)) es

-- the claims of all that is kept
abbrev pub claims_kept : List (PlacedKey × Kept) → List Claimed
claims_kept es = map (λ (e : PlacedKey × Kept). kept_claim (placed_key e.0) e.1) es

-- what the first map has of a key, or else the second
abbrev pub kept_in : List (PlacedKey × Kept) → List (PlacedKey × Kept) → Key → Option Kept
kept_in fresh old k = option_or (kept_at fresh k) (kept_at old k)

-- the claim is what is kept of its key
abbrev pub IsKept : (Key → Option Kept) → Claimed → Type 0
IsKept kept c = (x : Kept) × (kept c.key ≡ Some x) × (kept_claim c.key x ≡ c)

-- ---- rank

-- Claim c of the key doesn't rank above claim d. If c is an object's and ranks as high, both have the same value.
pub record IsOver (d c : Claimed) : Type 0 where
  pub ranks : rank c ≤ rank d
  pub same : c.dead ≡ false → rank c ≡ rank d → c.value ≡ d.value

-- whether claim c of the key ranks above claim d
abbrev pub IsRanked : Claimed → Claimed → Bool → Type 0
IsRanked d c true = rank d < rank c
IsRanked d c false = IsOver d c

-- whether the claim ranks above what is kept of its key
abbrev pub IsAbove : Option Kept → Claimed → Bool → Type 0
IsAbove None c above = above ≡ true
IsAbove (Some x) c above = IsRanked (kept_claim c.key x) c above

-- the claim clashes with what is kept of its key
abbrev pub DoesClash : Option Kept → Claimed → Type 0
DoesClash None c = ⊥
DoesClash (Some x) c = is_clash (kept_claim c.key x) c ≡ true

-- two of the claims clash
abbrev pub HaveClash : List Claimed → Type 0
HaveClash cs = (d : Claimed) × (c : Claimed) × IsAmong d cs × IsAmong c cs × (is_clash d c ≡ true)

-- ---- the map

-- Of each key that has a claim one is kept: no other of the key ranks above it, and objects that rank as high are
-- equal to it.
pub record AreTops (all : List Claimed) (kept : Key → Option Kept) : Type 0 where
  pub only : (k : Key) (x : Kept) → kept k ≡ Some x → IsAmong (kept_claim k x) all
  pub each : (c : Claimed) → IsAmong c all → (x : Kept) × (kept c.key ≡ Some x) × IsOver (kept_claim c.key x) c

-- if the old map keeps the tops of some claims, the new one keeps those of these claims with the list behind them
abbrev pub AddsTops : (Key → Option Kept) → List Claimed → (Key → Option Kept) → Type 0
AddsTops old cs new = (all : List Claimed) → AreTops all old → AreTops (all ++ cs) new

-- why claims are not kept: memory ran out, or two claims clash
abbrev pub IsUnkept : (Key → Option Kept) → List Claimed → ReplayFault → Type 0
IsUnkept old cs fault.NoMemory = ⊤
IsUnkept old cs fault.Clash = (all : List Claimed) → AreTops all old → HaveClash (all ++ cs)
IsUnkept old cs _ = ⊥

-- ---- entries as they come

-- One of the entries is an object that clashes as it comes. Among the entries before it, here or earlier, an object of
-- its key has the greatest rank, and this one has the same version and another value.
pub record Clashes (before es : List Entry) : Type 0 where
  pub front : List Entry
  pub object : Object
  pub back : List Entry
  pub parts : es ≡ front ++ (entry.Object object ∷ back)
  pub kept : Versioned
  pub top : IsTop object.key (among (before ++ front)) (object_at object.key kept)
  pub version : kept.version ≡ object.version
  pub value : kept.value ≢ object.value

-- of whichever entries this is kept, one of the entries that follow clashes as it comes
abbrev pub ClashAbove : (Key → Option Kept) → List Entry → Type 0
ClashAbove old es = (before : List Entry) → AreTops (claims_of before) old → Clashes before es

-- of whichever entries this is kept, none of the entries that follow clashes as it comes
abbrev pub PassAbove : (Key → Option Kept) → List Entry → Type 0
PassAbove old es = (before : List Entry) → AreTops (claims_of before) old → ¬ Clashes before es
