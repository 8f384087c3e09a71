-- How a master is loaded before its history begins.
use Rattle.std.specs.Prelude.{◌≡◌, ◌⊎◌, ℕ, ◌<◌, ◌&&◌, List, [], ◌∷◌, Bool, true, not, Option, Some, None, if◌then◌else◌}
use Rattle.entry.specs.declared.entry.Entry.{Entry}
use Rattle.entry.specs.declared.entry.Entry.TheVariants as entry
use Rattle.entry.specs.declared.entry.Object.{Object}
use Rattle.entry.specs.declared.key.Key.{Key}
use Rattle.entry.specs.Tablet.{have_key}
use Rattle.places.specs.declared.place.Place.{Place}
use Rattle.log_head.specs.declared.next.Next.{Next}
use Rattle.log_head.specs.Log.{head_of}
use Rattle.log_head.specs.Steps.{lone_start, fresh_head, with_unit_end, settled}
use Rattle.log_head.specs.log_laws.Rising.{IsWhole}
use Rattle.log_memory.specs.log_laws.Data.{Calm}
use Rattle.log_memory.specs.log_laws.Steps.{adopted}
use Rattle.log_memory.specs.Loading.{with_object, MayLoad}
use Rattle.versioned_map.specs.declared.command.Command.TheVariants.{Put}
use Rattle.versioned_map.specs.declared.command.If.TheVariants.{Any}
use Rattle.master_state.specs.declared.config.Config.{Config}
use Rattle.master_state.specs.declared.step.Refusal.{Refusal}
use Rattle.master_state.specs.declared.step.Refusal.TheVariants.{TooBig, NoTablet, Full, Rolling}
use Rattle.master_state.specs.Budget.{is_working, may_roll}
use Rattle.master_state.specs.Causes.{has_room, is_done, is_too_big}
use Rattle.master_state.specs.Data.{Origin, MasterData, fresh_data}
use Rattle.master_state.specs.Invariant.{IsCore}
use Rattle.master_state.specs.Live.{object_bytes, with_bytes}
use Rattle.master_state.specs.Log.{opening_of, log_of, find}
use Rattle.master_state.specs.declared.ledger.Posting.TheVariants as posting
use Rattle.master_state.specs.Steps.{rolling_data, pushed_data, halted, Fits}

-- ---- a master to be loaded

-- the data of a new master that is to be loaded with objects of versions below this safe version; its head records the
-- safe version
abbrev pub restored_data : Config → ℕ → MasterData
restored_data config safe = record (fresh_data config) {
  head = fresh_head config.master config.replicas (lone_start 1 config.format safe);
  safe = safe;
  origin = record { objects = []; safe = safe };
}

-- The core has no history, no pass is open, and no segment waits to be freed.
pub record IsBare (d : MasterData) : Type 0 where
  pub history : d.history ≡ []
  pub pass : d.pass ≡ None
  pub waiting : d.waiting ≡ []

-- ---- an object

-- the unit that the load of an object appends
abbrev pub loaded_unit : Object → List Entry
loaded_unit o = entry.Object o ∷ []

-- a put of the object would be too big
abbrev pub is_object_too_big : Object → ℕ → Bool
is_object_too_big o segment = is_too_big (Put o.key o.value Any) segment

-- the first test that refuses an object, want of memory apart; a roll for a load needs as much space as a roll for a
-- delete
abbrev pub load_refusal : MasterData → Object → Option Refusal
load_refusal d o =
    if is_object_too_big o d.config.segment then Some TooBig
    else if not (have_key d.config.tablets o.key) then Some NoTablet
    else if is_working d && (not (has_room d (loaded_unit o)) && not (may_roll d 2)) then Some Full
    else if not (is_working d && has_room d (loaded_unit o)) then Some Rolling
    else None

-- The object's key was not loaded before, and its version is below the safe version.
pub record IsNewObject (d : MasterData) (o : Object) : Type 0 where
  pub absent : (opening_of d).contents o.key ≡ None
  pub low : o.version < d.origin.safe

-- the origin with one object more
abbrev pub origin_with : Origin → Object → Origin
origin_with origin o = record origin { objects = o ∷ origin.objects }

-- An object that no test refuses is loaded. It keeps its version, and becomes a unit of the head and a part of the
-- opening of the history.
pub record Loads (d : MasterData) (o : Object) (e : MasterData) : Type 0 where
  pub passed : load_refusal d o ≡ None
  pub log : log_of e ≡ with_object (log_of d) o
  -- each place that the index finds it found before, or the place is in the head
  pub found : (k : Key) (p : Place) → find e k ≡ Some p → (find d k ≡ Some p) ⊎ (p.segment ≡ d.head.id)
  -- the head has the object; apart from the head only the index, the origin and the bytes of the
  -- live objects changed
  pub rest : e ≡ record d {
    head = with_unit_end d.head 0 (loaded_unit o);
    index = e.index;
    origin = origin_with d.origin o;
    live = with_bytes d.live (object_bytes o.key o.value);
  }

-- the laws of the log let the object be loaded, and its unit fits the head
abbrev pub MayLoadNow : MasterData → Object → Type 0
MayLoadNow d o = MayLoad (log_of d) o × Fits d (loaded_unit o)

-- ---- the end

-- what a core becomes once all objects are loaded
abbrev pub settled_data : MasterData → MasterData
settled_data d = record d { head = settled d.head; ledger = posting.Settled ∷ d.ledger }

-- The history begins with the objects that were loaded.
pub record Settles (d e : MasterData) : Type 0 where
  pub log : log_of e ≡ adopted (log_of d) (opening_of d)
  pub rest : e ≡ settled_data d

-- ---- laws

-- A core that is bare stays bare when a roll begins, when the core halts, and when a push was taken.
abbrev pub BareGoesOn : Type 0
BareGoesOn = (d : MasterData) → IsBare d
    → IsBare (rolling_data d) × IsBare (halted d) × ((push : Next) → IsBare (pushed_data d push))

-- If nothing is left to be pushed, no roll or failover is under way, and each replica of the head has all units.
abbrev pub PushedIsWhole : Type 0
PushedIsWhole = (d : MasterData) → IsCore d → is_done d ≡ true
    → ((log_of d).mode ≡ Calm) × IsWhole d.config.replicas (head_of d.head)
