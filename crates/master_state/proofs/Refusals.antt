-- Which test refuses a step.
use Rattle.std.proofs.Common.{◌≡◌, ◌+◌, ◌<◌, ◌≤◌, Bool, true, false, cond, List, length, refl, arith}
use Rattle.std.specs.Prelude.{Option, Some, None, ◌-◌, ◌^◌, ◌*◌, ◌/◌, ◌%◌, not, nat_le, nat_lt, ◌==◌, ◌&&◌, ◌||◌}
use Rattle.std.specs.Prelude.{is_none}
use Rattle.std.proofs.lemmas.Bool.{and_parts, not-false, leb-true, leb-false, ltb-false, eqb-true}
use Rattle.std.proofs.lemmas.Bool.Decides.{nat_tests}
use Rattle.std.proofs.Math.Bool.{and-false}
use Rattle.entry.specs.declared.entry.Entry.{Entry}
use Rattle.entry.specs.Tablet.{have_key}
use Rattle.entry.specs.Text.{text_of}
use Rattle.versioned_map.specs.declared.command.Command.{Command}
use Rattle.master_state.specs.declared.config.Config.{Config}
use Rattle.master_state.specs.declared.step.Refusal.{Refusal}
use Rattle.master_state.specs.declared.step.Refusal.TheVariants.{Halted, TooBig, NoTablet, HistoryFull, VersionsSpent}
use Rattle.master_state.specs.declared.step.Refusal.TheVariants.{Full, Rolling, Nothing, SegmentsSpent, Overcommit}
use Rattle.master_state.specs.Causes.{early_refusal, late_refusal, command_refusal, unit_refusal, has_room, unit_now}
use Rattle.master_state.specs.declared.failover.Failover.{Failover}
use Rattle.master_state.specs.Budget.{is_working, segments_for, may_roll}
use Rattle.master_state.specs.Causes.{roll_refusal, is_pushed, push_refusal, is_too_big, is_longer, is_empty}
use Rattle.master_state.specs.Causes.{is_overcommitted, live_now}
use Rattle.versioned_map.specs.Versioned.{is_spent}
use Rattle.versioned_map.specs.Command.{command_key}
use Rattle.images.specs.Images.{AreSizes}
use Rattle.master_state.specs.Config.{config_fault, has_backups, has_step, has_seglet, has_segment, has_budget}
use Rattle.master_state.specs.Config.{has_tablets, has_history}
use Rattle.log_head.specs.declared.head.Roll.{Roll}
use Rattle.log_head.specs.declared.next.Next.{Next}
use Rattle.log_head.specs.declared.next.Next.TheVariants as next
use Rattle.log_head.specs.Head.{HeadValue, is_open}
use Rattle.log_head.specs.Next.{IsNextPush}
use Rattle.log_head.specs.log_laws.Heads.{fewest}
use Rattle.master_state.specs.Log.{state_now}
use Rattle.master_state.specs.Data.{MasterData}
use Rattle.log_head.proofs.Heads.{fewest_all, fewest_at}

-- ---- rows of tests

pub passes : {R : Type 0} (b : Bool) (r : R) (rest : Option R) → cond b (Some r) rest ≡ None
    → (b ≡ false) × (rest ≡ None)
passes true r rest e = absurd (cc)
passes false r rest e = (refl, e)

-- ---- a configuration

pub record HasHomes (c : Config) : Type 0 where
  pub some : 0 < c.replicas
  pub many : c.replicas ≤ c.backups
  pub few : c.backups ≤ 64

pub has_homes : (c : Config) → config_fault c ≡ None → HasHomes c
has_homes c ok =
    let all = and_parts _ _ (not-false (has_backups c) (passes (not (has_backups c)) _ _ ok).0) in
    let front = and_parts _ _ all.0 in
    let one = leb-true 1 c.replicas front.0 in
    record { some = omega arith; many = leb-true c.replicas c.backups front.1; few = leb-true c.backups 64 all.1 }

pub sizes_of : (c : Config) → config_fault c ≡ None → AreSizes c.segment c.seglet c.seglets
sizes_of c ok =
    let a = passes (not (has_backups c)) _ _ ok in
    let b = passes (not (has_step c)) _ _ a.1 in
    let g = passes (not (has_seglet c)) _ _ b.1 in
    let s = passes (not (has_segment c)) _ _ g.1 in
    let m = passes (not (has_budget c)) _ _ s.1 in
    let seglet = and_parts _ _ (not-false (has_seglet c) g.0) in
    let segment = and_parts _ _ (not-false (has_segment c) s.0) in
    let within = and_parts _ _ segment.0 in
    let budget = and_parts _ _ (not-false (has_budget c) m.0) in
    record {
      least_seglet = leb-true 64 c.seglet seglet.0;
      most_seglet = leb-true c.seglet 65536 seglet.1;
      least_segment = leb-true 512 c.segment within.0;
      most_segment = leb-true c.segment 8388608 within.1;
      multiple = eqb-true (c.segment % c.seglet) 0 segment.1;
      least_seglets = leb-true (4 * (c.segment / c.seglet)) c.seglets budget.0;
      most_seglets = leb-true c.seglets (2 ^ 32) budget.1;
    }

pub few_records : (c : Config) → config_fault c ≡ None → c.history ≤ 1048576
few_records c ok =
    let a = passes (not (has_backups c)) _ _ ok in
    let b = passes (not (has_step c)) _ _ a.1 in
    let g = passes (not (has_seglet c)) _ _ b.1 in
    let s = passes (not (has_segment c)) _ _ g.1 in
    let m = passes (not (has_budget c)) _ _ s.1 in
    let t = passes (not (has_tablets c)) _ _ m.1 in
    let h = passes (not (has_history c)) _ _ t.1 in
    leb-true c.history 1048576 (and_parts _ _ (not-false (has_history c) h.0)).1

-- ---- a command

-- what holds where no test refuses a command before its key is looked up
pub record IsAdmitted (d : MasterData) (command : Command) : Type 0 where
  pub running : d.is_halted ≡ false
  pub key : have_key d.config.tablets (command_key command) ≡ true
  pub room : length d.history - d.forgotten < d.config.history

pub is_admitted : (d : MasterData) (command : Command) → early_refusal d command ≡ None → IsAdmitted d command
is_admitted d command e =
    let a = passes d.is_halted Halted _ e in
    let b = passes (is_too_big command d.config.segment || is_longer command d.config.largest) TooBig _ a.1 in
    let t = passes (not (have_key d.config.tablets (command_key command))) NoTablet _ b.1 in
    let kept = length d.history - d.forgotten in
    let h = passes (nat_le d.config.history kept) HistoryFull None t.1 in
    record { running = a.0; key = not-false _ t.0; room = leb-false d.config.history kept h.0 }

early_first : (d : MasterData) (command : Command) (o late : Option Refusal) → cond (is_none o) late o ≡ None
    → (o ≡ None) × (late ≡ None)
early_first d command None late e = (refl, e)
early_first d command (Some r) late e = absurd (cc)

pub passed_early : (d : MasterData) (command : Command) → command_refusal d command ≡ None
    → early_refusal d command ≡ None
passed_early d command e = (early_first d command (early_refusal d command) (late_refusal d command) e).0

module _ (d : MasterData) (command : Command) where
  abbrev spent : Bool
  spent = is_spent (state_now d).safe ((state_now d).contents (command_key command)) command

  abbrev own_unit : List Entry
  own_unit = unit_now d command

  pub refused_early : (r : Refusal) → early_refusal d command ≡ Some r → command_refusal d command ≡ Some r
  refused_early r e = rw e refl

  pub refused_spent : early_refusal d command ≡ None → spent ≡ true → command_refusal d command ≡ Some VersionsSpent
  refused_spent e s = rw (e, s) refl

  abbrev over : Bool
  over = is_overcommitted d (live_now d command)

  pub refused_over : early_refusal d command ≡ None → spent ≡ false → over ≡ true
      → command_refusal d command ≡ Some Overcommit
  refused_over e s o = rw (e, s, o) refl

  pub refused_late : (r : Option Refusal) → early_refusal d command ≡ None → spent ≡ false → over ≡ false
      → unit_refusal d command own_unit ≡ r
      → command_refusal d command ≡ r
  refused_late r e s o u = rw (e, s, o, u) refl

-- a master that takes units has an open head, and no failover is open
pub working_parts : (d : MasterData) → is_working d ≡ true → (is_open d.head ≡ true) × (d.failover ≡ None)
working_parts d is =
    let parts = and_parts (is_open d.head) (is_none d.failover) is in (parts.0, none d.failover parts.1)
  where
    none : (o : Option Failover) → is_none o ≡ true → o ≡ None
    none None is = refl
    none (Some f) is = absurd (cc)

-- a unit that is appended fits an open head
room_then : (d : MasterData) (k : Command) (u : List Entry) → is_empty u ≡ false → unit_refusal d k u ≡ None
    → (is_working d ≡ true) × (has_room d u ≡ true)
room_then d k u some e =
    let rest : cond (is_working d && (not (has_room d u) && not (may_roll d (segments_for k)))) (Some Full)
    (cond (not (is_working d && has_room d u)) (Some Rolling) None) ≡ None =
    rw some at e in
    let a = passes (is_working d && (not (has_room d u) && not (may_roll d (segments_for k)))) Full _ rest in
    and_parts _ _ (not-false (is_working d && has_room d u)
    (passes (not (is_working d && has_room d u)) Rolling None a.1).0)

unit_room : (d : MasterData) (command : Command) → command_refusal d command ≡ None
    → is_empty (unit_now d command) ≡ false
    → (is_working d ≡ true) × (has_room d (unit_now d command) ≡ true)
unit_room d command passed some =
    let late = (early_first d command (early_refusal d command) (late_refusal d command) passed).1 in
    let left = (passes (is_spent (state_now d).safe ((state_now d).contents (command_key command)) command)
    VersionsSpent _ late).1 in
    let unit = (passes (is_overcommitted d (live_now d command)) Overcommit _ left).1 in
    room_then d command (unit_now d command) some unit

pub unit_fits : (d : MasterData) (command : Command) → command_refusal d command ≡ None
    → is_empty (unit_now d command) ≡ false
    → length (text_of d.head.image) + length (text_of (unit_now d command)) ≤ d.config.segment
unit_fits d command passed some =
    leb-true (length (text_of d.head.image) + length (text_of (unit_now d command))) d.config.segment
    (unit_room d command passed some).1

pub unit_working : (d : MasterData) (command : Command) → command_refusal d command ≡ None
    → is_empty (unit_now d command) ≡ false
    → is_working d ≡ true
unit_working d command passed some = (unit_room d command passed some).0

pub unit_open : (d : MasterData) (command : Command) → command_refusal d command ≡ None
    → is_empty (unit_now d command) ≡ false
    → is_open d.head ≡ true
unit_open d command passed some = (working_parts d (unit_working d command passed some)).0

-- what is made of a unit: an empty one, then one for a head that takes none, and one for a head that does, without room
-- and with
pub refused_nothing : (d : MasterData) (k : Command) (u : List Entry) → is_empty u ≡ true → unit_refusal d k u ≡ None
refused_nothing d k u none = rw none refl

pub refused_closed : (d : MasterData) (k : Command) (u : List Entry) → is_empty u ≡ false → is_working d ≡ false
    → unit_refusal d k u ≡ Some Rolling
refused_closed d k u some closed = rw (some, closed) refl

pub refused_full : (d : MasterData) (k : Command) (u : List Entry) → is_empty u ≡ false → is_working d ≡ true
    → has_room d u ≡ false
    → may_roll d (segments_for k) ≡ false → unit_refusal d k u ≡ Some Full
refused_full d k u some opened full never = rw (some, opened, full, never) refl

pub refused_due : (d : MasterData) (k : Command) (u : List Entry) → is_empty u ≡ false → is_working d ≡ true
    → has_room d u ≡ false
    → may_roll d (segments_for k) ≡ true → unit_refusal d k u ≡ Some Rolling
refused_due d k u some opened full may = rw (some, opened, full, may) refl

pub refused_not : (d : MasterData) (k : Command) (u : List Entry) → is_empty u ≡ false → is_working d ≡ true
    → has_room d u ≡ true
    → unit_refusal d k u ≡ None
refused_not d k u some opened room = rw (some, opened, room) refl

-- ---- a roll

-- an open head has all its replicas open, and no roll under way
pub open_parts : (h : HeadValue) → is_open h ≡ true → (length h.taken ≡ h.replicas) × (h.roll ≡ None)
open_parts h opened =
    let parts = and_parts (length h.taken == h.replicas) (is_none h.roll) opened in
    (eqb-true (length h.taken) h.replicas parts.0, none h.roll parts.1)
  where
    none : (o : Option Roll) → is_none o ≡ true → o ≡ None
    none None is = refl
    none (Some r) is = absurd (cc)

-- what holds if no test refuses a roll
pub record MayBeginRoll (d : MasterData) : Type 0 where
  pub running : d.is_halted ≡ false
  pub opened : is_open d.head ≡ true
  pub calm : d.failover ≡ None
  pub ids : d.next ≤ 2 ^ 62
  pub rule : may_roll d 2 ≡ true

pub may_begin : (d : MasterData) → roll_refusal d ≡ None → MayBeginRoll d
may_begin d e =
    let a = passes d.is_halted Halted _ e in
    let o = passes (not (is_working d)) Rolling _ a.1 in
    let i = passes (nat_lt (2 ^ 62) d.next) SegmentsSpent _ o.1 in
    let m = passes (not (may_roll d 2)) Full None i.1 in
    let works = working_parts d (not-false _ o.0) in record {
      running = a.0;
      opened = works.0;
      calm = works.1;
      ids = ltb-false (2 ^ 62) d.next i.0;
      rule = not-false _ m.0;
    }

-- ---- a push

-- a head with a roll isn't open
rolling_closed : (h : HeadValue) (r : Roll) → h.roll ≡ Some r → is_open h ≡ false
rolling_closed h r is = rw is (and-false (length h.taken == h.replicas))

-- something waits to be pushed, or nothing does
pub still_waits : (h : HeadValue) (n : Next) → IsNextPush h (Some n) → is_pushed h ≡ false
still_waits h (next.OpenFirst j) is =
    let at = is.0 in
    let few = is.1 in
    let test : (length h.taken == h.replicas) ≡ false = grind (arith, nat_tests) in
    rw test refl
still_waits h (next.Extend j) is =
    let lagging = is.1 in
    let some = lagging.2 in
    let few : fewest (length h.units) h.taken ≡ lagging.0 =
    fewest_at (length h.units) lagging.0 j h.taken lagging.1 lagging.2 lagging.3 in
    let less : (fewest (length h.units) h.taken == length h.units) ≡ false = grind (arith, nat_tests) in
    rw less (and-false (is_open h))
still_waits h (next.OpenWhole j) is = absurd is
still_waits h (next.OpenNew j) is = let closed = rolling_closed h is.1 is.2 in rw closed refl
still_waits h (next.CloseOld j) is = let closed = rolling_closed h is.1 is.2 in rw closed refl

pub all_pushed : (h : HeadValue) → IsNextPush h None → is_pushed h ≡ true
all_pushed h is =
    let whole = is.0 in
    let all = whole.opened in
    let few : fewest (length h.units) h.taken ≡ length h.units = fewest_all (length h.units) h.taken whole.none_lags in
    let same : (fewest (length h.units) h.taken == length h.units) ≡ true = grind (arith, nat_tests) in
    let all_open : (length h.taken == h.replicas) ≡ true = grind (arith, nat_tests) in
    let none = is.1 in
    rw (all_open, none, same) refl

-- a push that is refused: never in a failover, unless halted
pub push_failing : (d : MasterData) → d.is_halted ≡ false → is_none d.failover ≡ false → push_refusal d ≡ None
push_failing d running is = rw (running, is) refl

pub push_passed : (d : MasterData) (push : Next) → d.is_halted ≡ false → IsNextPush d.head (Some push)
    → push_refusal d ≡ None
push_passed d push running is =
    let waits = still_waits d.head push is in rw (running, waits, and-false (is_none d.failover)) refl

pub push_done : (d : MasterData) → d.is_halted ≡ false → d.failover ≡ None → IsNextPush d.head None
    → push_refusal d ≡ Some Nothing
push_done d running calm is = let done = all_pushed d.head is in rw (running, calm, done) refl

pub push_halted : (d : MasterData) → d.is_halted ≡ true → push_refusal d ≡ Some Halted
push_halted d halted = rw halted refl
