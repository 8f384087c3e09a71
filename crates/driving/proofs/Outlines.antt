-- A core in outline: the head, the pass, the failover, and what pushes never change. What each step makes of it.
use Rattle.std.proofs.Common.{◌≡◌, ℕ, suc, ◌+◌, Bool, true, false, List, [], ◌∷◌, refl, ap, ◌∙◌}
use Rattle.std.specs.Prelude.{Option, Some, None, is_none, ◌==◌, if◌then◌else◌}
use Rattle.std.specs.Option.{option_map, option_map_or}
use Rattle.master.specs.cleaner.declared.pass.Pass.{Pass}
use Rattle.master.specs.cleaner.Passes.{is_ready as is_ready_pass}
use Rattle.images.specs.Sorted.{changed}
use Rattle.images.specs.Steps.{more_replicas}
use Rattle.master.specs.log_head.declared.head.Roll.{Roll}
use Rattle.master.specs.log_head.declared.next.Next.{Next}
use Rattle.master.specs.log_head.declared.next.Next.TheVariants as next
use Rattle.master.specs.log_head.Head.{HeadValue}
use Rattle.master.specs.log_head.Steps.{fresh_head, lone_start}
use Rattle.master.specs.log_head.Steps.{old_image, with_all_taken, with_closed_replica, with_new_replica}
use Rattle.master.specs.log_head.Steps.{with_opened_replica}
use Rattle.master.specs.log_head.Steps.{with_whole_replica}
use Rattle.versioned_map.specs.declared.command.Record.{Record}
use Rattle.master.specs.master_failover.declared.push.Push.{Push}
use Rattle.master.specs.master_failover.declared.push.Push.TheVariants as push
use Rattle.master.specs.master_failover.Mending.{closed_more, first_lost, mended_data, opening, raised_data}
use Rattle.master.specs.master_failover.Mending.{repaired_data}
use Rattle.master.specs.master_failover.Mending.{sealed_anew, turn_roll, turned_data, was_headless, with_part}
use Rattle.master.specs.master_state.declared.config.Config.{Config}
use Rattle.master.specs.master_state.declared.failover.Failover.{Failover}
use Rattle.master.specs.master_state.declared.failover.Part.TheVariants as part
use Rattle.master.specs.master_state.declared.ledger.Posting.TheVariants as posting
use Rattle.master.specs.master_state.Data.{MasterData}
use Rattle.master.specs.master_state.Images.{with_closed}
use Rattle.master.specs.master_state.Log.{home}
use Rattle.master.specs.master_state.Steps.{closed_data, ledger_after, pass_ended, pushed_data, roll_ended, sealed_data}
use Rattle.master.specs.master_state.Steps.{taken_data}
use Rattle.master.specs.master_state.Waits.{next_seal}
use Rattle.master.specs.master_rolls.Ends.{pass_left}

pub record Outline : Type 0 where
  pub head : HeadValue
  pub pass : Option Pass
  pub failover : Option Failover
  pub next : ℕ
  pub config : Config
  pub history : List Record
  pub failed : List ℕ

abbrev pub outline : MasterData → Outline
outline d = record {
  head = d.head;
  pass = d.pass;
  failover = d.failover;
  next = d.next;
  config = d.config;
  history = d.history;
  failed = d.failed;
}

-- ---- an op of the head

-- the head once the op of a push was taken
abbrev pub head_after : HeadValue → Next → HeadValue
head_after h (next.OpenFirst j) = with_opened_replica h
head_after h (next.Extend j) = with_all_taken h j
head_after h (next.OpenWhole j) = with_whole_replica h
head_after h (next.OpenNew j) = option_map_or (with_new_replica h) h.roll h
head_after h (next.CloseOld j) = option_map_or (with_closed_replica h) h.roll h

-- the pass once one more replica of the old head was closed: a commit ends it
abbrev pub pass_closed : HeadValue → Option Pass → Option Pass
pass_closed h o =
    option_map_or (λ (r : Roll). if suc r.closed == h.replicas then pass_left o else o) h.roll o

abbrev pub pass_after : HeadValue → Option Pass → Next → Option Pass
pass_after h o (next.CloseOld j) = pass_closed h o
pass_after h o _ = o

abbrev pub pushed_outline : Outline → Next → Outline
pushed_outline o push = record o { head = head_after o.head push; pass = pass_after o.head o.pass push }

ended_outline : (pass : Option Pass) (d : MasterData) → d.pass ≡ pass
    → outline (roll_ended pass d) ≡ record (outline d) { pass = pass_left pass }
ended_outline None d is = ap (λ (o : Option Pass). record (outline d) { pass = o }) is
ended_outline (Some p) d is = go p.is_committing
  where
    go : (commits : Bool) → outline (if commits then pass_ended p d else d)
        ≡ record (outline d) { pass = if commits then None else Some p }
    go true = refl
    go false = ap (λ (o : Option Pass). record (outline d) { pass = o }) is

-- the old head's roll, with one more replica closed
pub closed_outline : (d : MasterData) (r : Roll) → outline (closed_data d r)
    ≡ record (outline d) {
      head = with_closed_replica d.head r;
      pass = if suc r.closed == d.head.replicas then pass_left d.pass else d.pass;
    }
closed_outline d r = go (suc r.closed == d.head.replicas)
  where
    before : MasterData
    before = record d {
      head = with_closed_replica d.head r;
      closed = with_closed d.closed d.head.id d.config.replicas (old_image d.head r);
    }

    go : (last : Bool) → outline (if last then roll_ended d.pass before else before)
        ≡ record (outline d) {
          head = with_closed_replica d.head r;
          pass = if last then pass_left d.pass else d.pass;
        }
    go true = ended_outline d.pass before refl
    go false = refl

taken_outline : (d : MasterData) (push : Next) → outline (taken_data d push) ≡ pushed_outline (outline d) push
taken_outline d (next.OpenFirst j) = refl
taken_outline d (next.Extend j) = refl
taken_outline d (next.OpenWhole j) = refl
taken_outline d (next.OpenNew j) = go d.head.roll
  where
    go : (o : Option Roll)
        → outline (option_map_or (λ (r : Roll). record d { head = with_new_replica d.head r }) o d)
        ≡ record (outline d) { head = option_map_or (with_new_replica d.head) o d.head }
    go None = refl
    go (Some r) = refl
taken_outline d (next.CloseOld j) = go d.head.roll
  where
    go : (o : Option Roll) → outline (option_map_or (closed_data d) o d) ≡ record (outline d) {
      head = option_map_or (with_closed_replica d.head) o d.head;
      pass =
          option_map_or (λ (r : Roll). if suc r.closed == d.head.replicas then pass_left d.pass else d.pass) o d.pass;
    }
    go None = refl
    go (Some r) = closed_outline d r

pub push_outline : (d : MasterData) (push : Next) → outline (pushed_data d push) ≡ pushed_outline (outline d) push
push_outline d push = taken_outline (record d { ledger = ledger_after d push }) push

-- ---- the parts of a failover

-- a first head's failover has ended, or the old head is closed next
pub raised_outline : (d : MasterData) → outline (raised_data d) ≡ record (outline d) {
  failover =
      if was_headless d then None else option_map (λ (f : Failover). record f { part = part.Closes }) d.failover;
}
raised_outline d = go (was_headless d)
  where
    go : (first : Bool) → outline (if first then record d {
      failover = None;
      abandoned = [];
      ledger = posting.Ended ∷ d.ledger;
    } else with_part d part.Closes) ≡ record (outline d) {
      failover = if first then None else option_map (λ (f : Failover). record f { part = part.Closes }) d.failover;
    }
    go true = refl
    go false = refl

-- the failover has ended, or stays as it is
pub repaired_outline : (d : MasterData) → outline (repaired_data d)
    ≡ record (outline d) { failover = if is_none (first_lost d) then None else d.failover }
repaired_outline d = go (is_none (first_lost d))
  where
    go : (whole : Bool) → outline (if whole then record d { failover = None } else d)
        ≡ record (outline d) { failover = if whole then None else d.failover }
    go true = refl
    go false = refl

-- the failover once the old head is closed: it has ended, or lost replicas are sealed next
abbrev pub repairing : Bool → Option Failover → Option Failover
repairing whole o = if whole then None else option_map (λ (f : Failover). record f { part = part.Repairs }) o

pub closed_more_outline : (d : MasterData) (j : ℕ) (r : Roll) → (whole : Bool) × (outline (closed_more d j r)
    ≡ record (outline d) {
      head = with_closed_replica d.head r;
      pass = if suc r.closed == d.head.replicas then pass_left d.pass else d.pass;
      failover = if suc j == d.config.replicas then repairing whole d.failover else d.failover;
    })
closed_more_outline d j r = (is_none (first_lost last), go (suc j == d.config.replicas))
  where
    before : MasterData
    before = record d { ledger = posting.Shut (home d.config d.failed d.head.id j) ∷ d.ledger }

    e : MasterData
    e = closed_data before r

    last : MasterData
    last = with_part (record e { abandoned = []; ledger = posting.Ended ∷ e.ledger }) part.Repairs

    closes : outline e ≡ record (outline d) {
      head = with_closed_replica d.head r;
      pass = if suc r.closed == d.head.replicas then pass_left d.pass else d.pass;
    }
    closes = closed_outline before r

    go : (ends : Bool) → outline (if ends then repaired_data last else e) ≡ record (outline d) {
      head = with_closed_replica d.head r;
      pass = if suc r.closed == d.head.replicas then pass_left d.pass else d.pass;
      failover = if ends then repairing (is_none (first_lost last)) d.failover else d.failover;
    }
    go true = repaired_outline last
        ∙ ap (λ (o : Outline). record o { failover = repairing (is_none (first_lost last)) o.failover }) closes
    go false = closes

pub sealed_anew_outline : (d : MasterData) (s j : ℕ)
    → (whole : Bool) × (outline (sealed_anew d s j)
    ≡ record (outline d) { failover = if whole then None else d.failover })
sealed_anew_outline d s j = (is_none (first_lost after), repaired_outline after)
  where
    after : MasterData
    after = record d {
      closed = changed d.closed s more_replicas;
      ledger = posting.Took s (home d.config d.failed s j) ∷ d.ledger;
    }

-- ---- a seal

pub sealed_outline : (d : MasterData) → outline (sealed_data d) ≡ outline d
sealed_outline d = go (next_seal d)
  where
    go : (o : Option (ℕ × ℕ)) → outline (option_map_or
        (λ (x : ℕ × ℕ). record d { closed = changed d.closed x.0 more_replicas }) o d) ≡ outline d
    go None = refl
    go (Some x) = refl

-- ---- the new head of a failover

-- what is made of the core once the next head is made, by whether no head was open before
abbrev pub turned_outline : MasterData → Bool → Outline
turned_outline d true = record (outline d) {
  head = fresh_head d.config.master d.config.replicas (lone_start d.next d.config.format d.safe);
  next = d.next + 1;
  failover = option_map opening d.failover;
}
turned_outline d false = record (outline d) {
  head = record d.head { roll = Some (turn_roll d) };
  next = d.next + 1;
  pass = option_map (λ (p : Pass). record p { is_committing = is_ready_pass d.config.replicas d.closed p }) d.pass;
  failover = option_map opening d.failover;
}

pub turned_is : (d : MasterData) → outline (turned_data d) ≡ turned_outline d (was_headless d)
turned_is d = go (was_headless d)
  where
    go : (first : Bool) → outline (if first then record d {
      head = fresh_head d.config.master d.config.replicas (lone_start d.next d.config.format d.safe);
      next = d.next + 1;
      failover = option_map opening d.failover;
      ledger = posting.Began d.next ∷ d.ledger;
    } else record d {
      head = record d.head { roll = Some (turn_roll d) };
      next = d.next + 1;
      pass =
          option_map (λ (p : Pass). record p { is_committing = is_ready_pass d.config.replicas d.closed p }) d.pass;
      failover = option_map opening d.failover;
      ledger = posting.Began d.next ∷ d.ledger;
    }) ≡ turned_outline d first
    go true = refl
    go false = refl

-- one more replica of the new head is open: that of a roll, or the first head
abbrev pub opened_head : HeadValue → HeadValue
opened_head h = option_map_or (with_new_replica h) h.roll (with_opened_replica h)

-- ---- what no push changes

-- the configuration, the history, and which backups failed
abbrev pub fixed_in : Outline → Config × List Record × List ℕ
fixed_in o = (o.config, o.history, o.failed)

abbrev pub fixed : MasterData → Config × List Record × List ℕ
fixed d = fixed_in (outline d)

pub pushed_fixed : (d : MasterData) (push : Next) → fixed (pushed_data d push) ≡ fixed d
pushed_fixed d push = ap fixed_in (push_outline d push)

pub turned_fixed : (d : MasterData) → fixed (turned_data d) ≡ fixed d
turned_fixed d = ap fixed_in (turned_is d) ∙ go (was_headless d)
  where
    go : (first : Bool) → fixed_in (turned_outline d first) ≡ fixed d
    go true = refl
    go false = refl

pub mended_fixed : (d : MasterData) (m : Push) → fixed (mended_data d m) ≡ fixed d
mended_fixed d (push.Head (next.Extend j)) = pushed_fixed d (next.Extend j)
mended_fixed d (push.Head (next.OpenWhole j)) = pushed_fixed d (next.OpenWhole j)
mended_fixed d push.Turn = turned_fixed d
mended_fixed d (push.Head (next.OpenNew j)) = refl
mended_fixed d (push.Head (next.OpenFirst j)) = refl
mended_fixed d (push.Raise id) = ap fixed_in (raised_outline d)
mended_fixed d (push.Head (next.CloseOld j)) = go d.head.roll
  where
    go : (o : Option Roll) → fixed (option_map_or (closed_more d j) o d) ≡ fixed d
    go None = refl
    go (Some r) = ap fixed_in (closed_more_outline d j r).1
mended_fixed d (push.Repair s j) = ap fixed_in (sealed_anew_outline d s j).1
