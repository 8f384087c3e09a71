-- What a push leaves as it was.
use Rattle.std.proofs.Common.{◌≡◌, suc, Bool, true, false, List, refl}
use Rattle.std.specs.Prelude.{Option, Some, None, ◌==◌, if◌then◌else◌}
use Rattle.std.specs.Option.{option_map_or}
use Rattle.master_core.specs.cleaner.declared.pass.Pass.{Pass as OpenPass}
use Rattle.log_head.specs.declared.head.Roll.{Roll}
use Rattle.log_head.specs.declared.next.Next.{Next}
use Rattle.log_head.specs.declared.next.Next.TheVariants as next
use Rattle.log_head.specs.Steps.{with_new_replica, with_closed_replica, old_image}
use Rattle.master_core.specs.master_state.declared.ledger.Posting.{Posting}
use Rattle.master_core.specs.master_state.Data.{MasterData}
use Rattle.master_core.specs.master_state.Images.{with_closed}
use Rattle.master_core.specs.master_state.Steps.{pass_ended, roll_ended, closed_data, taken_data, ledger_after}
use Rattle.master_core.specs.master_state.Steps.{pushed_data}

-- the configuration, the history, what was loaded, the bytes of the live objects and what is forgotten are the same,
-- and so is whether a backup failed
abbrev pub SameRest : MasterData → MasterData → Type 0
SameRest e d = (e.config ≡ d.config) × (e.history ≡ d.history) × (e.is_halted ≡ d.is_halted)
    × (e.origin ≡ d.origin) × (e.live ≡ d.live) × (e.forgotten ≡ d.forgotten)

-- the end of a roll leaves them so
ended_rest : (o : Option OpenPass) (e : MasterData) → SameRest (roll_ended o e) e
ended_rest None e = (refl, refl, refl, refl, refl, refl)
ended_rest (Some p) e = go p.is_committing where
  gives : Bool → MasterData
  gives t = if t then pass_ended p e else e

  go : (t : Bool) → SameRest (gives t) e
  go true = (refl, refl, refl, refl, refl, refl)
  go false = (refl, refl, refl, refl, refl, refl)

pub closed_rest : (d : MasterData) (r : Roll) → SameRest (closed_data d r) d
closed_rest d r = go (suc r.closed == d.head.replicas) where
  closed_first : MasterData
  closed_first = record d {
    head = with_closed_replica d.head r;
    closed = with_closed d.closed d.head.id d.config.replicas (old_image d.head r);
  }

  gives : Bool → MasterData
  gives t = if t then roll_ended d.pass closed_first else closed_first

  go : (t : Bool) → SameRest (gives t) d
  go true = ended_rest d.pass closed_first
  go false = (refl, refl, refl, refl, refl, refl)

-- nor does a push
taken_rest : (d : MasterData) (push : Next) → SameRest (taken_data d push) d
taken_rest d (next.OpenFirst j) = (refl, refl, refl, refl, refl, refl)
taken_rest d (next.Extend j) = (refl, refl, refl, refl, refl, refl)
taken_rest d (next.OpenWhole j) = (refl, refl, refl, refl, refl, refl)
taken_rest d (next.OpenNew j) = go d.head.roll where
  gives : Option Roll → MasterData
  gives o = option_map_or (λ (r : Roll). record d { head = with_new_replica d.head r }) o d

  go : (o : Option Roll) → SameRest (gives o) d
  go None = (refl, refl, refl, refl, refl, refl)
  go (Some r) = (refl, refl, refl, refl, refl, refl)
taken_rest d (next.CloseOld j) = go d.head.roll where
  gives : Option Roll → MasterData
  gives o = option_map_or (closed_data d) o d

  go : (o : Option Roll) → SameRest (gives o) d
  go None = (refl, refl, refl, refl, refl, refl)
  go (Some r) = closed_rest d r

pub same_rest : (d : MasterData) (push : Next) → SameRest (pushed_data d push) d
same_rest d push = taken_rest (posted_with (ledger_after d push)) push where
  posted_with : List Posting → MasterData
  posted_with ps = record d { ledger = ps }
