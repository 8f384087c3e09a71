-- The head in force and the mode of a log, once the head took a unit or the loading ended.
use Rattle.std.proofs.Common.{◌≡◌, ◌⊎◌, ℕ, inl, inr, Bool, true, false, List, [], ◌∷◌, length, refl, ap, ◌∙◌, arith}
use Rattle.std.specs.Prelude.{Option, None, Some, not, nat_le, if◌then◌else◌}
use Rattle.std.specs.Option.{option_map_or}
use Rattle.std.proofs.lemmas.Bool.{le-leb}
use Rattle.entry.specs.declared.entry.Entry.{Entry}
use Rattle.master_state.specs.log_laws.Data.{Head as FailHead, Calm, Rolls, Opens, Closes, front_entries}
use Rattle.master_state.specs.log_laws.Steps.{no_head}
use Rattle.log_head.specs.declared.head.Roll.{Roll}
use Rattle.log_head.specs.Head.{HeadValue, is_open}
use Rattle.log_head.specs.Log.{head_of, start_of, settled_head}
use Rattle.log_head.specs.log_laws.Heads.{Head}
use Rattle.log_head.specs.log_laws.HeadSteps.{with_unit}
use Rattle.master_state.specs.declared.config.Config.{Config}
use Rattle.master_state.specs.declared.failover.Failover.{Failover}
use Rattle.master_state.specs.declared.failover.Part.{Part}
use Rattle.master_state.specs.declared.failover.Part.TheVariants as part
use Rattle.master_state.specs.Data.{MasterData}
use Rattle.master_state.specs.Log.{is_opened, is_headless, in_force, calm_mode, new_start, failing_mode, mode_of}
use Rattle.master_state.proofs.Refusals.{open_parts}

-- an open head was opened on all its backups
pub open_opened : (h : HeadValue) → is_open h ≡ true → is_opened h ≡ true
open_opened h opened =
    let all = (open_parts h opened).0 in
    le-leb h.replicas (length h.taken) (omega arith)

-- so it is in force, if no failover is open
pub open_headed : (d : MasterData) → is_open d.head ≡ true → d.failover ≡ None → is_headless d ≡ false
open_headed d opened calm = let all = open_opened d.head opened in rw (calm, all) refl

-- and no roll is under way
pub open_calm : (d : MasterData) → is_open d.head ≡ true → d.failover ≡ None → mode_of d ≡ Calm
open_calm d opened calm =
    let all = open_opened d.head opened in
    let none = (open_parts d.head opened).1 in
    rw (calm, all, none) refl

-- ---- a head that is as far as before

pub headless_same : (d e : MasterData) → e.failover ≡ d.failover → e.head.replicas ≡ d.head.replicas
    → e.head.taken ≡ d.head.taken
    → is_headless e ≡ is_headless d
headless_same d e failover replicas taken = λ i.
    option_map_or (λ (f : Failover). f.is_first) (failover i) (not (nat_le (replicas i) (length (taken i))))

failing_same : (h g : HeadValue) → g.roll ≡ h.roll → (head_of g).start ≡ (head_of h).start → (f : Failover)
    → failing_mode g f ≡ failing_mode h f
failing_same h g roll start f = go f.part refl where
  turn : new_start g f ≡ new_start h f
  turn = λ i. if f.is_first then start i else option_map_or start_of (roll i) (start i)

  go : (p : Part) → f.part ≡ p → failing_mode g f ≡ failing_mode h f
  go part.Mends is = rw is refl
  go part.Opens is = rw is (ap Opens turn)
  go part.Closes is = rw is (ap Closes turn)
  go part.Repairs is = rw is refl

-- the same mode, if nothing changed that it speaks of
pub mode_same : (d e : MasterData) → e.failover ≡ d.failover → e.head.replicas ≡ d.head.replicas
    → e.head.taken ≡ d.head.taken → e.head.roll ≡ d.head.roll → (head_of e.head).start ≡ (head_of d.head).start
    → mode_of e ≡ mode_of d
mode_same d e failover replicas taken roll start =
    ap (λ (o : Option Failover). option_map_or (failing_mode e.head) o (calm_mode e.head)) failover ∙ go d.failover
  where
    calm : calm_mode e.head ≡ calm_mode d.head
    calm = λ i.
        if nat_le (replicas i) (length (taken i)) then option_map_or (λ (r : Roll). Rolls (start_of r)) (roll i) Calm
        else Rolls (start i)

    go : (o : Option Failover) → option_map_or (failing_mode e.head) o (calm_mode e.head)
        ≡ option_map_or (failing_mode d.head) o (calm_mode d.head)
    go None = calm
    go (Some f) = failing_same d.head e.head roll start f

-- the head in force, by whether there is none
abbrev force : Config → Bool → Head → FailHead
force c headless l =
    if headless then record { start = no_head c.format; loaded = []; units = [] }
    else record { start = l.start; loaded = l.loaded; units = l.units }

-- ---- a unit

unit_by : (c : Config) (n : ℕ) (u : List Entry) (headless : Bool) (l : Head) → (u ≡ []) ⊎ (headless ≡ false)
    → force c headless (record l { units = with_unit l.units n u })
    ≡ record (force c headless l) { units = with_unit (force c headless l).units n u }
unit_by c n u false l either = refl
unit_by c n [] true l either = refl
unit_by c n (e ∷ es) true l (inl is) = absurd (cc)
unit_by c n (e ∷ es) true l (inr is) = absurd (cc)

-- the head in force has the unit that the head took
pub force_unit : (d e : MasterData) (n : ℕ) (u : List Entry) → e.config ≡ d.config → is_headless e ≡ is_headless d
    → head_of e.head ≡ record (head_of d.head) { units = with_unit (head_of d.head).units n u }
    → (u ≡ []) ⊎ (is_headless d ≡ false)
    → in_force e ≡ record (in_force d) { units = with_unit (in_force d).units n u }
force_unit d e n u config same grows either =
    (λ i. force (config i) (same i) (grows i)) ∙ unit_by d.config n u (is_headless d) (head_of d.head) either

-- ---- all counts as loaded

settled_by : (c : Config) (replicas : ℕ) (headless : Bool) (l : Head)
    → force c headless (settled_head replicas l) ≡ record {
      start = (force c headless l).start;
      loaded = front_entries (force c headless l) (length (force c headless l).units);
      units = [];
    }
settled_by c replicas true l = refl
settled_by c replicas false l = refl

pub force_settled : (d e : MasterData) (replicas : ℕ) → e.config ≡ d.config → is_headless e ≡ is_headless d
    → head_of e.head ≡ settled_head replicas (head_of d.head)
    → in_force e ≡ record {
      start = (in_force d).start;
      loaded = front_entries (in_force d) (length (in_force d).units);
      units = [];
    }
force_settled d e replicas config same settles =
    (λ i. force (config i) (same i) (settles i)) ∙ settled_by d.config replicas (is_headless d) (head_of d.head)
