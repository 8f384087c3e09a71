-- The head in force and the new head of a master's log, by whether a head is in force.
use Rattle.std.proofs.Common.{◌≡◌, ℕ, ◌⊎◌, inl, inr, Bool, true, false, List, [], length, refl, sym, ap, subst, ◌∙◌}
use Rattle.std.proofs.Common.{arith}
use Rattle.std.specs.Prelude.{Option, Some, None, IfSome, IsSome, is_some, not, if◌then◌else◌}
use Rattle.std.specs.Option.{option_map, option_map_or}
use Rattle.std.proofs.lemmas.Bool.{le-leb}
use Rattle.entry.specs.Bag.{IsAmong}
use Rattle.entry.specs.Text.{Opening, opening_of}
use Rattle.log_head.specs.declared.head.Roll.{Roll}
use Rattle.log_head.specs.Head.{HeadValue, IsRollValue}
use Rattle.log_head.specs.Log.{head_of, start_in, start_of}
use Rattle.log_head.specs.log_laws.Heads.{ids_of}
use Rattle.master_core.specs.log_laws.Data.{Head, Mode, Calm, Rolls, new_of, is_failing, is_settled}
use Rattle.master_core.specs.log_laws.Steps.{no_head, ids_now}
use Rattle.master_core.proofs.log_memory.Ids.{now_is}
use Rattle.master_core.specs.master_state.declared.failover.Failover.{Failover}
use Rattle.master_core.specs.master_state.declared.failover.Part.{Part}
use Rattle.master_core.specs.master_state.declared.failover.Part.TheVariants as part
use Rattle.master_core.specs.master_state.Data.{MasterData}
use Rattle.master_core.specs.master_state.Invariant.{IsFailover, IsCore}
use Rattle.master_core.specs.master_state.Log.{is_opened, is_headless, in_force, calm_mode, new_start, failing_mode}
use Rattle.master_core.specs.master_state.Log.{mode_of}
use Rattle.master_core.specs.master_state.Log.{log_of}

pub open_or : (h : HeadValue) → (is_opened h ≡ true) ⊎ (is_opened h ≡ false)
open_or h = go (is_opened h) refl where
  go : (t : Bool) → is_opened h ≡ t → (is_opened h ≡ true) ⊎ (is_opened h ≡ false)
  go true is = inl is
  go false is = inr is

-- no failover is open, if the test says so
pub none_open : (o : Option Failover) → is_some o ≡ false → o ≡ None
none_open None is = refl
none_open (Some f) is = absurd (cc)

-- no head is in force, or there is one
pub headed_or : (d : MasterData) → (is_headless d ≡ false) ⊎ (is_headless d ≡ true)
headed_or d = go (is_headless d) refl where
  go : (t : Bool) → is_headless d ≡ t → (is_headless d ≡ false) ⊎ (is_headless d ≡ true)
  go true is = inr is
  go false is = inl is

-- the head as the log has it
abbrev pub real_head : HeadValue → Head
real_head h = record { start = (head_of h).start; loaded = (head_of h).loaded; units = (head_of h).units }

abbrev pub none_head : ℕ → Head
none_head format = record { start = no_head format; loaded = []; units = [] }

-- the mode while a roll is under way, and while none is
abbrev pub mode_by : Option Roll → Mode
mode_by roll = option_map_or (λ (r : Roll). Rolls (start_of r)) roll Calm

-- ---- by heads alone

-- a roll's new head has the roll's number
pub roll_id : (r : Roll) → (start_of r).id ≡ r.id
roll_id r = go (opening_of r.image) where
  go : (o : Option Opening) → (start_in r.id o).id ≡ r.id
  go None = refl
  go (Some o) = refl

module _ (d : MasterData) where
  pub force_headed : is_headless d ≡ false → in_force d ≡ real_head d.head
  force_headed is = ap (λ (b : Bool). if b then none_head d.config.format else real_head d.head) is

  pub force_headless : is_headless d ≡ true → in_force d ≡ none_head d.config.format
  force_headless is = ap (λ (b : Bool). if b then none_head d.config.format else real_head d.head) is

  -- ---- while no failover is open

  pub calm_headless : d.failover ≡ None → is_headless d ≡ not (is_opened d.head)
  calm_headless calm =
      ap (λ (o : Option Failover). option_map_or (λ (f : Failover). f.is_first) o (not (is_opened d.head))) calm

  -- an open head is in force, and none else
  pub headed : d.failover ≡ None → is_opened d.head ≡ true → is_headless d ≡ false
  headed calm is = calm_headless calm ∙ ap not is

  pub headless : d.failover ≡ None → is_opened d.head ≡ false → is_headless d ≡ true
  headless calm is = calm_headless calm ∙ ap not is

  pub mode_calm : d.failover ≡ None → mode_of d ≡ calm_mode d.head
  mode_calm calm = ap (λ (o : Option Failover). option_map_or (failing_mode d.head) o (calm_mode d.head)) calm

  pub mode_opened : d.failover ≡ None → is_opened d.head ≡ true → mode_of d ≡ mode_by d.head.roll
  mode_opened calm is =
      mode_calm calm ∙ ap (λ (b : Bool). if b then mode_by d.head.roll else Rolls (head_of d.head).start) is

  pub mode_unopened : d.failover ≡ None → is_opened d.head ≡ false → mode_of d ≡ Rolls (head_of d.head).start
  mode_unopened calm is =
      mode_calm calm ∙ ap (λ (b : Bool). if b then mode_by d.head.roll else Rolls (head_of d.head).start) is

new_by : (o : Option Roll) → new_of (mode_by o) ≡ option_map start_of o
new_by None = refl
new_by (Some r) = refl

works_by : (o : Option Roll) → is_failing (mode_by o) ≡ false
works_by None = refl
works_by (Some r) = refl

-- no failover is open in the log, if none is
pub never_fails : (d : MasterData) → d.failover ≡ None → is_failing (mode_of d) ≡ false
never_fails d calm = ap is_failing (mode_calm d calm) ∙ go (is_opened d.head) where
  go : (b : Bool) → is_failing (if b then mode_by d.head.roll else Rolls (head_of d.head).start) ≡ false
  go true = works_by d.head.roll
  go false = refl

settled_by : (o : Option Roll) → is_settled (mode_by o) ≡ true
settled_by None = refl
settled_by (Some r) = refl

-- then the head in force was opened after the last backup that failed
pub calm_settled : (d : MasterData) → d.failover ≡ None → is_settled (mode_of d) ≡ true
calm_settled d calm = ap is_settled (mode_calm d calm) ∙ go (is_opened d.head) where
  go : (b : Bool) → is_settled (if b then mode_by d.head.roll else Rolls (head_of d.head).start) ≡ true
  go true = settled_by d.head.roll
  go false = refl

failing_part : (h : HeadValue) (f : Failover) → is_failing (failing_mode h f) ≡ true
failing_part h f = go f.part refl where
  go : (p : Part) → f.part ≡ p → is_failing (failing_mode h f) ≡ true
  go part.Mends is = rw is refl
  go part.Opens is = rw is refl
  go part.Closes is = rw is refl
  go part.Repairs is = rw is refl

-- and one is, if one is
pub fails : (d : MasterData) (f : Failover) → d.failover ≡ Some f → is_failing (mode_of d) ≡ true
fails d f is =
    ap (λ (o : Option Failover). is_failing (option_map_or (failing_mode d.head) o (calm_mode d.head))) is
    ∙ failing_part d.head f

module _ (d : MasterData) (calm : d.failover ≡ None) where
  pub new_opened : is_opened d.head ≡ true → new_of (mode_of d) ≡ option_map start_of d.head.roll
  new_opened is = ap new_of (mode_opened d calm is) ∙ new_by d.head.roll

  pub new_unopened : is_opened d.head ≡ false → new_of (mode_of d) ≡ Some (head_of d.head).start
  new_unopened is = ap new_of (mode_unopened d calm is)

-- ---- of a core

module _ (d : MasterData) (core : IsCore d) where
  pub start_real : (head_of d.head).start.id ≡ 0 → ⊥
  start_real none = let same = core.image.id in let real = core.real in omega arith

  -- the ids in force
  pub now_headed : is_headless d ≡ false → ids_now (log_of d).head.start ≡ ids_of (head_of d.head).start
  now_headed is =
      ap (λ (h : Head). ids_now h.start) (force_headed d is) ∙ now_is (head_of d.head).start start_real

  pub now_headless : is_headless d ≡ true → ids_now (log_of d).head.start ≡ []
  now_headless is = ap (λ (h : Head). ids_now h.start) (force_headless d is)

  -- an older segment is so of the head in force
  pub others_in : (s : ℕ) → IsAmong s (head_of d.head).start.others → IsAmong s (log_of d).head.start.others
  others_in s older = elim (headed_or d) as (λ _. IsAmong s (log_of d).head.start.others) [
    | inl is ↦ subst (λ (h : Head). IsAmong s h.start.others) (sym (force_headed d is)) older
    | inr is ↦ absurd (subst (λ (ids : List ℕ). IsAmong s ids) (core.first is).others older)
  ]

  -- a roll is under way of an open head alone
  pub rolls_opened : (r : Roll) → d.head.roll ≡ Some r → is_opened d.head ≡ true
  rolls_opened r rolls =
      le-leb d.head.replicas (length d.head.taken)
      (let whole = (subst (λ (o : Option Roll). IfSome o (IsRollValue d.head.replicas (length d.head.taken))) rolls
      core.head.roll).whole in omega arith)

  pub failover_of : (f : Failover) → d.failover ≡ Some f → IsFailover d f
  failover_of f is = subst (λ (o : Option Failover). IfSome o (IsFailover d)) is core.failover

  -- the first head isn't rolled from
  pub rolls_headed : (r : Roll) → d.head.roll ≡ Some r → is_headless d ≡ false
  rolls_headed r rolls = go d.failover refl where
    go : (o : Option Failover) → d.failover ≡ o → is_headless d ≡ false
    go None calm = headed d calm (rolls_opened r rolls)
    go (Some f) is =
        ap (λ (o : Option Failover). option_map_or (λ (x : Failover). x.is_first) o (not (is_opened d.head))) is
        ∙ by_first f.is_first refl
      where
        by_first : (t : Bool) → f.is_first ≡ t → f.is_first ≡ false
        by_first true first =
            let none = ((failover_of f is).first first).0 in absurd (let both = sym none ∙ rolls in cc)
        by_first false later = later

  -- the new head of a failover that has a head in force is a roll's
  new_failing : (f : Failover) → d.failover ≡ Some f → f.is_first ≡ false
      → new_of (failing_mode d.head f) ≡ option_map start_of d.head.roll
  new_failing f is later = go f.part refl where
    own : IsFailover d f
    own = failover_of f is

    turned : (o : Option Roll) → IsSome o
        → Some (option_map_or start_of o (head_of d.head).start) ≡ option_map start_of o
    turned None some = absurd (cc)
    turned (Some r) some = refl

    turn : IsSome d.head.roll → Some (new_start d.head f) ≡ option_map start_of d.head.roll
    turn some =
        ap (λ (t : Bool). Some (if t then (head_of d.head).start
        else option_map_or start_of d.head.roll (head_of d.head).start)) later
        ∙ turned d.head.roll some

    go : (p : Part) → f.part ≡ p → new_of (failing_mode d.head f) ≡ option_map start_of d.head.roll
    go part.Mends at = rw at (sym (ap (option_map start_of) (own.mends at).0))
    go part.Opens at = rw at (turn (own.opens at later).0)
    go part.Closes at = rw at (turn (own.closes at).3)
    go part.Repairs at = rw at (sym (ap (option_map start_of) (own.repairs at).2))

  -- while a head is in force, the new one is that of a roll
  pub new_headed : is_headless d ≡ false → new_of (log_of d).mode ≡ option_map start_of d.head.roll
  new_headed is = go d.failover refl where
    go : (o : Option Failover) → d.failover ≡ o → new_of (log_of d).mode ≡ option_map start_of d.head.roll
    go None calm = new_opened d calm (by_open (open_or d.head)) where
      by_open : (is_opened d.head ≡ true) ⊎ (is_opened d.head ≡ false) → is_opened d.head ≡ true
      by_open (inl opened) = opened
      by_open (inr few) = absurd (let never : true ≡ false = sym (headless d calm few) ∙ is in cc)
    go (Some f) at =
        ap (λ (o : Option Failover). new_of (option_map_or (failing_mode d.head) o (calm_mode d.head))) at
        ∙ new_failing f at (sym (ap (λ (o : Option Failover).
        option_map_or (λ (x : Failover). x.is_first) o (not (is_opened d.head))) at) ∙ is)

  pub new_now : (r : Roll) → d.head.roll ≡ Some r → new_of (log_of d).mode ≡ Some (start_of r)
  new_now r rolls = new_headed (rolls_headed r rolls) ∙ ap (option_map start_of) rolls
