-- What a step adds to a master.
use Rattle.std.proofs.Common.{◌≡◌, ◌<◌, ◌≤◌, ℕ, Bool, true, false, List, [], ◌++◌, length, refl, sym, ap, subst, inl}
use Rattle.std.proofs.Common.{inr, ◌∙◌, arith}
use Rattle.std.proofs.lemmas.Bool.{and_parts}
use Rattle.std.proofs.lemmas.List.{append-nil}
use Rattle.std.specs.Prelude.{Option, Some, None, Result, Ok, Err, is_none, is_some, ◌&&◌, if◌then◌else◌}
use Rattle.std.specs.Prelude.{unwrap_or, ◌⊎◌}
use Rattle.master.specs.cleaner.declared.fault.PassFault.TheVariants.{IsHead, NotInLog, PassOpen}
use Rattle.replica.specs.Picture.{FleetState}
use Rattle.versioned_map.specs.declared.command.Command.{Command}
use Rattle.versioned_map.specs.declared.command.Record.{Record}
use Rattle.versioned_map.specs.declared.command.Reply.{Reply}
use Rattle.master.specs.log_head.Head.{is_open}
use Rattle.master.specs.log_laws.Data.{FailData, durable_of}
use Rattle.master.specs.log_laws.Shown.{Op}
use Rattle.master.specs.master_state.declared.config.Config.{Config}
use Rattle.master.specs.master_state.declared.step.Refusal.{Refusal}
use Rattle.master.specs.master_state.declared.step.Refusal.TheVariants as refusal
use Rattle.master.specs.master_state.declared.step.Step.TheVariants.{Apply, Push, BeginRoll, Compact}
use Rattle.master.specs.master_state.declared.step.StepAnswer.{StepAnswer}
use Rattle.master.specs.master_state.declared.step.StepAnswer.TheVariants.{Applied}
use Rattle.master.specs.master_state.Budget.{is_working}
use Rattle.master.specs.master_state.Causes.{is_done, is_pushed, command_refusal, early_refusal, late_refusal}
use Rattle.master.specs.master_state.Causes.{step_refusal}
use Rattle.master.specs.master_state.Data.{MasterData}
use Rattle.master.specs.master_state.Log.{log_of}
use Rattle.master.specs.Keeps.{Keeps}
use Rattle.master.specs.Steps.{Accepts, Steps, Declines, FailsTake, IsPushOp}
use Rattle.master.specs.Valid.{IsValid}
use Rattle.master.specs.World.{World}
use Rattle.driving.specs.Rolls.{is_lost}
use Rattle.driving.specs.Served.{LivesOn, IsSpent, record_of, is_of_push}
pub use Rattle.driving.specs.GoesOn.{goes_nowhere}
use Rattle.master.proofs.Keeping.{steps_remember}
use Rattle.master.proofs.PushKinds.{kinds}
use Rattle.driving.proofs.Outlines.{fixed, mended_fixed, pushed_fixed, turned_fixed}

-- ---- a push

pub refused_history : (IsOp : Op → Type 0) (old new : World) (r : Refusal) → FailsTake IsOp old r new
    → new.knows.history ≡ old.knows.history
refused_history IsOp old new refusal.NoMemory h = ap (λ (w : World). w.knows.history) h
refused_history IsOp old new refusal.Spent h = ap (λ (w : World). w.knows.history) h.1
refused_history IsOp old new refusal.Halted h = ap (λ (d : MasterData). d.history) h.1
refused_history IsOp old new (refusal.Lost b) h = ap (λ (d : MasterData). d.history) h.1
refused_history IsOp old new r h = absurd h

-- the take of an op fails as spent at a fleet that is
pub spent_take : (IsOp : Op → Type 0) (old new : World) → FailsTake IsOp old refusal.Spent new → IsSpent new.fleet
spent_take IsOp old new h = subst (λ (w : World). IsSpent w.fleet) (sym h.1) h.0

abbrev history_in : Config × List Record × List ℕ → List Record
history_in f = f.1

-- a push that is accepted leaves the configuration, the history, and which backups failed
pub accepted_fixed : (old new : World) (a : StepAnswer) → Accepts old Push a new
    → fixed new.knows ≡ fixed old.knows
accepted_fixed old new a accepts = elim (kinds old a new accepts) as (λ _. fixed new.knows ≡ fixed old.knows) [
  | inl h ↦ ap fixed h.rest ∙ pushed_fixed old.knows h.push
  | inr h ↦ ap fixed h.rest ∙ mended_fixed old.knows h.mend
]

pub pushed_history : (old new : World) (r : Result StepAnswer Refusal) → Steps old Push r new
    → new.knows.history ≡ old.knows.history
pushed_history old new (Ok a) h = ap history_in (accepted_fixed old new a h)
pushed_history old new (Err r) (inl h) = ap (λ (w : World). w.knows.history) h.1
pushed_history old new (Err r) (inr (test, inl h)) = ap (λ (w : World). w.knows.history) h.3
pushed_history old new (Err r) (inr (test, inr (inl h))) =
    ap (λ (d : MasterData). d.history) h.3 ∙ ap history_in (turned_fixed old.knows)
pushed_history old new (Err r) (inr (test, inr (inr h))) = refused_history (IsPushOp old) old new r h.1

pub push_goes_on : (from : MasterData) (old new : World) (r : Result StepAnswer Refusal) → LivesOn from old.knows []
    → Steps old Push r new
    → Keeps 1 old new → LivesOn from new.knows []
push_goes_on from old new r before push kept =
    let was = before.durable in
    let is = kept.durable in
    record {
      config = kept.config ∙ before.config;
      origin = kept.origin ∙ before.origin;
      durable = omega arith;
      history = pushed_history old new r push ∙ before.history;
      forgotten = steps_remember old new Push r push ∙ before.forgotten;
    }

-- what the test of a push refuses as
pub push_tested : (halted done : Bool) (r : Refusal)
    → (if halted then Some refusal.Halted else if done then Some refusal.Nothing else None) ≡ Some r
    → (r ≡ refusal.Halted) ⊎ ((r ≡ refusal.Nothing) × (done ≡ true))
push_tested true done r e = inl (sym (ap (λ (x : Option Refusal). unwrap_or x r) e))
push_tested false true r e = inr (sym (ap (λ (x : Option Refusal). unwrap_or x r) e), refl)
push_tested false false r e = absurd (cc)

-- why it was refused for good, if something waited
pub refused_push : (old new : World) (r : Refusal) → Declines old Push r new → is_lost r ≡ false
    → (is_done old.knows ≡ true → ⊥) → is_of_push r ≡ true
refused_push old new r (inl h) kept waits =
    elim (push_tested old.knows.is_halted (is_done old.knows) r h.0) as (λ _. is_of_push r ≡ true) [
      | inl is ↦ ap is_of_push is
      | inr both ↦ absurd (waits both.1)
    ]
refused_push old new r (inr (test, inl h)) kept waits = ap is_of_push h.2
refused_push old new r (inr (test, inr (inl h))) kept waits = ap is_of_push h.2
refused_push old new refusal.NoMemory (inr (test, inr (inr h))) kept waits = refl
refused_push old new refusal.Spent (inr (test, inr (inr h))) kept waits = refl
refused_push old new refusal.Halted (inr (test, inr (inr h))) kept waits = refl
refused_push old new (refusal.Lost b) (inr (test, inr (inr h))) kept waits = absurd (cc)
refused_push old new r (inr (test, inr (inr h))) kept waits = absurd h.1

-- something waits as long as a record isn't durable
pub record_waits : (old now : MasterData) (f : FleetState) (place : ℕ) → IsValid now f → LivesOn old now []
    → place < length old.history
    → durable_of (log_of now) ≤ place → is_done now ≡ true → ⊥
record_waits old now f place valid on within short done =
    let all = valid.pushed done in
    let same = ap length (on.history ∙ append-nil old.history) in
    absurd (omega arith)

-- a push is refused as Nothing where nothing waits
pub nothing_waits : (old new : World) → Declines old Push refusal.Nothing new
    → (new ≡ old) × (is_done new.knows ≡ true)
nothing_waits old new (inl h) =
    (h.1, ap (λ (w : World). is_done w.knows) h.1 ∙ tested (push_tested old.knows.is_halted (is_done old.knows) _ h.0))
  where
    tested : (refusal.Nothing ≡ refusal.Halted) ⊎ ((refusal.Nothing ≡ refusal.Nothing) × (is_done old.knows ≡ true))
        → is_done old.knows ≡ true
    tested (inl is) = absurd (cc)
    tested (inr both) = both.1
nothing_waits old new (inr (test, inl h)) = let never = h.2 in absurd (cc)
nothing_waits old new (inr (test, inr (inl h))) = let never = h.2 in absurd (cc)
nothing_waits old new (inr (test, inr (inr h))) = absurd h.1

-- and nothing waits only where the head is open and no failover is
pub done_works : (d : MasterData) → is_done d ≡ true → is_working d ≡ true
done_works d done =
    let both = and_parts (is_none d.failover) (is_pushed d.head) done in
    let opened = (and_parts (is_open d.head) _ both.1).0 in
    ap (λ (b : Bool). b && is_none d.failover) opened ∙ both.0

pub open_push : (old new : World) (r : Refusal) → Declines old Push r new → r ≡ refusal.Nothing
    → is_working new.knows ≡ true
open_push old new r h is =
    done_works new.knows (nothing_waits old new (subst (λ (x : Refusal). Declines old Push x new) is h)).1

-- a push is refused as spent by a fleet that is
pub spent_push : (old new : World) (r : Refusal) → Declines old Push r new → r ≡ refusal.Spent → IsSpent new.fleet
spent_push old new r h is = go (subst (λ (x : Refusal). Declines old Push x new) is h)
  where
    tested : (refusal.Spent ≡ refusal.Halted) ⊎ ((refusal.Spent ≡ refusal.Nothing) × (is_done old.knows ≡ true)) → ⊥
    tested (inl is) = cc
    tested (inr both) = let never = both.0 in cc

    go : Declines old Push refusal.Spent new → IsSpent new.fleet
    go (inl h) = absurd (tested (push_tested old.knows.is_halted (is_done old.knows) _ h.0))
    go (inr (test, inl h)) = let never = h.2 in absurd (cc)
    go (inr (test, inr (inl h))) = let never = h.2 in absurd (cc)
    go (inr (test, inr (inr h))) = spent_take (IsPushOp old) old new h.1

-- ---- a roll that begins

pub begun_history : (old new : World) (r : Result StepAnswer Refusal) → Steps old BeginRoll r new
    → new.knows.history ≡ old.knows.history
begun_history old new (Ok a) h = ap (λ (d : MasterData). d.history) h.0.rest
begun_history old new (Err r) h = ap (λ (w : World). w.knows.history) h.0

-- no test refuses a roll as spent, and a roll takes nothing
pub spent_begin : (old new : World) (r : Refusal) → Declines old BeginRoll r new → r ≡ refusal.Spent → ⊥
spent_begin old new r h is = go (subst (λ (x : Refusal). Declines old BeginRoll x new) is h)
  where
    tested : (halted opened spent may : Bool)
        → (if halted then Some refusal.Halted else if opened then Some refusal.Rolling
        else if spent then Some refusal.SegmentsSpent else if may then Some refusal.Full else None)
        ≡ Some refusal.Spent → ⊥
    tested true opened spent may e = cc
    tested false true spent may e = cc
    tested false false true may e = cc
    tested false false false true e = cc
    tested false false false false e = cc

    go : Declines old BeginRoll refusal.Spent new → ⊥
    go (same, inl test) = tested _ _ _ _ test
    go (same, inr memory) = let none = memory.1 in cc

-- ---- the test that comes before all others

-- it refuses as Halted or as Rolling
pub first_never : (r : Refusal) → (r ≡ refusal.Halted → ⊥) → (r ≡ refusal.Rolling → ⊥) → (d : MasterData)
    (rest : Option Refusal) → (rest ≡ Some r → ⊥)
    → (if is_some (step_refusal d) then step_refusal d else rest) ≡ Some r → ⊥
first_never r halts rolls d rest others e = go d.is_halted (is_some d.failover) e
  where
    test : Bool → Bool → Option Refusal
    test halted failing =
        if halted then Some refusal.Halted else if failing then Some refusal.Rolling else None

    go : (halted failing : Bool)
        → (if is_some (test halted failing) then test halted failing else rest) ≡ Some r → ⊥
    go true failing e = halts (sym (ap (λ (x : Option Refusal). unwrap_or x r) e))
    go false true e = rolls (sym (ap (λ (x : Option Refusal). unwrap_or x r) e))
    go false false e = others e

pub first_unspent : (d : MasterData) (rest : Option Refusal) → (rest ≡ Some refusal.Spent → ⊥)
    → (if is_some (step_refusal d) then step_refusal d else rest) ≡ Some refusal.Spent → ⊥
first_unspent d rest others e = first_never refusal.Spent (λ h. cc) (λ h. cc) d rest others e

-- ---- a compaction

pub compacted_history : (old new : World) (id : ℕ) (r : Result StepAnswer Refusal) → Steps old (Compact id) r new
    → new.knows.history ≡ old.knows.history
compacted_history old new id (Ok a) h = ap (λ (d : MasterData). d.history) h.0.rest
compacted_history old new id (Err r) h = ap (λ (w : World). w.knows.history) h.0

-- no test refuses a compaction as spent, and it takes nothing
pub spent_compact : (old new : World) (id : ℕ) (r : Refusal) → Declines old (Compact id) r new → r ≡ refusal.Spent → ⊥
spent_compact old new id r h is = go (subst (λ (x : Refusal). Declines old (Compact id) x new) is h)
  where
    tested : (head listed victim : Bool)
        → (if head then Some (refusal.Pass (IsHead id)) else if listed then Some (refusal.Pass (NotInLog id))
        else if victim then Some (refusal.Pass PassOpen) else None) ≡ Some refusal.Spent → ⊥
    tested true listed victim e = cc
    tested false true victim e = cc
    tested false false true e = cc
    tested false false false e = cc

    go : Declines old (Compact id) refusal.Spent new → ⊥
    go (same, inl test) = first_unspent old.knows _ (tested _ _ _) test
    go (same, inr memory) = let none = memory.1 in cc

-- ---- a command

abbrev reply_in : Reply → StepAnswer → Reply
reply_in other (Applied p r) = r
reply_in other _ = other

abbrev place_in : StepAnswer → ℕ
place_in (Applied p r) = p
place_in _ = 0

-- the record that was added
pub applied_goes_on : (old new : World) (command : Command) (place : ℕ) (reply : Reply)
    → Steps old (Apply 0 command) (Ok (Applied place reply)) new
    → Keeps 1 old new → LivesOn old.knows new.knows (record_of command reply) × (place ≡ length old.knows.history)
applied_goes_on old new command place reply is kept =
    let same = ap (reply_in reply) is.0.told in (
      record {
        config = kept.config;
        origin = kept.origin;
        durable = kept.durable;
        history = ap (λ (l : FailData). l.history) is.0.log
            ∙ ap (λ (x : Reply). old.knows.history ++ record_of command x) (sym same);
        forgotten = steps_remember old new (Apply 0 command) (Ok (Applied place reply)) is;
      },
      ap place_in is.0.told,
    )

-- no test refuses a command as spent
early_unspent : (h t k f : Bool)
    → (if h then Some refusal.Halted else if t then Some refusal.TooBig else if k then Some refusal.NoTablet
    else if f then Some refusal.HistoryFull else None) ≡ Some refusal.Spent → ⊥
early_unspent true t k f e = cc
early_unspent false true k f e = cc
early_unspent false false true f e = cc
early_unspent false false false true e = cc
early_unspent false false false false e = cc

late_unspent : (v o e f r : Bool)
    → (if v then Some refusal.VersionsSpent else if o then Some refusal.Overcommit else if e then None
    else if f then Some refusal.Full else if r then Some refusal.Rolling else None) ≡ Some refusal.Spent → ⊥
late_unspent true o e f r is = cc
late_unspent false true e f r is = cc
late_unspent false false true f r is = cc
late_unspent false false false true r is = cc
late_unspent false false false false true is = cc
late_unspent false false false false false is = cc

unspent : (d : MasterData) (command : Command) → command_refusal d command ≡ Some refusal.Spent → ⊥
unspent d command is = go (is_none (early_refusal d command)) is
  where
    go : (b : Bool) → (if b then late_refusal d command else early_refusal d command) ≡ Some refusal.Spent → ⊥
    go true e = late_unspent _ _ _ _ _ e
    go false e = early_unspent _ _ _ _ e

-- a command is refused as spent by a fleet that is: by none
pub spent_command : (old new : World) (command : Command) (r : Refusal) → Declines old (Apply 0 command) r new
    → r ≡ refusal.Spent → ⊥
spent_command old new command r h is = go (subst (λ (x : Refusal). Declines old (Apply 0 command) x new) is h)
  where
    go : Declines old (Apply 0 command) refusal.Spent new → ⊥
    go (same, inl test) = unspent old.knows command test
    go (same, inr memory) = let none = memory.1 in cc
