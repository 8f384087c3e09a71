-- What every step keeps.
use Rattle.std.proofs.Common.{◌≡◌, ◌⊎◌, ℕ, ◌+◌, ◌<◌, ◌≤◌, inl, inr, Bool, true, false, List, [], ◌∷◌, ◌++◌}
use Rattle.std.proofs.Common.{length, refl}
use Rattle.std.proofs.Common.{sym, ap, subst, ◌∙◌, append_assoc, arith}
use Rattle.std.specs.Prelude.{Option, Some, None, IsSome, Result, Ok, Err, nat_lt, if◌then◌else◌}
use Rattle.std.specs.Option.{option_map_or}
use Rattle.std.proofs.lemmas.List.{append-nil, length-append}
use Rattle.std.proofs.lemmas.Option.{same_Some}
use Rattle.master_core.specs.cleaner.declared.pass.Pass.{Pass}
use Rattle.images.specs.Sorted.{changed}
use Rattle.images.specs.Steps.{more_replicas}
use Rattle.entry.specs.declared.entry.Entry.{Entry}
use Rattle.entry.specs.Bag.{IsAmong}
use Rattle.entry.proofs.BagLemmas.{among_last}
use Rattle.replica.specs.Op.{OpValue}
use Rattle.replica.specs.Picture.{Replica, FleetState, is_same_place}
use Rattle.replica.specs.Registry.{Raises, RefusesRaise}
use Rattle.replica.specs.Take.{Refuses, taken, with_effect, effect, unanswered}
use Rattle.replica.specs.declared.op.TakeFault.TheVariants as take_fault
use Rattle.versioned_map.specs.declared.command.Command.{Command}
use Rattle.log_head.specs.log_laws.Heads.{Start, ids_of}
use Rattle.log_head.specs.log_laws.Ops.{op_of}
use Rattle.log_head.proofs.log_laws.PicturePlaces.{place_tells}
use Rattle.master_core.specs.log_laws.Data.{Calm, Mode, FailData, new_of, is_failing, taken_records, durable_of}
use Rattle.master_core.specs.log_laws.Runs.{IsThere, World as ModelWorld, Applies as AppliesThere, Takes as TakesThere}
use Rattle.master_core.specs.log_laws.Shown.{Op, On, Raise, Shown as ModelShown}
use Rattle.master_core.specs.log_laws.Steps.{with_taken, applied as log_applied, ended, MayApply, Extends, OpensNew}
use Rattle.master_core.specs.log_laws.Steps.{ClosesOld}
use Rattle.master_core.specs.log_laws.Text.{Replica as ModelReplica}
use Rattle.master_core.proofs.log_laws.DurableSteps.{durable_stays, durable_is_within}
use Rattle.master_core.specs.log_bytes.Ops.{log_op_for, TakesOp, RefusesOp}
use Rattle.master_core.specs.log_memory.Fleet.{read_of}
use Rattle.master_core.specs.log_memory.Intact.{IsIntact, Knows}
use Rattle.master_core.specs.log_memory.Memory.{FailMemory}
use Rattle.master_core.proofs.log_memory.OpsKeep.{op_fits}
use Rattle.master_core.specs.master_state.declared.step.Refusal.{Refusal}
use Rattle.master_core.specs.master_state.declared.step.Refusal.TheVariants as refusal
use Rattle.master_core.specs.master_state.declared.step.Step.{Step}
use Rattle.master_core.specs.master_state.declared.step.Step.TheVariants.{Apply, Push, BeginRoll, Compact, BeginClean}
use Rattle.master_core.specs.master_state.declared.step.Step.TheVariants.{Copy, Seal}
use Rattle.master_core.specs.master_state.declared.step.Step.TheVariants.{Free}
use Rattle.master_core.specs.master_state.declared.step.StepAnswer.{StepAnswer}
use Rattle.master_core.specs.master_state.declared.step.StepAnswer.TheVariants.{Applied, Opened, Extended, Closed}
use Rattle.master_core.specs.master_state.declared.step.StepAnswer.TheVariants.{Rolling}
use Rattle.master_core.specs.master_state.declared.step.StepAnswer.TheVariants.{Compacted}
use Rattle.master_core.specs.master_state.declared.step.StepAnswer.TheVariants.{Begun, Moved, Carried, Dropped, Sealed}
use Rattle.master_core.specs.master_state.declared.step.StepAnswer.TheVariants.{Freed}
use Rattle.master_core.specs.master_state.declared.step.StepAnswer.TheVariants.{Raised, Repaired}
use Rattle.master_core.specs.master_state.declared.failover.Failover.{Failover}
use Rattle.master_core.specs.master_state.declared.ledger.Posting.TheVariants as posting
use Rattle.master_core.specs.master_state.Budget.{survivors_of}
use Rattle.master_core.specs.master_state.Causes.{dead_segment, survivors_for, command_refusal, step_refusal, unit_now}
use Rattle.master_core.specs.master_state.Causes.{is_empty}
use Rattle.master_core.specs.master_state.Data.{MasterData}
use Rattle.master_core.specs.master_state.Ledger.{forgotten, took_in, shut_in, posted}
use Rattle.master_core.specs.master_state.Log.{home, mode_of, durable_now, log_of, memory_of}
use Rattle.master_core.specs.master_state.Steps.{Applies, BeginsRoll, Compacts, BeginsPass, Copies, record_now}
use Rattle.master_core.specs.master_state.Steps.{rolling_data}
use Rattle.master_core.specs.master_state.Steps.{sealed_data, lost_data, halted}
use Rattle.master_core.specs.master_failover.Mending.{turned_data}
use Rattle.master_core.specs.master_state.Waits.{next_seal}
use Rattle.master_core.proofs.master_state.Imaging.{other_id}
use Rattle.master_core.proofs.master_state.Refusals.{is_admitted, passed_early, unit_working, working_parts, may_begin}
use Rattle.master_core.proofs.master_commands.HeadsInForce.{open_calm}
use Rattle.master_core.proofs.master_state.Calm.{passes_first, calm_parts}
use Rattle.master_core.proofs.master_space.SealedCore.{seals_next}
use Rattle.master.specs.Invariant.{IsWellKept}
use Rattle.master.specs.Keeps.{Keeps}
use Rattle.master.specs.Passes.{IsSealOp, Seals, IsFreeOp, Frees}
use Rattle.master.specs.Pushes.{IsAfter, IsNextOp}
use Rattle.master.specs.Steps.{FailsTake, IsPushOp, IsStuck, FailsTurn, FailsPush, Steps}
use Rattle.master.specs.World.{World}
use Rattle.master.proofs.Counting.{counted_of, counted, kept_unfailed}
use Rattle.master.proofs.InForce.{never_fails, fails}
use Rattle.master.proofs.PushKinds.{CalmPush, MendsOn, kinds, pushes_rest}
use Rattle.master.proofs.MendedRest.{mended_rest, turned_rest, turned_durable, failing_is, mend_durable}
use Rattle.master.proofs.Placements.{not_begun, forgotten_below}
use Rattle.master.proofs.PushedRest.{same_rest}

-- ---- many steps

pub keeps_same : (most : ℕ) (w : World) → Keeps most w w
keeps_same most w = record {
  config = refl;
  origin = refl;
  takes = (omega arith, omega arith);
  others = λ b m s other. refl;
  least = λ m other. refl;
  durable = omega arith;
  forgotten = omega arith;
  history = ([], sym (append-nil w.knows.history));
}

pub keeps_on : (m n : ℕ) (a b c : World) → Keeps m a b → Keeps n b c → Keeps (m + n) a c
keeps_on m n a b c first later =
    let low = first.takes.0 in let high = first.takes.1 in
    let low' = later.takes.0 in let high' = later.takes.1 in
    let rise = first.durable in let rise' = later.durable in
    let gone = first.forgotten in let gone' = later.forgotten in
    record {
      config = later.config ∙ first.config;
      origin = later.origin ∙ first.origin;
      takes = (omega arith, omega arith);
      others = λ k o s other. later.others k o s (λ is. other (is ∙ ap (λ c. c.master) first.config))
          ∙ first.others k o s other;
      least = λ k other. later.least k (λ is. other (is ∙ ap (λ c. c.master) first.config)) ∙ first.least k other;
      durable = omega arith;
      forgotten = omega arith;
      history = (
        first.history.0 ++ later.history.0,
        later.history.1 ∙ ap (λ rs. rs ++ later.history.0) first.history.1
            ∙ append_assoc a.knows.history first.history.0 later.history.0,
      );
    }

-- one more step
pub keeps_pushed : (a b c : World) (steps : List Step) (s : Step) → Keeps (length steps) a b → Keeps 1 b c
    → Keeps (length (steps ++ s ∷ [])) a c
keeps_pushed a b c steps s first last =
    subst (λ (n : ℕ). Keeps n a c) (sym (length-append steps (s ∷ []))) (keeps_on (length steps) 1 a b c first last)

-- ---- an op

-- The other fleet has at most one more op taken, and of other masters the same replicas and the same least heads.
pub record IsBeside (master : ℕ) (f g : FleetState) : Type 0 where
  pub takes : (f.takes ≤ g.takes) × (g.takes ≤ f.takes + 1)
  pub others : (b m s : ℕ) → (m ≡ master → ⊥) → g.picture b m s ≡ f.picture b m s
  pub least : (m : ℕ) → (m ≡ master → ⊥) → g.least m ≡ f.least m

pub beside_same : (master : ℕ) (f : FleetState) → IsBeside master f f
beside_same master f = record {
  takes = (omega arith, omega arith);
  others = λ b m s other. refl;
  least = λ m other. refl;
}

elsewhere : (b m s c n t : ℕ) → (n ≡ m → ⊥) → is_same_place b m s c n t ≡ false
elsewhere b m s c n t other = elim (place_tells b m s c n t) as (λ _. is_same_place b m s c n t ≡ false) [
  | inl same ↦ absurd (other (sym same.2))
  | inr apart ↦ apart.0
]

-- a fault is counted besides
faulted_beside : (master : ℕ) (f mid g : FleetState) → IsBeside master f mid → g ≡ unanswered f mid
    → IsBeside master f g
faulted_beside master f mid g is same =
    subst (IsBeside master f) (sym same) (record { takes = is.takes; others = is.others; least = is.least })

module _ (f : FleetState) (b : ℕ) (op : OpValue) where
  effect_beside : (g : FleetState) (r : Option (Option Replica)) → with_effect f b op r ≡ Some g
      → IsBeside op.master f g
  effect_beside g None is = absurd (cc)
  effect_beside g (Some r) is = subst (IsBeside op.master f) (same_Some _ g is) (record {
    takes = (omega arith, omega arith);
    others = λ c n t other. (let away = elsewhere b op.master op.segment c n t other in rw away refl);
    least = λ m other. refl;
  })

  pub taken_beside : (g : FleetState) → taken f b op ≡ Some g → IsBeside op.master f g
  taken_beside g is = told (nat_lt b f.backups) refl
    where
      told : (test : Bool) → nat_lt b f.backups ≡ test → IsBeside op.master f g
      told true within = effect_beside g (effect op.act (f.picture b op.master op.segment)) (rw within at is)
      told false past = (let never : None ≡ Some g = rw past at is in absurd (cc))

  pub fault_beside : (g : FleetState) → Refuses f b op take_fault.Fault g → IsBeside op.master f g
  fault_beside g (inl same) = faulted_beside op.master f f g (beside_same op.master f) same
  fault_beside g (inr took) = faulted_beside op.master f took.0 g (taken_beside took.0 took.1.1) took.2

-- a raise
module _ (f : FleetState) (master id : ℕ) where
  pub raised_beside : (g : FleetState) → Raises f master id g → IsBeside master f g
  raised_beside g is = subst (IsBeside master f) (sym is.1) (record {
    takes = (omega arith, omega arith);
    others = λ c n t other. refl;
    least = λ m other. (let away = other_id master m (λ same. other (sym same)) in rw away refl);
  })

  pub raise_fault_beside : (g : FleetState) → RefusesRaise f master id take_fault.Fault g → IsBeside master f g
  raise_fault_beside g (inl same) = faulted_beside master f f g (beside_same master f) same
  raise_fault_beside g (inr took) = faulted_beside master f took.0 g (raised_beside took.0 took.1) took.2

-- an op of the master, whichever it is
pub op_beside : (master : ℕ) (f g : FleetState) (o : Op) → TakesOp master f o g → IsBeside master f g
op_beside master f g (On b s act) took = taken_beside f b (op_of master (log_op_for master b s act)) g took.1
op_beside master f g (Raise id) took = raised_beside f master id g took

pub op_faulted : (master : ℕ) (f g : FleetState) (o : Op) → RefusesOp master f o take_fault.Fault g
    → IsBeside master f g
op_faulted master f g (On b s act) refused = fault_beside f b (op_of master (log_op_for master b s act)) g refused
op_faulted master f g (Raise id) refused = raise_fault_beside f master id g refused

-- a take that failed changed nothing, or opened a failover, or halted the master
pub take_failed : {P : Type 0} (IsOp : Op → Type 0) (old new : World) (r : Refusal)
    → FailsTake IsOp old r new → (new ≡ old → P)
    → ((b : ℕ) → FailsTake IsOp old (refusal.Lost b) new → P)
    → (FailsTake IsOp old refusal.Halted new → P) → P
take_failed IsOp old new refusal.NoMemory t same loses halts = same t
take_failed IsOp old new refusal.Spent t same loses halts = same t.1
take_failed IsOp old new (refusal.Lost b) t same loses halts = loses b t
take_failed IsOp old new refusal.Halted t same loses halts = halts t
take_failed IsOp old new refusal.TooBig t same loses halts = absurd t
take_failed IsOp old new refusal.Full t same loses halts = absurd t
take_failed IsOp old new refusal.VersionsSpent t same loses halts = absurd t
take_failed IsOp old new refusal.HistoryFull t same loses halts = absurd t
take_failed IsOp old new refusal.Rolling t same loses halts = absurd t
take_failed IsOp old new refusal.Nothing t same loses halts = absurd t
take_failed IsOp old new (refusal.Pass fault) t same loses halts = absurd t
take_failed IsOp old new refusal.NoTablet t same loses halts = absurd t
take_failed IsOp old new refusal.Overcommit t same loses halts = absurd t
take_failed IsOp old new refusal.SegmentsSpent t same loses halts = absurd t

-- ---- the durable count

-- while no failover is open it goes by what the head's backups took
durable_is : (d : FailData) → is_failing d.mode ≡ false → durable_of d ≡ taken_records d
durable_is d works = ap (λ (b : Bool). if b then d.frozen else taken_records d) works

-- it stays if they took as much
module _ (d : FailData) (works : is_failing d.mode ≡ false) where
  same_count : (took : ℕ → List ℕ) (mode : Mode) (shut : List ℕ) (unused : ℕ) → is_failing mode ≡ false
      → took d.head.start.id ≡ d.took d.head.start.id
      → durable_of d ≡ durable_of (record d { took = took; mode = mode; shut = shut; next = unused })
  same_count took mode shut unused also same =
      durable_is d works
      ∙ sym (ap (λ (bs : List ℕ). counted_of d.head (length d.history) d.counts (λ s. bs)) same)
      ∙ sym (durable_is (record d { took = took; mode = mode; shut = shut; next = unused }) also)

-- once a roll has ended all records are durable
ended_all : (d : FailData) (n : Start) → durable_of (ended d n Calm) ≡ length d.history
ended_all d n = refl

module _ (d : FailData) (m : FailMemory) (p : ModelShown) (i : IsIntact d m p) (works : is_failing d.mode ≡ false) where
  within : durable_of d ≤ length d.history
  within = durable_is_within d p i.log

  -- an op that leaves the count, and perhaps the end of a roll with it
  module _ (mid : FailData) (same : durable_of d ≡ durable_of mid) (history : mid.history ≡ d.history) where
    after_op : (e : FailData) → IsAfter mid e → durable_of d ≤ durable_of e
    after_op e (inl is) =
        subst (λ (x : FailData). durable_of d ≤ durable_of x) (sym is) (omega (arith, same))
    after_op e (inr (n, ends, is)) =
        let le = within in
        let all = ap length history in
        subst (λ (x : FailData). durable_of d ≤ durable_of x) (sym is)
        (subst (λ (k : ℕ). durable_of d ≤ k) (sym (ended_all mid n)) (omega (arith, le, all)))

  opened : (o : Op) (mid e : FailData) → OpensNew d o mid → IsAfter mid e → durable_of d ≤ durable_of e
  opened o mid e is after =
      let new : new_of d.mode ≡ Some is.n = elim is.mode as (λ _. new_of d.mode ≡ Some is.n) [
        | inl one ↦ ap new_of one
        | inr two ↦ ap new_of two
      ] in
      let lt = i.log.held.logged.newer is.n (inl new) in
      let away = other_id d.head.start.id is.n.id (λ same. omega (arith, lt, same)) in
      let took : with_taken d.took is.n.id is.b d.head.start.id ≡ d.took d.head.start.id = rw away refl in
      after_op mid (same_count d works (with_taken d.took is.n.id is.b) d.mode d.shut d.next works took
      ∙ ap durable_of (sym is.gives)) (ap (λ (x : FailData). x.history) is.gives) e after

  closed : (o : Op) (mid e : FailData) → ClosesOld d o mid → IsAfter mid e → durable_of d ≤ durable_of e
  closed o mid e is after =
      after_op mid (ap durable_of (sym is.gives)) (ap (λ (x : FailData). x.history) is.gives) e after

  -- a home of the head is a backup that there is
  home_there : (b : ℕ) (o : Option ModelReplica) → p.holds b d.head.start.id ≡ o → IsSome o → b < d.config.backups
  home_there b None none some = absurd (cc)
  home_there b (Some r) is some = i.log.held.mirrored.bounded b d.head.start.id r is

  extended : Knows d m p → (o : Op) (e : FailData) → Extends d o e → durable_of d ≤ durable_of e
  extended knows o e is =
      let fits = op_fits d e m m p o i knows (inl (inl is, refl)) in
      let there : IsThere d.config o = subst (IsThere d.config) (sym is.op)
      (home_there is.b (p.holds is.b d.head.start.id) refl (i.log.held.mirrored.head is.b is.home.0)) in
      let was : ModelWorld = record { knows = d; shown = p; halted = false } in
      let now : ModelWorld = record { knows = e; shown = fits.0; halted = false } in
      durable_stays (TakesThere o) was now i.log ((there, i.log, inl is), fits.1, refl)

  -- ---- a push

  next_stays : Knows d m p → (c : MasterData) → log_of c ≡ d → (o : Op) (e : FailData) (answer : StepAnswer)
      → IsNextOp c o answer e → durable_of d ≤ durable_of e
  next_stays knows c same o e (Opened backup segment) is =
      opened o is.0.0 e (subst (λ (x : FailData). OpensNew x o is.0.0) same is.0.1) is.0.2
  next_stays knows c same o e (Extended backup segment) is =
      extended knows o e (subst (λ (x : FailData). Extends x o e) same is.0.extends)
  next_stays knows c same o e (Closed backup segment) is =
      closed o is.0.0 e (subst (λ (x : FailData). ClosesOld x o is.0.0) same is.0.1) is.0.2
  next_stays knows c same o e (Applied place reply) is = absurd is
  next_stays knows c same o e (Rolling segment) is = absurd is
  next_stays knows c same o e (Compacted segment len) is = absurd is
  next_stays knows c same o e (Begun segment) is = absurd is
  next_stays knows c same o e Moved is = absurd is
  next_stays knows c same o e Carried is = absurd is
  next_stays knows c same o e Dropped is = absurd is
  next_stays knows c same o e (Sealed backup) is = absurd is
  next_stays knows c same o e (Freed segment backup) is = absurd is
  next_stays knows c same o e (Raised id) is = absurd is
  next_stays knows c same o e (Repaired backup segment) is = absurd is

-- ---- a step

-- a replica that was sealed changes nothing but its image and the ledger
log_sealed : (d : MasterData)
    → (log_of (sealed_data d) ≡ log_of d) × ((sealed_data d).config ≡ d.config) × ((sealed_data d).origin ≡ d.origin)
    × ((sealed_data d).forgotten ≡ d.forgotten)
log_sealed d = go (next_seal d) where
  gives : Option (ℕ × ℕ) → MasterData
  gives o = option_map_or (λ (x : ℕ × ℕ). record d { closed = changed d.closed x.0 more_replicas }) o d

  go : (o : Option (ℕ × ℕ)) → (log_of (gives o) ≡ log_of d) × ((gives o).config ≡ d.config)
      × ((gives o).origin ≡ d.origin) × ((gives o).forgotten ≡ d.forgotten)
  go None = (refl, refl, refl, refl)
  go (Some x) = (refl, refl, refl, refl)

-- what is forgotten stays so, and nothing else is
module _ (old new : World) where
  abbrev Remembers : Type 0
  Remembers = new.knows.forgotten ≡ old.knows.forgotten

  by_rest : (e : MasterData) → new.knows ≡ e → e.forgotten ≡ old.knows.forgotten → Remembers
  by_rest e is same = ap (λ (x : MasterData). x.forgotten) is ∙ same

  by_nothing : new ≡ old → Remembers
  by_nothing same = ap (λ (w : World). w.knows.forgotten) same

  by_fault : (IsOp : Op → Type 0) (r : Refusal) → FailsTake IsOp old r new → Remembers
  by_fault IsOp r t =
      take_failed IsOp old new r t by_nothing (λ b f. by_rest (lost_data old.knows b) f.1 refl)
      (λ f. by_rest (halted old.knows) f.1 refl)

  by_push : (r : Refusal) → IsStuck old r new ⊎ (FailsTurn old r new ⊎ FailsPush old r new) → Remembers
  by_push r (inl t) = ap (λ (w : World). w.knows.forgotten) t.3
  by_push r (inr (inl t)) = by_rest (halted (turned_data old.knows)) t.3 (turned_rest old.knows).5
  by_push r (inr (inr t)) = by_fault (IsPushOp old) r t.1

  pub steps_remember : (step : Step) (result : Result StepAnswer Refusal) → Steps old step result new → Remembers
  steps_remember (Apply seat command) (Ok answer) t = by_rest _ t.0.rest refl
  steps_remember (Apply seat command) (Err r) t = by_nothing t.0
  steps_remember BeginRoll (Ok answer) t = by_rest _ t.0.rest refl
  steps_remember BeginRoll (Err r) t = by_nothing t.0
  steps_remember (Compact id) (Ok answer) t = by_rest _ t.0.rest refl
  steps_remember (Compact id) (Err r) t = by_nothing t.0
  steps_remember (BeginClean ids) (Ok answer) t = by_rest _ t.0.rest refl
  steps_remember (BeginClean ids) (Err r) t = by_nothing t.0
  steps_remember Copy (Ok answer) t = by_rest _ t.0.rest refl
  steps_remember Copy (Err r) t = by_nothing t.0
  steps_remember Push (Ok answer) t = (pushes_rest old answer new t).5
  steps_remember Push (Err r) (inl t) = by_nothing t.1
  steps_remember Push (Err r) (inr t) = by_push r t.1
  steps_remember Seal (Ok answer) t =
      let b = home old.knows.config old.knows.failed t.next.segment t.next.replica in
      let as_posted = posted old.knows (posting.Took t.next.segment b) in
      by_rest (sealed_data as_posted) t.rest (log_sealed as_posted).3
  steps_remember Seal (Err r) (inl t) = by_nothing t.1
  steps_remember Seal (Err r) (inr t) = by_fault (IsSealOp old.knows) r t.1
  steps_remember Free (Ok answer) t = by_rest _ t.rest refl
  steps_remember Free (Err r) (inl t) = by_nothing t.1
  steps_remember Free (Err r) (inr t) = by_fault (IsFreeOp old.knows) r t.1

module _ (old new : World) (kept : IsWellKept old.knows old.fleet)
    (remembers : new.knows.forgotten ≡ old.knows.forgotten) where
  abbrev d : MasterData
  d = old.knows

  intact : IsIntact (log_of d) (memory_of d) (read_of (log_of d) old.fleet)
  intact = kept.kept.intact

  -- the head's number was used
  used : (log_of d).head.start.id < d.next
  used = intact.log.held.logged.head.next

  -- a step that adds no record
  silent : new.knows.config ≡ old.knows.config → new.knows.origin ≡ old.knows.origin
      → new.knows.history ≡ old.knows.history → IsBeside old.knows.config.master old.fleet new.fleet
      → durable_of (log_of old.knows) ≤ durable_of (log_of new.knows) → Keeps 1 old new
  silent config origin history beside durable = record {
    config = config;
    origin = origin;
    takes = beside.takes;
    others = beside.others;
    least = beside.least;
    durable = durable;
    forgotten = omega (arith, remembers);
    history = ([], history ∙ sym (append-nil old.knows.history));
  }

  unchanged : new ≡ old → Keeps 1 old new
  unchanged same = subst (Keeps 1 old) (sym same) (keeps_same 1 old)

  -- what no test refused the log may apply
  may_apply : (command : Command) → command_refusal d command ≡ None → (seat : ℕ)
      → MayApply (log_of d) (dead_segment d command) (record_now d seat command)
  may_apply command passed seat = record {
    key = (is_admitted d command (passed_early d command passed)).key;
    calm = calm (unit_now d command) refl;
  } where
    calm : (u : List Entry) → unit_now d command ≡ u → (unit_now d command ≡ []) ⊎ ((log_of d).mode ≡ Calm)
    calm [] none = inl none
    calm (e ∷ es) some =
        let works = working_parts d (unit_working d command passed (ap is_empty some)) in
        inr (open_calm d works.0 works.1)

  applied : (seat : ℕ) (command : Command) (answer : StepAnswer) → Applies old.knows seat command answer new.knows
      → new.fleet ≡ old.fleet → Keeps 1 old new
  applied seat command answer a fleet =
      let d = old.knows in
      let beside = subst (IsBeside d.config.master old.fleet) (sym fleet) (beside_same d.config.master old.fleet) in
      record {
        config = a.config;
        origin = ap (λ (x : MasterData). x.origin) a.rest;
        takes = beside.takes;
        others = beside.others;
        least = beside.least;
        durable = subst (λ (l : FailData). durable_of (log_of old.knows) ≤ durable_of l) (sym a.log)
            (durable_stays (AppliesThere (dead_segment d command) (record_now d seat command))
            (record { knows = log_of d; shown = read_of (log_of d) old.fleet; halted = false })
            (record {
              knows = log_applied (log_of d) (dead_segment d command) (record_now d seat command);
              shown = read_of (log_of d) old.fleet;
              halted = false;
            }) intact.log (may_apply command a.passed seat, refl));
        forgotten = omega (arith, remembers);
        history = (record_now d seat command ∷ [], ap (λ (l : FailData). l.history) a.log);
      }

  -- the fleet is as it was
  quiet : new.fleet ≡ old.fleet → IsBeside old.knows.config.master old.fleet new.fleet
  quiet fleet = subst (IsBeside old.knows.config.master old.fleet) (sym fleet)
      (beside_same old.knows.config.master old.fleet)

  -- the log is as it was
  same_log : log_of new.knows ≡ log_of old.knows → durable_of (log_of old.knows) ≤ durable_of (log_of new.knows)
  same_log is = subst (λ (l : FailData). durable_of (log_of old.knows) ≤ durable_of l) (sym is) (omega arith)

  rolled : (answer : StepAnswer) → BeginsRoll old.knows answer new.knows → new.fleet ≡ old.fleet → Keeps 1 old new
  rolled answer b fleet =
      let calm = (may_begin d b.passed).calm in
      let same = same_count (log_of d) (never_fails d calm) (took_in (rolling_data d).ledger)
      (mode_of (rolling_data d)) (shut_in d.ledger) (d.next + 1) (never_fails (rolling_data d) calm)
      (not_begun d kept.core (log_of d).head.start.id used) in
      silent (ap (λ (x : MasterData). x.config) b.rest) (ap (λ (x : MasterData). x.origin) b.rest)
      (ap (λ (x : MasterData). x.history) b.rest) (quiet fleet)
      (subst (λ (x : MasterData). durable_of (log_of old.knows) ≤ durable_of (log_of x)) (sym b.rest)
      (omega (arith, same)))

  compacted : (id : ℕ) (answer : StepAnswer) → Compacts old.knows id answer new.knows
      → new.fleet ≡ old.fleet → Keeps 1 old new
  compacted id answer c fleet =
      silent (ap (λ (x : MasterData). x.config) c.rest) (ap (λ (x : MasterData). x.origin) c.rest)
      (ap (λ (x : MasterData). x.history) c.rest) (quiet fleet) (same_log c.log)

  begun : (ids : List ℕ) (answer : StepAnswer) → BeginsPass old.knows ids answer new.knows
      → new.fleet ≡ old.fleet → Keeps 1 old new
  begun ids answer b fleet =
      let count = survivors_for d ids in
      let calm = (calm_parts d (passes_first (step_refusal d) _ b.passed).0).1 in
      let same = same_count (log_of d) (never_fails d calm) (forgotten d.next count (took_in d.ledger)) (mode_of d)
      (shut_in d.ledger) (d.next + count) (never_fails d calm)
      (forgotten_below d kept.core d.next count (took_in d.ledger) (log_of d).head.start.id used) in
      silent (ap (λ (x : MasterData). x.config) b.rest) (ap (λ (x : MasterData). x.origin) b.rest)
      (ap (λ (x : MasterData). x.history) b.rest) (quiet fleet)
      (subst (λ (x : MasterData). durable_of (log_of old.knows) ≤ durable_of (log_of x)) (sym b.rest)
      (omega (arith, same)))

  copied : (answer : StepAnswer) → Copies old.knows answer new.knows → new.fleet ≡ old.fleet → Keeps 1 old new
  copied answer c fleet =
      silent (ap (λ (x : MasterData). x.config) c.rest) (ap (λ (x : MasterData). x.origin) c.rest)
      (ap (λ (x : MasterData). x.history) c.rest) (quiet fleet) (same_log c.log)

  pushed : (answer : StepAnswer) → CalmPush old answer new → Keeps 1 old new
  pushed answer p =
      let same = same_rest old.knows p.push in
      silent (ap (λ (d : MasterData). d.config) p.rest ∙ same.0) (ap (λ (d : MasterData). d.origin) p.rest ∙ same.3)
      (ap (λ (d : MasterData). d.history) p.rest ∙ same.1)
      (op_beside d.config.master old.fleet new.fleet p.op p.takes)
      (next_stays (log_of d) (memory_of d) (read_of (log_of d) old.fleet) intact (never_fails d p.calm)
      (kept.known p.running).knows d refl p.op (log_of new.knows) answer p.next)

  -- the count as a failover began is of records that there are
  frozen_within : (f : Failover) → d.failover ≡ Some f → (log_of d).frozen ≤ length d.history
  frozen_within f is =
      let le = durable_is_within (log_of d) (read_of (log_of d) old.fleet) intact.log in
      let same = failing_is (log_of d) (fails d f is) in
      omega (arith, le, same)

  mended : (answer : StepAnswer) → MendsOn old answer new → Keeps 1 old new
  mended answer p =
      let same = mended_rest old.knows p.mend in
      silent (ap (λ (d : MasterData). d.config) p.rest ∙ same.0) (ap (λ (d : MasterData). d.origin) p.rest ∙ same.3)
      (ap (λ (d : MasterData). d.history) p.rest ∙ same.1)
      (op_beside d.config.master old.fleet new.fleet p.op p.takes)
      (go d.failover refl p.failing)
    where
      go : (o : Option Failover) → d.failover ≡ o → IsSome o → durable_of (log_of d) ≤ durable_of (log_of new.knows)
      go None none some = absurd (cc)
      go (Some f) is some =
          mend_durable d kept.core f is (frozen_within f is) p.mend p.op (log_of new.knows) p.next p.does

  sealed : (answer : StepAnswer) → Seals old answer new → Keeps 1 old new
  sealed answer s =
      let b = home d.config d.failed s.next.segment s.next.replica in
      let calm = (calm_parts d (passes_first (step_refusal d) _ s.passed).0).1 in
      let of_pass = seals_next d s.next.segment s.next.replica s.next.next in
      let listed = subst (λ (x : Option Pass). IsAmong s.next.segment (survivors_of x)) (sym of_pass.opened)
      of_pass.next.among in
      let away = other_id (log_of d).head.start.id s.next.segment (λ own.
      intact.chosen.outside s.next.segment listed
      (subst (λ (z : ℕ). IsAmong z (ids_of (log_of d).head.start)) own
      (among_last (log_of d).head.start.others (log_of d).head.start.id))) in
      let took : with_taken (took_in d.ledger) s.next.segment b (log_of d).head.start.id
      ≡ took_in d.ledger (log_of d).head.start.id = rw away refl in
      let same = same_count (log_of d) (never_fails d calm) (with_taken (took_in d.ledger) s.next.segment b)
      (mode_of d) (shut_in d.ledger) d.next (never_fails d calm) took in
      let as_posted = posted d (posting.Took s.next.segment b) in
      let rest = log_sealed as_posted in
      silent (ap (λ (d : MasterData). d.config) s.rest ∙ rest.1) (ap (λ (d : MasterData). d.origin) s.rest ∙ rest.2)
      (ap (λ (d : MasterData). d.history) s.rest ∙ ap (λ (l : FailData). l.history) rest.0)
      (op_beside d.config.master old.fleet new.fleet s.op s.takes)
      (subst (λ (l : FailData). durable_of (log_of old.knows) ≤ durable_of l) (sym (ap log_of s.rest ∙ rest.0))
      (omega (arith, same)))

  freed : (answer : StepAnswer) → Frees old answer new → Keeps 1 old new
  freed answer s =
      silent (ap (λ (d : MasterData). d.config) s.rest) (ap (λ (d : MasterData). d.origin) s.rest)
      (ap (λ (d : MasterData). d.history) s.rest)
      (op_beside d.config.master old.fleet new.fleet s.op s.takes) (same_log (ap log_of s.rest))

  module _ (IsOp : Op → Type 0) where
    halts : FailsTake IsOp old refusal.Halted new → Keeps 1 old new
    halts t =
        silent (ap (λ (d : MasterData). d.config) t.1) (ap (λ (d : MasterData). d.origin) t.1)
        (ap (λ (d : MasterData). d.history) t.1)
        (op_faulted old.knows.config.master old.fleet new.fleet t.2.0 t.2.2) (same_log (ap log_of t.1))

    -- a failover that begins freezes the count
    loses : (b : ℕ) → FailsTake IsOp old (refusal.Lost b) new → Keeps 1 old new
    loses b t =
        let frozen : durable_of (log_of (lost_data d b)) ≡ durable_now d = refl in
        let same = counted d kept.core kept.placed (kept_unfailed d old.fleet kept.kept) in
        silent (ap (λ (d : MasterData). d.config) t.1) (ap (λ (d : MasterData). d.origin) t.1)
        (ap (λ (d : MasterData). d.history) t.1)
        (op_faulted old.knows.config.master old.fleet new.fleet t.2.0 t.2.3)
        (subst (λ (x : MasterData). durable_of (log_of old.knows) ≤ durable_of (log_of x)) (sym t.1)
        (omega (arith, frozen, same)))

    failed : (r : Refusal) → FailsTake IsOp old r new → Keeps 1 old new
    failed r t = take_failed IsOp old new r t unchanged loses halts

  -- the new head of a failover was not to be opened, or its first Open ended in a fault
  stuck : (r : Refusal) → IsStuck old r new → Keeps 1 old new
  stuck r t = subst (Keeps 1 old) (sym t.3) (record {
    config = refl;
    origin = refl;
    takes = (omega arith, omega arith);
    others = λ b m s other. refl;
    least = λ m other. refl;
    durable = omega arith;
    forgotten = omega arith;
    history = ([], sym (append-nil old.knows.history));
  })

  turned : (r : Refusal) → FailsTurn old r new → Keeps 1 old new
  turned r t =
      let rest = turned_rest d in
      let f = t.0.0 in
      let same = turned_durable d f.0 f.1 in
      silent (ap (λ (d : MasterData). d.config) t.3 ∙ rest.0) (ap (λ (d : MasterData). d.origin) t.3 ∙ rest.3)
      (ap (λ (d : MasterData). d.history) t.3 ∙ rest.1)
      (op_faulted old.knows.config.master old.fleet new.fleet t.4.0 t.4.3)
      (subst (λ (x : MasterData). durable_of (log_of old.knows) ≤ durable_of (log_of x)) (sym t.3)
      (omega (arith, same)))

  push_failed : (r : Refusal) → IsStuck old r new ⊎ (FailsTurn old r new ⊎ FailsPush old r new) → Keeps 1 old new
  push_failed r (inl t) = stuck r t
  push_failed r (inr (inl t)) = turned r t
  push_failed r (inr (inr t)) = failed (IsPushOp old) r t.1

  step_keeps : (step : Step) (result : Result StepAnswer Refusal) → Steps old step result new → Keeps 1 old new
  step_keeps (Apply seat command) (Ok answer) t = applied seat command answer t.0 t.1
  step_keeps (Apply seat command) (Err r) t = unchanged t.0
  step_keeps BeginRoll (Ok answer) t = rolled answer t.0 t.1
  step_keeps BeginRoll (Err r) t = unchanged t.0
  step_keeps (Compact id) (Ok answer) t = compacted id answer t.0 t.1
  step_keeps (Compact id) (Err r) t = unchanged t.0
  step_keeps (BeginClean ids) (Ok answer) t = begun ids answer t.0 t.1
  step_keeps (BeginClean ids) (Err r) t = unchanged t.0
  step_keeps Copy (Ok answer) t = copied answer t.0 t.1
  step_keeps Copy (Err r) t = unchanged t.0
  step_keeps Push (Ok answer) t = elim (kinds old answer new t) as (λ _. Keeps 1 old new) [
    | inl p ↦ pushed answer p
    | inr m ↦ mended answer m
  ]
  step_keeps Push (Err r) (inl t) = unchanged t.1
  step_keeps Push (Err r) (inr t) = push_failed r t.1
  step_keeps Seal (Ok answer) t = sealed answer t
  step_keeps Seal (Err r) (inl t) = unchanged t.1
  step_keeps Seal (Err r) (inr t) = failed (IsSealOp old.knows) r t.1
  step_keeps Free (Ok answer) t = freed answer t
  step_keeps Free (Err r) (inl t) = unchanged t.1
  step_keeps Free (Err r) (inr t) = failed (IsFreeOp old.knows) r t.1

pub steps_keep : (old new : World) (step : Step) (result : Result StepAnswer Refusal) → IsWellKept old.knows old.fleet
    → Steps old step result new
    → Keeps 1 old new
steps_keep old new step result kept t =
    step_keeps old new kept (steps_remember old new step result t) step result t
