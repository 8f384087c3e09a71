-- A roll that begins keeps what holds of a master, be it an ordinary one or a commit.
use Rattle.std.proofs.Common.{◌≡◌, ◌≤◌, ℕ, inl, inr, Bool, true, false, List, [], map, length, refl, sym, ap, subst}
use Rattle.std.proofs.Common.{◌∙◌, arith}
use Rattle.std.specs.Prelude.{Option, Some, None, is_none, ◌==◌, if◌then◌else◌}
use Rattle.std.specs.List.{AllByRecursion}
use Rattle.std.specs.Option.{option_map, option_map_or}
use Rattle.std.proofs.lemmas.Bool.{and_parts, eqb-true}
use Rattle.std.proofs.lemmas.Option.{same_Some}
use Rattle.master_core.specs.cleaner.declared.pass.Pass.{Pass as OpenPass}
use Rattle.master_core.specs.cleaner.Passes.{images_in, survivor_ids, rest_of, is_at_end, is_ready as is_ready_pass}
use Rattle.master_core.specs.cleaner.Seals.{first_lacking}
use Rattle.master_core.proofs.cleaner.Lacking.{none_is_lacking}
use Rattle.entry.specs.declared.key.Key.{Key}
use Rattle.entry.specs.declared.entry.Entry.{Entry}
use Rattle.entry.specs.Bag.{IsAmong}
use Rattle.entry.specs.Format.{IsEntry}
use Rattle.replica.specs.Picture.{FleetState}
use Rattle.places.specs.declared.place.Place.{Place}
use Rattle.images.specs.Image.{Image}
use Rattle.images.specs.Sorted.{segment_of, replicas_of}
use Rattle.log_head.specs.declared.head.Roll.{Roll}
use Rattle.log_head.specs.Steps.{start_after, fresh_roll}
use Rattle.log_head.specs.log_laws.Heads.{Start, start_entries}
use Rattle.master_core.specs.log_laws.Intact.{IsCommit}
use Rattle.master_core.specs.log_laws.Memory.{Place as EntryPlace}
use Rattle.master_core.specs.log_laws.Data.{Head as FailHead, bare, Rolls, FailData}
use Rattle.master_core.specs.log_laws.Steps.{next_start, rolling}
use Rattle.master_core.specs.log_bytes.Text.{IsWholeText}
use Rattle.master_core.specs.log_memory.Intact.{IsReady}
use Rattle.master_core.specs.log_memory.Memory.{FailMemory}
use Rattle.master_core.specs.log_memory.Steps.{MayCommit, commit_start, rolled}
use Rattle.master_core.proofs.log_memory.FleetSteps.{commit_holds_all}
use Rattle.master_core.specs.master_state.declared.step.StepAnswer.{StepAnswer}
use Rattle.master_core.specs.master_state.Budget.{victims_of, survivors_of, is_ready, is_committing}
use Rattle.master_core.specs.master_state.Data.{MasterData}
use Rattle.master_core.specs.master_state.Invariant.{IsCore}
use Rattle.master_core.specs.master_state.Loading.{IsBare}
use Rattle.master_core.specs.master_state.Log.{is_opened, log_of, state_now, images_of, find, entry_place, rest_now}
use Rattle.master_core.specs.master_state.Log.{memory_of}
use Rattle.master_core.specs.master_state.Steps.{listed_in, start_now, rolling_data, next_now, BeginsRoll, MayRollNow}
use Rattle.master_core.proofs.master_commands.HeadsInForce.{open_opened, open_calm}
use Rattle.master_core.proofs.master_commands.LoadedCore.{rolling_bare}
use Rattle.master_core.proofs.master_rolls.RollLaws.{next_is}
use Rattle.master_core.proofs.master_state.Finding.{each_of, index_of}
use Rattle.master_core.proofs.master_state.Imaging.{same_id, rolled_own, rolled_other, rolled_grow}
use Rattle.master_core.proofs.master_state.Indexing.{Grow, found_grown}
use Rattle.master_core.proofs.master_state.LogIds.{no_segment, no_next}
use Rattle.master_core.proofs.master_state.Refusals.{may_begin, open_parts}
use Rattle.master.specs.Invariant.{IsWellKept, IsWellLoaded}
use Rattle.master.specs.Placed.{IsPlaced}
use Rattle.master.proofs.InForce.{headed, force_headed, start_real}
use Rattle.master.proofs.Lasting.{Lasts, all_lasts, loading_lasts, IsKeptAs, kept_as, well_kept, loaded_as, well_loaded}
use Rattle.master.proofs.Lasting.{unhanded_kept}
use Rattle.master.proofs.LogSets.{closed_in}
use Rattle.master.proofs.Models.{IsModel, LeavesPass, is_model, own_holds}
use Rattle.master.proofs.OpenPasses.{none_left}
use Rattle.master.proofs.Placements.{homes_of, placed_rolling}
use Rattle.master.proofs.Placing.{placed_length}
use Rattle.master.proofs.Victims.{victim_below, never_both}

-- ---- the open pass, once it says whether its commit is under way

module _ (replicas : ℕ) (cs : List Image) where
  abbrev told : Option OpenPass → Option OpenPass
  told o = option_map (λ (p : OpenPass). record p { is_committing = is_ready_pass replicas cs p }) o

  pub same_victims : (o : Option OpenPass) → victims_of (told o) ≡ victims_of o
  same_victims None = refl
  same_victims (Some p) = refl

  pub same_survivors : (o : Option OpenPass) → survivors_of (told o) ≡ survivors_of o
  same_survivors None = refl
  same_survivors (Some p) = refl

  pub same_rest : (images : ℕ → List Entry) (o : Option OpenPass)
      → option_map_or (rest_of images) (told o) [] ≡ option_map_or (rest_of images) o []
  same_rest images None = refl
  same_rest images (Some p) = refl

  pub committing : (o : Option OpenPass) → option_map_or (λ (p : OpenPass). p.is_committing) (told o) false
      ≡ option_map_or (is_ready_pass replicas cs) o false
  committing None = refl
  committing (Some p) = refl

-- ---- a pass that is ready

module _ (d : MasterData) (core : IsCore d) (p : IsPlaced d) where
  -- it is at its end
  done_by : (o : Option OpenPass) → d.pass ≡ o
      → option_map_or (is_ready_pass d.config.replicas d.closed) o false ≡ true → rest_now d ≡ []
  done_by None none ready = absurd (cc)
  done_by (Some q) opened ready =
      ap (λ (o : Option OpenPass). option_map_or (rest_of (images_in d.closed)) o []) opened
      ∙ none_left d core q opened (and_parts (is_at_end q) _ ready).0

  -- each survivor is sealed whole
  sealed_by : (o : Option OpenPass) → option_map_or (is_ready_pass d.config.replicas d.closed) o false ≡ true
      → (s : ℕ) → IsAmong s (survivors_of o) → d.config.replicas ≤ replicas_of d.closed s
  sealed_by None ready s among = absurd (cc)
  sealed_by (Some q) ready s among =
      (none_is_lacking d.config.replicas d.closed (survivor_ids q.survivors)).0
      (none_from (first_lacking d.config.replicas d.closed (survivor_ids q.survivors))
      (and_parts (is_at_end q) _ ready).1) s among
    where
      none_from : (o : Option (ℕ × ℕ)) → is_none o ≡ true → o ≡ None
      none_from None is = refl
      none_from (Some x) is = absurd (cc)

  pub ready_pass : is_ready d ≡ true → IsReady (log_of d) (memory_of d)
  ready_pass ready = record {
    done = ap (map (entry_place d)) (done_by d.pass refl ready);
    sealed = λ s among.
        let whole = sealed_by d.pass ready s among in
        let count = ap length (homes_of d p s (closed_in d core s (inr among)))
        ∙ placed_length d.config d.failed s (replicas_of d.closed s) in
        omega (arith, whole, count);
  }

-- the commit of a pass that is ready keeps what holds
abbrev pub CommitKeeps : (FailData → FailMemory → FleetState → Type 0) → MasterData → FleetState → Type 0
CommitKeeps Holds d f =
    is_ready d ≡ true
    → MayCommit (log_of d) (memory_of d) (commit_start (log_of d) (memory_of d))
    (Rolls (commit_start (log_of d) (memory_of d)))
    → IsWholeText d.config.master d.next (bare (commit_start (log_of d) (memory_of d)))
    → Holds (rolling (log_of d) (commit_start (log_of d) (memory_of d))
    (Rolls (commit_start (log_of d) (memory_of d))))
    (rolled (log_of d) (memory_of d) (commit_start (log_of d) (memory_of d)) true) f

module _ {Holds : FailData → FailMemory → FleetState → Type 0} (lasts : Lasts Holds) (d e : MasterData) (f : FleetState)
    (answer : StepAnswer) (kept : IsKeptAs Holds d f) (commit : CommitKeeps Holds d f) (calm : d.failover ≡ None)
    (is : BeginsRoll d answer e) (may : MayRollNow d) (core : IsCore e) where
  abbrev m : FailMemory
  m = memory_of d

  -- ---- the next head

  abbrev next_of : Bool → Start
  next_of ready = if ready then commit_start (log_of d) m else next_start (log_of d)

  abbrev start_by : Bool → Start
  start_by ready =
      if ready then start_after d.head (victims_of d.pass) (listed_in d.closed (survivors_of d.pass)) d.next d.safe
      else start_after d.head [] [] d.next d.safe

  abbrev n : Start
  n = next_now d

  abbrev roll : Roll
  roll = fresh_roll d.config.master (start_now d)

  next_id : (t : Bool) → (next_of t).id ≡ d.next
  next_id true = refl
  next_id false = refl

  start_id : (t : Bool) → (start_by t).id ≡ d.next
  start_id true = refl
  start_id false = refl

  roll_id : roll.id ≡ d.next
  roll_id = start_id (is_ready d)

  opened : is_opened d.head ≡ true
  opened = open_opened d.head may.opened

  -- it begins with what the log says
  start_same : start_now d ≡ n
  start_same = next_is d kept.core (headed d calm opened)

  none : d.head.roll ≡ None
  none = (open_parts d.head may.opened).1

  -- there is a head
  real : (log_of d).head.start.id ≡ 0 → ⊥
  real none = start_real d kept.core
      (sym (ap (λ (h : FailHead). h.start.id) (force_headed d (headed d calm opened))) ∙ none)

  -- ---- the model

  abbrev then_memory : FailMemory
  then_memory = rolled (log_of d) m n (is_ready d)

  abbrev IsHead : Bool → Type 0
  IsHead t = IsWholeText d.config.master (next_of t).id (bare (next_of t))

  whole : IsHead (is_ready d)
  whole = record { segment_is = may.opening.segment; limit = may.opening.limit }

  rolled_by : (t : Bool) → is_ready d ≡ t → Holds (rolling (log_of d) (next_of t) (Rolls (next_of t)))
      (rolled (log_of d) m (next_of t) t) f
  rolled_by true ready =
      commit ready (record {
        may = inl (open_calm d may.opened calm, refl);
        real = real;
        ready = ready_pass d kept.core kept.placed ready;
        commit = subst (λ (t : Bool). IsCommit (log_of d).head.start m.pass (next_of t)) ready (may.commit ready);
        next = refl;
        lens = refl;
        safe = refl;
      }) (subst IsHead ready whole)
  rolled_by false unready =
      lasts.roll (log_of d) m f (Rolls (next_start (log_of d))) kept.holds (record {
        may = inl (open_calm d may.opened calm, refl);
        some = λ none. absurd (real none);
      }) (subst IsHead unready whole)

  rolled_holds : Holds (log_of e) then_memory f
  rolled_holds = subst (λ (l : FailData). Holds l then_memory f) (sym is.log) (rolled_by (is_ready d) refl)

  -- ---- images

  others_same : (s : ℕ) → (d.next ≡ s → ⊥) → images_of e s ≡ images_of d s
  others_same s other =
      ap (λ (x : MasterData). images_of x s) is.rest ∙ rolled_other d.head d.closed roll s none
      (λ same. other (sym roll_id ∙ same))

  new_image : images_of e d.next ≡ start_entries d.config.master n
  new_image =
      ap (λ (x : MasterData). images_of x d.next) is.rest ∙ ap (images_of (rolling_data d)) (sym roll_id)
      ∙ rolled_own d.head d.closed roll (λ same. (let lt = kept.core.used in let own = roll_id in omega arith))
      ∙ ap (start_entries d.config.master) start_same

  same_images : (s : ℕ) → images_of e s ≡ then_memory.images s
  same_images s = at_segment (s == n.id) refl where
    at_segment : (t : Bool) → (s == n.id) ≡ t → images_of e s ≡ then_memory.images s
    at_segment true here = rw here (ap (images_of e) (eqb-true s n.id here ∙ next_id (is_ready d)) ∙ new_image)
    at_segment false away =
        rw away (others_same s (λ same. (
        let yes : (s == n.id) ≡ true = ap (λ (z : ℕ). s == z) (next_id (is_ready d) ∙ same) ∙ same_id s in cc)))

  -- ---- the open pass

  leaves : LeavesPass d e
  leaves = record {
    pass = ap (λ (x : MasterData). (memory_of x).pass) is.rest
        ∙ (λ i. record {
          victims = same_victims d.config.replicas d.closed d.pass i;
          survivors = same_survivors d.config.replicas d.closed d.pass i;
        });
    waiting = ap (λ (x : MasterData). (memory_of x).waiting) is.rest;
    rest = ap rest_now is.rest ∙ same_rest d.config.replicas d.closed (images_in d.closed) d.pass;
    victims = λ s victim.
        others_same s (λ own. (let lt = victim_below d kept.core s victim in let used = kept.core.used in omega arith));
  }

  -- ---- the index

  grow : Grow (images_of d) (images_of (rolling_data d))
  grow =
      rolled_grow d.head d.closed roll none
      (ap (segment_of d.closed) roll_id ∙ no_segment d.closed d.next (no_next d kept.core))

  each : (s : ℕ) → AllByRecursion IsEntry (images_of (rolling_data d) s)
  each = each_of (rolling_data d) (subst IsCore is.rest core)

  finds_same : (k : Key) → find e k ≡ find d k
  finds_same k =
      ap (λ (x : MasterData). find x k) is.rest
      ∙ found_grown (images_of d) (images_of (rolling_data d)) grow each d.index (state_now d).contents
      (index_of d kept.core) k

  behind : (k : Key) (q : Place) (p : EntryPlace) → find e k ≡ Some q → m.index k ≡ Some p
      → IsAmong q.segment (victims_of d.pass) → IsAmong p.segment (survivors_of d.pass) → ⊥
  behind k q p found indexed victim survivor =
      let both : entry_place d q ≡ p =
      same_Some (entry_place d q) p (sym (ap (option_map (entry_place d)) (sym (finds_same k) ∙ found)) ∙ indexed) in
      let segment : q.segment ≡ p.segment = ap (λ (x : EntryPlace). x.segment) both in
      never_both d kept.core q.segment victim (subst (λ (z : ℕ). IsAmong z (survivors_of d.pass))
      (sym segment) survivor)

  model : IsModel e then_memory
  model = is_model d e leaves then_memory.images m.index (is_ready d)
      (ap is_committing is.rest ∙ committing d.config.replicas d.closed d.pass) (λ s counts. same_images s) behind

  pub rolled_kept_as : IsKeptAs Holds e f
  rolled_kept_as =
      unhanded_kept d e f kept core
      (subst IsPlaced (sym is.rest) (placed_rolling d kept.core kept.placed none calm (start_id (is_ready d))))
      (ap (λ (x : MasterData). x.config) is.rest) (ap (λ (x : MasterData). x.waiting) is.rest)
      (own_holds lasts e core then_memory f rolled_holds model)

-- ---- of a master, and of one that is loading

module _ (d e : MasterData) (f : FleetState) (answer : StepAnswer) (is : BeginsRoll d answer e) (may : MayRollNow d)
    (core : IsCore e) where
  running : d.is_halted ≡ false
  running = (may_begin d is.passed).running

  calm : d.failover ≡ None
  calm = (may_begin d is.passed).calm

  pub rolled_kept : IsWellKept d f → IsWellKept e f
  rolled_kept kept =
      well_kept e f (rolled_kept_as all_lasts d e f answer (kept_as d f kept running)
      (λ ready now whole. commit_holds_all (log_of d) (memory_of d) f (commit_start (log_of d) (memory_of d))
      (Rolls (commit_start (log_of d) (memory_of d))) (kept.known running) now whole) calm is may core)

  -- one that is loading has no pass to commit
  unready : IsBare d → is_ready d ≡ true → ⊥
  unready bare ready =
      let never : false ≡ true =
      sym (ap (λ (o : Option OpenPass). option_map_or (is_ready_pass d.config.replicas d.closed) o false) bare.pass)
      ∙ ready in
      cc

  pub rolled_loaded : IsWellLoaded d f → IsWellLoaded e f
  rolled_loaded loaded =
      well_loaded e f (rolled_kept_as loading_lasts d e f answer (loaded_as d f loaded running)
      (λ ready now whole. absurd (unready loaded.bare ready)) calm is may core)
      (subst IsBare (sym is.rest) (rolling_bare d loaded.bare))
      (ap (λ (x : MasterData). x.is_halted) is.rest ∙ running)
