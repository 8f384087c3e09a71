-- One that is loading begins, loads an object, and becomes a master.
use Rattle.std.proofs.Common.{◌≡◌, ℕ, ◌+◌, ◌<◌, ◌≤◌, Bool, true, false, List, [], ◌∷◌, ◌++◌, length, refl}
use Rattle.std.proofs.Common.{sym, ap, subst, ◌∙◌, get_or, arith}
use Rattle.std.specs.Prelude.{Option, None, ◌==◌, ◌&&◌, is_none, map}
use Rattle.std.specs.List.{AllByRecursion}
use Rattle.std.proofs.lemmas.Bool.{eqb-true}
use Rattle.std.proofs.Math.Bool.{and-false}
use Rattle.std.proofs.lemmas.List.{length-append}
use Rattle.std.proofs.lemmas.Option.{slice_get-get_or}
use Rattle.master_core.specs.cleaner.declared.pass.Pass.{Pass as OpenPass}
use Rattle.entry.specs.declared.entry.Object.{Object}
use Rattle.entry.specs.declared.entry.Entry.{Entry}
use Rattle.entry.specs.Bag.{IsAmong}
use Rattle.replica.specs.Picture.{FleetState}
use Rattle.log_head.specs.Head.{HeadValue}
use Rattle.log_head.specs.Steps.{with_unit_end}
use Rattle.log_head.specs.log_laws.Heads.{fewest}
use Rattle.log_head.specs.log_laws.Ids.{has}
use Rattle.master_core.specs.log_laws.Data.{Head as FailHead, front, FailData, HasTaken}
use Rattle.master_core.specs.log_laws.Steps.{restored, adopted}
use Rattle.master_core.specs.log_bytes.Text.{IsWholeText}
use Rattle.master_core.specs.log_memory.Fleet.{HoldsAll, HoldsLoading}
use Rattle.master_core.specs.log_memory.Loading.{with_object, object_loaded}
use Rattle.master_core.specs.log_memory.Memory.{FailMemory}
use Rattle.master_core.specs.log_memory.Steps.{first_memory}
use Rattle.master_core.proofs.log_memory.LoadingFleets.{restored_holds_loading, load_holds_loading, finished_holds_all}
use Rattle.master_core.specs.master_state.declared.config.Config.{Config}
use Rattle.master_core.specs.master_state.Budget.{victims_of, is_committing}
use Rattle.master_core.specs.master_state.declared.waiting.Waiting.{Waiting}
use Rattle.master_core.specs.master_state.Causes.{is_pushed, is_done}
use Rattle.master_core.specs.master_state.Config.{config_fault}
use Rattle.master_core.specs.master_state.Data.{MasterData}
use Rattle.master_core.specs.master_state.Images.{images_among}
use Rattle.master_core.specs.master_state.Invariant.{AreApart, IsCore}
use Rattle.master_core.specs.master_state.Loading.{restored_data, IsBare, loaded_unit, MayLoadNow, Loads, Settles}
use Rattle.master_core.specs.master_state.Ledger.{took_in}
use Rattle.master_core.specs.master_state.Log.{placed, fail_config, opening_of, log_of, images_of, rest_now, memory_of}
use Rattle.master_core.proofs.master_state.Imaging.{same_id, other_id, appended_own, appended_other}
use Rattle.master_core.proofs.master_commands.HeadsInForce.{open_headed}
use Rattle.master_core.proofs.master_commands.LoadedCore.{is_admitted, done_parts, pushed_open, pushed_calm}
use Rattle.master_core.proofs.master_commands.LoadedCore.{pushed_whole}
use Rattle.master_core.proofs.master_state.Refusals.{has_homes, open_parts, working_parts}
use Rattle.master.specs.Invariant.{IsWellKept, IsWellLoaded}
use Rattle.master.specs.Placed.{holders, IsPlaced}
use Rattle.master.specs.Registry.{IsUnraised}
use Rattle.master.proofs.Applied.{images_beside, images_at}
use Rattle.master.proofs.HeadTexts.{head_whole}
use Rattle.master.proofs.Counting.{loading_unfailed}
use Rattle.master.proofs.InForce.{real_head, force_headed, calm_settled}
use Rattle.master.proofs.Lasting.{loading_lasts, well_kept, well_loaded}
use Rattle.master.proofs.Models.{IsModel, LeavesPass, is_model, own_holds}
use Rattle.master.proofs.Placements.{placed_more, placed_restored, placed_settled}
use Rattle.master.proofs.Placing.{placed_home, has_left}
use Rattle.master.proofs.Starting.{first_heads, may_begin, first_model}
use Rattle.master.proofs.NextOps.{never_opens}

-- ---- it begins

pub restored_loaded : (c : Config) (safe : ℕ) (f : FleetState) → config_fault c ≡ None → IsCore (restored_data c safe)
    → log_of (restored_data c safe) ≡ restored (fail_config c) safe → IsBare (restored_data c safe)
    → c.backups ≤ f.backups → ((b s : ℕ) → f.picture b c.master s ≡ None) → IsUnraised c.master f
    → IsWellLoaded (restored_data c safe) f
restored_loaded c safe f ok core log bare backups nothing least =
    well_loaded (restored_data c safe) f (record {
      core = core;
      placed = placed_restored c safe;
      holds = own_holds loading_lasts (restored_data c safe) core (first_memory (fail_config c) safe) f
          (subst (λ (l : FailData). HoldsLoading l (first_memory (fail_config c) safe) f) (sym log)
          (restored_holds_loading (fail_config c) safe f (may_begin c f ok nothing least) (first_heads c safe core)))
          (first_model c safe log);
      backups = backups;
      apart = tt;
    }) bare refl

-- ---- an object

fewest_within : (units bound : ℕ) (ns : List ℕ) → 0 < length ns → AllByRecursion (λ m. m ≤ units) ns
    → fewest bound ns ≤ units
fewest_within units bound [] some all = absurd (omega arith)
fewest_within units bound (n ∷ ns) some all = let le = all.0 in omega arith

-- a core whose head has one unit more has that to push
unit_lags : (d : MasterData) → IsCore d → (number : ℕ) (unit : List Entry) (e : MasterData)
    → e.head ≡ with_unit_end d.head number unit → is_done e ≡ false
unit_lags d core number unit e head =
    ap (λ (h : HeadValue). is_none e.failover && is_pushed h) head
    ∙ ap (λ (t : Bool). is_none e.failover && t) (go (is_pushed (with_unit_end d.head number unit)) refl)
    ∙ and-false (is_none e.failover)
  where
    go : (t : Bool) → is_pushed (with_unit_end d.head number unit) ≡ t
        → is_pushed (with_unit_end d.head number unit) ≡ false
    go false is = is
    go true is =
        let both = pushed_open (with_unit_end d.head number unit) is in
        let count = (open_parts (with_unit_end d.head number unit) both.0).0 in
        let some = (has_homes d.config core.config).some in
        let same = core.replicas in
        let all = both.1 in
        let low = fewest_within (length d.head.units) (length (with_unit_end d.head number unit).units) d.head.taken
        (omega arith) core.head.taken in
        let more : length (with_unit_end d.head number unit).units ≡ length d.head.units + 1 =
        length-append d.head.units _ in
        absurd (omega arith)

module _ (d e : MasterData) (f : FleetState) (o : Object) (loaded : IsWellLoaded d f) (is : Loads d o e)
    (may : MayLoadNow d o)
    (core : IsCore e) (bare : IsBare e) where
  abbrev m : FailMemory
  m = memory_of d

  abbrev head : ℕ
  head = (log_of d).head.start.id

  abbrev unit : List Entry
  unit = loaded_unit o

  abbrev then_memory : FailMemory
  then_memory = object_loaded (log_of d) m o

  abbrev grown_head : HeadValue
  grown_head = with_unit_end d.head 0 unit

  own : head ≡ d.head.id
  own =
      let calm = (working_parts d (is_admitted d o is.passed).works).1 in
      ap (λ (h : FailHead). h.start.id) (force_headed d (open_headed d may.1.opened calm))
      ∙ loaded.core.image.id

  images_then : (s : ℕ) → images_of e s ≡ images_among grown_head d.closed s
  images_then s = ap (λ (x : MasterData). images_of x s) is.rest

  same_images : (s : ℕ) → images_of e s ≡ then_memory.images s
  same_images s = at_segment (d.head.id == s) refl where
    at_segment : (t : Bool) → (d.head.id == s) ≡ t → images_of e s ≡ then_memory.images s
    at_segment true here =
        let same : head ≡ s = own ∙ eqb-true d.head.id s here in
        images_then s ∙ appended_own d.head grown_head d.closed unit s refl refl here
        ∙ sym (ap (λ (z : ℕ). then_memory.images z) (sym same) ∙ images_at m.images head unit
        ∙ ap (λ (z : ℕ). m.images z ++ unit) same)
    at_segment false away =
        let beside : (s == head) ≡ false = other_id s head (λ x. (
        let same : d.head.id ≡ s = sym own ∙ sym x in
        let yes : (d.head.id == s) ≡ true = ap (λ (z : ℕ). d.head.id == z) (sym same) ∙ same_id d.head.id in cc)) in
        images_then s ∙ appended_other d.head grown_head d.closed s refl refl away
        ∙ sym (images_beside m.images head s unit beside)

  no_victims : (s : ℕ) → IsAmong s (victims_of d.pass) → ⊥
  no_victims s victim = subst (λ (p : Option OpenPass). IsAmong s (victims_of p)) loaded.bare.pass victim

  leaves : LeavesPass d e
  leaves = record {
    pass = ap (λ (x : MasterData). (memory_of x).pass) is.rest;
    waiting = ap (λ (x : MasterData). (memory_of x).waiting) is.rest;
    rest = ap rest_now is.rest;
    victims = λ s victim. absurd (no_victims s victim);
  }

  then_model : IsModel e then_memory
  then_model = is_model d e leaves then_memory.images then_memory.index (is_committing d)
      (ap is_committing is.rest) (λ s counts. same_images s)
      (λ k q p found indexed victim survivor. no_victims q.segment victim)

  whole : IsWholeText d.config.master head
      (front (with_object (log_of d) o).head (length (with_object (log_of d) o).head.units))
  whole =
      subst (λ (l : FailData). IsWholeText l.config.master l.head.start.id (front l.head (length l.head.units))) is.log
      (head_whole e core)

  then_loading : HoldsLoading (log_of d) m f → HoldsLoading (log_of e) (memory_of e) f
  then_loading holds =
      own_holds loading_lasts e core then_memory f
      (subst (λ (l : FailData). HoldsLoading l then_memory f) (sym is.log)
      (load_holds_loading (log_of d) m f o holds may.0 whole)) then_model

  pub object_is_loaded : IsWellLoaded e f
  object_is_loaded = record {
    core = core;
    bare = bare;
    placed = placed_more d e loaded.placed 0 unit (record {
      config = ap (λ (x : MasterData). x.config) is.rest;
      failed = ap (λ (x : MasterData). x.failed) is.rest;
      failover = ap (λ (x : MasterData). x.failover) is.rest;
      ledger = ap (λ (x : MasterData). x.ledger) is.rest;
      closed = ap (λ (x : MasterData). x.closed) is.rest;
    }) (ap (λ (x : MasterData). x.head) is.rest)
        (never_opens d.failover (working_parts d (is_admitted d o is.passed).works).1);
    loading = λ going. then_loading (loaded.loading (sym (ap (λ (x : MasterData). x.is_halted) is.rest) ∙ going));
    backups = subst (λ (x : MasterData). x.config.backups ≤ f.backups) (sym is.rest) loaded.backups;
    halted = λ stopped. unit_lags d loaded.core 0 unit e (ap (λ (x : MasterData). x.head) is.rest);
  }

-- ---- it has loaded all

module _ (d e : MasterData) (f : FleetState) (loaded : IsWellLoaded d f) (done : is_done d ≡ true)
    (is : Settles d e)
    (core : IsCore e) where
  running : d.is_halted ≡ false
  running = go d.is_halted refl where
    go : (t : Bool) → d.is_halted ≡ t → d.is_halted ≡ false
    go true stopped = absurd (let never = sym (loaded.halted stopped) ∙ done in cc)
    go false going = going

  calm : d.failover ≡ None
  calm = (done_parts d done).0

  in_force : (log_of d).head ≡ real_head d.head
  in_force = force_headed d (open_headed d (pushed_open d.head (done_parts d done).1).0 calm)

  -- each backup of the head has all units
  whole_there : (b : ℕ) → HasTaken (log_of d) (log_of d).head.start.id b
      → (log_of d).counts b ≡ length (log_of d).head.units
  whole_there b took =
      let works = (loading_unfailed d f (loaded.loading running)).head (calm_settled d calm) b took in
      let there : has (placed d.config d.failed d.head.id (length d.head.taken)) b ≡ true =
      sym (ap (λ (bs : List ℕ). has bs b)
      (ap (λ (h : FailHead). holders d h.start.id) in_force ∙ ap (holders d) loaded.core.image.id
      ∙ loaded.placed.head)) ∙ has_left d.failed (took_in d.ledger (log_of d).head.start.id) b took works in
      let at = placed_home d.config d.failed d.head.id (length d.head.taken) b there in
      let count = slice_get-get_or d.head.taken at.replica 0 at.within in
      ap (log_of d).counts at.is
      ∙ loaded.placed.counts at.replica (get_or d.head.taken at.replica 0) count
      ∙ (pushed_whole d loaded.core done).all at.replica (get_or d.head.taken at.replica 0) count
      ∙ sym (ap (λ (h : FailHead). length h.units) in_force)

  holds : HoldsAll (log_of e) (memory_of e) f
  holds =
      subst (λ (l : FailData). HoldsAll l (memory_of e) f) (sym is.log)
      (subst (λ (x : MasterData). HoldsAll (adopted (log_of d) (opening_of d)) (memory_of x) f) (sym is.rest)
      (finished_holds_all (log_of d) (memory_of d) f (loaded.loading running) (pushed_calm d loaded.core done)
      whole_there))

  pub finished_kept : IsWellKept e f
  finished_kept = well_kept e f (record {
    core = core;
    placed = subst IsPlaced (sym is.rest) (placed_settled d loaded.placed);
    holds = holds;
    backups = subst (λ (x : MasterData). x.config.backups ≤ f.backups) (sym is.rest) loaded.backups;
    apart = subst (λ (ws : List Waiting). AreApart (map (λ (w : Waiting). w.segment) ws))
        (sym (ap (λ (x : MasterData). x.waiting) is.rest ∙ loaded.bare.waiting)) tt;
  })
