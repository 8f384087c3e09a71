-- A segment that is compacted keeps what holds of a master.
use Rattle.std.proofs.Common.{◌≡◌, ℕ, Bool, true, false, List, refl, sym, ap, subst, ◌∙◌, arith}
use Rattle.std.specs.Prelude.{Option, Some, None, ◌==◌}
use Rattle.std.specs.Option.{option_map}
use Rattle.std.proofs.lemmas.Bool.{eqb-true}
use Rattle.std.proofs.lemmas.Option.{same_Some}
use Rattle.entry.specs.declared.key.Key.{Key}
use Rattle.entry.specs.declared.entry.Entry.{Entry}
use Rattle.entry.specs.Bag.{IsAmong}
use Rattle.replica.specs.Picture.{FleetState}
use Rattle.images.specs.Steps.{replaced_by}
use Rattle.master_core.specs.log_laws.Compaction.{moved_place, kept_before}
use Rattle.master_core.specs.log_laws.Memory.{Place as EntryPlace}
use Rattle.master_core.proofs.log_laws.KeptEntries.{has_is}
use Rattle.master_core.specs.log_laws.Data.{FailData}
use Rattle.master_core.specs.log_memory.Fleet.{HoldsAll}
use Rattle.master_core.specs.log_memory.Memory.{FailMemory, log_ids}
use Rattle.master_core.specs.log_memory.Steps.{compacted, MayCompact}
use Rattle.master_core.proofs.log_memory.FleetSteps.{compact_holds_all}
use Rattle.places.specs.declared.place.Place.{Place}
use Rattle.master_core.specs.compactor.Kept.{kept_of}
use Rattle.master_core.specs.compactor.Laws.{compacted_images, CompactionFollows}
use Rattle.master_core.proofs.compactor.FollowLaw.{follows}
use Rattle.master_core.specs.master_state.declared.step.StepAnswer.{StepAnswer}
use Rattle.master_core.specs.master_state.Budget.{victims_of, survivors_of, is_committing}
use Rattle.master_core.specs.master_state.Data.{MasterData}
use Rattle.master_core.specs.master_state.Invariant.{IsCore}
use Rattle.master_core.specs.master_state.Log.{log_of, images_of, find, entry_place, memory_of, log_set_ids}
use Rattle.master_core.specs.master_state.Steps.{kept_now, compacted_data, Compacts}
use Rattle.master_core.proofs.master_state.Calm.{calm_parts}
use Rattle.master_core.proofs.master_space.CompactedCore.{IsAdmitted, admitted, in_digest, images_then}
use Rattle.master_core.proofs.master_space.CompactedIndex.{found_elsewhere}
use Rattle.master_core.proofs.master_state.Imaging.{other_id}
use Rattle.master.specs.Invariant.{IsWellKept}
use Rattle.master.specs.Placed.{IsPlaced}
use Rattle.master.proofs.KeptByEntries.{kept_by_entries}
use Rattle.master.proofs.Lasting.{kept_as, well_kept, unhanded_kept}
use Rattle.master.proofs.LogSets.{has_same, same_set, of_digest}
use Rattle.master.proofs.Models.{IsModel, LeavesPass, rest_stays, is_model, own_holds_all}
use Rattle.master.proofs.Placements.{AreSame, changed_same, placed_same}
use Rattle.master.proofs.Victims.{survivor_outside, never_both}

law : CompactionFollows
law = λ ids held images segment valid lie all. follows ids held images segment valid lie all

-- a place that has moved is in its segment
same_segment : (ids : List ℕ) (index : Key → Option EntryPlace) (s : ℕ) (es : List Entry) (r p : EntryPlace)
    → moved_place ids index s es (Some r) ≡ Some p → r.segment ≡ p.segment
same_segment ids index s es r p is = go (r.segment == s) refl where
  go : (t : Bool) → (r.segment == s) ≡ t → r.segment ≡ p.segment
  go true here =
      eqb-true r.segment s here
      ∙ ap (λ (x : EntryPlace). x.segment) (same_Some (record {
        segment = s;
        position = kept_before ids index s 0 es r.position;
      }) p (rw here at is))
  go false away = ap (λ (x : EntryPlace). x.segment) (same_Some r p (rw away at is))

module _ (d e : MasterData) (f : FleetState) (id : ℕ) (answer : StepAnswer) (kept : IsWellKept d f)
    (is : Compacts d id answer e)
    (core : IsCore e) where
  abbrev m : FailMemory
  m = memory_of d

  abbrev ids : List ℕ
  ids = log_ids (log_of d) (memory_of d)

  abbrev then_memory : FailMemory
  then_memory = compacted (log_of d) m id

  fit : IsAdmitted d id
  fit = admitted d id is.passed

  step : (d.is_halted ≡ false) × (d.failover ≡ None)
  step = calm_parts d fit.step

  no_victim : IsAmong id (victims_of d.pass) → ⊥
  no_victim victim =
      let there = sym (has_same (victims_of d.pass) id) ∙ has_is (victims_of d.pass) id victim in
      let never : false ≡ true = sym fit.spared ∙ there in
      cc

  may : MayCompact (log_of d) m id
  may = record {
    counts = of_digest d kept.core id step.1 (in_digest d kept.core id fit);
    no_survivor = λ survivor. survivor_outside d kept.core id survivor (in_digest d kept.core id fit);
    no_victim = no_victim;
  }

  -- ---- images

  images_are : (s : ℕ) → images_of e s ≡ compacted_images (log_set_ids d) d.index (images_of d) id s
  images_are s = ap (λ (x : MasterData). images_of x s) is.rest ∙ images_then d kept.core id fit s

  others_same : (s : ℕ) → (s == id) ≡ false → images_of e s ≡ images_of d s
  others_same s away =
      let beside : compacted_images (log_set_ids d) d.index (images_of d) id s ≡ images_of d s = rw away refl in
      images_are s ∙ beside

  same_images : (s : ℕ) → images_of e s ≡ then_memory.images s
  same_images s = at_segment (s == id) refl where
    at_segment : (t : Bool) → (s == id) ≡ t → images_of e s ≡ then_memory.images s
    at_segment true here =
        let own : compacted_images (log_set_ids d) d.index (images_of d) id s
        ≡ kept_of (log_set_ids d) d.index id (images_of d id) = rw here refl in
        let now = images_are s ∙ own in
        rw here (now ∙ sym (kept_by_entries d kept.core ids (log_set_ids d) (λ z. same_set d kept.core z step.1) id))
    at_segment false away = let now = others_same s away in rw away now

  -- ---- the open pass

  pass_same : e.pass ≡ d.pass
  pass_same = ap (λ (x : MasterData). x.pass) is.rest

  victims_same : (s : ℕ) → IsAmong s (victims_of d.pass) → images_of e s ≡ images_of d s
  victims_same s victim =
      others_same s (other_id s id (λ same. no_victim (subst (λ (z : ℕ). IsAmong z (victims_of d.pass)) same victim)))

  leaves : LeavesPass d e
  leaves = record {
    pass = ap (λ (x : MasterData). (memory_of x).pass) is.rest;
    waiting = ap (λ (x : MasterData). (memory_of x).waiting) is.rest;
    rest = rest_stays d e kept.core core pass_same
        (let own = ap (λ (x : MasterData). x.head.id) is.rest in omega arith) victims_same;
    victims = victims_same;
  }

  -- what is found in a victim was found there before
  behind : (k : Key) (q : Place) (p : EntryPlace) → find e k ≡ Some q → then_memory.index k ≡ Some p
      → IsAmong q.segment (victims_of d.pass) → IsAmong p.segment (survivors_of d.pass) → ⊥
  behind k q p found indexed victim survivor =
      let now : find (compacted_data d id) k ≡ Some q = sym (ap (λ (x : MasterData). find x k) is.rest) ∙ found in
      let before = found_elsewhere law d kept.core id fit k q now
      (λ same. no_victim (subst (λ (z : ℕ). IsAmong z (victims_of d.pass)) same victim)) in
      let moved : moved_place ids m.index id (m.images id) (Some (entry_place d q)) ≡ Some p =
      sym (ap (λ (o : Option Place). moved_place ids m.index id (m.images id) (option_map (entry_place d) o))
      before) ∙ indexed in
      let segment = same_segment ids m.index id (m.images id) (entry_place d q) p moved in
      never_both d kept.core q.segment victim (subst (λ (z : ℕ). IsAmong z (survivors_of d.pass))
      (sym segment) survivor)

  model : IsModel e then_memory
  model = is_model d e leaves then_memory.images then_memory.index (is_committing d)
      (ap is_committing is.rest) (λ s counts. same_images s) behind

  placed : IsPlaced e
  placed = placed_same d e (record {
    config = ap (λ (x : MasterData). x.config) is.rest;
    failed = ap (λ (x : MasterData). x.failed) is.rest;
    failover = ap (λ (x : MasterData). x.failover) is.rest;
    ledger = ap (λ (x : MasterData). x.ledger) is.rest;
    id = ap (λ (x : MasterData). x.head.id) is.rest;
    replicas = ap (λ (x : MasterData). x.head.replicas) is.rest;
    taken = ap (λ (x : MasterData). x.head.taken) is.rest;
    roll = ap (λ (x : MasterData). x.head.roll) is.rest;
    units = λ opens. ap (λ (x : MasterData). x.head.units) is.rest;
    closed = subst (λ (x : MasterData). AreSame d.closed x.closed) (sym is.rest)
        (changed_same d.closed id (replaced_by (kept_now d id)) (λ x. refl) (λ x. refl));
  }) kept.placed

  pub compacted_kept : IsWellKept e f
  compacted_kept =
      well_kept e f (unhanded_kept d e f (kept_as d f kept step.0) core placed
      (ap (λ (x : MasterData). x.config) is.rest)
      (ap (λ (x : MasterData). x.waiting) is.rest)
      (own_holds_all e core then_memory f (subst (λ (l : FailData). HoldsAll l then_memory f) (sym is.log)
      (compact_holds_all (log_of d) m f id (kept.known step.0) may)) model))
