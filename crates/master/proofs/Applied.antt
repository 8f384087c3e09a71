-- A command that is applied keeps what holds of a master.
use Rattle.std.proofs.Common.{◌≡◌, ◌⊎◌, ℕ, inl, inr, Bool, true, false, List, [], ◌∷◌, ◌++◌, length, Some, refl, sym}
use Rattle.std.proofs.Common.{ap, subst, ◌∙◌, append_assoc, arith}
use Rattle.std.specs.Prelude.{Option, None, ◌==◌, if◌then◌else◌}
use Rattle.std.specs.Option.{option_map, option_map_or}
use Rattle.std.proofs.lemmas.List.{append-nil}
use Rattle.std.proofs.lemmas.Bool.{eqb-true}
use Rattle.std.proofs.lemmas.Option.{same_Some}
use Rattle.entry.specs.declared.key.Key.{Key}
use Rattle.entry.specs.declared.entry.Entry.{Entry}
use Rattle.entry.specs.declared.entry.Entry.TheVariants as entry
use Rattle.entry.specs.Bag.{IsAmong}
use Rattle.entry.specs.Order.{key_eq}
use Rattle.replica.specs.Picture.{FleetState}
use Rattle.versioned_map.specs.declared.command.Command.{Command}
use Rattle.versioned_map.specs.declared.command.Record.{Record}
use Rattle.versioned_map.specs.Command.{command_key}
use Rattle.log_head.specs.Head.{HeadValue}
use Rattle.master_core.specs.log_laws.Memory.{Place as EntryPlace, Index, Images, grown}
use Rattle.master_core.specs.log_laws.ImageSteps.{next_place, index_after, images_with, index_with}
use Rattle.master_core.specs.log_laws.Data.{Head as FailHead, front, FailData}
use Rattle.master_core.specs.log_laws.Steps.{unit_now as log_unit, applied}
use Rattle.master_core.specs.log_bytes.Text.{IsWholeText}
use Rattle.master_core.specs.log_memory.Fleet.{HoldsAll}
use Rattle.master_core.specs.log_memory.Memory.{FailMemory}
use Rattle.master_core.specs.log_memory.Steps.{recorded, IsNamed}
use Rattle.master_core.proofs.log_memory.FleetSteps.{apply_holds_all}
use Rattle.places.specs.declared.place.Place.{Place}
use Rattle.master_core.specs.master_state.declared.step.StepAnswer.{StepAnswer}
use Rattle.master_core.specs.master_state.Budget.{victims_of, survivors_of, is_committing}
use Rattle.master_core.specs.master_state.Causes.{dead_segment, is_empty}
use Rattle.master_core.specs.master_state.Steps.{appended, record_now, Applies, MayApplyNow}
use Rattle.master_core.specs.master_state.Data.{MasterData}
use Rattle.master_core.specs.master_state.Images.{images_among}
use Rattle.master_core.specs.master_state.Invariant.{IsCore}
use Rattle.master_core.specs.master_state.Log.{log_of, images_of, find, entry_place, rest_now, memory_of}
use Rattle.master_core.proofs.master_commands.Adding.{same_appended, image_appended}
use Rattle.master_core.proofs.master_commands.HeadsInForce.{open_opened}
use Rattle.master_core.proofs.master_state.Imaging.{same_id, other_id, appended_own, appended_other}
use Rattle.master_core.proofs.master_state.Refusals.{is_admitted, passed_early, unit_working, working_parts}
use Rattle.master.specs.Invariant.{IsWellKept}
use Rattle.master.specs.Placed.{IsPlaced}
use Rattle.master.proofs.HeadTexts.{head_whole}
use Rattle.master.proofs.InForce.{headed, force_headed}
use Rattle.master.proofs.Lasting.{kept_as, well_kept, unhanded_kept}
use Rattle.master.proofs.Models.{IsModel, LeavesPass, is_model, own_holds_all}
use Rattle.master.proofs.Placements.{placed_appended}
use Rattle.master.proofs.Victims.{victim_below, survivor_no_head, never_both}

-- ---- images and the index

pub images_beside : (images : Images) (s z : ℕ) (es : List Entry) → (z == s) ≡ false
    → images_with images s es z ≡ images z
images_beside images s z [] away = refl
images_beside images s z (e ∷ es) away =
    let here : grown images s e z ≡ images z = rw away refl in
    images_beside (grown images s e) s z es away ∙ here

pub images_at : (images : Images) (s : ℕ) (es : List Entry) → images_with images s es s ≡ images s ++ es
images_at images s [] = sym (append-nil (images s))
images_at images s (e ∷ es) =
    let t = same_id s in
    let here : grown images s e s ≡ images s ++ e ∷ [] = rw t refl in
    images_at (grown images s e) s es ∙ ap (λ (l : List Entry). l ++ es) here ∙ append_assoc (images s) (e ∷ []) es

-- what an index finds once a segment has more it found before, or it is there
index_one : (images : Images) (index : Index) (s : ℕ) (e : Entry) (k : Key) (r : EntryPlace)
    → index_after images index s e k ≡ Some r
    → (r.segment ≡ s) ⊎ (index k ≡ Some r)
index_one images index s (entry.Header h) k r is = inr is
index_one images index s (entry.Digest l) k r is = inr is
index_one images index s (entry.Safe version) k r is = inr is
index_one images index s (entry.Object o) k r is = go (key_eq k o.key) is where
  go : (t : Bool) → (if t then Some (next_place images s) else index k) ≡ Some r → (r.segment ≡ s) ⊎ (index k ≡ Some r)
  go true is = inl (sym (ap (λ (p : EntryPlace). p.segment) (same_Some (next_place images s) r is)))
  go false is = inr is
index_one images index s (entry.Tombstone t) k r is = go (key_eq k t.key) is where
  go : (t : Bool) → (if t then None else index k) ≡ Some r → (r.segment ≡ s) ⊎ (index k ≡ Some r)
  go true is = absurd (cc)
  go false is = inr is

index_more : (images : Images) (index : Index) (s : ℕ) (es : List Entry) (k : Key) (r : EntryPlace)
    → index_with images index s es k ≡ Some r
    → (r.segment ≡ s) ⊎ (index k ≡ Some r)
index_more images index s [] k r is = inr is
index_more images index s (e ∷ es) k r is =
    elim (index_more (grown images s e) (index_after images index s e) s es k r is) [
      | inl here ↦ inl here
      | inr before ↦ index_one images index s e k r before
    ]

-- ---- a command

module _ (d e : MasterData) (f : FleetState) (seat : ℕ) (command : Command) (answer : StepAnswer)
    (kept : IsWellKept d f) (is : Applies d seat command answer e)
    (may : MayApplyNow d seat command) (core : IsCore e) where
  abbrev m : FailMemory
  m = memory_of d

  abbrev r : Record
  r = record_now d seat command

  abbrev unit : List Entry
  unit = log_unit (log_of d) (dead_segment d command) (record_now d seat command)

  -- the head of the log, which is open if something is appended
  abbrev head : ℕ
  head = (log_of d).head.start.id

  head_is : (unit ≡ []) ⊎ (head ≡ d.head.id)
  head_is = go unit refl where
    go : (u : List Entry) → unit ≡ u → (unit ≡ []) ⊎ (head ≡ d.head.id)
    go [] none = inl none
    go (x ∷ u) some =
        let works = working_parts d (unit_working d command is.passed (ap is_empty some)) in
        inr (ap (λ (h : FailHead). h.start.id) (force_headed d (headed d works.1 (open_opened d.head works.0)))
        ∙ kept.core.image.id)

  running : d.is_halted ≡ false
  running = (is_admitted d command (passed_early d command is.passed)).running

  -- the tombstone of a present key names the segment in which memory has its object
  named : IsNamed m (dead_segment d command) r
  named p indexed = go (find d (command_key command)) indexed where
    go : (o : Option Place) → option_map (entry_place d) o ≡ Some p
        → option_map_or (λ (q : Place). q.segment) o 0 ≡ p.segment
    go None indexed = absurd (cc)
    go (Some q) indexed = ap (λ (x : EntryPlace). x.segment) (same_Some (entry_place d q) p indexed)

  abbrev then_memory : FailMemory
  then_memory = recorded (log_of d) m (dead_segment d command) r

  -- ---- the images

  abbrev grown_head : HeadValue
  grown_head = appended d.head (length d.history) unit

  images_then : (s : ℕ) → images_of e s ≡ images_among grown_head d.closed s
  images_then s = ap (λ (x : MasterData). images_of x s) is.rest

  others_same : (s : ℕ) → (d.head.id == s) ≡ false → images_of e s ≡ images_of d s
  others_same s away =
      let grows = same_appended d.head (length d.history) unit in
      images_then s ∙ appended_other d.head grown_head d.closed s grows.0 grows.2 away

  -- nothing is appended
  none_images : unit ≡ [] → (s : ℕ) → images_of e s ≡ then_memory.images s
  none_images none s =
      images_then s ∙ ap (λ (u : List Entry). images_among (appended d.head (length d.history) u) d.closed s) none
      ∙ sym (ap (λ (u : List Entry). images_with m.images head u s) none)

  head_images : head ≡ d.head.id → (s : ℕ) → images_of e s ≡ then_memory.images s
  head_images own s = at_segment (d.head.id == s) refl where
    at_segment : (t : Bool) → (d.head.id == s) ≡ t → images_of e s ≡ then_memory.images s
    at_segment true here =
        let same : head ≡ s = own ∙ eqb-true d.head.id s here in
        let grows = same_appended d.head (length d.history) unit in
        images_then s ∙ appended_own d.head grown_head d.closed unit s grows.0
        (image_appended d.head (length d.history) unit) here
        ∙ sym (ap (λ (z : ℕ). then_memory.images z) (sym same) ∙ images_at m.images head unit
        ∙ ap (λ (z : ℕ). m.images z ++ unit) same)
    at_segment false away =
        let beside : (s == head) ≡ false = other_id s head (λ x. (
        let same : d.head.id ≡ s = sym own ∙ sym x in
        let yes : (d.head.id == s) ≡ true = ap (λ (z : ℕ). d.head.id == z) (sym same) ∙ same_id d.head.id in cc)) in
        others_same s away ∙ sym (images_beside m.images head s unit beside)

  same_images : (s : ℕ) → images_of e s ≡ then_memory.images s
  same_images s = elim head_is as (λ _. images_of e s ≡ then_memory.images s) [
    | inl none ↦ none_images none s
    | inr own ↦ head_images own s
  ]

  -- ---- the open pass

  leaves : LeavesPass d e
  leaves = record {
    pass = ap (λ (x : MasterData). (memory_of x).pass) is.rest;
    waiting = ap (λ (x : MasterData). (memory_of x).waiting) is.rest;
    rest = ap rest_now is.rest;
    victims = λ s victim.
        others_same s (other_id d.head.id s (λ own. (let lt = victim_below d kept.core s victim in omega arith)));
  }

  -- what the model's index finds it found before, or it is in the head
  was_indexed : (k : Key) (p : EntryPlace) → then_memory.index k ≡ Some p
      → (p.segment ≡ d.head.id) ⊎ (m.index k ≡ Some p)
  was_indexed k p indexed = elim head_is as (λ _. (p.segment ≡ d.head.id) ⊎ (m.index k ≡ Some p)) [
    | inl none ↦ inr (sym (ap (λ (u : List Entry). index_with m.images m.index head u k) none) ∙ indexed)
    | inr own ↦ elim (index_more m.images m.index head unit k p indexed)
        as (λ _. (p.segment ≡ d.head.id) ⊎ (m.index k ≡ Some p)) [
          | inl there ↦ inl (there ∙ own)
          | inr before ↦ inr before
        ]
  ]

  -- what is found in a victim was found there before
  behind : (k : Key) (q : Place) (p : EntryPlace) → find e k ≡ Some q → then_memory.index k ≡ Some p
      → IsAmong q.segment (victims_of d.pass) → IsAmong p.segment (survivors_of d.pass) → ⊥
  behind k q p found indexed victim survivor = elim (is.found k q found) as (λ _. ⊥) [
    | inl before ↦ elim (was_indexed k p indexed) as (λ _. ⊥) [
      | inl own ↦ survivor_no_head d kept.core p.segment survivor own
      | inr old ↦ (
          let both : entry_place d q ≡ p = same_Some (entry_place d q) p
          (sym (ap (option_map (entry_place d)) before) ∙ old) in
          let segment : q.segment ≡ p.segment = ap (λ (x : EntryPlace). x.segment) both in
          never_both d kept.core q.segment victim (subst (λ (z : ℕ). IsAmong z (survivors_of d.pass))
          (sym segment) survivor))
    ]
    | inr own ↦ (let lt = victim_below d kept.core q.segment victim in omega arith)
  ]

  model : IsModel e then_memory
  model = is_model d e leaves then_memory.images then_memory.index (is_committing d)
      (ap is_committing is.rest) (λ s counts. same_images s) behind

  -- ---- the log

  log_then : log_of e ≡ applied (log_of d) (dead_segment d command) r
  log_then = is.log

  whole : IsWholeText d.config.master head
      (front (applied (log_of d) (dead_segment d command) r).head
      (length (applied (log_of d) (dead_segment d command) r).head.units))
  whole =
      subst (λ (l : FailData). IsWholeText l.config.master l.head.start.id (front l.head (length l.head.units)))
      log_then
      (head_whole e core)

  placed : IsPlaced e
  placed =
      placed_appended d e kept.placed (length d.history) unit (record {
        config = is.config;
        failed = ap (λ (x : MasterData). x.failed) is.rest;
        failover = ap (λ (x : MasterData). x.failover) is.rest;
        ledger = ap (λ (x : MasterData). x.ledger) is.rest;
        closed = ap (λ (x : MasterData). x.closed) is.rest;
      }) (ap (λ (x : MasterData). x.head) is.rest) may.0.calm

  pub applied_kept : IsWellKept e f
  applied_kept =
      well_kept e f (unhanded_kept d e f (kept_as d f kept running) core placed is.config
      (ap (λ (x : MasterData). x.waiting) is.rest)
      (own_holds_all e core then_memory f (subst (λ (l : FailData). HoldsAll l then_memory f) (sym is.log)
      (apply_holds_all (log_of d) m f (dead_segment d command) r (kept.known running) may.0 named whole)) model))
