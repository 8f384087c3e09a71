-- A pass that begins keeps what holds of a master.
use Rattle.std.proofs.Common.{◌≡◌, ℕ, zero, suc, ◌+◌, ◌<◌, ◌≤◌, Bool, true, false, List, [], ◌∷◌, ◌++◌, map, length}
use Rattle.std.proofs.Common.{drop, refl, sym}
use Rattle.std.proofs.Common.{ap, subst, ◌∙◌, arith}
use Rattle.std.specs.Prelude.{Option, Some, None, IfSome, is_some, unwrap_or, ◌==◌, if◌then◌else◌}
use Rattle.std.specs.List.{AllByRecursion, range_with_len}
use Rattle.std.specs.Option.{option_map_or}
use Rattle.std.proofs.lemmas.Bool.{eqb-true}
use Rattle.std.proofs.lemmas.List.{append-nil}
use Rattle.master_core.specs.cleaner.declared.fault.PassFault.{PassFault}
use Rattle.master_core.specs.cleaner.declared.fault.PassFault.TheVariants.{PassOpen}
use Rattle.master_core.specs.cleaner.declared.pass.Cursor.{Cursor}
use Rattle.master_core.specs.cleaner.declared.pass.Pass.{Pass as OpenPass}
use Rattle.master_core.specs.cleaner.Passes.{images_in, places_of, rest_of}
use Rattle.master_core.proofs.cleaner.Places.{place_at, on_same, among_drop}
use Rattle.master_core.proofs.cleaner.SurvivorIds.{among_ids}
use Rattle.entry.specs.declared.entry.Entry.{Entry}
use Rattle.entry.specs.Bag.{IsAmong}
use Rattle.entry.specs.Text.{text_of, is_data}
use Rattle.entry.proofs.BagLemmas.{among_image}
use Rattle.entry.proofs.ListLemmas.{all_among}
use Rattle.places.specs.declared.place.Place.{Place}
use Rattle.images.specs.Image.{Image}
use Rattle.images.specs.Sorted.{segment_of}
use Rattle.log_head.specs.declared.head.Roll.{Roll}
use Rattle.log_head.specs.Log.{head_of}
use Rattle.replica.specs.Picture.{FleetState}
use Rattle.log_head.specs.log_laws.Ids.{has, all_inserted}
use Rattle.master_core.specs.log_laws.Compaction.{places}
use Rattle.master_core.specs.log_laws.Intact.{survivor_entries}
use Rattle.master_core.specs.log_laws.Memory.{Place as EntryPlace, Index, Pass, StandsAt, IsAt}
use Rattle.master_core.specs.log_laws.ImageSteps.{survivors_begun}
use Rattle.master_core.proofs.log_laws.KeptEntries.{has_is, is_has}
use Rattle.master_core.specs.log_laws.Data.{FailData}
use Rattle.master_core.specs.log_memory.Fleet.{HoldsAll}
use Rattle.master_core.specs.log_memory.Memory.{Spot, FailMemory}
use Rattle.master_core.specs.log_memory.Steps.{ids_taken, pass_begun, MayBeginClean}
use Rattle.master_core.proofs.log_memory.BegunSurvivors.{begun_survivors}
use Rattle.master_core.proofs.log_memory.FleetSteps.{begin_holds_all}
use Rattle.master_core.specs.master_state.declared.step.Refusal.{Refusal}
use Rattle.master_core.specs.master_state.declared.step.Refusal.TheVariants.{Pass as PassRefused}
use Rattle.master_core.specs.master_state.declared.step.StepAnswer.{StepAnswer}
use Rattle.master_core.specs.master_state.Budget.{victims_of, survivors_of}
use Rattle.master_core.specs.master_state.declared.config.Config.{Config}
use Rattle.master_core.specs.master_state.Causes.{step_refusal, victims_fault, survivors_for, space_refusal}
use Rattle.master_core.specs.master_state.declared.ledger.Posting.TheVariants as posting
use Rattle.master_core.specs.master_state.Data.{MasterData}
use Rattle.master_core.specs.master_state.Images.{survivor_images}
use Rattle.master_core.specs.master_state.Invariant.{IsRollOf, IsCore}
use Rattle.master_core.specs.master_state.Log.{log_of, memory_of, images_of, entry_place, position_of}
use Rattle.master_core.specs.master_state.Steps.{fresh_pass, BeginsPass}
use Rattle.master_core.proofs.master_state.Finding.{each_of}
use Rattle.master_core.proofs.master_state.Imaging.{ids_in, other_id, none_above}
use Rattle.master_core.proofs.master_state.Indexing.{Grow}
use Rattle.master_core.proofs.master_state.Refusals.{passes}
use Rattle.master_core.proofs.master_state.Calm.{passes_first, calm_parts}
use Rattle.master.specs.Invariant.{IsWellKept}
use Rattle.master.specs.Placed.{IsPlaced}
use Rattle.master.proofs.Agreeing.{Agree, agreeing_holds}
use Rattle.master.proofs.GrownImages.{index_then}
use Rattle.master.proofs.InForce.{others_in}
use Rattle.master.proofs.KeptByEntries.{position_is}
use Rattle.master.proofs.Lasting.{kept_as, well_kept, unhanded_kept}
use Rattle.master.proofs.OpenPasses.{closed_among, same_among, older_image, open_now}
use Rattle.master.proofs.Victims.{victim_older}
use Rattle.master.proofs.PassPlaces.{is_behind, place_there, place_of, no_places}
use Rattle.master.proofs.Placements.{placed_begun}

-- ---- no test refuses it

no_fault : (o : Option PassFault) (rest : Option Refusal)
    → option_map_or (λ (fault : PassFault). Some (PassRefused fault)) o rest ≡ None
    → o ≡ None
no_fault None rest is = refl
no_fault (Some fault) rest is = absurd (cc)

no_pass_open : (o : Option OpenPass) → is_some o ≡ false → o ≡ None
no_pass_open None is = refl
no_pass_open (Some p) is = absurd (cc)

-- ---- images of new survivors

-- an image behind others is found if none of those has its id
segment_append : (cs more : List Image) (s : ℕ) → segment_of cs s ≡ None → segment_of (cs ++ more) s ≡ segment_of more s
segment_append [] more s none = refl
segment_append (c ∷ cs) more s none = go (c.id == s) refl none (segment_append cs more s) where
  go : (t : Bool) → (c.id == s) ≡ t → segment_of (c ∷ cs) s ≡ None
      → (segment_of cs s ≡ None → segment_of (cs ++ more) s ≡ segment_of more s)
      → segment_of (c ∷ (cs ++ more)) s ≡ segment_of more s
  go true here none later = (let never = rw here at none in absurd (cc))
  go false away none later = (let rest : segment_of cs s ≡ None = rw away at none in rw away (later rest))

segment_still : (cs more : List Image) (s : ℕ) → segment_of more s ≡ None → segment_of (cs ++ more) s ≡ segment_of cs s
segment_still [] more s none = none
segment_still (c ∷ cs) more s none = go (c.id == s) refl (segment_still cs more s none) where
  go : (t : Bool) → (c.id == s) ≡ t → segment_of (cs ++ more) s ≡ segment_of cs s
      → segment_of (c ∷ (cs ++ more)) s ≡ segment_of (c ∷ cs) s
  go true here later = rw here refl
  go false away later = rw away later

segment_new : (c : Config) (ids : List ℕ) (s : ℕ) → segment_of (survivor_images c ids) s
    ≡ (if has ids s then Some (survivor_entries c.master s) else None)
segment_new c [] s = refl
segment_new c (z ∷ ids) s = go (z == s) refl (segment_new c ids s) where
  go : (t : Bool) → (z == s) ≡ t
      → segment_of (survivor_images c ids) s ≡ (if has ids s then Some (survivor_entries c.master s) else None)
      → segment_of (survivor_images c (z ∷ ids)) s
      ≡ (if has (z ∷ ids) s then Some (survivor_entries c.master s) else None)
  go true here later = rw here (ap (λ (y : ℕ). Some (survivor_entries c.master y)) (eqb-true z s here))
  go false away later = rw away later

-- ---- what the model's memory becomes

-- beside its images and survivors
module _ (d : FailData) (m : FailMemory) (victims : List ℕ) where
  victims_begun : (n : ℕ) → (pass_begun d m victims n).pass.victims ≡ victims
  victims_begun zero = refl
  victims_begun (suc n) = victims_begun n

  index_begun : (n : ℕ) → (pass_begun d m victims n).index ≡ m.index
  index_begun zero = refl
  index_begun (suc n) = index_begun n

  rest_begun : (n : ℕ) → (pass_begun d m victims n).rest ≡ places victims m.images
  rest_begun zero = refl
  rest_begun (suc n) = rest_begun n

  commits_begun : (n : ℕ) → (pass_begun d m victims n).commits ≡ m.commits
  commits_begun zero = refl
  commits_begun (suc n) = commits_begun n

  waiting_begun : (n : ℕ) → (pass_begun d m victims n).waiting ≡ m.waiting
  waiting_begun zero = refl
  waiting_begun (suc n) = waiting_begun n

-- ---- what a core becomes

abbrev ids_of : Option OpenPass → Pass
ids_of o = record { victims = victims_of o; survivors = survivors_of o }

-- a pass over these begins, with so many survivors
abbrev begun_data : MasterData → List ℕ → ℕ → Cursor → MasterData
begun_data d victims count cursor = record d {
  closed = d.closed ++ survivor_images d.config (range_with_len d.next count);
  next = d.next + count;
  pass = Some (fresh_pass victims (record { first = d.next; count = count }) cursor);
  ledger = posting.Survivors d.next count ∷ d.ledger;
}

module _ (d : MasterData) (core : IsCore d) (victims : List ℕ) (count : ℕ) (cursor : Cursor) (none : d.pass ≡ None)
    (then_core : IsCore (begun_data d victims count cursor))
    (begins : rest_of (images_in d.closed) (fresh_pass victims (record { first = d.next; count = count }) cursor)
    ≡ places_of (images_in d.closed) victims) where
  abbrev x : MasterData
  x = begun_data d victims count cursor

  abbrev fresh : OpenPass
  fresh = fresh_pass victims (record { first = d.next; count = count }) cursor

  abbrev news : List ℕ
  news = range_with_len d.next count

  -- ---- the new segments

  not_below : (s : ℕ) → IsAmong s (range_with_len d.next count) → d.next ≤ s
  not_below s among = (among_ids d.next count s among).0

  -- an older segment is none of them
  older_out : (s : ℕ) → s < d.next → has (range_with_len d.next count) s ≡ false
  older_out s lt = go (has news s) refl where
    go : (t : Bool) → has news s ≡ t → t ≡ false
    go true is = absurd (let le = not_below s (is_has news s is) in omega (arith, lt, le))
    go false is = refl

  closed_below : AllByRecursion (λ (id : ℕ). id < d.next) (ids_in d.closed)
  closed_below =
      subst (λ (ids : List ℕ). AllByRecursion (λ (id : ℕ). id < d.next) ids)
      (sym (core.closed ∙ ap (λ (o : Option OpenPass). all_inserted (survivors_of o)
      (head_of d.head).start.others) none))
      (lower (head_of d.head).start.others core.below)
    where
      lower : (ids : List ℕ) → AllByRecursion (λ (id : ℕ). id < (head_of d.head).start.id) ids
          → AllByRecursion (λ (id : ℕ). id < d.next) ids
      lower [] all = tt
      lower (s ∷ ids) all =
          (let lt = all.0 in let same = core.image.id in let used = core.used in omega arith, lower ids all.1)

  segment_then : (s : ℕ) → segment_of x.closed s
      ≡ (if has news s then Some (survivor_entries d.config.master s) else segment_of d.closed s)
  segment_then s = go (has news s) refl where
    new_is : segment_of (survivor_images d.config news) s
        ≡ (if has news s then Some (survivor_entries d.config.master s) else None)
    new_is = segment_new d.config news s

    go : (t : Bool) → has news s ≡ t → segment_of x.closed s
        ≡ (if t then Some (survivor_entries d.config.master s) else segment_of d.closed s)
    go true is =
        segment_append d.closed (survivor_images d.config news) s
        (none_above d.closed d.next s closed_below (not_below s (is_has news s is)))
        ∙ new_is ∙ ap (λ (b : Bool). if b then Some (survivor_entries d.config.master s) else None) is
    go false is =
        segment_still d.closed (survivor_images d.config news) s
        (new_is ∙ ap (λ (b : Bool). if b then Some (survivor_entries d.config.master s) else None) is)

  module _ (z : ℕ) (among : IsAmong z (range_with_len d.next count)) where
    not_head : d.head.id ≡ z → ⊥
    not_head same = let lt = core.used in let le = not_below z among in omega (arith, lt, le, same)

    not_new : IfSome d.head.roll (λ (r : Roll). (r.id == z) ≡ false)
    not_new = go d.head.roll core.roll where
      go : (o : Option Roll) → IfSome o (IsRollOf d) → IfSome o (λ (r : Roll). (r.id == z) ≡ false)
      go None is = tt
      go (Some r) is = other_id r.id z (λ same.
          let lt = is.used in let le = not_below z among in omega (arith, lt, le, same))

    images_own : images_of x z ≡ survivor_entries d.config.master z
    images_own =
        closed_among d.head x.closed z not_head not_new
        ∙ ap (λ (o : Option (List Entry)). unwrap_or o [])
        (segment_then z ∙ ap (λ (b : Bool). if b then Some (survivor_entries d.config.master z)
        else segment_of d.closed z) (has_is news z among))

    -- there was none of that id
    images_none : images_of d z ≡ []
    images_none =
        closed_among d.head d.closed z not_head not_new
        ∙ ap (λ (o : Option (List Entry)). unwrap_or o [])
        (none_above d.closed d.next z closed_below (not_below z among))

  segment_other : (s : ℕ) → has news s ≡ false → segment_of x.closed s ≡ segment_of d.closed s
  segment_other s out =
      segment_then s
      ∙ ap (λ (b : Bool). if b then Some (survivor_entries d.config.master s) else segment_of d.closed s) out

  images_other : (s : ℕ) → has news s ≡ false → images_of x s ≡ images_of d s
  images_other s out = same_among d.head d.closed x.closed s (segment_other s out)

  images_then : (s : ℕ) → images_of x s ≡ survivors_begun d.config.master news (images_of d) s
  images_then s = go (has news s) refl where
    go : (t : Bool) → has news s ≡ t → images_of x s ≡ survivors_begun d.config.master news (images_of d) s
    go true is = rw is (images_own s (is_has news s is))
    go false is = rw is (images_other s is)

  grow : Grow (images_of d) (images_of x)
  grow s = go (has news s) refl where
    go : (t : Bool) → has news s ≡ t → (more : List Entry) × (images_of x s ≡ images_of d s ++ more)
    go true is =
        let among = is_has news s is in (
          survivor_entries d.config.master s,
          images_own s among
              ∙ ap (λ (es : List Entry). es ++ survivor_entries d.config.master s) (sym (images_none s among)),
        )
    go false is = ([], images_other s is ∙ sym (append-nil (images_of d s)))

  -- ---- the victims

  older : (s : ℕ) → IsAmong s victims → IsAmong s (head_of d.head).start.others
  older s victim = victim_older x then_core s victim

  victim_out : (s : ℕ) → IsAmong s victims → has (range_with_len d.next count) s ≡ false
  victim_out s victim =
      let lt = all_among (λ (id : ℕ). id < (head_of d.head).start.id) (head_of d.head).start.others s core.below
      (older s victim) in
      let own = core.image.id in
      let used = core.used in
      older_out s (omega (arith, lt, own, used))

  victim_image : (s : ℕ) → IsAmong s victims → images_of d s ≡ images_in d.closed s
  victim_image s victim = older_image d core s (older s victim)

  rest_then : rest_of (images_in x.closed) fresh ≡ places_of (images_in d.closed) victims
  rest_then =
      on_same (images_in d.closed) (images_in x.closed) (drop cursor.victim victims) cursor.at
      (λ s among. ap (λ (o : Option (List Entry)). unwrap_or o [])
      (segment_other s (victim_out s (among_drop cursor.victim victims s among))))
      ∙ begins

  may : MayBeginClean (log_of d) (memory_of d) victims
  may = record {
    none = ap (λ (o : Option OpenPass). ids_of o) none;
    no_commit = ap (λ (o : Option OpenPass). option_map_or (λ (p : OpenPass). p.is_committing) o false) none;
    some = λ empty. (
        let some = (open_now x then_core fresh refl).victims.some in
        let size = ap (λ (ids : List ℕ). length ids) empty in
        omega (arith, some, size));
    older = λ s victim. others_in d core s (older s victim);
  }

  -- ---- memory then

  abbrev then_memory : FailMemory
  then_memory = pass_begun (log_of d) (memory_of d) victims count

  -- an object or a tombstone of a victim is to come
  rest_has : (q : EntryPlace) (e : Entry) → IsAmong q.segment victims → StandsAt (images_of d) q e → is_data e ≡ true
      → IsAmong q (map (entry_place x) (places_of (images_in d.closed) victims))
  rest_has q e victim stands of_data =
      let b = is_behind (images_of d q.segment) q.position e stands in
      let image = images_other q.segment (victim_out q.segment victim) in
      let there = place_there q.segment (images_in d.closed q.segment) b.before b.after e
      (sym (victim_image q.segment victim) ∙ b.split) of_data in
      let among = place_of (images_in d.closed) victims q.segment
      (place_at q.segment (length (text_of b.before))) victim there in
      let position : position_of (images_of x q.segment) (length (text_of b.before)) ≡ q.position =
      position_is (images_of x q.segment) (length (text_of b.before)) e (each_of x then_core q.segment)
      (record { before = b.before; after = b.after; split = image ∙ b.split; offset = refl }) ∙ b.count in
      let same : entry_place x (place_at q.segment (length (text_of b.before))) ≡ q =
      (λ i. record { segment = q.segment; position = position i }) in
      subst (λ (r : EntryPlace). IsAmong r (map (entry_place x) (places_of (images_in d.closed) victims))) same
      (among_image (entry_place x) (places_of (images_in d.closed) victims)
      (place_at q.segment (length (text_of b.before))) among)

  same_images : (s : ℕ) → images_of x s ≡ then_memory.images s
  same_images s = images_then s ∙ sym ((begun_survivors (log_of d) (memory_of d) victims count may).2 s)

  agree : Agree (ids_taken count (log_of d)) then_memory (memory_of x)
  agree = record {
    pass = λ i. record {
      victims = sym (victims_begun (log_of d) (memory_of d) victims count) i;
      survivors = sym (begun_survivors (log_of d) (memory_of d) victims count may).0 i;
    };
    images = same_images;
    index = λ k. index_then d x core then_core (λ j. refl) grow k (λ u key held. held)
        ∙ sym (ap (λ (index : Index). index k) (index_begun (log_of d) (memory_of d) victims count));
    rest = λ q e victim stands of_data coming. (
        let among = subst (λ (ids : List ℕ). IsAmong q.segment ids)
        (victims_begun (log_of d) (memory_of d) victims count) victim in
        subst (λ (ps : List Place). IsAmong q (map (entry_place x) ps)) (sym rest_then)
        (rest_has q e among (subst (λ (es : List Entry). IsAt es q.position e)
        (sym (same_images q.segment) ∙ images_other q.segment (victim_out q.segment among)) stands) of_data));
    done = λ empty. ap (map (entry_place x)) (rest_then ∙ no_places (images_of d)
        (images_in d.closed) victims victim_image
        (sym (rest_begun (log_of d) (memory_of d) victims count) ∙ empty));
    commits = sym (commits_begun (log_of d) (memory_of d) victims count ∙ may.no_commit);
    waiting = λ w waits. subst (λ (ws : List Spot). IsAmong w ws)
        (sym (waiting_begun (log_of d) (memory_of d) victims count)) waits;
  }

-- ---- a pass begins

module _ (d e : MasterData) (f : FleetState) (victims : List ℕ) (answer : StepAnswer) (kept : IsWellKept d f)
    (is : BeginsPass d victims answer e)
    (core : IsCore e) where
  abbrev count : ℕ
  count = survivors_for d victims

  admitted : (d.is_halted ≡ false) × (d.pass ≡ None)
  admitted =
      let a = passes_first (step_refusal d) _ is.passed in
      let fault = no_fault (victims_fault d victims) (space_refusal d victims) a.1 in
      ((calm_parts d a.0).0, no_pass_open d.pass (passes (is_some d.pass) PassOpen _ fault).0)

  then_core : IsCore (begun_data d victims (survivors_for d victims) is.cursor)
  then_core = subst IsCore is.rest core

  holds : HoldsAll (log_of e) (memory_of e) f
  holds =
      subst (λ (l : FailData). HoldsAll l (memory_of e) f) (sym is.log)
      (subst (λ (y : MasterData). HoldsAll (ids_taken count (log_of d)) (memory_of y) f) (sym is.rest)
      (agreeing_holds (ids_taken count (log_of d)) (pass_begun (log_of d) (memory_of d) victims count)
      (memory_of (begun_data d victims count is.cursor)) f
      (begin_holds_all (log_of d) (memory_of d) f victims count (kept.known admitted.0)
      (may d kept.core victims count is.cursor admitted.1 then_core is.begins))
      (agree d kept.core victims count is.cursor admitted.1 then_core is.begins)))

  placed : IsPlaced e
  placed = subst IsPlaced (sym is.rest) (placed_begun d kept.core kept.placed victims (range_with_len d.next count)
      count is.cursor (among_ids d.next count))

  pub begun_kept : IsWellKept e f
  begun_kept =
      well_kept e f (unhanded_kept d e f (kept_as d f kept admitted.0) core placed
      (ap (λ (y : MasterData). y.config) is.rest)
      (ap (λ (y : MasterData). y.waiting) is.rest) holds)
