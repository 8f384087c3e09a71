-- A core stays valid when the roll of a commit ends, and the pass with it.
use Rattle.std.proofs.Common.{◌≡◌, ℕ, ◌<◌, ◌≤◌, Bool, true, false, List, [], ◌∷◌, length, refl, sym, ap, subst, ◌∙◌}
use Rattle.std.proofs.Common.{◌⊎◌, ◌+◌, inl, inr, arith}
use Rattle.std.specs.Prelude.{Option, Some, None, ◌==◌, sum_by, unwrap_or, if◌then◌else◌}
use Rattle.std.specs.List.{AllByRecursion}
use Rattle.std.specs.Option.{option_map, option_map_or}
use Rattle.std.proofs.lemmas.Bool.{and_parts}
use Rattle.cleaner.specs.declared.pass.Pass.{Pass}
use Rattle.cleaner.specs.Passes.{images_in, survivor_ids, rest_of, AreVictims as AreOlder}
use Rattle.cleaner.proofs.SurvivorIds.{among_ids}
use Rattle.cleaner.specs.Seals.{first_lacking}
use Rattle.cleaner.proofs.Ends.{end_none}
use Rattle.cleaner.proofs.Lacking.{none_is_lacking}
use Rattle.master_state.proofs.log_laws.CommitDigest.{all_out, without_from}
use Rattle.cleaner.specs.compactor.Places.{LiesAt, object_in, keys_in}
use Rattle.entry.specs.declared.entry.Entry.{Entry}
use Rattle.entry.specs.declared.entry.Entry.TheVariants as entry
use Rattle.entry.specs.declared.entry.Object.{Object}
use Rattle.entry.specs.declared.key.Key.{Key}
use Rattle.entry.specs.Bag.{IsAmong}
use Rattle.entry.proofs.ListLemmas.{all_append, all_from_among}
use Rattle.entry.specs.Meaning.{Versioned, Contents, object_at}
use Rattle.entry.specs.Text.{text_of, IsSegment}
use Rattle.places.specs.declared.place.Place.{Place}
use Rattle.places.specs.Law.{AreToldAgain}
use Rattle.places.specs.Map.{Places, found}
use Rattle.places.proofs.Words.{kept_again, found_again, HasKey, each_told, all_then}
use Rattle.images.specs.Image.{Image}
use Rattle.images.specs.Images.{count_of}
use Rattle.images.specs.Sorted.{segment_of, replicas_of}
use Rattle.log_head.specs.declared.head.Roll.{Roll}
use Rattle.log_head.specs.Head.{IsHeadValue}
use Rattle.log_head.specs.Log.{head_of, start_of}
use Rattle.log_head.specs.Steps.{in_force}
use Rattle.log_head.specs.log_laws.Heads.{Head, Start, ids_of}
use Rattle.log_head.specs.log_laws.Ids.{has, all_inserted, without}
use Rattle.master_state.specs.declared.failover.Failover.{Failover}
use Rattle.master_state.specs.declared.ledger.Posting.{Posting}
use Rattle.master_state.specs.declared.waiting.Waiting.{Waiting}
use Rattle.master_state.specs.Budget.{whole_seglets, survivors_of}
use Rattle.master_state.specs.Data.{MasterData}
use Rattle.master_state.specs.Images.{new_image_or, staying, leaving}
use Rattle.master_state.specs.Index.{LiesFound}
use Rattle.master_state.specs.Invariant.{IsOpenPass, IsCore, NameBelow, AreWhole, listed_now, listed_with}
use Rattle.master_state.specs.Log.{image_of as image_now, images_of, find, state_now}
use Rattle.master_state.specs.Steps.{pass_ended}
use Rattle.master_rolls.proofs.RollEnds.{HasFailover, left_as, rolls_of, head_then, old_closed, closed_ids}
use Rattle.master_rolls.proofs.RollEnds.{closed_segments, closed_images, closed_sum, closed_few, closed_replicas}
use Rattle.master_rolls.proofs.RollEnds.{none_found, log_whole, same_in, ended}
use Rattle.master_state.proofs.Imaging.{ids_in, other_id}
use Rattle.master_state.proofs.Indexing.{Indexes}
use Rattle.master_rolls.proofs.Leaving.{staying_ids, staying_all, staying_sum, stays_found, leaves_gone, leaving_valid}
use Rattle.master_state.proofs.LogIds.{rises, apart}
use Rattle.master_state.proofs.Passing.{has_among, victim_below}
use Rattle.master_state.proofs.Refusals.{sizes_of}
use Rattle.master_state.proofs.Rising.{Rise, AreOut, has_not, rise_range, rise_all, rise_left, without_all}
use Rattle.master_rolls.proofs.Trimming.{trimmed_ids, trimmed_segment, trimmed_all, trimmed_replicas, trimmed_few}
use Rattle.master_rolls.proofs.Trimming.{each_found, trimmed_sum}

-- ---- an index of images that stay where it leads

module _ (images others : ℕ → List Entry) (hs : Places) (contents : Contents) (index : Indexes images hs contents)
    (same : (k : Key) (q : Place) → found (keys_in images) k hs ≡ Some q → others q.segment ≡ images q.segment) where
  key_same : (q : Place) → others q.segment ≡ images q.segment → keys_in others q ≡ keys_in images q
  key_same q is = ap (λ (image : List Entry). option_map (λ (o : Object). o.key) (object_in image q.at)) is

  again : AreToldAgain (keys_in images) (keys_in others) hs
  again =
      all_then (HasKey (keys_in images) hs) (λ (p : Place). keys_in others p ≡ keys_in images p) hs
      (λ p at. key_same p (same at.0 p at.2)) (each_told (keys_in images) hs index.kept)

  lies_there : (k : Key) (o : Option Place) (x : Option Versioned)
      → ((q : Place) → o ≡ Some q → others q.segment ≡ images q.segment)
      → LiesFound images k o x → LiesFound others k o x
  lies_there k None None at lies = tt
  lies_there k None (Some x) at lies = absurd lies
  lies_there k (Some q) None at lies = absurd lies
  lies_there k (Some q) (Some x) at lies = subst (λ (image : List Entry). LiesAt image q.at (object_at k x))
      (sym (at q refl)) lies

  pub stays_indexed : Indexes others hs contents
  stays_indexed = record {
    kept = kept_again (keys_in images) (keys_in others) hs index.kept again;
    lies = λ k. subst (λ (o : Option Place). LiesFound others k o (contents k))
        (sym (found_again (keys_in images) (keys_in others) hs again k))
        (lies_there k (found (keys_in images) k hs) (contents k) (same k) (index.lies k));
  }

-- ---- the pass ends

module _ (d : MasterData) (core : IsCore d) (r : Roll) (is : d.head.roll ≡ Some r) (p : Pass) (own : IsOpenPass d p)
    (there : d.pass ≡ Some p) (commits : p.is_committing ≡ true) where
  abbrev g : MasterData
  g = old_closed d core r is

  abbrev f : MasterData
  f = pass_ended p g

  ready : rest_of (images_in d.closed) p ≡ []
  ready = end_none (images_in d.closed) p (and_parts _ _ (own.commits commits).1).0

  abbrev survivors : List ℕ
  survivors = survivor_ids p.survivors

  out : (s : ℕ) → IsAmong s survivors → d.head.id ≡ s → ⊥
  out s m = (apart d core s (subst (λ (o : Option Pass). IsAmong s (survivors_of o)) (sym there) m)).1

  -- no survivor is a victim
  stay_out : (s : ℕ) → IsAmong s survivors → has p.victims s ≡ false
  stay_out s m =
      let le = (among_ids p.survivors.first p.survivors.count s m).0 in
      has_not (λ (z : ℕ). z < s) p.victims s (each p.victims le own.pass.victims) (λ lt. omega arith)
    where
      each : (vs : List ℕ) → p.survivors.first ≤ s → AreOlder d.closed p.survivors.first vs
          → AllByRecursion (λ (z : ℕ). z < s) vs
      each [] le all = tt
      each (v ∷ vs) le all = (let lt = all.0.1 in (omega arith, each vs le all.1))

  stays : AllByRecursion (λ (s : ℕ). has p.victims s ≡ false) survivors
  stays = all_from_among (λ (s : ℕ). has p.victims s ≡ false) survivors stay_out

  outside : AreOut survivors (ids_of (head_of d.head).start)
  outside =
      all_from_among (λ (s : ℕ). has (ids_of (head_of d.head).start) s ≡ false) survivors
      (λ s m. (own.survivors.each s m).outside)

  up : Rise survivors
  up = rise_range p.survivors.first p.survivors.count

  g_ids : ids_in g.closed ≡ all_inserted survivors (ids_of (head_of d.head).start)
  g_ids = closed_ids d core r is ∙ ap (λ (o : Option Pass). all_inserted (survivors_of o)
      (ids_of (head_of d.head).start)) there

  listed_is : (start_of r).others ≡ all_inserted survivors (without p.victims (ids_of (head_of d.head).start))
  listed_is =
      (rolls_of d core r is).lists
      ∙ ap (λ (o : Option Pass). listed_now (record d { pass = o })) there
      ∙ ap (λ (b : Bool). if b then listed_with d p.victims survivors
      else ids_of (head_of d.head).start) commits

  ids_then : ids_in f.closed ≡ (start_of r).others
  ids_then =
      trimmed_ids survivors (staying p.victims g.closed)
      ∙ staying_ids p.victims g.closed
      ∙ ap (without p.victims) g_ids
      ∙ without_all p.victims survivors (ids_of (head_of d.head).start) stays outside up (rises d core)
      ∙ sym listed_is

  -- ---- images

  closed_then : (s : ℕ) → segment_of f.closed s ≡ segment_of (staying p.victims g.closed) s
  closed_then s = trimmed_segment survivors (staying p.victims g.closed) s

  -- a victim has no image any more
  pub image_gone : (s : ℕ) → has p.victims s ≡ true → image_now f s ≡ None
  image_gone s victim =
      let lt = victim_below d core p own s (has_among p.victims s victim) in
      let newer = (rolls_of d core r is).newer in
      let away = other_id r.id s (λ same. omega arith) in
      let none : segment_of f.closed s ≡ None =
      closed_then s ∙ ap (option_map (λ (c : Image). c.segment)) (leaves_gone p.victims s g.closed victim) in
      rw away none

  -- any other segment has the same
  pub image_stays : (s : ℕ) → has p.victims s ≡ false → image_now f s ≡ image_now d s
  image_stays s other =
      ap (λ (o : Option (List Entry)). if r.id == s then Some r.image else new_image_or None s o)
      (closed_then s ∙ ap (option_map (λ (c : Image). c.segment)) (stays_found p.victims s g.closed other))
      ∙ closed_images d core r is s

  images_gone : (s : ℕ) → has p.victims s ≡ true → images_of f s ≡ []
  images_gone s victim = ap (λ (o : Option (List Entry)). unwrap_or o []) (image_gone s victim)

  images_stay : (s : ℕ) → has p.victims s ≡ false → images_of f s ≡ images_of d s
  images_stay s other = ap (λ (o : Option (List Entry)). unwrap_or o []) (image_stays s other)

  named_then : NameBelow (images_of f) d.next
  named_then s t m = go (has p.victims s) refl where
    go : (b : Bool) → has p.victims s ≡ b → t.segment < d.next
    go true victim = absurd (subst (λ (image : List Entry). IsAmong (entry.Tombstone t) image) (images_gone s victim) m)
    go false other = core.named s t (subst (λ (image : List Entry). IsAmong (entry.Tombstone t) image)
        (images_stay s other) m)

  -- nothing that the index finds is in a victim
  found_stays : (k : Key) (q : Place) → find d k ≡ Some q → images_of f q.segment ≡ images_of d q.segment
  found_stays k q finds = go (has p.victims q.segment) refl where
    go : (b : Bool) → has p.victims q.segment ≡ b → images_of f q.segment ≡ images_of d q.segment
    go true victim =
        absurd (subst (λ (places : List Place). IsAmong q places) ready
        (own.live k q finds (has_among p.victims q.segment victim)))
    go false other = images_stay q.segment other

  index_then : Indexes (images_of f) d.index (state_now d).contents
  index_then =
      stays_indexed (images_of d) (images_of f) d.index (state_now d).contents
      (record { kept = core.index.kept; lies = core.index.lies }) found_stays

  -- ---- seglets

  survivor_text : (s : ℕ) (es : List Entry) → has survivors s ≡ true
      → segment_of (staying p.victims g.closed) s ≡ Some es → length (text_of es) ≤ d.config.segment
  survivor_text s es has_it found =
      let m = has_among survivors s has_it in
      let same : images_in (staying p.victims g.closed) s ≡ images_in d.closed s =
      ap (λ (o : Option Image). unwrap_or (option_map (λ (c : Image). c.segment) o) [])
      (stays_found p.victims s g.closed (stay_out s m))
      ∙ same_in d core r is s (out s m) in
      let image : es ≡ images_in d.closed s =
      sym (ap (λ (o : Option (List Entry)). unwrap_or o []) found) ∙ same in
      subst (λ (xs : List Entry). length (text_of xs) ≤ d.config.segment) (sym image) (own.survivors.each s m).within

  budget_then : whole_seglets d.config + sum_by (count_of d.config.segment d.config.seglet) f.closed
      ≤ d.config.seglets
  budget_then =
      let sizes = sizes_of d.config core.config in
      let least = sizes.least_seglet in
      let rise : Rise (ids_in (staying p.victims g.closed)) =
      subst Rise (sym (staying_ids p.victims g.closed))
      (rise_left p.victims (ids_in g.closed) (subst Rise (sym g_ids)
      (rise_all survivors (ids_of (head_of d.head).start) outside up (rises d core)))) in
      let trim = trimmed_sum d.config.segment d.config.seglet (omega arith) sizes.multiple survivors
      (staying p.victims g.closed)
      (each_found (λ (es : List Entry). length (text_of es) ≤ d.config.segment) survivors
      (staying p.victims g.closed) rise survivor_text) in
      let less = staying_sum (count_of d.config.segment d.config.seglet) p.victims g.closed in
      let same = closed_sum d core r is in
      let budget = core.budget in
      omega arith

  -- ---- replicas

  few_then : AllByRecursion (λ (c : Image). c.replicas ≤ d.config.replicas) f.closed
  few_then =
      trimmed_few d.config.replicas survivors (staying p.victims g.closed)
      (staying_all (λ (c : Image). c.replicas ≤ d.config.replicas) p.victims g.closed (closed_few d core r is))

  waiting_then : AllByRecursion (λ (w : Waiting). (w.freed < w.replicas) × (w.replicas ≤ d.config.replicas)) f.waiting
  waiting_then =
      all_append (λ (w : Waiting). (w.freed < w.replicas) × (w.replicas ≤ d.config.replicas)) d.waiting
      (leaving p.victims g.closed) core.waiting
      (leaving_valid p.victims d.config.replicas g.closed (closed_few d core r is))

  -- who stays has as many as before
  stays_held : (s : ℕ) → has p.victims s ≡ false → replicas_of f.closed s ≡ replicas_of g.closed s
  stays_held s other =
      trimmed_replicas survivors (staying p.victims g.closed) s
      ∙ ap (λ (o : Option Image). option_map_or (λ (c : Image). c.replicas) o 0)
      (stays_found p.victims s g.closed other)

  -- each survivor has all
  survivors_whole : (s : ℕ) → IsAmong s survivors → d.config.replicas ≤ replicas_of d.closed s
  survivors_whole =
      (none_is_lacking d.config.replicas d.closed survivors).0
      (none_found (first_lacking d.config.replicas d.closed survivors) (and_parts _ _ (own.commits commits).1).1)

  not_victim : (s : ℕ) → (IsAmong s p.victims → ⊥) → has p.victims s ≡ false
  not_victim s never = go (has p.victims s) refl where
    go : (t : Bool) → has p.victims s ≡ t → has p.victims s ≡ false
    go true test = absurd (never (has_among p.victims s test))
    go false test = test

  pub committed_whole : AreWhole d → AreWhole f
  committed_whole whole =
      (none_is_lacking d.config.replicas f.closed (head_of f.head).start.others).1
      (λ s m. each s (all_out survivors (without p.victims (ids_of (head_of d.head).start)) s
      (subst (λ (ids : List ℕ). IsAmong s ids)
      (ap (λ (l : Head). l.start.others) (head_then d core r is) ∙ listed_is) m)))
    where
      each : (s : ℕ) → IsAmong s (without p.victims (ids_of (head_of d.head).start)) ⊎ IsAmong s survivors
          → d.config.replicas ≤ replicas_of f.closed s
      each s (inl m) =
          let from = without_from p.victims (ids_of (head_of d.head).start) s m in
          let same = stays_held s (not_victim s from.1) in
          let le = log_whole d core r is whole s from.0 in
          omega arith
      each s (inr m) =
          let same = stays_held s (stay_out s m) in
          let other = closed_replicas d core r is s (out s m) in
          let le = survivors_whole s m in
          omega arith

  pub committed_core : (x : Option Failover) (gone : List Start) (ps : List Posting) → IsHeadValue (in_force d.head r)
      → HasFailover (left_as f x gone ps) → IsCore (left_as f x gone ps)
  committed_core x gone ps valid failing =
      ended d core r is f.closed None f.waiting x gone ps valid failing ids_then
      (trimmed_all IsSegment survivors (staying p.victims g.closed)
      (staying_all (λ (c : Image). IsSegment c.segment) p.victims g.closed (closed_segments d core r is)))
      few_then waiting_then budget_then tt named_then
      (let i = index_then in record { kept = i.kept; lies = i.lies; safe = core.index.safe })
