-- An open pass stays valid when a segment is compacted that is neither its victim nor its survivor.
use Rattle.std.proofs.Common.{◌≡◌, inl, inr, ℕ, ◌≤◌, ◌<◌, Bool, true, false, ◌==◌, ◌||◌, List, [], ◌∷◌, ◌++◌, refl, sym}
use Rattle.std.proofs.Common.{ap, subst, ◌∙◌, arith}
use Rattle.std.specs.Prelude.{Option, Some, None, IfSome, IsSome, IsSomeAnd, unwrap_or}
use Rattle.std.specs.Option.{option_map, option_to_list}
use Rattle.cleaner.specs.declared.pass.Pass.{Pass as OpenPass}
use Rattle.cleaner.specs.Laws.{AreSameAt, KeepsNoMore}
use Rattle.cleaner.specs.Passes.{images_in, survivor_ids, rest_of, IsPass}
use Rattle.cleaner.proofs.Ends.{cursor_agrees, rest_segment}
use Rattle.entry.specs.declared.key.Key.{Key}
use Rattle.entry.specs.declared.entry.Entry.{Entry}
use Rattle.entry.specs.Bag.{IsAmong}
use Rattle.entry.proofs.ListLemmas.{all_among, all_from_among}
use Rattle.places.specs.declared.place.Place.{Place}
use Rattle.places.specs.Relocation.{names}
use Rattle.places.proofs.Words.{named_gone}
use Rattle.images.specs.Image.{Image}
use Rattle.images.specs.Sorted.{IsWhole, segment_of}
use Rattle.images.specs.Steps.{replaced_by}
use Rattle.images.proofs.Finding.{other_changed}
use Rattle.compactor.specs.Kept.{has_id, moved_place}
use Rattle.compactor.specs.Laws.{CompactionFollows}
use Rattle.log_head.specs.declared.head.Roll.{Roll}
use Rattle.master_state.specs.Budget.{used_seglets, victims_of, survivors_of}
use Rattle.master_state.specs.Data.{MasterData}
use Rattle.master_state.specs.Invariant.{IsCore, IsOpenPass}
use Rattle.master_state.specs.Log.{images_of, log_set_ids}
use Rattle.master_state.specs.Steps.{kept_now, compacted_data}
use Rattle.master_space.proofs.CompactedCore.{IsAdmitted, no_survivor, replicas_then}
use Rattle.master_space.proofs.CompactedIndex.{stayed, found_elsewhere}
use Rattle.master_state.proofs.Holding.{kept_again}
use Rattle.master_state.proofs.Imaging.{same_id}
use Rattle.master_state.proofs.Passing.{GoesOn, goes_on}
use Rattle.master_space.proofs.Replacing.{same_ids, changed_there}

among_has : (ids : List ℕ) (s : ℕ) → IsAmong s ids → has_id ids s ≡ true
among_has [] s m = absurd m
among_has (z ∷ ids) s (inl same) =
    let here : (z == s) ≡ true = ap (λ (y : ℕ). y == s) same ∙ same_id s in ap (λ (b : Bool). b || has_id ids s) here
among_has (z ∷ ids) s (inr later) = go (z == s) (among_has ids s later) where
  go : (b : Bool) → has_id ids s ≡ true → (b || has_id ids s) ≡ true
  go true rest = refl
  go false rest = rest

module _ (follows : CompactionFollows) (d : MasterData) (core : IsCore d) (id : ℕ) (is : IsAdmitted d id)
    (less : used_seglets (compacted_data d id) ≤ used_seglets d) where
  abbrev e : MasterData
  e = compacted_data d id

  -- other images stay
  stays : (s : ℕ) → (id ≡ s → ⊥) → images_in e.closed s ≡ images_in d.closed s
  stays s other = ap (λ (o : Option (List Entry)). unwrap_or o []) (changed_there id (kept_now d id) d.closed s other)

  ids_then : log_set_ids e ≡ log_set_ids d
  ids_then =
      ap (λ (ids : List ℕ). ids ++ d.head.id ∷ option_to_list (option_map (λ (r : Roll). r.id) d.head.roll))
      (same_ids id (kept_now d id) d.closed)

  module _ (p : OpenPass) (pass : IsOpenPass d p) (own : d.pass ≡ Some p) where
    not_victim : (s : ℕ) → IsAmong s p.victims → id ≡ s → ⊥
    not_victim s victim same =
        let has = among_has p.victims id (subst (λ (z : ℕ). IsAmong z p.victims) (sym same) victim) in
        let spared = ap (λ (o : Option OpenPass). has_id (victims_of o) id) (sym own) ∙ is.spared in
        let never : true ≡ false = sym has ∙ spared in
        cc

    not_survivor : (s : ℕ) → IsAmong s (survivor_ids p.survivors) → id ≡ s → ⊥
    not_survivor s survivor same =
        let ids = survivor_ids p.survivors in
        let has = among_has ids id (subst (λ (z : ℕ). IsAmong z ids) (sym same) survivor) in
        let away = ap (λ (o : Option OpenPass). has_id (survivors_of o) id) (sym own) ∙ no_survivor d core id is in
        let never : true ≡ false = sym has ∙ away in
        cc

    same_at : AreSameAt (images_in d.closed) (images_in e.closed) p.victims
    same_at s victim = stays s (not_victim s victim)

    abbrev rest : List Place
    rest = rest_of (images_in d.closed) p

    -- what the index names in another segment, it named before
    named_elsewhere : (k : Key) (q : Place) → (id ≡ q.segment → ⊥) → names e.index k q ≡ true
        → names d.index k q ≡ true
    named_elsewhere k q other is_named =
        named_gone (moved_place (log_set_ids d) d.index id (images_of d id)) k q
        (λ r moved. stayed follows d core id is r q (λ same. other (sym same)) moved) d.index is_named

    keeps_no_more : KeepsNoMore (log_set_ids d) (log_set_ids d) d.index e.index (images_in d.closed) rest
    keeps_no_more q x m stands keeps =
        kept_again (log_set_ids d) d.index e.index q x
        (λ k named. named_elsewhere k q (not_victim q.segment (rest_segment (images_in d.closed) p q m)) named) keeps

    pass_then : IsPass e.index.seed e.closed p
    pass_then = record {
      victims = all_from_among (λ (s : ℕ). IsSome (segment_of e.closed s) × (s < p.survivors.first)) p.victims
          (λ s victim. (
          let was = all_among (λ (z : ℕ). IsSome (segment_of d.closed z)
          × (z < p.survivors.first)) p.victims s pass.pass.victims victim in (
            subst (λ (o : Option (List Entry)). IsSome o)
                (sym (changed_there id (kept_now d id) d.closed s (not_victim s victim))) was.0,
            was.1,
          )));
      whole = all_from_among (IsWhole e.closed) (survivor_ids p.survivors)
          (λ s survivor. subst (λ (o : Option Image). IsSomeAnd o (λ (c : Image). c.is_whole ≡ true))
          (sym (other_changed id (replaced_by (kept_now d id)) (λ c. refl) s
          (λ same. not_survivor s survivor (sym same)) d.closed))
          (all_among (IsWhole d.closed) (survivor_ids p.survivors) s pass.pass.whole survivor));
      numbers = pass.pass.numbers;
      within = pass.pass.within;
      cursor = cursor_agrees d.index.seed (images_in d.closed) (images_in e.closed) p same_at pass.pass.cursor;
    }

    passes : GoesOn d e p
    passes = record {
      config = refl;
      start = refl;
      roll = λ s m. (pass.survivors.each s m).not_new;
      next = omega arith;
      pass = pass_then;
      victims = same_at;
      survivors = λ s survivor. stays s (not_survivor s survivor);
      keeps = subst (λ (ids : List ℕ). KeepsNoMore (log_set_ids d) ids d.index e.index (images_in d.closed) rest)
          (sym ids_then) keeps_no_more;
      live = λ k q finds victim. found_elsewhere follows d core id is k q finds
          (λ same. not_victim q.segment victim (sym same));
      replicas = λ s m. replicas_then d core id is s;
      failed = λ none. none;
      free = λ early. (let count = less in omega arith);
      listed = λ early. omega arith;
      rolls = λ commits some. some;
    }

  pub compacted_pass : IfSome d.pass (IsOpenPass (compacted_data d id))
  compacted_pass = go d.pass refl core.pass where
    go : (o : Option OpenPass) → d.pass ≡ o → IfSome o (IsOpenPass d) → IfSome o (IsOpenPass (compacted_data d id))
    go None own pass = tt
    go (Some p) own pass = goes_on d (compacted_data d id) p (passes p pass own) pass
