-- The live objects of a core are the objects of the versioned map.
use Rattle.std.proofs.Common.{◌≡◌, ℕ, ◌<◌, Bool, true, false, List, [], ◌∷◌, refl, sym, ap, subst, ◌∙◌, ◌⊎◌, inl, inr}
use Rattle.std.proofs.Common.{arith}
use Rattle.std.specs.Prelude.{Option, Some, None, IfSome, ◌==◌, unwrap_or}
use Rattle.std.specs.List.{AllByRecursion}
use Rattle.std.proofs.lemmas.Bool.{eqb-true, eqb-false}
use Rattle.entry.specs.declared.key.Key.{Key}
use Rattle.entry.specs.declared.entry.Object.{Object}
use Rattle.entry.specs.declared.entry.Entry.{Entry}
use Rattle.entry.specs.declared.entry.Entry.TheVariants as entry
use Rattle.entry.specs.Bag.{IsAmong}
use Rattle.entry.specs.Meaning.{Versioned, versioned, contents_of}
use Rattle.entry.proofs.BagLemmas.{among_left, among_right, among_either}
use Rattle.entry.proofs.ListLemmas.{all_from_among}
use Rattle.places.specs.declared.place.Place.{Place}
use Rattle.places.specs.Relocation.{names}
use Rattle.images.specs.Image.{Image}
use Rattle.images.specs.Sorted.{segment_of}
use Rattle.log_head.specs.declared.head.Roll.{Roll}
use Rattle.log_head.specs.Log.{start_of}
use Rattle.log_head.specs.log_laws.Heads.{start_entries}
use Rattle.log_head.specs.log_laws.Ids.{has}
use Rattle.compactor.specs.Places.{LiesAt, IsAtPlace}
use Rattle.master_state.specs.Budget.{survivors_of}
use Rattle.master_state.specs.Data.{MasterData}
use Rattle.master_state.specs.Images.{new_image_or}
use Rattle.master_state.specs.Invariant.{IsRollOf, IsCore}
use Rattle.master_state.specs.Log.{images_of, state_now}
use Rattle.master_state.specs.Sizes.{AreOnce, live_from, live_closed, live_objects}
use Rattle.master_state.proofs.Finding.{each_of, index_of}
use Rattle.master_state.proofs.Imaging.{ids_in, same_id, other_id, head_images}
use Rattle.master_space.proofs.LiveObjects.{contents_are, once_append, place_has, closed_has, live_named, IsLiveIn}
use Rattle.master_space.proofs.LiveObjects.{live_apart, walk_live, walk_once, AreImages, closed_live, closed_once}
use Rattle.master_state.proofs.LogIds.{closed_rise, not_closed, no_head, none_above}
use Rattle.master_space.proofs.PlaceRows.{lies_among}
use Rattle.master_state.proofs.Rising.{Rise, has_not}
use Rattle.master_state.proofs.SurvivorLens.{survivor_of}

-- ---- a new head has no object

no_object : (master : ℕ) (o : Object) (r : Roll) → IsAmong (entry.Object o) (start_entries master (start_of r)) → ⊥
no_object master o r (inl is) = cc
no_object master o r (inr (inl is)) = cc
no_object master o r (inr (inr (inl is))) = cc
no_object master o r (inr (inr (inr m))) = m

-- the image with an id is one of them
among_images : (cs : List Image) (s : ℕ) (e : Entry) → IsAmong e (unwrap_or (segment_of cs s) [])
    → (c : Image) × IsAmong c cs × (c.id ≡ s) × (unwrap_or (segment_of cs s) [] ≡ c.segment)
among_images [] s e m = absurd m
among_images (c ∷ cs) s e m = go (c.id == s) refl (among_images cs s e)
  where
    go : (t : Bool) → (c.id == s) ≡ t
        → (IsAmong e (unwrap_or (segment_of cs s) []) → (x : Image) × IsAmong x cs × (x.id ≡ s)
        × (unwrap_or (segment_of cs s) [] ≡ x.segment))
        → (x : Image) × IsAmong x (c ∷ cs) × (x.id ≡ s) × (unwrap_or (segment_of (c ∷ cs) s) [] ≡ x.segment)
    go true is later = (c, inl refl, eqb-true c.id s is, rw is refl)
    go false is later = let there = later (rw is at m) in (there.0, inr there.1, there.2, rw is there.3)

-- an id that isn't there is none of them
others_than : (ids : List ℕ) (s : ℕ) → has ids s ≡ false → AllByRecursion (λ (z : ℕ). z ≡ s → ⊥) ids
others_than [] s none = tt
others_than (z ∷ ids) s none = go (z == s) refl (others_than ids s)
  where
    go : (t : Bool) → (z == s) ≡ t → (has ids s ≡ false → AllByRecursion (λ (x : ℕ). x ≡ s → ⊥) ids)
        → AllByRecursion (λ (x : ℕ). x ≡ s → ⊥) (z ∷ ids)
    go true is later = (let never : true ≡ false = rw is at none in absurd (cc))
    go false is later = (eqb-false z s is, later (rw is at none))

-- each of some images is the one that is found under its id
found_images : (cs : List Image) → Rise (ids_in cs) → AllByRecursion
    (λ (c : Image). unwrap_or (segment_of cs c.id) [] ≡ c.segment) cs
found_images [] rise = tt
found_images (c ∷ cs) rise = (let own = same_id c.id in rw own refl, later cs rise.0 (found_images cs rise.1))
  where
    later : (xs : List Image) → AllByRecursion (λ (z : ℕ). c.id < z) (ids_in xs)
        → AllByRecursion (λ (x : Image). unwrap_or (segment_of cs x.id) [] ≡ x.segment) xs
        → AllByRecursion (λ (x : Image). unwrap_or (segment_of (c ∷ cs) x.id) [] ≡ x.segment) xs
    later [] below all = tt
    later (x ∷ xs) below all =
        let lt = below.0 in
        let away : (c.id == x.id) ≡ false = other_id c.id x.id (λ same. omega arith) in
        (rw away all.0, later xs below.1 all.1)

module _ (d : MasterData) (core : IsCore d) where
  -- ---- images

  -- the head that a roll is opening is of no closed segment
  no_roll : (o : Option Roll) → d.head.roll ≡ o → IfSome o (IsRollOf d)
      → IfSome o (λ (r : Roll). has (ids_in d.closed) r.id ≡ false)
  no_roll None is all = tt
  no_roll (Some r) is all =
      not_closed d core r.id (let newer = all.newer in none_above d core r.id (omega arith))
      (has_not (λ (z : ℕ). r.id ≡ z → ⊥) (survivors_of d.pass) r.id
      (all_from_among (λ (z : ℕ). r.id ≡ z → ⊥) (survivors_of d.pass) other) (λ never. never refl))
    where
      other : (z : ℕ) → IsAmong z (survivors_of d.pass) → r.id ≡ z → ⊥
      other z m =
          eqb-false r.id z (subst (λ (x : Option Roll). IfSome x (λ (n : Roll). (n.id == z) ≡ false)) is
          (survivor_of d core z m).not_new)

  -- neither the head nor the head that a roll is opening
  abbrev IsOther : ℕ → Type 0
  IsOther s = (s ≡ d.head.id → ⊥) × IfSome d.head.roll (λ (r : Roll). s ≡ r.id → ⊥)

  other_image : (s : ℕ) → IsOther s → images_of d s ≡ unwrap_or (segment_of d.closed s) []
  other_image s other =
      let away = other_id d.head.id s (λ same. other.0 (sym same)) in rw away (go d.head.roll other.1)
    where
      go : (o : Option Roll) → IfSome o (λ (r : Roll). s ≡ r.id → ⊥)
          → unwrap_or (new_image_or o s (segment_of d.closed s)) [] ≡ unwrap_or (segment_of d.closed s) []
      go None out = refl
      go (Some r) out = let away = other_id r.id s (λ same. out (sym same)) in rw away refl

  closed_other : AllByRecursion IsOther (ids_in d.closed)
  closed_other = join (ids_in d.closed) (others_than (ids_in d.closed) d.head.id (no_head d core))
      (not_new d.head.roll (no_roll d.head.roll refl core.roll))
    where
      none : (ids : List ℕ) → AllByRecursion (λ (s : ℕ). Unit {0}) ids
      none [] = tt
      none (s ∷ ids) = (tt, none ids)

      not_new : (o : Option Roll) → IfSome o (λ (r : Roll). has (ids_in d.closed) r.id ≡ false)
          → AllByRecursion (λ (s : ℕ). IfSome o (λ (r : Roll). s ≡ r.id → ⊥)) (ids_in d.closed)
      not_new None out = none (ids_in d.closed)
      not_new (Some r) out = others_than (ids_in d.closed) r.id out

      join : (ids : List ℕ) → AllByRecursion (λ (s : ℕ). s ≡ d.head.id → ⊥) ids
          → AllByRecursion (λ (s : ℕ). IfSome d.head.roll (λ (r : Roll). s ≡ r.id → ⊥)) ids → AllByRecursion IsOther ids
      join [] first second = tt
      join (s ∷ ids) first second = ((first.0, second.0), join ids first.1 second.1)

  are_images : AreImages (images_of d) (each_of d core) d.index (state_now d).contents (index_of d core) d.closed
  are_images = go d.closed closed_other (found_images d.closed (closed_rise d core))
    where
      go : (cs : List Image) → AllByRecursion IsOther (ids_in cs)
          → AllByRecursion (λ (c : Image). unwrap_or (segment_of d.closed c.id) [] ≡ c.segment) cs
          → AllByRecursion (λ (c : Image). images_of d c.id ≡ c.segment) cs
      go [] other all = tt
      go (c ∷ cs) other all = (other_image c.id other.0 ∙ all.0, go cs other.1 all.1)

  -- ---- each live object is there

  abbrev Live : (Place → Type 0) → Object → Type 0
  Live P o = IsLiveIn (images_of d) (each_of d core) d.index (state_now d).contents (index_of d core) P o

  closed_part : (o : Object) → IsAmong o (live_closed d.index d.closed)
      → Live (λ (p : Place). p.segment ≡ d.head.id → ⊥) o
  closed_part o m =
      closed_live (images_of d) (each_of d core) d.index (state_now d).contents (index_of d core)
      (λ (s : ℕ). s ≡ d.head.id → ⊥) d.closed
      are_images (others_than (ids_in d.closed) d.head.id (no_head d core)) o m

  head_is : images_of d d.head.id ≡ d.head.image
  head_is = head_images d.head d.closed

  head_part : (o : Object) → IsAmong o (live_from d.index d.head.id 0 d.head.image)
      → Live (λ (p : Place). p.segment ≡ d.head.id) o
  head_part o m =
      let there =
      walk_live (images_of d) (each_of d core) d.index (state_now d).contents
      (index_of d core) d.head.id 0 [] d.head.image head_is refl o m in
      record { place = there.place; lies = there.lies.0; finds = there.finds; has = there.has }

  all_live : (o : Object) → IsAmong o (live_objects d) → (state_now d).contents o.key ≡ Some (versioned o)
  all_live o m =
      elim (among_either o (live_closed d.index d.closed) (live_from d.index d.head.id 0 d.head.image) m)
      as (λ _. (state_now d).contents o.key ≡ Some (versioned o)) [
        | inl closed ↦ (closed_part o closed).has
        | inr head ↦ (head_part o head).has
      ]

  -- the segment is the head, or a closed one
  abbrev Lies : ℕ → Type 0
  Lies s = (s ≡ d.head.id) ⊎ ((c : Image) × IsAmong c d.closed × (c.id ≡ s) × (images_of d s ≡ c.segment))

  -- an object lies in one of these
  place_of_object : (s : ℕ) (o : Object) → IsAmong (entry.Object o) (images_of d s) → Lies s
  place_of_object s o m = by_head (d.head.id == s) refl
    where
      in_closed : images_of d s ≡ unwrap_or (segment_of d.closed s) [] → Lies s
      in_closed is =
          let there = among_images d.closed s (entry.Object o)
          (subst (λ (es : List Entry). IsAmong (entry.Object o) es) is m) in
          inr (there.0, there.1, there.2, is ∙ there.3)

      by_roll : (q : Option Roll) → d.head.roll ≡ q → IfSome q (IsRollOf d) → (d.head.id == s) ≡ false → Lies s
      by_roll None is all away = in_closed (rw (away, is) refl)
      by_roll (Some r) is all away = go (r.id == s) refl
        where
          go : (t : Bool) → (r.id == s) ≡ t → Lies s
          go true here =
              let image : images_of d s ≡ r.image = rw (away, is, here) refl in
              absurd (no_object d.config.master o r
              (subst (λ (es : List Entry). IsAmong (entry.Object o) es) (image ∙ all.image) m))
          go false out = in_closed (rw (away, is, out) refl)

      by_head : (t : Bool) → (d.head.id == s) ≡ t → Lies s
      by_head true is = inl (sym (eqb-true d.head.id s is))
      by_head false is = by_roll d.head.roll refl core.roll is

  all_there : (k : Key) (x : Versioned) → (state_now d).contents k ≡ Some x → (o : Object)
      × IsAmong o (live_objects d) × (o.key ≡ k)
  all_there k x has = (
    o,
    go (place_of_object p.segment o
        (lies_among (images_of d p.segment) p.at (entry.Object o) lies)),
    refl,
  )
    where
      o : Object
      o = record { key = k; version = x.version; value = x.value }

      named : (p : Place) × IsAtPlace (images_of d) p (entry.Object o) × (names d.index k p ≡ true)
      named = live_named (images_of d) (each_of d core) d.index (state_now d).contents (index_of d core) k x has

      p : Place
      p = named.0

      lies : IsAtPlace (images_of d) p (entry.Object o)
      lies = named.1

      go : Lies p.segment → IsAmong o (live_objects d)
      go (inl head) =
          among_right o (live_closed d.index d.closed) (live_from d.index d.head.id 0 d.head.image)
          (place_has d.index d.head.id d.head.image p o head
          (subst (λ (es : List Entry). LiesAt es p.at (entry.Object o)) (ap (images_of d) head ∙ head_is) lies) named.2)
      go (inr closed) =
          among_left o (live_closed d.index d.closed) (live_from d.index d.head.id 0 d.head.image)
          (closed_has d.index d.closed closed.0 o closed.1
          (place_has d.index closed.0.id closed.0.segment p o (sym closed.2)
          (subst (λ (es : List Entry). LiesAt es p.at (entry.Object o)) closed.3 lies) named.2))

  -- ---- the live objects are the map's

  pub live_contents : contents_of (live_objects d) ≡ (state_now d).contents
  live_contents = λ i k. contents_are (live_objects d) (state_now d).contents all_live all_there k i

  pub live_once : AreOnce (live_objects d)
  live_once =
      once_append (live_closed d.index d.closed) (live_from d.index d.head.id 0 d.head.image)
      (closed_once (images_of d) (each_of d core) d.index (state_now d).contents (index_of d core) d.closed are_images
      (closed_rise d core))
      (walk_once (images_of d) (each_of d core) d.index (state_now d).contents
      (index_of d core) d.head.id 0 [] d.head.image head_is refl)
      (λ o q m n same. live_apart (images_of d) (each_of d core) d.index (state_now d).contents (index_of d core)
      (λ (p : Place). p.segment ≡ d.head.id → ⊥) (λ (p : Place). p.segment ≡ d.head.id) (λ p out is. out is) o q
      (closed_part o m) (head_part q n) same)
