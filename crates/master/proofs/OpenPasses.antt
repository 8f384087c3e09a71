-- What a core with an open pass has of the pass's segments.
use Rattle.std.proofs.Common.{◌≡◌, ℕ, ◌<◌, ◌≤◌, Bool, true, false, List, [], ◌∷◌, drop, length, refl, sym, ap, subst}
use Rattle.std.proofs.Common.{◌∙◌}
use Rattle.std.proofs.Common.{arith}
use Rattle.std.specs.Prelude.{Option, Some, None, IfSome, unwrap_or, ◌==◌, if◌then◌else◌}
use Rattle.std.specs.List.{AllByRecursion}
use Rattle.std.specs.Option.{option_map_or}
use Rattle.std.proofs.lemmas.Bool.{eqb-true}
use Rattle.master_core.specs.cleaner.declared.pass.Pass.{Pass}
use Rattle.master_core.specs.cleaner.Passes.{images_in, survivor_ids, places_on, rest_of, is_at_end}
use Rattle.master_core.proofs.cleaner.Images.{is_victim}
use Rattle.master_core.proofs.cleaner.SurvivorIds.{among_ids}
use Rattle.entry.specs.declared.entry.Entry.{Entry}
use Rattle.entry.specs.Bag.{IsAmong}
use Rattle.entry.specs.Text.{text_of, IsSegment}
use Rattle.entry.proofs.ListLemmas.{all_among}
use Rattle.images.specs.Image.{Image}
use Rattle.images.specs.Sorted.{IsWhole, segment_of}
use Rattle.log_head.specs.declared.head.Roll.{Roll}
use Rattle.log_head.specs.Head.{HeadValue}
use Rattle.log_head.specs.Log.{head_of}
use Rattle.log_head.specs.log_laws.Heads.{ids_of}
use Rattle.master_core.proofs.log_laws.KeptEntries.{has_is}
use Rattle.entry.proofs.BagLemmas.{among_last}
use Rattle.master_core.specs.master_state.Budget.{victims_of}
use Rattle.master_core.specs.master_state.Data.{MasterData}
use Rattle.master_core.specs.master_state.Images.{new_image_or, images_among}
use Rattle.master_core.specs.master_state.Invariant.{IsRollOf, IsSurvivor, IsOpenPass, IsCore}
use Rattle.master_core.specs.master_state.Log.{images_of, rest_now}
use Rattle.master_core.proofs.master_state.Imaging.{other_id}
use Rattle.master.proofs.Victims.{victim_older}

-- ---- closed segments

-- a segment that is neither the head nor one that a roll is opening has the image that it has as a closed one
pub closed_among : (h : HeadValue) (cs : List Image) (s : ℕ) → (h.id ≡ s → ⊥)
    → IfSome h.roll (λ (r : Roll). (r.id == s) ≡ false)
    → images_among h cs s ≡ images_in cs s
closed_among h cs s other new =
    let away = other_id h.id s other in
    rw away (by_roll h.roll new)
  where
    by_roll : (o : Option Roll) → IfSome o (λ (r : Roll). (r.id == s) ≡ false)
        → unwrap_or (new_image_or o s (segment_of cs s)) [] ≡ images_in cs s
    by_roll None new = refl
    by_roll (Some r) new = rw new refl

-- it has the same image if it is found the same
pub same_among : (h : HeadValue) (cs more : List Image) (s : ℕ) → segment_of more s ≡ segment_of cs s
    → images_among h more s ≡ images_among h cs s
same_among h cs more s same =
    ap (λ (o : Option (List Entry)). unwrap_or (if h.id == s then Some h.image else new_image_or h.roll s o) []) same

-- a closed segment that is there is a segment
segment_in : (cs : List Image) (s : ℕ) → AllByRecursion (λ (c : Image). IsSegment c.segment) cs → IsWhole cs s
    → IsSegment (images_in cs s)
segment_in [] s all some = absurd some
segment_in (c ∷ cs) s all some = go (c.id == s) refl some (segment_in cs s all.1) where
  go : (t : Bool) → (c.id == s) ≡ t → IsWhole (c ∷ cs) s → (IsWhole cs s → IsSegment (images_in cs s))
      → IsSegment (images_in (c ∷ cs) s)
  go true here some later = rw here all.0
  go false away some later = let rest : IsWhole cs s = rw away at some in rw away (later rest)

module _ (d : MasterData) (core : IsCore d) where
  -- an older segment of the digest in force is below the heads
  pub older_image : (s : ℕ) → IsAmong s (head_of d.head).start.others → images_of d s ≡ images_in d.closed s
  older_image s older = closed_among d.head d.closed s (λ same. (let lt = below in omega arith))
      (new d.head.roll core.roll)
    where
      below : s < d.head.id
      below =
          let lt = all_among (λ (id : ℕ). id < (head_of d.head).start.id)
          (head_of d.head).start.others s core.below older in
          let same = core.image.id in omega arith

      new : (o : Option Roll) → IfSome o (IsRollOf d) → IfSome o (λ (r : Roll). (r.id == s) ≡ false)
      new None is = tt
      new (Some r) is = other_id r.id s (λ same. (let lt = below in let newer = is.newer in omega arith))

  -- ---- the pass's

  module _ (p : Pass) (opened : d.pass ≡ Some p) where
    pub open_now : IsOpenPass d p
    open_now = subst (λ (o : Option Pass). IfSome o (IsOpenPass d)) opened core.pass

    pub rest_is : rest_now d ≡ rest_of (images_in d.closed) p
    rest_is = ap (λ (o : Option Pass). option_map_or (rest_of (images_in d.closed)) o []) opened

    pub victim_image : (s : ℕ) → IsAmong s p.victims → images_of d s ≡ images_in d.closed s
    victim_image s victim =
        older_image s (victim_older d core s (subst (λ (o : Option Pass). IsAmong s (victims_of o))
        (sym opened) victim))

    pub below_survivors : (s : ℕ) → IsAmong s p.victims → s < p.survivors.first
    below_survivors s victim = (is_victim d.closed p.survivors.first p.victims s open_now.pass.victims victim).1

    pub none_left : is_at_end p ≡ true → rest_of (images_in d.closed) p ≡ []
    none_left end =
        let at : p.cursor.victim ≡ length p.victims = eqb-true p.cursor.victim (length p.victims) end in
        ap (λ (n : ℕ). places_on (images_in d.closed) (drop n p.victims) p.cursor.at) at
        ∙ ap (λ (ids : List ℕ). places_on (images_in d.closed) ids p.cursor.at) (all p.victims)
      where
        all : (xs : List ℕ) → drop (length xs) xs ≡ []
        all [] = refl
        all (x ∷ xs) = all xs

    -- ---- a survivor of it

    module _ (z : ℕ) (survivor : IsAmong z (survivor_ids p.survivors)) where
      is_survivor : IsSurvivor d z
      is_survivor = open_now.survivors.each z survivor

      pub below_survivor : (s : ℕ) → IsAmong s p.victims → s < z
      below_survivor s victim =
          let lt = below_survivors s victim in
          let le = (among_ids p.survivors.first p.survivors.count z survivor).0 in omega arith

      pub not_head : d.head.id ≡ z → ⊥
      not_head same =
          let ids = ids_of (head_of d.head).start in
          let among : IsAmong z ids =
          subst (λ (y : ℕ). IsAmong y ids) (core.image.id ∙ same)
          (among_last (head_of d.head).start.others (head_of d.head).start.id) in
          let never : true ≡ false = sym (has_is ids z among) ∙ is_survivor.outside in
          cc

      pub not_new : IfSome d.head.roll (λ (r : Roll). (r.id == z) ≡ false)
      not_new = is_survivor.not_new

      pub survivor_image : images_of d z ≡ images_in d.closed z
      survivor_image = closed_among d.head d.closed z not_head is_survivor.not_new

      pub survivor_whole : IsWhole d.closed z
      survivor_whole = all_among (IsWhole d.closed) (survivor_ids p.survivors) z open_now.pass.whole survivor

      pub survivor_segment : IsSegment (images_of d z)
      survivor_segment = subst IsSegment (sym survivor_image) (segment_in d.closed z core.segments survivor_whole)

      pub survivor_within : length (text_of (images_of d z)) ≤ d.config.segment
      survivor_within =
          let same = ap (λ (es : List Entry). length (text_of es)) survivor_image in
          let fits = is_survivor.within in omega arith
