-- The ids of a core's log: those of the digest in force, and those of the closed segments.
use Rattle.std.proofs.Common.{◌≡◌, ℕ, suc, ◌+◌, ◌<◌, ◌≤◌, Bool, true, false, List, [], ◌∷◌, ◌++◌, length, refl, sym, ap}
use Rattle.std.proofs.Common.{subst, ◌∙◌, arith}
use Rattle.std.specs.Prelude.{Option, Some, None, IfSome, ◌==◌, ◌^◌, unwrap_or}
use Rattle.std.specs.List.{AllByRecursion}
use Rattle.std.specs.Option.{option_map, option_map_or}
use Rattle.std.proofs.lemmas.Bool.{eqb-false}
use Rattle.std.proofs.lemmas.List.{length-append}
use Rattle.std.proofs.lemmas.List.FromFn.{length-range_with_len}
use Rattle.cleaner.specs.declared.pass.Pass.{Pass}
use Rattle.cleaner.specs.Passes.{images_in}
use Rattle.entry.specs.declared.entry.Entry.{Entry}
use Rattle.std.specs.List.Sorted.{IsStrictlyIncreasing}
use Rattle.entry.specs.declared.digest.Digest.{Digest}
use Rattle.entry.specs.declared.digest.Digest.TheVariants as digest
use Rattle.entry.specs.Format.{IsEntry, IsDigest}
use Rattle.entry.specs.Bag.{IsAmong}
use Rattle.entry.specs.Text.{listed_ids}
use Rattle.entry.proofs.LengthLemmas.{length-ids_in}
use Rattle.entry.proofs.ListLemmas.{all_from_among}
use Rattle.images.specs.Image.{Image}
use Rattle.images.specs.Sorted.{image_of, segment_of}
use Rattle.log_head.specs.declared.head.Roll.{Roll}
use Rattle.log_head.specs.Head.{digest_of}
use Rattle.log_head.specs.Log.{head_of}
use Rattle.log_head.proofs.RollLog.{digest_is}
use Rattle.log_head.specs.log_laws.Heads.{Start, ids_of, digest_for, start_entries}
use Rattle.log_head.proofs.log_laws.ListedIds.{ids_listed}
use Rattle.log_head.specs.log_laws.Ids.{has, all_inserted}
use Rattle.master_state.specs.Budget.{newest_digest, survivors_of}
use Rattle.master_state.specs.Data.{MasterData}
use Rattle.master_state.specs.Images.{new_image_or}
use Rattle.master_state.specs.Invariant.{IsRollOf, IsSurvivor, IsOpenPass, IsCore}
use Rattle.master_state.specs.Log.{images_of}
use Rattle.master_state.proofs.Imaging.{ids_in, other_id}
use Rattle.master_state.proofs.Rising.{Rise, rises_of, rise_front, has_not, rise_range, has_all, length_all}
use Rattle.master_state.proofs.Rising.{AreOut, rise_all}

-- ---- images by their ids

pub absent : (cs : List Image) (s : ℕ) → has (ids_in cs) s ≡ false → image_of cs s ≡ None
absent [] s none = refl
absent (c ∷ cs) s none = go (c.id == s) refl (absent cs s) where
  go : (t : Bool) → (c.id == s) ≡ t → (has (ids_in cs) s ≡ false → image_of cs s ≡ None) → image_of (c ∷ cs) s ≡ None
  go true here later = (let never : true ≡ false = rw here at none in absurd (cc))
  go false away later = (let rest : has (ids_in cs) s ≡ false = rw away at none in rw away (later rest))

pub no_segment : (cs : List Image) (s : ℕ) → has (ids_in cs) s ≡ false → segment_of cs s ≡ None
no_segment cs s none = ap (option_map (λ (c : Image). c.segment)) (absent cs s none)

pub count_ids : (cs : List Image) → length (ids_in cs) ≡ length cs
count_ids [] = refl
count_ids (c ∷ cs) = ap suc (count_ids cs)

-- ---- ids of a start, whose image is a segment

-- the ids of a digest rise, with lengths or without
ids_rise : (d : Digest) → IsDigest d → IsStrictlyIncreasing (listed_ids d)
ids_rise (digest.Ids ids) is = is.rise
ids_rise (digest.Lengths segments) is = is.rise

-- and they are few
ids_few : (d : Digest) → IsDigest d → length (listed_ids d) < 2 ^ 32
ids_few (digest.Ids ids) is = is.count
ids_few (digest.Lengths segments) is = let same = length-ids_in segments in let few = is.count in omega arith

pub start_rises : (master : ℕ) (n : Start) (more : List Entry)
    → AllByRecursion IsEntry (start_entries master n ++ more) → Rise (ids_of n)
start_rises master n more each =
    rises_of (ids_of n) (subst IsStrictlyIncreasing (ids_listed n) (ids_rise (digest_for n) each.1.0))

module _ (d : MasterData) (core : IsCore d) where
  abbrev start : Start
  start = (head_of d.head).start

  pub rises : Rise (ids_of start)
  rises = start_rises d.config.master start _
      (subst (λ (image : List Entry). AllByRecursion IsEntry image) core.image.image core.head.segment.each)

  pub others_rise : Rise start.others
  others_rise = rise_front start.others start.id rises

  pub others_below : AllByRecursion (λ (s : ℕ). s < d.head.id) start.others
  others_below = subst (λ (top : ℕ). AllByRecursion (λ (s : ℕ). s < top) start.others) core.image.id core.below

  -- the head, or an id above it, is no other
  pub none_above : (s : ℕ) → d.head.id ≤ s → has start.others s ≡ false
  none_above s le = has_not (λ (z : ℕ). z < d.head.id) start.others s others_below (λ lt. omega arith)

  -- ---- the open pass

  module _ (p : Pass) (is : d.pass ≡ Some p) where
    pub open_of : IsOpenPass d p
    open_of = subst (λ (o : Option Pass). IfSome o (IsOpenPass d)) is core.pass

  survivor_of : (o : Option Pass) → IfSome o (IsOpenPass d) → (s : ℕ) → IsAmong s (survivors_of o) → IsSurvivor d s
  survivor_of None is s m = absurd m
  survivor_of (Some p) is s m = is.survivors.each s m

  -- each survivor is no other, nor the head
  pub apart : (s : ℕ) → IsAmong s (survivors_of d.pass) → (has start.others s ≡ false) × (d.head.id ≡ s → ⊥)
  apart s m =
      let out = has_front start.others start.id s (survivor_of d.pass core.pass s m).outside in
      (out.0, λ same. out.1 (core.image.id ∙ same))
    where
      has_front : (ids : List ℕ) (top s : ℕ) → has (ids ++ top ∷ []) s ≡ false → (has ids s ≡ false) × (top ≡ s → ⊥)
      has_front [] top s none = (refl, λ same. last same)
        where
          last : top ≡ s → ⊥
          last same = go (top == s) refl where
            go : (t : Bool) → (top == s) ≡ t → ⊥
            go true is = (let never : true ≡ false = rw is at none in absurd (cc))
            go false is = eqb-false top s is same
      has_front (z ∷ ids) top s none = go (z == s) refl (has_front ids top s) where
        go : (t : Bool) → (z == s) ≡ t → (has (ids ++ top ∷ []) s ≡ false → (has ids s ≡ false) × (top ≡ s → ⊥))
            → (has (z ∷ ids) s ≡ false) × (top ≡ s → ⊥)
        go true is later = (let never : true ≡ false = rw is at none in absurd (cc))
        go false is later = (let rest = later (rw is at none) in (rw is rest.0, rest.1))

  -- ---- the closed segments

  -- the survivors rise, and none of them is an other
  pub survivors_rise : Rise (survivors_of d.pass)
  survivors_rise = go d.pass where
    go : (o : Option Pass) → Rise (survivors_of o)
    go None = tt
    go (Some p) = rise_range p.survivors.first p.survivors.count

  pub survivors_out : AreOut (survivors_of d.pass) start.others
  survivors_out =
      all_from_among (λ (s : ℕ). has start.others s ≡ false) (survivors_of d.pass) (λ s m. (apart s m).0)

  pub closed_rise : Rise (ids_in d.closed)
  closed_rise =
      subst Rise (sym core.closed) (rise_all (survivors_of d.pass) start.others survivors_out survivors_rise
      others_rise)

  -- an id that is no other and no survivor is not of a closed segment
  pub not_closed : (s : ℕ) → has start.others s ≡ false → has (survivors_of d.pass) s ≡ false
      → has (ids_in d.closed) s ≡ false
  not_closed s none other =
      ap (λ (ids : List ℕ). has ids s) core.closed
      ∙ has_all (survivors_of d.pass) start.others s
      ∙ (rw (other, none) refl)

  pub no_head : has (ids_in d.closed) d.head.id ≡ false
  no_head =
      not_closed d.head.id (none_above d.head.id (omega arith))
      (has_not (λ (s : ℕ). d.head.id ≡ s → ⊥) (survivors_of d.pass) d.head.id
      (all_from_among (λ (s : ℕ). d.head.id ≡ s → ⊥) (survivors_of d.pass) (λ s m. (apart s m).1))
      (λ never. never refl))

  -- nor is an id that isn't used yet
  pub no_later : (s : ℕ) → d.next ≤ s → has (ids_in d.closed) s ≡ false
  no_later s le =
      let lt = core.used in
      not_closed s (none_above s (omega arith))
      (has_not (λ (z : ℕ). z < d.next) (survivors_of d.pass) s
      (all_from_among (λ (z : ℕ). z < d.next) (survivors_of d.pass) (λ z m. (survivor_of d.pass core.pass z m).used))
      (λ never. omega arith))

  pub no_next : has (ids_in d.closed) d.next ≡ false
  no_next = no_later d.next (omega arith)

  -- the digest in force has one id more than there are closed segments, but for the survivors
  pub listed : d.head.roll ≡ None
      → length (newest_digest d.head) + length (survivors_of d.pass) ≡ length d.closed + 1
  listed none =
      let newest : length (newest_digest d.head) ≡ length (ids_of start) =
      ap (λ (o : Option Roll). length (option_map_or (λ (r : Roll). digest_of r.image) o (digest_of d.head.image))) none
      ∙ ap length (digest_is d.config.master d.head (head_of d.head) core.image) in
      let ids = length-append start.others (start.id ∷ []) in
      let closed : length d.closed ≡ length (all_inserted (survivors_of d.pass) start.others) = sym (count_ids d.closed)
      ∙ ap length core.closed in
      let more = length_all (survivors_of d.pass) start.others in
      omega arith

  -- the digest of the head has, whether or not a roll is under way
  pub digest_listed : length (digest_of d.head.image) + length (survivors_of d.pass) ≡ length d.closed + 1
  digest_listed =
      let newest : length (digest_of d.head.image) ≡ length (ids_of start) =
      ap length (digest_is d.config.master d.head (head_of d.head) core.image) in
      let ids = length-append start.others (start.id ∷ []) in
      let closed : length d.closed ≡ length (all_inserted (survivors_of d.pass) start.others) = sym (count_ids d.closed)
      ∙ ap length core.closed in
      let more = length_all (survivors_of d.pass) start.others in
      omega arith

  -- there are few survivors
  pub few_survivors : length (survivors_of d.pass) ≤ 4
  few_survivors = go d.pass core.pass where
    go : (o : Option Pass) → IfSome o (IsOpenPass d) → length (survivors_of o) ≤ 4
    go None is = omega arith
    go (Some p) is =
        let few = is.survivors.few in
        let same = length-range_with_len p.survivors.first p.survivors.count in
        omega arith

  -- a digest has few ids
  pub few_closed : length d.closed ≤ 2 ^ 32 + length (survivors_of d.pass)
  few_closed =
      let few = ids_few (digest_for start) (subst (λ (image : List Entry). AllByRecursion IsEntry image)
      core.image.image core.head.segment.each).1.0 in
      let ids = ap length (ids_listed start) ∙ length-append start.others (start.id ∷ []) in
      let closed : length d.closed ≡ length (all_inserted (survivors_of d.pass) start.others) = sym (count_ids d.closed)
      ∙ ap length core.closed in
      let more = length_all (survivors_of d.pass) start.others in
      omega arith

  -- ---- images

  -- an older segment than the head has the image of a closed one
  pub older_image : (s : ℕ) → s < d.head.id → images_of d s ≡ images_in d.closed s
  older_image s lt =
      let away = other_id d.head.id s (λ same. omega arith) in
      rw away (go d.head.roll core.roll)
    where
      go : (o : Option Roll) → IfSome o (IsRollOf d) → unwrap_or (new_image_or o s (segment_of d.closed s)) []
          ≡ images_in d.closed s
      go None all = refl
      go (Some r) all =
          let newer = all.newer in
          let away = other_id r.id s (λ same. omega arith) in
          rw away refl
