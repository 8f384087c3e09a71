use Rattle.std.proofs.Common.{◌≡◌, ℕ, ◌+◌, ◌*◌, ◌<◌, ◌≤◌, List, ◌++◌, drop, length, refl, sym, ap, subst, ◌∙◌, arith}
use Rattle.std.specs.Prelude.{Option, Some, None}
use Rattle.std.specs.Result.{result_err}
use Rattle.std.proofs.lemmas.List.{length-append, length-map}
use Rattle.std.proofs.lemmas.List.FromFn.{length-range_with_len}
use Rattle.master_state.specs.log_memory.Steps.{MayBeginClean}
use Rattle.cleaner.specs.declared.pass.Pass.{Pass}
use Rattle.cleaner.specs.declared.survivors.Survivors.{Survivors}
use Rattle.cleaner.specs.Passes.{images_in, places_of, rest_of, survivor_ids, IsCursorAt, AreVictims}
use Rattle.images.specs.Image.{Image}
use Rattle.images.specs.Images.{ImagesValue, AreWithin, free_seglets}
use Rattle.images.specs.Sorted.{AreBelow}
use Rattle.master_state.specs.contracts.state.Core.{the_view}
use Rattle.master_state.specs.declared.ledger.Posting.TheVariants as posting
use Rattle.master_state.specs.declared.step.Refusal.{Refusal}
use Rattle.master_state.specs.declared.step.StepAnswer.TheVariants.{Begun}
use Rattle.master_state.specs.Budget.{whole_seglets}
use Rattle.master_state.specs.Causes.{survivors_for, clean_refusal}
use Rattle.master_state.specs.Data.{MasterData}
use Rattle.master_state.specs.Images.{survivor_image, survivor_images}
use Rattle.master_state.specs.Invariant.{IsCore, AreImagesOf, AreTallied}
use Rattle.master_state.specs.Ledger.{posted}
use Rattle.master_state.specs.Log.{log_of, memory_of}
use Rattle.master_state.specs.Steps.{fresh_pass, next_survivors, BeginsPass}
use Rattle.tally.specs.declared.tallies.Tally.{Tally}
use Rattle.master_space.specs.Counting.{WithBegun}
use Rattle.master_state.proofs.FreeVictims.{MayBegin, may_begin_pass}
use Rattle.master_space.proofs.PassBegun.{closed_then, victims_fit, begun_tallies}
use Rattle.master_state.proofs.PassIds.{images_below}
use Rattle.master_space.proofs.PassOpened.{survivors_free, opened_core, begins_pass, may_clean_now}
use Rattle.master_space.proofs.cleaning.begin_clean.Goals as goal
use Rattle.master_space.proofs.cleaning.begin_clean.Goals.{After-reserve}

-- what the tests let pass
admitted : (d self : MasterData) (victims row : List ℕ) (o : Option Refusal) → d ≡ self → row ≡ victims
    → o ≡ clean_refusal self row → o ≡ None
    → clean_refusal d victims ≡ None
admitted d self victims row o same listed is none =
    (λ i. clean_refusal (same i) (sym listed i)) ∙ sym is ∙ none

module _ (c : After-reserve) where
  abbrev d : MasterData
  d = the_view c.core.inside

  core : IsCore d
  core = c.core.invariant.2

  abbrev victims : List ℕ
  victims = c.args.victims

  passed : clean_refusal d victims ≡ None
  passed = admitted d c.args.core.now victims c.as_slice.result.now _ c.core.view_is
      c.as_slice.ensures c.admit_pass.ensures.refused (ap result_err c.in_ok-size.was)

  may : MayBegin d victims
  may = may_begin_pass d victims passed

  count : c.in_ok-size.size.survivors ≡ survivors_for d victims
  count =
      c.in_ok-size.ensures.survivors ∙ (λ i. survivors_for (sym c.core.view_is i) (c.as_slice.ensures i))

  abbrev asked : Survivors
  asked = record { first = d.next; count = c.in_ok-size.size.survivors }

  survivors : asked ≡ next_survivors d victims
  survivors = λ i. record { first = d.next; count = count i }

  short : AreWithin d.config.segment d.closed
  short = subst (λ (n : ℕ). AreWithin n d.closed) c.core.invariant.1.segment c.show_valid.ensures.within

  -- the images once the survivors are added
  images_of : (w : ImagesValue) → w ≡ record c.reserve.new.self {
    images = c.reserve.new.self.images ++ survivor_images d.config (survivor_ids asked);
  } → w.images ≡ closed_then d core victims may
  images_of w is =
      ap (λ (v : ImagesValue). v.images) is
      ∙ (λ i. (c.reserve.ensures.same i).images ++ survivor_images d.config (survivor_ids (survivors i)))

pub add_survivors-requires-clause-sizes : goal.add_survivors-requires-clause-sizes
add_survivors-requires-clause-sizes c =
    subst (AreImagesOf c.core.inside.config) (sym c.reserve.ensures.same) (let own = c.core.invariant.1 in
    record { segment = own.segment; seglet = own.seglet; seglets = own.seglets })

pub add_survivors-requires-clause-numbers : goal.add_survivors-requires-clause-numbers
add_survivors-requires-clause-numbers c =
    let a = (goal.at.add_survivors-requires-clause-numbers c).After-reserve in
    let same = count a in let le = (may a).next in omega (arith, same, le)

pub add_survivors-requires-clause-newest : goal.add_survivors-requires-clause-newest
add_survivors-requires-clause-newest c =
    let a = (goal.at.add_survivors-requires-clause-newest c).After-reserve in
    subst (λ (v : ImagesValue). AreBelow (d a).next v.images) (sym c.reserve.ensures.same)
    (images_below (d a) (core a) (may a).victims.none)

pub add_survivors-requires-clause-room : goal.add_survivors-requires-clause-room
add_survivors-requires-clause-room c =
    let enough = c.in_ok-reserve.ensures.ok in
    let same = ap (λ (v : ImagesValue). length v.images) c.reserve.ensures.same in
    omega (arith, enough, same)

pub add_survivors-requires-clause-free : goal.add_survivors-requires-clause-free
add_survivors-requires-clause-free c =
    let a = (goal.at.add_survivors-requires-clause-free c).After-reserve in
    subst (λ (n : ℕ). n * whole_seglets (d a).config ≤ free_seglets c.reserve.new.self) (sym (count a))
    (survivors_free (d a) (core a) (victims a) (may a) c.reserve.new.self c.core.inside.closed c.core.invariant.1 refl
    c.reserve.ensures.same)

pub begin-pass-requires : goal.begin-pass-requires
begin-pass-requires c =
    let a = (goal.at.begin-pass-requires c).After-reserve in
    subst (λ (cs : List Image). AreVictims cs (d a).next (victims a))
    (sym (images_of a c.add_survivors.new.closed c.in_ok-add_survivors.ensures.ok))
    (victims_fit (d a) (core a) (victims a) (may a))

-- what has begun: the survivors' images, and a pass with a cursor
record HasBegun (a : After-reserve) (added : ImagesValue) (p : Pass) : Type 0 where
  pub images : added.images ≡ closed_then (d a) (core a) (victims a) (may a)
  pub begun : p ≡ fresh_pass (victims a) (asked a) p.cursor
  pub rest : rest_of (images_in added.images) p ≡ places_of (images_in added.images) (victims a)
  pub within : p.cursor.victim ≤ length (victims a)
  pub cursor : IsCursorAt (d a).index.seed (images_in added.images) (drop p.cursor.victim (victims a)) p.cursor

module _ (a : After-reserve) (added : ImagesValue) (p : Pass) (has : HasBegun a added p) where
  abbrev k : MasterData
  k = d a

  abbrev next : Survivors
  next = next_survivors k (victims a)

  begun : p ≡ fresh_pass (victims a) next p.cursor
  begun = has.begun ∙ (λ i. fresh_pass (victims a) (survivors a i) p.cursor)

  abbrev after : List Image
  after = closed_then k (core a) (victims a) (may a)

  begins : rest_of (images_in after) (fresh_pass (victims a) next p.cursor) ≡ places_of (images_in after) (victims a)
  begins =
      subst (λ (x : List Image × Pass). rest_of (images_in x.0) x.1 ≡ places_of (images_in x.0) (victims a))
      (λ i. (has.images i, begun i)) has.rest

  at : IsCursorAt k.index.seed (images_in after) (drop p.cursor.victim (victims a)) p.cursor
  at = subst (λ (cs : List Image). IsCursorAt k.index.seed (images_in cs) (drop p.cursor.victim (victims a)) p.cursor)
      has.images has.cursor

  abbrev left : MasterData
  left = record k { closed = added.images; next = k.next + (asked a).count; pass = Some p }

  is : record k {
    closed = after;
    next = k.next + survivors_for k (victims a);
    pass = Some (fresh_pass (victims a) next p.cursor);
  } ≡ left
  is = λ i. record k {
    closed = sym has.images i;
    next = k.next + sym (count a) i;
    pass = Some (sym begun i);
  }

  valid_then : IsCore left
  valid_then =
      subst IsCore is (opened_core k (core a) (victims a) (may a) p.cursor begins has.within at (short a))

  tallied_then : (new : List Tally) → WithBegun (survivor_ids (asked a)) a.core.inside.tallies new
      → AreTallied left new
  tallied_then new with =
      subst (λ (m : MasterData). AreTallied m new) is
      (begun_tallies k (core a) (victims a) (may a) p.cursor begins has.within at a.core.inside.tallies new
      (subst (λ (s : Survivors). WithBegun (survivor_ids s) a.core.inside.tallies new) (survivors a) with)
      a.core.invariant.4)

  begins_then : BeginsPass k (victims a) (Begun (asked a)) (posted left (posting.Survivors k.next (asked a).count))
  begins_then =
      subst (λ (x : Survivors × MasterData). BeginsPass k (victims a) (Begun x.0)
      (posted x.1 (posting.Survivors k.next x.0.count)))
      (λ i. (sym (survivors a) i, is i))
      (begins_pass k (core a) (victims a) (may a) p.cursor begins has.within at (short a) (passed a))

module _ (c : goal.Joined-core) where
  abbrev a : After-reserve
  a = (goal.at.invariant_of-core-2 c).After-reserve

  has_begun : HasBegun a c.add_survivors.new.closed c.begin-pass.result
  has_begun = record {
    images = images_of a c.add_survivors.new.closed c.in_ok-add_survivors.ensures.ok;
    begun = c.begin-pass.ensures.begun;
    rest = c.begin-pass.ensures.rest;
    within = c.begin-pass.ensures.within;
    cursor = c.begin-pass.ensures.cursor;
  }

  room_then : length c.add_survivors.new.closed.images < c.add_survivors.new.closed.room
  room_then =
      let enough = c.in_ok-reserve.ensures.ok in
      let room = ap (λ (v : ImagesValue). v.room) c.in_ok-add_survivors.ensures.ok in
      let all = ap (λ (v : ImagesValue). length v.images) c.in_ok-add_survivors.ensures.ok
      ∙ length-append c.reserve.new.self.images (survivor_images c.core.inside.config (survivor_ids (asked a))) in
      let new = length-map (survivor_ids (asked a)) (survivor_image c.core.inside.config)
      ∙ length-range_with_len c.core.inside.next_id c.in_ok-size.size.survivors in
      let same = ap (λ (v : ImagesValue). length v.images) c.reserve.ensures.same in
      omega (arith, enough, room, all, new, same)

  sizes_then : AreImagesOf c.core.inside.config c.add_survivors.new.closed
  sizes_then =
      subst (AreImagesOf c.core.inside.config) (sym c.in_ok-add_survivors.ensures.ok)
      (let first = subst (AreImagesOf c.core.inside.config) (sym c.reserve.ensures.same)
      (let own = c.core.invariant.1 in
      record { segment = own.segment; seglet = own.seglet; seglets = own.seglets }) in
      record { segment = first.segment; seglet = first.seglet; seglets = first.seglets })

pub begin_tallies-requires : goal.begin_tallies-requires
begin_tallies-requires c =
    let a = (goal.at.begin_tallies-requires c).After-reserve in
    let same = count a in let le = (may a).next in omega (arith, same, le)

pub overflow_add-core : goal.overflow_add-core
overflow_add-core c =
    let a = (goal.at.overflow_add-core c).After-reserve in
    let same = count a in let le = (may a).next in omega (arith, same, le)

pub invariant_of-core-2 : goal.invariant_of-core-2
invariant_of-core-2 c = (
  λ some. room_then c,
  sizes_then c,
  valid_then (a c) c.add_survivors.new.closed c.begin-pass.result (has_begun c),
  λ committing. (let not = ap (λ (p : Pass). p.is_committing) (has_begun c).begun in absurd (cc)),
  tallied_then (a c) c.add_survivors.new.closed c.begin-pass.result (has_begun c) c.begin_tallies.new.tallies
      c.begin_tallies.ensures,
)

pub returns-clause-begun : goal.returns-clause-begun
returns-clause-begun c =
    let a = (goal.at.returns-clause-begun c).After-reserve in
    rw (← c.core.view_is) (subst (BeginsPass (d a) (victims a) (Begun (asked a))) (sym c.post.ensures.posted)
    (begins_then a c.add_survivors.new.closed c.begin-pass.result (record {
      images = images_of a c.add_survivors.new.closed c.in_ok-add_survivors.ensures.ok;
      begun = c.begin-pass.ensures.begun;
      rest = c.begin-pass.ensures.rest;
      within = c.begin-pass.ensures.within;
      cursor = c.begin-pass.ensures.cursor;
    })))

pub returns-clause-may : goal.returns-clause-may
returns-clause-may c =
    let a = (goal.at.returns-clause-may c).After-reserve in
    subst (λ (m : MasterData). MayBeginClean (log_of m) (memory_of m) c.args.victims) c.core.view_is
    (may_clean_now (d a) (core a) c.args.victims (may a))

pub returns-clause-valid : goal.returns-clause-valid
returns-clause-valid c = c.post.ensures.valid
