-- A core stays valid when a lost replica of a segment was sealed anew in a failover.
use Rattle.std.proofs.Common.{◌≡◌, ℕ, ◌+◌, ◌<◌, ◌≤◌, Bool, true, false, List, [], ◌∷◌, ◌++◌}
use Rattle.std.proofs.Common.{refl, sym, ap, subst, ◌∙◌, arith}
use Rattle.std.specs.Prelude.{Option, Some, None, IfSome, IsSome, IsSomeAnd, is_some, is_none, ◌==◌, ◌||◌, unwrap_or}
use Rattle.std.specs.Prelude.{sum_by, if◌then◌else◌}
use Rattle.std.specs.List.{AllByRecursion}
use Rattle.std.specs.Option.{option_map, option_map_or, option_to_list}
use Rattle.std.proofs.lemmas.Bool.{eqb-true}
use Rattle.std.proofs.lemmas.List.Sums.{sum_by-cons}
use Rattle.master_state.specs.cleaner.declared.pass.Pass.{Pass}
use Rattle.master_state.specs.cleaner.Passes.{images_in, survivor_ids}
use Rattle.master_state.proofs.cleaner.Ends.{pass_agrees}
use Rattle.master_state.proofs.log_laws.KeptEntries.{has_is}
use Rattle.master_state.specs.compactor.Kept.{kept}
use Rattle.master_state.specs.compactor.Places.{keys_in}
use Rattle.entry.specs.declared.entry.Entry.{Entry}
use Rattle.entry.specs.Bag.{IsAmong}
use Rattle.entry.specs.Text.{IsSegment}
use Rattle.entry.proofs.ListLemmas.{all_among, all_from_among}
use Rattle.images.specs.Image.{Image}
use Rattle.images.specs.Images.{count_of}
use Rattle.images.specs.Sorted.{IsWhole, image_of, segment_of, replicas_of, changed}
use Rattle.images.specs.Steps.{more_replicas}
use Rattle.images.proofs.Finding.{image_changed_is, ids_changed}
use Rattle.images.proofs.Replicas.{replicas_changed}
use Rattle.log_head.specs.declared.head.Roll.{Roll}
use Rattle.log_head.specs.Log.{head_of}
use Rattle.log_head.specs.log_laws.Ids.{has}
use Rattle.places.specs.Map.{AreKept, found}
use Rattle.master_state.specs.declared.failover.Failover.{Failover}
use Rattle.master_state.specs.Budget.{used_seglets, whole_seglets, seglets_of, has_abandoned, survivors_of}
use Rattle.master_state.specs.Data.{MasterData}
use Rattle.master_state.specs.Images.{new_image_or}
use Rattle.master_state.specs.Index.{LiesFound}
use Rattle.master_state.specs.Invariant.{IsCore, IsFailover, IsOpenPass, IsRollOf, AreWhole, NameBelow}
use Rattle.master_state.specs.Invariant.{AreTallied}
use Rattle.master_state.specs.tally.declared.tallies.Tally.{Tally}
use Rattle.master_state.specs.Log.{images_of, is_headless, is_opened, log_set_ids, state_now}
use Rattle.master_state.proofs.Imaging.{ids_in, other_id}
use Rattle.master_state.proofs.LogIds.{apart, closed_rise}
use Rattle.master_state.proofs.Passing.{GoesOn, goes_on}
use Rattle.master_state.proofs.Rising.{Rise}
use Rattle.master_state.proofs.Tallying.{tallied_alike}
use Rattle.master_failover.specs.declared.push.Push.TheVariants as push
use Rattle.master_failover.specs.Mending.{IsNextMend, first_lost, repaired_data}
use Rattle.master_failover.proofs.Changed.{own}
use Rattle.master_failover.proofs.Sought.{is_other, held, fewer, has_image}

-- ---- images of which one has one more replica

module _ (s : ℕ) where
  one_more : Image → Image
  one_more x = if x.id == s then more_replicas x else x

  more : List Image → List Image
  more xs = changed xs s more_replicas

  same_segment : (xs : List Image) (z : ℕ) → segment_of (changed xs s more_replicas) z ≡ segment_of xs z
  same_segment xs z =
      ap (option_map (λ (x : Image). x.segment)) (image_changed_is s more_replicas (λ x. refl) xs z)
      ∙ go (z == s) refl
    where
      parts : (o : Option Image) → option_map (λ (x : Image). x.segment) (option_map more_replicas o)
          ≡ option_map (λ (x : Image). x.segment) o
      parts None = refl
      parts (Some x) = refl

      go : (t : Bool) → (z == s) ≡ t
          → option_map (λ (x : Image). x.segment)
          (if t then option_map more_replicas (image_of xs s) else image_of xs z)
          ≡ segment_of xs z
      go true is = parts (image_of xs s) ∙ ap (λ (n : ℕ). segment_of xs n) (sym (eqb-true z s is))
      go false is = refl

  same_whole : (xs : List Image) (z : ℕ) → IsWhole xs z → IsWhole (changed xs s more_replicas) z
  same_whole xs z whole =
      subst Whole (sym (image_changed_is s more_replicas (λ x. refl) xs z)) (go (z == s) refl)
    where
      Whole : Option Image → Type 0
      Whole o = IsSomeAnd o (λ (image : Image). image.is_whole ≡ true)

      parts : (o : Option Image) → Whole o → Whole (option_map more_replicas o)
      parts None is = is
      parts (Some x) is = is

      go : (t : Bool) → (z == s) ≡ t → Whole (if t then option_map more_replicas (image_of xs s) else image_of xs z)
      go true is = parts (image_of xs s) (subst (λ (n : ℕ). Whole (image_of xs n)) (eqb-true z s is) whole)
      go false is = whole

  same_segments : (xs : List Image) → AllByRecursion (λ (c : Image). IsSegment c.segment) xs
      → AllByRecursion (λ (c : Image). IsSegment c.segment) (changed xs s more_replicas)
  same_segments [] all = tt
  same_segments (x ∷ xs) all = (go (x.id == s) all.0, same_segments xs all.1) where
    go : (t : Bool) → IsSegment x.segment → IsSegment (if t then more_replicas x else x).segment
    go true is = is
    go false is = is

  same_sum : (segment seglet : ℕ) (xs : List Image)
      → sum_by (count_of segment seglet) (changed xs s more_replicas) ≡ sum_by (count_of segment seglet) xs
  same_sum segment seglet [] = refl
  same_sum segment seglet (x ∷ xs) =
      sum_by-cons (count_of segment seglet) (if x.id == s then more_replicas x else x) (changed xs s more_replicas)
      ∙ (λ i. go (x.id == s) i + same_sum segment seglet xs i)
      ∙ sym (sum_by-cons (count_of segment seglet) x xs)
    where
      go : (t : Bool) → count_of segment seglet (if t then more_replicas x else x) ≡ count_of segment seglet x
      go true = refl
      go false = refl

  -- as many replicas as before, or one more
  module _ (n : ℕ) where
    above : (xs : List Image) → AllByRecursion (λ (z : ℕ). s < z) (ids_in xs)
        → AllByRecursion (λ (c : Image). c.replicas ≤ n) xs
        → AllByRecursion (λ (c : Image). c.replicas ≤ n) (changed xs s more_replicas)
    above [] later all = tt
    above (x ∷ xs) later all =
        let lt = later.0 in
        let away = other_id x.id s (λ same. omega arith) in
        ((rw away all.0), above xs later.1 all.1)

    still_few : (xs : List Image) → Rise (ids_in xs) → AllByRecursion (λ (c : Image). c.replicas ≤ n) xs
        → replicas_of xs s < n → AllByRecursion (λ (c : Image). c.replicas ≤ n) (changed xs s more_replicas)
    still_few [] rise all lt = tt
    still_few (x ∷ xs) rise all lt = go (x.id == s) refl lt (still_few xs rise.1 all.1) where
      go : (t : Bool) → (x.id == s) ≡ t → replicas_of (x ∷ xs) s < n
          → (replicas_of xs s < n → AllByRecursion (λ (c : Image). c.replicas ≤ n) (changed xs s more_replicas))
          → AllByRecursion (λ (c : Image). c.replicas ≤ n) (changed (x ∷ xs) s more_replicas)
      go true is lt later =
          let few : x.replicas < n = rw is at lt in (
            (rw is (omega arith)),
            above xs (subst (λ (z : ℕ). AllByRecursion (λ (y : ℕ). z < y) (ids_in xs)) (eqb-true x.id s is)
                rise.0) all.1,
          )
      go false is lt later = ((rw is all.0), later (rw is at lt))

-- ---- the core

module _ (d : MasterData) (core : IsCore d) (failing : d.failed ≡ [] → ⊥) (s : ℕ)
    (other : IsAmong s (head_of d.head).start.others) (lacks : replicas_of d.closed s < d.config.replicas)
    (x : Option Failover) where
  abbrev cs : List Image
  cs = changed d.closed s more_replicas

  abbrev e : MasterData
  e = record d { closed = changed d.closed s more_replicas; failover = x }

  pub ids_same : ids_in (changed d.closed s more_replicas) ≡ ids_in d.closed
  ids_same = ids_changed s more_replicas (λ y. refl) d.closed

  images_same : images_of e ≡ images_of d
  images_same = λ i z. unwrap_or (if d.head.id == z then Some d.head.image
      else new_image_or d.head.roll z (same_segment s d.closed z i)) []

  in_same : (z : ℕ) → images_in (changed d.closed s more_replicas) z ≡ images_in d.closed z
  in_same z = ap (λ (o : Option (List Entry)). unwrap_or o []) (same_segment s d.closed z)

  set_same : log_set_ids e ≡ log_set_ids d
  set_same = ap (λ (ids : List ℕ). ids ++ d.head.id ∷ option_to_list (option_map (λ (r : Roll). r.id) d.head.roll))
      ids_same

  sum_same : sum_by (count_of d.config.segment d.config.seglet) (changed d.closed s more_replicas)
      ≡ sum_by (count_of d.config.segment d.config.seglet) d.closed
  sum_same = same_sum s d.config.segment d.config.seglet d.closed

  module _ (head_same : has_abandoned e ≡ has_abandoned d) where
    used_same : used_seglets e ≡ used_seglets d
    used_same = λ i. (if is_some d.head.roll || head_same i
        then seglets_of d.config d.head.image + whole_seglets d.config else whole_seglets d.config) + sum_same i

    goes : (p : Pass) → d.pass ≡ Some p → IsOpenPass d p → GoesOn d e p
    goes p there is = record {
      config = refl;
      start = refl;
      roll = λ z m. (is.survivors.each z m).not_new;
      next = omega arith;
      pass = (pass_agrees d.index.seed d.closed (changed d.closed s more_replicas) p is.pass
          (λ z m. same_segment s d.closed z)
          (all_from_among (IsWhole (changed d.closed s more_replicas)) (survivor_ids p.survivors)
          (λ z m. same_whole s d.closed z
          (all_among (IsWhole d.closed) (survivor_ids p.survivors) z is.pass.whole m)))).0;
      victims = λ z m. in_same z;
      survivors = λ z m. in_same z;
      keeps = λ place entry m stands keeps.
          subst (λ (ids : List ℕ). kept ids d.index place entry ≡ true) set_same keeps;
      live = λ k q finds victim. ap (λ (images : ℕ → List Entry). found (keys_in images) k d.index)
          (sym images_same) ∙ finds;
      replicas = λ z m. away z (apart d core z (subst (λ (o : Option Pass). IsAmong z (survivors_of o))
          (sym there) m)).0;
      failed = λ none. none;
      free = λ early. (let same = used_same in omega arith);
      listed = λ early. omega arith;
      rolls = λ commits some. some;
    } where
      away : (z : ℕ) → has (head_of d.head).start.others z ≡ false
          → replicas_of (changed d.closed s more_replicas) z ≡ replicas_of d.closed z
      away z out =
          let differs : (z == s) ≡ false = other_id z s (λ same.
          (let own = has_is (head_of d.head).start.others s other in
          let never : has (head_of d.head).start.others s ≡ false =
          subst (λ (n : ℕ). has (head_of d.head).start.others n ≡ false) same out in cc)) in
          replicas_changed d.closed s z more_replicas (λ y. refl) ∙ rw differs refl

    pass_then : (o : Option Pass) → d.pass ≡ o → IfSome o (IsOpenPass d) → IfSome o (IsOpenPass e)
    pass_then None there is = tt
    pass_then (Some p) there is = goes_on d e p (goes p there is) is

    roll_then : (o : Option Roll) → IfSome o (IsRollOf d) → IfSome o (IsRollOf e)
    roll_then None is = tt
    roll_then (Some r) is =
        record { image = is.image; lists = is.lists; within = is.within; newer = is.newer; used = is.used }

    pub resealed : (is_headless e ≡ true → is_headless d ≡ true) → (x ≡ None → AreWhole e) → IfSome x (IsFailover e)
        → (x ≡ None → d.abandoned ≡ []) → IsCore e
    resealed headless whole failover gone = record {
      config = core.config;
      replicas = core.replicas;
      history = core.history;
      head = core.head;
      image = core.image;
      within = core.within;
      closed = ids_same ∙ core.closed;
      segments = same_segments s d.closed core.segments;
      below = core.below;
      real = core.real;
      used = core.used;
      first = λ is. core.first (headless is);
      next = core.next;
      roll = roll_then d.head.roll core.roll;
      pass = pass_then d.pass refl core.pass;
      named = subst (λ (images : ℕ → List Entry). NameBelow images d.next) (sym images_same) core.named;
      replicas_few = still_few s d.config.replicas d.closed (closed_rise d core) core.replicas_few lacks;
      waiting = core.waiting;
      digest = core.digest;
      listed = core.listed;
      failed = (let f = core.failed in record { few = f.few; there = f.there; apart = f.apart; two = f.two });
      whole = whole;
      failover = failover;
      abandoned = gone;
      budget = (let same = used_same in let budget = core.budget in omega arith);
      legal = core.legal;
      index = record {
        kept = subst (λ (images : ℕ → List Entry). AreKept (keys_in images) d.index) (sym images_same)
            core.index.kept;
        lies = λ k. subst (λ (images : ℕ → List Entry). LiesFound images k (found (keys_in images) k d.index)
            ((state_now d).contents k)) (sym images_same) (core.index.lies k);
        safe = core.index.safe;
      };
    }

-- ---- the push

is_none_then : (o : Option (ℕ × ℕ)) → is_none o ≡ true → o ≡ None
is_none_then None is = refl
is_none_then (Some x) is = absurd (cc)

module _ (d : MasterData) (core : IsCore d) (s j : ℕ) (next : IsNextMend d (push.Repair s j)) where
  abbrev f : Failover
  f = next.0.0

  fails : IsFailover d f
  fails = own d core f next.0.1

  parts : (d.head.roll ≡ None) × (is_opened d.head ≡ true) × (f.abandoned ≡ None) × (d.abandoned ≡ [])
  parts = (let all = fails.repairs next.0.2 in (all.2, all.3, all.1, all.7))

  lacks : replicas_of d.closed s < d.config.replicas
  lacks = (let same = held d core s j next in let lt = fewer d core s j next in omega arith)

  abbrev more_closed : List Image
  more_closed = changed d.closed s more_replicas

  no_image : has_abandoned d ≡ false
  no_image =
      ap (λ (o : Option Failover). option_map_or (λ (g : Failover). is_some g.abandoned) o false) next.0.1
      ∙ ap is_some parts.2

  -- the last one
  module _ (whole : first_lost (record d { closed = changed d.closed s more_replicas }) ≡ None) where
    pub last_sealed : IsCore (record d { closed = changed d.closed s more_replicas; failover = None })
    last_sealed =
        resealed d core fails.some s (is_other d core s j next) lacks None (sym no_image)
        (λ test. absurd (let opened = parts.1 in cc)) (λ none. whole) tt (λ none. parts.3)

  -- another is lost still
  module _ (lost : first_lost (record d { closed = changed d.closed s more_replicas }) ≡ None → ⊥) where
    pub one_sealed : IsCore (record d { closed = changed d.closed s more_replicas })
    one_sealed =
        resealed d core fails.some s (is_other d core s j next) lacks d.failover refl (λ test. test) still
        (goes d.failover next.0.1 core.failover) core.abandoned
      where
        still : d.failover ≡ None → AreWhole (record d { closed = changed d.closed s more_replicas })
        still none = absurd (let some = next.0.1 in cc)

        goes : (o : Option Failover) → o ≡ Some f → IfSome o (IsFailover d)
            → IfSome o (IsFailover (record d { closed = changed d.closed s more_replicas }))
        goes None is was = tt
        goes (Some g) is was = record {
          some = was.some;
          closed = was.closed;
          mends = was.mends;
          opens = was.opens;
          first = was.first;
          closes = was.closes;
          repairs = λ p. (let all = was.repairs p in
              (all.0, all.1, all.2, all.3, all.4, all.5, lost, all.7));
        }

  -- either
  pub sealed_core : (t : Bool) → is_none (first_lost (record d { closed = changed d.closed s more_replicas })) ≡ t
      → IsCore (record d { closed = changed d.closed s more_replicas; failover = if t then None else d.failover })
  sealed_core true test = last_sealed (is_none_then (first_lost (record d
      { closed = changed d.closed s more_replicas })) test)
  sealed_core false test = one_sealed (λ none. (let no : false ≡ true = sym test ∙ ap is_none none in cc))

  pub sealed_tallied : (y : Option Failover) (rows : List Tally) → AreTallied d rows
      → AreTallied (record d { closed = changed d.closed s more_replicas; failover = y }) rows
  sealed_tallied y rows right =
      tallied_alike d (record d { closed = changed d.closed s more_replicas; failover = y }) rows refl
      (λ z i. images_same d core fails.some s (is_other d core s j next) lacks y i z)
      (set_same d core fails.some s (is_other d core s j next) lacks y) right

  pub sealed_is : (t : Bool) → is_none (first_lost (record d { closed = changed d.closed s more_replicas })) ≡ t
      → record d { closed = changed d.closed s more_replicas; failover = if t then None else d.failover }
      ≡ repaired_data (record d { closed = changed d.closed s more_replicas })
  sealed_is true test = rw test refl
  sealed_is false test = rw test refl

  pub sealed_few : IsSomeAnd (image_of d.closed s) (λ (image : Image). image.replicas < 64)
  sealed_few = go (image_of d.closed s) (has_image d core s j next) lacks where
    most : d.config.replicas ≤ 64
    most = (let same = core.replicas in let few = core.head.few in omega arith)

    go : (o : Option Image) → IsSome o → option_map_or (λ (image : Image). image.replicas) o 0 < d.config.replicas
        → IsSomeAnd o (λ (image : Image). image.replicas < 64)
    go None some lt = absurd (cc)
    go (Some image) some lt = (let few = most in omega arith)
