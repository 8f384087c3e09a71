-- A core stays valid when one more replica of a survivor was sealed.
use Rattle.std.proofs.Common.{◌≡◌, ℕ, suc, ◌<◌, ◌≤◌, Bool, true, false, List, [], ◌∷◌, ◌++◌, refl, sym, ap}
use Rattle.std.proofs.Common.{subst, ◌∙◌, arith}
use Rattle.std.specs.Prelude.{Option, Some, None, IfSome, IsSome, IsSomeAnd, is_none, unwrap_or, ◌==◌}
use Rattle.std.specs.Prelude.{if◌then◌else◌}
use Rattle.std.specs.List.{AllByRecursion}
use Rattle.std.specs.Option.{option_map, option_map_or, option_and_then, option_to_list}
use Rattle.std.proofs.lemmas.Bool.{and_parts, eqb-true}
use Rattle.cleaner.specs.declared.pass.Pass.{Pass}
use Rattle.cleaner.specs.Laws.{KeepsNoMore}
use Rattle.cleaner.specs.Passes.{survivor_ids, is_at_end, next_seal as next_seal_of, images_in, rest_of}
use Rattle.cleaner.specs.Seals.{first_lacking}
use Rattle.cleaner.proofs.Ends.{pass_agrees}
use Rattle.cleaner.proofs.Lacking.{lacking_is_one, seal_adds_one}
use Rattle.master_state.proofs.log_laws.KeptEntries.{has_is}
use Rattle.entry.specs.declared.entry.Entry.{Entry}
use Rattle.entry.specs.Bag.{IsAmong}
use Rattle.entry.specs.Text.{IsSegment}
use Rattle.entry.proofs.ListLemmas.{all_among}
use Rattle.images.specs.Image.{Image}
use Rattle.images.specs.Sorted.{IsWhole, image_of as image_in, replicas_of, changed}
use Rattle.images.specs.Steps.{more_replicas}
use Rattle.log_head.specs.declared.head.Roll.{Roll}
use Rattle.log_head.specs.Log.{head_of}
use Rattle.places.specs.declared.place.Place.{Place}
use Rattle.places.specs.Map.{found, AreKept}
use Rattle.compactor.specs.Places.{keys_in}
use Rattle.master_state.specs.declared.failover.Failover.{Failover}
use Rattle.master_state.specs.Budget.{survivors_of, used_seglets}
use Rattle.master_state.specs.Data.{MasterData}
use Rattle.master_state.specs.Index.{LiesFound}
use Rattle.master_state.specs.Invariant.{IsCore, IsRollOf, IsOpenPass, IsIndex, IsFailover, NameBelow, AreTallied}
use Rattle.master_state.specs.Log.{images_of, state_now, log_set_ids}
use Rattle.master_state.specs.Waits.{next_seal}
use Rattle.master_state.proofs.Imaging.{ids_in, other_id}
use Rattle.master_state.proofs.LogIds.{apart, closed_rise}
use Rattle.master_state.proofs.Passing.{Stays, victims_then, rest_then, survivor_then, rooms_then, lacking_same}
use Rattle.master_state.proofs.Recounts.{IsRecount, one_more, all_mapped, ids_recounted, segment_recounted}
use Rattle.master_state.proofs.Recounts.{images_recounted, whole_recounted, seglets_recounted, among_recounted}
use Rattle.master_state.proofs.Refusals.{has_homes}
use Rattle.master_state.proofs.Rising.{Rise}
use Rattle.master_state.proofs.Tallying.{tallied_alike}
use Rattle.tally.specs.declared.tallies.Tally.{Tally}

-- The next seal is of a survivor that lacks a replica.
pub record IsNextSeal (replicas : ℕ) (images : List Image) (p : Pass) (s n : ℕ) : Type 0 where
  pub ended : is_at_end p ≡ true
  pub lacking : first_lacking replicas images (survivor_ids p.survivors) ≡ Some (s, n)
  pub among : IsAmong s (survivor_ids p.survivors)
  pub count : n ≡ replicas_of images s
  pub few : n < replicas

pub next_is : (replicas : ℕ) (images : List Image) (p : Pass) (s n : ℕ)
    → next_seal_of replicas images p ≡ Some (s, n) → IsNextSeal replicas images p s n
next_is replicas images p s n is = go (is_at_end p) refl is where
  go : (t : Bool) → is_at_end p ≡ t
      → (if t then first_lacking replicas images (survivor_ids p.survivors) else None) ≡ Some (s, n)
      → IsNextSeal replicas images p s n
  go true ended is =
      let one = lacking_is_one replicas images (survivor_ids p.survivors) s n is in
      record { ended = ended; lacking = is; among = one.0; count = one.1; few = one.2 }
  go false early is = absurd (cc)

-- it is one of the pass, and lacks a replica
pub next_among : (replicas : ℕ) (images : List Image) (p : Pass) (o : Option (ℕ × ℕ))
    → o ≡ next_seal_of replicas images p → IfSome o (λ (n : ℕ × ℕ). IsAmong n.0 (survivor_ids p.survivors))
next_among replicas images p None is = tt
next_among replicas images p (Some n) is = (next_is replicas images p n.0 n.1 (sym is)).among

pub next_few : (replicas : ℕ) (images : List Image) (p : Pass) (o : Option (ℕ × ℕ))
    → o ≡ next_seal_of replicas images p → IfSome o (λ (n : ℕ × ℕ). n.1 < replicas)
next_few replicas images p None is = tt
next_few replicas images p (Some n) is = (next_is replicas images p n.0 n.1 (sym is)).few

-- A pass is open whose next seal this is.
pub record SealsNext (d : MasterData) (s n : ℕ) : Type 0 where
  pub pass : Pass
  pub opened : d.pass ≡ Some pass
  pub next : IsNextSeal d.config.replicas d.closed pass s n

pub seals_next : (d : MasterData) (s n : ℕ) → next_seal d ≡ Some (s, n) → SealsNext d s n
seals_next d s n is = go d.pass refl is where
  go : (o : Option Pass) → d.pass ≡ o
      → option_and_then (next_seal_of d.config.replicas d.closed) o ≡ Some (s, n) → SealsNext d s n
  go None own is = absurd (cc)
  go (Some p) own is =
      record { pass = p; opened = own; next = next_is d.config.replicas d.closed p s n is }

-- no image but this one has its id, so no segment has too many replicas
none_here : (P : Image → Type 0) (cs : List Image) (s : ℕ) → AllByRecursion (λ (z : ℕ). s < z) (ids_in cs)
    → AllByRecursion P cs → AllByRecursion P (changed cs s more_replicas)
none_here P [] s above all = tt
none_here P (c ∷ cs) s above all =
    let lt = above.0 in
    let away = other_id c.id s (λ same. omega arith) in
    rw away (all.0, none_here P cs s above.1 all.1)

few_replicas : (most : ℕ) (cs : List Image) (s : ℕ) → Rise (ids_in cs)
    → AllByRecursion (λ (c : Image). c.replicas ≤ most) cs → replicas_of cs s < most
    → AllByRecursion (λ (c : Image). c.replicas ≤ most) (changed cs s more_replicas)
few_replicas most [] s rise all less = tt
few_replicas most (c ∷ cs) s rise all less = go (c.id == s) refl (few_replicas most cs s rise.1 all.1) where
  go : (t : Bool) → (c.id == s) ≡ t
      → (replicas_of cs s < most → AllByRecursion (λ (x : Image). x.replicas ≤ most) (changed cs s more_replicas))
      → AllByRecursion (λ (x : Image). x.replicas ≤ most) (changed (c ∷ cs) s more_replicas)
  go true here later =
      let same : c.id ≡ s = eqb-true c.id s here in
      let own : c.replicas < most = rw here at less in
      let rest = none_here (λ (x : Image). x.replicas ≤ most) cs s
      (subst (λ (z : ℕ). AllByRecursion (λ (y : ℕ). z < y) (ids_in cs)) same rise.0) all.1 in
      rw here (omega arith, rest)
  go false away later = (let rest : replicas_of cs s < most = rw away at less in rw away (all.0, later rest))

module _ (d : MasterData) (core : IsCore d) (p : Pass) (opened : d.pass ≡ Some p) (s n : ℕ)
    (next : IsNextSeal d.config.replicas d.closed p s n) where
  abbrev f : Image → Image
  f = λ (x : Image). if x.id == s then more_replicas x else x

  abbrev e : MasterData
  e = record d { closed = changed d.closed s more_replicas }

  recount : IsRecount f
  recount = one_more s

  was : IsOpenPass d p
  was = subst (λ (o : Option Pass). IfSome o (IsOpenPass d)) opened core.pass

  -- ---- images

  images_same : images_of e ≡ images_of d
  images_same = λ i z. unwrap_or (among_recounted f recount d.head d.closed z i) []

  ids_then : log_set_ids e ≡ log_set_ids d
  ids_then =
      ap (λ (ids : List ℕ). ids ++ d.head.id ∷ option_to_list (option_map (λ (r : Roll). r.id) d.head.roll))
      (ids_recounted f recount d.closed)

  used_same : used_seglets e ≡ used_seglets d
  used_same =
      let same = seglets_recounted f recount d.config.segment d.config.seglet d.closed in omega (arith, same)

  -- ---- replicas

  there : IsSome (image_in d.closed s)
  there = go (image_in d.closed s) (all_among (IsWhole d.closed) (survivor_ids p.survivors) s was.pass.whole
      next.among) where
        go : (o : Option Image) → IsSomeAnd o (λ (c : Image). c.is_whole ≡ true) → IsSome o
        go None whole = absurd whole
        go (Some c) whole = refl

  -- and it may have one replica more
  pub few_before : IsSomeAnd (image_in d.closed s) (λ (c : Image). c.replicas < 64)
  few_before = go (image_in d.closed s) refl there where
    go : (o : Option Image) → image_in d.closed s ≡ o → IsSome o → IsSomeAnd o (λ (c : Image). c.replicas < 64)
    go None own some = absurd (cc)
    go (Some c) own some =
        let count : replicas_of d.closed s ≡ c.replicas =
        ap (λ (o : Option Image). option_map_or (λ (x : Image). x.replicas) o 0) own in
        let same = next.count in
        let less = next.few in
        let homes = has_homes d.config core.config in
        let many = homes.many in
        let few = homes.few in
        omega arith

  counted : (z : ℕ) → replicas_of e.closed z
      ≡ (if z == s then suc (replicas_of d.closed s) else replicas_of d.closed z)
  counted z = seal_adds_one d.closed s z there

  at_most : (z : ℕ) → replicas_of d.closed z ≤ d.config.replicas → replicas_of e.closed z ≤ d.config.replicas
  at_most z few = subst (λ (m : ℕ). m ≤ d.config.replicas) (sym (counted z)) (go (z == s)) where
    go : (t : Bool) → (if t then suc (replicas_of d.closed s) else replicas_of d.closed z) ≤ d.config.replicas
    go true = (let count = next.count in let less = next.few in omega arith)
    go false = few

  -- the segments of the digest keep theirs
  listed_same : (z : ℕ) → IsAmong z (head_of d.head).start.others → replicas_of e.closed z ≡ replicas_of d.closed z
  listed_same z m = counted z ∙ (rw (away z m) refl) where
    away : (z : ℕ) → IsAmong z (head_of d.head).start.others → (z == s) ≡ false
    away z m = other_id z s (λ same. (
        let own = subst (λ (o : Option Pass). IsAmong s (survivors_of o)) (sym opened) next.among in
        let out = (apart d core s own).0 in
        let has = has_is (head_of d.head).start.others s
        (subst (λ (y : ℕ). IsAmong y (head_of d.head).start.others) same m) in
        let never : true ≡ false = sym has ∙ out in
        cc))

  lacking_then : first_lacking d.config.replicas e.closed (head_of d.head).start.others
      ≡ first_lacking d.config.replicas d.closed (head_of d.head).start.others
  lacking_then =
      lacking_same d.config.replicas d.closed e.closed (head_of d.head).start.others listed_same

  -- its commit has not begun
  pub not_committing : p.is_committing ≡ true → ⊥
  not_committing commits =
      let none = (and_parts (is_at_end p) (is_none (first_lacking d.config.replicas d.closed
      (survivor_ids p.survivors))) (was.commits commits).1).1 in
      let never : false ≡ true =
      ap (λ (o : Option (ℕ × ℕ)). is_none o) (sym next.lacking) ∙ none in
      cc

  -- ---- the pass

  stays : Stays d e p
  stays = record {
    config = refl;
    start = refl;
    roll = λ z m. (was.survivors.each z m).not_new;
    next = omega arith;
    victims = λ z m. images_recounted f recount d.closed z;
    survivors = λ z m. images_recounted f recount d.closed z;
    keeps = subst (λ (ids : List ℕ). KeepsNoMore (log_set_ids d) ids d.index d.index (images_in d.closed)
        (rest_of (images_in d.closed) p)) (sym ids_then) (λ place x m stands keeps. keeps);
  }

  whole_then : (ids : List ℕ) → AllByRecursion (IsWhole d.closed) ids → AllByRecursion (IsWhole e.closed) ids
  whole_then [] all = tt
  whole_then (z ∷ ids) all = (whole_recounted f recount d.closed z all.0, whole_then ids all.1)

  pass_then : IsOpenPass e p
  pass_then = record {
    pass = (pass_agrees d.index.seed d.closed e.closed p was.pass (λ z m. segment_recounted f recount d.closed z)
        (whole_then (survivor_ids p.survivors) was.pass.whole)).0;
    victims = victims_then d e p stays was;
    survivors = record {
      some = was.survivors.some;
      few = was.survivors.few;
      each = survivor_then d e p stays was;
    };
    rooms = rooms_then d e p stays was;
    sealed = λ z m. at_most z (was.sealed z m);
    live = λ k q finds victim. subst (λ (places : List Place). IsAmong q places) (sym (rest_then d e p stays was))
        (was.live k q (subst (λ (images : ℕ → List Entry). found (keys_in images) k d.index ≡ Some q) images_same
        finds) victim);
    unsealed = λ early. (let ended = next.ended in absurd (cc));
    spare = λ none early. (let spare = was.spare none early in let free = spare.free in
        record { free = omega (arith, used_same); listed = spare.listed });
    commits = λ commits. absurd (not_committing commits);
  }

  -- ---- the core

  roll_then : (o : Option Roll) → IfSome o (IsRollOf d) → IfSome o (IsRollOf e)
  roll_then None rolls = tt
  roll_then (Some r) rolls = record {
    image = rolls.image;
    lists = rolls.lists;
    within = rolls.within;
    newer = rolls.newer;
    used = rolls.used;
  }

  failover_then : (o : Option Failover) → IfSome o (IsFailover d) → IfSome o (IsFailover e)
  failover_then None is = tt
  failover_then (Some g) is = record {
    some = is.some;
    closed = is.closed;
    mends = is.mends;
    opens = is.opens;
    first = is.first;
    closes = is.closes;
    repairs = λ repairs. (let all = is.repairs repairs in
        (all.0, all.1, all.2, all.3, all.4, all.5, (λ whole. all.6 (sym lacking_then ∙ whole)), all.7));
  }

  index_then : IsIndex e
  index_then = record {
    kept = subst (λ (images : ℕ → List Entry). AreKept (keys_in images) d.index) (sym images_same) core.index.kept;
    lies = λ k. subst (λ (images : ℕ → List Entry). LiesFound images k (found (keys_in images) k d.index)
        ((state_now d).contents k)) (sym images_same) (core.index.lies k);
    safe = core.index.safe;
  }

  pub sealed_core : IsCore (record d { closed = changed d.closed s more_replicas })
  sealed_core = record {
    config = core.config;
    replicas = core.replicas;
    history = core.history;
    head = core.head;
    image = core.image;
    within = core.within;
    closed = ids_recounted f recount d.closed ∙ core.closed;
    segments = all_mapped f (λ (c : Image). IsSegment c.segment) (λ (c : Image). IsSegment c.segment) d.closed
        (λ c valid. subst IsSegment (sym (recount.segment c)) valid) core.segments;
    below = core.below;
    real = core.real;
    used = core.used;
    first = core.first;
    next = core.next;
    roll = roll_then d.head.roll core.roll;
    pass = subst (λ (o : Option Pass). IfSome o (IsOpenPass e)) (sym opened) pass_then;
    named = subst (λ (images : ℕ → List Entry). NameBelow images d.next) (sym images_same) core.named;
    replicas_few = few_replicas d.config.replicas d.closed s (closed_rise d core) core.replicas_few
        (let count = next.count in let less = next.few in omega arith);
    waiting = core.waiting;
    digest = core.digest;
    listed = core.listed;
    failed = (let x = core.failed in record { few = x.few; there = x.there; apart = x.apart; two = x.two });
    whole = λ calm. lacking_then ∙ core.whole calm;
    failover = failover_then d.failover core.failover;
    abandoned = core.abandoned;
    budget = (let was = core.budget in omega (arith, used_same));
    legal = core.legal;
    index = index_then;
  }

  -- what is counted stays right
  pub sealed_tallies : (rows : List Tally) → AreTallied d rows
      → AreTallied (record d { closed = changed d.closed s more_replicas }) rows
  sealed_tallies rows right = tallied_alike d e rows refl (λ z i. images_same i z) ids_then right
