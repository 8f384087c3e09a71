-- A core stays valid when a roll or a failover begins to open a new head, whatever the new head's digest lists.
use Rattle.std.proofs.Common.{◌≡◌, inl, inr, ℕ, ◌+◌, ◌<◌, ◌≤◌, Bool, true, false, List, [], ◌∷◌, ◌++◌, length, refl}
use Rattle.std.proofs.Common.{sym, ap, subst, ◌∙◌, arith}
use Rattle.std.specs.Prelude.{Option, Some, None, IfSome, ◌==◌, ◌^◌, ◌||◌, filter}
use Rattle.std.specs.Option.{option_map, option_to_list}
use Rattle.std.proofs.Math.Nat.{mul-div-le}
use Rattle.std.proofs.lemmas.Bool.{eqb-true}
use Rattle.std.proofs.lemmas.List.{length-append}
use Rattle.cleaner.specs.declared.pass.Pass.{Pass}
use Rattle.cleaner.specs.Passes.{images_in, is_ready as is_ready_pass}
use Rattle.cleaner.proofs.Ends.{rest_segment}
use Rattle.cleaner.specs.compactor.Kept.{has_id}
use Rattle.entry.specs.declared.entry.Entry.{Entry}
use Rattle.entry.specs.declared.entry.Entry.TheVariants as entry
use Rattle.entry.specs.declared.key.Key.{Key}
use Rattle.entry.specs.Bag.{IsAmong}
use Rattle.entry.specs.Text.{text_of, is_data}
use Rattle.images.specs.Sorted.{segment_of}
use Rattle.log_head.specs.declared.head.Roll.{Roll}
use Rattle.log_head.specs.Head.{IsHeadValue}
use Rattle.log_head.specs.Log.{head_of, HasLens}
use Rattle.log_head.specs.Steps.{fresh_roll}
use Rattle.log_head.proofs.RollLog.{start_is, opening_is}
use Rattle.log_head.specs.log_laws.Heads.{Start, digest_for, start_entries}
use Rattle.log_head.specs.log_laws.Ids.{all_inserted}
use Rattle.log_head.proofs.log_laws.ListedIds.{ids_listed}
use Rattle.segment.proofs.UnitLemmas.{head_few}
use Rattle.master_state.specs.declared.failover.Failover.{Failover}
use Rattle.master_state.specs.declared.ledger.Posting.{Posting}
use Rattle.master_state.specs.Budget.{most_segments, used_seglets, survivors_of}
use Rattle.master_state.specs.Data.{MasterData}
use Rattle.master_state.specs.Invariant.{IsFirst, IsOpenPass, IsCore, IsFailover, IsSpare, NameBelow, listed_now}
use Rattle.master_state.specs.Invariant.{AreTallied}
use Rattle.master_state.specs.Log.{images_of, log_set_ids, find, state_now, is_headless}
use Rattle.master_state.proofs.Finding.{each_among, index_again, index_of}
use Rattle.master_state.proofs.Imaging.{ids_in, other_id, rolled_grow}
use Rattle.master_state.proofs.Indexing.{Grow, found_grown}
use Rattle.master_state.proofs.LogIds.{no_segment, no_next, older_image}
use Rattle.master_state.proofs.Passing.{Stays, victims_then, survivor_then, rooms_then, victim_below}
use Rattle.master_state.proofs.Refusals.{sizes_of}
use Rattle.master_state.proofs.Tallying.{tallied_begun}
use Rattle.master_rolls.proofs.Placed.{closed_each, no_more}
use Rattle.tally.specs.declared.tallies.Tally.{Tally}
use Rattle.tally.specs.Right.{StaysOrBegins}

-- a core that rolls to this head, with so many replicas of the old head closed, and with this pass and failover
abbrev pub rolls_to : MasterData → Start → ℕ → Option Pass → Option Failover → List Posting → MasterData
rolls_to d n closed o fo ps = record d {
  head = record d.head { roll = Some (record (fresh_roll d.config.master n) { closed = closed }) };
  next = d.next + 1;
  pass = o;
  failover = fo;
  ledger = ps;
}

-- an id more in the log set is none below it
one_more : (xs : List ℕ) (h next z : ℕ) → z < next
    → has_id (xs ++ h ∷ option_to_list (Some next)) z ≡ has_id (xs ++ h ∷ option_to_list None) z
one_more [] h next z lt =
    ap (λ (b : Bool). (h == z) || (b || false)) (other_id next z (λ same. omega arith))
one_more (x ∷ xs) h next z lt = ap (λ (b : Bool). (x == z) || b) (one_more xs h next z lt)

module _ (d : MasterData) (core : IsCore d) (n : Start) (id : n.id ≡ d.next) (has : HasLens n) (closed : ℕ)
    (o : Option Pass) (fo : Option Failover) (ps : List Posting) (none : d.head.roll ≡ None)
    (valid : IsHeadValue (record d.head {
      roll = Some (record (fresh_roll d.config.master n) { closed = closed });
    })) where
  abbrev e : MasterData
  e = rolls_to d n closed o fo ps

  abbrev roll : Roll
  roll = record (fresh_roll d.config.master n) { closed = closed }

  no_new : segment_of d.closed n.id ≡ None
  no_new = ap (segment_of d.closed) id ∙ no_segment d.closed d.next (no_next d core)

  grow : Grow (images_of d) (images_of e)
  grow = rolled_grow d.head d.closed roll none no_new

  finds_same : (k : Key) → find e k ≡ find d k
  finds_same k = found_grown (images_of d) (images_of e) grow (each_among e.head d.closed valid core.segments) d.index
      (state_now d).contents (index_of d core) k

  -- ---- an open pass

  same_below : (z : ℕ) → z < d.next → has_id (log_set_ids e) z ≡ has_id (log_set_ids d) z
  same_below z lt =
      one_more (ids_in d.closed) d.head.id n.id z (omega arith)
      ∙ ap (λ (r : Option Roll). has_id (ids_in d.closed ++ d.head.id ∷ option_to_list
      (option_map (λ (x : Roll). x.id) r)) z) (sym none)

  stays : (p : Pass) → IsOpenPass d p → Stays d e p
  stays p opens = record {
    config = refl;
    start = refl;
    roll = λ s m. (let lt = (opens.survivors.each s m).used in other_id n.id s (λ same. omega arith));
    next = omega arith;
    victims = λ s m. refl;
    survivors = λ s m. refl;
    keeps = no_more (log_set_ids d) (log_set_ids e) d.index (images_in d.closed)
        (closed_each d.closed core.segments) p d.next
        (λ q t m stands. (let lt = victim_below d core p opens q.segment (rest_segment (images_in d.closed) p q m) in
        core.named q.segment t (subst (λ (image : List Entry). IsAmong (entry.Tombstone t) image)
        (sym (older_image d core q.segment lt)) stands)))
        (λ z lt has_it. sym (same_below z lt) ∙ has_it);
  }

  -- it goes on, and the roll of a pass that is ready is its commit
  pub pass_then : (p : Pass) (b : Bool) → IsOpenPass d p
      → (d.failed ≡ [] → b ≡ false → IsSpare (rolls_to d n closed o fo ps) (length p.victims) p.survivors.count)
      → (b ≡ true → is_ready_pass d.config.replicas d.closed p ≡ true)
      → IsOpenPass (rolls_to d n closed o fo ps) (record p { is_committing = b })
  pass_then p b opens spare ready = record {
    pass = (let is = opens.pass in record {
      victims = is.victims;
      whole = is.whole;
      numbers = is.numbers;
      within = is.within;
      cursor = is.cursor;
    });
    victims = victims_then d e p (stays p opens) opens;
    survivors = record {
      some = opens.survivors.some;
      few = opens.survivors.few;
      each = survivor_then d e p (stays p opens) opens;
    };
    rooms = (let is = rooms_then d e p (stays p opens) opens in record { rooms = is.rooms; blank = is.blank });
    sealed = opens.sealed;
    live = λ k q finds victim. opens.live k q (sym (finds_same k) ∙ finds) victim;
    unsealed = opens.unsealed;
    spare = spare;
    commits = λ is. (refl, ready is);
  }

  -- ---- all

  new_within : length n.others + 1 ≤ most_segments d.config
      → length (text_of (start_entries d.config.master n)) ≤ d.config.segment
  new_within few =
      let bytes = head_few d.config.master n.id (digest_for n) n.safe in
      let count = ap length (ids_listed n) ∙ length-append n.others (n.id ∷ []) in
      let least = (sizes_of d.config core.config).least_segment in
      let parts = mul-div-le d.config.segment 32 in
      omega arith

  -- tombstones name ids that were used: a new head has none
  named_then : NameBelow (images_of e) (d.next + 1)
  named_then s t m = go (d.head.id == s) refl (n.id == s) refl where
    old : images_of e s ≡ images_of d s → t.segment < d.next + 1
    old same =
        let lt = core.named s t (subst (λ (image : List Entry). IsAmong (entry.Tombstone t) image)
        same m) in omega arith

    go : (b : Bool) → (d.head.id == s) ≡ b → (c : Bool) → (n.id == s) ≡ c → t.segment < d.next + 1
    go true own_it c there = old (rw own_it refl)
    go false other true there =
        let image : images_of e s ≡ roll.image = rw (other, there) refl in
        let all : IsAmong (entry.Tombstone t) roll.image = subst
        (λ (image : List Entry). IsAmong (entry.Tombstone t) image) image m in
        elim all [
          | inl a ↦ absurd (cc)
          | inr (inl a) ↦ absurd (cc)
          | inr (inr (inl a)) ↦ absurd (cc)
          | inr (inr (inr never)) ↦ absurd never
        ]
    go false other false there = old (rw (other, there, none) refl)

  pub roll_core : d.next ≤ 2 ^ 62 → n.others ≡ listed_now (rolls_to d n closed o fo ps)
      → survivors_of o ≡ survivors_of d.pass → length n.others + 1 ≤ most_segments d.config
      → used_seglets (rolls_to d n closed o fo ps) ≤ d.config.seglets
      → IfSome o (IsOpenPass (rolls_to d n closed o fo ps))
      → (is_headless (rolls_to d n closed o fo ps) ≡ true → IsFirst d.head)
      → (fo ≡ None → d.failover ≡ None) → IfSome fo (IsFailover (rolls_to d n closed o fo ps))
      → IsCore (rolls_to d n closed o fo ps)
  roll_core most lists same few budget passes first calm failover = record {
    config = core.config;
    replicas = core.replicas;
    history = core.history;
    head = valid;
    image = (let is = core.image in record {
      id = is.id;
      lens = is.lens;
      image = is.image;
      base = is.base;
      ends = is.ends;
      taken = is.taken;
    });
    within = core.within;
    closed = core.closed ∙ (λ i. all_inserted (sym same i) (head_of d.head).start.others);
    segments = core.segments;
    below = core.below;
    real = core.real;
    used = (let lt = core.used in omega arith);
    first = λ test. (let was = first test in record { others = was.others; loaded = was.loaded; units = was.units });
    next = omega arith;
    roll = record {
      image = opening_is d.config.master n has;
      lists = ap (λ (m : Start). m.others) (start_is d.config.master n has) ∙ lists;
      within = new_within few;
      newer = (let lt = core.used in omega arith);
      used = omega arith;
    };
    pass = passes;
    named = named_then;
    replicas_few = core.replicas_few;
    waiting = core.waiting;
    digest = core.digest;
    listed = (let count = ap length (ids_listed n) ∙ length-append n.others (n.id ∷ []) in omega arith);
    failed = (let all = core.failed in record { few = all.few; there = all.there; apart = all.apart; two = all.two });
    whole = λ is. core.whole (calm is);
    failover = failover;
    abandoned = λ is. core.abandoned (calm is);
    budget = budget;
    legal = core.legal;
    index = (let all = index_again d core e.head d.closed grow valid core.segments in
        record { kept = all.kept; lies = all.lies; safe = core.index.safe });
  }

  -- ---- what is counted of segments

  -- the new head's image begins without objects and tombstones
  stays_or_begins : (s : ℕ) → StaysOrBegins (images_of d s) (images_of e s)
  stays_or_begins s = go (d.head.id == s) refl (n.id == s) refl where
    go : (b : Bool) → (d.head.id == s) ≡ b → (c : Bool) → (n.id == s) ≡ c
        → StaysOrBegins (images_of d s) (images_of e s)
    go true own_it c there = inl (rw own_it refl)
    go false other true there =
        let gone : segment_of d.closed s ≡ None = ap (segment_of d.closed) (sym (eqb-true n.id s there)) ∙ no_new in
        let was : images_of d s ≡ [] = rw (other, none, gone) refl in
        let image : images_of e s ≡ roll.image = rw (other, there) refl in
        inr (was, ap (λ (es : List Entry). filter is_data es) image)
    go false other false there = inl (rw (other, there, none) refl)

  pub tallied_then : (rows : List Tally) → AreTallied d rows → AreTallied (rolls_to d n closed o fo ps) rows
  tallied_then rows right =
      tallied_begun d e rows refl stays_or_begins (λ s t m. same_below t.segment (core.named s t m)) right
