-- The new head of a failover is made: the log, the homes and memory are those of a roll that begins.
use Rattle.std.proofs.Common.{◌≡◌, ◌≤◌, ◌<◌, ◌+◌, ◌⊎◌, ℕ, suc, inl, inr, Bool, true, false, List, [], ◌∷◌, length}
use Rattle.std.proofs.Common.{refl, sym, ap, subst, ◌∙◌, arith}
use Rattle.std.specs.Prelude.{Option, Some, None, IfSome, IsSome, ◌==◌, if◌then◌else◌}
use Rattle.std.specs.List.{AllByRecursion}
use Rattle.std.specs.Option.{option_map}
use Rattle.std.proofs.lemmas.Bool.{eqb-true}
use Rattle.std.proofs.lemmas.Option.{same_Some}
use Rattle.master_core.specs.cleaner.declared.pass.Pass.{Pass}
use Rattle.master_core.specs.cleaner.Passes.{images_in}
use Rattle.entry.specs.declared.key.Key.{Key}
use Rattle.entry.specs.declared.entry.Entry.{Entry}
use Rattle.entry.specs.Bag.{IsAmong}
use Rattle.entry.specs.Text.{IsSegment, text_of}
use Rattle.places.specs.declared.place.Place.{Place}
use Rattle.images.specs.Sorted.{segment_of}
use Rattle.log_head.specs.Head.{IsLagging}
use Rattle.log_head.specs.Log.{head_of, start_of, HasLens}
use Rattle.log_head.specs.Steps.{lone_start, start_after}
use Rattle.log_head.proofs.RollLog.{start_is, start_after_has}
use Rattle.log_head.proofs.Rolls.{rolls}
use Rattle.log_head.specs.log_laws.Heads.{Start, digest_for, lens_next, start_entries}
use Rattle.log_head.specs.log_laws.Ids.{has as has_id, without}
use Rattle.master_core.specs.log_laws.Intact.{IsCommit}
use Rattle.master_core.specs.log_laws.Memory.{Place as EntryPlace}
use Rattle.master_core.specs.log_laws.Data.{bare, front_entries, Mends, Opens}
use Rattle.master_core.specs.log_laws.Steps.{rolling, next_start, len_now}
use Rattle.master_core.specs.log_bytes.Text.{IsWholeText}
use Rattle.master_core.specs.log_memory.Memory.{FailMemory}
use Rattle.master_core.specs.log_memory.Steps.{rolled}
use Rattle.master_core.specs.master_failover.declared.push.Push.TheVariants as push
use Rattle.master_core.specs.master_failover.Mending.{IsNextMend, turned_data, turn_roll}
use Rattle.master_core.proofs.master_failover.Changed.{own}
use Rattle.master_core.proofs.master_rolls.RollLaws.{next_is, next_id, is_commit}
use Rattle.master_core.specs.master_state.declared.failover.Failover.{Failover}
use Rattle.master_core.specs.master_state.declared.failover.Part.TheVariants as part
use Rattle.master_core.specs.master_state.declared.ledger.Posting.TheVariants as posting
use Rattle.master_core.specs.master_state.Budget.{victims_of, survivors_of, is_ready}
use Rattle.master_core.specs.master_state.Data.{MasterData}
use Rattle.master_core.specs.master_state.Invariant.{IsCore, IsFirst, IsOpenPass}
use Rattle.master_core.specs.master_state.Ledger.{took_in}
use Rattle.master_core.specs.master_state.Log.{log_of, memory_of, state_now, image_of, images_of, find, entry_place}
use Rattle.master_core.specs.master_state.Steps.{listed_in, start_now, next_now}
use Rattle.master_core.proofs.master_state.Beginning.{lone_has}
use Rattle.master_core.proofs.master_state.Finding.{each_of, index_of}
use Rattle.master_core.proofs.master_state.Imaging.{same_id, rolled_own, rolled_other, rolled_grow}
use Rattle.master_core.proofs.master_state.Indexing.{Grow, found_grown}
use Rattle.master_core.proofs.master_state.LogIds.{no_segment, no_next, no_head}
use Rattle.master.specs.Placed.{IsPlaced}
use Rattle.master.proofs.InForce.{start_real}
use Rattle.master.proofs.MendOps.{at_part, as_part, is_at}
use Rattle.master.proofs.Models.{IsModel, LeavesPass, is_model}
use Rattle.master.proofs.Placements.{not_begun, closed_used}
use Rattle.master.proofs.Rolled.{same_victims, same_survivors, same_rest, committing}
use Rattle.master.proofs.Victims.{victim_below, never_both}

-- A Turn that is next, of a master that is well.
pub record MayTurnNow (d : MasterData) : Type 0 where
  pub core : IsCore d
  pub placed : IsPlaced d
  pub next : IsNextMend d push.Turn
  pub later : IsCore (turned_data d)

-- A roll begins to the new head, which is the one that the log's model says.
pub record IsTurn (d : MasterData) : Type 0 where
  pub log : log_of (turned_data d) ≡ rolling (log_of d) (next_now d) (Opens (next_now d))
  pub placed : IsPlaced (turned_data d)
  pub model : IsModel (turned_data d) (rolled (log_of d) (memory_of d) (next_now d) (is_ready d))
  pub mode : (log_of d).mode ≡ Mends
  -- without a head nothing was appended
  pub none : (log_of d).head.start.id ≡ 0
      → ((log_of d).head.start.others ≡ []) × (front_entries (log_of d).head (length (log_of d).head.units) ≡ [])
  -- a commit is of a head that there is
  pub real : is_ready d ≡ true → (log_of d).head.start.id ≡ 0 → ⊥
  pub commit : is_ready d ≡ true → IsCommit (log_of d).head.start (memory_of d).pass (next_now d)
  pub whole : IsWholeText d.config.master (next_now d).id (bare (next_now d))

-- ---- a head is in force

module _ (d0 : MasterData) (f : Failover) (may : MayTurnNow (at_part d0 None (as_part f part.Mends false))) where
  abbrev d : MasterData
  d = at_part d0 None (as_part f part.Mends false)

  abbrev e : MasterData
  e = turned_data d

  abbrev n : Start
  n = next_now d

  has : HasLens (start_now d)
  has = go (is_ready d) where
    go : (t : Bool) → HasLens
        (if t then start_after d.head (victims_of d.pass) (listed_in d.closed (survivors_of d.pass)) d.next d.safe
        else start_after d.head [] [] d.next d.safe)
    go true = start_after_has d.head (victims_of d.pass) (listed_in d.closed (survivors_of d.pass)) d.next d.safe
    go false = start_after_has d.head [] [] d.next d.safe

  -- it begins with what the log says
  start_then : start_of (turn_roll d) ≡ next_now d
  start_then = start_is d.config.master (start_now d) has ∙ next_is d may.core refl

  n_id : (next_now d).id ≡ d0.next
  n_id = next_id d may.core refl

  roll_id : (turn_roll d).id ≡ d0.next
  roll_id = ap (λ (m : Start). m.id) (next_is d may.core refl) ∙ n_id

  plus : d0.next + 1 ≡ suc d0.next
  plus = omega arith

  roll_log : log_of (turned_data d) ≡ rolling (log_of d) (next_now d) (Opens (next_now d))
  roll_log = λ i. record (log_of d) {
    mode = Opens (start_then i);
    next = plus i;
    took = λ s. if s == sym n_id i then [] else took_in d0.ledger s;
  }

  -- ---- the homes

  none_lags : (false ≡ true) ⊎ (IsLagging (length d0.head.units) d0.head.taken None
      × (length d0.head.taken ≡ d0.config.replicas))
      → AllByRecursion (λ (k : ℕ). length d0.head.units ≤ k) d0.head.taken
  none_lags (inl headless) = absurd (cc)
  none_lags (inr all) = all.0

  roll_placed : IsPlaced (turned_data d)
  roll_placed =
      let p = may.placed in
      let real = may.core.real in
      let used = may.core.used in
      record {
        none = λ is. absurd (cc);
        head = ap (without d0.failed) (not_begun d may.core d0.head.id used) ∙ p.head;
        counts = p.counts;
        unopened = λ is. absurd (cc);
        whole = λ is. none_lags may.next.1;
        new = ap (λ (s : ℕ). without d0.failed (took_in (posting.Began d0.next ∷ d0.ledger) s)) roll_id
            ∙ (let own = same_id d0.next in rw own refl);
        shut = p.shut;
        closed = λ x among. ap (without d0.failed) (not_begun d may.core x.id (closed_used d may.core x among))
            ∙ p.closed x among;
      }

  -- ---- images

  others_same : (s : ℕ) → (d0.next ≡ s → ⊥) → images_of e s ≡ images_of d s
  others_same s other = rolled_other d.head d.closed (turn_roll d) s refl (λ same. other (sym roll_id ∙ same))

  new_image : images_of e d0.next ≡ start_entries d0.config.master n
  new_image =
      ap (images_of e) (sym roll_id)
      ∙ rolled_own d.head d.closed (turn_roll d)
      (λ same. (let lt = may.core.used in let own = roll_id in omega (arith, lt, own, same)))
      ∙ ap (start_entries d0.config.master) (next_is d may.core refl)

  abbrev then_memory : FailMemory
  then_memory = rolled (log_of d) (memory_of d) n (is_ready d)

  same_images : (s : ℕ) → images_of e s ≡ (rolled (log_of d) (memory_of d) (next_now d) (is_ready d)).images s
  same_images s = at_segment (s == n.id) refl where
    at_segment : (t : Bool) → (s == n.id) ≡ t → images_of e s ≡ then_memory.images s
    at_segment true here = rw here (ap (images_of e) (eqb-true s n.id here ∙ n_id) ∙ new_image)
    at_segment false away =
        rw away (others_same s (λ same. (
        let yes : (s == n.id) ≡ true = ap (λ (z : ℕ). s == z) (n_id ∙ same) ∙ same_id s in cc)))

  -- ---- the open pass and the index

  leaves : LeavesPass d e
  leaves = record {
    pass = λ i. record {
      victims = same_victims d0.config.replicas d0.closed d0.pass i;
      survivors = same_survivors d0.config.replicas d0.closed d0.pass i;
    };
    waiting = refl;
    rest = same_rest d0.config.replicas d0.closed (images_in d0.closed) d0.pass;
    victims = λ s victim.
        others_same s (λ own. (let lt = victim_below d may.core s victim in let used = may.core.used in
        omega (arith, own, lt, used)));
  }

  grow : Grow (images_of d) (images_of e)
  grow =
      rolled_grow d.head d.closed (turn_roll d) refl
      (ap (segment_of d.closed) roll_id ∙ no_segment d.closed d.next (no_next d may.core))

  finds_same : (k : Key) → find e k ≡ find d k
  finds_same k =
      found_grown (images_of d) (images_of e) grow (each_of e may.later) d.index (state_now d).contents
      (index_of d may.core) k

  behind : (k : Key) (q : Place) (x : EntryPlace) → find e k ≡ Some q → (memory_of d).index k ≡ Some x
      → IsAmong q.segment (victims_of d.pass) → IsAmong x.segment (survivors_of d.pass) → ⊥
  behind k q x found indexed victim survivor =
      let both : entry_place d q ≡ x =
      same_Some (entry_place d q) x (sym (ap (option_map (entry_place d)) (sym (finds_same k) ∙ found)) ∙ indexed) in
      let segment : q.segment ≡ x.segment = ap (λ (y : EntryPlace). y.segment) both in
      never_both d may.core q.segment victim (subst (λ (z : ℕ). IsAmong z (survivors_of d.pass)) (sym segment) survivor)

  roll_model : IsModel (turned_data d) (rolled (log_of d) (memory_of d) (next_now d) (is_ready d))
  roll_model = is_model d e leaves then_memory.images (memory_of d).index (is_ready d)
      (committing d0.config.replicas d0.closed d0.pass) (λ s some. same_images s) behind

  roll_whole : IsWholeText d0.config.master (next_now d).id (bare (next_now d))
  roll_whole =
      let roll = rolls e.head (turn_roll d) may.later.head refl in
      let same = ap (start_entries d0.config.master) (next_is d may.core refl) in
      record {
        segment_is = subst IsSegment same roll.segment;
        limit = subst (λ (es : List Entry). length (text_of es) ≤ 8388608) same roll.limit;
      }

  pub roll_turn : IsTurn (at_part d0 None (as_part f part.Mends false))
  roll_turn = record {
    log = roll_log;
    placed = roll_placed;
    model = roll_model;
    mode = refl;
    none = λ is. absurd (start_real d may.core is);
    real = λ ready is. start_real d may.core is;
    commit = is_commit d may.core refl;
    whole = roll_whole;
  }

-- ---- the new head takes the place of the first

abbrev pub alone : MasterData → Failover → MasterData
alone d0 f = record (at_part d0 None (as_part f part.Mends true)) { pass = None }

module _ (d0 : MasterData) (f : Failover) (may : MayTurnNow (alone d0 f)) where
  abbrev first : MasterData
  first = alone d0 f

  abbrev made : MasterData
  made = turned_data first

  abbrev lone : Start
  lone = lone_start d0.next d0.config.format d0.safe

  lens_then : (t : Bool)
      → (if t then Some [] else None) ≡ lens_next (digest_for (record {
        id = 0;
        others = [];
        lens = if t then Some [] else None;
        safe = 1;
      })) (len_now (log_of first)) []
  lens_then true = refl
  lens_then false = refl

  -- it begins with what the log says
  lone_is : lone_start d0.next d0.config.format d0.safe ≡ next_start (log_of first)
  lone_is = λ i. record {
    id = d0.next;
    others = [];
    lens = lens_then (d0.config.format == 2) i;
    safe = may.core.index.safe i;
  }

  lone_then : (head_of made.head).start ≡ next_start (log_of first)
  lone_then = start_is d0.config.master lone (lone_has d0.config.format d0.safe) ∙ lone_is

  first_log : log_of (turned_data first) ≡ rolling (log_of first) (next_now first) (Opens (next_now first))
  first_log =
      let more : d0.next + 1 ≡ suc d0.next = omega arith in
      λ i. record (log_of first) { mode = Opens (lone_then i); next = more i; took = took_in made.ledger }

  -- ---- the homes

  lone_placed : IsPlaced (turned_data first)
  lone_placed =
      let p = may.placed in
      let real = may.core.real in
      let used = may.core.used in
      let own = same_id d0.next in
      record {
        none = λ is. not_begun first may.core 0 (omega (arith, real, used)) ∙ p.none refl;
        head = (rw own refl);
        counts = λ j k at. absurd (cc);
        unopened = p.unopened;
        whole = λ is. absurd (cc);
        new = tt;
        shut = p.shut;
        closed = λ x among. ap (without d0.failed) (not_begun first may.core x.id (closed_used first may.core x among))
            ∙ p.closed x among;
      }

  -- ---- memory

  lone_images : (s : ℕ) → IsSome (image_of made s)
      → images_of made s ≡ (rolled (log_of first) (memory_of first) (next_now first) false).images s
  lone_images s some = go (d0.next == s) refl (s == d0.next) refl (d0.head.id == s) refl some where
    go : (t : Bool) → (d0.next == s) ≡ t → (u : Bool) → (s == d0.next) ≡ u → (v : Bool) → (d0.head.id == s) ≡ v
        → IsSome (image_of made s)
        → images_of made s ≡ (rolled (log_of first) (memory_of first) (next_now first) false).images s
    go true is true there v own some = rw (is, there) (ap (start_entries d0.config.master) lone_is)
    go true is false there v own some = absurd (
        let same = eqb-true d0.next s is in
        let yes : (s == d0.next) ≡ true = ap (λ (z : ℕ). s == z) same ∙ same_id s in cc)
    go false is true there v own some = absurd (
        let same = eqb-true s d0.next there in
        let yes : (d0.next == s) ≡ true = ap (λ (z : ℕ). z == s) (sym same) ∙ same_id s in cc)
    go false is false there true own some = absurd (
        let same = eqb-true d0.head.id s own in
        let none : segment_of d0.closed s ≡ None =
        ap (segment_of d0.closed) (sym same) ∙ no_segment d0.closed d0.head.id (no_head first may.core) in
        let there : IsSome (segment_of d0.closed s) = rw is at some in
        let never : IsSome {T = List Entry} None = subst IsSome none there in
        cc)
    go false is false there false own some = rw (is, there, own) refl

  lone_model : IsModel (turned_data first) (rolled (log_of first) (memory_of first) (next_now first) false)
  lone_model = record {
    pass = refl;
    images = lone_images;
    behind = λ k q r found indexed victim. absurd victim;
    carried = λ p t victim. absurd victim;
    done = λ none. refl;
    commits = refl;
    waiting = λ w waits. waits;
  }

  lone_whole : IsWholeText d0.config.master (next_now first).id (bare (next_now first))
  lone_whole =
      let head = may.later.head in
      let same = ap (start_entries d0.config.master) lone_is in
      record {
        segment_is = subst IsSegment same head.segment;
        limit = subst (λ (es : List Entry). length (text_of es) ≤ 8388608) same head.limit;
      }

  pub lone_turn : IsTurn (alone d0 f)
  lone_turn = record {
    log = first_log;
    placed = lone_placed;
    model = lone_model;
    mode = refl;
    none = λ is. (refl, refl);
    real = λ ready. absurd (cc);
    commit = λ ready. absurd (cc);
    whole = lone_whole;
  }

-- ---- either

-- without a head no pass is open
pub no_pass : (d : MasterData) → IsCore d → IsFirst d.head → d.pass ≡ None
no_pass d core first = go d.pass core.pass where
  go : (o : Option Pass) → IfSome o (IsOpenPass d) → o ≡ None
  go None all = refl
  go (Some p) all = absurd (none_older p.victims all.victims.some (subst (λ (ids : List ℕ).
      AllByRecursion (λ (s : ℕ). has_id ids s ≡ true) p.victims) first.others all.victims.older))
    where
      none_older : (ids : List ℕ) → 0 < length ids
          → AllByRecursion (λ (s : ℕ). has_id [] s ≡ true) ids → ⊥
      none_older [] some all = omega arith
      none_older (s ∷ ids) some all = (let never = all.0 in cc)

pub turns : (d : MasterData) → MayTurnNow d → IsTurn d
turns d may = go failing.is_first refl where
  failing : Failover
  failing = may.next.0.0

  rolls_none : d.head.roll ≡ None
  rolls_none = ((own d may.core failing may.next.0.1).mends may.next.0.2).0

  go : (t : Bool) → failing.is_first ≡ t → IsTurn d
  go false is =
      let path = is_at d None failing part.Mends false rolls_none may.next.0.1 may.next.0.2 is in
      subst IsTurn (sym path) (roll_turn d failing (subst MayTurnNow path may))
  go true is =
      let path = is_at d None failing part.Mends true rolls_none may.next.0.1 may.next.0.2 is in
      let there = subst MayTurnNow path may in
      let none = no_pass (at_part d None (as_part failing part.Mends true)) there.core (there.core.first refl) in
      let further : at_part d None (as_part failing part.Mends true) ≡ alone d failing =
      λ i. record (at_part d None (as_part failing part.Mends true)) { pass = none i } in
      subst IsTurn (sym (path ∙ further)) (lone_turn d failing (subst MayTurnNow further there))
