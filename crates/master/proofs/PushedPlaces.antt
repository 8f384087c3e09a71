-- A master's segments stay on their homes through the ops of its head.
use Rattle.std.proofs.Common.{◌≡◌, ℕ, zero, suc, ◌⊎◌, ◌<◌, ◌≤◌, inl, inr, Bool, true, false, List, [], ◌∷◌, ◌++◌}
use Rattle.std.proofs.Common.{length, Some, refl, sym, ap, subst, ◌∙◌, arith}
use Rattle.std.specs.Prelude.{Option, None, IfSome, slice_get, slice_set, ◌==◌, ◌||◌, nat_lt, if◌then◌else◌}
use Rattle.std.specs.Option.{option_map_or}
use Rattle.std.proofs.lemmas.List.{length-set}
use Rattle.std.proofs.lemmas.Option.{same_Some, slice_get_within}
use Rattle.master_core.specs.cleaner.declared.pass.Pass.{Pass}
use Rattle.entry.specs.Bag.{IsAmong}
use Rattle.entry.proofs.ListLemmas.{all_from_among}
use Rattle.images.specs.Image.{Image, closed_image}
use Rattle.images.specs.Sorted.{added}
use Rattle.log_head.specs.declared.head.Roll.{Roll}
use Rattle.log_head.specs.declared.next.Next.{Next}
use Rattle.log_head.specs.declared.next.Next.TheVariants as next
use Rattle.log_head.specs.Log.{head_of}
use Rattle.log_head.specs.Next.{IsNextPush, segment_of}
use Rattle.log_head.specs.Steps.{with_all_taken, with_new_replica}
use Rattle.log_head.proofs.Rolls.{rolls, zeros_length}
use Rattle.log_head.specs.log_laws.Heads.{ids_of}
use Rattle.log_head.specs.log_laws.Ids.{has, without}
use Rattle.log_head.specs.log_laws.HeadSteps.{no_units}
use Rattle.entry.proofs.BagLemmas.{among_last}
use Rattle.master_core.proofs.log_laws.KeptEntries.{has_is}
use Rattle.master_core.specs.log_laws.Steps.{with_taken}
use Rattle.master_core.specs.master_state.declared.ledger.Posting.{Posting}
use Rattle.master_core.specs.master_state.declared.ledger.Posting.TheVariants as posting
use Rattle.master_core.specs.master_state.Budget.{survivors_of}
use Rattle.master_core.specs.master_state.Data.{MasterData}
use Rattle.master_core.specs.master_state.Images.{staying, all_trimmed}
use Rattle.master_core.specs.master_state.Invariant.{IsOpenPass, IsCore}
use Rattle.master_core.specs.master_state.Ledger.{took_in, counts_in, shut_in, ended_with}
use Rattle.master_core.specs.master_state.Log.{home, placed, is_opened, is_headless}
use Rattle.master_core.specs.master_state.Steps.{pass_ended, roll_ended, backup_of, pushed_data}
use Rattle.master_core.proofs.master_state.Imaging.{ids_in, same_id, other_id}
use Rattle.master_core.proofs.master_state.LogIds.{no_head, none_above, not_closed}
use Rattle.master_core.proofs.master_state.Rising.{has_not}
use Rattle.master.specs.Placed.{closed_now, holders, IsPlaced}
use Rattle.master.proofs.Counting.{AreUnfailed}
use Rattle.master.proofs.InForce.{headed, headless}
use Rattle.master.proofs.NextOps.{every, opened_is, closed_of, closed_calm, roll_of, segment_new, no_roll, unopened}
use Rattle.master.proofs.NextOps.{never_opens, more_taken, old_posts, closed_one, closed_at, old_is}
use Rattle.master.proofs.Placing.{core_left, core_apart, left_more}

-- ---- lists

-- one of them was set
pub set_there : (ns : List ℕ) (j n i k : ℕ) → slice_get (slice_set ns j n) i ≡ Some k
    → ((i ≡ j) × (k ≡ n)) ⊎ ((i ≡ j → ⊥) × (slice_get ns i ≡ Some k))
set_there [] j n i k is = absurd (cc)
set_there (m ∷ ns) zero n zero k is = inl (refl, sym (same_Some n k is))
set_there (m ∷ ns) zero n (suc i) k is = inr ((λ same. omega arith), is)
set_there (m ∷ ns) (suc j) n zero k is = inr ((λ same. omega arith), is)
set_there (m ∷ ns) (suc j) n (suc i) k is = elim (set_there ns j n i k is)
    as (λ _. ((suc i ≡ suc j) × (k ≡ n)) ⊎ ((suc i ≡ suc j → ⊥) × (slice_get (m ∷ ns) (suc i) ≡ Some k))) [
      | inl same ↦ inl (ap suc same.0, same.1)
      | inr other ↦ inr ((λ same. other.0 (omega arith)), other.1)
    ]

-- what isn't left out
pub not_without : (victims ids : List ℕ) (s : ℕ) → IsAmong s (without victims ids)
    → (IsAmong s ids) × (has victims s ≡ false)
not_without victims [] s m = absurd m
not_without victims (z ∷ ids) s m = go (has victims z) refl m (not_without victims ids s) where
  go : (t : Bool) → has victims z ≡ t → IsAmong s (if t then without victims ids else z ∷ without victims ids)
      → (IsAmong s (without victims ids) → (IsAmong s ids) × (has victims s ≡ false))
      → (IsAmong s (z ∷ ids)) × (has victims s ≡ false)
  go true is m later = (inr (later m).0, (later m).1)
  go false is (inl same) later = (inl same, ap (has victims) (sym same) ∙ is)
  go false is (inr m) later = (inr (later m).0, (later m).1)

none_of : (n j k : ℕ) → slice_get (no_units n) j ≡ Some k → 0 ≡ k
none_of zero j k at = absurd (cc)
none_of (suc n) zero k at = same_Some 0 k at
none_of (suc n) (suc j) k at = none_of n j k at

-- ---- closed segments

-- an image's id is one of theirs
pub id_among : (cs : List Image) (image : Image) → IsAmong image cs → has (ids_in cs) image.id ≡ true
id_among [] image m = absurd m
id_among (c ∷ cs) image (inl same) =
    let own : (c.id == image.id) ≡ true = ap (λ (x : Image). c.id == x.id) (sym same) ∙ same_id c.id in
    rw own refl
id_among (c ∷ cs) image (inr m) = go (c.id == image.id) (id_among cs image m) where
  go : (t : Bool) → has (ids_in cs) image.id ≡ true → (t || has (ids_in cs) image.id) ≡ true
  go true later = refl
  go false later = later

-- once one is added, each is that one or was there
pub among_added : (x : Image) (cs : List Image) (image : Image) → IsAmong image (added x cs)
    → (x ≡ image) ⊎ IsAmong image cs
among_added x [] image (inl same) = inl same
among_added x [] image (inr none) = absurd none
among_added x (c ∷ cs) image m = go (nat_lt x.id c.id) refl m (among_added x cs image) where
  go : (t : Bool) → nat_lt x.id c.id ≡ t → IsAmong image (if t then x ∷ c ∷ cs else c ∷ added x cs)
      → (IsAmong image (added x cs) → (x ≡ image) ⊎ IsAmong image cs)
      → (x ≡ image) ⊎ IsAmong image (c ∷ cs)
  go true is (inl same) later = inl same
  go true is (inr m) later = inr m
  go false is (inl same) later = inr (inl same)
  go false is (inr m) later = elim (later m) as (λ _. (x ≡ image) ⊎ IsAmong image (c ∷ cs)) [
    | inl same ↦ inl same
    | inr old ↦ inr (inr old)
  ]

-- what holds of the ids and replicas of all holds of those that stay, and of those that take no more appends
module _ (P : ℕ → ℕ → Type 0) where
  abbrev AllHave : List Image → Type 0
  AllHave cs = (image : Image) → IsAmong image cs → P image.id image.replicas

  pub staying_have : (victims : List ℕ) (cs : List Image) → AllHave cs → AllHave (staying victims cs)
  staying_have victims [] all image m = absurd m
  staying_have victims (c ∷ cs) all image m =
      go (has victims c.id) refl m (staying_have victims cs (λ x old. all x (inr old)) image)
    where
      go : (t : Bool) → has victims c.id ≡ t → IsAmong image (staying victims (c ∷ cs))
          → (IsAmong image (staying victims cs) → P image.id image.replicas) → P image.id image.replicas
      go true is m later = later (rw is at m)
      go false is m later =
          let either : (c ≡ image) ⊎ IsAmong image (staying victims cs) = rw is at m in
          elim either as (λ _. P image.id image.replicas) [
            | inl same ↦ all image (inl same)
            | inr rest ↦ later rest
          ]

  pub trimmed_have : (ids : List ℕ) (cs : List Image) → AllHave cs → AllHave (all_trimmed ids cs)
  trimmed_have ids [] all image m = absurd m
  trimmed_have ids (c ∷ cs) all image m =
      go (has ids c.id) refl m (trimmed_have ids cs (λ x old. all x (inr old)) image)
    where
      go : (t : Bool) → has ids c.id ≡ t → IsAmong image (all_trimmed ids (c ∷ cs))
          → (IsAmong image (all_trimmed ids cs) → P image.id image.replicas) → P image.id image.replicas
      go true is m later =
          let either : (record c { is_whole = false; room = 0 } ≡ image) ⊎ IsAmong image (all_trimmed ids cs) =
          rw is at m in
          elim either as (λ _. P image.id image.replicas) [
            | inl same ↦ subst (λ (x : Image). P x.id x.replicas) same (all c (inl refl))
            | inr rest ↦ later rest
          ]
      go false is m later =
          let either : (c ≡ image) ⊎ IsAmong image (all_trimmed ids cs) = rw is at m in
          elim either as (λ _. P image.id image.replicas) [
            | inl same ↦ all image (inl same)
            | inr rest ↦ later rest
          ]

-- ---- the ledger

took_ended : (t : Bool) (ps : List Posting) → took_in (ended_with t ps) ≡ took_in ps
took_ended true ps = refl
took_ended false ps = refl

pub taken_other : (took : ℕ → List ℕ) (id b s : ℕ) → (s ≡ id → ⊥) → with_taken took id b s ≡ took s
taken_other took id b s other = let away = other_id s id other in rw away refl

pub taken_own : (took : ℕ → List ℕ) (id b : ℕ) → with_taken took id b id ≡ b ∷ took id
taken_own took id b = let own = same_id id in rw own refl

-- ---- which ids are closed

module _ (d : MasterData) (core : IsCore d) where
  -- a survivor is neither the head nor a new one
  survivor_of : (o : Option Pass) → d.pass ≡ o → IfSome o (IsOpenPass d) → (s : ℕ) → IsAmong s (survivors_of o)
      → (s ≡ d.head.id → ⊥) × ((r : Roll) → d.head.roll ≡ Some r → s ≡ r.id → ⊥)
  survivor_of None is all s among = absurd among
  survivor_of (Some p) is all s among =
      let one = all.survivors.each s among in (
        λ same. (
            let start = (head_of d.head).start in
            let own = has_is (ids_of start) start.id (among_last start.others start.id) in
            let never : true ≡ false = sym own ∙ ap (has (ids_of start)) (core.image.id ∙ sym same) ∙ one.outside in
            cc),
        λ r roll same. (
            let not_new = subst (λ (x : Option Roll). IfSome x (λ (q : Roll). (q.id == s) ≡ false)) roll one.not_new in
            let never : true ≡ false = sym (same_id s) ∙ ap (λ (z : ℕ). z == s) same ∙ not_new in
            cc),
      )

  pub survivor_apart : (s : ℕ) → IsAmong s (survivors_of d.pass)
      → (s ≡ d.head.id → ⊥) × ((r : Roll) → d.head.roll ≡ Some r → s ≡ r.id → ⊥)
  survivor_apart = survivor_of d.pass refl core.pass

  -- a closed segment is neither the head nor the new one
  pub closed_apart : (image : Image) → IsAmong image d.closed → image.id ≡ d.head.id → ⊥
  closed_apart image m same =
      let never : true ≡ false =
      sym (id_among d.closed image m) ∙ ap (has (ids_in d.closed)) same ∙ no_head d core in
      cc

  pub closed_not_new : (r : Roll) → d.head.roll ≡ Some r → (image : Image) → IsAmong image d.closed
      → image.id ≡ r.id → ⊥
  closed_not_new r is image m same =
      let newer = (roll_of d core r is).newer in
      let none = not_closed d core r.id (none_above d core r.id (omega arith))
      (has_not (λ (z : ℕ). z ≡ r.id → ⊥) (survivors_of d.pass) r.id
      (all_from_among (λ (z : ℕ). z ≡ r.id → ⊥) (survivors_of d.pass) (λ z among. (survivor_apart z among).1 r is))
      (λ never. never refl)) in
      let never : true ≡ false = sym (id_among d.closed image m) ∙ ap (has (ids_in d.closed)) same ∙ none in
      cc

-- ---- the pushes

module _ (d : MasterData) (core : IsCore d) (placed_now : IsPlaced d) (calm : d.failover ≡ None)
    (unfailed : AreUnfailed d) where
  -- ---- a replica of a first head

  module _ (j : ℕ) (waits : IsNextPush d.head (Some (next.OpenFirst j)))
      (later : IsCore (pushed_data d (next.OpenFirst j))) where
    abbrev first_backup : ℕ
    first_backup = home d.config d.failed d.head.id j

    abbrev posts : List Posting
    posts = ended_with (suc j == d.config.replicas) (posting.Took d.head.id first_backup ∷ d.ledger)

    took_first : took_in posts ≡ with_taken (took_in d.ledger) d.head.id first_backup
    took_first = took_ended (suc j == d.config.replicas) (posting.Took d.head.id first_backup ∷ d.ledger)

    closed_first : is_opened d.head ≡ false
    closed_first = unopened d core placed_now calm unfailed j waits

    none_rolls : d.head.roll ≡ None
    none_rolls = no_roll d core placed_now calm unfailed j waits

    first_works : has d.failed first_backup ≡ false
    first_works = core_left d core d.head.id j (let lt = waits.1 in let same = core.replicas in omega arith)

    no_counts : (t : Bool) (b : ℕ) → counts_in (ended_with t (posting.Took d.head.id first_backup ∷ d.ledger)) b ≡ 0
    no_counts true b = refl
    no_counts false b = placed_now.unopened (headless d calm closed_first) b

    shut_first : (t : Bool)
        → without d.failed (shut_in (ended_with t (posting.Took d.head.id first_backup ∷ d.ledger)))
        ≡ placed d.config d.failed d.head.id (closed_now d)
    shut_first true =
        sym (ap (placed d.config d.failed d.head.id) (closed_calm d calm ∙ ap closed_of none_rolls))
    shut_first false = placed_now.shut

    first_placed : IsPlaced (pushed_data d (next.OpenFirst j))
    first_placed = record {
      none = λ is. ap (λ (f : ℕ → List ℕ). f 0) took_first
          ∙ taken_other (took_in d.ledger) d.head.id first_backup 0 (λ same. let real = core.real in omega arith)
          ∙ placed_now.none (headless d calm closed_first);
      head = ap (λ (f : ℕ → List ℕ). without d.failed (f d.head.id)) took_first
          ∙ ap (without d.failed) (taken_own (took_in d.ledger) d.head.id first_backup)
          ∙ left_more d.failed first_backup (took_in d.ledger d.head.id) first_works
          ∙ (λ i. home d.config d.failed d.head.id (waits.0 i) ∷ placed_now.head i)
          ∙ sym (ap (placed d.config d.failed d.head.id) (more_taken d core placed_now calm unfailed j waits));
      counts = λ i k at. no_counts (suc j == d.config.replicas) (home d.config d.failed d.head.id i)
          ∙ (let most = every (λ (n : ℕ). n ≤ length d.head.units) (d.head.taken ++ 0 ∷ []) i k
          later.head.taken at in
          let none = ap length (core.first (headless d calm closed_first)).units in omega arith);
      unopened = λ is b. no_counts (suc j == d.config.replicas) b;
      whole = λ is. absurd (never_opens d.failover calm is);
      new = subst (λ (o : Option Roll). IfSome o (λ (r : Roll).
          without d.failed (took_in posts r.id) ≡ placed d.config d.failed r.id r.opened))
          (sym none_rolls) tt;
      shut = shut_first (suc j == d.config.replicas);
      closed = λ image m. ap (λ (f : ℕ → List ℕ). without d.failed (f image.id)) took_first
          ∙ ap (without d.failed)
          (taken_other (took_in d.ledger) d.head.id first_backup image.id (closed_apart d core image m))
          ∙ placed_now.closed image m;
    }

  -- ---- a head that is open

  module _ (all : length d.head.taken ≡ d.head.replicas) where
    replicas : length d.head.taken ≡ d.config.replicas
    replicas = all ∙ core.replicas

    extend_placed : (j : ℕ) → IsNextPush d.head (Some (next.Extend j)) → IsPlaced (pushed_data d (next.Extend j))
    extend_placed j waits = record {
      none = λ is. absurd (headed_then is);
      head = placed_now.head
          ∙ sym (ap (placed d.config d.failed d.head.id) (length-set d.head.taken j (length d.head.units)));
      counts = counts;
      unopened = λ is. absurd (headed_then is);
      whole = λ is. absurd (never_opens d.failover calm is);
      new = placed_now.new;
      shut = placed_now.shut;
      closed = placed_now.closed;
    } where
      headed_then : is_headless (pushed_data d (next.Extend j)) ≡ true → ⊥
      headed_then is =
          let still = opened_is (with_all_taken d.head j) (length-set d.head.taken j (length d.head.units) ∙ all) in
          let never : true ≡ false = sym is ∙ headed (pushed_data d (next.Extend j)) calm still in cc

      counts : (i k : ℕ) → slice_get (slice_set d.head.taken j (length d.head.units)) i ≡ Some k
          → counts_in (posting.Has (home d.config d.failed d.head.id j) (length d.head.units) ∷ d.ledger)
          (home d.config d.failed d.head.id i) ≡ k
      counts i k at = elim (set_there d.head.taken j (length d.head.units) i k at)
          as (λ _. counts_in (posting.Has (home d.config d.failed d.head.id j) (length d.head.units) ∷ d.ledger)
          (home d.config d.failed d.head.id i) ≡ k) [
            | inl same ↦ (
                let own : (home d.config d.failed d.head.id i == home d.config d.failed d.head.id j) ≡ true =
                ap (λ (x : ℕ). home d.config d.failed d.head.id x == home d.config d.failed d.head.id j) same.0
                ∙ same_id (home d.config d.failed d.head.id j) in
                rw own (sym same.1))
            | inr other ↦ (
                let within = slice_get_within d.head.taken i k other.1 in
                let lag = slice_get_within d.head.taken j waits.1.0 waits.1.1 in
                let count = replicas in
                let away : (home d.config d.failed d.head.id i == home d.config d.failed d.head.id j) ≡ false =
                other_id (home d.config d.failed d.head.id i) (home d.config d.failed d.head.id j)
                (core_apart d core d.head.id i j (omega (arith, within, count))
                (omega (arith, lag, count)) other.0) in
                rw away (placed_now.counts i k other.1))
          ]

    module _ (r : Roll) (is : d.head.roll ≡ Some r) where
      new_took : holders d r.id ≡ placed d.config d.failed r.id r.opened
      new_took = subst (λ (o : Option Roll). IfSome o (λ (q : Roll).
          holders d q.id ≡ placed d.config d.failed q.id q.opened)) is placed_now.new

      newer : d.head.id < r.id
      newer = (roll_of d core r is).newer

      closed_count : closed_now d ≡ r.closed
      closed_count = closed_calm d calm ∙ ap closed_of is

      -- ---- a replica of the new head is opened

      abbrev opened_new : ℕ → ℕ → MasterData
      opened_new segment b = record d {
        head = with_new_replica d.head r;
        ledger = posting.Took segment b ∷ d.ledger;
      }

      opened_placed : (segment b : ℕ) → segment ≡ r.id → b ≡ home d.config d.failed r.id r.opened
          → r.opened < d.config.replicas → IsPlaced (opened_new segment b)
      opened_placed segment b own at lt = record {
        none = λ is. apart 0 (λ same. let more = newer in omega (arith, same, more)) ∙ placed_now.none is;
        head = ap (without d.failed) (apart d.head.id (λ same. let more = newer in omega (arith, same, more)))
            ∙ placed_now.head;
        counts = placed_now.counts;
        unopened = placed_now.unopened;
        whole = placed_now.whole;
        new = ap (without d.failed) (ap (λ (z : ℕ). with_taken (took_in d.ledger) z b r.id) own
            ∙ taken_own (took_in d.ledger) r.id b)
            ∙ left_more d.failed b (took_in d.ledger r.id)
            (ap (has d.failed) at ∙ core_left d core r.id r.opened lt)
            ∙ (λ i. at i ∷ new_took i);
        shut = placed_now.shut ∙ ap (placed d.config d.failed d.head.id) closed_count;
        closed = λ image m. ap (without d.failed) (apart image.id (closed_not_new d core r is image m))
            ∙ placed_now.closed image m;
      } where
        apart : (s : ℕ) → (s ≡ r.id → ⊥) → with_taken (took_in d.ledger) segment b s ≡ took_in d.ledger s
        apart s other = taken_other (took_in d.ledger) segment b s (λ same. other (same ∙ own))

    -- ---- a replica of the old head is closed

    module _ (j : ℕ) (waits : IsNextPush d.head (Some (next.CloseOld j))) where
      few_old : j < d.config.replicas
      few_old = (let at = waits.3 in let lt = (rolls d.head waits.1 core.head waits.2).closed in
          let same = core.replicas in omega arith)

      more_placed : IsPlaced (closed_one d core placed_now calm unfailed all j waits
          (old_posts d core placed_now calm unfailed all j waits) false)
      more_placed = record {
        none = placed_now.none;
        head = placed_now.head;
        counts = placed_now.counts;
        unopened = placed_now.unopened;
        whole = placed_now.whole;
        new = new_took waits.1 waits.2;
        shut = left_more d.failed (home d.config d.failed d.head.id j) (shut_in d.ledger)
            (core_left d core d.head.id j few_old)
            ∙ (λ i. home d.config d.failed d.head.id (waits.3 i)
            ∷ (placed_now.shut ∙ ap (placed d.config d.failed d.head.id) (closed_count waits.1 waits.2)) i);
        closed = placed_now.closed;
      }

      abbrev last_one : MasterData
      last_one = closed_one d core placed_now calm unfailed all j waits
          (posting.Ended ∷ old_posts d core placed_now calm unfailed all j waits) true

      headed_last : is_headless last_one ≡ true → ⊥
      headed_last is =
          let still = opened_is last_one.head (zeros_length d.head.replicas) in
          let never : true ≡ false = sym is ∙ headed last_one calm still in cc

      last_placed : IsPlaced last_one
      last_placed = record {
        none = λ is. absurd (headed_last is);
        head = new_took waits.1 waits.2
            ∙ ap (placed d.config d.failed waits.1.id) (waits.4 ∙ sym (zeros_length d.head.replicas));
        counts = λ i k at. none_of d.head.replicas i k at;
        unopened = λ is b. refl;
        whole = λ is. absurd (never_opens d.failover calm is);
        new = tt;
        shut = sym (ap (placed d.config d.failed waits.1.id) (closed_calm last_one calm));
        closed = λ image m.
            elim (among_added (closed_image d.head.id d.head.image d.config.replicas) d.closed image m)
            as (λ _. holders d image.id ≡ placed d.config d.failed image.id image.replicas) [
              | inl own ↦ subst (λ (x : Image). holders d x.id ≡ placed d.config d.failed x.id x.replicas) own
                  (placed_now.head ∙ ap (placed d.config d.failed d.head.id) replicas)
              | inr old ↦ placed_now.closed image old
            ];
      }

      -- so is what is left when a pass ends with it
      pass_placed : (p : Pass) (t : Bool) → IsPlaced (if t then pass_ended p last_one else last_one)
      pass_placed p true = record {
        none = last_placed.none;
        head = last_placed.head;
        counts = last_placed.counts;
        unopened = last_placed.unopened;
        whole = last_placed.whole;
        new = tt;
        shut = last_placed.shut;
        closed = trimmed_have (λ (id n : ℕ). holders d id ≡ placed d.config d.failed id n) _ _
            (staying_have (λ (id n : ℕ). holders d id ≡ placed d.config d.failed id n) p.victims last_one.closed
            last_placed.closed);
      }
      pass_placed p false = last_placed

      ended_placed : (o : Option Pass) → IsPlaced (roll_ended o last_one)
      ended_placed None = last_placed
      ended_placed (Some p) = pass_placed p p.is_committing

      close_placed : (t : Bool) → IsPlaced (closed_at d core placed_now calm unfailed all j waits
          (ended_with t (old_posts d core placed_now calm unfailed all j waits)) t)
      close_placed true = ended_placed d.pass
      close_placed false = more_placed

      pub old_placed : IsPlaced (pushed_data d (next.CloseOld j))
      old_placed =
          subst IsPlaced (sym (old_is d core placed_now calm unfailed all j waits))
          (close_placed (suc j == d.config.replicas))

    new_placed : (j : ℕ) → IsNextPush d.head (Some (next.OpenNew j)) → IsPlaced (pushed_data d (next.OpenNew j))
    new_placed j waits =
        let segment = segment_new d core j waits.1 waits.2 in
        let posts = posting.Took (segment_of d.head (next.OpenNew j)) (backup_of d (next.OpenNew j)) ∷ d.ledger in
        let is : pushed_data d (next.OpenNew j)
        ≡ record d { head = with_new_replica d.head waits.1; ledger = posts } =
        ap (λ (o : Option Roll). option_map_or
        (λ (q : Roll). record d { head = with_new_replica d.head q; ledger = posts }) o (record d { ledger = posts }))
        waits.2 in
        subst IsPlaced (sym is)
        (opened_placed waits.1 waits.2 (segment_of d.head (next.OpenNew j)) (backup_of d (next.OpenNew j)) segment
        (λ i. home d.config d.failed (segment i) (waits.3 i))
        (let at = waits.3 in let lt = waits.4 in let same = core.replicas in omega arith))

  -- ---- each push

  pub pushed_placed : (push : Next) → IsNextPush d.head (Some push) → IsCore (pushed_data d push)
      → IsPlaced (pushed_data d push)
  pushed_placed (next.OpenFirst j) waits later = first_placed j waits later
  pushed_placed (next.Extend j) waits later = extend_placed waits.0 j waits
  pushed_placed (next.OpenWhole j) waits later = absurd waits
  pushed_placed (next.OpenNew j) waits later = new_placed waits.0.opened j waits
  pushed_placed (next.CloseOld j) waits later = old_placed waits.0.opened j waits
