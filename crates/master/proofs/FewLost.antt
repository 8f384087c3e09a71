-- If fewer backups are lost than a segment has replicas, the head and the segments survive.
use Rattle.std.proofs.Common.{◌≡◌, ℕ, zero, suc, ◌⊎◌, ◌<◌, ◌≤◌, inl, inr, Bool, true, false, List, [], ◌∷◌, ◌++◌}
use Rattle.std.proofs.Common.{length}
use Rattle.std.proofs.Common.{take, max, refl, sym, ap, subst, ◌∙◌, arith}
use Rattle.std.specs.Prelude.{Option, Some, None, IfSome, IsSome, is_none, ◌==◌, if◌then◌else◌}
use Rattle.std.specs.Prelude.{option_to_list}
use Rattle.std.specs.Option.{option_map, option_map_or}
use Rattle.std.proofs.lemmas.Bool.{and_parts, or_parts, cases_eq, le-leb, leb-true}
use Rattle.std.proofs.lemmas.List.{length-map, take_all}
use Rattle.std.proofs.lemmas.Option.{same_Some}
use Rattle.entry.specs.declared.key.Key.{Key}
use Rattle.entry.specs.declared.entry.Entry.{Entry}
use Rattle.entry.specs.Bag.{IsAmong}
use Rattle.entry.specs.Meaning.{Versioned}
use Rattle.entry.specs.Text.{Opening, listed_ids}
use Rattle.entry.proofs.BagLemmas.{among_either}
use Rattle.entry.proofs.ListLemmas.{all_among}
use Rattle.replica.specs.Picture.{FleetState}
use Rattle.replica.specs.Survival.{IsHomeLeft, IsHeadLeft, HeadSurvives, SegmentsSurvive}
use Rattle.versioned_map.specs.declared.command.Command.{Command}
use Rattle.versioned_map.specs.declared.command.Record.{Record}
use Rattle.versioned_map.specs.History.{commands_of}
use Rattle.versioned_map.specs.Represents.{Represents, unit_of}
use Rattle.versioned_map.specs.Versioned.{State, after, after_command}
use Rattle.images.specs.Image.{Image}
use Rattle.images.specs.Sorted.{replicas_of}
use Rattle.master_core.specs.cleaner.declared.pass.Pass.{Pass}
use Rattle.master_core.specs.cleaner.Passes.{survivor_ids, is_at_end}
use Rattle.master_core.specs.cleaner.Seals.{first_lacking}
use Rattle.master_core.proofs.cleaner.Lacking.{none_is_lacking}
use Rattle.log_head.specs.declared.head.Roll.{Roll}
use Rattle.log_head.specs.Head.{IsRollValue}
use Rattle.log_head.specs.Log.{head_of, start_of}
use Rattle.log_head.specs.log_laws.Heads.{Start, LogUnit, ids_of, records_before}
use Rattle.log_head.specs.log_laws.Numbered.{AreNumbered, with_first}
use Rattle.log_head.specs.log_laws.Ids.{has, without}
use Rattle.log_head.proofs.log_laws.ListedIds.{ids_listed}
use Rattle.master_core.specs.log_laws.Text.{Text, Replica as ModelReplica}
use Rattle.master_core.specs.log_laws.Data.{Head, IsHome, IsNew, opening_for, front_entries, new_of}
use Rattle.master_core.specs.log_laws.Data.{state_after}
use Rattle.master_core.specs.log_laws.Durable.{TakenHead, heads_of, units_in}
use Rattle.master_core.specs.log_laws.Log.{Texts, IsBase, IsReplica, IsLogHeld}
use Rattle.master_core.specs.log_bytes.Choice.{IsOpenedHead, IsNewestOpenedOrNone, is_opened as is_counted, greater}
use Rattle.master_core.specs.log_bytes.Choice.{greatest_opened, newest_opened}
use Rattle.master_core.specs.log_bytes.Spelled.{read_replica}
use Rattle.master_core.proofs.log_bytes.NewestHomes.{taker}
use Rattle.master_core.specs.log_memory.Fleet.{read_of, shown_for}
use Rattle.master_core.proofs.log_laws.CommitDigest.{all_out, without_from}
use Rattle.master_core.proofs.log_memory.Appending.{unit_none}
use Rattle.master_core.proofs.log_memory.KeptFleets.{kept_is_sound}
use Rattle.master_core.specs.master_state.Budget.{victims_of, survivors_of, is_committing}
use Rattle.master_core.specs.master_state.Data.{MasterData}
use Rattle.master_core.specs.master_state.Invariant.{AreApart, IsCore, IsRollOf, listed_now, listed_with}
use Rattle.master_core.specs.master_state.Ledger.{took_in}
use Rattle.master_core.specs.master_state.Log.{placed, is_opened, is_headless, log_of, memory_of, state_now}
use Rattle.master_core.proofs.master_state.Homes.{length_left}
use Rattle.master_core.proofs.master_state.Imaging.{same_id, ids_in}
use Rattle.master.specs.Invariant.{IsWellKept}
use Rattle.master.specs.Placed.{holders}
use Rattle.master.specs.Survive.{lost, SurvivesFew}
use Rattle.master.proofs.Counting.{kept_unfailed}
use Rattle.master.proofs.InForce.{open_or, headed_or, roll_id, force_headed, force_headless, headless}
use Rattle.master.proofs.InForce.{new_headed}
use Rattle.master.proofs.LogSets.{closed_in}
use Rattle.master.proofs.NewestHomes.{newest_held}
use Rattle.master.proofs.OpenPasses.{open_now}
use Rattle.master.proofs.Placements.{homes_of, image_there}
use Rattle.master.proofs.Placing.{placed_length, placed_home, core_within, core_later, left_has, all_work, few_left}

-- ---- backups that are kept

-- one that isn't lost is kept
kept_of : (keep : ℕ → Bool) (n b : ℕ) → b < n → has (lost keep n) b ≡ false → keep b ≡ true
kept_of keep zero b lt none = absurd (omega (arith, lt))
kept_of keep (suc n) b lt none = go (keep n) refl (kept_of keep n b) none where
  by_place : (keep b ≡ true) ⊎ (b ≡ n → ⊥) → (b < n → has (lost keep n) b ≡ false → keep b ≡ true)
      → has (lost keep n) b ≡ false → keep b ≡ true
  by_place (inl told) before rest = told
  by_place (inr other) before rest = before (omega (arith, lt, other)) rest

  go : (t : Bool) → keep n ≡ t → (b < n → has (lost keep n) b ≡ false → keep b ≡ true)
      → has (if t then lost keep n else n ∷ lost keep n) b ≡ false → keep b ≡ true
  go true is before rest =
      by_place (elim (cases_eq b n) [ inl same ↦ inl (ap keep same ∙ is) | inr other ↦ inr other ]) before rest
  go false is before rest =
      let parts = or_parts (n == b) (has (lost keep n) b) rest in
      by_place (inr (λ same. (let own : (n == b) ≡ true = ap (λ (k : ℕ). n == k) same ∙ same_id n in
      let never : true ≡ false = sym own ∙ parts.0 in cc))) before parts.1

module _ (d : MasterData) (core : IsCore d) where
  -- the first homes are different backups
  apart_placed : (s n : ℕ) → n ≤ d.config.replicas → AreApart (placed d.config d.failed s n)
  apart_placed s zero le = tt
  apart_placed s (suc n) le = (
    core_later d core s n n (omega arith) (omega (arith, le)),
    apart_placed s n (omega (arith, le)),
  )

  module _ (keep : ℕ → Bool) (few : length (lost keep d.config.backups) < d.config.replicas) where
    -- one of the homes of a whole segment is kept
    one_left : (s : ℕ) → (b : ℕ) × (has (placed d.config d.failed s d.config.replicas) b ≡ true) × (keep b ≡ true)
    one_left s =
        let all = placed d.config d.failed s d.config.replicas in
        let gone = lost keep d.config.backups in
        let size = placed_length d.config d.failed s d.config.replicas in
        let count = length_left gone all (apart_placed s d.config.replicas (omega arith)) in
        let one = taker (without gone all) (omega (arith, few, size, count)) in
        let parts = left_has gone all one.0 one.1 in
        let at = placed_home d.config d.failed s d.config.replicas one.0 parts.0 in
        let within = core_within d core s at.replica at.within in
        let there : one.0 < d.config.backups = subst (λ (b : ℕ). b < d.config.backups) (sym at.is) within in (
          one.0,
          parts.0,
          kept_of keep d.config.backups one.0 there parts.1,
        )

    home_left : (s : ℕ) → holders d s ≡ placed d.config d.failed s d.config.replicas
        → IsHomeLeft (IsHome (log_of d)) keep s
    home_left s on =
        let one = one_left s in
        let there : has (holders d s) one.0 ≡ true = ap (λ (bs : List ℕ). has bs one.0) on ∙ one.1 in
        let parts = left_has d.failed (took_in d.ledger s) one.0 there in
        (one.0, (parts.0, parts.1), one.2)

-- ---- while no failover is open

-- commands of which no unit is have changed nothing
quiet : (st : State) (number : ℕ) (cs : List Command) → AreNumbered st number cs [] → (count : ℕ)
    → after st (take count cs) ≡ st
quiet st number [] is zero = refl
quiet st number [] is (suc count) = refl
quiet st number (c ∷ cs) is zero = refl
quiet st number (c ∷ cs) is (suc count) =
    let none = no_first number (unit_of st is.0 c) is.1 is.2 in
    let still : after_command st c ≡ st = unit_none st is.0 c none.0 in
    let numbered : AreNumbered (after_command st c) (suc number) cs [] =
    subst (AreNumbered (after_command st c) (suc number) cs) none.1 is.3 in
    quiet (after_command st c) (suc number) cs numbered count ∙ still
  where
    no_first : (number : ℕ) (unit : List Entry) (rest : List LogUnit) → [] ≡ with_first number unit rest
        → (unit ≡ []) × (rest ≡ [])
    no_first number [] rest is = (refl, sym is)
    no_first number (e ∷ es) rest is = absurd (cc)

-- a list of which nothing is, is empty
no_past : (past : List TakenHead) → ((h : TakenHead) → IsAmong h past → ⊥) → past ≡ []
no_past [] none = refl
no_past (h ∷ hs) none = absurd (none h (inl refl))

module _ (d : MasterData) (f : FleetState) (kept : IsWellKept d f) (keep : ℕ → Bool) (calm : d.failover ≡ None)
    (few : length (lost keep d.config.backups) < d.config.replicas) where
  abbrev texts : Texts
  texts = kept.kept.intact.log.texts

  abbrev held : IsLogHeld (log_of d) texts (read_of (log_of d) f)
  held = kept.kept.intact.log.held

  -- one of the segment's homes is left
  abbrev IsLeft : ℕ → Type 0
  IsLeft s = IsHomeLeft (IsHome (log_of d)) keep s

  whole_left : (s : ℕ) → holders d s ≡ placed d.config d.failed s d.config.replicas → IsLeft s
  whole_left s on = home_left d kept.core keep few s on

  closed_left : (s : ℕ) → IsAmong s (ids_in d.closed) → d.config.replicas ≤ replicas_of d.closed s → IsLeft s
  closed_left s among all =
      let x = image_there d.closed s among in
      let most = all_among (λ (c : Image). c.replicas ≤ d.config.replicas) d.closed x.0 kept.core.replicas_few x.1 in
      let count = x.3 in
      let same : replicas_of d.closed s ≡ d.config.replicas = omega (arith, all, most, count) in
      whole_left s (homes_of d kept.placed s among ∙ ap (placed d.config d.failed s) same)

  -- the segments of the digest in force are whole
  others_left : (s : ℕ) → IsAmong s (head_of d.head).start.others → IsLeft s
  others_left s among =
      closed_left s (closed_in d kept.core s (inl among))
      ((none_is_lacking d.config.replicas d.closed (head_of d.head).start.others).0 (kept.core.whole calm) s among)

  -- the survivors of a commit are whole
  survivor_left : (s : ℕ) → is_committing d ≡ true → IsAmong s (survivors_of d.pass) → IsLeft s
  survivor_left s commits among = by_pass d.pass refl commits among where
    none_from : (o : Option (ℕ × ℕ)) → is_none o ≡ true → o ≡ None
    none_from None is = refl
    none_from (Some x) is = absurd (cc)

    by_pass : (o : Option Pass) → d.pass ≡ o → option_map_or (λ (p : Pass). p.is_committing) o false ≡ true
        → IsAmong s (survivors_of o) → IsLeft s
    by_pass None at now m = absurd (cc)
    by_pass (Some p) at now m =
        let ready = ((open_now d kept.core p at).commits now).1 in
        let none = (and_parts (is_at_end p)
        (is_none (first_lacking d.config.replicas d.closed (survivor_ids p.survivors))) ready).1 in
        closed_left s (closed_in d kept.core s (inr among))
        ((none_is_lacking d.config.replicas d.closed (survivor_ids p.survivors)).0
        (none_from (first_lacking d.config.replicas d.closed (survivor_ids p.survivors)) none) s m)

  -- ---- a head is in force

  module _ (force : is_headless d ≡ false) where
    opened : is_opened d.head ≡ true
    opened = elim (open_or d.head) as (λ _. is_opened d.head ≡ true) [
      | inl is ↦ is
      | inr lacks ↦ absurd (let never : true ≡ false = sym (headless d calm lacks) ∙ force in cc)
    ]

    taken_all : length d.head.taken ≡ d.config.replicas
    taken_all =
        let some = leb-true d.head.replicas (length d.head.taken) opened in
        let most = kept.core.head.opened in
        let same = kept.core.replicas in
        omega (arith, some, most, same)

    on_head : holders d d.head.id ≡ placed d.config d.failed d.head.id d.config.replicas
    on_head = kept.placed.head ∙ ap (placed d.config d.failed d.head.id) taken_all

    head_left : IsLeft d.head.id
    head_left = whole_left d.head.id on_head

    head_id : (log_of d).head.start.id ≡ d.head.id
    head_id = ap (λ (h : Head). h.start.id) (force_headed d force) ∙ kept.core.image.id

    new_is : (o : Option Roll) → d.head.roll ≡ o → new_of (log_of d).mode ≡ option_map start_of o
    new_is o at = new_headed d kept.core force ∙ ap (option_map start_of) at

    -- a new head that counts is whole
    roll_left : (r : Roll) → d.head.roll ≡ Some r → is_counted (log_of d) (start_of r).id ≡ true
        → IsLeft (start_of r).id
    roll_left r rolls counted =
        let many = leb-true d.config.replicas (length (took_in d.ledger (start_of r).id)) counted in
        let works = all_work d.failed (took_in d.ledger (start_of r).id)
        (λ b is. (kept_unfailed d f kept.kept).new (start_of r) b (new_is (Some r) rolls) is) in
        let at = subst (λ (o : Option Roll). IfSome o (λ (q : Roll).
        holders d q.id ≡ placed d.config d.failed q.id q.opened)) rolls kept.placed.new in
        let value = subst (λ (o : Option Roll). IfSome o (IsRollValue d.head.replicas (length d.head.taken))) rolls
        kept.core.head.roll in
        let most = value.opened in
        let same = kept.core.replicas in
        let size = ap length at ∙ placed_length d.config d.failed r.id r.opened in
        let also = ap length works in
        let one = ap (λ (s : ℕ). length (holders d s)) (roll_id r) in
        let all : r.opened ≡ d.config.replicas = omega (arith, many, most, same, size, also, one) in
        subst IsLeft (sym (roll_id r)) (whole_left r.id (at ∙ ap (placed d.config d.failed r.id) all))

    -- ---- the newest head that counts

    head_counted : is_counted (log_of d) (log_of d).head.start.id ≡ true
    head_counted =
        le-leb d.config.replicas (length (took_in d.ledger (log_of d).head.start.id))
        (let size = ap length on_head ∙ placed_length d.config d.failed d.head.id d.config.replicas in
        let least = few_left d.failed (took_in d.ledger d.head.id) in
        let same = ap (λ (s : ℕ). length (took_in d.ledger s)) head_id in
        omega (arith, size, least, same))

    heads_are : (o : Option Start) → new_of (log_of d).mode ≡ o → newest_opened (log_of d)
        ≡ greatest_opened (log_of d) (option_to_list o ++ (log_of d).head.start ∷ [])
    heads_are o is =
        (λ i. greatest_opened (log_of d)
        (option_to_list (is i) ++ (kept.core.abandoned calm i ++ (log_of d).head.start ∷ [])))

    last_head : greatest_opened (log_of d) ((log_of d).head.start ∷ []) ≡ Some (log_of d).head.start.id
    last_head =
        ap (λ (t : Bool). if t then greater (log_of d).head.start.id (greatest_opened (log_of d) [])
        else greatest_opened (log_of d) []) head_counted

    -- it is the head in force or a newer one, and one of its homes is left
    record Newest : Type 0 where
      t : ℕ
      newest : newest_opened (log_of d) ≡ Some t
      above : (log_of d).head.start.id ≤ t
      left : IsLeft t

    newest_left : Newest
    newest_left = go d.head.roll refl where
      head_in_force : newest_opened (log_of d) ≡ Some (log_of d).head.start.id → Newest
      head_in_force is = record {
        t = (log_of d).head.start.id;
        newest = is;
        above = omega arith;
        left = subst IsLeft (sym head_id) head_left;
      }

      go : (o : Option Roll) → d.head.roll ≡ o → Newest
      go None none = head_in_force (heads_are None (new_is None none) ∙ last_head)
      go (Some r) rolls = by_count (is_counted (log_of d) (start_of r).id) refl where
        heads : newest_opened (log_of d)
            ≡ greatest_opened (log_of d) (start_of r ∷ (log_of d).head.start ∷ [])
        heads = heads_are (Some (start_of r)) (new_is (Some r) rolls)

        newer : (log_of d).head.start.id < (start_of r).id
        newer = held.logged.newer (start_of r) (inl (new_is (Some r) rolls))

        by_count : (t : Bool) → is_counted (log_of d) (start_of r).id ≡ t → Newest
        by_count true counted =
            let lt = newer in
            let most : max (start_of r).id (log_of d).head.start.id ≡ (start_of r).id = omega (arith, lt) in
            record {
              t = (start_of r).id;
              newest =
                  heads ∙ ap (λ (t : Bool).
                  if t then greater (start_of r).id (greatest_opened (log_of d) ((log_of d).head.start ∷ []))
                  else greatest_opened (log_of d) ((log_of d).head.start ∷ [])) counted
                  ∙ ap (greater (start_of r).id) last_head
                  ∙ ap (λ (n : ℕ). Some n) most;
              above = omega (arith, lt);
              left = roll_left r rolls counted;
            }
        by_count false lacks =
            head_in_force (heads ∙ ap (λ (t : Bool).
            if t then greater (start_of r).id (greatest_opened (log_of d) ((log_of d).head.start ∷ []))
            else greatest_opened (log_of d) ((log_of d).head.start ∷ [])) lacks ∙ last_head)

    head_survives : HeadSurvives (IsHome (log_of d)) (newest_opened (log_of d)) (shown_for (log_of d) f) d.config.master
        keep
    head_survives =
        subst (λ (o : Option ℕ). HeadSurvives (IsHome (log_of d)) o (shown_for (log_of d) f) d.config.master keep)
        (sym newest_left.newest) (inl newest_left.left)

    head_there : IsHeadLeft (shown_for (log_of d) f) d.config.master keep newest_left.t
    head_there =
        let counts = subst (λ (o : Option ℕ). IsNewestOpenedOrNone
        (IsOpenedHead (log_of d) d.config.master (shown_for (log_of d) f))
        (f.least d.config.master) o) newest_left.newest (kept_is_sound (log_of d) (memory_of d) f kept.kept).1 in
        let home = newest_left.left in (
          home.0,
          home.2,
          newest_held d.config.master (log_of d) texts (shown_for (log_of d) f) (read_of (log_of d) f)
              kept.kept.spelled held newest_left.t home.0 counts home.1,
        )

    -- ---- the segments

    ids_left : (s : ℕ) → IsAmong s (ids_of (head_of d.head).start) → IsLeft s
    ids_left s among =
        elim (among_either s (head_of d.head).start.others ((head_of d.head).start.id ∷ []) among) as (λ _. IsLeft s) [
          | inl older ↦ others_left s older
          | inr own ↦ elim own as (λ _. IsLeft s) [
            | inl same ↦ subst IsLeft (sym kept.core.image.id ∙ same) head_left
            | inr never ↦ absurd never
          ]
        ]

    listed_left : (s : ℕ) → IsAmong s (listed_now d) → IsLeft s
    listed_left s among = go (is_committing d) refl among where
      go : (t : Bool) → is_committing d ≡ t
          → IsAmong s (if t then listed_with d (victims_of d.pass) (survivors_of d.pass)
          else ids_of (head_of d.head).start) → IsLeft s
      go true commits m =
          elim (all_out (survivors_of d.pass) (without (victims_of d.pass) (ids_of (head_of d.head).start)) s m)
          as (λ _. IsLeft s) [
            | inl l ↦ ids_left s (without_from (victims_of d.pass) (ids_of (head_of d.head).start) s l).0
            | inr r ↦ survivor_left s commits r
          ]
      go false ordinary m = ids_left s m

    new_left : (n : Start) → IsNew (log_of d) n → (s : ℕ) → IsAmong s n.others → IsLeft s
    new_left n new s among = go d.head.roll refl new where
      go : (o : Option Roll) → d.head.roll ≡ o → IsNew (log_of d) n → IsLeft s
      go o at (inr gone) = absurd (subst (λ (ns : List Start). IsAmong n ns) (kept.core.abandoned calm) gone)
      go None none (inl is) = absurd (let never : None ≡ Some n = sym (new_is None none) ∙ is in cc)
      go (Some r) rolls (inl is) =
          let same = same_Some (start_of r) n (sym (new_is (Some r) rolls) ∙ is) in
          let of_roll = subst (λ (o : Option Roll). IfSome o (IsRollOf d)) rolls kept.core.roll in
          let m : IsAmong s (start_of r).others = subst (λ (x : Start). IsAmong s x.others) (sym same) among in
          listed_left s (subst (λ (ids : List ℕ). IsAmong s ids) of_roll.lists m)

    segments_survive : SegmentsSurvive (IsHome (log_of d)) (shown_for (log_of d) f) d.config.master keep
    segments_survive s opening left id among other =
        by_replica (held.mirrored.each left.b s (read_replica left.r) (ap (option_map read_replica) left.held))
      where
        listed : (n : Start) → Some opening ≡ Some (opening_for n) → IsAmong id (ids_of n)
        listed n is =
            subst (λ (ids : List ℕ). IsAmong id ids)
            (ap (λ (o : Opening). listed_ids o.digest) (same_Some opening (opening_for n) is) ∙ ids_listed n) among

        others_of : (n : Start) → s ≡ n.id → IsAmong id (ids_of n) → IsAmong id n.others
        others_of n at m = elim (among_either id n.others (n.id ∷ []) m) as (λ _. IsAmong id n.others) [
          | inl l ↦ l
          | inr r ↦ elim r as (λ _. IsAmong id n.others) [
            | inl same ↦ absurd (other (sym same ∙ sym at))
            | inr never ↦ absurd never
          ]
        ]

        by_replica : IsReplica (log_of d) texts (read_of (log_of d) f).least left.b s (read_replica left.r) → IsLeft id
        by_replica (inl is) =
            let text = ap (λ (t : Text). t.opening) is.1.text in
            let m = others_of (log_of d).head.start is.0 (listed (log_of d).head.start (sym left.bears ∙ text)) in
            others_left id (subst (λ (h : Head). IsAmong id h.start.others) (force_headed d force) m)
        by_replica (inr (inl new)) =
            let text = ap (λ (r : ModelReplica). r.text.opening) new.3 in
            new_left new.0 new.1 id (others_of new.0 new.2 (listed new.0 (sym left.bears ∙ text)))
        by_replica (inr (inr older)) =
            let bears : IsSome (texts.text s).opening = subst IsSome older.opening
            (subst IsSome (sym left.bears) refl) in
            let low = (older.bears bears).0 in
            let high = left.newest newest_left.t head_there in
            let above = newest_left.above in
            absurd (omega (arith, low, high, above))

  -- ---- no head is in force

  empty : is_headless d ≡ true → (k : Key) → (state_now d).contents k ≡ None
  empty none k = go ((state_now d).contents k) refl where
    whole : state_after (log_of d) (length d.history) ≡ state_now d
    whole =
        let size = length-map d.history (λ (r : Record). r.command) in
        ap (after (log_of d).opening) (take_all (length d.history) (commands_of d.history) (omega (arith, size)))

    bare : Represents 1 [] (state_now d)
    bare =
        subst (λ (st : State). Represents 1 [] st) whole
        (subst (λ (h : Head). (base : List Entry) → IsBase texts h.start.others base → Represents h.start.safe
        (base ++ front_entries h 0) (state_after (log_of d) (records_before h.units (length d.history) 0)))
        (force_headless d none) (λ base is. kept.kept.intact.log.standing.fronts 0 base (omega arith) is) [] refl)

    go : (o : Option Versioned) → (state_now d).contents k ≡ o → (state_now d).contents k ≡ None
    go None is = is
    go (Some x) is = absurd ((bare.meaning k x).0 is).held

  -- nor was there one before
  never_had : is_headless d ≡ true → (count : ℕ) (k : Key) → (state_after (log_of d) count).contents k ≡ None
  never_had none count k =
      let past = kept.kept.intact.past in
      let none_past : past ≡ [] = no_past past (λ h m.
      let older = kept.kept.intact.before.older h m in
      let zero : (log_of d).head.start.id ≡ 0 = ap (λ (h : Head). h.start.id) (force_headless d none) in
      omega (arith, older, zero)) in
      let units : units_in (heads_of past (log_of d)) ≡ [] =
      ap (λ (hs : List TakenHead). units_in (heads_of hs (log_of d))) none_past
      ∙ ap (λ (h : Head). h.units ++ []) (force_headless d none) in
      let numbered = subst (AreNumbered (log_of d).opening 0 (commands_of d.history)) units
      kept.kept.intact.before.counted.units in
      let early = quiet (log_of d).opening 0 (commands_of d.history) numbered count in
      let size = length-map d.history (λ (r : Record). r.command) in
      let late : state_now d ≡ (log_of d).opening =
      ap (after (log_of d).opening) (sym (take_all (length d.history) (commands_of d.history) (omega (arith, size))))
      ∙ quiet (log_of d).opening 0 (commands_of d.history) numbered (length d.history) in
      ap (λ (st : State). st.contents k) (early ∙ sym late) ∙ empty none k

pub survives_few : (d : MasterData) (f : FleetState) → IsWellKept d f → SurvivesFew d f
survives_few d f kept keep calm few = elim (headed_or d) [
  | inl force ↦ inl (record {
    head = head_survives d f kept keep calm few force;
    segments = segments_survive d f kept keep calm few force;
  })
  | inr none ↦ inr (never_had d f kept keep calm few none)
]
