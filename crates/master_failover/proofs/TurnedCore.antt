-- A core stays valid when the new head of a failover is put.
use Rattle.std.proofs.Common.{◌≡◌, inl, inr, ℕ, ◌+◌, ◌<◌, ◌≤◌, Bool, true, false, List, [], ◌∷◌, ◌++◌, length, take}
use Rattle.std.proofs.Common.{refl}
use Rattle.std.proofs.Common.{sym, ap, subst, ◌∙◌, arith}
use Rattle.std.specs.Prelude.{if◌then◌else◌}
use Rattle.std.specs.Prelude.{Option, Some, None, IfSome, is_some, ◌==◌, ◌^◌, ◌||◌, sum_by}
use Rattle.std.specs.List.{AllByRecursion}
use Rattle.std.specs.Option.{option_map, option_map_or}
use Rattle.std.proofs.lemmas.Bool.{and_parts, leb-true}
use Rattle.std.proofs.lemmas.List.{append-nil}
use Rattle.master_state.specs.cleaner.declared.pass.Pass.{Pass}
use Rattle.master_state.specs.cleaner.Passes.{is_ready as is_ready_pass}
use Rattle.entry.specs.declared.entry.Entry.{Entry}
use Rattle.entry.specs.declared.entry.Entry.TheVariants as entry
use Rattle.entry.specs.Bag.{IsAmong}
use Rattle.entry.specs.Text.{text_of, is_data}
use Rattle.images.specs.Image.{Image}
use Rattle.images.specs.Images.{count_of}
use Rattle.log_head.specs.Head.{HeadValue, IsHeadValue, digest_of}
use Rattle.log_head.specs.Log.{head_of, units_from, IsImageOf}
use Rattle.log_head.specs.Steps.{lone_start, fresh_head}
use Rattle.log_head.proofs.HeadLog.{head_is, image_fresh}
use Rattle.log_head.proofs.RollLog.{digest_is}
use Rattle.log_head.specs.log_laws.Heads.{Start, Head, ids_of, digest_for, start_entries, entries_of}
use Rattle.log_head.specs.log_laws.Ids.{has as hold, all_inserted}
use Rattle.log_head.specs.log_laws.Rising.{AreBelow}
use Rattle.log_head.proofs.log_laws.ListedIds.{ids_listed}
use Rattle.segment.proofs.UnitLemmas.{head_few}
use Rattle.master_state.specs.declared.failover.Failover.{Failover}
use Rattle.master_state.specs.declared.failover.Part.TheVariants as part
use Rattle.master_state.specs.declared.ledger.Posting.TheVariants as posting
use Rattle.master_state.specs.Budget.{most_segments, used_seglets, free_seglets, seglets_of, whole_seglets}
use Rattle.master_state.specs.Budget.{has_abandoned, survivors_of, is_ready, may_turn, turn_need}
use Rattle.master_state.specs.Data.{MasterData}
use Rattle.master_state.specs.Invariant.{IsFirst, IsOpenPass, IsCore, IsFailover}
use Rattle.master_state.specs.Log.{images_of, state_now}
use Rattle.master_state.specs.Steps.{start_now}
use Rattle.master_state.proofs.Beginning.{lone_has}
use Rattle.master_state.proofs.Finding.{each_among, index_of}
use Rattle.master_state.proofs.Imaging.{ids_in}
use Rattle.master_state.proofs.Indexing.{Shed, index_shed}
use Rattle.master_state.proofs.Refusals.{sizes_of}
use Rattle.master_failover.specs.declared.push.Push.TheVariants as push
use Rattle.master_failover.specs.declared.turning.NewHead.{NewHead}
use Rattle.master_failover.specs.declared.turning.NewHead.TheVariants as new_head
use Rattle.master_failover.specs.Mending.{IsNextMend, IsNextOpen, IsNewHead, was_headless, turn_roll, closed_before}
use Rattle.master_failover.specs.Mending.{put_data}
use Rattle.master_failover.specs.Mending.{opening, turned_data}
use Rattle.master_failover.proofs.Changed.{own, was_is, headless_is}
use Rattle.master_rolls.proofs.NewRolls.{rolls_to, pass_then, roll_core}
use Rattle.master_rolls.proofs.NextIds.{next_listed, start_id, start_has, start_others}
use Rattle.master_rolls.proofs.RollStarts.{pass_now, pass_marked, survivors_same}
use Rattle.master_failover.proofs.Turned.{turned_few, turned_free}

-- the head counts whole while no roll is under way, and its length too where an image is abandoned
counted : (d : MasterData) → d.head.roll ≡ None → (b : Bool) → has_abandoned d ≡ b
    → used_seglets d ≡ (if b then seglets_of d.config d.head.image + whole_seglets d.config
    else whole_seglets d.config) + sum_by (count_of d.config.segment d.config.seglet) d.closed
counted d none b test =
    λ i. (if is_some (none i) || test i then seglets_of d.config d.head.image + whole_seglets d.config
    else whole_seglets d.config) + sum_by (count_of d.config.segment d.config.seglet) d.closed

-- ---- it takes the place of the first head

-- an opening has neither objects nor tombstones
opening_data : (master : ℕ) (n : Start) (x : Entry) → IsAmong x (start_entries master n) → is_data x ≡ false
opening_data master n x (inl same) = sym (ap is_data same)
opening_data master n x (inr (inl same)) = sym (ap is_data same)
opening_data master n x (inr (inr (inl same))) = sym (ap is_data same)
opening_data master n x (inr (inr (inr never))) = absurd never

module _ (d : MasterData) (core : IsCore d) (f : Failover) (is : d.failover ≡ Some f) (mends : f.part ≡ part.Mends)
    (first : f.is_first ≡ true) where
  abbrev n : Start
  n = lone_start d.next d.config.format d.safe

  abbrev head : HeadValue
  head = fresh_head d.config.master d.config.replicas (lone_start d.next d.config.format d.safe)

  abbrev g : MasterData
  g = record d {
    head = fresh_head d.config.master d.config.replicas (lone_start d.next d.config.format d.safe);
    next = d.next + 1;
    failover = Some (opening f);
    ledger = posting.Began d.next ∷ d.ledger;
  }

  was : IsFirst d.head
  was = core.first (headless_is d core f is d.head ∙ first)

  begun : IsFailover d f
  begun = own d core f is

  no_roll : d.head.roll ≡ None
  no_roll = (begun.first first).0

  no_image : has_abandoned d ≡ false
  no_image =
      ap (λ (o : Option Failover). option_map_or (λ (x : Failover). is_some x.abandoned) o false) is
      ∙ ap is_some (begun.first first).1

  no_pass : d.pass ≡ None
  no_pass = go d.pass core.pass where
    older : (vs : List ℕ) → 0 < length vs
        → AllByRecursion (λ (s : ℕ). hold (head_of d.head).start.others s ≡ true) vs → ⊥
    older [] some all = omega arith
    older (v ∷ vs) some all =
        let never : false ≡ true = sym (ap (λ (ids : List ℕ). hold ids v) was.others) ∙ all.0 in cc

    go : (o : Option Pass) → IfSome o (IsOpenPass d) → o ≡ None
    go None opens = refl
    go (Some p) opens = absurd (older p.victims opens.victims.some opens.victims.older)

  no_closed : d.closed ≡ []
  no_closed =
      go d.closed (core.closed ∙ (λ i. all_inserted (survivors_of (no_pass i)) (was.others i)))
    where
      go : (cs : List Image) → ids_in cs ≡ [] → cs ≡ []
      go [] none = refl
      go (c ∷ cs) none = absurd (cc)

  -- the image of the first head is its opening
  image_was : d.head.image ≡ start_entries d.config.master (head_of d.head).start
  image_was =
      core.image.image
      ∙ (λ i. start_entries d.config.master (head_of d.head).start ++ was.loaded i
      ++ entries_of (take (length (units_from (text_of d.head.image) d.head.base (was.units i)))
      (units_from (text_of d.head.image) d.head.base (was.units i))))
      ∙ append-nil (start_entries d.config.master (head_of d.head).start)

  data_in_old : (s : ℕ) (x : Entry) → IsAmong x (images_of d s) → is_data x ≡ false
  data_in_old s x m = go (d.head.id == s) refl where
    go : (b : Bool) → (d.head.id == s) ≡ b → is_data x ≡ false
    go true here =
        let image : images_of d s ≡ d.head.image = rw here refl in
        opening_data d.config.master (head_of d.head).start x
        (subst (λ (es : List Entry). IsAmong x es) (image ∙ image_was) m)
    go false away =
        let image : images_of d s ≡ [] = rw (away, no_roll, no_closed) refl in
        absurd (subst (λ (es : List Entry). IsAmong x es) image m)

  data_in_new : (s : ℕ) (x : Entry) → IsAmong x (images_of g s) → is_data x ≡ false
  data_in_new s x m = go (d.next == s) refl where
    go : (b : Bool) → (d.next == s) ≡ b → is_data x ≡ false
    go true here =
        let image : images_of g s ≡ start_entries d.config.master n = rw here refl in
        opening_data d.config.master n x (subst (λ (es : List Entry). IsAmong x es) image m)
    go false away =
        let image : images_of g s ≡ [] = rw (away, no_closed) refl in
        absurd (subst (λ (es : List Entry). IsAmong x es) image m)

  shed : Shed (images_of d) (images_of g)
  shed s = inr (λ o m. (let never = data_in_old s (entry.Object o) m in cc))

  module _ (valid : IsHeadValue (fresh_head d.config.master d.config.replicas
      (lone_start d.next d.config.format d.safe))) where
    fresh : IsImageOf d.config.master head (record { start = n; loaded = []; units = []; taken = [] })
    fresh = image_fresh d.config.master d.config.replicas n (lone_has d.config.format d.safe)

    head_then : head_of head ≡ record { start = n; loaded = []; units = []; taken = [] }
    head_then = head_is d.config.master head _ fresh valid.segment

    image_then : IsImageOf d.config.master head (head_of head)
    image_then = subst (λ (l : Head). IsImageOf d.config.master head l) (sym head_then) fresh

    ids_then : length (digest_of head.image) ≡ 1
    ids_then = ap length (digest_is d.config.master head (head_of head) image_then)
        ∙ ap (λ (l : Head). length (ids_of l.start)) head_then

    pub first_core : d.next ≤ 2 ^ 62 → IsCore g
    first_core most =
        let least = (sizes_of d.config core.config).least_segment in
        let few = head_few d.config.master d.next (digest_for n) d.safe in
        let one = ap (λ (l : List ℕ). length l) (ids_listed n) in
        let ids = ids_then in
        let few_ids : length (digest_of head.image) ≤ most_segments d.config = omega arith in
        record {
          config = core.config;
          replicas = refl;
          history = core.history;
          head = valid;
          image = image_then;
          within = omega arith;
          closed = core.closed ∙ (λ i. all_inserted (survivors_of d.pass)
              ((was.others ∙ sym (ap (λ (l : Head). l.start.others) head_then)) i));
          segments = core.segments;
          below = subst (λ (l : Head). AreBelow l.start) (sym head_then) tt;
          real = (let lt = core.used in omega arith);
          used = omega arith;
          first = λ test. record {
            others = ap (λ (l : Head). l.start.others) head_then;
            loaded = ap (λ (l : Head). l.loaded) head_then;
            units = refl;
          };
          next = omega arith;
          roll = tt;
          pass = subst (λ (o : Option Pass). IfSome o (IsOpenPass g)) (sym no_pass) tt;
          named = λ s t m. (let never = data_in_new s (entry.Tombstone t) m in absurd (cc));
          replicas_few = core.replicas_few;
          waiting = core.waiting;
          digest = few_ids;
          listed = few_ids;
          failed = (let all = core.failed in
              record { few = all.few; there = all.there; apart = all.apart; two = all.two });
          whole = λ calm. absurd (cc);
          failover = record {
            some = begun.some;
            closed = begun.closed;
            mends = λ p. absurd (cc);
            opens = λ p early. absurd (let yes = first in cc);
            first = λ test. (refl, refl);
            closes = λ p. absurd (cc);
            repairs = λ p. absurd (cc);
          };
          abandoned = λ calm. absurd (cc);
          budget = subst (λ (k : ℕ). k ≤ d.config.seglets) (counted d no_roll false no_image) core.budget;
          legal = core.legal;
          index = (let all = index_shed (images_of d) (images_of g) shed (each_among head d.closed valid core.segments)
              d.index (state_now d).contents (index_of d core) in
              record { kept = all.kept; lies = all.lies; safe = core.index.safe });
        }

-- ---- either

-- the same once it is known whether a head was in force
abbrev pub turned_if : MasterData → Bool → MasterData
turned_if d t =
    if t then record d {
      head = fresh_head d.config.master d.config.replicas (lone_start d.next d.config.format d.safe);
      next = d.next + 1;
      failover = option_map opening d.failover;
      ledger = posting.Began d.next ∷ d.ledger;
    } else record d {
      head = record d.head { roll = Some (turn_roll d) };
      next = d.next + 1;
      pass =
          option_map (λ (p : Pass). record p { is_committing = is_ready_pass d.config.replicas d.closed p }) d.pass;
      failover = option_map opening d.failover;
      ledger = posting.Began d.next ∷ d.ledger;
    }

-- A roll to the new head begins: what the digest of an ordinary roll lists, or that of a commit.
module _ (d : MasterData) (core : IsCore d) (next : IsNextMend d push.Turn) where
  abbrev failing : Failover
  failing = next.0.0

  module _ (later : failing.is_first ≡ false) where
    abbrev rolling : MasterData
    rolling = rolls_to d (start_now d) (closed_before d) (pass_now d) (Some (opening failing))
        (posting.Began d.next ∷ d.ledger)

    rolling_is : turned_if d false ≡ rolling
    rolling_is =
        ap (λ (o : Option Failover). rolls_to d (start_now d) (closed_before d) (pass_now d) (option_map opening o)
        (posting.Began d.next ∷ d.ledger)) next.0.1

    fails : IsFailover d failing
    fails = own d core failing next.0.1

    none : d.head.roll ≡ None
    none = (fails.mends next.0.2).0

    -- the old head counts its length, and the new one counts whole
    budget_then : turn_need d ≤ free_seglets d → used_seglets rolling ≤ d.config.seglets
    budget_then free = go (has_abandoned d) refl where
      go : (b : Bool) → has_abandoned d ≡ b → used_seglets rolling ≤ d.config.seglets
      go true test = (let used = counted d none true test in let budget = core.budget in omega arith)
      go false test =
          let used = counted d none false test in
          let need : turn_need d ≡ seglets_of d.config d.head.image =
          ap (λ (c : Bool). if c then 0 else seglets_of d.config d.head.image) test in
          let budget = core.budget in
          omega arith

    passes_then : (o : Option Pass) → IfSome o (IsOpenPass d) → IsHeadValue (turned_if d false).head
        → IfSome (option_map (λ (p : Pass). record p
        { is_committing = is_ready_pass d.config.replicas d.closed p }) o) (IsOpenPass rolling)
    passes_then None opens valid = tt
    passes_then (Some p) opens valid =
        pass_then d core (start_now d) (start_id d (is_ready d)) (start_has d (is_ready d)) (closed_before d)
        (pass_now d) (Some (opening failing)) (posting.Began d.next ∷ d.ledger) none valid p
        (is_ready_pass d.config.replicas d.closed p) opens (λ no_one not. absurd (fails.some no_one)) (λ ready. ready)

    rolling_core : may_turn d ≡ true → IsHeadValue (turned_if d false).head → IsCore (turned_if d false)
    rolling_core may valid =
        let was : option_map_or (λ (x : Failover). x.is_first) d.failover false ≡ false =
        was_is d core failing next.0.1 ∙ later in
        let few = turned_few d core may was in
        let others = ap length (start_others d (is_ready d)) in
        subst IsCore (sym rolling_is)
        (roll_core d core (start_now d) (start_id d (is_ready d)) (start_has d (is_ready d)) (closed_before d)
        (pass_now d) (Some (opening failing)) (posting.Began d.next ∷ d.ledger) none valid
        (leb-true d.next (2 ^ 62) (and_parts _ _ may).0) (start_others d (is_ready d) ∙ next_listed d core d.pass)
        (survivors_same d) (omega arith) (budget_then (turned_free d core may was))
        (passes_then d.pass core.pass valid) (λ test. absurd (let no = later in cc)) (λ calm. absurd (cc))
        (record {
          some = fails.some;
          closed = fails.closed;
          mends = λ p. absurd (cc);
          opens = λ p early. (refl, refl);
          first = λ test. absurd (let no = later in cc);
          closes = λ p. absurd (cc);
          repairs = λ p. absurd (cc);
        }))

  module _ (first : failing.is_first ≡ true) where
    alone_is : turned_if d true ≡ record d {
      head = fresh_head d.config.master d.config.replicas (lone_start d.next d.config.format d.safe);
      next = d.next + 1;
      failover = Some (opening failing);
      ledger = posting.Began d.next ∷ d.ledger;
    }
    alone_is = λ i. record d {
      head = fresh_head d.config.master d.config.replicas (lone_start d.next d.config.format d.safe);
      next = d.next + 1;
      failover = option_map opening (next.0.1 i);
      ledger = posting.Began d.next ∷ d.ledger;
    }

    alone_core : may_turn d ≡ true → IsHeadValue (turned_if d true).head → IsCore (turned_if d true)
    alone_core may valid =
        subst IsCore (sym alone_is)
        (first_core d core failing next.0.1 next.0.2 first valid (leb-true d.next (2 ^ 62) (and_parts _ _ may).0))

  -- The core once the new head is put. That the head is valid is a clause of `put`.
  pub turned_core : may_turn d ≡ true → IsHeadValue (turned_data d).head → IsCore (turned_data d)
  turned_core may valid = go (was_headless d) (was_is d core failing next.0.1) valid where
    go : (t : Bool) → t ≡ failing.is_first → IsHeadValue (turned_if d t).head → IsCore (turned_if d t)
    go true same own_valid = alone_core (sym same) may own_valid
    go false same own_valid = rolling_core (sym same) may own_valid

  -- its first replica is to be opened next
  pub turned_next : IsNextOpen (turned_data d) 0
  turned_next = go (was_headless d) where
    fails_now : IsFailover d failing
    fails_now = own d core failing next.0.1

    begins : option_map opening d.failover ≡ Some (opening failing)
    begins = ap (option_map opening) next.0.1

    some : 0 < d.config.replicas
    some = (let lt = fails_now.closed in omega arith)

    go : (t : Bool) → IsNextOpen (turned_if d t) 0
    go true = ((opening failing, begins, refl), refl, some)
    go false = ((opening failing, begins, refl), refl, some)

-- ---- the fields one by one

-- A head once the new one is put, and a pass that is marked: what a core is then.
module _ (d : MasterData) (core : IsCore d) (next : IsNextMend d push.Turn) (new : NewHead)
    (made : IsNewHead d new) where
  -- without a head in force no pass is open
  pub lone_pass : was_headless d ≡ true → d.pass ≡ None
  lone_pass test = no_pass d core next.0.0 next.0.1 next.0.2 (sym (was_is d core next.0.0 next.0.1) ∙ test)

  pub turned_is : record d {
    head = put_data new d.head;
    next = d.next + 1;
    pass = option_map (λ (p : Pass). record p { is_committing = is_ready d }) d.pass;
    failover = option_map opening d.failover;
    ledger = posting.Began d.next ∷ d.ledger;
  } ≡ turned_data d
  turned_is = go new made where
    go : (h : NewHead) → IsNewHead d h → record d {
      head = put_data h d.head;
      next = d.next + 1;
      pass = option_map (λ (p : Pass). record p { is_committing = is_ready d }) d.pass;
      failover = option_map opening d.failover;
      ledger = posting.Began d.next ∷ d.ledger;
    } ≡ turned_data d
    go (new_head.First h) is =
        (λ i. record d {
          head = is.1 i;
          next = d.next + 1;
          pass = (ap (option_map (λ (p : Pass). record p { is_committing = is_ready d })) (lone_pass is.0)
              ∙ sym (lone_pass is.0)) i;
          failover = option_map opening d.failover;
          ledger = posting.Began d.next ∷ d.ledger;
        })
        ∙ ap (turned_if d) (sym is.0)
    go (new_head.Next r) is =
        (λ i. record d {
          head = record d.head { roll = Some (is.1 i) };
          next = d.next + 1;
          pass = pass_marked d (is_ready d) refl i;
          failover = option_map opening d.failover;
          ledger = posting.Began d.next ∷ d.ledger;
        })
        ∙ ap (turned_if d) (sym is.0)
