-- The start of a roll in a core is the start of a roll in the model of the log.
use Rattle.std.proofs.Common.{◌≡◌, ℕ, suc, ◌+◌, ◌≤◌, Bool, true, false, List, [], length, refl, sym, ap, subst}
use Rattle.std.proofs.Common.{◌∙◌, add-one, arith, inl, inr}
use Rattle.std.specs.Prelude.{Option, Some, None, unwrap_or, ◌==◌, if◌then◌else◌}
use Rattle.std.specs.Option.{option_map_or}
use Rattle.std.proofs.lemmas.Bool.{le-leb}
use Rattle.std.proofs.lemmas.Bool.Decides.{nat_tests}
use Rattle.cleaner.specs.Passes.{images_in}
use Rattle.master_state.specs.log_laws.Intact.{IsCommit}
use Rattle.master_state.proofs.log_laws.CommitDigest.{without_stays, without_from, all_out, all_in}
use Rattle.entry.specs.declared.entry.Entry.{Entry}
use Rattle.entry.specs.Bag.{IsAmong}
use Rattle.entry.specs.Text.{text_of, len_in, IsSegment}
use Rattle.master_state.specs.log_laws.Data.{Head as FailHead, Rolls, front}
use Rattle.master_state.specs.log_laws.Steps.{ids_now, rolling}
use Rattle.master_state.specs.log_laws.Text.{length_of}
use Rattle.master_state.proofs.log_bytes.Texts.{length_is}
use Rattle.log_head.specs.Head.{HeadValue, IsHeadValue, digest_in, digest_of}
use Rattle.log_head.specs.Log.{head_of, start_of}
use Rattle.log_head.specs.Steps.{fresh_roll, with_roll}
use Rattle.log_head.proofs.RollLog.{digest_is, start_is}
use Rattle.log_head.specs.log_laws.Heads.{Start, digest_for, ids_of, len_next, lens_next, start_entries}
use Rattle.log_head.specs.log_laws.Heads.{head_entries}
use Rattle.log_head.specs.log_laws.Ids.{has, all_inserted, without}
use Rattle.master_state.specs.declared.failover.Failover.{Failover}
use Rattle.master_state.specs.declared.step.StepAnswer.TheVariants.{Rolling as RollingTo}
use Rattle.master_state.specs.Budget.{victims_of, survivors_of, is_ready}
use Rattle.master_state.specs.Causes.{roll_refusal}
use Rattle.master_state.specs.Data.{MasterData}
use Rattle.master_state.specs.Invariant.{IsCore}
use Rattle.master_state.specs.Ledger.{counts_in, shut_in, took_in}
use Rattle.master_state.specs.Log.{fail_config, opening_of, is_opened, is_headless, in_force, calm_mode, failing_mode}
use Rattle.master_state.specs.Log.{mode_of, log_of, state_now, images_of, memory_of}
use Rattle.master_state.specs.Steps.{BeginsRoll, MayRollNow, listed_in, start_now, rolling_data, next_now}
use Rattle.master_state.proofs.Passing.{has_among}
use Rattle.master_rolls.proofs.NextIds.{start_by, start_has}
use Rattle.master_state.proofs.SurvivorLens.{ids_listed_in, len_listed_in, survivor_there}
use Rattle.master_state.proofs.Refusals.{may_begin, open_parts}
use Rattle.master_state.proofs.Rising.{without_none}

-- a digest that has the ids in force less the victims, and the survivors, is a commit's
commit_digest : (start n : Start) (victims survivors : List ℕ)
    → n.others ≡ all_inserted survivors (without victims (ids_of start))
    → IsCommit start (record { victims = victims; survivors = survivors }) n
commit_digest start n victims survivors is = record {
  from = λ s m. elim (all_out survivors left s (subst (λ (ids : List ℕ). IsAmong s ids) is m)) [
    | inl l ↦ inl (without_from victims (ids_of start) s l)
    | inr l ↦ inr l
  ];
  stays = λ s m not. subst (λ (ids : List ℕ). IsAmong s ids) (sym is)
      (all_in survivors left s (inl (without_stays victims (ids_of start) s m not)));
  survivors = λ s m. subst (λ (ids : List ℕ). IsAmong s ids) (sym is) (all_in survivors left s (inr m));
} where
  left : List ℕ
  left = without victims (ids_of start)

-- an open head is in force while no failover is open
pub headed : (d : MasterData) → d.failover ≡ None → is_opened d.head ≡ true → is_headless d ≡ false
headed d calm opened = rw (calm, opened) refl

-- the next head of a roll or a failover, if a head is in force
module _ (d : MasterData) (core : IsCore d) (forced : is_headless d ≡ false) where
  -- the head in force
  abbrev head : FailHead
  head = record {
    start = (head_of d.head).start;
    loaded = (head_of d.head).loaded;
    units = (head_of d.head).units;
  }

  in_force_is : head ≡ (log_of d).head
  in_force_is = rw forced refl

  -- the image is the head's text, under the head's digest
  image_is : d.head.image ≡ head_entries d.config.master (head_of d.head) (length (head_of d.head).units)
  image_is = core.image.image

  digest_same : digest_in d.head.image ≡ digest_for head.start
  digest_same = ap digest_in image_is

  -- it has as many bytes as the model counts
  len_is : length (text_of d.head.image) ≡ length_of (front head (length head.units))
  len_is =
      ap (λ (es : List Entry). length (text_of es)) image_is
      ∙ length_is d.config.master head.start.id (front head (length head.units))

  abbrev len_at : FailHead → ℕ → ℕ
  len_at h s = len_next (digest_for h.start) h.start.id (length_of (front h (length h.units))) s

  len_same : (s : ℕ) → len_next (digest_in d.head.image) d.head.id (length (text_of d.head.image)) s ≡ len_at head s
  len_same s = λ i. len_next (digest_same i) (sym core.image.id i) (len_is i) s

  abbrev commit_len_at : FailHead → ℕ → ℕ
  commit_len_at h s = if has (survivors_of d.pass) s then length (text_of (images_of d s)) else len_at h s

  -- a survivor's length is that of its image
  survivor_same : (s : ℕ) → unwrap_or (len_in s (listed_in d.closed (survivors_of d.pass)))
      (len_next (digest_in d.head.image) d.head.id (length (text_of d.head.image)) s)
      ≡ commit_len_at head s
  survivor_same s =
      ap (λ (o : Option ℕ). unwrap_or o (len_next (digest_in d.head.image) d.head.id (length (text_of d.head.image)) s))
      (len_listed_in d.closed (survivors_of d.pass) s)
      ∙ go (has (survivors_of d.pass) s) refl
    where
      go : (b : Bool) → has (survivors_of d.pass) s ≡ b
          → unwrap_or (if b then Some (length (text_of (images_in d.closed s))) else None)
          (len_next (digest_in d.head.image) d.head.id (length (text_of d.head.image)) s)
          ≡ (if b then length (text_of (images_of d s)) else len_at head s)
      go true is = ap (λ (es : List Entry). length (text_of es))
          (sym (survivor_there d core s (has_among (survivors_of d.pass) s is)))
      go false is = len_same s

  -- there is a head, so the next digest lists its ids
  ids_are : ids_now head.start ≡ ids_of head.start
  ids_are =
      let real = core.real in
      let same = core.image.id in
      let test : (head.start.id == 0) ≡ false = grind (real, same, arith, nat_tests) in
      rw test refl

  ids_listed : digest_of d.head.image ≡ ids_now head.start
  ids_listed = digest_is d.config.master d.head (head_of d.head) core.image ∙ sym ids_are

  -- the next head after this one
  abbrev next_at : FailHead → Start
  next_at h = if is_ready d then record {
    id = d.next;
    others = all_inserted (survivors_of d.pass) (without (victims_of d.pass) (ids_now h.start));
    lens = lens_next (digest_for h.start) (commit_len_at h)
        (all_inserted (survivors_of d.pass) (without (victims_of d.pass) (ids_now h.start)));
    safe = (state_now d).safe;
  } else record {
    id = d.next;
    others = ids_now h.start;
    lens = lens_next (digest_for h.start) (len_at h) (ids_now h.start);
    safe = (state_now d).safe;
  }

  next_head : start_now d ≡ next_at head
  next_head =
      let listed = ids_listed_in d.closed (survivors_of d.pass) in
      λ i. if is_ready d then record {
        id = d.next;
        others = all_inserted (listed i) (without (victims_of d.pass) (ids_listed i));
        lens = lens_next (digest_same i) (λ s. survivor_same s i)
            (all_inserted (listed i) (without (victims_of d.pass) (ids_listed i)));
        safe = core.index.safe i;
      } else record {
        id = d.next;
        others = (without_none (digest_of d.head.image) ∙ ids_listed) i;
        lens = lens_next (digest_same i) (λ s. len_same s i)
            ((without_none (digest_of d.head.image) ∙ ids_listed) i);
        safe = core.index.safe i;
      }

  -- the next head is the one that the log's model says
  pub next_is : start_now d ≡ next_now d
  next_is = next_head ∙ ap next_at in_force_is

  pub next_id : (next_now d).id ≡ d.next
  next_id = sym (ap (λ (n : Start). n.id) next_is) ∙ start_id where
    start_id : (start_now d).id ≡ d.next
    start_id = go (is_ready d) where
      go : (t : Bool) → (start_by d t).id ≡ d.next
      go true = refl
      go false = refl

  pub is_commit : is_ready d ≡ true → IsCommit (log_of d).head.start (memory_of d).pass (next_now d)
  is_commit test =
      subst (λ (h : FailHead). IsCommit h.start (memory_of d).pass (next_now d)) in_force_is
      (commit_digest head.start (next_now d) (victims_of d.pass) (survivors_of d.pass) others)
    where
      others : (next_now d).others
          ≡ all_inserted (survivors_of d.pass) (without (victims_of d.pass) (ids_of head.start))
      others =
          ap (λ (h : FailHead). (next_at h).others) (sym in_force_is)
          ∙ (rw test (ap (λ (ids : List ℕ). all_inserted (survivors_of d.pass) (without (victims_of d.pass) ids))
          ids_are))

-- a roll begins
module _ (d : MasterData) (core : IsCore d) (calm : d.failover ≡ None) (opened : is_opened d.head ≡ true) where
  abbrev new : HeadValue
  new = with_roll d.head d.config.master (start_now d)

  mode_then : mode_of (rolling_data d) ≡ Rolls (next_now d)
  mode_then = ap (λ (o : Option Failover). option_map_or (failing_mode new) o (calm_mode new)) calm
      ∙ go (is_opened d.head) opened
    where
      go : (t : Bool) → t ≡ true → (if t then Rolls (start_of (fresh_roll d.config.master (start_now d)))
          else Rolls (head_of d.head).start) ≡ Rolls (next_now d)
      go true is =
          ap Rolls (start_is d.config.master (start_now d) (start_has d (is_ready d))
          ∙ next_is d core (headed d calm opened))
      go false is = absurd (cc)

  log_begun : log_of (rolling_data d) ≡ rolling (log_of d) (next_now d) (Rolls (next_now d))
  log_begun = λ i. record {
    config = fail_config d.config;
    opening = opening_of d;
    history = d.history;
    head = in_force d;
    counts = counts_in d.ledger;
    shut = shut_in d.ledger;
    mode = mode_then i;
    abandoned = d.abandoned;
    took = λ s. if s == sym (next_id d core (headed d calm opened)) i then [] else took_in d.ledger s;
    failed = d.failed;
    frozen = option_map_or (λ (f : Failover). f.frozen) d.failover 0;
    next = more i;
  } where
    more : d.next + 1 ≡ suc d.next
    more = rw add-one refl

module _ (d : MasterData) (core : IsCore d) (passed : roll_refusal d ≡ None)
    (valid : IsHeadValue (with_roll d.head d.config.master (start_now d))) where
  calm_now : d.failover ≡ None
  calm_now = (may_begin d passed).calm

  -- an open head was opened
  opened_now : is_opened d.head ≡ true
  opened_now =
      let all = (open_parts d.head (may_begin d passed).opened).0 in
      le-leb d.head.replicas (length d.head.taken) (omega arith)

  pub roll_begins : BeginsRoll d (RollingTo d.next) (rolling_data d)
  roll_begins = record { passed = passed; told = refl; log = log_begun d core calm_now opened_now; rest = refl }

  next : start_now d ≡ next_now d
  next = next_is d core (headed d calm_now opened_now)

  pub may_roll_now : MayRollNow d
  may_roll_now = record {
    opened = (may_begin d passed).opened;
    opening = record {
      segment = subst (λ (n : Start). IsSegment (start_entries d.config.master n)) next valid.roll.segment;
      limit = subst (λ (n : Start). length (text_of (start_entries d.config.master n)) ≤ 8388608) next
          valid.roll.limit;
    };
    commit = is_commit d core (headed d calm_now opened_now);
  }
