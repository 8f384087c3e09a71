-- What a push of a failover leaves as it was, and that no record is durable no more.
use Rattle.std.proofs.Common.{◌≡◌, ℕ, suc, ◌+◌, ◌≤◌, ◌⊎◌, inl, inr, Bool, true, false, List, [], ◌∷◌, length, refl, sym}
use Rattle.std.proofs.Common.{ap, subst, ◌∙◌, arith}
use Rattle.std.specs.Prelude.{Option, Some, None, is_none, ◌==◌, if◌then◌else◌}
use Rattle.std.specs.Option.{option_map, option_map_or}
use Rattle.std.proofs.lemmas.Option.{same_Some}
use Rattle.master_core.specs.cleaner.declared.pass.Pass.{Pass}
use Rattle.master_core.specs.cleaner.Passes.{is_ready as is_ready_pass}
use Rattle.images.specs.Sorted.{changed}
use Rattle.images.specs.Steps.{more_replicas}
use Rattle.log_head.specs.declared.head.Roll.{Roll}
use Rattle.log_head.specs.declared.next.Next.TheVariants as next
use Rattle.log_head.specs.Log.{head_of}
use Rattle.log_head.specs.Steps.{lone_start, fresh_head}
use Rattle.log_head.proofs.HeadLog.{count_is}
use Rattle.log_head.specs.log_laws.Heads.{LogUnit}
use Rattle.master_core.specs.log_laws.Data.{Head as FailHead, Calm, Rolls, Closes, Repairs, FailData, is_failing}
use Rattle.master_core.specs.log_laws.Data.{taken_records, durable_of}
use Rattle.master_core.specs.log_laws.Shown.{Op}
use Rattle.master_core.specs.log_laws.Steps.{ended, mended, with_taken}
use Rattle.master_core.specs.master_failover.declared.push.Push.{Push}
use Rattle.master_core.specs.master_failover.declared.push.Push.TheVariants as push
use Rattle.master_core.specs.master_failover.Mending.{IsInPart, IsNextMend, was_headless, opening, turned_data}
use Rattle.master_core.specs.master_failover.Mending.{raised_data, first_lost, repaired_data, with_part, closed_more}
use Rattle.master_core.specs.master_failover.Mending.{mended_data, turn_roll, backup_for}
use Rattle.master_core.specs.master_state.declared.failover.Failover.{Failover}
use Rattle.master_core.specs.master_state.declared.failover.Part.TheVariants as part
use Rattle.master_core.specs.master_state.declared.ledger.Posting.TheVariants as posting
use Rattle.master_core.specs.master_state.Data.{MasterData}
use Rattle.master_core.specs.master_state.Invariant.{IsCore}
use Rattle.master_core.specs.master_state.Log.{home, log_of}
use Rattle.master_core.specs.master_state.Steps.{closed_data}
use Rattle.master.specs.Pushes.{IsMended, IsOnward, IsMendOp}
use Rattle.master.proofs.InForce.{headed_or, fails, failover_of, force_headed, force_headless}
use Rattle.master.proofs.PushedRest.{SameRest, closed_rest, same_rest}

-- ---- the configuration, the history and what was loaded

rest_on : (c b a : MasterData) → SameRest c b → SameRest b a → SameRest c a
rest_on c b a later first = (
  later.0 ∙ first.0,
  later.1 ∙ first.1,
  later.2 ∙ first.2,
  later.3 ∙ first.3,
  later.4 ∙ first.4,
  later.5 ∙ first.5,
)

-- the new head takes the place of the first, or a roll to it begins
abbrev turned_by : MasterData → Bool → MasterData
turned_by d t =
    if t then record d {
      head = fresh_head d.config.master d.config.replicas (lone_start d.next d.config.format d.safe);
      next = d.next + 1;
      failover = option_map opening d.failover;
      ledger = posting.Began d.next ∷ d.ledger;
    } else record d {
      head = record d.head { roll = Some (turn_roll d) };
      next = d.next + 1;
      pass =
          option_map (λ (p : Pass). record p { is_committing = is_ready_pass d.config.replicas d.closed p }) d.pass;
      failover = option_map opening d.failover;
      ledger = posting.Began d.next ∷ d.ledger;
    }

pub turned_rest : (d : MasterData) → SameRest (turned_data d) d
turned_rest d = go (was_headless d) where
  go : (t : Bool) → SameRest (turned_by d t) d
  go true = (refl, refl, refl, refl, refl, refl)
  go false = (refl, refl, refl, refl, refl, refl)

raised_rest : (d : MasterData) → SameRest (raised_data d) d
raised_rest d = go (was_headless d) where
  gives : Bool → MasterData
  gives t =
      if t then record d { failover = None; abandoned = []; ledger = posting.Ended ∷ d.ledger }
      else with_part d part.Closes

  go : (t : Bool) → SameRest (gives t) d
  go true = (refl, refl, refl, refl, refl, refl)
  go false = (refl, refl, refl, refl, refl, refl)

repaired_rest : (d : MasterData) → SameRest (repaired_data d) d
repaired_rest d = go (is_none (first_lost d)) where
  gives : Bool → MasterData
  gives t = if t then record d { failover = None } else d

  go : (t : Bool) → SameRest (gives t) d
  go true = (refl, refl, refl, refl, refl, refl)
  go false = (refl, refl, refl, refl, refl, refl)

closed_more_rest : (d : MasterData) (j : ℕ) (r : Roll) → SameRest (closed_more d j r) d
closed_more_rest d j r = go (suc j == d.config.replicas) where
  before : MasterData
  before = record d { ledger = posting.Shut (home d.config d.failed d.head.id j) ∷ d.ledger }

  e : MasterData
  e = closed_data before r

  last : MasterData
  last = with_part (record e { abandoned = []; ledger = posting.Ended ∷ e.ledger }) part.Repairs

  closed : SameRest e d
  closed = closed_rest before r

  gives : Bool → MasterData
  gives t = if t then repaired_data last else e

  go : (t : Bool) → SameRest (gives t) d
  go true = rest_on (repaired_data last) e d (repaired_rest last) closed
  go false = closed

pub mended_rest : (d : MasterData) (m : Push) → SameRest (mended_data d m) d
mended_rest d (push.Head (next.Extend j)) = same_rest d (next.Extend j)
mended_rest d (push.Head (next.OpenWhole j)) = same_rest d (next.OpenWhole j)
mended_rest d push.Turn = turned_rest d
mended_rest d (push.Head (next.OpenNew j)) = (refl, refl, refl, refl, refl, refl)
mended_rest d (push.Head (next.OpenFirst j)) = (refl, refl, refl, refl, refl, refl)
mended_rest d (push.Raise id) = raised_rest d
mended_rest d (push.Head (next.CloseOld j)) = go d.head.roll where
  gives : Option Roll → MasterData
  gives o = option_map_or (closed_more d j) o d

  go : (o : Option Roll) → SameRest (gives o) d
  go None = (refl, refl, refl, refl, refl, refl)
  go (Some r) = closed_more_rest d j r
mended_rest d (push.Repair s j) = repaired_rest (record d {
  closed = changed d.closed s more_replicas;
  ledger = posting.Took s (home d.config d.failed s j) ∷ d.ledger;
})

-- ---- what is durable

-- while a failover is open the count stays
pub frozen_is : (d : MasterData) (f : Failover) → d.failover ≡ Some f → durable_of (log_of d) ≡ f.frozen
frozen_is d f is =
    ap (λ (b : Bool). if b then (log_of d).frozen else taken_records (log_of d)) (fails d f is)
    ∙ ap (λ (o : Option Failover). option_map_or (λ (g : Failover). g.frozen) o 0) is

-- also once the new head is made
pub turned_durable : (d : MasterData) (f : Failover) → d.failover ≡ Some f
    → durable_of (log_of (turned_data d)) ≡ durable_of (log_of d)
turned_durable d f is =
    frozen_is (turned_data d) (opening f) (failover_then ∙ ap (option_map opening) is) ∙ sym (frozen_is d f is)
  where
    failover_then : (turned_data d).failover ≡ option_map opening d.failover
    failover_then = go (was_headless d) where
      go : (t : Bool) → (turned_by d t).failover ≡ option_map opening d.failover
      go true = refl
      go false = refl

-- by the log alone
pub failing_is : (l : FailData) → is_failing l.mode ≡ true → durable_of l ≡ l.frozen
failing_is l is = ap (λ (b : Bool). if b then l.frozen else taken_records l) is

-- while lost replicas are sealed anew the head in force has no unit
abbrev NoUnits : FailData → Type 0
NoUnits l = l.mode ≡ Repairs → l.head.units ≡ []

module _ (mid : FailData) (failing : is_failing mid.mode ≡ true) (within : mid.frozen ≤ length mid.history)
    (none : NoUnits mid) where
  -- with the end of the failover all is durable
  pub mended_keeps : (e : FailData) → IsMended mid e → mid.frozen ≤ durable_of e
  mended_keeps e (inl same) =
      subst (λ (x : FailData). mid.frozen ≤ durable_of x) (sym same)
      (let is = failing_is mid failing in omega (arith, is))
  mended_keeps e (inr last) =
      subst (λ (x : FailData). mid.frozen ≤ durable_of x) (sym last.2)
      (let all : durable_of (mended mid) ≡ length mid.history =
      ap (λ (us : List LogUnit). durable_of (mended (record mid { head = record mid.head { units = us } })))
      (none last.0) in omega (arith, all, within))

module _ (mid : FailData) (failing : is_failing mid.mode ≡ true) (within : mid.frozen ≤ length mid.history)
    (none : NoUnits mid) where
  pub onward_keeps : (e : FailData) → IsOnward mid e → mid.frozen ≤ durable_of e
  onward_keeps e (inl is) = mended_keeps mid failing within none e is
  onward_keeps e (inr (n, mode, ends, is)) = by_mode ends.may where
    by_mode : ((mid.mode ≡ Rolls n) × (mode ≡ Calm)) ⊎ ((mid.mode ≡ Closes n) × (mode ≡ Repairs))
        → mid.frozen ≤ durable_of e
    by_mode (inl roll) = absurd (let never : true ≡ false = sym failing ∙ ap is_failing roll.0 in cc)
    by_mode (inr closes) =
        mended_keeps (ended mid n mode) (ap is_failing closes.1) within (λ repairs. refl) e is

-- the count as a failover began is of records that there are
module _ (d : MasterData) (core : IsCore d) (f : Failover) (open_now : d.failover ≡ Some f)
    (within : (log_of d).frozen ≤ length d.history) where
  failing : is_failing (log_of d).mode ≡ true
  failing = fails d f open_now

  was : durable_of (log_of d) ≡ (log_of d).frozen
  was = failing_is (log_of d) failing

  more : (e : FailData) → (log_of d).frozen ≤ durable_of e → durable_of (log_of d) ≤ durable_of e
  more e le = omega (arith, was, le)

  same : (e : FailData) → is_failing e.mode ≡ true → e.frozen ≡ (log_of d).frozen
      → durable_of (log_of d) ≤ durable_of e
  same e is frozen = let now = failing_is e is in omega (arith, was, now, frozen)

  no_units : f.part ≡ part.Repairs → (log_of d).head.units ≡ []
  no_units repairs = elim (headed_or d) as (λ _. (log_of d).head.units ≡ []) [
    | inl is ↦ ap (λ (h : FailHead). h.units) (force_headed d is) ∙ none (head_of d.head).units
        (sym (count_is d.config.master d.head (head_of d.head) core.image)
        ∙ ap (λ (us : List _). length us) ((failover_of d core f open_now).repairs repairs).4)
    | inr is ↦ ap (λ (h : FailHead). h.units) (force_headless d is)
  ] where
    none : (us : List LogUnit) → length us ≡ 0 → us ≡ []
    none [] is = refl
    none (u ∷ us) is = absurd (cc)

  pub mend_durable : (m : Push) (o : Op) (e : FailData) → IsNextMend d m → IsMendOp d m o e
      → durable_of (log_of d) ≤ durable_of e
  mend_durable (push.Head (next.Extend j)) o e next is =
      same e (ap (λ (x : FailData). is_failing x.mode) is.gives ∙ failing) (ap (λ (x : FailData). x.frozen) is.gives)
  mend_durable (push.Head (next.OpenWhole j)) o e next is =
      same e (ap (λ (x : FailData). is_failing x.mode) is.gives ∙ failing) (ap (λ (x : FailData). x.frozen) is.gives)
  mend_durable push.Turn o e next (n, is) =
      same e (ap (λ (x : FailData). is_failing x.mode) is.gives) (ap (λ (x : FailData). x.frozen) is.gives)
  mend_durable (push.Head (next.OpenNew j)) o e next is =
      same e (ap (λ (x : FailData). is_failing x.mode) is.gives ∙ failing) (ap (λ (x : FailData). x.frozen) is.gives)
  mend_durable (push.Head (next.OpenFirst j)) o e next is =
      same e (ap (λ (x : FailData). is_failing x.mode) is.gives ∙ failing) (ap (λ (x : FailData). x.frozen) is.gives)
  mend_durable (push.Raise id) o e next (mid, is, on) =
      let closes : mid.mode ≡ Closes is.n = ap (λ (x : FailData). x.mode) is.gives in
      let frozen : mid.frozen ≡ (log_of d).frozen = ap (λ (x : FailData). x.frozen) is.gives in
      let all : length mid.history ≡ length d.history = ap (λ (x : FailData). length x.history) is.gives in
      let le = onward_keeps mid (ap is_failing closes) (omega (arith, frozen, all, within))
      (λ repairs. absurd (let never = sym closes ∙ repairs in cc)) e on in
      more e (omega (arith, le, frozen))
  mend_durable (push.Head (next.CloseOld j)) o e next (mid, is, on) =
      let mode : mid.mode ≡ (log_of d).mode = ap (λ (x : FailData). x.mode) is.gives in
      let frozen : mid.frozen ≡ (log_of d).frozen = ap (λ (x : FailData). x.frozen) is.gives in
      let all : length mid.history ≡ length d.history = ap (λ (x : FailData). length x.history) is.gives in
      let le = onward_keeps mid (ap is_failing mode ∙ failing) (omega (arith, frozen, all, within))
      (λ repairs. absurd (other is.mode (sym mode ∙ repairs))) e on in
      more e (omega (arith, le, frozen))
    where
      other : ((log_of d).mode ≡ Rolls is.n) ⊎ ((log_of d).mode ≡ Closes is.n) → (log_of d).mode ≡ Repairs → ⊥
      other (inl roll) repairs = (let never = sym roll ∙ repairs in cc)
      other (inr closes) repairs = (let never = sym closes ∙ repairs in cc)
  mend_durable (push.Repair s j) o e next is =
      more e (mended_keeps (record (log_of d) {
        took = with_taken (log_of d).took s (backup_for d (push.Repair s j));
      }) failing within (λ repairs. no_units (in_repairs next.0)) e is.2)
    where
      in_repairs : IsInPart d part.Repairs → f.part ≡ part.Repairs
      in_repairs (g, some, is) = ap (λ (x : Failover). x.part) (same_Some f g (sym open_now ∙ some)) ∙ is
