-- The head that the pushes of a roll end with.
use Rattle.std.proofs.Common.{◌≡◌, ◌≤◌, ℕ, zero, suc, Bool, true, false, List, length, refl, sym, ap, subst, inl, inr}
use Rattle.std.proofs.Common.{◌∙◌, arith}
use Rattle.std.proofs.lemmas.Bool.{and_parts}
use Rattle.std.proofs.lemmas.Option.{same_Some}
use Rattle.std.specs.Prelude.{Option, Some, None, is_none, not, ◌==◌, ◌&&◌, if◌then◌else◌, unwrap_or, ◌⊎◌}
use Rattle.std.specs.Prelude.{Result, Ok, Err, IfOk, IfErr, IfSome}
use Rattle.std.specs.Option.{option_map, option_map_or}
use Rattle.master.specs.log_head.declared.head.Roll.{Roll}
use Rattle.master.specs.log_head.declared.next.Next.{Next}
use Rattle.master.specs.log_head.declared.next.Next.TheVariants as next
use Rattle.master.specs.log_head.Head.{HeadValue, is_open}
use Rattle.master.specs.log_head.Steps.{fresh_roll, in_force, with_closed_replica, with_new_replica}
use Rattle.master.specs.log_head.Steps.{with_opened_replica}
use Rattle.master.specs.log_laws.Heads.{Start}
use Rattle.master.specs.master_failover.declared.push.Push.{Push as PushKind}
use Rattle.master.specs.master_failover.declared.push.Push.TheVariants as push
use Rattle.master.specs.master_failover.Mending.{IsInPart, IsNextMend, closed_more, mended_data, turn_roll}
use Rattle.master.specs.master_failover.Mending.{was_headless}
use Rattle.versioned_map.specs.declared.command.Record.{Record}
use Rattle.master.specs.master_state.declared.config.Config.{Config}
use Rattle.master.specs.master_state.declared.failover.Failover.{Failover}
use Rattle.master.specs.master_state.declared.failover.Part.{Part}
use Rattle.master.specs.master_state.declared.failover.Part.TheVariants as part
use Rattle.master.specs.master_state.declared.step.Refusal.{Refusal}
use Rattle.master.specs.master_state.declared.step.Refusal.TheVariants as refusal
use Rattle.master.specs.master_state.declared.step.Step.TheVariants.{BeginRoll, Push}
use Rattle.master.specs.master_state.declared.step.StepAnswer.{StepAnswer}
use Rattle.master.specs.master_state.Data.{MasterData}
use Rattle.master.specs.master_state.Budget.{is_ready, is_working}
use Rattle.master.specs.master_state.Causes.{roll_refusal}
use Rattle.master.specs.master_state.Steps.{start_now}
use Rattle.master.specs.Steps.{Accepts, Declines, Steps}
use Rattle.master.specs.World.{World}
use Rattle.master.proofs.PushKinds.{kinds}
use Rattle.driving.specs.Rolls.{Advances, ArePushed, PushesUntil, GoesRolling, HasTurned, IsRolled, IsNotRolled}
use Rattle.driving.proofs.Losses.{none_is, push_lost}
use Rattle.driving.proofs.MasterSteps.{accepted_fixed, nothing_waits, open_push}
use Rattle.driving.proofs.Outlines.{Outline, closed_more_outline, head_after, opened_head, outline, push_outline}
use Rattle.driving.proofs.Outlines.{pushed_outline, raised_outline, repairing, sealed_anew_outline, turned_is}
use Rattle.driving.proofs.Outlines.{turned_outline}

-- one push more
pub one_more : (from old new : World) → Advances Push old new → ((count : ℕ) × ArePushed count from old)
    → (count : ℕ) × ArePushed count from new
one_more from old new push (count, before) = (suc count, (old, before, push))

-- ---- where a roll leads

pub no_roll : (all : Bool) (o : Option Roll) → (all && is_none o) ≡ true → o ≡ None
no_roll true None e = refl
no_roll true (Some r) e = absurd (cc)
no_roll false o e = absurd (cc)

module _ (P : ℕ → Type 0) where
  -- a head with such an id is in force, or a roll to such a one is under way
  abbrev pub Leads : HeadValue → Type 0
  Leads h = ((h.roll ≡ None) × P h.id) ⊎ ((r : Roll) × (h.roll ≡ Some r) × P r.id)

  -- the roll is to such a head, if there is one
  rolls_to : (h : HeadValue) (r : Roll) → h.roll ≡ Some r → Leads h → P r.id
  rolls_to h r is (inl (none, at)) = let both = sym is ∙ none in absurd (cc)
  rolls_to h r is (inr (q, some, to)) = subst P (ap (λ (o : Option Roll). (unwrap_or o q).id) (sym some ∙ is)) to

  pub closing_leads : (h : HeadValue) (r : Roll) → P r.id → Leads (with_closed_replica h r)
  closing_leads h r to = go (suc r.closed == h.replicas)
    where
      go : (last : Bool)
          → Leads (if last then in_force h r else record h { roll = Some (record r { closed = suc r.closed }) })
      go true = inl (refl, to)
      go false = inr (record r { closed = suc r.closed }, refl, to)

  pub head_leads : (h : HeadValue) (push : Next) → Leads h → Leads (head_after h push)
  head_leads h (next.OpenFirst j) leads = leads
  head_leads h (next.Extend j) leads = leads
  head_leads h (next.OpenWhole j) leads = leads
  head_leads h (next.OpenNew j) leads = go h.roll refl
    where
      go : (o : Option Roll) → h.roll ≡ o → Leads (option_map_or (with_new_replica h) o h)
      go None is = leads
      go (Some r) is = inr (record r { opened = suc r.opened }, refl, rolls_to h r is leads)
  head_leads h (next.CloseOld j) leads = go h.roll refl
    where
      go : (o : Option Roll) → h.roll ≡ o → Leads (option_map_or (with_closed_replica h) o h)
      go None is = leads
      go (Some r) is = closing_leads h r (rolls_to h r is leads)

  opened_leads : (h : HeadValue) → Leads h → Leads (opened_head h)
  opened_leads h leads = go h.roll refl
    where
      go : (o : Option Roll) → h.roll ≡ o → Leads (option_map_or (with_new_replica h) o (with_opened_replica h))
      go None is = leads
      go (Some r) is = inr (record r { opened = suc r.opened }, refl, rolls_to h r is leads)

  -- an open head is the one that the roll led to
  pub at_head : (h : HeadValue) → is_open h ≡ true → Leads h → P h.id
  at_head h opened (inl (none, is)) = is
  at_head h opened (inr (r, some, to)) = let both = sym (no_roll _ h.roll opened) ∙ some in absurd (cc)

-- ---- parts of a failover

pub part_in : (d : MasterData) (p q : Part) → IsInPart d p → IsInPart d q → p ≡ q
part_in d p q (f, some, is) (g, also, same) =
    sym is ∙ ap (λ (x : Failover). x.part) (same_Some f g (sym some ∙ also)) ∙ same

-- a failover that is open has made its new head
abbrev Turned : Option Failover → Type 0
Turned o = IfSome o (λ (f : Failover). f.part ≡ part.Mends → ⊥)

unturned : (d : MasterData) → IsInPart d part.Mends → Turned d.failover → ⊥
unturned d (f, some, is) turned = subst Turned some turned is

turned_with : (p : Part) → (p ≡ part.Mends → ⊥) → (o : Option Failover)
    → Turned (option_map (λ (f : Failover). record f { part = p }) o)
turned_with p other None = tt
turned_with p other (Some f) = other

raised_turned : (first : Bool) (o : Option Failover)
    → Turned (if first then None else option_map (λ (f : Failover). record f { part = part.Closes }) o)
raised_turned true o = tt
raised_turned false o = turned_with part.Closes (λ e. cc) o

closes_turned : (last whole : Bool) (o : Option Failover) → Turned o
    → Turned (if last then repairing whole o else o)
closes_turned true true o turned = tt
closes_turned true false o turned = turned_with part.Repairs (λ e. cc) o
closes_turned false whole o turned = turned

ends_turned : (whole : Bool) (o : Option Failover) → Turned o → Turned (if whole then None else o)
ends_turned true o turned = tt
ends_turned false o turned = turned

-- ---- the head that a roll leads to, if no backup fails

-- such a head is in force or comes, and no other before it
abbrev IsLed : (ℕ → Type 0) → Outline → Type 0
IsLed P o = Turned o.failover × Leads P o.head

mend_led : (P : ℕ → Type 0) (d : MasterData) (m : PushKind) → IsNextMend d m → IsLed P (outline d)
    → IsLed P (outline (mended_data d m))
mend_led P d (push.Head (next.Extend j)) next led = absurd (unturned d next.0 led.0)
mend_led P d (push.Head (next.OpenWhole j)) next led = absurd (unturned d next.0 led.0)
mend_led P d push.Turn next led = absurd (unturned d next.0 led.0)
mend_led P d (push.Head (next.OpenNew j)) next led = (led.0, opened_leads P d.head led.1)
mend_led P d (push.Head (next.OpenFirst j)) next led = (led.0, opened_leads P d.head led.1)
mend_led P d (push.Raise id) next led =
    subst (IsLed P) (sym (raised_outline d)) (raised_turned (was_headless d) d.failover, led.1)
mend_led P d (push.Head (next.CloseOld j)) next led = go d.head.roll refl
  where
    go : (o : Option Roll) → d.head.roll ≡ o → IsLed P (outline (option_map_or (closed_more d j) o d))
    go None is = led
    go (Some r) is =
        let (whole, closed) = closed_more_outline d j r in
        subst (IsLed P) (sym closed) (
          closes_turned (suc j == d.config.replicas) whole d.failover led.0,
          closing_leads P d.head r (rolls_to P d.head r is led.1),
        )
mend_led P d (push.Repair s j) next led =
    let (whole, sealed) = sealed_anew_outline d s j in
    subst (IsLed P) (sym sealed) (ends_turned whole d.failover led.0, led.1)

accepted_led : (P : ℕ → Type 0) (old new : World) (a : StepAnswer) → Accepts old Push a new
    → IsLed P (outline old.knows) → IsLed P (outline new.knows)
accepted_led P old new a accepts led = elim (kinds old a new accepts) as (λ _. IsLed P (outline new.knows)) [
  | inl push ↦ subst (IsLed P) (sym (ap outline push.rest ∙ push_outline old.knows push.push))
      (led.0, head_leads P old.knows.head push.push led.1)
  | inr push ↦ subst (IsLed P) (sym (ap outline push.rest)) (mend_led P old.knows push.mend push.next led)
]

-- so it is as long as no more backups have failed
abbrev IsLedFrom : ℕ → (ℕ → Type 0) → World → Type 0
IsLedFrom failed P w =
    (failed ≤ length w.knows.failed) × (length w.knows.failed ≡ failed → IsLed P (outline w.knows))

push_led : (failed : ℕ) (P : ℕ → Type 0) (old new : World) → Advances Push old new → IsLedFrom failed P old
    → IsLedFrom failed P new
push_led failed P old new (inl (a, push)) (most, led) =
    let same = ap (λ (f : Config × List Record × List ℕ). length f.2) (accepted_fixed old new a push) in (
      omega arith,
      λ is. accepted_led P old new a push (led (omega arith)),
    )
push_led failed P old new (inr (b, push)) (most, led) =
    let more = ap (λ (d : MasterData). length d.failed) (push_lost old new b push).knows in
    (omega arith, λ is. absurd (omega arith))

pushes_led : (failed : ℕ) (P : ℕ → Type 0) (count : ℕ) (old new : World) → ArePushed count old new
    → IsLedFrom failed P old → IsLedFrom failed P new
pushes_led failed P zero old new same led = subst (IsLedFrom failed P) (sym same) led
pushes_led failed P (suc count) old new (mid, before, push) led =
    push_led failed P mid new push (pushes_led failed P count old mid before led)

-- ---- the head that a roll leads to, whatever fails

-- a head with an id from this one on is in force, or comes by a roll or by the failover that is open
abbrev IsPast : ℕ → Outline → Type 0
IsPast n o = (n ≤ o.next) × (Leads (λ i. n ≤ i) o.head
    ⊎ ((o.head.roll ≡ None) × (f : Failover) × (o.failover ≡ Some f) × (f.part ≡ part.Mends)))

-- a roll, or the commit of a pass, begins with the next id
pub next_id : (d : MasterData) → (start_now d).id ≡ d.next
next_id d = go (is_ready d) _ _ refl refl
  where
    go : (ready : Bool) (commit next : Start) → commit.id ≡ d.next → next.id ≡ d.next
        → (if ready then commit else next).id ≡ d.next
    go true commit next one other = one
    go false commit next one other = other

-- the failover is in another part than that in which its new head is to come
past_later : (n : ℕ) (d : MasterData) (p : Part) → IsInPart d p → (p ≡ part.Mends → ⊥) → IsPast n (outline d)
    → Leads (λ i. n ≤ i) d.head
past_later n d p in_part other (most, inl leads) = leads
past_later n d p in_part other (most, inr (none, f, some, is)) =
    absurd (other (part_in d p part.Mends in_part (f, some, is)))

mend_past : (n : ℕ) (d : MasterData) (m : PushKind) → IsNextMend d m → IsPast n (outline d)
    → IsPast n (outline (mended_data d m))
mend_past n d (push.Head (next.Extend j)) next (most, inl leads) = (most, inl leads)
mend_past n d (push.Head (next.Extend j)) next (most, inr mends) = (most, inr mends)
mend_past n d (push.Head (next.OpenWhole j)) next (most, inl leads) = (most, inl leads)
mend_past n d (push.Head (next.OpenWhole j)) next (most, inr mends) = (most, inr mends)
mend_past n d push.Turn next past =
    subst (IsPast n) (sym (ap (λ (o : Outline). record o { head = opened_head o.head }) (turned_is d)))
    (go (was_headless d))
  where
    go : (first : Bool)
        → IsPast n (record (turned_outline d first) { head = opened_head (turned_outline d first).head })
    go true = (let most = past.0 in omega arith, inl (inl (refl, past.0)))
    go false = (
      let most = past.0 in omega arith,
      inl (inr (
        record (turn_roll d) { opened = suc (turn_roll d).opened },
        refl,
        subst (λ (i : ℕ). n ≤ i) (sym (next_id d)) past.0,
      )),
    )
mend_past n d (push.Head (next.OpenNew j)) next past =
    (past.0, inl (opened_leads _ d.head (past_later n d part.Opens next.0.0 (λ e. cc) past)))
mend_past n d (push.Head (next.OpenFirst j)) next past =
    (past.0, inl (opened_leads _ d.head (past_later n d part.Opens next.0.0 (λ e. cc) past)))
mend_past n d (push.Raise id) next past =
    subst (IsPast n) (sym (raised_outline d)) (past.0, inl (past_later n d part.Opens next.0 (λ e. cc) past))
mend_past n d (push.Head (next.CloseOld j)) next past = go d.head.roll refl
  where
    leads : Leads (λ i. n ≤ i) d.head
    leads = past_later n d part.Closes next.0 (λ e. cc) past

    go : (o : Option Roll) → d.head.roll ≡ o → IsPast n (outline (option_map_or (closed_more d j) o d))
    go None is = past
    go (Some r) is = subst (IsPast n) (sym (closed_more_outline d j r).1)
        (past.0, inl (closing_leads _ d.head r (rolls_to _ d.head r is leads)))
mend_past n d (push.Repair s j) next past =
    subst (IsPast n) (sym (sealed_anew_outline d s j).1)
    (past.0, inl (past_later n d part.Repairs next.0 (λ e. cc) past))

pushed_past : (n : ℕ) (o : Outline) (push : Next) → o.failover ≡ None → IsPast n o → IsPast n (pushed_outline o push)
pushed_past n o push calm (most, inl leads) = (most, inl (head_leads _ o.head push leads))
pushed_past n o push calm (most, inr (none, f, some, is)) = let never = sym calm ∙ some in absurd (cc)

push_past : (n : ℕ) (old new : World) → Advances Push old new → IsPast n (outline old.knows)
    → IsPast n (outline new.knows)
push_past n old new (inl (a, accepts)) past = elim (kinds old a new accepts) as (λ _. IsPast n (outline new.knows)) [
  | inl push ↦ subst (IsPast n) (sym (ap outline push.rest ∙ push_outline old.knows push.push))
      (pushed_past n (outline old.knows) push.push push.calm past)
  | inr push ↦ subst (IsPast n) (sym (ap outline push.rest)) (mend_past n old.knows push.mend push.next past)
]
push_past n old new (inr (b, push)) past =
    subst (IsPast n) (sym (ap outline (push_lost old new b push).knows)) (past.0, inr (refl, _, refl, refl))

pushes_past : (n count : ℕ) (old new : World) → ArePushed count old new → IsPast n (outline old.knows)
    → IsPast n (outline new.knows)
pushes_past n zero old new same past = subst (λ (w : World). IsPast n (outline w.knows)) (sym same) past
pushes_past n (suc count) old new (mid, before, push) past =
    push_past n mid new push (pushes_past n count old mid before past)

-- ---- once nothing waits

-- the head is open, and no failover is
pub last_works : (old new : World) → PushesUntil old refusal.Nothing new → is_working new.knows ≡ true
last_works old new (count, last, pushed, stops, lost) = open_push last new refusal.Nothing stops refl

pub works_parts : (d : MasterData) → is_working d ≡ true → (is_open d.head ≡ true) × (d.failover ≡ None)
works_parts d works =
    let both = and_parts (is_open d.head) (is_none d.failover) works in
    (both.0, none_is d.failover both.1)

ends_led : (P : ℕ → Type 0) (old new : World) → PushesUntil old refusal.Nothing new
    → IsLed P (outline old.knows) → length new.knows.failed ≡ length old.knows.failed → P new.knows.head.id
ends_led P old new (count, last, pushed, stops, lost) led same =
    let done = nothing_waits last new stops in
    let opened = (works_parts new.knows (open_push last new refusal.Nothing stops refl)).0 in
    let all = subst (IsLedFrom (length old.knows.failed) P) (sym done.0)
    (pushes_led (length old.knows.failed) P count old last pushed (omega arith, λ is. led)) in
    at_head P new.knows.head opened (all.1 same).1

ends_past : (n : ℕ) (old new : World) → PushesUntil old refusal.Nothing new → IsPast n (outline old.knows)
    → n ≤ new.knows.head.id
ends_past n old new (count, last, pushed, stops, lost) past =
    let done = nothing_waits last new stops in
    let works = works_parts new.knows (open_push last new refusal.Nothing stops refl) in
    go works.0 works.1 (subst (λ (w : World). IsPast n (outline w.knows)) (sym done.0)
    (pushes_past n count old last pushed past))
  where
    go : is_open new.knows.head ≡ true → new.knows.failover ≡ None → IsPast n (outline new.knows)
        → n ≤ new.knows.head.id
    go opened calm (most, inl leads) = at_head (λ i. n ≤ i) new.knows.head opened leads
    go opened calm (most, inr (none, f, some, is)) = let never = sym calm ∙ some in absurd (cc)

-- ---- from the begin of a roll to its end

-- what the test of a roll lets pass
roll_tested : (halted works spent may : Bool)
    → (if halted then Some refusal.Halted else if not works then Some refusal.Rolling
    else if spent then Some refusal.SegmentsSpent else if may then Some refusal.Full else None) ≡ None → works ≡ true
roll_tested true works spent may e = absurd (cc)
roll_tested false true spent may e = refl
roll_tested false false spent may e = absurd (cc)

pub begins_working : (d : MasterData) → roll_refusal d ≡ None → is_working d ≡ true
begins_working d passed = roll_tested d.is_halted (is_working d) _ _ passed

-- a roll begins at an open head, if no failover is open
pub begins_now : (old mid : World) → GoesRolling old mid → is_working old.knows ≡ true
    → (a : StepAnswer) × Accepts old BeginRoll a mid
begins_now old mid (inl begins) works = begins
begins_now old mid (inr (same, inl test)) works =
    absurd (tested old.knows.is_halted (is_working old.knows) _ _ works test)
  where
    tested : (halted works spent may : Bool) → works ≡ true
        → (if halted then Some refusal.Halted else if not works then Some refusal.Rolling
        else if spent then Some refusal.SegmentsSpent else if may then Some refusal.Full else None)
        ≡ Some refusal.Rolling → ⊥
    tested true works spent may is e = cc
    tested false false spent may is e = cc
    tested false true true may is e = cc
    tested false true false true is e = cc
    tested false true false false is e = cc
begins_now old mid (inr (same, inr memory)) works = let both = memory.1 in absurd (cc)

module _ (old mid new : World) (rolling : GoesRolling old mid) (pushed : PushesUntil mid refusal.Nothing new) where
  -- a roll that begins leads to the next id
  next_led : is_working old.knows ≡ true → IsLed (λ i. i ≡ old.knows.next) (outline mid.knows)
  next_led works =
      let begins = (begins_now old mid rolling works).1.0 in (
        subst Turned (sym (ap (λ (d : MasterData). d.failover) begins.rest ∙ (works_parts old.knows works).1)) tt,
        inr (
          fresh_roll old.knows.config.master (start_now old.knows),
          ap (λ (d : MasterData). d.head.roll) begins.rest,
          next_id old.knows,
        ),
      )

  next_past : is_working old.knows ≡ true → IsPast old.knows.next (outline mid.knows)
  next_past works =
      let begins = (begins_now old mid rolling works).1.0 in
      let one = ap (λ (d : MasterData). d.next) begins.rest in
      let id = next_id old.knows in (
        omega arith,
        inl (inr (
          fresh_roll old.knows.config.master (start_now old.knows),
          ap (λ (d : MasterData). d.head.roll) begins.rest,
          subst (λ (i : ℕ). old.knows.next ≤ i) (sym id) (omega arith),
        )),
      )

  -- a roll begins where none is under way
  begins_free : (r : Roll) → old.knows.head.roll ≡ Some r → GoesRolling old mid → mid ≡ old
  begins_free r is (inl (a, begins)) =
      let works = works_parts old.knows (begins_working old.knows begins.0.passed) in
      let never = sym (no_roll _ old.knows.head.roll works.0) ∙ is in
      absurd (cc)
  begins_free r is (inr (same, why)) = same

  -- one that is under way leads to its own
  awaited_led : HasTurned old.knows → (r : Roll) → old.knows.head.roll ≡ Some r
      → IsLed (λ i. i ≡ r.id) (outline mid.knows)
  awaited_led turned r is = subst (λ (w : World). IsLed (λ i. i ≡ r.id) (outline w.knows))
      (sym (begins_free r is rolling)) (turned, inr (r, is, refl))

  -- no backup fails in the begin
  begin_failed : GoesRolling old mid → length mid.knows.failed ≡ length old.knows.failed
  begin_failed (inl (a, begins)) = ap (λ (d : MasterData). length d.failed) begins.0.rest
  begin_failed (inr (same, why)) = ap (λ (w : World). length w.knows.failed) same

  same_failed : new.knows.failed ≡ old.knows.failed → length new.knows.failed ≡ length mid.knows.failed
  same_failed calm = ap length calm ∙ sym (begin_failed rolling)

  rolled : IsRolled old new.knows.head.id new
  rolled = record {
    mid = mid;
    rolling = rolling;
    pushed = pushed;
    opened = (works_parts new.knows (last_works mid new pushed)).0;
    calm = (works_parts new.knows (last_works mid new pushed)).1;
    head = refl;
    later = λ works. ends_past old.knows.next mid new pushed (next_past works);
    next = λ calm works. ends_led (λ i. i ≡ old.knows.next) mid new pushed (next_led works) (same_failed calm);
    awaited = λ calm turned r is.
        ends_led (λ i. i ≡ r.id) mid new pushed (awaited_led turned r is) (same_failed calm);
  }

-- ---- a roll, by what its begin and its pushes answered

pub begun : (old mid : World) (r : Result StepAnswer Refusal) (a : StepAnswer) → r ≡ Ok a → Steps old BeginRoll r mid
    → GoesRolling old mid
begun old mid r a is begins =
    inl (a, subst (λ (x : Result StepAnswer Refusal). Steps old BeginRoll x mid) is begins)

pub under_way : (old mid : World) (r : Refusal) → r ≡ refusal.Rolling → Declines old BeginRoll r mid
    → GoesRolling old mid
under_way old mid r is declines = inr (subst (λ (x : Refusal). Declines old BeginRoll x mid) is declines)

pub all_rolled : (old mid new : World) (result : Result (Unit {0}) Refusal) → GoesRolling old mid
    → IfOk result (λ _. PushesUntil mid refusal.Nothing new)
    → IfOk result (λ _. IsRolled old new.knows.head.id new)
all_rolled old mid new (Ok done) rolling pushed = rolled old mid new rolling pushed
all_rolled old mid new (Err r) rolling pushed = tt

pub none_rolled : (old mid new : World) (result : Result (Unit {0}) Refusal) → GoesRolling old mid
    → IfErr result (λ r. PushesUntil mid r new)
    → IfErr result (λ r. r ≡ refusal.Nothing → ⊥) → IfErr result (λ r. IsNotRolled old r new)
none_rolled old mid new (Ok done) rolling pushed waits = tt
none_rolled old mid new (Err r) rolling pushed waits = inr (mid, rolling, pushed, waits)
