-- No event lowers the durable count.
use Rattle.std.proofs.Common.{◌≡◌, ℕ, ◌≤◌, inl, inr, true, false, ◌∷◌, length, Some, refl, sym, ap, subst, ◌∙◌, arith}
use Rattle.std.proofs.lemmas.Bool.{cases_Bool}
use Rattle.log_laws.proofs.Counts.{before_le, before_rise}
use Rattle.log_laws.specs.Shown.{Shown, Op, taken}
use Rattle.log_laws.specs.Data.{Closes, FailData, new_of, is_failing, before, everywhere, taken_records}
use Rattle.log_laws.specs.Data.{durable_of}
use Rattle.log_laws.specs.Log.{Texts, IsStanding, IsKept}
use Rattle.log_laws.specs.Steps.{with_taken, with_count, applied, rolling, ended, id_taken}
use Rattle.log_laws.specs.Runs.{IsNext, World, Applies, Turns, TakesId, Ends, Mended, Takes, Fails, Halts}
use Rattle.log_laws.specs.Runs.{DurableStays, DurableIsWithin}
use Rattle.log_laws.proofs.Again.{recounted}
use Rattle.log_laws.proofs.HeadOps.{extend_longer, everywhere_grows}
use Rattle.log_laws.proofs.Lists.{both_ways}
use Rattle.log_laws.proofs.Opening.{everywhere_apart}
use Rattle.log_laws.proofs.Applying.{records_grow}
use Rattle.log_laws.proofs.States.{durable_taken}
use Rattle.log_laws.proofs.NewIds as ids
use Rattle.log_laws.proofs.Rolling as rolls

-- while no failover is open the count goes by what was taken, else it stays
durable_from : (d e : FailData) → is_failing e.mode ≡ is_failing d.mode → e.frozen ≡ d.frozen
    → (is_failing d.mode ≡ false → taken_records d ≤ taken_records e) → durable_of d ≤ durable_of e
durable_from d e same frozen grows = elim (cases_Bool (is_failing d.mode)) as (λ _. durable_of d ≤ durable_of e) [
  | inl fails ↦ (
      let old : durable_of d ≡ d.frozen = rw fails refl in
      let also : is_failing e.mode ≡ true = same ∙ fails in
      let new : durable_of e ≡ e.frozen = rw also refl in omega arith)
  | inr works ↦ (
      let old : durable_of d ≡ taken_records d = rw works refl in
      let also : is_failing e.mode ≡ false = same ∙ works in
      let new : durable_of e ≡ taken_records e = rw also refl in
      let le = grows works in omega arith)
]

records_within : (d : FailData) (texts : Texts) → IsStanding d texts → taken_records d ≤ length d.history
records_within d texts standing = before_le 0 d.head.units (length d.history) (everywhere d) standing.numbers

pub durable_is_within : DurableIsWithin
durable_is_within d p kept =
    let one = durable_taken d kept.texts kept.standing in
    let two = records_within d kept.texts kept.standing in omega arith

-- if all backups of the head took no fewer, no fewer records are before the first that some didn't take
records_from : (d e : FailData) (texts : Texts) → IsStanding d texts → before e ≡ before d
    → everywhere d ≤ everywhere e → taken_records d ≤ taken_records e
records_from d e texts standing same le =
    let rise = before_rise 0 d.head.units (length d.history) (everywhere d) (everywhere e) standing.numbers le in
    let at = ap (λ (f : ℕ → ℕ). f (everywhere e)) same in omega arith

next_durable : (d e : FailData) (p q : Shown) (o : Op) (kept : IsKept d p) → IsNext d kept.texts p o e
    → taken p o ≡ Some q → durable_of d ≤ durable_of e
next_durable d e p q o kept (inl is) took =
    let longer = extend_longer d kept.texts p kept.held.logged kept.held.mirrored o e q is took in
    let le = everywhere_grows d kept.texts p kept.held.logged kept.held.mirrored is.b is.to q longer is.home is.lags
    is.within in
    subst (λ (x : FailData). durable_of d ≤ durable_of x) (sym is.gives)
    (durable_from d (recounted d (with_count d.counts is.b is.to) d.shut d.took) refl refl (λ _.
    records_from d (recounted d (with_count d.counts is.b is.to) d.shut d.took) kept.texts kept.standing refl le))
next_durable d e p q o kept (inr (inl is)) took =
    let new : new_of d.mode ≡ Some is.n = elim is.mode as (λ _. new_of d.mode ≡ Some is.n) [
      | inl one ↦ ap new_of one
      | inr two ↦ ap new_of two
    ] in
    let lt = kept.held.logged.newer is.n (inl new) in
    let same = everywhere_apart d is.n.id is.b (λ one. omega arith) in
    subst (λ (x : FailData). durable_of d ≤ durable_of x) (sym is.gives)
    (durable_from d (recounted d d.counts d.shut (with_taken d.took is.n.id is.b)) refl refl (λ _.
    records_from d (recounted d d.counts d.shut (with_taken d.took is.n.id is.b)) kept.texts kept.standing refl
    (omega arith)))
next_durable d e p q o kept (inr (inr (inl is))) took =
    let fails = ap is_failing is.mode in
    subst (λ (x : FailData). durable_of d ≤ durable_of x) (sym is.gives)
    (durable_from d (recounted d (with_count d.counts is.b (length d.head.units)) d.shut
    (with_taken d.took d.head.start.id is.b)) refl refl
    (λ works. absurd (both_ways (is_failing d.mode) fails works)))
next_durable d e p q o kept (inr (inr (inr (inl is)))) took =
    let fails = ap is_failing is.mode in
    subst (λ (x : FailData). durable_of d ≤ durable_of x) (sym is.gives)
    (durable_from d (record d { mode = Closes is.n }) (sym fails) refl
    (λ works. absurd (both_ways (is_failing d.mode) fails works)))
next_durable d e p q o kept (inr (inr (inr (inr (inl is))))) took =
    subst (λ (x : FailData). durable_of d ≤ durable_of x) (sym is.gives)
    (durable_from d (recounted d d.counts (is.b ∷ d.shut) d.took) refl refl (λ _. omega arith))
next_durable d e p q o kept (inr (inr (inr (inr (inr (inl is)))))) took =
    let fails = ap is_failing is.0.mode in
    subst (λ (x : FailData). durable_of d ≤ durable_of x) (sym is.0.gives)
    (durable_from d (recounted d d.counts d.shut (with_taken d.took is.0.s is.0.b)) refl refl
    (λ works. absurd (both_ways (is_failing d.mode) fails works)))
next_durable d e p q o kept (inr (inr (inr (inr (inr (inr (inl is))))))) took =
    let same = everywhere_apart d is.s is.b (λ one. is.free.head (sym one)) in
    subst (λ (x : FailData). durable_of d ≤ durable_of x) (sym is.gives)
    (durable_from d (recounted d d.counts d.shut (with_taken d.took is.s is.b)) refl refl (λ _.
    records_from d (recounted d d.counts d.shut (with_taken d.took is.s is.b)) kept.texts kept.standing refl
    (omega arith)))
next_durable d e p q o kept (inr (inr (inr (inr (inr (inr (inr is))))))) took =
    subst (λ (x : FailData). durable_of d ≤ durable_of x) (sym is.gives) (omega arith)

pub durable_stays : DurableStays
durable_stays (Applies segment r) w v kept (may, is) =
    let d = w.knows in
    subst (λ (x : World). durable_of d ≤ durable_of x.knows) (sym is)
    (durable_from d (applied d segment r) refl refl (λ _.
    records_grow d kept.texts w.shown segment r kept.held.logged kept.held.mirrored kept.standing may))
durable_stays (Turns n mode) w v kept (roll, is) =
    let d = w.knows in
    let kept = roll.0 in
    let same = rolls.same_everywhere d kept.texts w.shown n mode kept.held.logged kept.held.mirrored roll.1 in
    subst (λ (x : World). durable_of d ≤ durable_of x.knows) (sym is)
    (durable_from d (rolling d n mode)
    (rolls.same_failing d kept.texts w.shown n mode kept.held.logged kept.held.mirrored roll.1) refl (λ _.
    records_from d (rolling d n mode) kept.texts kept.standing refl (omega arith)))
durable_stays TakesId w v kept (works, is) =
    let d = w.knows in
    let same = ids.same_everywhere d kept.texts w.shown kept.held.logged kept.held.mirrored in
    subst (λ (x : World). durable_of d ≤ durable_of x.knows) (sym is)
    (durable_from d (id_taken d) refl refl (λ _.
    records_from d (id_taken d) kept.texts kept.standing refl (omega arith)))
durable_stays (Ends n mode) w v kept (ends, is) =
    let d = w.knows in
    let within = records_within d kept.texts kept.standing in
    let same : is_failing mode ≡ is_failing d.mode = elim ends.may as (λ _. is_failing mode ≡ is_failing d.mode) [
      | inl calm ↦ ap is_failing calm.1 ∙ sym (ap is_failing calm.0)
      | inr fails ↦ ap is_failing fails.1 ∙ sym (ap is_failing fails.0)
    ] in
    subst (λ (x : World). durable_of d ≤ durable_of x.knows) (sym is)
    (durable_from d (ended d n mode) same refl (λ _. omega arith))
durable_stays Mended w v kept (repairs, none, is) =
    subst (λ (x : World). durable_of w.knows ≤ durable_of x.knows) (sym is)
    (durable_taken w.knows kept.texts kept.standing)
durable_stays (Takes o) w v kept (may, took, runs) =
    next_durable w.knows v.knows w.shown v.shown o may.1 may.2 took
durable_stays (Fails o b) w v kept (e, may, at, faulted, works, is, runs) =
    subst (λ (x : FailData). durable_of w.knows ≤ durable_of x) (sym is) (omega arith)
durable_stays (Halts o) w v kept (e, may, faulted, is, halts) =
    subst (λ (x : FailData). durable_of w.knows ≤ durable_of x) (sym is) (omega arith)
