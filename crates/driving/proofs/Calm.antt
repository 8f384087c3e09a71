-- If no backup fails, the pass's commit is the last roll of its cleaning.
use Rattle.std.proofs.Common.{◌≡◌, ◌≤◌, ◌⊎◌, ℕ, suc, Bool, true, false, List, [], ◌∷◌, ◌++◌, length, refl, sym, ap}
use Rattle.std.proofs.Common.{subst, inl, inr, ◌∙◌, arith}
use Rattle.std.proofs.lemmas.Option.{same_Some}
use Rattle.std.specs.Option.{option_map, option_map_or}
use Rattle.std.specs.Prelude.{Option, Some, None, IsSome, ◌==◌, if◌then◌else◌}
use Rattle.master.specs.cleaner.declared.pass.Pass.{Pass}
use Rattle.master.specs.cleaner.Passes.{is_ready as is_ready_pass, survivor_ids}
use Rattle.master.specs.log_head.declared.head.Roll.{Roll}
use Rattle.master.specs.log_head.declared.next.Next.{Next}
use Rattle.master.specs.log_head.declared.next.Next.TheVariants as next
use Rattle.master.specs.log_head.Head.{HeadValue, digest_of, is_open}
use Rattle.master.specs.log_head.Steps.{fresh_roll, in_force, with_closed_replica, with_new_replica}
use Rattle.master.specs.log_laws.Ids.{all_inserted, without}
use Rattle.versioned_map.specs.declared.command.Record.{Record}
use Rattle.master.specs.master_rolls.Ends.{pass_left}
use Rattle.master.specs.master_state.declared.config.Config.{Config}
use Rattle.master.specs.master_state.declared.failover.Failover.{Failover}
use Rattle.master.specs.master_state.declared.step.Step.{Step}
use Rattle.master.specs.master_state.declared.step.Step.TheVariants.{Apply, Push, BeginRoll, Compact, BeginClean, Copy}
use Rattle.master.specs.master_state.declared.step.Step.TheVariants.{Seal}
use Rattle.master.specs.master_state.declared.step.Step.TheVariants.{Free}
use Rattle.master.specs.master_state.declared.step.StepAnswer.{StepAnswer}
use Rattle.master.specs.master_state.Budget.{is_ready, newest_digest}
use Rattle.master.specs.master_state.Data.{MasterData}
use Rattle.master.specs.master_state.Steps.{start_now}
use Rattle.master.specs.Steps.{Accepts}
use Rattle.master.specs.World.{World}
use Rattle.master.proofs.PushKinds.{kinds}
use Rattle.driving.specs.Rolls.{Advances}
use Rattle.driving.proofs.Digests.{ids_next, roll_digest}
use Rattle.driving.proofs.Heads.{Leads, at_head, head_leads, next_id, no_roll}
use Rattle.driving.proofs.Losses.{IsLoss, begin_unlost, copy_unlost, free_lost, push_lost, seal_lost}
use Rattle.driving.proofs.MasterSteps.{accepted_fixed}
use Rattle.driving.proofs.Outlines.{Outline, head_after, outline, pass_after, push_outline, pushed_outline}
use Rattle.driving.proofs.PassSteps.{seals_outline}
use Rattle.driving.proofs.Turns.{IsNextTurn}

-- ---- the newest digest stays

-- the new head of a roll is listed as before, also once it is in force
closing_lists : (h : HeadValue) (r : Roll) → newest_digest (with_closed_replica h r) ≡ digest_of r.image
closing_lists h r = go (suc r.closed == h.replicas)
  where
    go : (last : Bool)
        → newest_digest (if last then in_force h r else record h { roll = Some (record r { closed = suc r.closed }) })
        ≡ digest_of r.image
    go true = refl
    go false = refl

rolls_newest : (h : HeadValue) (r : Roll) → h.roll ≡ Some r → digest_of r.image ≡ newest_digest h
rolls_newest h r is =
    ap (λ (o : Option Roll). option_map_or (λ (q : Roll). digest_of q.image) o (digest_of h.image)) (sym is)

newest_after : (h : HeadValue) (push : Next) → newest_digest (head_after h push) ≡ newest_digest h
newest_after h (next.OpenFirst j) = refl
newest_after h (next.Extend j) = refl
newest_after h (next.OpenWhole j) = refl
newest_after h (next.OpenNew j) = go h.roll refl
  where
    go : (o : Option Roll) → h.roll ≡ o → newest_digest (option_map_or (with_new_replica h) o h) ≡ newest_digest h
    go None is = refl
    go (Some r) is = rolls_newest h r is
newest_after h (next.CloseOld j) = go h.roll refl
  where
    go : (o : Option Roll) → h.roll ≡ o → newest_digest (option_map_or (with_closed_replica h) o h) ≡ newest_digest h
    go None is = refl
    go (Some r) is = closing_lists h r ∙ rolls_newest h r is

-- the newest digest of an open head is its own
pub own_digest : (h : HeadValue) → is_open h ≡ true → digest_of h.image ≡ newest_digest h
own_digest h opened =
    ap (λ (o : Option Roll). option_map_or (λ (r : Roll). digest_of r.image) o (digest_of h.image))
    (sym (no_roll _ h.roll opened))

-- ---- the pass and its commit

-- a pass that no roll commits stays open
open_after : (h : HeadValue) (o : Option Pass) (push : Next) (p : Pass) → o ≡ Some p → p.is_committing ≡ false
    → pass_after h o push ≡ Some p
open_after h o (next.OpenFirst j) p opened waits = opened
open_after h o (next.Extend j) p opened waits = opened
open_after h o (next.OpenWhole j) p opened waits = opened
open_after h o (next.OpenNew j) p opened waits = opened
open_after h o (next.CloseOld j) p opened waits = go h.roll
  where
    closed : (last : Bool) → (if last then pass_left o else o) ≡ Some p
    closed true = ap pass_left opened ∙ ap (λ (b : Bool). if b then None else Some p) waits
    closed false = opened

    go : (x : Option Roll) → option_map_or (λ (r : Roll). if suc r.closed == h.replicas then pass_left o else o) x o
        ≡ Some p
    go None = opened
    go (Some r) = closed (suc r.closed == h.replicas)

-- the pass has ended, or the roll that commits it is under way
abbrev Ends : HeadValue → Option Pass → Type 0
Ends h o = (o ≡ None) ⊎ ((p : Pass) × (o ≡ Some p) × (p.is_committing ≡ true) × IsSome h.roll)

ends_after : (h : HeadValue) (o : Option Pass) (push : Next) → Ends h o → Ends (head_after h push) (pass_after h o push)
ends_after h o (next.OpenFirst j) held = held
ends_after h o (next.Extend j) held = held
ends_after h o (next.OpenWhole j) held = held
ends_after h o (next.OpenNew j) held = go h.roll held
  where
    go : (x : Option Roll) → Ends h o → Ends (option_map_or (with_new_replica h) x h) o
    go None held = held
    go (Some r) (inl ended) = inl ended
    go (Some r) (inr (p, opened, commits, rolls)) = inr (p, opened, commits, refl)
ends_after h o (next.CloseOld j) held = go h.roll held
  where
    -- with the last replica the pass ends
    last_pass : Ends h o → pass_left o ≡ None
    last_pass (inl ended) = ap pass_left ended
    last_pass (inr (p, opened, commits, rolls)) =
        ap pass_left opened ∙ ap (λ (b : Bool). if b then None else Some p) commits

    closed : (r : Roll) (last : Bool) → Ends h o
        → Ends (if last then in_force h r else record h { roll = Some (record r { closed = suc r.closed }) })
        (if last then pass_left o else o)
    closed r true held = inl (last_pass held)
    closed r false (inl ended) = inl ended
    closed r false (inr (p, opened, commits, rolls)) = inr (p, opened, commits, refl)

    go : (x : Option Roll) → Ends h o → Ends (option_map_or (with_closed_replica h) x h)
        (option_map_or (λ (r : Roll). if suc r.closed == h.replicas then pass_left o else o) x o)
    go None held = held
    go (Some r) held = closed r (suc r.closed == h.replicas) held

module _ (victims survivors ids : List ℕ) where
  -- the pass is open, and no roll commits it
  abbrev IsWaiting : Outline → Type 0
  IsWaiting o = (p : Pass) × (o.pass ≡ Some p) × (p.victims ≡ victims) × (survivor_ids p.survivors ≡ survivors)
      × (p.is_committing ≡ false) × (newest_digest o.head ≡ ids)

  -- its commit is under way, or in force
  abbrev IsCommitted : Outline → Type 0
  IsCommitted o = (id : ℕ) × (newest_digest o.head ≡ all_inserted survivors (without victims ids) ++ id ∷ [])
      × Leads (λ i. i ≡ id) o.head × Ends o.head o.pass

  abbrev pub IsCalm : Outline → Type 0
  IsCalm o = (o.failover ≡ None) × (IsWaiting o ⊎ IsCommitted o)

  pushed_calm : (o : Outline) (push : Next) → IsCalm o → IsCalm (pushed_outline o push)
  pushed_calm o push (calm, inl (p, opened, v, s, waits, lists)) = (
    calm,
    inl (
      p,
      open_after o.head o.pass push p opened waits,
      v,
      s,
      waits,
      newest_after o.head push ∙ lists,
    ),
  )
  pushed_calm o push (calm, inr (id, lists, leads, ends)) = (
    calm,
    inr (
      id,
      newest_after o.head push ∙ lists,
      head_leads (λ i. i ≡ id) o.head push leads,
      ends_after o.head o.pass push ends,
    ),
  )

  copied_calm : (o : Outline) (p q : Pass) → o.pass ≡ Some p → q.victims ≡ p.victims → q.survivors ≡ p.survivors
      → q.is_committing ≡ p.is_committing → IsCalm o → IsCalm (record o { pass = Some q })
  copied_calm o p q has v s commits (calm, inl (x, opened, xv, xs, waits, lists)) =
      let same = same_Some x p (sym opened ∙ has) in (
        calm,
        inl (
          q,
          refl,
          v ∙ ap (λ (y : Pass). y.victims) (sym same) ∙ xv,
          ap survivor_ids (s ∙ ap (λ (y : Pass). y.survivors) (sym same)) ∙ xs,
          commits ∙ ap (λ (y : Pass). y.is_committing) (sym same) ∙ waits,
          lists,
        ),
      )
  copied_calm o p q has v s commits (calm, inr (id, lists, leads, inl ended)) =
      let never = sym ended ∙ has in absurd (cc)
  copied_calm o p q has v s commits (calm, inr (id, lists, leads, inr (x, opened, committing, rolls))) =
      let same = same_Some x p (sym opened ∙ has) in (
        calm,
        inr (
          id,
          lists,
          leads,
          inr (q, refl, commits ∙ ap (λ (y : Pass). y.is_committing) (sym same) ∙ committing, rolls),
        ),
      )

  -- the commit begins at an open head, once the pass is ready
  begins_calm : (d : MasterData) (p : Pass) → d.pass ≡ Some p → is_ready_pass d.config.replicas d.closed p ≡ true
      → is_open d.head ≡ true → IsCalm (outline d) → IsCalm (record (outline d) {
        head = record d.head { roll = Some (fresh_roll d.config.master (start_now d)) };
        pass =
            option_map (λ (x : Pass). record x { is_committing = is_ready_pass d.config.replicas d.closed x }) d.pass;
      })
  begins_calm d p has ready opened (calm, inl (x, opens, v, s, waits, lists)) =
      let same = same_Some x p (sym opens ∙ has) in
      let commits : is_ready d ≡ true =
      ap (λ (o : Option Pass). option_map_or (is_ready_pass d.config.replicas d.closed) o false) has ∙ ready in
      let own : digest_of d.head.image ≡ ids = own_digest d.head opened ∙ lists in (
        calm,
        inr (
          d.next,
          roll_digest d
              ∙ ap (λ (b : Bool). ids_next b d.pass (digest_of d.head.image) ++ d.next ∷ []) commits
              ∙ ap (λ (o : Option Pass). ids_next true o (digest_of d.head.image) ++ d.next ∷ []) opens
              ∙ ap (λ (l : List ℕ). all_inserted l (without x.victims (digest_of d.head.image)) ++ d.next ∷ []) s
              ∙ ap (λ (l : List ℕ). all_inserted survivors (without l (digest_of d.head.image)) ++ d.next ∷ []) v
              ∙ ap (λ (l : List ℕ). all_inserted survivors (without victims l) ++ d.next ∷ []) own,
          inr (fresh_roll d.config.master (start_now d), refl, next_id d),
          inr (
            record p { is_committing = is_ready_pass d.config.replicas d.closed p },
            ap (option_map (λ (y : Pass). record y { is_committing = is_ready_pass d.config.replicas d.closed y })) has,
            ready,
            refl,
          ),
        ),
      )
  begins_calm d p has ready opened (calm, inr (id, lists, leads, inl ended)) =
      let never = sym ended ∙ has in absurd (cc)
  begins_calm d p has ready opened (calm, inr (id, lists, leads, inr (x, opens, commits, rolls))) =
      let never : false ≡ true = subst (λ (o : Option Roll). IsSome o) (no_roll _ d.head.roll opened) rolls in
      absurd (cc)

  -- ---- many steps

  -- as long as no more backups have failed
  abbrev pub IsCalmFrom : ℕ → World → Type 0
  IsCalmFrom failed w =
      (failed ≤ length w.knows.failed) × (length w.knows.failed ≡ failed → IsCalm (outline w.knows))

  same_from : (failed : ℕ) (old new : World) → length new.knows.failed ≡ length old.knows.failed
      → (IsCalm (outline old.knows) → IsCalm (outline new.knows)) → IsCalmFrom failed old → IsCalmFrom failed new
  same_from failed old new same keeps (most, calm) = (omega arith, λ is. keeps (calm (omega arith)))

  lost_from : (failed : ℕ) (old new : World) (b : ℕ) → IsLoss old b new → IsCalmFrom failed old → IsCalmFrom failed new
  lost_from failed old new b loss (most, calm) =
      let more : length new.knows.failed ≡ suc (length old.knows.failed) =
      ap (λ (d : MasterData). length d.failed) loss.knows in
      (omega arith, λ is. absurd (omega arith))

  push_calm : (old new : World) (a : StepAnswer) → Accepts old Push a new → IsCalm (outline old.knows)
      → IsCalm (outline new.knows)
  push_calm old new a accepts calm = elim (kinds old a new accepts) as (λ _. IsCalm (outline new.knows)) [
    | inl push ↦ subst IsCalm (sym (ap outline push.rest ∙ push_outline old.knows push.push))
        (pushed_calm (outline old.knows) push.push calm)
    | inr push ↦ absurd (let never : false ≡ true = subst (λ (o : Option Failover). IsSome o) calm.0 push.failing in cc)
  ]

  pub step_calm : (failed : ℕ) (s : Step) (old new : World) → IsNextTurn old.knows s → Advances s old new
      → IsCalmFrom failed old → IsCalmFrom failed new
  step_calm failed (Apply seat command) old new next steps held = absurd next.turn
  step_calm failed (Compact id) old new next steps held = absurd next.turn
  step_calm failed (BeginClean ids) old new next steps held = absurd next.turn
  step_calm failed Copy old new next (inl (a, copies)) held =
      same_from failed old new (ap (λ (d : MasterData). length d.failed) copies.0.rest)
      (λ calm. subst IsCalm (sym (ap outline copies.0.rest))
      (copied_calm (outline old.knows) copies.0.pass copies.0.after copies.0.opened
      (ap (λ (p : Pass). p.victims) copies.0.treats.pass) (ap (λ (p : Pass). p.survivors) copies.0.treats.pass)
      (ap (λ (p : Pass). p.is_committing) copies.0.treats.pass) calm)) held
  step_calm failed Copy old new next (inr (b, copies)) held = absurd (copy_unlost old new b copies)
  step_calm failed Push old new next (inl (a, push)) held =
      same_from failed old new
      (ap (λ (f : Config × List Record × List ℕ). length f.2) (accepted_fixed old new a push))
      (push_calm old new a push) held
  step_calm failed Push old new next (inr (b, push)) held = lost_from failed old new b (push_lost old new b push) held
  step_calm failed BeginRoll old new next (inl (a, begins)) held =
      let (p, has, ready, opened) = next.begins refl in
      same_from failed old new (ap (λ (d : MasterData). length d.failed) begins.0.rest)
      (λ calm. subst IsCalm (sym (ap outline begins.0.rest)) (begins_calm old.knows p has ready opened calm)) held
  step_calm failed BeginRoll old new next (inr (b, begins)) held = absurd (begin_unlost old new b begins)
  step_calm failed Seal old new next (inl (a, seal)) held =
      same_from failed old new (ap (λ (o : Outline). length o.failed) (seals_outline old new a seal))
      (subst IsCalm (sym (seals_outline old new a seal))) held
  step_calm failed Seal old new next (inr (b, seal)) held = lost_from failed old new b (seal_lost old new b seal) held
  step_calm failed Free old new next (inl (a, free)) held =
      same_from failed old new (ap (λ (d : MasterData). length d.failed) free.rest)
      (subst IsCalm (sym (ap outline free.rest))) held
  step_calm failed Free old new next (inr (b, free)) held = lost_from failed old new b (free_lost old new b free) held

  -- ---- at the end

  -- with the pass ended and the head open, the commit is in force
  pub calm_ends : (o : Outline) → o.pass ≡ None → is_open o.head ≡ true → IsCalm o
      → digest_of o.head.image ≡ all_inserted survivors (without victims ids) ++ o.head.id ∷ []
  calm_ends o ended opened (calm, inl (p, opens, v, s, waits, lists)) = let never = sym ended ∙ opens in absurd (cc)
  calm_ends o ended opened (calm, inr (id, lists, leads, ends)) =
      own_digest o.head opened ∙ lists
      ∙ ap (λ (i : ℕ). all_inserted survivors (without victims ids) ++ i ∷ [])
      (sym (at_head (λ i. i ≡ id) o.head opened leads))
