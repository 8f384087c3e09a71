-- The old head is closed on one of its homes in a failover. With the last one the new head is in force.
use Rattle.std.proofs.Common.{◌≡◌, ℕ, zero, suc, ◌⊎◌, ◌<◌, inl, inr, Bool, true, false, List, [], ◌∷◌, length}
use Rattle.std.proofs.Common.{refl, sym, ap, subst, ◌∙◌, arith}
use Rattle.std.specs.Prelude.{Option, Some, None, slice_get, ◌==◌, not, is_none, if◌then◌else◌}
use Rattle.std.specs.Option.{option_map, option_map_or}
use Rattle.std.proofs.lemmas.Bool.{eqb-true}
use Rattle.std.proofs.lemmas.Option.{same_Some}
use Rattle.master_core.specs.cleaner.declared.pass.Pass.{Pass}
use Rattle.images.specs.Image.{Image, closed_image}
use Rattle.log_head.specs.declared.head.Roll.{Roll}
use Rattle.log_head.specs.Log.{start_of}
use Rattle.log_head.specs.Steps.{in_force}
use Rattle.log_head.proofs.RollLog.{head_in_force}
use Rattle.log_head.proofs.Rolls.{rolls, zeros_length}
use Rattle.log_head.specs.log_laws.Heads.{Head as LogHead, Start}
use Rattle.log_head.specs.log_laws.Ids.{has, without}
use Rattle.log_head.specs.log_laws.HeadSteps.{no_units}
use Rattle.log_head.specs.declared.next.Next.TheVariants as nexts
use Rattle.master_core.specs.log_laws.Data.{Calm, Rolls, Repairs, FailData}
use Rattle.master_core.specs.log_laws.Steps.{ended, mended, EndsRoll}
use Rattle.master_core.specs.master_failover.declared.push.Push.TheVariants as push
use Rattle.master_core.specs.master_failover.Mending.{mended_data, first_lost, repaired_data, with_part}
use Rattle.master_core.proofs.master_rolls.RollEnds.{closed_images}
use Rattle.master_core.specs.master_state.declared.failover.Failover.{Failover}
use Rattle.master_core.specs.master_state.declared.failover.Part.TheVariants as part
use Rattle.master_core.specs.master_state.declared.ledger.Posting.TheVariants as posting
use Rattle.master_core.specs.master_state.Budget.{is_committing}
use Rattle.master_core.specs.master_state.Data.{MasterData}
use Rattle.master_core.specs.master_state.Images.{with_closed}
use Rattle.master_core.specs.master_state.Invariant.{IsCore}
use Rattle.master_core.specs.master_state.Ledger.{shut_in}
use Rattle.master_core.specs.master_state.Log.{home, placed, is_opened, log_of, is_headless}
use Rattle.master_core.specs.master_state.Steps.{pass_ended, roll_ended}
use Rattle.master_core.proofs.master_state.Imaging.{same_roll}
use Rattle.master.specs.Pushes.{IsMended, IsOnward}
use Rattle.master.specs.Placed.{closed_by, holders, IsPlaced, is_opening}
use Rattle.master.proofs.Ended.{same_model, apart_then, ended_model}
use Rattle.master.proofs.InForce.{real_head, none_head}
use Rattle.master.proofs.MendEnds.{IsCounted, IsRolled, IsCommitted, IsAfterMend, MayMend, IsMendPush}
use Rattle.master.proofs.MendOps.{at_part, as_part, home_forced, closing_all, few_closed, all_opened_then, mend_closes}
use Rattle.master.proofs.NextOps.{opened_is, roll_of}
use Rattle.master.proofs.NoneLost.{none_was_lost}
use Rattle.master.proofs.Placing.{core_left, home_placed, left_has, left_more}
use Rattle.master.proofs.PushedPlaces.{among_added, staying_have, trimmed_have}

none_of : (n j k : ℕ) → slice_get (no_units n) j ≡ Some k → 0 ≡ k
none_of zero j k at = absurd (cc)
none_of (suc n) zero k at = same_Some 0 k at
none_of (suc n) (suc j) k at = none_of n j k at

module _ (d0 : MasterData) (r : Roll) (f : Failover)
    (may : MayMend (at_part d0 (Some r) (as_part f part.Closes false)) (push.Head (nexts.CloseOld r.closed))) where
  abbrev d : MasterData
  d = at_part d0 (Some r) (as_part f part.Closes false)

  abbrev b : ℕ
  b = home d0.config d0.failed d0.head.id r.closed

  abbrev mid : FailData
  mid = record (log_of d) { shut = b ∷ shut_in d0.ledger }

  newer : d0.head.id < r.id
  newer = (roll_of d may.core r refl).newer

  all : length d0.head.taken ≡ d0.config.replicas
  all = closing_all d0 r f may.core may.placed may.unfailed

  few : r.closed < d0.config.replicas
  few = few_closed d0 r f may.core may.placed may.unfailed

  -- ---- by whether it is the last

  -- with the op posted
  abbrev k : MasterData
  k = record d { ledger = posting.Shut b ∷ d0.ledger }

  abbrev one : Bool → MasterData
  one t = record k {
    head = if t then in_force d.head r else record d.head { roll = Some (record r { closed = suc r.closed }) };
    closed = with_closed d0.closed d0.head.id d0.config.replicas (if t then Some d0.head.image else None);
  }

  abbrev closed_then : Bool → MasterData
  closed_then t = if t then roll_ended d0.pass (one t) else one t

  abbrev gives : Bool → MasterData → MasterData
  gives t e =
      if t then repaired_data (with_part (record e { abandoned = []; ledger = posting.Ended ∷ e.ledger }) part.Repairs)
      else e

  close_is : mended_data d (push.Head (nexts.CloseOld r.closed))
      ≡ gives (suc r.closed == d0.config.replicas) (closed_then (suc r.closed == d0.config.replicas))
  close_is = λ i. gives (suc r.closed == d0.config.replicas) (closed_then (suc r.closed == may.core.replicas i))

  -- what is shown of either
  abbrev GivesClosed : MasterData → Type 0
  GivesClosed e = (IsCore e → IsAfterMend d e mid) × IsPlaced e × (IsCore e → IsOnward mid (log_of e))

  -- ---- more are to be closed

  early_counted : IsCore (one false) → IsCounted d (one false) mid
  early_counted later = record {
    log = inl refl;
    model = same_model d (one false) may.core later refl refl
        (same_roll d.head d.closed r (record r { closed = suc r.closed }) refl refl refl) refl refl refl (omega arith);
    waiting = refl;
  }

  early_placed : IsPlaced (one false)
  early_placed =
      let p = may.placed in
      record {
        none = λ is. absurd (cc);
        head = p.head;
        counts = p.counts;
        unopened = λ is. absurd (cc);
        whole = λ is. absurd (cc);
        new = p.new;
        shut = left_more d0.failed b (shut_in d0.ledger) (core_left d may.core d0.head.id r.closed few)
            ∙ ap (λ (bs : List ℕ). b ∷ bs) p.shut;
        closed = p.closed;
      }

  -- ---- the last one

  module _ (last : suc r.closed ≡ d0.config.replicas) where
    shut_then : without d0.failed (b ∷ shut_in d0.ledger) ≡ placed d0.config d0.failed d0.head.id (suc r.closed)
    shut_then = left_more d0.failed b (shut_in d0.ledger) (core_left d may.core d0.head.id r.closed few)
        ∙ ap (λ (bs : List ℕ). b ∷ bs) may.placed.shut

    ends : EndsRoll mid (start_of r) Repairs
    ends = record {
      may = inr (refl, refl);
      opened = all_opened_then d0 r f may.core may.placed may.unfailed;
      shut = λ c is.
          let at = home_forced d may.core may.placed refl c is in
          let every = all in
          let lt = at.within in
          (left_has d0.failed (b ∷ shut_in d0.ledger) c
          ((λ i. has (shut_then i) (at.is i))
          ∙ home_placed d0.config d0.failed d0.head.id (suc r.closed) at.replica (omega (arith, every, lt, last)))).0;
    }

    opened : is_opened (in_force d.head r) ≡ true
    opened = opened_is (in_force d.head r) (zeros_length d0.head.replicas)

    -- the failover goes on with its repairs, or has ended
    abbrev ended_with : MasterData → Option Failover → MasterData
    ended_with e x = record e {
      failover = x;
      abandoned = [];
      ledger = posting.Ended ∷ posting.Shut b ∷ d0.ledger;
    }

    head_then : real_head (in_force d.head r) ≡ record { start = start_of r; loaded = []; units = [] }
    head_then =
        ap (λ (l : LogHead). record { start = l.start; loaded = l.loaded; units = l.units })
        (head_in_force d0.config.master d.head r (roll_of d may.core r refl).image
        (rolls d.head r may.core.head refl).segment)

    repairs_log : log_of (ended_with (one true) (Some (as_part f part.Repairs false))) ≡ ended mid (start_of r) Repairs
    repairs_log = ap (λ h. record (ended mid (start_of r) Repairs) { head = h }) head_then

    calm_log : log_of (ended_with (one true) None) ≡ mended (ended mid (start_of r) Repairs)
    calm_log =
        ap (λ (t : Bool). record (mended (ended mid (start_of r) Repairs)) {
          head = if not t then none_head d0.config.format else real_head (in_force d.head r);
          mode = if t then Calm else Rolls (head_start t);
        }) opened
        ∙ ap (λ h. record (mended (ended mid (start_of r) Repairs)) { head = h }) head_then
      where
        head_start : Bool → Start
        head_start t = (real_head (in_force d.head r)).start

    -- which of both
    abbrev MayBe : Option Failover → Type 0
    MayBe x = (x ≡ Some (as_part f part.Repairs false)) ⊎ (x ≡ None)

    -- of what the roll and a pass leave, which has this log
    log_then : (e : MasterData) (x : Option Failover) → MayBe x → IsCore (ended_with e x) → IsPlaced (ended_with e x)
        → log_of (ended_with e x) ≡ log_of (ended_with (one true) x)
        → IsMended (ended mid (start_of r) Repairs) (log_of (ended_with (one true) x))
    log_then e x (inl is) later at same =
        subst (λ (y : Option Failover).
        IsMended (ended mid (start_of r) Repairs) (log_of (ended_with (one true) y))) (sym is) (inl repairs_log)
    log_then e x (inr is) later at same =
        let log : log_of (ended_with (one true) x) ≡ mended (ended mid (start_of r) Repairs) =
        ap (λ (y : Option Failover). log_of (ended_with (one true) y)) is ∙ calm_log in
        inr (
          refl,
          none_was_lost (ended_with e x) (ended mid (start_of r) Repairs) later at is (same ∙ log),
          log,
        )

    none_closed : (x : Option Failover) → MayBe x → closed_by x ≡ 0
    none_closed x (inl is) = ap closed_by is
    none_closed x (inr is) = ap closed_by is

    none_opens : (x : Option Failover) → MayBe x → is_opening x ≡ true → ⊥
    none_opens x (inl be) is = (let never : true ≡ false = sym is ∙ ap is_opening be in cc)
    none_opens x (inr be) is = (let never : true ≡ false = sym is ∙ ap is_opening be in cc)

    -- the new head is in force
    still_headed : (x : Option Failover) → MayBe x → is_headless (ended_with (one true) x) ≡ true → ⊥
    still_headed x (inl be) is =
        let never : true ≡ false = sym is ∙ ap (λ (y : Option Failover). is_headless (ended_with (one true) y)) be
        in cc
    still_headed x (inr be) is =
        let never : true ≡ false = sym is ∙ ap (λ (y : Option Failover). is_headless (ended_with (one true) y)) be
        ∙ ap not opened in cc

    module _ (x : Option Failover) (be : MayBe x) where
      abbrev rolled : MasterData
      rolled = ended_with (one true) x

      last_placed : IsPlaced rolled
      last_placed =
          let p = may.placed in
          record {
            none = λ is. absurd (still_headed x be is);
            head = p.new
                ∙ ap (placed d0.config d0.failed r.id) ((may.core.failover.closes refl).2 ∙ sym may.core.replicas
                ∙ sym (zeros_length d0.head.replicas));
            counts = λ i n at. none_of d0.head.replicas i n at;
            unopened = λ is c. refl;
            whole = λ is. absurd (none_opens x be is);
            new = tt;
            shut = sym (ap (placed d0.config d0.failed r.id) (none_closed x be));
            closed = λ image m.
                elim (among_added (closed_image d0.head.id d0.head.image d0.config.replicas) d0.closed image m)
                as (λ _. holders d image.id ≡ placed d0.config d0.failed image.id image.replicas) [
                  | inl own ↦ subst (λ (y : Image). holders d y.id ≡ placed d0.config d0.failed y.id y.replicas) own
                      (p.head ∙ ap (placed d0.config d0.failed d0.head.id) all)
                  | inr old ↦ p.closed image old
                ];
          }

      -- so is what is left when a pass ends with it
      pass_placed : (q : Pass) → IsPlaced (ended_with (pass_ended q (one true)) x)
      pass_placed q = record {
        none = last_placed.none;
        head = last_placed.head;
        counts = last_placed.counts;
        unopened = last_placed.unopened;
        whole = last_placed.whole;
        new = tt;
        shut = last_placed.shut;
        closed = trimmed_have (λ (id n : ℕ). holders d id ≡ placed d0.config d0.failed id n) _ _
            (staying_have (λ (id n : ℕ). holders d id ≡ placed d0.config d0.failed id n) q.victims (one true).closed
            last_placed.closed);
      }

      rolled_after : is_committing d ≡ false → IsCore rolled → IsRolled d rolled mid
      rolled_after plain later = record {
        n = start_of r;
        ends = ends;
        log = log_then (one true) x be later last_placed refl;
        ordinary = plain;
        model = same_model d rolled may.core later refl refl (closed_images d may.core r refl) refl refl refl
            (let lt = newer in omega arith);
        waiting = refl;
      }

      commits_as : (q : Pass) → d0.pass ≡ Some q → is_committing d ≡ q.is_committing
      commits_as q opens = ap (λ (o : Option Pass). option_map_or (λ (z : Pass). z.is_committing) o false) opens

      committed_after : (q : Pass) → d0.pass ≡ Some q → q.is_committing ≡ true
          → IsCore (ended_with (pass_ended q (one true)) x) → IsCommitted d (ended_with (pass_ended q (one true)) x) mid
      committed_after q opens commits later =
          let ps = posting.Ended ∷ posting.Shut b ∷ d0.ledger in
          let was = ended_model d may.core r refl ps may.placed q opens commits mid refl refl in
          record {
            n = start_of r;
            ends = ends;
            log = log_then (pass_ended q (one true)) x be later (pass_placed q) refl;
            pass = q;
            opened = opens;
            commits = commits_as q opens ∙ commits;
            model = record {
              pass = was.pass;
              images = was.images;
              behind = was.behind;
              carried = λ p t victim. absurd victim;
              done = was.done;
              commits = was.commits;
              waiting = was.waiting;
            };
            apart = apart_then d may.core r refl ps may.placed q opens commits mid refl refl;
          }

      onward : (e : MasterData) → IsCore (ended_with e x) → IsPlaced (ended_with e x)
          → log_of (ended_with e x) ≡ log_of rolled → IsOnward mid (log_of rolled)
      onward e later at same = inr (start_of r, Repairs, ends, log_then e x be later at same)

      pass_end : (q : Pass) → d0.pass ≡ Some q → (t : Bool) → q.is_committing ≡ t
          → GivesClosed (ended_with (if t then pass_ended q (one true) else one true) x)
      pass_end q opens true is = (
        λ later. inr (inr (committed_after q opens is later)),
        pass_placed q,
        λ later. onward (pass_ended q (one true)) later (pass_placed q) refl,
      )
      pass_end q opens false is = (
        λ later. inr (inl (rolled_after (commits_as q opens ∙ is) later)),
        last_placed,
        λ later. onward (one true) later last_placed refl,
      )

      roll_end : (o : Option Pass) → d0.pass ≡ o → GivesClosed (ended_with (roll_ended o (one true)) x)
      roll_end None none = (
        λ later. inr (inl (rolled_after
            (ap (λ (o : Option Pass). option_map_or (λ (z : Pass). z.is_committing) o false) none) later)),
        last_placed,
        λ later. onward (one true) later last_placed refl,
      )
      roll_end (Some q) opens = pass_end q opens q.is_committing refl

    -- ---- what becomes of the failover

    same_failover : (o : Option Pass) → (e : MasterData) → (roll_ended o e).failover ≡ e.failover
    same_failover None e = refl
    same_failover (Some q) e = go q.is_committing where
      go : (t : Bool) → (if t then pass_ended q e else e).failover ≡ e.failover
      go true = refl
      go false = refl

    same_ledger : (o : Option Pass) → (e : MasterData) → (roll_ended o e).ledger ≡ e.ledger
    same_ledger None e = refl
    same_ledger (Some q) e = go q.is_committing where
      go : (t : Bool) → (if t then pass_ended q e else e).ledger ≡ e.ledger
      go true = refl
      go false = refl

    end_is : (x : Option Failover) × MayBe x
        × (gives true (closed_then true) ≡ ended_with (roll_ended d0.pass (one true)) x)
    end_is = go (is_none (first_lost (ended_with (roll_ended d0.pass (one true)) None))) refl where
      to : gives true (closed_then true)
          ≡ repaired_data (ended_with (roll_ended d0.pass (one true)) (Some (as_part f part.Repairs false)))
      to = λ i. repaired_data (record (roll_ended d0.pass (one true)) {
        failover = option_map (λ (g : Failover). record g { part = part.Repairs })
            (same_failover d0.pass (one true) i);
        abandoned = [];
        ledger = posting.Ended ∷ same_ledger d0.pass (one true) i;
      })

      go : (t : Bool) → is_none (first_lost (ended_with (roll_ended d0.pass (one true)) None)) ≡ t
          → (x : Option Failover) × MayBe x
          × (gives true (closed_then true) ≡ ended_with (roll_ended d0.pass (one true)) x)
      go true is = (None, inr refl, to ∙ (rw is refl))
      go false is = (Some (as_part f part.Repairs false), inl refl, to ∙ (rw is refl))

    last_after : GivesClosed (gives true (closed_then true))
    last_after = subst GivesClosed (sym end_is.2) (roll_end end_is.0 end_is.1 d0.pass refl)

  -- ---- either

  closed_by_test : (t : Bool) → (suc r.closed == d0.config.replicas) ≡ t → GivesClosed (gives t (closed_then t))
  closed_by_test true is = last_after (eqb-true (suc r.closed) d0.config.replicas is)
  closed_by_test false is = (λ later. inl (early_counted later), early_placed, λ later. inl (inl refl))

  pub close_push : IsMendPush (at_part d0 (Some r) (as_part f part.Closes false)) (push.Head (nexts.CloseOld r.closed))
  close_push =
      let closes = mend_closes d0 r f may.core may.placed may.unfailed in
      let all = subst GivesClosed (sym close_is) (closed_by_test (suc r.closed == d0.config.replicas) refl) in
      record {
        mid = mid;
        op = inl (inr (inr (inr (inr closes))));
        asks = (mid, (mid, closes, inl (inl refl)));
        does = λ later. (mid, closes, all.2 later);
        after = all.0;
        placed = all.1;
      }
