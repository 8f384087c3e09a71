-- What the pushes of a failover do that are for the head, for the new head, or the registry.
use Rattle.std.proofs.Common.{◌≡◌, ℕ, suc, inl, inr, Bool, true, false, length, refl}
use Rattle.std.proofs.Common.{sym, ap, subst, ◌∙◌, arith}
use Rattle.std.specs.Prelude.{Option, Some, None, IfSome, IsSome, not, if◌then◌else◌}
use Rattle.std.specs.Option.{option_map_or}
use Rattle.master_core.specs.cleaner.declared.pass.Pass.{Pass}
use Rattle.entry.specs.Text.{text_of}
use Rattle.log_head.specs.declared.head.Roll.{Roll}
use Rattle.log_head.specs.Log.{head_of, units_from}
use Rattle.log_head.specs.log_laws.Heads.{Start}
use Rattle.log_head.specs.declared.next.Next.TheVariants as nexts
use Rattle.master_core.specs.log_laws.Data.{Calm, Rolls, Closes, Repairs, FailData}
use Rattle.master_core.specs.log_laws.Steps.{ended, mended, EndsRoll}
use Rattle.master_core.specs.master_failover.declared.push.Push.TheVariants as push
use Rattle.master_core.specs.master_failover.Mending.{mended_data}
use Rattle.master_core.specs.master_state.declared.failover.Failover.{Failover}
use Rattle.master_core.specs.master_state.declared.failover.Part.TheVariants as part
use Rattle.master_core.specs.master_state.Budget.{is_committing}
use Rattle.master_core.specs.master_state.Data.{MasterData}
use Rattle.master_core.specs.master_state.Invariant.{IsCore, IsOpenPass}
use Rattle.master_core.specs.master_state.Log.{is_opened, log_of}
use Rattle.master_core.proofs.master_state.Imaging.{same_roll}
use Rattle.master.specs.Pushes.{IsMended}
use Rattle.master.proofs.Ended.{same_model}
use Rattle.master.proofs.InForce.{real_head, none_head}
use Rattle.master.proofs.MendEnds.{MayMend, IsMendPush}
use Rattle.master.proofs.MendOps.{at_part, as_part, mend_extends, mend_replaces, mend_opens, mend_raises, took_alone}
use Rattle.master.proofs.MendOps.{mend_opens_first, mend_raises_first, nobody}
use Rattle.master.proofs.MendPlaces.{extended_placed, replaced_placed, opened_placed, raised_placed, first_placed}
use Rattle.master.proofs.MendPlaces.{in_force_placed}
use Rattle.master.proofs.NextOps.{opened_is}
use Rattle.master.proofs.NoneLost.{none_was_lost}
use Rattle.master.proofs.Placing.{placed_length}

-- a commit is a roll
pub no_commit : (d : MasterData) → IsCore d → d.head.roll ≡ None → is_committing d ≡ false
no_commit d core none = go d.pass core.pass where
  go : (o : Option Pass) → IfSome o (IsOpenPass d) → option_map_or (λ (p : Pass). p.is_committing) o false ≡ false
  go None all = refl
  go (Some p) all = by_commit p.is_committing refl where
    by_commit : (t : Bool) → p.is_committing ≡ t → p.is_committing ≡ false
    by_commit true is = absurd (let some = subst (λ (o : Option Roll). IsSome o) none (all.commits is).0 in cc)
    by_commit false is = is

-- ---- part 1 and 2

module _ (d0 : MasterData) (f : Failover) where
  abbrev mending : MasterData
  mending = at_part d0 None (as_part f part.Mends false)

  pub extend_push : (j : ℕ) → MayMend (at_part d0 None (as_part f part.Mends false)) (push.Head (nexts.Extend j))
      → IsMendPush (at_part d0 None (as_part f part.Mends false)) (push.Head (nexts.Extend j))
  extend_push j may =
      let extends = mend_extends d0 f may.core may.placed may.shut j may.next.2 in
      record {
        mid = log_of (mended_data mending (push.Head (nexts.Extend j)));
        op = inl (inl extends);
        asks = (log_of (mended_data mending (push.Head (nexts.Extend j))), extends);
        does = λ later. extends;
        after = λ later. inl (record {
          log = inl refl;
          model = same_model mending (mended_data mending (push.Head (nexts.Extend j))) may.core later refl refl
              (λ s. refl)
              refl refl refl (omega arith);
          waiting = refl;
        });
        placed = extended_placed d0 f may.core may.placed j may.next.2;
      }

  pub replace_push : MayMend (at_part d0 None (as_part f part.Mends false))
      (push.Head (nexts.OpenWhole (length d0.head.taken)))
      → IsMendPush (at_part d0 None (as_part f part.Mends false)) (push.Head (nexts.OpenWhole (length d0.head.taken)))
  replace_push may =
      let replaces = mend_replaces d0 f may.core may.placed may.next.4 in
      record {
        mid = log_of (mended_data mending (push.Head (nexts.OpenWhole (length d0.head.taken))));
        op = inl (inr (inr (inl replaces)));
        asks = (log_of (mended_data mending (push.Head (nexts.OpenWhole (length d0.head.taken)))), replaces);
        does = λ later. replaces;
        after = λ later. inl (record {
          log = inl refl;
          model = same_model mending (mended_data mending (push.Head (nexts.OpenWhole (length d0.head.taken))))
              may.core later
              refl refl (λ s. refl) refl refl refl (omega arith);
          waiting = refl;
        });
        placed = replaced_placed d0 f may.core may.placed may.next.4;
      }

-- ---- part 3 and 4, with a head in force

module _ (d0 : MasterData) (r : Roll) (f : Failover) where
  abbrev opening_now : MasterData
  opening_now = at_part d0 (Some r) (as_part f part.Opens false)

  pub open_push : MayMend (at_part d0 (Some r) (as_part f part.Opens false)) (push.Head (nexts.OpenNew r.opened))
      → IsMendPush (at_part d0 (Some r) (as_part f part.Opens false)) (push.Head (nexts.OpenNew r.opened))
  open_push may =
      let opens = mend_opens d0 r f may.core may.placed may.unfailed may.next.0.2 in
      record {
        mid = log_of (mended_data opening_now (push.Head (nexts.OpenNew r.opened)));
        op = inl (inr (inl opens));
        asks = (log_of (mended_data opening_now (push.Head (nexts.OpenNew r.opened))), opens);
        does = λ later. opens;
        after = λ later. inl (record {
          log = inl refl;
          model = same_model opening_now (mended_data opening_now (push.Head (nexts.OpenNew r.opened))) may.core later
              refl refl
              (same_roll opening_now.head d0.closed r (record r { opened = suc r.opened }) refl refl refl) refl refl
              refl (omega arith);
          waiting = refl;
        });
        placed = opened_placed d0 r f may.core may.placed may.next.0.2;
      }

  pub raise_push : MayMend (at_part d0 (Some r) (as_part f part.Opens false)) (push.Raise r.id)
      → IsMendPush (at_part d0 (Some r) (as_part f part.Opens false)) (push.Raise r.id)
  raise_push may =
      let raises = mend_raises d0 r f may.core may.placed may.unfailed may.next.1 in
      record {
        mid = log_of (mended_data opening_now (push.Raise r.id));
        op = inl (inr (inr (inr (inl raises))));
        asks = (
          log_of (mended_data opening_now (push.Raise r.id)),
          (log_of (mended_data opening_now (push.Raise r.id)), raises, inl (inl refl)),
        );
        does = λ later. (log_of (mended_data opening_now (push.Raise r.id)), raises, inl (inl refl));
        after = λ later. inl (record {
          log = inl refl;
          model = same_model opening_now (mended_data opening_now (push.Raise r.id)) may.core later refl refl
              (λ s. refl) refl refl refl (omega arith);
          waiting = refl;
        });
        placed = raised_placed d0 r f may.core may.placed;
      }

-- ---- and with none

module _ (d0 : MasterData) (f : Failover) where
  abbrev first_now : MasterData
  first_now = at_part d0 None (as_part f part.Opens true)

  pub open_first_push : MayMend (at_part d0 None (as_part f part.Opens true))
      (push.Head (nexts.OpenFirst (length d0.head.taken)))
      → IsMendPush (at_part d0 None (as_part f part.Opens true)) (push.Head (nexts.OpenFirst (length d0.head.taken)))
  open_first_push may =
      let opens = mend_opens_first d0 f may.core may.placed may.unfailed may.next.0.2 in
      record {
        mid = log_of (mended_data first_now (push.Head (nexts.OpenFirst (length d0.head.taken))));
        op = inl (inr (inl opens));
        asks = (log_of (mended_data first_now (push.Head (nexts.OpenFirst (length d0.head.taken)))), opens);
        does = λ later. opens;
        after = λ later. inl (record {
          log = inl refl;
          model = same_model first_now (mended_data first_now (push.Head (nexts.OpenFirst (length d0.head.taken))))
              may.core later
              refl refl (λ s. refl) refl refl refl (omega arith);
          waiting = refl;
        });
        placed = first_placed d0 f may.core may.placed may.next.0.2;
      }

  -- the first head is in force with the raise, and the failover has ended
  module _ (may : MayMend (at_part d0 None (as_part f part.Opens true)) (push.Raise d0.head.id)) where
    abbrev n : Start
    n = (head_of d0.head).start

    abbrev raised : FailData
    raised = record (log_of first_now) { mode = Closes (head_of d0.head).start }

    ends : EndsRoll raised n Repairs
    ends = record {
      may = inr (refl, refl);
      opened = (let count = ap length (took_alone d0 f may.core may.placed may.unfailed)
          ∙ placed_length d0.config d0.failed d0.head.id (length d0.head.taken) in
          let all = may.next.1 in omega (arith, count, all));
      shut = λ b is. absurd (nobody d0 f may.core may.placed may.unfailed b is.0);
    }

    opened : is_opened d0.head ≡ true
    opened = opened_is d0.head (may.next.1 ∙ sym may.core.replicas)

    log_is : log_of (mended_data first_now (push.Raise d0.head.id)) ≡ mended (ended raised n Repairs)
    log_is =
        let first = may.core.first refl in
        ap (λ (t : Bool). record (mended (ended raised n Repairs)) {
          head = if not t then none_head d0.config.format else real_head d0.head;
          mode = if t then Calm else Rolls (head_of d0.head).start;
        }) opened
        ∙ (λ i. record (mended (ended raised n Repairs)) {
          head = record {
            start = (head_of d0.head).start;
            loaded = first.loaded i;
            units = units_from (text_of d0.head.image) d0.head.base (first.units i);
          };
        })

    has_ended : IsCore (mended_data first_now (push.Raise d0.head.id))
        → IsMended (ended raised n Repairs) (log_of (mended_data first_now (push.Raise d0.head.id)))
    has_ended later =
        let at = in_force_placed d0 f may.core may.placed in
        let e = mended_data first_now (push.Raise d0.head.id) in
        inr (refl, none_was_lost e (ended raised n Repairs) later at refl log_is, log_is)

    pub raise_first_push : IsMendPush (at_part d0 None (as_part f part.Opens true)) (push.Raise d0.head.id)
    raise_first_push =
        let raises = mend_raises_first d0 f may.core may.placed may.unfailed may.next.1 in
        record {
          mid = raised;
          op = inl (inr (inr (inr (inl raises))));
          asks = (raised, (raised, raises, inl (inl refl)));
          does = λ later. (raised, raises, inr (n, Repairs, ends, has_ended later));
          after = λ later. inr (inl (record {
            n = n;
            ends = ends;
            log = has_ended later;
            ordinary = no_commit first_now may.core refl;
            model = same_model first_now (mended_data first_now (push.Raise d0.head.id)) may.core later refl refl
                (λ s. refl) refl refl refl (omega arith);
            waiting = refl;
          }));
          placed = in_force_placed d0 f may.core may.placed;
        }
