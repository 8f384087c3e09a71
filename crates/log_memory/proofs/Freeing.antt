-- A replica that waited and is freed leaves the log intact, whether or not the master learns it.
use Rattle.std.proofs.Common.{◌≡◌, ℕ, ◌⊎◌, inl, inr, Bool, true, false, cond, List, [], ◌∷◌, Some, refl, sym, ap}
use Rattle.std.proofs.Common.{subst, ◌∙◌}
use Rattle.std.specs.Prelude.{Option, not, filter, IsSome}
use Rattle.std.proofs.lemmas.Bool.{cases_Bool}
use Rattle.entry.specs.Bag.{IsAmong}
use Rattle.log_bytes.specs.log_laws.Heads.{Start}
use Rattle.log_bytes.specs.log_laws.Intact.{Stays}
use Rattle.log_bytes.specs.log_laws.Text.{Replica}
use Rattle.log_bytes.specs.log_laws.Shown.{Shown, Free, taken}
use Rattle.log_bytes.specs.log_laws.Data.{FailData, IsNew}
use Rattle.log_bytes.specs.log_laws.Log.{IsLogHeld, IsOther}
use Rattle.log_bytes.specs.log_laws.Steps.{IsFree, Frees}
use Rattle.log_bytes.proofs.log_laws.Pictures.{is_taken, unchanged}
use Rattle.log_bytes.proofs.log_laws.Spares.{frees_held}
use Rattle.log_bytes.proofs.log_laws.States.{settled_if}
use Rattle.log_memory.specs.Intact.{IsIntact, IsIntactWith}
use Rattle.log_memory.specs.Laws.{FreeKeeps}
use Rattle.log_memory.specs.Memory.{Spot, FailMemory, log_ids}
use Rattle.log_memory.specs.Steps.{free_op, is_spot, freed, MayFree}
use Rattle.log_memory.proofs.Ids.{in_digest, in_survivors, now_is, now_own, now_others, new_in}

-- what is left waits
pub left_waits : (test : Spot → Bool) (ws : List Spot) (w : Spot) → IsAmong w (filter test ws) → IsAmong w ws
left_waits test [] w l = l
left_waits test (v ∷ ws) w l = go (test v) (left_waits test ws w) l where
  go : (b : Bool) → (IsAmong w (filter test ws) → IsAmong w ws)
      → IsAmong w (cond b (v ∷ filter test ws) (filter test ws)) → IsAmong w (v ∷ ws)
  go true later (inl same) = inl same
  go true later (inr m) = inr (later m)
  go false later m = inr (later m)

module _ (d : FailData) (m : FailMemory) (p : Shown) (s b : ℕ) (i : IsIntact d m p) (may : MayFree d m s b) where
  not_there : (z : ℕ) → IsAmong z (log_ids d m) → z ≡ s → ⊥
  not_there z c same =
      i.waiting.out (record { segment = s; backup = b }) may.waits
      (subst (λ (y : ℕ). IsAmong y (log_ids d m)) same c)

  some : d.head.start.id ≡ 0 → ⊥
  some none = i.waiting.real (record { segment = s; backup = b }) may.waits none

  new_there : (n : Start) → IsNew d n → IsAmong n.id (log_ids d m)
  new_there n (inl is) = new_in d m n is
  new_there n (inr c) = absurd (subst (IsAmong n) (i.log.held.logged.settled (settled_if d.mode may.calm)) c)

  stays_there : (z : ℕ) → Stays d.head.start m.pass z ⊎ IsAmong z m.pass.survivors → IsAmong z (log_ids d m)
  stays_there z (inl l) = in_digest d m z (subst (IsAmong z) (sym (now_is d.head.start some)) l.0)
  stays_there z (inr l) = in_survivors d m z l

  -- what the digests name is of the log set
  other_there : (z : ℕ) → IsOther d z → IsAmong z (log_ids d m)
  other_there z (inl l) = in_digest d m z (now_others d.head.start z i.log.held.logged.head.below l)
  other_there z (inr (n, inl is, l, apart)) = elim (cases_Bool m.commits) as (λ _. IsAmong z (log_ids d m)) [
    | inl its ↦ stays_there z (((i.rolling n is).1 its).from z l)
    | inr plain ↦ in_digest d m z (subst (IsAmong z) ((i.rolling n is).0 plain) l)
  ]
  other_there z (inr (n, inr c, l, apart)) =
      absurd (subst (IsAmong n) (i.log.held.logged.settled (settled_if d.mode may.calm)) c)

  pub spot_is_free : IsFree d s
  spot_is_free = record {
    head = λ same. not_there d.head.start.id (in_digest d m d.head.start.id (now_own d.head.start some)) (sym same);
    new = λ n is_new same. not_there n.id (new_there n is_new) (sym same);
    others = λ other. not_there s (other_there s other) refl;
  }

  pub frees : Frees d (free_op s b) d
  frees = record { b = b; s = s; calm = may.calm; free = spot_is_free; op = refl; gives = refl }

  module _ (q : Shown) (took : taken p (free_op s b) ≡ Some q) where
    held : IsLogHeld d i.log.texts q
    held = frees_held d d i.log.texts p q (free_op s b) i.log.held frees took

    -- other segments' replicas stay
    still : (c z : ℕ) → (z ≡ s → ⊥) → q.holds c z ≡ p.holds c z
    still c z other =
        let at = is_taken p q (free_op s b) b s Free refl took in
        ap (λ (w : Shown). w.holds c z) at.same ∙ unchanged p.holds b s at.x c z (λ both. other (sym both.1))

    still_survivor : (c z : ℕ) → IsAmong z m.pass.survivors → q.holds c z ≡ p.holds c z
    still_survivor c z survivor = still c z (not_there z (in_survivors d m z survivor))

    -- with less that waits
    without_it : (left : List Spot) → ((w : Spot) → IsAmong w left → IsAmong w m.waiting)
        → IsIntactWith i.past d (record m { waiting = left }) q
    without_it left within = (
      record {
        log = record { texts = i.log.texts; held = held; standing = i.log.standing };
        tracked = i.tracked;
        passing = i.passing;
        around = i.around;
        images = i.images;
        repaired = i.repaired;
        whole = i.whole;
        chosen = i.chosen;
        sealing = record {
          bare = i.sealing.bare;
          one = i.sealing.one;
          each = λ z c r survivor there.
              let at = i.sealing.each z c r survivor (sym (still_survivor c z survivor) ∙ there) in
              record { done = at.done; image = at.image; text = at.text; closed = at.closed };
          held = λ z c survivor has_it. subst (λ (o : Option Replica). IsSome o) (sym (still_survivor c z survivor))
              (i.sealing.held z c survivor has_it);
        };
        rolling = i.rolling;
        committed = λ its.
            let was = i.committed its in record { real = was.real; done = was.done; images = was.images };
        waiting = record {
          out = λ w l. i.waiting.out w (within w l);
          below = λ w l. i.waiting.below w (within w l);
          real = λ w l. i.waiting.real w (within w l);
        };
        recorded = i.recorded;
        repairs = i.repairs;
        real = i.real;
        past = i.past;
        before = i.before;
      },
      refl,
    )

pub free_keeps : FreeKeeps
free_keeps d m p q s b i may took =
    let spot : Spot = record { segment = s; backup = b } in (
      without_it d m p s b i may q took m.waiting (λ w l. l),
      without_it d m p s b i may q took (freed m spot).waiting
          (left_waits (λ (v : Spot). not (is_spot spot v)) m.waiting),
    )
