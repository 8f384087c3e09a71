-- The end of an ordinary roll, also of a failover's, leaves the log intact.
use Rattle.std.proofs.Common.{◌≡◌, ℕ, ◌⊎◌, inl, inr, true, false, Some, refl, sym, ap, subst, ◌∙◌, arith}
use Rattle.std.specs.Prelude.{Option, None}
use Rattle.entry.specs.Bag.{IsAmong}
use Rattle.entry.proofs.BagLemmas.{among_push}
use Rattle.log_bytes.specs.log_laws.Heads.{Start}
use Rattle.log_bytes.specs.log_laws.Memory.{new_ids, LogSet}
use Rattle.log_bytes.proofs.log_laws.LogSetChanges.{IsMore, more_tracked, more_passing, more_around}
use Rattle.log_bytes.specs.log_laws.Shown.{Shown}
use Rattle.log_bytes.specs.log_laws.Data.{Mode, FailData, new_of, is_failing, state_of}
use Rattle.log_bytes.specs.log_laws.Log.{IsKept}
use Rattle.log_bytes.specs.log_laws.Steps.{ids_now, ended, EndsRoll, IsKnown}
use Rattle.log_bytes.proofs.log_laws.Ending.{ending_is_held, ending_is_standing}
use Rattle.log_memory.specs.Covered.{map_of}
use Rattle.log_memory.specs.Intact.{IsIntact, IsIntactWith}
use Rattle.log_memory.specs.Laws.{EndKeeps}
use Rattle.log_memory.specs.Memory.{FailMemory, log_ids, log_set_of}
use Rattle.log_memory.specs.Past.{past_after}
use Rattle.log_memory.proofs.Ids.{ids_out, in_digest, in_survivors, now_out, now_own, now_others, new_in, new_one}
use Rattle.log_memory.proofs.Pasts.{ended_past}
use Rattle.log_memory.proofs.Sealed.{still_sealed}

module _ (d : FailData) (m : FailMemory) (p : Shown) (n : Start) (mode : Mode) (i : IsIntact d m p)
    (known : IsKnown d p) (ends : EndsRoll d n mode) where
  abbrev e : FailData
  e = ended d n mode

  abbrev then_log : IsKept e p
  then_log = record {
    texts = i.log.texts;
    held = ending_is_held d i.log.texts p n mode i.log.held known ends;
    standing = ending_is_standing d i.log.texts p n mode i.log.held i.log.standing known ends;
  }

  pub is_new : new_of d.mode ≡ Some n
  is_new = elim ends.may as (λ _. new_of d.mode ≡ Some n) [
    | inl calm ↦ ap new_of calm.0
    | inr fails ↦ ap new_of fails.0
  ]

  pub no_new : new_of mode ≡ None
  no_new = elim ends.may as (λ _. new_of mode ≡ None) [
    | inl calm ↦ ap new_of calm.1
    | inr fails ↦ ap new_of fails.1
  ]

  pub some : n.id ≡ 0 → ⊥
  some none = let newer = i.log.held.logged.newer n (inl is_new) in omega arith

  pub was_failing : is_failing mode ≡ true → is_failing d.mode ≡ true
  was_failing fails = elim ends.may as (λ _. is_failing d.mode ≡ true) [
    | inl calm ↦ (let never : false ≡ true = sym (ap is_failing calm.1) ∙ fails in absurd (cc))
    | inr closes ↦ ap is_failing closes.0
  ]

  module _ (ordinary : m.commits ≡ false) where
    others_are : n.others ≡ ids_now d.head.start
    others_are = (i.rolling n is_new).0 ordinary

    to_last : (s : ℕ) → IsAmong s (log_ids d m) → IsAmong s (log_ids e m)
    to_last s c = elim (ids_out d m s c) as (λ _. IsAmong s (log_ids e m)) [
      | inl l ↦ in_digest e m s
          (now_others n s (i.log.held.logged.new n (inl is_new)).below (subst (IsAmong s) (sym others_are) l))
      | inr (inl l) ↦ in_digest e m s
          (subst (λ (x : ℕ). IsAmong x (ids_now n)) (new_one (new_of d.mode) n s is_new l) (now_own n some))
      | inr (inr l) ↦ in_survivors e m s l
    ]

    from_now : (s : ℕ) → IsAmong s (ids_now n) → IsAmong s (ids_now d.head.start) ⊎ (n.id ≡ s)
    from_now s c = elim (among_push s n.others n.id (now_out n s c).0)
        as (λ _. IsAmong s (ids_now d.head.start) ⊎ (n.id ≡ s)) [
          | inl l ↦ inl (subst (IsAmong s) others_are l)
          | inr is ↦ inr is
        ]

    from_last : (s : ℕ) → IsAmong s (log_ids e m) → IsAmong s (log_ids d m)
    from_last s c = elim (ids_out e m s c) as (λ _. IsAmong s (log_ids d m)) [
      | inl l ↦ elim (from_now s l) as (λ _. IsAmong s (log_ids d m)) [
        | inl old ↦ in_digest d m s old
        | inr is ↦ subst (λ (x : ℕ). IsAmong x (log_ids d m)) is (new_in d m n is_new)
      ]
      | inr (inl l) ↦ absurd (subst (λ (o : Option Start). IsAmong s (new_ids o)) no_new l)
      | inr (inr l) ↦ in_survivors d m s l
    ]

    abbrev log : LogSet
    log = log_set_of d m i.log.texts

    abbrev new : LogSet
    new = log_set_of e m i.log.texts

    more : IsMore log new
    more = record {
      counted = to_last;
      image = λ s c. refl;
      text = λ s c. refl;
      blank = λ s c. inl (from_last s c);
    }

    never_new : (x : Start) → new_of mode ≡ Some x → ⊥
    never_new x is = let never : None ≡ Some x = sym no_new ∙ is in cc

    done : IsIntactWith (past_after d i.past) e m p
    done = (
      record {
        log = then_log;
        tracked = more_tracked log new more m.pass i.passing.survivors_count m.index (map_of d) i.tracked;
        passing = more_passing log new more m.pass i.passing.survivors_count m.index m.rest i.passing
            (λ q t victim at named. from_last t.segment named);
        around = more_around log new more m.pass i.passing.survivors_count (map_of d) (state_of d).safe d.next d.next
            i.around (omega arith) (λ s c. inl (from_last s c));
        images = λ s c. i.images s (from_last s c);
        repaired = i.repaired;
        whole = record { one = i.whole.one; failed = λ fails. i.whole.failed (was_failing fails) };
        chosen = record {
          victims = λ s victim. subst (IsAmong s) (sym others_are)
              (now_others d.head.start s i.log.held.logged.head.below (i.chosen.victims s victim));
          some = i.chosen.some;
          outside = λ s survivor c. elim (among_push s n.others n.id c) as (λ _. ⊥) [
            | inl l ↦ i.chosen.outside s survivor (now_out d.head.start s (subst (IsAmong s) others_are l)).0
            | inr is ↦ i.chosen.not_new s n survivor is_new is
          ];
          not_new = λ s x survivor is. absurd (never_new x is);
        };
        sealing = still_sealed d e m i.log.texts i.log.texts p p m.images m.index m.commits i.sealing
            (λ s c. refl) (λ s c. refl) (λ s c. refl) (λ b s c. refl) (λ s b c took. took);
        rolling = λ x is. absurd (never_new x is);
        committed = λ c. let never : true ≡ false = sym c ∙ ordinary in absurd (cc);
        waiting = record {
          out = λ w at c. i.waiting.out w at (from_last w.segment c);
          below = i.waiting.below;
          real = λ w at. some;
        };
        recorded = λ x is. absurd (never_new x is);
        repairs = λ _. i.recorded n is_new;
        real = λ _. some;
        past = past_after d i.past;
        before = ended_past d p n mode i.log i.past ends i.before;
      },
      refl,
    )

pub end_keeps : EndKeeps
end_keeps d m p n mode i known ends ordinary = done d m p n mode i known ends ordinary
