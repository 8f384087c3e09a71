-- A command that is applied leaves the log intact, while a pass or a failover is open too.
use Rattle.std.proofs.Common.{◌≡◌, ℕ, ◌≤◌, ◌⊎◌, inl, inr, List, [], ◌∷◌, ◌++◌, Some, refl, sym, ap, subst, ◌∙◌, arith}
use Rattle.std.specs.Prelude.{None, filter}
use Rattle.entry.specs.declared.entry.Entry.{Entry}
use Rattle.entry.specs.Bag.{IsAmong}
use Rattle.entry.specs.Text.{is_data}
use Rattle.versioned_map.specs.declared.command.Record.{Record}
use Rattle.versioned_map.specs.Versioned.{State, after_command}
use Rattle.log_bytes.specs.log_laws.Heads.{Start}
use Rattle.log_bytes.proofs.log_laws.Fronts.{state_next}
use Rattle.log_bytes.proofs.log_laws.IdLists.{below_at}
use Rattle.log_bytes.specs.log_laws.Memory.{LogSet}
use Rattle.log_bytes.specs.log_laws.ImageSteps.{images_with, index_with}
use Rattle.log_bytes.specs.log_laws.Tracked.{IsTracked, AreTexted, IsAround}
use Rattle.log_bytes.proofs.log_laws.AppendedUnits.{IsStage, command_then, images_there, images_out}
use Rattle.log_bytes.proofs.log_laws.LogSetChanges.{told_in, texts_changed}
use Rattle.log_bytes.specs.log_laws.Text.{Text}
use Rattle.log_bytes.specs.log_laws.Shown.{Shown}
use Rattle.log_bytes.specs.log_laws.Data.{Calm, Repairs, FailData, new_of, state_of}
use Rattle.log_bytes.specs.log_laws.Log.{Texts, IsKept}
use Rattle.log_bytes.specs.log_laws.Steps.{unit_now, applied, MayApply, texts_appended}
use Rattle.log_bytes.proofs.log_laws.Appending.{appended_is_held}
use Rattle.log_bytes.proofs.log_laws.Applying.{may_append, applied_is_standing}
use Rattle.log_memory.specs.Intact.{AreRepaired, IsIntact}
use Rattle.log_memory.specs.Laws.{ApplyKeeps}
use Rattle.log_memory.specs.Memory.{FailMemory, entries_in, log_ids, log_set_of, AreImages}
use Rattle.log_memory.specs.Steps.{recorded, IsNamed}
use Rattle.log_memory.proofs.Appending.{unit_none, unit_data, text_still, appended_from, appended_texted}
use Rattle.log_memory.proofs.Appending.{appended_images}
use Rattle.log_memory.proofs.Ids.{now_own, in_digest}
use Rattle.log_memory.proofs.Pasts.{applied_past}
use Rattle.log_memory.proofs.Sealed.{still_sealed}

module _ (d : FailData) (m : FailMemory) (p : Shown) (segment : ℕ) (r : Record) (i : IsIntact d m p)
    (may : MayApply d segment r) (named : IsNamed m segment r) where
  abbrev id : ℕ
  id = d.head.start.id

  abbrev unit : List Entry
  unit = unit_now d segment r

  abbrev e : FailData
  e = applied d segment r

  abbrev n : FailMemory
  n = recorded d m segment r

  abbrev log : IsKept e p
  log = record {
    texts = texts_appended d i.log.texts unit;
    held = appended_is_held d i.log.texts p (d.history ++ r ∷ []) unit i.log.held (may_append d segment r may);
    standing = applied_is_standing d i.log.texts p segment r i.log.held i.log.standing may;
  }

  abbrev old_texts : Texts
  old_texts = i.log.texts

  no_survivor : IsAmong id m.pass.survivors → ⊥
  no_survivor survivor =
      i.chosen.outside id survivor
      (among_own d.head.start.others) where
        among_own : (ids : List ℕ) → IsAmong id (ids ++ id ∷ [])
        among_own [] = inl refl
        among_own (s ∷ ids) = inr (among_own ids)

  no_victim : IsAmong id m.pass.victims → ⊥
  no_victim victim =
      let lt = below_at id d.head.start.others id i.log.held.logged.head.below (i.chosen.victims id victim) in
      omega arith

  -- ---- texts

  from : (z : ℕ) (f : Entry) → IsAmong f (entries_in log.texts z)
      → IsAmong f (n.images z) ⊎ IsAmong f (entries_in old_texts z)
  from = appended_from d m old_texts i.log.held.logged unit

  texted : AreTexted (log_set_of e n log.texts) m.pass
  texted = appended_texted d m old_texts i.log.held.logged unit i.around.texted

  -- ---- images and index

  -- with the texts from before
  abbrev grown_log : LogSet
  grown_log = record { ids = log_ids d m; image = n.images; text = entries_in old_texts }

  abbrev to : State
  to = after_command (state_of d) r.command

  before : IsStage (log_set_of d m old_texts) m.pass m.index m.rest (state_of d).contents (state_of d).safe d.next
  before = record {
    tracked = i.tracked;
    passing = i.passing;
    below = i.around.below;
    named_below = i.around.named_below;
    versions = i.around.versions;
  }

  stage : IsStage grown_log m.pass n.index m.rest to.contents to.safe d.next
  stage = elim may.calm as (λ _. IsStage grown_log m.pass n.index m.rest to.contents to.safe d.next) [
    | inl none ↦
        subst (λ (st : State). IsStage grown_log m.pass n.index m.rest st.contents st.safe d.next)
        (sym (unit_none (state_of d) segment r.command none))
        (subst (λ (u : List Entry). IsStage (record {
          ids = log_ids d m;
          image = images_with m.images id u;
          text = entries_in old_texts;
        }) m.pass (index_with m.images m.index id u) m.rest (state_of d).contents (state_of d).safe d.next) (sym none)
        before)
    | inr calm ↦
        command_then m.pass m.rest d.next id no_victim no_survivor (log_ids d m) m.images (entries_in old_texts)
        m.index (state_of d) (in_digest d m id (now_own d.head.start (i.real (inl calm)))) segment r.command named
        before
  ]

  state_is : to ≡ state_of e
  state_is = sym (state_next d.opening d.history r)

  tracked : IsTracked (log_set_of e n log.texts) m.pass n.index (state_of e).contents
  tracked = subst (λ (st : State). IsTracked (log_set_of e n log.texts) m.pass n.index st.contents) state_is
      (texts_changed grown_log (entries_in log.texts) from m.pass n.index to.contents stage.tracked)

  around : IsAround (log_set_of e n log.texts) m.pass (state_of e).contents (state_of e).safe d.next
  around = subst (λ (st : State). IsAround (log_set_of e n log.texts) m.pass st.contents st.safe d.next) state_is
      (record {
        below = stage.below;
        named_below = stage.named_below;
        versions = λ k h s f l. stage.versions k h s f (told_in grown_log (entries_in log.texts) from s f l);
        texted = texted;
      })

  images : AreImages e n log.texts
  images = appended_images d m old_texts i.log.held.logged unit (unit_data (state_of d) segment r.command) i.images

  -- no repair sealed the head
  repaired : AreRepaired n log.texts
  repaired z xs k f sealed at l = elim (images_out m.images id z unit f l) as (λ _. IsAmong f xs) [
    | inl a ↦ i.repaired z xs k f sealed at a
    | inr w ↦ absurd (subst (λ (ys : List (List Entry)). IsAmong xs ys) i.log.held.logged.one
        (subst (λ (y : ℕ). IsAmong xs (old_texts.images y)) w.0 sealed))
  ]

  -- ---- the safe version

  same_state : unit ≡ [] → state_of e ≡ state_of d
  same_state none = state_next d.opening d.history r ∙ unit_none (state_of d) segment r.command none

  -- if there is a new head nothing is appended, nor while repairs go on
  new_quiet : (x : Start) → new_of d.mode ≡ Some x → unit ≡ []
  new_quiet x is = elim may.calm as (λ _. unit ≡ []) [
    | inl none ↦ none
    | inr calm ↦ (let never : None ≡ Some x = sym (ap new_of calm) ∙ is in absurd (cc))
  ]

  repair_quiet : d.mode ≡ Repairs → unit ≡ []
  repair_quiet is = elim may.calm as (λ _. unit ≡ []) [
    | inl none ↦ none
    | inr calm ↦ (let never : Calm ≡ Repairs = sym calm ∙ is in absurd (cc))
  ]

  -- ---- survivors

  not_head : (s : ℕ) → IsAmong s m.pass.survivors → s ≡ id → ⊥
  not_head s survivor same = no_survivor (subst (λ (y : ℕ). IsAmong y m.pass.survivors) same survivor)

  image_same : (s : ℕ) → IsAmong s m.pass.survivors → n.images s ≡ m.images s
  image_same s survivor = images_there m.images id s unit (not_head s survivor)

  text_same : (s : ℕ) → IsAmong s m.pass.survivors → log.texts.text s ≡ old_texts.text s
  text_same s survivor = text_still d m old_texts i.log.held.logged unit s (not_head s survivor)

pub apply_keeps : ApplyKeeps
apply_keeps d m p segment r i may named = (
  record {
    log = log d m p segment r i may named;
    tracked = tracked d m p segment r i may named;
    passing = (stage d m p segment r i may named).passing;
    around = around d m p segment r i may named;
    images = images d m p segment r i may named;
    repaired = repaired d m p segment r i may named;
    whole = record { one = i.whole.one; failed = i.whole.failed };
    chosen = i.chosen;
    sealing = still_sealed d (applied d segment r) m i.log.texts (log d m p segment r i may named).texts p p
        (recorded d m segment r).images (recorded d m segment r).index m.commits i.sealing
        (image_same d m p segment r i may named) (text_same d m p segment r i may named) (λ s survivor. refl)
        (λ b s survivor. refl) (λ s b survivor took. took);
    rolling = i.rolling;
    committed = λ c.
        let was = i.committed c in
        record {
          real = was.real;
          done = was.done;
          images = λ s survivor.
              ap (λ (t : Text). t.entries) (text_same d m p segment r i may named s survivor) ∙ was.images s survivor
              ∙ sym (ap (filter is_data) (image_same d m p segment r i may named s survivor));
        };
    waiting = record { out = i.waiting.out; below = i.waiting.below; real = i.waiting.real };
    recorded = λ n is. subst (λ (st : State). st.safe ≤ n.safe)
        (sym (same_state d m p segment r i may named (new_quiet d m p segment r i may named n is))) (i.recorded n is);
    repairs = λ is. subst (λ (st : State). st.safe ≤ d.head.start.safe)
        (sym (same_state d m p segment r i may named (repair_quiet d m p segment r i may named is))) (i.repairs is);
    real = i.real;
    past = i.past;
    before = applied_past d p segment r i.log i.past may i.before;
  },
  refl,
)
