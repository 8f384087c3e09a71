-- A pass's step over one entry leaves the log intact, whether it moves, carries or drops the entry.
use Rattle.std.proofs.Common.{◌≡◌, ℕ, ◌<◌, inl, inr, Bool, true, false, cond, List, [], ◌∷◌, ◌++◌, refl, sym, ap}
use Rattle.std.proofs.Common.{subst, ◌∙◌}
use Rattle.std.specs.Prelude.{Some}
use Rattle.entry.specs.declared.entry.Object.{Object as ObjectValue}
use Rattle.entry.specs.declared.entry.Tombstone.{Tombstone as TombstoneValue}
use Rattle.entry.specs.declared.entry.Entry.{Entry}
use Rattle.entry.specs.declared.entry.Entry.TheVariants.{Header, Digest, Safe, Object, Tombstone}
use Rattle.entry.specs.Bag.{IsAmong}
use Rattle.entry.specs.Meaning.{IsOfKey, version_of, object_at}
use Rattle.entry.specs.Text.{is_data}
use Rattle.log_bytes.specs.log_laws.Heads.{Start}
use Rattle.log_bytes.specs.log_laws.Memory.{Place, Index, Images, LogSet, grown, copied, StandsAt}
use Rattle.log_bytes.specs.log_laws.ImageSteps.{with_place, next_place, is_copied}
use Rattle.log_bytes.specs.log_laws.Tracked.{IsTracked, IsPassing, IsAround}
use Rattle.log_bytes.proofs.log_laws.IndexPlaces.{place_set, place_true, place_false, has_false}
use Rattle.log_bytes.proofs.log_laws.CopiedEntries.{live_copied, live_passing, grave_copied, grave_passing}
use Rattle.log_bytes.proofs.log_laws.CopiedEntries.{dropped_passing}
use Rattle.log_bytes.proofs.log_laws.ImageLists.{among_at, at_one, grown_out}
use Rattle.log_bytes.proofs.log_laws.TrackedBags.{found_at, one_object}
use Rattle.log_bytes.specs.log_laws.Shown.{Shown}
use Rattle.log_bytes.specs.log_laws.Data.{FailData, new_of, state_of}
use Rattle.log_memory.specs.Covered.{map_of}
use Rattle.log_memory.specs.Intact.{AreSealed, AreRepaired, IsRollOf, IsIntact, IsIntactWith}
use Rattle.log_memory.specs.Laws.{CopyKeeps}
use Rattle.log_memory.specs.Memory.{FailMemory, log_ids, log_set_of}
use Rattle.log_memory.specs.Steps.{with_copy}
use Rattle.log_memory.proofs.Openings.{IsImage, image_longer, one_image}

-- ---- a copy

module _ (d : FailData) (m : FailMemory) (p : Shown) (i : IsIntact d m p) (first : Place) (rest : List Place)
    (cursor : m.rest ≡ first ∷ rest) (victim : IsAmong first.segment m.pass.victims) (s : ℕ)
    (survivor : IsAmong s m.pass.survivors) where
  abbrev log : LogSet
  log = log_set_of d m i.log.texts

  not_done : m.rest ≡ [] → ⊥
  not_done is = let never : first ∷ rest ≡ [] = sym cursor ∙ is in cc

  passing_first : IsPassing (log_ids d m) m.images m.pass m.index (first ∷ rest)
  passing_first =
      subst (λ (r : List Place). IsPassing (log_ids d m) m.images m.pass m.index r) cursor i.passing

  -- nothing is sealed or committed yet
  sealing_then : (image : Images) (index : Index)
      → AreSealed d (record m { images = image; index = index; rest = rest }) i.log.texts p
  sealing_then image index = record {
    bare = i.sealing.bare;
    one = i.sealing.one;
    each = λ z b r there held. absurd (not_done (i.sealing.each z b r there held).done);
    held = i.sealing.held;
  }

  rolling_then : (image : Images) (index : Index) (n : Start) → new_of d.mode ≡ Some n
      → IsRollOf d (record m { images = image; index = index; rest = rest }) n
  rolling_then image index n is =
      let was = i.rolling n is in (was.0, λ c. absurd (not_done (i.committed c).done))

  around_copied : (e : Entry) → IsAmong e (m.images first.segment)
      → IsAround (copied log s e) m.pass (map_of d) (state_of d).safe d.next
  around_copied e there =
      let here = i.passing.victims_count first.segment victim in
      let is = i.around in
      record {
        below = is.below;
        named_below = λ z t c l. elim (grown_out m.images s e z (Tombstone t) l) as (λ _. t.segment < d.next) [
          | inl a ↦ is.named_below z t c a
          | inr w ↦ is.named_below first.segment t here
              (subst (λ (g : Entry). IsAmong g (m.images first.segment)) w.1 there)
        ];
        versions = λ k h z f l. elim l.among as (λ _. IsOfKey k f → version_of f < (state_of d).safe) [
          | inl a ↦ elim (grown_out m.images s e z f a) as (λ _. IsOfKey k f → version_of f < (state_of d).safe) [
            | inl b ↦ is.versions k h z f (record { counts = l.counts; among = inl b })
            | inr w ↦ is.versions k h first.segment f (record {
              counts = here;
              among = inl (subst (λ (g : Entry). IsAmong g (m.images first.segment)) w.1 there);
            })
          ]
          | inr a ↦ is.versions k h z f (record { counts = l.counts; among = inr a })
        ];
        texted = λ z f k c not of_key l. elim (grown_out m.images s e z f l) [
          | inl a ↦ is.texted z f k c not of_key a
          | inr w ↦ absurd (not (subst (λ (y : ℕ). IsAmong y m.pass.survivors) (sym w.0) survivor))
        ];
      }

  -- an object or a tombstone stands behind the survivor's opening
  images_copied : (e : Entry) → is_data e ≡ true → (z : ℕ) → IsAmong z (log_ids d m)
      → IsImage d.config.master z (i.log.texts.text z) (grown m.images s e z)
  images_copied e is = one_image d m i.log.texts s (m.images s ++ e ∷ []) i.images
      (λ c. image_longer d.config.master s (i.log.texts.text s) (m.images s) (e ∷ []) (rw is refl) (i.images s c))

  -- no repair sealed a survivor
  repaired_then : (e : Entry) (index : Index)
      → AreRepaired (record m { images = grown m.images s e; index = index; rest = rest }) i.log.texts
  repaired_then e index z xs k f sealed at l = elim (grown_out m.images s e z f l) as (λ _. IsAmong f xs) [
    | inl a ↦ i.repaired z xs k f sealed at a
    | inr w ↦ absurd (subst (λ (ys : List (List Entry)). IsAmong xs ys) (i.sealing.one s survivor)
        (subst (λ (y : ℕ). IsAmong xs (i.log.texts.images y)) w.0 sealed))
  ]

  -- a live object
  moved : (o : ObjectValue) → StandsAt m.images first (Object o) → m.index o.key ≡ Some first
      → IsIntactWith i.past d (with_copy m rest s (Object o)) p
  moved o at named =
      let contents = map_of d in
      let f = found_at log m.pass m.index contents i.tracked o.key first named in
      let it : object_at o.key f.has ≡ Object o =
      at_one (m.images first.segment) first.position (object_at o.key f.has) (Object o) f.stands at in
      let index = with_place m.index o.key (Some (next_place m.images s)) in
      let to = place_set m.index o.key (Some (next_place m.images s)) in (
        record {
          log = i.log;
          tracked = subst (λ (e : Entry). IsTracked (copied log s e) m.pass index contents) it
              (live_copied log m.pass m.index contents first rest i.tracked passing_first victim s survivor o.key f.has
              f.present named index to);
          passing = subst (λ (e : Entry). IsPassing (log_ids d m) (grown m.images s e) m.pass index rest) it
              (live_passing log m.pass m.index contents first rest i.tracked passing_first victim s survivor o.key f.has
              f.present named index to);
          around = around_copied (Object o) (among_at _ _ _ at);
          images = images_copied (Object o) refl;
          repaired = repaired_then (Object o) index;
          whole = i.whole;
          chosen = i.chosen;
          sealing = sealing_then (grown m.images s (Object o)) index;
          rolling = rolling_then (grown m.images s (Object o)) index;
          committed = λ c. absurd (not_done (i.committed c).done);
          waiting = record { out = i.waiting.out; below = i.waiting.below; real = i.waiting.real };
          recorded = i.recorded;
          repairs = i.repairs;
          real = i.real;
          past = i.past;
          before = i.before;
        },
        refl,
      )

  carried : (t : TombstoneValue) → StandsAt m.images first (Tombstone t)
      → IsIntactWith i.past d (with_copy m rest s (Tombstone t)) p
  carried t at = (
    record {
      log = i.log;
      tracked = grave_copied log m.pass m.index (map_of d) first rest i.tracked passing_first victim s survivor t at;
      passing = grave_passing log m.pass m.index (map_of d) first rest i.tracked passing_first victim s survivor t at;
      around = around_copied (Tombstone t) (among_at _ _ _ at);
      images = images_copied (Tombstone t) refl;
      repaired = repaired_then (Tombstone t) m.index;
      whole = i.whole;
      chosen = i.chosen;
      sealing = sealing_then (grown m.images s (Tombstone t)) m.index;
      rolling = rolling_then (grown m.images s (Tombstone t)) m.index;
      committed = λ c. absurd (not_done (i.committed c).done);
      waiting = record { out = i.waiting.out; below = i.waiting.below; real = i.waiting.real };
      recorded = i.recorded;
      repairs = i.repairs;
      real = i.real;
      past = i.past;
      before = i.before;
    },
    refl,
  )

  dropped : (e : Entry) → StandsAt m.images first e
      → ((o : ObjectValue) → e ≡ Object o → m.index o.key ≡ Some first → ⊥)
      → ((t : TombstoneValue) → e ≡ Tombstone t → IsAmong t.segment (log_ids d m) → ⊥)
      → IsIntactWith i.past d (record m { rest = rest }) p
  dropped e at unnamed gone = (
    record {
      log = i.log;
      tracked = i.tracked;
      passing = dropped_passing log m.pass m.index (map_of d) first rest i.tracked passing_first victim e at unnamed
          gone;
      around = i.around;
      images = i.images;
      repaired = i.repaired;
      whole = i.whole;
      chosen = i.chosen;
      sealing = sealing_then m.images m.index;
      rolling = rolling_then m.images m.index;
      committed = λ c. absurd (not_done (i.committed c).done);
      waiting = record { out = i.waiting.out; below = i.waiting.below; real = i.waiting.real };
      recorded = i.recorded;
      repairs = i.repairs;
      real = i.real;
      past = i.past;
      before = i.before;
    },
    refl,
  )

  -- the entry at the cursor, whichever it is
  treated : (e : Entry) (b : Bool) → is_copied (log_ids d m) m.index first e ≡ b → StandsAt m.images first e
      → IsIntactWith i.past d (cond b (with_copy m rest s e) (record m { rest = rest })) p
  treated (Object o) true is at = moved o at (place_true (m.index o.key) first is)
  treated (Object o) false is at = dropped (Object o) at
      (λ q same named. place_false (m.index o.key) first is
      (ap (λ (z : ObjectValue). m.index z.key) (one_object o q same) ∙ named)) (λ t e. absurd (cc))
  treated (Tombstone t) true is at = carried t at
  treated (Tombstone t) false is at = dropped (Tombstone t) at (λ o e. absurd (cc)) (λ u e named.
      let same : t ≡ u = cc in
      has_false (log_ids d m) t.segment is (subst (λ (y : ℕ). IsAmong y (log_ids d m))
      (sym (ap (λ (w : TombstoneValue). w.segment) same)) named))
  treated (Header h) true is at = absurd (cc)
  treated (Header h) false is at = dropped (Header h) at (λ o e. absurd (cc)) (λ u e. absurd (cc))
  treated (Digest l) true is at = absurd (cc)
  treated (Digest l) false is at = dropped (Digest l) at (λ o e. absurd (cc)) (λ u e. absurd (cc))
  treated (Safe v) true is at = absurd (cc)
  treated (Safe v) false is at = dropped (Safe v) at (λ o e. absurd (cc)) (λ u e. absurd (cc))

pub copy_keeps : CopyKeeps
copy_keeps d m p first rest s e i may =
    treated d m p i first rest may.cursor may.victim s may.survivor e (is_copied (log_ids d m) m.index first e) refl
    may.at
