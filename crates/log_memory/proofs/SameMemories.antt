-- A log is intact with another memory that has the same images and pass, and whose index leads to the same objects.
use Rattle.std.proofs.Common.{◌≡◌, ℕ, ◌⊎◌, inl, inr, true, List, refl, sym, ap, subst, ◌∙◌, arith}
use Rattle.std.specs.Prelude.{Some, filter}
use Rattle.std.proofs.lemmas.Option.{same_Some}
use Rattle.entry.specs.declared.key.Key.{Key}
use Rattle.entry.specs.declared.entry.Object.{Object as ObjectValue}
use Rattle.entry.specs.declared.entry.Entry.{Entry}
use Rattle.entry.specs.declared.entry.Entry.TheVariants.{Object, Tombstone}
use Rattle.entry.specs.Bag.{IsAmong}
use Rattle.entry.specs.Meaning.{Versioned, Contents, object_at}
use Rattle.entry.specs.Text.{is_data}
use Rattle.log_bytes.specs.log_laws.Heads.{Start}
use Rattle.log_bytes.specs.log_laws.Memory.{Place, Pass, LogSet, IsAt, SegmentHas}
use Rattle.log_bytes.specs.log_laws.Tracked.{IsCopied, IsFound, IsTracked, IsPassing, IsAround}
use Rattle.log_bytes.proofs.log_laws.LogSetChanges.{IsMore, more_tracked, more_passing, more_around}
use Rattle.log_bytes.specs.log_laws.Shown.{Shown}
use Rattle.log_bytes.specs.log_laws.Data.{FailData, new_of, state_of}
use Rattle.log_bytes.specs.log_laws.Log.{Texts}
use Rattle.log_bytes.specs.Text.{entries_for}
use Rattle.log_memory.specs.Covered.{map_of}
use Rattle.log_memory.specs.Intact.{IsCommitting, AreSealed, IsRollOf, AreGone, AreRepaired, IsIntact, IsIntactWith}
use Rattle.log_memory.specs.Memory.{FailMemory, log_ids, log_set_of, data_of, AreImages}
use Rattle.log_memory.specs.Same.{IsSameMemory, SameIsIntact, SameKnows}
use Rattle.log_memory.proofs.Ids.{in_survivors}

module _ (d : FailData) (m n : FailMemory) (same : IsSameMemory d m n) where
  -- the other memory with the very pass
  abbrev other : FailMemory
  other = record n { pass = m.pass }

  data_is : (s : ℕ) → IsAmong s (log_ids d m) → data_of n s ≡ data_of m s
  data_is s c = ap (filter is_data) (same.images s c)

  pub images_too : (texts : Texts) → AreImages d m texts → AreImages d other texts
  images_too texts are s c =
      same.images s c ∙ are s c
      ∙ ap (λ (es : List Entry). entries_for d.config.master s (record (texts.text s) { entries = es }))
      (sym (data_is s c))

  module _ (texts : Texts) (survive : (s : ℕ) → IsAmong s m.pass.survivors → IsAmong s (log_ids d m)) where
    abbrev log : LogSet
    log = log_set_of d m texts

    abbrev new : LogSet
    new = log_set_of d other texts

    same_more : IsMore log new
    same_more = record {
      counted = λ s c. c;
      image = same.images;
      text = λ s c. refl;
      blank = λ s c. inl c;
    }

    -- ---- the index

    module _ (is : IsTracked log m.pass m.index (map_of d)) where
      tracked_before : IsTracked new m.pass m.index (map_of d)
      tracked_before = more_tracked log new same_more m.pass survive m.index (map_of d) is

      found : (k : Key) (x : Versioned) → map_of d k ≡ Some x → IsFound new.ids new.image n.index k x
      found k x h =
          let f = same.found k x h in
          let was = is.found k x h in
          let one : was.place ≡ f.place = same_Some was.place f.place (sym was.indexed ∙ f.indexed) in
          let segment : was.place.segment ≡ f.other.segment =
          ap (λ (q : Place). q.segment) one ∙ sym f.segment in
          let counts = subst (λ (s : ℕ). IsAmong s log.ids) segment was.counts in
          record {
            place = f.other;
            indexed = f.other_indexed;
            counts = counts;
            stands = subst (λ (es : List Entry). IsAt es f.other.position (object_at k x))
                (sym (same.images f.other.segment counts)) f.stands;
          }

      lies : (k : Key) (x : Versioned) (q : Place) → map_of d k ≡ Some x → n.index k ≡ Some q → (s : ℕ)
          (o : ObjectValue) → SegmentHas new s (Object o) → Object o ≡ object_at k x
          → (q.segment ≡ s) ⊎ IsCopied new.image m.pass s q.segment o
      lies k x q h named s o has at =
          let f = same.found k x h in
          let one : q ≡ f.other = same_Some q f.other (sym named ∙ f.other_indexed) in
          let segment : q.segment ≡ f.place.segment = ap (λ (z : Place). z.segment) one ∙ f.segment in
          elim (tracked_before.lies k x f.place h f.indexed s o has at) [
            | inl here ↦ inl (segment ∙ here)
            | inr c ↦ inr (subst (λ (z : ℕ). IsCopied new.image m.pass s z o) (sym segment) c)
          ]

      pub same_tracked : IsTracked new m.pass n.index (map_of d)
      same_tracked = record {
        clean = tracked_before.clean;
        highest = tracked_before.highest;
        found = found;
        unindexed = same.unindexed;
        lies = lies;
        buried = tracked_before.buried;
      }

    -- ---- ids and versions

    pub same_around : (contents : Contents) (safe : ℕ) → IsAround log m.pass contents safe d.next
        → IsAround new m.pass contents safe d.next
    same_around contents safe is =
        more_around log new same_more m.pass survive contents safe d.next d.next is (omega arith) (λ s c. inl c)

    -- ---- the pass

    pub same_passing : IsPassing log.ids log.image m.pass m.index m.rest
        → IsPassing new.ids new.image m.pass n.index n.rest
    same_passing is =
        let before = more_passing log new same_more m.pass survive m.index m.rest is (λ q t victim at named. named) in
        record {
          victims_count = before.victims_count;
          survivors_count = before.survivors_count;
          disjoint = before.disjoint;
          copies = before.copies;
          live = same.live;
          carried = λ q t victim at named. elim (before.carried q t victim at named) [
            | inl l ↦ inl (same.carried q t victim
                (subst (λ (es : List Entry). IsAt es q.position (Tombstone t))
                (same.images q.segment (is.victims_count q.segment victim)) at) named l)
            | inr c ↦ inr c
          ];
        }

  -- ---- all

  module _ (p : Shown) (i : IsIntact d m p) where
    survivor_data : (s : ℕ) → IsAmong s m.pass.survivors → data_of n s ≡ data_of m s
    survivor_data s survivor = data_is s (in_survivors d m s survivor)

    sealing : AreSealed d other i.log.texts p
    sealing = record {
      bare = i.sealing.bare;
      one = i.sealing.one;
      each = λ s b r survivor there.
          let at = i.sealing.each s b r survivor there in
          record {
            done = same.done at.done;
            image = at.image ∙ sym (survivor_data s survivor);
            text = at.text;
            closed = at.closed;
          };
      held = i.sealing.held;
    }

    rolling : (x : Start) → new_of d.mode ≡ Some x → IsRollOf d other x
    rolling x is = let was = i.rolling x is in (
      λ plain. was.0 (sym same.commits ∙ plain),
      λ its. was.1 (sym same.commits ∙ its),
    )

    committed : n.commits ≡ true → IsCommitting d other i.log.texts
    committed its =
        let was = i.committed (sym same.commits ∙ its) in
        record {
          real = was.real;
          done = same.done was.done;
          images = λ s survivor. was.images s survivor ∙ sym (survivor_data s survivor);
        }

    waiting : AreGone d other
    waiting = record {
      out = λ w l. i.waiting.out w (same.waiting w l);
      below = λ w l. i.waiting.below w (same.waiting w l);
      real = λ w l. i.waiting.real w (same.waiting w l);
    }

    repaired : AreRepaired other i.log.texts
    repaired s es k e sealed at l = i.repaired s es k e sealed at (same.fewer s e l)

    intact : IsIntactWith i.past d other p
    intact = (
      record {
        log = i.log;
        tracked = same_tracked i.log.texts i.passing.survivors_count i.tracked;
        passing = same_passing i.log.texts i.passing.survivors_count i.passing;
        around = same_around i.log.texts i.passing.survivors_count (map_of d) (state_of d).safe i.around;
        images = images_too i.log.texts i.images;
        repaired = repaired;
        whole = i.whole;
        chosen = i.chosen;
        sealing = sealing;
        rolling = rolling;
        committed = committed;
        waiting = waiting;
        recorded = i.recorded;
        repairs = i.repairs;
        real = i.real;
        past = i.past;
        before = i.before;
      },
      refl,
    )

pub same_is_intact : SameIsIntact
same_is_intact d m n p i same =
    subst (λ (x : Pass). IsIntactWith i.past d (record n { pass = x }) p) (sym same.pass) (intact d m n same p i)

pub same_knows : SameKnows
same_knows d m n p knows same = record {
  log = knows.log;
  waiting = λ w l. knows.waiting w (same.waiting w l);
}
