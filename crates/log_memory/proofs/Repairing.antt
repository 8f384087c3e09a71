-- A lost replica of another segment is sealed anew from its image.
use Rattle.std.proofs.Common.{◌≡◌, ℕ, ◌<◌, ◌≤◌, ◌⊎◌, inl, inr, true, false, List, [], ◌∷◌, ◌++◌, Some, refl, sym, ap}
use Rattle.std.proofs.Common.{subst, ◌∙◌, arith}
use Rattle.std.specs.Prelude.{Option, None, ◌==◌}
use Rattle.std.proofs.lemmas.Bool.{cases_eq}
use Rattle.std.proofs.lemmas.Bool.Decides.{nat_tests}
use Rattle.entry.specs.declared.key.Key.{Key}
use Rattle.entry.specs.declared.entry.Entry.{Entry}
use Rattle.entry.specs.Bag.{IsAmong}
use Rattle.entry.specs.Meaning.{IsOfKey}
use Rattle.entry.proofs.BagLemmas.{among_push, among_left}
use Rattle.log_bytes.specs.log_laws.Heads.{Start, entries_of}
use Rattle.log_bytes.specs.log_laws.Ids.{has}
use Rattle.log_bytes.specs.log_laws.Intact.{IsPassOf}
use Rattle.log_bytes.specs.log_laws.Memory.{LogSet, new_ids}
use Rattle.log_bytes.specs.log_laws.Tracked.{IsTracked, IsPassing, IsAround}
use Rattle.log_bytes.specs.log_laws.Text.{Text}
use Rattle.log_bytes.specs.log_laws.Shown.{Shown, Seal, Op, On, taken}
use Rattle.log_bytes.specs.log_laws.Data.{Repairs, FailData, new_of, is_failing, state_of}
use Rattle.log_bytes.specs.log_laws.Log.{Texts, BasesStand, IsLogHeld, IsStanding}
use Rattle.log_bytes.specs.log_laws.Steps.{with_taken, MayRepair, Reseals, texts_resealed}
use Rattle.log_bytes.proofs.log_laws.Images.{between_stands}
use Rattle.log_bytes.proofs.log_laws.Lists.{taken_either}
use Rattle.log_bytes.proofs.log_laws.Resealing.{reseals_held, reseals_standing}
use Rattle.log_bytes.proofs.log_laws.States.{own_entries}
use Rattle.log_memory.specs.Covered.{map_of}
use Rattle.log_memory.specs.Intact.{AreRepaired, IsIntact, IsIntactWith}
use Rattle.log_memory.specs.Laws.{ImageIsRepair, RepairKeeps}
use Rattle.log_memory.specs.Memory.{FailMemory, entries_in, log_ids, log_set_of, data_of, AreImages}
use Rattle.log_memory.specs.Past.{ArePast}
use Rattle.log_memory.specs.Steps.{seal_op}
use Rattle.log_memory.proofs.Ids.{ids_out, in_digest, now_out, now_others}
use Rattle.log_memory.proofs.Openings.{data_in}
use Rattle.log_memory.proofs.Pasts.{resealed_past}
use Rattle.log_memory.proofs.Sealed.{still_sealed}
use Rattle.log_memory.proofs.Taking.{apart}
use Rattle.log_memory.proofs.TextsIn.{data_keyed, image_text}

-- ---- of a master that is loading too

-- What a repair needs: images and index track the map over the texts that the backups hold.
pub record IsRepairable (d : FailData) (m : FailMemory) (p : Shown) : Type 0 where
  pub texts : Texts
  pub held : IsLogHeld d texts p
  pub tracked : IsTracked (log_set_of d m texts) m.pass m.index (map_of d)
  pub passing : IsPassing (log_ids d m) m.images m.pass m.index m.rest
  pub around : IsAround (log_set_of d m texts) m.pass (map_of d) (state_of d).safe d.next
  pub images : AreImages d m texts
  pub repaired : AreRepaired m texts
  pub chosen : IsPassOf d.head.start (new_of d.mode) m.pass
  pub repairs : d.mode ≡ Repairs → (state_of d).safe ≤ d.head.start.safe

module _ (d : FailData) (m : FailMemory) (p : Shown) (i : IsRepairable d m p) where
  -- another segment of the digest in force is no survivor
  other_apart : (s : ℕ) → IsAmong s d.head.start.others → IsAmong s m.pass.survivors → ⊥
  other_apart s listed survivor =
      i.chosen.outside s survivor (among_left s d.head.start.others (d.head.start.id ∷ []) listed)

  other_counts : (s : ℕ) → IsAmong s d.head.start.others → IsAmong s (log_ids d m)
  other_counts s listed = in_digest d m s (now_others d.head.start s i.held.logged.head.below listed)

  -- what its image has of a key its text has
  image_within : (s : ℕ) → IsAmong s d.head.start.others → (e : Entry) (k : Key) → IsOfKey k e → IsAmong e (m.images s)
      → IsAmong e (entries_in i.texts s)
  image_within s listed e k at l = i.around.texted s e k (other_counts s listed) (other_apart s listed) at l

  data_within : (s : ℕ) → IsAmong s d.head.start.others → (e : Entry) → IsAmong e (data_of m s)
      → IsAmong e (entries_in i.texts s)
  data_within s listed e l =
      let is = data_keyed e (m.images s) l in image_within s listed e is.key is.of_key is.among

  pub image_reseals : (s b : ℕ) → MayRepair d s b
      → Reseals d i.texts (seal_op m s b) (record d { took = with_taken d.took s b })
  image_reseals s b may = record {
    b = b;
    s = s;
    image = data_of m s;
    mode = may.mode;
    listed = may.listed;
    works = may.works;
    apart = may.apart;
    few = may.few;
    within = data_within s may.listed;
    op = ap (λ (t : Text). On b s (Seal t))
        (image_text d.config.master s (i.texts.text s) (m.images s) (i.images s (other_counts s may.listed)));
    gives = refl;
  }

module _ (d e : FailData) (m : FailMemory) (p q : Shown) (o : Op) (i : IsRepairable d m p)
    (is : Reseals d i.texts o e) (of_image : is.image ≡ data_of m is.s) (within : is.b < d.config.backups)
    (took : taken p o ≡ Some q) where
  abbrev old : Texts
  old = i.texts

  abbrev now : Texts
  now = texts_resealed old is

  abbrev s : ℕ
  s = is.s

  images_here : now.images s ≡ is.image ∷ old.images s
  images_here = let t : (s == s) ≡ true = grind (arith, nat_tests) in rw t refl

  pub images_there : (z : ℕ) → (z ≡ s → ⊥) → now.images z ≡ old.images z
  images_there z other = let t : (z == s) ≡ false = grind (arith, nat_tests) in rw t refl

  pub repaired_now : AreRepaired m now
  repaired_now z xs k f at_one of l = elim (cases_eq z s) as (λ _. IsAmong f xs) [
    | inl same ↦ elim (subst (λ (ys : List (List Entry)). IsAmong xs ys) (ap now.images same ∙ images_here) at_one)
        as (λ _. IsAmong f xs) [
          | inl new ↦ subst (λ (ys : List Entry). IsAmong f ys)
              (ap (data_of m) same ∙ sym of_image ∙ new) (data_in f k (m.images z) of l)
          | inr before ↦ i.repaired z xs k f
              (subst (λ (y : ℕ). IsAmong xs (old.images y)) (sym same) before) of l
        ]
    | inr other ↦ i.repaired z xs k f
        (subst (λ (ys : List (List Entry)). IsAmong xs ys) (images_there z other) at_one) of l
  ]

  pub both_held : IsLogHeld d now q × IsLogHeld e now q
  both_held = reseals_held d e old p q o i.held is within took

  abbrev log : LogSet
  log = log_set_of d m old

  -- the head has nothing yet
  head_bare : entries_in old d.head.start.id ≡ []
  head_bare =
      let none = i.held.logged.repairs is.mode in
      own_entries d old i.held.logged
      ∙ ap (λ (es : List Entry). es ++ entries_of d.head.units) none.0 ∙ ap entries_of none.1

  no_new : new_of d.mode ≡ None
  no_new = ap new_of is.mode

  pub resealed_stands : BasesStand now d.head.start (state_of d)
  resealed_stands base at =
      between_stands log m.pass m.index m.rest (state_of d) d.next d.head.start.safe now d.head.start.others base
      i.tracked i.passing i.around
      (record {
        counts = λ z c. other_counts d m p i z c;
        image = λ z es k f c variant of l. elim variant as (λ _. IsAmong f es) [
          | inl text ↦ subst (λ (xs : List Entry). IsAmong f xs) (sym text)
              (image_within d m p i z c f k of l)
          | inr image ↦ repaired_now z es k f image of l
        ];
        text = λ z es k f c variant of l. elim variant as (λ _. IsAmong f (entries_in old z)) [
          | inl text ↦ subst (λ (xs : List Entry). IsAmong f xs) text l
          | inr image ↦ both_held.0.logged.images z es f image l
        ];
      })
      (record {
        rest = λ z c. elim (ids_out d m z c)
            as (λ _. IsAmong z d.head.start.others ⊎ (IsAmong z m.pass.survivors
            ⊎ ((k : Key) (f : Entry) → IsOfKey k f → IsAmong f (m.images z) → ⊥))) [
              | inl l ↦ elim (among_push z d.head.start.others d.head.start.id (now_out d.head.start z l).0)
                  as (λ _. IsAmong z d.head.start.others ⊎ (IsAmong z m.pass.survivors
                  ⊎ ((k : Key) (f : Entry) → IsOfKey k f → IsAmong f (m.images z) → ⊥))) [
                    | inl other ↦ inl other
                    | inr own ↦ inr (inr (λ k f of a.
                        subst (λ (xs : List Entry). IsAmong f xs) (ap (entries_in old) (sym own) ∙ head_bare)
                        (i.around.texted z f k c (λ survivor. i.chosen.outside z survivor (now_out d.head.start z l).0)
                        of a)))
                  ]
              | inr (inl l) ↦ absurd (subst (λ (x : Option Start). IsAmong z (new_ids x)) no_new l)
              | inr (inr l) ↦ inr (inl l)
            ];
        victims = i.chosen.victims;
      })
      (i.repairs is.mode) at

-- ---- of a master

abbrev repairable : (d : FailData) (m : FailMemory) (p : Shown) → IsIntact d m p → IsRepairable d m p
repairable d m p i = record {
  texts = i.log.texts;
  held = i.log.held;
  tracked = i.tracked;
  passing = i.passing;
  around = i.around;
  images = i.images;
  repaired = i.repaired;
  chosen = i.chosen;
  repairs = i.repairs;
}

pub image_is_repair : ImageIsRepair
image_is_repair d m p s b i may = image_reseals d m p (repairable d m p i) s b may

module _ (d e : FailData) (m : FailMemory) (p q : Shown) (o : Op) (i : IsIntact d m p)
    (is : Reseals d i.log.texts o e) (of_image : is.image ≡ data_of m is.s) (within : is.b < d.config.backups)
    (took : taken p o ≡ Some q) where
  abbrev told : IsRepairable d m p
  told = repairable d m p i

  abbrev now_texts : Texts
  now_texts = texts_resealed i.log.texts is

  held_then : IsLogHeld d now_texts q × IsLogHeld e now_texts q
  held_then = both_held d e m p q o told is of_image within took

  both_stand : IsStanding d now_texts × IsStanding e now_texts
  both_stand = reseals_standing d e i.log.texts p q o i.log.held i.log.standing is
      (resealed_stands d e m p q o told is of_image within took) within took

  survivor_apart : (z : ℕ) → IsAmong z m.pass.survivors → z ≡ is.s → ⊥
  survivor_apart z survivor same =
      other_apart d m p told is.s is.listed (subst (λ (x : ℕ). IsAmong x m.pass.survivors) same survivor)

  made : (taken_now : ℕ → List ℕ) → IsLogHeld (record d { took = taken_now }) now_texts q
      → IsStanding (record d { took = taken_now }) now_texts
      → ((z b : ℕ) → IsAmong z m.pass.survivors → has (taken_now z) b ≡ true → has (d.took z) b ≡ true)
      → ArePast (record d { took = taken_now }) now_texts i.past
      → IsIntactWith i.past (record d { took = taken_now }) m q
  made taken_now held standing took_same before = (
    record {
      log = record { texts = now_texts; held = held; standing = standing };
      tracked = i.tracked;
      passing = i.passing;
      around = i.around;
      images = i.images;
      repaired = repaired_now d e m p q o told is of_image within took;
      whole = record {
        one = λ none. absurd (i.whole.failed (ap is_failing is.mode) none);
        failed = i.whole.failed;
      };
      chosen = i.chosen;
      sealing = still_sealed d (record d { took = taken_now }) m i.log.texts now_texts p q m.images m.index m.commits
          i.sealing (λ z survivor. refl) (λ z survivor. refl)
          (λ z survivor. images_there d e m p q o told is of_image within took z (survivor_apart z survivor))
          (λ b z survivor. apart p q is.b is.s _ o is.op took b z (survivor_apart z survivor)) took_same;
      rolling = i.rolling;
      committed = λ c.
          let was = i.committed c in record { real = was.real; done = was.done; images = was.images };
      waiting = record { out = i.waiting.out; below = i.waiting.below; real = i.waiting.real };
      recorded = i.recorded;
      repairs = i.repairs;
      real = i.real;
      past = i.past;
      before = before;
    },
    refl,
  )

pub repair_keeps : RepairKeeps
repair_keeps d e m p q o i is of_image within took =
    let held = held_then d e m p q o i is of_image within took in
    let stand = both_stand d e m p q o i is of_image within took in
    let now = texts_resealed i.log.texts is in
    let before = resealed_past d e i.log.texts o i.past is i.before in (
      made d e m p q o i is of_image within took d.took held.0 stand.0 (λ z b survivor has_it. has_it) before.0,
      subst (λ (x : FailData). IsIntactWith i.past x m q) (sym is.gives)
          (made d e m p q o i is of_image within took (with_taken d.took is.s is.b)
          (subst (λ (x : FailData). IsLogHeld x now q) is.gives held.1)
          (subst (λ (x : FailData). IsStanding x now) is.gives stand.1)
          (λ z b survivor has_it. elim (taken_either d.took is.s is.b z b has_it) as (λ _. has (d.took z) b ≡ true) [
            | inl at ↦ absurd (survivor_apart d e m p q o i is of_image within took z survivor at.0)
            | inr old ↦ old
          ])
          (subst (λ (x : FailData). ArePast x now i.past) is.gives before.1)),
    )
