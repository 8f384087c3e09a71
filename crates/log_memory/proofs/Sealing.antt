-- A survivor is sealed on a backup: its text is its image from then on.
use Rattle.std.proofs.Common.{◌≡◌, ℕ, ◌<◌, ◌⊎◌, inl, inr, true, false, List, [], ◌∷◌, Some, refl, sym, ap, subst, ◌∙◌}
use Rattle.std.specs.Prelude.{None, IsSome}
use Rattle.std.proofs.lemmas.Bool.{cases_eq}
use Rattle.std.proofs.lemmas.Option.{same_Some}
use Rattle.entry.specs.declared.entry.Entry.{Entry}
use Rattle.entry.specs.Bag.{IsAmong}
use Rattle.entry.proofs.BagLemmas.{among_left, among_last}
use Rattle.log_bytes.specs.log_laws.Heads.{Start, ids_of}
use Rattle.log_bytes.specs.log_laws.Ids.{has}
use Rattle.log_bytes.specs.log_laws.Memory.{LogSet}
use Rattle.log_bytes.proofs.log_laws.LogSetChanges.{told_in, texts_changed}
use Rattle.log_bytes.specs.log_laws.Text.{Text, Replica}
use Rattle.log_bytes.specs.log_laws.Shown.{Shown, Seal, Op, On, taken}
use Rattle.log_bytes.specs.log_laws.Data.{FailData}
use Rattle.log_bytes.specs.log_laws.Log.{Texts, AreOfTablets, IsLogHeld, IsStanding}
use Rattle.log_bytes.specs.log_laws.Steps.{with_taken, IsFree, Seals, survivor_text, with_new}
use Rattle.log_bytes.proofs.log_laws.Lists.{taken_either, is_some}
use Rattle.log_bytes.proofs.log_laws.Pictures.{is_taken, changed, either, sealed}
use Rattle.log_bytes.proofs.log_laws.Spares.{seals_held, seals_standing}
use Rattle.log_bytes.proofs.log_laws.States.{settled_if}
use Rattle.log_bytes.proofs.log_laws.Texts.{new_there, new_none, new_other, new_images}
use Rattle.log_memory.specs.Covered.{map_of}
use Rattle.log_memory.specs.Intact.{IsSealed, AreRepaired, IsIntact, IsIntactWith}
use Rattle.log_memory.specs.Laws.{SealKeeps}
use Rattle.log_memory.specs.Memory.{FailMemory, entries_in, log_set_of, data_of, text_in}
use Rattle.log_memory.specs.Past.{ArePast}
use Rattle.log_memory.specs.Steps.{seal_op, MaySeal}
use Rattle.log_memory.proofs.Ids.{in_survivors, now_out}
use Rattle.log_memory.proofs.Openings.{data_out, image_still}
use Rattle.log_memory.proofs.Pasts.{sealed_past}
use Rattle.log_memory.proofs.Taking.{still}
use Rattle.log_memory.proofs.TextsIn.{image_survivor}

-- a survivor's image may be sealed
module _ (d : FailData) (m : FailMemory) (p : Shown) (s b : ℕ) (i : IsIntact d m p) (may : MaySeal d m s b) where
  outside : IsAmong s (ids_of d.head.start) → ⊥
  outside c = i.chosen.outside s may.survivor c

  no_abandoned : (n : Start) → IsAmong n d.abandoned → ⊥
  no_abandoned n c = subst (IsAmong n) (i.log.held.logged.settled (settled_if d.mode may.calm)) c

  pub survivor_free : IsFree d s
  survivor_free = record {
    head = λ same. outside (subst (λ (x : ℕ). IsAmong x (ids_of d.head.start)) (sym same)
        (among_last d.head.start.others d.head.start.id));
    new = λ n is_new same. elim is_new as (λ _. ⊥) [
      | inl is ↦ i.chosen.not_new s n may.survivor is (sym same)
      | inr c ↦ no_abandoned n c
    ];
    others = λ other. elim other as (λ _. ⊥) [
      | inl l ↦ outside (among_left s d.head.start.others (d.head.start.id ∷ []) l)
      | inr of ↦ elim of.1 as (λ _. ⊥) [
        | inl is ↦ outside (now_out d.head.start s (subst (IsAmong s) ((i.rolling of.0 is).0 may.no_commit) of.2)).0
        | inr c ↦ no_abandoned of.0 c
      ]
    ];
  }

  -- what a survivor has was copied from a victim, whose text has it
  keys : AreOfTablets d.config (data_of m s)
  keys x k l at =
      let from = i.passing.copies s x k may.survivor (data_out x (m.images s) l) at in
      let counts = i.passing.victims_count from.0 from.1.counts in
      i.log.held.logged.keys from.0 (entries_in i.log.texts from.0) (inl refl) x k
      (i.around.texted from.0 x k counts (λ survivor. i.passing.disjoint from.0 survivor from.1.counts) at
      from.1.among) at

  -- it has no opening
  pub sealed_text : text_in m s ≡ survivor_text (data_of m s)
  sealed_text = image_survivor d.config.master s (i.log.texts.text s) (m.images s)
      (i.images s (in_survivors d m s may.survivor)) (i.sealing.bare s may.survivor)

  pub seals_image : Seals d i.log.texts p (seal_op m s b) (record d { took = with_taken d.took s b })
  seals_image = record {
    b = b;
    s = s;
    entries = data_of m s;
    calm = may.calm;
    free = survivor_free;
    next = i.around.below s (in_survivors d m s may.survivor);
    works = may.works;
    apart = may.apart;
    keys = keys;
    bare = i.sealing.bare s may.survivor;
    one = λ c r there.
        let at = i.sealing.each s c r may.survivor there in ap (λ (t : Text). t.entries) at.text ∙ at.image;
    shut = λ c r there. (i.sealing.each s c r may.survivor there).closed;
    op = ap (λ (t : Text). On b s (Seal t)) sealed_text;
    gives = refl;
  }

module _ (d : FailData) (m : FailMemory) (p q : Shown) (s b : ℕ) (i : IsIntact d m p) (may : MaySeal d m s b)
    (within : b < d.config.backups) (took : taken p (seal_op m s b) ≡ Some q) where
  abbrev e : FailData
  e = record d { took = with_taken d.took s b }

  abbrev old : Texts
  old = i.log.texts

  abbrev text : Text
  text = survivor_text (data_of m s)

  abbrev op : Op
  op = On b s (Seal text)

  op_is : seal_op m s b ≡ op
  op_is = ap (λ (t : Text). On b s (Seal t)) (sealed_text d m p s b i may)

  took_it : taken p op ≡ Some q
  took_it = ap (taken p) (sym op_is) ∙ took

  seals : Seals d old p (seal_op m s b) e
  seals = seals_image d m p s b i may

  abbrev now : Texts
  now = with_new old s text

  both_held : IsLogHeld d now q × IsLogHeld e now q
  unfolding seals seals_image
  both_held = seals_held d e old p q (seal_op m s b) i.log.held seals within took

  both_stand : IsStanding d now × IsStanding e now
  unfolding seals seals_image
  both_stand = seals_standing d e old p q (seal_op m s b) i.log.held i.log.standing seals within took

  text_here : (z : ℕ) → z ≡ s → now.text z ≡ text
  text_here z same = ap now.text same ∙ new_there old s text

  text_there : (z : ℕ) → (z ≡ s → ⊥) → now.text z ≡ old.text z
  text_there z other = new_other old s text z other

  -- its opening stays: it has none
  opening : (z : ℕ) → (now.text z).opening ≡ (old.text z).opening
  opening z = elim (cases_eq z s) as (λ _. (now.text z).opening ≡ (old.text z).opening) [
    | inl same ↦ ap (λ (t : Text). t.opening) (text_here z same) ∙ sym (i.sealing.bare s may.survivor)
        ∙ ap (λ (y : ℕ). (old.text y).opening) (sym same)
    | inr other ↦ ap (λ (t : Text). t.opening) (text_there z other)
  ]

  abbrev log : LogSet
  log = log_set_of d m old

  from : (z : ℕ) (f : Entry) → IsAmong f (entries_in now z) → IsAmong f (m.images z) ⊎ IsAmong f (entries_in old z)
  from z f l = elim (cases_eq z s) as (λ _. IsAmong f (m.images z) ⊎ IsAmong f (entries_in old z)) [
    | inl same ↦ inl (data_out f (m.images z) (subst (λ (es : List Entry). IsAmong f es)
        (ap (λ (t : Text). t.entries) (text_here z same) ∙ ap (data_of m) (sym same)) l))
    | inr other ↦ inr (subst (λ (es : List Entry). IsAmong f es)
        (ap (λ (t : Text). t.entries) (text_there z other)) l)
  ]

  repaired : AreRepaired m now
  repaired z xs k f at_one of l = elim (cases_eq z s) as (λ _. IsAmong f xs) [
    | inl same ↦ absurd (subst (λ (ys : List (List Entry)). IsAmong xs ys) (ap now.images same ∙ new_none old s text)
        at_one)
    | inr other ↦ i.repaired z xs k f
        (subst (λ (ys : List (List Entry)). IsAmong xs ys) (new_images old s text z other) at_one) of l
  ]

  -- a replica from before has this text too
  same_text : (z c : ℕ) (r : Replica) → IsAmong z m.pass.survivors → p.holds c z ≡ Some r → IsSealed m now z r
  same_text z c r survivor there =
      let at = i.sealing.each z c r survivor there in
      elim (cases_eq z s) as (λ _. IsSealed m now z r) [
        | inl same ↦ (
            let bare = i.sealing.bare z survivor in
            let whole : old.text z ≡ text =
            (λ j. record { opening = bare j; entries = at.image j })
            ∙ ap (λ (y : ℕ). survivor_text (data_of m y)) same in
            record {
              done = at.done;
              image = ap (λ (t : Text). t.entries) (text_here z same) ∙ ap (data_of m) (sym same);
              text = at.text ∙ whole ∙ sym (text_here z same);
              closed = at.closed;
            })
        | inr other ↦ record {
          done = at.done;
          image = ap (λ (t : Text). t.entries) (text_there z other) ∙ at.image;
          text = at.text ∙ sym (text_there z other);
          closed = at.closed;
        }
      ]

  each_then : (z c : ℕ) (r : Replica) → IsAmong z m.pass.survivors → q.holds c z ≡ Some r → IsSealed m now z r
  each_then z c r survivor there =
      let at = is_taken p q op b s (Seal text) refl took_it in
      let put = (sealed text (p.holds b s) at.x at.given).1 in
      elim (either p.holds b s at.x c z r (sym (ap (λ (w : Shown). w.holds c z) at.same) ∙ there))
      as (λ _. IsSealed m now z r) [
        | inl new ↦ (
            let r_is : record { text = text; is_open = false } ≡ r = same_Some _ r (sym put ∙ new.2) in
            let same : z ≡ s = sym new.1 in
            record {
              done = may.done;
              image = ap (λ (t : Text). t.entries) (text_here z same) ∙ ap (data_of m) (sym same);
              text = sym (ap (λ (x : Replica). x.text) r_is) ∙ sym (text_here z same);
              closed = sym (ap (λ (x : Replica). x.is_open) r_is);
            })
        | inr before ↦ same_text z c r survivor before.1
      ]

  kept : (c t : ℕ) → IsSome (p.holds c t) → IsSome (q.holds c t)
  kept = still p q b s (Seal text) op refl took_it
      (λ x given. (_, (sealed text (p.holds b s) x given).1))

  held_now : IsSome (q.holds b s)
  held_now =
      let at = is_taken p q op b s (Seal text) refl took_it in
      let put = (sealed text (p.holds b s) at.x at.given).1 in
      is_some (q.holds b s) (record { text = text; is_open = false })
      (ap (λ (w : Shown). w.holds b s) at.same ∙ changed p.holds b s at.x ∙ put)

  made : (taken_now : ℕ → List ℕ) → IsLogHeld (record d { took = taken_now }) now q
      → IsStanding (record d { took = taken_now }) now
      → ((z c : ℕ) → IsAmong z m.pass.survivors → has (taken_now z) c ≡ true → IsSome (q.holds c z))
      → ArePast (record d { took = taken_now }) now i.past
      → IsIntactWith i.past (record d { took = taken_now }) m q
  made taken_now held standing there before = (
    record {
      log = record { texts = now; held = held; standing = standing };
      tracked = texts_changed log (entries_in now) from m.pass m.index (map_of d) i.tracked;
      passing = i.passing;
      around = record {
        below = i.around.below;
        named_below = i.around.named_below;
        versions = λ k h z f l. i.around.versions k h z f (told_in log (entries_in now) from z f l);
        texted = λ z f k c not of l. subst (λ (es : List Entry). IsAmong f es)
            (sym (ap (λ (t : Text). t.entries) (text_there z (λ same.
            not (subst (λ (y : ℕ). IsAmong y m.pass.survivors) (sym same) may.survivor)))))
            (i.around.texted z f k c not of l);
      };
      images = λ z c. image_still d.config.master z (old.text z) (now.text z) (m.images z) (m.images z) (opening z) refl
          (i.images z c);
      repaired = repaired;
      whole = record {
        one = λ none z. elim (cases_eq z s) as (λ _. now.images z ≡ []) [
          | inl same ↦ ap now.images same ∙ new_none old s text
          | inr other ↦ new_images old s text z other ∙ i.whole.one none z
        ];
        failed = i.whole.failed;
      };
      chosen = i.chosen;
      sealing = record {
        bare = λ z survivor. elim (cases_eq z s) as (λ _. (now.text z).opening ≡ None) [
          | inl same ↦ ap (λ (t : Text). t.opening) (text_here z same)
          | inr other ↦ ap (λ (t : Text). t.opening) (text_there z other) ∙ i.sealing.bare z survivor
        ];
        one = λ z survivor. elim (cases_eq z s) as (λ _. now.images z ≡ []) [
          | inl same ↦ ap now.images same ∙ new_none old s text
          | inr other ↦ new_images old s text z other ∙ i.sealing.one z survivor
        ];
        each = each_then;
        held = there;
      };
      rolling = i.rolling;
      committed = λ c. let never : true ≡ false = sym c ∙ may.no_commit in absurd (cc);
      waiting = record { out = i.waiting.out; below = i.waiting.below; real = i.waiting.real };
      recorded = i.recorded;
      repairs = i.repairs;
      real = i.real;
      past = i.past;
      before = before;
    },
    refl,
  )

  before : ArePast d now i.past × ArePast e now i.past
  before = sealed_past d old s b text i.past (survivor_free d m p s b i may) (i.sealing.bare s may.survivor) i.before

  both : IsIntactWith i.past d m q × IsIntactWith i.past e m q
  both = (
    made d.took both_held.0 both_stand.0 (λ z c survivor has_it. kept c z (i.sealing.held z c survivor has_it))
        before.0,
    made (with_taken d.took s b) both_held.1 both_stand.1 (λ z c survivor has_it.
        elim (taken_either d.took s b z c has_it) as (λ _. IsSome (q.holds c z)) [
          | inl at ↦ subst (λ (y : ℕ). IsSome (q.holds c y)) (sym at.0)
              (subst (λ (y : ℕ). IsSome (q.holds y s)) (sym at.1) held_now)
          | inr first ↦ kept c z (i.sealing.held z c survivor first)
        ]) before.1,
  )

pub seal_keeps : SealKeeps
seal_keeps d m p q s b i may within took = both d m p q s b i may within took
