-- What is true of a fleet that keeps all of a master.
use Rattle.std.proofs.Common.{◌≡◌, ℕ, ◌⊎◌, inl, inr, List, length, refl, sym, ap, subst, ◌∙◌, arith}
use Rattle.entry.specs.declared.entry.Entry.{Entry}
use Rattle.entry.specs.Bag.{IsAmong}
use Rattle.entry.proofs.BagLemmas.{among_push}
use Rattle.entry.specs.Meaning.{among}
use Rattle.entry.specs.Text.{data_in}
use Rattle.replica.specs.Acks.{acked, Grows, WasAcked}
use Rattle.replica.specs.Picture.{FleetState, shown_of}
use Rattle.log_bytes.specs.log_laws.Text.{Text}
use Rattle.log_bytes.specs.log_laws.Data.{front, front_entries, FailData, IsHome}
use Rattle.log_bytes.specs.log_laws.Durable.{TakenHead, head_now}
use Rattle.log_bytes.specs.log_laws.Log.{Texts, IsOther, HoldsCopy}
use Rattle.log_bytes.proofs.log_laws.Durable.{past_is_durable}
use Rattle.log_bytes.proofs.log_laws.Holding.{homes_hold_copies}
use Rattle.log_bytes.specs.Keeping.{KeepsLog}
use Rattle.log_bytes.specs.Runs.{read_fleet}
use Rattle.log_bytes.specs.Segments.{HeadsAreSegments}
use Rattle.log_bytes.specs.Spelled.{spelled_replica, IsSpelled}
use Rattle.log_bytes.specs.Text.{bytes_for}
use Rattle.log_bytes.proofs.GreatestOpened.{newest_is_opened}
use Rattle.log_bytes.proofs.Held.{units_are_held}
use Rattle.log_bytes.proofs.Keeping.{keeping_is_sound, same_read, still_keeps}
use Rattle.log_bytes.proofs.Reading.{spelled_held}
use Rattle.log_bytes.proofs.Texts.{reads_data}
use Rattle.log_memory.specs.Acked.{bytes_up_to, AreAcked}
use Rattle.log_memory.specs.Fleet.{read_of, shown_for, KeepsAll, HoldsAll, IsSealedImage, HoldsPast, KeptIsSound}
use Rattle.log_memory.specs.Fleet.{KeptIsCovered}
use Rattle.log_memory.specs.Fleet.{KeptIsDurable, OthersLeaveAll}
use Rattle.log_memory.specs.Intact.{IsIntact, IsIntactWith, Knows}
use Rattle.log_memory.specs.Memory.{FailMemory}
use Rattle.log_memory.proofs.Acking.{acked_head, acked_still}
use Rattle.log_memory.proofs.Coverage.{intact_is_covered}

-- ---- a master whose number is known by an equation

-- what is held, as a fleet has it under this number
pub record HoldsAt (master : ℕ) (d : FailData) (m : FailMemory) (f : FleetState) : Type 0 where
  pub spelled : IsSpelled master (shown_of f master) (read_fleet master f)
  pub heads : HeadsAreSegments master d
  pub intact : IsIntact d m (read_fleet master f)
  pub acked : AreAcked master d f.acks intact.past
  pub knows : Knows d m (read_fleet master f)

pub holds_at : (master : ℕ) (d : FailData) (m : FailMemory) (f : FleetState) → d.config.master ≡ master
    → HoldsAt master d m f → HoldsAll d m f
holds_at master d m f same at =
    let own = subst (λ (x : ℕ). HoldsAt x d m f) (sym same) at in
    record {
      keeps = record { spelled = own.spelled; heads = own.heads; intact = own.intact; acked = own.acked };
      knows = own.knows;
    }

-- ---- the picture

-- the log is kept
pub keeps_log : (d : FailData) (m : FailMemory) (f : FleetState) → KeepsAll d m f → KeepsLog d.config.master d f
keeps_log d m f keeps = record { spelled = keeps.spelled; heads = keeps.heads; kept = keeps.intact.log }

pub kept_is_sound : KeptIsSound
kept_is_sound d m f keeps = (
  keeping_is_sound d.config.master d f (keeps_log d m f keeps),
  newest_is_opened d.config.master d keeps.intact.log.texts (shown_for d f) (read_of d f) keeps.spelled
      keeps.intact.log.held,
)

pub kept_is_covered : KeptIsCovered
kept_is_covered d m f keeps = intact_is_covered d m (read_of d f) keeps.intact

-- ---- heads that went before

module _ (d : FailData) (m : FailMemory) (f : FleetState) (keeps : KeepsAll d m f) (h : TakenHead) (b : ℕ)
    (before : IsAmong h keeps.intact.past) (other : IsOther d h.head.start.id) (home : IsHome d h.head.start.id b) where
  abbrev i : IsIntact d m (read_of d f)
  i = keeps.intact

  abbrev texts : Texts
  texts = i.log.texts

  abbrev s : ℕ
  s = h.head.start.id

  abbrev units : ℕ
  units = length h.head.units

  copy : HoldsCopy texts (read_of d f) b s
  copy = homes_hold_copies d texts (read_of d f) s b i.log.held other home

  text_is : texts.text s ≡ front h.head units
  text_is = i.before.text h before

  -- an image of it is no head of now, so it has the text's opening
  opening_is : copy.0.text.opening ≡ (texts.text s).opening
  opening_is =
      let older = i.before.older h before in
      elim (i.log.held.mirrored.each b s copy.0 copy.1) as (λ _. copy.0.text.opening ≡ (texts.text s).opening) [
        | inl own ↦ (let same = own.0 in absurd (omega arith))
        | inr (inl new) ↦ (
            let newer = i.log.held.logged.newer new.0 new.1 in let same = new.2 in absurd (omega arith))
        | inr (inr is) ↦ is.opening
      ]

  read : data_in (bytes_for d.config.master s copy.0.text) ≡ copy.0.text.entries
  read = reads_data d.config.master s copy.0.text (keeps.spelled.segments b s copy.0 copy.1)

  -- an image has nothing that the head hasn't
  within : IsAmong copy.0.text.entries (texts.images s) → (e : Entry)
      → among (data_in (bytes_for d.config.master s copy.0.text)) e → among (front_entries h.head units) e
  within image e l =
      subst (λ (t : Text). among t.entries e) text_is
      (i.log.held.logged.images s copy.0.text.entries e image (subst (λ (es : List Entry). among es e) read l))

  abbrev made : (bytes_for d.config.master s copy.0.text ≡ bytes_for d.config.master s (front h.head units))
      ⊎ IsSealedImage d m h.head (spelled_replica d.config.master s copy.0) → HoldsPast d m f b h.head
  made text = record {
    r = spelled_replica d.config.master s copy.0;
    held = spelled_held d.config.master (shown_for d f) (read_of d f) keeps.spelled b s copy.0 copy.1;
    text = text;
  }

  whole : copy.0.text ≡ texts.text s → HoldsPast d m f b h.head
  whole same = made (inl (ap (bytes_for d.config.master s) (same ∙ text_is)))

  pub holds_past : HoldsPast d m f b h.head
  holds_past = elim copy.2.0 as (λ _. HoldsPast d m f b h.head) [
    | inl text ↦ whole (λ j. record { opening = opening_is j; entries = text j })
    | inr image ↦ elim copy.2.1 as (λ _. HoldsPast d m f b h.head) [
      | inl shut ↦ made (inr (record {
        failed = λ none. subst (λ (l : List (List Entry)). IsAmong copy.0.text.entries l) (i.whole.one none s) image;
        shut = shut;
        within = within image;
        whole = λ k e of l. subst (IsAmong e) (sym read) (i.repaired s copy.0.text.entries k e image of l);
      }))
      | inr text ↦ whole text
    ]
  ]

pub kept_is_durable : KeptIsDurable
kept_is_durable d m f keeps few =
    let i = keeps.intact in
    let durable = past_is_durable d (read_of d f) i.past i.log few i.before.counted in
    record {
      past = i.past;
      rising = i.before.rising;
      older = i.before.older;
      counted = durable.0;
      taken = durable.1;
      acked = λ h b l took. elim (among_push h i.past (head_now d) l)
          as (λ _. WasAcked f.acks b d.config.master h.head.start.id
          (bytes_up_to d.config.master h.head (h.counts b))) [
            | inl before ↦ keeps.acked.before h b before took
            | inr same ↦ acked_head d.config.master d f.acks i.past keeps.acked h b same took
          ];
      put = keeps.acked.took;
      units = λ place b u at lt took.
          units_are_held d.config.master d (shown_for d f) (read_of d f) place b u keeps.spelled i.log at lt took;
      heads = λ h b before other home. holds_past d m f keeps h b before other home;
    }

-- ---- other masters

module _ (d : FailData) (m : FailMemory) (f g : FleetState)
    (same : (b s : ℕ) → g.picture b d.config.master s ≡ f.picture b d.config.master s)
    (least : g.least d.config.master ≡ f.least d.config.master) (grows : Grows f.acks g.acks)
    (acks : (b s : ℕ) → acked g.acks b d.config.master s ≡ acked f.acks b d.config.master s) where
  abbrev read_same : read_of d f ≡ read_of d g
  read_same = same_read d.config.master d f g same least

  keeps_still : KeepsAll d m f → KeepsAll d m g
  keeps_still keeps =
      let intact : IsIntactWith keeps.intact.past d m (read_of d g) =
      subst (IsIntactWith keeps.intact.past d m) read_same (keeps.intact, refl) in
      record {
        spelled = (still_keeps d.config.master d f g same least (keeps_log d m f keeps)).spelled;
        heads = keeps.heads;
        intact = intact.0;
        acked = subst (AreAcked d.config.master d g.acks) (sym intact.1)
            (acked_still d.config.master d f.acks keeps.intact.past keeps.acked g.acks grows acks);
      }

  holds_still : HoldsAll d m f → HoldsAll d m g
  holds_still holds =
      record { keeps = keeps_still holds.keeps; knows = subst (Knows d m) read_same holds.knows }

pub others_leave_all : OthersLeaveAll
others_leave_all d m f g same least grows acks =
    (keeps_still d m f g same least grows acks, holds_still d m f g same least grows acks)
