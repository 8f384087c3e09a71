-- What an inventory shows of a sound state: its choices, and what each replica is.
use Rattle.std.proofs.Common.{◌≡◌, ℕ, Bool, true, false, cond, List, [], ◌∷◌, ◌++◌, sym, ap, subst, ◌∙◌}
use Rattle.std.specs.Prelude.{◌↔◌, filter, Option, Some, None}
use Rattle.std.proofs.lemmas.List.Folds.{flat_map-map}
use Rattle.entry.specs.Bag.{IsAmong}
use Rattle.entry.specs.Text.{Opening, is_data, entries_in, opening_in}
use Rattle.replica.specs.declared.holding.Holding.{Holding}
use Rattle.replica.specs.Picture.{Replica, Picture, Shown, left_on, survivors, IsHeld}
use Rattle.replica.specs.Choice.{Choice, IsUsableOf, IsChoice, bag_of}
use Rattle.claims.specs.Bags.{segments_bag}
use Rattle.recovery_plan.specs.declared.chosen.Plan.{Plan}
use Rattle.recovery_plan.specs.Good.{IsGood}
use Rattle.recovery_plan.specs.Planned.{IsChoiceOf, IsPlanOf, AgreeOnDigest}
use Rattle.recovery_plan.proofs.Plans.{all-map}
use Rattle.replay.specs.master.log_laws.ReplicaBytes.{IsTextOfSegment}
use Rattle.replay.specs.master.log_laws.Data.{FailData}
use Rattle.replay.specs.master.log_bytes.Sound.{IsLeftChoice, IsSoundInBytes}
use Rattle.recovery.specs.Recovered.{Shows}

-- ---- bags

-- the segments of a plan hold the objects and tombstones of the replicas that were chosen
pub bag-of-plan : (hs : List Holding) (least m : ℕ) (c : Choice) (plan : Plan) → IsPlanOf hs least m c plan
    → segments_bag plan.segments ≡ bag_of c
bag-of-plan hs least m c plan is =
    ap segments_bag is.segments
    ∙ flat_map-map (filter is_data) (λ (h : Holding). entries_in h.bytes) (c.others ++ c.head ∷ [])

-- ---- choices

-- only the master's replicas count for a choice
pub choice-of-same : (holds also : Holding → Type 0) (least m : ℕ) (c : Choice)
    → ((h : Holding) → h.master ≡ m → holds h ↔ also h) →
    IsChoice holds least m c → IsChoice also least m c
choice-of-same holds also least m c same choice = record {
  held = (same c.head choice.of_master).0 choice.held;
  of_master = choice.of_master;
  is_open = choice.is_open;
  opening = choice.opening;
  usable = choice.usable;
  newest = λ h held head. choice.newest h ((same h head.0).1 held) head;
  others =
      all-map (λ (h : Holding). holds h × IsUsableOf m c.opening h) (λ (h : Holding). also h × IsUsableOf m c.opening h)
      (λ h is. ((same h is.1.0).0 is.0, is.1)) c.others choice.others;
  ids = choice.ids;
}

-- ---- what survives

left-kept : (b : Bool) (r : Option Replica) (x : Replica) → cond b r None ≡ Some x → r ≡ Some x
left-kept true r x h = h
left-kept false r x h = absurd (cc)

-- what is left of a picture was in it
pub left-held : (keep : ℕ → Bool) (p : Picture) (h : Holding) → IsHeld (left_on keep p) h → IsHeld p h
left-held keep p h held = left-kept (keep h.backup) (p h.backup h.master h.segment) _ held

module _ (hs : List Holding) (least m : ℕ) (shown : Shown) (keep : ℕ → Bool)
    (old : shown.least ≡ least) (shows : Shows hs (survivors keep shown) m) where
  abbrev p : Picture
  p = shown.holds

  -- what is chosen in the inventory is chosen among what survives
  pub surviving-choice : (c : Choice) → IsChoiceOf hs least m c → IsLeftChoice m shown keep c
  surviving-choice c choice =
      choice-of-same (λ h. IsAmong h hs) (IsHeld (left_on keep p)) shown.least m c shows
      (subst (λ n. IsChoiceOf hs n m c) (sym old) choice)

  -- and back
  pub shown-choice : (c : Choice) → IsLeftChoice m shown keep c → IsChoiceOf hs least m c
  shown-choice c choice =
      subst (λ n. IsChoiceOf hs n m c) old
      (choice-of-same (IsHeld (left_on keep p)) (λ h. IsAmong h hs) shown.least m c
      (λ h of. ((shows h of).1, (shows h of).0)) choice)

  -- the picture has each replica that is shown
  pub shown-held : (h : Holding) → h.master ≡ m → IsAmong h hs →
      p h.backup m h.segment ≡ Some (record { bytes = h.bytes; is_open = h.is_open })
  shown-held h of among = ap (λ n. p h.backup n h.segment) (sym of) ∙ left-held keep p h ((shows h of).0 among)

  module _ (d : FailData) (sound : IsSoundInBytes m d shown) where
    -- each replica of the master is well
    pub shown-good : (h : Holding) → h.master ≡ m → IsAmong h hs → IsGood h
    shown-good h of among =
        let text : IsTextOfSegment h.bytes h.master h.segment =
        subst (λ n. IsTextOfSegment h.bytes n h.segment) (sym of)
        (sound.texts h.backup h.segment _ (shown-held h of among)) in
        record { segment = text.text; header = text.header }

    -- the replicas of a segment have one digest
    pub shown-agree : AgreeOnDigest hs m
    shown-agree id g h o q newest ga ha gi hi go ho =
        let same_segment : h.segment ≡ g.segment = hi.1 ∙ sym gi.1 in
        let one : opening_in g.bytes ≡ opening_in h.bytes =
        sound.digests g.backup h.backup h.segment _ _ (ap (p g.backup m) same_segment ∙ shown-held g gi.0.0 ga)
        (shown-held h hi.0.0 ha) in
        let same : o ≡ q = cc in
        ap (λ (x : Opening). x.digest) same
