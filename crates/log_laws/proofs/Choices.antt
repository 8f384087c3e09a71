-- Each choice from what is left means the map after a prefix of the history.
use Rattle.std.proofs.Common.{◌≡◌, ℕ, ◌<◌, ◌≤◌, ◌⊎◌, inl, inr, Bool, true, false, cond, List, [], ◌∷◌, ◌++◌, length}
use Rattle.std.proofs.Common.{map, Some, refl, sym, ap, subst, ◌∙◌, arith}
use Rattle.std.specs.Prelude.{Option, None, IsSome}
use Rattle.std.specs.List.{AllByRecursion, flat_map}
use Rattle.std.proofs.lemmas.List.{append-nil}
use Rattle.std.proofs.lemmas.Option.{same_Some}
use Rattle.entry.specs.declared.entry.Entry.{Entry}
use Rattle.entry.specs.Bag.{IsAmong}
use Rattle.entry.specs.Meaning.{among}
use Rattle.entry.proofs.BagLemmas.{among_either}
use Rattle.entry.specs.Text.{Opening, listed_ids}
use Rattle.versioned_map.specs.Represents.{Represents}
use Rattle.versioned_map.specs.Versioned.{State}
use Rattle.log_laws.proofs.Counts.{before_le, before_rise}
use Rattle.log_laws.proofs.IdLists.{same_front, below_at}
use Rattle.log_laws.specs.Heads.{Start}
use Rattle.log_laws.proofs.ListedIds.{ids_listed}
use Rattle.log_laws.specs.Text.{Text, Replica, IsUsable}
use Rattle.log_laws.specs.Shown.{Shown, survivors}
use Rattle.log_laws.specs.Choice.{Holding, IsHeld, Choice, bag_of}
use Rattle.log_laws.specs.Data.{opening_for, front_entries, bare_replica, FailData, IsHome, IsNew, state_after}
use Rattle.log_laws.specs.Data.{before, everywhere, durable_of}
use Rattle.log_laws.specs.Log.{Texts, IsVariant, IsBase, AreOfTablets, IsStart, IsLogged, IsHeadReplica}
use Rattle.log_laws.specs.Log.{IsMirrored, IsStanding}
use Rattle.log_laws.specs.Sound.{IsSurvivingChoice}
use Rattle.log_laws.proofs.Lists.{both_ways, is_some}
use Rattle.log_laws.proofs.Replicas.{usable_whole, bearing, all_reach}
use Rattle.log_laws.proofs.States.{after_all, front_keys, durable_taken}

kept_one : (b : Bool) (o : Option Replica) (r : Replica) → cond b o None ≡ Some r → (b ≡ true) × (o ≡ Some r)
kept_one true o r is = (refl, is)
kept_one false o r is = absurd (cc)

-- what is left is held, on a backup that is left
pub held_by : (p : Shown) (keep : ℕ → Bool) (h : Holding) → IsHeld (survivors keep p) h
    → (keep h.backup ≡ true) × (p.holds h.backup h.segment ≡ Some h.replica)
held_by p keep h held = kept_one (keep h.backup) (p.holds h.backup h.segment) h.replica held

-- What a choice means.
pub record Stands (d : FailData) (c : Choice) : Type 0 where
  pub count : ℕ
  pub durable : durable_of d ≤ count
  pub within : count ≤ length d.history
  pub represents : Represents c.opening.safe (bag_of c) (state_after d count)
  pub keys : AreOfTablets d.config (bag_of c)

-- keys of both are keys of the whole
pub both_of_tablets : (d : FailData) (xs ys : List Entry) → AreOfTablets d.config xs → AreOfTablets d.config ys
    → AreOfTablets d.config (xs ++ ys)
both_of_tablets d xs ys one two e k m at = elim (among_either e xs ys m) [
  | inl l ↦ one e k l at
  | inr r ↦ two e k r at
]

module _ (d : FailData) (texts : Texts) (p : Shown) (log : IsLogged d texts) (mir : IsMirrored d texts p)
    (standing : IsStanding d texts) (keep : ℕ → Bool) where
  abbrev Held : Opening → Holding → Type 0
  Held o h = IsHeld (survivors keep p) h × IsUsable o.digest h.segment h.replica

  -- what the other ids of a digest are
  module _ (n : Start) (start : IsStart d.config d.next texts n)
      (all_whole : IsAmong d.head.start.id n.others → (b : ℕ) → IsHome d d.head.start.id b
      → d.counts b ≡ length d.head.units) where
    others_are : (hs : List Holding) (ids : List ℕ) → map (λ (h : Holding). h.segment) hs ≡ ids
        → ((s : ℕ) → IsAmong s ids → IsAmong s n.others) → AllByRecursion (Held (opening_for n)) hs
        → IsBase texts ids (flat_map (λ (h : Holding). h.replica.text.entries) hs)
    others_are [] [] is all each = refl
    others_are [] (s ∷ ids) is all each = absurd (cc)
    others_are (h ∷ hs) [] is all each = absurd (cc)
    others_are (h ∷ hs) (s ∷ ids) is all each =
        let same : h.segment ≡ s = cc in
        let rest : map (λ (g : Holding). g.segment) hs ≡ ids = cc in
        let there = (held_by p keep h each.0.0).1 in
        let listed = subst (λ (t : ℕ). IsAmong t n.others) (sym same) (all s (inl refl)) in
        let copy = usable_whole d texts log p.least mir.homes n start h.backup h.segment h.replica listed
        (λ own. all_whole (subst (λ (t : ℕ). IsAmong t n.others) own listed))
        (mir.each h.backup h.segment h.replica there) each.0.1 in (
          h.replica.text.entries,
          flat_map (λ (g : Holding). g.replica.text.entries) hs,
          subst (λ (t : ℕ). IsVariant texts t h.replica.text.entries) same copy.0,
          others_are hs ids rest (λ t m. all t (inr m)) each.1,
          refl,
        )

  base_keys : (ids : List ℕ) (base : List Entry) → IsBase texts ids base → AreOfTablets d.config base
  base_keys [] base is e k m at = absurd (subst (λ (es : List Entry). among es e) is m)
  base_keys (s ∷ ids) base (es, rest, here, more, is) e k m at =
      both_of_tablets d es rest (log.keys s es here) (base_keys ids rest more) e k
      (subst (λ (l : List Entry). among l e) is m) at

  module _ (c : Choice) (choice : IsSurvivingChoice p keep c) where
    abbrev chosen : Replica
    chosen = c.head.replica

    found : p.holds c.head.backup c.head.segment ≡ Some chosen
    found = (held_by p keep c.head choice.held).1

    -- a choice whose head has this opening, and these entries behind it
    module _ (n : Start) (start : IsStart d.config d.next texts n)
        (all_whole : IsAmong d.head.start.id n.others → (b : ℕ) → IsHome d d.head.start.id b
        → d.counts b ≡ length d.head.units) (es : List Entry)
        (opens : chosen.text.opening ≡ Some (opening_for n)) (own_entries : chosen.text.entries ≡ es)
        (count : ℕ) (durable : durable_of d ≤ count) (within : count ≤ length d.history)
        (keys : AreOfTablets d.config es)
        (stands : (base : List Entry) → IsBase texts n.others base
        → Represents n.safe (base ++ es) (state_after d count)) where
      opening : c.opening ≡ opening_for n
      opening = same_Some c.opening (opening_for n) (sym choice.opening ∙ opens)

      ids : map (λ (h : Holding). h.segment) c.others ≡ n.others
      ids = same_front (map (λ (h : Holding). h.segment) c.others) n.others c.head.segment n.id
          (choice.ids ∙ ap (λ (o : Opening). listed_ids o.digest) opening ∙ ids_listed n)

      base : IsBase texts n.others (flat_map (λ (h : Holding). h.replica.text.entries) c.others)
      base = others_are n start all_whole c.others n.others ids (λ s m. m)
          (subst (λ (o : Opening). AllByRecursion (Held o) c.others) opening choice.others)

      made : Stands d c
      made =
          let others = flat_map (λ (h : Holding). h.replica.text.entries) c.others in
          let same : bag_of c ≡ others ++ es = ap (λ (l : List Entry). others ++ l) own_entries in
          record {
            count = count;
            durable = durable;
            within = within;
            represents = subst (λ (o : Opening). Represents o.safe (bag_of c) (state_after d count)) (sym opening)
                (subst (λ (l : List Entry). Represents n.safe l (state_after d count)) (sym same) (stands others base));
            keys = subst (AreOfTablets d.config) (sym same)
                (both_of_tablets d others es (base_keys n.others others base) keys);
          }

    head_stands : IsHeadReplica d c.head.backup chosen → Stands d c
    head_stands is =
        let le = all_reach d c.head.backup chosen is in
        let rise = before_rise 0 d.head.units (length d.history) (everywhere d) is.k standing.numbers le in
        let durable = durable_taken d texts standing in
        made d.head.start log.head
        (λ own. absurd (let lt = below_at d.head.start.id d.head.start.others d.head.start.id log.head.below own in
        omega arith))
        (front_entries d.head is.k)
        (ap (λ (t : Text). t.opening) is.text) (ap (λ (t : Text). t.entries) is.text)
        (before d is.k) (omega arith) (before_le 0 d.head.units (length d.history) is.k standing.numbers)
        (front_keys d texts log is.k)
        (λ base at. standing.fronts is.k base is.within at)

    head_there : (n : Start) → c.head.segment ≡ n.id → IsSome (p.holds c.head.backup n.id)
    head_there n same = subst (λ (t : ℕ). IsSome (p.holds c.head.backup t)) same
        (is_some (p.holds c.head.backup c.head.segment) chosen found)

    new_stands : (n : Start) → IsNew d n → c.head.segment ≡ n.id → chosen ≡ bare_replica n → Stands d c
    new_stands n is_new same is =
        let durable = durable_taken d texts standing in
        let all = before_le 0 d.head.units (length d.history) (everywhere d) standing.numbers in
        made n (log.new n is_new) (λ own b home. mir.whole n c.head.backup b is_new (head_there n same) home) []
        (ap (λ (r : Replica). r.text.opening) is)
        (ap (λ (r : Replica). r.text.entries) is) (length d.history) (omega arith) (omega arith)
        (λ e k m at. absurd m)
        (λ base at. subst (λ (l : List Entry). Represents n.safe l (state_after d (length d.history)))
        (sym (append-nil base))
        (subst (λ (st : State). Represents n.safe base st) (sym (after_all d)) (standing.new n is_new base at)))

    pub choice_stands : Stands d c
    choice_stands =
        let some : IsSome chosen.text.opening = subst IsSome (sym choice.opening) refl in
        elim (bearing d texts log p.least c.head.backup c.head.segment chosen
        (mir.each c.head.backup c.head.segment chosen found) some) as (λ _. Stands d c) [
          | inl head ↦ head_stands head.1
          | inr (inl new) ↦ new_stands new.0 new.1 new.2 new.3
          | inr (inr old) ↦ absurd (never old.1)
        ] where
          never : (chosen.is_open ≡ false) ⊎ (c.head.segment < p.least) → ⊥
          never (inl shut) = both_ways chosen.is_open choice.is_open shut
          never (inr below) = let usable = choice.usable in omega arith
