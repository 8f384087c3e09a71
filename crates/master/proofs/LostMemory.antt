-- A master whose backup has failed has the memory that it had, but for what waited there to be freed.
use Rattle.std.proofs.Common.{◌≡◌, ◌⊎◌, inl, inr, ℕ, zero, suc, ◌+◌, ◌-◌, ◌<◌, ◌≤◌, Bool, true, false, List, [], ◌∷◌}
use Rattle.std.proofs.Common.{map, filter, length, refl, sym, ap, subst, ◌∙◌, arith}
use Rattle.std.specs.Prelude.{Option, Some, None, IfSome, IsSome, nat_lt}
use Rattle.std.specs.List.{AllByRecursion}
use Rattle.std.specs.Option.{option_map, option_map_or}
use Rattle.std.proofs.lemmas.Bool.{lt-ltb, ltb-true, ltb-false}
use Rattle.std.proofs.lemmas.Option.{same_Some}
use Rattle.master_core.specs.cleaner.declared.pass.Pass.{Pass as OpenPass}
use Rattle.master_core.specs.cleaner.Passes.{images_in, rest_of}
use Rattle.master_core.proofs.cleaner.Ends.{rest_same}
use Rattle.entry.specs.declared.entry.Entry.{Entry}
use Rattle.entry.specs.declared.key.Key.{Key}
use Rattle.entry.specs.Bag.{IsAmong}
use Rattle.entry.proofs.BagLemmas.{among_left, among_right, among_either}
use Rattle.places.specs.declared.place.Place.{Place}
use Rattle.log_head.specs.declared.head.Roll.{Roll}
use Rattle.log_head.specs.log_laws.Ids.{has}
use Rattle.master_core.specs.log_laws.Memory.{Place as EntryPlace, Pass}
use Rattle.master_core.specs.log_memory.Memory.{FailMemory, Spot}
use Rattle.master_core.specs.log_memory.Steps.{stopped}
use Rattle.master_core.specs.master_state.declared.config.Config.{Config}
use Rattle.master_core.specs.master_state.declared.waiting.Waiting.{Waiting}
use Rattle.master_core.specs.master_state.Budget.{victims_of, survivors_of, is_committing}
use Rattle.master_core.specs.master_state.Data.{MasterData}
use Rattle.master_core.specs.master_state.Invariant.{IsCore, IsRollOf}
use Rattle.master_core.specs.master_state.Log.{home, entry_place, find, image_of, images_of, memory_of, position_of}
use Rattle.master_core.specs.master_state.Log.{rest_now}
use Rattle.master_core.specs.master_state.Log.{place_in, spots_from, spots_in, working}
use Rattle.master_core.specs.master_state.Steps.{less_by, lost_data, lost_image, lost_waiting, may_lose, still_waits}
use Rattle.master_core.proofs.master_state.Homes.{home_before, home_behind, homes_apart, place_in_none, place_in_some}
use Rattle.master_core.proofs.master_state.Homes.{working_many}
use Rattle.master_core.proofs.master_state.Imaging.{ids_in, other_id}
use Rattle.master_core.proofs.master_state.LogIds.{no_segment}
use Rattle.master_core.proofs.master_state.LostCore.{Loses, loses, find_lost, image_then, lost_recount, roll_not_closed}
use Rattle.master_core.proofs.master_state.Recounts.{ids_recounted, images_recounted}
use Rattle.master.proofs.Models.{IsModel, map_among, among_map, nothing_mapped}
use Rattle.master.proofs.Victims.{never_both, victim_below}

-- ---- what waits

-- A replica from this place on, of so many.
record IsSpotFrom (c : Config) (failed : List ℕ) (s low top : ℕ) (w : Spot) : Type 0 where
  replica : ℕ
  least : low ≤ replica
  within : replica < top
  is : w ≡ record { segment = s; backup = home c failed s replica }

spot_in : (c : Config) (failed : List ℕ) (s j n : ℕ) (w : Spot) → IsAmong w (spots_from c failed s j n)
    → IsSpotFrom c failed s j (j + n) w
spot_in c failed s j zero w among = absurd among
spot_in c failed s j (suc n) w (inl same) = record {
  replica = j;
  least = omega arith;
  within = omega arith;
  is = sym same;
}
spot_in c failed s j (suc n) w (inr later) =
    let at = spot_in c failed s (suc j) n w later in
    let least = at.least in
    let within = at.within in
    record { replica = at.replica; least = omega arith; within = omega arith; is = at.is }

in_spots : (c : Config) (failed : List ℕ) (s j n i : ℕ) → j ≤ i → i < j + n
    → IsAmong (record { segment = s; backup = home c failed s i }) (spots_from c failed s j n)
in_spots c failed s j zero i le lt = absurd (omega arith)
in_spots c failed s j (suc n) i le lt = go (nat_lt j i) refl (in_spots c failed s (suc j) n i) where
  go : (t : Bool) → nat_lt j i ≡ t
      → (suc j ≤ i → i < suc j + n
      → IsAmong (record { segment = s; backup = home c failed s i }) (spots_from c failed s (suc j) n))
      → IsAmong (record { segment = s; backup = home c failed s i }) (spots_from c failed s j (suc n))
  go true more later = (let less = ltb-true j i more in inr (later (omega arith) (omega arith)))
  go false first later =
      let ge = ltb-false j i first in
      let same : j ≡ i = omega arith in
      inl (ap (λ (k : ℕ). record { segment = s; backup = home c failed s k }) same)

-- a replica that is left was one of these before
module _ (c : Config) (failed : List ℕ) (s b n : ℕ) (few : n ≤ length (working c failed s)) where
  pub home_was : (place : Option ℕ) → place_in c failed s n b ≡ place → (low i : ℕ) → less_by low place ≤ i
      → i < less_by n place
      → (q : ℕ) × (low ≤ q) × (q < n) × (home c (b ∷ failed) s i ≡ home c failed s q)
  home_was None is low i le lt = (
    i,
    le,
    lt,
    home_before c failed s b i (omega arith)
        (λ j under same. place_in_none c failed s n b j is (omega arith) same),
  )
  home_was (Some p) is low i le lt = by_place (nat_lt i p) refl where
    found : (p < n) × (home c failed s p ≡ b)
    found = place_in_some c failed s n b p is

    within : i < n - 1
    within = let test : nat_lt p n ≡ true = lt-ltb p n found.0 in rw test at lt

    least : (t : Bool) → nat_lt p low ≡ t → ((low ≤ i) ⊎ ((low ≤ i + 1) × (p < low)))
    least true under = (let less : low - 1 ≤ i = rw under at le in inr (omega arith, ltb-true p low under))
    least false above = (let same : low ≤ i = rw above at le in inl same)

    by_place : (t : Bool) → nat_lt i p ≡ t
        → (q : ℕ) × (low ≤ q) × (q < n) × (home c (b ∷ failed) s i ≡ home c failed s q)
    by_place true under =
        let less = ltb-true i p under in
        let all = within in
        let one = found.0 in (
          i,
          elim (least (nat_lt p low) refl) as (λ _. low ≤ i) [
            | inl le ↦ le
            | inr gone ↦ (let a = gone.0 in let b = gone.1 in omega arith)
          ],
          omega arith,
          home_before c failed s b i (omega arith)
              (λ j le same. homes_apart c failed s j p (omega arith) (omega arith) (λ eq. omega arith)
              (same ∙ sym found.1)),
        )
    by_place false above =
        let ge = ltb-false i p above in
        let all = within in (
          suc i,
          elim (least (nat_lt p low) refl) as (λ _. low ≤ suc i) [
            | inl le ↦ omega arith
            | inr gone ↦ (let a = gone.0 in omega arith)
          ],
          omega arith,
          home_behind c failed s b p i found.1 ge (omega arith),
        )

-- what waits after the failure waited before
module _ (c : Config) (failed : List ℕ) (b : ℕ) (left : length failed + c.replicas ≤ c.backups) (v : Spot) where
  still_in : (w : Waiting) (q : ℕ) → w.freed ≤ q → q < w.replicas
      → v ≡ record { segment = w.segment; backup = home c failed w.segment q }
      → IsAmong v (spots_from c failed w.segment w.freed (w.replicas - w.freed))
  still_in w q over under is =
      subst (λ (x : Spot). IsAmong x (spots_from c failed w.segment w.freed (w.replicas - w.freed))) (sym is)
      (in_spots c failed w.segment w.freed (w.replicas - w.freed) q over (omega arith))

  one_waits : (w : Waiting) → w.replicas ≤ c.replicas → (place : Option ℕ)
      → place_in c failed w.segment w.replicas b ≡ place
      → IsAmong v (spots_from c (b ∷ failed) w.segment (less_by w.freed place)
      (less_by w.replicas place - less_by w.freed place))
      → IsAmong v (spots_from c failed w.segment w.freed (w.replicas - w.freed))
  one_waits w few place is among =
      let at = spot_in c (b ∷ failed) w.segment (less_by w.freed place)
      (less_by w.replicas place - less_by w.freed place) v among in
      let within = at.within in
      let least = at.least in
      let many = working_many c failed w.segment c.replicas left in
      let was = home_was c failed w.segment b w.replicas (omega arith) place is w.freed at.replica at.least
      (omega arith) in
      still_in w was.0 was.1 was.2 (at.is ∙ ap (λ (k : ℕ). record { segment = w.segment; backup = k }) was.3)

  fewer_wait : (ws : List Waiting)
      → AllByRecursion (λ (w : Waiting). (w.freed < w.replicas) × (w.replicas ≤ c.replicas)) ws
      → IsAmong v (spots_in c (b ∷ failed) (filter still_waits (map (lost_waiting c failed b) ws)))
      → IsAmong v (spots_in c failed ws)
  fewer_wait [] all among = among
  fewer_wait (w ∷ ws) all among =
      go (still_waits (lost_waiting c failed b w)) refl among (fewer_wait ws all.1)
    where
      go : (t : Bool) → still_waits (lost_waiting c failed b w) ≡ t
          → IsAmong v (spots_in c (b ∷ failed) (filter still_waits (map (lost_waiting c failed b) (w ∷ ws))))
          → (IsAmong v (spots_in c (b ∷ failed) (filter still_waits (map (lost_waiting c failed b) ws)))
          → IsAmong v (spots_in c failed ws))
          → IsAmong v (spots_in c failed (w ∷ ws))
      go true is among later =
          let two = rw is at among in
          elim (among_either v (spots_from c (b ∷ failed) w.segment (lost_waiting c failed b w).freed
          ((lost_waiting c failed b w).replicas - (lost_waiting c failed b w).freed))
          (spots_in c (b ∷ failed) (filter still_waits (map (lost_waiting c failed b) ws))) two)
          as (λ _. IsAmong v (spots_in c failed (w ∷ ws))) [
            | inl front ↦ among_left v (spots_from c failed w.segment w.freed (w.replicas - w.freed))
                (spots_in c failed ws)
                (one_waits w all.0.1 (place_in c failed w.segment w.replicas b) refl front)
            | inr back ↦ among_right v (spots_from c failed w.segment w.freed (w.replicas - w.freed))
                (spots_in c failed ws) (later back)
          ]
      go false is among later =
          among_right v (spots_from c failed w.segment w.freed (w.replicas - w.freed)) (spots_in c failed ws)
          (later (rw is at among))

-- ---- all of it

module _ (d : MasterData) (b : ℕ) (core : IsCore d) (may : Loses d) (there : b < d.config.backups)
    (works : has d.failed b ≡ false) where
  abbrev e : MasterData
  e = lost_data d b

  abbrev m : FailMemory
  m = stopped (memory_of d)

  abbrev pass_in : Option OpenPass → Pass
  pass_in o = record { victims = victims_of o; survivors = survivors_of o }

  pass_same : (memory_of e).pass ≡ m.pass
  pass_same = go d.pass where
    go : (o : Option OpenPass)
        → pass_in (option_map (λ (p : OpenPass). record p { is_committing = false }) o) ≡ pass_in o
    go None = refl
    go (Some p) = refl

  commits_no_more : is_committing e ≡ false
  commits_no_more = go d.pass where
    go : (o : Option OpenPass)
        → option_map_or (λ (p : OpenPass). p.is_committing)
        (option_map (λ (p : OpenPass). record p { is_committing = false }) o) false ≡ false
    go None = refl
    go (Some p) = refl

  rest_stays : rest_now e ≡ rest_now d
  rest_stays = go d.pass where
    go : (o : Option OpenPass)
        → option_map_or (rest_of (images_in e.closed))
        (option_map (λ (p : OpenPass). record p { is_committing = false }) o) []
        ≡ option_map_or (rest_of (images_in d.closed)) o []
    go None = refl
    go (Some p) =
        rest_same (images_in d.closed) (images_in e.closed) p
        (λ s i. images_recounted (lost_image d.config d.failed b) (lost_recount d.config d.failed b) d.closed s)

  -- ---- images

  newer : (r : Roll) → d.head.roll ≡ Some r → d.head.id < r.id
  newer r is = (subst (λ (o : Option Roll). IfSome o (IsRollOf d)) is core.roll).newer

  -- the head that a roll was opening has none
  gone : (s : ℕ) (r : Roll) → d.head.roll ≡ Some r → r.id ≡ s → image_of e s ≡ None
  gone s r is id =
      let lt = newer r is in
      let away = other_id d.head.id s (λ same. omega arith) in
      rw away (no_segment e.closed s
      (ap (λ (ids : List ℕ). has ids s)
      (ids_recounted (lost_image d.config d.failed b) (lost_recount d.config d.failed b) d.closed)
      ∙ ap (has (ids_in d.closed)) (sym id) ∙ roll_not_closed d b core may there works r is))

  images_stay : (s : ℕ) → IsSome (image_of e s) → images_of e s ≡ images_of d s
  images_stay s some = elim (image_then d b core may there works s) as (λ _. images_of e s ≡ images_of d s) [
    | inl same ↦ same
    | inr lost ↦ (
        let never : false ≡ true =
        subst (λ (o : Option (List Entry)). IsSome o) (gone s lost.0 lost.1 lost.2) some in
        absurd (cc))
  ]

  victims_stay : (s : ℕ) → IsAmong s (victims_of d.pass) → images_of e s ≡ images_of d s
  victims_stay s victim = elim (image_then d b core may there works s) as (λ _. images_of e s ≡ images_of d s) [
    | inl same ↦ same
    | inr lost ↦ (
        let lt = newer lost.0 lost.1 in
        let id = lost.2 in
        let low = victim_below d core s victim in
        absurd (omega arith))
  ]

  -- ---- the index and the pass

  behind : (k : Key) (q : Place) (r : EntryPlace) → find e k ≡ Some q → m.index k ≡ Some r
      → IsAmong q.segment m.pass.victims → IsAmong r.segment m.pass.survivors → ⊥
  behind k q r finds indexed victim survivor =
      let before : find d k ≡ Some q = sym (find_lost d b core may there works k) ∙ finds in
      let same : entry_place d q ≡ r =
      same_Some (entry_place d q) r (sym (ap (option_map (entry_place d)) before) ∙ indexed) in
      never_both d core q.segment victim
      (subst (λ (z : ℕ). IsAmong z (survivors_of d.pass)) (sym (ap (λ (p : EntryPlace). p.segment) same)) survivor)

  carried : (p : EntryPlace) → IsAmong p.segment (victims_of d.pass) → IsAmong p m.rest → IsAmong p (memory_of e).rest
  carried p victim i =
      let q = map_among (entry_place d) (rest_now d) p i in
      let segment : q.0.segment ≡ p.segment = ap (λ (r : EntryPlace). r.segment) q.2 in
      let image = victims_stay q.0.segment (subst (λ (z : ℕ). IsAmong z (victims_of d.pass)) (sym segment) victim) in
      let same : entry_place e q.0 ≡ entry_place d q.0 =
      ap (λ (es : List Entry). record { segment = q.0.segment; position = position_of es q.0.at }) image in
      subst (λ (r : EntryPlace). IsAmong r (memory_of e).rest) (same ∙ q.2)
      (among_map (entry_place e) (rest_now e) q.0 (subst (λ (ps : List Place). IsAmong q.0 ps) (sym rest_stays) q.1))

  model_then : IsModel e m
  model_then = record {
    pass = pass_same;
    images = images_stay;
    behind = behind;
    carried = λ p t victim stands kept to_come. carried p victim to_come;
    done = λ none. ap (map (entry_place e)) (rest_stays ∙ nothing_mapped (entry_place d) (rest_now d) none);
    commits = commits_no_more;
    waiting = λ v. fewer_wait d.config d.failed b (let left = may.left in omega arith) v d.waiting core.waiting;
  }

pub model_lost : (d : MasterData) (b : ℕ) → IsCore d → may_lose d ≡ true → b < d.config.backups
    → has d.failed b ≡ false → IsModel (lost_data d b) (stopped (memory_of d))
model_lost d b core may there works = model_then d b core (loses d may) there works
