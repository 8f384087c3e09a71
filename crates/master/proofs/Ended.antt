-- A roll ends with the last Close. With a commit the victims of its pass leave memory, and wait to be freed.
use Rattle.std.proofs.Common.{◌≡◌, ℕ, zero, suc, ◌⊎◌, ◌+◌, ◌-◌, ◌<◌, ◌≤◌, inl, inr, Bool, true, false, List, []}
use Rattle.std.proofs.Common.{◌∷◌, ◌++◌, refl, sym, ap, subst, ◌∙◌, map, arith}
use Rattle.std.specs.Prelude.{Option, Some, IsSome, ◌==◌, ◌&&◌, nat_lt, unwrap_or}
use Rattle.std.specs.List.{AllByRecursion}
use Rattle.std.specs.Option.{option_map, option_map_or}
use Rattle.std.proofs.lemmas.Bool.{and_parts}
use Rattle.std.proofs.lemmas.List.{map-append}
use Rattle.std.proofs.lemmas.Option.{same_Some}
use Rattle.master_core.specs.cleaner.declared.pass.Pass.{Pass as OpenPass}
use Rattle.entry.specs.declared.key.Key.{Key}
use Rattle.entry.specs.declared.entry.Entry.{Entry}
use Rattle.entry.specs.Bag.{IsAmong}
use Rattle.entry.proofs.BagLemmas.{among_left, among_right, among_either}
use Rattle.places.specs.declared.place.Place.{Place}
use Rattle.places.specs.Map.{found}
use Rattle.master_core.specs.compactor.Places.{keys_in}
use Rattle.log_head.specs.declared.head.Roll.{Roll}
use Rattle.log_head.specs.Steps.{in_force}
use Rattle.log_head.specs.log_laws.Ids.{has, without}
use Rattle.master_core.specs.log_laws.Memory.{Place as EntryPlace}
use Rattle.master_core.proofs.log_laws.KeptEntries.{is_has}
use Rattle.master_core.specs.log_laws.Data.{FailData, homes}
use Rattle.master_core.specs.log_memory.Memory.{Spot}
use Rattle.master_core.specs.log_memory.Steps.{spots_of, finished}
use Rattle.master_core.specs.master_state.declared.config.Config.{Config}
use Rattle.master_core.specs.master_state.declared.ledger.Posting.{Posting}
use Rattle.master_core.specs.master_state.declared.waiting.Waiting.{Waiting}
use Rattle.master_core.specs.master_state.Budget.{victims_of, survivors_of, is_committing}
use Rattle.master_core.specs.master_state.Data.{MasterData}
use Rattle.images.specs.Image.{Image, closed_image}
use Rattle.master_core.specs.master_state.Images.{with_closed, waiting_for, leaving}
use Rattle.master_core.specs.master_state.Invariant.{AreApart, IsCore}
use Rattle.master_core.specs.master_state.Ledger.{took_in}
use Rattle.master_core.specs.master_state.Log.{image_of, images_of, find, entry_place, home, placed, spots_from}
use Rattle.master_core.specs.master_state.Log.{spots_in}
use Rattle.master_core.specs.master_state.Log.{memory_of}
use Rattle.master_core.specs.master_state.Steps.{pass_ended}
use Rattle.master_core.proofs.master_rolls.Committed.{image_gone, image_stays}
use Rattle.master_core.proofs.master_state.Imaging.{ids_in}
use Rattle.master_core.proofs.master_state.LogIds.{open_of, closed_rise, no_head}
use Rattle.master_core.proofs.master_state.Rising.{Rise, has_not, rise_put}
use Rattle.master_core.proofs.master_rolls.RollEnds.{added_ids, closed_images}
use Rattle.master.specs.Placed.{holders, IsPlaced}
use Rattle.master.proofs.Models.{among_map, map_among, IsModel, LeavesPass, rest_stays, is_model}
use Rattle.master.proofs.NextOps.{roll_of}
use Rattle.master.proofs.Placing.{home_placed}
use Rattle.master.proofs.PushedPlaces.{among_added}
use Rattle.master.proofs.Victims.{victim_below, never_both}

-- the segments that wait
abbrev pub segments_in : List Waiting → List ℕ
segments_in ws = map (λ (w : Waiting). w.segment) ws

-- ---- the same images

-- the model's memory stays, if images and the index do
module _ (d e : MasterData) (core : IsCore d) (later : IsCore e) (config : e.config ≡ d.config)
    (failed : e.failed ≡ d.failed) (images : (s : ℕ) → image_of e s ≡ image_of d s) (index : e.index ≡ d.index)
    (pass : e.pass ≡ d.pass) (waiting : e.waiting ≡ d.waiting) (newer : d.head.id ≤ e.head.id) where
  same_at : (s : ℕ) → images_of e s ≡ images_of d s
  same_at s = ap (λ (o : Option (List Entry)). unwrap_or o []) (images s)

  finds_same : (k : Key) → find e k ≡ find d k
  finds_same k = λ i. found (keys_in (λ s. same_at s i)) k (index i)

  leaves : LeavesPass d e
  leaves = record {
    pass = λ i. record { victims = victims_of (pass i); survivors = survivors_of (pass i) };
    waiting = λ i. spots_in (config i) (failed i) (waiting i);
    rest = rest_stays d e core later pass newer (λ s victim. same_at s);
    victims = λ s victim. same_at s;
  }

  behind : (k : Key) (q : Place) (p : EntryPlace) → find e k ≡ Some q → (memory_of d).index k ≡ Some p
      → IsAmong q.segment (victims_of d.pass) → IsAmong p.segment (survivors_of d.pass) → ⊥
  behind k q p found indexed victim survivor =
      let both : entry_place d q ≡ p =
      same_Some (entry_place d q) p (sym (ap (option_map (entry_place d)) (sym (finds_same k) ∙ found)) ∙ indexed) in
      let segment : q.segment ≡ p.segment = ap (λ (x : EntryPlace). x.segment) both in
      never_both d core q.segment victim (subst (λ (z : ℕ). IsAmong z (survivors_of d.pass)) (sym segment) survivor)

  pub same_model : IsModel e (memory_of d)
  same_model = is_model d e leaves (images_of d) (memory_of d).index (is_committing d)
      (ap (λ (o : Option OpenPass). option_map_or (λ (p : OpenPass). p.is_committing) o false) pass)
      (λ s counts. same_at s) behind

-- ---- lists

has_append : (xs ys : List ℕ) (s : ℕ) → has xs s ≡ false → has ys s ≡ false → has (xs ++ ys) s ≡ false
has_append [] ys s first later = later
has_append (x ∷ xs) ys s first later = go (x == s) refl (has_append xs ys s) where
  go : (t : Bool) → (x == s) ≡ t → (has xs s ≡ false → has ys s ≡ false → has (xs ++ ys) s ≡ false)
      → has (x ∷ (xs ++ ys)) s ≡ false
  go true is rest = (let never : true ≡ false = rw is at first in absurd (cc))
  go false is rest = (let none : has xs s ≡ false = rw is at first in rw is (rest none later))

hasnt : (ids : List ℕ) (s : ℕ) → (IsAmong s ids → ⊥) → has ids s ≡ false
hasnt ids s never = go (has ids s) refl where
  go : (t : Bool) → has ids s ≡ t → has ids s ≡ false
  go true is = absurd (never (is_has ids s is))
  go false is = is

apart_append : (xs ys : List ℕ) → AreApart xs → AreApart ys → ((s : ℕ) → IsAmong s xs → IsAmong s ys → ⊥)
    → AreApart (xs ++ ys)
apart_append [] ys first later never = later
apart_append (x ∷ xs) ys first later never = (
  has_append xs ys x first.0 (hasnt ys x (λ m. never x (inl refl) m)),
  apart_append xs ys first.1 later (λ s m n. never s (inr m) n),
)

apart_rise : (ids : List ℕ) → Rise ids → AreApart ids
apart_rise [] rise = tt
apart_rise (s ∷ ids) rise = (has_not (λ (z : ℕ). s < z) ids s rise.0 (λ lt. omega arith), apart_rise ids rise.1)

-- ---- what comes to wait

-- whether an image is of a victim that some backup holds
abbrev leaves_log : List ℕ → Image → Bool
leaves_log victims c = has victims c.id && nat_lt 0 c.replicas

leaving_all : (P : ℕ → Type 0) (victims : List ℕ) (cs : List Image) → AllByRecursion P (ids_in cs)
    → AllByRecursion P (segments_in (leaving victims cs))
leaving_all P victims [] all = tt
leaving_all P victims (c ∷ cs) all = go (leaves_log victims c) refl (leaving_all P victims cs all.1) where
  go : (t : Bool) → leaves_log victims c ≡ t → AllByRecursion P (segments_in (leaving victims cs))
      → AllByRecursion P (segments_in (leaving victims (c ∷ cs)))
  go true is rest = rw is (all.0, rest)
  go false is rest = rw is rest

leaving_rise : (victims : List ℕ) (cs : List Image) → Rise (ids_in cs) → Rise (segments_in (leaving victims cs))
leaving_rise victims [] rise = tt
leaving_rise victims (c ∷ cs) rise = go (leaves_log victims c) refl (leaving_rise victims cs rise.1) where
  go : (t : Bool) → leaves_log victims c ≡ t → Rise (segments_in (leaving victims cs))
      → Rise (segments_in (leaving victims (c ∷ cs)))
  go true is rest = rw is (leaving_all (λ (x : ℕ). c.id < x) victims cs rise.0, rest)
  go false is rest = rw is rest

-- Of one of these images, a victim's.
record IsLeaving (victims : List ℕ) (cs : List Image) (w : Waiting) : Type 0 where
  image : Image
  among : IsAmong image cs
  victim : has victims image.id ≡ true
  is : waiting_for image ≡ w

leaving_is : (victims : List ℕ) (cs : List Image) (w : Waiting) → IsAmong w (leaving victims cs)
    → IsLeaving victims cs w
leaving_is victims [] w m = absurd m
leaving_is victims (c ∷ cs) w m = go (leaves_log victims c) refl m (leaving_is victims cs w) where
  further : IsLeaving victims cs w → IsLeaving victims (c ∷ cs) w
  further at = record { image = at.image; among = inr at.among; victim = at.victim; is = at.is }

  go : (t : Bool) → leaves_log victims c ≡ t → IsAmong w (leaving victims (c ∷ cs))
      → (IsAmong w (leaving victims cs) → IsLeaving victims cs w) → IsLeaving victims (c ∷ cs) w
  go true is m later =
      let either : (waiting_for c ≡ w) ⊎ IsAmong w (leaving victims cs) = rw is at m in
      elim either as (λ _. IsLeaving victims (c ∷ cs) w) [
        | inl same ↦ record {
          image = c;
          among = inl refl;
          victim = (and_parts (has victims c.id) (nat_lt 0 c.replicas) is).0;
          is = same;
        }
        | inr rest ↦ further (later rest)
      ]
  go false is m later = further (later (rw is at m))

-- ---- what waits

-- a replica of each segment that waits is still there
pub spot_there : (c : Config) (failed : List ℕ) (ws : List Waiting) (s : ℕ)
    → AllByRecursion (λ (w : Waiting). (w.freed < w.replicas) × (w.replicas ≤ c.replicas)) ws
    → IsAmong s (segments_in ws) → (w : Spot) × IsAmong w (spots_in c failed ws) × (w.segment ≡ s)
spot_there c failed [] s some m = absurd m
spot_there c failed (z ∷ ws) s some (inl same) = (
  record { segment = z.segment; backup = home c failed z.segment z.freed },
  among_left (record { segment = z.segment; backup = home c failed z.segment z.freed })
      (spots_from c failed z.segment z.freed (z.replicas - z.freed)) (spots_in c failed ws)
      (first (z.replicas - z.freed) (let lt = some.0.0 in omega arith)),
  same,
) where
  first : (n : ℕ) → 0 < n → IsAmong (record { segment = z.segment; backup = home c failed z.segment z.freed })
      (spots_from c failed z.segment z.freed n)
  first zero lt = absurd (omega (arith, lt))
  first (suc n) lt = inl refl
spot_there c failed (z ∷ ws) s some (inr m) =
    let later = spot_there c failed ws s some.1 m in (
      later.0,
      among_right later.0 (spots_from c failed z.segment z.freed (z.replicas - z.freed))
          (spots_in c failed ws) later.1,
      later.2,
    )

-- The place is a replica of one of the segments that wait.
pub record IsSpotIn (c : Config) (failed : List ℕ) (ws : List Waiting) (w : Spot) : Type 0 where
  pub of : Waiting
  pub among : IsAmong of ws
  pub replica : ℕ
  pub within : replica < of.freed + (of.replicas - of.freed)
  pub is : record { segment = of.segment; backup = home c failed of.segment replica } ≡ w

spots_are : (c : Config) (failed : List ℕ) (s j n : ℕ) (w : Spot) → IsAmong w (spots_from c failed s j n)
    → (k : ℕ) × (k < j + n) × (record { segment = s; backup = home c failed s k } ≡ w)
spots_are c failed s j zero w m = absurd m
spots_are c failed s j (suc n) w (inl same) = (j, omega arith, same)
spots_are c failed s j (suc n) w (inr m) =
    let at = spots_are c failed s (suc j) n w m in let lt = at.1 in (at.0, omega (arith, lt), at.2)

pub spot_in : (c : Config) (failed : List ℕ) (ws : List Waiting) (w : Spot) → IsAmong w (spots_in c failed ws)
    → IsSpotIn c failed ws w
spot_in c failed [] w m = absurd m
spot_in c failed (z ∷ ws) w m =
    elim (among_either w (spots_from c failed z.segment z.freed (z.replicas - z.freed)) (spots_in c failed ws) m)
    as (λ _. IsSpotIn c failed (z ∷ ws) w) [
      | inl own ↦ (
          let at = spots_are c failed z.segment z.freed (z.replicas - z.freed) w own in
          record { of = z; among = inl refl; replica = at.0; within = at.1; is = at.2 })
      | inr later ↦ (
          let at = spot_in c failed ws w later in
          record { of = at.of; among = inr at.among; replica = at.replica; within = at.within; is = at.is })
    ]

-- what waited, or is of those that come to wait
more_waits : (c : Config) (failed : List ℕ) (xs ys : List Waiting) (w : Spot)
    → IsAmong w (spots_in c failed (xs ++ ys))
    → IsAmong w (spots_in c failed xs) ⊎ IsAmong w (spots_in c failed ys)
more_waits c failed [] ys w m = inr m
more_waits c failed (z ∷ xs) ys w m =
    let own = spots_from c failed z.segment z.freed (z.replicas - z.freed) in
    elim (among_either w own (spots_in c failed (xs ++ ys)) m)
    as (λ _. IsAmong w (spots_in c failed (z ∷ xs)) ⊎ IsAmong w (spots_in c failed ys)) [
      | inl here ↦ inl (among_left w own (spots_in c failed xs) here)
      | inr later ↦ elim (more_waits c failed xs ys w later)
          as (λ _. IsAmong w (spots_in c failed (z ∷ xs)) ⊎ IsAmong w (spots_in c failed ys)) [
            | inl old ↦ inl (among_right w own (spots_in c failed xs) old)
            | inr new ↦ inr new
          ]
    ]

-- the replica of a segment on a backup
abbrev spot_at : ℕ → ℕ → Spot
spot_at s b = record { segment = s; backup = b }

-- the log's own replicas of a segment
spot_of : (l : FailData) (ids : List ℕ) (s b : ℕ) → IsAmong s ids → IsAmong b (homes l s)
    → IsAmong (spot_at s b) (spots_of l ids)
spot_of l [] s b m at = absurd m
spot_of l (z ∷ ids) s b (inl same) at =
    among_left (spot_at s b) (map (spot_at z) (homes l z)) (spots_of l ids)
    (subst (λ (y : ℕ). IsAmong (spot_at s b) (map (spot_at y) (homes l y))) (sym same)
    (among_map (spot_at s) (homes l s) b at))
spot_of l (z ∷ ids) s b (inr m) at =
    among_right (spot_at s b) (map (spot_at z) (homes l z)) (spots_of l ids) (spot_of l ids s b m at)

-- ---- the head that was rolled to is in force

module _ (d : MasterData) (core : IsCore d) (r : Roll) (rolls : d.head.roll ≡ Some r) (ps : List Posting) where
  abbrev closed : List Image
  closed = with_closed d.closed d.head.id d.config.replicas (Some d.head.image)

  abbrev rolled : MasterData
  rolled = record d {
    head = in_force d.head r;
    closed = with_closed d.closed d.head.id d.config.replicas (Some d.head.image);
    ledger = ps;
  }

  newer : d.head.id < r.id
  newer = (roll_of d core r rolls).newer

  -- an ordinary roll
  pub rolled_model : IsCore rolled → IsModel rolled (memory_of d)
  rolled_model later =
      same_model d rolled core later refl refl (closed_images d core r rolls) refl refl refl
      (let lt = newer in omega arith)

  -- ---- a commit

  module _ (placed_now : IsPlaced d) (p : OpenPass) (opened : d.pass ≡ Some p) (commits : p.is_committing ≡ true)
      (mid : FailData) (took : mid.took ≡ took_in d.ledger) (failed : mid.failed ≡ d.failed) where
    abbrev e : MasterData
    e = pass_ended p rolled

    victims_are : victims_of d.pass ≡ p.victims
    victims_are = ap victims_of opened

    -- ---- images

    -- what still has an image has the one that it had
    images_same : (s : ℕ) → IsSome (image_of e s) → images_of e s ≡ images_of d s
    images_same s some = go (has p.victims s) refl where
      go : (t : Bool) → has p.victims s ≡ t → images_of e s ≡ images_of d s
      go true gone = absurd (
          let none = subst (λ (o : Option (List Entry)). IsSome o)
          (image_gone d core r rolls p (open_of d core p opened) opened commits s gone) some in cc)
      go false stays = ap (λ (o : Option (List Entry)). unwrap_or o [])
          (image_stays d core r rolls p (open_of d core p opened) opened commits s stays)

    -- ---- what waits

    -- each replica of a victim is on one of its homes
    victim_homes : (image : Image) → IsAmong image closed → has p.victims image.id ≡ true
        → homes mid image.id ≡ placed d.config d.failed image.id image.replicas
    victim_homes image m victim =
        (λ i. without (failed i) (took i image.id))
        ∙ elim (among_added (closed_image d.head.id d.head.image d.config.replicas) d.closed image m)
        as (λ _. holders d image.id ≡ placed d.config d.failed image.id image.replicas) [
          | inl own ↦ absurd (
              let is : IsAmong image.id (victims_of d.pass) =
              subst (λ (ids : List ℕ). IsAmong image.id ids) (sym victims_are) (is_has p.victims image.id victim) in
              let lt = victim_below d core image.id is in
              let same : d.head.id ≡ image.id = ap (λ (x : Image). x.id) own in
              omega (arith, lt, same))
          | inr old ↦ placed_now.closed image old
        ]

    new_spot : (w : Spot) → IsAmong w (spots_in d.config d.failed (leaving p.victims closed))
        → IsAmong w (spots_of mid (victims_of d.pass))
    new_spot w m =
        let spot = spot_in d.config d.failed (leaving p.victims closed) w m in
        let at = leaving_is p.victims closed spot.of spot.among in
        let image = at.image in
        let id : image.id ≡ spot.of.segment = ap (λ (x : Waiting). x.segment) at.is in
        let freed : 0 ≡ spot.of.freed = ap (λ (x : Waiting). x.freed) at.is in
        let replicas : image.replicas ≡ spot.of.replicas = ap (λ (x : Waiting). x.replicas) at.is in
        let lt = spot.within in
        let among : IsAmong (home d.config d.failed image.id spot.replica) (homes mid image.id) =
        is_has (homes mid image.id) (home d.config d.failed image.id spot.replica)
        (ap (λ (bs : List ℕ). has bs (home d.config d.failed image.id spot.replica))
        (victim_homes image at.among at.victim)
        ∙ home_placed d.config d.failed image.id image.replicas spot.replica
        (omega (arith, freed, replicas, lt))) in
        let victim : IsAmong image.id (victims_of d.pass) =
        subst (λ (ids : List ℕ). IsAmong image.id ids) (sym victims_are) (is_has p.victims image.id at.victim) in
        subst (λ (x : Spot). IsAmong x (spots_of mid (victims_of d.pass)))
        ((λ i. spot_at (id i) (home d.config d.failed (id i) spot.replica)) ∙ spot.is)
        (spot_of mid (victims_of d.pass) image.id (home d.config d.failed image.id spot.replica) victim among)

    waits : (w : Spot) → IsAmong w (memory_of e).waiting → IsAmong w (finished mid (memory_of d)).waiting
    waits w m =
        elim (more_waits d.config d.failed d.waiting (leaving p.victims closed) w m)
        as (λ _. IsAmong w (finished mid (memory_of d)).waiting) [
          | inl old ↦ among_right w (spots_of mid (victims_of d.pass)) (memory_of d).waiting old
          | inr new ↦ among_left w (spots_of mid (victims_of d.pass)) (memory_of d).waiting (new_spot w new)
        ]

    ids_rise : Rise (ids_in closed)
    ids_rise =
        subst Rise (sym (added_ids (closed_image d.head.id d.head.image d.config.replicas) d.closed))
        (rise_put d.head.id (ids_in d.closed) (no_head d core) (closed_rise d core))

    -- nothing waits twice
    pub apart_then : AreApart (segments_in d.waiting)
        → ((w : Spot) → IsAmong w (memory_of d).waiting → IsAmong w.segment (victims_of d.pass) → ⊥)
        → AreApart (segments_in e.waiting)
    apart_then apart gone =
        subst AreApart (sym (map-append (λ (w : Waiting). w.segment) d.waiting (leaving p.victims closed)))
        (apart_append (segments_in d.waiting) (segments_in (leaving p.victims closed)) apart
        (apart_rise (segments_in (leaving p.victims closed)) (leaving_rise p.victims closed ids_rise))
        (λ s old new. (
        let from = map_among (λ (w : Waiting). w.segment) (leaving p.victims closed) s new in
        let at = leaving_is p.victims closed from.0 from.1 in
        let own : at.image.id ≡ s = ap (λ (x : Waiting). x.segment) at.is ∙ from.2 in
        let spot = spot_there d.config d.failed d.waiting s core.waiting old in
        gone spot.0 spot.1 (subst (λ (z : ℕ). IsAmong z (victims_of d.pass)) (own ∙ sym spot.2)
        (subst (λ (ids : List ℕ). IsAmong at.image.id ids) (sym victims_are)
        (is_has p.victims at.image.id at.victim))))))

    pub ended_model : IsModel e (finished mid (memory_of d))
    ended_model = record {
      pass = refl;
      images = images_same;
      behind = λ k q x found indexed victim survivor. victim;
      carried = λ x t victim stands named i. absurd victim;
      done = λ none. refl;
      commits = refl;
      waiting = waits;
    }
