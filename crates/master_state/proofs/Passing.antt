-- An open pass goes on through a step that leaves its victims and its survivors.
use Rattle.std.proofs.Common.{◌≡◌, inl, inr, ℕ, ◌<◌, ◌≤◌, Bool, true, false, ◌==◌, ◌||◌, List, [], ◌∷◌, length, refl}
use Rattle.std.proofs.Common.{sym, ap, subst, ◌∙◌, arith}
use Rattle.std.specs.Prelude.{Option, Some, IsSome, IfSome, is_none, nat_lt, ◌&&◌, if◌then◌else◌}
use Rattle.std.specs.List.{AllByRecursion}
use Rattle.std.proofs.lemmas.Bool.{eqb-true}
use Rattle.cleaner.specs.declared.pass.Pass.{Pass as OpenPass}
use Rattle.cleaner.specs.KeptLengths.{HasRoomsIn}
use Rattle.cleaner.specs.Laws.{AreSameAt, KeepsNoMore}
use Rattle.cleaner.specs.Passes.{images_in, survivor_ids, rest_of, is_at_end, is_ready as is_ready_pass, IsPass}
use Rattle.cleaner.specs.Seals.{first_lacking}
use Rattle.cleaner.proofs.Ends.{rest_same}
use Rattle.cleaner.proofs.RoomLaws.{rooms_stay}
use Rattle.log_memory.specs.log_laws.Intact.{BeginAsSurvivor}
use Rattle.entry.specs.declared.entry.Entry.{Entry}
use Rattle.entry.specs.declared.key.Key.{Key}
use Rattle.entry.specs.Bag.{IsAmong}
use Rattle.entry.specs.Text.{text_of}
use Rattle.entry.proofs.ListLemmas.{all_among}
use Rattle.places.specs.declared.place.Place.{Place}
use Rattle.images.specs.Image.{Image}
use Rattle.images.specs.Sorted.{replicas_of}
use Rattle.log_head.specs.declared.head.Roll.{Roll}
use Rattle.log_head.specs.Log.{head_of}
use Rattle.log_head.specs.log_laws.Heads.{Start, ids_of}
use Rattle.log_head.specs.log_laws.Ids.{has}
use Rattle.master_state.specs.declared.config.Config.{Config}
use Rattle.master_state.specs.Budget.{whole_seglets, free_seglets, newest_digest, most_segments}
use Rattle.master_state.specs.Data.{MasterData}
use Rattle.master_state.specs.Invariant.{AreVictims, IsSurvivor, IsSpare, IsOpenPass, IsCore}
use Rattle.master_state.specs.Log.{log_set_ids, find}

-- ---- what a step leaves

-- What a step leaves of an open pass, and of what it needs for its copies.
pub record Stays (d e : MasterData) (p : OpenPass) : Type 0 where
  pub config : e.config ≡ d.config
  pub start : (head_of e.head).start ≡ (head_of d.head).start
  pub roll : (s : ℕ) → IsAmong s (survivor_ids p.survivors) → IfSome e.head.roll (λ (r : Roll). (r.id == s) ≡ false)
  pub next : d.next ≤ e.next
  pub victims : AreSameAt (images_in d.closed) (images_in e.closed) p.victims
  pub survivors : AreSameAt (images_in d.closed) (images_in e.closed) (survivor_ids p.survivors)
  -- no more is kept of what is still to be copied
  pub keeps : KeepsNoMore (log_set_ids d) (log_set_ids e) d.index e.index (images_in d.closed)
      (rest_of (images_in d.closed) p)

module _ (d e : MasterData) (p : OpenPass) (g : Stays d e p) (is : IsOpenPass d p) where
  pub victims_then : AreVictims e p.victims
  victims_then = record {
    some = is.victims.some;
    few = is.victims.few;
    apart = is.victims.apart;
    older = subst (λ (n : Start). AllByRecursion (λ (s : ℕ). has n.others s ≡ true) p.victims)
        (sym g.start) is.victims.older;
  }

  pub rest_then : rest_of (images_in e.closed) p ≡ rest_of (images_in d.closed) p
  rest_then = rest_same (images_in d.closed) (images_in e.closed) p g.victims

  pub survivor_then : (s : ℕ) → IsAmong s (survivor_ids p.survivors) → IsSurvivor e s
  survivor_then s m =
      let was = is.survivors.each s m in record {
        outside = subst (λ (n : Start). has (ids_of n) s ≡ false) (sym g.start) was.outside;
        not_new = g.roll s m;
        used = (let used = was.used in let next = g.next in omega arith);
        begins = subst (λ (x : Config × List Entry). BeginAsSurvivor x.0.master s x.1)
            (λ i. (sym g.config i, sym (g.survivors s m) i)) was.begins;
        within = subst (λ (x : Config × List Entry). length (text_of x.1) ≤ x.0.segment)
            (λ i. (sym g.config i, sym (g.survivors s m) i)) was.within;
      }

  pub rooms_then : HasRoomsIn e.config.segment (log_set_ids e) p e.closed e.index
  rooms_then =
      subst (λ (c : Config). HasRoomsIn c.segment (log_set_ids e) p e.closed e.index) (sym g.config)
      (rooms_stay d.config.segment (log_set_ids d) (log_set_ids e) p d.closed e.closed d.index e.index
      g.victims g.survivors g.keeps is.rooms)

-- What a step leaves of an open pass that goes on.
pub record GoesOn (d e : MasterData) (p : OpenPass) : Type 0 where
  pub config : e.config ≡ d.config
  pub start : (head_of e.head).start ≡ (head_of d.head).start
  pub roll : (s : ℕ) → IsAmong s (survivor_ids p.survivors) → IfSome e.head.roll (λ (r : Roll). (r.id == s) ≡ false)
  pub next : d.next ≤ e.next
  pub pass : IsPass e.index.seed e.closed p
  pub victims : AreSameAt (images_in d.closed) (images_in e.closed) p.victims
  pub survivors : AreSameAt (images_in d.closed) (images_in e.closed) (survivor_ids p.survivors)
  -- no more is kept of what is still to be copied
  pub keeps : KeepsNoMore (log_set_ids d) (log_set_ids e) d.index e.index (images_in d.closed)
      (rest_of (images_in d.closed) p)
  -- what the index finds in a victim it found there before
  pub live : (k : Key) (q : Place) → find e k ≡ Some q → IsAmong q.segment p.victims → find d k ≡ Some q
  pub replicas : (s : ℕ) → IsAmong s (survivor_ids p.survivors) → replicas_of e.closed s ≡ replicas_of d.closed s
  pub failed : e.failed ≡ [] → d.failed ≡ []
  pub free : p.is_committing ≡ false → free_seglets d ≤ free_seglets e
  pub listed : p.is_committing ≡ false → length (newest_digest e.head) ≤ length (newest_digest d.head)
  pub rolls : p.is_committing ≡ true → IsSome d.head.roll → IsSome e.head.roll

-- who has as many replicas as before lacks as many
pub lacking_same : (n : ℕ) (images again : List Image) (ids : List ℕ)
    → ((s : ℕ) → IsAmong s ids → replicas_of again s ≡ replicas_of images s)
    → first_lacking n again ids ≡ first_lacking n images ids
lacking_same n images again [] same = refl
lacking_same n images again (s ∷ ids) same =
    λ i. if nat_lt (same s (inl refl) i) n then Some (s, same s (inl refl) i)
    else lacking_same n images again ids (λ z m. same z (inr m)) i

pub ready_same : (c g : Config) (images again : List Image) (p : OpenPass) → g ≡ c
    → ((s : ℕ) → IsAmong s (survivor_ids p.survivors) → replicas_of again s ≡ replicas_of images s)
    → is_ready_pass g.replicas again p ≡ is_ready_pass c.replicas images p
ready_same c g images again p config same =
    ap (λ (x : Config). is_ready_pass x.replicas again p) config
    ∙ ap (λ (o : Option (ℕ × ℕ)). is_at_end p && is_none o)
    (lacking_same c.replicas images again (survivor_ids p.survivors) same)

module _ (d e : MasterData) (p : OpenPass) (g : GoesOn d e p) (is : IsOpenPass d p) where
  stays : Stays d e p
  stays = record {
    config = g.config;
    start = g.start;
    roll = g.roll;
    next = g.next;
    victims = g.victims;
    survivors = g.survivors;
    keeps = g.keeps;
  }

  spare_then : e.failed ≡ [] → p.is_committing ≡ false → IsSpare e (length p.victims) p.survivors.count
  spare_then none early =
      let spare = is.spare (g.failed none) early in
      let more = g.free early in
      let free = spare.free in
      let fewer = g.listed early in
      let listed = spare.listed in
      let whole = ap whole_seglets g.config in
      let most = ap most_segments g.config in
      record { free = omega arith; listed = omega arith }

  -- the pass goes on
  pub goes_on : IsOpenPass e p
  goes_on = record {
    pass = g.pass;
    victims = victims_then d e p stays is;
    survivors = record { some = is.survivors.some; few = is.survivors.few; each = survivor_then d e p stays is };
    rooms = rooms_then d e p stays is;
    sealed = λ s m. subst (λ (x : ℕ × Config). x.0 ≤ x.1.replicas) (λ i. (sym (g.replicas s m) i, sym g.config i))
        (is.sealed s m);
    live = λ k q finds victim. subst (λ (places : List Place). IsAmong q places) (sym (rest_then d e p stays is))
        (is.live k q (g.live k q finds victim) victim);
    unsealed = λ early s m. g.replicas s m ∙ is.unsealed early s m;
    spare = spare_then;
    commits = λ commits.
        let was = is.commits commits in (
          g.rolls commits was.0,
          ready_same d.config e.config d.closed e.closed p g.config g.replicas ∙ was.1,
        );
  }

-- ---- ids of victims and survivors

pub has_among : (ids : List ℕ) (s : ℕ) → has ids s ≡ true → IsAmong s ids
has_among [] s is = absurd (cc)
has_among (z ∷ ids) s is = go (z == s) refl (has_among ids s) is where
  go : (t : Bool) → (z == s) ≡ t → (has ids s ≡ true → IsAmong s ids) → (t || has ids s) ≡ true → IsAmong s (z ∷ ids)
  go true here later is = inl (eqb-true z s here)
  go false other later is = inr (later is)

-- a victim is older than the head
pub victim_below : (d : MasterData) → IsCore d → (p : OpenPass) → IsOpenPass d p → (s : ℕ)
    → IsAmong s p.victims → s < d.head.id
victim_below d core p is s victim =
    let older = has_among (head_of d.head).start.others s
    (all_among (λ (z : ℕ). has (head_of d.head).start.others z ≡ true) p.victims s is.victims.older victim) in
    subst (λ (id : ℕ). s < id) core.image.id (all_among (λ (z : ℕ). z < (head_of d.head).start.id)
    (head_of d.head).start.others s core.below older)
