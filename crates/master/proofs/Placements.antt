-- A master's segments stay on their homes through steps that take no op.
use Rattle.std.proofs.Common.{◌≡◌, ℕ, zero, suc, ◌+◌, ◌<◌, ◌≤◌, Bool, true, false, List, [], ◌∷◌, ◌++◌, length}
use Rattle.std.proofs.Common.{◌⊎◌, inl, inr, refl, sym, ap, subst, ◌∙◌, arith}
use Rattle.std.specs.Prelude.{Option, Some, None, IfSome, slice_get, ◌==◌, nat_le, nat_lt, not, if◌then◌else◌}
use Rattle.std.specs.Option.{option_map_or}
use Rattle.std.proofs.lemmas.Bool.{eqb-true, eqb-false, ltb-true, ltb-false}
use Rattle.master_core.specs.cleaner.declared.pass.Cursor.{Cursor}
use Rattle.entry.specs.declared.entry.Entry.{Entry}
use Rattle.entry.specs.Bag.{IsAmong}
use Rattle.entry.proofs.BagLemmas.{among_either, among_image}
use Rattle.entry.proofs.ListLemmas.{all_among}
use Rattle.images.specs.Image.{Image}
use Rattle.images.specs.Sorted.{replicas_of, changed}
use Rattle.log_head.specs.declared.head.Roll.{Roll}
use Rattle.log_head.specs.declared.head.UnitEnd.{UnitEnd}
use Rattle.log_head.specs.Head.{HeadValue}
use Rattle.log_head.specs.Steps.{with_unit_end}
use Rattle.log_head.proofs.Rolls.{zeros_length}
use Rattle.master_core.specs.log_laws.Data.{Calm, is_failing}
use Rattle.log_head.specs.log_laws.Ids.{without}
use Rattle.log_head.specs.log_laws.HeadSteps.{no_units}
use Rattle.master_core.proofs.log_laws.KeptEntries.{has_is}
use Rattle.master_core.specs.master_state.declared.config.Config.{Config}
use Rattle.master_core.specs.master_state.declared.failover.Failover.{Failover}
use Rattle.master_core.specs.master_state.declared.ledger.Posting.{Posting}
use Rattle.master_core.specs.master_state.declared.ledger.Posting.TheVariants as posting
use Rattle.master_core.specs.master_state.Data.{MasterData}
use Rattle.master_core.specs.master_state.Images.{survivor_images}
use Rattle.master_core.specs.master_state.Invariant.{IsRollOf, IsCore}
use Rattle.master_core.specs.master_state.Ledger.{forgotten, took_in, counts_in, shut_in}
use Rattle.master_core.specs.master_state.Loading.{restored_data, settled_data}
use Rattle.master_core.specs.master_state.Log.{home, placed, is_headless, log_of}
use Rattle.master_core.specs.master_state.Steps.{appended, fresh_pass, rolling_data, start_now}
use Rattle.master_core.proofs.master_state.Imaging.{ids_in, same_id, other_id}
use Rattle.master_core.proofs.master_state.LogIds.{no_later}
use Rattle.master_core.proofs.master_state.Rising.{Rise}
use Rattle.master.specs.Placed.{closed_by, holders, is_opening, IsPlaced}
use Rattle.master.proofs.InForce.{fails}
use Rattle.std.specs.List.{AllByRecursion}

-- ---- closed segments by their ids

-- an id of theirs has an image
pub image_there : (cs : List Image) (s : ℕ) → IsAmong s (ids_in cs)
    → (x : Image) × IsAmong x cs × (x.id ≡ s) × (x.replicas ≡ replicas_of cs s)
image_there [] s among = absurd among
image_there (c ∷ cs) s among = go (c.id == s) refl among (image_there cs s) where
  go : (t : Bool) → (c.id == s) ≡ t → IsAmong s (ids_in (c ∷ cs))
      → (IsAmong s (ids_in cs) → (x : Image) × IsAmong x cs × (x.id ≡ s) × (x.replicas ≡ replicas_of cs s))
      → (x : Image) × IsAmong x (c ∷ cs) × (x.id ≡ s) × (x.replicas ≡ replicas_of (c ∷ cs) s)
  go true here m later = (c, inl refl, eqb-true c.id s here, rw here refl)
  go false away (inl same) later = absurd (eqb-false c.id s away same)
  go false away (inr m) later = (let x = later m in (x.0, inr x.1, x.2, rw away x.3))

-- each is the one of its id
pub replicas_own : (cs : List Image) → Rise (ids_in cs) → (x : Image) → IsAmong x cs
    → replicas_of cs x.id ≡ x.replicas
replicas_own [] rise x among = absurd among
replicas_own (c ∷ cs) rise x (inl same) =
    let own = same_id c.id in
    let here : replicas_of (c ∷ cs) c.id ≡ c.replicas = rw own refl in
    subst (λ (y : Image). replicas_of (c ∷ cs) y.id ≡ y.replicas) same here
replicas_own (c ∷ cs) rise x (inr later) =
    let lt = all_among (λ (z : ℕ). c.id < z) (ids_in cs) x.id rise.0 (among_image (λ (y : Image). y.id) cs x later) in
    let away = other_id c.id x.id (λ same. omega (arith, lt, same)) in
    rw away (replicas_own cs rise.1 x later)

-- an image of which one was changed was there before
pub changed_from : (cs : List Image) (id : ℕ) (f : Image → Image) (x : Image) → IsAmong x (changed cs id f)
    → (y : Image) × IsAmong y cs × (x ≡ (if y.id == id then f y else y))
changed_from [] id f x among = absurd among
changed_from (c ∷ cs) id f x (inl same) = (c, inl refl, sym same)
changed_from (c ∷ cs) id f x (inr later) = let y = changed_from cs id f x later in (y.0, inr y.1, y.2)

-- a closed segment, or a survivor, is on its first homes
pub homes_of : (d : MasterData) → IsPlaced d → (s : ℕ) → IsAmong s (ids_in d.closed)
    → holders d s ≡ placed d.config d.failed s (replicas_of d.closed s)
homes_of d p s among =
    let x = image_there d.closed s among in
    sym (ap (holders d) x.2) ∙ p.closed x.0 x.1 ∙ (λ i. placed d.config d.failed (x.2 i) (x.3 i))

-- ---- nothing that counts changes

-- each image of the one is one of the other, with as many replicas
abbrev pub AreSame : List Image → List Image → Type 0
AreSame cs ds = (x : Image) → IsAmong x ds → (y : Image) × IsAmong y cs × (y.id ≡ x.id) × (y.replicas ≡ x.replicas)

pub same_images : (cs : List Image) → AreSame cs cs
same_images cs x among = (x, among, refl, refl)

-- some image is changed
pub changed_same : (cs : List Image) (id : ℕ) (f : Image → Image) → ((x : Image) → (f x).id ≡ x.id)
    → ((x : Image) → (f x).replicas ≡ x.replicas) → AreSame cs (changed cs id f)
changed_same [] id f ids counts x among = absurd among
changed_same (c ∷ cs) id f ids counts x (inl same) =
    let is = own (c.id == id) same in (c, inl refl, is.0, is.1) where
      own : (t : Bool) → (if t then f c else c) ≡ x → (c.id ≡ x.id) × (c.replicas ≡ x.replicas)
      own true is = (sym (ids c) ∙ ap (λ (y : Image). y.id) is, sym (counts c) ∙ ap (λ (y : Image). y.replicas) is)
      own false is = (ap (λ (y : Image). y.id) is, ap (λ (y : Image). y.replicas) is)
changed_same (c ∷ cs) id f ids counts x (inr later) =
    let rest = changed_same cs id f ids counts x later in (rest.0, inr rest.1, rest.2, rest.3)

-- The ledger, and the segments that it speaks of.
pub record SameHomes (d e : MasterData) : Type 0 where
  pub config : e.config ≡ d.config
  pub failed : e.failed ≡ d.failed
  pub failover : e.failover ≡ d.failover
  pub ledger : e.ledger ≡ d.ledger
  pub id : e.head.id ≡ d.head.id
  pub replicas : e.head.replicas ≡ d.head.replicas
  pub taken : e.head.taken ≡ d.head.taken
  pub roll : e.head.roll ≡ d.head.roll
  pub units : is_opening d.failover ≡ true → e.head.units ≡ d.head.units
  pub closed : AreSame d.closed e.closed

abbrev pub IsNewPlaced : Config → List ℕ → List Posting → Roll → Type 0
IsNewPlaced c failed ps r = without failed (took_in ps r.id) ≡ placed c failed r.id r.opened

pub placed_same : (d e : MasterData) → SameHomes d e → IsPlaced d → IsPlaced e
placed_same d e same p = record {
  none = λ is. ap (λ (ps : List Posting). took_in ps 0) same.ledger ∙ p.none (sym headless ∙ is);
  head = (λ i. without (same.failed i) (took_in (same.ledger i) (same.id i))) ∙ p.head
      ∙ sym (λ i. placed (same.config i) (same.failed i) (same.id i) (length (same.taken i)));
  counts = λ j k at. (λ i. counts_in (same.ledger i) (home (same.config i) (same.failed i) (same.id i) j))
      ∙ p.counts j k (sym (λ i. slice_get (same.taken i) j) ∙ at);
  unopened = λ is b. ap (λ (ps : List Posting). counts_in ps b) same.ledger ∙ p.unopened (sym headless ∙ is) b;
  whole = λ is.
      let was = sym (ap is_opening same.failover) ∙ is in
      subst (λ (ns : List ℕ). AllByRecursion (λ (k : ℕ). length e.head.units ≤ k) ns) (sym same.taken)
      (subst (λ (n : ℕ). AllByRecursion (λ (k : ℕ). n ≤ k) d.head.taken)
      (sym (ap (λ (us : List UnitEnd). length us) (same.units was))) (p.whole was));
  new = new;
  shut = (λ i. without (same.failed i) (shut_in (same.ledger i))) ∙ p.shut
      ∙ sym (λ i. placed (same.config i) (same.failed i) (same.id i)
      (option_map_or (λ (r : Roll). r.closed) (same.roll i) (closed_by (same.failover i))));
  closed = λ x among.
      let y = same.closed x among in
      (λ i. without (same.failed i) (took_in (same.ledger i) (sym y.2 i))) ∙ p.closed y.0 y.1
      ∙ (λ i. placed (sym same.config i) (sym same.failed i) (y.2 i) (y.3 i));
} where
  headless : is_headless e ≡ is_headless d
  headless = λ i. option_map_or (λ (f : Failover). f.is_first) (same.failover i)
      (not (nat_le (same.replicas i) (length (same.taken i))))

  new : IfSome e.head.roll (IsNewPlaced e.config e.failed e.ledger)
  new =
      subst (λ (o : Option Roll). IfSome o (IsNewPlaced e.config e.failed e.ledger)) (sym same.roll)
      (subst (λ (ps : List Posting). IfSome d.head.roll (IsNewPlaced e.config e.failed ps)) (sym same.ledger)
      (subst (λ (bs : List ℕ). IfSome d.head.roll (IsNewPlaced e.config bs d.ledger)) (sym same.failed)
      (subst (λ (c : Config). IfSome d.head.roll (IsNewPlaced c d.failed d.ledger)) (sym same.config) p.new)))

-- ---- more at the head's end

-- Beside the head all stays that homes go by.
pub record SameBeside (d e : MasterData) : Type 0 where
  pub config : e.config ≡ d.config
  pub failed : e.failed ≡ d.failed
  pub failover : e.failover ≡ d.failover
  pub ledger : e.ledger ≡ d.ledger
  pub closed : e.closed ≡ d.closed

-- so does what they go by in the head
placed_beside : (d e : MasterData) → IsPlaced d → SameBeside d e → e.head.id ≡ d.head.id
    → e.head.replicas ≡ d.head.replicas → e.head.taken ≡ d.head.taken → e.head.roll ≡ d.head.roll
    → (is_opening d.failover ≡ true → e.head.units ≡ d.head.units) → IsPlaced e
placed_beside d e p same id replicas taken roll units = placed_same d e (record {
  config = same.config;
  failed = same.failed;
  failover = same.failover;
  ledger = same.ledger;
  id = id;
  replicas = replicas;
  taken = taken;
  roll = roll;
  units = units;
  closed = subst (AreSame d.closed) (sym same.closed) (same_images d.closed);
}) p

pub placed_more : (d e : MasterData) → IsPlaced d → (number : ℕ) (unit : List Entry) → SameBeside d e
    → e.head ≡ with_unit_end d.head number unit → (is_opening d.failover ≡ true → ⊥) → IsPlaced e
placed_more d e p number unit same head never =
    placed_beside d e p same (ap (λ (h : HeadValue). h.id) head) (ap (λ (h : HeadValue). h.replicas) head)
    (ap (λ (h : HeadValue). h.taken) head) (ap (λ (h : HeadValue). h.roll) head) (λ is. absurd (never is))

-- nothing is appended while a failover is open
calm_opens : (d : MasterData) → (log_of d).mode ≡ Calm → is_opening d.failover ≡ true → ⊥
calm_opens d calm is = go d.failover refl where
  go : (o : Option Failover) → d.failover ≡ o → ⊥
  go None none = (let never : true ≡ false = sym is ∙ ap is_opening none in cc)
  go (Some f) some = (let never : true ≡ false = sym (fails d f some) ∙ ap is_failing calm in cc)

pub placed_appended : (d e : MasterData) → IsPlaced d → (number : ℕ) (unit : List Entry) → SameBeside d e
    → e.head ≡ appended d.head number unit → (unit ≡ []) ⊎ ((log_of d).mode ≡ Calm) → IsPlaced e
placed_appended d e p number (x ∷ unit) same head (inl none) = absurd (cc)
placed_appended d e p number (x ∷ unit) same head (inr calm) =
    placed_more d e p number (x ∷ unit) same head (calm_opens d calm)
placed_appended d e p number [] same head calm =
    placed_beside d e p same (ap (λ (h : HeadValue). h.id) head) (ap (λ (h : HeadValue). h.replicas) head)
    (ap (λ (h : HeadValue). h.taken) head) (ap (λ (h : HeadValue). h.roll) head)
    (λ is. ap (λ (h : HeadValue). h.units) head)

-- ---- a new master

pub placed_restored : (c : Config) (safe : ℕ) → IsPlaced (restored_data c safe)
placed_restored c safe = record {
  none = λ is. refl;
  head = refl;
  counts = λ j k at. absurd (cc);
  unopened = λ is b. refl;
  whole = λ is. absurd (cc);
  new = tt;
  shut = refl;
  closed = λ x among. absurd among;
}

-- ---- the end of loading

-- what was counted of the head counts no more
counts_none : (n j k : ℕ) → slice_get (no_units n) j ≡ Some k → 0 ≡ k
counts_none zero j k at = absurd (cc)
counts_none (suc n) zero k at = cc
counts_none (suc n) (suc j) k at = counts_none n j k at

all_above : (ns : List ℕ) → AllByRecursion (λ (k : ℕ). 0 ≤ k) ns
all_above [] = tt
all_above (n ∷ ns) = (omega arith, all_above ns)

pub placed_settled : (d : MasterData) → IsPlaced d → IsPlaced (settled_data d)
placed_settled d p =
    let size = zeros_length (length d.head.taken) in
    let headless : is_headless (settled_data d) ≡ is_headless d =
    ap (λ (n : ℕ). option_map_or (λ (f : Failover). f.is_first) d.failover (not (nat_le d.head.replicas n))) size in
    record {
      none = λ is. p.none (sym headless ∙ is);
      head = p.head ∙ sym (ap (placed d.config d.failed d.head.id) size);
      counts = λ j k at. counts_none (length d.head.taken) j k at;
      unopened = λ is b. refl;
      whole = λ is. all_above (no_units (length d.head.taken));
      new = p.new;
      shut = p.shut;
      closed = p.closed;
    }

-- ---- a roll begins

module _ (d : MasterData) (core : IsCore d) where
  -- each closed segment was used before
  pub closed_used : (x : Image) → IsAmong x d.closed → x.id < d.next
  closed_used x among = go (nat_lt x.id d.next) refl where
    go : (t : Bool) → nat_lt x.id d.next ≡ t → x.id < d.next
    go true is = ltb-true x.id d.next is
    go false is =
        let there = has_is (ids_in d.closed) x.id (among_image (λ (c : Image). c.id) d.closed x among) in
        let none = no_later d core x.id (ltb-false x.id d.next is) in
        absurd (cc)

  -- a segment that was used before isn't the one that begins
  pub not_begun : (s : ℕ) → s < d.next → took_in (posting.Began d.next ∷ d.ledger) s ≡ took_in d.ledger s
  not_begun s lt = let away = other_id s d.next (λ same. omega (arith, lt, same)) in rw away refl

  pub placed_rolling : IsPlaced d → d.head.roll ≡ None → d.failover ≡ None → (start_now d).id ≡ d.next
      → IsPlaced (rolling_data d)
  placed_rolling p none calm id =
      let real = core.real in
      let used = core.used in
      record {
        none = λ is. not_begun 0 (omega (arith, real, used)) ∙ p.none is;
        head = ap (without d.failed) (not_begun d.head.id core.used) ∙ p.head;
        counts = p.counts;
        unopened = p.unopened;
        whole = p.whole;
        new = ap (λ (s : ℕ). without d.failed (took_in (posting.Began d.next ∷ d.ledger) s)) id
            ∙ (let own = same_id d.next in rw own refl);
        shut = p.shut ∙ (λ i. placed d.config d.failed d.head.id
            (option_map_or (λ (r : Roll). r.closed) (none i) (closed_by (calm i))));
        closed = λ x among. ap (without d.failed) (not_begun x.id (closed_used x among)) ∙ p.closed x among;
      }

  -- ---- a pass begins

  pub forgotten_below : (first n : ℕ) (took : ℕ → List ℕ) (s : ℕ) → s < first → forgotten first n took s ≡ took s
  forgotten_below first zero took s lt = refl
  forgotten_below first (suc n) took s lt =
      let away = other_id s (first + n) (λ same. omega (arith, lt, same)) in
      let later = forgotten_below first n took s lt in
      rw away later

  within_or : (s top : ℕ) → (s ≡ top → ⊥) → s < suc top → s < top
  within_or s top other lt = by_test (nat_lt s top) refl where
    by_test : (t : Bool) → nat_lt s top ≡ t → s < top
    by_test true is = ltb-true s top is
    by_test false is = absurd (other (let ge = ltb-false s top is in omega (arith, ge, lt)))

  forgotten_in : (first n : ℕ) (took : ℕ → List ℕ) (s : ℕ) → first ≤ s → s < first + n → forgotten first n took s ≡ []
  forgotten_in first zero took s le lt = absurd (omega (arith, le, lt))
  forgotten_in first (suc n) took s le lt = go (s == (first + n)) refl (forgotten_in first n took s le) where
    go : (t : Bool) → (s == (first + n)) ≡ t → (s < first + n → forgotten first n took s ≡ [])
        → forgotten first (suc n) took s ≡ []
    go true here later = rw here refl
    go false away later =
        let below = within_or s (first + n) (eqb-false s (first + n) away) (omega (arith, lt)) in
        rw away (later below)

  -- a new survivor has one of the ids, and no replica
  new_survivor : (c : Config) (ids : List ℕ) (x : Image) → IsAmong x (survivor_images c ids)
      → IsAmong x.id ids × (0 ≡ x.replicas)
  new_survivor c [] x among = absurd among
  new_survivor c (z ∷ ids) x (inl same) =
      (inl (ap (λ (y : Image). y.id) same), ap (λ (y : Image). y.replicas) same)
  new_survivor c (z ∷ ids) x (inr later) = let rest = new_survivor c ids x later in (inr rest.0, rest.1)

  pub placed_begun : IsPlaced d → (victims ids : List ℕ) (count : ℕ) (cursor : Cursor)
      → ((s : ℕ) → IsAmong s ids → (d.next ≤ s) × (s < d.next + count))
      → IsPlaced (record d {
        closed = d.closed ++ survivor_images d.config ids;
        next = d.next + count;
        pass = Some (fresh_pass victims (record { first = d.next; count = count }) cursor);
        ledger = posting.Survivors d.next count ∷ d.ledger;
      })
  placed_begun p victims ids count cursor within =
      let real = core.real in
      let used = core.used in
      let took = took_in d.ledger in
      record {
        none = λ is. forgotten_below d.next count took 0 (omega (arith, real, used)) ∙ p.none is;
        head = ap (without d.failed) (forgotten_below d.next count took d.head.id core.used) ∙ p.head;
        counts = p.counts;
        unopened = p.unopened;
        whole = p.whole;
        new = new d.head.roll core.roll p.new;
        shut = p.shut;
        closed = λ x among. elim (among_either x d.closed (survivor_images d.config ids) among)
            as (λ _. without d.failed (forgotten d.next count (took_in d.ledger) x.id)
            ≡ placed d.config d.failed x.id x.replicas) [
              | inl older ↦ ap (without d.failed)
                  (forgotten_below d.next count (took_in d.ledger) x.id (closed_used x older)) ∙ p.closed x older
              | inr new ↦ (
                  let own = new_survivor d.config ids x new in
                  let at = within x.id own.0 in
                  ap (without d.failed) (forgotten_in d.next count (took_in d.ledger) x.id at.0 at.1)
                  ∙ ap (placed d.config d.failed x.id) own.1)
            ];
      }
    where
      new : (o : Option Roll) → IfSome o (IsRollOf d) → IfSome o (IsNewPlaced d.config d.failed d.ledger)
          → IfSome o (IsNewPlaced d.config d.failed (posting.Survivors d.next count ∷ d.ledger))
      new None is was = tt
      new (Some r) is was =
          ap (without d.failed) (forgotten_below d.next count (took_in d.ledger) r.id is.used) ∙ was
