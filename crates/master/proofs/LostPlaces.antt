-- A master's segments stay on their homes as a backup fails.
use Rattle.std.proofs.Common.{◌≡◌, inl, inr, ℕ, suc, ◌+◌, ◌<◌, ◌≤◌, Bool, true, false, List, [], ◌∷◌, length, map}
use Rattle.std.proofs.Common.{filter, get_or, refl, sym, ap, subst, ◌∙◌, arith}
use Rattle.std.specs.Prelude.{Option, Some, None, IfSome, not, nat_lt, ◌==◌, ◌||◌, slice_get, if◌then◌else◌}
use Rattle.std.specs.List.{remove}
use Rattle.std.specs.Option.{option_map_or}
use Rattle.std.proofs.lemmas.Bool.{lt-ltb, ltb-true, ltb-false, le-leb}
use Rattle.std.proofs.lemmas.List.Edits.{length-remove, get_or-remove_below, get_or-remove_above}
use Rattle.std.proofs.lemmas.Option.{slice_get_within, get_or_from_slice_get, slice_get-get_or}
use Rattle.entry.specs.Bag.{IsAmong}
use Rattle.entry.proofs.ListLemmas.{all_among}
use Rattle.images.specs.Image.{Image}
use Rattle.log_head.specs.declared.head.Roll.{Roll}
use Rattle.log_head.specs.Head.{IsRollValue}
use Rattle.log_head.specs.Steps.{counts_without}
use Rattle.log_head.specs.log_laws.Ids.{has, without}
use Rattle.master_core.specs.master_state.declared.config.Config.{Config}
use Rattle.master_core.specs.master_state.declared.failover.Failover.{Failover}
use Rattle.master_core.specs.master_state.declared.waiting.Waiting.{Waiting}
use Rattle.master_core.specs.master_state.Data.{MasterData}
use Rattle.master_core.specs.master_state.Invariant.{AreApart, IsCore}
use Rattle.master_core.specs.master_state.Ledger.{took_in, counts_in, shut_in}
use Rattle.master_core.specs.master_state.Log.{home, is_headless, is_opened, place_in, placed, working}
use Rattle.master_core.specs.master_state.Steps.{halted, less_by, lost_data, lost_image, lost_waiting, may_lose}
use Rattle.master_core.specs.master_state.Steps.{place_of, still_waits}
use Rattle.master_core.proofs.master_state.Homes.{without_more, working_many, homes_apart, placed_without, home_before}
use Rattle.master_core.proofs.master_state.Homes.{home_behind}
use Rattle.master_core.proofs.master_state.Homes.{place_in_at, place_in_none, place_in_some}
use Rattle.master_core.proofs.master_state.LostCore.{Loses, loses, lost_recount, lost_within, none_less}
use Rattle.master.specs.Placed.{closed_by, closed_now, IsPlaced}

-- ---- the homes that are left

module _ (c : Config) (failed : List ℕ) (s b : ℕ) where
  -- which of these replicas is lost is which of more of them, if it is one of these
  pub less_of_more : (m n : ℕ) → m ≤ n → n ≤ length (working c failed s)
      → less_by m (place_in c failed s m b) ≡ less_by m (place_in c failed s n b)
  less_of_more m n le few = go (place_in c failed s m b) refl (place_in c failed s n b) refl where
    go : (o : Option ℕ) → place_in c failed s m b ≡ o → (q : Option ℕ) → place_in c failed s n b ≡ q
        → less_by m (place_in c failed s m b) ≡ less_by m (place_in c failed s n b)
    go (Some j) is q more =
        let at = place_in_some c failed s m b j is in
        let lt = at.0 in
        let same : place_in c failed s n b ≡ Some j = place_in_at c failed s n b j few (omega arith) at.1 in
        ap (less_by m) (is ∙ sym same)
    go None is None more = ap (less_by m) (is ∙ sym more)
    go None is (Some j) more = by_test (nat_lt j m) refl where
      by_test : (t : Bool) → nat_lt j m ≡ t
          → less_by m (place_in c failed s m b) ≡ less_by m (place_in c failed s n b)
      by_test true lower =
          let at = place_in_some c failed s n b j more in
          absurd (place_in_none c failed s m b j is (ltb-true j m lower) at.1)
      by_test false higher = rw (is, more) (rw higher refl)

  -- who took it and hasn't failed are as many less
  pub holders_lost : (n : ℕ) (took : List ℕ) → n ≤ length (working c failed s)
      → without failed took ≡ placed c failed s n
      → without (b ∷ failed) took ≡ placed c (b ∷ failed) s (less_by n (place_in c failed s n b))
  holders_lost n took few at =
      without_more b failed took ∙ ap (without (b ∷ [])) at ∙ placed_without c failed s n b few

  -- each that is left took as many units as are counted for it
  module _ (ns : List ℕ) (counts : ℕ → ℕ) (few : length ns ≤ length (working c failed s))
      (are : (j k : ℕ) → slice_get ns j ≡ Some k → counts (home c failed s j) ≡ k) where
    pub counts_lost : (place : Option ℕ) → place_in c failed s (length ns) b ≡ place → (j k : ℕ)
        → slice_get (counts_without ns place) j ≡ Some k → counts (home c (b ∷ failed) s j) ≡ k
    counts_lost None is j k at =
        let lt = slice_get_within ns j k at in
        ap counts (home_before c failed s b j (omega arith)
        (λ i le same. place_in_none c failed s (length ns) b i is (omega arith) same)) ∙ are j k at
    counts_lost (Some p) is j k at = by_place (nat_lt j p) refl where
      found : (p < length ns) × (home c failed s p ≡ b)
      found = place_in_some c failed s (length ns) b p is

      within : j + 1 < length ns
      within =
          let size = length-remove ns p found.0 in
          let lt = slice_get_within (remove ns p) j k at in
          omega arith

      here : get_or (remove ns p) j 0 ≡ k
      here = get_or_from_slice_get (remove ns p) j k 0 at

      by_place : (t : Bool) → nat_lt j p ≡ t → counts (home c (b ∷ failed) s j) ≡ k
      by_place true lower =
          let lt = ltb-true j p lower in
          let few_all = within in
          let p_within = found.0 in
          let count : get_or ns j 0 ≡ k = sym (get_or-remove_below ns p 0 j lt found.0) ∙ here in
          ap counts (home_before c failed s b j (omega arith)
          (λ i le same. homes_apart c failed s i p (omega arith) (omega arith) (λ eq. omega arith)
          (same ∙ sym found.1)))
          ∙ are j k (slice_get-get_or ns j 0 (omega arith) ∙ ap Some count)
      by_place false higher =
          let ge = ltb-false j p higher in
          let few_all = within in
          let one : j + 1 ≡ suc j = omega arith in
          let count : get_or ns (suc j) 0 ≡ k =
          ap (λ (i : ℕ). get_or ns i 0) (sym one) ∙ sym (get_or-remove_above ns p 0 j ge found.0) ∙ here in
          ap counts (home_behind c failed s b p j found.1 ge (omega arith))
          ∙ are (suc j) k (slice_get-get_or ns (suc j) 0 (omega arith) ∙ ap Some count)

count_left : (ns : List ℕ) (place : Option ℕ) → IfSome place (λ (j : ℕ). j < length ns)
    → length (counts_without ns place) ≡ less_by (length ns) place
count_left ns None within = refl
count_left ns (Some j) within =
    let size = length-remove ns j within in
    let test : nat_lt j (length ns) ≡ true = lt-ltb j (length ns) within in
    rw test (omega arith)

-- ---- images

replicas_left : (c : Config) (failed : List ℕ) (b : ℕ) (x : Image)
    → less_by x.replicas (place_in c failed x.id x.replicas b) ≡ (lost_image c failed b x).replicas
replicas_left c failed b x = go (place_in c failed x.id x.replicas b) refl where
  go : (o : Option ℕ) → place_in c failed x.id x.replicas b ≡ o
      → less_by x.replicas (place_in c failed x.id x.replicas b) ≡ (lost_image c failed b x).replicas
  go None is = rw is refl
  go (Some j) is =
      let at = place_in_some c failed x.id x.replicas b j is in
      let test : nat_lt j x.replicas ≡ true = lt-ltb j x.replicas at.0 in
      rw is (rw test refl)

each_mapped : (P Q : Image → Type 0) (f : Image → Image) (xs : List Image) → ((x : Image) → P x → Q (f x))
    → ((x : Image) → IsAmong x xs → P x) → (y : Image) → IsAmong y (map f xs) → Q y
each_mapped P Q f [] to each y among = absurd among
each_mapped P Q f (x ∷ xs) to each y (inl same) = subst Q same (to x (each x (inl refl)))
each_mapped P Q f (x ∷ xs) to each y (inr later) = each_mapped P Q f xs to (λ z m. each z (inr m)) y later

-- ---- all of them

module _ (d : MasterData) (b : ℕ) (core : IsCore d) (p : IsPlaced d) (may : Loses d) where
  abbrev c : Config
  c = d.config

  -- there are as many homes as replicas
  enough : (s n : ℕ) → n ≤ c.replicas → n ≤ length (working c d.failed s)
  enough s n few =
      let left = may.left in
      let many = working_many c d.failed s c.replicas (omega arith) in
      omega arith

  taken_few : length d.head.taken ≤ length (working c d.failed d.head.id)
  taken_few = enough d.head.id (length d.head.taken)
      (let few = core.head.opened in let same = core.replicas in omega arith)

  closed_few : (o : Option Roll) → IfSome o (IsRollValue d.head.replicas (length d.head.taken))
      → option_map_or (λ (r : Roll). r.closed) o 0 ≤ length d.head.taken
  closed_few None is = omega arith
  closed_few (Some r) is = let lt = is.closed in let all = is.whole in omega arith

  abbrev closed_before : ℕ
  closed_before = option_map_or (λ (r : Roll). r.closed) d.head.roll 0

  shut_before : without d.failed (shut_in d.ledger) ≡ placed c d.failed d.head.id closed_before
  shut_before =
      p.shut ∙ ap (λ (o : Option Failover). placed c d.failed d.head.id
      (option_map_or (λ (r : Roll). r.closed) d.head.roll (closed_by o))) may.calm

  -- the first head isn't rolled from
  none_closed : (o : Option Roll) → IfSome o (IsRollValue d.head.replicas (length d.head.taken))
      → is_opened d.head ≡ false → option_map_or (λ (r : Roll). r.closed) o 0 ≡ 0
  none_closed None is few = refl
  none_closed (Some r) is few = absurd (
      let whole = is.whole in
      let all = le-leb d.head.replicas (length d.head.taken) (omega arith) in
      let never : true ≡ false = sym all ∙ few in cc)

  less_closed : less_by closed_before (place_of d b) ≡ closed_now (lost_data d b)
  less_closed = go (is_opened d.head) refl where
    go : (t : Bool) → is_opened d.head ≡ t
        → less_by closed_before (place_of d b) ≡ (if not t then 0 else less_by closed_before (place_of d b))
    go true is = refl
    go false is = ap (λ (n : ℕ). less_by n (place_of d b)) (none_closed d.head.roll core.head.roll is)
        ∙ none_less (place_of d b)

  shut_then : without (b ∷ d.failed) (shut_in d.ledger)
      ≡ placed c (b ∷ d.failed) d.head.id (closed_now (lost_data d b))
  shut_then =
      let few = closed_few d.head.roll core.head.roll in
      let all = taken_few in
      holders_lost c d.failed d.head.id b closed_before (shut_in d.ledger) (omega arith) shut_before
      ∙ ap (placed c (b ∷ d.failed) d.head.id)
      (less_of_more c d.failed d.head.id b closed_before (length d.head.taken) few all ∙ less_closed)

  closed_then : (image : Image) → IsAmong image (lost_data d b).closed
      → without (b ∷ d.failed) (took_in d.ledger image.id) ≡ placed c (b ∷ d.failed) image.id image.replicas
  closed_then = each_mapped
      (λ (x : Image). (without d.failed (took_in d.ledger x.id) ≡ placed c d.failed x.id x.replicas)
      × (x.replicas ≤ c.replicas))
      (λ (x : Image). without (b ∷ d.failed) (took_in d.ledger x.id) ≡ placed c (b ∷ d.failed) x.id x.replicas)
      (lost_image c d.failed b) d.closed one
      (λ x m. (p.closed x m, all_among (λ (y : Image). y.replicas ≤ c.replicas) d.closed x core.replicas_few m))
    where
      one : (x : Image) → (without d.failed (took_in d.ledger x.id) ≡ placed c d.failed x.id x.replicas)
          × (x.replicas ≤ c.replicas)
          → without (b ∷ d.failed) (took_in d.ledger (lost_image c d.failed b x).id)
          ≡ placed c (b ∷ d.failed) (lost_image c d.failed b x).id (lost_image c d.failed b x).replicas
      one x was =
          let id : (lost_image c d.failed b x).id ≡ x.id = (lost_recount c d.failed b).id x in
          ap (λ (s : ℕ). without (b ∷ d.failed) (took_in d.ledger s)) id
          ∙ holders_lost c d.failed x.id b x.replicas (took_in d.ledger x.id) (enough x.id x.replicas was.1) was.0
          ∙ (λ i. placed c (b ∷ d.failed) (sym id i) (replicas_left c d.failed b x i))

  placed_then : IsPlaced (lost_data d b)
  placed_then = record {
    none = λ none. p.none (headless none);
    head = holders_lost c d.failed d.head.id b (length d.head.taken) (took_in d.ledger d.head.id) taken_few p.head
        ∙ ap (placed c (b ∷ d.failed) d.head.id) (sym (count_left d.head.taken (place_of d b) (lost_within d b)));
    counts = counts_lost c d.failed d.head.id b d.head.taken (counts_in d.ledger) taken_few p.counts (place_of d b)
        refl;
    unopened = λ none. p.unopened (headless none);
    whole = λ is. absurd (cc);
    new = tt;
    shut = shut_then;
    closed = closed_then;
  } where
    headless : is_headless (lost_data d b) ≡ true → is_headless d ≡ true
    headless none = rw may.calm none

pub placed_lost : (d : MasterData) (b : ℕ) → IsCore d → IsPlaced d → may_lose d ≡ true → IsPlaced (lost_data d b)
placed_lost d b core p may = placed_then d b core p (loses d may)

-- ---- what waits

has_filtered : (c : Config) (failed : List ℕ) (b : ℕ) (ws : List Waiting) (s : ℕ)
    → has (map (λ (w : Waiting). w.segment) ws) s ≡ false
    → has (map (λ (w : Waiting). w.segment) (filter still_waits (map (lost_waiting c failed b) ws))) s ≡ false
has_filtered c failed b [] s none = refl
has_filtered c failed b (w ∷ ws) s none =
    go (w.segment == s) refl none (has_filtered c failed b ws s) (still_waits (lost_waiting c failed b w)) refl
  where
    go : (t : Bool) → (w.segment == s) ≡ t → (t || has (map (λ (v : Waiting). v.segment) ws) s) ≡ false
        → (has (map (λ (v : Waiting). v.segment) ws) s ≡ false
        → has (map (λ (v : Waiting). v.segment) (filter still_waits (map (lost_waiting c failed b) ws))) s ≡ false)
        → (u : Bool) → still_waits (lost_waiting c failed b w) ≡ u
        → has (map (λ (v : Waiting). v.segment) (filter still_waits (map (lost_waiting c failed b) (w ∷ ws)))) s ≡ false
    go true here none later u is = absurd (cc)
    go false away none later true is = rw is (rw away (later none))
    go false away none later false is = rw is (later none)

-- no segment waits twice
pub apart_lost : (c : Config) (failed : List ℕ) (b : ℕ) (ws : List Waiting)
    → AreApart (map (λ (w : Waiting). w.segment) ws)
    → AreApart (map (λ (w : Waiting). w.segment) (filter still_waits (map (lost_waiting c failed b) ws)))
apart_lost c failed b [] apart = tt
apart_lost c failed b (w ∷ ws) apart =
    go (still_waits (lost_waiting c failed b w)) refl (apart_lost c failed b ws apart.1)
  where
    go : (t : Bool) → still_waits (lost_waiting c failed b w) ≡ t
        → AreApart (map (λ (v : Waiting). v.segment) (filter still_waits (map (lost_waiting c failed b) ws)))
        → AreApart (map (λ (v : Waiting). v.segment) (filter still_waits (map (lost_waiting c failed b) (w ∷ ws))))
    go true is later = rw is (has_filtered c failed b ws w.segment apart.0, later)
    go false is later = rw is later

-- ---- a fault that halts

pub placed_halted : (d : MasterData) → IsPlaced d → IsPlaced (halted d)
placed_halted d p = record {
  none = p.none;
  head = p.head;
  counts = p.counts;
  unopened = p.unopened;
  whole = p.whole;
  new = p.new;
  shut = p.shut;
  closed = p.closed;
}
