-- A log into which objects are packed: what it says of the log before, and where a roll may begin.
use Rattle.std.proofs.Common.{◌≡◌, ℕ, ◌+◌, ◌-◌, ◌*◌, ◌≤◌, Bool, true, false, List, [], ◌∷◌, ◌++◌, refl, sym, ap}
use Rattle.std.proofs.Common.{◌∙◌, arith}
use Rattle.std.specs.Prelude.{nat_le, ◌&&◌, if◌then◌else◌}
use Rattle.std.specs.Int.{div_ceil}
use Rattle.std.proofs.lemmas.Bool.{and_parts, and_from, leb-true, le-leb}
use Rattle.packing.specs.declared.new_log.NewLog.{NewLog}
use Rattle.packing.specs.declared.sizes.Sizes.{Sizes}
use Rattle.packing.specs.Packing.{whole, most_ids, empty_log, rolled, longer, takes, with_object, packed, seglets_at}
use Rattle.packing.specs.Packing.{is_within, seglets_needed, can_load}

-- The rule of a roll while objects are loaded: the digest takes one more id and that of a commit, and two whole
-- segments are free once the head counts its length.
abbrev pub may_roll : Sizes → NewLog → Bool
may_roll s l = nat_le (l.closed + 2) (most_ids s) && nat_le (l.closed + 2) (most_ids s - 1)
    && nat_le (2 * whole s + div_ceil l.len s.seglet) (s.seglets - (whole s + l.used))

-- ---- the parts of the tests

within_parts : (s : Sizes) (l : NewLog) → is_within s l ≡ true
    → (l.closed + 2 ≤ most_ids s) × (seglets_at s l ≤ s.seglets)
within_parts s l is =
    let both = and_parts (nat_le (l.closed + 2) (most_ids s)) (nat_le (seglets_at s l) s.seglets) is in
    (leb-true _ _ both.0, leb-true _ _ both.1)

within_from : (s : Sizes) (l : NewLog) → l.closed + 2 ≤ most_ids s → seglets_at s l ≤ s.seglets → is_within s l ≡ true
within_from s l places memory = and_from _ _ (le-leb _ _ places) (le-leb _ _ memory)

may_from : (s : Sizes) (l : NewLog) → l.closed + 2 ≤ most_ids s → l.closed + 2 ≤ most_ids s - 1
    → 2 * whole s + div_ceil l.len s.seglet ≤ s.seglets - (whole s + l.used) → may_roll s l ≡ true
may_from s l a b c = and_from _ _ (and_from _ _ (le-leb _ _ a) (le-leb _ _ b)) (le-leb _ _ c)

rolls : (closed most whole used count seglets : ℕ) → closed + 1 + 2 ≤ most → 3 * whole + (used + count) ≤ seglets
    → (closed + 2 ≤ most) × (closed + 2 ≤ most - 1) × (2 * whole + count ≤ seglets - (whole + used))
rolls closed most whole used count seglets places memory = (omega arith, omega arith, omega arith)

-- where the log after a roll is within, the roll may begin
may_since : (s : Sizes) (l : NewLog) → is_within s (rolled s l) ≡ true → may_roll s l ≡ true
may_since s l is =
    let parts = within_parts s (rolled s l) is in
    let all = rolls l.closed (most_ids s) (whole s) l.used (div_ceil l.len s.seglet) s.seglets parts.0 parts.1 in
    may_from s l all.0 all.1 all.2

-- ---- more objects

packed_append : (s : Sizes) (l : NewLog) (ms ns : List ℕ) → packed s l (ms ++ ns) ≡ packed s (packed s l ms) ns
packed_append s l [] ns = refl
packed_append s l (m ∷ ms) ns = packed_append s (with_object s l m) ms ns

-- a log that is within was within before
one_before : (s : Sizes) (l : NewLog) (n : ℕ) → is_within s (with_object s l n) ≡ true → is_within s l ≡ true
one_before s l n is = go (takes s l n) is where
  go : (t : Bool) → is_within s (if t then longer l n else longer (rolled s l) n) ≡ true → is_within s l ≡ true
  go true h = h
  go false h =
      let parts = within_parts s (rolled s l) h in
      let places = parts.0 in
      within_from s l (omega arith) (less l.used (div_ceil l.len s.seglet) (whole s) s.seglets parts.1)
    where
      less : (used count whole seglets : ℕ) → 3 * whole + (used + count) ≤ seglets → 3 * whole + used ≤ seglets
      less used count whole seglets le = omega arith

within_before : (s : Sizes) (ns : List ℕ) (l : NewLog) → is_within s (packed s l ns) ≡ true → is_within s l ≡ true
within_before s [] l is = is
within_before s (n ∷ ns) l is = one_before s l n (within_before s ns (with_object s l n) is)

-- If objects can be loaded, then each of them finds room in the head, or a roll that may begin.
pub never_full : (s : Sizes) (before later : List ℕ) (n : ℕ) → can_load s (before ++ n ∷ later) ≡ true
    → takes s (packed s (empty_log s) before) n ≡ false → may_roll s (packed s (empty_log s) before) ≡ true
never_full s before later n can full = go (takes s l n) full within
  where
    l : NewLog
    l = packed s (empty_log s) before

    within : is_within s (with_object s l n) ≡ true
    within = within_before s later (with_object s l n)
        (ap (is_within s) (sym (packed_append s (empty_log s) before (n ∷ later))) ∙ can)

    go : (t : Bool) → t ≡ false → is_within s (if t then longer l n else longer (rolled s l) n) ≡ true
        → may_roll s l ≡ true
    go true is h = absurd (cc)
    go false is h = may_since s l h

-- no object makes the closed segments fewer
one_grows : (s : Sizes) (l : NewLog) (n : ℕ) → l.closed ≤ (with_object s l n).closed
one_grows s l n = go (takes s l n) where
  go : (t : Bool) → l.closed ≤ (if t then longer l n else longer (rolled s l) n).closed
  go true = omega arith
  go false = omega arith

pub closed_grows : (s : Sizes) (ns : List ℕ) (l : NewLog) → l.closed ≤ (packed s l ns).closed
closed_grows s [] l = omega arith
closed_grows s (n ∷ ns) l =
    let more = closed_grows s ns (with_object s l n) in
    let one = one_grows s l n in omega arith

-- ---- how many seglets are enough

-- the number of seglets plays no part in how objects are packed
packed_any : (s : Sizes) (m : ℕ) (l : NewLog) (ns : List ℕ) → packed (record s { seglets = m }) l ns ≡ packed s l ns
packed_any s m l [] = refl
packed_any s m l (n ∷ ns) = packed_any s m (with_object s l n) ns

-- objects of these lengths in a new log
abbrev pub loaded : Sizes → List ℕ → NewLog
loaded s ns = packed s (empty_log s) ns

module _ (s : Sizes) (m : ℕ) (ns : List ℕ) where
  can_is : can_load (record s { seglets = m }) ns ≡ is_within (record s { seglets = m }) (loaded s ns)
  can_is = ap (is_within (record s { seglets = m })) (packed_any s m (empty_log s) ns)

  pub loads_from : (loaded s ns).closed + 2 ≤ most_ids s → seglets_needed s ns ≤ m
      → can_load (record s { seglets = m }) ns ≡ true
  loads_from places memory = can_is ∙ within_from (record s { seglets = m }) (loaded s ns) places memory

  pub loads_since : can_load (record s { seglets = m }) ns ≡ true
      → ((loaded s ns).closed + 2 ≤ most_ids s) × (seglets_needed s ns ≤ m)
  loads_since can = within_parts (record s { seglets = m }) (loaded s ns) (sym can_is ∙ can)
