-- Lists of tallies by rising segment: what stands at a place, and what an edit makes of the list.
use Rattle.std.proofs.Common.{◌≡◌, ℕ, zero, suc, ◌+◌, ◌-◌, ◌<◌, ◌≤◌, ◌==◌, ◌⊎◌, inl, inr, Bool, true, false, List, []}
use Rattle.std.proofs.Common.{◌∷◌}
use Rattle.std.proofs.Common.{◌++◌, length, get_or, set, insert, remove, map, filter, cond, refl, sym, ap, subst, ◌∙◌}
use Rattle.std.proofs.Common.{arith}
use Rattle.std.specs.List.{AllByRecursion}
use Rattle.entry.specs.Bag.{IsAmong}
use Rattle.tally.specs.declared.tallies.Tally.{Tally}
use Rattle.tally.specs.Rows.{AreRising, HasNo}

-- ---- what holds of each

pub all_among : (P : Tally → Type 0) (rows : List Tally) (row : Tally) → AllByRecursion P rows → IsAmong row rows
    → P row
all_among P [] row all is = absurd is
all_among P (x ∷ xs) row all (inl same) = subst P same all.0
all_among P (x ∷ xs) row all (inr later) = all_among P xs row all.1 later

pub all_at : (P : Tally → Type 0) (rows : List Tally) (at : ℕ) (d : Tally) → AllByRecursion P rows → at < length rows
    → P (get_or rows at d)
all_at P [] at d all lt = absurd (omega arith)
all_at P (x ∷ xs) zero d all lt = all.0
all_at P (x ∷ xs) (suc at) d all lt = all_at P xs at d all.1 (omega arith)

pub among_at : (rows : List Tally) (at : ℕ) (d : Tally) → at < length rows → IsAmong (get_or rows at d) rows
among_at [] at d lt = absurd (omega arith)
among_at (x ∷ xs) zero d lt = inl refl
among_at (x ∷ xs) (suc at) d lt = inr (among_at xs at d (omega arith))

-- all are of higher segments
abbrev pub AreAbove : ℕ → List Tally → Type 0
AreAbove s rows = AllByRecursion (λ (row : Tally). s < row.segment) rows

pub lower : (m n : ℕ) (rows : List Tally) → m ≤ n → AreAbove n rows → AreAbove m rows
lower m n [] le all = tt
lower m n (x ∷ xs) le all = (let lt = all.0 in (omega arith, lower m n xs le all.1))

-- ---- the tally at a place

-- no other is of its segment
pub same_row : (rows : List Tally) (at : ℕ) (d row : Tally) → AreRising rows → at < length rows → IsAmong row rows
    → row.segment ≡ (get_or rows at d).segment → get_or rows at d ≡ row
same_row [] at d row rising lt is here = absurd is
same_row (x ∷ xs) zero d row rising lt (inl same) here = same
same_row (x ∷ xs) zero d row rising lt (inr later) here =
    let above : x.segment < row.segment = all_among (λ (y : Tally). x.segment < y.segment) xs row rising.0 later in
    absurd (omega (arith, above, here))
same_row (x ∷ xs) (suc at) d row rising lt (inl same) here =
    let above : x.segment < (get_or xs at d).segment =
    all_at (λ (y : Tally). x.segment < y.segment) xs at d rising.0 (omega arith) in
    let one : x.segment ≡ row.segment = ap (λ (y : Tally). y.segment) same in
    absurd (omega (arith, above, here, one))
same_row (x ∷ xs) (suc at) d row rising lt (inr later) here = same_row xs at d row rising.1 (omega arith) later here

-- ---- the tally at a place is another one

pub set_has : (rows : List Tally) (at : ℕ) (one : Tally) → at < length rows → IsAmong one (set rows at one)
set_has [] at one lt = absurd (omega arith)
set_has (x ∷ xs) zero one lt = inl refl
set_has (x ∷ xs) (suc at) one lt = inr (set_has xs at one (omega arith))

pub set_keeps : (rows : List Tally) (at : ℕ) (one d row : Tally) → IsAmong row rows
    → (row.segment ≡ (get_or rows at d).segment → ⊥) → IsAmong row (set rows at one)
set_keeps [] at one d row is other = is
set_keeps (x ∷ xs) zero one d row (inl same) other = absurd (other (sym (ap (λ (y : Tally). y.segment) same)))
set_keeps (x ∷ xs) zero one d row (inr later) other = inr later
set_keeps (x ∷ xs) (suc at) one d row (inl same) other = inl same
set_keeps (x ∷ xs) (suc at) one d row (inr later) other = inr (set_keeps xs at one d row later other)

pub set_members : (rows : List Tally) (at : ℕ) (one d row : Tally) → AreRising rows → at < length rows
    → IsAmong row (set rows at one)
    → (IsAmong row rows × (row.segment ≡ (get_or rows at d).segment → ⊥)) ⊎ (row ≡ one)
set_members [] at one d row rising lt is = absurd (omega arith)
set_members (x ∷ xs) zero one d row rising lt (inl same) = inr (sym same)
set_members (x ∷ xs) zero one d row rising lt (inr later) =
    let above : x.segment < row.segment = all_among (λ (y : Tally). x.segment < y.segment) xs row rising.0 later in
    inl (inr later, λ here. omega (arith, above, here))
set_members (x ∷ xs) (suc at) one d row rising lt (inl same) =
    let above : x.segment < (get_or xs at d).segment =
    all_at (λ (y : Tally). x.segment < y.segment) xs at d rising.0 (omega arith) in
    let own : x.segment ≡ row.segment = ap (λ (y : Tally). y.segment) same in
    inl (inl same, λ here. omega (arith, above, here, own))
set_members (x ∷ xs) (suc at) one d row rising lt (inr later) =
    go (set_members xs at one d row rising.1 (omega arith) later)
  where
    go : (IsAmong row xs × (row.segment ≡ (get_or xs at d).segment → ⊥)) ⊎ (row ≡ one)
        → (IsAmong row (x ∷ xs) × (row.segment ≡ (get_or xs at d).segment → ⊥)) ⊎ (row ≡ one)
    go (inl old) = inl (inr old.0, old.1)
    go (inr new) = inr new

all_set : (P : Tally → Type 0) (rows : List Tally) (at : ℕ) (one : Tally) → AllByRecursion P rows → P one
    → AllByRecursion P (set rows at one)
all_set P [] at one all new = tt
all_set P (x ∷ xs) zero one all new = (new, all.1)
all_set P (x ∷ xs) (suc at) one all new = (all.0, all_set P xs at one all.1 new)

pub set_rising : (rows : List Tally) (at : ℕ) (one d : Tally) → AreRising rows → at < length rows
    → one.segment ≡ (get_or rows at d).segment → AreRising (set rows at one)
set_rising [] at one d rising lt same = absurd (omega arith)
set_rising (x ∷ xs) zero one d rising lt same =
    (lower one.segment x.segment xs (omega (arith, same)) rising.0, rising.1)
set_rising (x ∷ xs) (suc at) one d rising lt same =
    let above : x.segment < (get_or xs at d).segment =
    all_at (λ (y : Tally). x.segment < y.segment) xs at d rising.0 (omega arith) in (
      all_set (λ (y : Tally). x.segment < y.segment) xs at one rising.0 (omega (arith, above, same)),
      set_rising xs at one d rising.1 (omega arith) same,
    )

-- ---- the tally at a place goes

pub remove_keeps : (rows : List Tally) (at : ℕ) (d row : Tally) → IsAmong row rows
    → (row.segment ≡ (get_or rows at d).segment → ⊥) → IsAmong row (remove rows at)
remove_keeps [] at d row is other = absurd is
remove_keeps (x ∷ xs) zero d row (inl same) other = absurd (other (sym (ap (λ (y : Tally). y.segment) same)))
remove_keeps (x ∷ xs) zero d row (inr later) other = later
remove_keeps (x ∷ xs) (suc at) d row (inl same) other = inl same
remove_keeps (x ∷ xs) (suc at) d row (inr later) other = inr (remove_keeps xs at d row later other)

pub remove_members : (rows : List Tally) (at : ℕ) (d row : Tally) → AreRising rows → at < length rows
    → IsAmong row (remove rows at) → IsAmong row rows × (row.segment ≡ (get_or rows at d).segment → ⊥)
remove_members [] at d row rising lt is = absurd (omega arith)
remove_members (x ∷ xs) zero d row rising lt later =
    let above : x.segment < row.segment = all_among (λ (y : Tally). x.segment < y.segment) xs row rising.0 later in
    (inr later, λ here. omega (arith, above, here))
remove_members (x ∷ xs) (suc at) d row rising lt (inl same) =
    let above : x.segment < (get_or xs at d).segment =
    all_at (λ (y : Tally). x.segment < y.segment) xs at d rising.0 (omega arith) in
    let own : x.segment ≡ row.segment = ap (λ (y : Tally). y.segment) same in
    (inl same, λ here. omega (arith, above, here, own))
remove_members (x ∷ xs) (suc at) d row rising lt (inr later) =
    let old = remove_members xs at d row rising.1 (omega arith) later in
    (inr old.0, old.1)

all_removed : (P : Tally → Type 0) (rows : List Tally) (at : ℕ) → AllByRecursion P rows
    → AllByRecursion P (remove rows at)
all_removed P [] zero all = tt
all_removed P [] (suc at) all = tt
all_removed P (x ∷ xs) zero all = all.1
all_removed P (x ∷ xs) (suc at) all = (all.0, all_removed P xs at all.1)

pub remove_rising : (rows : List Tally) (at : ℕ) → AreRising rows → AreRising (remove rows at)
remove_rising [] zero rising = tt
remove_rising [] (suc at) rising = tt
remove_rising (x ∷ xs) zero rising = rising.1
remove_rising (x ∷ xs) (suc at) rising =
    (all_removed (λ (y : Tally). x.segment < y.segment) xs at rising.0, remove_rising xs at rising.1)

-- ---- one more at a place

pub insert_keeps : (rows : List Tally) (at : ℕ) (one row : Tally) → IsAmong row rows → IsAmong row (insert rows at one)
insert_keeps [] at one row is = absurd is
insert_keeps (x ∷ xs) zero one row is = inr is
insert_keeps (x ∷ xs) (suc at) one row (inl same) = inl same
insert_keeps (x ∷ xs) (suc at) one row (inr later) = inr (insert_keeps xs at one row later)

pub insert_members : (rows : List Tally) (at : ℕ) (one row : Tally) → at ≤ length rows
    → IsAmong row (insert rows at one) → IsAmong row rows ⊎ (row ≡ one)
insert_members [] zero one row le (inl same) = inr (sym same)
insert_members [] zero one row le (inr later) = absurd later
insert_members [] (suc at) one row le is = absurd (omega arith)
insert_members (x ∷ xs) zero one row le (inl same) = inr (sym same)
insert_members (x ∷ xs) zero one row le (inr later) = inl later
insert_members (x ∷ xs) (suc at) one row le (inl same) = inl (inl same)
insert_members (x ∷ xs) (suc at) one row le (inr later) = go (insert_members xs at one row (omega arith) later)
  where
    go : IsAmong row xs ⊎ (row ≡ one) → IsAmong row (x ∷ xs) ⊎ (row ≡ one)
    go (inl old) = inl (inr old)
    go (inr new) = inr new

all_inserted : (P : Tally → Type 0) (rows : List Tally) (at : ℕ) (one : Tally) → at ≤ length rows
    → AllByRecursion P rows → P one → AllByRecursion P (insert rows at one)
all_inserted P [] zero one le all new = (new, tt)
all_inserted P [] (suc at) one le all new = absurd (omega arith)
all_inserted P (x ∷ xs) zero one le all new = (new, all)
all_inserted P (x ∷ xs) (suc at) one le all new = (all.0, all_inserted P xs at one (omega arith) all.1 new)

pub insert_rising : (rows : List Tally) (at : ℕ) (one : Tally) → at ≤ length rows → AreRising rows
    → ((k : ℕ) (d : Tally) → k < at → (get_or rows k d).segment ≤ one.segment)
    → ((k : ℕ) (d : Tally) → at ≤ k → k < length rows → one.segment < (get_or rows k d).segment)
    → HasNo one.segment rows → AreRising (insert rows at one)
insert_rising [] zero one le rising low high none = (tt, tt)
insert_rising [] (suc at) one le rising low high none = absurd (omega arith)
insert_rising (x ∷ xs) zero one le rising low high none =
    let lt : one.segment < x.segment = high zero x (omega arith) (omega arith) in
    ((lt, lower one.segment x.segment xs (omega (arith, lt)) rising.0), rising)
insert_rising (x ∷ xs) (suc at) one le rising low high none =
    let under : x.segment ≤ one.segment = low zero x (omega arith) in
    let other : x.segment ≡ one.segment → ⊥ = none x (inl refl) in
    let lt : x.segment < one.segment = omega (arith, under, other) in (
      all_inserted (λ (y : Tally). x.segment < y.segment) xs at one (omega arith) rising.0 lt,
      insert_rising xs at one (omega arith) rising.1
          (λ (k : ℕ) (d : Tally) (below : k < at). low (suc k) d (omega arith))
          (λ (k : ℕ) (d : Tally) (from : at ≤ k) (within : k < length xs). high (suc k) d (omega arith) (omega arith))
          (λ row is. none row (inr is)),
    )

-- ---- one more behind all

pub push_keeps : (rows : List Tally) (one row : Tally) → IsAmong row rows → IsAmong row (rows ++ one ∷ [])
push_keeps [] one row is = absurd is
push_keeps (x ∷ xs) one row (inl same) = inl same
push_keeps (x ∷ xs) one row (inr later) = inr (push_keeps xs one row later)

pub push_members : (rows : List Tally) (one row : Tally) → IsAmong row (rows ++ one ∷ [])
    → IsAmong row rows ⊎ (row ≡ one)
push_members [] one row (inl same) = inr (sym same)
push_members [] one row (inr later) = absurd later
push_members (x ∷ xs) one row (inl same) = inl (inl same)
push_members (x ∷ xs) one row (inr later) = go (push_members xs one row later)
  where
    go : IsAmong row xs ⊎ (row ≡ one) → IsAmong row (x ∷ xs) ⊎ (row ≡ one)
    go (inl old) = inl (inr old)
    go (inr new) = inr new

all_pushed : (P : Tally → Type 0) (rows : List Tally) (one : Tally) → AllByRecursion P rows → P one
    → AllByRecursion P (rows ++ one ∷ [])
all_pushed P [] one all new = (new, tt)
all_pushed P (x ∷ xs) one all new = (all.0, all_pushed P xs one all.1 new)

pub push_rising : (rows : List Tally) (one : Tally) → AreRising rows
    → AllByRecursion (λ (row : Tally). row.segment < one.segment) rows → AreRising (rows ++ one ∷ [])
push_rising [] one rising below = (tt, tt)
push_rising (x ∷ xs) one rising below = (
  all_pushed (λ (y : Tally). x.segment < y.segment) xs one rising.0 below.0,
  push_rising xs one rising.1 below.1,
)

-- the last is of the highest segment
pub last_above : (rows : List Tally) (last : ℕ) (d : Tally) (s : ℕ) → AreRising rows → last + 1 ≡ length rows
    → (get_or rows last d).segment < s → AllByRecursion (λ (row : Tally). row.segment < s) rows
last_above [] last d s rising is lt = tt
last_above (x ∷ []) zero d s rising is lt = (lt, tt)
last_above (x ∷ []) (suc last) d s rising is lt = absurd (omega (arith, is))
last_above (x ∷ y ∷ ys) zero d s rising is lt = absurd (omega (arith, is))
last_above (x ∷ y ∷ ys) (suc last) d s rising is lt =
    let rest = last_above (y ∷ ys) last d s rising.1 (omega (arith, is)) lt in
    let above : x.segment < y.segment = rising.0.0 in
    let first : y.segment < s = rest.0 in
    (omega (arith, above, first), rest)

-- a list that isn't empty has a last one
pub some_left : (rows : List Tally) → (length rows == 0) ≡ false → length rows - 1 + 1 ≡ length rows
some_left [] is = absurd (cc)
some_left (x ∷ xs) is = omega arith

-- ---- those that pass a test

pub filter_members : (test : Tally → Bool) (rows : List Tally) (row : Tally) → IsAmong row (filter test rows)
    → IsAmong row rows × (test row ≡ true)
filter_members test [] row is = absurd is
filter_members test (x ∷ xs) row is = go (test x) refl is (λ later. filter_members test xs row later)
  where
    go : (b : Bool) → test x ≡ b → IsAmong row (cond b (x ∷ filter test xs) (filter test xs))
        → (IsAmong row (filter test xs) → IsAmong row xs × (test row ≡ true))
        → IsAmong row (x ∷ xs) × (test row ≡ true)
    go true passes (inl same) rest = (inl same, ap test (sym same) ∙ passes)
    go true passes (inr later) rest = (let old = rest later in (inr old.0, old.1))
    go false fails later rest = (let old = rest later in (inr old.0, old.1))

pub filter_keeps : (test : Tally → Bool) (rows : List Tally) (row : Tally) → IsAmong row rows → test row ≡ true
    → IsAmong row (filter test rows)
filter_keeps test [] row is passes = is
filter_keeps test (x ∷ xs) row is passes = go (test x) refl is (λ later. filter_keeps test xs row later passes)
  where
    go : (b : Bool) → test x ≡ b → IsAmong row (x ∷ xs) → (IsAmong row xs → IsAmong row (filter test xs))
        → IsAmong row (cond b (x ∷ filter test xs) (filter test xs))
    go true is_true (inl same) rest = inl same
    go true is_true (inr later) rest = inr (rest later)
    go false fails (inl same) rest =
        absurd (let never : false ≡ true = sym fails ∙ ap test same ∙ passes in cc)
    go false fails (inr later) rest = rest later

all_filtered : (P : Tally → Type 0) (test : Tally → Bool) (rows : List Tally) → AllByRecursion P rows
    → AllByRecursion P (filter test rows)
all_filtered P test [] all = tt
all_filtered P test (x ∷ xs) all = go (test x) (all_filtered P test xs all.1)
  where
    go : (b : Bool) → AllByRecursion P (filter test xs)
        → AllByRecursion P (cond b (x ∷ filter test xs) (filter test xs))
    go true rest = (all.0, rest)
    go false rest = rest

pub filter_rising : (test : Tally → Bool) (rows : List Tally) → AreRising rows → AreRising (filter test rows)
filter_rising test [] rising = tt
filter_rising test (x ∷ xs) rising = go (test x) (filter_rising test xs rising.1)
  where
    go : (b : Bool) → AreRising (filter test xs) → AreRising (cond b (x ∷ filter test xs) (filter test xs))
    go true rest = (all_filtered (λ (y : Tally). x.segment < y.segment) test xs rising.0, rest)
    go false rest = rest

-- ---- each becomes another one of its segment

pub map_members : (f : Tally → Tally) (rows : List Tally) (row : Tally) → IsAmong row (map f rows)
    → (was : Tally) × IsAmong was rows × (row ≡ f was)
map_members f [] row is = absurd is
map_members f (x ∷ xs) row (inl same) = (x, inl refl, sym same)
map_members f (x ∷ xs) row (inr later) = (let old = map_members f xs row later in (old.0, inr old.1, old.2))

pub map_keeps : (f : Tally → Tally) (rows : List Tally) (row : Tally) → IsAmong row rows → IsAmong (f row) (map f rows)
map_keeps f [] row is = is
map_keeps f (x ∷ xs) row (inl same) = inl (ap f same)
map_keeps f (x ∷ xs) row (inr later) = inr (map_keeps f xs row later)

all_mapped : (s : ℕ) (f : Tally → Tally) (rows : List Tally) → ((row : Tally) → (f row).segment ≡ row.segment)
    → AreAbove s rows → AreAbove s (map f rows)
all_mapped s f [] stays all = tt
all_mapped s f (x ∷ xs) stays all =
    (let lt = all.0 in omega (arith, lt, stays x), all_mapped s f xs stays all.1)

pub map_rising : (f : Tally → Tally) (rows : List Tally) → ((row : Tally) → (f row).segment ≡ row.segment)
    → AreRising rows → AreRising (map f rows)
map_rising f [] stays rising = tt
map_rising f (x ∷ xs) stays rising = (
  lower (f x).segment x.segment (map f xs) (omega (arith, stays x)) (all_mapped x.segment f xs stays rising.0),
  map_rising f xs stays rising.1,
)
