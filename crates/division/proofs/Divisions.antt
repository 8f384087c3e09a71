-- The groups of a segment, entry by entry.
use Rattle.std.proofs.Common.{◌≡◌, ℕ, zero, suc, ◌+◌, ◌<◌, Bool, true, false, cond, List, [], ◌∷◌, ◌++◌, map}
use Rattle.std.proofs.Common.{Some, None, refl, sym, ap, subst, ◌∙◌, inl, inr, append_assoc, arith, length, get_or, set}
use Rattle.std.specs.Prelude.{◌==◌, filter}
use Rattle.std.specs.List.{range_with_len}
use Rattle.std.proofs.lemmas.Bool.Decides.{Decides-eqb}
use Rattle.std.proofs.lemmas.List.{append-nil, length-map}
use Rattle.std.proofs.lemmas.List.FromFn.{length-range_with_len}
use Rattle.entry.specs.declared.entry.Entry.{Entry}
use Rattle.entry.specs.declared.entry.Entry.TheVariants as entry
use Rattle.entry.specs.Bag.{IsAmong}
use Rattle.entry.specs.Text.{is_data}
use Rattle.tablet_will.specs.declared.part.Part.{Part}
use Rattle.tablet_will.specs.Parts.{partitions_of}
use Rattle.division.specs.Groups.{Grouped}
use Rattle.division.specs.Division.{partition_in, is_number, goes_to, group_in, groups_of, with_entry, added}
use Rattle.division.specs.Division.{numbers_of}
use Rattle.division.specs.Division.{empty_group, IsCovered, AreCovered}

pub range_more : (a n : ℕ) → range_with_len a (n + 1) ≡ range_with_len a n ++ (a + n) ∷ []
range_more a zero = (let e : a + 0 ≡ a = omega arith in rw e refl)
range_more a (suc n) =
    let e : a + suc n ≡ (a + 1) + n = omega arith in
    let f : suc n + 1 ≡ suc (n + 1) = omega arith in
    rw (e, f) (ap (λ (ns : List ℕ). a ∷ ns) (range_more (a + 1) n))

front : {x a : ℕ} {xs ns : List ℕ} → x ∷ xs ≡ a ∷ ns → x ≡ a
front e = cc

same_tail : {x a : ℕ} {xs ns : List ℕ} → x ∷ xs ≡ a ∷ ns → xs ≡ ns
same_tail e = cc

apart : (m a : ℕ) → m < a → (m == a) ≡ false
apart m a lt = by_test (m == a) refl
  where
    by_test : (b : Bool) → (m == a) ≡ b → b ≡ false
    by_test true e = (let same : m ≡ a = (Decides-eqb m a).0 e in absurd (omega (arith, lt, same)))
    by_test false e = refl

above : (a m : ℕ) → (a + suc m == a) ≡ false
above a m = by_test (a + suc m == a) refl
  where
    by_test : (b : Bool) → (a + suc m == a) ≡ b → b ≡ false
    by_test true e = (let same : a + suc m ≡ a = (Decides-eqb (a + suc m) a).0 e in absurd (omega (arith, same)))
    by_test false e = refl

module _ (qs : List Part) (e : Entry) where
  -- an entry of no partition is added to no group
  pub added_none : (gs : List Grouped) → partition_in qs e ≡ None → added qs e gs ≡ gs
  added_none [] none = refl
  added_none (g ∷ gs) none =
      let no : goes_to qs g.partition e ≡ false = ap (is_number g.partition) none in
      rw no (ap (λ (hs : List Grouped). g ∷ hs) (added_none gs none))

  -- nor to a group of a later partition
  later : (gs : List Grouped) (a m : ℕ) → numbers_of gs ≡ range_with_len a (length gs) → m < a
      → partition_in qs e ≡ Some m → added qs e gs ≡ gs
  later [] a m numbered lt is = refl
  later (g ∷ gs) a m numbered lt is =
      let here : g.partition ≡ a = front numbered in
      let no : goes_to qs g.partition e ≡ false = rw (is, here) (apart m a lt) in
      rw no (ap (λ (hs : List Grouped). g ∷ hs) (later gs (a + 1) m (same_tail numbered) (omega (arith, lt)) is))

  -- it is added to the group of its partition
  pub added_at : (gs : List Grouped) (a m : ℕ) (g : Grouped) → numbers_of gs ≡ range_with_len a (length gs)
      → m < length gs → partition_in qs e ≡ Some (a + m)
      → set gs m (with_entry e (get_or gs m g)) ≡ added qs e gs
  added_at [] a m h numbered lt is = absurd (omega (arith, lt))
  added_at (g ∷ gs) a zero h numbered lt is =
      let here : g.partition ≡ a = front numbered in
      let same : a + 0 ≡ a = omega arith in
      let at : partition_in qs e ≡ Some a = is ∙ ap Some same in
      let yes : goes_to qs g.partition e ≡ true = rw (at, here) ((Decides-eqb a a).1 refl) in
      rw yes (ap (λ (hs : List Grouped). with_entry e g ∷ hs)
      (sym (later gs (a + 1) a (same_tail numbered) (omega arith) at)))
  added_at (g ∷ gs) a (suc m) h numbered lt is =
      let here : g.partition ≡ a = front numbered in
      let no : goes_to qs g.partition e ≡ false = rw (is, here) (above a m) in
      let next : a + suc m ≡ a + 1 + m = omega arith in
      rw no (ap (λ (hs : List Grouped). g ∷ hs)
      (added_at gs (a + 1) m h (same_tail numbered) (omega (arith, lt)) (is ∙ ap Some next)))

  pub numbers-added : (gs : List Grouped) → numbers_of (added qs e gs) ≡ numbers_of gs
  numbers-added [] = refl
  numbers-added (g ∷ gs) = by_test (goes_to qs g.partition e) (numbers-added gs)
    where
      by_test : (b : Bool) → numbers_of (added qs e gs) ≡ numbers_of gs
          → (cond b (with_entry e g) g).partition ∷ numbers_of (added qs e gs) ≡ g.partition ∷ numbers_of gs
      by_test true rest = ap (λ (ns : List ℕ). g.partition ∷ ns) rest
      by_test false rest = ap (λ (ns : List ℕ). g.partition ∷ ns) rest

-- ---- a whole segment

-- the groups with all these entries
abbrev pub all_added : List Part → List Entry → List Grouped → List Grouped
all_added qs [] gs = gs
all_added qs (e ∷ es) gs = all_added qs es (added qs e gs)

-- after some of the entries: those that are left, and the groups so far
pub record IsDividing (qs : List Part) (es : List Entry) (before : List Grouped) (left : List Entry)
    (now : List Grouped) : Type 0 where
  pub numbered : numbers_of now ≡ numbers_of before
  pub all : all_added qs left now ≡ all_added qs es before
  pub within : (e : Entry) → IsAmong e left → IsAmong e es
  pub covered : AreCovered qs left → AreCovered qs es

pub dividing_first : (qs : List Part) (es : List Entry) (gs : List Grouped) → IsDividing qs es gs es gs
dividing_first qs es gs = record { numbered = refl; all = refl; within = λ e m. m; covered = λ h. h }

pub dividing_more : (qs : List Part) (es left rest : List Entry) (e : Entry) (before now new : List Grouped)
    → IsDividing qs es before left now → left ≡ e ∷ rest → new ≡ added qs e now → IsCovered qs e
    → IsDividing qs es before rest new
dividing_more qs es left rest e before now new h first is covered =
    let all : all_added qs rest new ≡ all_added qs left now =
    ap (λ (gs : List Grouped). all_added qs rest gs) is ∙ ap (λ (fs : List Entry). all_added qs fs now) (sym first) in
    record {
      numbered = ap numbers_of is ∙ numbers-added qs e now ∙ h.numbered;
      all = all ∙ h.all;
      within = λ f m. h.within f (subst (λ (fs : List Entry). IsAmong f fs) (sym first) (inr m));
      covered = λ more. h.covered (subst (λ (fs : List Entry). AreCovered qs fs) (sym first)
          (λ f m. elim m as (λ _. IsCovered qs f) [
            | inl same ↦ subst (IsCovered qs) same covered
            | inr later ↦ more f later
          ]));
    }

-- a group with all of these that go to its partition
abbrev filled : List Part → List Entry → Grouped → Grouped
filled qs es g =
    record { segment = g.segment; partition = g.partition; entries = g.entries ++ filter (goes_to qs g.partition) es }

all-filled : (qs : List Part) (es : List Entry) (gs : List Grouped) → all_added qs es gs ≡ map (filled qs es) gs
all-filled qs [] gs = filled_none gs
  where
    filled_none : (gs : List Grouped) → gs ≡ map (filled qs []) gs
    filled_none [] = refl
    filled_none (g ∷ gs) =
        let same : g ≡ filled qs [] g =
        (λ i. record { segment = g.segment; partition = g.partition; entries = sym (append-nil g.entries) i }) in
        (λ i. same i ∷ filled_none gs i)
all-filled qs (e ∷ es) gs = all-filled qs es (added qs e gs) ∙ filled_more gs
  where
    one : (g : Grouped) (b : Bool) → goes_to qs g.partition e ≡ b
        → filled qs es (cond b (with_entry e g) g)
        ≡ record {
          segment = g.segment;
          partition = g.partition;
          entries = g.entries ++ cond b (e ∷ filter (goes_to qs g.partition) es)
              (filter (goes_to qs g.partition) es);
        }
    one g true is =
        ap (λ (fs : List Entry). record { segment = g.segment; partition = g.partition; entries = fs })
        (append_assoc g.entries (e ∷ []) (filter (goes_to qs g.partition) es))
    one g false is = refl

    filled_more : (gs : List Grouped) → map (filled qs es) (added qs e gs) ≡ map (filled qs (e ∷ es)) gs
    filled_more [] = refl
    filled_more (g ∷ gs) =
        let first = one g (goes_to qs g.partition e) refl in (λ i. first i ∷ filled_more gs i)

pub division_is : (qs : List Part) (segment : ℕ) (es : List Entry) (now : List Grouped)
    → IsDividing qs es (map (empty_group segment) (range_with_len 0 (partitions_of qs))) [] now
    → now ≡ groups_of qs segment es
division_is qs segment es now h =
    h.all ∙ all-filled qs es (map (empty_group segment) (range_with_len 0 (partitions_of qs)))
    ∙ from_empty (range_with_len 0 (partitions_of qs))
  where
    from_empty : (ns : List ℕ) → map (filled qs es) (map (empty_group segment) ns) ≡ map (group_in qs segment es) ns
    from_empty [] = refl
    from_empty (n ∷ ns) = ap (λ (gs : List Grouped). group_in qs segment es n ∷ gs) (from_empty ns)

-- ---- one turn of the pass

map-set : {X Y : Type 0} (f : X → Y) (xs : List X) (i : ℕ) (y : X) → map f (set xs i y) ≡ set (map f xs) i (f y)
map-set f [] i y = refl
map-set f (x ∷ xs) zero y = refl
map-set f (x ∷ xs) (suc i) y = ap (λ zs. f x ∷ zs) (map-set f xs i y)

map-at : {X Y : Type 0} (f : X → Y) (xs : List X) (i : ℕ) (d : X) → get_or (map f xs) i (f d) ≡ f (get_or xs i d)
map-at f [] i d = refl
map-at f (x ∷ xs) zero d = refl
map-at f (x ∷ xs) (suc i) d = map-at f xs i d

numbers-empty : (segment : ℕ) (ns : List ℕ) → numbers_of (map (empty_group segment) ns) ≡ ns
numbers-empty segment [] = refl
numbers-empty segment (n ∷ ns) = ap (λ (ms : List ℕ). n ∷ ms) (numbers-empty segment ns)

-- of things that stand for groups
module _ {X : Type 0} (group : X → Grouped) (qs : List Part) (segment count : ℕ) (es left : List Entry) (xs : List X)
    (h : IsDividing qs es (map (empty_group segment) (range_with_len 0 count)) left (map group xs)) where
  numbers : numbers_of (map group xs) ≡ range_with_len 0 count
  numbers = h.numbered ∙ numbers-empty segment (range_with_len 0 count)

  pub counted : length xs ≡ count
  counted =
      sym (length-map (map group xs) (λ (g : Grouped). g.partition) ∙ length-map xs group) ∙ ap length numbers
      ∙ length-range_with_len 0 count

  -- the entry was put behind those of its group
  pub entry_added : (e : Entry) (m : ℕ) (old new : X) → m < count → partition_in qs e ≡ Some m
      → old ≡ get_or xs m old → group new ≡ with_entry e (group old)
      → map group (set xs m new) ≡ added qs e (map group xs)
  entry_added e m old new lt at was is =
      let long : length (map group xs) ≡ count = length-map xs group ∙ counted in
      let here : group old ≡ get_or (map group xs) m (group old) = ap group was ∙ sym (map-at group xs m old) in
      map-set group xs m new
      ∙ ap (λ (g : Grouped). set (map group xs) m g) (is ∙ ap (with_entry e) here)
      ∙ added_at qs e (map group xs) 0 m (group old)
      (numbers ∙ ap (λ n. range_with_len 0 n) (sym long)) (omega (arith, lt, long)) (at ∙ ap Some (omega arith))

-- what goes to a partition is an object or a tombstone
pub goes_data : (qs : List Part) (n : ℕ) (e : Entry) → goes_to qs n e ≡ true → is_data e ≡ true
goes_data qs n (entry.Header h) goes = goes
goes_data qs n (entry.Digest ids) goes = goes
goes_data qs n (entry.Safe version) goes = goes
goes_data qs n (entry.Object o) goes = refl
goes_data qs n (entry.Tombstone t) goes = refl
