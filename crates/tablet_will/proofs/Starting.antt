-- Where partitions begin: in order, and in tablets.
use Rattle.std.proofs.Common.{◌≡◌, ℕ, ◌+◌, ◌<◌, ◌≤◌, true, List, [], ◌∷◌, length}
use Rattle.std.proofs.Common.{refl, sym, ap, subst, arith, inl, inr}
use Rattle.std.specs.Prelude.{◌&&◌, nat_lt}
use Rattle.std.specs.List.{list_all}
use Rattle.std.proofs.lemmas.Bool.{cases_Bool, and_parts, or_left, ltb-true}
use Rattle.entry.specs.declared.tablet.Tablet.{Tablet}
use Rattle.entry.specs.declared.tablet.Size.{Size}
use Rattle.entry.specs.Tablet.{are_in_order as tablets_in_order, are_tablets, is_tablet, is_before}
use Rattle.tablet_will.specs.declared.group.Group.{Group}
use Rattle.tablet_will.specs.declared.group.Start.{Start}
use Rattle.tablet_will.specs.declared.group.Load.{Load}
use Rattle.tablet_will.specs.Order.{is_below, is_up_to}
use Rattle.tablet_will.specs.Parts.{is_in_tablet, is_in_one}
use Rattle.tablet_will.specs.Sizes.{are_in_order, are_sizes}
use Rattle.tablet_will.specs.Rule.{is_same_place, joined, groups, begins_next, next_load}
use Rattle.tablet_will.specs.Rule.{with_group, starts_from, starts_of}
use Rattle.tablet_will.specs.Starts.{AreAbove}
use Rattle.tablet_will.proofs.Order as order
use Rattle.tablet_will.proofs.Cuts.{above_earlier}
use Rattle.tablet_will.proofs.Grouping.{alone}

-- ---- groups

abbrev pub AreGroupsAbove : ℕ → ℕ → List Group → Type 0
AreGroupsAbove a b [] = Unit {0}
AreGroupsAbove a b (g ∷ gs) = (is_below a b g.table g.place ≡ true) × AreGroupsAbove g.table g.place gs

groups_earlier : (a b c d : ℕ) (gs : List Group) → is_up_to a b c d ≡ true → AreGroupsAbove c d gs
    → AreGroupsAbove a b gs
groups_earlier a b c d [] e r = tt
groups_earlier a b c d (g ∷ gs) e r = (order.up_below a b c d g.table g.place e r.0, r.1)

-- the first group is at a place, and the others come after it in order
record GroupsFrom (t p : ℕ) (gs : List Group) : Type 0 where
  group : Group
  others : List Group
  are : gs ≡ group ∷ others
  table : group.table ≡ t
  place : group.place ≡ p
  above : AreGroupsAbove t p others

groups_rise : (s : Size) (ss : List Size) → are_in_order (s ∷ ss) ≡ true → GroupsFrom s.table s.place (groups (s ∷ ss))
groups_rise s [] o = record { group = alone s; others = []; are = refl; table = refl; place = refl; above = tt }
groups_rise s (r ∷ rs) o =
    let o_parts = and_parts (is_up_to s.table s.place r.table r.place) (are_in_order (r ∷ rs)) o in
    go o_parts.0 (groups_rise r rs o_parts.1)
  where
    go : is_up_to s.table s.place r.table r.place ≡ true → GroupsFrom r.table r.place (groups (r ∷ rs))
        → GroupsFrom s.table s.place (groups (s ∷ r ∷ rs))
    go up later =
        let g = later.group in
        let goal : List Group → Type 0 = λ gs. GroupsFrom s.table s.place (joined (alone s) gs) in
        subst goal (sym later.are)
        (elim (cases_Bool (is_same_place (alone s) g)) as
        (λ _. GroupsFrom s.table s.place (joined (alone s) (g ∷ later.others))) [
          | inl same ↦ record {
            group = record { table = s.table; place = s.place; bytes = s.bytes + g.bytes; objects = 1 + g.objects };
            others = later.others;
            are = rw same refl;
            table = refl;
            place = refl;
            above = groups_earlier s.table s.place r.table r.place later.others up later.above;
          }
          | inr apart ↦ record {
            group = alone s;
            others = g ∷ later.others;
            are = rw apart refl;
            table = refl;
            place = refl;
            above =
                let to_g : is_up_to s.table s.place g.table g.place ≡ true =
                subst (λ (t : ℕ). is_up_to s.table s.place t g.place ≡ true) (sym later.table)
                (subst (λ (p : ℕ). is_up_to s.table s.place r.table p ≡ true) (sym later.place) up) in
                let from_g : AreGroupsAbove g.table g.place later.others =
                subst (λ (t : ℕ). AreGroupsAbove t g.place later.others) (sym later.table)
                (subst (λ (p : ℕ). AreGroupsAbove r.table p later.others) (sym later.place) later.above) in
                (order.up_differs s.table s.place g.table g.place to_g apart, from_g);
          }
        ])

-- each group is in a tablet
abbrev pub AreGroupsIn : List Tablet → List Group → Type 0
AreGroupsIn ts [] = Unit {0}
AreGroupsIn ts (g ∷ gs) = (is_in_one ts g.table g.place ≡ true) × AreGroupsIn ts gs

joined_in : (ts : List Tablet) (g : Group) (gs : List Group) → is_in_one ts g.table g.place ≡ true → AreGroupsIn ts gs
    → AreGroupsIn ts (joined g gs)
joined_in ts g [] e all = (e, tt)
joined_in ts g (h ∷ hs) e all =
    elim (cases_Bool (is_same_place g h)) as (λ _. AreGroupsIn ts (joined g (h ∷ hs))) [
      | inl same ↦ rw same (e, all.1)
      | inr apart ↦ rw apart (e, all)
    ]

groups_in : (ts : List Tablet) (ss : List Size) → list_all (λ (s : Size). is_in_one ts s.table s.place) ss ≡ true
    → AreGroupsIn ts (groups ss)
groups_in ts [] all = tt
groups_in ts (s ∷ ss) all =
    let both = and_parts (is_in_one ts s.table s.place)
    (list_all (λ (x : Size). is_in_one ts x.table x.place) ss) all in
    joined_in ts (alone s) (groups ss) both.0 (groups_in ts ss both.1)

-- ---- starts

-- each start is in a tablet
abbrev pub AreStartsIn : List Tablet → List Start → Type 0
AreStartsIn ts [] = Unit {0}
AreStartsIn ts (s ∷ ss) = (is_in_one ts s.table s.place ≡ true) × AreStartsIn ts ss

module _ (mb mo : ℕ) where
  starts_above : (gs : List Group) (load : Load) (a b : ℕ) → AreGroupsAbove a b gs
      → AreAbove a b (starts_from mb mo load gs)
  starts_above [] load a b r = tt
  starts_above (g ∷ gs) load a b r =
      elim (cases_Bool (begins_next mb mo load g)) as (λ _. AreAbove a b (starts_from mb mo load (g ∷ gs))) [
        | inl next ↦ rw next (r.0, starts_above gs (next_load load g) g.table g.place r.1)
        | inr same ↦ rw same (above_earlier a b g.table g.place (starts_from mb mo (with_group load g) gs)
            (order.below_up a b g.table g.place r.0) (starts_above gs (with_group load g) g.table g.place r.1))
      ]

  starts_in : (ts : List Tablet) (gs : List Group) (load : Load) → AreGroupsIn ts gs
      → AreStartsIn ts (starts_from mb mo load gs)
  starts_in ts [] load all = tt
  starts_in ts (g ∷ gs) load all =
      elim (cases_Bool (begins_next mb mo load g)) as (λ _. AreStartsIn ts (starts_from mb mo load (g ∷ gs))) [
        | inl next ↦ rw next (all.0, starts_in ts gs (next_load load g) all.1)
        | inr same ↦ rw same (starts_in ts gs (with_group load g) all.1)
      ]

  -- a partition that begins has a number below the greatest
  next_below : (load : Load) (g : Group) → begins_next mb mo load g ≡ true → load.partition < 4294967294
  next_below load g e =
      ltb-true load.partition 4294967294 (and_parts _ _ (and_parts (nat_lt 0 load.objects) _ e).1).0

  starts_limit : (gs : List Group) (load : Load) → load.partition ≤ 4294967294
      → load.partition + length (starts_from mb mo load gs) ≤ 4294967294
  starts_limit [] load le = omega (arith, le)
  starts_limit (g ∷ gs) load le =
      elim (cases_Bool (begins_next mb mo load g)) as
      (λ _. load.partition + length (starts_from mb mo load (g ∷ gs)) ≤ 4294967294) [
        | inl next ↦
            let lt = next_below load g next in
            let rest = starts_limit gs (next_load load g) (omega (arith, lt)) in
            rw next (omega (arith, rest))
        | inr same ↦ let rest = starts_limit gs (with_group load g) le in rw same rest
      ]

-- The starts are in the tablets, in order, behind a place of the tablets.
pub record Started (ts : List Tablet) (ss : List Start) : Type 0 where
  pub table : ℕ
  pub place : ℕ
  pub inside : is_in_one ts table place ≡ true
  pub above : AreAbove table place ss
  pub each : AreStartsIn ts ss
  pub limit : length ss ≤ 4294967294

first_whole : (t : Tablet) (ts : List Tablet) → are_tablets (t ∷ ts) ≡ true → is_tablet t ≡ true
first_whole t [] o = o
first_whole t (u ∷ us) o = (and_parts (is_tablet t) (is_before t u && tablets_in_order (u ∷ us)) o).0

pub started : (ts : List Tablet) (sizes : List Size) (mb mo : ℕ) → are_tablets ts ≡ true → are_sizes ts sizes ≡ true
    → Started ts (starts_of mb mo sizes)
started [] sizes mb mo tablets fit = absurd (cc)
started (t ∷ ts) [] mb mo tablets fit = record {
  table = t.table;
  place = t.first;
  inside =
      or_left (is_in_tablet t t.table t.first) (is_in_one ts t.table t.first)
      (order.begin_within t.table t.first t.last (first_whole t ts tablets));
  above = tt;
  each = tt;
  limit = omega arith;
}
started (t ∷ ts) (s ∷ ss) mb mo tablets fit =
    let us = t ∷ ts in
    let both = and_parts (are_in_order (s ∷ ss)) (list_all (λ (x : Size). is_in_one us x.table x.place) (s ∷ ss)) fit in
    let own = and_parts (is_in_one us s.table s.place)
    (list_all (λ (x : Size). is_in_one us x.table x.place) ss) both.1 in
    let from = groups_rise s ss both.0 in
    let none : Load = record { partition = 0; bytes = 0; objects = 0 } in
    let some = with_group none from.group in
    let starts : starts_of mb mo (s ∷ ss) ≡ starts_from mb mo some from.others =
    ap (λ (gs : List Group). starts_from mb mo none gs) from.are in
    let all : AreGroupsIn us (from.group ∷ from.others) =
    subst (λ (gs : List Group). AreGroupsIn us gs) from.are (groups_in us (s ∷ ss) both.1) in
    subst (λ (xs : List Start). Started us xs) (sym starts) (record {
      table = s.table;
      place = s.place;
      inside = own.0;
      above = starts_above mb mo from.others some s.table s.place from.above;
      each = starts_in mb mo us from.others some all.1;
      limit = let most = starts_limit mb mo from.others some (omega arith) in omega (arith, most);
    })
