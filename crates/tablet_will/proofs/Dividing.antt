-- What is true of the parts by the rule.
use Rattle.std.proofs.Common.{◌≡◌, ℕ, zero, suc, ◌+◌, ◌<◌, ◌≤◌, true, List, [], ◌∷◌, length}
use Rattle.std.proofs.Common.{sym, ap, ◌∙◌, arith, inl, inr}
use Rattle.std.specs.Prelude.{Some, IfSome, is_some}
use Rattle.std.proofs.lemmas.Bool.{cases_Bool}
use Rattle.entry.specs.declared.tablet.Tablet.{Tablet}
use Rattle.entry.specs.Tablet.{are_in_order, are_tablets}
use Rattle.tablet_will.specs.declared.group.Start.{Start}
use Rattle.tablet_will.specs.Order.{is_up_to}
use Rattle.tablet_will.specs.Parts.{is_in_one, partition_at, partitions_of, Divides}
use Rattle.tablet_will.specs.Starts.{AreAbove}
use Rattle.tablet_will.proofs.Order as order
use Rattle.tablet_will.proofs.Cuts.{above_rising}
use Rattle.tablet_will.proofs.Finding.{alone}
use Rattle.tablet_will.proofs.Covering.{count_up_to, count_none, count_limit, parts}
use Rattle.tablet_will.proofs.Covering.{parts_cover, parts_leave, parts_sorted}
use Rattle.tablet_will.proofs.Covering.{partitions_are, AllReach, one_reaches}
use Rattle.tablet_will.proofs.Starting.{AreStartsIn, Started}

in_order : (ts : List Tablet) → are_tablets ts ≡ true → are_in_order ts ≡ true
in_order [] o = absurd (cc)
in_order (t ∷ ts) o = o

all_reach : (ts : List Tablet) (ss : List Start) → are_in_order ts ≡ true → AreStartsIn ts ss → AllReach ss ts
all_reach ts [] o all = tt
all_reach ts (s ∷ ss) o all = (one_reaches s.table s.place ts o all.0, all_reach ts ss o all.1)

-- a place of the tablets up to which so many starts are
record Counted (ts : List Tablet) (ss : List Start) (a b n : ℕ) : Type 0 where
  table : ℕ
  place : ℕ
  inside : is_in_one ts table place ≡ true
  behind : is_up_to a b table place ≡ true
  count : count_up_to ss table place ≡ n

counted : (ts : List Tablet) (ss : List Start) (a b n : ℕ) → is_in_one ts a b ≡ true → AreAbove a b ss
    → AreStartsIn ts ss → n ≤ length ss → Counted ts ss a b n
counted ts ss a b zero e above all le =
    record {
      table = a;
      place = b;
      inside = e;
      behind = order.up_same a b;
      count =
          count_none ss a b a b above (order.up_same a b);
    }
counted ts [] a b (suc n) e above all le = absurd (omega (arith, le))
counted ts (s ∷ ss) a b (suc n) e above all le =
    let rest = counted ts ss s.table s.place n all.0 above.1 all.1 (omega (arith, le)) in
    let one : 1 + n ≡ suc n = omega arith in
    record {
      table = rest.table;
      place = rest.place;
      inside = rest.inside;
      behind = order.up_up a b s.table s.place rest.table rest.place
          (order.below_up a b s.table s.place above.0) rest.behind;
      count = rw rest.behind (ap (λ (m : ℕ). 1 + m) rest.count ∙ one);
    }

module _ (ts : List Tablet) (ss : List Start) (tablets : are_tablets ts ≡ true) (s : Started ts ss) where
  count : partitions_of (parts ss ts) ≡ length ss + 1
  count = partitions_are ss ts tablets (all_reach ts ss (in_order ts tablets) s.each)

  below : (a b : ℕ) → IfSome (partition_at (parts ss ts) a b) (λ n. n < partitions_of (parts ss ts))
  below a b =
      elim (cases_Bool (is_in_one ts a b)) as
      (λ _. IfSome (partition_at (parts ss ts) a b) (λ n. n < partitions_of (parts ss ts))) [
        | inl is ↦
            let most = count_limit ss a b in
            rw (parts_cover ss ts a b (above_rising s.table s.place ss s.above) is, count) (omega (arith, most))
        | inr not ↦ rw (parts_leave ss ts a b not) tt
      ]

  each : (n : ℕ) → n < partitions_of (parts ss ts)
      → (table place : ℕ) × (partition_at (parts ss ts) table place ≡ Some n)
  each n lt =
      let within : n ≤ length ss = omega (arith, lt, count) in
      let found = counted ts ss s.table s.place n s.inside s.above s.each within in (
        found.table,
        found.place,
        parts_cover ss ts found.table found.place (above_rising s.table s.place ss s.above) found.inside
            ∙ ap (λ (m : ℕ). Some m) found.count,
      )

  covered : (a b : ℕ) → is_some (partition_at (parts ss ts) a b) ≡ is_in_one ts a b
  covered a b =
      elim (cases_Bool (is_in_one ts a b)) as (λ _. is_some (partition_at (parts ss ts) a b) ≡ is_in_one ts a b) [
        | inl is ↦ rw (parts_cover ss ts a b (above_rising s.table s.place ss s.above) is) (sym is)
        | inr not ↦ rw (parts_leave ss ts a b not) (sym not)
      ]

  pub divides : Divides ts (parts ss ts)
  divides =
      let sorted = parts_sorted ss ts (in_order ts tablets) in
      let most = s.limit in
      record {
        parts = record {
          sorted = sorted;
          alone = λ i j a b both. alone (parts ss ts) i j a b sorted both;
          some = rw count (omega arith);
          limit = rw count (omega (arith, most));
          below = below;
          each = each;
        };
        covered = covered;
      }
