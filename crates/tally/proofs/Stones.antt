-- The bytes of tombstones that are kept.
use Rattle.std.proofs.Common.{◌≡◌, ℕ, ◌≤◌, Bool, true, false, List, [], ◌∷◌, length, refl, ap, arith, if◌then◌else◌}
use Rattle.std.proofs.Common.{inl, inr}
use Rattle.entry.specs.declared.entry.Tombstone.{Tombstone}
use Rattle.entry.specs.declared.entry.Entry.{Entry}
use Rattle.entry.specs.declared.entry.Entry.TheVariants as entry
use Rattle.entry.specs.Format.{spelling}
use Rattle.compactor.specs.Kept.{has_id}
use Rattle.tally.specs.Live.{stone_one}
use Rattle.tally.specs.Laws.{StonesStay, StonesFall}

one_stays : (ids again : List ℕ) (e : Entry)
    → ((t : Tombstone) → e ≡ entry.Tombstone t → has_id again t.segment ≡ has_id ids t.segment)
    → stone_one again e ≡ stone_one ids e
one_stays ids again (entry.Header h) same = refl
one_stays ids again (entry.Digest l) same = refl
one_stays ids again (entry.Safe v) same = refl
one_stays ids again (entry.Object o) same = refl
one_stays ids again (entry.Tombstone t) same =
    ap (λ (b : Bool). if b then length (spelling (entry.Tombstone t)) else 0) (same t refl)

pub stones_stay : StonesStay
stones_stay ids again [] same = refl
stones_stay ids again (e ∷ es) same =
    let here = one_stays ids again e (λ t is. same t (inl is)) in
    let rest = stones_stay ids again es (λ t is. same t (inr is)) in
    omega (arith, here, rest)

if_less : (b c : Bool) (n : ℕ) → (b ≡ true → c ≡ true) → (if b then n else 0) ≤ (if c then n else 0)
if_less true true n so = omega arith
if_less true false n so = absurd (let never : false ≡ true = so refl in cc)
if_less false c n so = omega arith

one_falls : (ids fewer : List ℕ) (e : Entry) → ((s : ℕ) → has_id fewer s ≡ true → has_id ids s ≡ true)
    → stone_one fewer e ≤ stone_one ids e
one_falls ids fewer (entry.Header h) so = omega arith
one_falls ids fewer (entry.Digest l) so = omega arith
one_falls ids fewer (entry.Safe v) so = omega arith
one_falls ids fewer (entry.Object o) so = omega arith
one_falls ids fewer (entry.Tombstone t) so =
    if_less (has_id fewer t.segment) (has_id ids t.segment) (length (spelling (entry.Tombstone t))) (so t.segment)

pub stones_fall : StonesFall
stones_fall ids fewer [] so = omega arith
stones_fall ids fewer (e ∷ es) so =
    omega (arith, one_falls ids fewer e so, stones_fall ids fewer es so)
