-- Tallies stay right as a log goes on.
use Rattle.std.proofs.Common.{◌≡◌, ℕ, ◌+◌, ◌-◌, ◌≤◌, Bool, true, false, ◌==◌, List, [], ◌∷◌, ◌++◌, length, refl, sym}
use Rattle.std.proofs.Common.{ap}
use Rattle.std.proofs.Common.{subst, ◌∙◌, arith, if◌then◌else◌, ◌⊎◌, inl, inr, filter}
use Rattle.std.specs.Prelude.{Option, Some, None}
use Rattle.std.proofs.lemmas.Bool.{eqb-true, eq-eqb}
use Rattle.entry.specs.declared.entry.Entry.{Entry}
use Rattle.entry.specs.declared.entry.Entry.TheVariants as entry
use Rattle.entry.specs.Bag.{IsAmong}
use Rattle.entry.specs.Format.{spelling}
use Rattle.entry.specs.Text.{text_of, is_data}
use Rattle.places.specs.declared.place.Place.{Place}
use Rattle.places.specs.Map.{Places}
use Rattle.compactor.specs.Kept.{has_id, moved_all}
use Rattle.tally.specs.declared.tallies.Tally.{Tally}
use Rattle.tally.specs.Live.{live_from, live_bytes, stone_bytes}
use Rattle.tally.specs.Laws.{IsBehind}
use Rattle.tally.specs.Rows.{more, less, staled, of_nothing, IsRight, AreRight, IsChangedAt}
use Rattle.tally.specs.Right.{StaysOrBegins, StayRight, LeaveRight, BeginRight, IsAppended, Grows}
use Rattle.tally.specs.Right.{CreateIsRight, ReplaceIsRight, CarryIsRight, CompactIsRight}
use Rattle.tally.proofs.Steps.{others_stay_law, one_dies_law, more_count}
use Rattle.tally.proofs.Compacting.{compaction_keeps, compaction_leaves}
use Rattle.tally.proofs.Stones.{stones_stay, stones_fall}

eq_false : (n m : ℕ) → (n == m) ≡ false → n ≡ m → ⊥
eq_false n m isnt is = let so : (n == m) ≡ true = eq-eqb n m is in cc

-- ---- entries that are neither objects nor tombstones

live_opening : (held : Places) (s at : ℕ) (es : List Entry) → filter is_data es ≡ [] → live_from held s at es ≡ 0
live_opening held s at [] none = refl
live_opening held s at (entry.Header h ∷ es) none =
    let rest = live_opening held s (at + length (spelling (entry.Header h))) es none in omega (arith, rest)
live_opening held s at (entry.Digest l ∷ es) none =
    let rest = live_opening held s (at + length (spelling (entry.Digest l))) es none in omega (arith, rest)
live_opening held s at (entry.Safe v ∷ es) none =
    let rest = live_opening held s (at + length (spelling (entry.Safe v))) es none in omega (arith, rest)
live_opening held s at (entry.Object o ∷ es) none = absurd (cc)
live_opening held s at (entry.Tombstone t ∷ es) none = absurd (cc)

stones_opening : (ids : List ℕ) (es : List Entry) → filter is_data es ≡ [] → stone_bytes ids es ≡ 0
stones_opening ids [] none = refl
stones_opening ids (entry.Header h ∷ es) none = (let rest = stones_opening ids es none in omega (arith, rest))
stones_opening ids (entry.Digest l ∷ es) none = (let rest = stones_opening ids es none in omega (arith, rest))
stones_opening ids (entry.Safe v ∷ es) none = (let rest = stones_opening ids es none in omega (arith, rest))
stones_opening ids (entry.Object o ∷ es) none = absurd (cc)
stones_opening ids (entry.Tombstone t ∷ es) none = absurd (cc)

-- ---- nothing is appended

pub stay_right : StayRight
stay_right ids ids_again held images again rows stays same right row is = go (stays row.segment)
  where
    s : ℕ
    s = row.segment

    old : IsRight ids held images row
    old = right row is

    go : StaysOrBegins (images s) (again s) → IsRight ids_again held again row
    go (inl stayed) = record {
      live = old.live ∙ ap (live_bytes held s) (sym stayed);
      stones = λ fresh. old.stones fresh
          ∙ sym (stones_stay ids ids_again (images s) (same s))
          ∙ ap (stone_bytes ids_again) (sym stayed);
    }
    go (inr begun) = record {
      live = old.live ∙ ap (live_bytes held s) begun.0 ∙ sym (live_opening held s 0 (again s) begun.1);
      stones = λ fresh. old.stones fresh ∙ ap (stone_bytes ids) begun.0
          ∙ sym (stones_opening ids_again (again s) begun.1);
    }

-- ---- segments leave

-- where none was kept, none is
leaves : (ids fewer victims : List ℕ) (held : Places) (images again : ℕ → List Entry)
    → ((s : ℕ) → has_id fewer s ≡ true → has_id ids s ≡ true)
    → ((s : ℕ) → has_id victims s ≡ false → again s ≡ images s)
    → (was : Tally) → has_id victims was.segment ≡ false → IsRight ids held images was
    → IsRight fewer held again (staled was)
leaves ids fewer victims held images again so stays was other old = go (was.stones == 0) refl
  where
    s : ℕ
    s = was.segment

    live : was.live ≡ live_bytes held s (again s)
    live = old.live ∙ ap (live_bytes held s) (sym (stays s other))

    falls : stone_bytes fewer (again s) ≤ stone_bytes ids (images s)
    falls =
        subst (λ (es : List Entry). stone_bytes fewer es ≤ stone_bytes ids (images s)) (sym (stays s other))
        (stones_fall ids fewer (images s) so)

    go : (b : Bool) → (was.stones == 0) ≡ b
        → IsRight fewer held again (if b then was else record was { is_fresh = false })
    go true none = record {
      live = live;
      stones = λ fresh.
          let zero : was.stones ≡ 0 = eqb-true was.stones 0 none in
          omega (arith, zero, old.stones fresh, falls);
    }
    go false some = record {
      live = live;
      stones = λ fresh. absurd (let never : false ≡ true = fresh in cc);
    }

pub leave_right : LeaveRight
leave_right ids fewer victims held images again old new so stays committed right row is =
    let from = committed row is in
    let was = from.0 in
    subst (λ (r : Tally). IsRight fewer held again r) (sym from.3)
    (leaves ids fewer victims held images again so stays was from.2 (right was from.1))

-- ---- a segment begins

pub begin_right : BeginRight
begin_right ids held images s old new opening one right row is = go (one row is)
  where
    go : IsAmong row old ⊎ (row ≡ of_nothing s) → IsRight ids held images row
    go (inl was) = right row was
    go (inr begun) =
        subst (λ (r : Tally). IsRight ids held images r) (sym begun) (record {
          live = sym (live_opening held s 0 (images s) opening);
          stones = λ fresh. sym (stones_opening ids (images s) opening);
        })

-- ---- a segment grows

stones_append : (ids : List ℕ) (xs ys : List Entry) → stone_bytes ids (xs ++ ys)
    ≡ stone_bytes ids xs + stone_bytes ids ys
stones_append ids [] ys = omega arith
stones_append ids (x ∷ xs) ys = let rest = stones_append ids xs ys in omega (arith, rest)

grow_right : (ids : List ℕ) (held : Places) (images again : ℕ → List Entry) (head : ℕ) (unit : List Entry)
    (x : Option Place) (live stones : ℕ) (rows next : List Tally) → IsAppended images again head unit x
    → Grows ids held (images head) head unit live stones → IsChangedAt head (more live stones) rows next
    → AreRight ids held images rows → AreRight ids held again next
grow_right ids held images again head unit x live stones rows next appended grows changed right row is =
    go (changed row is)
  where
    again_live : live_bytes held head (again head) ≡ live_bytes held head (images head) + live
    again_live =
        ap (live_bytes held head) appended.grown
        ∙ more_count held head (images head) unit
        ∙ ap (λ (n : ℕ). live_bytes held head (images head) + n) grows.objects

    again_stones : stone_bytes ids (again head) ≡ stone_bytes ids (images head) + stones
    again_stones =
        ap (stone_bytes ids) appended.grown
        ∙ stones_append ids (images head) unit
        ∙ ap (λ (n : ℕ). stone_bytes ids (images head) + n) grows.tombstones

    grown : (was : Tally) → was.segment ≡ head → IsRight ids held images was
        → IsRight ids held again (more live stones was)
    grown was here old = record {
      live = ap (λ (n : ℕ). n + live) (old.live ∙ ap (λ (s : ℕ). live_bytes held s (images s)) here)
          ∙ sym again_live
          ∙ ap (λ (s : ℕ). live_bytes held s (again s)) (sym here);
      stones = λ fresh. ap (λ (n : ℕ). n + stones) (old.stones fresh ∙ ap (λ (s : ℕ). stone_bytes ids (images s)) here)
          ∙ sym again_stones
          ∙ ap (λ (s : ℕ). stone_bytes ids (again s)) (sym here);
    }

    go : (IsAmong row rows × (row.segment ≡ head → ⊥))
        ⊎ ((was : Tally) × IsAmong was rows × (was.segment ≡ head) × (row ≡ more live stones was))
        → IsRight ids held again row
    go (inl old) =
        let was = right row old.0 in
        let same = sym (appended.others row.segment old.1) in
        record {
          live = was.live ∙ ap (live_bytes held row.segment) same;
          stones = λ fresh. was.stones fresh ∙ ap (stone_bytes ids) same;
        }
    go (inr old) =
        subst (λ (r : Tally). IsRight ids held again r) (sym old.3) (grown old.0 old.2 (right old.0 old.1))

pub carry_is_right : CarryIsRight
carry_is_right ids held images again head unit stones rows next appended grows changed right =
    grow_right ids held images again head unit None 0 stones rows next appended grows changed right

-- ---- a key's object changes

-- the new place is behind what each segment had
behind_all : (images again : ℕ → List Entry) (head : ℕ) (unit : List Entry) (x : Option Place)
    → IsAppended images again head unit x → (s : ℕ) → IsBehind s (images s) x
behind_all images again head unit x appended s p is here =
    let at = appended.place p is in
    let same : s ≡ head = sym here ∙ at.0 in
    subst (λ (z : ℕ). length (text_of (images z)) ≤ p.at) (sym same) at.1

pub create_is_right : CreateIsRight
create_is_right ids keys old new k x images again head unit live stones rows next c changed right =
    grow_right ids new images again head unit x live stones rows next c.appended c.grows changed still
  where
    still : AreRight ids new images rows
    still row is =
        let was = right row is in
        let stay =
        others_stay_law keys old new k x row.segment (images row.segment) c.all c.set
        (behind_all images again head unit x c.appended row.segment)
        (λ p finds here. let never : None ≡ Some p = sym c.none ∙ finds in cc) in
        record { live = was.live ∙ sym stay; stones = was.stones }

one_place : (p q : Place) → Some p ≡ Some q → p ≡ q
one_place p q same = cc

pub replace_is_right : ReplaceIsRight
replace_is_right ids keys old new k x images again head unit live stones was o rows mid next c falls changed right =
    grow_right ids new images again head unit x live stones mid next c.appended c.grows changed fallen
  where
    less_one : (row : Tally) → row.segment ≡ was.segment → IsRight ids old images row
        → IsRight ids new images (less (length (spelling (entry.Object o))) row)
    less_one row here before =
        let dies =
        one_dies_law keys old new k x was.segment (images was.segment) c.all c.set
        (behind_all images again head unit x c.appended was.segment) was o c.is refl c.lies c.key in
        let had : row.live ≡ live_bytes old was.segment (images was.segment) =
        before.live ∙ ap (λ (s : ℕ). live_bytes old s (images s)) here in
        let left : row.live - length (spelling (entry.Object o)) ≡ live_bytes new was.segment (images was.segment) =
        omega (arith, dies, had) in
        record {
          live = left ∙ ap (λ (s : ℕ). live_bytes new s (images s)) (sym here);
          stones = before.stones;
        }

    other_one : (row : Tally) → (row.segment ≡ was.segment → ⊥) → IsRight ids old images row
        → IsRight ids new images row
    other_one row other before =
        let stay =
        others_stay_law keys old new k x row.segment (images row.segment) c.all c.set
        (behind_all images again head unit x c.appended row.segment)
        (λ p finds here. other (sym here ∙ ap (λ (q : Place). q.segment) (one_place p was (sym finds ∙ c.is)))) in
        record { live = before.live ∙ sym stay; stones = before.stones }

    fallen : AreRight ids new images mid
    fallen row is = go (falls row is)
      where
        go : (IsAmong row rows × (row.segment ≡ was.segment → ⊥))
            ⊎ ((one : Tally) × IsAmong one rows × (one.segment ≡ was.segment)
            × (row ≡ less (length (spelling (entry.Object o))) one))
            → IsRight ids new images row
        go (inl before) = other_one row before.1 (right row before.0)
        go (inr before) =
            subst (λ (r : Tally). IsRight ids new images r) (sym before.3)
            (less_one before.0 before.2 (right before.0 before.1))

-- ---- a segment is compacted

pub compact_is_right : CompactIsRight
compact_is_right ids held images again segment rows valid becomes stays right row is =
    go (row.segment == segment) refl
  where
    old : IsRight ids held images row
    old = right row is

    go : (b : Bool) → (row.segment == segment) ≡ b
        → IsRight ids (moved_all ids held segment (images segment)) again row
    go true here =
        let same : row.segment ≡ segment = eqb-true row.segment segment here in
        let keeps = compaction_keeps ids held segment (images segment) valid in
        record {
          live = old.live
              ∙ ap (λ (s : ℕ). live_bytes held s (images s)) same
              ∙ sym keeps.0
              ∙ ap (live_bytes (moved_all ids held segment (images segment)) segment) (sym becomes)
              ∙ ap (λ (s : ℕ). live_bytes (moved_all ids held segment (images segment)) s (again s)) (sym same);
          stones = λ fresh. old.stones fresh
              ∙ ap (λ (s : ℕ). stone_bytes ids (images s)) same
              ∙ sym keeps.1
              ∙ ap (stone_bytes ids) (sym becomes)
              ∙ ap (λ (s : ℕ). stone_bytes ids (again s)) (sym same);
        }
    go false there =
        let other : row.segment ≡ segment → ⊥ = eq_false row.segment segment there in
        let leaves =
        compaction_leaves ids held segment row.segment (images segment) (images row.segment) other in
        let same = sym (stays row.segment other) in
        record {
          live = old.live
              ∙ sym leaves
              ∙ ap (live_bytes (moved_all ids held segment (images segment)) row.segment) same;
          stones = λ fresh. old.stones fresh ∙ ap (stone_bytes ids) same;
        }
