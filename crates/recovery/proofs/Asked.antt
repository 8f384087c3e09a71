-- The replicas of some backups, one backup after another.
use Rattle.std.proofs.Common.{◌≡◌, ℕ, ◌+◌, ◌<◌, inl, inr, Bool, true, false, refl, sym, ap, ◌∙◌, arith}
use Rattle.std.proofs.Common.{List, [], ◌∷◌, ◌++◌, take, get_or, length}
use Rattle.std.specs.Prelude.{◌↔◌, ◌==◌, ◌||◌, if◌then◌else◌, Some, None}
use Rattle.std.proofs.lemmas.Bool.Decides.{nat_tests}
use Rattle.std.proofs.lemmas.Grind.{take_at_read}
use Rattle.std.proofs.lemmas.Bool.{or_left, or_right, or_cases}
use Rattle.entry.specs.Bag.{IsAmong}
use Rattle.replica.specs.declared.holding.Holding.{Holding}
use Rattle.replica.specs.Picture.{Picture, IsHeld, left_on}
use Rattle.entry.proofs.BagLemmas.{among_either, among_left, among_right}
use Rattle.recovery.specs.Kept.{is_kept}

-- just the replicas of the backups that were asked
pub record AreAll (p : Picture) (asked : List ℕ) (hs : List Holding) : Type 0 where
  pub only : (h : Holding) → IsAmong h hs → (is_kept asked h.backup ≡ true) × IsHeld p h
  pub all : (h : Holding) → is_kept asked h.backup ≡ true → IsHeld p h → IsAmong h hs

-- they are what is left of the picture if the others are gone
pub left-shown : (p : Picture) (asked : List ℕ) (hs : List Holding) → AreAll p asked hs → (h : Holding)
    → IsAmong h hs ↔ IsHeld (left_on (is_kept asked) p) h
left-shown p asked hs are h =
    (λ m. rw (are.only h m).0 (are.only h m).1, left (is_kept asked h.backup) refl)
  where
    left : (b : Bool) → is_kept asked h.backup ≡ b
        → (if b then p h.backup h.master h.segment else None) ≡ Some (record { bytes = h.bytes; is_open = h.is_open })
        → IsAmong h hs
    left true is held = are.all h is held
    left false gone held = absurd (cc)

pub kept-push : (ks : List ℕ) (k b : ℕ) → is_kept (ks ++ k ∷ []) b ≡ (is_kept ks b || (k == b))
kept-push [] k b = or_false (k == b)
  where
    or_false : (x : Bool) → (x || false) ≡ x
    or_false true = refl
    or_false false = refl
kept-push (j ∷ ks) k b = ap (λ x. (j == b) || x) (kept-push ks k b) ∙ or_assoc (j == b) (is_kept ks b) (k == b)
  where
    or_assoc : (x y z : Bool) → (x || (y || z)) ≡ ((x || y) || z)
    or_assoc true y z = refl
    or_assoc false y z = refl

same_test : (a b : ℕ) → a ≡ b → (a == b) ≡ true
same_test a b e = grind (arith, nat_tests)

test_same : (a b : ℕ) → (a == b) ≡ true → a ≡ b
test_same a b e = grind (arith, nat_tests)

pub all-more : (p : Picture) (kept : List ℕ) (i k : ℕ) (hs more both : List Holding) → i < length kept
    → k ≡ get_or kept i 0 → both ≡ hs ++ more →
    ((h : Holding) → IsAmong h more ↔ ((h.backup ≡ k) × IsHeld p h)) → AreAll p (take i kept) hs
    → AreAll p (take (i + 1) kept) both
all-more p kept i k hs more both lt is joined shown old =
    let seam : take (i + 1) kept ≡ take i kept ++ k ∷ [] =
    (take_at_read kept i 0 lt).1 ∙ ap (λ x. take i kept ++ x ∷ []) (sym is) in
    rw (seam, joined) (record {
      only = λ h m. (let push = kept-push (take i kept) k h.backup in
          elim (among_either h hs more m) as (λ _. (is_kept (take i kept ++ k ∷ []) h.backup ≡ true) × IsHeld p h) [
            | inl l ↦ (let o = old.only h l in (push ∙ or_left _ _ o.0, o.1))
            | inr r ↦ (let o = (shown h).0 r in (
              push ∙ or_right (is_kept (take i kept) h.backup) _
                  (same_test k h.backup (sym o.0)),
              o.1,
            ))
          ]);
      all = λ h asked held. elim (or_cases (is_kept (take i kept) h.backup) (k == h.backup)
          (sym (kept-push (take i kept) k h.backup) ∙ asked)) [
            | inl l ↦ among_left h hs more (old.all h l held)
            | inr r ↦ among_right h hs more ((shown h).1 (sym (test_same k h.backup r), held))
          ];
    })
