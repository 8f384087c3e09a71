-- Backups that are asked once each show each replica once.
use Rattle.std.proofs.Common.{◌≡◌, ℕ, ◌+◌, ◌<◌, ◌≤◌, inl, inr, true, false, refl, sym, subst, ap, ◌∙◌, arith}
use Rattle.std.proofs.Common.{List, [], ◌∷◌, ◌++◌, take, get_or, length}
use Rattle.std.specs.Prelude.{◌↔◌, ◌==◌}
use Rattle.std.proofs.lemmas.Bool.Decides.{nat_tests}
use Rattle.std.proofs.lemmas.Grind.{take_at_read}
use Rattle.std.proofs.lemmas.List.{take_all}
use Rattle.std.proofs.lemmas.Bool.{or_parts, or_from}
use Rattle.entry.specs.Bag.{IsAmong}
use Rattle.replica.specs.declared.holding.Holding.{Holding}
use Rattle.replica.specs.Picture.{Picture, IsHeld, IsOnce}
use Rattle.entry.proofs.BagLemmas.{among_either}
use Rattle.recovery.specs.Kept.{is_kept, AreDifferent}
use Rattle.recovery.proofs.Asked.{AreAll, kept-push}

-- just the replicas of the backups that were asked, each once if those differ
pub record IsAsked (p : Picture) (asked : List ℕ) (hs : List Holding) : Type 0 where
  pub all : AreAll p asked hs
  pub once : AreDifferent asked → IsOnce hs

-- all were asked
pub all-asked : (p : Picture) (asked : List ℕ) (i : ℕ) (hs : List Holding) → length asked ≤ i
    → IsAsked p (take i asked) hs → IsAsked p asked hs
all-asked p asked i hs over is = subst (λ (l : List ℕ). IsAsked p l hs) (take_all i asked over) is

other_way : (a b : ℕ) → (a == b) ≡ false → (b == a) ≡ false
other_way a b e = grind (arith, nat_tests)

different-push : (ks : List ℕ) (k : ℕ) → AreDifferent (ks ++ k ∷ []) → (is_kept ks k ≡ false) × AreDifferent ks
different-push [] k d = (refl, tt)
different-push (j ∷ ks) k d =
    let later = different-push ks k d.1 in
    let both = or_parts (is_kept ks j) (k == j) (sym (kept-push ks k j) ∙ d.0) in
    (or_from (j == k) (is_kept ks k) (other_way k j both.1) later.0, (both.0, later.1))

once-append : (xs ys : List Holding) → IsOnce xs → IsOnce ys → ((h : Holding) → IsAmong h xs → IsAmong h ys → ⊥)
    → IsOnce (xs ++ ys)
once-append [] ys once others apart = others
once-append (x ∷ xs) ys once others apart = (
  λ m. elim (among_either x xs ys m) [ inl l ↦ once.0 l | inr r ↦ apart x (inl refl) r ],
  once-append xs ys once.1 others (λ h l r. apart h (inr l) r),
)

pub once-more : (p : Picture) (kept : List ℕ) (i k : ℕ) (hs more both : List Holding) → i < length kept
    → k ≡ get_or kept i 0 → both ≡ hs ++ more →
    ((h : Holding) → IsAmong h more ↔ ((h.backup ≡ k) × IsHeld p h)) → IsOnce more → AreAll p (take i kept) hs
    → (AreDifferent (take i kept) → IsOnce hs) →
    AreDifferent (take (i + 1) kept) → IsOnce both
once-more p kept i k hs more both lt is joined shown others old once differ =
    let seam : take (i + 1) kept ≡ take i kept ++ k ∷ [] =
    (take_at_read kept i 0 lt).1 ∙ ap (λ x. take i kept ++ x ∷ []) (sym is) in
    let before = different-push (take i kept) k (rw seam at differ) in
    rw joined (once-append hs more (once before.1) others (λ h l r.
    let kept_before : is_kept (take i kept) h.backup ≡ true = (old.only h l).0 in
    let same : h.backup ≡ k = ((shown h).0 r).0 in
    let kept_k : is_kept (take i kept) k ≡ true = sym (ap (is_kept (take i kept)) same) ∙ kept_before in
    let none = before.0 in
    cc))
