-- The replicas of the first backups, one backup after another.
use Rattle.std.proofs.Common.{◌≡◌, ◌∙◌, ap, sym, ℕ, ◌+◌, inl, inr, Bool, true, false, refl, arith, List, [], ◌++◌, map}
use Rattle.std.specs.Prelude.{◌⊎◌, Option, Some, None, nat_lt, if◌then◌else◌}
use Rattle.std.proofs.lemmas.Bool.Decides.{nat_tests}
use Rattle.entry.specs.Bag.{IsAmong}
use Rattle.entry.proofs.BagLemmas.{among_either, among_left, among_right}
use Rattle.replica.specs.declared.holding.Holding.{Holding}
use Rattle.replica.specs.declared.label.Label.{Label}
use Rattle.replica.specs.Picture.{Picture, Replica, AreHeld, AreHeldBy, AreLabelsOf, label_of, left_on}
use Rattle.std.proofs.lemmas.List.{map-append}

-- just what the backups below this number hold
abbrev AreHeldBelow : ℕ → Picture → List Holding → Type 0
AreHeldBelow n p hs = AreHeld hs (left_on (λ b. nat_lt b n) p)

picked : (b : Bool) (r : Option Replica) (x : Replica) → (if b then r else None) ≡ Some x → (b ≡ true) × (r ≡ Some x)
picked true r x is = (refl, is)
picked false r x is = absurd (cc)

kept : (b : Bool) (r : Option Replica) (x : Replica) → b ≡ true → r ≡ Some x → (if b then r else None) ≡ Some x
kept true r x is held = held
kept false r x is held = absurd (cc)

still_below : (a n : ℕ) → nat_lt a n ≡ true → nat_lt a (n + 1) ≡ true
still_below a n lt = grind (arith, nat_tests)

at_most : (a n : ℕ) → a ≡ n → nat_lt a (n + 1) ≡ true
at_most a n is = grind (arith, nat_tests)

below_or_at : (a n : ℕ) → nat_lt a (n + 1) ≡ true → (nat_lt a n ≡ true) ⊎ (a ≡ n)
below_or_at a n lt = by_test (nat_lt a n) refl
  where
    by_test : (b : Bool) → nat_lt a n ≡ b → (nat_lt a n ≡ true) ⊎ (a ≡ n)
    by_test true is = inl is
    by_test false is = inr (grind (arith, nat_tests))

below_none : (a : ℕ) → nat_lt a 0 ≡ true → ⊥
below_none a lt = grind (arith, nat_tests)

none_held : (p : Picture) → AreHeldBelow 0 p []
none_held p h = (
  λ among. absurd among,
  λ held. below_none h.backup
      (picked (nat_lt h.backup 0) (p h.backup h.master h.segment)
      (record { bytes = h.bytes; is_open = h.is_open }) held).0,
)

more_held : (p : Picture) (n : ℕ) (hs more both : List Holding) → both ≡ hs ++ more → AreHeldBy more p n
    → AreHeldBelow n p hs → AreHeldBelow (n + 1) p both
more_held p n hs more both joined shown old h = rw joined (forth, back)
  where
    there : Option Replica
    there = p h.backup h.master h.segment

    its : Replica
    its = record { bytes = h.bytes; is_open = h.is_open }

    forth : IsAmong h (hs ++ more) → (if nat_lt h.backup (n + 1) then there else None) ≡ Some its
    forth among = elim (among_either h hs more among) [
      | inl l ↦ (let was = picked (nat_lt h.backup n) there its ((old h).0 l) in
          kept (nat_lt h.backup (n + 1)) there its (still_below h.backup n was.0) was.1)
      | inr r ↦ (let is = (shown h).0 r in kept (nat_lt h.backup (n + 1)) there its (at_most h.backup n is.0) is.1)
    ]

    back : (if nat_lt h.backup (n + 1) then there else None) ≡ Some its → IsAmong h (hs ++ more)
    back held = let is = picked (nat_lt h.backup (n + 1)) there its held in
        elim (below_or_at h.backup n is.0) [
          | inl lt ↦ among_left h hs more ((old h).1 (kept (nat_lt h.backup n) there its lt is.1))
          | inr at ↦ among_right h hs more ((shown h).1 (at, is.1))
        ]

-- ---- labels

-- the labels of just what the backups below this number hold
abbrev pub AreLabelsBelow : ℕ → Picture → List Label → Type 0
AreLabelsBelow n p labels = AreLabelsOf (left_on (λ b. nat_lt b n) p) labels

pub none_below : (p : Picture) → AreLabelsBelow 0 p []
none_below p = ([], none_held p, refl)

pub more_below : (p : Picture) (n : ℕ) (labels both : List Label) (more : List Holding)
    → both ≡ labels ++ map label_of more → AreHeldBy more p n
    → AreLabelsBelow n p labels → AreLabelsBelow (n + 1) p both
more_below p n labels both more joined shown old =
    let hs = old.0 in (
      hs ++ more,
      more_held p n hs more (hs ++ more) refl shown old.1,
      joined ∙ ap (λ (ls : List Label). ls ++ map label_of more) old.2 ∙ sym (map-append label_of hs more),
    )
