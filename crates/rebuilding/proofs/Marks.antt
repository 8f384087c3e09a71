-- Orders: which numbers are marked.
use Rattle.std.proofs.Common.{◌≡◌, ◌≢◌, ℕ, zero, suc, ◌+◌, ◌<◌, Bool, true, false, List, [], ◌∷◌, length, get_or}
use Rattle.std.proofs.Common.{set}
use Rattle.std.proofs.Common.{refl, sym, ap, subst, ◌∙◌, arith, below_more, get_or-set_same, get_or-set_other}
use Rattle.std.specs.Prelude.{slice_index}
use Rattle.std.proofs.lemmas.List.{get_or_default}
use Rattle.entry.specs.Bag.{IsAmong}
use Rattle.entry.proofs.BagLemmas.{among_at, among_place}
use Rattle.claims.proofs.Members.{same_or_not}
use Rattle.rebuilding.specs.Rebuilds.{NamesEach}
use Rattle.rebuilding.specs.Turns.{AreMarked, IsTwice, IsOmitted}

-- ---- marks

past_end : (named : List Bool) (n : ℕ) → get_or named n false ≡ true → n < length named
past_end [] n on = absurd (cc)
past_end (b ∷ named) zero on = omega arith
past_end (b ∷ named) (suc n) on = let more = past_end named n on in omega arith

pub marked_first : (order : List ℕ) (named : List Bool) → ((n : ℕ) → get_or named n false ≡ false)
    → AreMarked order 0 named
marked_first order named none =
    record {
      marked = λ i lt. absurd (omega (arith, lt));
      only = λ n on. (let off : get_or named n false ≡ false = none n in absurd (cc));
      once = λ i j lt within. absurd (omega (arith, within));
    }

module _ (order : List ℕ) (named : List Bool) (k : ℕ) (h : AreMarked order k named) where
  abbrev n : ℕ
  n = slice_index order k

  pub marked_more : n < length named → get_or named n false ≡ false → AreMarked order (k + 1) (set named n true)
  marked_more lt none =
      record {
        marked = below_more _ _ (λ i below.
            let on : get_or named (slice_index order i) false ≡ true = h.marked i below in
            let ne : slice_index order i ≢ n =
            λ e. (let as_other : get_or named n false ≡ true = subst (λ m. get_or named m false ≡ true) e on in cc) in
            get_or-set_other named n (slice_index order i) true false ne ∙ on)
            (get_or-set_same named n true false lt);
        only = λ m on. same_or_not m n ((i : ℕ) × (i < k + 1) × (slice_index order i ≡ m))
            (λ e. (k, omega arith, sym e))
            (λ ne. let before = h.only m (sym (get_or-set_other named n m true false ne) ∙ on) in
            let low = before.1 in (before.0, omega (arith, low), before.2));
        once = λ i j apart within e. same_or_not j k ⊥
            (λ last. let here : n ≡ slice_index order i = ap (slice_index order) (sym last) ∙ sym e in
            let on = h.marked i (omega (arith, apart, last)) in
            let off : get_or named (slice_index order i) false ≡ false =
            subst (λ m. get_or named m false ≡ false) here none in
            cc)
            (λ ne. h.once i j apart (omega (arith, within, ne)) e);
      }

  -- a number that is marked already is named at two places
  pub named_twice : (count : ℕ) → k < length order → n < count → get_or named n false ≡ true → IsTwice count order n
  named_twice count within lt on =
      let before = h.only n on in
      record {
        first = before.0;
        second = k;
        apart = before.1;
        within = within;
        below = lt;
        one = before.2;
        other = refl;
      }

module _ (order : List ℕ) (named : List Bool) (h : AreMarked order (length order) named) where
  among_marked : (n : ℕ) → get_or named n false ≡ true → IsAmong n order
  among_marked n on =
      let at = h.only n on in among_at order at.0 n at.1 (sym at.2 ∙ get_or_default order at.0 0 n at.1)

  marked_among : (n : ℕ) → IsAmong n order → get_or named n false ≡ true
  marked_among n m =
      let at = among_place n order m in
      subst (λ p. get_or named p false ≡ true) (get_or_default order at.0 0 n at.1 ∙ at.2) (h.marked at.0 at.1)

  pub names_each : (count : ℕ) → length named ≡ count → ((n : ℕ) → n < count → get_or named n false ≡ true)
      → NamesEach count order
  names_each count long all =
      record {
        below = λ n m. let lt = past_end named n (marked_among n m) in omega (arith, lt, long);
        each = λ n lt. among_marked n (all n lt);
        once = h.once;
      }

  pub omitted : (count n : ℕ) → n < count → get_or named n false ≡ false
      → ((m : ℕ) → m < n → get_or named m false ≡ true) → IsOmitted count order n
  omitted count n lt off before =
      record {
        below = lt;
        missing = λ m. (let on : get_or named n false ≡ true = marked_among n m in cc);
        lowest = λ m low. among_marked m (before m low);
      }
