-- Bytes that are visible, one more or several.
use Rattle.std.proofs.Common.{◌≡◌, ◌+◌, ◌-◌, ◌<◌, ◌↔◌, ◌&&◌, sym, subst, refl, ℕ, Bool, true, false, List, length, take}
use Rattle.std.proofs.Common.{drop, get_or, get_or-take, take-take, length-take-le, arith}
use Rattle.std.specs.Prelude.{IsTrue}
use Rattle.std.specs.List.{All}
use Rattle.std.proofs.lemmas.List.Elements.{All-append, All-more, All-take}
use Rattle.std.proofs.Math.Seq.{take-add}
use Rattle.lines.specs.Words.{IsVisible}

-- a byte more
module _ (bytes : List ℕ) (i : ℕ) (below : i < length bytes) where
  before : All IsVisible (take (i + 1) bytes) → All IsVisible (take i bytes)
  before all = subst (All IsVisible) (take-take i (i + 1) bytes (omega arith))
      (All-take IsVisible i (take (i + 1) bytes) all)

  this : All IsVisible (take (i + 1) bytes) → IsVisible (get_or bytes i 0)
  this all = subst IsVisible (get_or-take (i + 1) bytes i 0 (omega arith))
      (all i 0 (omega (arith, length-take-le (i + 1) bytes (omega arith))))

  pub one_more : (all b : Bool) → IsTrue all ↔ All IsVisible (take i bytes) → IsTrue b ↔ IsVisible (get_or bytes i 0)
      → IsTrue (all && b) ↔ All IsVisible (take (i + 1) bytes)
  one_more true b so_far is = (
    λ yes. All-more IsVisible bytes i 0 below (so_far.0 refl) (is.0 yes),
    λ all. is.1 (this all),
  )
  one_more false b so_far is = (λ yes. absurd (cc), λ all. so_far.1 (before all))

-- several more
pub some_more : (bytes : List ℕ) (i n : ℕ) → All IsVisible (take i bytes)
    → All IsVisible (take (i + n - i) (drop i bytes))
    → All IsVisible (take (i + n) bytes)
some_more bytes i n before behind =
    let same : i + n - i ≡ n = omega arith in
    let those = subst (λ k. All IsVisible (take k (drop i bytes))) same behind in
    subst (All IsVisible) (sym (take-add i n bytes)) (All-append IsVisible (take i bytes)
    (take n (drop i bytes)) before those)
