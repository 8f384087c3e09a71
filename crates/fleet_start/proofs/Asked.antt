-- One option more is met, or isn't.
use Rattle.std.proofs.Common.{◌≡◌, ℕ, ◌+◌, ◌<◌, ◌≤◌, ltb, List, length, get_or, Option, Some, refl, sym, ◌∙◌, ap, subst}
use Rattle.std.proofs.Common.{true, false, arith}
use Rattle.std.specs.List.{slice_get}
use Rattle.std.proofs.lemmas.Bool.{ltb-false, ltb-true}
use Rattle.std.proofs.lemmas.Option.{same_Some, slice_get-get_or}
use Rattle.fleet_start.specs.Options.{AreMet, DiffersAt, IsMet, IsOther}

module _ (i : ℕ) (kept : List ℕ) (asked : List (Option ℕ)) (d : Option ℕ) (within : i < length asked) where
  here : slice_get asked i ≡ Some (get_or asked i d)
  here = slice_get-get_or asked i d within

  pub met_more : AreMet i kept asked → IsMet kept i (get_or asked i d) → AreMet (i + 1) kept asked
  met_more before met k o less at =
      elim (ltb k i) as (λ b. ltb k i ≡ b → IsMet kept k o) [
        | true ↦ λ yet. before k o (ltb-true _ _ yet) at
        | false ↦ λ past.
            let below : i ≤ k = ltb-false _ _ past in
            let last : i ≡ k = omega arith in
            let same : get_or asked i d ≡ o =
            same_Some (get_or asked i d) o (sym here ∙ ap (λ n. slice_get asked n) last ∙ at) in
            subst (λ n. IsMet kept n o) last (subst (λ p. IsMet kept i p) same met)
      ] refl

  pub differs : AreMet i kept asked → IsOther kept i (get_or asked i d)
      → AreMet i kept asked × DiffersAt i kept asked
  differs before other = (before, (get_or asked i d, here, other))
