use Rattle.std.proofs.Common.{List, [], ◌++◌, ap, sym, subst, ◌∙◌}
use Rattle.places.specs.declared.place.Held.{Held}
use Rattle.hash_index.specs.Buckets.{Divides}
use Rattle.hash_index.proofs.Halves.{divides_nothing}
use Rattle.hash_index.proofs.dividing.divided.Goals as goal

pub returns : goal.returns
returns c =
    let n = c.args.count in
    let start = subst (λ (xs : List Held). Divides n [] xs c.new-2.result) (sym c.new.ensures)
    (subst (λ (xs : List Held). Divides n [] [] xs) (sym c.new-2.ensures) (divides_nothing n)) in
    let first = c.in_ok-deal_all.ensures [] start in
    let both = c.in_ok-deal_all-2.ensures c.as_slice.result.now first in
    let front = c.as_slice.ensures.value ∙ c.places-places.ensures in
    let all = ap (λ (xs : List Held). xs ++ c.as_slice-2.result.now) front
    ∙ ap (λ (xs : List Held). c.parts.result.0.now ++ xs) c.as_slice-2.ensures ∙ c.parts.ensures in
    subst (λ (xs : List Held). Divides n xs c.deal_all-2.new.to.stays c.deal_all-2.new.to.goes) all both
