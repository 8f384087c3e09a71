-- Orders that name each group once.
use Rattle.std.proofs.lemmas.List.Sorted.{IsPermutation-refl, IsPermutation-reverse}
use Rattle.recovery.specs.Orders.{OrdersNameGroups}

-- Forward and Reverse name each group once
pub orders_name : OrdersNameGroups
orders_name inventory least master will = (λ plan is. IsPermutation-refl _, λ plan is. IsPermutation-reverse _)
