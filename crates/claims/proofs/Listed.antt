-- What is true of each list that a log is rebuilt to.
use Rattle.std.proofs.Common.{◌≡◌, ℕ, ◌<◌, max, List, ap, arith}
use Rattle.std.proofs.lemmas.List.Elements.{All-from_recursion}
use Rattle.entry.specs.declared.entry.Object.{Object}
use Rattle.entry.specs.Bag.{IsAmong}
use Rattle.entry.proofs.ListLemmas.{all_from_among}
use Rattle.claims.specs.Claims.{Claimed, bound_of_claims, objects_in, tops}
use Rattle.claims.specs.Listed.{AreBelow}
use Rattle.claims.proofs.Bounds.{bound_has}
use Rattle.claims.proofs.ScanLemmas.{objects_in-among, tops-among}

-- each version is below what is above all claims
pub below_safe : (recorded safe : ℕ) (before cs : List Claimed) → ((c : Claimed) → IsAmong c cs → IsAmong c before)
    → safe ≡ max recorded (bound_of_claims before) → AreBelow safe (objects_in (tops cs))
below_safe recorded safe before cs only above =
    All-from_recursion (λ (o : Object). o.version < safe) (objects_in (tops cs))
    (all_from_among (λ (o : Object). o.version < safe) (objects_in (tops cs)) each)
  where
    each : (o : Object) → IsAmong o (objects_in (tops cs)) → o.version < safe
    each o m =
        let c = objects_in-among (tops cs) o m in
        let among : IsAmong c.0 before = only c.0 (tops-among cs c.0 c.1) in
        let low = bound_has before c.0 among in
        let same : c.0.version ≡ o.version = ap (λ (z : Object). z.version) c.3 in
        omega (arith, low, same, above)
