-- What logs with some claims are rebuilt to, whatever the order of the claims.
use Rattle.std.specs.Prelude.{◌↔◌, ℕ, List}
use Rattle.entry.specs.declared.entry.Entry.{Entry}
use Rattle.entry.specs.Bag.{IsAmong}
use Rattle.entry.specs.Meaning.{IsClean, among}
use Rattle.claims.specs.Bags.{segments_bag}
use Rattle.claims.specs.Claims.{Claimed, claims_of}
use Rattle.claims.specs.Rebuilt.{IsRebuilt, IsRefusal}
use Rattle.claims.specs.declared.rebuilt.Rebuilt.{Rebuilt}
use Rattle.claims.specs.declared.fault.ReplayFault.{ReplayFault}

-- the claims are those of the entries, in any order
abbrev pub AreOf : List Entry → List Claimed → Type 0
AreOf es cs = (c : Claimed) → IsAmong c cs ↔ IsAmong c (claims_of es)

-- the result is what each log with these claims is rebuilt to
abbrev pub AreRebuilt : List Claimed → ℕ → Rebuilt → Type 0
AreRebuilt cs recorded r =
    (segments : List (List Entry)) → AreOf (segments_bag segments) cs → IsRebuilt segments recorded r

-- each log with these claims is clean
abbrev pub AreCleanClaims : List Claimed → Type 0
AreCleanClaims cs = (segments : List (List Entry)) → AreOf (segments_bag segments) cs
    → IsClean (among (segments_bag segments))

-- the fault is one for which each log with these claims may be refused
pub record AreRefused (cs : List Claimed) (f : ReplayFault) : Type 0 where
  pub each : (segments : List (List Entry)) → AreOf (segments_bag segments) cs → IsRefusal segments f
