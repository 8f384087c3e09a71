use Rattle.std.proofs.Common.{rules, ◌≡◌, List, map, ap, subst, sym, ◌∙◌, max}
use Rattle.entry.specs.declared.entry.Entry.{Entry}
use Rattle.claims.specs.Bags.{segments_bag}
use Rattle.claims.specs.declared.claim.Claim.{Claim}
use Rattle.claims.specs.Claims.{claimed, objects_in, tops, bound_of_claims}
use Rattle.claims.specs.Listed.{AreOrdered, AreBelow}
use Rattle.claims.specs.Settled.{AreOf, AreRefused}
use Rattle.claims.proofs.ClaimOrder.{Rises-from_sorted}
use Rattle.claims.proofs.Listed.{below_safe}
use Rattle.claims.proofs.MeaningLemmas.{AreClaims, unclashed_clean, refused-for}
use Rattle.claims.proofs.ScanLemmas.{tops-sorted}
use Rattle.claims.proofs.Settled.{kept_in_sort, settled, rebuilt}
use Rattle.claims.proofs.settling.rebuilt_from.Goals.{After-as_slice-2}
use Rattle.claims.proofs.settling.rebuilt_from.Goals as goal

-- the sorted claims are those of each log that has the claims
sorted : (c : After-as_slice-2) (segments : List (List Entry))
    → AreOf (segments_bag segments) (map claimed c.args.claims.now.items)
    → AreClaims (segments_bag segments) (map claimed c.as_slice-2.result.now)
sorted c segments of =
    subst (λ (cs : List Claim). AreClaims (segments_bag segments) (map claimed cs)) (sym c.as_slice-2.ensures.value)
    (settled c.args.claims.now.items c.sort_unstable.new.self.items c.sort_unstable.ensures.permutation
    c.sort_unstable.ensures.sorted (segments_bag segments) of)

safe_is : (c : After-as_slice-2)
    → c.safe_above-safe.result ≡ max c.args.recorded (bound_of_claims (map claimed c.args.claims.now.items))
safe_is c =
    c.safe_above-safe.ensures
    ∙ ap (λ (cs : List Claim). max c.args.recorded (bound_of_claims (map claimed cs))) c.as_slice.ensures.value

pub returns-in_err-objects-clause-err : goal.returns-in_err-objects-clause-err
returns-in_err-objects-clause-err c =
    let all = (goal.at.returns-in_err-objects-clause-err c).After-as_slice-2 in
    let refused : AreRefused (map claimed c.args.claims.now.items) c.in_err-objects.field-0.0 =
    record {
      each =
          λ segments of. refused-for segments _ c.in_err-objects.field-0.0 (sorted all segments of)
          c.in_err-objects.ensures.err;
    } in
    search (rules, refused)

pub invariant_of-result : goal.invariant_of-result
invariant_of-result c =
    let all = (goal.at.invariant_of-result c).After-as_slice-2 in
    let after = c.sort_unstable.new.self.items in
    let listed : c.in_ok-objects.objects ≡ objects_in (tops (map claimed after)) =
    c.in_ok-objects.ensures.objects
    ∙ ap (λ (cs : List Claim). objects_in (tops (map claimed cs))) c.as_slice-2.ensures.value in
    record {
      ordered = subst AreOrdered (sym listed)
          (tops-sorted (map claimed after) (Rises-from_sorted claimed after c.sort_unstable.ensures.sorted));
      below = subst (AreBelow c.safe_above-safe.result) (sym listed)
          (below_safe c.args.recorded c.safe_above-safe.result (map claimed c.args.claims.now.items) (map claimed after)
          (kept_in_sort c.args.claims.now.items after c.sort_unstable.ensures.permutation) (safe_is all));
    }

pub returns-clause-ok : goal.returns-clause-ok
returns-clause-ok c =
    let all = (goal.at.returns-clause-ok c).After-as_slice-2 in
    λ segments of. rebuilt segments (map claimed c.as_slice-2.result.now) (map claimed c.args.claims.now.items)
    c.args.recorded _ (sorted all segments of) of c.in_ok-objects.ensures.clean
    c.in_ok-objects.ensures.objects c.in_ok-objects.ensures.valid
    (safe_is all)

pub returns-clause-clean : goal.returns-clause-clean
returns-clause-clean c =
    let all = (goal.at.returns-clause-clean c).After-as_slice-2 in
    λ segments of. unclashed_clean (segments_bag segments) _ (sorted all segments of) c.in_ok-objects.ensures.clean
