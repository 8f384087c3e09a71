use Rattle.std.proofs.Common.{rules, ◌≡◌, ◌++◌, map, ◌⊎◌, inl, inr, true, false, sym, ◌∙◌}
use Rattle.entry.specs.View.{shown_object}
use Rattle.claims.specs.Claims.{claimed, has_clash, is_last, objects_in, tops, IsRefusedFor}
use Rattle.claims.proofs.SiftLemmas.{behind, passed, taken, all_valid, unclashed_first, clashed_first}
use Rattle.claims.proofs.scanning.winners.Goals as goal
use Rattle.claims.proofs.scanning.winners.Goals.{else-last-via-then-last+else-not-claim, else-last-via-else-last}

pub loop-left-preserved-in_ok-push : goal.loop-left-preserved-in_ok-push
loop-left-preserved-in_ok-push c =
    let left = c.loop-left.left.now in
    let claim = c.claim-item.result in
    let last = sym c.in_ok-last.ensures.last ∙ c.if-last.true in
    let pushed = c.in_ok-push.ensures in
    let object = c.object.ensures in
    record {
      found =
          taken left claim c.in-len1-up.len_at_least c.claim-item.is c.loop-left.objects _ _
          (shown_object c.object.result) last c.if-not-claim.true pushed object.object c.loop-left.invariant.found;
      valid =
          all_valid c.loop-left.objects _ (shown_object c.object.result) _ c.loop-left.invariant.valid object.valid
          pushed object.object;
      clean =
          unclashed_first left claim c.in-len1-up.len_at_least c.claim-item.is _ c.in_ok-last.ensures.clean
          c.loop-left.invariant.clean;
    }

pub loop-left-preserved : goal.loop-left-preserved
loop-left-preserved c =
    let left = c.loop-left.left.now in
    let claim = c.claim-item.result in
    let past : (is_last (claimed claim) (map claimed (behind left)) ≡ false ⊎ claim.dead ≡ true)
    → c.loop-left.objects ++ objects_in (tops (map claimed (behind left)))
    ≡ objects_in (tops (map claimed c.args.claims.now)) =
    λ which. passed left claim c.in-len1-up.len_at_least c.claim-item.is c.loop-left.objects _ which
    c.loop-left.invariant.found in
    record {
      found = elim c.else-last.branch
          as (λ _. c.loop-left.objects ++ objects_in (tops (map claimed (behind left)))
          ≡ objects_in (tops (map claimed c.args.claims.now))) [
            | else-last-via-then-last+else-not-claim w ↦ past (inr w.if-not-claim.false)
            | else-last-via-else-last w ↦ past (inl (sym c.in_ok-last.ensures.last ∙ w.if-last.false))
          ];
      valid = c.loop-left.invariant.valid;
      clean =
          unclashed_first left claim c.in-len1-up.len_at_least c.claim-item.is _ c.in_ok-last.ensures.clean
          c.loop-left.invariant.clean;
    }

pub returns-in_err-last-clause-err : goal.returns-in_err-last-clause-err
returns-in_err-last-clause-err c =
    let clash = c.in_err-last.ensures.clash in
    let refused : IsRefusedFor (has_clash (map claimed c.args.claims.now)) c.in_err-last.field-0.0 =
    rw clash.0 (clashed_first c.loop-left.left.now c.claim-item.result c.in-len1-up.len_at_least c.claim-item.is _
    clash.1 c.loop-left.invariant.clean) in
    search (rules, refused)
