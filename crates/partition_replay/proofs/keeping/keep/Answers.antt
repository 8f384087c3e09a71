use Rattle.std.proofs.Common.{rules, ◌∷◌, [], subst}
use Rattle.claims.specs.Claims.{claimed}
use Rattle.partition_replay.specs.Keeping.{kept_in, IsAbove, IsUnkept}
use Rattle.partition_replay.proofs.MapLemmas.{put_one, put_fresh}
use Rattle.partition_replay.proofs.Tops.{adds_none, adds_one, clash_one}
use Rattle.partition_replay.proofs.Clashing.{above_calm}
use Rattle.partition_replay.proofs.keeping.keep.Goals as goal

pub returns-in_err-is_above-clause-err : goal.returns-in_err-is_above-clause-err
returns-in_err-is_above-clause-err c =
    let old = kept_in c.args.fresh.now.entries c.args.kept.now.entries in
    let clash = c.in_err-is_above.ensures.clash in
    let refused : IsUnkept old (claimed c.args.claim.now ∷ []) c.in_err-is_above.field-0.0 =
    rw clash.0 (clash_one old (claimed c.args.claim.now) clash.1) in
    search (rules, refused)

pub returns-then-not-branch-clause-ok : goal.returns-then-not-branch-clause-ok
returns-then-not-branch-clause-ok c =
    let old = kept_in c.args.fresh.now.entries c.args.kept.now.entries in
    let claim = claimed c.args.claim.now in
    adds_none old claim (subst (IsAbove (old claim.key) claim) c.if-not-branch.true c.in_ok-is_above.ensures.ok)

pub returns-in-Ok-clause-ok : goal.returns-in-Ok-clause-ok
returns-in-Ok-clause-ok c =
    let old = kept_in c.args.fresh.now.entries c.args.kept.now.entries in
    let new = kept_in c.insert.new.self.entries c.args.kept.now.entries in
    let claim = claimed c.args.claim.now in
    adds_one old new claim c.of.result (subst (IsAbove (old claim.key) claim) c.if-not-branch.false
    c.in_ok-is_above.ensures.ok)
    c.of.ensures
    (put_fresh c.args.fresh.now.entries c.insert.new.self.entries c.args.kept.now.entries claim.key c.of.result
    (put_one c.args.fresh.now.entries c.insert.new.self.entries c.args.claim.now.key c.of.result
    c.in-Ok.ensures.updates.1 c.in-Ok.ensures.updates.2))

pub returns-then-not-branch-clause-calm : goal.returns-then-not-branch-clause-calm
returns-then-not-branch-clause-calm c =
    let old = kept_in c.args.fresh.now.entries c.args.kept.now.entries in
    let claim = claimed c.args.claim.now in
    above_calm (old claim.key) claim _ c.in_ok-is_above.ensures.ok

pub returns-in-Ok-clause-calm : goal.returns-in-Ok-clause-calm
returns-in-Ok-clause-calm c =
    let old = kept_in c.args.fresh.now.entries c.args.kept.now.entries in
    let claim = claimed c.args.claim.now in
    above_calm (old claim.key) claim _ c.in_ok-is_above.ensures.ok
