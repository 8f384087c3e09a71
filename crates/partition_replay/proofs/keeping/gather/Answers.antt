use Rattle.std.proofs.Common.{rules, ◌≡◌, ◌∷◌, ◌++◌, [], sym, subst, ◌∙◌}
use Rattle.entry.specs.View.{shown}
use Rattle.claims.specs.Claims.{claimed, claims_of}
use Rattle.claims.specs.declared.fault.ReplayFault.TheVariants as fault
use Rattle.partition_replay.specs.Keeping.{kept_at, kept_in, IsUnkept, ClashAbove}
use Rattle.partition_replay.proofs.MapLemmas.{Entries}
use Rattle.partition_replay.proofs.Tops.{adds_nothing, unkept_more}
use Rattle.partition_replay.proofs.Clashing.{HasCome, none_came, came_none, came_claim, clash_now, claims_on}
use Rattle.partition_replay.proofs.Clashing.{all_pass, all_added}
use Rattle.partition_replay.proofs.keeping.gather.Goals as goal

pub loop-entry-init : goal.loop-entry-init
loop-entry-init c =
    let old = c.args.kept.now.entries in
    let left = c.into_iter-entry-iterator.result in (
      [],
      subst (λ (es : Entries). HasCome (kept_at old) c.args.entries.now [] left (kept_in es old))
          (sym c.in_ok-fresh.ensures.empty)
          (none_came (kept_at old) c.args.entries.now left
          (c.into_iter-entry-iterator.ensures.into_iter_gives ∙ c.iter-entry-items.ensures)
          (adds_nothing (kept_at old))),
    )

pub loop-entry-preserved-in-Continue-branch-2 : goal.loop-entry-preserved-in-Continue-branch-2
loop-entry-preserved-in-Continue-branch-2 c =
    let old = c.args.kept.now.entries in
    let was = c.loop-entry.invariant in (
      was.0 ++ shown c.in-Some.entry ∷ [],
      came_claim (kept_at old) c.args.entries.now was.0 (shown c.in-Some.entry) c.loop-entry.entry-iterator
          c.next.new.self c.in-Some.ensures.steps (kept_in c.loop-entry.fresh.entries old) was.1
          (claimed c.in-Some-of.claim) c.in-Some-of.ensures (kept_in c.keep.new.fresh.entries old)
          c.in_ok-keep.ensures.calm c.in_ok-keep.ensures.ok,
    )

pub returns-in_err-keep-clause-err : goal.returns-in_err-keep-clause-err
returns-in_err-keep-clause-err c =
    let old = c.args.kept.now.entries in
    let claim = claimed c.in-Some-of.claim in
    let was = c.loop-entry.invariant in
    let whole = claims_on (kept_at old) c.args.entries.now was.0 (shown c.in-Some.entry) c.loop-entry.entry-iterator
    c.next.new.self c.in-Some.ensures.steps (kept_in c.loop-entry.fresh.entries old) was.1 claim
    c.in-Some-of.ensures in
    let refused : IsUnkept (kept_at old) (claims_of c.args.entries.now) c.in_err-keep.field-0.0 =
    subst (λ cs. IsUnkept (kept_at old) cs c.in_err-keep.field-0.0) whole
    (unkept_more (kept_at old) (kept_in c.loop-entry.fresh.entries old) (claims_of was.0) (claim ∷ [])
    (claims_of c.next.new.self) c.in_err-keep.field-0.0 was.1.adds c.in_err-keep.ensures.err) in
    search (rules, refused)

pub loop-entry-preserved : goal.loop-entry-preserved
loop-entry-preserved c =
    let old = c.args.kept.now.entries in
    let was = c.loop-entry.invariant in (
      was.0 ++ shown c.in-Some.entry ∷ [],
      came_none (kept_at old) c.args.entries.now was.0 (shown c.in-Some.entry) c.loop-entry.entry-iterator
          c.next.new.self c.in-Some.ensures.steps (kept_in c.loop-entry.fresh.entries old) was.1
          c.in_default.ensures,
    )

pub returns-in_err-keep-clause-clash : goal.returns-in_err-keep-clause-clash
returns-in_err-keep-clause-clash c =
    let old = c.args.kept.now.entries in
    let was = c.loop-entry.invariant in
    let refused : c.in_err-keep.field-0.0 ≡ fault.Clash → ClashAbove (kept_at old) c.args.entries.now =
    λ is. clash_now (kept_at old) c.args.entries.now was.0 (shown c.in-Some.entry) c.loop-entry.entry-iterator
    c.next.new.self c.in-Some.ensures.steps (kept_in c.loop-entry.fresh.entries old) was.1
    (claimed c.in-Some-of.claim) c.in-Some-of.ensures (c.in_err-keep.ensures.clash is) in
    search (rules, refused)

pub returns-clause-ok : goal.returns-clause-ok
returns-clause-ok c =
    let old = c.args.kept.now.entries in
    let was = c.loop-entry.invariant in
    all_added (kept_at old) c.args.entries.now was.0 c.loop-entry.entry-iterator
    (kept_in c.loop-entry.fresh.entries old) was.1 c.in-None.ensures.steps.0

pub returns-clause-passed : goal.returns-clause-passed
returns-clause-passed c =
    let old = c.args.kept.now.entries in
    let was = c.loop-entry.invariant in
    all_pass (kept_at old) c.args.entries.now was.0 c.loop-entry.entry-iterator
    (kept_in c.loop-entry.fresh.entries old) was.1 c.in-None.ensures.steps.0
