use Rattle.std.proofs.Common.{◌≡◌, ◌≤◌, ◌+◌, ℕ, ap, sym, subst, ◌∙◌, arith}
use Rattle.master_state.proofs.Refusals.{sizes_of}
use Rattle.master_state.specs.Data.{MasterData}
use Rattle.master_state.specs.Log.{log_set_ids}
use Rattle.tally.proofs.Filling.{fills_at_once}
use Rattle.tally.specs.Fills.{kept_len}
use Rattle.master_space.proofs.keeping.fill_with.Goals as goal

pub fill-requires-clause-limit : goal.fill-requires-clause-limit
fill-requires-clause-limit c = (sizes_of c.core.inside.config c.core.invariant.2.config).most_segment

pub returns-then-len-limit-clause-limit : goal.returns-then-len-limit-clause-limit
returns-then-len-limit-clause-limit c =
    let most = (sizes_of c.core.inside.config c.core.invariant.2.config).most_segment in
    omega (arith, c.if-len-limit.true, most)

pub returns-then-len-limit-clause-filled : goal.returns-then-len-limit-clause-filled
returns-then-len-limit-clause-filled c =
    let d = c.args.core.now in
    let es = c.args.segment.now in
    let kept : c.in-Some.kept ≡ kept_len (log_set_ids d) d.index c.args.id es = c.in-Some.ensures.kept in
    let fits : c.args.level.len + kept_len (log_set_ids d) d.index c.args.id es ≤ d.config.segment =
    subst (λ (m : MasterData). c.args.level.len + kept_len (log_set_ids d) d.index c.args.id es ≤ m.config.segment)
    c.core.view_is
    (subst (λ (n : ℕ). c.args.level.len + n ≤ c.core.inside.config.segment) kept c.if-len-limit.true) in
    ap (λ (n : ℕ). record { survivor = c.args.level.survivor; len = c.args.level.len + n }) kept
    ∙ sym (fills_at_once d.config.segment (log_set_ids d) d.index c.args.id es c.args.level fits)
