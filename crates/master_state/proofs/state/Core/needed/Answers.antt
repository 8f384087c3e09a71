use Rattle.std.proofs.Common.{◌≡◌, ℕ, zero, suc, ◌+◌, ◌-◌, ◌*◌, ◌/◌, ◌≤◌, ap, ◌∙◌, arith}
use Rattle.master_state.specs.Budget.{segments_taken, seglets_of, whole_seglets}
use Rattle.master_state.proofs.Refusals.{sizes_of}
use Rattle.master_state.proofs.state.Core.needed.Goals as goal

times : (n w : ℕ) → n ≤ 3 → n * w ≤ 3 * w
times zero w le = omega arith
times (suc zero) w le = omega arith
times (suc (suc zero)) w le = omega arith
times (suc (suc (suc zero))) w le = omega arith
times (suc (suc (suc (suc n)))) w le = absurd (omega arith)

pub overflow_add-result : goal.overflow_add-result
overflow_add-result c =
    let sizes = sizes_of c.self.inside.config c.self.invariant.2.config in
    let least = sizes.least_seglets in
    let most = sizes.most_seglets in
    let left = c.saturating_sub.ensures in
    let few = c.requires.few in
    let product = times c.saturating_sub.result (c.self.inside.config.segment /
    c.self.inside.config.seglet) (omega arith) in
    let small = c.closing_seglets.ensures.small in
    omega arith

pub overflow_mul-result : goal.overflow_mul-result
overflow_mul-result c =
    let sizes = sizes_of c.self.inside.config c.self.invariant.2.config in
    let least = sizes.least_seglets in
    let most = sizes.most_seglets in
    let left = c.saturating_sub.ensures in
    let few = c.requires.few in
    let product = times c.saturating_sub.result (c.self.inside.config.segment /
    c.self.inside.config.seglet) (omega arith) in
    omega arith

pub returns : goal.returns
returns c =
    let taken : c.saturating_sub.result ≡ c.args.free - segments_taken c.args.self.now =
    c.saturating_sub.ensures ∙ ap (λ (n : ℕ). c.args.free - n) c.segments_taken.ensures in
    let same : c.saturating_sub.result * whole_seglets c.self.inside.config + c.closing_seglets.result
    ≡ (c.args.free - segments_taken c.args.self.now) * whole_seglets c.args.self.now.config
    + seglets_of c.args.self.now.config c.args.self.now.head.image =
    λ i. taken i * whole_seglets (c.self.view_is i).config + c.closing_seglets.ensures.closing i in
    record { needed = same }
