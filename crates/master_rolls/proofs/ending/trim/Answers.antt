use Rattle.std.proofs.Common.{◌≡◌, ℕ, suc, ◌+◌, List, sym, ap, ◌∙◌, arith}
use Rattle.std.specs.List.{range_with_len}
use Rattle.cleaner.proofs.SurvivorIds.{ids_more}
use Rattle.images.specs.Image.{Image}
use Rattle.images.specs.Sorted.{changed}
use Rattle.images.specs.Steps.{trimmed}
use Rattle.master_state.specs.Images.{all_trimmed}
use Rattle.master_state.proofs.Rising.{has_more}
use Rattle.master_rolls.proofs.Ended.{swapped}
use Rattle.master_rolls.proofs.Trimming.{trimmed_none, trimmed_more}
use Rattle.master_rolls.proofs.ending.trim.Goals as goal

-- one survivor more
next_trimmed : (first n : ℕ) (cs : List Image) → changed (all_trimmed (range_with_len first n) cs) (first + n) trimmed
    ≡ all_trimmed (range_with_len first (n + 1)) cs
next_trimmed first n cs =
    let next : suc n ≡ n + 1 = omega arith in
    trimmed_more (range_with_len first n) (first + n) cs (has_more (range_with_len first n) (first + n)) swapped
    ∙ ap (λ (ids : List ℕ). all_trimmed ids cs) (sym (ids_more first n))
    ∙ ap (λ (k : ℕ). all_trimmed (range_with_len first k) cs) next

pub loop-at-init : goal.loop-at-init
loop-at-init c = λ i. record c.args.closed.now { images = sym (trimmed_none c.args.closed.now.images) i }

pub loop-at-preserved : goal.loop-at-preserved
loop-at-preserved c =
    c.trim.ensures
    ∙ (λ i. record (c.loop-at.invariant i) {
      images = changed (c.loop-at.invariant i).images (c.id.ensures i) trimmed;
    })
    ∙ ap (λ (xs : List Image). record c.args.closed.now { images = xs })
    (next_trimmed c.args.survivors.first c.loop-at.at c.args.closed.now.images)

pub returns : goal.returns
returns c =
    let end : c.loop-at.at ≡ c.args.survivors.count = omega (arith, c.loop-at-test.false, c.loop-at.auto.at-end) in
    c.loop-at.invariant
    ∙ ap (λ (k : ℕ). record c.args.closed.now {
      images = all_trimmed (range_with_len c.args.survivors.first k) c.args.closed.now.images;
    }) end
