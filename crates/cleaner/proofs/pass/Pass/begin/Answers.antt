use Rattle.std.proofs.Common.{ℕ, List, subst, ◌∙◌}
use Rattle.cleaner.specs.Passes.{images_in}
use Rattle.cleaner.specs.Walks.{GoesTo}
use Rattle.cleaner.proofs.Places.{on_start}
use Rattle.cleaner.proofs.pass.Pass.begin.Goals as goal

pub returns-clause-rest : goal.returns-clause-rest
returns-clause-rest c =
    let images = images_in c.args.images.now.images in
    let goes =
    subst (λ (vs : List ℕ). GoesTo c.args.index.now.held.seed images vs (record { victim = 0; at = 0 })
    c.go_to.new.cursor) c.as_slice.ensures c.go_to.ensures in
    goes.rest ∙ on_start images c.args.victims
