use Rattle.std.proofs.Common.{length, sym, ◌∙◌, arith}
use Rattle.std.proofs.lemmas.Bool.{ltb-true}
use Rattle.cleaner.specs.Passes.{images_in}
use Rattle.cleaner.proofs.Reading.{own_between, own_limit, own_next}
use Rattle.cleaner.proofs.pass.go_on.Goals as goal

pub overflow_add-at : goal.overflow_add-at
overflow_add-at c =
    let limit =
    own_limit c.args.index.now.held.seed (images_in c.args.images.now.images) c.args.victims.now c.args.cursor.now
    c.args.len c.requires.within c.requires.cursor c.requires.len in
    omega (arith, limit)

pub go_to-requires-clause-between : goal.go_to-requires-clause-between
go_to-requires-clause-between c =
    own_between c.args.index.now.held.seed (images_in c.args.images.now.images) c.args.victims.now c.args.cursor.now
    c.args.len c.requires.within c.requires.cursor c.requires.len

pub returns-then-pass : goal.returns-then-pass
returns-then-pass c =
    let rest = c.pass.new.self in
    own_next c.args.index.now.held.seed (images_in c.args.images.now.images) c.args.victims.now c.args.cursor.now
    c.args.len c.requires.within c.requires.cursor c.requires.len rest c.pass.ensures.rest
    (ltb-true 0 (length rest) (sym c.pass.ensures.more ∙ c.if-pass.true))
