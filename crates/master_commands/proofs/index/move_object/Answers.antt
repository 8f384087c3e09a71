use Rattle.places.proofs.Words.{relocated_set, set_grown}
use Rattle.master_commands.proofs.index.move_object.Goals as goal

pub returns-in-Create : goal.returns-in-Create
returns-in-Create c = λ k of. rw c.in-Create.is
    (λ keys kept none tells. set_grown keys c.args.index.now.held c.insert.new.self.held c.grow.new.self.held k _
    (c.insert.ensures.set keys k kept none tells of) (c.grow.ensures.same keys))

pub returns-in-Replace : goal.returns-in-Replace
returns-in-Replace c = λ k of. rw (c.in-Replace.is, c.relocate.ensures.moved)
    (λ keys kept was tells. relocated_set keys k c.args.index.now.held c.args.held c.args.place kept was of tells)

pub returns-in-Delete : goal.returns-in-Delete
returns-in-Delete c = λ k of. rw c.in-Delete.is (λ keys kept was. c.take_out.ensures.taken keys k kept was of)
