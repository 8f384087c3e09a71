use Rattle.std.proofs.Common.{[]}
use Rattle.embedded.specs.Replies.{GoesOn}
use Rattle.file_store.proofs.store.FileStore.tidy.Given as goal

abbrev pub invariant-loop : goal.invariant-loop
invariant-loop g l = GoesOn l.fn.self.master.knows l.self.master.knows []
