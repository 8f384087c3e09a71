use Rattle.master_space.proofs.copying.count_copy.Goals as goal

pub returns-in-Moved : goal.returns-in-Moved
returns-in-Moved c = rw c.in-Moved.is (c.shrink.new.self, c.shrink.ensures.shrunk, c.grow.ensures.grown)
