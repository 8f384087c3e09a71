use Rattle.std.proofs.Common.{List, [], ◌∷◌, ◌++◌, sym, subst₂, OnOk}
use Rattle.std.proofs.lemmas.List.{get_or-set_same}
use Rattle.places.specs.declared.place.Held.{Held}
use Rattle.place_index.specs.Steps.{BringsNoHash}
use Rattle.hash_index.proofs.blocks.Blocks.add.Goals as goal

pub returns-clause-hashes : goal.returns-clause-hashes
returns-clause-hashes c =
    subst₂ (λ (x y : List Held). OnOk c.push.result (BringsNoHash (x ++ c.args.held ∷ []) y))
    c.bucket_mut.ensures.value (sym (get_or-set_same c.args.self.now c.args.at c.push.new.self [] c.requires))
    c.push.ensures.hashes
