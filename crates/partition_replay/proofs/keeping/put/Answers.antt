use Rattle.std.proofs.Common.{◌≡◌, ◌∷◌, sym, ap, subst, ◌∙◌, arith, length}
use Rattle.std.specs.List.{IsDistinct}
use Rattle.std.specs.Map.{keys_of}
use Rattle.std.proofs.lemmas.Map.Keys.{IsDistinct-tail}
use Rattle.partition_replay.specs.Keeping.{kept_in}
use Rattle.partition_replay.proofs.MapLemmas.{Entries, same_key, put_one, moved_one}
use Rattle.partition_replay.proofs.keeping.put.Goals as goal

pub loop-key-preserved : goal.loop-key-preserved
loop-key-preserved c =
    let p = c.in-Some.key in
    let x = c.in-Some.latest in
    let left = c.next.new.self in
    let old = c.loop-key.kept.entries in
    let new = c.insert.new.self.entries in
    let split : c.loop-key.key-iterator ≡ (p, x) ∷ left = c.in-Some.ensures.steps in
    let unique : IsDistinct same_key (keys_of ((p, x) ∷ left)) =
    subst (λ (es : Entries). IsDistinct same_key (keys_of es)) split c.loop-key.invariant.unique in
    let long = ap length split in
    let room = c.loop-key.invariant.room in
    let spare = c.in-Ok.ensures.spare in
    record {
      unique = IsDistinct-tail same_key p (keys_of left) unique;
      room = omega (arith, long, room, spare);
      same = λ k. moved_one p x left old new unique
          (put_one old new p x c.in-Ok.ensures.updates.1 c.in-Ok.ensures.updates.2) k
          ∙ ap (λ (es : Entries). kept_in es old k) (sym split) ∙ c.loop-key.invariant.same k;
    }
