use Rattle.std.proofs.Common.{◌≡◌, ◌+◌, ◌-◌, ◌<◌, List, [], ◌∷◌, ◌++◌, length, get_or, sym, subst, arith}
use Rattle.std.proofs.lemmas.List.Edits.{length-remove}
use Rattle.places.specs.declared.place.Held.{Held}
use Rattle.place_index.specs.Steps.{IsShuffled}
use Rattle.place_index.proofs.Joining.{shuffled_over, shuffled_then}
use Rattle.place_index.proofs.Whole.{on_ok}
use Rattle.place_index.proofs.index.take_in.Goals as goal

pub loop-left-preserved-then-is_ok : goal.loop-left-preserved-then-is_ok
loop-left-preserved-then-is_ok g c =
    let table = g.T.Table.places c.loop-left.table in
    let waiting = c.loop-left.waiting.held in
    let new = g.T.Table.places c.push.new.self in
    let i = c.loop-left.left - 1 in
    let below : i < length waiting = omega (arith, c.loop-left.invariant.within, c.loop-left-test.true) in
    let ok = on_ok c.push.result c.push.ensures.ok (sym c.if-is_ok.ensures.value) in
    let one = subst (λ (xs : List Held). IsShuffled (table ++ get_or xs i _ ∷ []) new) c.as_slice.ensures ok in
    let over = subst (λ (xs : List Held). IsShuffled (table ++ waiting) (new ++ xs)) (sym c.cut.ensures.held)
    (shuffled_over table new waiting i _ below one) in
    let shorter : length c.cut.new.self.held + 1 ≡ length waiting =
    subst (λ (xs : List Held). length xs + 1 ≡ length waiting) (sym c.cut.ensures.held)
    (length-remove waiting i below) in
    record {
      places = shuffled_then (g.T.Table.places c.args.table.now ++ c.args.waiting.now.held) (table ++ waiting)
          (new ++ c.cut.new.self.held) c.loop-left.invariant.places over;
      room = omega (arith, c.loop-left.invariant.room, c.cut.ensures.room);
      within = omega (arith, shorter, below);
    }
