use Rattle.std.proofs.Common.{◌≡◌, ◌/◌, ◌<◌, ◌∙◌, get_or, length, true, false, sym, arith}
use Rattle.std.proofs.lemmas.List.{get_or_default}
use Rattle.rebuild_threads.proofs.Divided.{CoversRow, marked_still, row_covered}
use Rattle.rebuild_threads.proofs.divider.Divider.take.Given as given
use Rattle.rebuild_threads.proofs.divider.Divider.take.Goals.{After-len-2}
use Rattle.rebuild_threads.proofs.divider.Divider.take.Goals.{then-not-index+in_ok-divide, else-not-index}
use Rattle.rebuild_threads.proofs.divider.Divider.take.Goals as goal

-- the segment is divided
row_divided : (g : given.Over) (c : After-len-2 g) → CoversRow g.D.Division.parts g.D.Division.segments c.args.n
row_divided g c =
    let same = c.self.invariant.count ∙ sym c.self-2.invariant.count in
    let on : get_or c.self-2.inside.divided.items (c.args.n / c.self-2.inside.partitions) false ≡ true =
    elim c.if-not-index.branch as
    (λ _. get_or c.self-2.inside.divided.items (c.args.n / c.self-2.inside.partitions) false ≡ true) [
      | then-not-index+in_ok-divide w ↦ marked_still w.divide.new.self c.self-2.inside.divided.items
          c.self.inside.partitions c.self-2.inside.partitions c.args.n (sym w.self-is ∙ sym c.self-2.view_is) same
          w.in_ok-divide.ensures.ok
      | else-not-index w ↦
          let at = c.args.n / c.self.inside.partitions in
          let lt : at < length c.self.inside.divided.items =
          (let off = c.if-at-len.false in let is = c.len.ensures in let long = c.self.inside.divided.ok.0 in
          omega (arith, off, is, long)) in
          marked_still c.self.inside.divided.items c.self-2.inside.divided.items c.self.inside.partitions
          c.self-2.inside.partitions c.args.n (c.self.view_is ∙ sym w.self-is ∙ sym c.self-2.view_is) same
          (get_or_default c.self.inside.divided.items at false c.index.result.now lt ∙ sym c.index.ensures
          ∙ w.if-not-index.false)
    ] in
    λ low. row_covered g.D.Division.parts g.D.Division.segments c.self-2.inside.segments.now c.self-2.inside.will.now
    c.self-2.inside.partitions c.self-2.inside.divided.items c.self-2.invariant c.args.n on

pub returns-then-n-len-clause-covered : goal.returns-then-n-len-clause-covered
returns-then-n-len-clause-covered g c =
    row_divided g (goal.at.returns-then-n-len-clause-covered g c).After-len-2

pub returns-clause-covered : goal.returns-clause-covered
returns-clause-covered g c = row_divided g (goal.at.returns-clause-covered g c).After-len-2
