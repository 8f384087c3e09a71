use Rattle.std.proofs.Common.{◌≡◌, ◌+◌, ◌-◌, [], ◌++◌, List, take, drop, sym, ap, ◌∙◌, arith}
use Rattle.std.specs.List.{flat_map}
use Rattle.entry.specs.declared.entry.Object.{Object}
use Rattle.entry.specs.View.{shown_object}
use Rattle.claims.proofs.ObjectLists.{last_behind}
use Rattle.claims.proofs.objects.Objects.last.Goals as goal

pub returns-in-Some-clause-some : goal.returns-in-Some-clause-some
returns-in-Some-clause-some c =
    let others = c.self.inside.others.items in
    let n = c.loop-n.n - 1 in
    let some = c.loop-n-test.true in
    let within = c.loop-n.invariant.within in
    let back : n + 1 ≡ c.loop-n.n = omega (arith, some) in
    let last = c.in-Some.ensures.some in
    let empty : flat_map (λ (os : List Object). os) (drop (n + 1) others) ≡ [] =
    ap (λ m. flat_map (λ (os : List Object). os) (drop m others)) back ∙ c.loop-n.invariant.empty in (
      c.self.inside.first ++ (flat_map (λ (os : List Object). os) (take n others) ++ last.0),
      sym c.self.view_is ∙ last_behind c.self.inside.first others n c.index.result.now last.0
          (shown_object c.in-Some.object) (omega (arith, some, within)) c.index.ensures last.1 empty,
    )
