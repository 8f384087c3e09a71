use Rattle.std.proofs.Common.{List, [], ◌∷◌, ◌++◌, ◌+◌, ◌≤◌, ap, ◌∙◌, arith}
use Rattle.std.proofs.lemmas.Result.{err_from_is_err_and}
use Rattle.places.specs.declared.place.Held.{Held}
use Rattle.hash_index.proofs.Blocked.{last_among, same_are, same_in_blocks, blocks_more, more_in_blocks}
use Rattle.hash_index.proofs.Blocked.{last_are, last_in_blocks}
use Rattle.hash_index.proofs.blocks.Blocks.push.Goals as goal
use Rattle.hash_index.proofs.blocks.Blocks.push.Goals.{then-self-eq0+in_ok-block+in_ok-push+in_ok-push-2}
use Rattle.hash_index.proofs.blocks.Blocks.push.Goals.{else-self-eq0+in_ok-push-3}

pub index_mut-requires : goal.index_mut-requires
index_mut-requires c =
    let s = c.self.inside in
    omega (arith, s.blocks.ok.0, last_among s.len s.blocks.items c.self.invariant.0 c.if-self-eq0.false)

pub invariant_of-self-in_err-push-3 : goal.invariant_of-self-in_err-push-3
invariant_of-self-in_err-push-3 c =
    let s = c.self.inside in (
      same_are s.len s.blocks.items c.self.invariant.0 c.if-self-eq0.false c.index_mut.result.now
          c.push-else-self-eq0.new.self c.index_mut.ensures.value c.in_err-push-3.ensures.items,
      c.self.invariant.1,
    )

pub returns-in_err-push-3-clause-err : goal.returns-in_err-push-3-clause-err
returns-in_err-push-3-clause-err c =
    let s = c.self.inside in
    let out = c.from_residual-in_err-push-3 in
    let failed = err_from_is_err_and out.result out.ensures.1 in
    rw failed.1
    (same_in_blocks s.len s.blocks.items c.self.invariant.0 c.if-self-eq0.false c.index_mut.result.now
    c.push-else-self-eq0.new.self c.index_mut.ensures.value c.in_err-push-3.ensures.items ∙ c.self.view_is)

pub invariant_of-self-2 : goal.invariant_of-self-2
invariant_of-self-2 c =
    let s = c.self.inside in
    let are = c.self.invariant.0 in
    let few : s.len + 1 ≤ 4611686018427387904 = omega (arith, c.if-self-ge-MOST.false) in
    elim c.if-self-eq0.branch [
      | then-self-eq0+in_ok-block+in_ok-push+in_ok-push-2 w ↦ rw (w.self-inside-is, w.in_ok-push-2.ensures.items) (
        blocks_more s.len s.blocks.items w.push.new.self c.args.bucket are w.if-self-eq0.true
            (w.in_ok-push.ensures.items
            ∙ ap (λ (xs : List (List Held)). xs ++ c.args.bucket ∷ []) w.in_ok-block.ensures.items),
        few,
      )
      | else-self-eq0+in_ok-push-3 w ↦ rw w.self-inside-is (
        last_are s.len s.blocks.items are w.if-self-eq0.false w.index_mut.result.now w.push-else-self-eq0.new.self
            w.index_mut.ensures.value c.args.bucket w.in_ok-push-3.ensures.items,
        few,
      )
    ]

pub returns-clause-ok : goal.returns-clause-ok
returns-clause-ok c =
    let s = c.self.inside in
    let are = c.self.invariant.0 in
    let x = c.args.bucket in
    elim c.if-self-eq0.branch [
      | then-self-eq0+in_ok-block+in_ok-push+in_ok-push-2 w ↦ rw (w.self-inside-is, w.in_ok-push-2.ensures.items)
          (more_in_blocks s.blocks.items w.push.new.self x
          (w.in_ok-push.ensures.items ∙ ap (λ (xs : List (List Held)). xs ++ x ∷ []) w.in_ok-block.ensures.items)
          ∙ ap (λ (xs : List (List Held)). xs ++ x ∷ []) c.self.view_is)
      | else-self-eq0+in_ok-push-3 w ↦ rw w.self-inside-is
          (last_in_blocks s.len s.blocks.items are w.if-self-eq0.false w.index_mut.result.now
          w.push-else-self-eq0.new.self w.index_mut.ensures.value x w.in_ok-push-3.ensures.items
          ∙ ap (λ (xs : List (List Held)). xs ++ x ∷ []) c.self.view_is)
    ]
