use Rattle.std.proofs.Common.{◌≡◌, ◌+◌, ◌<◌, ℕ, length, map, sym, subst}
use Rattle.images.specs.contracts.images.Images.{the_view}
use Rattle.images.specs.Images.{ImagesValue}
use Rattle.std.specs.Prelude.{IfOk, IsErrOf, ◌↔◌}
use Rattle.entry.specs.Text.{text_of}
use Rattle.entry.specs.View.{shown}
use Rattle.segment.specs.declared.fault.AppendFault.TheVariants.{Full}
use Rattle.images.specs.Sorted.{IsWhole}
use Rattle.images.proofs.Counts.{appended_valid, appended_is, len_is, read_room}
use Rattle.images.proofs.images.Images.append.Goals as goal

pub invariant_of-self : goal.invariant_of-self
invariant_of-self c =
    let place = rw c.as_slice.ensures.value at c.in-Some.ensures.found in
    let whole = subst (λ (w : ImagesValue). IsWhole w.images c.args.id) (sym c.self.view_is) c.requires.whole in
    rw c.self.invariant.0
    (appended_valid (the_view c.self.inside) c.self.invariant.1 c.args.id c.in-Some.at place c.index_mut.result.now
    c.index_mut.ensures.value
    whole (map shown c.args.unit.now) c.append.new.self c.append.result c.append.ensures.ok c.append.ensures.err
    c.append.ensures.full)

pub returns-clause-ok : goal.returns-clause-ok
returns-clause-ok c =
    let place = rw c.as_slice.ensures.value at c.in-Some.ensures.found in
    let whole = subst (λ (w : ImagesValue). IsWhole w.images c.args.id) (sym c.self.view_is) c.requires.whole in
    rw (← c.self.view_is)
    (appended_is (the_view c.self.inside) c.self.invariant.1 c.args.id c.in-Some.at place c.index_mut.result.now
    c.index_mut.ensures.value
    whole (map shown c.args.unit.now) c.append.new.self c.append.result c.append.ensures.ok c.append.ensures.err)

pub returns-clause-place : goal.returns-clause-place
returns-clause-place c =
    let place = rw c.as_slice.ensures.value at c.in-Some.ensures.found in
    let len = len_is (the_view c.self.inside) c.self.invariant.1 c.args.id c.in-Some.at place c.index_mut.result.now
    c.index_mut.ensures.value in
    rw (← c.self.view_is) (subst (λ (n : ℕ). IfOk c.append.result (λ (at : ℕ). at ≡ n))
    (sym len) c.append.ensures.place)

pub returns-clause-full : goal.returns-clause-full
returns-clause-full c =
    let place = rw c.as_slice.ensures.value at c.in-Some.ensures.found in
    let len = len_is (the_view c.self.inside) c.self.invariant.1 c.args.id c.in-Some.at place c.index_mut.result.now
    c.index_mut.ensures.value in
    rw (← c.self.view_is)
    (subst (λ (n : ℕ). IsErrOf c.append.result Full ↔ (c.self.inside.segment
    < n + length (text_of (map shown c.args.unit.now)))) (sym len) c.append.ensures.full)

pub append-requires-clause-room : goal.append-requires-clause-room
append-requires-clause-room c =
    let place = rw c.as_slice.ensures.value at c.in-Some.ensures.found in
    let whole = subst (λ (w : ImagesValue). IsWhole w.images c.args.id) (sym c.self.view_is) c.requires.whole in
    read_room (the_view c.self.inside) c.self.invariant.1 c.args.id c.in-Some.at place c.index_mut.result.now
    c.index_mut.ensures.value whole
