use Rattle.std.proofs.Common.{◌≡◌, ◌+◌, ◌-◌, ◌≤◌, ℕ, List, length, ap, refl, ◌∙◌}
use Rattle.images.specs.contracts.images.Images.{the_view}
use Rattle.images.specs.Image.{Image}
use Rattle.images.specs.Images.{count_of, used_seglets}
use Rattle.std.specs.Int.{div_ceil}
use Rattle.entry.specs.Text.{text_of}
use Rattle.images.specs.Steps.{replaced_by}
use Rattle.images.proofs.Counts.{replaced_valid, changed_is, count_is, read_count, enough, too_few, not_too_few}
use Rattle.images.proofs.images.Images.replace.Goals as goal

pub invariant_of-self-2 : goal.invariant_of-self-2
invariant_of-self-2 c =
    let place = rw c.as_slice.ensures.value at c.in-Some.ensures.found in
    let v = the_view c.self.inside in
    let x = c.index_mut-image.result.now in
    let len = rw (← c.self.view_is) at c.requires.within in
    let own : count_of v.segment v.seglet x ≤ used_seglets v =
    read_count v c.self.invariant.1 c.args.id c.in-Some.at place x c.index_mut-image.ensures.value in
    let count : c.seglets_of-count.result ≡ div_ceil (length (text_of c.args.segment)) v.seglet =
    c.seglets_of-count.ensures ∙ ap (λ (n : ℕ). div_ceil n v.seglet) c.bytes_len.ensures in
    let fits : used_seglets v - count_of v.segment v.seglet x + div_ceil
    (length (text_of c.args.segment)) v.seglet ≤ v.seglets =
    enough v x (length (text_of c.args.segment)) c.self.inside.used c.count_of.result c.seglets_of-count.result
    c.self.invariant.0 c.count_of.ensures count own c.self.invariant.1.fits c.if-count-self.false in
    rw (c.replace.ensures, c.self.invariant.0, c.count_of.ensures, count)
    (replaced_valid v c.self.invariant.1 c.args.id c.in-Some.at place x c.index_mut-image.ensures.value
    c.args.segment len fits)

pub returns-clause-ok : goal.returns-clause-ok
returns-clause-ok c =
    let place = rw c.as_slice.ensures.value at c.in-Some.ensures.found in
    let images = changed_is (the_view c.self.inside) c.self.invariant.1 c.args.id c.in-Some.at place
    c.index_mut-image.result.now c.index_mut-image.ensures.value (replaced_by c.args.segment) in
    rw (← c.self.view_is, c.replace.ensures) (ap (λ (xs : List Image). record (the_view c.self.inside) { images = xs })
    images)

pub returns-then-count-self-clause-no_room : goal.returns-then-count-self-clause-no_room
returns-then-count-self-clause-no_room c =
    let place = rw c.as_slice.ensures.value at c.in-Some.ensures.found in
    let count = count_is (the_view c.self.inside) c.self.invariant.1 c.args.id c.in-Some.at place
    c.index_mut-image.result.now c.index_mut-image.ensures.value in
    let v = the_view c.self.inside in
    let x = c.index_mut-image.result.now in
    let own : count_of v.segment v.seglet x ≤ used_seglets v =
    read_count v c.self.invariant.1 c.args.id c.in-Some.at place x c.index_mut-image.ensures.value in
    let new : c.seglets_of-count.result ≡ div_ceil (length (text_of c.args.segment)) v.seglet =
    c.seglets_of-count.ensures ∙ ap (λ (n : ℕ). div_ceil n v.seglet) c.bytes_len.ensures in
    rw (← c.self.view_is, count) (
      (λ _. too_few v x (length (text_of c.args.segment)) c.self.inside.used c.count_of.result c.seglets_of-count.result
          c.self.invariant.0 c.count_of.ensures new own c.self.invariant.1.fits c.if-count-self.true),
      (λ _. refl),
    )

pub returns-clause-no_room : goal.returns-clause-no_room
returns-clause-no_room c =
    let place = rw c.as_slice.ensures.value at c.in-Some.ensures.found in
    let count = count_is (the_view c.self.inside) c.self.invariant.1 c.args.id c.in-Some.at place
    c.index_mut-image.result.now c.index_mut-image.ensures.value in
    let v = the_view c.self.inside in
    let x = c.index_mut-image.result.now in
    let own : count_of v.segment v.seglet x ≤ used_seglets v =
    read_count v c.self.invariant.1 c.args.id c.in-Some.at place x c.index_mut-image.ensures.value in
    let new : c.seglets_of-count.result ≡ div_ceil (length (text_of c.args.segment)) v.seglet =
    c.seglets_of-count.ensures ∙ ap (λ (n : ℕ). div_ceil n v.seglet) c.bytes_len.ensures in
    rw (← c.self.view_is, count) (not_too_few v x (length (text_of c.args.segment)) c.self.inside.used c.count_of.result
    c.seglets_of-count.result
    c.self.invariant.0 c.count_of.ensures new own c.self.invariant.1.fits c.if-count-self.false)
