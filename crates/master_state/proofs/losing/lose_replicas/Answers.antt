use Rattle.std.proofs.Common.{◌≡◌, ◌<◌, [], true, false, length, get_or, List, sym, ap}
use Rattle.std.proofs.Common.{◌∙◌, arith}
use Rattle.std.specs.Prelude.{is_some}
use Rattle.images.specs.Image.{Image, closed_image}
use Rattle.images.specs.Images.{ImagesValue}
use Rattle.images.specs.Sorted.{changed_front, changed_at}
use Rattle.images.specs.Steps.{fewer_replicas}
use Rattle.images.proofs.Fronts.{front_none, front_all, front_length}
use Rattle.master_state.specs.Steps.{lost_image}
use Rattle.master_state.proofs.Homes.{working_many}
use Rattle.master_state.proofs.LostCore.{all_front, next_front}
use Rattle.master_state.proofs.losing.lose_replicas.Goals as goal
use Rattle.master_state.proofs.losing.lose_replicas.Goals.{then-is_some, else-is_some}

pub loop-place-init : goal.loop-place-init
loop-place-init c = (
  omega arith,
  λ i. record c.args.closed.now {
    images = sym (front_none (lost_image c.args.config.now c.args.failed.now c.args.backup)
        c.args.closed.now.images) i;
  },
)

pub replicas_at-replicas-requires : goal.replicas_at-replicas-requires
replicas_at-replicas-requires c =
    let images = ap (λ (v : ImagesValue). length v.images) c.loop-place.invariant.1 in
    let count = front_length (lost_image c.args.config.now c.args.failed.now c.args.backup) c.args.closed.now.images
    c.loop-place.place in
    let test = c.loop-place-test.true in
    let end = c.loop-place.auto.place-end in
    let len = c.len-place-end.ensures in
    omega arith

pub id_at-id-requires : goal.id_at-id-requires
id_at-id-requires c =
    let images = ap (λ (v : ImagesValue). length v.images) c.loop-place.invariant.1 in
    let count = front_length (lost_image c.args.config.now c.args.failed.now c.args.backup) c.args.closed.now.images
    c.loop-place.place in
    let test = c.loop-place-test.true in
    let end = c.loop-place.auto.place-end in
    let len = c.len-place-end.ensures in
    omega arith

pub lose_at-requires : goal.lose_at-requires
lose_at-requires c =
    let images = ap (λ (v : ImagesValue). length v.images) c.loop-place.invariant.1 in
    let count = front_length (lost_image c.args.config.now c.args.failed.now c.args.backup) c.args.closed.now.images
    c.loop-place.place in
    let test = c.loop-place-test.true in
    let end = c.loop-place.auto.place-end in
    let len = c.len-place-end.ensures in
    omega arith

pub place_in-requires-clause-replicas : goal.place_in-requires-clause-replicas
place_in-requires-clause-replicas c =
    let d : Image = closed_image 0 [] 0 in
    let test = c.loop-place-test.true in
    let end = c.loop-place.auto.place-end in
    let len = c.len-place-end.ensures in
    let images = ap (λ (v : ImagesValue). v.images) c.loop-place.invariant.1 in
    let count = front_length (lost_image c.args.config.now c.args.failed.now c.args.backup) c.args.closed.now.images
    c.loop-place.place in
    let same = ap (λ (xs : List Image). length xs) images in
    let few = all_front c.args.config.now c.args.failed.now c.args.backup c.args.config.now.replicas
    c.args.closed.now.images c.loop-place.place d c.requires.replicas (omega arith) in
    let read = c.replicas_at-replicas.ensures d in
    let own = ap (λ (xs : List Image). (get_or xs c.loop-place.place d).replicas) images in
    let many = working_many c.args.config.now c.args.failed.now c.id_at-id.result c.args.config.now.replicas
    c.requires.left in
    omega arith

pub returns : goal.returns
returns c =
    let test = c.loop-place-test.false in
    let end = c.loop-place.auto.place-end in
    let len = c.len-place-end.ensures in
    let le = c.loop-place.invariant.0 in
    let all : c.loop-place.place ≡ length c.args.closed.now.images = omega arith in
    c.loop-place.invariant.1
    ∙ (λ i. record c.args.closed.now {
      images = changed_front c.args.closed.now.images (all i)
          (lost_image c.args.config.now c.args.failed.now c.args.backup);
    })
    ∙ (λ i. record c.args.closed.now {
      images = front_all (lost_image c.args.config.now c.args.failed.now c.args.backup) c.args.closed.now.images i;
    })

pub loop-place-preserved : goal.loop-place-preserved
loop-place-preserved c =
    let test = c.loop-place-test.true in
    let end = c.loop-place.auto.place-end in
    let len = c.len-place-end.ensures in
    let lt : c.loop-place.place < length c.args.closed.now.images = omega arith in
    let d : Image = closed_image 0 [] 0 in
    let inv = c.loop-place.invariant.1 in
    let next = next_front c.args.config.now c.args.failed.now c.args.backup c.args.closed.now.images
    c.loop-place.closed.images c.loop-place.place d c.id_at-id.result c.replicas_at-replicas.result c.place_in.result lt
    (ap (λ (v : ImagesValue). v.images) inv) (c.id_at-id.ensures d) (c.replicas_at-replicas.ensures d)
    c.place_in.ensures.place in (
      omega arith,
      elim c.if-is_some.branch [
        | then-is_some w ↦
            let here : is_some c.place_in.result ≡ true = sym c.is_some.ensures ∙ w.if-is_some.true in
            w.closed-is ∙ w.lose_at.ensures
            ∙ (λ i. record (inv i) { images = changed_at c.loop-place.closed.images c.loop-place.place fewer_replicas })
            ∙ (λ i. record c.args.closed.now { images = next true here i })
        | else-is_some w ↦
            let away : is_some c.place_in.result ≡ false = sym c.is_some.ensures ∙ w.if-is_some.false in
            w.closed-is ∙ (λ i. record (inv i) { images = next false away i })
      ],
    )
