use Rattle.std.proofs.Common.{◌+◌, ℕ, List, drop, get_or, sym, ap, ◌∙◌}
use Rattle.std.proofs.lemmas.List.{drop_all, drop_more}
use Rattle.images.specs.Image.{Image}
use Rattle.images.specs.Images.{ImagesValue}
use Rattle.master_state.specs.Images.{staying}
use Rattle.master_rolls.proofs.Ended.{staying_next, staying_none}
use Rattle.master_rolls.proofs.ending.drop_victims.Goals as goal

pub loop-id-preserved : goal.loop-id-preserved
loop-id-preserved c =
    let vs = c.args.victims.now in
    let i = c.loop-id.id-index in
    let goes = c.drop_segment.ensures in
    let same = c.loop-id.invariant.same in
    record {
      left =
          ap (λ (v : ImagesValue). staying (drop (i + 1) vs) v.images) goes
          ∙ staying_next (get_or vs i 0) (drop (i + 1) vs) c.loop-id.closed.images
          ∙ ap (λ (ids : List ℕ). staying ids c.loop-id.closed.images) (sym (drop_more vs i 0 c.loop-id-test.true))
          ∙ c.loop-id.invariant.left;
      same = λ j. record {
        segment = (ap (λ (v : ImagesValue). v.segment) goes ∙ ap (λ (v : ImagesValue). v.segment) same) j;
        seglet = (ap (λ (v : ImagesValue). v.seglet) goes ∙ ap (λ (v : ImagesValue). v.seglet) same) j;
        seglets = (ap (λ (v : ImagesValue). v.seglets) goes ∙ ap (λ (v : ImagesValue). v.seglets) same) j;
        images = c.drop_segment.new.self.images;
        room = (ap (λ (v : ImagesValue). v.room) goes ∙ ap (λ (v : ImagesValue). v.room) same) j;
      };
    }

pub returns : goal.returns
returns c =
    let vs = c.args.victims.now in
    let cs = c.loop-id.closed.images in
    c.loop-id.invariant.same
    ∙ ap (λ (images : List Image). record c.args.closed.now { images = images })
    (sym (staying_none cs)
    ∙ ap (λ (ids : List ℕ). staying ids cs) (sym (drop_all c.loop-id.id-index vs c.loop-id-test.false))
    ∙ c.loop-id.invariant.left)
