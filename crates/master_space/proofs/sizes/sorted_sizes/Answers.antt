use Rattle.std.proofs.Common.{List, subst}
use Rattle.std.specs.List.Sorted.{IsPermutation}
use Rattle.entry.specs.declared.tablet.Size.{Size}
use Rattle.master_state.specs.Sizes.{live_objects}
use Rattle.master_space.proofs.LiveCore.{live_contents, live_once}
use Rattle.master_space.proofs.sizes.sorted_sizes.Goals as goal

pub returns : goal.returns
returns c =
    let d = c.args.core.now in
    record {
      objects = live_objects d;
      all = live_contents d c.show_valid.ensures;
      once = live_once d c.show_valid.ensures;
      of_objects = subst (λ (ss : List Size). IsPermutation ss c.sort.new.sizes.items) c.in_ok-sizes.ensures
          c.sort.ensures.same;
      order = c.sort.ensures.order;
    }
