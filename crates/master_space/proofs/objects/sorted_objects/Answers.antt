use Rattle.std.proofs.Common.{◌≡◌, List, map, sym, ap, subst, ◌∙◌}
use Rattle.std.proofs.lemmas.Result.{IfOk-weaker}
use Rattle.entry.specs.declared.entry.Object.{Object}
use Rattle.entry.specs.declared.view.ObjectRef.{ObjectRef}
use Rattle.entry.specs.View.{shown_object}
use Rattle.master_space.specs.Objects.{AreObjectsOf}
use Rattle.master_state.specs.Log.{state_now}
use Rattle.master_state.specs.Sizes.{live_objects}
use Rattle.master_space.proofs.LiveCore.{live_contents, live_once}
use Rattle.master_space.proofs.ObjectOrder.{listed}
use Rattle.master_space.proofs.objects.sorted_objects.Goals as goal

pub returns : goal.returns
returns c =
    let d = c.args.core.now in
    let contents = (state_now d).contents in
    let table = c.args.table in
    let sorted = c.sort.new.objects.items in
    let are =
    listed contents table (live_objects d) (live_contents d c.show_valid.ensures) (live_once d c.show_valid.ensures)
    c.in_ok-objects.objects.items sorted c.in_ok-objects.ensures c.sort.ensures.same c.sort.ensures.order in
    IfOk-weaker c.packed.result (λ (os : List Object). os ≡ map shown_object c.as_slice.result.now)
    (λ (os : List Object). AreObjectsOf contents table os)
    (λ os is. subst (AreObjectsOf contents table)
    (sym (is ∙ ap (λ (rs : List ObjectRef). map shown_object rs) c.as_slice.ensures.value)) are) c.packed.ensures
