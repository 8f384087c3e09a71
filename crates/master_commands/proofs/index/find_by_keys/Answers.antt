use Rattle.std.proofs.Common.{◌≡◌, sym, ap, ◌∙◌}
use Rattle.std.specs.Prelude.{Some, None}
use Rattle.std.specs.Option.{option_map}
use Rattle.entry.specs.declared.entry.Object.{Object}
use Rattle.entry.specs.View.{shown_key}
use Rattle.places.proofs.Words.{found_is}
use Rattle.master_state.specs.Images.{images_among}
use Rattle.master_state.specs.compactor.Places.{keys_in}
use Rattle.master_commands.proofs.index.find_by_keys.Goals as goal

pub returns-in-None : goal.returns-in-None
returns-in-None c = λ kept.
    let keys = keys_in (images_among c.args.head.now c.args.closed.now.images) in
    let k = shown_key c.args.key.now in
    let there : Some c.in_ok-place.place ≡ _ = c.in_ok-place.ensures kept in
    let tells : keys c.in_ok-place.place ≡ Some k = found_is keys k c.args.index.now.held
    c.in_ok-place.place (sym there) in
    let none : None ≡ keys c.in_ok-place.place = ap (option_map (λ (o : Object). o.key)) c.in-None.ensures in
    let never : None ≡ Some k = none ∙ tells in
    absurd (cc)
