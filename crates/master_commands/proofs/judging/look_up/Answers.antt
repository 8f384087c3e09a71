use Rattle.std.proofs.Common.{List, subst}
use Rattle.entry.specs.declared.key.Key.{Key}
use Rattle.versioned_map.specs.Command.{command_key}
use Rattle.master_state.specs.contracts.state.Core.{the_view}
use Rattle.images.specs.Image.{Image}
use Rattle.master_state.specs.Data.{MasterData}
use Rattle.master_state.specs.Images.{images_among}
use Rattle.master_state.specs.compactor.Places.{keys_in}
use Rattle.master_state.specs.Index.{FindsObject}
use Rattle.master_state.specs.Log.{images_of}
use Rattle.master_state.proofs.Finding.{finds_place, finds_held}
use Rattle.history.specs.View.{shown_command}
use Rattle.places.specs.Map.{AreKept}
use Rattle.master_commands.proofs.Found.{finds_there}
use Rattle.master_commands.proofs.judging.look_up.Goals as goal

module _ (c : goal.After-find_object) where
  abbrev d : MasterData
  d = the_view c.core.inside

  abbrev Finds : List Image → Key → Type 0
  Finds closed k = let images = images_among d.head closed in
      AreKept (keys_in images) d.index → FindsObject images d.index k c.find_object.result

  found : FindsObject (images_of d) d.index (command_key (shown_command c.args.command.now)) c.find_object.result
  found =
      subst (λ (k : Key). Finds d.closed k) c.key_of.ensures
      c.find_object.ensures
      c.core.invariant.2.index.kept

pub returns-clause-place : goal.returns-clause-place
returns-clause-place c = rw (← c.core.view_is) (finds_place (images_of (d c)) (d c).index
    (command_key (shown_command c.args.command.now)) c.find_object.result (found c))

pub returns-clause-object : goal.returns-clause-object
returns-clause-object c =
    rw (← c.core.view_is)
    (finds_held (d c) c.core.invariant.2 (command_key (shown_command c.args.command.now)) c.find_object.result
    (found c))

pub returns-clause-there : goal.returns-clause-there
returns-clause-there c = rw (← c.core.view_is) (finds_there (images_of (d c)) (d c).index
    (command_key (shown_command c.args.command.now)) c.find_object.result (found c))
