-- A node without a master makes no room, and shows nothing of a master.
use Rattle.std.proofs.Common.{◌≡◌, ℕ, false, refl}
use Rattle.std.specs.Prelude.{Err}
use Rattle.answers.specs.driving.master.master_state.declared.config.Config.{Config}
use Rattle.answers.specs.declared.answer.Answer.TheVariants as answer
use Rattle.cluster.specs.declared.node.Node.{Node}
use Rattle.cluster.specs.declared.node.Node.TheVariants.{Up, Down, Changing}
use Rattle.cluster.specs.Served.{is_up}
use Rattle.cluster.specs.Shows.{ShowsDigest, ShowsImage, ShowsLive, ShowsObjects, ShowsRoom, ShowsSegments}
use Rattle.cluster.specs.Waits.{MakesOpen, MakesRoom}
use Rattle.cluster.proofs.Standing.{is_down_some}

pub down_open : (node : Node) → is_up node ≡ false → MakesOpen node node (Err answer.Down)
down_open (Up m) down = absurd (cc)
down_open (Down fleet) down = (refl, refl)
down_open Changing down = (refl, refl)

pub down_room : (node : Node) (config : Config) → is_up node ≡ false → MakesRoom node config node (Err answer.Down)
down_room node config down d at s = (d, at, s, (refl, refl), (is_down_some node d at.left down s.node_of, refl))

-- ---- what is shown

pub digest_down : (node : Node) → is_up node ≡ false → ShowsDigest node answer.Down
digest_down (Up m) down = absurd (cc)
digest_down (Down fleet) down = refl
digest_down Changing down = refl

pub room_down : (node : Node) → is_up node ≡ false → ShowsRoom node answer.Down
room_down (Up m) down = absurd (cc)
room_down (Down fleet) down = refl
room_down Changing down = refl

pub segments_down : (node : Node) → is_up node ≡ false → ShowsSegments node answer.Down
segments_down (Up m) down = absurd (cc)
segments_down (Down fleet) down = refl
segments_down Changing down = refl

pub objects_down : (node : Node) (table : ℕ) → is_up node ≡ false → ShowsObjects node table answer.Down
objects_down (Up m) table down = absurd (cc)
objects_down (Down fleet) table down = refl
objects_down Changing table down = refl

pub live_down : (node : Node) → is_up node ≡ false → ShowsLive node answer.Down
live_down (Up m) down = absurd (cc)
live_down (Down fleet) down = refl
live_down Changing down = refl

pub image_down : (node : Node) (segment : ℕ) → is_up node ≡ false → ShowsImage node segment answer.Down
image_down (Up m) segment down = absurd (cc)
image_down (Down fleet) segment down = refl
image_down Changing segment down = refl
