-- Lists of the same replicas.
use Rattle.std.specs.Prelude.{◌↔◌, List}
use Rattle.entry.specs.Bag.{IsAmong}
use Rattle.replica.specs.declared.holding.Holding.{Holding}

abbrev pub AreAmong : List Holding → List Holding → Type 0
AreAmong hs more = (h : Holding) → IsAmong h hs → IsAmong h more

abbrev pub HaveSame : List Holding → List Holding → Type 0
HaveSame hs gs = AreAmong hs gs × AreAmong gs hs
