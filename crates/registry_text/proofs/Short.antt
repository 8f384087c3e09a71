-- The texts of a registry fit a frame.
use Rattle.std.proofs.Common.{◌++◌, length, arith, length-append}
use Rattle.std.specs.List.{flat_map}
use Rattle.entry.specs.Format.{number_bytes}
use Rattle.entry.proofs.Numbers.{length-number_bytes}
use Rattle.take_journal.specs.Frames.{IsShort}
use Rattle.registry_text.specs.RecordText.{AreShortTexts, FitsFleet, FleetValue, fleet_text, record_text}
use Rattle.registry_text.specs.declared.record.Record.{Record}
use Rattle.registry_text.specs.declared.record.Record.TheVariants as says
use Rattle.registry_text.proofs.Options.{length-options}

record_short : (r : Record) → IsShort (record_text r)
record_short (says.Journal backup id count) =
    omega (
      arith,
      length-append (number_bytes 8 backup ++ number_bytes 8 id) (number_bytes 8 count),
      length-append (number_bytes 8 backup) (number_bytes 8 id),
      length-number_bytes 8 backup,
      length-number_bytes 8 id,
      length-number_bytes 8 count,
    )
record_short (says.Raise master head) =
    omega (
      arith,
      length-append (number_bytes 8 master) (number_bytes 8 head),
      length-number_bytes 8 master,
      length-number_bytes 8 head,
    )
record_short (says.Master number) = omega (arith, length-number_bytes 8 number)
record_short (says.Format number) = omega (arith, length-number_bytes 8 number)

fleet_short : (f : FleetValue) → FitsFleet f → IsShort (fleet_text f)
fleet_short f fits =
    let a = number_bytes 8 f.id in
    let b = number_bytes 2 (length f.options) in
    let count = fits.count in
    omega (
      arith,
      length-append (a ++ b) (flat_map (number_bytes 8) f.options),
      length-append a b,
      length-number_bytes 8 f.id,
      length-number_bytes 2 (length f.options),
      length-options f.options,
      count,
    )

pub are_short : AreShortTexts
are_short = record { fleets = fleet_short; records = record_short }
