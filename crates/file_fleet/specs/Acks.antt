-- The ack of an op that a backup was handed.
use Rattle.replica.specs.Op.{shown_op}
use Rattle.replica.specs.Picture.{Ack}
use Rattle.file_fleet.specs.declared.acks.Handed.{Handed}

abbrev pub ack_of : Handed → Ack
ack_of handed = record { backup = handed.backup; op = shown_op handed.op }
