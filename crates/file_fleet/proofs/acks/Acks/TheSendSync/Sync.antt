use denote.Param.Send.{IsSync, cell_keyless}
use denote.Memory.{part_of, raw_all}
use Rattle.file_fleet.specs.contracts.acks.Acks.{the_row}

pub sync : IsSync the_row
unfolding part_of
sync = record { shared = λ d b o κ. λ q vs. (cell_keyless q (raw_all the_row.mir) vs b o, ((λ _. (tt, tt)), tt)) }
