use denote.Param.Send.{IsSend, owning_send}
use Rattle.file_fleet.specs.contracts.acks.Acks.{the_row, the_type}

pub send : IsSend the_row
send = owning_send the_type tt (λ d. tt) (λ k x w. tt)
