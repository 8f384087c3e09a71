use denote.Param.Send.{IsSend, owning_send}
use Rattle.disk_file.specs.contracts.history.History.{the_row, the_type}

pub send : IsSend the_row
send = owning_send the_type tt (λ d. tt) (λ k x w. tt)
