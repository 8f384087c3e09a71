use denote.Param.Send.{IsSend, owning_send}
use Rattle.master_state.specs.contracts.ledger.Abandoned.{the_row, the_type}

pub send : IsSend the_row
send = owning_send the_type tt (λ d. tt) (λ k x w. tt)
