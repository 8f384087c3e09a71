use Rattle.log_bytes.proofs.Choosing.{usable_is_same, choice_is_spelled, spelled_is_choice}
use Rattle.log_bytes.proofs.laws.choices_spelled.Goals as goal

pub returns : goal.returns
returns c = record { usable = usable_is_same; spelled = choice_is_spelled; choice = spelled_is_choice }
