use Rattle.log_bytes.proofs.Reading.{texts_are_spelled, spelled_is_read}
use Rattle.log_bytes.proofs.Texts.{length_is}
use Rattle.log_bytes.proofs.laws.texts_spelled.Goals as goal

pub returns : goal.returns
returns c = record { lengths = length_is; written = texts_are_spelled; read = spelled_is_read }
