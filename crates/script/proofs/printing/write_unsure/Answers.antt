use Rattle.std.proofs.Common.{◌∙◌, subst}
use Rattle.next_master.specs.answers.Errors.{Writes}
use Rattle.script.proofs.Skipping.{unsure_written}
use Rattle.script.proofs.printing.write_unsure.Goals as goal

pub returns : goal.returns
returns g c =
    unsure_written c.args.errors.now c.write.new.self c.write-2.new.self c.write-3.new.self c.flush.new.self
    c.args.number c.write.ensures
    (subst (Writes c.write.new.self c.write-2.new.self) (c.as_bytes.ensures.value ∙ c.format.ensures.text)
    c.write-2.ensures) c.write-3.ensures c.flush.ensures
