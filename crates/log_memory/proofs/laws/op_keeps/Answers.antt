use Rattle.log_memory.proofs.Taking.{extend_keeps, open_keeps, replace_keeps, raise_keeps, close_keeps}
use Rattle.log_memory.proofs.laws.op_keeps.Goals as goal

pub returns : goal.returns
returns c = record {
  extends = extend_keeps;
  opens = open_keeps;
  replaces = replace_keeps;
  raises = raise_keeps;
  closes = close_keeps;
}
