use Rattle.std.proofs.Common.{inl, subst}
use Rattle.versioned_map.specs.declared.command.Command.{Command}
use Rattle.embedded.specs.Lives.{Serves}
use Rattle.embedded.proofs.store.Store.put.Goals as goal

pub put_command-requires-clause-key : goal.put_command-requires-clause-key
put_command-requires-clause-key c = c.is_key.ensures.key c.if-not-is_key.false

pub put_command-requires-clause-value : goal.put_command-requires-clause-value
put_command-requires-clause-value c = c.is_value.ensures.value c.if-not-is_value.false

pub returns-clause-put : goal.returns-clause-put
returns-clause-put c = inl (
  c.is_key.ensures.key c.if-not-is_key.false,
  c.is_value.ensures.value c.if-not-is_value.false,
  subst (λ (k : Command). Serves c.args.self.now.life k c.serve.result c.serve.new.self.life) c.put_command.ensures
      c.serve.ensures.serves,
)
