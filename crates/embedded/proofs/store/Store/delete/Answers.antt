use Rattle.std.proofs.Common.{inl, inr, refl, subst}
use Rattle.entry.specs.declared.key.Key.{Key}
use Rattle.versioned_map.specs.declared.command.Command.TheVariants as asked
use Rattle.embedded.specs.Lives.{Serves}
use Rattle.embedded.proofs.store.Store.delete.Goals as goal

pub key_ref-requires : goal.key_ref-requires
key_ref-requires c = c.is_key.ensures.key c.if-not-is_key.false

pub returns-then-not-is_key-clause-delete : goal.returns-then-not-is_key-clause-delete
returns-then-not-is_key-clause-delete c = inr (c.is_key.ensures.none c.if-not-is_key.true, c.too_big.ensures, refl)

pub returns-clause-delete : goal.returns-clause-delete
returns-clause-delete c = inl (
  c.is_key.ensures.key c.if-not-is_key.false,
  subst (λ (k : Key). Serves c.args.self.now.life (asked.Delete k) c.serve.result c.serve.new.self.life)
      c.key_ref.ensures c.serve.ensures.serves,
)
