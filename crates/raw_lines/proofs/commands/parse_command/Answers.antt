use Rattle.std.proofs.Common.{◌∙◌, sym}
use Rattle.raw_lines.proofs.Behind.{unnamed}
use Rattle.raw_lines.proofs.commands.parse_command.Goals as goal

pub returns-else-is-5 : goal.returns-else-is-5
returns-else-is-5 c =
    unnamed c.args.text.now c.in_ok-name.name.now _ (sym c.of-rest.ensures ∙ c.in_ok-name.ensures.0)
    c.in_ok-name.ensures.1
    (λ e. let there = c.is.ensures.1 e in absurd (cc))
    (λ e. let there = c.is-2.ensures.1 e in absurd (cc))
    (λ e. let there = c.is-3.ensures.1 e in absurd (cc))
    (λ e. let there = c.is-4.ensures.1 e in absurd (cc))
    (λ e. let there = c.is-5.ensures.1 e in absurd (cc))
