use Rattle.std.proofs.Common.{◌≤◌, length, ap, sym, ◌∙◌, rules, arith}
use Rattle.std.specs.Fmt.{decimal}
use Rattle.std.proofs.lemmas.Fmt.{length-decimal-le}
use Rattle.std.proofs.lemmas.List.{length-append, length-drop}
use Rattle.answers.proofs.short_line.ShortLine.put_number.Goals as goal

-- there are at most 20 digits, and the line's first byte tells how long it is
pub write_digits-self-inside-requires : goal.write_digits-self-inside-requires
write_digits-self-inside-requires c =
    let digits : length (decimal c.args.number) ≤ 20 = search (rules, arith, length-decimal-le 20) in
    let len = sym (length-drop c.self.inside.start c.self.inside.bytes) ∙ ap length c.self.view_is in (
      omega (arith, digits, len, c.requires, c.self.told, c.self.invariant),
      omega
          (arith, c.self.told, c.self.invariant),
    )

pub returns-clause-len : goal.returns-clause-len
returns-clause-len c =
    let digits : length (decimal c.args.number) ≤ 20 = search (rules, arith, length-decimal-le 20) in
    let new = ap length c.write_digits-self-inside.ensures.written ∙ length-append (decimal c.args.number) _ in
    let old = ap length c.self.view_is in
    omega (arith, digits, new, old)
