use Rattle.std.proofs.Common.{arith, rules}
use Rattle.std.proofs.lemmas.Fmt.{length-decimal-le}
use Rattle.answers.proofs.answer.put_number_line.Goals as goal

pub write_digits-digits-requires : goal.write_digits-digits-requires
write_digits-digits-requires c = search (rules, arith, length-decimal-le 20)

pub overflow_sub-start : goal.overflow_sub-start
overflow_sub-start c = search (rules, arith, length-decimal-le 20)

pub copy_from_slice-requires : goal.copy_from_slice-requires
copy_from_slice-requires c = search (rules, arith, length-decimal-le 20)
