use Rattle.std.proofs.Common.{arith}
use Rattle.lines.proofs.NumberWords.{same_number}
use Rattle.lines.proofs.words.Words.count.Goals.{then-count-eq0-via-then-count-eq0}
use Rattle.lines.proofs.words.Words.count.Goals.{then-count-eq0-via-else-count-eq0+then-count-most}
use Rattle.lines.proofs.words.Words.count.Goals as goal

pub returns-then-count-eq0-clause-complete : goal.returns-then-count-eq0-clause-complete
returns-then-count-eq0-clause-complete c = λ none n rest least below is.
    let same = same_number c.args.self.now _ rest c.in_ok-count.count n (omega arith)
    (omega arith) c.in_ok-count.ensures.sound is in
    elim c.then-count-eq0.branch [
      | then-count-eq0-via-then-count-eq0 w ↦ omega (arith, same, w.if-count-eq0)
      | then-count-eq0-via-else-count-eq0+then-count-most w ↦ omega (arith, same, w.if-count-most)
    ]
