use Rattle.std.proofs.Common.{subst, sym}
use Rattle.lines.specs.Reading.{IsFrontOfLine}
use Rattle.lines.specs.declared.scan.Scan.{Scan}
use Rattle.lines.specs.declared.scan.Scan.TheVariants as scan
use Rattle.lines.proofs.Scanning.{words_front}
use Rattle.lines.proofs.reading.front_of_line.Goals as goal

pub returns-in-Words : goal.returns-in-Words
returns-in-Words c =
    subst (λ (s : Scan). IsFrontOfLine c.args.shown.now c.args.most s c.front_of_words-len.result.0
    c.front_of_words-len.result.1 scan.Words) (sym c.in-Words.is)
    (words_front c.args.shown.now c.args.most c.front_of_words-len.result.0 c.front_of_words-len.result.1
    c.front_of_words-len.ensures)
