use Rattle.std.proofs.Common.{[], arith, refl, subst, sym}
use Rattle.std.proofs.KnownBytes.{Consumes-kept, Consumes-nil, Keeps-refl, Keeps-trans}
use Rattle.std.proofs.lemmas.List.{append-nil}
use Rattle.std.specs.Io.KnownBytes.{Keeps}
use Rattle.lines.specs.Reading.{TakesLine}
use Rattle.lines.specs.declared.reading.Taken.TheVariants.{Ended}
use Rattle.answers.specs.driving.Served.{LivesOn}
use Rattle.answers.specs.driving.master.master_state.Data.{MasterData}
use Rattle.disk_lines.specs.Turns.{AppliesText, IsGathered, Known}
use Rattle.disk_lines.proofs.Grouping.{gathered_kept, gathers_more, starts_gathering}
use Rattle.disk_lines.proofs.gathering.gather.Goals as goal
use Rattle.disk_lines.proofs.gathering.gather.Goals.{else-count-gt0-via-then-count-gt0+else-not-has_line}
use Rattle.disk_lines.proofs.gathering.gather.Goals.{else-count-gt0-via-else-count-gt0}

as_it_was : (d : MasterData) → LivesOn d d []
as_it_was d = record {
  config = refl;
  origin = refl;
  durable = omega arith;
  history = sym (append-nil d.history);
  forgotten = refl;
}

pub loop-count-init : goal.loop-count-init
loop-count-init g c = record {
  gathered = starts_gathering c.args.is_raw c.args.store.now.master.knows (g.R.Read.remaining c.args.reader.now)
      (as_it_was c.args.store.now.master.knows);
  flushed = Keeps-refl (g.W.Write.contents c.args.writer.now);
}

pub loop-count-preserved : goal.loop-count-preserved
loop-count-preserved g c =
    let had : Known = g.R.Read.remaining c.args.reader.now in
    let came : Known = g.R.Read.remaining c.loop-count.reader in
    let asked : Known = g.R.Read.remaining c.else-count-gt0.reader in
    let left : Known = g.R.Read.remaining c.next_line.new.reader in
    let old : MasterData = c.args.store.now.master.knows in
    let mid : MasterData = c.loop-count.store.master.knows in
    let new : MasterData = c.apply_text.new.store.master.knows in
    let kept : Keeps came asked =
    elim c.else-count-gt0.branch as (λ _. Keeps came (g.R.Read.remaining c.else-count-gt0.reader)) [
      | else-count-gt0-via-then-count-gt0+else-not-has_line w ↦
          subst (λ r. Keeps came (g.R.Read.remaining r)) (sym w.reader-is) w.has_line.ensures.kept
      | else-count-gt0-via-else-count-gt0 w ↦
          subst (λ r. Keeps came (g.R.Read.remaining r)) (sym w.reader-is) (Keeps-refl came)
    ] in
    let so_far : IsGathered c.args.is_raw c.loop-count.count old mid had asked =
    gathered_kept c.args.is_raw c.loop-count.count old mid mid had came asked c.loop-count.invariant.gathered refl
    (Consumes-kept came came asked [] (Consumes-nil came) kept) in
    let taken : TakesLine c.args.is_raw asked left c.next_line.new.self Ended =
    subst (TakesLine c.args.is_raw asked left c.next_line.new.self) c.in-Ok-Ended.field-0-is
    c.in-Ok-Ended.ensures.taken in
    let applied : AppliesText c.args.is_raw mid c.next_line.new.self new =
    subst (λ t. AppliesText c.args.is_raw mid t new) c.text.ensures (c.if-not-apply_text.ensures.applied refl) in
    record {
      gathered = gathers_more c.args.is_raw c.loop-count.count old mid new had asked left c.next_line.new.self so_far
          taken.0 taken.1 applied;
      flushed = Keeps-trans (g.W.Write.contents c.args.writer.now) (g.W.Write.contents c.loop-count.writer)
          (g.W.Write.contents c.next_line.new.writer) c.loop-count.invariant.flushed c.next_line.ensures.flushed;
    }
