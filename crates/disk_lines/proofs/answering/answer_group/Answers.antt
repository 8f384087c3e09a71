use Rattle.std.proofs.Common.{◌≡◌, ◌∙◌, length, arith, ap, inl, inr}
use Rattle.std.proofs.lemmas.List.{append-nil}
use Rattle.disk_lines.specs.Turns.{IsPushed}
use Rattle.disk_lines.proofs.Places.{group_done}
use Rattle.disk_lines.proofs.answering.answer_group.Goals.{in-Ok, in-Err}
use Rattle.disk_lines.proofs.answering.answer_group.Goals as goal

pub returns : goal.returns
returns g c =
    let old = c.args.store.now.master.knows in
    let pushed = c.push_for.new.self.master.knows in
    let why = c.match-push_for.why.now in
    let records = c.len-records.result in
    let all : records ≡ length old.history = c.len-records.ensures ∙ ap length c.history.ensures.records in
    let some = c.if-count-eq0.false in
    let lives = c.push_for.ensures.goes_on in
    let long : length pushed.history ≡ length old.history =
    ap length (lives.history ∙ append-nil old.history) in
    let kept = c.requires in
    let outcome : IsPushed pushed why = elim c.match-push_for.branch as (λ _. IsPushed pushed why) [
      | in-Ok w ↦ (let durable = w.in-Ok.ensures.durable in inl (omega (arith, durable, all, long)))
      | in-Err w ↦ inr (w.in-Err.refusal, w.in-Err.ensures.refused, rw w.why-is w.word_of_push-why.ensures)
    ] in
    group_done c.args.is_raw c.args.count old pushed c.tidy.new.self.master.knows why
    (g.W.Write.contents c.args.writer.now) (g.W.Write.contents c.write_group-told.new.writer)
    c.write_group-told.result records some all (omega (arith, kept, all)) lives outcome c.tidy.ensures.goes_on
    c.write_group-told.ensures
