use Rattle.std.proofs.Common.{◌≡◌, subst}
use Rattle.std.proofs.lemmas.Option.{same_Some}
use Rattle.versioned_map.specs.declared.command.Reply.{Reply}
use Rattle.history.specs.View.{shown_reply}
use Rattle.answers.specs.Errors.{IsHanded}
use Rattle.raw_answers.specs.Texts.{reply_in}
use Rattle.cluster.proofs.node.Node.write_reply.Goals as goal

pub unreachable-requires : goal.unreachable-requires
unreachable-requires g c = let there = c.in-None.ensures c.requires.0 c.requires.1 in absurd (cc)

pub returns : goal.returns
returns g c = λ reply at.
    let same : shown_reply c.in-Some.reply ≡ reply = same_Some _ _ (c.in-Some.ensures reply at) in
    let held = g.W.Write.contents c.args.writer.now in
    let holds = g.W.Write.contents c.write_reply_in.new.writer in
    subst (λ (r : Reply). IsHanded held holds (reply_in c.args.is_raw r) c.write_reply_in.result) same
    c.write_reply_in.ensures
