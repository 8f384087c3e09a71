use Rattle.std.proofs.Common.{◌≡◌, ◌∙◌, ap}
use Rattle.std.proofs.lemmas.Option.{same_Some}
use Rattle.history.specs.View.{shown_reply}
use Rattle.embedded.specs.Replies.{answered}
use Rattle.embedded.proofs.carrying.reply_at.Goals as goal

pub unreachable-requires : goal.unreachable-requires
unreachable-requires g c = let there = c.in-None.ensures ∙ c.requires.1 in absurd (cc)

pub returns : goal.returns
returns g c = λ reply at.
    let same : shown_reply c.in-Some.reply ≡ reply = same_Some _ _ (c.in-Some.ensures ∙ at) in
    c.answered.ensures ∙ ap (answered c.args.place) same
