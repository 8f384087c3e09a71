use Rattle.std.proofs.Common.{◌≡◌, [], ◌∷◌, List, length, subst}
use Rattle.std.specs.Prelude.{IfSome}
use Rattle.entry.specs.declared.entry.Entry.{Entry}
use Rattle.entry.specs.Text.{text_of, entries_in}
use Rattle.segment.specs.Bytes.{standing_at}
use Rattle.images.proofs.Copies.{one_more, one_fits}
use Rattle.images.proofs.copying.append_copy.Goals.{After-append_text}
use Rattle.images.proofs.copying.append_copy.Goals as goal

one_there : (c : After-append_text) → IfSome (standing_at c.args.at (text_of c.args.source.now.segment))
    (λ (e : Entry). entries_in c.text_at.result.now ≡ e ∷ [])
one_there c =
    subst (λ (es : List Entry). IfSome (standing_at c.args.at (text_of es))
    (λ (e : Entry). entries_in c.text_at.result.now ≡ e ∷ [])) c.segment-segment.ensures c.text_at.ensures.entry

pub returns-clause-ok : goal.returns-clause-ok
returns-clause-ok c =
    one_more (standing_at c.args.at (text_of c.args.source.now.segment)) c.append_text.result c.args.target.now
    c.append_text.new.self (entries_in c.text_at.result.now) (one_there c) c.append_text.ensures.ok

pub returns-clause-full : goal.returns-clause-full
returns-clause-full c =
    one_fits (standing_at c.args.at (text_of c.args.source.now.segment)) c.append_text.result c.args.limit
    (length (text_of c.args.target.now.segment)) c.text_at.result.now c.text_at.ensures.«data» (one_there c)
    c.append_text.ensures.full
