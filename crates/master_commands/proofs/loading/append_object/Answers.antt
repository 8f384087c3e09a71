use Rattle.std.proofs.Common.{◌≡◌, ℕ, List, length, ap, subst, ◌∙◌}
use Rattle.entry.specs.declared.entry.Entry.{Entry}
use Rattle.entry.specs.Text.{text_of}
use Rattle.entry.specs.View.{shown_object}
use Rattle.places.specs.Map.{Places}
use Rattle.places.proofs.Words.{set_grown}
use Rattle.master_commands.specs.Index.{IsAdded}
use Rattle.master_commands.proofs.loading.append_object.Goals as goal

pub returns-clause-index : goal.returns-clause-index
returns-clause-index c =
    let k = (shown_object c.args.object.now).key in
    let new = c.grow.new.self.held in
    let at : length c.bytes.result.now ≡ length (text_of c.args.head.now.image) =
    ap length c.bytes.ensures.text ∙ ap (λ (es : List Entry). length (text_of es)) c.image.ensures.image in
    subst (λ (n : ℕ). IsAdded c.args.index.now.held k (record { segment = c.args.head.now.id; at = n }) new) at
    (subst (λ (s : ℕ). IsAdded c.args.index.now.held k (record { segment = s; at = length c.bytes.result.now })
    new) c.id.ensures.id
    (subst (λ (hs : Places). IsAdded hs k (record { segment = c.id.result; at = length c.bytes.result.now }) new)
    c.reserve.ensures.same
    (λ keys kept none tells. set_grown keys c.reserve.new.self.held c.insert.new.self.held new k _
    (c.insert.ensures.set keys k kept none tells
    c.hash-hash.ensures)
    (c.grow.ensures.same keys))))
