use Rattle.std.proofs.Common.{List, [], Option, length, refl, sym, ap, ◌∙◌, subst}
use Rattle.versioned_map.specs.declared.command.Record.{Record}
use Rattle.history_row.specs.Rows.{IsRowOf}
use Rattle.locked_log.specs.Ends.{BlankValue, fresh_book}
use Rattle.locked_log.proofs.Opened.{opens}
use Rattle.locked_log.proofs.store.Store.share.Goals as goal

pub named-requires-clause-start : goal.named-requires-clause-start
named-requires-clause-start g c =
    c.len-start.ensures ∙ ap (λ (l : List Record). length l) c.history.ensures.records ∙ sym c.requires.start

pub invariant_of-state : goal.invariant_of-state
invariant_of-state g c =
    opens _ g.B.Naming.made c.durable-first.result c.requires.made
    (subst (λ (l : List (Option Record)). IsRowOf l [])
    (sym (c.named.ensures ∙ ap (λ (b : BlankValue). b.row) c.blank.view_is)) c.requires.empty)
    c.requires.start c.durable-first.ensures.valid c.durable-first.ensures.count
    (c.in-Ok.ensures ∙ ap (fresh_book c.durable-first.result)
    (ap (λ (b : BlankValue). b.seats) c.blank.view_is ∙ c.requires.cells.1)) c.open-total.ensures.total refl
