use Rattle.std.proofs.Common.{ℕ, List, [], Option, length, drop, sym, ap, ◌∙◌, subst}
use Rattle.versioned_map.specs.declared.command.Record.{Record}
use Rattle.history.specs.Seats.{AreOfSeats}
use Rattle.history_row.specs.Rows.{IsRowOf}
use Rattle.locked_log.specs.Ends.{BlankValue}
use Rattle.locked_log.proofs.Anew.{filed_none}
use Rattle.locked_log.proofs.renewing.refile.Goals as goal

pub file_all-filed-requires-clause-none : goal.file_all-filed-requires-clause-none
file_all-filed-requires-clause-none g c =
    filed_none _ _ _ _ _
    (subst (λ (l : List (Option Record)). IsRowOf l [])
    (sym (c.named-row.ensures ∙ ap (λ (b : BlankValue). b.row) c.blank.view_is)) c.requires.empty)
    c.in-Ok.ensures c.open-total.ensures.total c.in-Ok-seat_again.ensures

pub file_all-filed-requires-clause-of_seats : goal.file_all-filed-requires-clause-of_seats
file_all-filed-requires-clause-of_seats g c =
    let p = c.args.paused.now in
    subst (λ (n : ℕ). AreOfSeats n (drop g.B.Labels.start c.history-history.result.now.records))
    (sym (ap length c.book-old.ensures))
    (subst (λ (l : List Record). AreOfSeats (length p.book) (drop g.B.Labels.start l))
    (sym c.history-history.ensures.records)
    (subst (λ (n : ℕ). AreOfSeats (length p.book) (drop n p.master.knows.history)) (sym c.requires.start)
    c.show_valid.ensures.of_seats))
