use Rattle.store_seat.proofs.Owning.{has_cell, hands}
use Rattle.store_seat.proofs.claiming.claim.Goals as goal

pub receipt-requires : goal.receipt-requires
receipt-requires g c = has_cell g.B.Labels.start c.args.history.now.records c.args.row.now c.args.seat.now
    c.args.place c.requires.written c.requires.owned

pub returns-in-Ok-clause-claims : goal.returns-in-Ok-clause-claims
returns-in-Ok-clause-claims g c =
    hands g.B.Labels.start c.args.history.now.records c.args.row.now c.args.seat.now c.args.place
    c.requires.written c.requires.owned
    c.in-Ok.reply c.receipt.result c.in-Ok.ensures c.receipt.ensures.receipt.0 c.receipt.ensures.receipt.1
