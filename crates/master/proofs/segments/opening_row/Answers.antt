use Rattle.std.proofs.Common.{ℕ, List, length, ap}
use Rattle.master.proofs.SegmentRows.{opening_row_is}
use Rattle.master.proofs.segments.opening_row.Goals as goal

pub returns : goal.returns
returns c =
    opening_row_is c.args.core.now c.args.roll.now (length c.bytes.result.now) c.kept_in.result c.view-image.result
    c.show_valid.ensures c.requires.under_way c.view-image.ensures
    (ap (λ (bytes : List ℕ). length bytes) c.bytes.ensures.text)
    c.kept_in.ensures
