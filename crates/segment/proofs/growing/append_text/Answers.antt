use Rattle.std.proofs.Common.{◌≤◌, ◌++◌, length, ap, arith, length-append}
use Rattle.entry.specs.Text.{IsTextOf, entries_in}
use Rattle.segment.proofs.WalkLemmas.{IsTextOf-entries_in, IsSegmentBytes-from_text}
use Rattle.segment.proofs.UnitLemmas.{IsTextOf-more}
use Rattle.segment.proofs.growing.append_text.Goals.{In_ok-extend_from_slice}
use Rattle.segment.proofs.growing.append_text.Goals as goal

is_text : (c : In_ok-extend_from_slice)
    → IsTextOf c.extend_from_slice.new.self.items (entries_in c.args.text.now.items ++ entries_in c.args.more.now)
is_text c =
    IsTextOf-more c.args.text.now.items c.extend_from_slice.new.self.items c.args.more.now c.requires.segment
    c.requires.«data» c.in_ok-extend_from_slice.ensures.items

pub returns-clause-valid : goal.returns-clause-valid
returns-clause-valid c =
    let old = c.args.text.now.items in
    let new = c.extend_from_slice.new.self.items in
    let more = c.args.more.now in
    let limit : length new ≤ 8388608 =
    omega (arith, ap length c.in_ok-extend_from_slice.ensures.items, length-append old more) in
    IsSegmentBytes-from_text new (entries_in old ++ entries_in more)
    (is_text (goal.at.returns-clause-valid c).In_ok-extend_from_slice) limit

pub returns-clause-ok : goal.returns-clause-ok
returns-clause-ok c =
    IsTextOf-entries_in c.extend_from_slice.new.self.items
    (entries_in c.args.text.now.items ++ entries_in c.args.more.now) (is_text c)
