use Rattle.std.proofs.Common.{List, ℕ, length, ap, arith}
use Rattle.entry.specs.Text.{IsTextOf}
use Rattle.segment.proofs.WalkLemmas.{IsTextOf-entries_in, IsSegmentBytes-from_text}
use Rattle.segment.proofs.UnitLemmas.{survivor_of, IsTextOf-survivor, length-survivor}
use Rattle.segment.proofs.segment.Segment.begin_survivor.Goals as goal
use Rattle.segment.proofs.segment.Segment.begin_survivor.Goals.{In_ok-append_entry}

is_text : (c : In_ok-append_entry) → IsTextOf c.append_entry.new.bytes.items (survivor_of c.args.master c.args.id)
is_text c =
    IsTextOf-survivor c.args.master c.args.id c.in_ok-bytes.bytes.items c.append_entry.new.bytes.items
    c.append_entry.ensures.valid c.in_ok-bytes.ensures.items c.in_ok-append_entry.ensures.ok

pub invariant_of-result : goal.invariant_of-result
invariant_of-result c =
    IsSegmentBytes-from_text c.append_entry.new.bytes.items (survivor_of c.args.master c.args.id) (is_text c)
    (omega (
      arith,
      ap (λ (l : List ℕ). length l) (is_text c).text,
      length-survivor c.args.master c.args.id,
    ))

pub returns : goal.returns
returns c = IsTextOf-entries_in c.append_entry.new.bytes.items (survivor_of c.args.master c.args.id) (is_text c)
