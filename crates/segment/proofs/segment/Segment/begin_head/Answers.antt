use Rattle.std.proofs.Common.{List, ℕ, length, ap, arith}
use Rattle.entry.specs.Text.{IsTextOf}
use Rattle.segment.proofs.WalkLemmas.{IsTextOf-entries_in, IsSegmentBytes-from_text}
use Rattle.segment.proofs.UnitLemmas.{head_of, IsTextOf-head, head_few, digest_few}
use Rattle.segment.proofs.segment.Segment.begin_head.Goals as goal

pub overflow_add-len : goal.overflow_add-len
overflow_add-len c =
    let same = c.spelled_len.ensures.len in
    let few = digest_few c.args.digest in
    omega (arith, same, few, c.requires.count)

pub overflow_add-len-2 : goal.overflow_add-len-2
overflow_add-len-2 c =
    let same = c.spelled_len.ensures.len in
    let few = digest_few c.args.digest in
    omega (arith, same, few, c.requires.count)

pub invariant_of-result : goal.invariant_of-result
invariant_of-result c =
    let text = c.append_entry-3.new.bytes.items in
    let is : IsTextOf text (head_of c.args.master c.args.id c.args.digest c.args.safe) =
    IsTextOf-head c.args.master c.args.id c.args.digest c.args.safe c.in_ok-bytes.bytes.items
    c.append_entry.new.bytes.items c.append_entry-2.new.bytes.items text
    c.append_entry.ensures.valid c.append_entry-2.ensures.valid c.append_entry-3.ensures.valid c.requires.last
    c.in_ok-bytes.ensures.items c.in_ok-append_entry.ensures.ok c.in_ok-append_entry-2.ensures.ok
    c.in_ok-append_entry-3.ensures.ok in
    IsSegmentBytes-from_text text (head_of c.args.master c.args.id c.args.digest c.args.safe) is
    (omega (
      arith,
      ap (λ (l : List ℕ). length l) is.text,
      c.requires.count,
      head_few c.args.master c.args.id c.args.digest c.args.safe,
    ))

pub returns : goal.returns
returns c =
    let text = c.append_entry-3.new.bytes.items in
    IsTextOf-entries_in text (head_of c.args.master c.args.id c.args.digest c.args.safe)
    (IsTextOf-head c.args.master c.args.id c.args.digest c.args.safe c.in_ok-bytes.bytes.items
    c.append_entry.new.bytes.items c.append_entry-2.new.bytes.items text
    c.append_entry.ensures.valid c.append_entry-2.ensures.valid c.append_entry-3.ensures.valid c.requires.last
    c.in_ok-bytes.ensures.items c.in_ok-append_entry.ensures.ok c.in_ok-append_entry-2.ensures.ok
    c.in_ok-append_entry-3.ensures.ok)
