use Rattle.std.proofs.Common.{◌∙◌}
use Rattle.segment.proofs.WalkLemmas.{IsTextOf-entries_in, IsSegmentBytes-from_text}
use Rattle.compactor.specs.Kept.{kept_of}
use Rattle.compactor.specs.Log.{ids_of_log}
use Rattle.compactor.proofs.compacting.compact_to_len.Goals as goal

pub of_text-requires : goal.of_text-requires
of_text-requires c =
    IsSegmentBytes-from_text c.copy_kept.new.out.items
    (kept_of (ids_of_log c.args.log.now) c.args.index.now.held c.args.id c.args.segment.now)
    c.copy_kept.ensures.copied c.copy_kept.ensures.limit

pub returns-clause-compacted : goal.returns-clause-compacted
returns-clause-compacted c =
    c.of_text.ensures
    ∙ IsTextOf-entries_in c.copy_kept.new.out.items
    (kept_of (ids_of_log c.args.log.now) c.args.index.now.held c.args.id c.args.segment.now) c.copy_kept.ensures.copied
