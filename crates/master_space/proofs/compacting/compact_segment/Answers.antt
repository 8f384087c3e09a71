use Rattle.std.proofs.Common.{◌≡◌, ℕ, List, ◌∷◌, ◌++◌, length, refl, sym, ap, ◌∙◌}
use Rattle.std.specs.Prelude.{None}
use Rattle.std.specs.Option.{option_to_list}
use Rattle.std.specs.Result.{result_err}
use Rattle.entry.specs.declared.entry.Entry.{Entry}
use Rattle.entry.specs.Text.{text_of}
use Rattle.places.specs.Map.{Places}
use Rattle.compactor.specs.Kept.{kept_of, moved_all}
use Rattle.compactor.specs.Laws.{CompactionFollows}
use Rattle.compactor.specs.Moved.{Follows}
use Rattle.compactor.proofs.FollowLaw.{follows}
use Rattle.master_state.specs.contracts.state.Core.{the_view}
use Rattle.master_state.specs.Causes.{compact_refusal}
use Rattle.master_state.specs.Data.{MasterData}
use Rattle.master_state.specs.Invariant.{IsCore}
use Rattle.master_state.specs.Log.{images_of, state_now}
use Rattle.master_state.specs.Steps.{kept_now}
use Rattle.master_space.proofs.CompactedData.{never_none, image_is, fits, never_refused, compacts, compacted_valid}
use Rattle.master_space.proofs.CompactedData.{ids_are, room_then, sizes_then, tallied_then}
use Rattle.master_space.proofs.CompactedIndex.{held_lie}
use Rattle.master_state.proofs.Finding.{index_of}
use Rattle.master_state.proofs.Imaging.{ids_in}
use Rattle.master_space.proofs.compacting.compact_segment.Goals as goal

law : CompactionFollows
law = λ ids held images segment valid lie all. follows ids held images segment valid lie all

-- the index has followed
index_then : (d : MasterData) → IsCore d → (ids : List ℕ) (id : ℕ) (es : List Entry) (new : Places)
    → es ≡ images_of d id
    → Follows ids id es d.index new → new ≡ moved_all ids d.index id es
index_then d core ids id es new same follow =
    follow (images_of d) (sym same) (held_lie (images_of d) d.index (state_now d).contents
    (index_of d core)) core.index.kept

passed : (d e : MasterData) (id : ℕ) → d ≡ e → compact_refusal e id ≡ None → compact_refusal d id ≡ None
passed d e id same is = ap (λ (x : MasterData). compact_refusal x id) same ∙ is

pub unreachable-requires : goal.unreachable-requires
unreachable-requires c =
    let none = passed (the_view c.core.inside) c.args.core.now c.args.id c.core.view_is
    (sym c.admit_compaction.ensures ∙ ap result_err c.in_ok-admit_compaction.was) in
    never_none (the_view c.core.inside) c.core.invariant.2 c.args.id none c.get.result c.get.ensures c.in_default.is

pub whole_kept-kept-requires : goal.whole_kept-kept-requires
whole_kept-kept-requires c = sym c.admit_compaction.ensures ∙ ap result_err c.in_ok-admit_compaction.was

pub compact_to_len-requires : goal.compact_to_len-requires
compact_to_len-requires c =
    let d = the_view c.core.inside in
    let none = passed d c.args.core.now c.args.id c.core.view_is
    (sym c.admit_compaction.ensures ∙ ap result_err c.in_ok-admit_compaction.was) in
    let image =
    image_is d c.core.invariant.2 c.args.id none c.get.result c.in-Some.image c.get.ensures c.in-Some.is in
    let listed = ids_are d c.id.result c.opening_id.result c.id.ensures.id c.opening_id.ensures in
    record {
      known =
          c.whole_kept-kept.ensures
          ∙ ap (λ (m : MasterData). length (text_of (kept_now m c.args.id))) (sym c.core.view_is)
          ∙ (λ i. length (text_of (kept_of (sym listed i) d.index c.args.id (sym image i))));
    }

pub replace-requires-clause-within : goal.replace-requires-clause-within
replace-requires-clause-within c =
    let d = the_view c.core.inside in
    let core = c.core.invariant.2 in
    let none = passed d c.args.core.now c.args.id c.core.view_is
    (sym c.admit_compaction.ensures ∙ ap result_err c.in_ok-admit_compaction.was) in
    let image = image_is d core c.args.id none c.get.result c.in-Some.image c.get.ensures c.in-Some.is in
    fits d core c.args.id none c.core.inside.closed refl c.show_valid.ensures c.core.invariant.1
    (ids_in d.closed ++ c.id.result ∷ option_to_list c.opening_id.result) c.in-Some.image c.in_ok-segment.segment
    c.compact_to_len.new.index.held
    (ids_are d c.id.result c.opening_id.result c.id.ensures.id c.opening_id.ensures) image
    c.in_ok-segment.ensures.compacted

pub unreachable-requires-in_default-replace : goal.unreachable-requires-in_default-replace
unreachable-requires-in_default-replace c =
    let d = the_view c.core.inside in
    let core = c.core.invariant.2 in
    let none = passed d c.args.core.now c.args.id c.core.view_is
    (sym c.admit_compaction.ensures ∙ ap result_err c.in_ok-admit_compaction.was) in
    let image = image_is d core c.args.id none c.get.result c.in-Some.image c.get.ensures c.in-Some.is in
    never_refused d core c.args.id none c.core.inside.closed refl c.show_valid.ensures c.core.invariant.1
    (ids_in d.closed ++ c.id.result ∷ option_to_list c.opening_id.result) c.in-Some.image c.in_ok-segment.segment
    c.compact_to_len.new.index.held
    (ids_are d c.id.result c.opening_id.result c.id.ensures.id c.opening_id.ensures) image
    c.in_ok-segment.ensures.compacted
    c.replace.result c.in_default-replace.field-0 c.in_default-replace.is c.replace.ensures.no_room

pub invariant_of-core-2 : goal.invariant_of-core-2
invariant_of-core-2 c =
    let d = the_view c.core.inside in
    let core = c.core.invariant.2 in
    let none = passed d c.args.core.now c.args.id c.core.view_is
    (sym c.admit_compaction.ensures ∙ ap result_err c.in_ok-admit_compaction.was) in
    let image = image_is d core c.args.id none c.get.result c.in-Some.image c.get.ensures c.in-Some.is in
    let ids = ids_in d.closed ++ c.id.result ∷ option_to_list c.opening_id.result in
    let listed = ids_are d c.id.result c.opening_id.result c.id.ensures.id c.opening_id.ensures in
    let moved = index_then d core ids c.args.id c.in-Some.image c.compact_to_len.new.index.held image
    c.in_ok-segment.ensures.followed in (
      λ some. room_then d core c.args.id none c.core.inside.closed refl c.show_valid.ensures c.core.invariant.1 ids
          c.in-Some.image
          c.in_ok-segment.segment c.compact_to_len.new.index.held listed image c.in_ok-segment.ensures.compacted moved
          c.replace.new.self
          c.in-Ok.ensures.ok (c.core.invariant.0 some),
      sizes_then d core c.args.id none c.core.inside.closed refl c.show_valid.ensures c.core.invariant.1 ids
          c.in-Some.image
          c.in_ok-segment.segment c.compact_to_len.new.index.held listed image c.in_ok-segment.ensures.compacted moved
          c.replace.new.self c.in-Ok.ensures.ok,
      compacted_valid d core c.args.id none c.core.inside.closed refl c.show_valid.ensures c.core.invariant.1 ids
          c.in-Some.image
          c.in_ok-segment.segment c.compact_to_len.new.index.held listed image c.in_ok-segment.ensures.compacted moved
          c.replace.new.self c.in-Ok.ensures.ok
          law,
      c.core.invariant.3,
      tallied_then d core c.args.id none c.core.inside.closed refl c.show_valid.ensures c.core.invariant.1 ids
          c.in-Some.image
          c.in_ok-segment.segment c.compact_to_len.new.index.held listed image c.in_ok-segment.ensures.compacted moved
          c.replace.new.self c.in-Ok.ensures.ok c.core.inside.tallies c.core.invariant.4,
    )

pub returns-clause-valid : goal.returns-clause-valid
returns-clause-valid c =
    let d = the_view c.core.inside in
    let core = c.core.invariant.2 in
    let none = passed d c.args.core.now c.args.id c.core.view_is
    (sym c.admit_compaction.ensures ∙ ap result_err c.in_ok-admit_compaction.was) in
    let image = image_is d core c.args.id none c.get.result c.in-Some.image c.get.ensures c.in-Some.is in
    let ids = ids_in d.closed ++ c.id.result ∷ option_to_list c.opening_id.result in
    let listed = ids_are d c.id.result c.opening_id.result c.id.ensures.id c.opening_id.ensures in
    let moved = index_then d core ids c.args.id c.in-Some.image c.compact_to_len.new.index.held image
    c.in_ok-segment.ensures.followed in
    compacted_valid d core c.args.id none c.core.inside.closed refl c.show_valid.ensures c.core.invariant.1 ids
    c.in-Some.image
    c.in_ok-segment.segment c.compact_to_len.new.index.held listed image c.in_ok-segment.ensures.compacted moved
    c.replace.new.self c.in-Ok.ensures.ok law

pub returns-clause-compacted : goal.returns-clause-compacted
returns-clause-compacted c =
    let d = the_view c.core.inside in
    let core = c.core.invariant.2 in
    let none = passed d c.args.core.now c.args.id c.core.view_is
    (sym c.admit_compaction.ensures ∙ ap result_err c.in_ok-admit_compaction.was) in
    let image = image_is d core c.args.id none c.get.result c.in-Some.image c.get.ensures c.in-Some.is in
    let ids = ids_in d.closed ++ c.id.result ∷ option_to_list c.opening_id.result in
    let listed = ids_are d c.id.result c.opening_id.result c.id.ensures.id c.opening_id.ensures in
    let moved = index_then d core ids c.args.id c.in-Some.image c.compact_to_len.new.index.held image
    c.in_ok-segment.ensures.followed in
    rw (← c.core.view_is)
    (compacts d core c.args.id none c.core.inside.closed refl c.show_valid.ensures c.core.invariant.1 ids
    c.in-Some.image
    c.in_ok-segment.segment c.compact_to_len.new.index.held listed image c.in_ok-segment.ensures.compacted moved
    c.replace.new.self c.in-Ok.ensures.ok
    (length c.bytes.result.now) (ap (λ (bytes : List ℕ). length bytes) c.bytes.ensures.text))
