-- What a tally says of a closed segment.
use Rattle.std.proofs.Common.{◌≡◌, ℕ, ◌+◌, ◌<◌, ◌≤◌, Bool, true, false, List, [], inl, inr, refl, sym, ap, subst, ◌∙◌}
use Rattle.std.specs.Prelude.{Option, Some, None, unwrap_or}
use Rattle.entry.specs.declared.entry.Entry.{Entry}
use Rattle.entry.specs.Bag.{IsAmong}
use Rattle.entry.proofs.ListLemmas.{all_among}
use Rattle.images.specs.Image.{Image}
use Rattle.images.specs.Sorted.{AreRising, segment_of}
use Rattle.images.proofs.Counts.{image_read}
use Rattle.images.proofs.Fronts.{own_place}
use Rattle.std.specs.Option.{option_map}
use Rattle.std.specs.Prelude.{length, get_or}
use Rattle.log_head.specs.Log.{head_of}
use Rattle.log_head.specs.log_laws.Ids.{has}
use Rattle.cleaner.specs.declared.level.Level.{Level}
use Rattle.cleaner.specs.Filling.{filled}
use Rattle.cleaner.specs.KeptLengths.{segment_lengths}
use Rattle.master_state.specs.Budget.{survivors_of}
use Rattle.master_state.specs.Data.{MasterData}
use Rattle.master_state.specs.Invariant.{IsCore, AreTallied}
use Rattle.master_state.specs.Log.{images_of, log_set_ids}
use Rattle.cleaner.specs.Passes.{images_in}
use Rattle.master_state.proofs.log_laws.KeptEntries.{is_has}
use Rattle.master_state.proofs.LogIds.{no_segment, not_closed, others_below, older_image}
use Rattle.master_state.proofs.SurvivorLens.{survivor_there}
use Rattle.tally.specs.declared.tallies.Tally.{Tally}
use Rattle.tally.specs.Fills.{kept_len}
use Rattle.tally.specs.Live.{live_bytes, stone_bytes}
use Rattle.tally.specs.Rows.{exact, IsRight, WithOne}
use Rattle.tally.proofs.Filling.{fills_at_once}
use Rattle.tally.proofs.Sums.{kept_is_both}

-- memory has of a closed segment what is found
pub closed_image : (d : MasterData) (core : IsCore d) (s : ℕ) (es : List Entry) → segment_of d.closed s ≡ Some es
    → images_of d s ≡ es
closed_image d core s es is =
    by_survivor (has (survivors_of d.pass) s) refl ∙ ap (λ (o : Option (List Entry)). unwrap_or o []) is
  where
    by_other : (t : Bool) → has (head_of d.head).start.others s ≡ t → has (survivors_of d.pass) s ≡ false
        → images_of d s ≡ images_in d.closed s
    by_other true listed out =
        older_image d core s (all_among (λ (z : ℕ). z < d.head.id) (head_of d.head).start.others s
        (others_below d core) (is_has (head_of d.head).start.others s listed))
    by_other false none out =
        (let gone : None ≡ Some es = sym (no_segment d.closed s (not_closed d core s none out)) ∙ is in absurd (cc))

    by_survivor : (t : Bool) → has (survivors_of d.pass) s ≡ t → images_of d s ≡ images_in d.closed s
    by_survivor true listed = survivor_there d core s (is_has (survivors_of d.pass) s listed)
    by_survivor false out = by_other (has (head_of d.head).start.others s) refl out

-- what is read among the images is found by its id
pub read_there : (cs : List Image) (at : ℕ) (x : Image) → AreRising cs → at < length cs → x ≡ get_or cs at x
    → segment_of cs x.id ≡ Some x.segment
read_there cs at x rising lt read =
    ap (λ (o : Option Image). option_map (λ (y : Image). y.segment) o)
    (image_read cs x.id at x rising (own_place cs at x lt read) read)

module _ (d : MasterData) (core : IsCore d) (id : ℕ) (es : List Entry) (there : segment_of d.closed id ≡ Some es)
    (rows : List Tally) (right : AreTallied d rows) (row : Tally) (among : IsAmong row rows)
    (own : row.segment ≡ id) where
  is_right : IsRight (log_set_ids d) d.index (images_of d) row
  is_right = right row among

  same : images_of d row.segment ≡ es
  same = ap (images_of d) own ∙ closed_image d core id es there

  pub stones_are : row.is_fresh ≡ true → row.stones ≡ stone_bytes (log_set_ids d) es
  stones_are fresh = is_right.stones fresh ∙ ap (stone_bytes (log_set_ids d)) same

  pub live_is : row.live ≡ live_bytes d.index id es
  live_is = is_right.live ∙ (λ i. live_bytes d.index (own i) (same i))

  pub both_are : (stones : ℕ) → stones ≡ stone_bytes (log_set_ids d) es
      → row.live + stones ≡ kept_len (log_set_ids d) d.index id es
  both_are stones is =
      (λ i. live_is i + is i)
      ∙ sym (kept_is_both (log_set_ids d) d.index id es)

-- all that is kept fits the survivor that is filled
pub fills_so : (segment : ℕ) (ids : List ℕ) (d : MasterData) (id : ℕ) (es : List Entry) (a : Level) (kept : ℕ)
    → kept ≡ kept_len ids d.index id es → a.len + kept ≤ segment
    → record { survivor = a.survivor; len = a.len + kept } ≡ filled segment a (segment_lengths ids d.index id es)
fills_so segment ids d id es a kept is le =
    (λ i. record { survivor = a.survivor; len = a.len + is i })
    ∙ sym (fills_at_once segment ids d.index id es a (subst (λ (n : ℕ). a.len + n ≤ segment) is le))

-- a segment that was counted gets a tally
pub counted_right : (d : MasterData) (id live stones : ℕ) (old new : List Tally)
    → live ≡ live_bytes d.index id (images_of d id) → stones ≡ stone_bytes (log_set_ids d) (images_of d id)
    → WithOne (exact id live stones) old new → AreTallied d old → AreTallied d new
counted_right d id live stones old new lives named with right row m = elim (with row m)
    as (λ _. IsRight (log_set_ids d) d.index (images_of d) row) [
      | inl was ↦ right row was
      | inr one ↦ subst (λ (r : Tally). IsRight (log_set_ids d) d.index (images_of d) r) (sym one)
          (record { live = lives; stones = λ fresh. named })
    ]
