-- How many survivors the kept entries of victims fill, counted victim by victim.
use Rattle.std.proofs.Common.{◌≡◌, ℕ, zero, suc, ◌+◌, ◌-◌, ◌<◌, ◌≤◌, List, [], ◌∷◌, length, drop, refl, sym, ap}
use Rattle.std.proofs.Common.{cond, Bool, ◌∙◌, arith}
use Rattle.std.specs.Prelude.{Option, Some, None, nat_le}
use Rattle.std.specs.List.{AllByRecursion}
use Rattle.std.specs.Option.{option_map}
use Rattle.std.proofs.lemmas.Bool.{le-leb, lt-leb}
use Rattle.std.proofs.lemmas.List.{drop_all}
use Rattle.std.proofs.lemmas.List.Sums.{sum_by-cons}
use Rattle.entry.specs.declared.entry.Entry.{Entry}
use Rattle.entry.specs.Text.{text_of, IsSegment}
use Rattle.places.specs.Map.{Places}
use Rattle.cleaner.specs.declared.fitting.PassSize.{PassSize}
use Rattle.cleaner.specs.declared.level.Level.{Level}
use Rattle.cleaner.specs.Filling.{first_level, filled}
use Rattle.cleaner.specs.KeptLengths.{kept_lengths, survivors_over, segment_lengths, bytes_in}
use Rattle.cleaner.specs.Passes.{places_of}
use Rattle.cleaner.proofs.Fillings.{stays, filled_on, at_most, front_no_further}
use Rattle.cleaner.proofs.SegmentFits.{AreFine, lengths_next, kept_within}

all_drop : (P : ℕ → Type 0) (i : ℕ) (xs : List ℕ) → AllByRecursion P xs → AllByRecursion P (drop i xs)
all_drop P zero xs all = all
all_drop P (suc i) [] all = tt
all_drop P (suc i) (x ∷ xs) all = all_drop P i xs all.1

-- so many survivors, if they are no more than four
abbrev pub At_most_four : ℕ → Option ℕ
At_most_four n = cond (nat_le n 4) (Some n) None

module _ (segment : ℕ) (ids : List ℕ) (held : Places) (images : ℕ → List Entry) (victims : List ℕ) where
  abbrev Bytes : ℕ → ℕ
  Bytes s = length (text_of (images s))

  -- the lengths of what is kept of the victims that aren't read yet
  abbrev Unread : ℕ → List ℕ
  Unread i = kept_lengths ids held images (places_of images (drop i victims))

  abbrev Count : ℕ
  Count = survivors_over segment ids held images victims

  -- What is kept of the first victims was filled in, and all bytes of the others are counted.
  pub record IsRead (i : ℕ) (level : Level) (left : ℕ) : Type 0 where
    pub count : suc (filled segment level (Unread i)).survivor ≡ Count
    pub few : level.survivor < 4
    pub bytes : level.len ≤ 16777216
    pub others : left ≡ bytes_in images (drop i victims)
    pub most : left ≤ 268435456

  pub read_start : (left : ℕ) → left ≡ bytes_in images victims → left ≤ 268435456 → IsRead 0 first_level left
  read_start left is most =
      record { count = refl; few = omega arith; bytes = omega arith; others = is; most = most }

  -- ---- the next victim

  module _ (i : ℕ) (level : Level) (left s : ℕ) (es : List Entry) (r : IsRead i level left)
      (split : drop i victims ≡ s ∷ drop (i + 1) victims) (is : es ≡ images s) where
    -- the bytes of the next victim and those of the others
    pub left_next : left ≡ length (text_of es) + bytes_in images (drop (i + 1) victims)
    left_next =
        r.others
        ∙ ap (bytes_in images) split
        ∙ sum_by-cons Bytes s (drop (i + 1) victims)
        ∙ ap (λ (xs : List Entry). length (text_of xs) + bytes_in images (drop (i + 1) victims)) (sym is)

    module _ (valid : IsSegment (images s)) (next : Level)
        (filled_is : next ≡ filled segment level (segment_lengths ids held s es)) where
      count_next : suc (filled segment next (Unread (i + 1))).survivor ≡ Count
      count_next =
          ap (λ (a : Level). suc (filled segment a (Unread (i + 1))).survivor)
          (filled_is ∙ ap (λ (xs : List Entry). filled segment level (segment_lengths ids held s xs)) is)
          ∙ ap (λ (a : Level). suc a.survivor)
          (sym (filled_on segment level (segment_lengths ids held s (images s)) (Unread (i + 1))))
          ∙ ap (λ (ns : List ℕ). suc (filled segment level ns).survivor)
          (sym (ap (λ (ds : List ℕ). kept_lengths ids held images (places_of images ds)) split
          ∙ lengths_next segment ids held images s (drop (i + 1) victims) valid))
          ∙ r.count

      pub read_next : (m : ℕ) → m ≡ length (text_of es) → next.survivor < 4 → next.len ≤ 16777216
          → IsRead (i + 1) next (left - m)
      read_next m len few bytes =
          let later = left_next in
          record {
            count = count_next;
            few = few;
            bytes = bytes;
            others = omega (arith, later, len);
            most = omega (arith, r.most);
          }

      -- a fifth survivor has begun
      pub too_many : 4 ≤ next.survivor → None ≡ At_most_four Count
      too_many le =
          let further = at_most next (filled segment next (Unread (i + 1)))
          (front_no_further segment next (Unread (i + 1))) in
          sym (ap (λ (b : Bool). cond b (Some Count) None)
          (lt-leb Count 4 (let same = count_next in omega (arith, le, further, same))))

  -- ---- the end

  told : (size : PassSize) → size.survivors ≡ Count → Count ≤ 4
      → option_map (λ (x : PassSize). x.survivors) (Some size) ≡ At_most_four Count
  told size is few = ap (λ (n : ℕ). Some n) is ∙ sym (ap (λ (b : Bool). cond b (Some Count) None) (le-leb Count 4 few))

  -- all that isn't read fits the survivor that is filled
  pub rest_fits : (i : ℕ) (level : Level) (left : ℕ) (size : PassSize) → AreFine segment images victims
      → IsRead i level left → level.len + left ≤ segment → size.survivors ≡ level.survivor + 1
      → option_map (λ (x : PassSize). x.survivors) (Some size) ≡ At_most_four Count
  rest_fits i level left size fine r le is =
      let later = all_drop (λ (s : ℕ). IsSegment (images s) × (length (text_of (images s)) ≤ segment)) i victims fine in
      let less = kept_within segment ids held images (drop i victims) later in
      let same = stays segment level (Unread i) (let all = r.others in omega (arith, le, less, all)) in
      let count = r.count in
      let few = r.few in
      told size (omega (arith, is, same, count)) (omega (arith, same, count, few))

  -- all is read
  pub all_read : (i : ℕ) (level : Level) (left : ℕ) (size : PassSize) → IsRead i level left → length victims ≤ i
      → size.survivors ≡ level.survivor + 1
      → option_map (λ (x : PassSize). x.survivors) (Some size) ≡ At_most_four Count
  all_read i level left size r past is =
      let none : Unread i ≡ [] =
      ap (λ (ds : List ℕ). kept_lengths ids held images (places_of images ds)) (drop_all i victims past) in
      let same = ap (λ (ns : List ℕ). (filled segment level ns).survivor) none in
      let count = r.count in
      let few = r.few in
      told size (omega (arith, is, same, count)) (omega (arith, same, count, few))
