-- Entries that were read ahead.
use Rattle.std.proofs.Common.{◌≡◌, ℕ, zero, suc, ◌+◌, ◌-◌, ◌<◌, ◌≤◌, true, false, List, [], ◌∷◌, ◌++◌, length, take}
use Rattle.std.proofs.Common.{drop, get_or, refl, sym, ap, subst, ◌∙◌, arith, add-one}
use Rattle.std.specs.Prelude.{Some, IfSome, sum_by, slice_get}
use Rattle.std.specs.List.{AllByRecursion}
use Rattle.std.proofs.lemmas.List.{length-append, drop_more}
use Rattle.std.proofs.lemmas.List.Sums.{sum_by-cons}
use Rattle.std.proofs.lemmas.Option.{same_Some}
use Rattle.entry.specs.declared.entry.Entry.{Entry}
use Rattle.entry.specs.declared.entry.Entry.TheVariants as entry
use Rattle.entry.specs.Format.{spelling, IsEntry}
use Rattle.entry.specs.Text.{text_of, is_data, IsSegment}
use Rattle.entry.proofs.ListLemmas.{all_split}
use Rattle.entry.proofs.TextLemmas.{spelling-some}
use Rattle.compactor.proofs.Cutting.{IsCut, cut_length}
use Rattle.compactor.proofs.Walking.{here_of, not_unread}
use Rattle.cleaner.specs.declared.ahead.Seen.{Seen}
use Rattle.cleaner.specs.declared.pass.Cursor.{Cursor}
use Rattle.cleaner.specs.Passes.{seen_of, seen_len, IsSeenAt, AreSeenFrom, IsAhead, IsCursorAt}
use Rattle.cleaner.specs.Walks.{IsBetween, IsPositionBetween, IsAtData, GoesTo}
use Rattle.cleaner.proofs.Cursors.{cut_of, between_behind}

-- ---- what is remembered of an entry

pub shows_data : (seed : List ℕ) (e : Entry) (x : Seen) → seen_of seed e ≡ Some x → is_data e ≡ true
shows_data seed (entry.Header h) x is = absurd (cc)
shows_data seed (entry.Digest ids) x is = absurd (cc)
shows_data seed (entry.Safe version) x is = absurd (cc)
shows_data seed (entry.Object o) x is = refl
shows_data seed (entry.Tombstone t) x is = refl

pub shows_len : (seed : List ℕ) (e : Entry) (x : Seen) → seen_of seed e ≡ Some x → seen_len x ≡ length (spelling e)
shows_len seed (entry.Header h) x is = absurd (cc)
shows_len seed (entry.Digest ids) x is = absurd (cc)
shows_len seed (entry.Safe version) x is = absurd (cc)
shows_len seed (entry.Object o) x is = ap seen_len (sym (same_Some _ x is))
shows_len seed (entry.Tombstone t) x is = ap seen_len (sym (same_Some _ x is))

-- ---- the first of some

pub ahead_data : (seed : List ℕ) (es : List Entry) (at : ℕ) (xs : List Seen) → IsAhead seed es at xs → IsAtData es at
ahead_data seed es at [] none = absurd none
ahead_data seed es at (x ∷ xs) all = let s = all.0 in (s.entry, s.lies, shows_data seed s.entry x s.shows)

-- ---- one that is read

module _ (es : List Entry) (at : ℕ) (text : List ℕ) (spelled : text ≡ text_of es) (valid : IsSegment es) where
  -- an object or a tombstone lies within the text
  pub data_within : IsAtData es at → at < length text
  data_within there =
      let lies = there.1 in
      omega (
        arith,
        ap length spelled,
        cut_length es lies.before (there.0 ∷ lies.after) at (record { split = lies.split; offset = lies.offset }),
        length-append (spelling there.0) (text_of lies.after),
        spelling-some there.0,
      )

  module _ (lt : at < length text) where
    pub never_unread : IsBetween es at
        → ((f : Entry) (more : List ℕ) → IsEntry f → take (length text - at) (drop at text)
        ≡ spelling f ++ more → ⊥) → ⊥
    never_unread b none = not_unread es text spelled valid.each b.before b.rest at (cut_of es at b) lt none

    module _ (e : Entry) (n : ℕ) (reads : (f : Entry) (more : List ℕ) → IsEntry f
        → take (length text - at) (drop at text) ≡ spelling f ++ more → (e ≡ f) × (n ≡ length (spelling f))) where
      pub read_seen : (seed : List ℕ) (x : Seen) → IsBetween es at → length text ≤ 8388608
          → (n ≡ length (spelling e) → seen_of seed e ≡ Some x) → IsSeenAt seed es at x
      read_seen seed x b limit shows =
          let here = here_of es text spelled valid.each b.before b.rest at (cut_of es at b) lt e n reads in
          let is = shows here.size in
          record {
            entry = e;
            lies = record { before = b.before; after = here.later; split = here.cut.split; offset = here.cut.offset };
            valid = (all_split IsEntry b.before (e ∷ here.later)
                (subst (λ (xs : List Entry). AllByRecursion IsEntry xs) here.cut.split valid.each)).1.0;
            shows = is;
            limit =
                omega (
                  arith,
                  limit,
                  shows_len seed e x is,
                  ap length spelled,
                  cut_length es b.before (e ∷ here.later) at here.cut,
                  length-append (spelling e) (text_of here.later),
                );
          }

      -- it is the one that stands there
      pub read_other : is_data e ≡ false → IsAtData es at → ⊥
      read_other isnt there =
          let lies = there.1 in
          let cut : IsCut es lies.before (there.0 ∷ lies.after) at =
          record { split = lies.split; offset = lies.offset } in
          let here = here_of es text spelled valid.each lies.before (there.0 ∷ lies.after) at cut lt e n reads in
          let same : is_data there.0 ≡ is_data e = ap is_data (heads there.0 e lies.after here.later here.is) in
          differ (sym there.2 ∙ same ∙ isnt)
        where
          heads : (x y : Entry) (xs ys : List Entry) → x ∷ xs ≡ y ∷ ys → x ≡ y
          heads x y xs ys is = cc

          differ : true ≡ false → ⊥
          differ is = absurd (cc)

-- ---- one more

abbrev pub Bytes : List Seen → ℕ
Bytes xs = sum_by seen_len xs

seen_push : (seed : List ℕ) (es : List Entry) (at : ℕ) (xs : List Seen) (x : Seen) → AreSeenFrom seed es at xs
    → IsSeenAt seed es (at + Bytes xs) x → AreSeenFrom seed es at (xs ++ x ∷ [])
seen_push seed es at [] x all one = (subst (λ (n : ℕ). IsSeenAt seed es n x) (omega arith) one, tt)
seen_push seed es at (y ∷ ys) x all one =
    let next : at + Bytes (y ∷ ys) ≡ at + seen_len y + Bytes ys = omega (arith, sum_by-cons seen_len y ys) in
    (all.0, seen_push seed es (at + seen_len y) ys x all.1 (subst (λ (n : ℕ). IsSeenAt seed es n x) next one))

sum_push : (xs : List Seen) (x : Seen) → Bytes (xs ++ x ∷ []) ≡ Bytes xs + seen_len x
sum_push [] x = omega (arith, sum_by-cons seen_len x [])
sum_push (y ∷ ys) x =
    omega (arith, sum_by-cons seen_len y (ys ++ x ∷ []), sum_by-cons seen_len y ys, sum_push ys x)

-- So many entries were read from an offset on, and the walk is behind them.
pub record IsGathered (seed : List ℕ) (es : List Entry) (from count at : ℕ) (xs : List Seen) : Type 0 where
  pub all : AreSeenFrom seed es from xs
  pub end : at ≡ from + Bytes xs
  pub between : IsBetween es at
  pub few : length xs ≡ count

pub gathered_start : (seed : List ℕ) (es : List Entry) (from : ℕ) (xs : List Seen) → xs ≡ [] → IsAtData es from
    → IsGathered seed es from 0 from xs
gathered_start seed es from xs none there =
    let lies = there.1 in
    subst (IsGathered seed es from 0 from) (sym none) (record {
      all = tt;
      end = omega arith;
      between = record { before = lies.before; rest = there.0 ∷ lies.after; split = lies.split; offset = lies.offset };
      few = refl;
    })

pub gathered_next : (seed : List ℕ) (es : List Entry) (from count at : ℕ) (xs : List Seen) (x : Seen)
    → IsGathered seed es from count at xs → IsSeenAt seed es at x
    → IsGathered seed es from (count + 1) (at + seen_len x) (xs ++ x ∷ [])
gathered_next seed es from count at xs x g one = record {
  all = seen_push seed es from xs x g.all (subst (λ (n : ℕ). IsSeenAt seed es n x) g.end one);
  end = omega (arith, g.end, sum_push xs x);
  between = between_behind es at (seen_len x) one.entry one.lies (shows_len seed one.entry x one.shows);
  few = omega (arith, g.few, length-append xs (x ∷ []));
}

-- at least one was read
pub gathered_ahead : (seed : List ℕ) (es : List Entry) (from : ℕ) (xs : List Seen) → AreSeenFrom seed es from xs
    → (xs ≡ [] → ⊥) → IsAhead seed es from xs
gathered_ahead seed es from [] all some = absurd (some refl)
gathered_ahead seed es from (x ∷ xs) all some = all

-- if nothing can be read, something was
pub gathered_some : (seed : List ℕ) (es : List Entry) (from count at : ℕ) (xs : List Seen)
    → IsGathered seed es from count at xs → IsAtData es from → (IsAtData es at → ⊥) → xs ≡ [] → ⊥
gathered_some seed es from count at xs g there none is =
    let end : from ≡ at = omega (arith, g.end, ap Bytes is) in
    none (subst (IsAtData es) end there)

-- ---- those that aren't treated

pub first_left : (xs : List Seen) (n : ℕ) → slice_get xs n ≡ slice_get (drop n xs) 0
first_left [] zero = refl
first_left [] (suc n) = refl
first_left (x ∷ xs) zero = refl
first_left (x ∷ xs) (suc n) = first_left xs n

rest_after : (xs : List Seen) (n : ℕ) → drop (suc n) xs ≡ drop 1 (drop n xs)
rest_after [] zero = refl
rest_after [] (suc n) = refl
rest_after (x ∷ xs) zero = refl
rest_after (x ∷ xs) (suc n) = rest_after xs n

pub rest_left : (xs : List Seen) (n : ℕ) → drop (n + 1) xs ≡ drop 1 (drop n xs)
rest_left xs n = rw add-one (rest_after xs n)

-- those behind the first
pub behind_first : (seed : List ℕ) (es : List Entry) (at : ℕ) (xs : List Seen) (n : ℕ) → IsAhead seed es at xs
    → 0 < length (drop 1 xs) → IfSome (slice_get xs 0) (λ (x : Seen). n ≡ seen_len x)
    → IsAhead seed es (at + n) (drop 1 xs)
behind_first seed es at [] n none more is = absurd none
behind_first seed es at (x ∷ []) n all more is = absurd (omega arith)
behind_first seed es at (x ∷ y ∷ ys) n all more is =
    subst (λ (m : ℕ). IsAhead seed es (at + m) (y ∷ ys)) (sym is) all.1

-- the walk is behind the first
pub between_first : (seed : List ℕ) (es : List Entry) (at : ℕ) (xs : List Seen) (n : ℕ) → IsAhead seed es at xs
    → IfSome (slice_get xs 0) (λ (x : Seen). n ≡ seen_len x) → IsBetween es (at + n) × (at + n ≤ 8388608)
between_first seed es at [] n none is = absurd none
between_first seed es at (x ∷ xs) n all is =
    let one = all.0 in (
      between_behind es at n one.entry one.lies (is ∙ shows_len seed one.entry x one.shows),
      omega (arith, is, one.limit),
    )

pub some_ahead : (seed : List ℕ) (es : List Entry) (at : ℕ) (xs : List Seen) → IsAhead seed es at xs → 0 < length xs
some_ahead seed es at [] none = absurd none
some_ahead seed es at (x ∷ xs) all = omega arith

-- ---- the cursor

module _ (seed : List ℕ) (images : ℕ → List Entry) (victims : List ℕ) (cursor : Cursor) (n : ℕ)
    (lt : cursor.victim < length victims) (is : IsCursorAt seed images (drop cursor.victim victims) cursor)
    (first : IfSome (slice_get cursor.ahead 0) (λ (x : Seen). n ≡ seen_len x)) where
  abbrev own : ℕ
  own = get_or victims cursor.victim 0

  split : drop cursor.victim victims ≡ own ∷ drop (cursor.victim + 1) victims
  split = drop_more victims cursor.victim 0 lt

  own_ahead : IsAhead seed (images own) cursor.at cursor.ahead
  own_ahead = subst (λ (ids : List ℕ). IsCursorAt seed images ids cursor) split is

  pub own_between : IsPositionBetween images (drop cursor.victim victims) (cursor.at + n)
  own_between =
      subst (λ (ids : List ℕ). IsPositionBetween images ids (cursor.at + n)) (sym split)
      (between_first seed (images own) cursor.at cursor.ahead n own_ahead first).0

  pub own_limit : cursor.at + n ≤ 8388608
  own_limit = (between_first seed (images own) cursor.at cursor.ahead n own_ahead first).1

  -- it goes on with the next of those that were read
  pub own_next : (rest : List Seen) → rest ≡ drop 1 cursor.ahead → 0 < length rest
      → GoesTo seed images victims (record { victim = cursor.victim; at = cursor.at + n })
      (record { victim = cursor.victim; at = cursor.at + n; ahead = rest })
  own_next rest same some =
      let more : 0 < length (drop 1 cursor.ahead) = omega (arith, some, ap (λ (xs : List Seen). length xs) same) in
      let ahead = behind_first seed (images own) cursor.at cursor.ahead n own_ahead more first in
      record {
        within = omega (arith, lt);
        rest = refl;
        cursor =
            subst (λ (ids : List ℕ). IsCursorAt seed images ids (record {
              victim = cursor.victim;
              at = cursor.at + n;
              ahead = rest;
            }))
            (sym split) (subst (λ (xs : List Seen). IsAhead seed (images own) (cursor.at + n) xs) (sym same) ahead);
      }
