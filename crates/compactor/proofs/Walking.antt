-- What is true during the two walks over a segment: the one that counts the kept entries, and the one that copies
-- them.
use Rattle.std.proofs.Common.{◌≡◌, ℕ, ◌+◌, ◌-◌, ◌<◌, ◌≤◌, Bool, true, false, cond, List, [], ◌∷◌, ◌++◌, length, take}
use Rattle.std.proofs.Common.{drop, refl, sym, ap, subst, ◌∙◌, arith}
use Rattle.std.specs.List.{AllByRecursion}
use Rattle.std.proofs.lemmas.List.{length-append, append-nil}
use Rattle.entry.specs.declared.entry.Entry.{Entry}
use Rattle.entry.specs.declared.entry.Entry.TheVariants as entry
use Rattle.entry.specs.Format.{spelling, IsEntry}
use Rattle.entry.specs.Text.{text_of, IsSegment, IsTextOf}
use Rattle.entry.proofs.TextLemmas.{spelling-some}
use Rattle.segment.proofs.RowLemmas.{text_of-append}
use Rattle.entry.specs.declared.key.Key.{Key}
use Rattle.places.specs.declared.place.Place.{Place}
use Rattle.places.specs.Map.{Places, AreKept}
use Rattle.places.specs.Relocation.{names}
use Rattle.places.proofs.Words.{names_other}
use Rattle.compactor.specs.Kept.{kept, kept_from, kept_of}
use Rattle.compactor.specs.Moved.{moved_one, Follows}
use Rattle.compactor.specs.Places.{keys_in, LieIn}
use Rattle.compactor.proofs.KeptEntries.{kept_push, kept_length, kept_segment}
use Rattle.compactor.proofs.Cutting.{IsCut, IsCut-start, first_at, cut_next, cut_end}
use Rattle.compactor.proofs.Following.{all_until, until_start, until_end, until_plain, until_object}

-- the entry that was read is the first of the rest
pub record IsHere (es before rest : List Entry) (at : ℕ) (e : Entry) (n : ℕ) : Type 0 where
  pub later : List Entry
  pub is : rest ≡ e ∷ later
  pub cut : IsCut es before (e ∷ later) at
  pub size : n ≡ length (spelling e)

module _ (es : List Entry) (text : List ℕ) (is : text ≡ text_of es) (all : AllByRecursion IsEntry es)
    (before rest : List Entry)
    (at : ℕ) (cut : IsCut es before rest at) (lt : at < length text) where
  pub here_of : (e : Entry) (n : ℕ)
      → ((f : Entry) (more : List ℕ) → IsEntry f → take (length text - at) (drop at text) ≡ spelling f ++ more
      → (e ≡ f) × (n ≡ length (spelling f))) → IsHere es before rest at e n
  here_of e n reads =
      let first = first_at es before rest text at cut is all lt in
      let read = reads first.first (text_of first.later) first.entry first.spelled in
      let same : rest ≡ e ∷ first.later = first.is ∙ ap (λ (f : Entry). f ∷ first.later) (sym read.0) in
      record {
        later = first.later;
        is = same;
        cut = subst (λ (r : List Entry). IsCut es before r at) same cut;
        size = read.1 ∙ ap (λ (f : Entry). length (spelling f)) (sym read.0);
      }

  -- some entry can be read
  pub not_unread : ((f : Entry) (more : List ℕ) → IsEntry f
      → take (length text - at) (drop at text) ≡ spelling f ++ more → ⊥)
      → ⊥
  not_unread none =
      let first = first_at es before rest text at cut is all lt in
      none first.first (text_of first.later) first.entry first.spelled

-- one more entry behind the kept ones
cond_size : (b : Bool) (e : Entry) (r : List Entry) (n : ℕ) → n ≡ length (spelling e)
    → length (text_of (cond b (e ∷ r) r)) ≡ cond b n 0 + length (text_of r)
cond_size true e r n is = omega (arith, is, length-append (spelling e) (text_of r))
cond_size false e r n is = omega arith

module _ (ids : List ℕ) (held : Places) (segment : ℕ) (es : List Entry) where
  abbrev Rest : ℕ → List Entry → ℕ
  Rest at rest = length (text_of (kept_from ids held segment at rest))

  -- ---- the sum

  -- the bytes of the kept entries before an offset are counted
  pub record IsSummed (at len : ℕ) : Type 0 where
    pub before : List Entry
    pub rest : List Entry
    pub cut : IsCut es before rest at
    pub sum : len + Rest at rest ≡ length (text_of (kept_of ids held segment es))
    pub low : len ≤ at

  pub IsSummed-start : IsSummed 0 0
  IsSummed-start = record {
    before = [];
    rest = es;
    cut = IsCut-start es;
    sum = omega arith;
    low = omega arith;
  }

  -- the bytes of the next one and of those behind it
  rest_next : (at n : ℕ) (rest : List Entry) (e : Entry) (later : List Entry) (b : Bool) → rest ≡ e ∷ later
      → n ≡ length (spelling e) → kept ids held (record { segment = segment; at = at }) e ≡ b
      → Rest at rest ≡ cond b n 0 + Rest (at + n) later
  rest_next at n rest e later b is size keeps =
      ap (Rest at) is
      ∙ ap (λ (t : Bool). length (text_of (cond t (e ∷ kept_from ids held segment (at + length (spelling e)) later)
      (kept_from ids held segment (at + length (spelling e)) later)))) keeps
      ∙ ap (λ (m : ℕ). length (text_of (cond b (e ∷ kept_from ids held segment (at + m) later)
      (kept_from ids held segment (at + m) later)))) (sym size)
      ∙ cond_size b e (kept_from ids held segment (at + n) later) n size

  pub cut_behind : (before later : List Entry) (e : Entry) (at n : ℕ) → IsCut es before (e ∷ later) at
      → n ≡ length (spelling e) → IsCut es (before ++ e ∷ []) later (at + n)
  cut_behind before later e at n cut size =
      subst (λ (m : ℕ). IsCut es (before ++ e ∷ []) later (at + m)) (sym size) (cut_next es before later e at cut)

  pub IsSummed-kept : (at len : ℕ) (s : IsSummed at len) (e : Entry) (n : ℕ) → IsHere es s.before s.rest at e n
      → kept ids held (record { segment = segment; at = at }) e ≡ true → IsSummed (at + n) (len + n)
  IsSummed-kept at len s e n here keeps = record {
    before = s.before ++ e ∷ [];
    rest = here.later;
    cut = cut_behind s.before here.later e at n here.cut here.size;
    sum = omega (arith, s.sum, rest_next at n s.rest e here.later true here.is here.size keeps);
    low = omega (arith, s.low);
  }

  pub IsSummed-dropped : (at len : ℕ) (s : IsSummed at len) (e : Entry) (n : ℕ) → IsHere es s.before s.rest at e n
      → kept ids held (record { segment = segment; at = at }) e ≡ false → IsSummed (at + n) len
  IsSummed-dropped at len s e n here keeps = record {
    before = s.before ++ e ∷ [];
    rest = here.later;
    cut = cut_behind s.before here.later e at n here.cut here.size;
    sum = omega (arith, s.sum, rest_next at n s.rest e here.later false here.is here.size keeps);
    low = omega (arith, s.low);
  }

  pub IsSummed-next : (at len : ℕ) (s : IsSummed at len) (e : Entry) (n : ℕ) → IsHere es s.before s.rest at e n
      → (b : Bool) → kept ids held (record { segment = segment; at = at }) e ≡ b → IsSummed (at + n) (len + cond b n 0)
  IsSummed-next at len s e n here true keeps = IsSummed-kept at len s e n here keeps
  IsSummed-next at len s e n here false keeps =
      subst (λ m. IsSummed (at + n) m) (omega arith) (IsSummed-dropped at len s e n here keeps)

  pub IsSummed-end : (at len : ℕ) → IsSummed at len → length (text_of es) ≤ at
      → len ≡ length (text_of (kept_of ids held segment es))
  IsSummed-end at len s past =
      let none : Rest at s.rest ≡ 0 = ap (Rest at) (cut_end es s.before s.rest at s.cut past) in
      omega (arith, s.sum, none)

  -- ---- the copy

  -- places from an offset on are named as they were
  abbrev AreAsBefore : ℕ → Places → Type 0
  AreAsBefore at now = (k : Key) (p : Place) → at ≤ p.at → names now k p ≡ names held k p

  -- The kept entries before an offset are copied, and the index has moved with them. There is room for the others.
  pub record IsCopied (at : ℕ) (out : List ℕ) (capacity : ℕ) (now : Places) : Type 0 where
    pub before : List Entry
    pub rest : List Entry
    pub cut : IsCut es before rest at
    pub text : out ≡ text_of (kept_of ids held segment before)
    pub room : length out + Rest at rest ≤ capacity
    pub same : AreAsBefore at now
    pub follows : (images : ℕ → List Entry) → images segment ≡ es → LieIn images held
        → AreKept (keys_in images) held → now ≡ all_until ids held segment es at held

  pub IsCopied-start : (out : List ℕ) (capacity : ℕ) → out ≡ []
      → length (text_of (kept_of ids held segment es)) ≤ capacity → IsCopied 0 out capacity held
  IsCopied-start out capacity empty room = record {
    before = [];
    rest = es;
    cut = IsCut-start es;
    text = empty;
    room = omega (arith, room, ap length empty);
    same = λ k p le. refl;
    follows = λ images is lie all. sym (until_start ids held segment es held);
  }

  -- an entry is kept as it was, wherever it lies from an offset on
  kept_same : (at : ℕ) (now : Places) → AreAsBefore at now → (p : Place) (e : Entry) → at ≤ p.at
      → kept ids now p e ≡ kept ids held p e
  kept_same at now same p (entry.Header h) le = refl
  kept_same at now same p (entry.Digest l) le = refl
  kept_same at now same p (entry.Safe version) le = refl
  kept_same at now same p (entry.Object o) le = same o.key p le
  kept_same at now same p (entry.Tombstone t) le = refl

  same_next : (at n m : ℕ) (now : Places) (e : Entry) → 0 < n → m ≤ at → AreAsBefore at now
      → AreAsBefore (at + n)
      (moved_one (record { segment = segment; at = at }) (record { segment = segment; at = m }) e now)
  same_next at n m now (entry.Header h) some low same = λ k p le. same k p (omega arith)
  same_next at n m now (entry.Digest l) some low same = λ k p le. same k p (omega arith)
  same_next at n m now (entry.Safe version) some low same = λ k p le. same k p (omega arith)
  same_next at n m now (entry.Tombstone t) some low same = λ k p le. same k p (omega arith)
  same_next at n m now (entry.Object o) some low same = λ k p le.
      names_other o.key k (record { segment = segment; at = at }) (record { segment = segment; at = m }) p
      (λ is. omega (arith, ap (λ (q : Place). q.at) is, le, some))
      (λ is. omega (arith, ap (λ (q : Place). q.at) is, le, some, low)) now
      ∙ same k p (omega arith)

  -- the places of one entry follow it
  followed_by : (all : AllByRecursion IsEntry es) (before later : List Entry) (e : Entry) (at m : ℕ)
      → IsCut es before (e ∷ later) at → m ≡ length (text_of (kept_of ids held segment before))
      → (images : ℕ → List Entry) → images segment ≡ es → LieIn images held → AreKept (keys_in images) held
      → moved_one (record { segment = segment; at = at }) (record { segment = segment; at = m }) e
      (all_until ids held segment es at held)
      ≡ all_until ids held segment es (at + length (spelling e)) held
  followed_by all before later (entry.Header h) at m cut copied images is lie found =
      until_plain ids held segment es images is all before later (entry.Header h) at cut (λ o same. cc) held lie
  followed_by all before later (entry.Digest l) at m cut copied images is lie found =
      until_plain ids held segment es images is all before later (entry.Digest l) at cut (λ o same. cc) held lie
  followed_by all before later (entry.Safe v) at m cut copied images is lie found =
      until_plain ids held segment es images is all before later (entry.Safe v) at cut (λ o same. cc) held lie
  followed_by all before later (entry.Tombstone t) at m cut copied images is lie found =
      until_plain ids held segment es images is all before later (entry.Tombstone t) at cut (λ o same. cc) held lie
  followed_by all before later (entry.Object o) at m cut copied images is lie found =
      until_object ids held segment es images is all before later (entry.Object o) at cut o refl m copied held lie found

  module _ (all : AllByRecursion IsEntry es) (at : ℕ) (out : List ℕ) (capacity : ℕ) (now : Places)
      (s : IsCopied at out capacity now) (e : Entry) (n m : ℕ) (here : IsHere es s.before s.rest at e n)
      (end : m ≡ length out) where
    abbrev after : Places
    after = moved_one (record { segment = segment; at = at }) (record { segment = segment; at = m }) e now

    copied_low : m ≤ at
    copied_low = omega (arith, end, ap length s.text, kept_length ids held segment 0 s.before, here.cut.offset)

    keeps_as : (b : Bool) → b ≡ kept ids now (record { segment = segment; at = at }) e
        → kept ids held (record { segment = segment; at = at }) e ≡ b
    keeps_as b is = sym (is ∙ kept_same at now s.same (record { segment = segment; at = at }) e (omega arith))

    follows_next : (images : ℕ → List Entry) → images segment ≡ es → LieIn images held → AreKept (keys_in images) held
        → after ≡ all_until ids held segment es (at + n) held
    follows_next images is lie found =
        ap (moved_one (record { segment = segment; at = at }) (record { segment = segment; at = m }) e)
        (s.follows images is lie found)
        ∙ followed_by all s.before here.later e at m here.cut (end ∙ ap length s.text) images is lie found
        ∙ ap (λ (k : ℕ). all_until ids held segment es (at + k) held) (sym here.size)

    text_next : (b : Bool) → kept ids held (record { segment = segment; at = at }) e ≡ b
        → text_of (kept_of ids held segment (s.before ++ e ∷ [])) ≡ out ++ text_of (cond b (e ∷ []) [])
    text_next b keeps =
        ap text_of (kept_push ids held segment s.before e at b here.cut.offset keeps)
        ∙ text_of-append (kept_of ids held segment s.before) (cond b (e ∷ []) [])
        ∙ ap (λ (l : List ℕ). l ++ text_of (cond b (e ∷ []) [])) (sym s.text)

    -- there is room for a kept one
    pub copied_room : (b : Bool) → b ≡ kept ids now (record { segment = segment; at = at }) e → b ≡ true
        → length out + n ≤ capacity
    copied_room b is so =
        let next = rest_next at n s.rest e here.later true here.is here.size (keeps_as b is ∙ so) in
        omega (arith, s.room, next)

    pub IsCopied-kept : (b : Bool) → b ≡ kept ids now (record { segment = segment; at = at }) e → b ≡ true
        → (longer : List ℕ) (wide : ℕ) → longer ≡ out ++ spelling e → capacity ≤ wide
        → IsCopied (at + n) longer wide after
    IsCopied-kept b is so longer wide more wider =
        let keeps = keeps_as b is ∙ so in
        record {
          before = s.before ++ e ∷ [];
          rest = here.later;
          cut = cut_behind s.before here.later e at n here.cut here.size;
          text = more ∙ ap (λ (l : List ℕ). out ++ l) (sym (append-nil (spelling e))) ∙ sym (text_next true keeps);
          room =
              omega (
                arith,
                s.room,
                wider,
                here.size,
                ap length more,
                length-append out (spelling e),
                rest_next at n s.rest e here.later true here.is here.size keeps,
              );
          same = same_next at n m now e (omega (arith, here.size, spelling-some e)) copied_low s.same;
          follows = follows_next;
        }

    pub IsCopied-dropped : (b : Bool) → b ≡ kept ids now (record { segment = segment; at = at }) e → b ≡ false
        → IsCopied (at + n) out capacity after
    IsCopied-dropped b is so =
        let keeps = keeps_as b is ∙ so in
        record {
          before = s.before ++ e ∷ [];
          rest = here.later;
          cut = cut_behind s.before here.later e at n here.cut here.size;
          text = sym (append-nil out) ∙ sym (text_next false keeps);
          room = omega (arith, s.room, rest_next at n s.rest e here.later false here.is here.size keeps);
          same = same_next at n m now e (omega (arith, here.size, spelling-some e)) copied_low s.same;
          follows = follows_next;
        }

  -- the same bytes, with more room
  pub IsCopied-as : (at : ℕ) (out again : List ℕ) (capacity wide : ℕ) (now : Places) → again ≡ out
      → capacity ≤ wide → IsCopied at out capacity now → IsCopied at again wide now
  IsCopied-as at out again capacity wide now is wider s =
      record {
        before = s.before;
        rest = s.rest;
        cut = s.cut;
        text = is ∙ s.text;
        room = omega (arith, s.room, wider, ap length is);
        same = s.same;
        follows = s.follows;
      }

  -- ---- all is copied

  whole_before : (before rest : List Entry) (at : ℕ) → IsCut es before rest at → length (text_of es) ≤ at → before ≡ es
  whole_before before rest at cut past =
      sym (cut.split ∙ ap (λ (r : List Entry). before ++ r) (cut_end es before rest at cut past) ∙ append-nil before)

  pub IsCopied-text : (at : ℕ) (out : List ℕ) (capacity : ℕ) (now : Places) → IsCopied at out capacity now
      → length (text_of es) ≤ at → out ≡ text_of (kept_of ids held segment es)
  IsCopied-text at out capacity now s past =
      s.text ∙ ap (λ (xs : List Entry). text_of (kept_of ids held segment xs))
      (whole_before s.before s.rest at s.cut past)

  pub IsCopied-follows : (all : AllByRecursion IsEntry es) (at : ℕ) (out : List ℕ) (capacity : ℕ) (now : Places)
      → IsCopied at out capacity now → length (text_of es) ≤ at → Follows ids segment es held now
  IsCopied-follows all at out capacity now s past = λ images is lie found.
      let end : at ≡ length (text_of es) =
      s.cut.offset ∙ ap (λ (xs : List Entry). length (text_of xs)) (whole_before s.before s.rest at s.cut past) in
      s.follows images is lie found
      ∙ ap (λ (k : ℕ). all_until ids held segment es k held) end
      ∙ until_end ids held segment es images is all held lie

  -- what is copied is a segment's text
  pub IsCopied-all : (text : List ℕ) → text ≡ text_of es → IsSegment es → (at : ℕ) (out : List ℕ) (capacity : ℕ)
      (now : Places) → IsCopied at out capacity now → length text ≤ at
      → IsTextOf out (kept_of ids held segment es)
  IsCopied-all text is valid at out capacity now s past = record {
    segment = kept_segment ids held segment es valid;
    text = IsCopied-text at out capacity now s (omega (arith, past, ap length is));
  }
