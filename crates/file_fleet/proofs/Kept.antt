-- What keeps the files of a fleet, and what a crash leaves of them.
use Rattle.std.proofs.Common.{◌≡◌, ◌⊎◌, inl, inr, ℕ, ◌<◌, ◌≤◌, zero, suc, List, [], ◌∷◌, ◌++◌, length}
use Rattle.std.proofs.Common.{Bool, true, false, ◌==◌, cond}
use Rattle.std.proofs.Common.{Some, set, refl, sym, ◌∙◌, ap, subst, arith}
use Rattle.std.proofs.lemmas.Bool.Decides.{nat_tests}
use Rattle.std.specs.List.{slice_get}
use Rattle.std.specs.Prelude.{Result, Ok, Err, IfErr, OnErr, OnOk, is_err}
use Rattle.std.proofs.lemmas.Bool.{eqb-true, false≢true, false_from_ne_true}
use Rattle.std.proofs.lemmas.Option.{none-some, same_Some, slice_get_within}
use Rattle.replica.specs.Op.{OpValue}
use Rattle.replica.specs.Picture.{Picture}
use Rattle.take_journal.specs.Device.{AnyMoment}
use Rattle.take_journal.specs.Journal.{device_of}
use Rattle.take_journal.specs.declared.journal.Journal.{Journal}
use Rattle.file_backup.specs.Mirror.{IsJournalOf, LeftByTake, is_out}
use Rattle.file_backup.specs.Replay.{Replicas}
use Rattle.file_fleet.specs.Files.{Files, Noted, ShowsFleet, ShowsUnder, named, with_file, with_head}
use Rattle.file_fleet.specs.Files.{with_master, with_span}
use Rattle.file_fleet.specs.declared.registry.Span.{Span}
use Rattle.file_fleet.specs.declared.registry.Span.TheVariants.{First, Whole}
use Rattle.file_fleet.specs.Members.{AreKept, IsMember, IsOutAt, IsUnder, device_at, picture_of, replicas_at}
use Rattle.file_fleet.specs.Members.{with_backup}
use Rattle.file_fleet.specs.Moments.{AreLeftAmid, AreLeftByPut, AreLeftNow, LeavesEither, ShowsPut, ShowsRaise}
use Rattle.file_fleet.specs.Moments.{ShowsNaming, ShowsTake}
use Rattle.file_fleet.specs.declared.member.Member.{Member}
use Rattle.file_fleet.specs.declared.members.Members.{Members}
use Rattle.file_fleet.proofs.Pictures.{seen, slice_get-set, there, with_itself, would_take}

-- files that show each backup show the fleet
shows_each : {D : Type 0} (members : List (Member D)) (picture : Picture) (least : ℕ → ℕ) (files : Files)
    → files.registry.least ≡ least
    → ((b : ℕ) (h : Member D) → slice_get members b ≡ Some h
    → ShowsUnder (files.registry.span b) (picture b) (named files b))
    → ShowsFleet (length members) picture least files
shows_each members picture least files heads each =
    record { heads = heads; each = λ b within. let x = there members b within in each b x.0 x.1 }

-- what a registry says of a file is read of the file that it names
reads : (files : Files) (n : Noted) → files.registry ≡ n → (b id : ℕ) (p : Replicas) → n.file b ≡ id
    → ShowsUnder (n.span b) p (files.journal b id) → ShowsUnder (files.registry.span b) p (named files b)
reads files n is b id p name shows =
    subst (λ (m : Noted). ShowsUnder (m.span b) p (files.journal b (m.file b))) (sym is)
    (subst (λ (i : ℕ). ShowsUnder (n.span b) p (files.journal b i)) (sym name) shows)

-- what a list has at a place once one backup became another
at_set : {D : Type 0} (members : List (Member D)) (b : ℕ) (i : Member D) (c : ℕ) (x : Member D) → b < length members
    → (b == c) ≡ false → slice_get members c ≡ Some x → slice_get (set members b i) c ≡ Some x
at_set members b i c x within other at = rw (slice_get-set members b i c within, other) at

here_set : {D : Type 0} (members : List (Member D)) (b : ℕ) (i : Member D) → b < length members
    → slice_get (set members b i) b ≡ Some i
here_set members b i within =
    let same : (b == b) ≡ true = grind (arith, nat_tests) in rw (slice_get-set members b i b within, same) refl

-- what holds of each backup, holds of each once one became another
each_set : {D : Type 0} (P : ℕ → Member D → Type 0) (members : List (Member D)) (b : ℕ) (i : Member D)
    → b < length members
    → ((c : ℕ) (x : Member D) → (b == c) ≡ false → slice_get members c ≡ Some x → P c x) → P b i
    → (c : ℕ) (x : Member D) → slice_get (set members b i) c ≡ Some x → P c x
each_set {D} P members b i within others here c x at =
    by_test (b == c) refl (subst (λ o. o ≡ Some x) (slice_get-set members b i c within) at)
  where
    by_test : (t : Bool) → (b == c) ≡ t → cond t (Some i) (slice_get members c) ≡ Some x → P c x
    by_test true same is = subst (λ k. P k x) (eqb-true b c same) (subst (λ y. P b y) (same_Some i x is) here)
    by_test false other is = others c x other is

-- what holds of each backup, and of one more, holds of each of them
pub each_more : {D : Type 0} (P : ℕ → Member D → Type 0) (members : List (Member D)) (h : Member D)
    → ((c : ℕ) (x : Member D) → slice_get members c ≡ Some x → P c x) → P (length members) h
    → (c : ℕ) (x : Member D) → slice_get (members ++ h ∷ []) c ≡ Some x → P c x
each_more P [] h each here zero x at = subst (λ y. P 0 y) (same_Some h x at) here
each_more P [] h each here (suc c) x at = absurd (none-some x at)
each_more P (y ∷ ys) h each here zero x at = each 0 x at
each_more P (y ∷ ys) h each here (suc c) x at =
    each_more (λ d z. P (suc d) z) ys h (λ d z is. each (suc d) z is) here c x at

-- a backup that is there, and of which none is out
pub went_on : {D : Type 0} (members : List (Member D)) (b : ℕ) (h : Member D) → slice_get members b ≡ Some h
    → (IsOutAt members b → ⊥) → is_out h.backup ≡ false
went_on members b h at none = false_from_ne_true (is_out h.backup) (λ out. none (h, at, out))

pub for_ok : {A E : Type 0} (r : Result A E) (P Q : Type 0) → (P → Q) → OnOk r P → OnOk r Q
for_ok (Ok u) P Q gives p = gives p
for_ok (Err e) P Q gives p = p

pub for_err : {E : Type 0} (r : Result Unit E) (P Q : Type 0) → (P → Q) → OnErr r P → OnErr r Q
for_err (Ok u) P Q gives p = p
for_err (Err e) P Q gives p = gives p

pub if_err : {A E : Type 0} (r : Result A E) (P Q : E → Type 0) → ((e : E) → r ≡ Err e → P e → Q e) → IfErr r P
    → IfErr r Q
if_err (Ok u) P Q gives p = p
if_err (Err e) P Q gives p = gives e refl p

pub on_fault : {E : Type 0} {e : E} (r : Result Unit E) (P : Type 0) → r ≡ Err e → OnErr r P → P
on_fault r P is holds = subst (λ s. OnErr s P) is holds

pub on_ok : {E : Type 0} (r : Result Unit E) (P : Type 0) → is_err r ≡ false → OnOk r P → P
on_ok (Ok u) P is holds = holds
on_ok (Err e) P is holds = absurd (false≢true (sym is))

module _ {D R : Type 0} (contents : D → List ℕ) (may_leave : D → List ℕ → Type 0) (has_failed : D → Bool)
    (noted : R → Noted) (is_sound : R → Type 0) where
  abbrev Keeps : List (Member D) → R → Type 0
  Keeps members r = AreKept contents may_leave has_failed noted is_sound members r

  -- a registry that notes as much of each backup
  pub kept_with : (members : List (Member D)) (r s : R) → Keeps members r → is_sound s
      → ((c : ℕ) → (noted s).span c ≡ (noted r).span c) → ((c : ℕ) → (noted s).file c ≡ (noted r).file c)
      → Keeps members s
  kept_with members r s k sound spans names = record {
    registry_is = sound;
    each = λ c x at. ((k.each c x at).0, subst (λ t. IsUnder may_leave t x) (sym (spans c)) (k.each c x at).1);
    named = λ c x at. names c ∙ k.named c x at;
  }

  -- a backup that isn't out, under a journal that counts whole
  pub under_whole : (span : Span) (i : Member D) → IsMember contents may_leave has_failed i → is_out i.backup ≡ false
      → span ≡ Whole → IsUnder may_leave span i
  under_whole span i member goes_on whole = record {
    whole = λ is. whole;
    shows = λ file left. let journal = member.backed goes_on in
        subst (λ s. ShowsUnder s (replicas_at i) file) (sym whole)
        (subst (λ l. ShowsUnder Whole (replicas_at i) l) (sym (journal.settled.durable file left)) journal.shows);
  }

  -- one backup more
  pub kept_more : (members : List (Member D)) (r : R) (h : Member D) → Keeps members r
      → IsMember contents may_leave has_failed h → IsUnder may_leave ((noted r).span (length members)) h
      → (noted r).file (length members) ≡ h.id → Keeps (members ++ h ∷ []) r
  kept_more members r h k member under name = record {
    registry_is = k.registry_is;
    each = each_more
        (λ c x. IsMember contents may_leave has_failed x × IsUnder may_leave ((noted r).span c) x) members h k.each
        (member, under);
    named = each_more (λ c (x : Member D). (noted r).file c ≡ x.id) members h k.named name;
  }

  -- a backup that went on
  pub kept_after : (members : List (Member D)) (r : R) (b : ℕ) (h i : Member D) → Keeps members r
      → slice_get members b ≡ Some h
      → IsMember contents may_leave has_failed i → is_out h.backup ≡ false → is_out i.backup ≡ false → i.id ≡ h.id
      → Keeps (set members b i) r
  kept_after members r b h i k at member went goes_on same_id = record {
    registry_is = k.registry_is;
    each = each_set
        (λ c x. IsMember contents may_leave has_failed x × IsUnder may_leave ((noted r).span c) x) members b i
        (slice_get_within members b h at) (λ c x other is. k.each c x is)
        (member, under_whole ((noted r).span b) i member goes_on ((k.each b h at).1.whole went));
    named = each_set (λ c (x : Member D). (noted r).file c ≡ x.id) members b i (slice_get_within members b h at)
        (λ c x other is. k.named c x is) (k.named b h at ∙ sym same_id);
  }

  -- a backup that failed, once the registry has noted how many frames count
  pub kept_ended : (members : List (Member D)) (r s : R) (b : ℕ) (h i : Member D) (n : ℕ) → Keeps members r
      → slice_get members b ≡ Some h → IsMember contents may_leave has_failed i → is_out i.backup ≡ true → is_sound s
      → noted s ≡ with_span (noted r) b (First n)
      → ((file : List ℕ) → may_leave (device_at i) file → ShowsUnder (First n) (replicas_at i) file) → i.id ≡ h.id
      → Keeps (set members b i) s
  kept_ended members r s b h i n k at member out sound is shows same_id = record {
    registry_is = sound;
    each = each_set (λ c x. IsMember contents may_leave has_failed x × IsUnder may_leave ((noted s).span c) x) members
        b i
        (slice_get_within members b h at) (λ c x other at_c. (
          (k.each c x at_c).0,
          subst (λ t. IsUnder may_leave t x) (sym (ap (λ (m : Noted). m.span c) is ∙ span_other c other))
              (k.each c x at_c).1,
        ))
        (member, subst (λ t. IsUnder may_leave t i) (sym (ap (λ (m : Noted). m.span b) is ∙ span_here)) under);
    named = each_set (λ c (x : Member D). (noted s).file c ≡ x.id) members b i (slice_get_within members b h at)
        (λ c x other at_c. ap (λ (m : Noted). m.file c) is ∙ k.named c x at_c)
        (ap (λ (m : Noted). m.file b) is ∙ k.named b h at ∙ sym same_id);
  }
    where
      span_other : (c : ℕ) → (b == c) ≡ false → (with_span (noted r) b (First n)).span c ≡ (noted r).span c
      span_other c other = rw other refl

      span_here : (with_span (noted r) b (First n)).span b ≡ First n
      span_here = let same : (b == b) ≡ true = grind (arith, nat_tests) in rw same refl

      under : IsUnder may_leave (First n) i
      under = record { whole = λ not. absurd (false≢true (sym not ∙ out)); shows = shows }

  -- another backup in the place of one, once the registry has named its file
  pub kept_put : (members : List (Member D)) (r s : R) (b : ℕ) (i : Member D) → Keeps members r → b < length members
      → IsMember contents may_leave has_failed i → is_out i.backup ≡ false → is_sound s
      → noted s ≡ with_file (noted r) b i.id → Keeps (set members b i) s
  kept_put members r s b i k within member goes_on sound is = record {
    registry_is = sound;
    each = each_set (λ c x. IsMember contents may_leave has_failed x × IsUnder may_leave ((noted s).span c) x) members
        b i
        within (λ c x other at_c. (
          (k.each c x at_c).0,
          subst (λ t. IsUnder may_leave t x) (sym (ap (λ (m : Noted). m.span c) is ∙ span_other c other))
              (k.each c x at_c).1,
        ))
        (member, under_whole ((noted s).span b) i member goes_on (ap (λ (m : Noted). m.span b) is ∙ span_here));
    named = each_set (λ c (x : Member D). (noted s).file c ≡ x.id) members b i within
        (λ c x other at_c. ap (λ (m : Noted). m.file c) is ∙ file_other c other ∙ k.named c x at_c)
        (ap (λ (m : Noted). m.file b) is ∙ file_here);
  }
    where
      span_other : (c : ℕ) → (b == c) ≡ false → (with_file (noted r) b i.id).span c ≡ (noted r).span c
      span_other c other = rw other refl

      file_other : (c : ℕ) → (b == c) ≡ false → (with_file (noted r) b i.id).file c ≡ (noted r).file c
      file_other c other = rw other refl

      span_here : (with_file (noted r) b i.id).span b ≡ Whole
      span_here = let same : (b == b) ≡ true = grind (arith, nat_tests) in rw same refl

      file_here : (with_file (noted r) b i.id).file b ≡ i.id
      file_here = let same : (b == b) ≡ true = grind (arith, nat_tests) in rw same refl

  -- whatever a crash leaves of the file of a backup that goes on, it shows what the backup holds
  pub member_shows : (i : Member D) → IsMember contents may_leave has_failed i → is_out i.backup ≡ false
      → (file : List ℕ)
      → may_leave (device_at i) file → ShowsUnder Whole (replicas_at i) file
  member_shows i member goes_on file left = (under_whole Whole i member goes_on refl).shows file left

  -- and of a journal
  pub journal_shows : (p : Replicas) (journal : Journal D) → IsJournalOf contents may_leave has_failed p journal
      → (file : List ℕ) → may_leave (device_of journal) file → ShowsUnder Whole p file
  journal_shows p journal is file left =
      subst (λ l. ShowsUnder Whole p l) (sym (is.settled.durable file left)) is.shows

  -- what a crash leaves of a call that gives a backup another file
  pub put_leaves : (time : R → ℕ) (left_of : R → ℕ → Noted → Type 0) (f : Members D R) (s : R) (b : ℕ) (device : D)
      (id : ℕ) (p : Replicas) → Keeps f.list.items f.registry
      → ((file : List ℕ) → may_leave device file → ShowsUnder Whole p file)
      → LeavesEither noted time left_of (with_file (noted f.registry) b id) f.registry s
      → (files : Files) → AreLeftByPut may_leave time left_of f b device id s files
      → ShowsPut (length f.list.items) (picture_of f.list.items) (noted f.registry).least b p files
  put_leaves time left_of f s b device id p k shows either files left =
      elim (either.each files.registry left.registry_is) [
        | inl was ↦ inl (shows_each members (picture_of members) (noted f.registry).least files
            (ap (λ (m : Noted). m.least) was)
            (λ c x at_c. reads files (noted f.registry) was c x.id (picture_of members c) (k.named c x at_c)
            (its_own c x at_c)))
        | inr now ↦ inr (shows_each members (with_backup (picture_of members) b p)
            (noted f.registry).least files (ap (λ (m : Noted). m.least) now)
            (λ c x at_c. by_test now c x at_c (b == c) refl))
      ]
    where
      members : List (Member D)
      members = f.list.items

      its_own : (c : ℕ) (x : Member D) → slice_get members c ≡ Some x
          → ShowsUnder ((noted f.registry).span c) (picture_of members c) (files.journal c x.id)
      its_own c x at_c =
          subst (λ q. ShowsUnder ((noted f.registry).span c) q (files.journal c x.id)) (sym (seen members c x at_c))
          ((k.each c x at_c).1.shows (files.journal c x.id) (left.journals c x at_c))

      the_next : ShowsUnder Whole p (files.journal b id)
      the_next = shows (files.journal b id) left.next_is

      by_test : files.registry ≡ with_file (noted f.registry) b id → (c : ℕ) (x : Member D)
          → slice_get members c ≡ Some x → (t : Bool) → (b == c) ≡ t
          → ShowsUnder (files.registry.span c) (with_backup (picture_of members) b p c) (named files c)
      by_test now c x at_c false other =
          reads files (with_file (noted f.registry) b id) now c x.id
          (with_backup (picture_of members) b p c)
          (let e : (with_file (noted f.registry) b id).file c ≡ (noted f.registry).file c = rw other refl in
          e ∙ k.named c x at_c)
          (rw other (its_own c x at_c))
      by_test now c x at_c true same =
          reads files (with_file (noted f.registry) b id) now c id
          (with_backup (picture_of members) b p c)
          (rw same refl)
          (rw same (subst (λ d. ShowsUnder Whole p (files.journal d id)) (eqb-true b c same) the_next))

  -- a crash amid a switch leaves what the backups hold
  pub switch_leaves : (time : R → ℕ) (left_of : R → ℕ → Noted → Type 0) (f : Members D R) (s : R) (b id : ℕ)
      (journal : Journal D) → Keeps f.list.items f.registry
      → IsJournalOf contents may_leave has_failed (picture_of f.list.items b) journal
      → LeavesEither noted time left_of (with_file (noted f.registry) b id) f.registry s
      → (files : Files) → AreLeftByPut may_leave time left_of f b (device_of journal) id s files
      → ShowsFleet (length f.list.items) (picture_of f.list.items) (noted f.registry).least files
  switch_leaves time left_of f s b id journal k is either files left =
      elim (put_leaves time left_of f s b (device_of journal) id (picture_of f.list.items b) k
      (journal_shows (picture_of f.list.items b) journal is) either files left) [
        | inl before ↦ before
        | inr after ↦ subst (λ p. ShowsFleet (length f.list.items) p (noted f.registry).least files)
            (with_itself (picture_of f.list.items) b) after
      ]

  -- what a crash leaves between two calls
  pub now_shown : (leaves : R → Noted → Type 0)
      → ((r : R) (left : Noted) → is_sound r → leaves r left → left ≡ noted r)
      → (f : Members D R) → Keeps f.list.items f.registry → (files : Files) → AreLeftNow may_leave leaves f files
      → ShowsFleet (length f.list.items) (picture_of f.list.items) (noted f.registry).least files
  now_shown leaves just_kept f k files left =
      let is : files.registry ≡ noted f.registry =
      just_kept f.registry files.registry k.registry_is left.registry_is in
      shows_each f.list.items (picture_of f.list.items) (noted f.registry).least files
      (ap (λ (m : Noted). m.least) is)
      (λ b h at. reads files (noted f.registry) is b h.id (picture_of f.list.items b) (k.named b h at)
      (subst (λ p. ShowsUnder ((noted f.registry).span b) p (files.journal b h.id)) (sym (seen f.list.items b h at))
      ((k.each b h at).1.shows (files.journal b h.id) (left.journals b h at))))

  module _ (clock : D → ℕ) (left_since : D → ℕ → List ℕ → Type 0)
      (just_now : (device : D) (file : List ℕ) → left_since device (clock device) file → may_leave device file)
      (time : R → ℕ) (left_of : R → ℕ → Noted → Type 0) where
    -- a backup that nothing happened to
    still : (members : List (Member D)) (r : R) → Keeps members r → (b : ℕ) (h : Member D)
        → slice_get members b ≡ Some h
        → (file : List ℕ) → left_since (device_at h) (clock (device_at h)) file
        → ShowsUnder ((noted r).span b) (picture_of members b) file
    still members r k b h at file left =
        subst (λ p. ShowsUnder ((noted r).span b) p file) (sym (seen members b h at))
        ((k.each b h at).1.shows file (just_now (device_at h) file left))

    -- no backup was asked anything
    backups_still : (f g : Members D R) → Keeps f.list.items f.registry → g.list.items ≡ f.list.items → (n : Noted)
        → ((c : ℕ) → n.span c ≡ (noted f.registry).span c) → ((c : ℕ) → n.file c ≡ (noted f.registry).file c)
        → (files : Files)
        → AreLeftAmid clock left_since time left_of f g files
        → files.registry ≡ n → ShowsFleet (length f.list.items) (picture_of f.list.items) n.least files
    backups_still f g k same n spans names files left is =
        shows_each f.list.items (picture_of f.list.items) n.least files (ap (λ (m : Noted). m.least) is)
        (λ b h at. reads files n is b h.id (picture_of f.list.items b) (names b ∙ k.named b h at)
        (subst (λ t. ShowsUnder t (picture_of f.list.items b) (files.journal b h.id)) (sym (spans b))
        (still f.list.items f.registry k b h at (files.journal b h.id)
        (left.journals b h h at (subst (λ l. slice_get l b ≡ Some h) (sym same) at)))))

    -- what the first frames of a failed journal show
    pub first_show : (h i : Member D) (n : ℕ) → n ≡ h.frames → replicas_at i ≡ replicas_at h
        → AnyMoment clock left_since (ShowsUnder (First h.frames) (replicas_at h)) (device_at h) (device_at i)
        → ((device : D) (moment : ℕ) (file : List ℕ) → moment ≤ clock device → may_leave device file
        → left_since device moment file)
        → (file : List ℕ) → may_leave (device_at i) file → ShowsUnder (First n) (replicas_at i) file
    first_show h i n frames same first counts file left =
        subst (λ m. ShowsUnder (First m) (replicas_at i) file) (sym frames)
        (subst (λ p. ShowsUnder (First h.frames) p file) (sym same)
        (first.each file (counts (device_at i) (clock (device_at h)) file first.onward left)))

    pub raise_leaves : (f g : Members D R) → Keeps f.list.items f.registry → g.list.items ≡ f.list.items
        → (master id : ℕ)
        → LeavesEither noted time left_of (with_head (noted f.registry) master id) f.registry g.registry
        → (files : Files) → AreLeftAmid clock left_since time left_of f g files
        → ShowsRaise (length f.list.items) (picture_of f.list.items) (noted f.registry).least master id files
    raise_leaves f g k same master id either files left = elim (either.each files.registry left.registry_is) [
      | inl was ↦ inl (backups_still f g k same (noted f.registry) (λ c. refl) (λ c. refl) files left was)
      | inr now ↦ inr (backups_still f g k same (with_head (noted f.registry) master id) (λ c. refl) (λ c. refl) files
          left
          now)
    ]

    pub naming_leaves : (f g : Members D R) → Keeps f.list.items f.registry → g.list.items ≡ f.list.items
        → (master : ℕ)
        → LeavesEither noted time left_of (with_master (noted f.registry) master) f.registry g.registry
        → (files : Files) → AreLeftAmid clock left_since time left_of f g files
        → ShowsNaming (length f.list.items) (picture_of f.list.items) (noted f.registry).least
        (noted f.registry).master master files
    naming_leaves f g k same master either files left = elim (either.each files.registry left.registry_is) [
      | inl was ↦ (
        backups_still f g k same (noted f.registry) (λ c. refl) (λ c. refl) files left was,
        inl (ap (λ (n : Noted). n.master) was),
      )
      | inr now ↦ (
        backups_still f g k same (with_master (noted f.registry) master) (λ c. refl) (λ c. refl) files left now,
        inr (ap (λ (n : Noted). n.master) now),
      )
    ]

    module _ (leaves : R → Noted → Type 0)
        (now_of : (r : R) (left : Noted) → left_of r (time r) left → leaves r left)
        (just_kept : (r : R) (left : Noted) → is_sound r → leaves r left → left ≡ noted r) where
      -- a registry that nothing was asked of
      pub registry_still : (r : R) → is_sound r → (left : Noted) → left_of r (time r) left → left ≡ noted r
      registry_still r sound left of_it = just_kept r left sound (now_of r left of_it)

      -- and what a crash leaves of it
      pub unwritten : (r : R) → is_sound r → (n : Noted) → LeavesEither noted time left_of n r r
      unwritten r sound n =
          record { onward = omega arith; each = λ left of_it. inl (registry_still r sound left of_it) }

      -- nothing was asked of any disk
      pub still_shown : (f g : Members D R) → Keeps f.list.items f.registry → g.list.items ≡ f.list.items
          → g.registry ≡ f.registry → (files : Files) → AreLeftAmid clock left_since time left_of f g files
          → ShowsFleet (length f.list.items) (picture_of f.list.items) (noted f.registry).least files
      still_shown f g k same own files left =
          backups_still f g k same (noted f.registry) (λ c. refl) (λ c. refl) files left
          (registry_still f.registry k.registry_is files.registry
          (subst (λ r. left_of r (time f.registry) files.registry) own left.registry_is))

      pub nothing_leaves : (f g : Members D R) → Keeps f.list.items f.registry → g.list.items ≡ f.list.items
          → g.registry ≡ f.registry → (b : ℕ) (op : OpValue)
          → (files : Files) → AreLeftAmid clock left_since time left_of f g files
          → ShowsTake (length f.list.items) (picture_of f.list.items) (noted f.registry).least b op files
      nothing_leaves f g k same own b op files left = inl (still_shown f g k same own files left)

    -- one backup was asked for an op, and the registry perhaps to note that it failed
    module _ (f g : Members D R) (k : Keeps f.list.items f.registry) (b : ℕ) (h i : Member D)
        (at : slice_get f.list.items b ≡ Some h) (becomes : g.list.items ≡ set f.list.items b i) (op : OpValue)
        (went : is_out h.backup ≡ false)
        (any : AnyMoment clock left_since (LeftByTake (replicas_at h) op) (device_at h) (device_at i))
        (first : AnyMoment clock left_since (ShowsUnder (First h.frames) (replicas_at h)) (device_at h) (device_at i))
        (either : (left : Noted) → left_of g.registry (time f.registry) left
        → (left ≡ noted f.registry) ⊎ (left ≡ with_span (noted f.registry) b (First h.frames))) where
      abbrev members : List (Member D)
      members = f.list.items

      within : b < length members
      within = slice_get_within members b h at

      -- files in which one backup's journal shows this, and the others show what they did
      shows_as : (p : Picture) (q : Replicas) (n : Noted) → p b ≡ q
          → ((c : ℕ) → (b == c) ≡ false → p c ≡ picture_of members c)
          → ((c : ℕ) → (b == c) ≡ false → n.span c ≡ (noted f.registry).span c)
          → ((c : ℕ) → n.file c ≡ (noted f.registry).file c)
          → (files : Files) → AreLeftAmid clock left_since time left_of f g files → files.registry ≡ n
          → ShowsUnder (n.span b) q (files.journal b h.id) → ShowsFleet (length members) p n.least files
      shows_as p q n here others spans names files left is shows =
          shows_each members p n.least files (ap (λ (m : Noted). m.least) is)
          (λ c x at_c. reads files n is c x.id (p c) (names c ∙ k.named c x at_c) (by_test c x at_c (b == c) refl))
        where
          by_test : (c : ℕ) (x : Member D) → slice_get members c ≡ Some x → (t : Bool) → (b == c) ≡ t
              → ShowsUnder (n.span c) (p c) (files.journal c x.id)
          by_test c x at_c true same =
              let here_at : slice_get members c ≡ Some h =
              subst (λ d. slice_get members d ≡ Some h) (eqb-true b c same) at in
              let x_is : h ≡ x = same_Some h x (sym here_at ∙ at_c) in
              subst (λ (y : Member D). ShowsUnder (n.span c) (p c) (files.journal c y.id)) x_is
              (subst (λ d. ShowsUnder (n.span d) (p d) (files.journal d h.id)) (eqb-true b c same)
              (subst (λ r. ShowsUnder (n.span b) r (files.journal b h.id)) (sym here) shows))
          by_test c x at_c false other =
              subst (λ r. ShowsUnder (n.span c) r (files.journal c x.id)) (sym (others c other))
              (subst (λ t. ShowsUnder t (picture_of members c) (files.journal c x.id)) (sym (spans c other))
              (still members f.registry k c x at_c (files.journal c x.id) (left.journals c x x at_c
              (subst (λ l. slice_get l c ≡ Some x) (sym becomes) (at_set members b i c x within other at_c)))))

      its_file : (files : Files) → AreLeftAmid clock left_since time left_of f g files
          → left_since (device_at i) (clock (device_at h)) (files.journal b h.id)
      its_file files left =
          left.journals b h i at (subst (λ l. slice_get l b ≡ Some i) (sym becomes) (here_set members b i within))

      whole : (noted f.registry).span b ≡ Whole
      whole = (k.each b h at).1.whole went

      pub take_leaves : (files : Files) → AreLeftAmid clock left_since time left_of f g files
          → ShowsTake (length members) (picture_of members) (noted f.registry).least b op files
      take_leaves files left = elim (either files.registry left.registry_is) [
        | inl was ↦ elim (any.each (files.journal b h.id) (its_file files left)).shows [
          | inl before ↦ inl (shows_as (picture_of members) (replicas_at h) (noted f.registry) (seen members b h at)
              (λ c other. refl) (λ c other. refl) (λ c. refl) files left was
              (subst (λ s. ShowsUnder s (replicas_at h) (files.journal b h.id)) (sym whole) before))
          | inr after ↦ (let would = would_take members b h i at op after.0 after.1 in
              inr (
                would.0,
                would.1,
                shows_as would.0 after.0 (noted f.registry) would.2 would.3
                    (λ c other. refl) (λ c. refl) files left was
                    (subst (λ s. ShowsUnder s after.0 (files.journal b h.id)) (sym whole) after.2),
              ))
        ]
        | inr now ↦ inl (shows_as (picture_of members) (replicas_at h)
            (with_span (noted f.registry) b (First h.frames))
            (seen members b h at) (λ c other. refl) (λ c other. rw other refl) (λ c. refl) files left now
            (let same : (b == b) ≡ true = grind (arith, nat_tests) in
            rw same (first.each (files.journal b h.id) (its_file files left))))
      ]
