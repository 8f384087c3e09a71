-- The commit of a pass that is ready leaves the log intact when it begins and when it ends.
use Rattle.std.proofs.Common.{◌≡◌, ℕ, ◌<◌, ◌⊎◌, inl, inr, Bool, true, false, List, [], ◌∷◌, length, Some, refl}
use Rattle.std.proofs.Common.{sym, ap, subst, ◌∙◌, arith}
use Rattle.std.specs.Prelude.{Option, None, ◌==◌, if◌then◌else◌}
use Rattle.entry.specs.declared.key.Key.{Key}
use Rattle.entry.specs.declared.entry.Entry.{Entry}
use Rattle.entry.specs.Bag.{IsAmong}
use Rattle.entry.specs.Meaning.{IsOfKey}
use Rattle.entry.specs.Text.{text_of}
use Rattle.entry.proofs.BagLemmas.{among_push, among_either, among_left}
use Rattle.log_bytes.specs.log_laws.Heads.{Start, ids_of}
use Rattle.log_bytes.specs.log_laws.Ids.{has}
use Rattle.log_bytes.specs.log_laws.Rising.{AreBelow}
use Rattle.log_bytes.proofs.log_laws.IdLists.{all_below, below_at}
use Rattle.log_bytes.specs.log_laws.Intact.{IsCommit}
use Rattle.log_bytes.specs.log_laws.Memory.{LogSet, no_pass, new_ids, counting}
use Rattle.log_bytes.specs.log_laws.Tracked.{IsPassing, IsAround}
use Rattle.log_bytes.proofs.log_laws.CommittedPass.{committed}
use Rattle.log_bytes.proofs.log_laws.KeptEntries.{has_is, is_has}
use Rattle.log_bytes.proofs.log_laws.ImageLists.{among_tells}
use Rattle.log_bytes.proofs.log_laws.NoPass.{none_passing, none_chosen}
use Rattle.log_bytes.proofs.log_laws.Premises.{IsLess}
use Rattle.log_bytes.specs.log_laws.Text.{Text, length_of}
use Rattle.log_bytes.specs.log_laws.Shown.{Shown}
use Rattle.log_bytes.specs.log_laws.Data.{front, Mode, FailData, IsHome, homes, new_of, state_of}
use Rattle.log_bytes.specs.log_laws.Log.{Texts, BasesStand, HoldsCopy}
use Rattle.log_bytes.specs.log_laws.Steps.{ids_now, IsRoll, ended, EndsRoll, IsKnown, len_now}
use Rattle.log_bytes.proofs.log_laws.Ending.{ending_is_held, ending_is_standing}
use Rattle.log_bytes.proofs.log_laws.Images.{between_stands}
use Rattle.log_bytes.proofs.log_laws.Lengths.{lens_known, len_known}
use Rattle.log_bytes.proofs.log_laws.Lists.{some_is, some_member, without_has}
use Rattle.log_memory.specs.Covered.{map_of}
use Rattle.log_memory.specs.Intact.{IsIntact, IsIntactWith}
use Rattle.log_memory.specs.Laws.{CommitKeeps, FinishKeeps}
use Rattle.log_memory.specs.Memory.{FailMemory, entries_in, log_ids, log_set_of, data_of}
use Rattle.log_memory.specs.Past.{past_after}
use Rattle.log_memory.specs.Steps.{commit_len, MayCommit, spots_of, finished}
use Rattle.log_memory.proofs.Ending.{is_new, no_new, some, was_failing}
use Rattle.log_memory.proofs.Ids.{ids_out, in_digest, in_survivors, now_is, now_out, now_own, new_in, new_one}
use Rattle.log_memory.proofs.Openings.{data_in}
use Rattle.log_memory.proofs.Pasts.{ended_past}
use Rattle.log_memory.proofs.Rolling.{begun}
use Rattle.log_memory.proofs.Spots.{spots_out}
use Rattle.log_memory.proofs.TextsIn.{image_length}

module _ (d : FailData) (m : FailMemory) (p : Shown) (n : Start) (mode : Mode) (i : IsIntact d m p)
    (may : MayCommit d m n mode) where
  abbrev texts : Texts
  texts = i.log.texts

  abbrev log : LogSet
  log = log_set_of d m texts

  -- a survivor is on some home, so its text is its image
  sealed_text : (s : ℕ) → IsAmong s m.pass.survivors → entries_in texts s ≡ data_of m s
  sealed_text s survivor =
      let enough = may.ready.sealed s survivor in
      let least = i.log.held.some in
      let one = some_member (homes d s) (omega arith) in
      let home = without_has d.failed (d.took s) one.0 one.1 in
      let there = some_is (p.holds one.0 s) (i.sealing.held s one.0 survivor home.0) in
      (i.sealing.each s one.0 there.0 survivor there.1).image

  no_head : new_of d.mode ≡ None
  no_head = elim may.may as (λ _. new_of d.mode ≡ None) [
    | inl calm ↦ ap new_of calm.0
    | inr mends ↦ ap new_of mends.0
  ]

  now_ids : (s : ℕ) → IsAmong s (ids_of d.head.start) → IsAmong s (log_ids d m)
  now_ids s c = in_digest d m s (subst (IsAmong s) (sym (now_is d.head.start may.real)) c)

  commit_below : AreBelow n
  commit_below = all_below n.id n.others (λ s c.
      let next = may.next in
      elim (may.commit.from s c) as (λ _. s < n.id) [
        | inl l ↦ (let lt = i.around.below s (now_ids s l.0) in omega arith)
        | inr l ↦ (let lt = i.around.below s (in_survivors d m s l) in omega arith)
      ])

  commit_held : (s b : ℕ) → IsAmong s n.others → (s ≡ d.head.start.id → ⊥) → IsHome d s b → HoldsCopy texts p b s
  commit_held s b c other home = elim (may.commit.from s c) as (λ _. HoldsCopy texts p b s) [
    | inl l ↦ elim (among_push s d.head.start.others d.head.start.id l.0) as (λ _. HoldsCopy texts p b s) [
      | inl x ↦ i.log.held.mirrored.others s b (inl x) home
      | inr same ↦ absurd (other (sym same))
    ]
    | inr l ↦ (
        let there = some_is (p.holds b s) (i.sealing.held s b l home.0) in
        let at = i.sealing.each s b there.0 l there.1 in
        (there.0, there.1, (inl (ap (λ (t : Text). t.entries) at.text), inl at.closed)))
  ]

  -- the lengths are those of the texts: a survivor's text is its image, and others were listed before
  commit_length : (d.config.format == 2) ≡ true → (s : ℕ) → IsAmong s n.others
      → commit_len d m s ≡ length_of (texts.text s)
  commit_length two s c = by_test (has m.pass.survivors s) refl where
    image_len : IsAmong s m.pass.survivors → length (text_of (m.images s)) ≡ length_of (texts.text s)
    image_len l = image_length d.config.master s (texts.text s) (m.images s) (i.images s (in_survivors d m s l))
        (sealed_text s l)

    before : has m.pass.survivors s ≡ false → IsAmong s (ids_of d.head.start)
    before test = elim (may.commit.from s c) as (λ _. IsAmong s (ids_of d.head.start)) [
      | inl l ↦ l.0
      | inr l ↦ (let never = sym (has_is m.pass.survivors s l) ∙ test in absurd (cc))
    ]

    by_test : (b : Bool) → has m.pass.survivors s ≡ b
        → (if b then length (text_of (m.images s)) else len_now d s) ≡ length_of (texts.text s)
    by_test true test = image_len (is_has m.pass.survivors s test)
    by_test false test = len_known d.config texts d.head.start i.log.held.logged.head.lens two
        (length_of (front d.head (length d.head.units))) (ap length_of i.log.held.logged.text) s (before test)

  commit_roll : IsRoll d texts p n mode
  commit_roll = record {
    may = may.may;
    next = may.next;
    below = commit_below;
    lens = may.lens ∙ lens_known d.config texts d.head.start i.log.held.logged.head.lens (commit_len d m) n.others
        commit_length;
    held = commit_held;
  }

  -- ---- its digest stands for the present state

  less : IsLess (log_ids d m) m.pass n.others
  less = record {
    stays = λ s c not. elim (ids_out d m s c) as (λ _. IsAmong s n.others) [
      | inl l ↦ may.commit.stays s (now_out d.head.start s l).0 not
      | inr (inl l) ↦ absurd (subst (λ (o : Option Start). IsAmong s (new_ids o)) no_head l)
      | inr (inr l) ↦ may.commit.survivors s l
    ];
    from = λ s c. elim (may.commit.from s c) as (λ _. IsAmong s (log_ids d m)) [
      | inl l ↦ now_ids s l.0
      | inr l ↦ in_survivors d m s l
    ];
    gone = λ s c victim. elim (may.commit.from s c) as (λ _. ⊥) [
      | inl l ↦ l.1 victim
      | inr l ↦ i.passing.disjoint s l victim
    ];
  }

  passing_done : IsPassing (log_ids d m) m.images m.pass m.index []
  passing_done = subst (λ (r : List _). IsPassing (log_ids d m) m.images m.pass m.index r) may.ready.done i.passing

  -- what an image has of a key its text has, a survivor's too
  all_texted : (s : ℕ) (e : Entry) (k : Key) → IsAmong s (log_ids d m) → IsOfKey k e → IsAmong e (m.images s)
      → IsAmong e (entries_in texts s)
  all_texted s e k c at l = elim (among_tells s m.pass.survivors) as (λ _. IsAmong e (entries_in texts s)) [
    | inl survivor ↦ subst (λ (es : List Entry). IsAmong e es) (sym (sealed_text s survivor))
        (data_in e k (m.images s) at l)
    | inr other ↦ i.around.texted s e k c other at l
  ]

  around_left : IsAround (counting log n.others) no_pass (map_of d) (state_of d).safe d.next
  around_left = record {
    below = λ s c. i.around.below s (less.from s c);
    named_below = λ s t c. i.around.named_below s t (less.from s c);
    versions = λ k h s f l. i.around.versions k h s f (record { counts = less.from s l.counts; among = l.among });
    texted = λ s e k c not. all_texted s e k (less.from s c);
  }

  commit_stands : BasesStand texts n (state_of d)
  commit_stands base is =
      between_stands (counting log n.others) no_pass m.index [] (state_of d) d.next n.safe texts n.others base
      (committed log m.pass m.index (map_of d) n.others i.tracked passing_done less)
      (none_passing _ _ _ _) around_left
      (record {
        counts = λ s c. c;
        image = λ s es k e c variant at l. elim variant as (λ _. IsAmong e es) [
          | inl text ↦ subst (λ (xs : List Entry). IsAmong e xs) (sym text)
              (all_texted s e k (less.from s c) at l)
          | inr image ↦ i.repaired s es k e image at l
        ];
        text = λ s es k e c variant at l. elim variant as (λ _. IsAmong e (entries_in texts s)) [
          | inl text ↦ subst (λ (xs : List Entry). IsAmong e xs) text l
          | inr image ↦ i.log.held.logged.images s es e image l
        ];
      })
      (record { rest = λ s c. inl c; victims = λ s never. absurd never })
      (let safe = may.safe in omega arith) is

pub commit_keeps : CommitKeeps
commit_keeps d m p n mode i may =
    begun d m p i n mode true (commit_roll d m p n mode i may) (commit_stands d m p n mode i may)
    (λ c. absurd (cc), λ c. may.commit) (let safe = may.safe in omega arith)
    (λ c. record { real = may.real; done = may.ready.done; images = sealed_text d m p n mode i may })

-- ---- its end

module _ (d : FailData) (m : FailMemory) (p : Shown) (n : Start) (mode : Mode) (i : IsIntact d m p)
    (known : IsKnown d p) (ends : EndsRoll d n mode) (commits : m.commits ≡ true) where
  abbrev e : FailData
  e = ended d n mode

  abbrev f : FailMemory
  f = finished d m

  abbrev left : List ℕ
  left = log_ids e f

  new_was : new_of d.mode ≡ Some n
  new_was = is_new d m p n mode i known ends

  real_new : n.id ≡ 0 → ⊥
  real_new = some d m p n mode i known ends

  commit_of : IsCommit d.head.start m.pass n
  commit_of = (i.rolling n new_was).1 commits

  in_left : (s : ℕ) → IsAmong s (ids_of n) → IsAmong s left
  in_left s c = in_digest e f s (subst (IsAmong s) (sym (now_is n real_new)) c)

  left_out : (s : ℕ) → IsAmong s left → IsAmong s n.others ⊎ (n.id ≡ s)
  left_out s c = elim (ids_out e f s c) as (λ _. IsAmong s n.others ⊎ (n.id ≡ s)) [
    | inl l ↦ among_push s n.others n.id (now_out n s l).0
    | inr (inl l) ↦ absurd (subst (λ (o : Option Start). IsAmong s (new_ids o)) (no_new d m p n mode i known ends) l)
    | inr (inr never) ↦ absurd never
  ]

  left_less : IsLess (log_ids d m) m.pass left
  left_less = record {
    stays = λ s c not. elim (ids_out d m s c) as (λ _. IsAmong s left) [
      | inl l ↦ in_left s (among_left s n.others (n.id ∷ []) (commit_of.stays s (now_out d.head.start s l).0 not))
      | inr (inl l) ↦ subst (λ (x : ℕ). IsAmong x left) (new_one (new_of d.mode) n s new_was l)
          (in_digest e f n.id (now_own n real_new))
      | inr (inr l) ↦ in_left s (among_left s n.others (n.id ∷ []) (commit_of.survivors s l))
    ];
    from = λ s c. elim (left_out s c) as (λ _. IsAmong s (log_ids d m)) [
      | inl l ↦ elim (commit_of.from s l) as (λ _. IsAmong s (log_ids d m)) [
        | inl x ↦ in_digest d m s (now_all s x.0)
        | inr x ↦ in_survivors d m s x
      ]
      | inr is ↦ subst (λ (x : ℕ). IsAmong x (log_ids d m)) is (new_in d m n new_was)
    ];
    gone = λ s c victim. elim (left_out s c) as (λ _. ⊥) [
      | inl l ↦ elim (commit_of.from s l) as (λ _. ⊥) [
        | inl x ↦ x.1 victim
        | inr x ↦ i.passing.disjoint s x victim
      ]
      | inr is ↦ (
          let lt = below_at d.head.start.id d.head.start.others s i.log.held.logged.head.below
          (i.chosen.victims s victim) in
          let newer = i.log.held.logged.newer n (inl new_was) in omega arith)
    ];
  } where
    now_all : (s : ℕ) → IsAmong s (ids_of d.head.start) → IsAmong s (ids_now d.head.start)
    now_all s c = subst (IsAmong s) (sym (now_is d.head.start (i.committed commits).real)) c

  passing_end : IsPassing (log_ids d m) m.images m.pass m.index []
  passing_end =
      subst (λ (r : List _). IsPassing (log_ids d m) m.images m.pass m.index r) (i.committed commits).done i.passing

  victim_other : (s : ℕ) → IsAmong s m.pass.victims → IsAmong s (log_ids d m)
  victim_other s victim = i.passing.victims_count s victim

  never_new : (x : Start) → new_of mode ≡ Some x → ⊥
  never_new x is = let never : None ≡ Some x = sym (no_new d m p n mode i known ends) ∙ is in cc

  done : IsIntactWith (past_after d i.past) e f p
  done = (
    record {
      log = record {
        texts = i.log.texts;
        held = ending_is_held d i.log.texts p n mode i.log.held known ends;
        standing = ending_is_standing d i.log.texts p n mode i.log.held i.log.standing known ends;
      };
      tracked = committed (log_set_of d m i.log.texts) m.pass m.index (map_of d) left i.tracked passing_end left_less;
      passing = none_passing _ _ _ _;
      around = record {
        below = λ s c. i.around.below s (left_less.from s c);
        named_below = λ s t c. i.around.named_below s t (left_less.from s c);
        versions = λ k h s g l. i.around.versions k h s g
            (record { counts = left_less.from s l.counts; among = l.among });
        texted = λ s g k c not at l. elim (among_tells s m.pass.survivors)
            as (λ _. IsAmong g (entries_in i.log.texts s)) [
              | inl survivor ↦ subst (λ (es : List Entry). IsAmong g es)
                  (sym ((i.committed commits).images s survivor)) (data_in g k (m.images s) at l)
              | inr other ↦ i.around.texted s g k (left_less.from s c) other at l
            ];
      };
      images = λ s c. i.images s (left_less.from s c);
      repaired = i.repaired;
      whole = record {
        one = i.whole.one;
        failed = λ fails. i.whole.failed (was_failing d m p n mode i known ends fails);
      };
      chosen = none_chosen _ _;
      sealing = record {
        bare = λ s never. absurd never;
        one = λ s never. absurd never;
        each = λ s b r never. absurd never;
        held = λ s b never. absurd never;
      };
      rolling = λ x is. absurd (never_new x is);
      committed = λ never. absurd (cc);
      waiting = record {
        out = λ w at c. elim (among_either w (spots_of d m.pass.victims) m.waiting at) as (λ _. ⊥) [
          | inl spot ↦ left_less.gone w.segment c (spots_out d m.pass.victims w spot).0
          | inr old ↦ i.waiting.out w old (left_less.from w.segment c)
        ];
        below = λ w at. elim (among_either w (spots_of d m.pass.victims) m.waiting at) as (λ _. w.segment < d.next) [
          | inl spot ↦ i.around.below w.segment (victim_other w.segment (spots_out d m.pass.victims w spot).0)
          | inr old ↦ i.waiting.below w old
        ];
        real = λ w at. real_new;
      };
      recorded = λ x is. absurd (never_new x is);
      repairs = λ _. i.recorded n new_was;
      real = λ _. real_new;
      past = past_after d i.past;
      before = ended_past d p n mode i.log i.past ends i.before;
    },
    refl,
  )

pub finish_keeps : FinishKeeps
finish_keeps d m p n mode i known ends commits = done d m p n mode i known ends commits
