-- The earlier heads and their texts stay the same through each event.
use Rattle.std.proofs.Common.{◌≡◌, ℕ, ◌<◌, inl, inr, true, false, List, [], ◌∷◌, ◌++◌, length, Some, refl}
use Rattle.std.proofs.Common.{sym, ap, subst, ◌∙◌, arith}
use Rattle.std.specs.Prelude.{None, ◌==◌}
use Rattle.std.specs.List.{AllByRecursion}
use Rattle.std.specs.List.Sorted.{IsStrictlySortedBy}
use Rattle.std.specs.Ordering.{nat_cmp}
use Rattle.std.specs.declared.cmp.Ordering.TheVariants.{Less}
use Rattle.std.proofs.lemmas.Bool.{cases_eq, lt-ltb}
use Rattle.std.proofs.lemmas.Bool.Decides.{nat_tests}
use Rattle.entry.specs.Bag.{IsAmong}
use Rattle.entry.proofs.BagLemmas.{among_push}
use Rattle.versioned_map.specs.declared.command.Record.{Record}
use Rattle.versioned_map.specs.Versioned.{State}
use Rattle.log_bytes.specs.log_laws.Heads.{Start}
use Rattle.log_bytes.proofs.log_laws.Numbering.{rises_none}
use Rattle.log_bytes.specs.log_laws.Text.{Text}
use Rattle.log_bytes.specs.log_laws.Shown.{Shown, Op}
use Rattle.log_bytes.specs.log_laws.Data.{front, bare, Mode, Repairs, FailConfig, FailData, new_of}
use Rattle.log_bytes.specs.log_laws.Durable.{TakenHead, head_now, heads_of, IsPast}
use Rattle.log_bytes.specs.log_laws.Log.{Texts, IsKept}
use Rattle.log_bytes.specs.log_laws.Steps.{fresh, applied, MayApply, unit_now, texts_appended, IsLoaded, adopted}
use Rattle.log_bytes.specs.log_laws.Steps.{rolling}
use Rattle.log_bytes.specs.log_laws.Steps.{texts_rolling, IsRoll, id_taken, empty_survivor, texts_taken, ended}
use Rattle.log_bytes.specs.log_laws.Steps.{EndsRoll}
use Rattle.log_bytes.specs.log_laws.Steps.{failing, mended, Extends, OpensNew, Replaces, Raises, ClosesOld, Reseals}
use Rattle.log_bytes.specs.log_laws.Steps.{texts_resealed, IsFree, with_new, with_taken}
use Rattle.log_bytes.proofs.log_laws.PastHeads as heads
use Rattle.log_bytes.proofs.log_laws.PastHeads.{fresh_is_past, adopted_is_past}
use Rattle.log_bytes.proofs.log_laws.Texts.{text_other, new_other}
use Rattle.log_memory.specs.Past.{past_ids, ArePast, past_after}

-- ---- texts of older heads

-- another master with a head of the same id, whose texts of older heads are the same
still_past : (d e : FailData) (f g : Texts) (past : List TakenHead) → ArePast d f past → IsPast e past
    → e.head.start.id ≡ d.head.start.id
    → ((s : ℕ) → s < d.head.start.id → ((f.text s).opening ≡ None → ⊥) → g.text s ≡ f.text s) → ArePast e g past
still_past d e f g past is counted head same = record {
  counted = counted;
  rising = is.rising;
  older = λ h l. let lt = is.older h l in omega arith;
  text = λ h l.
      let at = is.text h l in
      same h.head.start.id (is.older h l) (λ none.
      let never : None ≡ Some _ = sym none ∙ ap (λ (t : Text). t.opening) at in absurd (cc)) ∙ at;
}

-- ---- ids

below_more : (x g : TakenHead) (hs : List TakenHead) → x.head.start.id < g.head.start.id
    → AllByRecursion (λ (s : ℕ). nat_cmp x.head.start.id s ≡ Less) (past_ids hs)
    → AllByRecursion (λ (s : ℕ). nat_cmp x.head.start.id s ≡ Less) (past_ids (hs ++ g ∷ []))
below_more x g [] lt all = (rw (lt-ltb x.head.start.id g.head.start.id lt) refl, tt)
below_more x g (h ∷ hs) lt all = (all.0, below_more x g hs lt all.1)

-- ids rise with one more that is above all
rises_more : (hs : List TakenHead) (g : TakenHead)
    → ((h : TakenHead) → IsAmong h hs → h.head.start.id < g.head.start.id)
    → IsStrictlySortedBy nat_cmp (past_ids hs) → IsStrictlySortedBy nat_cmp (past_ids (hs ++ g ∷ []))
unfolding IsStrictlySortedBy
rises_more [] g below rising = (tt, tt)
rises_more (h ∷ hs) g below rising = (
  below_more h g hs (below h (inl refl)) rising.0,
  rises_more hs g (λ x m. below x (inr m)) rising.1,
)

-- ---- a new master

pub fresh_past : (c : FailConfig) (texts : Texts) → ArePast (fresh c) texts []
fresh_past c texts = record {
  counted = fresh_is_past c;
  rising = rises_none;
  older = λ h l. absurd l;
  text = λ h l. absurd l;
}

pub adopted_past : (d : FailData) (p : Shown) (st : State) (texts : Texts) → IsLoaded d p st
    → ArePast (adopted d st) texts []
adopted_past d p st texts is = record {
  counted = adopted_is_past d p st is;
  rising = rises_none;
  older = λ h l. absurd l;
  text = λ h l. absurd l;
}

-- ---- steps that take no op

pub applied_past : (d : FailData) (p : Shown) (segment : ℕ) (r : Record) (kept : IsKept d p) (past : List TakenHead)
    → MayApply d segment r → ArePast d kept.texts past
    → ArePast (applied d segment r) (texts_appended d kept.texts (unit_now d segment r)) past
applied_past d p segment r kept past may is =
    still_past d (applied d segment r) kept.texts (texts_appended d kept.texts (unit_now d segment r)) past is
    (heads.applied_past d p past segment r kept may is.counted) refl
    (λ s lt some. text_other kept.texts d.head.start.id _ s (λ same. omega arith))

pub rolling_past : (d : FailData) (p : Shown) (n : Start) (mode : Mode) (kept : IsKept d p) (past : List TakenHead)
    → IsRoll d kept.texts p n mode → ArePast d kept.texts past
    → ArePast (rolling d n mode) (texts_rolling kept.texts n) past
rolling_past d p n mode kept past roll is =
    let next = roll.next in
    let head = kept.held.logged.head.next in
    still_past d (rolling d n mode) kept.texts (texts_rolling kept.texts n) past is
    (heads.rolling_past d p past n mode kept roll is.counted) refl
    (λ s lt some. new_other kept.texts n.id (bare n) s (λ same. omega arith))

pub id_taken_past : (d : FailData) (p : Shown) (kept : IsKept d p) (past : List TakenHead) → ArePast d kept.texts past
    → ArePast (id_taken d) (texts_taken d kept.texts) past
id_taken_past d p kept past is =
    let head = kept.held.logged.head.next in
    still_past d (id_taken d) kept.texts (texts_taken d kept.texts) past is
    (heads.id_taken_past d p past kept is.counted) refl
    (λ s lt some. new_other kept.texts d.next empty_survivor s (λ same. omega arith))

pub ended_past : (d : FailData) (p : Shown) (n : Start) (mode : Mode) (kept : IsKept d p) (past : List TakenHead)
    → EndsRoll d n mode → ArePast d kept.texts past → ArePast (ended d n mode) kept.texts (past_after d past)
ended_past d p n mode kept past ends is =
    let newer = heads.end_newer d p n mode kept ends in
    let texts = kept.texts in
    let e = ended d n mode in
    elim (cases_eq d.head.start.id 0) as (λ _. ArePast e texts (past_after d past)) [
      | inl none ↦ (
          let test : (d.head.start.id == 0) ≡ true = grind (arith, nat_tests) in
          let same : past_after d past ≡ past = rw test refl in
          subst (λ (hs : List TakenHead). ArePast e texts hs) (sym same) (record {
            counted = heads.first_past d p past n mode kept ends none is.counted;
            rising = is.rising;
            older = λ h l. (let lt = is.older h l in omega arith);
            text = is.text;
          }))
      | inr some ↦ (
          let test : (d.head.start.id == 0) ≡ false = grind (arith, nat_tests) in
          let same : past_after d past ≡ heads_of past d = rw test refl in
          subst (λ (hs : List TakenHead). ArePast e texts hs) (sym same) (record {
            counted = heads.ended_past d p past n mode kept ends is.counted;
            rising = rises_more past (head_now d) is.older is.rising;
            older = λ h l. elim (among_push h past (head_now d) l) as (λ _. h.head.start.id < n.id) [
              | inl old ↦ (let lt = is.older h old in omega arith)
              | inr own ↦ subst (λ (x : TakenHead). x.head.start.id < n.id) own newer
            ];
            text = λ h l. elim (among_push h past (head_now d) l)
                as (λ _. texts.text h.head.start.id ≡ front h.head (length h.head.units)) [
                  | inl old ↦ is.text h old
                  | inr own ↦ subst
                      (λ (x : TakenHead). texts.text x.head.start.id ≡ front x.head (length x.head.units)) own
                      kept.held.logged.text
                ];
          }))
    ]

pub failing_past : (d : FailData) (texts : Texts) (b : ℕ) (past : List TakenHead) → ArePast d texts past
    → ArePast (failing d b) texts past
failing_past d texts b past is =
    still_past d (failing d b) texts texts past is (heads.failing_past d past b is.counted) refl (λ s lt some. refl)

pub mended_past : (d : FailData) (texts : Texts) (past : List TakenHead) → d.mode ≡ Repairs → ArePast d texts past
    → ArePast (mended d) texts past
mended_past d texts past repairs is =
    still_past d (mended d) texts texts past is (heads.mended_past d past repairs is.counted) refl
    (λ s lt some. refl)

-- ---- ops of heads

module _ (d e : FailData) (p : Shown) (o : Op) (kept : IsKept d p) (past : List TakenHead)
    (is : ArePast d kept.texts past) where
  head_op : IsPast e past → e.head.start.id ≡ d.head.start.id → ArePast e kept.texts past
  head_op counted head = still_past d e kept.texts kept.texts past is counted head (λ s lt some. refl)

  pub extends_past : Extends d o e → ArePast e kept.texts past
  extends_past op = head_op (heads.next_past d e p o past kept is.counted (inl op))
      (ap (λ (x : FailData). x.head.start.id) op.gives)

  pub opens_past : OpensNew d o e → ArePast e kept.texts past
  opens_past op = head_op (heads.next_past d e p o past kept is.counted (inr (inl op)))
      (ap (λ (x : FailData). x.head.start.id) op.gives)

  pub replaces_past : Replaces d o e → ArePast e kept.texts past
  replaces_past op = head_op (heads.next_past d e p o past kept is.counted (inr (inr (inl op))))
      (ap (λ (x : FailData). x.head.start.id) op.gives)

  pub raises_past : Raises d o e → ArePast e kept.texts past
  raises_past op = head_op (heads.next_past d e p o past kept is.counted (inr (inr (inr (inl op)))))
      (ap (λ (x : FailData). x.head.start.id) op.gives)

  pub closes_past : ClosesOld d o e → ArePast e kept.texts past
  closes_past op = head_op (heads.next_past d e p o past kept is.counted (inr (inr (inr (inr (inl op))))))
      (ap (λ (x : FailData). x.head.start.id) op.gives)

-- ---- repairs and seals

-- a replica is sealed anew, whether the master knows it or not
pub resealed_past : (d e : FailData) (texts : Texts) (o : Op) (past : List TakenHead) (op : Reseals d texts o e)
    → ArePast d texts past
    → ArePast d (texts_resealed texts op) past × ArePast e (texts_resealed texts op) past
resealed_past d e texts o past op is =
    let now = texts_resealed texts op in
    let x : FailData = record d { took = with_taken d.took op.s op.b } in (
      still_past d d texts now past is is.counted refl (λ s lt some. refl),
      subst (λ (y : FailData). ArePast y now past) (sym op.gives) (still_past d x texts now past is
          (heads.same_past d x past is.counted refl refl refl refl (λ mode. mode) (λ n new.
          let never : None ≡ Some n = sym (ap new_of op.mode) ∙ new in absurd (cc))) refl (λ s lt some. refl)),
    )

-- so a survivor's text may change, and who took it
pub sealed_past : (d : FailData) (texts : Texts) (s b : ℕ) (t : Text) (past : List TakenHead) → IsFree d s
    → (texts.text s).opening ≡ None → ArePast d texts past
    → ArePast d (with_new texts s t) past
    × ArePast (record d { took = with_taken d.took s b }) (with_new texts s t) past
sealed_past d texts s b t past free none is =
    let now = with_new texts s t in
    let x : FailData = record d { took = with_taken d.took s b } in
    let apart : (z : ℕ) → z < d.head.start.id → ((texts.text z).opening ≡ None → ⊥) → now.text z ≡ texts.text z =
    λ z lt some. new_other texts s t z (λ same. some (ap (λ (y : ℕ). (texts.text y).opening) same ∙ none)) in (
      still_past d d texts now past is is.counted refl apart,
      still_past d x texts now past is (heads.sealing_past d past s b free is.counted) refl apart,
    )
