-- An op of a roll or a failover that is taken leaves the log intact.
use Rattle.std.proofs.Common.{◌≡◌, ℕ, ◌⊎◌, inl, inr, true, List, [], ◌∷◌, ◌++◌, length, Some, refl, sym, ap, subst, ◌∙◌}
use Rattle.std.specs.Prelude.{Option, IsSome}
use Rattle.std.proofs.lemmas.Option.{same_Some}
use Rattle.entry.specs.Bag.{IsAmong}
use Rattle.log_bytes.specs.log_laws.Heads.{Start}
use Rattle.log_bytes.specs.log_laws.Ids.{has}
use Rattle.log_bytes.specs.log_laws.Intact.{IsPassOf}
use Rattle.log_bytes.specs.log_laws.Memory.{new_ids, LogSet}
use Rattle.log_bytes.specs.log_laws.Tracked.{IsTracked, IsPassing, IsAround}
use Rattle.log_bytes.specs.log_laws.Text.{Replica}
use Rattle.log_bytes.specs.log_laws.Shown.{Holds, Shown, Act, Op, On, effect, with_replica, taken}
use Rattle.log_bytes.specs.log_laws.Data.{Mode, Calm, Closes, Repairs, FailData, new_of, is_failing, state_of}
use Rattle.log_bytes.specs.log_laws.Log.{IsLogHeld, IsStanding}
use Rattle.log_bytes.specs.log_laws.Steps.{with_taken, with_count, ids_now}
use Rattle.log_bytes.proofs.log_laws.Closing.{closes_held, closes_standing}
use Rattle.log_bytes.proofs.log_laws.HeadOps.{extends_held, extends_standing}
use Rattle.log_bytes.proofs.log_laws.Lists.{taken_either}
use Rattle.log_bytes.proofs.log_laws.Opening.{opens_held, opens_standing, raises_held, raises_standing}
use Rattle.log_bytes.proofs.log_laws.Pictures.{is_taken, unchanged, still_held}
use Rattle.log_bytes.proofs.log_laws.Replacing.{replaces_held, replaces_standing}
use Rattle.log_bytes.specs.Text.{entries_for}
use Rattle.log_memory.specs.Covered.{map_of}
use Rattle.log_memory.specs.Intact.{IsIntact, IsIntactWith}
use Rattle.log_memory.specs.Laws.{ExtendKeeps, OpenKeeps, ReplaceKeeps, RaiseKeeps, CloseKeeps}
use Rattle.log_memory.specs.Memory.{FailMemory, entries_in, data_of}
use Rattle.log_memory.specs.Past.{ArePast}
use Rattle.log_memory.proofs.Pasts.{extends_past, opens_past, replaces_past, raises_past, closes_past}
use Rattle.log_memory.proofs.Sealed.{still_sealed}

-- The segment is no head, neither that in force nor the new one.
pub record IsNoHead (d : FailData) (s : ℕ) : Type 0 where
  pub head : s ≡ d.head.start.id → ⊥
  pub new : (n : Start) → new_of d.mode ≡ Some n → s ≡ n.id → ⊥

module _ (d : FailData) (m : FailMemory) (p : Shown) (i : IsIntact d m p) where
  pub survivor_no_head : (s : ℕ) → IsAmong s m.pass.survivors → IsNoHead d s
  survivor_no_head s survivor = record {
    head = λ same. i.chosen.outside s survivor (among_own d.head.start.others s same);
    new = λ n is same. i.chosen.not_new s n survivor is (sym same);
  } where
    among_own : (ids : List ℕ) (s : ℕ) → s ≡ d.head.start.id → IsAmong s (ids ++ d.head.start.id ∷ [])
    among_own [] s same = inl (sym same)
    among_own (t ∷ ids) s same = inr (among_own ids s same)

  -- what an op leaves: of a master with these counts and this mode, and a picture that has what it had elsewhere
  module _ (counts : ℕ → ℕ) (shut : List ℕ) (took : ℕ → List ℕ) (mode : Mode) (frozen : ℕ)
      (q : Shown)
      (new : new_of mode ≡ new_of d.mode)
      (real : (mode ≡ Calm) ⊎ (mode ≡ Repairs) → (d.mode ≡ Calm) ⊎ (d.mode ≡ Repairs))
      (repairs : mode ≡ Repairs → d.mode ≡ Repairs)
      (fails : is_failing mode ≡ true → is_failing d.mode ≡ true)
      (took_same : (s b : ℕ) → IsNoHead d s → has (took s) b ≡ true → has (d.took s) b ≡ true)
      (held_same : (b s : ℕ) → IsNoHead d s → q.holds b s ≡ p.holds b s) where
    abbrev e : FailData
    e = record d { counts = counts; shut = shut; took = took; mode = mode; frozen = frozen }

    abbrev ids_of : Option Start → List ℕ
    ids_of o = ids_now d.head.start ++ (new_ids o ++ m.pass.survivors)

    abbrev set_of : Option Start → LogSet
    set_of o = record { ids = ids_of o; image = m.images; text = entries_in i.log.texts }

    abbrev have_images : Option Start → Type 0
    have_images o = (s : ℕ) → IsAmong s (ids_of o)
        → m.images s ≡ entries_for d.config.master s (record (i.log.texts.text s) { entries = data_of m s })

    pub moved_on : IsLogHeld e i.log.texts q → IsStanding e i.log.texts → ArePast e i.log.texts i.past
        → IsIntactWith i.past e m q
    moved_on held standing before = (
      record {
        log = record { texts = i.log.texts; held = held; standing = standing };
        tracked = subst (λ (o : Option Start). IsTracked (set_of o) m.pass m.index (map_of d)) (sym new) i.tracked;
        passing = subst (λ (o : Option Start). IsPassing (ids_of o) m.images m.pass m.index m.rest) (sym new) i.passing;
        around = subst
            (λ (o : Option Start). IsAround (set_of o) m.pass (map_of d) (state_of d).safe d.next) (sym new) i.around;
        images = subst have_images (sym new) i.images;
        repaired = i.repaired;
        whole = record { one = i.whole.one; failed = λ failing. i.whole.failed (fails failing) };
        chosen = subst (λ (o : Option Start). IsPassOf d.head.start o m.pass) (sym new) i.chosen;
        sealing = still_sealed d e m i.log.texts i.log.texts p q m.images m.index m.commits i.sealing
            (λ s survivor. refl) (λ s survivor. refl) (λ s survivor. refl)
            (λ b s survivor. held_same b s (survivor_no_head s survivor))
            (λ s b survivor has_it. took_same s b (survivor_no_head s survivor) has_it);
        rolling = λ n is. i.rolling n (sym new ∙ is);
        committed = λ c.
            let was = i.committed c in record { real = was.real; done = was.done; images = was.images };
        waiting = record {
          out = λ w at c.
              i.waiting.out w at (subst (λ (o : Option Start). IsAmong w.segment (ids_of o)) new c);
          below = i.waiting.below;
          real = i.waiting.real;
        };
        recorded = λ n is. i.recorded n (sym new ∙ is);
        repairs = λ is. i.repairs (repairs is);
        real = λ is. i.real (real is);
        past = i.past;
        before = before;
      },
      refl,
    )

  -- and of the same master
  pub moved : (q : Shown) → ((b s : ℕ) → IsNoHead d s → q.holds b s ≡ p.holds b s) → IsLogHeld d i.log.texts q
      → IsIntactWith i.past d m q
  moved q held_same held =
      moved_on d.counts d.shut d.took d.mode d.frozen q refl (λ is. is) (λ is. is) (λ is. is) (λ s b no has_it. has_it)
      held_same held i.log.standing i.before

-- an op on a backup that puts or changes a replica of one segment
module _ (p q : Shown) (b s : ℕ) (act : Act) (o : Op) (is : o ≡ On b s act) (took : taken p o ≡ Some q) where
  pub apart : (c t : ℕ) → (t ≡ s → ⊥) → q.holds c t ≡ p.holds c t
  apart c t other =
      let at = is_taken p q o b s act is took in
      ap (λ (w : Shown). w.holds c t) at.same ∙ unchanged p.holds b s at.x c t (λ both. other (sym both.1))

  -- what puts a replica leaves what was held held
  pub still : ((x : Option Replica) → effect act (p.holds b s) ≡ Some x → (r : Replica) × (x ≡ Some r)) → (c t : ℕ)
      → IsSome (p.holds c t) → IsSome (q.holds c t)
  still puts c t some =
      let at = is_taken p q o b s act is took in
      let r = puts at.x at.given in
      subst (λ (x : Option Replica). IsSome x)
      (sym (ap (λ (w : Shown). w.holds c t) at.same
      ∙ ap (λ (x : Option Replica). with_replica p.holds b s x c t) r.1))
      (still_held p.holds b s r.0 c t some)

-- ---- each op

pub extend_keeps : ExtendKeeps
extend_keeps d e m p q o i op took =
    let texts = i.log.texts in
    let held = extends_held d e texts p q o i.log.held op took in
    let standing = extends_standing d e texts p q o i.log.held i.log.standing op took in
    let same : (c t : ℕ) → IsNoHead d t → q.holds c t ≡ p.holds c t =
    λ c t no. apart p q op.b d.head.start.id _ o op.op took c t no.head in
    let before = extends_past d e p o i.log i.past i.before op in
    let counts = with_count d.counts op.b op.to in (
      moved d m p i q same held.0,
      subst (λ (y : FailData). IsIntactWith i.past y m q) (sym op.gives)
          (moved_on d m p i counts d.shut d.took d.mode d.frozen q refl (λ is. is) (λ is. is) (λ is. is)
          (λ s b no has_it. has_it) same (subst (λ (y : FailData). IsLogHeld y texts q) op.gives held.1)
          (subst (λ (y : FailData). IsStanding y texts) op.gives standing)
          (subst (λ (y : FailData). ArePast y texts i.past) op.gives before)),
    )

pub open_keeps : OpenKeeps
open_keeps d e m p q o i op within took =
    let texts = i.log.texts in
    let n = op.n in
    let new : new_of d.mode ≡ Some n = elim op.mode as (λ _. new_of d.mode ≡ Some n) [
      | inl rolls ↦ ap new_of rolls
      | inr opens ↦ ap new_of opens
    ] in
    let held = opens_held d e texts p q o i.log.held op within took in
    let standing = opens_standing d e texts p q o i.log.held i.log.standing op within took in
    let same : (c t : ℕ) → IsNoHead d t → q.holds c t ≡ p.holds c t =
    λ c t no. apart p q op.b n.id _ o op.op took c t (no.new n new) in
    let before = opens_past d e p o i.log i.past i.before op in
    let took_now = with_taken d.took n.id op.b in (
      moved d m p i q same held.0,
      subst (λ (y : FailData). IsIntactWith i.past y m q) (sym op.gives)
          (moved_on d m p i d.counts d.shut took_now d.mode d.frozen q refl (λ is. is) (λ is. is) (λ is. is)
          (λ s b no has_it. elim (taken_either d.took n.id op.b s b has_it) as (λ _. has (d.took s) b ≡ true) [
            | inl at ↦ absurd (no.new n new at.0)
            | inr old ↦ old
          ]) same (subst (λ (y : FailData). IsLogHeld y texts q) op.gives held.1)
          (subst (λ (y : FailData). IsStanding y texts) op.gives standing)
          (subst (λ (y : FailData). ArePast y texts i.past) op.gives before)),
    )

pub replace_keeps : ReplaceKeeps
replace_keeps d e m p q o i op within took =
    let texts = i.log.texts in
    let id = d.head.start.id in
    let held = replaces_held d e texts p q o i.log.held op within took in
    let standing = replaces_standing d e texts p q o i.log.held i.log.standing op within took in
    let same : (c t : ℕ) → IsNoHead d t → q.holds c t ≡ p.holds c t =
    λ c t no. apart p q op.b id _ o op.op took c t no.head in
    let before = replaces_past d e p o i.log i.past i.before op in
    let took_now = with_taken d.took id op.b in
    let counts = with_count d.counts op.b (length d.head.units) in (
      moved d m p i q same held.0,
      subst (λ (y : FailData). IsIntactWith i.past y m q) (sym op.gives)
          (moved_on d m p i counts d.shut took_now d.mode d.frozen q refl (λ is. is) (λ is. is) (λ is. is)
          (λ s b no has_it. elim (taken_either d.took id op.b s b has_it) as (λ _. has (d.took s) b ≡ true) [
            | inl at ↦ absurd (no.head at.0)
            | inr old ↦ old
          ]) same (subst (λ (y : FailData). IsLogHeld y texts q) op.gives held.1)
          (subst (λ (y : FailData). IsStanding y texts) op.gives standing)
          (subst (λ (y : FailData). ArePast y texts i.past) op.gives before)),
    )

pub raise_keeps : RaiseKeeps
raise_keeps d e m p q o i op took =
    let texts = i.log.texts in
    let held = raises_held d e texts p q o i.log.held op took in
    let standing = raises_standing d e texts p q o i.log.held i.log.standing op took in
    let holds : q.holds ≡ p.holds =
    sym (ap (λ (w : Shown). w.holds) (same_Some _ q (sym (ap (taken p) op.op) ∙ took))) in
    let same : (c t : ℕ) → IsNoHead d t → q.holds c t ≡ p.holds c t =
    λ c t no. ap (λ (h : Holds). h c t) holds in
    let before = raises_past d e p o i.log i.past i.before op in (
      moved d m p i q same held.0,
      subst (λ (y : FailData). IsIntactWith i.past y m q) (sym op.gives)
          (moved_on d m p i d.counts d.shut d.took (Closes op.n) d.frozen q (sym (ap new_of op.mode))
          (λ is. absurd (elim is as (λ _. ⊥) [ inl calm ↦ cc | inr repairs ↦ cc ])) (λ never. absurd (cc))
          (λ is. ap is_failing op.mode) (λ s b no has_it. has_it) same
          (subst (λ (y : FailData). IsLogHeld y texts q) op.gives held.1)
          (subst (λ (y : FailData). IsStanding y texts) op.gives standing)
          (subst (λ (y : FailData). ArePast y texts i.past) op.gives before)),
    )

pub close_keeps : CloseKeeps
close_keeps d e m p q o i op took =
    let texts = i.log.texts in
    let held = closes_held d e texts p q o i.log.held op took in
    let standing = closes_standing d e texts p q o i.log.held i.log.standing op took in
    let same : (c t : ℕ) → IsNoHead d t → q.holds c t ≡ p.holds c t =
    λ c t no. apart p q op.b d.head.start.id _ o op.op took c t no.head in
    let before = closes_past d e p o i.log i.past i.before op in (
      moved d m p i q same held.0,
      subst (λ (y : FailData). IsIntactWith i.past y m q) (sym op.gives)
          (moved_on d m p i d.counts (op.b ∷ d.shut) d.took d.mode d.frozen q refl (λ is. is) (λ is. is) (λ is. is)
          (λ s b no has_it. has_it) same (subst (λ (y : FailData). IsLogHeld y texts q) op.gives held.1)
          (subst (λ (y : FailData). IsStanding y texts) op.gives standing)
          (subst (λ (y : FailData). ArePast y texts i.past) op.gives before)),
    )
