-- Each op of a master leaves the log intact, and fits what is held.
use Rattle.std.proofs.Common.{◌≡◌, ℕ, ◌<◌, inl, inr, Bool, true, false, cond, List, [], ◌∷◌, Some, refl, sym, ap, subst}
use Rattle.std.proofs.Common.{◌∙◌, arith}
use Rattle.std.specs.Prelude.{Option, not, filter, IsSome}
use Rattle.std.proofs.lemmas.Bool.Decides.{nat_tests}
use Rattle.std.proofs.lemmas.Option.{same_Some}
use Rattle.entry.specs.declared.entry.Entry.{Entry}
use Rattle.entry.specs.Bag.{IsAmong}
use Rattle.log_bytes.specs.log_laws.Ids.{has}
use Rattle.log_bytes.specs.log_laws.Text.{Replica}
use Rattle.log_bytes.specs.log_laws.Shown.{Holds, Shown, Act, Open, Extend, Close, Seal, Free, Op, On, Raise, effect}
use Rattle.log_bytes.specs.log_laws.Shown.{taken}
use Rattle.log_bytes.specs.log_laws.Data.{FailConfig, FailData}
use Rattle.log_bytes.specs.log_laws.Durable.{TakenHead}
use Rattle.log_bytes.specs.log_laws.Laws.{Fits}
use Rattle.log_bytes.specs.log_laws.Log.{Texts}
use Rattle.log_bytes.specs.log_laws.Runs.{IsThere}
use Rattle.log_bytes.specs.log_laws.Steps.{with_taken, Reseals, Frees}
use Rattle.log_bytes.proofs.log_laws.Knowing.{extends_fits, opens_fits, replaces_fits, raises_fits, closes_fits}
use Rattle.log_bytes.proofs.log_laws.Knowing.{reseals_fits, seals_fits, frees_fits}
use Rattle.log_bytes.proofs.log_laws.Pictures.{is_taken, unchanged, opened, sealed, closed, extended}
use Rattle.log_memory.specs.Intact.{IsIntact, IsIntactWith, Knows}
use Rattle.log_memory.specs.Laws.{BothIntact}
use Rattle.log_memory.specs.Memory.{Spot, FailMemory, data_of}
use Rattle.log_memory.specs.Ops.{IsHeadOp, OpKeeps, OpFits}
use Rattle.log_memory.specs.Steps.{seal_op, free_op, is_spot, freed, MayFree}
use Rattle.log_memory.proofs.Freeing.{spot_is_free, left_waits, free_keeps}
use Rattle.log_memory.proofs.Repairing.{image_is_repair, repair_keeps}
use Rattle.log_memory.proofs.Sealing.{seals_image, seal_keeps}
use Rattle.log_memory.proofs.Taking.{still, extend_keeps, open_keeps, replace_keeps, raise_keeps, close_keeps}

-- ---- all stays intact

there : (c : FailConfig) (o : Op) (b s : ℕ) (act : Act) → o ≡ On b s act → IsThere c o → b < c.backups
there c o b s act is at = subst (IsThere c) is at

-- the op that was taken is this one
pub taken_so : (p q : Shown) (o n : Op) → o ≡ n → taken p o ≡ Some q → taken p n ≡ Some q
taken_so p q o n is took = subst (λ (x : Op). taken p x ≡ Some q) is took

-- what an op seals, and where
abbrev sealed_entries : Op → List Entry
sealed_entries (On b s (Open text)) = []
sealed_entries (On b s (Extend at more)) = []
sealed_entries (On b s Close) = []
sealed_entries (On b s (Seal text)) = text.entries
sealed_entries (On b s Free) = []
sealed_entries (Raise id) = []

abbrev segment_of : Op → ℕ
segment_of (On b s act) = s
segment_of (Raise id) = id

-- what is sealed in a repair is the image
pub repair_image : (d e : FailData) (m : FailMemory) (texts : Texts) (s b : ℕ) (is : Reseals d texts (seal_op m s b) e)
    → is.image ≡ data_of m is.s
repair_image d e m texts s b is = sym (ap sealed_entries is.op) ∙ ap (data_of m) (ap segment_of is.op)

module _ (past : List TakenHead) (d e : FailData) (m n : FailMemory) (q : Shown) (same : n ≡ m) where
  -- with the memory as it was
  with_memory : BothIntact past d e m q → IsIntactWith past d m q × IsIntactWith past e n q
  with_memory both = (both.0, subst (λ (x : FailMemory). IsIntactWith past e x q) (sym same) both.1)

  given : (x : FailData) → e ≡ x → BothIntact past d x m q → IsIntactWith past d m q × IsIntactWith past e n q
  given x is both = with_memory (subst (λ (y : FailData). BothIntact past d y m q) (sym is) both)

head_keeps : (d e : FailData) (m : FailMemory) (p q : Shown) (o : Op) → (i : IsIntact d m p) → IsHeadOp d o e
    → IsThere d.config o → taken p o ≡ Some q → BothIntact i.past d e m q
head_keeps d e m p q o i (inl is) at took = extend_keeps d e m p q o i is took
head_keeps d e m p q o i (inr (inl is)) at took =
    open_keeps d e m p q o i is (there d.config o is.b is.n.id _ is.op at) took
head_keeps d e m p q o i (inr (inr (inl is))) at took =
    replace_keeps d e m p q o i is (there d.config o is.b d.head.start.id _ is.op at) took
head_keeps d e m p q o i (inr (inr (inr (inl is)))) at took = raise_keeps d e m p q o i is took
head_keeps d e m p q o i (inr (inr (inr (inr is)))) at took = close_keeps d e m p q o i is took

pub op_keeps : OpKeeps
op_keeps d e m n p q o i (inl (is, same)) at took =
    with_memory i.past d e m n q same (head_keeps d e m p q o i is at took)
op_keeps d e m n p q o i (inr (inl (is, same))) at took =
    given i.past d e m n q same _ is.gives (seal_keeps d m p q is.s is.b i is.may
    (there d.config o is.b is.s _ is.op at) (taken_so p q o (seal_op m is.s is.b) is.op took))
op_keeps d e m n p q o i (inr (inr (inl (is, same)))) at took =
    let then : FailData = record d { took = with_taken d.took is.s is.b } in
    let op = image_is_repair d m p is.s is.b i is.may in
    given i.past d e m n q same then is.gives (repair_keeps d then m p q (seal_op m is.s is.b) i op
    (repair_image d then m i.log.texts is.s is.b op) (there d.config o op.b op.s _ (is.op ∙ op.op) at)
    (taken_so p q o (seal_op m is.s is.b) is.op took))
op_keeps d e m n p q o i (inr (inr (inr (is, same)))) at took =
    let both = free_keeps d m p q is.s is.b i is.may (taken_so p q o (free_op is.s is.b) is.op took) in (
      both.0,
      subst (λ (x : FailData). IsIntactWith i.past x n q) (sym same)
          (subst (λ (x : FailMemory). IsIntactWith i.past d x q) (sym is.gives) both.1),
    )

-- ---- the op fits

-- the act puts a replica, or changes one
abbrev IsPut : Act → Type 0
IsPut (Open text) = Unit {0}
IsPut (Extend at more) = Unit {0}
IsPut Close = Unit {0}
IsPut (Seal text) = Unit {0}
IsPut Free = ⊥

puts : (act : Act) → IsPut act → (o x : Option Replica) → effect act o ≡ Some x → (r : Replica) × (x ≡ Some r)
puts (Open text) put o x is = (_, (opened text o x is).1)
puts (Extend at more) put o x is = let was = extended at more o x is in (_, was.was.now)
puts Close put o x is = (_, (closed o x is).now)
puts (Seal text) put o x is = (_, (sealed text o x is).1)
puts Free put o x is = absurd put

-- what is held stays held
abbrev StaysHeld : Shown → Shown → Type 0
StaysHeld p q = (c t : ℕ) → IsSome (p.holds c t) → IsSome (q.holds c t)

put_stays : (p : Shown) (o : Op) (b s : ℕ) (act : Act) → o ≡ On b s act → IsPut act → (q : Shown)
    → taken p o ≡ Some q → StaysHeld p q
put_stays p o b s act is put q took = still p q b s act o is took (puts act put (p.holds b s))

raise_stays : (p : Shown) (o : Op) (id : ℕ) → o ≡ Raise id → (q : Shown) → taken p o ≡ Some q → StaysHeld p q
raise_stays p o id is q took c t some =
    let holds : p.holds ≡ q.holds =
    ap (λ (w : Shown). w.holds) (same_Some _ q (sym (ap (taken p) is) ∙ took)) in
    subst (λ (h : Holds). IsSome (h c t)) holds some

-- What the master then knows.
abbrev Knowing : FailData → FailMemory → Shown → Op → Type 0
Knowing e n p o = (q : Shown) × (taken p o ≡ Some q) × Knows e n q

module _ (d e : FailData) (m n : FailMemory) (p : Shown) (o : Op) (same : n ≡ m) (knows : Knows d m p) where
  fitting : e.failed ≡ d.failed → Fits e p o → ((q : Shown) → taken p o ≡ Some q → StaysHeld p q)
      → Knowing e n p o
  fitting failed fits stays = (
    fits.0,
    fits.1,
    record {
      log = fits.2;
      waiting = λ w at works. stays fits.0 fits.1 w.backup w.segment
          (knows.waiting w (subst (λ (x : FailMemory). IsAmong w x.waiting) same at)
          (sym (ap (λ (l : List ℕ). has l w.backup) failed) ∙ works));
    },
  )

head_fits : (d e : FailData) (m n : FailMemory) (p : Shown) (o : Op) → IsIntact d m p → Knows d m p → IsHeadOp d o e
    → n ≡ m → Knowing e n p o
head_fits d e m n p o i k (inl is) same =
    fitting d e m n p o same k (ap (λ (x : FailData). x.failed) is.gives)
    (extends_fits d e i.log.texts p o i.log.held k.log is) (put_stays p o is.b d.head.start.id _ is.op tt)
head_fits d e m n p o i k (inr (inl is)) same =
    fitting d e m n p o same k (ap (λ (x : FailData). x.failed) is.gives)
    (opens_fits d e i.log.texts p o i.log.held k.log is) (put_stays p o is.b is.n.id _ is.op tt)
head_fits d e m n p o i k (inr (inr (inl is))) same =
    fitting d e m n p o same k (ap (λ (x : FailData). x.failed) is.gives) (replaces_fits d e p o k.log is)
    (put_stays p o is.b d.head.start.id _ is.op tt)
head_fits d e m n p o i k (inr (inr (inr (inl is)))) same =
    fitting d e m n p o same k (ap (λ (x : FailData). x.failed) is.gives) (raises_fits d e p o k.log is)
    (raise_stays p o is.n.id is.op)
head_fits d e m n p o i k (inr (inr (inr (inr is)))) same =
    fitting d e m n p o same k (ap (λ (x : FailData). x.failed) is.gives)
    (closes_fits d e i.log.texts p o i.log.held k.log is) (put_stays p o is.b d.head.start.id _ is.op tt)

-- ---- a free

-- what is left
abbrev left_of : (Spot → Bool) → List Spot → List Spot
left_of test ws = filter (λ (v : Spot). not (test v)) ws

-- it isn't the replica that was freed
left_other : (test : Spot → Bool) (ws : List Spot) (w : Spot) → IsAmong w (left_of test ws)
    → test w ≡ false
left_other test [] w l = absurd l
left_other test (v ∷ ws) w l = go (test v) refl (left_other test ws w) l where
  go : (b : Bool) → test v ≡ b → (IsAmong w (left_of test ws) → test w ≡ false)
      → IsAmong w (cond (not b) (v ∷ left_of test ws) (left_of test ws)) → test w ≡ false
  go true is later m = later m
  go false is later (inl same) = ap test (sym same) ∙ is
  go false is later (inr m) = later m

other_place : (s b : ℕ) (w : Spot) → is_spot (record { segment = s; backup = b }) w ≡ false
    → (b ≡ w.backup) × (s ≡ w.segment) → ⊥
other_place s b w is both = let one = both.0 in let two = both.1 in grind (arith, nat_tests)

free_fits : (d : FailData) (m : FailMemory) (p : Shown) (s b : ℕ) → IsIntact d m p → Knows d m p → MayFree d m s b
    → Knowing d (freed m (record { segment = s; backup = b })) p (free_op s b)
free_fits d m p s b i k may =
    let spot : Spot = record { segment = s; backup = b } in
    let frees : Frees d (free_op s b) d = record {
      b = b;
      s = s;
      calm = may.calm;
      free = spot_is_free d m p s b i may;
      op = refl;
      gives = refl;
    } in
    let fits = frees_fits d d p (free_op s b) k.log frees (k.waiting spot may.waits may.works) in (
      fits.0,
      fits.1,
      record {
        log = fits.2;
        waiting = λ w at works.
            let is = is_taken p fits.0 (free_op s b) b s Free refl fits.1 in
            let apart = other_place s b w (left_other (is_spot spot) m.waiting w at) in
            let same : fits.0.holds w.backup w.segment ≡ p.holds w.backup w.segment =
            ap (λ (y : Shown). y.holds w.backup w.segment) is.same
            ∙ unchanged p.holds b s is.x w.backup w.segment apart in
            subst (λ (o : Option Replica). IsSome o) (sym same)
            (k.waiting w (left_waits (λ (v : Spot). not (is_spot spot v)) m.waiting w at) works);
      },
    )

pub op_fits : OpFits
op_fits d e m n p o i k (inl (is, same)) = head_fits d e m n p o i k is same
op_fits d e m n p o i k (inr (inl (is, same))) =
    let then : FailData = record d { took = with_taken d.took is.s is.b } in
    fitting d e m n p o same k (ap (λ (x : FailData). x.failed) is.gives)
    (subst (λ (x : FailData). Fits x p o) (sym is.gives) (subst (Fits then p) (sym is.op)
    (seals_fits d then i.log.texts p (seal_op m is.s is.b) k.log (seals_image d m p is.s is.b i is.may))))
    (put_stays p o is.b is.s _ is.op tt)
op_fits d e m n p o i k (inr (inr (inl (is, same)))) =
    let then : FailData = record d { took = with_taken d.took is.s is.b } in
    fitting d e m n p o same k (ap (λ (x : FailData). x.failed) is.gives)
    (subst (λ (x : FailData). Fits x p o) (sym is.gives) (subst (Fits then p) (sym is.op)
    (reseals_fits d then i.log.texts p (seal_op m is.s is.b) i.log.held k.log
    (image_is_repair d m p is.s is.b i is.may)))) (put_stays p o is.b is.s _ is.op tt)
op_fits d e m n p o i k (inr (inr (inr (is, same)))) =
    subst (λ (x : FailData). Knowing x n p o) (sym same)
    (subst (λ (x : FailMemory). Knowing d x p o) (sym is.gives) (subst
    (λ (x : Op). Knowing d (freed m (record { segment = is.s; backup = is.b })) p x) (sym is.op)
    (free_fits d m p is.s is.b i k is.may)))
