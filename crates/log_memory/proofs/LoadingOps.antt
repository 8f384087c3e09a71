-- A loading master goes on to load once an op on a head is taken.
use Rattle.std.proofs.Common.{◌≡◌, ℕ, ◌⊎◌, inl, inr, true, List, ◌++◌, refl, sym, ap, subst, ◌∙◌}
use Rattle.std.specs.Prelude.{Option, Some}
use Rattle.entry.specs.Bag.{IsAmong}
use Rattle.log_bytes.specs.log_laws.Heads.{Start}
use Rattle.log_bytes.specs.log_laws.Loading.{HasOnly}
use Rattle.log_bytes.specs.log_laws.Memory.{LogSet, new_ids}
use Rattle.log_bytes.specs.log_laws.Tracked.{IsTracked, IsAround}
use Rattle.log_bytes.specs.log_laws.Shown.{Shown, Op, taken}
use Rattle.log_bytes.specs.log_laws.Data.{Mode, Calm, Repairs, FailData, new_of, is_failing}
use Rattle.log_bytes.specs.log_laws.Laws.{BothHeld, Fits}
use Rattle.log_bytes.specs.log_laws.Log.{Texts, IsLogHeld}
use Rattle.log_bytes.specs.log_laws.Runs.{GoesOn, IsNext, IsThere}
use Rattle.log_bytes.specs.log_laws.Steps.{ids_now, IsKnown}
use Rattle.log_bytes.proofs.log_laws.Closing.{closes_held}
use Rattle.log_bytes.proofs.log_laws.HeadOps.{extends_held}
use Rattle.log_bytes.proofs.log_laws.Knowing.{extends_fits, opens_fits, replaces_fits, raises_fits, closes_fits}
use Rattle.log_bytes.proofs.log_laws.Opening.{opens_held, raises_held}
use Rattle.log_bytes.proofs.log_laws.Replacing.{replaces_held}
use Rattle.log_bytes.proofs.log_laws.Runs.{next_goes_on, there}
use Rattle.log_memory.specs.Intact.{Knows}
use Rattle.log_memory.specs.Loading.{IsLoading, LoadingOpKeeps, LoadingOpFits}
use Rattle.log_memory.specs.Memory.{Spot, FailMemory, entries_in}
use Rattle.log_memory.specs.Ops.{IsHeadOp}

-- nothing waits to be freed
pub none_waits : (d : FailData) (m : FailMemory) (p : Shown) → IsLoading d m p → (w : Spot) → IsAmong w m.waiting → ⊥
none_waits d m p i w c = subst (λ (spots : List Spot). IsAmong w spots) i.idle.waiting c

-- so the master knows all if it knows the log
pub knows_log : (d e : FailData) (m n : FailMemory) (p q : Shown) → IsLoading d m p → n.waiting ≡ m.waiting
    → IsKnown e q → Knows e n q
knows_log d e m n p q i same known = record {
  log = known;
  waiting = λ w c. absurd (none_waits d m p i w (subst (λ (spots : List Spot). IsAmong w spots) same c));
}

module _ (d : FailData) (m : FailMemory) (p q : Shown) (i : IsLoading d m p) (counts : ℕ → ℕ) (shut : List ℕ)
    (took : ℕ → List ℕ) (mode : Mode) (frozen : ℕ) (new : new_of mode ≡ new_of d.mode)
    (real : (mode ≡ Calm) ⊎ (mode ≡ Repairs) → (d.mode ≡ Calm) ⊎ (d.mode ≡ Repairs))
    (repairs : mode ≡ Repairs → d.mode ≡ Repairs)
    (fails : is_failing mode ≡ true → is_failing d.mode ≡ true) where
  abbrev e : FailData
  e = record d { counts = counts; shut = shut; took = took; mode = mode; frozen = frozen }

  -- the log set with this new head
  abbrev ids_of : Option Start → List ℕ
  ids_of x = ids_now d.head.start ++ (new_ids x ++ m.pass.survivors)

  abbrev set_of : Option Start → LogSet
  set_of x = record { ids = ids_of x; image = m.images; text = entries_in i.texts }

  pub goes_on : IsLogHeld e i.texts q → IsLoading e m q
  goes_on held = record {
    texts = i.texts;
    held = held;
    begins = i.begins;
    numbers = i.numbers;
    stands = i.stands;
    new = λ n is. i.new n (sym new ∙ is);
    rolling = λ n is. i.rolling n (sym new ∙ is);
    empty = i.empty;
    blank = i.blank;
    real = λ is. i.real (real is);
    only = subst (λ (x : Option Start). HasOnly (set_of x) d.opening.contents) (sym new) i.only;
    tracked = subst (λ (x : Option Start). IsTracked (set_of x) m.pass m.index d.opening.contents) (sym new) i.tracked;
    around = subst (λ (x : Option Start). IsAround (set_of x) m.pass d.opening.contents d.opening.safe d.next)
        (sym new) i.around;
    recorded = λ n is. i.recorded n (sym new ∙ is);
    repairs = λ is. i.repairs (repairs is);
    images = λ s c. i.images s (subst (λ (x : Option Start). IsAmong s (ids_of x)) new c);
    repaired = i.repaired;
    whole = record { one = i.whole.one; failed = λ is. i.whole.failed (fails is) };
    idle = i.idle;
  }

-- ---- any op

pub head_next : (d e : FailData) (texts : Texts) (p : Shown) (o : Op) → IsHeadOp d o e → IsNext d texts p o e
head_next d e texts p o (inl is) = inl is
head_next d e texts p o (inr (inl is)) = inr (inl is)
head_next d e texts p o (inr (inr (inl is))) = inr (inr (inl is))
head_next d e texts p o (inr (inr (inr (inl is)))) = inr (inr (inr (inl is)))
head_next d e texts p o (inr (inr (inr (inr is)))) = inr (inr (inr (inr (inl is))))

-- the texts are held then, whether the master knows it or not
head_op_held : (d e : FailData) (texts : Texts) (p q : Shown) (o : Op) → IsLogHeld d texts p → IsHeadOp d o e
    → IsThere d.config o → taken p o ≡ Some q → BothHeld d e texts q
head_op_held d e texts p q o held (inl is) at took = extends_held d e texts p q o held is took
head_op_held d e texts p q o held (inr (inl is)) at took =
    opens_held d e texts p q o held is (there d.config o is.b _ _ is.op at) took
head_op_held d e texts p q o held (inr (inr (inl is))) at took =
    replaces_held d e texts p q o held is (there d.config o is.b _ _ is.op at) took
head_op_held d e texts p q o held (inr (inr (inr (inl is)))) at took = raises_held d e texts p q o held is took
head_op_held d e texts p q o held (inr (inr (inr (inr is)))) at took = closes_held d e texts p q o held is took

-- What an op leaves of the mode.
record KeepsMode (now before : Mode) : Type 0 where
  new : new_of now ≡ new_of before
  real : (now ≡ Calm) ⊎ (now ≡ Repairs) → (before ≡ Calm) ⊎ (before ≡ Repairs)
  repairs : now ≡ Repairs → before ≡ Repairs
  fails : is_failing now ≡ true → is_failing before ≡ true

-- the mode is the same, or the registry was raised
same_mode : (mode : Mode) → KeepsMode mode mode
same_mode mode = record { new = refl; real = λ is. is; repairs = λ is. is; fails = λ is. is }

head_op_mode : (d e : FailData) (o : Op) → IsHeadOp d o e → KeepsMode e.mode d.mode
head_op_mode d e o (inl is) =
    subst (λ (x : FailData). KeepsMode x.mode d.mode) (sym is.gives) (same_mode d.mode)
head_op_mode d e o (inr (inl is)) =
    subst (λ (x : FailData). KeepsMode x.mode d.mode) (sym is.gives) (same_mode d.mode)
head_op_mode d e o (inr (inr (inl is))) =
    subst (λ (x : FailData). KeepsMode x.mode d.mode) (sym is.gives) (same_mode d.mode)
head_op_mode d e o (inr (inr (inr (inl is)))) =
    subst (λ (x : FailData). KeepsMode x.mode d.mode) (sym is.gives) (record {
      new = sym (ap new_of is.mode);
      real = λ never. absurd (elim never as (λ _. ⊥) [ inl calm ↦ cc | inr repairs ↦ cc ]);
      repairs = λ never. absurd (cc);
      fails = λ _. ap is_failing is.mode;
    })
head_op_mode d e o (inr (inr (inr (inr is)))) =
    subst (λ (x : FailData). KeepsMode x.mode d.mode) (sym is.gives) (same_mode d.mode)

pub loading_op_keeps : LoadingOpKeeps
loading_op_keeps d e m p q o i op at took =
    let both = head_op_held d e i.texts p q o i.held op at took in
    let g : GoesOn d e = next_goes_on d e i.texts p o (head_next d e i.texts p o op) in
    let mode : KeepsMode g.mode d.mode =
    subst (λ (x : FailData). KeepsMode x.mode d.mode) g.gives (head_op_mode d e o op) in (
      goes_on d m p q i d.counts d.shut d.took d.mode d.frozen refl (λ is. is) (λ is. is) (λ is. is) both.0,
      subst (λ (x : FailData). IsLoading x m q) (sym g.gives)
          (goes_on d m p q i g.counts g.shut g.took g.mode d.frozen mode.new mode.real mode.repairs mode.fails
          (subst (λ (x : FailData). IsLogHeld x i.texts q) g.gives both.1)),
    )

-- it fits, and the master knows what the backups hold then
head_op_fits : (d e : FailData) (texts : Texts) (p : Shown) (o : Op) → IsLogHeld d texts p → IsKnown d p
    → IsHeadOp d o e → Fits e p o
head_op_fits d e texts p o held known (inl is) = extends_fits d e texts p o held known is
head_op_fits d e texts p o held known (inr (inl is)) = opens_fits d e texts p o held known is
head_op_fits d e texts p o held known (inr (inr (inl is))) = replaces_fits d e p o known is
head_op_fits d e texts p o held known (inr (inr (inr (inl is)))) = raises_fits d e p o known is
head_op_fits d e texts p o held known (inr (inr (inr (inr is)))) = closes_fits d e texts p o held known is

pub loading_op_fits : LoadingOpFits
loading_op_fits d e m p o i knows op =
    let fits = head_op_fits d e i.texts p o i.held knows.log op in
    (fits.0, fits.1, knows_log d e m m p fits.0 i refl fits.2)
