-- A loading master goes on to load with another memory of the same images, and begins its history.
use Rattle.std.proofs.Common.{◌≡◌, ℕ, inl, true, false, List, [], ◌∷◌, length, refl, sym, subst, ap, ◌∙◌, arith}
use Rattle.std.specs.Prelude.{Some, None}
use Rattle.entry.specs.Bag.{IsAmong}
use Rattle.versioned_map.specs.Versioned.{State}
use Rattle.log_bytes.specs.log_laws.Heads.{Start}
use Rattle.log_bytes.specs.log_laws.Intact.{IsPassOf}
use Rattle.log_bytes.specs.log_laws.Memory.{Pass, LogSet}
use Rattle.log_bytes.specs.log_laws.Tracked.{IsTracked, IsPassing}
use Rattle.log_bytes.proofs.log_laws.LogSetChanges.{IsMore, was_in}
use Rattle.log_bytes.proofs.log_laws.NoPass.{none_passing, none_chosen}
use Rattle.log_bytes.specs.log_laws.Shown.{Shown}
use Rattle.log_bytes.specs.log_laws.Data.{Calm, Repairs, FailData, HasTaken, new_of, state_of}
use Rattle.log_bytes.specs.log_laws.Steps.{IsLoaded, adopted}
use Rattle.log_bytes.proofs.log_laws.Adopting.{adopted_logged, adopted_mirrored, adopted_standing, adopted_known}
use Rattle.log_memory.specs.Intact.{AreSealed, IsIntactWith}
use Rattle.log_memory.specs.Loading.{IsLoading, SameIsLoading, FinishIsIntact}
use Rattle.log_memory.specs.Memory.{Spot, FailMemory, log_ids, log_set_of}
use Rattle.log_memory.specs.Same.{IsSameMemory}
use Rattle.log_memory.proofs.LoadingOps.{none_waits, knows_log}
use Rattle.log_memory.proofs.LoadingRolls.{opening_is, none_survive}
use Rattle.log_memory.proofs.Pasts.{adopted_past}
use Rattle.log_memory.proofs.SameMemories.{images_too, same_tracked, same_around}

-- ---- another memory

none_left : (spots : List Spot) → ((w : Spot) → IsAmong w spots → ⊥) → spots ≡ []
none_left [] none = refl
none_left (w ∷ spots) none = absurd (none w (inl refl))

module _ (d : FailData) (m n : FailMemory) (p : Shown) (i : IsLoading d m p) (same : IsSameMemory d m n) where
  abbrev other : FailMemory
  other = record n { pass = m.pass }

  abbrev log : LogSet
  log = log_set_of d m i.texts

  abbrev new : LogSet
  new = log_set_of d other i.texts

  state_is : d.opening ≡ state_of d
  state_is = opening_is d i.begins

  more : IsMore log new
  more = record {
    counted = λ s c. c;
    image = same.images;
    text = λ s c. refl;
    blank = λ s c. inl c;
  }

  still : IsLoading d other p
  still = record {
    texts = i.texts;
    held = i.held;
    begins = i.begins;
    numbers = i.numbers;
    stands = i.stands;
    new = i.new;
    rolling = i.rolling;
    empty = i.empty;
    blank = i.blank;
    real = i.real;
    only = λ k s f none l at. i.only k s f none (was_in log new more s f k at l) at;
    tracked = subst (λ (st : State). IsTracked new m.pass n.index st.contents) (sym state_is)
        (same_tracked d m n same i.texts (none_survive d m p i)
        (subst (λ (st : State). IsTracked log m.pass m.index st.contents) state_is i.tracked));
    around = same_around d m n same i.texts (none_survive d m p i) d.opening.contents d.opening.safe i.around;
    recorded = i.recorded;
    repairs = i.repairs;
    images = images_too d m n same i.texts i.images;
    repaired = λ s es k f image at l. i.repaired s es k f image at (same.fewer s f l);
    whole = i.whole;
    idle = record {
      pass = i.idle.pass;
      rest = same.done i.idle.rest;
      commits = same.commits ∙ i.idle.commits;
      waiting = none_left n.waiting (λ w c. none_waits d m p i w (same.waiting w c));
    };
  }

pub same_is_loading : SameIsLoading
same_is_loading d m n p i same =
    subst (λ (x : Pass). IsLoading d (record n { pass = x }) p) (sym same.pass) (still d m n p i same)

-- ---- it finishes

module _ (d : FailData) (m : FailMemory) (p : Shown) (i : IsLoading d m p) (calm : d.mode ≡ Calm)
    (whole : (b : ℕ) → HasTaken d d.head.start.id b → d.counts b ≡ length d.head.units) where
  abbrev then_master : FailData
  then_master = adopted d d.opening

  some : d.head.start.id ≡ 0 → ⊥
  some = i.real (inl calm)

  abbrev loaded : IsLoaded d p d.opening
  loaded = record {
    texts = i.texts;
    held = i.held;
    calm = calm;
    some = let other = some in omega arith;
    whole = whole;
    stands = i.stands some;
  }

  no_new : (n : Start) → new_of d.mode ≡ Some n → ⊥
  no_new n is = let never : None ≡ Some n = sym (ap new_of calm) ∙ is in cc

  none_survives : (s : ℕ) → IsAmong s m.pass.survivors → ⊥
  none_survives s c = subst (λ (x : Pass). IsAmong s x.survivors) i.idle.pass c

  sealing : AreSealed then_master m i.texts p
  sealing = record {
    bare = λ s survivor. absurd (none_survives s survivor);
    one = λ s survivor. absurd (none_survives s survivor);
    each = λ s b r survivor. absurd (none_survives s survivor);
    held = λ s b survivor. absurd (none_survives s survivor);
  }

  finished : IsIntactWith [] then_master m p
  finished = (
    record {
      log = record {
        texts = i.texts;
        held = record {
          some = i.held.some;
          logged = adopted_logged d p d.opening loaded;
          mirrored = adopted_mirrored d p d.opening loaded;
        };
        standing = adopted_standing d p d.opening loaded;
      };
      tracked = i.tracked;
      passing = subst (λ (x : Pass). IsPassing (log_ids d m) m.images x m.index m.rest) (sym i.idle.pass)
          (none_passing (log_ids d m) m.images m.index m.rest);
      around = i.around;
      images = i.images;
      repaired = i.repaired;
      whole = record { one = i.whole.one; failed = i.whole.failed };
      chosen = subst (λ (x : Pass). IsPassOf d.head.start (new_of d.mode) x) (sym i.idle.pass)
          (none_chosen d.head.start (new_of d.mode));
      sealing = sealing;
      rolling = λ n is. absurd (no_new n is);
      committed = λ its. absurd (let never : false ≡ true = sym i.idle.commits ∙ its in cc);
      waiting = record {
        out = λ w c. absurd (none_waits d m p i w c);
        below = λ w c. absurd (none_waits d m p i w c);
        real = λ w c. absurd (none_waits d m p i w c);
      };
      recorded = λ n is. absurd (no_new n is);
      repairs = λ never. absurd (let other : Calm ≡ Repairs = sym calm ∙ never in cc);
      real = λ _. some;
      past = [];
      before = adopted_past d p d.opening i.texts loaded;
    },
    refl,
  )

pub finish_is_intact : FinishIsIntact
finish_is_intact d m p i knows calm whole = (
  finished d m p i calm whole,
  knows_log d (adopted d d.opening) m m p p i refl
      (adopted_known d p d.opening (loaded d m p i calm whole) knows.log),
)
