-- Closed segments of a core: their ids, and their images.
use Rattle.std.proofs.Common.{◌≡◌, ℕ, suc, ◌+◌, ◌<◌, ◌≤◌, Bool, true, false, cond, List, [], ◌∷◌, ◌++◌, length, refl}
use Rattle.std.proofs.Common.{sym, ap, subst, ◌∙◌, inl, inr, arith}
use Rattle.std.specs.Prelude.{Option, Some, None, IfSome, IsSome, is_some, unwrap_or, ◌==◌, ◌||◌, ◌⊎◌}
use Rattle.std.specs.List.{AllByRecursion}
use Rattle.std.specs.Borrow.{Bor}
use Rattle.std.specs.Option.{option_map_or, option_copied}
use Rattle.std.proofs.lemmas.List.{length-append}
use Rattle.std.proofs.lemmas.Bool.{or_parts}
use Rattle.entry.specs.declared.entry.Entry.{Entry}
use Rattle.entry.specs.Bag.{IsAmong}
use Rattle.entry.proofs.BagLemmas.{among_push}
use Rattle.entry.proofs.ListLemmas.{all_weaker}
use Rattle.log_memory.proofs.log_laws.KeptEntries.{is_has}
use Rattle.cleaner.specs.declared.pass.Pass.{Pass}
use Rattle.cleaner.specs.Passes.{images_in, AreIds}
use Rattle.cleaner.specs.compactor.Kept.{has_id}
use Rattle.cleaner.proofs.compactor.Ids.{copied_some}
use Rattle.images.specs.Image.{Image}
use Rattle.images.specs.Sorted.{segment_of}
use Rattle.log_head.specs.declared.head.Roll.{Roll}
use Rattle.log_head.specs.Head.{digest_of}
use Rattle.log_head.specs.Log.{head_of, start_of}
use Rattle.log_head.proofs.RollLog.{digest_is}
use Rattle.log_head.proofs.log_laws.ListedIds.{ids_listed}
use Rattle.log_head.specs.log_laws.Heads.{ids_of}
use Rattle.log_head.specs.log_laws.Ids.{has, all_inserted}
use Rattle.master_state.specs.Budget.{newest_digest, survivors_of}
use Rattle.master_state.specs.Causes.{is_head}
use Rattle.master_state.specs.Data.{MasterData}
use Rattle.master_state.specs.Images.{new_image_or, images_among}
use Rattle.master_state.specs.Invariant.{IsCore, IsOpenPass, IsRollOf, listed_now}
use Rattle.master_state.proofs.Imaging.{ids_in, same_id, other_id}
use Rattle.master_state.proofs.FreeVictims.{has_id_is, IsOlder, AreFree}

-- ---- ids

-- an id above all of them is not among them
pub not_has : (ids : List ℕ) (n : ℕ) → AllByRecursion (λ (id : ℕ). id < n) ids → has ids n ≡ false
not_has [] n all = refl
not_has (z ∷ ids) n all =
    let lt = all.0 in
    let away : (z == n) ≡ false = other_id z n (λ same. omega arith) in
    rw away (not_has ids n all.1)

pub all_below : (a b : ℕ) (ids : List ℕ) → a ≤ b → AllByRecursion (λ (id : ℕ). id < a) ids
    → AllByRecursion (λ (id : ℕ). id < b) ids
all_below a b [] le all = tt
all_below a b (s ∷ ids) le all = let lt = all.0 in (omega arith, all_below a b ids le all.1)

-- a segment whose id is there has an image
pub there_is : (cs : List Image) (s : ℕ) → IsAmong s (ids_in cs) → IsSome (segment_of cs s)
there_is [] s among = absurd among
there_is (c ∷ cs) s among = go (c.id == s) refl among (there_is cs s) where
  go : (t : Bool) → (c.id == s) ≡ t → (c.id ≡ s) ⊎ IsAmong s (ids_in cs)
      → (IsAmong s (ids_in cs) → IsSome (segment_of cs s))
      → IsSome (segment_of (c ∷ cs) s)
  go true test m later = rw test refl
  go false test (inl same) later =
      let own = same_id s in
      let here : (c.id == s) ≡ true = ap (λ (z : ℕ). z == s) same ∙ own in absurd (cc)
  go false test (inr m) later = rw test (later m)

-- whether it is there tells whether its id is
pub is_there : (cs : List Image) (s : ℕ) → has_id (ids_in cs) s ≡ is_some (segment_of cs s)
is_there [] s = refl
is_there (c ∷ cs) s = go (c.id == s) refl (is_there cs s) where
  go : (t : Bool) → (c.id == s) ≡ t → has_id (ids_in cs) s ≡ is_some (segment_of cs s)
      → has_id (ids_in (c ∷ cs)) s ≡ is_some (segment_of (c ∷ cs) s)
  go true test later = rw test refl
  go false test later = rw test later

-- ---- what memory has of a closed segment

-- no roll opens a head of this id
abbrev pub IsNotNew : Option Roll → ℕ → Type 0
IsNotNew o s = IfSome o (λ (r : Roll). (r.id == s) ≡ false)

new_other : (o : Option Roll) (s : ℕ) (x : Option (List Entry)) → IsNotNew o s → new_image_or o s x ≡ x
new_other None s x not = refl
new_other (Some r) s x not = rw not refl

not_new : (o : Option Roll) (s : ℕ) → option_map_or (λ (r : Roll). r.id == s) o false ≡ false → IsNotNew o s
not_new None s is = tt
not_new (Some r) s is = is

pub head_parts : (d : MasterData) (s : ℕ) → is_head d.head s ≡ false → ((d.head.id == s) ≡ false)
    × IsNotNew d.head.roll s
head_parts d s is =
    let parts = or_parts (d.head.id == s) (option_map_or (λ (r : Roll). r.id == s) d.head.roll false) is in
    (parts.0, not_new d.head.roll s parts.1)

module _ (d : MasterData) (s : ℕ) (away : (d.head.id == s) ≡ false) (not_opening : IsNotNew d.head.roll s) where
  -- of a segment that is no head memory has what the closed ones have
  pub closed_only : (cs : List Image) → images_among d.head cs s ≡ images_in cs s
  closed_only cs = rw away (ap (λ (o : Option (List Entry)). unwrap_or o [])
      (new_other d.head.roll s (segment_of cs s) not_opening))

-- the heads: two if a roll is under way
abbrev pub head_count : Option Roll → ℕ
head_count o = option_map_or (λ (r : Roll). 2) o 1

-- the survivors of an open pass have numbers of segments
pub numbers_of : (d : MasterData) → IsCore d → IfSome d.pass (λ (p : Pass). AreIds p.survivors)
numbers_of d core = go d.pass core.pass where
  go : (o : Option Pass) → IfSome o (IsOpenPass d) → IfSome o (λ (p : Pass). AreIds p.survivors)
  go None is = tt
  go (Some p) is = is.pass.numbers

-- ---- the ids of a core

module _ (d : MasterData) (core : IsCore d) where
  abbrev pub others : List ℕ
  others = (head_of d.head).start.others

  pub others_below : AllByRecursion (λ (id : ℕ). id < d.head.id) others
  others_below = subst (λ (top : ℕ). AllByRecursion (λ (id : ℕ). id < top) others) core.image.id core.below

  -- a segment of the digest in force is older, or the head
  pub among_others : (s : ℕ) → is_head d.head s ≡ false → has_id (digest_of d.head.image) s ≡ true → IsAmong s others
  among_others s not_head listed =
      let front : has (ids_of (head_of d.head).start) s ≡ true =
      sym (has_id_is (ids_of (head_of d.head).start) s)
      ∙ ap (λ (ids : List ℕ). has_id ids s) (sym (digest_is d.config.master d.head
      (head_of d.head) core.image)) ∙ listed in
      elim (among_push s others (head_of d.head).start.id (is_has (ids_of (head_of d.head).start) s front)) [
        | inl i ↦ i
        | inr own ↦ (
            let own_test = same_id s in
            let test : (d.head.id == s) ≡ true = ap (λ (z : ℕ). z == s) (sym core.image.id ∙ own) ∙ own_test in
            let away = (or_parts (d.head.id == s) (option_map_or
            (λ (r : Roll). r.id == s) d.head.roll false) not_head).0 in
            absurd (cc))
      ]

  -- the ids of all segments are below the next one
  pub start_below : AllByRecursion (λ (id : ℕ). id < d.next) (ids_of (head_of d.head).start)
  start_below = more others (all_below d.head.id d.next others (omega (arith, core.used)) others_below) where
    more : (ids : List ℕ) → AllByRecursion (λ (id : ℕ). id < d.next) ids
        → AllByRecursion (λ (id : ℕ). id < d.next) (ids ++ (head_of d.head).start.id ∷ [])
    more [] all = (let own = core.image.id in let lt = core.used in omega arith, tt)
    more (z ∷ ids) all = (all.0, more ids all.1)

  -- an id that isn't used yet is of no head
  pub not_opening_later : (s : ℕ) → d.next ≤ s → IsNotNew d.head.roll s
  not_opening_later s le = go d.head.roll core.roll where
    go : (o : Option Roll) → IfSome o (IsRollOf d) → IsNotNew o s
    go None rolls = tt
    go (Some r) rolls = let lt = rolls.used in other_id r.id s (λ same. omega arith)

  pub not_head_later : (s : ℕ) → d.next ≤ s → (d.head.id == s) ≡ false
  not_head_later s le = let lt = core.used in other_id d.head.id s (λ same. omega arith)

  -- ---- without a pass

  module _ (none : d.pass ≡ None) where
    pub closed_ids : ids_in d.closed ≡ others
    closed_ids = core.closed ∙ ap (λ (o : Option Pass). all_inserted (survivors_of o) others) none

    closed_below_next : AllByRecursion (λ (id : ℕ). id < d.next) (ids_in d.closed)
    closed_below_next =
        subst (λ (ids : List ℕ). AllByRecursion (λ (id : ℕ). id < d.next) ids) (sym closed_ids)
        (all_below d.head.id d.next others (omega (arith, core.used)) others_below)

    pub images_below : AllByRecursion (λ (c : Image). c.id < d.next) d.closed
    images_below = each d.closed closed_below_next where
      each : (cs : List Image) → AllByRecursion (λ (id : ℕ). id < d.next) (ids_in cs)
          → AllByRecursion (λ (c : Image). c.id < d.next) cs
      each [] all = tt
      each (c ∷ cs) all = (all.0, each cs all.1)

    pub older_there : (s : ℕ) → IsAmong s others → IsSome (segment_of d.closed s)
    older_there s m = there_is d.closed s (subst (λ (ids : List ℕ). IsAmong s ids) (sym closed_ids) m)

    -- a segment that is no head is listed exactly if it is closed
    pub listed_closed : (s : ℕ) → is_head d.head s ≡ false
        → has_id (digest_of d.head.image) s ≡ is_some (segment_of d.closed s)
    listed_closed s not_head =
        ap (λ (ids : List ℕ). has_id ids s) (digest_is d.config.master d.head (head_of d.head) core.image)
        ∙ front others
        ∙ ap (λ (ids : List ℕ). has_id ids s) (sym closed_ids)
        ∙ is_there d.closed s
      where
        away : ((head_of d.head).start.id == s) ≡ false
        away = ap (λ (z : ℕ). z == s) core.image.id
            ∙ (or_parts (d.head.id == s) (option_map_or (λ (r : Roll). r.id == s) d.head.roll false) not_head).0

        front : (ids : List ℕ) → has_id (ids ++ (head_of d.head).start.id ∷ []) s ≡ has_id ids s
        front [] = rw away refl
        front (z ∷ ids) = ap (λ (b : Bool). (z == s) || b) (front ids)

    counted : (cs : List Image) → length (ids_in cs) ≡ length cs
    counted [] = refl
    counted (c ∷ cs) = ap suc (counted cs)

    -- the newest digest lists the closed segments and the heads
    pub newest_count : length (newest_digest d.head) ≡ length d.closed + head_count d.head.roll
    newest_count = go d.head.roll refl core.roll
      where
        newest_of : Option Roll → List ℕ
        newest_of o = option_map_or (λ (r : Roll). digest_of r.image) o (digest_of d.head.image)

        in_force : length (ids_of (head_of d.head).start) ≡ length d.closed + 1
        in_force = length-append others ((head_of d.head).start.id ∷ [])
            ∙ ap (λ (ids : List ℕ). length ids + 1) (sym closed_ids) ∙ ap (λ (n : ℕ). n + 1) (counted d.closed)

        not_committing : listed_now d ≡ ids_of (head_of d.head).start
        not_committing = rw none refl

        more : (length d.closed + 1) + 1 ≡ length d.closed + 2
        more = omega arith

        go : (o : Option Roll) → d.head.roll ≡ o → IfSome o (IsRollOf d)
            → length (newest_of d.head.roll) ≡ length d.closed + head_count d.head.roll
        go None is rolls =
            ap (λ (x : Option Roll). length (newest_of x)) is
            ∙ ap length (digest_is d.config.master d.head (head_of d.head) core.image) ∙ in_force
            ∙ ap (λ (x : Option Roll). length d.closed + head_count x) (sym is)
        go (Some r) is rolls =
            ap (λ (x : Option Roll). length (newest_of x)) is
            ∙ ap (λ (es : List Entry). length (digest_of es)) rolls.image
            ∙ ap length (ids_listed (start_of r)) ∙ length-append (start_of r).others ((start_of r).id ∷ [])
            ∙ ap (λ (ids : List ℕ). length ids + 1) (rolls.lists ∙ not_committing)
            ∙ ap (λ (n : ℕ). n + 1) in_force
            ∙ more
            ∙ ap (λ (x : Option Roll). length d.closed + head_count x) (sym is)

-- by what was got
pub got_listed : (d : MasterData) (core : IsCore d) → d.pass ≡ None → (s : ℕ) → is_head d.head s ≡ false
    → (got : Option (List Entry))
    → (t : Bool) → got ≡ segment_of d.closed s → is_some got ≡ t → has_id (digest_of d.head.image) s ≡ t
got_listed d core none s not_head got t is some =
    listed_closed d core none s not_head ∙ ap is_some (sym is) ∙ some

-- ---- the victims of a pass that may begin

module _ (d : MasterData) (core : IsCore d) (victims : List ℕ) (free : AreFree d victims) where
  pub victims_listed : AllByRecursion (λ (s : ℕ). IsAmong s (others d core)) victims
  victims_listed =
      all_weaker (IsOlder d) (λ (s : ℕ). IsAmong s (others d core))
      (λ s older. among_others d core s older.0 older.1) victims free.older

  pub victims_there : AllByRecursion (λ (s : ℕ). IsSome (segment_of d.closed s)) victims
  victims_there =
      all_weaker (λ (s : ℕ). IsAmong s (others d core)) (λ (s : ℕ). IsSome (segment_of d.closed s))
      (λ s m. older_there d core free.none s m) victims victims_listed

-- how many heads there are, by what was got of a roll
abbrev heads_by : Bool → ℕ
heads_by b = cond b 2 1

pub heads_of : (o : Option Roll) (got : Option (Bor Roll)) (t : Bool) → option_copied got ≡ o → is_some got ≡ t
    → head_count o ≡ cond t 2 1
heads_of o got t is some = go o (ap is_some (sym is) ∙ copied_some got ∙ some) where
  go : (x : Option Roll) → is_some x ≡ t → head_count x ≡ heads_by t
  go None none = ap heads_by none
  go (Some r) there = ap heads_by there
