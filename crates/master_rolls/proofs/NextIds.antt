-- The digest of the next head, of a roll or of a failover: it lists the log, or what the commit of a pass leaves of the
-- log. Its ids rise.
use Rattle.std.proofs.Common.{◌≡◌, ℕ, ◌+◌, ◌<◌, ◌≤◌, Bool, true, false, List, [], ◌∷◌, ◌++◌, length, refl, sym}
use Rattle.std.proofs.Common.{ap, subst, ◌∙◌, arith}
use Rattle.std.specs.Prelude.{if◌then◌else◌}
use Rattle.std.specs.Prelude.{Option, Some, None, IfSome}
use Rattle.std.specs.List.{AllByRecursion}
use Rattle.std.specs.List.Sorted.{IsStrictlyIncreasing}
use Rattle.std.specs.Option.{option_map, option_map_or}
use Rattle.std.proofs.lemmas.List.FromFn.{length-range_with_len}
use Rattle.cleaner.specs.declared.pass.Pass.{Pass}
use Rattle.cleaner.specs.Passes.{survivor_ids, is_ready as is_ready_pass}
use Rattle.entry.specs.declared.digest.Listed.{Listed}
use Rattle.entry.specs.Limits.{ids_in}
use Rattle.entry.proofs.ListLemmas.{all_from_among}
use Rattle.log_head.specs.Head.{digest_of}
use Rattle.log_head.specs.Log.{head_of, HasLens}
use Rattle.log_head.specs.Steps.{start_after}
use Rattle.log_head.proofs.RollLog.{digest_is, start_after_has}
use Rattle.log_head.specs.log_laws.Heads.{Start, ids_of}
use Rattle.log_head.specs.log_laws.Ids.{has, all_inserted, without}
use Rattle.master_state.specs.Budget.{victims_of, survivors_of}
use Rattle.master_state.specs.Data.{MasterData}
use Rattle.master_state.specs.Invariant.{IsOpenPass, IsCore, listed_now}
use Rattle.master_state.specs.Steps.{listed_in}
use Rattle.master_rolls.proofs.Leaving.{length_left}
use Rattle.master_state.proofs.SurvivorLens.{ids_listed_in}
use Rattle.master_state.proofs.LogIds.{rises, others_below}
use Rattle.master_state.proofs.Rising.{Rise, AreOut, increasing, all_left, all_put_all, rise_left, rise_range, rise_all}
use Rattle.master_state.proofs.Rising.{rise_more, length_all, none_left, without_none, has_more}

-- what it begins with, if it is a commit's or isn't
abbrev pub start_by : MasterData → Bool → Start
start_by d t =
    if t then start_after d.head (victims_of d.pass) (listed_in d.closed (survivors_of d.pass)) d.next d.safe
    else start_after d.head [] [] d.next d.safe

-- the other ids that it lists
abbrev pub next_ids : MasterData → Option Pass → Bool → List ℕ
next_ids d o t =
    if t then all_inserted (survivors_of o) (without (victims_of o) (digest_of d.head.image))
    else without [] (digest_of d.head.image)

module _ (d : MasterData) where
  pub start_id : (t : Bool) → (start_by d t).id ≡ d.next
  start_id true = refl
  start_id false = refl

  pub start_has : (t : Bool) → HasLens (start_by d t)
  start_has true = start_after_has d.head (victims_of d.pass) (listed_in d.closed (survivors_of d.pass)) d.next d.safe
  start_has false = start_after_has d.head [] [] d.next d.safe

  pub start_others : (t : Bool) → (start_by d t).others ≡ next_ids d d.pass t
  start_others true = ap (λ (ids : List ℕ). all_inserted ids (without (victims_of d.pass) (digest_of d.head.image)))
      (ids_listed_in d.closed (survivors_of d.pass))
  start_others false = refl

  -- the parts that are handed to the head
  pub start_parts : (t : Bool) (vs : List ℕ) (ss : List Listed) → vs ≡ (if t then victims_of d.pass else [])
      → ss ≡ (if t then listed_in d.closed (survivors_of d.pass) else [])
      → start_after d.head vs ss d.next d.safe ≡ start_by d t
  start_parts t vs ss victims survivors =
      (λ i. start_after d.head (victims i) (survivors i) d.next d.safe)
      ∙ go t where
        go : (b : Bool) → start_after d.head (if b then victims_of d.pass else [])
            (if b then listed_in d.closed (survivors_of d.pass) else []) d.next d.safe ≡ start_by d b
        go true = refl
        go false = refl

  pub others_parts : (t : Bool) (vs : List ℕ) (ss : List Listed) → vs ≡ (if t then victims_of d.pass else [])
      → ss ≡ (if t then listed_in d.closed (survivors_of d.pass) else [])
      → all_inserted (ids_in ss) (without vs (digest_of d.head.image)) ≡ next_ids d d.pass t
  others_parts t vs ss victims survivors =
      ap (λ (n : Start). n.others) (start_parts t vs ss victims survivors) ∙ start_others t

module _ (d : MasterData) (core : IsCore d) where
  pub digest_ids : digest_of d.head.image ≡ ids_of (head_of d.head).start
  digest_ids = digest_is d.config.master d.head (head_of d.head) core.image

  -- ---- the ids rise

  digest_rises : Rise (digest_of d.head.image)
  digest_rises = subst Rise (sym digest_ids) (rises d core)

  digest_below : AllByRecursion (λ (s : ℕ). s < d.next) (digest_of d.head.image)
  digest_below = subst (λ (ids : List ℕ). AllByRecursion (λ (s : ℕ). s < d.next) ids) (sym digest_ids)
      (go (head_of d.head).start.others (others_below d core)) where
        go : (ids : List ℕ) → AllByRecursion (λ (s : ℕ). s < d.head.id) ids
            → AllByRecursion (λ (s : ℕ). s < d.next) (ids ++ (head_of d.head).start.id ∷ [])
        go [] all = (let same = core.image.id in let lt = core.used in omega arith, tt)
        go (s ∷ ids) all = (let lt = all.0 in let used = core.used in (omega arith, go ids all.1))

  stays : (p : Pass) → IsOpenPass d p
      → AreOut (survivor_ids p.survivors) (without p.victims (digest_of d.head.image))
  stays p opens =
      all_from_among (λ (s : ℕ). has (without p.victims (digest_of d.head.image)) s ≡ false)
      (survivor_ids p.survivors)
      (λ s m. none_left p.victims (digest_of d.head.image) s
      (ap (λ (ids : List ℕ). has ids s) digest_ids ∙ (opens.survivors.each s m).outside))

  up : (o : Option Pass) → IfSome o (IsOpenPass d) → (t : Bool) → Rise (next_ids d o t)
  up o opens false = rise_left [] (digest_of d.head.image) digest_rises
  up None opens true = rise_left [] (digest_of d.head.image) digest_rises
  up (Some p) opens true =
      rise_all (survivor_ids p.survivors) (without p.victims (digest_of d.head.image)) (stays p opens)
      (rise_range p.survivors.first p.survivors.count) (rise_left p.victims (digest_of d.head.image) digest_rises)

  below : (o : Option Pass) → IfSome o (IsOpenPass d) → (t : Bool)
      → AllByRecursion (λ (s : ℕ). s < d.next) (next_ids d o t)
  below o opens false = all_left (λ (s : ℕ). s < d.next) [] (digest_of d.head.image) digest_below
  below None opens true = all_left (λ (s : ℕ). s < d.next) [] (digest_of d.head.image) digest_below
  below (Some p) opens true =
      all_put_all (λ (s : ℕ). s < d.next) (survivor_ids p.survivors) (without p.victims (digest_of d.head.image))
      (all_left (λ (s : ℕ). s < d.next) p.victims (digest_of d.head.image) digest_below)
      (all_from_among (λ (s : ℕ). s < d.next) (survivor_ids p.survivors) (λ s m. (opens.survivors.each s m).used))

  pub next_rise : (t : Bool) → IsStrictlyIncreasing (next_ids d d.pass t ++ d.next ∷ [])
  next_rise t =
      increasing (next_ids d d.pass t ++ d.next ∷ [])
      (rise_more (next_ids d d.pass t) d.next (up d.pass core.pass t) (below d.pass core.pass t))

  -- ---- how many they are

  older : (p : Pass) → IsOpenPass d p → AllByRecursion (λ (s : ℕ). has (digest_of d.head.image) s ≡ true) p.victims
  older p opens = subst (λ (ids : List ℕ). AllByRecursion (λ (s : ℕ). has ids s ≡ true) p.victims) (sym digest_ids)
      (each p.victims opens.victims.older) where
        each : (vs : List ℕ) → AllByRecursion (λ (s : ℕ). has (head_of d.head).start.others s ≡ true) vs
            → AllByRecursion (λ (s : ℕ). has (ids_of (head_of d.head).start) s ≡ true) vs
        each [] all = tt
        each (v ∷ vs) all = (
          has_more (head_of d.head).start.others (head_of d.head).start.id v
              ∙ (rw all.0 refl),
          each vs all.1,
        )

  -- an ordinary roll lists the digest in force
  pub count_none : length (without [] (digest_of d.head.image)) ≡ length (digest_of d.head.image)
  count_none = ap length (without_none (digest_of d.head.image))

  -- a commit takes in its survivors, and leaves out its victims
  pub count_commit : (p : Pass) → IsOpenPass d p
      → length (all_inserted (survivor_ids p.survivors) (without p.victims (digest_of d.head.image)))
      + length p.victims ≤ length (digest_of d.head.image) + p.survivors.count
  count_commit p opens =
      let put = length_all (survivor_ids p.survivors) (without p.victims (digest_of d.head.image)) in
      let count = length-range_with_len p.survivors.first p.survivors.count in
      let left = length_left p.victims (digest_of d.head.image) opens.victims.apart (older p opens) in
      omega arith

  -- ---- they are what a roll is to list

  -- a pass is marked if it is ready
  pub next_listed : (o : Option Pass)
      → next_ids d o (option_map_or (is_ready_pass d.config.replicas d.closed) o false)
      ≡ listed_now (record d {
        pass = option_map (λ (p : Pass). record p { is_committing = is_ready_pass d.config.replicas d.closed p }) o;
      })
  next_listed None = without_none (digest_of d.head.image) ∙ digest_ids
  next_listed (Some p) =
      λ i. if is_ready_pass d.config.replicas d.closed p
      then all_inserted (survivor_ids p.survivors) (without p.victims (digest_ids i))
      else (without_none (digest_of d.head.image) ∙ digest_ids) i
