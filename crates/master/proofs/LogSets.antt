-- Memory has an image of each segment of the log set, and of no other.
use Rattle.std.proofs.Common.{◌≡◌, ℕ, ◌<◌, ◌⊎◌, Bool, true, false, inl, inr, List, [], ◌∷◌, ◌++◌, length, refl, sym, ap}
use Rattle.std.proofs.Common.{subst, ◌∙◌, arith}
use Rattle.std.specs.Prelude.{Option, Some, None, IfSome, IsSome, not, unwrap_or, ◌==◌, ◌||◌, ◌↔◌}
use Rattle.std.specs.List.{AllByRecursion}
use Rattle.std.specs.Option.{option_map, option_map_or, option_to_list}
use Rattle.std.proofs.lemmas.Bool.{eqb-true}
use Rattle.master_core.specs.cleaner.declared.pass.Pass.{Pass}
use Rattle.entry.specs.declared.entry.Entry.{Entry}
use Rattle.entry.specs.Bag.{IsAmong}
use Rattle.entry.proofs.BagLemmas.{among_left, among_right, among_either, among_push, among_last}
use Rattle.images.specs.Image.{Image}
use Rattle.images.specs.Sorted.{segment_of}
use Rattle.master_core.specs.compactor.Kept.{has_id}
use Rattle.master_core.specs.compactor.Places.{IsAtPlace}
use Rattle.log_head.specs.declared.head.Roll.{Roll}
use Rattle.log_head.specs.Log.{head_of, start_of}
use Rattle.log_head.specs.log_laws.Heads.{Start, ids_of}
use Rattle.log_head.specs.log_laws.Ids.{has}
use Rattle.master_core.specs.log_laws.Memory.{new_ids}
use Rattle.master_core.proofs.log_laws.CommitDigest.{all_in, all_out}
use Rattle.master_core.proofs.log_laws.KeptEntries.{has_is, is_has}
use Rattle.master_core.specs.log_laws.Data.{Head as FailHead, Mode, Mends, new_of, is_failing}
use Rattle.master_core.specs.log_laws.Steps.{ids_now}
use Rattle.master_core.specs.log_memory.Memory.{log_ids}
use Rattle.master_core.proofs.log_memory.Ids.{now_none, ids_out, in_digest, in_survivors, new_in, new_one}
use Rattle.places.specs.declared.place.Place.{Place}
use Rattle.master_core.specs.master_state.Budget.{survivors_of}
use Rattle.master_core.specs.master_state.declared.failover.Failover.{Failover}
use Rattle.master_core.specs.master_state.declared.failover.Part.{Part}
use Rattle.master_core.specs.master_state.declared.failover.Part.TheVariants as part
use Rattle.master_core.specs.master_state.Data.{MasterData}
use Rattle.master_core.specs.master_state.Images.{new_image_or}
use Rattle.master_core.specs.master_state.Invariant.{IsOpenPass, IsCore}
use Rattle.master_core.specs.master_state.Log.{is_opened, is_headless, calm_mode, new_start, failing_mode, mode_of}
use Rattle.master_core.specs.master_state.Log.{log_of}
use Rattle.master_core.specs.master_state.Log.{image_of, images_of, memory_of, log_set_ids}
use Rattle.master_core.proofs.master_state.Imaging.{same_id, ids_in}
use Rattle.master.specs.Valid.{IsGivenUp}
use Rattle.master.proofs.InForce.{headed_or, start_real, now_headed, now_headless, roll_id, failover_of, new_headed}
use Rattle.master.proofs.InForce.{new_now, new_unopened, force_headed, force_headless, never_fails, open_or, headed}

-- ---- lists

-- an image is there exactly if its id is
closed_has : (cs : List Image) (s : ℕ) → IsAmong s (ids_in cs) → IsSome (segment_of cs s)
closed_has [] s among = absurd among
closed_has (c ∷ cs) s (inl same) =
    let test : (c.id == s) ≡ true = ap (λ (z : ℕ). c.id == z) (sym same) ∙ same_id c.id in rw test refl
closed_has (c ∷ cs) s (inr later) = go (c.id == s) refl (closed_has cs s later) where
  go : (t : Bool) → (c.id == s) ≡ t → IsSome (segment_of cs s) → IsSome (segment_of (c ∷ cs) s)
  go true test has = rw test refl
  go false test has = rw test has

has_closed : (cs : List Image) (s : ℕ) → IsSome (segment_of cs s) → IsAmong s (ids_in cs)
has_closed [] s is = absurd (cc)
has_closed (c ∷ cs) s is = go (c.id == s) refl (has_closed cs s) is where
  go : (t : Bool) → (c.id == s) ≡ t → (IsSome (segment_of cs s) → IsAmong s (ids_in cs))
      → IsSome (segment_of (c ∷ cs) s)
      → IsAmong s (ids_in (c ∷ cs))
  go true here later is = inl (eqb-true c.id s here)
  go false away later is = inr (later (rw away at is))

pub agree : (a b : Bool) → (a ≡ true → b ≡ true) → (b ≡ true → a ≡ true) → a ≡ b
agree true b to from = sym (to refl)
agree false true to from = from refl
agree false false to from = refl

pub has_same : (ids : List ℕ) (s : ℕ) → has ids s ≡ has_id ids s
has_same [] s = refl
has_same (z ∷ ids) s = ap (λ (b : Bool). (z == s) || b) (has_same ids s)

-- lists with the same ids
pub has_both : (ids set : List ℕ) (s : ℕ) → (IsAmong s ids → IsAmong s set) → (IsAmong s set → IsAmong s ids)
    → has ids s ≡ has_id set s
has_both ids set s to from =
    agree (has ids s) (has set s) (λ is. has_is set s (to (is_has ids s is)))
    (λ is. has_is ids s (from (is_has set s is)))
    ∙ has_same set s

-- ---- the log set

-- an entry that is at a place is in the image
pub among_at_place : (d : MasterData) (p : Place) (e : Entry) → IsAtPlace (images_of d) p e
    → IsAmong e (images_of d p.segment)
among_at_place d p e there =
    subst (λ (es : List Entry). IsAmong e es) (sym there.split)
    (among_right e there.before (e ∷ there.after) (inl refl))

module _ (d : MasterData) (core : IsCore d) (s : ℕ) where
  abbrev log_set : List ℕ
  log_set = log_ids (log_of d) (memory_of d)

  -- the closed segments are those in force with the survivor
  closed_out : IsAmong s (ids_in d.closed) → IsAmong s (head_of d.head).start.others ⊎ IsAmong s (survivors_of d.pass)
  closed_out c = all_out (survivors_of d.pass) (head_of d.head).start.others s
      (subst (λ (ids : List ℕ). IsAmong s ids) core.closed c)

  pub closed_in : IsAmong s (head_of d.head).start.others ⊎ IsAmong s (survivors_of d.pass)
      → IsAmong s (ids_in d.closed)
  closed_in c = subst (λ (ids : List ℕ). IsAmong s ids) (sym core.closed)
      (all_in (survivors_of d.pass) (head_of d.head).start.others s c)

  -- ---- before a head is in force

  turn_first : (f : Failover) → f.is_first ≡ true → new_start d.head f ≡ (head_of d.head).start
  turn_first f is = rw is refl

  -- the first head is the new one, unless a failure has kept it from being open
  new_headless : is_headless d ≡ true
      → (new_of (log_of d).mode ≡ Some (head_of d.head).start) ⊎ ((log_of d).mode ≡ Mends)
  new_headless none = by_failover d.failover refl where
    Either : Mode → Type 0
    Either m = (new_of m ≡ Some (head_of d.head).start) ⊎ (m ≡ Mends)

    first_of : (f : Failover) → d.failover ≡ Some f → f.is_first ≡ true
    first_of f some =
        sym (ap (λ (o : Option Failover). option_map_or (λ (g : Failover). g.is_first) o (not (is_opened d.head))) some)
        ∙ none

    by_part : (f : Failover) → d.failover ≡ Some f → (p : Part) → f.part ≡ p
        → (new_of (failing_mode d.head f) ≡ Some (head_of d.head).start) ⊎ (failing_mode d.head f ≡ Mends)
    by_part f some part.Mends is = rw is (inr refl)
    by_part f some part.Opens is =
        rw is (inl (ap (λ (n : Start). Some n) (turn_first f (first_of f some))))
    by_part f some part.Closes is =
        absurd (let both : true ≡ false = sym (first_of f some) ∙ ((failover_of d core f some).closes is).0 in cc)
    by_part f some part.Repairs is =
        absurd (let both : true ≡ false = sym (first_of f some) ∙ ((failover_of d core f some).repairs is).0 in cc)

    calm : d.failover ≡ None → (is_opened d.head ≡ true) ⊎ (is_opened d.head ≡ false) → Either (mode_of d)
    calm off (inl opened) = absurd (let both : false ≡ true = sym (headed d off opened) ∙ none in cc)
    calm off (inr unopened) = inl (new_unopened d off unopened)

    by_failover : (o : Option Failover) → d.failover ≡ o → Either (mode_of d)
    by_failover None off = calm off (open_or d.head)
    by_failover (Some f) some =
        subst (λ (o : Option Failover). Either (option_map_or (failing_mode d.head) o (calm_mode d.head))) (sym some)
        (by_part f some f.part refl)

  -- it lists the ids of the digest in force, and else the first head alone
  listed : is_headless d ≡ false → IsAmong s (ids_of (head_of d.head).start)
      → IsAmong s (log_ids (log_of d) (memory_of d))
  listed in_force i =
      in_digest (log_of d) (memory_of d) s
      (subst (λ (ids : List ℕ). IsAmong s ids) (sym (now_headed d core in_force)) i)

  pub of_closed : IsAmong s (ids_in d.closed) → IsAmong s (log_ids (log_of d) (memory_of d))
  of_closed c = elim (closed_out c) as (λ _. IsAmong s log_set) [
    | inl older ↦ elim (headed_or d) as (λ _. IsAmong s log_set) [
      | inl is ↦ listed is (among_left s (head_of d.head).start.others ((head_of d.head).start.id ∷ []) older)
      | inr none ↦ absurd (subst (λ (ids : List ℕ). IsAmong s ids) (core.first none).others older)
    ]
    | inr survivor ↦ in_survivors (log_of d) (memory_of d) s survivor
  ]

  -- the head is of it too, unless it was given up
  pub of_head : s ≡ d.head.id → IsAmong s (log_ids (log_of d) (memory_of d)) ⊎ IsGivenUp d s
  of_head own =
      let same : (head_of d.head).start.id ≡ s = core.image.id ∙ sym own in
      elim (headed_or d) as (λ _. IsAmong s log_set ⊎ IsGivenUp d s) [
        | inl is ↦ inl (listed is (subst (λ (z : ℕ). IsAmong z (ids_of (head_of d.head).start)) same
            (among_last (head_of d.head).start.others (head_of d.head).start.id)))
        | inr none ↦ elim (new_headless none) as (λ _. IsAmong s log_set ⊎ IsGivenUp d s) [
          | inl new ↦ inl (subst (λ (z : ℕ). IsAmong z log_set) same
              (new_in (log_of d) (memory_of d) (head_of d.head).start new))
          | inr mends ↦ inr (mends, ap (λ (h : FailHead). h.start.id) (force_headless d none), own)
        ]
      ]

  -- while no failover is open nothing is given up
  none_given_up : d.failover ≡ None → IsGivenUp d s → ⊥
  none_given_up calm lost =
      let both : true ≡ false = sym (ap is_failing lost.0) ∙ never_fails d calm in
      cc

  -- no pass is open before a head is
  survivors_none : is_headless d ≡ true → survivors_of d.pass ≡ []
  survivors_none unopened = go d.pass core.pass where
    none : (head_of d.head).start.others ≡ []
    none = (core.first unopened).others

    no_victims : (victims : List ℕ) → 0 < length victims
        → AllByRecursion (λ (z : ℕ). has (head_of d.head).start.others z ≡ true) victims → ⊥
    no_victims [] some older = omega (arith, some)
    no_victims (z ∷ victims) some older =
        let never : false ≡ true = sym (ap (λ (ids : List ℕ). has ids z) none) ∙ older.0 in
        cc

    go : (o : Option Pass) → IfSome o (IsOpenPass d) → survivors_of o ≡ []
    go None is = refl
    go (Some p) is = absurd (no_victims p.victims is.victims.some is.victims.older)

  -- if the head was given up, the log set has nothing
  pub given_up_none : IsGivenUp d s → log_ids (log_of d) (memory_of d) ≡ []
  given_up_none lost = λ i. now_none (log_of d).head.start lost.1 i
      ++ (new_ids (new_of (lost.0 i)) ++ survivors_none unopened i)
    where
      unopened : is_headless d ≡ true
      unopened = elim (headed_or d) as (λ _. is_headless d ≡ true) [
        | inl is ↦ absurd (start_real d core
            (sym (ap (λ (h : FailHead). h.start.id) (force_headed d is)) ∙ lost.1))
        | inr none ↦ none
      ]

  -- a segment of the digest of the head
  pub of_digest : d.failover ≡ None → IsAmong s (ids_of (head_of d.head).start)
      → IsAmong s (log_ids (log_of d) (memory_of d))
  of_digest calm i = elim (among_push s (head_of d.head).start.others (head_of d.head).start.id i)
      as (λ _. IsAmong s log_set) [
        | inl older ↦ of_closed (closed_in (inl older))
        | inr own ↦ elim (of_head (sym own ∙ core.image.id)) as (λ _. IsAmong s log_set) [
          | inl there ↦ there
          | inr lost ↦ absurd (none_given_up calm lost)
        ]
      ]

  pub of_new : (r : Roll) → d.head.roll ≡ Some r → s ≡ r.id → IsAmong s (log_ids (log_of d) (memory_of d))
  of_new r rolls own =
      subst (λ (z : ℕ). IsAmong z log_set) (roll_id r ∙ sym own)
      (new_in (log_of d) (memory_of d) (start_of r) (new_now d core r rolls))

  -- which segment of the log set it is
  abbrev Which : Type 0
  Which = IsAmong s (ids_in d.closed) ⊎ ((s ≡ d.head.id) ⊎ ((r : Roll) × (d.head.roll ≡ Some r) × (s ≡ r.id)))

  which_listed : IsAmong s (ids_now (log_of d).head.start) → Which
  which_listed i = elim (headed_or d) as (λ _. Which) [
    | inl is ↦ elim (among_push s (head_of d.head).start.others (head_of d.head).start.id
        (subst (λ (ids : List ℕ). IsAmong s ids) (now_headed d core is) i)) as (λ _. Which) [
          | inl older ↦ inl (closed_in (inl older))
          | inr own ↦ inr (inl (sym own ∙ core.image.id))
        ]
    | inr none ↦ absurd (subst (λ (ids : List ℕ). IsAmong s ids) (now_headless d core none) i)
  ]

  out_roll : (o : Option Roll) → d.head.roll ≡ o → IsAmong s (new_ids (option_map start_of o)) → (r : Roll)
      × (d.head.roll ≡ Some r) × (s ≡ r.id)
  out_roll None none i = absurd i
  out_roll (Some r) rolls (inl same) = (r, rolls, sym same ∙ roll_id r)
  out_roll (Some r) rolls (inr none) = absurd none

  which_new : IsAmong s (new_ids (new_of (log_of d).mode)) → Which
  which_new i = elim (headed_or d) as (λ _. Which) [
    | inl is ↦ inr (inr (out_roll d.head.roll refl
        (subst (λ (o : Option Start). IsAmong s (new_ids o)) (new_headed d core is) i)))
    | inr none ↦ elim (new_headless none) as (λ _. Which) [
      | inl new ↦ inr (inl (sym (new_one (new_of (log_of d).mode) (head_of d.head).start s new i) ∙ core.image.id))
      | inr mends ↦ absurd (subst (λ (m : Mode). IsAmong s (new_ids (new_of m))) mends i)
    ]
  ]

  which : IsAmong s (log_ids (log_of d) (memory_of d)) → Which
  which i = elim (ids_out (log_of d) (memory_of d) s i) as (λ _. Which) [
    | inl in_force ↦ which_listed in_force
    | inr other ↦ elim other as (λ _. Which) [
      | inl new ↦ which_new new
      | inr survivor ↦ inl (closed_in (inr survivor))
    ]
  ]

  abbrev Counts : Type 0
  Counts = IsAmong s (log_ids (log_of d) (memory_of d)) ⊎ IsGivenUp d s

  of_which : Which → Counts
  of_which (inl closed) = inl (of_closed closed)
  of_which (inr (inl own)) = of_head own
  of_which (inr (inr new)) = inl (of_new new.0 new.1 new.2)

  -- ---- as the master lists it

  abbrev new_set : Option Roll → List ℕ
  new_set o = option_to_list (option_map (λ (r : Roll). r.id) o)

  set_new : (o : Option Roll) → IsAmong s (new_set o) → (r : Roll) × (o ≡ Some r) × (s ≡ r.id)
  set_new None i = absurd i
  set_new (Some r) (inl same) = (r, refl, sym same)
  set_new (Some r) (inr none) = absurd none

  to_set : IsAmong s (log_ids (log_of d) (memory_of d)) → IsAmong s (log_set_ids d)
  to_set i = elim (which i) as (λ _. IsAmong s (log_set_ids d)) [
    | inl closed ↦ among_left s (ids_in d.closed) (d.head.id ∷ new_set d.head.roll) closed
    | inr other ↦ among_right s (ids_in d.closed) (d.head.id ∷ new_set d.head.roll)
        (elim other as (λ _. IsAmong s (d.head.id ∷ new_set d.head.roll)) [
          | inl own ↦ inl (sym own)
          | inr new ↦ inr (subst (λ (o : Option Roll). IsAmong s (new_set o)) (sym new.1) (inl (sym new.2)))
        ])
  ]

  from_set : d.failover ≡ None → IsAmong s (log_set_ids d) → IsAmong s (log_ids (log_of d) (memory_of d))
  from_set calm i = elim (among_either s (ids_in d.closed) (d.head.id ∷ new_set d.head.roll) i)
      as (λ _. IsAmong s log_set) [
        | inl closed ↦ of_closed closed
        | inr other ↦ elim other as (λ _. IsAmong s log_set) [
          | inl own ↦ elim (of_head (sym own)) as (λ _. IsAmong s log_set) [
            | inl there ↦ there
            | inr lost ↦ absurd (none_given_up calm lost)
          ]
          | inr new ↦ (let r = set_new d.head.roll new in of_new r.0 r.1 r.2)
        ]
      ]

  pub same_set : d.failover ≡ None → has (log_ids (log_of d) (memory_of d)) s ≡ has_id (log_set_ids d) s
  same_set calm = has_both log_set (log_set_ids d) s to_set (from_set calm)

  -- ---- images

  -- a segment that has an image is of the log set
  with_image : IsSome (image_of d s) → Which
  with_image some = by_head (d.head.id == s) refl some
    where
      by_roll : (o : Option Roll) → d.head.roll ≡ o → IsSome (new_image_or o s (segment_of d.closed s)) → Which
      by_roll None same some = inl (has_closed d.closed s some)
      by_roll (Some r) same some = go (r.id == s) refl some
        where
          go : (t : Bool) → (r.id == s) ≡ t → IsSome (new_image_or (Some r) s (segment_of d.closed s)) → Which
          go true here some = inr (inr (r, same, sym (eqb-true r.id s here)))
          go false away some = inl (has_closed d.closed s (rw away at some))

      by_head : (t : Bool) → (d.head.id == s) ≡ t → IsSome (image_of d s) → Which
      by_head true here some = inr (inl (sym (eqb-true d.head.id s here)))
      by_head false away some = by_roll d.head.roll refl (rw away at some)

  -- and each such segment has one
  new_or : (o : Option Roll) → IsSome (segment_of d.closed s) → IsSome (new_image_or o s (segment_of d.closed s))
  new_or None some = some
  new_or (Some r) some = go (r.id == s) refl where
    go : (t : Bool) → (r.id == s) ≡ t → IsSome (new_image_or (Some r) s (segment_of d.closed s))
    go true test = rw test refl
    go false test = rw test some

  new_own : (o : Option Roll) (r : Roll) → o ≡ Some r → s ≡ r.id → IsSome (new_image_or o s (segment_of d.closed s))
  new_own o r rolls own =
      subst (λ (q : Option Roll). IsSome (new_image_or q s (segment_of d.closed s))) (sym rolls)
      (let test : (r.id == s) ≡ true = ap (λ (z : ℕ). r.id == z) own ∙ same_id r.id in rw test refl)

  unless_head : IsSome (new_image_or d.head.roll s (segment_of d.closed s)) → IsSome (image_of d s)
  unless_head some = go (d.head.id == s) refl where
    go : (t : Bool) → (d.head.id == s) ≡ t → IsSome (image_of d s)
    go true test = rw test refl
    go false test = rw test some

  has_image : Which → IsSome (image_of d s)
  has_image (inl closed) = unless_head (new_or d.head.roll (closed_has d.closed s closed))
  has_image (inr (inl own)) = let test : (d.head.id == s) ≡ true = ap (λ (z : ℕ). d.head.id == z) own
      ∙ same_id d.head.id in rw test refl
  has_image (inr (inr new)) = unless_head (new_own d.head.roll new.0 new.1 new.2)

  pub imaged : IsSome (image_of d s) ↔ (IsAmong s (log_ids (log_of d) (memory_of d)) ⊎ IsGivenUp d s)
  imaged = (λ some. of_which (with_image some), back) where
    back : Counts → IsSome (image_of d s)
    back (inl i) = has_image (which i)
    back (inr lost) = has_image (inr (inl lost.2))

  -- each segment of the log set has an image
  pub counts_imaged : IsAmong s (log_ids (log_of d) (memory_of d)) → IsSome (image_of d s)
  counts_imaged i = has_image (which i)

-- a segment whose image has an entry has an image
pub entry_imaged : (d : MasterData) (s : ℕ) (e : Entry) → IsAmong e (images_of d s) → IsSome (image_of d s)
entry_imaged d s e among = go (image_of d s) among where
  go : (x : Option (List Entry)) → IsAmong e (unwrap_or x []) → IsSome x
  go None among = absurd among
  go (Some image) among = refl
