-- A core stays valid when a roll begins: an ordinary roll, or the commit of a pass that is ready.
use Rattle.std.proofs.Common.{◌≡◌, ◌⊎◌, inl, inr, ℕ, zero, suc, ◌+◌, ◌-◌, ◌<◌, ◌≤◌, Bool, true, false, List, [], ◌∷◌}
use Rattle.std.proofs.Common.{length, refl, sym, ap, subst, ◌∙◌, arith}
use Rattle.std.specs.Prelude.{if◌then◌else◌}
use Rattle.std.specs.Prelude.{Option, Some, None, IfSome, IsSome, is_some, nat_le, ◌==◌, ◌*◌, ◌||◌, ◌&&◌}
use Rattle.std.specs.Option.{option_map, option_map_or}
use Rattle.std.proofs.Math.Nat.{mul-div-le}
use Rattle.std.proofs.lemmas.Bool.{and_parts, eqb-true, leb-true}
use Rattle.std.proofs.lemmas.List.{length-append}
use Rattle.cleaner.specs.declared.pass.Pass.{Pass}
use Rattle.cleaner.specs.Passes.{is_ready as is_ready_pass}
use Rattle.entry.specs.Text.{text_of}
use Rattle.images.proofs.Counts.{within_whole}
use Rattle.log_head.specs.declared.head.Roll.{Roll}
use Rattle.log_head.specs.Head.{IsHeadValue, digest_of}
use Rattle.log_head.specs.Steps.{with_roll}
use Rattle.log_head.specs.log_laws.Ids.{all_inserted, without}
use Rattle.log_head.proofs.log_laws.ListedIds.{ids_listed}
use Rattle.master_state.specs.declared.failover.Failover.{Failover}
use Rattle.master_state.specs.Budget.{newest_digest, most_segments, whole_seglets, seglets_of, head_seglets}
use Rattle.master_state.specs.Budget.{used_seglets, free_seglets}
use Rattle.master_state.specs.Budget.{victims_of, survivors_of, is_ready, has_space, commit_listed, may_commit}
use Rattle.master_state.specs.Budget.{may_roll}
use Rattle.master_state.specs.Budget.{segments_taken, segments_entering, segments_leaving}
use Rattle.master_state.specs.Causes.{roll_refusal}
use Rattle.master_state.specs.Data.{MasterData}
use Rattle.master_state.specs.Invariant.{IsOpenPass, IsSpare, IsCore, AreTallied}
use Rattle.master_state.specs.Steps.{start_now}
use Rattle.master_state.proofs.Calm.{no_failover}
use Rattle.master_rolls.proofs.NewRolls.{rolls_to, pass_then, roll_core, tallied_then}
use Rattle.master_rolls.proofs.NextIds.{next_ids, next_listed, start_id, start_has, start_others, count_none}
use Rattle.master_rolls.proofs.NextIds.{count_commit}
use Rattle.master_state.proofs.LogIds.{open_of}
use Rattle.master_state.proofs.Refusals.{MayBeginRoll, may_begin, open_parts, sizes_of}
use Rattle.tally.specs.declared.tallies.Tally.{Tally}

-- ---- the next head

-- the other ids that it lists
abbrev pub new_ids : MasterData → List ℕ
new_ids d = next_ids d d.pass (is_ready d)

abbrev pub pass_now : MasterData → Option Pass
pass_now d =
    option_map (λ (p : Pass). record p { is_committing = is_ready_pass d.config.replicas d.closed p }) d.pass

-- what a core is then, before the roll is posted
abbrev pub unposted : MasterData → MasterData
unposted d = record d {
  head = with_roll d.head d.config.master (start_now d);
  next = d.next + 1;
  pass = pass_now d;
}

pub pass_marked : (d : MasterData) (b : Bool) → is_ready d ≡ b
    → option_map (λ (p : Pass). record p { is_committing = b }) d.pass ≡ pass_now d
pass_marked d b is = go d.pass is where
  go : (o : Option Pass) → option_map_or (is_ready_pass d.config.replicas d.closed) o false ≡ b
      → option_map (λ (p : Pass). record p { is_committing = b }) o
      ≡ option_map (λ (p : Pass). record p { is_committing = is_ready_pass d.config.replicas d.closed p }) o
  go None test = refl
  go (Some p) test = ap (λ (t : Bool). Some (record p { is_committing = t })) (sym test)

-- the pass keeps its survivors
pub survivors_same : (d : MasterData) → survivors_of (pass_now d) ≡ survivors_of d.pass
survivors_same d = go d.pass where
  go : (o : Option Pass) → survivors_of (option_map (λ (p : Pass). record p
      { is_committing = is_ready_pass d.config.replicas d.closed p }) o) ≡ survivors_of o
  go None = refl
  go (Some p) = refl

-- the room that is taken for victims is that of the pass
pub room_marked : (o : Option Pass) (b : Bool) (vs : List ℕ) (n room : ℕ) → vs ≡ (if b then victims_of o else [])
    → n + length vs ≤ room
    → IfSome (option_map (λ (p : Pass). record p { is_committing = b }) o)
    (λ (p : Pass). p.is_committing ≡ true → n + length p.victims ≤ room)
room_marked None b vs n room is enough = tt
room_marked (Some p) true vs n room is enough = λ commits. (let same = ap length is in omega arith)
room_marked (Some p) false vs n room is enough = λ commits. absurd (cc)

-- ---- what the tests leave

-- The pass that is open is ready, and its commit may begin.
pub record HasReady (d : MasterData) : Type 0 where
  pub pass : Pass
  pub opened : d.pass ≡ Some pass
  pub ready : is_ready_pass d.config.replicas d.closed pass ≡ true
  pub test : is_ready d ≡ true
  pub rule : may_commit d ≡ true

-- No pass is ready, and the rule lets the roll begin.
pub record HasSpace (d : MasterData) : Type 0 where
  pub test : is_ready d ≡ false
  pub most : length (newest_digest d.head) + 1 ≤ most_segments d.config
  pub left : length (newest_digest d.head) + 1 ≤ most_segments d.config - 1 - segments_entering d + segments_leaving d
  pub free : (2 - segments_taken d) * whole_seglets d.config + seglets_of d.config d.head.image ≤ free_seglets d

ready_or_space : (d : MasterData) → roll_refusal d ≡ None → HasReady d ⊎ HasSpace d
ready_or_space d passed = by_pass d.pass refl (is_ready d) refl where
  rule : may_roll d 2 ≡ true
  rule = (may_begin d passed).rule

  space : is_ready d ≡ false → HasSpace d
  space is =
      let test : has_space d 2 ≡ true = ap (λ (b : Bool). if b then may_commit d else has_space d 2) (sym is) ∙ rule in
      let all = and_parts _ _ test in
      let counts = and_parts _ _ all.0 in
      record { test = is; most = leb-true _ _ counts.0; left = leb-true _ _ counts.1; free = leb-true _ _ all.1 }

  by_pass : (o : Option Pass) → d.pass ≡ o → (t : Bool) → is_ready d ≡ t → HasReady d ⊎ HasSpace d
  by_pass o same false is = inr (space is)
  by_pass None same true is =
      let never : false ≡ true = sym (ap (λ (o : Option Pass). option_map_or
      (is_ready_pass d.config.replicas d.closed) o false) same) ∙ is in
      absurd (cc)
  by_pass (Some p) same true is = inl (record {
    pass = p;
    opened = same;
    ready = sym (ap (λ (o : Option Pass). option_map_or (is_ready_pass d.config.replicas d.closed) o false) same) ∙ is;
    test = is;
    rule = ap (λ (b : Bool). if b then may_commit d else has_space d 2) (sym is) ∙ rule;
  })

module _ (d : MasterData) (core : IsCore d) (passed : roll_refusal d ≡ None) where
  abbrev may : MayBeginRoll d
  may = may_begin d passed

  pub none : d.head.roll ≡ None
  none = (open_parts d.head may.opened).1

  newest : length (newest_digest d.head) ≡ length (digest_of d.head.image)
  newest = ap (λ (o : Option Roll). length (option_map_or (λ (r : Roll). digest_of r.image) o
      (digest_of d.head.image))) none

  counted : head_seglets d ≡ whole_seglets d.config
  counted = λ i. if is_some (none i) || option_map_or (λ (f : Failover). is_some f.abandoned) (may.calm i) false
      then seglets_of d.config d.head.image + whole_seglets d.config else whole_seglets d.config

  -- the head has at most a whole segment's seglets
  head_small : seglets_of d.config d.head.image ≤ whole_seglets d.config
  head_small =
      let sizes = sizes_of d.config core.config in
      let least = sizes.least_seglet in
      within_whole d.config.segment d.config.seglet (length (text_of d.head.image))
      (omega arith) sizes.multiple core.within

  -- a pass that is open keeps a whole segment free while no backup has failed, since no commit is under way
  spare_of : (p : Pass) → IsOpenPass d p → d.failed ≡ [] → IsSpare d (length p.victims) p.survivors.count
  spare_of p opens whole = go p.is_committing refl where
    go : (t : Bool) → p.is_committing ≡ t → IsSpare d (length p.victims) p.survivors.count
    go true is = (let some = (opens.commits is).0 in let never : IsSome {T = Roll} None = subst IsSome none
        some in absurd (cc))
    go false is = opens.spare whole is

  -- what the rule of a commit leaves: under format 1 no backup has failed
  commit_room : (p : Pass) → d.pass ≡ Some p → IsOpenPass d p → may_commit d ≡ true
      → (length (digest_of d.head.image) + p.survivors.count + 1 ≤ most_segments d.config + length p.victims)
      × (seglets_of d.config d.head.image ≤ free_seglets d)
  commit_room p is opens rule = by_format (d.config.format == 1) refl where
    none_failed : (d.config.format == 1) ≡ true → d.failed ≡ []
    none_failed test = go d.failed refl where
      go : (bs : List ℕ) → d.failed ≡ bs → d.failed ≡ []
      go [] same = same
      go (b ∷ bs) same =
          let two : d.config.format ≡ 2 = core.failed.two (λ empty.
          (let never : b ∷ bs ≡ [] = sym same ∙ empty in cc)) in
          let one : d.config.format ≡ 1 = eqb-true d.config.format 1 test in
          absurd (omega arith)

    by_format : (t : Bool) → (d.config.format == 1) ≡ t
        → (length (digest_of d.head.image) + p.survivors.count + 1 ≤ most_segments d.config + length p.victims)
        × (seglets_of d.config d.head.image ≤ free_seglets d)
    by_format true test =
        let spare = spare_of p opens (none_failed test) in
        let listed = spare.listed in
        let free = spare.free in
        let same = newest in
        let small = head_small in
        (omega arith, omega arith)
    by_format false test =
        let both = and_parts _ _ (ap (λ (b : Bool). b || nat_le (commit_listed d) (most_segments d.config)
        && nat_le (seglets_of d.config d.head.image) (free_seglets d)) (sym test) ∙ rule) in
        let few = leb-true (commit_listed d) (most_segments d.config) both.0 in
        let leaving : segments_leaving d ≡ length p.victims =
        ap (λ (o : Option Pass). option_map_or (λ (q : Pass). length q.victims) o 1) is in
        let entering : segments_entering d ≡ p.survivors.count =
        ap (λ (o : Option Pass). option_map_or (λ (q : Pass). q.survivors.count) o 1) is in
        (omega arith, leb-true (seglets_of d.config d.head.image) (free_seglets d) both.1)

  -- ---- how many ids the next head lists

  few_of : HasReady d ⊎ HasSpace d → length (new_ids d) + 1 ≤ most_segments d.config
  few_of (inl is) =
      let test = is.test in
      let opens = open_of d core is.pass is.opened in
      let count = count_commit d core is.pass opens in
      let room = (commit_room is.pass is.opened opens is.rule).0 in
      rw test (subst (λ (o : Option Pass). length (all_inserted (survivors_of o)
      (without (victims_of o) (digest_of d.head.image))) + 1
      ≤ most_segments d.config) (sym is.opened) (omega arith))
  few_of (inr is) = (let test = is.test in let most = is.most in let same = newest in let all = count_none d core in
      rw test (omega arith))

  pub new_few : length (new_ids d) + 1 ≤ most_segments d.config
  new_few = few_of (ready_or_space d passed)

  pub new_count : length (new_ids d) < 262144
  new_count =
      let few = new_few in
      let most = (sizes_of d.config core.config).most_segment in
      let parts = mul-div-le d.config.segment 32 in
      omega arith

  -- ---- the core then

  abbrev e : MasterData
  e = rolls_to d (start_now d) 0 (pass_now d) d.failover d.ledger

  taken_few : segments_taken d ≤ 1
  taken_few = go d.pass where
    go : (o : Option Pass) → option_map_or (λ (p : Pass). 1) o 0 ≤ 1
    go None = omega arith
    go (Some p) = omega arith

  budget_of : HasReady d ⊎ HasSpace d → used_seglets e ≤ d.config.seglets
  budget_of (inl is) =
      let free = (commit_room is.pass is.opened (open_of d core is.pass is.opened) is.rule).1 in
      let own = counted in
      let budget = core.budget in
      omega arith
  budget_of (inr is) = at_least (segments_taken d) taken_few is.free where
    at_least : (n : ℕ) → n ≤ 1 → (2 - n) * whole_seglets d.config + seglets_of d.config d.head.image ≤ free_seglets d
        → used_seglets e ≤ d.config.seglets
    at_least n le free =
        let own = counted in
        let budget = core.budget in
        let one : whole_seglets d.config ≤ (2 - n) * whole_seglets d.config =
        product (2 - n) (whole_seglets d.config) (omega arith) in
        omega arith
      where
        product : (m w : ℕ) → 1 ≤ m → w ≤ m * w
        product zero w le = absurd (omega arith)
        product (suc m) w le = omega arith

  -- what an ordinary roll leaves for the open pass
  spare_then : (p : Pass) → d.pass ≡ Some p → HasSpace d → IsSpare e (length p.victims) p.survivors.count
  spare_then p is s =
      let own = counted in
      let budget = core.budget in
      let same = newest in
      let ids : (start_now d).others ≡ without [] (digest_of d.head.image) =
      start_others d (is_ready d) ∙ ap (next_ids d d.pass) s.test in
      let all : length (start_now d).others ≡ length (digest_of d.head.image) =
      ap length ids ∙ count_none d core in
      let one : segments_taken d ≡ 1 = ap (λ (o : Option Pass). option_map_or (λ (q : Pass). 1) o 0) is in
      let leaving : segments_leaving d ≡ length p.victims =
      ap (λ (o : Option Pass). option_map_or (λ (q : Pass). length q.victims) o 1) is in
      let entering : segments_entering d ≡ p.survivors.count =
      ap (λ (o : Option Pass). option_map_or (λ (q : Pass). q.survivors.count) o 1) is in
      let few = (open_of d core p is).survivors.few in
      let product : (2 - segments_taken d) * whole_seglets d.config ≡ whole_seglets d.config =
      ap (λ (n : ℕ). (2 - n) * whole_seglets d.config) one ∙ omega arith in
      let free = s.free in
      let left = s.left in
      let count = ap length (ids_listed (start_now d))
      ∙ length-append (start_now d).others ((start_now d).id ∷ []) in
      let least = (sizes_of d.config core.config).least_segment in
      let most : 16 ≤ most_segments d.config = omega arith in
      record { free = omega arith; listed = omega arith }

  module _ (valid : IsHeadValue (with_roll d.head d.config.master (start_now d))) where
    pass_of : (o : Option Pass) → d.pass ≡ o → HasReady d ⊎ HasSpace d
        → IfSome (option_map (λ (p : Pass). record p
        { is_committing = is_ready_pass d.config.replicas d.closed p }) o)
        (IsOpenPass e)
    pass_of None is cases = tt
    pass_of (Some p) is cases =
        pass_then d core (start_now d) (start_id d (is_ready d)) (start_has d (is_ready d)) 0 (pass_now d) d.failover
        d.ledger none valid p (is_ready_pass d.config.replicas d.closed p) (open_of d core p is)
        (λ whole not. spares cases not) (λ ready. ready)
      where
        readiness : is_ready d ≡ is_ready_pass d.config.replicas d.closed p
        readiness = ap (λ (o : Option Pass). option_map_or (is_ready_pass d.config.replicas d.closed) o false) is

        spares : HasReady d ⊎ HasSpace d → is_ready_pass d.config.replicas d.closed p ≡ false
            → IsSpare e (length p.victims) p.survivors.count
        spares (inl s) not = (let never : true ≡ false = sym s.test ∙ readiness ∙ not in absurd (cc))
        spares (inr s) not = spare_then p is s

    pub rolled_core : IsCore (unposted d)
    rolled_core =
        let cases = ready_or_space d passed in
        let ids = ap length (start_others d (is_ready d)) in
        let few = new_few in
        roll_core d core (start_now d) (start_id d (is_ready d)) (start_has d (is_ready d)) 0 (pass_now d) d.failover
        d.ledger none valid may.ids (start_others d (is_ready d) ∙ next_listed d core d.pass) (survivors_same d)
        (omega arith) (budget_of cases) (pass_of d.pass refl cases) core.first (λ is. is)
        (no_failover d e may.calm)

    pub rolled_tallied : (rows : List Tally) → AreTallied d rows → AreTallied (unposted d) rows
    rolled_tallied =
        tallied_then d core (start_now d) (start_id d (is_ready d)) (start_has d (is_ready d)) 0 (pass_now d) d.failover
        d.ledger none valid
