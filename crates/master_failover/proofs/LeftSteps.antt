-- Each push of an open failover lowers the number of pushes that the failover still needs.
use Rattle.std.proofs.Common.{◌≡◌, ℕ, zero, suc, ◌+◌, ◌-◌, ◌<◌, ◌≤◌, Bool, true, false, List, [], ◌∷◌, ◌++◌, length}
use Rattle.std.proofs.Common.{refl}
use Rattle.std.proofs.Common.{sym, ap, subst, ◌∙◌, arith}
use Rattle.std.specs.Prelude.{if◌then◌else◌}
use Rattle.std.specs.Prelude.{Option, Some, None, is_none, ◌==◌, nat_lt, slice_get, slice_set}
use Rattle.std.specs.Option.{option_map, option_map_or}
use Rattle.std.proofs.lemmas.Bool.{and_parts, eqb-true}
use Rattle.std.proofs.lemmas.List.{length-append, length-set}
use Rattle.std.proofs.lemmas.Option.{same_Some}
use Rattle.master_state.specs.cleaner.declared.pass.Pass.{Pass}
use Rattle.master_state.specs.cleaner.Passes.{survivor_ids, is_at_end, is_ready as is_ready_pass}
use Rattle.master_state.specs.cleaner.Seals.{first_lacking}
use Rattle.master_state.proofs.cleaner.Lacking.{seal_adds_one, none_is_lacking}
use Rattle.entry.specs.Bag.{IsAmong}
use Rattle.images.specs.Image.{Image, closed_image}
use Rattle.images.specs.Sorted.{replicas_of, added, changed}
use Rattle.images.specs.Steps.{more_replicas}
use Rattle.log_head.specs.declared.head.Roll.{Roll}
use Rattle.log_head.specs.Head.{digest_of, IsRollValue}
use Rattle.log_head.specs.Log.{head_of, start_of}
use Rattle.log_head.specs.Steps.{lone_start, fresh_head, in_force}
use Rattle.log_head.proofs.RollLog.{start_is, digest_is}
use Rattle.log_head.proofs.Rolls.{rolls}
use Rattle.log_head.specs.log_laws.Heads.{Start, Head}
use Rattle.log_head.specs.log_laws.Ids.{without}
use Rattle.log_head.specs.declared.next.Next.TheVariants as nexts
use Rattle.master_state.specs.declared.failover.Failover.{Failover}
use Rattle.master_state.specs.declared.failover.Part.TheVariants as part
use Rattle.master_state.specs.declared.ledger.Posting.TheVariants as posting
use Rattle.master_state.specs.Budget.{is_ready}
use Rattle.master_state.specs.Data.{MasterData}
use Rattle.master_state.specs.Invariant.{IsCore, IsFailover}
use Rattle.master_state.specs.Log.{home}
use Rattle.master_state.specs.Steps.{start_now, closed_data}
use Rattle.master_state.proofs.Beginning.{lone_has}
use Rattle.master_state.proofs.Imaging.{same_id, other_id}
use Rattle.master_rolls.specs.Ends.{pass_left, closed_left, waiting_left}
use Rattle.master_rolls.proofs.Closing.{ended_is}
use Rattle.master_rolls.proofs.RollEnds.{head_then}
use Rattle.master_failover.specs.declared.push.Push.TheVariants as push
use Rattle.master_failover.specs.Mending.{IsInPart, IsNextMend, IsNextOpen, was_headless, opened_now, first_lost}
use Rattle.master_failover.specs.Mending.{opening, with_part, turned_data, mended_data, opened_more, raised_data}
use Rattle.master_failover.specs.Mending.{repaired_data, closed_more}
use Rattle.master_failover.specs.Laws.{MendLowers}
use Rattle.master_failover.specs.Left.{count_below, lost_of, others_now, lost_now, unmended, to_close, left_in}
use Rattle.master_failover.specs.Left.{left_now}
use Rattle.master_failover.proofs.Changed.{own}
use Rattle.master_failover.proofs.Counts.{below_here, not_below}
use Rattle.master_failover.proofs.LeftBounds.{left_is}
use Rattle.master_failover.proofs.LeftEnds.{lost_then}
use Rattle.master_failover.proofs.LostCounts.{lost_at, few_lost, lost_less, lost_push, lost_all, lost_without}
use Rattle.master_failover.proofs.Sought.{is_other, held, fewer, older, has_image, no_roll}
use Rattle.master_rolls.proofs.NextIds.{next_ids, start_has, start_others}
use Rattle.master_failover.proofs.TurnedCore.{turned_if, turned_next}

-- ---- counts of replicas that lack some unit

-- one that lacks some gets all
count_set : (u : ℕ) (ns : List ℕ) (j n : ℕ) → slice_get ns j ≡ Some n → n < u
    → suc (count_below u (slice_set ns j u)) ≡ count_below u ns
count_set u [] j n is lt = absurd (cc)
count_set u (m ∷ ms) zero n is lt =
    let same = same_Some m n is in
    let less = below_here u m ms (omega arith) in
    let whole = not_below u u ms (omega arith) in
    omega arith
count_set u (m ∷ ms) (suc j) n is lt = go (nat_lt m u) refl (count_set u ms j n is lt) where
  go : (t : Bool) → nat_lt m u ≡ t → suc (count_below u (slice_set ms j u)) ≡ count_below u ms
      → suc (count_below u (slice_set (m ∷ ms) (suc j) u)) ≡ count_below u (m ∷ ms)
  go true test later = rw test (omega arith)
  go false test later = rw test later

-- one more that has all
count_push : (u : ℕ) (ns : List ℕ) → count_below u (ns ++ u ∷ []) ≡ count_below u ns
count_push u [] = not_below u u [] (omega arith)
count_push u (m ∷ ms) = go (nat_lt m u) refl (count_push u ms) where
  go : (t : Bool) → nat_lt m u ≡ t → count_below u (ms ++ u ∷ []) ≡ count_below u ms
      → count_below u (m ∷ (ms ++ u ∷ [])) ≡ count_below u (m ∷ ms)
  go true test later = rw test (omega arith)
  go false test later = rw test later

unmended_is : (d : MasterData) → was_headless d ≡ false
    → unmended d ≡ count_below (length d.head.units) d.head.taken + (d.config.replicas - length d.head.taken)
unmended_is d test =
    ap (λ (b : Bool). if b then d.config.replicas
    else count_below (length d.head.units) d.head.taken + (d.config.replicas - length d.head.taken)) test

is_none_then : (o : Option (ℕ × ℕ)) → is_none o ≡ true → o ≡ None
is_none_then None test = refl
is_none_then (Some x) test = absurd (cc)

-- ---- each push

-- what is left once a replica was sealed anew, or the old head closed
repaired_left : (d : MasterData) (f : Failover) → d.failover ≡ Some f → f.part ≡ part.Repairs
    → left_now (repaired_data d) ≤ lost_now d
repaired_left d f is p = go (is_none (first_lost d)) where
  go : (t : Bool) → left_now (if t then record d { failover = None } else d) ≤ lost_now d
  go true = omega arith
  go false = (let same = left_is d part.Repairs (f, is, p) in omega arith)

module _ (d : MasterData) where
  extends : (j : ℕ) → IsNextMend d (push.Head (nexts.Extend j))
      → left_now (mended_data d (push.Head (nexts.Extend j))) < left_now d
  extends j next =
      let before = left_is d part.Mends next.0 in
      let after = left_is (mended_data d (push.Head (nexts.Extend j))) part.Mends next.0 in
      let counts = count_set (length d.head.units) d.head.taken j next.2.0 next.2.1 next.2.2 in
      let same = length-set d.head.taken j (length d.head.units) in
      let own : unmended d ≡ count_below (length d.head.units) d.head.taken
      + (d.config.replicas - length d.head.taken) = unmended_is d next.1 in
      let less : unmended (mended_data d (push.Head (nexts.Extend j)))
      ≡ count_below (length d.head.units) (slice_set d.head.taken j (length d.head.units))
      + (d.config.replicas - length (slice_set d.head.taken j (length d.head.units))) =
      unmended_is (mended_data d (push.Head (nexts.Extend j))) next.1 in
      omega arith

  replaces : (j : ℕ) → IsNextMend d (push.Head (nexts.OpenWhole j))
      → left_now (mended_data d (push.Head (nexts.OpenWhole j))) < left_now d
  replaces j next =
      let before = left_is d part.Mends next.0 in
      let after = left_is (mended_data d (push.Head (nexts.OpenWhole j))) part.Mends next.0 in
      let counts = count_push (length d.head.units) d.head.taken in
      let same = length-append d.head.taken (length d.head.units ∷ []) in
      let at = next.3 in
      let lt = next.4 in
      let own : unmended d ≡ count_below (length d.head.units) d.head.taken
      + (d.config.replicas - length d.head.taken) = unmended_is d next.1 in
      let less : unmended (mended_data d (push.Head (nexts.OpenWhole j)))
      ≡ count_below (length d.head.units) (d.head.taken ++ length d.head.units ∷ [])
      + (d.config.replicas - length (d.head.taken ++ length d.head.units ∷ [])) =
      unmended_is (mended_data d (push.Head (nexts.OpenWhole j))) next.1 in
      omega arith

  opens : (j : ℕ) → IsNextOpen d j → left_now (opened_more d j) < left_now d
  opens j next = go d.head.roll refl where
    before : left_now d ≡ (d.config.replicas - opened_now d) + 1 + to_close d + lost_now d
    before = left_is d part.Opens next.0

    after : left_now (opened_more d j) ≡ left_in (opened_more d j) part.Opens
    after = left_is (opened_more d j) part.Opens next.0

    go : (o : Option Roll) → d.head.roll ≡ o → left_now (opened_more d j) < left_now d
    go None is =
        let same : left_in (opened_more d j) part.Opens
        ≡ (d.config.replicas - length (d.head.taken ++ 0 ∷ [])) + 1 + 0
        + lost_of d.config.replicas d.closed d.head.id (head_of d.head).start.others =
        ap (λ (o : Option Roll). left_in (opened_more (record d { head = record d.head { roll = o } }) j) part.Opens)
        is in
        let was : left_in d part.Opens ≡ (d.config.replicas - length d.head.taken) + 1 + 0
        + lost_of d.config.replicas d.closed d.head.id (head_of d.head).start.others =
        ap (λ (o : Option Roll). left_in (record d { head = record d.head { roll = o } }) part.Opens) is in
        let opened : opened_now d ≡ length d.head.taken =
        ap (λ (o : Option Roll). option_map_or (λ (r : Roll). r.opened) o (length d.head.taken)) is in
        let more = length-append d.head.taken (0 ∷ []) in
        let first = before in
        let last = after in
        let at = next.1 in
        let lt = next.2 in
        omega arith
    go (Some r) is =
        let same : left_in (opened_more d j) part.Opens
        ≡ (d.config.replicas - suc r.opened) + 1 + (d.config.replicas - r.closed)
        + lost_of d.config.replicas d.closed d.head.id (start_of r).others =
        ap (λ (o : Option Roll). left_in (opened_more (record d { head = record d.head { roll = o } }) j) part.Opens)
        is in
        let was : left_in d part.Opens ≡ (d.config.replicas - r.opened) + 1 + (d.config.replicas - r.closed)
        + lost_of d.config.replicas d.closed d.head.id (start_of r).others =
        ap (λ (o : Option Roll). left_in (record d { head = record d.head { roll = o } }) part.Opens) is in
        let opened : opened_now d ≡ r.opened =
        ap (λ (o : Option Roll). option_map_or (λ (q : Roll). q.opened) o (length d.head.taken)) is in
        let first = before in
        let last = after in
        let at = next.1 in
        let lt = next.2 in
        omega arith

  raises : (id : ℕ) → IsNextMend d (push.Raise id) → left_now (raised_data d) < left_now d
  raises id next = go (was_headless d) where
    before : left_now d ≡ (d.config.replicas - opened_now d) + 1 + to_close d + lost_now d
    before = left_is d part.Opens next.0

    goes_on : d.failover ≡ Some next.0.0 → left_now (with_part d part.Closes) ≡ left_in d part.Closes
    goes_on is = left_is (with_part d part.Closes) part.Closes (
      record next.0.0 { part = part.Closes },
      ap (option_map (λ (f : Failover). record f { part = part.Closes })) is,
      refl,
    )

    go : (t : Bool) → left_now (if t then record d {
      failover = None;
      abandoned = [];
      ledger = posting.Ended ∷ d.ledger;
    } else with_part d part.Closes) < left_now d
    go true = (let was = before in omega arith)
    go false = (let was = before in let is = goes_on next.0.1 in omega arith)

-- a lost replica was sealed anew
module _ (d : MasterData) (core : IsCore d) (s j : ℕ) (next : IsNextMend d (push.Repair s j)) where
  abbrev again : List Image
  again = changed d.closed s more_replicas

  abbrev e : MasterData
  e = record d {
    closed = changed d.closed s more_replicas;
    ledger = posting.Took s (home d.config d.failed s j) ∷ d.ledger;
  }

  others_is : others_now d ≡ (head_of d.head).start.others
  others_is = ap (λ (o : Option Roll). option_map_or (λ (r : Roll). (start_of r).others) o
      (head_of d.head).start.others) (no_roll d core s j next)

  found : (z : ℕ) → replicas_of again z ≡ (if z == s then suc (replicas_of d.closed s) else replicas_of d.closed z)
  found z = seal_adds_one d.closed s z (has_image d core s j next)

  at_own : lost_at d.config.replicas again d.head.id s < lost_at d.config.replicas d.closed d.head.id s
  at_own =
      let test = same_id s in
      let more : replicas_of again s ≡ suc (replicas_of d.closed s) = found s ∙ rw test refl in
      let lt = older d core s j next in
      let away = other_id s d.head.id (λ same. omega arith) in
      let count = held d core s j next in
      let fewer_are = fewer d core s j next in
      let few = few_lost d.config.replicas again d.head.id s in
      let was : lost_at d.config.replicas d.closed d.head.id s ≡ d.config.replicas - replicas_of d.closed s =
      rw away refl in
      omega arith

  at_any : (z : ℕ) → lost_at d.config.replicas again d.head.id z ≤ lost_at d.config.replicas d.closed d.head.id z
  at_any z = go (z == d.head.id) (z == s) refl where
    go : (t u : Bool) → (z == s) ≡ u → (if t then 0 else d.config.replicas - replicas_of again z)
        ≤ (if t then 0 else d.config.replicas - replicas_of d.closed z)
    go true u test = omega arith
    go false true test =
        let more : replicas_of again z ≡ suc (replicas_of d.closed s) = found z ∙ rw test refl in
        let same = ap (replicas_of d.closed) (eqb-true z s test) in
        omega arith
    go false false test =
        let more : replicas_of again z ≡ replicas_of d.closed z = found z ∙ rw test refl in
        omega arith

  fewer_lost : lost_now e < lost_now d
  fewer_lost =
      lost_less d.config.replicas d.closed again d.head.id d.head.id (others_now d) s
      (subst (λ (ids : List ℕ). IsAmong s ids) (sym others_is) (is_other d core s j next)) at_own (λ z m. at_any z)

  pub repairs : left_now (mended_data d (push.Repair s j)) < left_now d
  repairs =
      let before = left_is d part.Repairs next.0 in
      let after = repaired_left e next.0.0 next.0.1 next.0.2 in
      let less = fewer_lost in
      omega arith

-- one more replica of the old head is closed
module _ (d : MasterData) (core : IsCore d) (j : ℕ) (next : IsNextMend d (push.Head (nexts.CloseOld j))) where
  is : d.head.roll ≡ Some next.1
  is = next.2

  abbrev k : MasterData
  k = record d { ledger = posting.Shut (home d.config d.failed d.head.id j) ∷ d.ledger }

  values : IsRollValue d.head.replicas (length d.head.taken) next.1
  values = rolls d.head next.1 core.head is

  before : left_now d ≡ (d.config.replicas - next.1.closed)
      + lost_of d.config.replicas d.closed d.head.id (start_of next.1).others
  before = left_is d part.Closes next.0
      ∙ ap (λ (o : Option Roll). left_in (record d { head = record d.head { roll = o } }) part.Closes) is

  last_test : (t : Bool) → (suc j == d.config.replicas) ≡ t → (suc next.1.closed == d.head.replicas) ≡ t
  last_test t test = (λ i. suc (sym next.3 i) == core.replicas i) ∙ test

  go : (t : Bool) → (suc j == d.config.replicas) ≡ t → left_now (if t
      then repaired_data (with_part (record (closed_data k next.1) {
        abandoned = [];
        ledger = posting.Ended ∷ (closed_data k next.1).ledger;
      }) part.Repairs)
      else closed_data k next.1) < left_now d
  go false test =
      let no = last_test false test in
      let closed_is : closed_data k next.1
      ≡ record k { head = record d.head { roll = Some (record next.1 { closed = suc next.1.closed }) } } =
      rw no refl in
      let after : left_now (closed_data k next.1) ≡ (d.config.replicas - suc next.1.closed)
      + lost_of d.config.replicas d.closed d.head.id (start_of next.1).others =
      ap left_now closed_is
      ∙ left_is (record k { head = record d.head { roll = Some (record next.1 { closed = suc next.1.closed }) } })
      part.Closes next.0 in
      let was = before in
      let lt = values.closed in
      let same = core.replicas in
      omega arith
  go true test =
      let yes = last_test true test in
      let closed_is : closed_data k next.1 ≡ record k {
        head = in_force d.head next.1;
        closed = closed_left d.pass (added (closed_image d.head.id d.head.image d.config.replicas) d.closed);
        pass = pass_left d.pass;
        waiting = waiting_left d.pass (added (closed_image d.head.id d.head.image d.config.replicas) d.closed)
            d.waiting;
      } =
      (rw yes refl) ∙ ended_is d.pass (record k {
        head = in_force d.head next.1;
        closed = added (closed_image d.head.id d.head.image d.config.replicas) d.closed;
      }) in
      let after : left_now (repaired_data (with_part (record (closed_data k next.1) {
        abandoned = [];
        ledger = posting.Ended ∷ (closed_data k next.1).ledger;
      }) part.Repairs))
      ≤ lost_of d.config.replicas (closed_left d.pass (added (closed_image d.head.id d.head.image
      d.config.replicas) d.closed)) next.1.id (head_of (in_force d.head next.1)).start.others =
      subst (λ (m : MasterData). left_now (repaired_data (with_part (record m {
        abandoned = [];
        ledger = posting.Ended ∷ m.ledger;
      }) part.Repairs)) ≤ lost_of d.config.replicas (closed_left d.pass (added (closed_image d.head.id d.head.image
      d.config.replicas) d.closed)) next.1.id (head_of (in_force d.head next.1)).start.others) (sym closed_is)
      (repaired_left (with_part (record k {
        head = in_force d.head next.1;
        closed = closed_left d.pass (added (closed_image d.head.id d.head.image d.config.replicas) d.closed);
        pass = pass_left d.pass;
        waiting = waiting_left d.pass (added (closed_image d.head.id d.head.image d.config.replicas) d.closed)
            d.waiting;
        abandoned = [];
        ledger = posting.Ended ∷ k.ledger;
      }) part.Repairs) (record next.0.0 { part = part.Repairs })
      (ap (option_map (λ (f : Failover). record f { part = part.Repairs })) next.0.1) refl) in
      let others : lost_of d.config.replicas (closed_left d.pass (added (closed_image d.head.id d.head.image
      d.config.replicas) d.closed)) next.1.id (head_of (in_force d.head next.1)).start.others
      ≡ lost_of d.config.replicas (closed_left d.pass (added (closed_image d.head.id d.head.image
      d.config.replicas) d.closed)) next.1.id (start_of next.1).others =
      ap (λ (l : Head). lost_of d.config.replicas (closed_left d.pass (added (closed_image d.head.id d.head.image
      d.config.replicas) d.closed)) next.1.id l.start.others) (head_then d core next.1 is) in
      let no_more = lost_then d core next.1 is in
      let was = before in
      let lt = values.closed in
      let same = core.replicas in
      omega arith

  pub closes : left_now (mended_data d (push.Head (nexts.CloseOld j))) < left_now d
  closes =
      subst (λ (o : Option Roll). left_now (option_map_or (closed_more d j) o d) < left_now d) (sym is)
      (go (suc j == d.config.replicas) refl)

module _ (d : MasterData) (core : IsCore d) where
  -- ---- the new head is put

  pub turn_lowers : IsNextMend d push.Turn → left_now (turned_data d) ≤ left_now d
  turn_lowers next = go (was_headless d) refl where
    fails : IsFailover d next.0.0
    fails = own d core next.0.0 next.0.1

    no_old_roll : d.head.roll ≡ None
    no_old_roll = (fails.mends next.0.2).0

    before : left_now d ≡ unmended d + (d.config.replicas + 1) + d.config.replicas
        + lost_of d.config.replicas d.closed d.head.id (head_of d.head).start.others
    before = left_is d part.Mends next.0
        ∙ ap (λ (o : Option Roll). unmended d + (d.config.replicas + 1) + d.config.replicas
        + lost_of d.config.replicas d.closed d.head.id (option_map_or (λ (r : Roll). (start_of r).others) o
        (head_of d.head).start.others)) no_old_roll

    begins : IsInPart (record d { failover = option_map opening d.failover }) part.Opens
    begins = (opening next.0.0, ap (option_map opening) next.0.1, refl)

    -- the head itself counts nothing, nor does a survivor
    listed : (o : Option Pass) (t : Bool)
        → (t ≡ true → option_map_or (is_ready_pass d.config.replicas d.closed) o false ≡ true)
        → lost_of d.config.replicas d.closed d.head.id (next_ids d o t)
        ≤ lost_of d.config.replicas d.closed d.head.id (digest_of d.head.image)
    listed o false ready = lost_without d.config.replicas d.closed d.head.id [] (digest_of d.head.image)
    listed None true ready = absurd (let never = ready refl in cc)
    listed (Some p) true ready =
        let less = lost_without d.config.replicas d.closed d.head.id p.victims (digest_of d.head.image) in
        let same = lost_all d.config.replicas d.closed d.head.id (survivor_ids p.survivors)
        (without p.victims (digest_of d.head.image))
        ((none_is_lacking d.config.replicas d.closed (survivor_ids p.survivors)).0
        (is_none_then (first_lacking d.config.replicas d.closed (survivor_ids p.survivors))
        (and_parts (is_at_end p) (is_none (first_lacking d.config.replicas d.closed (survivor_ids p.survivors)))
        (ready refl)).1)) in
        omega arith

    in_force_too : lost_of d.config.replicas d.closed d.head.id (digest_of d.head.image)
        ≡ lost_of d.config.replicas d.closed d.head.id (head_of d.head).start.others
    in_force_too =
        let ids = ap (lost_of d.config.replicas d.closed d.head.id)
        (digest_is d.config.master d.head (head_of d.head) core.image) in
        let sum = lost_push d.config.replicas d.closed d.head.id (head_of d.head).start.id
        (head_of d.head).start.others in
        let test : ((head_of d.head).start.id == d.head.id) ≡ true =
        ap (λ (z : ℕ). z == d.head.id) core.image.id ∙ same_id d.head.id in
        let none : lost_at d.config.replicas d.closed d.head.id (head_of d.head).start.id ≡ 0 = rw test refl in
        omega arith

    lone : (head_of (fresh_head d.config.master d.config.replicas (lone_start d.next d.config.format
        d.safe))).start.others ≡ []
    lone = ap (λ (n : Start). n.others)
        (start_is d.config.master (lone_start d.next d.config.format d.safe) (lone_has d.config.format d.safe))

    go : (t : Bool) → was_headless d ≡ t → left_now (turned_if d t) ≤ left_now d
    go true test =
        let after = left_is (turned_if d true) part.Opens begins in
        let none = ap (lost_of d.config.replicas d.closed d.next) lone in
        let was = before in
        let all : unmended d ≡ d.config.replicas = rw test refl in
        omega arith
    go false test =
        let after = left_is (turned_if d false) part.Opens begins in
        let ids = ap (lost_of d.config.replicas d.closed d.head.id)
        (ap (λ (n : Start). n.others) (start_is d.config.master (start_now d) (start_has d (is_ready d)))
        ∙ start_others d (is_ready d)) in
        let fewer_are = listed d.pass (is_ready d) (λ ready. ready) in
        let same = in_force_too in
        let was = before in
        omega arith

-- ---- all

pub mend_lowers : MendLowers
mend_lowers d (push.Head (nexts.Extend j)) core next = extends d j next
mend_lowers d (push.Head (nexts.OpenWhole j)) core next = replaces d j next
mend_lowers d push.Turn core next =
    let less = turn_lowers d core next in
    let opened = opens (turned_data d) 0 (turned_next d core next) in
    omega arith
mend_lowers d (push.Head (nexts.OpenNew j)) core next = opens d j next.0
mend_lowers d (push.Head (nexts.OpenFirst j)) core next = opens d j next.0
mend_lowers d (push.Raise id) core next = raises d id next
mend_lowers d (push.Head (nexts.CloseOld j)) core next = closes d core j next
mend_lowers d (push.Repair s j) core next = repairs d core s j next
