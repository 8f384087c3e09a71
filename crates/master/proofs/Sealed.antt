-- A replica that is sealed keeps what holds of a master.
use Rattle.std.proofs.Common.{◌≡◌, ℕ, suc, ◌<◌, Bool, true, false, inl, inr, List, [], ◌∷◌, map}
use Rattle.std.proofs.Common.{length, refl, sym, ap, subst, ◌∙◌, arith}
use Rattle.std.specs.Prelude.{Option, Some, None, IfSome, is_none, filter, ◌==◌, if◌then◌else◌}
use Rattle.std.specs.Option.{option_map_or}
use Rattle.std.proofs.lemmas.Bool.{and_parts, eqb-true, eqb-false}
use Rattle.master_core.specs.cleaner.declared.pass.Pass.{Pass}
use Rattle.master_core.specs.cleaner.Passes.{survivor_ids, is_at_end}
use Rattle.master_core.specs.cleaner.Seals.{first_lacking}
use Rattle.entry.specs.declared.entry.Header.{Header}
use Rattle.entry.specs.declared.entry.Role.TheVariants as role
use Rattle.entry.specs.declared.entry.Entry.{Entry}
use Rattle.entry.specs.Bag.{IsAmong}
use Rattle.entry.specs.Text.{text_of, is_data, opening_of as opening_at, IsSegment}
use Rattle.images.specs.Image.{Image}
use Rattle.images.specs.Sorted.{replicas_of, changed}
use Rattle.images.specs.Steps.{more_replicas}
use Rattle.replica.specs.Op.{OpValue, Seal as SealBytes}
use Rattle.replica.specs.Picture.{FleetState}
use Rattle.replica.specs.Take.{Takes, Refuses}
use Rattle.replica.specs.declared.op.TakeFault.{TakeFault}
use Rattle.replica.specs.declared.op.TakeFault.TheVariants as take_fault
use Rattle.log_head.specs.declared.head.Roll.{Roll}
use Rattle.log_head.specs.log_laws.Ids.{has, without}
use Rattle.log_head.specs.log_laws.Ops.{op_of}
use Rattle.log_head.proofs.log_laws.Segments.{data_alone}
use Rattle.master_core.specs.log_laws.Intact.{BeginAsSurvivor}
use Rattle.master_core.specs.log_laws.Data.{FailData}
use Rattle.master_core.specs.log_laws.Shown.{Act, Seal as SealAct}
use Rattle.master_core.specs.log_laws.Steps.{with_taken}
use Rattle.master_core.specs.log_bytes.Ops.{log_op_for}
use Rattle.master_core.specs.log_bytes.Text.{entries_for, IsWholeText}
use Rattle.master_core.proofs.log_bytes.Texts.{no_opening}
use Rattle.master_core.specs.log_memory.Fleet.{HoldsAll}
use Rattle.master_core.specs.log_memory.Memory.{FailMemory, text_in}
use Rattle.master_core.specs.log_memory.Ops.{IsOp}
use Rattle.master_core.specs.log_memory.Steps.{MaySeal, seal_op}
use Rattle.master_core.proofs.log_memory.FleetAnswers.{ok_holds_all}
use Rattle.master_core.specs.master_state.declared.ledger.Posting.TheVariants as posting
use Rattle.master_core.specs.master_state.declared.step.Step.TheVariants.{Seal}
use Rattle.master_core.specs.master_state.declared.step.StepAnswer.TheVariants.{Sealed as StepSealed}
use Rattle.master_core.specs.master_state.Budget.{survivors_of, is_committing}
use Rattle.master_core.specs.master_state.Causes.{seal_refusal, step_refusal}
use Rattle.master_core.specs.master_state.Data.{MasterData}
use Rattle.master_core.specs.master_state.Invariant.{IsCore}
use Rattle.master_core.specs.master_state.Ledger.{took_in, posted}
use Rattle.master_core.specs.master_state.Log.{log_of, memory_of, images_of, entry_place, home, placed}
use Rattle.master_core.specs.master_state.Steps.{sealed_data, refusal_of, failed_data}
use Rattle.master_core.specs.master_state.Waits.{next_seal}
use Rattle.master_core.proofs.master_state.Imaging.{same_id, other_id}
use Rattle.master_core.proofs.master_state.LogIds.{apart, closed_rise}
use Rattle.master_core.proofs.master_state.Recounts.{one_more, segment_recounted}
use Rattle.master_core.proofs.master_state.Refusals.{sizes_of}
use Rattle.master_core.proofs.master_state.Calm.{passes_first, calm_parts}
use Rattle.master_core.proofs.master_space.SealedCore.{SealsNext, seals_next}
use Rattle.master.specs.Invariant.{IsWellKept}
use Rattle.master.specs.Passes.{IsSealOp, Seals}
use Rattle.master.specs.Placed.{holders, IsPlaced}
use Rattle.master.specs.Steps.{Declines}
use Rattle.master.proofs.Handed.{taken_size, handed_kept, not_wrong, op_failed, failed_tells}
use Rattle.master.proofs.InForce.{never_fails}
use Rattle.master.proofs.Lasting.{kept_as, well_kept}
use Rattle.master.proofs.LogSets.{closed_in}
use Rattle.master.proofs.OpenPasses.{open_now, rest_is, survivor_segment, survivor_within, survivor_image, none_left}
use Rattle.master.proofs.OpenPasses.{below_survivor, not_new}
use Rattle.master.proofs.Placements.{changed_from, homes_of, replicas_own, IsNewPlaced}
use Rattle.master.proofs.Placing.{core_within, core_left, core_later, left_not, left_more}
use Rattle.master.proofs.Recounted.{memory_recounted}

-- ---- the text of a survivor

-- what memory has of a survivor is a text with its header
pub survivor_text_is : (master s : ℕ) (es : List Entry) → BeginAsSurvivor master s es → IsSegment es
    → entries_for master s (record { opening = opening_at es; entries = filter is_data es }) ≡ es
survivor_text_is master s es begins whole =
    let are = (subst IsSegment begins.1 whole).order in
    let header : Header = record { master = master; segment = s; role = role.Survivor } in
    subst (λ (l : List Entry). entries_for master s (record { opening = opening_at l; entries = filter is_data l }) ≡ l)
    (sym begins.1) (λ i. entries_for master s (record {
      opening = no_opening header begins.0 are i;
      entries = data_alone begins.0 are i;
    }))

-- ---- the next seal

module _ (d : MasterData) (core : IsCore d) (s j : ℕ) (next : next_seal d ≡ Some (s, j)) where
  n : SealsNext d s j
  n = seals_next d s j next

  among : IsAmong s (survivor_ids n.pass.survivors)
  among = n.next.among

  survivor : IsAmong s (survivors_of d.pass)
  survivor = subst (λ (x : Option Pass). IsAmong s (survivors_of x)) (sym n.opened) among

  segment : IsSegment (images_of d s)
  segment = survivor_segment d core n.pass n.opened s among

  pub whole_is : entries_for d.config.master s (text_in (memory_of d) s) ≡ images_of d s
  whole_is =
      survivor_text_is d.config.master s (images_of d s)
      (subst (BeginAsSurvivor d.config.master s) (sym (survivor_image d core n.pass n.opened s among))
      ((open_now d core n.pass n.opened).survivors.each s among).begins) segment

  -- its replica's home
  abbrev to : ℕ
  to = home d.config d.failed s j

  abbrev pub is_seal_op : IsSealOp d (seal_op (memory_of d) s (home d.config d.failed s j))
  is_seal_op = record { segment = s; replica = j; next = next; is = refl; whole = whole_is }

  -- ---- it may be sealed

  few : j < d.config.replicas
  few = n.next.few

  pub seal_works : has d.failed (home d.config d.failed s j) ≡ false
  seal_works = core_left d core s j few

  pub seal_within : home d.config d.failed s j < d.config.backups
  seal_within = core_within d core s j few

  no_commit : is_committing d ≡ false
  no_commit = ap (λ (o : Option Pass). option_map_or (λ (p : Pass). p.is_committing) o false) n.opened
      ∙ go n.pass.is_committing refl
    where
      go : (t : Bool) → n.pass.is_committing ≡ t → n.pass.is_committing ≡ false
      go true commits =
          let ready = ((open_now d core n.pass n.opened).commits commits).1 in
          let all = (and_parts (is_at_end n.pass)
          (is_none (first_lacking d.config.replicas d.closed (survivor_ids n.pass.survivors))) ready).1 in
          let never : false ≡ true = sym (ap is_none n.next.lacking) ∙ all in
          absurd (cc)
      go false is = is

  module _ (placed_now : IsPlaced d) (calm : d.failover ≡ None) where
    holders_now : holders d s ≡ placed d.config d.failed s j
    holders_now =
        homes_of d placed_now s (closed_in d core s (inr survivor)) ∙ ap (placed d.config d.failed s) (sym n.next.count)

    may : MaySeal (log_of d) (memory_of d) s to
    may = record {
      survivor = survivor;
      done = ap (map (entry_place d)) (rest_is d core n.pass n.opened ∙ none_left d core n.pass n.opened n.next.ended);
      no_commit = no_commit;
      calm = never_fails d calm;
      works = seal_works;
      apart = left_not d.failed (took_in d.ledger s) to seal_works
          (ap (λ (bs : List ℕ). has bs to) holders_now ∙ core_later d core s j j (omega arith) few);
    }

    whole_text : IsWholeText d.config.master s (text_in (memory_of d) s)
    whole_text = record {
      segment_is = subst IsSegment (sym whole_is) segment;
      limit = (let same = ap (λ (es : List Entry). length (text_of es)) whole_is in
          let fits = survivor_within d core n.pass n.opened s among in
          let most = (sizes_of d.config core.config).most_segment in
          omega (arith, same, fits, most));
    }

    abbrev then_log : FailData
    then_log = record (log_of d) { took = with_taken (took_in d.ledger) s (home d.config d.failed s j) }

    pub seals_survivor : IsOp (log_of d) (memory_of d) (seal_op (memory_of d) s (home d.config d.failed s j)) then_log
        (memory_of d)
    seals_survivor = inr (inl (
      record { s = s; b = to; may = may; whole = whole_text; op = refl; gives = refl },
      refl,
    ))

    -- ---- what is known then

    abbrev sealed_after : MasterData
    sealed_after = record d {
      closed = changed d.closed s more_replicas;
      ledger = posting.Took s (home d.config d.failed s j) ∷ d.ledger;
    }

    pub sealed_is : sealed_data (posted d (posting.Took s (home d.config d.failed s j))) ≡ sealed_after
    sealed_is = ap (λ (o : Option (ℕ × ℕ)). option_map_or (λ (x : ℕ × ℕ).
        record (posted d (posting.Took s to)) { closed = changed d.closed x.0 more_replicas }) o
        (posted d (posting.Took s to))) next

    pub memory_sealed : memory_of sealed_after ≡ memory_of d
    memory_sealed = memory_recounted d (changed d.closed s more_replicas)
        (segment_recounted (λ (x : Image). if x.id == s then more_replicas x else x) (one_more s) d.closed)

    apart_took : (z : ℕ) → (z ≡ s → ⊥)
        → with_taken (took_in d.ledger) s (home d.config d.failed s j) z ≡ took_in d.ledger z
    apart_took z other = let away = other_id z s other in rw away refl

    own_took : with_taken (took_in d.ledger) s (home d.config d.failed s j) s ≡ to ∷ took_in d.ledger s
    own_took = let own = same_id s in rw own refl

    -- one replica more of that survivor, and of no other
    closed_then : (x : Image) → IsAmong x (changed d.closed s more_replicas)
        → without d.failed (with_taken (took_in d.ledger) s (home d.config d.failed s j) x.id)
        ≡ placed d.config d.failed x.id x.replicas
    closed_then x there =
        let y = changed_from d.closed s more_replicas x there in
        subst (λ (z : Image). without d.failed (with_taken (took_in d.ledger) s to z.id)
        ≡ placed d.config d.failed z.id z.replicas) (sym y.2) (go y.0 y.1 (y.0.id == s) refl)
      where
        go : (y : Image) → IsAmong y d.closed → (t : Bool) → (y.id == s) ≡ t
            → without d.failed (with_taken (took_in d.ledger) s (home d.config d.failed s j)
            (if y.id == s then more_replicas y else y).id)
            ≡ placed d.config d.failed (if y.id == s then more_replicas y else y).id
            (if y.id == s then more_replicas y else y).replicas
        go y m true here =
            let same = eqb-true y.id s here in
            let count : y.replicas ≡ j =
            sym (replicas_own d.closed (closed_rise d core) y m) ∙ ap (replicas_of d.closed) same ∙ sym n.next.count in
            rw here (ap (λ (z : ℕ). without d.failed (with_taken (took_in d.ledger) s to z)) same
            ∙ ap (without d.failed) own_took ∙ left_more d.failed to (took_in d.ledger s) seal_works
            ∙ ap (λ (bs : List ℕ). to ∷ bs) holders_now
            ∙ (λ i. placed d.config d.failed (sym same i) (suc (sym count i))))
        go y m false away =
            rw away (ap (without d.failed) (apart_took y.id (eqb-false y.id s away)) ∙ placed_now.closed y m)

    pub placed_then : IsPlaced sealed_after
    placed_then = record {
      none = λ is. apart_took 0 (λ same. let lt = used in omega (arith, same, lt)) ∙ placed_now.none is;
      head = ap (without d.failed) (apart_took d.head.id (apart d core s survivor).1) ∙ placed_now.head;
      counts = placed_now.counts;
      unopened = placed_now.unopened;
      whole = placed_now.whole;
      new = new d.head.roll (not_new d core n.pass n.opened s among) placed_now.new;
      shut = placed_now.shut;
      closed = closed_then;
    } where
      used : 0 < s
      used =
          let first = one_of n.pass.victims (open_now d core n.pass n.opened).victims.some in
          let lt = below_survivor d core n.pass n.opened s among first.0 first.1 in
          omega (arith, lt)
        where
          one_of : (ids : List ℕ) → 0 < length ids → (z : ℕ) × IsAmong z ids
          one_of [] some = absurd (omega (arith, some))
          one_of (z ∷ ids) some = (z, inl refl)

      new : (o : Option Roll) → IfSome o (λ (r : Roll). (r.id == s) ≡ false)
          → IfSome o (IsNewPlaced d.config d.failed d.ledger)
          → IfSome o (IsNewPlaced d.config d.failed (posting.Took s (home d.config d.failed s j) ∷ d.ledger))
      new None other was = tt
      new (Some r) other was = ap (without d.failed) (apart_took r.id (eqb-false r.id s other)) ∙ was

-- ---- a seal

module _ (d : MasterData) (f : FleetState) (kept : IsWellKept d f) (passed : seal_refusal d ≡ None) (s j : ℕ)
    (next : next_seal d ≡ Some (s, j)) where
  abbrev backup : ℕ
  backup = home d.config d.failed s j

  abbrev act : Act
  act = SealAct (text_in (memory_of d) s)

  abbrev bytes : OpValue
  bytes = op_of d.config.master (log_op_for d.config.master backup s act)

  step : (d.is_halted ≡ false) × (d.failover ≡ None)
  step = calm_parts d (passes_first (step_refusal d) _ passed).0

  op : IsOp (log_of d) (memory_of d) (seal_op (memory_of d) s backup)
      (then_log d kept.core s j next kept.placed step.1) (memory_of d)
  op = seals_survivor d kept.core s j next kept.placed step.1

  within : backup < d.config.backups
  within = seal_within d kept.core s j next

  -- the op that is handed is just this one
  pub bytes_are : record { master = d.config.master; segment = s; act = SealBytes (text_of (images_of d s)) } ≡ bytes
  bytes_are = ap (λ (es : List Entry). record { master = d.config.master; segment = s; act = SealBytes (text_of es) })
      (sym (is_seal_op d kept.core s j next).whole)

  abbrev e : MasterData
  e = sealed_data (posted d (posting.Took s backup))

  abbrev after : MasterData
  after = sealed_after d kept.core s j next kept.placed step.1

  pub sealed_kept : (g : FleetState) → IsCore e → Takes f backup bytes g → IsWellKept e g
  sealed_kept g core takes =
      let size = taken_size f backup bytes g takes.1 in
      let was = kept_as d f kept step.0 in
      let is = sealed_is d kept.core s j next kept.placed step.1 in
      let held = ok_holds_all (log_of d) (log_of after) (memory_of d) (memory_of d) f g
      (seal_op (memory_of d) s backup) was.holds op within takes in
      subst (λ (x : MasterData). IsWellKept x g) (sym is) (well_kept after g
      (handed_kept d after f g was size (subst IsCore is core)
      (placed_then d kept.core s j next kept.placed step.1) refl was.apart
      (subst (λ (m : FailMemory). HoldsAll (log_of after) m g)
      (sym (memory_sealed d kept.core s j next kept.placed step.1)) held)))

  -- ---- what the fleet answers

  pub seal_accepted : (g : FleetState) → Takes f backup bytes g
      → Seals (record { knows = d; fleet = f }) (StepSealed backup) (record { knows = e; fleet = g })
  seal_accepted g takes = record {
    op = seal_op (memory_of d) s backup;
    passed = passed;
    next = is_seal_op d kept.core s j next;
    told = refl;
    rest = refl;
    takes = takes;
  }

  pub seal_not_wrong : (g : FleetState) (x : TakeFault) → Refuses f backup bytes x g → x ≡ take_fault.Wrong → ⊥
  seal_not_wrong = not_wrong d f kept step.0 backup s act (then_log d kept.core s j next kept.placed step.1)
      (memory_of d) op within

  pub seal_failed : (g : FleetState) (x : TakeFault) → Refuses f backup bytes x g
      → IsWellKept (failed_data d backup x) g
  seal_failed g x refused =
      op_failed d f kept step.0 backup s act (then_log d kept.core s j next kept.placed step.1) (memory_of d) op within
      (seal_works d kept.core s j next) g x refused

  pub seal_declined : (g : FleetState) (x : TakeFault) → Refuses f backup bytes x g
      → Declines (record { knows = d; fleet = f }) Seal (refusal_of d backup x)
      (record { knows = failed_data d backup x; fleet = g })
  seal_declined g x refused =
      inr (
        passed,
        failed_tells d f backup s act (IsSealOp d) (is_seal_op d kept.core s j next) g x refused
            (seal_not_wrong g x refused),
      )
