use Rattle.std.proofs.Common.{◌≡◌, inr, inl, ℕ, ◌+◌, ◌<◌, ◌≤◌, Bool, true, false, List, length, refl, sym, ap}
use Rattle.std.proofs.Common.{subst, ◌∙◌, arith}
use Rattle.std.specs.Prelude.{Option, Some, None, IfSome, IsSome, Ok, if◌then◌else◌}
use Rattle.std.specs.Option.{option_map, option_map_or}
use Rattle.std.proofs.lemmas.Result.{err_from_is_err_and}
use Rattle.master_core.specs.cleaner.declared.pass.Pass.{Pass}
use Rattle.images.specs.Image.{Image}
use Rattle.images.specs.Images.{ImagesValue}
use Rattle.replica.specs.Op.{OpValue}
use Rattle.replica.specs.Picture.{FleetState}
use Rattle.replica.specs.Take.{Refuses}
use Rattle.replica.specs.declared.op.TakeFault.TheVariants as take_fault
use Rattle.log_head.specs.declared.head.Roll.{Roll}
use Rattle.log_head.specs.Head.{IsHeadValue}
use Rattle.master_core.specs.master_failover.declared.push.Push.TheVariants as push
use Rattle.master_core.specs.master_failover.declared.turning.NewHead.{NewHead}
use Rattle.master_core.specs.master_failover.Mending.{IsNextMend, IsNextOpen, IsNewHead, MayPut, put_data, turned_data}
use Rattle.master_core.specs.master_failover.Mending.{mended_data}
use Rattle.master_core.specs.master_failover.Mending.{backup_for, opened_more}
use Rattle.master_core.proofs.master_failover.Changed.{own}
use Rattle.master_core.proofs.master_failover.PushKinds.{mend_fails}
use Rattle.master_core.proofs.master_failover.TurnedCore.{turned_next, turned_is}
use Rattle.master_core.specs.master_state.declared.step.Refusal.TheVariants.{Halted}
use Rattle.master_core.specs.master_state.declared.step.Step.TheVariants.{Push}
use Rattle.master_core.specs.master_state.contracts.state.Core.{the_view}
use Rattle.master_core.specs.master_state.Budget.{is_ready, may_turn, victims_of, is_committing}
use Rattle.master_core.specs.master_state.Data.{MasterData}
use Rattle.master_core.specs.master_state.Invariant.{IsCore, AreImagesOf, AreTallied}
use Rattle.master_core.specs.master_state.Log.{home}
use Rattle.master_core.specs.master_state.Steps.{halted}
use Rattle.master_core.proofs.master_state.Refusals.{sizes_of}
use Rattle.master_core.proofs.master_state.Tallying.{none_right}
use Rattle.master.specs.Invariant.{StaysServed}
use Rattle.master.specs.Pushes.{first_open, OpensFirst}
use Rattle.master.specs.Steps.{Declines}
use Rattle.master.specs.World.{world_of}
use Rattle.master.proofs.MendFirsts.{stuck_served, put_valid, turning_core, turn_not_wrong, turn_mends, turn_mended}
use Rattle.master.proofs.MendFirsts.{turn_faults, turn_halts, turn_declines}
use Rattle.master.proofs.MendServed.{mend_passed}
use Rattle.master.proofs.Served.{served_core}
use Rattle.master.proofs.pushing.turn.Given as given
use Rattle.master.proofs.pushing.turn.Goals as goal
use Rattle.master.proofs.pushing.turn.Goals.{After-reserve-2, After-master, After-ledger_of_turn-core-inside}

-- ---- a pass

-- no commit is under way
none_commits : (o : Option Pass) (n room : ℕ) → option_map_or (λ (p : Pass). p.is_committing) o false ≡ false
    → IfSome o (λ (p : Pass). p.is_committing ≡ true → n + length p.victims ≤ room)
none_commits None n room none = tt
none_commits (Some p) n room none = λ is. absurd (let never : true ≡ false = sym is ∙ none in cc)

-- there is room for the victims of the one that begins
marked_room : (o : Option Pass) (b : Bool) (victims n room : ℕ) → victims ≡ (if b then length (victims_of o) else 0)
    → n + victims ≤ room → IfSome (option_map (λ (p : Pass). record p { is_committing = b }) o)
    (λ (p : Pass). p.is_committing ≡ true → n + length p.victims ≤ room)
marked_room None b victims n room is enough = tt
marked_room (Some p) true victims n room is enough = λ commits. omega (arith, is, enough)
marked_room (Some p) false victims n room is enough = λ commits. absurd (cc)

-- ---- it may not be opened

pub returns-then-not-may_turn-clause-refused : goal.returns-then-not-may_turn-clause-refused
returns-then-not-may_turn-clause-refused g c =
    let d = c.args.core.now in
    let f = g.F.Fleet.state c.args.fleet.now in
    subst (λ (x : MasterData). Declines (world_of d f) Push Halted (world_of x f)) (sym c.halt.ensures.halted)
    (inr (
      mend_passed d c.requires.running (mend_fails d push.Turn c.requires.next),
      inl (c.requires.next, sym c.may_turn.ensures ∙ c.if-not-may_turn.true, refl, refl),
    ))

pub returns-then-not-may_turn-clause-served : goal.returns-then-not-may_turn-clause-served
returns-then-not-may_turn-clause-served g c =
    let d = c.args.core.now in
    let f = g.F.Fleet.state c.args.fleet.now in
    subst (λ (x : MasterData). StaysServed d f x f) (sym c.halt.ensures.halted)
    (stuck_served d f (mend_fails d push.Turn c.requires.next))

-- ---- room is made

module _ (g : given.Over) (c : goal.After-reserve-2 g) where
  abbrev v : MasterData
  v = the_view c.core.inside

  core : IsCore v
  core = c.core.invariant.2

  next : IsNextMend v push.Turn
  next = subst (λ (m : MasterData). IsNextMend m push.Turn) (sym c.core.view_is) c.requires.next

  images : c.reserve.new.self.images ≡ v.closed
  images = ap (λ (x : ImagesValue). x.images) c.reserve.ensures.same

  items : c.reserve-2.new.self.items ≡ v.waiting
  items = c.reserve-2.ensures.items

  -- nothing has changed but the room
  mid_is : record (the_view c.core.inside) { closed = c.reserve.new.self.images; waiting = c.reserve-2.new.self.items }
      ≡ c.args.core.now
  mid_is = (λ i. record v { closed = images i; waiting = items i }) ∙ c.core.view_is

  sizes : AreImagesOf c.core.inside.config c.reserve.new.self
  sizes =
      subst (AreImagesOf c.core.inside.config) (sym c.reserve.ensures.same) (let all = c.core.invariant.1 in
      record { segment = all.segment; seglet = all.seglet; seglets = all.seglets })

  mends : (v.head.roll ≡ None) × (is_committing v ≡ false)
  mends = (let all = (own v core next.0.0 next.0.1).mends next.0.2 in (all.0, all.2))

  core_then : IsCore (record (the_view c.core.inside) {
    closed = c.reserve.new.self.images;
    waiting = c.reserve-2.new.self.items;
  })
  core_then = subst IsCore (λ i. record v { closed = sym images i; waiting = sym items i }) core

  tallied_then : AreTallied (record (the_view c.core.inside) {
    closed = c.reserve.new.self.images;
    waiting = c.reserve-2.new.self.items;
  }) c.core.inside.tallies
  tallied_then =
      subst (λ (xs : List Image). AreTallied (record (the_view c.core.inside) {
        closed = xs;
        waiting = c.reserve-2.new.self.items;
      }) c.core.inside.tallies) (sym images) c.core.invariant.4

pub invariant_of-core-in_err-reserve-2 : goal.invariant_of-core-in_err-reserve-2
invariant_of-core-in_err-reserve-2 g c =
    let t = (goal.at.invariant_of-core-in_err-reserve-2 g c).After-reserve-2 in (
      λ some. absurd (let roll = subst (λ (o : Option Roll). IsSome o) (mends g t).0 some in cc),
      sizes g t,
      core_then g t,
      none_commits c.core.inside.pass _ _ (mends g t).1,
      tallied_then g t,
    )

pub invariant_of-core-in_err-is_taken : goal.invariant_of-core-in_err-is_taken
invariant_of-core-in_err-is_taken g c =
    let t = (goal.at.invariant_of-core-in_err-is_taken g c).After-reserve-2 in (
      λ some. absurd (let roll = subst (λ (o : Option Roll). IsSome o) (mends g t).0 some in cc),
      sizes g t,
      core_then g t,
      none_commits c.core.inside.pass _ _ (mends g t).1,
      tallied_then g t,
    )

-- ---- the new head

module _ (g : given.Over) (c : goal.After-master g) where
  abbrev d : MasterData
  d = c.args.core.now

  abbrev f : FleetState
  f = g.F.Fleet.state c.args.fleet.now

  abbrev new : NewHead
  new = c.in_ok-new.new

  abbrev b : ℕ
  b = backup_for d push.Turn

  same_mid : record (the_view c.core.inside) {
    closed = c.reserve.new.self.images;
    waiting = c.reserve-2.new.self.items;
  } ≡ c.args.core.now
  same_mid = mid_is g (goal.at-After-master g c).After-reserve-2

  made : IsNewHead d new
  made = subst (λ (m : MasterData). IsNewHead m new) same_mid c.in_ok-new.ensures.made

  may : may_turn d ≡ true
  may = sym c.may_turn.ensures ∙ c.if-not-may_turn.false

  valid : IsHeadValue (put_data new d.head)
  valid = put_valid d f c.requires.running c.requires.next c.requires.served may new made new
      (subst (λ (m : MasterData). MayPut m.head new) same_mid c.in_ok-new.ensures.may) c.show_new.ensures

  id : c.core.inside.next_id ≡ d.next
  id = ap (λ (m : MasterData). m.next) c.core.view_is

  backup : c.home-backup.result ≡ b
  backup = c.home-backup.ensures.home ∙ ap (λ (s : ℕ). home d.config d.failed s 0) id

  handed : first_open c.master.result c.core.inside.next_id new ≡ first_open d.config.master d.next new
  handed =
      λ i. first_open ((c.master.ensures ∙ ap (λ (m : MasterData). m.config.master) same_mid) i) (id i) new

  right : (x : FleetState)
      → Refuses f c.home-backup.result (first_open c.master.result c.core.inside.next_id new) take_fault.Wrong x → ⊥
  right x refused =
      turn_not_wrong d f c.requires.running c.requires.next c.requires.served may new made valid x
      (subst (λ (y : ℕ × OpValue). Refuses f y.0 y.1 take_fault.Wrong x) (λ i. (backup i, handed i)) refused)

pub open_first-requires : goal.open_first-requires
open_first-requires g c =
    let t = (goal.at.open_first-requires g c).After-master in record { right = right g t }

-- ---- it wasn't taken

pub returns-in_err-is_taken-clause-refused : goal.returns-in_err-is_taken-clause-refused
returns-in_err-is_taken-clause-refused g c =
    let t = (goal.at.returns-in_err-is_taken-clause-refused g c).After-master in
    let failed = err_from_is_err_and c.from_residual-in_err-is_taken.result c.from_residual-in_err-is_taken.ensures.1 in
    let told = turn_declines (d g t) (f g t) c.requires.running c.requires.next (may g t) c.home-backup.result
    (first_open c.master.result c.core.inside.next_id c.in_ok-new.new) c.in_err-is_taken.field-0.0
    (g.F.Fleet.state c.open_first.new.fleet) c.in_err-is_taken.ensures in
    rw (failed.1, failed.2, same_mid g t) told.0

pub returns-in_err-is_taken-clause-served : goal.returns-in_err-is_taken-clause-served
returns-in_err-is_taken-clause-served g c =
    let t = (goal.at.returns-in_err-is_taken-clause-served g c).After-master in
    let told = turn_declines (d g t) (f g t) c.requires.running c.requires.next (may g t) c.home-backup.result
    (first_open c.master.result c.core.inside.next_id c.in_ok-new.new) c.in_err-is_taken.field-0.0
    (g.F.Fleet.state c.open_first.new.fleet) c.in_err-is_taken.ensures in
    subst (λ (x : MasterData × FleetState). StaysServed (d g t) (f g t) x.0 x.1)
    (λ i. (sym (same_mid g t) i, sym told.1 i)) (λ kept. kept, λ loaded. loaded)

-- ---- the new head is put

pub put-requires-clause-seglet : goal.put-requires-clause-seglet
put-requires-clause-seglet g c =
    let sizes = sizes_of c.core.inside.config c.core.invariant.2.config in
    let least = sizes.least_seglet in
    let most = sizes.most_seglet in
    (omega (arith, least), most)

module _ (g : given.Over) (c : goal.After-ledger_of_turn-core-inside g) where
  abbrev t : goal.After-master g
  t = (goal.at-After-ledger_of_turn-core-inside g c).After-master

  abbrev s : goal.After-reserve-2 g
  s = (goal.at-After-ledger_of_turn-core-inside g c).After-reserve-2

  abbrev w : MasterData
  w = the_view c.core.inside

  abbrev left : MasterData
  left = record (the_view c.core.inside) {
    head = c.put.new.head;
    closed = c.reserve.new.self.images;
    next = c.core.inside.next_id + 1;
    pass = c.mark.new.pass;
    waiting = c.reserve-2.new.self.items;
    failover = c.begin_opening.new.failover;
    ledger = c.ledger_of_turn-core-inside.result.postings;
  }

  ready : c.is_ready-is_commit.result ≡ is_ready w
  ready = c.is_ready-is_commit.ensures ∙ sym (ap is_ready c.core.view_is)

  made_w : IsNewHead w c.in_ok-new.new
  made_w = subst (λ (m : MasterData). IsNewHead m c.in_ok-new.new) (sym c.core.view_is) (made g t)

  left_is : left ≡ turned_data c.args.core.now
  left_is =
      (λ i. record w {
        head = c.put.ensures.put i;
        closed = images g s i;
        next = w.next + 1;
        pass = (c.mark.ensures
            ∙ ap (λ (x : Bool). option_map (λ (p : Pass). record p { is_committing = x }) w.pass) ready) i;
        waiting = items g s i;
        failover = c.begin_opening.ensures i;
        ledger = c.ledger_of_turn-core-inside.ensures i;
      })
      ∙ turned_is w (core g s) (next g s) c.in_ok-new.new made_w
      ∙ ap turned_data c.core.view_is

  turned_now : IsCore left
  turned_now =
      subst IsCore (sym left_is)
      (turning_core (d g t) (f g t) c.requires.running c.requires.next c.requires.served (may g t) (new g t) (made g t)
      (valid g t))

  room : IsSome c.put.new.head.roll → length c.reserve.new.self.images < c.reserve.new.self.room
  room some =
      let enough = c.in_ok-reserve.ensures.ok in
      let same = ap (λ (xs : List Image). length xs) (images g s) in
      omega (arith, enough, same)

  victims : c.victims_of_commit-victims.result
      ≡ (if c.is_ready-is_commit.result then length (victims_of c.core.inside.pass) else 0)
  victims = c.victims_of_commit-victims.ensures
      ∙ ap (λ (m : MasterData). if is_ready m then length (victims_of m.pass) else 0) (sym c.core.view_is)
      ∙ ap (λ (x : Bool). if x then length (victims_of c.core.inside.pass) else 0) (sym ready)

pub invariant_of-core-then-not-is_taken : goal.invariant_of-core-then-not-is_taken
invariant_of-core-then-not-is_taken g c =
    let k = (goal.at.invariant_of-core-then-not-is_taken g c).After-ledger_of_turn-core-inside in (
      λ some. room g k some,
      sizes g (s g k),
      turned_now g k,
      rw (c.mark.ensures) (marked_room c.core.inside.pass c.is_ready-is_commit.result c.victims_of_commit-victims.result
          _ _ (victims g k) (let enough = c.in_ok-reserve-2.ensures.ok in
          let same = ap length c.reserve-2.ensures.items in omega (arith, enough, same))),
      none_right _ _ _ _ c.clear.ensures,
    )

pub invariant_of-core-else-not-is_taken : goal.invariant_of-core-else-not-is_taken
invariant_of-core-else-not-is_taken g c =
    let k = (goal.at.invariant_of-core-else-not-is_taken g c).After-ledger_of_turn-core-inside in (
      λ some. room g k some,
      sizes g (s g k),
      turned_now g k,
      rw (c.mark.ensures) (marked_room c.core.inside.pass c.is_ready-is_commit.result c.victims_of_commit-victims.result
          _ _ (victims g k) (let enough = c.in_ok-reserve-2.ensures.ok in
          let same = ap length c.reserve-2.ensures.items in omega (arith, enough, same))),
      none_right _ _ _ _ c.clear.ensures,
    )

-- ---- nobody knows whether it was

module _ (g : given.Over) (c : goal.After-ledger_of_turn-core-inside g) where
  abbrev after : FleetState
  after = g.F.Fleet.state c.open_first.new.fleet

  -- as its answer says
  told : (x : Bool) → c.in_ok-is_taken.is_taken ≡ x
      → OpensFirst (f g (t g c)) (b g (t g c))
      (first_open (d g (t g c)).config.master (d g (t g c)).next (new g (t g c))) (Ok x)
      (g.F.Fleet.state c.open_first.new.fleet)
  told x is =
      subst (λ (y : ℕ × OpValue). OpensFirst (f g (t g c)) y.0 y.1 (Ok x) after)
      (λ i. (backup g (t g c) i, handed g (t g c) i))
      (subst (λ (z : Bool). OpensFirst (f g (t g c)) c.home-backup.result
      (first_open c.master.result c.core.inside.next_id c.in_ok-new.new) (Ok z) after) is c.in_ok-is_taken.ensures)

pub returns-then-not-is_taken-clause-refused : goal.returns-then-not-is_taken-clause-refused
returns-then-not-is_taken-clause-refused g c =
    let k = (goal.at.returns-then-not-is_taken-clause-refused g c).After-ledger_of_turn-core-inside in
    let a = t g k in
    let is = c.halt-then-not-is_taken.ensures.halted ∙ ap halted (left_is g k) in
    rw (is)
    (inr (
      mend_passed (d g a) c.requires.running (mend_fails (d g a) push.Turn c.requires.next),
      inr (inl (turn_faults (d g a) (f g a) c.requires.running c.requires.next c.requires.served (may g a) (new g a)
          (made g a) (valid g a) (after g k) (told g k false c.if-not-is_taken.true))),
    ))

pub returns-then-not-is_taken-clause-served : goal.returns-then-not-is_taken-clause-served
returns-then-not-is_taken-clause-served g c =
    let k = (goal.at.returns-then-not-is_taken-clause-served g c).After-ledger_of_turn-core-inside in
    let a = t g k in
    let is = c.halt-then-not-is_taken.ensures.halted ∙ ap halted (left_is g k) in
    subst (λ (x : MasterData). StaysServed (d g a) (f g a) x (after g k)) (sym is)
    (turn_halts (d g a) (f g a) c.requires.running c.requires.next c.requires.served (may g a) (new g a)
    (made g a) (valid g a) (after g k) (told g k false c.if-not-is_taken.true))

-- ---- it was taken

pub opened-requires : goal.opened-requires
opened-requires g c =
    let k = (goal.at.opened-requires g c).After-ledger_of_turn-core-inside in
    let a = t g k in
    subst (λ (m : MasterData). IsNextOpen m 0) (sym (left_is g k))
    (turned_next (d g a) (served_core (d g a) (f g a) c.requires.served) c.requires.next)

pub returns-clause-accepted : goal.returns-clause-accepted
returns-clause-accepted g c =
    let k = (goal.at.returns-clause-accepted g c).After-ledger_of_turn-core-inside in
    let a = t g k in
    let is : c.opened.new.core ≡ mended_data (d g a) push.Turn =
    c.opened.ensures.opened ∙ ap (λ (m : MasterData). opened_more m 0) (left_is g k) in
    let own = subst IsCore is c.opened.ensures.valid in
    rw (is, backup g a, id g a)
    (turn_mends (d g a) (f g a) c.requires.running c.requires.next c.requires.served (may g a) (new g a)
    (made g a) (valid g a) own (after g k) (told g k true c.if-not-is_taken.false))

pub returns-clause-served : goal.returns-clause-served
returns-clause-served g c =
    let k = (goal.at.returns-clause-served g c).After-ledger_of_turn-core-inside in
    let a = t g k in
    let is : c.opened.new.core ≡ mended_data (d g a) push.Turn =
    c.opened.ensures.opened ∙ ap (λ (m : MasterData). opened_more m 0) (left_is g k) in
    subst (λ (x : MasterData). StaysServed (d g a) (f g a) x (after g k)) (sym is)
    (turn_mended (d g a) (f g a) c.requires.running c.requires.next c.requires.served (may g a) (new g a)
    (made g a) (valid g a) (subst IsCore is c.opened.ensures.valid) (after g k)
    (told g k true c.if-not-is_taken.false))
