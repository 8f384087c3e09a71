-- The op that comes next, taken or not, keeps what holds of a master.
use Rattle.std.proofs.Common.{◌≡◌, ℕ, suc, ◌⊎◌, ◌<◌, inl, inr, Bool, true, false, List, [], ◌∷◌, length, refl, sym}
use Rattle.std.proofs.Common.{ap, subst, ◌∙◌, arith}
use Rattle.std.specs.Prelude.{Option, Some, None, IfSome, IsSome, ◌==◌, if◌then◌else◌}
use Rattle.std.specs.Option.{option_map_or}
use Rattle.std.proofs.lemmas.Bool.{eqb-true}
use Rattle.std.proofs.lemmas.Option.{slice_get_within}
use Rattle.master_core.specs.cleaner.declared.pass.Pass.{Pass as OpenPass}
use Rattle.entry.specs.Bag.{IsAmong}
use Rattle.replica.specs.Op.{OpValue}
use Rattle.replica.specs.Picture.{FleetState}
use Rattle.replica.specs.Take.{Takes}
use Rattle.log_head.specs.declared.head.Roll.{Roll}
use Rattle.log_head.specs.declared.next.Next.{Next}
use Rattle.log_head.specs.declared.next.Next.TheVariants as next
use Rattle.log_head.specs.Log.{start_of}
use Rattle.log_head.specs.Next.{IsNextPush, replica_of, segment_of}
use Rattle.log_head.specs.Steps.{with_new_replica}
use Rattle.log_head.proofs.Rolls.{rolls}
use Rattle.log_head.specs.log_laws.Heads.{Start}
use Rattle.log_head.specs.log_laws.Ids.{has}
use Rattle.log_head.specs.log_laws.Ops.{op_of}
use Rattle.master_core.specs.log_laws.Data.{Mode, Calm, FailData, IsHome}
use Rattle.master_core.specs.log_laws.Log.{Texts, IsLogHeld}
use Rattle.master_core.specs.log_laws.Shown.{Shown}
use Rattle.master_core.specs.log_laws.Text.{Replica}
use Rattle.master_core.specs.log_laws.Steps.{ended, EndsRoll}
use Rattle.master_core.proofs.log_laws.Lists.{some_is}
use Rattle.master_core.proofs.log_laws.Replicas.{head_only}
use Rattle.master_core.specs.log_bytes.Ops.{log_op_for}
use Rattle.master_core.specs.log_memory.Fleet.{read_of}
use Rattle.master_core.specs.log_memory.Memory.{Spot, FailMemory}
use Rattle.master_core.specs.log_memory.Ops.{IsHeadOp}
use Rattle.master_core.specs.log_memory.Steps.{finished}
use Rattle.master_core.specs.master_state.declared.ledger.Posting.{Posting}
use Rattle.master_core.specs.master_state.declared.ledger.Posting.TheVariants as posting
use Rattle.master_core.specs.master_state.declared.waiting.Waiting.{Waiting}
use Rattle.master_core.specs.master_state.Budget.{victims_of, is_committing}
use Rattle.master_core.specs.master_state.Data.{MasterData}
use Rattle.master_core.specs.master_state.Invariant.{AreApart, IsOpenPass, IsCore}
use Rattle.master_core.specs.master_state.Ledger.{ended_with}
use Rattle.master_core.specs.master_state.Log.{log_of, memory_of}
use Rattle.master_core.specs.master_state.Steps.{pass_ended, roll_ended, backup_of, pushed_data}
use Rattle.master_core.proofs.master_state.Imaging.{same_id, same_roll}
use Rattle.master.specs.Placed.{IsPlaced}
use Rattle.master.specs.Pushes.{IsNextOp, answer_of}
use Rattle.master.proofs.Counting.{AreUnfailed, held_unfailed}
use Rattle.master.proofs.Ended.{segments_in, same_model, rolled_model, apart_then, ended_model}
use Rattle.master.proofs.Handed.{taken_size, handed_kept}
use Rattle.master.proofs.Lasting.{Lasts, IsKeptAs}
use Rattle.master.proofs.Models.{IsModel, own_holds}
use Rattle.master.proofs.NextOps.{act_now, push_op, WholeOnceShut, first_told, extends, next_told}
use Rattle.master.proofs.NextOps.{new_mid, opens_new, new_after}
use Rattle.master.proofs.NextOps.{no_roll, old_mid, old_posts, closed_one, closed_at, closes, ends, old_more, old_last}
use Rattle.master.proofs.NextOps.{old_is}
use Rattle.master.proofs.Placing.{core_within, core_left}
use Rattle.master.proofs.PushedPlaces.{pushed_placed}
use Rattle.master.proofs.PushedRest.{same_rest}

-- ---- what is shown of the data after a push

-- The log is what the op led to, or with the last op of a roll that has ended; memory is the model's, and nothing waits
-- twice.
pub record IsCounted (d e : MasterData) (mid : FailData) : Type 0 where
  pub log : log_of e ≡ mid
  pub model : IsModel e (memory_of d)
  pub waiting : e.waiting ≡ d.waiting

pub record IsRolled (d e : MasterData) (mid : FailData) : Type 0 where
  pub n : Start
  pub ends : EndsRoll mid n Calm
  pub log : log_of e ≡ ended mid n Calm
  pub ordinary : is_committing d ≡ false
  pub model : IsModel e (memory_of d)
  pub waiting : e.waiting ≡ d.waiting

pub record IsCommitted (d e : MasterData) (mid : FailData) : Type 0 where
  pub n : Start
  pub ends : EndsRoll mid n Calm
  pub log : log_of e ≡ ended mid n Calm
  pub pass : OpenPass
  pub opened : d.pass ≡ Some pass
  pub commits : is_committing d ≡ true
  pub model : IsModel e (finished mid (memory_of d))
  pub apart : AreApart (segments_in d.waiting)
      → ((w : Spot) → IsAmong w (memory_of d).waiting → IsAmong w.segment (victims_of d.pass) → ⊥)
      → AreApart (segments_in e.waiting)

pub record IsPushed (d : MasterData) (push : Next) : Type 0 where
  pub mid : FailData
  pub op : IsHeadOp (log_of d) (push_op d push) mid
  pub after : IsCounted d (pushed_data d push) mid
      ⊎ (IsRolled d (pushed_data d push) mid ⊎ IsCommitted d (pushed_data d push) mid)

module _ (d : MasterData) (core : IsCore d) (placed_now : IsPlaced d) (calm : d.failover ≡ None)
    (unfailed : AreUnfailed d) where
  -- a commit is a roll
  no_commit : d.head.roll ≡ None → is_committing d ≡ false
  no_commit none = go d.pass core.pass where
    go : (o : Option OpenPass) → IfSome o (IsOpenPass d)
        → option_map_or (λ (p : OpenPass). p.is_committing) o false ≡ false
    go None all = refl
    go (Some p) all = by_commit p.is_committing refl where
      by_commit : (t : Bool) → p.is_committing ≡ t → p.is_committing ≡ false
      by_commit true is = absurd (let some = subst (λ (o : Option Roll). IsSome o) none (all.commits is).0 in cc)
      by_commit false is = is

  -- ---- a first head

  first_pushed : (j : ℕ) → IsNextPush d.head (Some (next.OpenFirst j)) → IsCore (pushed_data d (next.OpenFirst j))
      → IsPushed d (next.OpenFirst j)
  first_pushed j waits later =
      let e = pushed_data d (next.OpenFirst j) in
      let told = first_told d core placed_now calm unfailed j waits in
      let model = same_model d e core later refl refl (λ s. refl) refl refl refl (omega arith) in
      record {
        mid = told.0;
        op = inr (inl told.1);
        after = elim told.2 as (λ _. IsCounted d e told.0 ⊎ (IsRolled d e told.0 ⊎ IsCommitted d e told.0)) [
          | inl log ↦ inl (record { log = log; model = model; waiting = refl })
          | inr last ↦ inr (inl (record {
            n = last.0;
            ends = last.1;
            log = last.2;
            ordinary = no_commit (no_roll d core placed_now calm unfailed j waits);
            model = model;
            waiting = refl;
          }))
        ];
      }

  extend_pushed : WholeOnceShut d → (j : ℕ) → IsNextPush d.head (Some (next.Extend j))
      → IsCore (pushed_data d (next.Extend j)) → IsPushed d (next.Extend j)
  extend_pushed whole j waits later =
      let e = pushed_data d (next.Extend j) in
      record {
        mid = log_of e;
        op = inl (extends d core placed_now calm unfailed waits.0 whole j waits).extends;
        after = inl (record {
          log = refl;
          model = same_model d e core later refl refl (λ s. refl) refl refl refl (omega arith);
          waiting = refl;
        });
      }

  -- ---- a roll goes on

  -- what a roll has opened or closed changes no image
  roll_model : (r : Roll) → d.head.roll ≡ Some r → (opened closed : ℕ) (ps : List Posting)
      → IsCore (record d {
        head = record d.head { roll = Some (record r { opened = opened; closed = closed }) };
        ledger = ps;
      })
      → IsModel (record d {
        head = record d.head { roll = Some (record r { opened = opened; closed = closed }) };
        ledger = ps;
      }) (memory_of d)
  roll_model r rolls opened closed ps later =
      let q : Roll = record r { opened = opened; closed = closed } in
      let e : MasterData = record d { head = record d.head { roll = Some q }; ledger = ps } in
      same_model d e core later refl refl (same_roll d.head d.closed r q rolls refl refl) refl refl refl (omega arith)

  new_pushed : (j : ℕ) → IsNextPush d.head (Some (next.OpenNew j)) → IsCore (pushed_data d (next.OpenNew j))
      → IsPushed d (next.OpenNew j)
  new_pushed j waits later =
      let r = waits.1 in
      let ps = posting.Took (segment_of d.head (next.OpenNew j)) (backup_of d (next.OpenNew j)) ∷ d.ledger in
      let mid = new_mid d core placed_now calm unfailed waits.0.opened j waits in
      let e : MasterData = record d { head = with_new_replica d.head r; ledger = ps } in
      let is : pushed_data d (next.OpenNew j) ≡ e =
      ap (λ (o : Option Roll). option_map_or
      (λ (q : Roll). record d { head = with_new_replica d.head q; ledger = ps }) o (record d { ledger = ps }))
      waits.2 in
      record {
        mid = mid;
        op = inr (inl (opens_new d core placed_now calm unfailed waits.0.opened j waits));
        after = inl (subst (λ (x : MasterData). IsCounted d x mid) (sym is) (record {
          log = ap log_of (sym is) ∙ new_after d core placed_now calm unfailed waits.0.opened j waits;
          model = roll_model r waits.2 (suc r.opened) r.closed ps (subst IsCore is later);
          waiting = refl;
        }));
      }

  -- ---- and ends

  module _ (j : ℕ) (waits : IsNextPush d.head (Some (next.CloseOld j))) where
    abbrev r : Roll
    r = waits.1

    abbrev mid : FailData
    mid = old_mid d core placed_now calm unfailed waits.0.opened j waits

    abbrev posts : List Posting
    posts = old_posts d core placed_now calm unfailed waits.0.opened j waits

    abbrev one : List Posting → Bool → MasterData
    one = closed_one d core placed_now calm unfailed waits.0.opened j waits

    abbrev at : List Posting → Bool → MasterData
    at = closed_at d core placed_now calm unfailed waits.0.opened j waits

    abbrev rolled : MasterData
    rolled = one (posting.Ended ∷ posts) true

    abbrev After : MasterData → Type 0
    After e = IsCounted d e mid ⊎ (IsRolled d e mid ⊎ IsCommitted d e mid)

    ordinary_end : suc j ≡ d.config.replicas → log_of rolled ≡ ended mid (start_of r) Calm → is_committing d ≡ false
        → IsCore rolled → After rolled
    ordinary_end last log plain later = inr (inl (record {
      n = start_of waits.1;
      ends = ends d core placed_now calm unfailed waits.0.opened j waits last;
      log = log;
      ordinary = plain;
      model = rolled_model d core waits.1 waits.2 (posting.Ended ∷ posts) later;
      waiting = refl;
    }))

    commits_as : (p : OpenPass) → d.pass ≡ Some p → is_committing d ≡ p.is_committing
    commits_as p opened = ap (λ (o : Option OpenPass). option_map_or (λ (q : OpenPass). q.is_committing) o false) opened

    pass_end : suc j ≡ d.config.replicas → (p : OpenPass) → d.pass ≡ Some p → (t : Bool) → p.is_committing ≡ t
        → log_of (if t then pass_ended p rolled else rolled) ≡ ended mid (start_of r) Calm
        → IsCore (if t then pass_ended p rolled else rolled) → After (if t then pass_ended p rolled else rolled)
    pass_end last p opened true is log later = inr (inr (record {
      n = start_of waits.1;
      ends = ends d core placed_now calm unfailed waits.0.opened j waits last;
      log = log;
      pass = p;
      opened = opened;
      commits = commits_as p opened ∙ is;
      model = ended_model d core waits.1 waits.2 (posting.Ended ∷ posts) placed_now p opened is mid refl refl;
      apart = apart_then d core waits.1 waits.2 (posting.Ended ∷ posts) placed_now p opened is mid refl refl;
    }))
    pass_end last p opened false is log later = ordinary_end last log (commits_as p opened ∙ is) later

    roll_end : suc j ≡ d.config.replicas → (o : Option OpenPass) → d.pass ≡ o
        → log_of (roll_ended o rolled) ≡ ended mid (start_of r) Calm
        → IsCore (roll_ended o rolled) → After (roll_ended o rolled)
    roll_end last None none log later =
        ordinary_end last log
        (ap (λ (o : Option OpenPass). option_map_or (λ (q : OpenPass). q.is_committing) o false) none) later
    roll_end last (Some p) opened log later = pass_end last p opened p.is_committing refl log later

    close_end : (t : Bool) → (suc j == d.config.replicas) ≡ t → IsCore (at (ended_with t posts) t)
        → After (at (ended_with t posts) t)
    close_end true is later =
        roll_end (eqb-true (suc j) d.config.replicas is) d.pass refl
        (old_last d core placed_now calm unfailed waits.0.opened j waits) later
    close_end false is later = inl (record {
      log = old_more d core placed_now calm unfailed waits.0.opened j waits;
      model = roll_model waits.1 waits.2 waits.1.opened (suc waits.1.closed) posts later;
      waiting = refl;
    })

    old_pushed : IsCore (pushed_data d (next.CloseOld j)) → IsPushed d (next.CloseOld j)
    old_pushed later =
        let is = old_is d core placed_now calm unfailed waits.0.opened j waits in
        record {
          mid = mid;
          op = inr (inr (inr (inr (closes d core placed_now calm unfailed waits.0.opened j waits))));
          after = subst After (sym is) (close_end (suc j == d.config.replicas) refl (subst IsCore is later));
        }

  -- ---- each push

  pub is_pushed : WholeOnceShut d → (push : Next) → IsNextPush d.head (Some push) → IsCore (pushed_data d push)
      → IsPushed d push
  is_pushed whole (next.OpenFirst j) waits later = first_pushed j waits later
  is_pushed whole (next.Extend j) waits later = extend_pushed whole j waits later
  is_pushed whole (next.OpenWhole j) waits later = absurd waits
  is_pushed whole (next.OpenNew j) waits later = new_pushed j waits later
  is_pushed whole (next.CloseOld j) waits later = old_pushed j waits later

-- ---- what the backups hold

-- once the head is closed on a home, some replica of a new head is there, and so each home has all units
pub shut_whole : (d : FailData) (texts : Texts) (p : Shown) → IsLogHeld d texts p → (b : ℕ)
    → IsHome d d.head.start.id b → has d.shut b ≡ true → d.counts b ≡ length d.head.units
shut_whole d texts p held b home shut =
    let there = some_is (p.holds b d.head.start.id) (held.mirrored.head b home.0) in
    let closed = held.mirrored.shut b there.0 shut there.1 in
    let new = ((head_only d texts p held.logged held.mirrored b there.0 there.1).shut closed).1 in
    let first = first_of (d.took new.n.id) (let some = held.some in let all = new.opened in omega arith) in
    let holds = held.mirrored.new new.n first.0 new.is_new first.1 in
    held.mirrored.whole new.n first.0 b new.is_new (subst (λ (o : Option Replica). IsSome o) (sym holds) refl) home
  where
    first_of : (bs : List ℕ) → 0 < length bs → (c : ℕ) × (has bs c ≡ true)
    first_of [] some = absurd (omega arith)
    first_of (c ∷ bs) some = (c, (let own = same_id c in rw own refl))

-- a push is for one of the replicas that there should be
pub few_for : (d : MasterData) → IsCore d → (push : Next) → IsNextPush d.head (Some push)
    → replica_of push < d.config.replicas
few_for d core (next.OpenFirst j) waits = (let lt = waits.1 in let same = core.replicas in omega arith)
few_for d core (next.Extend j) waits =
    let lt = slice_get_within d.head.taken j waits.1.0 waits.1.1 in
    let all = waits.0 in
    let same = core.replicas in
    omega arith
few_for d core (next.OpenWhole j) waits = absurd waits
few_for d core (next.OpenNew j) waits = (let lt = waits.4 in let same = core.replicas in omega arith)
few_for d core (next.CloseOld j) waits =
    let lt = (rolls d.head waits.1 core.head waits.2).closed in
    let at = waits.3 in
    let same = core.replicas in
    omega arith

-- ---- the op

-- What ends with a commit, of a master that has an open pass.
pub record EndsPass (Holds : FailData → FailMemory → FleetState → Type 0) (d : MasterData) : Type 0 where
  pub finish : (p : OpenPass) → d.pass ≡ Some p → (l : FailData) (m : FailMemory) (g : FleetState) (n : Start)
      (mode : Mode) → Holds l m g → EndsRoll l n mode → m.commits ≡ true → Holds (ended l n mode) (finished l m) g
  -- no victim waits already
  pub gone : (p : OpenPass) → d.pass ≡ Some p → (w : Spot) → IsAmong w (memory_of d).waiting
      → IsAmong w.segment (victims_of d.pass) → ⊥

module _ {Holds : FailData → FailMemory → FleetState → Type 0} (lasts : Lasts Holds) (d : MasterData)
    (push : Next) (f : FleetState) (kept : IsKeptAs Holds d f) (calm : d.failover ≡ None)
    (waits : IsNextPush d.head (Some push)) where
  abbrev backup : ℕ
  backup = backup_of d push

  abbrev bytes : OpValue
  bytes = op_of d.config.master (log_op_for d.config.master backup (segment_of d.head push) (act_now d push))

  -- the log's texts are held
  abbrev held : (texts : Texts) × IsLogHeld (log_of d) texts (read_of (log_of d) f)
  held = lasts.held (log_of d) (memory_of d) f kept.holds

  pub unfailed : AreUnfailed d
  unfailed = held_unfailed d held.0 (read_of (log_of d) f) held.1

  pub whole_once : WholeOnceShut d
  whole_once = shut_whole (log_of d) held.0 (read_of (log_of d) f) held.1

  pub told : IsNextOp d (push_op d push) (answer_of push backup (segment_of d.head push)) (log_of (pushed_data d push))
  told = next_told d kept.core kept.placed calm unfailed whole_once push waits

  -- it is on a backup that there is and that hasn't failed
  few : replica_of push < d.config.replicas
  few = few_for d kept.core push waits

  pub within : backup < d.config.backups
  within = core_within d kept.core (segment_of d.head push) (replica_of push) few

  pub works : has d.failed backup ≡ false
  works = core_left d kept.core (segment_of d.head push) (replica_of push) few

  module _ (passing : EndsPass Holds d) (core : IsCore (pushed_data d push)) (g : FleetState)
      (takes : Takes f backup bytes g) where
    abbrev e : MasterData
    e = pushed_data d push

    is : IsPushed d push
    is = is_pushed d kept.core kept.placed calm unfailed whole_once push waits core

    -- what holds once the op is taken
    then_holds : Holds is.mid (memory_of d) g
    then_holds = lasts.take (log_of d) is.mid (memory_of d) f g (push_op d push) kept.holds is.op within takes

    own : (m : FailMemory) (l : FailData) → log_of e ≡ l → Holds l m g → IsModel e m → Holds (log_of e) (memory_of e) g
    own m l same there model =
        own_holds lasts e core m g (subst (λ (x : FailData). Holds x m g) (sym same) there) model

    still_apart : e.waiting ≡ d.waiting → AreApart (segments_in e.waiting)
    still_apart same = subst (λ (ws : List Waiting). AreApart (segments_in ws)) (sym same) kept.apart

    after : Holds (log_of e) (memory_of e) g × AreApart (segments_in e.waiting)
    after = elim is.after as (λ _. Holds (log_of e) (memory_of e) g × AreApart (segments_in e.waiting)) [
      | inl a ↦ (own (memory_of d) is.mid a.log then_holds a.model, still_apart a.waiting)
      | inr (inl a) ↦ (
        own (memory_of d) (ended is.mid a.n Calm) a.log
            (lasts.ends is.mid (memory_of d) g a.n Calm then_holds a.ends a.ordinary) a.model,
        still_apart a.waiting,
      )
      | inr (inr a) ↦ (
        own (finished is.mid (memory_of d)) (ended is.mid a.n Calm) a.log
            (passing.finish a.pass a.opened is.mid (memory_of d) g a.n Calm then_holds a.ends a.commits) a.model,
        a.apart kept.apart (passing.gone a.pass a.opened),
      )
    ]

    pub taken_kept : IsKeptAs Holds (pushed_data d push) g
    taken_kept =
        handed_kept d (pushed_data d push) f g kept (taken_size f backup bytes g takes.1) core
        (pushed_placed d kept.core kept.placed calm unfailed push waits core) (same_rest d push).0 after.1 after.0
