-- A push of a failover that is taken keeps what holds of a master, and of one that is loading.
use Rattle.std.proofs.Common.{◌≡◌, ℕ, inl, inr, refl, sym, ap, subst, ◌∙◌}
use Rattle.entry.specs.Bag.{IsAmong}
use Rattle.entry.proofs.BagLemmas.{among_left}
use Rattle.replica.specs.Picture.{FleetState}
use Rattle.master_core.specs.log_laws.Data.{Repairs, FailData}
use Rattle.master_core.specs.log_laws.Log.{Texts, IsLogHeld}
use Rattle.master_core.specs.log_laws.Runs.{IsThere}
use Rattle.master_core.specs.log_laws.Shown.{Op, On, Raise}
use Rattle.master_core.specs.log_laws.Steps.{ended, mended, ids_now}
use Rattle.master_core.specs.log_bytes.Ops.{TakesOp, log_op_for}
use Rattle.master_core.specs.log_bytes.Text.{entries_for}
use Rattle.master_core.specs.log_memory.Fleet.{read_of, HoldsAll, HoldsLoading}
use Rattle.master_core.specs.log_memory.Loading.{IsLoadingOp}
use Rattle.master_core.specs.log_memory.Memory.{FailMemory, AreImages, text_in, log_ids}
use Rattle.master_core.specs.log_memory.Steps.{finished}
use Rattle.master_core.proofs.log_memory.FleetAnswers.{ok_holds_all}
use Rattle.master_core.proofs.log_memory.FleetSteps.{mend_holds_all}
use Rattle.master_core.proofs.log_memory.Ids.{now_others}
use Rattle.master_core.proofs.log_memory.LoadingFleets.{ok_holds_loading, repair_holds_loading, mend_holds_loading}
use Rattle.master_core.proofs.log_memory.TextsIn.{image_text}
use Rattle.log_head.specs.log_laws.Ops.{op_of}
use Rattle.master_core.specs.master_failover.declared.push.Push.{Push}
use Rattle.master_core.specs.master_failover.declared.push.Push.TheVariants as push
use Rattle.master_core.specs.master_failover.Mending.{IsNextMend, IsLater, IsOnReplica, mended_data, backup_for}
use Rattle.master_core.specs.master_failover.Mending.{segment_for}
use Rattle.master_core.specs.master_failover.Mending.{replica_for}
use Rattle.master_core.specs.master_state.Data.{MasterData}
use Rattle.master_core.specs.master_state.Invariant.{AreApart, IsCore}
use Rattle.master_core.specs.master_state.Log.{images_of, log_of, memory_of}
use Rattle.master.specs.Pushes.{IsMended}
use Rattle.master.proofs.Counting.{held_unfailed}
use Rattle.master.proofs.Ended.{segments_in}
use Rattle.master.proofs.Handed.{IsSameSize, taken_size, raised_size, handed_kept}
use Rattle.master.proofs.Lasting.{Lasts, all_lasts, loading_lasts, IsKeptAs}
use Rattle.master.proofs.MendEnds.{IsLimited, MayMend, IsMendPush}
use Rattle.master.proofs.MendOps.{mend_op, mend_act}
use Rattle.master.proofs.MendPushes.{mend_push, few_for_mend}
use Rattle.master.proofs.MendedRest.{mended_rest}
use Rattle.master.proofs.Models.{IsModel, own_holds}
use Rattle.master.proofs.Placing.{core_within}
use Rattle.master.proofs.Pushed.{EndsPass, shut_whole}

-- Laws of what holds of a log, its memory and the fleet, in a failover.
pub record LastsOn (Holds : FailData → FailMemory → FleetState → Type 0) : Type 0 where
  pub lasts : Lasts Holds
  -- an op is taken, be it a repair
  pub take : (d e : FailData) (m : FailMemory) (f g : FleetState) (o : Op) → Holds d m f → IsLoadingOp d m o e
      → IsThere d.config o → TakesOp d.config.master f o g → Holds e m g
  -- the failover ends
  pub mend : (d : FailData) (m : FailMemory) (f : FleetState) → Holds d m f → d.mode ≡ Repairs → Holds (mended d) m f
  -- an image is what its text begins with, and then objects and tombstones
  pub images : (d : FailData) (m : FailMemory) (f : FleetState) → Holds d m f → (texts : Texts) × AreImages d m texts

pub all_on : LastsOn HoldsAll
all_on = record {
  lasts = all_lasts;
  take = λ d e m f g o holds op there took. by_op d e m f g o holds op there took;
  mend = mend_holds_all;
  images = λ d m f holds. (holds.keeps.intact.log.texts, holds.keeps.intact.images);
} where
  by_op : (d e : FailData) (m : FailMemory) (f g : FleetState) (o : Op) → HoldsAll d m f → IsLoadingOp d m o e
      → IsThere d.config o → TakesOp d.config.master f o g → HoldsAll e m g
  by_op d e m f g o holds (inl head) there took = ok_holds_all d e m m f g o holds (inl (head, refl)) there took
  by_op d e m f g o holds (inr repair) there took =
      ok_holds_all d e m m f g o holds (inr (inr (inl (repair, refl)))) there took

pub loading_on : LastsOn HoldsLoading
loading_on = record {
  lasts = loading_lasts;
  take = λ d e m f g o holds op there took. by_op d e m f g o holds op there took;
  mend = mend_holds_loading;
  images = λ d m f holds. (holds.loading.texts, holds.loading.images);
} where
  by_op : (d e : FailData) (m : FailMemory) (f g : FleetState) (o : Op) → HoldsLoading d m f → IsLoadingOp d m o e
      → IsThere d.config o → TakesOp d.config.master f o g → HoldsLoading e m g
  by_op d e m f g o holds (inl head) there took = ok_holds_loading d e m f g o holds head there took
  by_op d e m f g o holds (inr repair) there took = repair_holds_loading d e m f g o holds repair there took

module _ {Holds : FailData → FailMemory → FleetState → Type 0} (on : LastsOn Holds) (d : MasterData)
    (f : FleetState) (kept : IsKeptAs Holds d f) where
  abbrev held : (texts : Texts) × IsLogHeld (log_of d) texts (read_of (log_of d) f)
  held = on.lasts.held (log_of d) (memory_of d) f kept.holds

  -- memory has of a segment of the digest just a text with its header
  texts_are : (s : ℕ) → IsAmong s (log_of d).head.start.others
      → entries_for d.config.master s (text_in (memory_of d) s) ≡ images_of d s
  texts_are s other =
      let has = on.images (log_of d) (memory_of d) f kept.holds in
      let counts : IsAmong s (log_ids (log_of d) (memory_of d)) =
      among_left s (ids_now (log_of d).head.start) _
      (now_others (log_of d).head.start s held.1.logged.head.below other) in
      let is = has.1 s counts in
      ap (entries_for d.config.master s) (image_text d.config.master s (has.0.text s) (images_of d s) is) ∙ sym is

  pub may_mend : (m : Push) → IsNextMend d m → IsLimited d m → MayMend d m
  may_mend m next limited = record {
    core = kept.core;
    placed = kept.placed;
    unfailed = held_unfailed d held.0 (read_of (log_of d) f) held.1;
    shut = shut_whole (log_of d) held.0 (read_of (log_of d) f) held.1;
    next = next;
    limited = limited;
    texts = texts_are;
  }

  -- ---- the op is taken

  module _ (m : Push) (may : MayMend d m) (later : IsLater m) (passing : EndsPass Holds d)
      (core : IsCore (mended_data d m)) (g : FleetState) (takes : TakesOp d.config.master f (mend_op d m) g) where
    abbrev e : MasterData
    e = mended_data d m

    is : IsMendPush d m
    is = mend_push d m may later

    there_on : (x : Push) → IsNextMend d x → IsOnReplica x
        → IsThere (log_of d).config (On (backup_for d x) (segment_for d x) (mend_act d x))
    there_on x next is_on =
        core_within d kept.core (segment_for d x) (replica_for x) (few_for_mend d x kept.core next is_on)

    there : (x : Push) → IsNextMend d x → IsLater x → IsThere (log_of d).config (mend_op d x)
    there (push.Head n) next later = there_on (push.Head n) next tt
    there push.Turn next later = absurd later
    there (push.Raise id) next later = tt
    there (push.Repair s j) next later = there_on (push.Repair s j) next tt

    size_of : (o : Op) → TakesOp d.config.master f o g → IsSameSize f g
    size_of (On b s act) took = taken_size f b (op_of d.config.master (log_op_for d.config.master b s act)) g took.1
    size_of (Raise id) took = raised_size f d.config.master id g took

    then_holds : Holds is.mid (memory_of d) g
    then_holds =
        on.take (log_of d) is.mid (memory_of d) f g (mend_op d m) kept.holds is.op (there m may.next later) takes

    -- the failover may have ended with it
    mended_holds : (l x : FailData) (mem : FailMemory) → IsMended l x → Holds l mem g → Holds x mem g
    mended_holds l x mem (inl same) holds = subst (λ (y : FailData). Holds y mem g) (sym same) holds
    mended_holds l x mem (inr ends) holds =
        subst (λ (y : FailData). Holds y mem g) (sym ends.2) (on.mend l mem g holds ends.0)

    own : (mem : FailMemory) (l : FailData) → IsMended l (log_of e) → Holds l mem g → IsModel e mem
        → Holds (log_of e) (memory_of e) g
    own mem l log holds model = own_holds on.lasts e core mem g (mended_holds l (log_of e) mem log holds) model

    still_apart : e.waiting ≡ d.waiting → AreApart (segments_in e.waiting)
    still_apart same = subst (λ (ws : _). AreApart (segments_in ws)) (sym same) kept.apart

    after : Holds (log_of e) (memory_of e) g × AreApart (segments_in e.waiting)
    after = elim (is.after core) as (λ _. Holds (log_of e) (memory_of e) g × AreApart (segments_in e.waiting)) [
      | inl a ↦ (own (memory_of d) is.mid a.log then_holds a.model, still_apart a.waiting)
      | inr (inl a) ↦ (
        own (memory_of d) (ended is.mid a.n Repairs) a.log
            (on.lasts.ends is.mid (memory_of d) g a.n Repairs then_holds a.ends a.ordinary) a.model,
        still_apart a.waiting,
      )
      | inr (inr a) ↦ (
        own (finished is.mid (memory_of d)) (ended is.mid a.n Repairs) a.log
            (passing.finish a.pass a.opened is.mid (memory_of d) g a.n Repairs then_holds a.ends a.commits) a.model,
        a.apart kept.apart (passing.gone a.pass a.opened),
      )
    ]

    pub mended_kept : IsKeptAs Holds (mended_data d m) g
    mended_kept =
        handed_kept d (mended_data d m) f g kept (size_of (mend_op d m) takes) core is.placed (mended_rest d m).0
        after.1 after.0
