-- What a fleet holds of a master that is loading.
use Rattle.std.proofs.Common.{◌≡◌, ℕ, inl, inr, [], refl, sym, ap, subst, ◌∙◌}
use Rattle.std.proofs.lemmas.Option.{same_Some}
use Rattle.replica.specs.Picture.{FleetState, shown_of}
use Rattle.log_bytes.specs.log_laws.Shown.{Shown as ModelShown, Op}
use Rattle.log_bytes.specs.log_laws.Data.{FailConfig, FailData}
use Rattle.log_bytes.specs.log_laws.Runs.{IsThere, IsFaulted}
use Rattle.log_bytes.specs.log_laws.Steps.{with_taken, next_start, adopted, ended, failing, Reseals}
use Rattle.log_bytes.proofs.log_laws.Runs.{elsewhere}
use Rattle.log_bytes.specs.Keeping.{IsFreedThere, IsAsked}
use Rattle.log_bytes.specs.Runs.{read_fleet}
use Rattle.log_bytes.specs.Segments.{HeadsAreSegments, SealsSegment, IsHeldOp}
use Rattle.log_bytes.specs.Spelled.{IsSpelled}
use Rattle.log_bytes.proofs.FleetRuns.{nothing_spelled}
use Rattle.log_bytes.proofs.Heads.{rolling_has_segments, ended_has_segments, others_have_segments}
use Rattle.log_bytes.proofs.Keeping.{ok_is_spelled, fault_is_either, held_op_is_never_wrong}
use Rattle.log_bytes.proofs.Reading.{spelled_is_read}
use Rattle.log_memory.specs.Fleet.{read_of, HoldsLoading, RestoredHoldsLoading, LoadHoldsLoading, OkHoldsLoading}
use Rattle.log_memory.specs.Fleet.{LoadingIsNeverWrong, RollHoldsLoading, EndHoldsLoading, SameHoldsLoading}
use Rattle.log_memory.specs.Fleet.{RepairHoldsLoading, RepairIsNeverWrong, FaultFailsLoading, MendHoldsLoading}
use Rattle.log_memory.specs.Fleet.{FinishedHoldsAll}
use Rattle.log_memory.specs.Acked.{AreAcked}
use Rattle.log_memory.specs.Intact.{Knows}
use Rattle.log_memory.specs.Loading.{IsLoadingOp, IsLoading}
use Rattle.log_memory.specs.Memory.{FailMemory}
use Rattle.log_memory.specs.Ops.{IsHeadOp, RepairsImage}
use Rattle.log_memory.specs.Past.{past_after}
use Rattle.log_memory.specs.Steps.{stopped}
use Rattle.log_memory.proofs.Acking.{acked_restored, acked_loaded, acked_rolling, acked_ended, acked_failing}
use Rattle.log_memory.proofs.Acking.{acked_mended}
use Rattle.log_memory.proofs.Acking.{acked_adopted, acked_forgotten, acked_on, head_acked}
use Rattle.log_memory.proofs.FleetAnswers.{head_held, head_plain, repair_acked, fault_acked}
use Rattle.log_memory.proofs.FleetSteps.{begins_new, ends_new}
use Rattle.log_memory.proofs.Knowing.{fail_knows}
use Rattle.log_memory.proofs.LoadedObjects.{load_keeps}
use Rattle.log_memory.proofs.Loading.{same_is_loading, finish_is_intact}
use Rattle.log_memory.proofs.LoadingBegins.{restored_is_loading}
use Rattle.log_memory.proofs.LoadingFails.{loading_fails, loading_mends}
use Rattle.log_memory.proofs.LoadingOps.{loading_op_keeps, loading_op_fits}
use Rattle.log_memory.proofs.LoadingRepairs.{loading_reseals, loading_repair_keeps, loading_repair_fits}
use Rattle.log_memory.proofs.LoadingRolls.{loading_roll_keeps, loading_end_keeps}
use Rattle.log_memory.proofs.SameMemories.{same_knows}

-- ---- a picture and a number that are known by equations

-- The fleet spells this picture, which stands for what was loaded.
record IsLoadingAt (master : ℕ) (d : FailData) (m : FailMemory) (f : FleetState) (p : ModelShown) : Type 0 where
  spelled : IsSpelled master (shown_of f master) p
  heads : HeadsAreSegments master d
  loading : IsLoading d m p
  acked : AreAcked master d f.acks []
  knows : Knows d m p

loading_at : (master : ℕ) (d : FailData) (m : FailMemory) (f : FleetState) (p : ModelShown) → d.config.master ≡ master
    → IsLoadingAt master d m f p → HoldsLoading d m f
loading_at master d m f p same at =
    let read = (spelled_is_read master (shown_of f master) p at.spelled).0 in
    let own = subst (λ (x : ℕ). IsLoadingAt x d m f (read_fleet x f)) (sym same)
    (subst (IsLoadingAt master d m f) (sym read) at) in
    record {
      spelled = own.spelled;
      heads = own.heads;
      loading = own.loading;
      acked = own.acked;
      knows = own.knows;
    }

-- ---- it begins, and an object is loaded

pub restored_holds_loading : RestoredHoldsLoading
restored_holds_loading c safe f begins heads =
    let is = restored_is_loading c safe (read_fleet c.master f) begins in
    record {
      spelled = nothing_spelled c.master f begins.nothing;
      heads = heads;
      loading = is.0;
      acked = acked_restored c safe f.acks;
      knows = is.1;
    }

pub load_holds_loading : LoadHoldsLoading
load_holds_loading d m f o holds may whole =
    let is = load_keeps d m (read_of d f) o holds.loading may in
    record {
      spelled = holds.spelled;
      heads = record { head = whole; new = holds.heads.new };
      loading = is.0;
      acked = acked_loaded d.config.master d f.acks [] holds.acked o holds.loading.held.logged.counted;
      knows = is.1 holds.knows;
    }

-- ---- ops

head_asked : (d e : FailData) (m : FailMemory) (f : FleetState) (o : Op) (holds : HoldsLoading d m f) → IsHeadOp d o e
    → IsAsked d.config.master d holds.loading.texts f (read_of d f) o e
head_asked d e m f o holds op = record {
  spelled = holds.spelled;
  held = holds.loading.held;
  heads = holds.heads;
  op = head_held d e holds.loading.texts (read_of d f) o op;
  seals = (head_plain d.config.master d e (read_of d f) o op).seals;
}

-- the repair, as the model has it
repair_held : (d e : FailData) (m : FailMemory) (p : ModelShown) (o : Op) (i : IsLoading d m p) → RepairsImage d m o e
    → IsHeldOp d i.texts p o e
repair_held d e m p o i is =
    let then : FailData = record d { took = with_taken d.took is.s is.b } in
    inr (inr (inr (inr (inr (inl
    (subst (λ (x : FailData). Reseals d i.texts o x) (sym is.gives)
    (subst (λ (x : Op). Reseals d i.texts x then) (sym is.op) (loading_reseals d m p i o e is))))))))

repair_asked : (d e : FailData) (m : FailMemory) (f : FleetState) (o : Op) (holds : HoldsLoading d m f)
    → RepairsImage d m o e → IsAsked d.config.master d holds.loading.texts f (read_of d f) o e
repair_asked d e m f o holds is = record {
  spelled = holds.spelled;
  held = holds.loading.held;
  heads = holds.heads;
  op = repair_held d e m (read_of d f) o holds.loading is;
  seals = subst (SealsSegment d.config.master) (sym is.op) is.whole;
}

pub ok_holds_loading : OkHoldsLoading
ok_holds_loading d e m f g o holds op there took =
    let p = read_of d f in
    let i = holds.loading in
    let then = ok_is_spelled d.config.master d e i.texts f g p o (head_asked d e m f o holds op) took in
    let fits = loading_op_fits d e m p o i holds.knows op in
    let one : fits.0 ≡ then.0 = same_Some fits.0 then.0 (sym fits.1 ∙ then.1) in
    loading_at d.config.master e m g then.0
    (ap (λ (c : FailConfig). c.master) (head_plain d.config.master d e p o op).config) (record {
      spelled = then.2;
      heads = then.3;
      loading = (loading_op_keeps d e m p then.0 o i op there then.1).1;
      acked = head_acked d.config.master d f g [] holds.acked i.texts p i.held o e op took;
      knows = subst (Knows e m) one fits.2;
    })

pub loading_is_never_wrong : LoadingIsNeverWrong
loading_is_never_wrong d e m f g o holds op on refused =
    held_op_is_never_wrong d.config.master d e holds.loading.texts f g (read_of d f) o (head_asked d e m f o holds op)
    holds.knows.log on (head_plain d.config.master d e (read_of d f) o op).freed refused

-- ---- repairs

pub repair_holds_loading : RepairHoldsLoading
repair_holds_loading d e m f g o holds is there took =
    let p = read_of d f in
    let i = holds.loading in
    let then = ok_is_spelled d.config.master d e i.texts f g p o (repair_asked d e m f o holds is) took in
    let fits = loading_repair_fits d e m p o i holds.knows is in
    let one : fits.0 ≡ then.0 = same_Some fits.0 then.0 (sym fits.1 ∙ then.1) in
    loading_at d.config.master e m g then.0 (ap (λ (x : FailData). x.config.master) is.gives) (record {
      spelled = then.2;
      heads = then.3;
      loading = (loading_repair_keeps d e m p then.0 o i is there then.1).1;
      acked = acked_on d.config.master d f g [] holds.acked i.texts p i.held o is.b is.s _ e _ is.op is.gives took
          (repair_acked d m f [] holds.acked i.texts p i.held is.s is.b is.may);
      knows = subst (Knows e m) one fits.2;
    })

pub repair_is_never_wrong : RepairIsNeverWrong
repair_is_never_wrong d e m f g o holds is on refused =
    held_op_is_never_wrong d.config.master d e holds.loading.texts f g (read_of d f) o (repair_asked d e m f o holds is)
    holds.knows.log on (subst (IsFreedThere (read_of d f)) (sym is.op) tt) refused

-- ---- a failover

asked : (d e : FailData) (m : FailMemory) (f : FleetState) (o : Op) (holds : HoldsLoading d m f) → IsLoadingOp d m o e
    → IsAsked d.config.master d holds.loading.texts f (read_of d f) o e
asked d e m f o holds (inl op) = head_asked d e m f o holds op
asked d e m f o holds (inr is) = repair_asked d e m f o holds is

-- it goes on as it was, whatever the op has done
still_loading : (d e : FailData) (m : FailMemory) (p q : ModelShown) (o : Op) → IsLoading d m p → IsLoadingOp d m o e
    → IsThere d.config o → IsFaulted p o q → IsLoading d m q
still_loading d e m p q o i op at (inl same) = subst (IsLoading d m) (sym same) i
still_loading d e m p q o i (inl op) at (inr took) = (loading_op_keeps d e m p q o i op at took).0
still_loading d e m p q o i (inr is) at (inr took) = (loading_repair_keeps d e m p q o i is at took).0

pub fault_fails_loading : FaultFailsLoading
fault_fails_loading d e m f g o b holds op at on may refused =
    let p = read_of d f in
    let i = holds.loading in
    let then = fault_is_either d.config.master d e i.texts f g p o (asked d e m f o holds op) refused in
    loading_at d.config.master (failing d b) (stopped m) g then.0 refl (record {
      spelled = then.2;
      heads = (others_have_segments d.config.master d holds.heads).1 b;
      loading = loading_fails d m then.0 b (still_loading d e m p then.0 o i op at then.1) may;
      acked = acked_failing d.config.master d g.acks [] (fault_acked d f g o [] refused holds.acked) b;
      knows = fail_knows d m p then.0 b holds.knows (elsewhere p then.0 o b on then.1);
    })

pub mend_holds_loading : MendHoldsLoading
mend_holds_loading d m f holds repairs =
    let is = loading_mends d m (read_of d f) holds.loading holds.knows repairs in
    record {
      spelled = holds.spelled;
      heads = (others_have_segments d.config.master d holds.heads).2;
      loading = is.0;
      acked = acked_mended d.config.master d f.acks [] holds.acked;
      knows = is.1;
    }

-- ---- rolls

pub roll_holds_loading : RollHoldsLoading
roll_holds_loading d m f mode holds may whole =
    let is = loading_roll_keeps d m (read_of d f) mode holds.loading may in
    let new = begins_new d.mode mode (next_start d) may.may in
    record {
      spelled = holds.spelled;
      heads = rolling_has_segments d.config.master d (next_start d) mode holds.heads new whole;
      loading = is.0;
      acked = acked_rolling d.config.master d f.acks [] holds.acked (next_start d) mode new;
      knows = is.1 holds.knows;
    }

pub end_holds_loading : EndHoldsLoading
end_holds_loading d m f n mode holds ends =
    let new = ends_new d.mode mode n ends.may in
    let is = loading_end_keeps d m (read_of d f) n mode holds.loading holds.knows ends in
    record {
      spelled = holds.spelled;
      heads = ended_has_segments d.config.master d n mode holds.heads new.0 new.1;
      loading = is.0;
      acked = acked_forgotten d.config.master (ended d n mode) f.acks (past_after d [])
          (acked_ended d.config.master d f.acks [] holds.acked n mode new.0 new.1);
      knows = is.1;
    }

-- ---- another memory, other masters

pub same_holds_loading : SameHoldsLoading
same_holds_loading d m n f same holds = record {
  spelled = holds.spelled;
  heads = holds.heads;
  loading = same_is_loading d m n (read_of d f) holds.loading same;
  acked = holds.acked;
  knows = same_knows d m n (read_of d f) holds.knows same;
}

-- ---- it finishes

pub finished_holds_all : FinishedHoldsAll
finished_holds_all d m f holds calm whole =
    let is = finish_is_intact d m (read_of d f) holds.loading holds.knows calm whole in
    record {
      keeps = record {
        spelled = holds.spelled;
        heads = (others_have_segments d.config.master d holds.heads).3 d.opening;
        intact = is.0.0;
        acked = subst (AreAcked d.config.master (adopted d d.opening) f.acks) (sym is.0.1)
            (acked_adopted d.config.master d f.acks [] holds.acked d.opening whole);
      };
      knows = is.1;
    }
