-- A fleet holds all after each step that takes no op.
use Rattle.std.proofs.Common.{◌≡◌, ℕ, zero, suc, ◌⊎◌, inl, inr, Bool, true, false, cond, List, Some, refl, sym, ap}
use Rattle.std.proofs.Common.{subst}
use Rattle.std.specs.Prelude.{None}
use Rattle.entry.specs.declared.entry.Entry.{Entry}
use Rattle.replica.specs.Picture.{FleetState}
use Rattle.log_bytes.specs.log_laws.Heads.{Start}
use Rattle.log_bytes.specs.log_laws.Memory.{Place}
use Rattle.log_bytes.specs.log_laws.ImageSteps.{is_copied}
use Rattle.log_bytes.specs.log_laws.Data.{Mode, Calm, Rolls, Mends, Opens, Closes, Repairs, FailConfig, FailData}
use Rattle.log_bytes.specs.log_laws.Data.{new_of}
use Rattle.log_bytes.specs.log_laws.Steps.{fresh, next_start, applied, rolling, ended, mended}
use Rattle.log_bytes.specs.Segments.{HeadsAreSegments}
use Rattle.log_bytes.proofs.Heads.{rolling_has_segments, ended_has_segments, others_have_segments}
use Rattle.log_bytes.proofs.Keeping.{new_holds_log}
use Rattle.log_bytes.specs.Runs.{read_fleet}
use Rattle.log_memory.specs.Fleet.{read_of, KeepsAll, HoldsAll, FreshHoldsAll, ApplyHoldsAll, CompactHoldsAll}
use Rattle.log_memory.specs.Fleet.{BeginHoldsAll, CopyHoldsAll, RollHoldsAll, CommitHoldsAll, EndHoldsAll}
use Rattle.log_memory.specs.Fleet.{FinishHoldsAll, MendHoldsAll, SameHoldsAll}
use Rattle.log_memory.specs.Acked.{AreAcked}
use Rattle.log_memory.specs.Intact.{IsIntactWith}
use Rattle.log_memory.specs.Memory.{FailMemory, log_ids}
use Rattle.log_memory.specs.Steps.{compacted, ids_taken, with_copy, copy_done}
use Rattle.log_memory.proofs.Acking.{acked_restored, acked_applied, acked_begun, acked_rolling, acked_ended}
use Rattle.log_memory.proofs.Acking.{acked_mended}
use Rattle.log_memory.proofs.Applying.{apply_keeps}
use Rattle.log_memory.proofs.Beginning.{begin_keeps}
use Rattle.log_memory.proofs.Committing.{commit_keeps, finish_keeps}
use Rattle.log_memory.proofs.Compacting.{compact_keeps}
use Rattle.log_memory.proofs.Copying.{copy_keeps}
use Rattle.log_memory.proofs.Ending.{end_keeps}
use Rattle.log_memory.proofs.Failing.{mend_keeps}
use Rattle.log_memory.proofs.KeptFleets.{holds_at}
use Rattle.log_memory.proofs.Knowing.{fresh_knows, apply_knows, waiting_knows, begin_knows, roll_knows}
use Rattle.log_memory.proofs.Knowing.{commit_knows, end_knows, finish_knows, mend_knows}
use Rattle.log_memory.proofs.NewMaster.{fresh_is_intact}
use Rattle.log_memory.proofs.Rolling.{roll_keeps}
use Rattle.log_memory.proofs.SameMemories.{same_is_intact, same_knows}

pub fresh_holds_all : FreshHoldsAll
fresh_holds_all c f begins heads =
    let is = fresh_is_intact c (read_fleet c.master f) begins in record {
      keeps = record {
        spelled = (new_holds_log c.master c f begins heads).keeps.spelled;
        heads = heads;
        intact = is.0;
        acked = subst (AreAcked c.master (fresh c) f.acks) (sym is.1) (acked_restored c 1 f.acks);
      };
      knows = fresh_knows c (read_fleet c.master f) begins;
    }

pub apply_holds_all : ApplyHoldsAll
apply_holds_all d m f segment r holds may named whole =
    let i = holds.keeps.intact in
    let is = apply_keeps d m (read_of d f) segment r i may named in record {
      keeps = record {
        spelled = holds.keeps.spelled;
        heads = record { head = whole; new = holds.keeps.heads.new };
        intact = is.0;
        acked = subst (AreAcked d.config.master (applied d segment r) f.acks) (sym is.1)
            (acked_applied d.config.master d f.acks i.past holds.keeps.acked segment r i.log.held.logged.counted);
      };
      knows = apply_knows d m (read_of d f) segment r holds.keeps.intact holds.knows may;
    }

-- ---- memory alone changes

still_all : (d : FailData) (m n : FailMemory) (f : FleetState) (holds : HoldsAll d m f)
    → IsIntactWith holds.keeps.intact.past d n (read_of d f) → n.waiting ≡ m.waiting → HoldsAll d n f
still_all d m n f holds is same = record {
  keeps = record {
    spelled = holds.keeps.spelled;
    heads = holds.keeps.heads;
    intact = is.0;
    acked = subst (AreAcked d.config.master d f.acks) (sym is.1) holds.keeps.acked;
  };
  knows = waiting_knows d m n (read_of d f) holds.knows same;
}

pub compact_holds_all : CompactHoldsAll
compact_holds_all d m f s holds may =
    still_all d m (compacted d m s) f holds (compact_keeps d m (read_of d f) s holds.keeps.intact may) refl

-- a copy leaves what waits
copy_waiting : (d : FailData) (m : FailMemory) (first : Place) (rest : List Place) (s : ℕ) (e : Entry)
    → (copy_done d m first rest s e).waiting ≡ m.waiting
copy_waiting d m first rest s e = by_test (is_copied (log_ids d m) m.index first e) where
  by_test : (b : Bool) → (cond b (with_copy m rest s e) (record m { rest = rest })).waiting ≡ m.waiting
  by_test true = refl
  by_test false = refl

pub copy_holds_all : CopyHoldsAll
copy_holds_all d m f first rest s e holds may =
    still_all d m (copy_done d m first rest s e) f holds
    (copy_keeps d m (read_of d f) first rest s e holds.keeps.intact may) (copy_waiting d m first rest s e)

pub same_holds_all : SameHoldsAll
same_holds_all d m n f same = (
  λ holds. record { keeps = keeps_then holds.keeps; knows = same_knows d m n (read_of d f) holds.knows same },
  keeps_then,
) where
  keeps_then : KeepsAll d m f → KeepsAll d n f
  keeps_then keeps =
      let is = same_is_intact d m n (read_of d f) keeps.intact same in
      record {
        spelled = keeps.spelled;
        heads = keeps.heads;
        intact = is.0;
        acked = subst (AreAcked d.config.master d f.acks) (sym is.1) keeps.acked;
      }

-- ---- a pass begins

begun_config : (d : FailData) (n : ℕ) → (ids_taken n d).config ≡ d.config
begun_config d zero = refl
begun_config d (suc n) = begun_config d n

begun_heads : (master : ℕ) (d : FailData) (n : ℕ) → HeadsAreSegments master d → HeadsAreSegments master (ids_taken n d)
begun_heads master d zero heads = heads
begun_heads master d (suc n) heads =
    (others_have_segments master (ids_taken n d) (begun_heads master d n heads)).0

pub begin_holds_all : BeginHoldsAll
begin_holds_all d m f victims count holds may =
    let i = holds.keeps.intact in
    let is = begin_keeps d m (read_of d f) victims count i may in
    holds_at d.config.master (ids_taken count d) _ f
    (ap (λ (c : FailConfig). c.master) (begun_config d count)) (record {
      spelled = holds.keeps.spelled;
      heads = begun_heads d.config.master d count holds.keeps.heads;
      intact = is.0;
      acked = subst (AreAcked d.config.master (ids_taken count d) f.acks) (sym is.1)
          (acked_begun d.config.master d f.acks i.past count holds.keeps.acked);
      knows = begin_knows d m (read_of d f) victims count holds.keeps.intact holds.knows may;
    })

-- ---- rolls

-- the new head of a roll that begins
pub begins_new : (now mode : Mode) (n : Start) → ((now ≡ Calm) × (mode ≡ Rolls n)) ⊎ ((now ≡ Mends) × (mode ≡ Opens n))
    → new_of mode ≡ Some n
begins_new now mode n (inl both) = ap new_of both.1
begins_new now mode n (inr both) = ap new_of both.1

pub roll_holds_all : RollHoldsAll
roll_holds_all d m f mode holds may whole =
    let i = holds.keeps.intact in
    let new = begins_new d.mode mode (next_start d) may.may in
    let is = roll_keeps d m (read_of d f) mode i may in record {
      keeps = record {
        spelled = holds.keeps.spelled;
        heads = rolling_has_segments d.config.master d (next_start d) mode holds.keeps.heads new whole;
        intact = is.0;
        acked = subst (AreAcked d.config.master (rolling d (next_start d) mode) f.acks) (sym is.1)
            (acked_rolling d.config.master d f.acks i.past holds.keeps.acked (next_start d) mode new);
      };
      knows = roll_knows d m (read_of d f) mode holds.keeps.intact holds.knows may;
    }

pub commit_holds_all : CommitHoldsAll
commit_holds_all d m f n mode holds may whole =
    let i = holds.keeps.intact in
    let new = begins_new d.mode mode n may.may in
    let is = commit_keeps d m (read_of d f) n mode i may in record {
      keeps = record {
        spelled = holds.keeps.spelled;
        heads = rolling_has_segments d.config.master d n mode holds.keeps.heads new whole;
        intact = is.0;
        acked = subst (AreAcked d.config.master (rolling d n mode) f.acks) (sym is.1)
            (acked_rolling d.config.master d f.acks i.past holds.keeps.acked n mode new);
      };
      knows = commit_knows d m (read_of d f) n mode holds.keeps.intact holds.knows may;
    }

-- the new head of a roll that ends, after which there is none
pub ends_new : (now mode : Mode) (n : Start)
    → ((now ≡ Rolls n) × (mode ≡ Calm)) ⊎ ((now ≡ Closes n) × (mode ≡ Repairs))
    → (new_of now ≡ Some n) × (new_of mode ≡ None)
ends_new now mode n (inl both) = (ap new_of both.0, ap new_of both.1)
ends_new now mode n (inr both) = (ap new_of both.0, ap new_of both.1)

pub end_holds_all : EndHoldsAll
end_holds_all d m f n mode holds ends ordinary =
    let new = ends_new d.mode mode n ends.may in
    let i = holds.keeps.intact in
    let is = end_keeps d m (read_of d f) n mode i holds.knows.log ends ordinary in
    record {
      keeps = record {
        spelled = holds.keeps.spelled;
        heads = ended_has_segments d.config.master d n mode holds.keeps.heads new.0 new.1;
        intact = is.0;
        acked = subst (AreAcked d.config.master (ended d n mode) f.acks) (sym is.1)
            (acked_ended d.config.master d f.acks i.past holds.keeps.acked n mode new.0 new.1);
      };
      knows = end_knows d m (read_of d f) n mode holds.keeps.intact holds.knows ends ordinary;
    }

pub finish_holds_all : FinishHoldsAll
finish_holds_all d m f n mode holds ends commits =
    let new = ends_new d.mode mode n ends.may in
    let i = holds.keeps.intact in
    let is = finish_keeps d m (read_of d f) n mode i holds.knows.log ends commits in
    record {
      keeps = record {
        spelled = holds.keeps.spelled;
        heads = ended_has_segments d.config.master d n mode holds.keeps.heads new.0 new.1;
        intact = is.0;
        acked = subst (AreAcked d.config.master (ended d n mode) f.acks) (sym is.1)
            (acked_ended d.config.master d f.acks i.past holds.keeps.acked n mode new.0 new.1);
      };
      knows = finish_knows d m (read_of d f) n mode holds.keeps.intact holds.knows ends commits;
    }

-- ---- a failover ends

pub mend_holds_all : MendHoldsAll
mend_holds_all d m f holds repairs =
    let i = holds.keeps.intact in
    let is = mend_keeps d m (read_of d f) i holds.knows.log repairs in record {
      keeps = record {
        spelled = holds.keeps.spelled;
        heads = (others_have_segments d.config.master d holds.keeps.heads).2;
        intact = is.0;
        acked = subst (AreAcked d.config.master (mended d) f.acks) (sym is.1)
            (acked_mended d.config.master d f.acks i.past holds.keeps.acked);
      };
      knows = mend_knows d m (read_of d f) holds.knows;
    }
