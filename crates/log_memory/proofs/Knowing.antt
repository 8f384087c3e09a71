-- What a master knows of its backups, through steps that take no op.
use Rattle.std.proofs.Common.{◌≡◌, ℕ, zero, suc, inl, inr, List, [], ◌∷◌, ◌++◌, refl, sym, ap, subst, ◌∙◌}
use Rattle.std.specs.Prelude.{Option, IsSome}
use Rattle.entry.specs.Bag.{IsAmong}
use Rattle.entry.proofs.BagLemmas.{among_either}
use Rattle.log_bytes.specs.log_laws.Ids.{has}
use Rattle.log_bytes.specs.log_laws.Text.{Replica}
use Rattle.log_bytes.specs.log_laws.Shown.{Shown}
use Rattle.log_bytes.specs.log_laws.Data.{FailData}
use Rattle.log_bytes.specs.log_laws.Log.{Texts, IsLogHeld}
use Rattle.log_bytes.specs.log_laws.Steps.{texts_taken, unit_now, next_start, IsKnown}
use Rattle.log_bytes.proofs.log_laws.Knowing.{failing_known}
use Rattle.log_bytes.proofs.log_laws.KnownSteps.{appended_known, turned_known, ending_known, mended_known}
use Rattle.log_bytes.proofs.log_laws.KnownSteps.{id_taken_known}
use Rattle.log_bytes.proofs.log_laws.Lists.{both_ways, has_here, has_fewer}
use Rattle.log_bytes.proofs.log_laws.NewIds.{id_taken_is_held}
use Rattle.log_bytes.proofs.log_laws.NewMaster.{fresh_is_kept}
use Rattle.log_memory.specs.Knowing.{FreshKnows, ApplyKnows, WaitingKnows, BeginKnows, RollKnows, CommitKnows}
use Rattle.log_memory.specs.Knowing.{EndKnows, FinishKnows, FailKnows, MendKnows}
use Rattle.log_memory.specs.Memory.{Spot, FailMemory}
use Rattle.log_memory.specs.Steps.{ids_taken, pass_begun, spots_of}
use Rattle.log_memory.proofs.Spots.{spots_there}

pub fresh_knows : FreshKnows
fresh_knows c p may = record { log = (fresh_is_kept c p may).1; waiting = λ w never works. absurd never }

pub apply_knows : ApplyKnows
apply_knows d m p segment r i k may = record {
  log = appended_known d i.log.texts p (d.history ++ r ∷ []) (unit_now d segment r) i.log.held k.log;
  waiting = k.waiting;
}

pub waiting_knows : WaitingKnows
waiting_knows d m n p k same = record {
  log = k.log;
  waiting = λ w at works. k.waiting w (subst (λ (l : List Spot). IsAmong w l) same at) works;
}

-- ---- ids

-- the texts once so many ids are taken
abbrev ids_texts : ℕ → FailData → Texts → Texts
ids_texts zero d texts = texts
ids_texts (suc n) d texts = texts_taken (ids_taken n d) (ids_texts n d texts)

ids_held : (d : FailData) (texts : Texts) (p : Shown) (n : ℕ) → IsLogHeld d texts p
    → IsLogHeld (ids_taken n d) (ids_texts n d texts) p
ids_held d texts p zero held = held
ids_held d texts p (suc n) held =
    id_taken_is_held (ids_taken n d) (ids_texts n d texts) p (ids_held d texts p n held)

ids_known : (d : FailData) (texts : Texts) (p : Shown) (n : ℕ) → IsLogHeld d texts p → IsKnown d p
    → IsKnown (ids_taken n d) p
ids_known d texts p zero held known = known
ids_known d texts p (suc n) held known =
    id_taken_known (ids_taken n d) (ids_texts n d texts) p (ids_held d texts p n held)
    (ids_known d texts p n held known)

ids_failed : (d : FailData) (n : ℕ) → (ids_taken n d).failed ≡ d.failed
ids_failed d zero = refl
ids_failed d (suc n) = ids_failed d n

begun_waiting : (d : FailData) (m : FailMemory) (victims : List ℕ) (n : ℕ)
    → (pass_begun d m victims n).waiting ≡ m.waiting
begun_waiting d m victims zero = refl
begun_waiting d m victims (suc n) = begun_waiting d m victims n

pub begin_knows : BeginKnows
begin_knows d m p victims count i k may = record {
  log = ids_known d i.log.texts p count i.log.held k.log;
  waiting = λ w at works. k.waiting w
      (subst (λ (l : List Spot). IsAmong w l) (begun_waiting d m victims count) at)
      (sym (ap (λ (l : List ℕ). has l w.backup) (ids_failed d count)) ∙ works);
}

-- ---- rolls

pub roll_knows : RollKnows
roll_knows d m p mode i k may = record {
  log = turned_known d i.log.texts p (next_start d) mode i.log.held k.log may.may refl;
  waiting = k.waiting;
}

pub commit_knows : CommitKnows
commit_knows d m p n mode i k may = record {
  log = turned_known d i.log.texts p n mode i.log.held k.log may.may may.next;
  waiting = k.waiting;
}

pub end_knows : EndKnows
end_knows d m p n mode i k ends ordinary =
    record { log = ending_known d i.log.texts p n mode i.log.held k.log ends; waiting = k.waiting }

pub finish_knows : FinishKnows
finish_knows d m p n mode i k ends commits = record {
  log = ending_known d i.log.texts p n mode i.log.held k.log ends;
  waiting = λ w at works. elim (among_either w (spots_of d m.pass.victims) m.waiting at)
      as (λ _. IsSome (p.holds w.backup w.segment)) [
        | inl spot ↦ spots_there d i.log.texts p m.pass.victims w i.log.held i.chosen.victims spot
        | inr old ↦ k.waiting w old works
      ];
}

-- ---- failures

pub fail_knows : FailKnows
fail_knows d m p q b k same = record {
  log = failing_known d p q b k.log same;
  waiting = λ w at works.
      let other : w.backup ≡ b → ⊥ = λ is. both_ways (has (b ∷ d.failed) w.backup)
      (ap (has (b ∷ d.failed)) is ∙ has_here b d.failed) works in
      subst (λ (o : Option Replica). IsSome o) (sym (same w.backup w.segment other))
      (k.waiting w at (has_fewer b w.backup d.failed works));
}

pub mend_knows : MendKnows
mend_knows d m p k = record { log = mended_known d p k.log; waiting = k.waiting }
