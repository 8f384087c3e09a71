-- What a fleet keeps of a master after each answer to an op.
use Rattle.std.proofs.Common.{◌≡◌, ℕ, inl, inr, List, ◌∷◌, Some, refl, sym, ap, subst, ◌∙◌}
use Rattle.std.specs.Prelude.{None}
use Rattle.std.proofs.lemmas.Option.{same_Some}
use Rattle.replica.specs.declared.op.TakeFault.TheVariants as take_fault
use Rattle.replica.specs.Picture.{Ack, FleetState, shown_of}
use Rattle.log_bytes.specs.log_laws.Shown.{Shown, Seal, Free, Op}
use Rattle.log_bytes.specs.log_laws.Data.{FailConfig, FailData, new_of}
use Rattle.log_bytes.specs.log_laws.Durable.{TakenHead}
use Rattle.log_bytes.specs.log_laws.Log.{Texts, IsLogHeld}
use Rattle.log_bytes.specs.log_laws.Runs.{IsThere, IsFaulted}
use Rattle.log_bytes.specs.log_laws.Steps.{with_taken, failing, MayRepair, Reseals, Seals}
use Rattle.log_bytes.proofs.log_laws.Placing.{other_apart}
use Rattle.log_bytes.proofs.log_laws.Runs.{elsewhere}
use Rattle.log_bytes.specs.Keeping.{IsFreedThere, IsAsked}
use Rattle.log_bytes.specs.Ops.{TakesOp, RefusesOp}
use Rattle.log_bytes.specs.Runs.{read_fleet}
use Rattle.log_bytes.specs.Segments.{SealsSegment, IsHeldOp}
use Rattle.log_bytes.specs.Spelled.{IsSpelled}
use Rattle.log_bytes.proofs.Heads.{others_have_segments}
use Rattle.log_bytes.proofs.Keeping.{ok_is_spelled, fault_is_either, held_op_is_never_wrong}
use Rattle.log_bytes.proofs.Reading.{spelled_is_read}
use Rattle.log_memory.specs.Fleet.{read_of, KeepsAll, OkHoldsAll, FaultKeepsAll}
use Rattle.log_memory.specs.Fleet.{FaultFailsOver, OpIsNeverWrong}
use Rattle.log_memory.specs.Acked.{AreAcked}
use Rattle.log_memory.specs.Intact.{IsIntact, IsIntactWith, Knows}
use Rattle.log_memory.specs.Memory.{FailMemory, text_in}
use Rattle.log_memory.specs.Ops.{IsHeadOp, IsOp}
use Rattle.log_memory.specs.Steps.{stopped}
use Rattle.log_memory.proofs.Acking.{ack_for, acked_on, head_acked, acked_sealed, acked_freed, acked_failing}
use Rattle.log_memory.proofs.Acking.{fault_acks}
use Rattle.log_memory.proofs.Failing.{fail_keeps}
use Rattle.log_memory.proofs.Freeing.{spot_is_free}
use Rattle.log_memory.proofs.KeptFleets.{holds_at}
use Rattle.log_memory.proofs.Knowing.{fail_knows}
use Rattle.log_memory.proofs.OpsKeep.{op_keeps, op_fits}
use Rattle.log_memory.proofs.Repairing.{image_is_repair}
use Rattle.log_memory.proofs.Sealing.{seals_image}
use Rattle.log_memory.proofs.Taking.{survivor_no_head}

-- ---- the op, as bytes have it

-- an op of the head
pub head_held : (d e : FailData) (texts : Texts) (p : Shown) (o : Op) → IsHeadOp d o e → IsHeldOp d texts p o e
head_held d e texts p o (inl is) = inl is
head_held d e texts p o (inr (inl is)) = inr (inl is)
head_held d e texts p o (inr (inr (inl is))) = inr (inr (inl is))
head_held d e texts p o (inr (inr (inr (inl is)))) = inr (inr (inr (inl is)))
head_held d e texts p o (inr (inr (inr (inr is)))) = inr (inr (inr (inr (inl is))))

-- it seals and frees nothing, and its master has the same number
pub record IsPlain (master : ℕ) (d e : FailData) (p : Shown) (o : Op) : Type 0 where
  pub seals : SealsSegment master o
  pub freed : IsFreedThere p o
  pub config : e.config ≡ d.config

pub head_plain : (master : ℕ) (d e : FailData) (p : Shown) (o : Op) → IsHeadOp d o e → IsPlain master d e p o
head_plain master d e p o (inl is) = record {
  seals = subst (SealsSegment master) (sym is.op) tt;
  freed = subst (IsFreedThere p) (sym is.op) tt;
  config = ap (λ (x : FailData). x.config) is.gives;
}
head_plain master d e p o (inr (inl is)) = record {
  seals = subst (SealsSegment master) (sym is.op) tt;
  freed = subst (IsFreedThere p) (sym is.op) tt;
  config = ap (λ (x : FailData). x.config) is.gives;
}
head_plain master d e p o (inr (inr (inl is))) = record {
  seals = subst (SealsSegment master) (sym is.op) tt;
  freed = subst (IsFreedThere p) (sym is.op) tt;
  config = ap (λ (x : FailData). x.config) is.gives;
}
head_plain master d e p o (inr (inr (inr (inl is)))) = record {
  seals = subst (SealsSegment master) (sym is.op) tt;
  freed = subst (IsFreedThere p) (sym is.op) tt;
  config = ap (λ (x : FailData). x.config) is.gives;
}
head_plain master d e p o (inr (inr (inr (inr is)))) = record {
  seals = subst (SealsSegment master) (sym is.op) tt;
  freed = subst (IsFreedThere p) (sym is.op) tt;
  config = ap (λ (x : FailData). x.config) is.gives;
}

-- What a fleet is asked.
record IsAskable (master : ℕ) (d e : FailData) (texts : Texts) (p : Shown) (o : Op) : Type 0 where
  held : IsHeldOp d texts p o e
  seals : SealsSegment master o
  config : e.config ≡ d.config

askable : (d e : FailData) (m n : FailMemory) (p : Shown) (o : Op) (i : IsIntact d m p) → IsOp d m o e n
    → IsAskable d.config.master d e i.log.texts p o
askable d e m n p o i (inl (is, same)) =
    let plain = head_plain d.config.master d e p o is in
    record { held = head_held d e i.log.texts p o is; seals = plain.seals; config = plain.config }
askable d e m n p o i (inr (inl (is, same))) =
    let then : FailData = record d { took = with_taken d.took is.s is.b } in
    record {
      held = inr (inr (inr (inr (inr (inr (inl
          (subst (λ (x : FailData). Seals d i.log.texts p o x) (sym is.gives)
          (subst (λ (x : Op). Seals d i.log.texts p x then) (sym is.op)
          (seals_image d m p is.s is.b i is.may)))))))));
      seals = subst (SealsSegment d.config.master) (sym is.op) is.whole;
      config = ap (λ (x : FailData). x.config) is.gives;
    }
askable d e m n p o i (inr (inr (inl (is, same)))) =
    let then : FailData = record d { took = with_taken d.took is.s is.b } in
    record {
      held = inr (inr (inr (inr (inr (inl
          (subst (λ (x : FailData). Reseals d i.log.texts o x) (sym is.gives)
          (subst (λ (x : Op). Reseals d i.log.texts x then) (sym is.op)
          (image_is_repair d m p is.s is.b i is.may))))))));
      seals = subst (SealsSegment d.config.master) (sym is.op) is.whole;
      config = ap (λ (x : FailData). x.config) is.gives;
    }
askable d e m n p o i (inr (inr (inr (is, same)))) = record {
  held = inr (inr (inr (inr (inr (inr (inr (record {
    b = is.b;
    s = is.s;
    calm = is.may.calm;
    free = spot_is_free d m p is.s is.b i is.may;
    op = is.op;
    gives = same;
  })))))));
  seals = subst (SealsSegment d.config.master) (sym is.op) tt;
  config = ap (λ (x : FailData). x.config) same;
}

-- what it frees is there
freed_there : (d e : FailData) (m n : FailMemory) (p : Shown) (o : Op) → Knows d m p → IsOp d m o e n
    → IsFreedThere p o
freed_there d e m n p o k (inl (is, same)) = (head_plain d.config.master d e p o is).freed
freed_there d e m n p o k (inr (inl (is, same))) = subst (IsFreedThere p) (sym is.op) tt
freed_there d e m n p o k (inr (inr (inl (is, same)))) = subst (IsFreedThere p) (sym is.op) tt
freed_there d e m n p o k (inr (inr (inr (is, same)))) =
    subst (IsFreedThere p) (sym is.op) (k.waiting (record { segment = is.s; backup = is.b }) is.may.waits is.may.works)

asked : (d e : FailData) (m n : FailMemory) (f : FleetState) (o : Op) (keeps : KeepsAll d m f) → IsOp d m o e n
    → IsAsked d.config.master d keeps.intact.log.texts f (read_of d f) o e
asked d e m n f o keeps is =
    let may = askable d e m n (read_of d f) o keeps.intact is in
    record {
      spelled = keeps.spelled;
      held = keeps.intact.log.held;
      heads = keeps.heads;
      op = may.held;
      seals = may.seals;
    }

-- ---- what was answered Ok

-- a repair is on a segment that is no head
pub repair_acked : (d : FailData) (m : FailMemory) (f : FleetState) (past : List TakenHead)
    → AreAcked d.config.master d f.acks past → (texts : Texts) (p : Shown) → IsLogHeld d texts p → (s b : ℕ)
    → MayRepair d s b → AreAcked d.config.master (record d { took = with_taken d.took s b })
    (ack_for d.config.master b s (Seal (text_in m s)) ∷ f.acks) past
repair_acked d m f past acked texts p held s b may =
    acked_sealed d.config.master d f.acks past acked texts p held b s (text_in m s)
    (λ same. other_apart d texts held.logged s (inl may.listed) same)
    (λ n new same. let never : None ≡ Some n = sym (ap new_of may.mode) ∙ new in cc)

-- ---- the answers

-- what a fleet spells is what is read of it
same_picture : (master : ℕ) (g : FleetState) (q : Shown) → IsSpelled master (shown_of g master) q
    → q ≡ read_fleet master g
same_picture master g q spelled = sym (spelled_is_read master (shown_of g master) q spelled).0

pub op_is_never_wrong : OpIsNeverWrong
op_is_never_wrong d e m n f g o holds is on refused =
    held_op_is_never_wrong d.config.master d e holds.keeps.intact.log.texts f g (read_of d f) o
    (asked d e m n f o holds.keeps is) holds.knows.log on (freed_there d e m n (read_of d f) o holds.knows is) refused

-- what was answered Ok, once the op was
ok_acked : (d e : FailData) (m n : FailMemory) (f g : FleetState) (o : Op) (i : IsIntact d m (read_of d f))
    → IsOp d m o e n → TakesOp d.config.master f o g → AreAcked d.config.master d f.acks i.past
    → AreAcked d.config.master e g.acks i.past
ok_acked d e m n f g o i (inl (op, same)) took acked =
    head_acked d.config.master d f g i.past acked i.log.texts (read_of d f) i.log.held o e op took
ok_acked d e m n f g o i (inr (inl (op, same))) took acked =
    let no_head = survivor_no_head d m (read_of d f) i op.s op.may.survivor in
    acked_on d.config.master d f g i.past acked i.log.texts (read_of d f) i.log.held o op.b op.s _ e _ op.op op.gives
    took (acked_sealed d.config.master d f.acks i.past acked i.log.texts (read_of d f) i.log.held op.b op.s _
    no_head.head no_head.new)
ok_acked d e m n f g o i (inr (inr (inl (op, same)))) took acked =
    acked_on d.config.master d f g i.past acked i.log.texts (read_of d f) i.log.held o op.b op.s _ e _ op.op op.gives
    took (repair_acked d m f i.past acked i.log.texts (read_of d f) i.log.held op.s op.b op.may)
ok_acked d e m n f g o i (inr (inr (inr (op, same)))) took acked =
    acked_on d.config.master d f g i.past acked i.log.texts (read_of d f) i.log.held o op.b op.s Free e d op.op same
    took (acked_freed d.config.master d f.acks i.past acked i.log.texts (read_of d f) i.log.held op.b op.s)

pub ok_holds_all : OkHoldsAll
ok_holds_all d e m n f g o holds is at took =
    let master = d.config.master in
    let p = read_of d f in
    let i = holds.keeps.intact in
    let then = ok_is_spelled master d e i.log.texts f g p o (asked d e m n f o holds.keeps is) took in
    let read = same_picture master g then.0 then.2 in
    let both = op_keeps d e m n p then.0 o i is at then.1 in
    let fits = op_fits d e m n p o i holds.knows is in
    let known : Knows e n then.0 =
    subst (Knows e n) (same_Some fits.0 then.0 (sym fits.1 ∙ then.1)) fits.2 in
    let after : IsIntactWith i.past e n (read_fleet master g) = subst (IsIntactWith i.past e n) read both.1 in
    holds_at master e n g (ap (λ (c : FailConfig). c.master) (askable d e m n p o i is).config) (record {
      spelled = subst (IsSpelled master (shown_of g master)) read then.2;
      heads = then.3;
      intact = after.0;
      acked = subst (AreAcked master e g.acks) (sym after.1) (ok_acked d e m n f g o i is took holds.keeps.acked);
      knows = subst (Knows e n) read known;
    })

-- after a fault it is as before
pub fault_acked : (d : FailData) (f g : FleetState) (o : Op) (past : List TakenHead)
    → RefusesOp d.config.master f o take_fault.Fault g → AreAcked d.config.master d f.acks past
    → AreAcked d.config.master d g.acks past
fault_acked d f g o past refused acked =
    subst (λ (acks : List Ack). AreAcked d.config.master d acks past) (sym (fault_acks d.config.master f g o refused))
    acked

-- after a fault all is intact of the master as it was
faulted : (d e : FailData) (m n : FailMemory) (p q : Shown) (o : Op) (i : IsIntact d m p) → IsOp d m o e n
    → IsThere d.config o → IsFaulted p o q → IsIntactWith i.past d m q
faulted d e m n p q o i is at (inl same) = subst (IsIntactWith i.past d m) (sym same) (i, refl)
faulted d e m n p q o i is at (inr took) = (op_keeps d e m n p q o i is at took).0

pub fault_keeps_all : FaultKeepsAll
fault_keeps_all d e m n f g o holds is at refused =
    let master = d.config.master in
    let p = read_of d f in
    let i = holds.keeps.intact in
    let then = fault_is_either master d e i.log.texts f g p o (asked d e m n f o holds.keeps is) refused in
    let read = same_picture master g then.0 then.2 in
    let after : IsIntactWith i.past d m (read_fleet master g) =
    subst (IsIntactWith i.past d m) read (faulted d e m n p then.0 o i is at then.1) in
    record {
      spelled = subst (IsSpelled master (shown_of g master)) read then.2;
      heads = holds.keeps.heads;
      intact = after.0;
      acked = subst (AreAcked master d g.acks) (sym after.1) (fault_acked d f g o i.past refused holds.keeps.acked);
    }

pub fault_fails_over : FaultFailsOver
fault_fails_over d e m n f g o b holds is at on may refused =
    let master = d.config.master in
    let p = read_of d f in
    let i = holds.keeps.intact in
    let then = fault_is_either master d e i.log.texts f g p o (asked d e m n f o holds.keeps is) refused in
    let read = same_picture master g then.0 then.2 in
    let left = faulted d e m n p then.0 o i is at then.1 in
    let failed = fail_keeps d m then.0 b left.0 may in
    let after : IsIntactWith i.past (failing d b) (stopped m) (read_fleet master g) =
    subst (IsIntactWith i.past (failing d b) (stopped m)) read (failed.0, failed.1 ∙ left.1) in
    record {
      keeps = record {
        spelled = subst (IsSpelled master (shown_of g master)) read then.2;
        heads = (others_have_segments master d holds.keeps.heads).1 b;
        intact = after.0;
        acked = subst (AreAcked master (failing d b) g.acks) (sym after.1)
            (acked_failing master d g.acks i.past (fault_acked d f g o i.past refused holds.keeps.acked) b);
      };
      knows = subst (Knows _ (stopped m)) read
          (fail_knows d m p then.0 b holds.knows (elsewhere p then.0 o b on then.1));
    }
