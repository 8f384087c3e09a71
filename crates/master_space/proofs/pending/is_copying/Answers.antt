use Rattle.std.proofs.Common.{◌≡◌, ◌≢◌, Bool, true, false, not, refl, ap, sym, ◌∙◌}
use Rattle.std.specs.Prelude.{◌==◌, Some, None, MatchBool, is_some, length, if◌then◌else◌}
use Rattle.log_head.specs.Head.{is_open}
use Rattle.master_state.specs.Data.{MasterData}
use Rattle.master_state.specs.declared.step.Step.{Step}
use Rattle.master_state.specs.declared.step.Step.TheVariants.{Push, BeginRoll, Copy, Seal, Free}
use Rattle.cleaner.specs.Passes.{is_at_end, next_seal as next_seal_of}
use Rattle.master_space.proofs.pending.is_copying.Goals as goal

-- the next step of a pass copies just as long as an entry is left
copies : (ended : Bool) (later : Step) → later ≢ Copy
    → MatchBool (not ended) (Some (if not ended then Copy else later) ≡ Some Copy)
    (Some (if not ended then Copy else later) ≢ Some Copy)
copies false later other = refl
copies true later other = λ same. other (unsome same)
  where
    unsome : {x y : Step} → Some x ≡ Some y → x ≡ y
    unsome same = cc

-- what comes later is no copy
others : (seals opened : Bool) → (if seals then Seal else if opened then BeginRoll else Push) ≢ Copy
others true opened = λ same. absurd (cc)
others false true = λ same. absurd (cc)
others false false = λ same. absurd (cc)

no_pass : (opened some : Bool)
    → (if not opened then Some Push else if some then Some Free else None) ≢ Some Copy
no_pass false some = λ same. absurd (cc)
no_pass true false = λ same. absurd (cc)
no_pass true true = λ same. absurd (cc)

pub returns-then-is_some : goal.returns-then-is_some
returns-then-is_some c =
    let busy = ap (λ (m : MasterData). is_some m.failover) (sym c.core.view_is) ∙ sym c.is_some.ensures
    ∙ c.if-is_some.true in
    rw busy (λ same. absurd (cc))

pub returns-in-Some : goal.returns-in-Some
returns-in-Some c =
    let d = c.args.core.now in
    let p = c.in-Some.pass in
    let calm = ap (λ (m : MasterData). is_some m.failover) (sym c.core.view_is) ∙ sym c.is_some.ensures
    ∙ c.if-is_some.false in
    let there = ap (λ (m : MasterData). m.pass) (sym c.core.view_is) ∙ c.in-Some.is in
    let seals = is_some (next_seal_of d.config.replicas d.closed p) in
    rw (calm, there, c.is_at_end.ensures) (copies (is_at_end p)
    (if seals then Seal else if is_open d.head then BeginRoll else Push) (others seals (is_open d.head)))

pub returns-in-None : goal.returns-in-None
returns-in-None c =
    let d = c.args.core.now in
    let calm = ap (λ (m : MasterData). is_some m.failover) (sym c.core.view_is) ∙ sym c.is_some.ensures
    ∙ c.if-is_some.false in
    let none = ap (λ (m : MasterData). m.pass) (sym c.core.view_is) ∙ c.in-None.is in
    rw (calm, none) (no_pass (is_open d.head) (not (length d.waiting == 0)))
