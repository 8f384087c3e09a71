use Rattle.std.proofs.Common.{◌≡◌, arith, false, refl, subst, sym, true}
use Rattle.std.specs.Bool.{IsTrue}
use Rattle.std.specs.Prelude.{Bool, Err}
use Rattle.history.specs.View.{shown_command}
use Rattle.answers.specs.declared.answer.Answer.{Answer}
use Rattle.answers.specs.declared.answer.Answer.TheVariants as answer
use Rattle.answers.specs.driving.master.master_state.declared.step.Refusal.TheVariants.{Full}
use Rattle.cluster.specs.Served.{MakesCommand}
use Rattle.cluster.specs.Tended.{GainsRoom, RunsTendedLine, TellsLine}
use Rattle.cluster.proofs.BesideCleaner.{full_stays, full_tended, refused_tended, replied_tended, stayed_before}
use Rattle.cluster.proofs.BesideCleaner.{spent_tended}
use Rattle.cluster.proofs.BesideCleaner.{stays_none, stays_then, then_stays, way_more, way_none}
use Rattle.cluster.proofs.node.Node.serve_tended.Goals as goal

pub loop-rounds-init : goal.loop-rounds-init
loop-rounds-init c = (
  stays_none c.args.self.now,
  way_none c.args.self.now (shown_command c.args.command.now),
  λ some. absurd (omega (arith, some)),
)

pub returns-in-Ok : goal.returns-in-Ok
returns-in-Ok c =
    let t = c.in-Ok.ensures in
    let so = c.loop-rounds.invariant in
    let command = shown_command c.args.command.now in
    let old = c.args.self.now in
    let mid = c.loop-rounds.self in
    let ran = c.run.new.self in
    let new = c.tend_on.new.self in
    let a = answer.Reply t.0 in (
      t.0,
      c.tend_on.ensures.reply c.in-Ok.place t.0 t.1,
      then_stays old ran new command a (stayed_before old mid ran command a so.0 t.2) c.tend_on.ensures.stays,
      replied_tended c.args.steps c.loop-rounds.rounds c.requires.steps c.loop-rounds-test.true old mid ran new
          command t.0 so.1 t.3 c.tend_on.ensures.tends,
    )

pub loop-rounds-preserved : goal.loop-rounds-preserved
loop-rounds-preserved c =
    let so = c.loop-rounds.invariant in
    let command = shown_command c.args.command.now in
    let old = c.args.self.now in
    let mid = c.loop-rounds.self in
    let ran = c.run.new.self in
    let t = c.in-Err.ensures in
    let new = c.gain.new.self in
    let a = answer.Refused Full in
    let full : c.in-Err.answer ≡ a = c.if-not-is_full.ensures.0 refl in
    let told : TellsLine mid command ran a = subst (λ (x : Answer). TellsLine mid command ran x) full t.0 in
    let makes : MakesCommand mid command ran a = subst (λ (x : Answer). MakesCommand mid command ran x) full t.1 in
    let tells : TellsLine old command new a =
    then_stays old ran new command a (stayed_before old mid ran command a so.0 told) c.gain.ensures.stays in
    let gains : GainsRoom ran true new =
    subst (λ (b : Bool). GainsRoom ran b new) c.if-not-gain.false c.gain.ensures.gains in (
      stays_then old mid new so.0 (stays_then mid ran new (full_stays mid ran command told) c.gain.ensures.stays),
      way_more c.loop-rounds.rounds old mid ran new command so.1 makes gains,
      λ some. tells,
    )

pub returns-then-not-is_full : goal.returns-then-not-is_full
returns-then-not-is_full c =
    let so = c.loop-rounds.invariant in
    let command = shown_command c.args.command.now in
    let old = c.args.self.now in
    let mid = c.loop-rounds.self in
    let ran = c.run.new.self in
    let t = c.in-Err.ensures in
    let a = c.in-Err.answer in
    let unfull : a ≡ answer.Refused Full → ⊥ = λ full.
    let bad : false ≡ true = subst (λ (b : Bool). IsTrue b) c.if-not-is_full.true (c.is_full.ensures.1 full) in
    cc in (
      stayed_before old mid ran command a so.0 t.0,
      refused_tended c.args.steps c.loop-rounds.rounds c.requires.steps c.loop-rounds-test.true old mid ran command a
          so.1 t.1 t.2 unfull,
    )

pub returns-then-not-gain : goal.returns-then-not-gain
returns-then-not-gain c =
    let so = c.loop-rounds.invariant in
    let command = shown_command c.args.command.now in
    let old = c.args.self.now in
    let mid = c.loop-rounds.self in
    let ran = c.run.new.self in
    let t = c.in-Err.ensures in
    let new = c.gain.new.self in
    let a = answer.Refused Full in
    let full : c.in-Err.answer ≡ a = c.if-not-is_full.ensures.0 refl in
    let told : TellsLine mid command ran a = subst (λ (x : Answer). TellsLine mid command ran x) full t.0 in
    let makes : MakesCommand mid command ran a = subst (λ (x : Answer). MakesCommand mid command ran x) full t.1 in
    let tells : TellsLine old command new a =
    then_stays old ran new command a (stayed_before old mid ran command a so.0 told) c.gain.ensures.stays in
    let gains : GainsRoom ran false new =
    subst (λ (b : Bool). GainsRoom ran b new) c.if-not-gain.true c.gain.ensures.gains in
    subst (λ (x : Answer). RunsTendedLine old command c.args.steps new (Err x)) (sym full) (
      tells,
      full_tended c.args.steps c.loop-rounds.rounds c.requires.steps c.loop-rounds-test.true old mid ran new command
          so.1 makes gains,
    )

pub returns : goal.returns
returns c =
    let so = c.loop-rounds.invariant in
    let command = shown_command c.args.command.now in
    let many = c.loop-rounds-test.false in
    let few = c.loop-rounds.auto.rounds-end in
    let all : c.loop-rounds.rounds ≡ 65536 = omega (arith, many, few) in (
      so.2 (omega (arith, many)),
      spent_tended c.args.steps c.loop-rounds.rounds c.requires.steps all c.args.self.now c.loop-rounds.self command
          so.1,
    )
