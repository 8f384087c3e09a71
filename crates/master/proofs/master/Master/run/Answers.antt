use Rattle.std.proofs.Common.{◌≡◌, ◌+◌, ◌++◌, ◌∷◌, [], length, vec_len, refl, ◌∙◌, rules, arith}
use Rattle.std.proofs.lemmas.List.{length-append}
use Rattle.master.specs.World.{world}
use Rattle.master.proofs.Keeping.{keeps_same, keeps_pushed}
use Rattle.master.proofs.Runs.{run_pushed}
use Rattle.master.proofs.master.Master.run.Goals as goal

pub loop-step-preserved : goal.loop-step-preserved
loop-step-preserved g c =
    let before = c.loop-step.invariant in
    let items : c.push_reserved.new.self.items ≡ c.loop-step.answers.items ++ c.step-answer.result ∷ [] =
    c.push_reserved.ensures.items in
    let len : vec_len c.push_reserved.new.self ≡ vec_len c.loop-step.answers + 1 = c.push_reserved.ensures.len in
    let count = before.count in
    let room = before.room in
    record {
      ran = run_pushed (world g.F.Fleet.state c.args.self.now) (world g.F.Fleet.state c.loop-step.self)
          (world g.F.Fleet.state c.step-answer.new.self)
          c.loop-step.yielded c.loop-step.answers.items c.push_reserved.new.self.items c.in-Some.step
          c.step-answer.result items before.ran
          c.step-answer.ensures.gives (record {
            keeps = c.step-answer.ensures.keeps;
            valid = c.step-answer.ensures.valid;
          });
      keeps = keeps_pushed (world g.F.Fleet.state c.args.self.now) (world g.F.Fleet.state c.loop-step.self)
          (world g.F.Fleet.state c.step-answer.new.self) c.loop-step.yielded c.in-Some.step before.keeps
          c.step-answer.ensures.keeps;
      remembers = c.step-answer.ensures.remembers ∙ before.remembers;
      count = omega (arith, length-append c.loop-step.yielded (c.in-Some.step ∷ []));
      room = rw c.push_reserved.ensures.capacity room;
    }

pub loop-step-init : goal.loop-step-init
loop-step-init g c = record {
  ran = search rules;
  keeps = keeps_same 0 (world g.F.Fleet.state c.args.self.now);
  remembers = refl;
  count = search rules;
  room = search rules;
}

pub returns-in_err-answers-clause-keeps : goal.returns-in_err-answers-clause-keeps
returns-in_err-answers-clause-keeps g c = keeps_same (length c.args.steps.now) (world g.F.Fleet.state c.args.self.now)

pub returns-in_err-own-clause-keeps : goal.returns-in_err-own-clause-keeps
returns-in_err-own-clause-keeps g c = keeps_same (length c.args.steps.now) (world g.F.Fleet.state c.args.self.now)
