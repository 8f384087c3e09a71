use Rattle.std.proofs.Common.{◌≡◌, ◌+◌, List, ◌∷◌, drop, sym, ap, subst, ◌∙◌, rules}
use Rattle.std.proofs.lemmas.List.{drop_more, drop_all}
use Rattle.place_index.specs.declared.call.MapAnswer.{MapAnswer}
use Rattle.place_index.specs.declared.call.MapCall.{MapCall}
use Rattle.place_index.specs.Runs.{AreWithin}
use Rattle.place_index.proofs.Turns.{IsRunning, answers_all, goes_on, leaves_all}
use Rattle.place_index.proofs.running.run.Goals as goal

pub loop-call-preserved : goal.loop-call-preserved
loop-call-preserved g c =
    let keys = g.R.Resolve.keys c.args.resolver.now in
    let hash = g.H.KeyHash.hash_of in
    let calls = c.args.calls.now in
    let old = c.args.index.now.held in
    let now = c.loop-call.index.held in
    let new = c.carry_out.new.index.held in
    let item = c.call-item.result in
    let answers = c.loop-call.answers.items in
    let answer = c.in_ok-answer.answer in
    let rest = drop (c.loop-call.call-index + 1) calls in
    let left : drop c.loop-call.call-index calls ≡ item ∷ rest =
    drop_more calls c.loop-call.call-index item c.loop-call-test.true
    ∙ ap (λ (x : MapCall). x ∷ rest) (sym c.call-item.is) in
    record {
      running = λ kept told.
          subst (λ (xs : List MapAnswer). IsRunning hash keys calls old new rest xs) (sym c.push_reserved.ensures.items)
          (goes_on hash keys calls old now new item rest answers answer c.in_ok-answer.ensures
          (subst (λ (xs : List MapCall). IsRunning hash keys calls old now xs answers) left
          (c.loop-call.invariant.running kept told)));
      within = (subst (λ (xs : List MapCall). AreWithin xs) left c.loop-call.invariant.within).1;
      count = c.push_reserved.ensures.len ∙ ap (λ n. n + 1) c.loop-call.invariant.count;
      room = rw c.push_reserved.ensures.capacity c.loop-call.invariant.room;
    }

pub returns-clause-answers : goal.returns-clause-answers
returns-clause-answers g c = λ kept told.
    let keys = g.R.Resolve.keys c.args.resolver.now in
    let hash = g.H.KeyHash.hash_of in
    let calls = c.args.calls.now in
    let old = c.args.index.now.held in
    let now = c.loop-call.index.held in
    let answers = c.loop-call.answers.items in
    answers_all hash keys calls old now answers
    (subst (λ (xs : List MapCall). IsRunning hash keys calls old now xs answers)
    (drop_all c.loop-call.call-index calls (search rules)) (c.loop-call.invariant.running kept told))

pub returns-clause-map : goal.returns-clause-map
returns-clause-map g c = λ kept told.
    let keys = g.R.Resolve.keys c.args.resolver.now in
    let hash = g.H.KeyHash.hash_of in
    let calls = c.args.calls.now in
    let old = c.args.index.now.held in
    let now = c.loop-call.index.held in
    let answers = c.loop-call.answers.items in
    let running = subst (λ (xs : List MapCall). IsRunning hash keys calls old now xs answers)
    (drop_all c.loop-call.call-index calls (search rules)) (c.loop-call.invariant.running kept told) in
    (running.kept, leaves_all hash keys calls old now answers running)
