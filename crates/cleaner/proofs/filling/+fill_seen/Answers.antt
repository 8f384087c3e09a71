use Rattle.std.proofs.Common.{◌≡◌, ◌-◌, ℕ, Bool, true, false, cond, sym, ap, ◌∙◌, arith}
use Rattle.std.specs.Prelude.{sum_by}
use Rattle.compactor.specs.Log.{ids_of_log}
use Rattle.cleaner.specs.declared.level.Level.{Level}
use Rattle.cleaner.specs.Filling.{filled, filled_one}
use Rattle.cleaner.specs.Passes.{seen_len}
use Rattle.cleaner.specs.Walks.{is_seen_kept, seen_lengths}
use Rattle.cleaner.proofs.Batches.{bytes_last, length_last_of, short_before, short_last, last_kept, one_near}
use Rattle.cleaner.proofs.filling.+fill_seen.Goals.{After-is_kept}
use Rattle.cleaner.proofs.filling.+fill_seen.Goals as goal

pub fill_seen-level-requires : goal.fill_seen-level-requires
fill_seen-level-requires t c =
    let ids = ids_of_log c.args.log.now in
    let held = c.args.index.now.held in
    let split = c.in-Some.ensures.cases.0 in
    let xs = c.args.seen.now in
    let before = c.in-Some.before.now in
    let x = c.in-Some.last.now in
    let bytes = bytes_last ids held c.args.id c.args.limit c.args.end xs before x split in
    let count = length_last_of ids held c.args.id c.args.limit c.args.end xs before x split in
    let measure = c.decreases in (
      omega (arith, measure, count),
      (
        omega (arith, bytes, c.requires.end, c.len.ensures),
        (
          short_before ids held c.args.id c.args.limit c.args.end xs before x split c.requires.short,
          (omega (arith, count, c.requires.few), (c.requires.from, c.requires.limit)),
        ),
      ),
    )

-- the whole batch, by whether its last entry is kept
filled_here : (t : ℕ) (c : After-is_kept t) (b : Bool) → c.is_kept.result ≡ b
    → filled c.args.limit c.args.from (seen_lengths (ids_of_log c.args.log.now) c.args.index.now.held c.args.id
    (c.args.end - sum_by seen_len c.args.seen.now) c.args.seen.now)
    ≡ cond b (filled_one c.args.limit c.fill_seen-level.result (seen_len c.in-Some.last.now)) c.fill_seen-level.result
filled_here t c b is =
    let ids = ids_of_log c.args.log.now in
    let held = c.args.index.now.held in
    let before = c.in-Some.before.now in
    let x = c.in-Some.last.now in
    let len = c.len.ensures in
    last_kept ids held c.args.id c.args.limit c.args.end c.args.seen.now before x c.in-Some.ensures.cases.0
    c.requires.end c.args.from c.fill_seen-level.result
    (c.fill_seen-level.ensures.filled
    ∙ ap (λ (n : ℕ). filled c.args.limit c.args.from
    (seen_lengths ids held c.args.id (c.args.end - n - sum_by seen_len before) before)) len)
    b (sym is ∙ c.is_kept.ensures
    ∙ ap (λ (n : ℕ). is_seen_kept ids held (record { segment = c.args.id; at = c.args.end - n }) x) len)

pub with-requires-clause-bytes : goal.with-requires-clause-bytes
with-requires-clause-bytes t c =
    let short = short_last (ids_of_log c.args.log.now) c.args.index.now.held c.args.id c.args.limit c.args.end
    c.args.seen.now c.in-Some.before.now c.in-Some.last.now c.in-Some.ensures.cases.0 c.requires.short in
    omega (arith, c.fill_seen-level.ensures.limit, short, c.len-then-is_kept.ensures)

pub returns-then-is_kept-clause-filled : goal.returns-then-is_kept-clause-filled
returns-then-is_kept-clause-filled t c =
    let all = filled_here t (goal.at.returns-then-is_kept-clause-filled t c).After-is_kept true c.if-is_kept.true in
    c.with.ensures
    ∙ ap (filled_one c.args.limit c.fill_seen-level.result) c.len-then-is_kept.ensures
    ∙ sym all

pub returns-then-is_kept-clause-limit : goal.returns-then-is_kept-clause-limit
returns-then-is_kept-clause-limit t c =
    let short = short_last (ids_of_log c.args.log.now) c.args.index.now.held c.args.id c.args.limit c.args.end
    c.args.seen.now c.in-Some.before.now c.in-Some.last.now c.in-Some.ensures.cases.0 c.requires.short in
    let near = one_near c.args.limit c.fill_seen-level.result c.len-then-is_kept.result c.requires.limit
    (omega (arith, short, c.len-then-is_kept.ensures)) in
    let le = near.1 in
    omega (arith, le, ap (λ (a : Level). a.len) c.with.ensures)

pub returns-else-is_kept-clause-filled : goal.returns-else-is_kept-clause-filled
returns-else-is_kept-clause-filled t c =
    sym (filled_here t (goal.at.returns-else-is_kept-clause-filled t c).After-is_kept false c.if-is_kept.false)
