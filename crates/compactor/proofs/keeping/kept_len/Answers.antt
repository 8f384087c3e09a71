use Rattle.std.proofs.Common.{◌≡◌, ◌+◌, ◌++◌, ◌∷◌, [], length, cond, sym, ap, subst, refl, arith}
use Rattle.entry.specs.View.{shown}
use Rattle.compactor.specs.Asked.{asked_bytes, held_bytes}
use Rattle.compactor.specs.Kept.{kept}
use Rattle.compactor.specs.Log.{ids_of_log}
use Rattle.compactor.proofs.Cutting.{cut_length}
use Rattle.compactor.proofs.Walking.{IsSummed, IsSummed-start, IsSummed-next, IsSummed-end}
use Rattle.compactor.proofs.Walking.{here_of, not_unread, cut_behind}
use Rattle.compactor.proofs.keeping.kept_len.Goals as goal

pub loop-at-init : goal.loop-at-init
loop-at-init c =
    let ids = ids_of_log c.args.log.now in
    let held = c.args.index.now.held in
    let id = c.args.id in
    record {
      summed = subst (λ xs. IsSummed ids held id c.args.segment.now 0 (0 + held_bytes held id xs))
          (sym c.new-asked.ensures)
          (IsSummed-start ids held id c.args.segment.now);
      low = omega (arith, ap asked_bytes c.new-asked.ensures);
      within = omega arith;
    }

pub unreachable-requires : goal.unreachable-requires
unreachable-requires c =
    let s = c.loop-at.invariant.summed in
    not_unread c.args.segment.now c.bytes-text.result.now c.bytes-text.ensures.text c.bytes-text.ensures.valid.each
    s.before s.rest c.loop-at.at s.cut c.loop-at-test.true c.in_default.ensures.complete

pub loop-at-preserved : goal.loop-at-preserved
loop-at-preserved c =
    let i = c.loop-at.invariant in
    let s = i.summed in
    let at = c.loop-at.at in
    let n = c.in-Ok.taken in
    let e = shown c.in-Ok.entry in
    let ids = ids_of_log c.args.log.now in
    let held = c.args.index.now.held in
    let id = c.args.id in
    let es = c.args.segment.now in
    let text = c.bytes-text.result.now in
    let here =
    here_of es text c.bytes-text.ensures.text c.bytes-text.ensures.valid.each s.before s.rest at s.cut
    c.loop-at-test.true e n c.in-Ok.ensures.complete in
    let b = kept ids held (record { segment = id; at = at }) e in
    let sum = c.loop-at.len + held_bytes held id c.loop-at.asked.items in
    let next : IsSummed ids held id es (at + n) (sum + cond b n 0) =
    IsSummed-next ids held id es at sum s e n here b refl in
    let same : sum + cond b n 0
    ≡ c.loop-at.len + c.count_any-len.result + held_bytes held id c.count_any-len.new.asked.items =
    omega (arith, c.count_any-len.ensures.sum) in
    record {
      summed = subst (λ m. IsSummed ids held id es (at + n) m) same next;
      low = omega (arith, i.low, c.count_any-len.ensures.limit);
      within = omega (
        arith,
        cut_length es (s.before ++ e ∷ []) here.later (at + n)
            (cut_behind ids held id es s.before here.later e at n here.cut here.size),
        ap length c.bytes-text.ensures.text,
      );
    }

pub returns : goal.returns
returns c =
    let ids = ids_of_log c.args.log.now in
    let held = c.args.index.now.held in
    let id = c.args.id in
    let s = c.loop-at.invariant.summed in
    let end =
    IsSummed-end ids held id c.args.segment.now c.loop-at.at
    (c.loop-at.len + held_bytes held id c.loop-at.asked.items) s
    (rw (← c.bytes-text.ensures.text) (omega (arith, c.loop-at-test.false))) in
    omega (arith, end, c.held_bytes.ensures.sum, ap (held_bytes held id) c.as_slice.ensures.value)
