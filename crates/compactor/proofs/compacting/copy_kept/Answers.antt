use Rattle.std.proofs.Common.{◌≡◌, ℕ, ◌≤◌, ◌+◌, ◌-◌, List, ◌++◌, [], ◌∷◌, refl, sym, ap, ◌∙◌, append_assoc}
use Rattle.std.proofs.Common.{vec_capacity, vec_len, length, arith}
use Rattle.std.proofs.lemmas.List.{length-append, append-nil}
use Rattle.entry.specs.Format.{spelling}
use Rattle.entry.specs.View.{shown}
use Rattle.compactor.specs.Log.{ids_of_log}
use Rattle.compactor.specs.Piece.{piece}
use Rattle.compactor.proofs.KeptEntries.{kept_length}
use Rattle.compactor.proofs.Cutting.{piece_length, piece_none, piece_more, cut_length}
use Rattle.compactor.proofs.Walking.{IsCopied, IsCopied-start, IsCopied-kept, IsCopied-dropped, IsCopied-as}
use Rattle.compactor.proofs.Walking.{copied_room}
use Rattle.compactor.proofs.Walking.{IsCopied-text, IsCopied-all, IsCopied-follows, here_of, not_unread, cut_behind}
use Rattle.compactor.proofs.compacting.copy_kept.Goals.{then-not-kept_and_moved, else-not-kept_and_moved}
use Rattle.compactor.proofs.compacting.copy_kept.Goals as goal

pub loop-at-init : goal.loop-at-init
loop-at-init c =
    let out = c.args.out.now in
    let text = c.bytes-text.result.now in
    let nothing : out.items ++ piece 0 0 text ≡ [] =
    ap (λ (l : List ℕ). out.items ++ l) (piece_none 0 text) ∙ append-nil out.items ∙ c.requires.empty in
    let none : vec_len out ≡ 0 = out.ok.0 ∙ ap length c.requires.empty in
    record {
      copied = IsCopied-start (ids_of_log c.args.log.now) c.args.index.now.held c.args.id c.args.segment.now
          (out.items ++ piece 0 0 text) (vec_capacity out) nothing c.requires.room;
      room = refl;
      low = omega (arith, none);
      order = omega arith;
      within = omega arith;
      fits = omega (arith, none);
    }

pub unreachable-requires : goal.unreachable-requires
unreachable-requires c =
    let s = c.loop-at.invariant.copied in
    not_unread c.args.segment.now c.bytes-text.result.now c.bytes-text.ensures.text c.bytes-text.ensures.valid.each
    s.before s.rest c.loop-at.at s.cut c.loop-at-test.true c.in_default.ensures.complete

pub loop-at-preserved : goal.loop-at-preserved
loop-at-preserved c =
    let i = c.loop-at.invariant in
    let s = i.copied in
    let text = c.bytes-text.result.now in
    let from = c.loop-at.from in
    let at = c.loop-at.at in
    let n = c.in-Ok.taken in
    let e = shown c.in-Ok.entry in
    let ids = ids_of_log c.args.log.now in
    let held = c.args.index.now.held in
    let id = c.args.id in
    let out = c.loop-at.out in
    let done = out.items ++ piece from at text in
    let es = c.args.segment.now in
    let all = c.bytes-text.ensures.valid.each in
    let here =
    here_of es text c.bytes-text.ensures.text all s.before s.rest at s.cut c.loop-at-test.true e n
    c.in-Ok.ensures.complete in
    let to = c.len.result + (at - from) in
    let end : to ≡ length done =
    omega (
      arith,
      c.len.ensures,
      out.ok.0,
      length-append out.items (piece from at text),
      piece_length from at text i.within,
    ) in
    let now = c.kept_and_moved.new.index in
    let room : now.room ≡ c.args.index.now.room = c.kept_and_moved.ensures.room ∙ i.room in
    let below : at + n ≤ length text =
    omega (
      arith,
      cut_length es (s.before ++ e ∷ []) here.later (at + n)
          (cut_behind ids held id es s.before here.later e at n here.cut here.size),
      ap length c.bytes-text.ensures.text,
    ) in
    elim c.if-not-kept_and_moved.branch as (λ _. record {
      copied : IsCopied ids held id es (at + n)
          (c.if-not-kept_and_moved.out.items ++ piece c.if-not-kept_and_moved.from (at + n) text)
          (vec_capacity c.if-not-kept_and_moved.out) now.held;
      room : now.room ≡ c.args.index.now.room;
      low : vec_len c.if-not-kept_and_moved.out ≤ c.if-not-kept_and_moved.from;
      order : c.if-not-kept_and_moved.from ≤ at + n;
      within : at + n ≤ length text;
      fits : vec_len c.if-not-kept_and_moved.out + (at + n - c.if-not-kept_and_moved.from)
          ≤ vec_capacity c.if-not-kept_and_moved.out;
    }) [
      | then-not-kept_and_moved w ↦ (
          let more = w.append_piece.new.out in
          let same : more.items ++ piece (at + n) (at + n) text ≡ done =
          ap (λ (l : List ℕ). more.items ++ l) (piece_none (at + n) text) ∙ append-nil more.items
          ∙ w.append_piece.ensures.items in
          rw (w.out-is, w.from-is, c.kept_and_moved.ensures.moved) (record {
            copied = IsCopied-as ids held id es (at + n) done (more.items ++ piece (at + n) (at + n) text)
                (vec_capacity out) (vec_capacity more) _ same w.append_piece.ensures.capacity
                (IsCopied-dropped ids held id es all at done (vec_capacity out) c.loop-at.index.held s e n to here end
                c.kept_and_moved.result c.kept_and_moved.ensures.kept w.if-not-kept_and_moved.true);
            room = room;
            low = omega (arith, w.append_piece.ensures.len, i.low, i.order);
            order = omega arith;
            within = below;
            fits = omega (arith, w.append_piece.ensures.len, w.append_piece.ensures.capacity, i.fits);
          }))
      | else-not-kept_and_moved w ↦ (
          let kept = w.if-not-kept_and_moved.false in
          let longer = out.items ++ piece from (at + n) text in
          let more : longer ≡ done ++ spelling e =
          ap (λ (l : List ℕ). out.items ++ l)
          (piece_more from at n text (spelling e) i.order c.in-Ok.ensures.found.text)
          ∙ sym (append_assoc out.items (piece from at text) (spelling e)) in
          let fits =
          copied_room ids held id es all at done (vec_capacity out) c.loop-at.index.held s e n to here end
          c.kept_and_moved.result c.kept_and_moved.ensures.kept kept in
          rw (w.out-is, w.from-is, c.kept_and_moved.ensures.moved) (record {
            copied = IsCopied-kept ids held id es all at done (vec_capacity out) c.loop-at.index.held s e n to here end
                c.kept_and_moved.result c.kept_and_moved.ensures.kept kept longer (vec_capacity out) more
                (omega arith);
            room = room;
            low = i.low;
            order = omega (arith, i.order);
            within = below;
            fits = omega (arith, fits, end, c.len.ensures, i.order);
          }))
    ]

pub returns-clause-copied : goal.returns-clause-copied
returns-clause-copied c =
    let at = c.loop-at.at in
    let out = c.loop-at.out in
    let text = c.bytes-text.result.now in
    rw c.append_piece-2.ensures.items (IsCopied-all (ids_of_log c.args.log.now) c.args.index.now.held c.args.id
    c.args.segment.now text c.bytes-text.ensures.text c.bytes-text.ensures.valid at
    (out.items ++ piece c.loop-at.from at text) (vec_capacity out) c.loop-at.index.held c.loop-at.invariant.copied
    (omega (arith, c.loop-at-test.false)))

pub returns-clause-limit : goal.returns-clause-limit
returns-clause-limit c =
    let ids = ids_of_log c.args.log.now in
    let es = c.args.segment.now in
    let at = c.loop-at.at in
    let out = c.loop-at.out in
    let text = c.bytes-text.result.now in
    let copied =
    IsCopied-text ids c.args.index.now.held c.args.id es at (out.items ++ piece c.loop-at.from at text)
    (vec_capacity out) c.loop-at.index.held c.loop-at.invariant.copied
    (rw (← c.bytes-text.ensures.text) (omega (arith, c.loop-at-test.false))) in
    omega (
      arith,
      ap length c.append_piece-2.ensures.items,
      ap length copied,
      kept_length ids c.args.index.now.held c.args.id 0 es,
      ap length c.bytes-text.ensures.text,
      c.bytes-text.ensures.limit,
    )

pub returns-clause-followed : goal.returns-clause-followed
returns-clause-followed c =
    IsCopied-follows (ids_of_log c.args.log.now) c.args.index.now.held c.args.id c.args.segment.now
    c.bytes-text.ensures.valid.each c.loop-at.at
    (c.loop-at.out.items ++ piece c.loop-at.from c.loop-at.at c.bytes-text.result.now) (vec_capacity c.loop-at.out)
    c.loop-at.index.held c.loop-at.invariant.copied
    (rw (← c.bytes-text.ensures.text) (omega (arith, c.loop-at-test.false)))
