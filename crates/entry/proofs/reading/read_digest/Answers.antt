use Rattle.std.proofs.Common.{◌≡◌, true, sym, ◌∙◌, arith}
use Rattle.entry.specs.Key.{IsBytes}
use Rattle.entry.specs.Format.{ids_at, rises}
use Rattle.entry.proofs.ReadingLemmas.{are_ids}
use Rattle.entry.proofs.reading.read_digest.Goals as goal

pub invariant_of-digest : goal.invariant_of-digest
invariant_of-digest c =
    let bytes = c.args.bytes.now in
    let count = c.u32_at-count.result in
    let fits : IsBytes bytes = λ i. omega (arith, c.type_inv.bytes i) in
    let rise : rises (ids_at count 5 bytes) ≡ true = sym c.ids_rise.ensures ∙ c.if-not-ids_rise.false in
    record {
      within = omega arith;
      ids = λ is. are_ids bytes count fits c.u32_at-count.ensures rise;
      lengths = λ is. absurd (cc);
    }
