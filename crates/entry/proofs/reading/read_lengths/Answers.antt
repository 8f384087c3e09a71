use Rattle.std.proofs.Common.{◌≡◌, true, sym, ◌∙◌, arith}
use Rattle.entry.specs.Key.{IsBytes}
use Rattle.entry.specs.Format.{listed_at, are_listed}
use Rattle.entry.proofs.LengthLemmas.{are_lengths}
use Rattle.entry.proofs.reading.read_lengths.Goals as goal

pub invariant_of-digest : goal.invariant_of-digest
invariant_of-digest c =
    let bytes = c.args.bytes.now in
    let count = c.u32_at-count.result in
    let fits : IsBytes bytes = λ i. omega (arith, c.type_inv.bytes i) in
    let listed : are_listed (listed_at count 5 bytes) ≡ true =
    sym c.are_segments.ensures ∙ c.if-not-are_segments.false in
    record {
      within = omega arith;
      ids = λ is. absurd (cc);
      lengths = λ is. are_lengths bytes count fits c.u32_at-count.ensures listed;
    }
