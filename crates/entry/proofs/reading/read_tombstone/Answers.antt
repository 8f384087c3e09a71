use Rattle.std.proofs.Common.{◌≡◌, ◌+◌, ◌-◌, length, take, drop, arith}
use Rattle.std.proofs.lemmas.List.{length-take, length-drop}
use Rattle.entry.specs.Key.{IsBytes}
use Rattle.entry.proofs.Numbers.{IsBytes-take, IsBytes-drop}
use Rattle.entry.proofs.reading.read_tombstone.Goals as goal

pub invariant_of-key : goal.invariant_of-key
invariant_of-key c =
    let bytes = c.args.bytes.now in
    let k = 27 + c.u16_at-key_len.result - 27 in
    let fits : IsBytes bytes = λ i. omega (arith, c.type_inv.bytes i) in
    let len : length (take k (drop 27 bytes)) ≡ c.u16_at-key_len.result =
    omega (arith, length-take k (drop 27 bytes), length-drop 27 bytes) in
    record {
      limits = record {
        not_empty = omega arith;
        limit = omega arith;
        each = IsBytes-take k (drop 27 bytes) (IsBytes-drop 27 bytes fits);
      };
    }
