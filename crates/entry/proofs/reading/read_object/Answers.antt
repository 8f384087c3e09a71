use Rattle.std.proofs.Common.{◌≡◌, ◌+◌, ◌-◌, length, take, drop, arith}
use Rattle.std.proofs.lemmas.List.{length-take, length-drop}
use Rattle.entry.specs.Key.{IsBytes}
use Rattle.entry.proofs.Numbers.{IsBytes-take, IsBytes-drop}
use Rattle.entry.proofs.reading.read_object.Goals as goal

pub invariant_of-key : goal.invariant_of-key
invariant_of-key c =
    let bytes = c.args.bytes.now in
    let k = 23 + c.u16_at-key_len.result - 23 in
    let fits : IsBytes bytes = λ i. omega (arith, c.type_inv.bytes i) in
    let len : length (take k (drop 23 bytes)) ≡ c.u16_at-key_len.result =
    omega (arith, length-take k (drop 23 bytes), length-drop 23 bytes) in
    record {
      limits = record {
        not_empty = omega arith;
        limit = omega arith;
        each = IsBytes-take k (drop 23 bytes) (IsBytes-drop 23 bytes fits);
      };
    }
