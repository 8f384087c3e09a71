use Rattle.std.proofs.Common.{◌+◌, ◌*◌, get_or, sym, ◌∙◌, arith}
use Rattle.places.specs.Lists.{has_hash}
use Rattle.hash_index.proofs.Packing.{step_found, step_on}
use Rattle.hash_index.proofs.slots.Slots.search_hashed.Goals as goal

pub loop-slot-preserved-then-is_hashed : goal.loop-slot-preserved-then-is_hashed
loop-slot-preserved-then-is_hashed c =
    let hs = c.args.self.now in
    let i = c.loop-slot.slot in
    let d = get_or hs i (record { hash = 0; place = record { segment = 0; at = 0 } }) in
    let p = has_hash (c.args.tag * 512 + c.args.low) in
    record {
      found = step_found p hs i d c.loop-slot-test.true c.loop-slot.invariant.within
          (sym (c.is_hashed.ensures d) ∙ c.if-is_hashed.true);
      within = omega (arith, c.loop-slot.invariant.within);
      len = c.loop-slot.invariant.len;
    }

pub loop-slot-preserved : goal.loop-slot-preserved
loop-slot-preserved c =
    let hs = c.args.self.now in
    let i = c.loop-slot.slot in
    let d = get_or hs i (record { hash = 0; place = record { segment = 0; at = 0 } }) in
    let p = has_hash (c.args.tag * 512 + c.args.low) in
    record {
      found = step_on p hs i d c.loop-slot-test.true c.loop-slot.invariant.within c.loop-slot.found
          (sym (c.is_hashed.ensures d) ∙ c.if-is_hashed.false) c.loop-slot.invariant.found;
      within = omega (arith, c.loop-slot.invariant.within);
      len = c.loop-slot.invariant.len;
    }
