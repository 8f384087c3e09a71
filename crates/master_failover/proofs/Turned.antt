-- If a failover's new head may be opened, its digest lists no more ids than it may, and no seglet is missing.
use Rattle.std.proofs.Common.{◌≡◌, ◌+◌, ◌-◌, ◌<◌, ◌≤◌, Bool, true, false, length, sym, ap, ◌∙◌, arith}
use Rattle.std.specs.Prelude.{if◌then◌else◌}
use Rattle.std.specs.Prelude.{Option, Some, None, IfSome, ◌||◌, ◌&&◌, nat_le}
use Rattle.std.specs.Option.{option_map_or}
use Rattle.std.proofs.Math.Nat.{mul-div-le}
use Rattle.std.proofs.lemmas.Bool.{and_parts, leb-true}
use Rattle.master_state.specs.cleaner.declared.pass.Pass.{Pass}
use Rattle.log_head.specs.Head.{digest_of}
use Rattle.master_state.specs.declared.failover.Failover.{Failover}
use Rattle.master_state.specs.Budget.{most_segments, is_ready, may_turn, turn_listed, turn_need, free_seglets}
use Rattle.master_state.specs.Data.{MasterData}
use Rattle.master_state.specs.Invariant.{IsOpenPass, IsCore}
use Rattle.master_state.proofs.Refusals.{sizes_of}
use Rattle.master_rolls.proofs.NextIds.{next_ids, count_none, count_commit}

module _ (d : MasterData) (core : IsCore d) where
  few_of : (o : Option Pass) → IfSome o (IsOpenPass d) → (t : Bool)
      → (if t then length (digest_of d.head.image) - option_map_or (λ (p : Pass). length p.victims) o 1
      + option_map_or (λ (p : Pass). p.survivors.count) o 1 + 1 else length (digest_of d.head.image) + 1)
      ≤ most_segments d.config
      → length (next_ids d o t) + 1 ≤ most_segments d.config
  few_of o opens false le = (let all = count_none d core in omega arith)
  few_of None opens true le = (let all = count_none d core in omega arith)
  few_of (Some p) opens true le = (let count = count_commit d core p opens in omega arith)

  module _ (may : may_turn d ≡ true)
      (later : option_map_or (λ (f : Failover). f.is_first) d.failover false ≡ false) where
    rule : (nat_le (turn_listed d) (most_segments d.config) && nat_le (turn_need d) (free_seglets d)) ≡ true
    rule =
        ap (λ (b : Bool). b || nat_le (turn_listed d) (most_segments d.config)
        && nat_le (turn_need d) (free_seglets d)) (sym later) ∙ (and_parts _ _ may).1

    pub turned_few : length (next_ids d d.pass (is_ready d)) + 1 ≤ most_segments d.config
    turned_few =
        few_of d.pass core.pass (is_ready d)
        (leb-true (turn_listed d) (most_segments d.config) (and_parts _ _ rule).0)

    pub turned_free : turn_need d ≤ free_seglets d
    turned_free = leb-true (turn_need d) (free_seglets d) (and_parts _ _ rule).1

    pub turned_count : length (next_ids d d.pass (is_ready d)) < 262144
    turned_count =
        let few = turned_few in
        let most = (sizes_of d.config core.config).most_segment in
        let parts = mul-div-le d.config.segment 32 in
        omega arith
