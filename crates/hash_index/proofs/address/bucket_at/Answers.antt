use Rattle.std.proofs.Common.{◌≡◌, ℕ, suc, ◌+◌, ◌-◌, ◌*◌, ◌%◌, ◌^◌, ◌<◌, ◌≤◌, bit_and, sym, ap, subst, ◌∙◌}
use Rattle.std.proofs.lemmas.Nat.{and_mask}
use Rattle.hash_index.proofs.Addresses.{bucket_low, bucket_high, half_of, mask_of}
use Rattle.hash_index.proofs.address.bucket_at.Goals as goal

low : (h l : ℕ) → l < 64
    → bit_and h (1 * 2 ^ l % 18446744073709551616 - 1 + 1 * 2 ^ l % 18446744073709551616) ≡ h % 2 ^ suc l
low h l bound = ap (λ (x : ℕ). bit_and h x) (mask_of l bound) ∙ and_mask h (suc l)

pub returns-then-low-count-clause-bucket : goal.returns-then-low-count-clause-bucket
returns-then-low-count-clause-bucket c =
    let l = c.ilog2.result in
    let h = c.args.hash in
    let n = c.args.count in
    let e = c.ilog2.ensures in
    low h l e.bound
    ∙ sym (bucket_low l n h e.power_le e.next_power_gt e.bound
    (subst (λ (x : ℕ). x < n) (low h l e.bound) c.if-low-count.true))

pub returns-else-low-count-clause-bucket : goal.returns-else-low-count-clause-bucket
returns-else-low-count-clause-bucket c =
    let l = c.ilog2.result in
    let h = c.args.hash in
    let n = c.args.count in
    let e = c.ilog2.ensures in
    ap (λ (x : ℕ). bit_and h (x - 1)) (half_of l e.bound)
    ∙ and_mask h l
    ∙ sym (bucket_high l n h e.power_le e.next_power_gt e.bound
    (subst (λ (x : ℕ). n ≤ x) (low h l e.bound) c.if-low-count.false))
