-- Which bucket has a hash, and what changes once there is one more bucket.
use Rattle.std.proofs.Common.{◌≡◌, ℕ, zero, suc, ◌+◌, ◌-◌, ◌*◌, ◌%◌, ◌^◌, ◌<◌, ◌≤◌, Bool, true, false, cond}
use Rattle.std.proofs.Common.{ltb-true, ltb-false, lt-ltb, le-ltb, refl, sym, ap, subst, ◌∙◌, arith}
use Rattle.std.specs.Prelude.{nat_lt}
use Rattle.std.proofs.Math.Nat.{mod-eq_of_lt, mod-lt, mod-one, pow-succ'}
use Rattle.std.proofs.Math.Pow.{mod-mod-pow, pow-lt}
use Rattle.std.proofs.lemmas.Nat.{pow_pos}
use Rattle.hash_index.specs.Buckets.{longest, bucket_of}

-- the longer piece names a bucket
step_in : (k n h : ℕ) → h % 2 ^ suc k < n → longest (suc k) n h ≡ h % 2 ^ suc k
step_in k n h lt = ap (λ (b : Bool). cond b (h % 2 ^ suc k) (longest k n h)) (lt-ltb (h % 2 ^ suc k) n lt)

-- it names none
step_out : (k n h : ℕ) → n ≤ h % 2 ^ suc k → longest (suc k) n h ≡ longest k n h
step_out k n h le = ap (λ (b : Bool). cond b (h % 2 ^ suc k) (longest k n h)) (le-ltb (h % 2 ^ suc k) n le)

twice : (k : ℕ) → 2 ^ suc k ≡ 2 * 2 ^ k
twice k = pow-succ' 2 k

below : (k n h : ℕ) → longest k n h < 2 ^ k
below zero n h = pow_pos 0
below (suc k) n h = go (below k n h) (nat_lt (h % 2 ^ suc k) n) refl
  where
    go : longest k n h < 2 ^ k → (b : Bool) → nat_lt (h % 2 ^ suc k) n ≡ b → longest (suc k) n h < 2 ^ suc k
    go rest true so =
        subst (λ (x : ℕ). x < 2 ^ suc k) (sym (step_in k n h (ltb-true (h % 2 ^ suc k) n so)))
        (mod-lt h (pow_pos (suc k)))
    go rest false isnt =
        let double = twice k in
        subst (λ (x : ℕ). x < 2 ^ suc k) (sym (step_out k n h (ltb-false (h % 2 ^ suc k) n isnt)))
        (omega (arith, rest, double))

shorter : (k h g : ℕ) → h % 2 ^ suc k ≡ g % 2 ^ suc k → h % 2 ^ k ≡ g % 2 ^ k
shorter k h g same =
    let one : 1 + k ≡ suc k = omega arith in
    let longer : h % 2 ^ (1 + k) ≡ g % 2 ^ (1 + k) = subst (λ (j : ℕ). h % 2 ^ j ≡ g % 2 ^ j) (sym one) same in
    sym (mod-mod-pow h 1 k) ∙ ap (λ (x : ℕ). x % 2 ^ k) longer ∙ mod-mod-pow g 1 k

same_low : (k n h g : ℕ) → h % 2 ^ k ≡ g % 2 ^ k → longest k n h ≡ longest k n g
same_low zero n h g same = refl
same_low (suc k) n h g same =
    ap (λ (m : ℕ). cond (nat_lt m n) m (longest k n h)) same
    ∙ ap (λ (x : ℕ). cond (nat_lt (g % 2 ^ suc k) n) (g % 2 ^ suc k) x) (same_low k n h g (shorter k h g same))

-- a hash that doesn't go to the new bucket stays where it was
stays_at : (k n h : ℕ) → (longest k (suc n) h ≡ n → ⊥) → longest k (suc n) h ≡ longest k n h
stays_at zero n h other = refl
stays_at (suc k) n h other = go (stays_at k n h) (nat_lt (h % 2 ^ suc k) n) refl (nat_lt n (h % 2 ^ suc k)) refl
  where
    go : ((longest k (suc n) h ≡ n → ⊥) → longest k (suc n) h ≡ longest k n h)
        → (a : Bool) → nat_lt (h % 2 ^ suc k) n ≡ a → (b : Bool) → nat_lt n (h % 2 ^ suc k) ≡ b
        → longest (suc k) (suc n) h ≡ longest (suc k) n h
    go rest true less b so =
        let lt = ltb-true (h % 2 ^ suc k) n less in
        step_in k (suc n) h (omega (arith, lt)) ∙ sym (step_in k n h lt)
    go rest false less true more =
        let gt = ltb-true n (h % 2 ^ suc k) more in
        let out = step_out k (suc n) h (omega (arith, gt)) in
        out ∙ rest (λ e. other (out ∙ e)) ∙ sym (step_out k n h (omega (arith, gt)))
    go rest false less false more =
        let le = ltb-false (h % 2 ^ suc k) n less in
        let ge = ltb-false n (h % 2 ^ suc k) more in
        let is : h % 2 ^ suc k ≡ n = omega (arith, le, ge) in
        absurd (other (step_in k (suc n) h (omega (arith, ge)) ∙ is))

-- one that does was in the bucket in which the new bucket's number is, as a hash
comes_from : (k n h : ℕ) → longest k (suc n) h ≡ n → longest k n h ≡ longest k n n
comes_from zero n h is = refl
comes_from (suc k) n h is = go (comes_from k n h) (nat_lt (h % 2 ^ suc k) n) refl (nat_lt n (h % 2 ^ suc k)) refl
  where
    go : (longest k (suc n) h ≡ n → longest k n h ≡ longest k n n)
        → (a : Bool) → nat_lt (h % 2 ^ suc k) n ≡ a → (b : Bool) → nat_lt n (h % 2 ^ suc k) ≡ b
        → longest (suc k) n h ≡ longest (suc k) n n
    go rest true less b so =
        let lt = ltb-true (h % 2 ^ suc k) n less in
        let at = sym (step_in k (suc n) h (omega (arith, lt))) ∙ is in
        absurd (omega (arith, lt, at))
    go rest false less true more =
        let gt = ltb-true n (h % 2 ^ suc k) more in
        let smaller : longest k (suc n) h ≡ n = sym (step_out k (suc n) h (omega (arith, gt))) ∙ is in
        let small : n < 2 ^ k = subst (λ (x : ℕ). x < 2 ^ k) smaller (below k (suc n) h) in
        let double = twice k in
        let itself : n % 2 ^ suc k ≡ n = mod-eq_of_lt (omega (arith, small, double)) in
        step_out k n h (omega (arith, gt)) ∙ rest smaller ∙ sym (step_out k n n (omega (arith, itself)))
    go rest false less false more =
        let le = ltb-false (h % 2 ^ suc k) n less in
        let ge = ltb-false n (h % 2 ^ suc k) more in
        let same : h % 2 ^ suc k ≡ n = omega (arith, le, ge) in
        let small : n < 2 ^ suc k = subst (λ (x : ℕ). x < 2 ^ suc k) same (mod-lt h (pow_pos (suc k))) in
        let itself : n % 2 ^ suc k ≡ n = mod-eq_of_lt small in
        step_out k n h le
        ∙ same_low k n h n (shorter k h n (same ∙ sym itself))
        ∙ sym (step_out k n n (omega (arith, itself)))

pub bucket_stays : (n h : ℕ) → (bucket_of (suc n) h ≡ n → ⊥) → bucket_of (suc n) h ≡ bucket_of n h
unfolding bucket_of
bucket_stays n h other = stays_at 64 n h other

pub bucket_source : (n h : ℕ) → bucket_of (suc n) h ≡ n → bucket_of n h ≡ bucket_of n n
unfolding bucket_of
bucket_source n h is = comes_from 64 n h is

-- ---- how it is computed

whole : (k n h : ℕ) → h % 2 ^ k < n → longest k n h ≡ h % 2 ^ k
whole zero n h lt = sym (mod-one h)
whole (suc k) n h lt = step_in k n h lt

collapse : (j k n h : ℕ) → n ≤ 2 ^ k → longest (j + k) n h ≡ longest k n h
collapse zero k n h few = ap (λ (x : ℕ). longest x n h) (omega arith)
collapse (suc j) k n h few =
    ap (λ (x : ℕ). longest x n h) next ∙ go (collapse j k n h few) (nat_lt (h % 2 ^ suc (j + k)) n) refl
  where
    next : suc j + k ≡ suc (j + k)
    next = omega arith

    go : longest (j + k) n h ≡ longest k n h → (b : Bool) → nat_lt (h % 2 ^ suc (j + k)) n ≡ b
        → longest (suc (j + k)) n h ≡ longest k n h
    go rest true so =
        let lt = ltb-true (h % 2 ^ suc (j + k)) n so in
        let least : h % 2 ^ suc (j + k) % 2 ^ k ≡ h % 2 ^ suc (j + k) = mod-eq_of_lt (omega (arith, lt, few)) in
        let piece : h % 2 ^ suc (j + k) % 2 ^ k ≡ h % 2 ^ k =
        subst (λ (x : ℕ). h % 2 ^ x % 2 ^ k ≡ h % 2 ^ k) next (mod-mod-pow h (suc j) k) in
        let same : h % 2 ^ suc (j + k) ≡ h % 2 ^ k = sym least ∙ piece in
        step_in (j + k) n h lt ∙ same ∙ sym (whole k n h (subst (λ (x : ℕ). x < n) same lt))
    go rest false isnt = step_out (j + k) n h (ltb-false (h % 2 ^ suc (j + k)) n isnt) ∙ rest

module _ (l n h : ℕ) (least : 2 ^ l ≤ n) (most : n < 2 * 2 ^ l) (bound : l < 64) where
  at_level : bucket_of n h ≡ longest (suc l) n h
  unfolding bucket_of
  at_level =
      let double = twice l in
      let sum : (63 - l) + suc l ≡ 64 = omega (arith, bound) in
      ap (λ (x : ℕ). longest x n h) (sym sum) ∙ collapse (63 - l) (suc l) n h (omega (arith, most, double))

  pub bucket_low : h % 2 ^ suc l < n → bucket_of n h ≡ h % 2 ^ suc l
  bucket_low lt = at_level ∙ step_in l n h lt

  pub bucket_high : n ≤ h % 2 ^ suc l → bucket_of n h ≡ h % 2 ^ l
  bucket_high le =
      let small = mod-lt h (pow_pos l) in
      at_level ∙ step_out l n h le ∙ whole l n h (omega (arith, small, least))

pub half_of : (l : ℕ) → l < 64 → 1 * 2 ^ l % 18446744073709551616 ≡ 2 ^ l
half_of l bound =
    let small : 2 ^ l < 2 ^ 64 = pow-lt bound in
    let one : 1 * 2 ^ l ≡ 2 ^ l = omega arith in
    ap (λ (x : ℕ). x % 18446744073709551616) one ∙ mod-eq_of_lt small

pub mask_of : (l : ℕ) → l < 64
    → 1 * 2 ^ l % 18446744073709551616 - 1 + 1 * 2 ^ l % 18446744073709551616 ≡ 2 ^ suc l - 1
mask_of l bound =
    let half = half_of l bound in
    let double = twice l in
    let some = pow_pos l in
    ap (λ (x : ℕ). x - 1 + x) half ∙ omega (arith, double, some)
