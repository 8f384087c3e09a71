-- The buckets of blocks as one list: where a bucket is, and what a change of one block does.
use Rattle.std.proofs.Common.{◌≡◌, ◌≢◌, ℕ, zero, suc, ◌+◌, ◌-◌, ◌*◌, ◌/◌, ◌%◌, ◌<◌, min, List, [], ◌∷◌, ◌++◌, Vec}
use Rattle.std.proofs.Common.{length, get_or, set, append_assoc, append-nil, length-append, length-set, pos_of_ne-zero}
use Rattle.std.proofs.Common.{refl, sym, ap, subst, ◌∙◌, arith}
use Rattle.std.proofs.lemmas.List.{get_or_append_left, get_or-append_right, set-append_left, set-append_right}
use Rattle.std.proofs.lemmas.List.{get_or_read}
use Rattle.std.proofs.lemmas.Grind.{flat_map-append}
use Rattle.places.specs.declared.place.Held.{Held}
use Rattle.hash_index.specs.Buckets.{in_blocks, AreBlocks}

module _ {A : Type 0} where
  -- there are so many buckets
  pub blocks_length : (n : ℕ) (bs : List (Vec (List Held) A)) → AreBlocks n bs → length (in_blocks bs) ≡ n
  blocks_length n [] are = sym are
  blocks_length n (b ∷ bs) are =
      omega (arith, length-append b.items (in_blocks bs), are.1, blocks_length (n - 64) bs are.2)

  -- ---- a bucket by the number of its block and its number there

  block_among : (n : ℕ) (bs : List (Vec (List Held) A)) (q r : ℕ) → AreBlocks n bs → q * 64 + r < n → q < length bs
  block_among n [] q r are below = absurd (omega (arith, are))
  block_among n (b ∷ bs) zero r are below = omega arith
  block_among n (b ∷ bs) (suc q) r are below =
      omega (arith, block_among (n - 64) bs q r are.2 (omega arith))

  bucket_among : (n : ℕ) (bs : List (Vec (List Held) A)) (q r : ℕ) (d : Vec (List Held) A) → AreBlocks n bs → r < 64
      → q * 64 + r < n → r < length (get_or bs q d).items
  bucket_among n [] q r d are low below = absurd (omega (arith, are))
  bucket_among n (b ∷ bs) zero r d are low below = omega (arith, are.1)
  bucket_among n (b ∷ bs) (suc q) r d are low below = bucket_among (n - 64) bs q r d are.2 low (omega arith)

  full : (n q r at : ℕ) (b : Vec (List Held) A) → length b.items ≡ min 64 n → at ≡ suc q * 64 + r → at < n
      → length b.items ≡ 64
  full n q r at b many is below = omega arith

  bucket_got : (n : ℕ) (bs : List (Vec (List Held) A)) (at q r : ℕ) (d : Vec (List Held) A) (e : List Held)
      → AreBlocks n bs → r < 64 → at ≡ q * 64 + r → at < n
      → get_or (in_blocks bs) at e ≡ get_or (get_or bs q d).items r e
  bucket_got n [] at q r d e are low is below = absurd (omega (arith, are))
  bucket_got n (b ∷ bs) at zero r d e are low is below =
      ap (λ (i : ℕ). get_or (b.items ++ in_blocks bs) i e) (omega arith)
      ∙ get_or_append_left b.items (in_blocks bs) e r (omega (arith, are.1))
  bucket_got n (b ∷ bs) at (suc q) r d e are low is below =
      get_or-append_right b.items (in_blocks bs) 64 at e (full n q r at b are.1 is below) (omega arith)
      ∙ bucket_got (n - 64) bs (at - 64) q r d e are.2 low (omega arith) (omega arith)

  bucket_put : (n : ℕ) (bs : List (Vec (List Held) A)) (at q r : ℕ) (d v : Vec (List Held) A) (x : List Held)
      → AreBlocks n bs → r < 64 → at ≡ q * 64 + r → at < n → v.items ≡ set (get_or bs q d).items r x
      → in_blocks (set bs q v) ≡ set (in_blocks bs) at x
  bucket_put n [] at q r d v x are low is below put = absurd (omega (arith, are))
  bucket_put n (b ∷ bs) at zero r d v x are low is below put =
      ap (λ (xs : List (List Held)). xs ++ in_blocks bs) put
      ∙ sym (set-append_left b.items (in_blocks bs) r x (omega (arith, are.1)))
      ∙ ap (λ (i : ℕ). set (b.items ++ in_blocks bs) i x) (omega arith)
  bucket_put n (b ∷ bs) at (suc q) r d v x are low is below put =
      ap (λ (xs : List (List Held)). b.items ++ xs)
      (bucket_put (n - 64) bs (at - 64) q r d v x are.2 low (omega arith) (omega arith) put)
      ∙ sym (set-append_right b.items (in_blocks bs) 64 at x (full n q r at b are.1 is below) (omega arith))

  -- a block that is as long as the one before
  are_set : (n : ℕ) (bs : List (Vec (List Held) A)) (q : ℕ) (d v : Vec (List Held) A) → AreBlocks n bs
      → length v.items ≡ length (get_or bs q d).items → AreBlocks n (set bs q v)
  are_set n [] q d v are same = are
  are_set n (b ∷ bs) zero d v are same = (are.0, same ∙ are.1, are.2)
  are_set n (b ∷ bs) (suc q) d v are same = (are.0, are.1, are_set (n - 64) bs q d v are.2 same)

  -- a block of the same buckets
  blocks_same : (bs : List (Vec (List Held) A)) (q : ℕ) (d v : Vec (List Held) A) → v.items ≡ (get_or bs q d).items
      → in_blocks (set bs q v) ≡ in_blocks bs
  blocks_same [] q d v same = refl
  blocks_same (b ∷ bs) zero d v same = ap (λ (xs : List (List Held)). xs ++ in_blocks bs) same
  blocks_same (b ∷ bs) (suc q) d v same = ap (λ (xs : List (List Held)). b.items ++ xs) (blocks_same bs q d v same)

  -- ---- one more bucket

  more_blocks : (n : ℕ) (bs : List (Vec (List Held) A)) (q : ℕ) (v : Vec (List Held) A) (x : List Held)
      → AreBlocks n bs → n ≡ q * 64 → v.items ≡ x ∷ [] → AreBlocks (n + 1) (bs ++ v ∷ [])
  more_blocks n [] q v x are is one = (omega arith, ap length one ∙ omega (arith, are), omega (arith, are))
  more_blocks n (b ∷ bs) zero v x are is one = absurd (omega (arith, are.0))
  more_blocks n (b ∷ bs) (suc q) v x are is one =
      let rest = more_blocks (n - 64) bs q v x are.2 (omega arith) one in
      let count : n - 64 + 1 ≡ n + 1 - 64 = omega arith in
      (omega arith, omega (arith, are.1), subst (λ (m : ℕ). AreBlocks m (bs ++ v ∷ [])) count rest)

  pub more_in_blocks : (bs : List (Vec (List Held) A)) (v : Vec (List Held) A) (x : List Held) → v.items ≡ x ∷ []
      → in_blocks (bs ++ v ∷ []) ≡ in_blocks bs ++ x ∷ []
  more_in_blocks bs v x one =
      flat_map-append (λ (b : Vec (List Held) A). b.items) bs (v ∷ [])
      ∙ ap (λ (xs : List (List Held)). in_blocks bs ++ xs) (append-nil v.items ∙ one)

  longer_last : (n : ℕ) (bs : List (Vec (List Held) A)) (q r : ℕ) (d v : Vec (List Held) A) (x : List Held)
      → AreBlocks n bs → 0 < r → r < 64 → n ≡ q * 64 + r → v.items ≡ (get_or bs q d).items ++ x ∷ []
      → AreBlocks (n + 1) (set bs q v)
  longer_last n [] q r d v x are some low is more = absurd (omega (arith, are))
  longer_last n (b ∷ []) zero r d v x are some low is more =
      (omega arith, ap length more ∙ length-append b.items (x ∷ []) ∙ omega (arith, are.1), omega arith)
  longer_last n (b ∷ c ∷ bs) zero r d v x are some low is more = absurd (omega (arith, are.2.0))
  longer_last n (b ∷ bs) (suc q) r d v x are some low is more =
      let rest = longer_last (n - 64) bs q r d v x are.2 some low (omega arith) more in
      let count : n - 64 + 1 ≡ n + 1 - 64 = omega arith in
      (omega arith, omega (arith, are.1), subst (λ (m : ℕ). AreBlocks m (set bs q v)) count rest)

  longer_in_blocks : (n : ℕ) (bs : List (Vec (List Held) A)) (q r : ℕ) (d v : Vec (List Held) A) (x : List Held)
      → AreBlocks n bs → 0 < r → r < 64 → n ≡ q * 64 + r → v.items ≡ (get_or bs q d).items ++ x ∷ []
      → in_blocks (set bs q v) ≡ in_blocks bs ++ x ∷ []
  longer_in_blocks n [] q r d v x are some low is more = absurd (omega (arith, are))
  longer_in_blocks n (b ∷ []) zero r d v x are some low is more =
      append-nil v.items ∙ more ∙ ap (λ (xs : List (List Held)). xs ++ x ∷ []) (sym (append-nil b.items))
  longer_in_blocks n (b ∷ c ∷ bs) zero r d v x are some low is more = absurd (omega (arith, are.2.0))
  longer_in_blocks n (b ∷ bs) (suc q) r d v x are some low is more =
      ap (λ (xs : List (List Held)). b.items ++ xs)
      (longer_in_blocks (n - 64) bs q r d v x are.2 some low (omega arith) more)
      ∙ sym (append_assoc b.items (in_blocks bs) (x ∷ []))

  -- ---- as the code has it

  pub blocks_more : (n : ℕ) (bs : List (Vec (List Held) A)) (v : Vec (List Held) A) (x : List Held) → AreBlocks n bs
      → n % 64 ≡ 0 → v.items ≡ x ∷ [] → AreBlocks (n + 1) (bs ++ v ∷ [])
  blocks_more n bs v x are even one = more_blocks n bs (n / 64) v x are (omega arith) one

  -- the last of them has room for one more
  module _ (n : ℕ) (bs : List (Vec (List Held) A)) (are : AreBlocks n bs) (odd : n % 64 ≢ 0) where
    some : 0 < n % 64
    some = pos_of_ne-zero odd

    left : n % 64 < 64
    left = omega arith

    whole : n ≡ n / 64 * 64 + n % 64
    whole = omega arith

    pub last_among : n / 64 < length bs
    last_among = block_among n bs (n / 64) 0 are (omega (arith, some, whole))

    module _ (b v : Vec (List Held) A) (there : b ≡ get_or bs (n / 64) b) where
      pub same_are : v.items ≡ b.items → AreBlocks n (set bs (n / 64) v)
      same_are same =
          are_set n bs (n / 64) b v are (ap length same ∙ ap (λ (y : Vec (List Held) A). length y.items) there)

      pub same_in_blocks : v.items ≡ b.items → in_blocks (set bs (n / 64) v) ≡ in_blocks bs
      same_in_blocks same =
          blocks_same bs (n / 64) b v (same ∙ ap (λ (y : Vec (List Held) A). y.items) there)

      module _ (x : List Held) (more : v.items ≡ b.items ++ x ∷ []) where
        after : v.items ≡ (get_or bs (n / 64) b).items ++ x ∷ []
        after = more ∙ ap (λ (y : Vec (List Held) A). y.items ++ x ∷ []) there

        pub last_are : AreBlocks (n + 1) (set bs (n / 64) v)
        last_are = longer_last n bs (n / 64) (n % 64) b v x are some left whole after

        pub last_in_blocks : in_blocks (set bs (n / 64) v) ≡ in_blocks bs ++ x ∷ []
        last_in_blocks = longer_in_blocks n bs (n / 64) (n % 64) b v x are some left whole after

  -- a bucket of the list vs that a contract sees
  module _ (n : ℕ) (bs : List (Vec (List Held) A)) (vs : List (List Held)) (are : AreBlocks n bs)
      (view : in_blocks bs ≡ vs) (at : ℕ) (under : at < length vs) where
    below : at < n
    below = omega (arith, under, ap length view, blocks_length n bs are)

    parts : at ≡ at / 64 * 64 + at % 64
    parts = omega arith

    low : at % 64 < 64
    low = omega arith

    pub block_there : at / 64 < length bs
    block_there = block_among n bs (at / 64) (at % 64) are (omega (arith, below, parts))

    module _ (b : Vec (List Held) A) (there : b ≡ get_or bs (at / 64) b) where
      pub bucket_there : at % 64 < length b.items
      bucket_there =
          subst (λ (y : Vec (List Held) A). at % 64 < length y.items) (sym there)
          (bucket_among n bs (at / 64) (at % 64) b are low (omega (arith, below, parts)))

      -- the bucket that is read is the one of the list
      pub bucket_is : (x : List Held) → x ≡ get_or b.items (at % 64) x → x ≡ get_or vs at []
      bucket_is x is =
          get_or_read b.items (at % 64) x bucket_there is []
          ∙ ap (λ (y : Vec (List Held) A). get_or y.items (at % 64) []) there
          ∙ sym (bucket_got n bs at (at / 64) (at % 64) b [] are low parts below)
          ∙ ap (λ (xs : List (List Held)). get_or xs at []) view

      module _ (v : Vec (List Held) A) (x : List Held) (put : v.items ≡ set b.items (at % 64) x) where
        within : v.items ≡ set (get_or bs (at / 64) b).items (at % 64) x
        within = put ∙ ap (λ (y : Vec (List Held) A). set y.items (at % 64) x) there

        -- one bucket of one block set is one of the list set
        pub put_in_blocks : in_blocks (set bs (at / 64) v) ≡ set vs at x
        put_in_blocks =
            bucket_put n bs at (at / 64) (at % 64) b v x are low parts below within
            ∙ ap (λ (xs : List (List Held)). set xs at x) view

        pub put_are : AreBlocks n (set bs (at / 64) v)
        put_are =
            are_set n bs (at / 64) b v are
            (ap length within ∙ length-set (get_or bs (at / 64) b).items (at % 64) x)
