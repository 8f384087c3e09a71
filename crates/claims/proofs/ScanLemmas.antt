-- What a scan over sorted claims finds.
use Rattle.std.proofs.Common.{◌≡◌, ℕ, ◌+◌, ◌*◌, ◌≤◌, Bool, true, false, cond, List, []}
use Rattle.std.proofs.Common.{◌∷◌, map, refl, sym, ap, subst, ◌∙◌, inl, inr, arith}
use Rattle.std.specs.Prelude.{not, ◌||◌, ◌==◌, nat_eq}
use Rattle.std.specs.Cmp.Lexicographic.{pointwise}
use Rattle.std.specs.List.Sorted.{IsStrictlySortedBy}
use Rattle.std.specs.declared.cmp.Ordering.TheVariants.{Less}
use Rattle.std.proofs.lemmas.Bool.{and_parts, or_parts, not-true, not-false}
use Rattle.std.proofs.lemmas.Bool.Decides.{Decides-eqb}
use Rattle.std.proofs.lemmas.Slice.Eq.{bytes_eq-Decides}
use Rattle.entry.specs.declared.key.Key.{Key}
use Rattle.entry.specs.declared.entry.Object.{Object}
use Rattle.entry.specs.Bag.{IsAmong}
use Rattle.entry.specs.Order.{key_cmp, key_eq}
use Rattle.claims.specs.Claims.{Claimed, is_clash, is_last, next_clashes, has_clash, tops, object_of, objects_in, rank}
use Rattle.entry.proofs.BagLemmas.{among_images}
use Rattle.entry.proofs.ListLemmas.{all_from_among}
use Rattle.entry.proofs.KeyOrder.{key_eq_decides, key_cmp_between, key_cmp_less}
use Rattle.claims.proofs.ClaimOrder.{Precedes, Rises, keys-up, ranks-up}

-- ---- the last of each key

pub tops-among : (cs : List Claimed) (c : Claimed) → IsAmong c (tops cs) → IsAmong c cs
tops-among [] c m = m
tops-among (x ∷ xs) c m = by_last (tops-among xs c) (is_last x xs) m
  where
    by_last : (IsAmong c (tops xs) → IsAmong c xs) → (b : Bool) → IsAmong c (cond b (x ∷ tops xs) (tops xs))
        → IsAmong c (x ∷ xs)
    by_last before true (inl e) = inl e
    by_last before true (inr later) = inr (before later)
    by_last before false later = inr (before later)

-- no claim of its key follows the last
apart : (x : Claimed) (xs : List Claimed) (d : Claimed) → Rises (x ∷ xs) → is_last x xs ≡ true → IsAmong d xs
    → x.key ≡ d.key → ⊥
apart x [] d up last m same = m
apart x (y ∷ ys) d up last m same =
    let first : Precedes x y = up.0 y (inl refl) in
    let key : x.key ≡ y.key = elim m as (λ _. x.key ≡ y.key) [
      | inl e ↦ same ∙ ap (λ (c : Claimed). c.key) (sym e)
      | inr later ↦ key_cmp_between x.key y.key d.key (keys-up x y first) (keys-up y d (up.1.0 d later)) same
    ] in
    let yes : key_eq x.key y.key ≡ true = (key_eq_decides x.key y.key).1 key in
    let no : is_last x (y ∷ ys) ≡ false = ap not yes in
    absurd (cc)

pub tops-highest : (cs : List Claimed) (c d : Claimed) → Rises cs → IsAmong c (tops cs) → IsAmong d cs → d.key ≡ c.key
    → rank d ≤ rank c
tops-highest [] c d up m n same = absurd m
tops-highest (x ∷ xs) c d up m n same =
    by_last (λ later at. tops-highest xs c d up.1 later at same) (is_last x xs) refl m n
  where
    behind : (IsAmong c (tops xs) → IsAmong d xs → rank d ≤ rank c) → IsAmong c (tops xs) → IsAmong d (x ∷ xs)
        → rank d ≤ rank c
    behind before later (inl e) =
        let h = ranks-up x c (up.0 c (tops-among xs c later)) (ap (λ (z : Claimed). z.key) e ∙ same) in
        subst (λ (z : Claimed). rank z ≤ rank c) e h
    behind before later (inr l) = before later l

    by_last : (IsAmong c (tops xs) → IsAmong d xs → rank d ≤ rank c) → (b : Bool) → is_last x xs ≡ b →
        IsAmong c (cond b (x ∷ tops xs) (tops xs)) → IsAmong d (x ∷ xs) →
        rank d ≤ rank c
    by_last before true last (inl e) (inl f) =
        let one : c ≡ d = sym e ∙ f in subst (λ (z : Claimed). rank z ≤ rank c) one (omega arith)
    by_last before true last (inl e) (inr l) =
        absurd (apart x xs d up last l (ap (λ (z : Claimed). z.key) e ∙ sym same))
    by_last before true last (inr later) at = behind before later at
    by_last before false last later at = behind before later at

-- the list has a claim of the key
abbrev pub HasTop : List Claimed → Key → Type 0
HasTop cs k = (c : Claimed) × IsAmong c cs × (c.key ≡ k)

followed : (x : Claimed) (xs : List Claimed) → is_last x xs ≡ false → (y : Claimed) × IsAmong y xs × (y.key ≡ x.key)
followed x [] last = absurd (cc)
followed x (y ∷ ys) last = (y, inl refl, sym ((key_eq_decides x.key y.key).0 (not-false (key_eq x.key y.key) last)))

-- each key has a last claim
pub tops-some : (cs : List Claimed) (d : Claimed) → IsAmong d cs → HasTop (tops cs) d.key
tops-some [] d m = absurd m
tops-some (x ∷ xs) d m = by_last (λ e at. tops-some xs e at) (is_last x xs) refl m
  where
    by_last : ((e : Claimed) → IsAmong e xs → HasTop (tops xs) e.key) → (b : Bool) → is_last x xs ≡ b
        → IsAmong d (x ∷ xs) →
        HasTop (cond b (x ∷ tops xs) (tops xs)) d.key
    by_last before true last (inl e) = (x, inl refl, ap (λ (z : Claimed). z.key) e)
    by_last before true last (inr l) = let c = before d l in (c.0, inr c.1, c.2)
    by_last before false last (inl e) =
        let y = followed x xs last in
        let c = before y.0 y.1 in
        (c.0, c.1, c.2 ∙ y.2 ∙ ap (λ (z : Claimed). z.key) e)
    by_last before false last (inr l) = before d l

-- ---- the objects

-- the object is that of a claim in the list
abbrev pub HasClaim : List Claimed → Object → Type 0
HasClaim cs o = (c : Claimed) × IsAmong c cs × (c.dead ≡ false) × (object_of c ≡ o)

pub objects_in-among : (cs : List Claimed) (o : Object) → IsAmong o (objects_in cs) → HasClaim cs o
objects_in-among [] o m = absurd m
objects_in-among (x ∷ xs) o m = by_dead (objects_in-among xs o) x.dead refl m
  where
    later : HasClaim xs o → HasClaim (x ∷ xs) o
    later c = (c.0, inr c.1, c.2, c.3)

    by_dead : (IsAmong o (objects_in xs) → HasClaim xs o) → (b : Bool) → x.dead ≡ b →
        IsAmong o (cond b (objects_in xs) (object_of x ∷ objects_in xs)) → HasClaim (x ∷ xs) o
    by_dead before true dead l = later (before l)
    by_dead before false dead (inl e) = (x, inl refl, dead, e)
    by_dead before false dead (inr l) = later (before l)

pub objects_in-has : (cs : List Claimed) (c : Claimed) → IsAmong c cs → c.dead ≡ false
    → IsAmong (object_of c) (objects_in cs)
objects_in-has [] c m alive = m
objects_in-has (x ∷ xs) c (inl e) alive =
    let at : x.dead ≡ false = ap (λ (z : Claimed). z.dead) e ∙ alive in
    rw at (inl (ap object_of e))
objects_in-has (x ∷ xs) c (inr l) alive = kept x.dead (objects_in-has xs c l alive)
  where
    kept : (b : Bool) → IsAmong (object_of c) (objects_in xs)
        → IsAmong (object_of c) (cond b (objects_in xs) (object_of x ∷ objects_in xs))
    kept true h = h
    kept false h = inr h

abbrev pub keys_of : List Object → List Key
keys_of os = map (λ (o : Object). o.key) os

module _ (x : Claimed) (xs : List Claimed) (up : Rises (x ∷ xs))
    (rest : IsStrictlySortedBy key_cmp (keys_of (objects_in (tops xs)))) where
  above : is_last x xs ≡ true → (k : Key) → IsAmong k (keys_of (objects_in (tops xs))) → key_cmp x.key k ≡ Less
  above last k m =
      let o = among_images (λ (o : Object). o.key) (objects_in (tops xs)) k m in
      let c = objects_in-among (tops xs) o.0 o.1 in
      let among : IsAmong c.0 xs = tops-among xs c.0 c.1 in
      let key : c.0.key ≡ k = ap (λ (z : Object). z.key) c.3 ∙ o.2 in
      subst (λ (j : Key). key_cmp x.key j ≡ Less) key (key_cmp_less x.key c.0.key (keys-up x c.0 (up.0 c.0 among))
      (apart x xs c.0 up last among))

  sorted-dead : (b : Bool) → is_last x xs ≡ true →
      IsStrictlySortedBy key_cmp (keys_of (cond b (objects_in (tops xs)) (object_of x ∷ objects_in (tops xs))))
  unfolding IsStrictlySortedBy
  sorted-dead true last = rest
  sorted-dead false last =
      (all_from_among (λ k. key_cmp x.key k ≡ Less) (keys_of (objects_in (tops xs))) (above last), rest)

  sorted-last : (b : Bool) → is_last x xs ≡ b
      → IsStrictlySortedBy key_cmp (keys_of (objects_in (cond b (x ∷ tops xs) (tops xs))))
  sorted-last true last = sorted-dead x.dead last
  sorted-last false last = rest

pub tops-sorted : (cs : List Claimed) → Rises cs → IsStrictlySortedBy key_cmp (keys_of (objects_in (tops cs)))
unfolding IsStrictlySortedBy
tops-sorted [] up = tt
tops-sorted (x ∷ xs) up = sorted-last x xs up (tops-sorted xs up.1) (is_last x xs) refl

-- ---- clashes

-- two claims of one key and version, neither a tombstone's
pub record Rival (c d : Claimed) : Type 0 where
  pub key : c.key ≡ d.key
  pub version : c.version ≡ d.version
  pub first : c.dead ≡ false
  pub second : d.dead ≡ false

-- what a clash is
pub is_clash-tells : (c d : Claimed) → is_clash c d ≡ true → Rival c d × (c.value ≡ d.value → ⊥)
is_clash-tells c d h =
    let four = and_parts _ _ h in
    let three = and_parts _ _ four.0 in
    let two = and_parts _ _ three.0 in
    let one = and_parts _ _ two.0 in (
      record {
        key = (key_eq_decides c.key d.key).0 one.0;
        version = (Decides-eqb c.version d.version).0 one.1;
        first = not-true c.dead two.1;
        second = not-true d.dead three.1;
      },
      λ same. let yes : pointwise nat_eq c.value d.value ≡ true = (bytes_eq-Decides c.value d.value).1 same in
          let no : pointwise nat_eq c.value d.value ≡ false = not-true _ four.1 in cc,
    )

-- rivals that do not clash are one
rival-value : (c d : Claimed) → Rival c d → is_clash c d ≡ false → c.value ≡ d.value
rival-value c d r h = by_test (pointwise nat_eq c.value d.value) refl
  where
    by_test : (b : Bool) → pointwise nat_eq c.value d.value ≡ b → c.value ≡ d.value
    by_test true e = (bytes_eq-Decides c.value d.value).0 e
    by_test false e =
        let key : key_eq c.key d.key ≡ true = (key_eq_decides c.key d.key).1 r.key in
        let version : (c.version == d.version) ≡ true = (Decides-eqb c.version d.version).1 r.version in
        let clash : is_clash c d ≡ true = rw (key, version, r.first, r.second, e) refl in
        absurd (cc)

-- sorted claims of which no neighbours clash have one value for each key and version
module _ (x : Claimed) (xs : List Claimed) (up : Rises (x ∷ xs)) (none : next_clashes x xs ≡ false) where
  -- the neighbour of a rival's predecessor is a rival of both
  rival-first : (y d : Claimed) → Precedes x y → Precedes y d → Rival x d → Rival x y
  rival-first y d first on r =
      let key : x.key ≡ y.key = key_cmp_between x.key y.key d.key (keys-up x y first) (keys-up y d on) r.key in
      let low : rank x ≤ rank y = ranks-up x y first key in
      let high : rank y ≤ rank d = ranks-up y d on (sym key ∙ r.key) in
      let v = r.version in
      let same = level x.version d.version y.version x.dead d.dead y.dead v r.first r.second low high in
      record { key = key; version = same.0; first = r.first; second = same.1 }
    where
      level : (v w u : ℕ) (a b e : Bool) → v ≡ w → a ≡ false → b ≡ false
          → cond a (2 * v + 1) (2 * v) ≤ cond e (2 * u + 1) (2 * u) →
          cond e (2 * u + 1) (2 * u) ≤ cond b (2 * w + 1) (2 * w) →
          (v ≡ u) × (e ≡ false)
      level v w u false false false p q t low high = (omega arith, refl)
      level v w u false false true p q t low high = absurd (omega arith)
      level v w u true b e p q t low high = absurd (cc)
      level v w u false true e p q t low high = absurd (cc)

pub rivals-agree : (x : Claimed) (xs : List Claimed) (d : Claimed) → Rises (x ∷ xs) → next_clashes x xs ≡ false
    → has_clash xs ≡ false →
    IsAmong d xs → Rival x d → x.value ≡ d.value
rivals-agree x [] d up first rest m r = absurd m
rivals-agree x (y ∷ ys) d up first rest (inl e) r =
    let at : Rival x y = subst (Rival x) (sym e) r in
    rival-value x y at first ∙ ap (λ (z : Claimed). z.value) e
rivals-agree x (y ∷ ys) d up first rest (inr l) r =
    let one : Rival x y = rival-first x (y ∷ ys) up first y d (up.0 y (inl refl)) (up.1.0 d l) r in
    let other : Rival y d =
    record {
      key = sym one.key ∙ r.key;
      version = sym one.version ∙ r.version;
      first = one.second;
      second = r.second;
    } in
    let both = or_parts (next_clashes y ys) (has_clash ys) rest in
    rival-value x y one first ∙ rivals-agree y ys d up.1 both.0 both.1 l other

rival-back : (c d : Claimed) → Rival c d → Rival d c
rival-back c d r = record { key = sym r.key; version = sym r.version; first = r.second; second = r.first }

pub unclashed : (cs : List Claimed) (c d : Claimed) → Rises cs → has_clash cs ≡ false → IsAmong c cs → IsAmong d cs
    → Rival c d → c.value ≡ d.value
unclashed [] c d up none m n r = absurd m
unclashed (x ∷ xs) c d up none (inl e) (inl f) r = ap (λ (z : Claimed). z.value) (sym e ∙ f)
unclashed (x ∷ xs) c d up none (inl e) (inr l) r =
    let both = or_parts (next_clashes x xs) (has_clash xs) none in
    sym (ap (λ (z : Claimed). z.value) e) ∙ rivals-agree x xs d up both.0 both.1 l (subst (λ z. Rival z d) (sym e) r)
unclashed (x ∷ xs) c d up none (inr l) (inl f) r =
    let both = or_parts (next_clashes x xs) (has_clash xs) none in
    sym (rivals-agree x xs c up both.0 both.1 l (subst (λ z. Rival z c) (sym f) (rival-back c d r)))
    ∙ ap (λ (z : Claimed). z.value) f
unclashed (x ∷ xs) c d up none (inr l) (inr m) r =
    unclashed xs c d up.1 (or_parts (next_clashes x xs) (has_clash xs) none).1 l m r

-- two claims of the list clash
abbrev pub HasRivals : List Claimed → Type 0
HasRivals cs = (c : Claimed) × (d : Claimed) × IsAmong c cs × IsAmong d cs × (is_clash c d ≡ true)

pub clash-found : (cs : List Claimed) → has_clash cs ≡ true → HasRivals cs
clash-found [] h = absurd (cc)
clash-found (x ∷ xs) h = by_first (clash-found xs) (next_clashes x xs) refl h
  where
    clashed : (ys : List Claimed) → next_clashes x ys ≡ true → HasRivals (x ∷ ys)
    clashed [] e = absurd (cc)
    clashed (y ∷ ys) e = (x, y, inl refl, inr (inl refl), e)

    by_first : (has_clash xs ≡ true → HasRivals xs) → (b : Bool) → next_clashes x xs ≡ b → (b || has_clash xs) ≡ true
        → HasRivals (x ∷ xs)
    by_first before true e h = clashed xs e
    by_first before false e h = let p = before h in (p.0, p.1, inr p.2, inr p.3, p.4)
