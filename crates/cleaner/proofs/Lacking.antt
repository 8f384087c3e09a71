-- Which segments lack replicas, and what seals and copies make of them.
use Rattle.std.proofs.Common.{◌≡◌, ℕ, zero, suc, ◌+◌, ◌-◌, ◌<◌, ◌≤◌, inl, inr, Bool, true, false, List, [], ◌∷◌}
use Rattle.std.proofs.Common.{refl, sym, ap, subst, ◌∙◌, arith}
use Rattle.std.specs.Prelude.{◌==◌, nat_lt, if◌then◌else◌, Option, Some, None, IsSome}
use Rattle.std.specs.List.{range_with_len}
use Rattle.std.specs.Option.{option_map_or}
use Rattle.std.proofs.lemmas.Bool.{le-ltb, ltb-true, ltb-false}
use Rattle.std.proofs.lemmas.Option.{same_Some}
use Rattle.entry.specs.declared.entry.Entry.{Entry}
use Rattle.entry.specs.Bag.{IsAmong}
use Rattle.images.specs.Image.{Image}
use Rattle.images.specs.Sorted.{image_of, replicas_of}
use Rattle.images.specs.Steps.{with_unit, more_replicas}
use Rattle.images.proofs.Replicas.{replicas_changed, replicas_kept}
use Rattle.compactor.specs.Kept.{kept}
use Rattle.cleaner.specs.Laws.{LackingIsOne, NoneIsLacking, SealAddsOne, CopyKeepsReplicas}
use Rattle.cleaner.specs.Passes.{images_with}
use Rattle.cleaner.specs.Seals.{first_lacking}

-- ---- the first

pub lacking_is_one : LackingIsOne
lacking_is_one replicas images [] s n is = absurd (cc)
lacking_is_one replicas images (x ∷ xs) s n is =
    go (nat_lt (replicas_of images x) replicas) refl is (lacking_is_one replicas images xs s n)
  where
    go : (t : Bool) → nat_lt (replicas_of images x) replicas ≡ t
        → (if t then Some (x, replicas_of images x) else first_lacking replicas images xs) ≡ Some (s, n)
        → (first_lacking replicas images xs ≡ Some (s, n)
        → IsAmong s xs × (n ≡ replicas_of images s) × (n < replicas))
        → IsAmong s (x ∷ xs) × (n ≡ replicas_of images s) × (n < replicas)
    go true test found later =
        let own = same_Some (x, replicas_of images x) (s, n) found in
        let id : x ≡ s = ap (λ (p : ℕ × ℕ). p.0) own in
        let count : replicas_of images x ≡ n = ap (λ (p : ℕ × ℕ). p.1) own in (
          inl id,
          sym count ∙ ap (λ (z : ℕ). replicas_of images z) id,
          subst (λ (k : ℕ). k < replicas) count (ltb-true (replicas_of images x) replicas test),
        )
    go false test found later = let rest = later found in (inr rest.0, rest.1, rest.2)

none_then : (replicas : ℕ) (images : List Image) (ids : List ℕ) → first_lacking replicas images ids ≡ None
    → (s : ℕ) → IsAmong s ids → replicas ≤ replicas_of images s
none_then replicas images [] none s among = absurd among
none_then replicas images (x ∷ xs) none s among =
    go (nat_lt (replicas_of images x) replicas) refl none (none_then replicas images xs) among
  where
    go : (t : Bool) → nat_lt (replicas_of images x) replicas ≡ t
        → (if t then Some (x, replicas_of images x) else first_lacking replicas images xs) ≡ None
        → (first_lacking replicas images xs ≡ None → (z : ℕ) → IsAmong z xs → replicas ≤ replicas_of images z)
        → IsAmong s (x ∷ xs) → replicas ≤ replicas_of images s
    go true test never later m = absurd (cc)
    go false test rest later (inl same) =
        subst (λ (z : ℕ). replicas ≤ replicas_of images z) same (ltb-false (replicas_of images x) replicas test)
    go false test rest later (inr m) = later rest s m

then_none : (replicas : ℕ) (images : List Image) (ids : List ℕ)
    → ((s : ℕ) → IsAmong s ids → replicas ≤ replicas_of images s) → first_lacking replicas images ids ≡ None
then_none replicas images [] all = refl
then_none replicas images (x ∷ xs) all =
    let test = le-ltb (replicas_of images x) replicas (all x (inl refl)) in
    rw test (then_none replicas images xs (λ s m. all s (inr m)))

pub none_is_lacking : NoneIsLacking
none_is_lacking replicas images ids = (none_then replicas images ids, then_none replicas images ids)

-- ---- steps

pub seal_adds_one : SealAddsOne
seal_adds_one images s other there =
    replicas_changed images s other more_replicas (λ x. refl) ∙ go (other == s) (image_of images s) there
  where
    go : (t : Bool) (o : Option Image) → IsSome o
        → (if t then option_map_or (λ (x : Image). (more_replicas x).replicas) o 0 else replicas_of images other)
        ≡ (if t then suc (option_map_or (λ (x : Image). x.replicas) o 0) else replicas_of images other)
    go true None some = absurd (cc)
    go true (Some x) some = refl
    go false o some = refl

pub copied_replicas : (images : List Image) (survivor : ℕ) (e : Entry) (is_kept : Bool) (s : ℕ)
    → replicas_of (images_with is_kept survivor e images) s ≡ replicas_of images s
copied_replicas images survivor e false s = refl
copied_replicas images survivor e true s =
    replicas_kept images survivor s (with_unit (e ∷ [])) (λ x. refl) (λ x. refl)

pub copy_keeps_replicas : CopyKeepsReplicas
copy_keeps_replicas segment ids p q images after held later copied c s =
    ap (λ (xs : List Image). replicas_of xs s) c.survivor
    ∙ copied_replicas images (p.survivors.first + q.filling) c.entry (kept ids held c.place c.entry) s

-- ---- the survivors, one after the other

-- the first one has all, so the others decide
pub range_later : (replicas : ℕ) (images : List Image) (first count : ℕ) → (count ≡ 0 → ⊥)
    → replicas ≤ replicas_of images first
    → first_lacking replicas images (range_with_len first count)
    ≡ first_lacking replicas images (range_with_len (first + 1) (count - 1))
range_later replicas images first zero some le = absurd (some refl)
range_later replicas images first (suc count) some le =
    let same : suc count - 1 ≡ count = omega arith in
    let test = le-ltb (replicas_of images first) replicas le in rw (same, test) refl
