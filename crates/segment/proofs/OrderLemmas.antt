-- What has to come next in a segment, and with which entries segments begin.
use Rattle.std.proofs.Common.{◌≡◌, ℕ, zero, suc, ◌+◌, Bool, true, false, List, [], ◌∷◌, ◌++◌}
use Rattle.std.proofs.Common.{length, Some, refl, ap, ◌∙◌, append_assoc, eq-eqb, arith}
use Rattle.std.specs.List.{slice_get}
use Rattle.std.specs.Prelude.{◌==◌, ◌&&◌}
use Rattle.std.proofs.lemmas.List.{append-nil}
use Rattle.entry.specs.declared.entry.Role.{Role}
use Rattle.entry.specs.declared.entry.Role.TheVariants.{Head, Survivor}
use Rattle.entry.specs.declared.entry.Header.{Header}
use Rattle.entry.specs.declared.digest.Digest.TheVariants as digest
use Rattle.entry.specs.declared.entry.Entry.{Entry}
use Rattle.entry.specs.declared.entry.Entry.TheVariants as entry
use Rattle.entry.specs.Text.{is_data, are_data, ends_with, is_head_rest, is_rest, is_whole, IsBeginning}
use Rattle.segment.specs.declared.expected.Expected.{Expected}
use Rattle.segment.specs.declared.expected.Expected.TheVariants as expected
use Rattle.segment.specs.Order.{completes, Expects}

abbrev survivor : Header
survivor = record { master = 0; segment = 0; role = Survivor }

-- something makes it whole
completion : (x : Expected) → (more : List Entry) × (completes x more ≡ true)
completion expected.Header = (entry.Header survivor ∷ [], refl)
completion (expected.Digest segment) =
    let same : (segment == segment) ≡ true = eq-eqb segment segment refl in
    (entry.Digest (digest.Ids (segment ∷ [])) ∷ entry.Safe 1 ∷ [], rw same refl)
completion expected.Safe = (entry.Safe 1 ∷ [], refl)
completion expected.Data = ([], refl)

pub IsBeginning-from_expects : (before : List Entry) (x : Expected) → Expects before x → IsBeginning before
IsBeginning-from_expects before x expects = let more = completion x in (more.0, expects more.0 ∙ more.1)

pub Expects-start : Expects [] expected.Header
Expects-start more = refl

pub Expects-step : (before : List Entry) (x y : Expected) (e : Entry) → Expects before x
    → ((more : List Entry) → completes x (e ∷ more) ≡ completes y more) → Expects (before ++ e ∷ []) y
Expects-step before x y e expects allowed more = rw append_assoc (expects (e ∷ more) ∙ allowed more)

pub not_beginning : (before : List Entry) (x : Expected) (e : Entry) → Expects before x
    → ((more : List Entry) → completes x (e ∷ more) ≡ false) → IsBeginning (before ++ e ∷ []) → ⊥
not_beginning before x e expects refused (more, whole) =
    let same : is_whole (before ++ (e ∷ more)) ≡ true = rw append_assoc at whole in
    let not : is_whole (before ++ (e ∷ more)) ≡ false = expects (e ∷ more) ∙ refused more in
    cc

pub is_whole-expects : (before : List Entry) (x : Expected) → Expects before x → is_whole before ≡ completes x []
is_whole-expects before x expects = rw append-nil at (expects [])

-- ---- objects and tombstones at the end

pub are_data-append : (xs ys : List Entry) → are_data ys ≡ true → are_data (xs ++ ys) ≡ are_data xs
are_data-append [] ys d = d
are_data-append (x ∷ xs) ys d = ap (λ (b : Bool). is_data x && b) (are_data-append xs ys d)

is_head_rest-append : (segment : ℕ) (xs ys : List Entry) → are_data ys ≡ true → is_head_rest segment xs ≡ true
    → is_head_rest segment (xs ++ ys) ≡ true
is_head_rest-append segment (entry.Digest d ∷ entry.Safe version ∷ rest) ys all whole =
    rw (are_data-append rest ys all) whole
is_head_rest-append segment _ ys d whole = absurd (cc)

pub is_whole-append : (xs ys : List Entry) → are_data ys ≡ true → is_whole xs ≡ true → is_whole (xs ++ ys) ≡ true
is_whole-append (entry.Header h ∷ rest) ys d whole = go h.role whole where
  go : (role : Role) → is_rest role h.segment rest ≡ true → is_rest role h.segment (rest ++ ys) ≡ true
  go Head whole = is_head_rest-append h.segment rest ys d whole
  go Survivor whole = are_data-append rest ys d ∙ whole
is_whole-append _ ys d whole = absurd (cc)

-- ---- the last id of a digest

pub ends_with-last : (id : ℕ) (ids : List ℕ) (k x : ℕ) → k + 1 ≡ length ids → slice_get ids k ≡ Some x
    → ends_with id ids ≡ (x == id)
ends_with-last id [] k x len is = absurd (omega arith)
ends_with-last id (y ∷ []) zero x len is = let same : y ≡ x = cc in rw same refl
ends_with-last id (y ∷ []) (suc k) x len is = absurd (omega arith)
ends_with-last id (y ∷ z ∷ zs) zero x len is = absurd (omega arith)
ends_with-last id (y ∷ z ∷ zs) (suc k) x len is = ends_with-last id (z ∷ zs) k x (omega arith) is

-- only behind the opening entries a segment may end
pub completes-nil : (x : Expected) → (x ≡ expected.Data → ⊥) → completes x [] ≡ false
completes-nil expected.Header not = refl
completes-nil (expected.Digest segment) not = refl
completes-nil expected.Safe not = refl
completes-nil expected.Data not = absurd (not refl)
