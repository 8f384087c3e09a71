-- No spelling begins the spelling of another entry.
use Rattle.std.proofs.Common.{◌≡◌, ℕ, suc, ◌^◌, ◌<◌, List, [], ◌∷◌, ◌++◌, length, take}
use Rattle.std.proofs.Common.{drop, refl, sym, ap, ◌∙◌, append_assoc, arith}
use Rattle.std.specs.Prelude.{slice_index, slice_get, Some}
use Rattle.std.specs.List.{flat_map}
use Rattle.std.proofs.lemmas.List.{take_at, drop_at}
use Rattle.entry.specs.declared.digest.Listed.{Listed}
use Rattle.entry.specs.declared.digest.Digest.{Digest}
use Rattle.entry.specs.declared.digest.Digest.TheVariants as digest
use Rattle.entry.specs.declared.entry.Role.{Role}
use Rattle.entry.specs.declared.entry.Role.TheVariants.{Head, Survivor}
use Rattle.entry.specs.declared.entry.Header.{Header}
use Rattle.entry.specs.declared.entry.Object.{Object}
use Rattle.entry.specs.declared.entry.Tombstone.{Tombstone}
use Rattle.entry.specs.declared.key.Key.{Key}
use Rattle.entry.specs.declared.entry.Entry.{Entry}
use Rattle.entry.specs.declared.entry.Entry.TheVariants as entry
use Rattle.entry.specs.Format.{number_bytes, number_at, role_byte, listed_bytes, digest_spelling, spelling}
use Rattle.entry.specs.Format.{IsHeader, IsDigest, IsObject, IsTombstone, IsEntry}
use Rattle.entry.specs.Limits.{IsSafeVersion, AreIds, IsListed, AreLengths}
use Rattle.entry.proofs.Numbers.{length-number_bytes, number_at-front}

abbrev listed : ℕ → ℕ → Listed
listed i l = record { id = i; len = l }

abbrev header : ℕ → ℕ → Role → Header
header m s r = record { master = m; segment = s; role = r }

abbrev key : ℕ → List ℕ → Key
key t b = record { table = t; bytes = b }

abbrev object : Key → ℕ → List ℕ → Object
object k n v = record { key = k; version = n; value = v }

abbrev tombstone : Key → ℕ → ℕ → Tombstone
tombstone k n s = record { key = k; version = n; segment = s }

-- two parts of one length
bytes-cancel : (a b x y : List ℕ) → length a ≡ length b → a ++ x ≡ b ++ y → (a ≡ b) × (x ≡ y)
bytes-cancel a b x y len e = (
  sym (take_at a x (length a) refl) ∙ ap (λ (l : List ℕ). take (length a) l) e ∙ take_at b y (length a) (sym len),
  sym (drop_at a x (length a) refl) ∙ ap (λ (l : List ℕ). drop (length a) l) e ∙ drop_at b y (length a) (sym len),
)

number-cancel : (k m n : ℕ) (x y : List ℕ) → m < 256 ^ k → n < 256 ^ k → number_bytes k m ++ x ≡ number_bytes k n ++ y
    → (m ≡ n) × (x ≡ y)
number-cancel k m n x y m-fits n-fits e =
    let len : length (number_bytes k m) ≡ length (number_bytes k n) =
    length-number_bytes k m ∙ sym (length-number_bytes k n) in (
      sym (number_at-front k m x m-fits) ∙ ap (λ (l : List ℕ). number_at k 0 l) e ∙ number_at-front k n y n-fits,
      (bytes-cancel (number_bytes k m) (number_bytes k n) x y len e).1,
    )

ids-cancel : (a b x y : List ℕ) → ((i : ℕ) → slice_index a i < 2 ^ 64) → ((i : ℕ) → slice_index b i < 2 ^ 64)
    → length a ≡ length b
    → flat_map (number_bytes 8) a ++ x ≡ flat_map (number_bytes 8) b ++ y → (a ≡ b) × (x ≡ y)
ids-cancel [] [] x y a-fits b-fits len e = (refl, e)
ids-cancel [] (n ∷ b) x y a-fits b-fits len e = absurd (omega arith)
ids-cancel (m ∷ a) [] x y a-fits b-fits len e = absurd (omega arith)
ids-cancel (m ∷ a) (n ∷ b) x y a-fits b-fits len e =
    let one =
    number-cancel 8 m n (flat_map (number_bytes 8) a ++ x) (flat_map (number_bytes 8) b ++ y) (a-fits 0) (b-fits 0)
    (simp append_assoc at e) in
    let more = ids-cancel a b x y (λ i. a-fits (suc i)) (λ i. b-fits (suc i)) (omega arith) one.1 in
    (rw (one.0, more.0) refl, more.1)

listed-same : (a b : Listed) → a.id ≡ b.id → a.len ≡ b.len → a ≡ b
listed-same a b e f = go a.id b.id a.len b.len e f where
  go : (i j l m : ℕ) → i ≡ j → l ≡ m → listed i l ≡ listed j m
  go i j l m p q = rw (p, q) refl

listed-cancel : (a b : List Listed) (x y : List ℕ) → ((i : ℕ) (s : Listed) → slice_get a i ≡ Some s → IsListed s)
    → ((i : ℕ) (s : Listed) → slice_get b i ≡ Some s → IsListed s) → length a ≡ length b
    → flat_map listed_bytes a ++ x ≡ flat_map listed_bytes b ++ y → (a ≡ b) × (x ≡ y)
listed-cancel [] [] x y a-fits b-fits len e = (refl, e)
listed-cancel [] (n ∷ b) x y a-fits b-fits len e = absurd (omega arith)
listed-cancel (m ∷ a) [] x y a-fits b-fits len e = absurd (omega arith)
listed-cancel (m ∷ a) (n ∷ b) x y a-fits b-fits len e =
    let m-is = a-fits 0 m refl in
    let n-is = b-fits 0 n refl in
    let m-limit = m-is.greatest in
    let n-limit = n-is.greatest in
    let flat : number_bytes 8 m.id ++ (number_bytes 8 m.len ++ (flat_map listed_bytes a ++ x))
    ≡ number_bytes 8 n.id ++ (number_bytes 8 n.len ++ (flat_map listed_bytes b ++ y)) =
    simp append_assoc at e in
    let one = number-cancel 8 m.id n.id _ _ m-is.id n-is.id flat in
    let two = number-cancel 8 m.len n.len _ _ (omega arith) (omega arith) one.1 in
    let more = listed-cancel a b x y (λ i s. a-fits (suc i) s) (λ i s. b-fits (suc i) s) (omega arith) two.1 in
    (rw (listed-same m n one.0 two.0, more.0) refl, more.1)

same_tail : (a b : ℕ) (x y : List ℕ) → a ∷ x ≡ b ∷ y → x ≡ y
same_tail a b x y e = cc

same_head : (a b : ℕ) (x y : List ℕ) → a ∷ x ≡ b ∷ y → a ≡ b
same_head a b x y e = cc

role_byte-cancel : (a b : Role) → role_byte a ≡ role_byte b → a ≡ b
role_byte-cancel Head Head e = refl
role_byte-cancel Head Survivor e = absurd (omega arith)
role_byte-cancel Survivor Head e = absurd (omega arith)
role_byte-cancel Survivor Survivor e = refl

header-same : (m n s t : ℕ) (p q : Role) → m ≡ n → s ≡ t → p ≡ q → header m s p ≡ header n t q
header-same m n s t p q e f g = rw (e, f, g) refl

key-same : (s t : ℕ) (a b : List ℕ) → s ≡ t → a ≡ b → key s a ≡ key t b
key-same s t a b e f = rw (e, f) refl

header-cancel : (a b : Header) (x y : List ℕ) → IsHeader a → IsHeader b
    → spelling (entry.Header a) ++ x ≡ spelling (entry.Header b) ++ y → (a ≡ b) × (x ≡ y)
header-cancel a b x y a-fits b-fits e =
    let flat : number_bytes 8 a.master ++ (number_bytes 8 a.segment ++ role_byte a.role ∷ x)
    ≡ number_bytes 8 b.master ++ (number_bytes 8 b.segment ++ role_byte b.role ∷ y) =
    same_tail 1 1 _ _ (simp append_assoc at e) in
    let p =
    number-cancel 8 a.master b.master (number_bytes 8 a.segment ++ role_byte a.role ∷ x)
    (number_bytes 8 b.segment ++ role_byte b.role ∷ y) a-fits.master b-fits.master flat in
    let q =
    number-cancel 8 a.segment b.segment (role_byte a.role ∷ x) (role_byte b.role ∷ y) a-fits.segment b-fits.segment
    p.1 in
    let r = role_byte-cancel a.role b.role (same_head (role_byte a.role) (role_byte b.role) x y q.1) in (
      header-same a.master b.master a.segment b.segment a.role b.role p.0 q.0 r,
      same_tail (role_byte a.role) (role_byte b.role) x y q.1,
    )

digest-cancel : (a b x y : List ℕ) → AreIds a → AreIds b
    → digest_spelling (digest.Ids a) ++ x ≡ digest_spelling (digest.Ids b) ++ y → (a ≡ b) × (x ≡ y)
digest-cancel a b x y a-fits b-fits e =
    let flat : number_bytes 4 (length a) ++ (flat_map (number_bytes 8) a ++ x)
    ≡ number_bytes 4 (length b) ++ (flat_map (number_bytes 8) b ++ y) =
    same_tail 2 2 _ _ (simp append_assoc at e) in
    let p =
    number-cancel 4 (length a) (length b) (flat_map (number_bytes 8) a ++ x) (flat_map (number_bytes 8) b ++ y)
    a-fits.count b-fits.count flat in
    ids-cancel a b x y a-fits.each b-fits.each p.0 p.1

lengths-cancel : (a b : List Listed) (x y : List ℕ) → AreLengths a → AreLengths b
    → digest_spelling (digest.Lengths a) ++ x ≡ digest_spelling (digest.Lengths b) ++ y → (a ≡ b) × (x ≡ y)
lengths-cancel a b x y a-fits b-fits e =
    let flat : number_bytes 4 (length a) ++ (flat_map listed_bytes a ++ x)
    ≡ number_bytes 4 (length b) ++ (flat_map listed_bytes b ++ y) =
    same_tail 6 6 _ _ (simp append_assoc at e) in
    let p =
    number-cancel 4 (length a) (length b) (flat_map listed_bytes a ++ x) (flat_map listed_bytes b ++ y) a-fits.count
    b-fits.count flat in
    listed-cancel a b x y a-fits.each b-fits.each p.0 p.1

safe-cancel : (a b : ℕ) (x y : List ℕ) → IsSafeVersion a → IsSafeVersion b
    → spelling (entry.Safe a) ++ x ≡ spelling (entry.Safe b) ++ y → (a ≡ b) × (x ≡ y)
safe-cancel a b x y a-fits b-fits e =
    let a-limit = a-fits.greatest in
    let b-limit = b-fits.greatest in
    number-cancel 8 a b x y (omega arith) (omega arith) (same_tail 3 3 _ _ e)

pub object-same : (a b : Object) → a.key.table ≡ b.key.table → a.key.bytes ≡ b.key.bytes → a.version ≡ b.version
    → a.value ≡ b.value → a ≡ b
object-same a b e f g h =
    go a.key b.key a.version b.version a.value b.value (key-same a.key.table b.key.table a.key.bytes b.key.bytes e f) g
    h where
      go : (k l : Key) (m n : ℕ) (u v : List ℕ) → k ≡ l → m ≡ n → u ≡ v → object k m u ≡ object l n v
      go k l m n u v p q r = rw (p, q, r) refl

object-cancel : (a b : Object) (x y : List ℕ) → IsObject a → IsObject b
    → spelling (entry.Object a) ++ x ≡ spelling (entry.Object b) ++ y → (a ≡ b) × (x ≡ y)
object-cancel a b x y a-fits b-fits e =
    let k = a.key.bytes in
    let l = b.key.bytes in
    let a-version = a-fits.version.greatest in
    let b-version = b-fits.version.greatest in
    let a-key = a-fits.key.bytes.limit in
    let b-key = b-fits.key.bytes.limit in
    let a-value = a-fits.value.limit in
    let b-value = b-fits.value.limit in
    let flat : number_bytes 8 a.key.table ++ (number_bytes 8 a.version
    ++ (number_bytes 2 (length k) ++ (number_bytes 4 (length a.value) ++ (k ++ (a.value ++ x)))))
    ≡ number_bytes 8 b.key.table ++ (number_bytes 8 b.version
    ++ (number_bytes 2 (length l) ++ (number_bytes 4 (length b.value) ++ (l ++ (b.value ++ y))))) =
    same_tail 4 4 _ _ (simp append_assoc at e) in
    let p = number-cancel 8 a.key.table b.key.table _ _ a-fits.key.table b-fits.key.table flat in
    let q = number-cancel 8 a.version b.version _ _ (omega arith) (omega arith) p.1 in
    let r = number-cancel 2 (length k) (length l) _ _ (omega arith) (omega arith) q.1 in
    let s = number-cancel 4 (length a.value) (length b.value) _ _ (omega arith) (omega arith) r.1 in
    let t = bytes-cancel k l _ _ r.0 s.1 in
    let u = bytes-cancel a.value b.value x y s.0 t.1 in
    (object-same a b p.0 t.0 q.0 u.0, u.1)

pub tombstone-same : (a b : Tombstone) → a.key.table ≡ b.key.table → a.key.bytes ≡ b.key.bytes → a.version ≡ b.version
    → a.segment ≡ b.segment → a ≡ b
tombstone-same a b e f g h =
    go a.key b.key a.version b.version a.segment b.segment
    (key-same a.key.table b.key.table a.key.bytes b.key.bytes e f) g h where
      go : (k l : Key) (m n : ℕ) (u v : ℕ) → k ≡ l → m ≡ n → u ≡ v → tombstone k m u ≡ tombstone l n v
      go k l m n u v p q r = rw (p, q, r) refl

tombstone-cancel : (a b : Tombstone) (x y : List ℕ) → IsTombstone a → IsTombstone b
    → spelling (entry.Tombstone a) ++ x ≡ spelling (entry.Tombstone b) ++ y → (a ≡ b) × (x ≡ y)
tombstone-cancel a b x y a-fits b-fits e =
    let k = a.key.bytes in
    let l = b.key.bytes in
    let a-version = a-fits.version.greatest in
    let b-version = b-fits.version.greatest in
    let a-key = a-fits.key.bytes.limit in
    let b-key = b-fits.key.bytes.limit in
    let flat : number_bytes 8 a.key.table ++ (number_bytes 8 a.version
    ++ (number_bytes 8 a.segment ++ (number_bytes 2 (length k) ++ (k ++ x))))
    ≡ number_bytes 8 b.key.table ++ (number_bytes 8 b.version
    ++ (number_bytes 8 b.segment ++ (number_bytes 2 (length l) ++ (l ++ y)))) =
    same_tail 5 5 _ _ (simp append_assoc at e) in
    let p = number-cancel 8 a.key.table b.key.table _ _ a-fits.key.table b-fits.key.table flat in
    let q = number-cancel 8 a.version b.version _ _ (omega arith) (omega arith) p.1 in
    let r = number-cancel 8 a.segment b.segment _ _ a-fits.segment b-fits.segment q.1 in
    let s = number-cancel 2 (length k) (length l) _ _ (omega arith) (omega arith) r.1 in
    let t = bytes-cancel k l x y s.0 s.1 in
    (tombstone-same a b p.0 t.0 q.0 r.0, t.1)

-- No spelling of a digest begins the spelling of another entry.
digest_first : (d : Digest) (b : Entry) (x y : List ℕ) → IsDigest d → IsEntry b
    → digest_spelling d ++ x ≡ spelling b ++ y → (entry.Digest d ≡ b) × (x ≡ y)
digest_first (digest.Ids a) (entry.Digest (digest.Ids b)) x y p q e =
    let h = digest-cancel a b x y p q e in (ap (λ (z : List ℕ). entry.Digest (digest.Ids z)) h.0, h.1)
digest_first (digest.Lengths a) (entry.Digest (digest.Lengths b)) x y p q e =
    let h = lengths-cancel a b x y p q e in (ap (λ (z : List Listed). entry.Digest (digest.Lengths z)) h.0, h.1)
digest_first (digest.Ids a) (entry.Digest (digest.Lengths b)) x y p q e = absurd (cc)
digest_first (digest.Lengths a) (entry.Digest (digest.Ids b)) x y p q e = absurd (cc)
digest_first (digest.Ids a) _ x y p q e = absurd (cc)
digest_first (digest.Lengths a) _ x y p q e = absurd (cc)

-- No spelling begins the spelling of another entry.
pub prefix_free : (a b : Entry) (x y : List ℕ) → IsEntry a → IsEntry b → spelling a ++ x ≡ spelling b ++ y
    → (a ≡ b) × (x ≡ y)
prefix_free (entry.Header a) (entry.Header b) x y p q e =
    let h = header-cancel a b x y p q e in (ap (λ (z : Header). entry.Header z) h.0, h.1)
prefix_free (entry.Safe a) (entry.Safe b) x y p q e =
    let h = safe-cancel a b x y p q e in (ap (λ (z : ℕ). entry.Safe z) h.0, h.1)
prefix_free (entry.Object a) (entry.Object b) x y p q e =
    let h = object-cancel a b x y p q e in (ap (λ (z : Object). entry.Object z) h.0, h.1)
prefix_free (entry.Tombstone a) (entry.Tombstone b) x y p q e =
    let h = tombstone-cancel a b x y p q e in (ap (λ (z : Tombstone). entry.Tombstone z) h.0, h.1)
prefix_free (entry.Digest a) b x y p q e = digest_first a b x y p q e
prefix_free a (entry.Digest b) x y p q e =
    let h = digest_first b a y x q p (sym e) in (sym h.0, sym h.1)
prefix_free _ _ x y p q e = absurd (cc)
