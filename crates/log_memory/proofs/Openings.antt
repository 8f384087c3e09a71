-- Images with their openings: what an image begins with, and what its objects and tombstones are.
use Rattle.std.proofs.Common.{◌≡◌, ℕ, suc, inl, inr, Bool, true, false, cond, List, [], ◌∷◌, ◌++◌, refl, sym, ap, subst}
use Rattle.std.proofs.Common.{◌∙◌, append_assoc}
use Rattle.std.specs.Prelude.{Option, Some, None, filter}
use Rattle.std.proofs.lemmas.Bool.{cases_eq}
use Rattle.std.proofs.lemmas.List.Elements.{filter-append}
use Rattle.entry.specs.declared.key.Key.{Key}
use Rattle.entry.specs.declared.entry.Role.TheVariants.{Survivor}
use Rattle.entry.specs.declared.entry.Header.{Header as HeaderValue}
use Rattle.entry.specs.declared.entry.Entry.{Entry}
use Rattle.entry.specs.declared.entry.Entry.TheVariants.{Header, Digest, Safe, Object, Tombstone}
use Rattle.entry.specs.Bag.{IsAmong}
use Rattle.entry.specs.Meaning.{IsOfKey}
use Rattle.entry.specs.Text.{is_data, Opening, opening_of}
use Rattle.log_bytes.specs.log_laws.Compaction.{kept, kept_from}
use Rattle.log_bytes.specs.log_laws.Memory.{Index, with_image}
use Rattle.log_bytes.proofs.log_laws.Bases.{key_data, data_among}
use Rattle.log_bytes.proofs.log_laws.ImageLists.{image_here, image_there}
use Rattle.log_bytes.specs.log_laws.Text.{Text}
use Rattle.log_bytes.specs.log_laws.Data.{FailData}
use Rattle.log_bytes.specs.log_laws.Log.{Texts}
use Rattle.log_bytes.specs.Text.{entries_for}
use Rattle.log_memory.specs.Memory.{FailMemory, log_ids, AreImages}

-- ---- objects and tombstones alone

-- nothing but objects and tombstones
abbrev pub IsData : List Entry → Type 0
IsData es = filter is_data es ≡ es

pub data_out : (e : Entry) (es : List Entry) → IsAmong e (filter is_data es) → IsAmong e es
data_out e [] m = m
data_out e (x ∷ es) m = go (data_out e es) (is_data x) m where
  go : (IsAmong e (filter is_data es) → IsAmong e es) → (b : Bool)
      → IsAmong e (cond b (x ∷ filter is_data es) (filter is_data es)) → IsAmong e (x ∷ es)
  go later true (inl same) = inl same
  go later true (inr l) = inr (later l)
  go later false l = inr (later l)

-- what is of a key is an object or a tombstone
pub data_in : (e : Entry) (k : Key) (es : List Entry) → IsOfKey k e → IsAmong e es → IsAmong e (filter is_data es)
data_in e k es at m = data_among e es (key_data e k at) m

one_data : (b : Bool) (e : Entry) (es : List Entry) → is_data e ≡ true → IsData es → IsData (cond b (e ∷ es) es)
one_data true e es is rest = rw is (ap (λ (l : List Entry). e ∷ l) rest)
one_data false e es is rest = rest

-- ---- an image

-- the image begins as the text does, and goes on with objects and tombstones
abbrev pub IsImage : ℕ → ℕ → Text → List Entry → Type 0
IsImage master s t image = image ≡ entries_for master s (record t { entries = filter is_data image })

-- the header, and a head's digest and safe version
abbrev pub beginning : ℕ → ℕ → Option Opening → List Entry
beginning master s o = entries_for master s (record { opening = o; entries = [] })

-- a beginning has nothing of any key
pub no_keys : (master s : ℕ) (o : Option Opening) (e : Entry) (k : Key) → IsAmong e (beginning master s o) → IsOfKey k e
    → ⊥
no_keys master s None e k (inl same) at = subst (λ (x : Entry). IsOfKey k x) (sym same) at
no_keys master s None e k (inr never) at = never
no_keys master s (Some o) e k (inl same) at = subst (λ (x : Entry). IsOfKey k x) (sym same) at
no_keys master s (Some o) e k (inr (inl same)) at = subst (λ (x : Entry). IsOfKey k x) (sym same) at
no_keys master s (Some o) e k (inr (inr (inl same))) at = subst (λ (x : Entry). IsOfKey k x) (sym same) at
no_keys master s (Some o) e k (inr (inr (inr never))) at = never

data_opening : (h : HeaderValue) (es : List Entry) → opening_of (Header h ∷ filter is_data es) ≡ None
data_opening h [] = refl
data_opening h (Header g ∷ es) = data_opening h es
data_opening h (Digest l ∷ es) = data_opening h es
data_opening h (Safe v ∷ es) = data_opening h es
data_opening h (Object o ∷ es) = refl
data_opening h (Tombstone t ∷ es) = refl

module _ (master s : ℕ) where
  begins : (o : Option Opening) (es : List Entry)
      → entries_for master s (record { opening = o; entries = es }) ≡ beginning master s o ++ es
  begins (Some o) es = refl
  begins None es = refl

  -- the objects and tombstones of a text with its opening are those of the text
  pub text_data : (o : Option Opening) (es : List Entry)
      → filter is_data (entries_for master s (record { opening = o; entries = es })) ≡ filter is_data es
  text_data (Some o) es = refl
  text_data None es = refl

  -- the image of a text with nothing behind its opening
  pub image_bare : (t : Text) → IsImage master s t (beginning master s t.opening)
  image_bare t = go t.opening where
    go : (o : Option Opening) → IsImage master s (record t { opening = o }) (beginning master s o)
    go (Some o) = refl
    go None = refl

  -- what is a text of objects and tombstones is its image
  pub image_is : (t : Text) (es image : List Entry) → IsData es
      → image ≡ entries_for master s (record t { entries = es }) → IsImage master s t image
  image_is t es image bare is =
      let all : filter is_data image ≡ es = ap (filter is_data) is ∙ text_data t.opening es ∙ bare in
      is ∙ ap (λ (l : List Entry). entries_for master s (record t { entries = l })) (sym all)

  -- the same of a text with the same opening
  pub image_still : (t u : Text) (image now : List Entry) → u.opening ≡ t.opening → now ≡ image
      → IsImage master s t image → IsImage master s u now
  image_still t u image now opening same is =
      same ∙ is ∙ (λ i. entries_for master s (record {
        opening = sym opening i;
        entries = filter is_data (sym same i);
      }))

  -- with objects and tombstones at its end
  pub image_longer : (t : Text) (image es : List Entry) → IsData es → IsImage master s t image
      → IsImage master s t (image ++ es)
  image_longer t image es bare is =
      let first = filter is_data image in
      let all : first ++ es ≡ filter is_data (image ++ es) =
      ap (λ (l : List Entry). first ++ l) (sym bare) ∙ sym (filter-append is_data image es) in
      ap (λ (l : List Entry). l ++ es) (is ∙ begins t.opening first)
      ∙ append_assoc (beginning master s t.opening) first es
      ∙ ap (λ (l : List Entry). beginning master s t.opening ++ l) all
      ∙ sym (begins t.opening (filter is_data (image ++ es)))

  -- the opening is the text's
  pub image_opening : (t : Text) (image : List Entry) → IsImage master s t image → opening_of image ≡ t.opening
  image_opening t image is = ap opening_of is ∙ go t.opening where
    go : (o : Option Opening)
        → opening_of (entries_for master s (record { opening = o; entries = filter is_data image })) ≡ o
    go (Some o) = refl
    go None = data_opening (record { master = master; segment = s; role = Survivor }) image

-- ---- compaction

module _ (ids : List ℕ) (index : Index) (s : ℕ) where
  kept_data : (n : ℕ) (es : List Entry) → IsData (kept_from ids index s n (filter is_data es))
  kept_data n [] = refl
  kept_data n (Header h ∷ es) = kept_data n es
  kept_data n (Digest l ∷ es) = kept_data n es
  kept_data n (Safe v ∷ es) = kept_data n es
  kept_data n (Object o ∷ es) = one_data (kept ids index s n (Object o)) (Object o) _ refl (kept_data (suc n) es)
  kept_data n (Tombstone t ∷ es) =
      one_data (kept ids index s n (Tombstone t)) (Tombstone t) _ refl (kept_data (suc n) es)

  -- compaction keeps the opening
  pub kept_image : (master : ℕ) (t : Text) (image : List Entry) → IsImage master s t image
      → IsImage master s t (kept_from ids index s 0 image)
  kept_image master t image is =
      let es = filter is_data image in
      let k = kept_behind t.opening es in
      image_is master s t (kept_from ids index s k.0 es) (kept_from ids index s 0 image) (kept_data k.0 image)
      (ap (kept_from ids index s 0) is ∙ k.1)
    where
      kept_behind : (o : Option Opening) (es : List Entry) → (n : ℕ)
          × (kept_from ids index s 0 (entries_for master s (record { opening = o; entries = es }))
          ≡ entries_for master s (record { opening = o; entries = kept_from ids index s n es }))
      kept_behind (Some o) es = (3, refl)
      kept_behind None es = (1, refl)

-- ---- one image replaced

pub one_image : (d : FailData) (m : FailMemory) (texts : Texts) (s : ℕ) (es : List Entry) → AreImages d m texts
    → (IsAmong s (log_ids d m) → IsImage d.config.master s (texts.text s) es)
    → (z : ℕ) → IsAmong z (log_ids d m)
    → IsImage d.config.master z (texts.text z) (with_image m.images s es z)
one_image d m texts s es are is z c = elim (cases_eq z s)
    as (λ _. IsImage d.config.master z (texts.text z) (with_image m.images s es z)) [
      | inl same ↦ subst (λ (y : ℕ). IsImage d.config.master y (texts.text y) (with_image m.images s es y)) (sym same)
          (image_still d.config.master s (texts.text s) (texts.text s) es _ refl (image_here m.images s es)
          (is (subst (λ (y : ℕ). IsAmong y (log_ids d m)) same c)))
      | inr other ↦ image_still d.config.master z (texts.text z) (texts.text z) (m.images z) _ refl
          (image_there m.images s es z other) (are z c)
    ]
