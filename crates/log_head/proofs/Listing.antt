-- The next head's digest under format 2, which lists lengths.
use Rattle.std.proofs.Common.{◌≡◌, ℕ, zero, suc, ◌+◌, ◌<◌, ◌≤◌, ◌^◌, inl, inr, Bool, true, false, cond, List, []}
use Rattle.std.proofs.Common.{◌∷◌, ◌++◌, length, refl, sym, ap, subst, ◌∙◌, arith}
use Rattle.std.specs.Prelude.{Option, Some, None, slice_get, unwrap_or, map, ◌*◌, ◌==◌, if◌then◌else◌}
use Rattle.std.specs.List.{AllByRecursion}
use Rattle.std.specs.List.Sorted.{IsStrictlyIncreasing}
use Rattle.std.proofs.lemmas.Bool.{ne_eqb}
use Rattle.std.proofs.lemmas.List.{length-append}
use Rattle.std.proofs.lemmas.Option.{same_Some}
use Rattle.entry.specs.declared.digest.Listed.{Listed}
use Rattle.entry.specs.declared.digest.Digest.{Digest}
use Rattle.entry.specs.declared.digest.Digest.TheVariants as digest
use Rattle.entry.specs.declared.entry.Entry.{Entry}
use Rattle.entry.specs.declared.entry.Entry.TheVariants as entry
use Rattle.entry.specs.Bag.{IsAmong}
use Rattle.entry.specs.Format.{spelling, listed_at, digest_at}
use Rattle.entry.specs.Limits.{ids_in, IsListed, AreLengths}
use Rattle.entry.specs.Text.{text_of, is_whole, lists_lengths, len_in, listed_len, IsSegment}
use Rattle.entry.proofs.LengthLemmas.{length-ids_in, len_in-place}
use Rattle.entry.proofs.ListLemmas.{all_push}
use Rattle.entry.proofs.SpellingLemmas.{length-header}
use Rattle.log_laws.specs.Heads.{listed_with, own_listed, digest_with, len_next, lens_next}
use Rattle.log_laws.specs.Ids.{has, all_inserted, without}
use Rattle.log_laws.proofs.ListedIds.{ids_push}
use Rattle.log_head.specs.Head.{digest_in}
use Rattle.log_head.specs.Steps.{len_after, IsLen, AreListedBy}
use Rattle.log_head.proofs.Digests.{IsPushed, pushed_victim, pushed_other}

-- ---- lengths

-- a segment has a header at least
pub text_least : (es : List Entry) → is_whole es ≡ true → 18 ≤ length (text_of es)
text_least [] e = absurd (cc)
text_least (entry.Header h ∷ rest) e =
    let first = length-header h in
    let parts = length-append (spelling (entry.Header h)) (text_of rest) in omega (arith, first, parts)
text_least (entry.Digest d ∷ rest) e = absurd (cc)
text_least (entry.Safe v ∷ rest) e = absurd (cc)
text_least (entry.Object o ∷ rest) e = absurd (cc)
text_least (entry.Tombstone t ∷ rest) e = absurd (cc)

pub text_len : (es : List Entry) → IsSegment es → length (text_of es) ≤ 8388608 → IsLen (length (text_of es))
text_len es is limit = record { least = text_least es is.order; greatest = limit }

len_in_fits : (id n : ℕ) (ss : List Listed) → ((i : ℕ) (s : Listed) → slice_get ss i ≡ Some s → IsListed s)
    → len_in id ss ≡ Some n → IsLen n
len_in_fits id n [] each is = absurd (cc)
len_in_fits id n (s ∷ ss) each is =
    go (s.id == id) (len_in_fits id n ss (λ i t there. each (suc i) t there)) is where
      here : IsListed s
      here = each 0 s refl

      go : (b : Bool) → (len_in id ss ≡ Some n → IsLen n) → cond b (Some s.len) (len_in id ss) ≡ Some n → IsLen n
      go true rest same =
          let one = same_Some s.len n same in
          let least = here.least in
          let most = here.greatest in record { least = omega arith; greatest = omega arith }
      go false rest same = rest same

-- a length that a digest in bytes lists
pub listed_fits : (b : Bool) (count : ℕ) (bytes : List ℕ) → (b ≡ true → AreLengths (listed_at count 5 bytes))
    → (id n : ℕ)
    → listed_len id (digest_at b count bytes) ≡ Some n → IsLen n
listed_fits false count bytes are id n is = absurd (cc)
listed_fits true count bytes are id n is = len_in_fits id n (listed_at count 5 bytes) (are refl).each is

-- the length for a segment whose head or digest has one
pub own_fits : (id head whole : ℕ) (listed : Option ℕ) → IsLen whole → ((n : ℕ) → listed ≡ Some n → IsLen n)
    → IsLen (if id == head then whole else unwrap_or listed whole)
own_fits id head whole listed own is = any (id == head) listed is where
  any : (b : Bool) (o : Option ℕ) → ((n : ℕ) → o ≡ Some n → IsLen n) → IsLen (cond b whole (unwrap_or o whole))
  any true o is = own
  any false None is = own
  any false (Some n) is = is n refl

-- ---- survivors

-- what is at each place is true of each
all_fits : (P : Listed → Type 0) (ss : List Listed) → ((i : ℕ) (s : Listed) → slice_get ss i ≡ Some s → P s)
    → AllByRecursion P ss
all_fits P [] each = tt
all_fits P (s ∷ ss) each = (each 0 s refl, all_fits P ss (λ i x is. each (suc i) x is))

-- each is listed with the length that it comes with
survivors_are : (head : ℕ) (image : List Entry) (survivors : List Listed) → AreLengths survivors
    → AreListedBy (len_after head image survivors) survivors
survivors_are head image survivors are =
    all_fits (λ (s : Listed). IsListed s × (s.len ≡ len_after head image survivors s.id)) survivors
    (λ i s is. (
      are.each i s is,
      (let told = len_in-place survivors i s are.rise is in rw told refl),
    ))

-- an id that isn't among them has no length of theirs
len_in_none : (id : ℕ) (ss : List Listed) → (IsAmong id (ids_in ss) → ⊥) → len_in id ss ≡ None
len_in_none id [] not = refl
len_in_none id (s ∷ ss) not =
    let other = ne_eqb s.id id (λ same. not (inl same)) in
    rw other (len_in_none id ss (λ m. not (inr m)))

-- an id of the digest that is no victim's is left
pub is_left : (victims ids : List ℕ) (place id : ℕ) → slice_get ids place ≡ Some id → has victims id ≡ false
    → IsAmong id (without victims ids)
is_left victims [] place id at other = absurd (cc)
is_left victims (z ∷ ids) zero id at other =
    let same = same_Some z id at in
    let test : has victims z ≡ false = ap (has victims) same ∙ other in rw test (inl same)
is_left victims (z ∷ ids) (suc place) id at other = go (has victims z) (is_left victims ids place id at other) where
  go : (b : Bool) → IsAmong id (without victims ids)
      → IsAmong id (cond b (without victims ids) (z ∷ without victims ids))
  go true later = later
  go false later = inr later

-- ---- what was listed, what waits and what is to come

-- Up to this place the segments were listed, each with its length.
pub record IsListing (head : ℕ) (image : List Entry) (victims ids : List ℕ) (survivors segments waits : List Listed)
    (place room : ℕ) : Type 0 where
  pub pushed : IsPushed victims ids (ids_in survivors) (ids_in segments) (ids_in waits) place room
  pub listed : AreListedBy (len_after head image survivors) segments
  pub waiting : AreListedBy (len_after head image survivors) waits

module _ (head : ℕ) (image : List Entry) (victims ids : List ℕ) (survivors : List Listed) where
  abbrev f : ℕ → ℕ
  f = len_after head image survivors

  abbrev Listing : List Listed → List Listed → ℕ → ℕ → Type 0
  Listing segments waits place room = IsListing head image victims ids survivors segments waits place room

  pub listing_begins : (segments : List Listed) (room : ℕ) → segments ≡ [] → AreLengths survivors
      → length (without victims ids) + length survivors + 1 ≤ room → Listing segments survivors 0 room
  listing_begins segments room none are fits =
      let size = length-ids_in survivors in
      subst (λ (ss : List Listed). Listing ss survivors 0 room) (sym none) (record {
        pushed = record { all = refl; fits = omega (arith, size, fits); rise = are.rise };
        listed = tt;
        waiting = survivors_are head image survivors are;
      })

  module _ (segments waits : List Listed) (place room : ℕ) (is : Listing segments waits place room) where
    -- a victim is passed over
    pub listing_victim : (id : ℕ) → slice_get ids place ≡ Some id → has victims id ≡ true
        → Listing segments waits (place + 1) room
    listing_victim id at victim = record {
      pushed = pushed_victim victims ids (ids_in survivors) (ids_in segments) (ids_in waits) place room is.pushed id at
          victim;
      listed = is.listed;
      waiting = is.waiting;
    }

    pub listing_other : (id n : ℕ) → slice_get ids place ≡ Some id → has victims id ≡ false
        → (mid zs still : List Listed)
        → ((rest : List ℕ) → ids_in mid ++ id ∷ all_inserted (ids_in still) rest
        ≡ ids_in segments ++ all_inserted (ids_in waits) (id ∷ rest))
        → IsStrictlyIncreasing (ids_in still) → AreListedBy f mid × AreListedBy f still
        → zs ≡ mid ++ record { id = id; len = n } ∷ [] → id < 2 ^ 64 → IsLen n → n ≡ f id → (after : ℕ)
        → after ≡ room → Listing zs still (place + 1) after
    listing_other id n at other mid zs still step rise both push small fits same after room_same =
        let x : Listed = record { id = id; len = n } in
        subst (λ (k : ℕ). Listing zs still (place + 1) k) (sym room_same)
        (subst (λ (ss : List Listed). Listing ss still (place + 1) room) (sym push) (record {
          pushed = subst (λ (l : List ℕ).
              IsPushed victims ids (ids_in survivors) l (ids_in still) (place + 1) room) (sym (ids_push mid x))
              (pushed_other victims ids (ids_in survivors) (ids_in segments) (ids_in waits) place room is.pushed id at
              other (ids_in mid) (ids_in still) step rise);
          listed = all_push (λ (s : Listed). IsListed s × (s.len ≡ f s.id)) mid x both.0
              (record { id = small; least = fits.least; greatest = fits.greatest }, same);
          waiting = both.1;
        }))

-- what is listed for a segment that is no survivor, by its parts
pub len_is : (head : ℕ) (image : List Entry) (survivors : List Listed) (id whole : ℕ) (d : Digest) (listed : Option ℕ)
    → (IsAmong id (ids_in survivors) → ⊥) → digest_in image ≡ d → whole ≡ length (text_of image)
    → listed ≡ listed_len id d
    → (if id == head then whole else unwrap_or listed whole) ≡ len_after head image survivors id
len_is head image survivors id whole d listed outside bears size is =
    let told = is ∙ ap (listed_len id) (sym bears) in
    (λ i. if id == head then size i else unwrap_or (told i) (size i))
    ∙ ap (λ (o : Option ℕ). unwrap_or o (len_next (digest_in image) head (length (text_of image)) id))
    (sym (len_in_none id survivors outside))

-- ---- the whole digest

pub ids_all : (ss more zs : List Listed) → zs ≡ ss ++ more → ids_in zs ≡ ids_in ss ++ ids_in more
ids_all ss more zs is = ap ids_in is ∙ ids_both ss where
  ids_both : (xs : List Listed) → ids_in (xs ++ more) ≡ ids_in xs ++ ids_in more
  ids_both [] = refl
  ids_both (x ∷ xs) = ap (λ (ids : List ℕ). x.id ∷ ids) (ids_both xs)

pub listed_all : (f : ℕ → ℕ) (ss more zs : List Listed) → zs ≡ ss ++ more → AreListedBy f ss → AreListedBy f more
    → AreListedBy f zs
listed_all f ss more zs is here rest = subst (AreListedBy f) (sym is) (both ss here) where
  both : (xs : List Listed) → AreListedBy f xs → AreListedBy f (xs ++ more)
  both [] all = rest
  both (x ∷ xs) all = (all.0, both xs all.1)

each_fits : (P : Listed → Type 0) (ss : List Listed) → AllByRecursion P ss → (i : ℕ) (s : Listed)
    → slice_get ss i ≡ Some s → P s
each_fits P [] all i s is = absurd (cc)
each_fits P (x ∷ xs) all zero s is = subst P (same_Some x s is) all.0
each_fits P (x ∷ xs) all (suc i) s is = each_fits P xs all.1 i s is

module _ (f : ℕ → ℕ) (ss zs : List Listed) (others : List ℕ) (id len : ℕ) (ids : ids_in ss ≡ others)
    (listed : AreListedBy f ss) (push : zs ≡ ss ++ record { id = id; len = len } ∷ []) where
  abbrev own : Listed
  own = record { id = id; len = len }

  abbrev Fits : Listed → Type 0
  Fits s = IsListed s × (s.len ≡ f s.id)

  count_is : length ss ≡ length others
  count_is = sym (length-ids_in ss) ∙ ap length ids

  fits_all : (xs : List Listed) → AreListedBy f xs → AllByRecursion IsListed xs
  fits_all [] all = tt
  fits_all (x ∷ xs) all = (all.0.0, fits_all xs all.1)

  pub are_lengths : IsStrictlyIncreasing (others ++ id ∷ []) → length others < 262144 → IsListed own → AreLengths zs
  are_lengths rise few fits =
      let same : ids_in zs ≡ others ++ id ∷ [] =
      ap ids_in push ∙ ids_push ss own ∙ ap (λ (l : List ℕ). l ++ id ∷ []) ids in
      let count = count_is in
      let more = ap length push ∙ length-append ss (own ∷ []) in
      record {
        rise = subst IsStrictlyIncreasing (sym same) rise;
        count = omega arith;
        each = subst (λ (l : List Listed). (i : ℕ) (s : Listed) → slice_get l i ≡ Some s → IsListed s) (sym push)
            (each_fits IsListed (ss ++ own ∷ []) (all_push IsListed ss own (fits_all ss listed) fits));
      }

  -- the segments are the ids with these lengths
  with_lens : (xs : List Listed) → AreListedBy f xs → xs ≡ listed_with (ids_in xs) (map f (ids_in xs))
  with_lens [] all = refl
  with_lens (x ∷ xs) all =
      let here = all.0.1 in
      let rest = with_lens xs all.1 in
      (λ i. record { id = x.id; len = here i } ∷ rest i)

  pub is_digest : (d : Digest) → lists_lengths d ≡ true → len ≡ 32 + 16 * (length ss + 1)
      → digest.Lengths zs ≡ digest_with others (lens_next d f others) id
  is_digest d lists size =
      let front : ss ≡ listed_with others (map f others) =
      with_lens ss listed ∙ (λ i. listed_with (ids i) (map f (ids i))) in
      let whole : len ≡ (own_listed others id).len = size ∙ (let count = count_is in omega arith) in
      let all : zs ≡ listed_with others (map f others) ++ own_listed others id ∷ [] =
      push ∙ (λ i. front i ++ record { id = id; len = whole i } ∷ []) in
      ap digest.Lengths all
      ∙ ap (λ (b : Bool). digest_with others (if b then Some (map f others) else None) id) (sym lists)
