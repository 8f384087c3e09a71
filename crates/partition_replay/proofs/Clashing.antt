-- Which entries clash as they come.
use Rattle.std.proofs.Common.{◌≡◌, ◌⊎◌, ◌↔◌, ◌∷◌, ◌++◌, [], List, Bool, true, false}
use Rattle.std.proofs.Common.{refl, sym, ap, subst, ◌∙◌, inl, inr, append_assoc, arith}
use Rattle.std.specs.Prelude.{◌≢◌, ◌==◌, nat_eq, Option, Some, None}
use Rattle.std.specs.Cmp.Lexicographic.{pointwise}
use Rattle.std.proofs.lemmas.Bool.Decides.{Decides-eqb}
use Rattle.std.proofs.lemmas.Slice.Eq.{bytes_eq-Decides}
use Rattle.std.specs.List.{cons_option}
use Rattle.std.proofs.lemmas.List.{append-nil}
use Rattle.std.proofs.lemmas.Option.{same_Some}
use Rattle.entry.specs.declared.key.Key.{Key}
use Rattle.entry.specs.declared.entry.Object.{Object}
use Rattle.entry.specs.declared.entry.Entry.{Entry}
use Rattle.entry.specs.declared.entry.Entry.TheVariants as entry
use Rattle.entry.specs.Meaning.{Versioned, IsTop, among, object_at, versioned}
use Rattle.entry.specs.Order.{key_eq}
use Rattle.entry.proofs.KeyOrder.{key_eq_decides}
use Rattle.claims.specs.Claims.{Claimed, claim_of, claims_of, is_clash, object_of, rank}
use Rattle.claims.proofs.ScanLemmas.{is_clash-tells}
use Rattle.claims.proofs.MeaningLemmas.{object-from_claim}
use Rattle.claims.proofs.GatheringLemmas.{claims_of-append}
use Rattle.partition_replay.specs.declared.kept.Kept.{Kept}
use Rattle.partition_replay.specs.Keeping.{kept_claim, IsAbove, DoesClash, AreTops, AddsTops, Clashes}
use Rattle.partition_replay.specs.Keeping.{ClashAbove, PassAbove}
use Rattle.partition_replay.proofs.Meant.{claim_at, top_kept, kept_top}
use Rattle.partition_replay.proofs.Tops.{adds_more}

-- ---- one entry

-- the entry clashes with what is kept of its key
pub record Meets (before : List Entry) (e : Entry) : Type 0 where
  pub object : Object
  pub is : e ≡ entry.Object object
  pub kept : Versioned
  pub top : IsTop object.key (among before) (object_at object.key kept)
  pub version : kept.version ≡ object.version
  pub value : kept.value ≢ object.value

-- a claim that is tested does not clash
pub above_calm : (o : Option Kept) (c : Claimed) (b : Bool) → IsAbove o c b → DoesClash o c → ⊥
above_calm None c b says clash = absurd clash
above_calm (Some x) c true says clash =
    let r = (is_clash-tells (kept_claim c.key x) c clash).0 in
    let level : rank (kept_claim c.key x) ≡ rank c = rw (r.first, r.second, r.version) refl in
    absurd (omega (arith, says, level))
above_calm (Some x) c false says clash =
    let tells = is_clash-tells (kept_claim c.key x) c clash in
    let r = tells.0 in
    let level : rank c ≡ rank (kept_claim c.key x) = rw (r.first, r.second, r.version) refl in
    tells.1 (sym (says.same r.second level))

clash_at : (k : Key) (x y : Versioned) → x.version ≡ y.version → x.value ≢ y.value
    → is_clash (claim_at k x) (claim_at k y) ≡ true
clash_at k x y version value = by_test (pointwise nat_eq x.value y.value) refl
  where
    by_test : (b : Bool) → pointwise nat_eq x.value y.value ≡ b → is_clash (claim_at k x) (claim_at k y) ≡ true
    by_test true e = absurd (value ((bytes_eq-Decides x.value y.value).0 e))
    by_test false e =
        let key : key_eq k k ≡ true = (key_eq_decides k k).1 refl in
        let level : (x.version == y.version) ≡ true = (Decides-eqb x.version y.version).1 version in
        rw (key, level, e) refl

module _ (before : List Entry) (mid : Key → Option Kept) (are : AreTops (claims_of before) mid) (e : Entry)
    (c : Claimed) (some : Some c ≡ claim_of e) where
  pub meets_from : DoesClash (mid c.key) c → Meets before e
  meets_from clash = by_kept (mid c.key) refl clash
    where
      by_kept : (o : Option Kept) → mid c.key ≡ o → DoesClash o c → Meets before e
      by_kept None is clash = absurd clash
      by_kept (Some x) is clash =
          let tells = is_clash-tells (kept_claim c.key x) c clash in
          let kept : Versioned = record { version = x.version; value = x.value.now } in
          let same : kept_claim c.key x ≡ claim_at c.key kept =
          λ i. record { key = c.key; version = x.version; dead = tells.0.first i; value = x.value.now } in
          record {
            object = object_of c;
            is = object-from_claim e c (sym some) tells.0.second;
            kept = kept;
            top = kept_top before mid are c.key kept (x, is, same);
            version = tells.0.version;
            value = tells.1;
          }

  pub meets_to : Meets before e → DoesClash (mid c.key) c
  meets_to m =
      let o = m.object in
      let mine : c ≡ claim_at o.key (versioned o) = same_Some _ _ (some ∙ ap claim_of m.is) in
      let h = top_kept before mid are o.key m.kept m.top in
      let there : is_clash (kept_claim o.key h.0) (claim_at o.key (versioned o)) ≡ true =
      subst (λ (d : Claimed). is_clash d (claim_at o.key (versioned o)) ≡ true) (sym h.2)
      (clash_at o.key m.kept (versioned o) m.version m.value) in
      subst (λ (d : Claimed). DoesClash (mid d.key) d) (sym mine)
      (subst (λ (p : Option Kept). DoesClash p (claim_at o.key (versioned o))) (sym h.1) there)

-- what claims nothing does not clash
meets_none : (before : List Entry) (e : Entry) → None ≡ claim_of e → Meets before e → ⊥
meets_none before e none m = let no : None ≡ claim_of (entry.Object m.object) = none ∙ ap claim_of m.is in absurd (cc)

-- ---- one entry after another

-- the first of the entries clashes, or a later one does behind it
abbrev pub Comes : List Entry → List Entry → Type 0
Comes before [] = ⊥
Comes before (e ∷ es) = Meets before e ⊎ Comes (before ++ e ∷ []) es

comes_front : (front before es : List Entry) (o : Object) (back : List Entry)
    → es ≡ front ++ (entry.Object o ∷ back) → Meets (before ++ front) (entry.Object o) → Comes before es
comes_front [] before es o back parts m =
    subst (Comes before) (sym parts) (inl (subst (λ bs. Meets bs (entry.Object o)) (append-nil before) m))
comes_front (f ∷ fs) before es o back parts m =
    subst (Comes before) (sym parts)
    (inr (comes_front fs (before ++ f ∷ []) (fs ++ (entry.Object o ∷ back)) o back refl
    (subst (λ bs. Meets bs (entry.Object o)) (sym (append_assoc before (f ∷ []) fs)) m)))

pub comes_from : (before es : List Entry) → Clashes before es → Comes before es
comes_from before es h =
    comes_front h.front before es h.object h.back h.parts
    (record { object = h.object; is = refl; kept = h.kept; top = h.top; version = h.version; value = h.value })

pub comes_to : (es before : List Entry) → Comes before es → Clashes before es
comes_to [] before h = absurd h
comes_to (e ∷ es) before (inl m) =
    record {
      front = [];
      object = m.object;
      back = es;
      parts = ap (λ (f : Entry). f ∷ es) m.is;
      kept = m.kept;
      top = subst (λ bs. IsTop m.object.key (among bs) (object_at m.object.key m.kept)) (sym (append-nil before)) m.top;
      version = m.version;
      value = m.value;
    }
comes_to (e ∷ es) before (inr later) =
    let h = comes_to es (before ++ e ∷ []) later in
    record {
      front = e ∷ h.front;
      object = h.object;
      back = h.back;
      parts = ap (λ (fs : List Entry). e ∷ fs) h.parts;
      kept = h.kept;
      top = subst (λ bs. IsTop h.object.key (among bs) (object_at h.object.key h.kept))
          (append_assoc before (e ∷ []) h.front) h.top;
      version = h.version;
      value = h.value;
    }

-- ---- in a loop

-- Of all entries those in front came, and no more clashes than are left.
pub record HasCome (old : Key → Option Kept) (all front left : List Entry) (mid : Key → Option Kept) : Type 0 where
  pub parts : front ++ left ≡ all
  pub adds : AddsTops old (claims_of front) mid
  pub alike : (before : List Entry) → AreTops (claims_of before) old → Comes before all ↔ Comes (before ++ front) left

pub none_came : (old : Key → Option Kept) (all left : List Entry) → left ≡ all → AddsTops old [] old
    → HasCome old all [] left old
none_came old all left is adds =
    record {
      parts = is;
      adds = adds;
      alike = λ before are.
          subst (λ bs. Comes before all ↔ Comes bs left) (sym (append-nil before))
          (subst (λ ts. Comes before all ↔ Comes before ts) (sym is) (λ h. h, λ h. h));
    }

module _ (old : Key → Option Kept) (all front : List Entry) (e : Entry) (es left : List Entry) (first : es ≡ e ∷ left)
    (mid : Key → Option Kept) (was : HasCome old all front es mid) where
  came : front ++ (e ∷ left) ≡ all
  came = ap (λ (ts : List Entry). front ++ ts) (sym first) ∙ was.parts

  moved : (front ++ e ∷ []) ++ left ≡ all
  moved = append_assoc front (e ∷ []) left ∙ came

  tops_at : (before : List Entry) → AreTops (claims_of before) old → AreTops (claims_of (before ++ front)) mid
  tops_at before are =
      subst (λ cs. AreTops cs mid) (sym (claims_of-append before front)) (was.adds (claims_of before) are)

  alike_at : (before : List Entry) → AreTops (claims_of before) old
      → Comes before all ↔ (Meets (before ++ front) e ⊎ Comes ((before ++ front) ++ e ∷ []) left)
  alike_at before are = subst (λ ts. Comes before all ↔ Comes (before ++ front) ts) first (was.alike before are)

  -- the entry does not clash
  passes : ((before : List Entry) → AreTops (claims_of before) old → Meets (before ++ front) e → ⊥)
      → (before : List Entry) → AreTops (claims_of before) old
      → Comes before all ↔ Comes (before ++ (front ++ e ∷ [])) left
  passes calm before are =
      subst (λ bs. Comes before all ↔ Comes bs left) (append_assoc before front (e ∷ []))
      (let both = alike_at before are in (
        λ h. elim (both.0 h) as (λ _. Comes ((before ++ front) ++ e ∷ []) left) [
          | inl m ↦ absurd (calm before are m)
          | inr later ↦ later
        ],
        λ h. both.1 (inr h),
      ))

  pub came_none : None ≡ claim_of e → HasCome old all (front ++ e ∷ []) left mid
  came_none none =
      record {
        parts = moved;
        adds = subst (λ cs. AddsTops old cs mid)
            (sym (append-nil (claims_of front))
            ∙ ap (λ (o : Option Claimed). claims_of front ++ cons_option o []) none
            ∙ sym (claims_of-append front (e ∷ []))) was.adds;
        alike = passes (λ before are. meets_none (before ++ front) e none);
      }

  module _ (c : Claimed) (some : Some c ≡ claim_of e) where
    pub came_claim : (new : Key → Option Kept) → (DoesClash (mid c.key) c → ⊥) → AddsTops mid (c ∷ []) new
        → HasCome old all (front ++ e ∷ []) left new
    came_claim new calm more =
        record {
          parts = moved;
          adds = subst (λ cs. AddsTops old cs new)
              (ap (λ (o : Option Claimed). claims_of front ++ cons_option o []) some
              ∙ sym (claims_of-append front (e ∷ [])))
              (adds_more old mid new (claims_of front) (c ∷ []) was.adds more);
          alike = passes (λ before are m. calm (meets_to (before ++ front) mid (tops_at before are) e c some m));
        }

    pub clash_now : DoesClash (mid c.key) c → ClashAbove old all
    clash_now clash before are =
        comes_to all before
        ((alike_at before are).1 (inl (meets_from (before ++ front) mid (tops_at before are) e c some clash)))

    -- the claims of all entries, from here on
    pub claims_on : claims_of front ++ (c ∷ claims_of left) ≡ claims_of all
    claims_on =
        ap (λ (o : Option Claimed). claims_of front ++ cons_option o (claims_of left)) some
        ∙ sym (claims_of-append front (e ∷ left)) ∙ ap claims_of came

pub all_pass : (old : Key → Option Kept) (all front left : List Entry) (mid : Key → Option Kept)
    → HasCome old all front left mid → left ≡ [] → PassAbove old all
all_pass old all front left mid was none before are clash =
    subst (Comes (before ++ front)) none ((was.alike before are).0 (comes_from before all clash))

pub all_added : (old : Key → Option Kept) (all front left : List Entry) (mid : Key → Option Kept)
    → HasCome old all front left mid → left ≡ [] → AddsTops old (claims_of all) mid
all_added old all front left mid was none =
    subst (λ es. AddsTops old (claims_of es) mid)
    (sym (append-nil front) ∙ ap (λ (es : List Entry). front ++ es) (sym none) ∙ was.parts) was.adds
