-- Images that are tracked are clean and mean the map. The same is true of any bag that has all objects and
-- tombstones of the images, and no more than those of the log.
use Rattle.std.proofs.Common.{◌≡◌, ℕ, ◌⊎◌, inl, inr, List, refl, sym, ap, subst, arith}
use Rattle.std.specs.Prelude.{Option, Some, None}
use Rattle.entry.specs.declared.key.Key.{Key}
use Rattle.entry.specs.declared.entry.Object.{Object as ObjectValue}
use Rattle.entry.specs.declared.entry.Entry.{Entry}
use Rattle.entry.specs.declared.entry.Entry.TheVariants.{Object, Tombstone}
use Rattle.entry.specs.Bag.{IsAmong}
use Rattle.entry.specs.Meaning.{Versioned, Contents, IsOfKey, object_at, IsMeaning, IsClean}
use Rattle.versioned_map.specs.Membership.{IsMeaningBy}
use Rattle.entry.proofs.KeyOrder.{key_eq_tells}
use Rattle.versioned_map.proofs.Meanings.{from_membership}
use Rattle.log_laws.specs.Memory.{Place, Index, Images, LogSet, Pass, ImageHas, ImagesHave, SegmentHas, LogHas}
use Rattle.log_laws.specs.Memory.{StandsAt}
use Rattle.log_laws.specs.Tracked.{IsCopied, IsBuried, IsTracked}
use Rattle.log_laws.proofs.ImageLists.{among_at}

-- ---- entries and keys

pub in_segment : (log : LogSet) (s : ℕ) (e : Entry) → ImageHas log.ids log.image s e → SegmentHas log s e
in_segment log s e m = record { counts = m.counts; among = inl m.among }

-- `IsOfKey` stays true of an equal entry, and of an equal key
pub of_same : (k : Key) (e f : Entry) → e ≡ f → IsOfKey k f → IsOfKey k e
of_same k e f same at = subst (λ (g : Entry). IsOfKey k g) (sym same) at

pub of_other : (k q : Key) (f : Entry) → k ≡ q → IsOfKey k f → IsOfKey q f
of_other k q f same at = subst (λ (z : Key). IsOfKey z f) same at

pub key_tells : (a b : Key) → (a ≡ b) ⊎ (a ≡ b → ⊥)
key_tells a b = elim (key_eq_tells a b) [ inl h ↦ inl h.1 | inr h ↦ inr h.1 ]

pub object_is : (o : ObjectValue) (k : Key) (x : Versioned) → o.key ≡ k → o.version ≡ x.version → o.value ≡ x.value
    → Object o ≡ object_at k x
object_is o k x at version value = λ i. Object (record { key = at i; version = version i; value = value i })

pub one_object : (o p : ObjectValue) → Object o ≡ Object p → o ≡ p
one_object o p same = cc

pub one_object_key : (o p : ObjectValue) → Object o ≡ Object p → o.key ≡ p.key
one_object_key o p same = ap (λ (z : ObjectValue). z.key) (one_object o p same)

-- an object that is buried is so elsewhere, if its tombstone is there and names what it may
pub buried_again : (ids more : List ℕ) (image other : Images) (pass next : Pass) (s : ℕ) (o : ObjectValue)
    (b : IsBuried ids image pass s o) → ImagesHave more other (Tombstone b.grave)
    → ((b.grave.segment ≡ s) ⊎ IsCopied other next s b.grave.segment o) → IsBuried more other next s o
buried_again ids more image other pass next s o b stands names = record {
  grave = b.grave;
  of_key = b.of_key;
  of_version = b.of_version;
  stands = stands;
  names = names;
}

-- ---- bags

module _ (log : LogSet) (pass : Pass) (index : Index) (contents : Contents)
    (is : IsTracked log pass index contents) where
  pub stands_in : (k : Key) (x : Versioned) → contents k ≡ Some x → ImagesHave log.ids log.image (object_at k x)
  stands_in k x h =
      let f = is.found k x h in (f.place.segment, record { counts = f.counts; among = among_at _ _ _ f.stands })

  -- a bag that has what images have of keys, and no more than the log has of them
  module _ (bag : Entry → Type 0)
      (there : (e : Entry) (k : Key) → IsOfKey k e → ImagesHave log.ids log.image e → bag e)
      (from : (e : Entry) (k : Key) → IsOfKey k e → bag e → LogHas log e) where
    pub between_clean : IsClean bag
    between_clean o p a b = is.clean o p (from (Object o) o.key refl a) (from (Object p) p.key refl b)

    between_by : IsMeaningBy bag contents
    between_by = record {
      present = λ k x h. record {
        held = there (object_at k x) k refl (stands_in k x h);
        of_key = refl;
        highest = λ f m at. let l = from f k at m in is.highest k x h l.0 f l.1 at;
      };
      absent = λ k x h m.
          let l = from (object_at k x) k refl m in
          let b = is.buried l.0 (record { key = k; version = x.version; value = x.value }) l.1
          (λ live. absurd (cc)) in
          let v = b.of_version in
          (Tombstone b.grave, there (Tombstone b.grave) b.grave.key refl b.stands, b.of_key, omega arith);
    }

    pub between_means : IsMeaning bag contents
    between_means = from_membership bag contents between_clean between_by

-- A place that the index names.
pub record FoundAt (ids : List ℕ) (image : Images) (contents : Contents) (k : Key) (p : Place) : Type 0 where
  pub has : Versioned
  pub present : contents k ≡ Some has
  pub counts : IsAmong p.segment ids
  pub stands : StandsAt image p (object_at k has)

pub found_at : (log : LogSet) (pass : Pass) (index : Index) (contents : Contents) → IsTracked log pass index contents
    → (k : Key) (p : Place) → index k ≡ Some p → FoundAt log.ids log.image contents k p
found_at log pass index contents is k p named = told (contents k) refl
  where
    told : (c : Option Versioned) → contents k ≡ c → FoundAt log.ids log.image contents k p
    told None e = let gone = is.unindexed k e in absurd (cc)
    told (Some x) e =
        let f = is.found k x e in
        let i = f.indexed in
        let same : f.place ≡ p = cc in
        record {
          has = x;
          present = e;
          counts = subst (λ (q : Place). IsAmong q.segment log.ids) same f.counts;
          stands = subst (λ (q : Place). StandsAt log.image q (object_at k x)) same f.stands;
        }
