-- A replay: which groups it has, and what one more makes of it.
use Rattle.std.proofs.Common.{◌≡◌, ℕ, ◌+◌, ◌<◌, ◌≤◌, Bool, true, false, cond, List, [], ◌∷◌, ◌++◌, map, max}
use Rattle.std.proofs.Common.{Some, None, refl, sym, ap, subst, ◌∙◌, inl, inr, append_assoc, arith}
use Rattle.std.specs.Prelude.{◌==◌, nat_le, not, filter, All, Option}
use Rattle.std.specs.List.{list_any}
use Rattle.std.specs.List.Sorted.{IsStrictlySortedBy, IsPermutation}
use Rattle.std.specs.Map.{lookup}
use Rattle.std.specs.Option.{option_or}
use Rattle.std.proofs.lemmas.List.{append-nil}
use Rattle.std.proofs.lemmas.List.Sorted.{IsPermutation-sym}
use Rattle.entry.specs.declared.key.Key.{Key}
use Rattle.entry.specs.declared.entry.Entry.{Entry}
use Rattle.entry.specs.declared.entry.Object.{Object}
use Rattle.entry.specs.Bag.{IsAmong}
use Rattle.entry.specs.Format.{IsObject}
use Rattle.entry.specs.Meaning.{IsMeaning, IsClean, among, contents_of}
use Rattle.entry.specs.Order.{key_cmp}
use Rattle.entry.proofs.BagLemmas.{among_left, among_last, among_push, among_image, among_images, among_permutation}
use Rattle.division.specs.declared.group.Group.{Group}
use Rattle.division.specs.Groups.{Grouped, grouped, bag_of, segments_of}
use Rattle.claims.specs.declared.claim.Claim.{Claim}
use Rattle.claims.specs.declared.fault.ReplayFault.{ReplayFault}
use Rattle.claims.specs.declared.fault.ReplayFault.TheVariants as fault
use Rattle.claims.specs.declared.placed.PlacedKey.{PlacedKey}
use Rattle.claims.specs.Claims.{Claimed, claimed, claims_of, has_clash, bound_of_claims, objects_in, tops, IsRefusedFor}
use Rattle.claims.proofs.ClaimOrder.{Rises}
use Rattle.claims.proofs.GatheringLemmas.{claims_of-append}
use Rattle.claims.proofs.Members.{any_yes, any_no, among_filter, filter_among}
use Rattle.claims.proofs.ScanLemmas.{keys_of, tops-sorted}
use Rattle.partition_replay.specs.declared.kept.Kept.{Kept}
use Rattle.partition_replay.specs.declared.replay.Replayed.{Replayed}
use Rattle.partition_replay.specs.Keeping.{kept_at, kept_in, IsKept, AreTops, AddsTops, IsUnkept, HaveClash}
use Rattle.partition_replay.specs.Keeping.{Clashes, ClashAbove}
use Rattle.partition_replay.specs.Replaying.{Replaying, IsPlaced, IsLowest, IsLowestMissing, IsReplayed, IsTakeFault}
use Rattle.partition_replay.specs.Replaying.{IsFinishFault, AreSettled, taken, lower_of}
use Rattle.partition_replay.proofs.MapLemmas.{Entries, same_key, same_where}
use Rattle.partition_replay.proofs.Meant.{clash_unclean, one_top, meant, greatest_kept}

-- ---- groups of a segment

segment_in : Group → ℕ
segment_in g = g.segment

segments-grouped : (gs : List Group) → segments_of (map grouped gs) ≡ map (λ (g : Group). g.segment) gs
segments-grouped [] = refl
segments-grouped (g ∷ gs) = ap (λ (ns : List ℕ). g.segment ∷ ns) (segments-grouped gs)

pub has_yes : (gs : List Group) (n : ℕ) → list_any (λ (g : Group). g.segment == n) gs ≡ true
    → IsAmong n (segments_of (map grouped gs))
has_yes gs n h =
    subst (λ ns. IsAmong n ns) (sym (segments-grouped gs)) (any_yes (λ (g : Group). g.segment) n gs h)

pub has_no : (gs : List Group) (n : ℕ) → list_any (λ (g : Group). g.segment == n) gs ≡ false
    → IsAmong n (segments_of (map grouped gs)) → ⊥
has_no gs n h m =
    any_no (λ (g : Group). g.segment) n gs h (subst (λ ns. IsAmong n ns) (segments-grouped gs) m)

-- ---- the lowest that is missing

module _ (ids : List ℕ) (gs : List Grouped) (id : ℕ) where
  pub lowest_done : (low : Option ℕ) → IsLowest ids gs low → IsAmong id (segments_of gs)
      → IsLowest (ids ++ id ∷ []) gs low
  lowest_done None h here = λ n m.
      elim (among_push n ids id m) [
        | inl before ↦ h n before
        | inr last ↦ subst (λ k. IsAmong k (segments_of gs)) last here
      ]
  lowest_done (Some low) h here =
      record {
        listed = among_left low ids (id ∷ []) h.listed;
        missing = h.missing;
        below = λ n m lt. elim (among_push n ids id m) [
          | inl before ↦ h.below n before lt
          | inr last ↦ subst (λ k. IsAmong k (segments_of gs)) last here
        ];
      }

  pub lowest_more : (low : Option ℕ) → IsLowest ids gs low → (IsAmong id (segments_of gs) → ⊥)
      → IsLowest (ids ++ id ∷ []) gs (Some (lower_of low id))
  lowest_more None h none =
      record {
        listed = among_last ids id;
        missing = none;
        below = λ n m lt. elim (among_push n ids id m) [
          | inl before ↦ h n before
          | inr last ↦ absurd
              (omega (arith, last, lt))
        ];
      }
  lowest_more (Some low) h none = by_test (nat_le low id) refl
    where
      by_test : (b : Bool) → nat_le low id ≡ b → IsLowestMissing (ids ++ id ∷ []) gs (cond b low id)
      by_test true e =
          let le : low ≤ id = grind (arith, e) in
          record {
            listed = among_left low ids (id ∷ []) h.listed;
            missing = h.missing;
            below = λ n m lt. elim (among_push n ids id m) [
              | inl before ↦ h.below n before lt
              | inr last ↦ absurd (omega (arith, last, lt, le))
            ];
          }
      by_test false e =
          let lt' : id < low = grind (arith, e) in
          record {
            listed = among_last ids id;
            missing = none;
            below = λ n m lt. elim (among_push n ids id m) [
              | inl before ↦ h.below n before (omega (arith, lt, lt'))
              | inr last ↦ absurd (omega (arith, last, lt))
            ];
          }

-- ---- one group more

pub bag_more : (gs : List Grouped) (g : Grouped) → bag_of (gs ++ g ∷ []) ≡ bag_of gs ++ g.entries
bag_more [] g = append-nil g.entries
bag_more (h ∷ gs) g =
    ap (λ (es : List Entry). h.entries ++ es) (bag_more gs g) ∙ sym (append_assoc h.entries (bag_of gs) g.entries)

abbrev pub AreToppedBy : List Grouped → Entries → Type 0
AreToppedBy gs es = AreTops (claims_of (bag_of gs)) (kept_at es)

-- a map that has the same of each key is as good
pub same_tops : (all : List Claimed) (old new : Key → Option Kept) → ((k : Key) → new k ≡ old k) → AreTops all old
    → AreTops all new
same_tops all old new same are = subst (λ (f : Key → Option Kept). AreTops all f) (λ i k. sym (same k) i) are

-- a map in another order
pub reordered : (es fs : Entries) → ((q : PlacedKey) → lookup (same_key q) fs ≡ lookup (same_key q) es) → (k : Key)
    → kept_at fs k ≡ kept_at es k
reordered es fs same k = same_where es fs (λ _. Unit {0}) (λ q any. same q) k tt

module _ (gs : List Grouped) (g : Grouped) (old : Entries) (are : AreToppedBy gs old) where
  claims_more : claims_of (bag_of (gs ++ g ∷ [])) ≡ claims_of (bag_of gs) ++ claims_of g.entries
  claims_more = ap claims_of (bag_more gs g) ∙ claims_of-append (bag_of gs) g.entries

  -- what is kept with the group
  pub tops_more : (fresh kept new : Entries) → AddsTops (kept_at old) (claims_of g.entries) (kept_in fresh old)
      → ((k : Key) → kept_at kept k ≡ kept_at old k) → ((k : Key) → kept_at new k ≡ kept_in fresh kept k)
      → AreToppedBy (gs ++ g ∷ []) new
  tops_more fresh kept new adds moved put =
      same_tops (claims_of (bag_of (gs ++ g ∷ []))) (kept_in fresh old) (kept_at new)
      (λ k. put k ∙ ap (λ (o : Option Kept). option_or (kept_at fresh k) o) (moved k))
      (subst (λ cs. AreTops cs (kept_in fresh old)) (sym claims_more) (adds (claims_of (bag_of gs)) are))

  -- a clash with what is kept
  unclean_more : IsUnkept (kept_at old) (claims_of g.entries) fault.Clash → IsClean (among (bag_of (gs ++ g ∷ []))) → ⊥
  unclean_more h =
      clash_unclean (bag_of (gs ++ g ∷ []))
      (subst HaveClash (sym claims_more) (h (claims_of (bag_of gs)) are))

  pub take_fault : (r : Replaying) (f : ReplayFault) → gs ≡ r.groups → IsPlaced r g.segment g.partition
      → IsUnkept (kept_at old) (claims_of g.entries) f → (f ≡ fault.Clash → ClashAbove (kept_at old) g.entries)
      → IsTakeFault r g f
  take_fault r fault.NoMemory is placed h met = placed
  take_fault r fault.Clash is placed h met = (
    placed,
    subst (λ (hs : List Grouped). Clashes (bag_of hs) g.entries) is (met refl (bag_of gs) are),
    λ clean. unclean_more h (subst (λ (hs : List Grouped). IsClean (among (bag_of (hs ++ g ∷ [])))) (sym is) clean),
  )
  take_fault r (fault.Double segment) is placed h met = absurd h
  take_fault r fault.Stranger is placed h met = absurd h
  take_fault r (fault.MissingGroup segment) is placed h met = absurd h
  take_fault r (fault.Stray key) is placed h met = absurd h

pub settled_more : (r : Replaying) (g : Grouped) (new : Entries) → AreToppedBy (r.groups ++ g ∷ []) new
    → AreSettled (taken r g)
settled_more r g new are = one_top (bag_of (r.groups ++ g ∷ [])) (kept_at new) are

-- ---- the end

-- claims that do not clash are refused for memory alone
pub unfinished : (r : Replaying) (cs : List Claimed) (f : ReplayFault) → IsLowest r.ids r.groups None
    → has_clash cs ≡ false → IsRefusedFor (has_clash cs) f → IsFinishFault r f
unfinished r cs fault.NoMemory whole clean h = whole
unfinished r cs fault.Clash whole clean h = absurd (cc)
unfinished r cs (fault.Double segment) whole clean h = absurd h
unfinished r cs fault.Stranger whole clean h = absurd h
unfinished r cs (fault.MissingGroup segment) whole clean h = absurd h
unfinished r cs (fault.Stray key) whole clean h = absurd h

-- what is left of the claims that are kept, without the dead, in order
module _ (kept : Key → Option Kept) (all live after : List Claim) (is : live ≡ filter (λ (c : Claim). not c.dead) all)
    (moved : IsPermutation live after) (only : (c : Claimed) → IsAmong c (map claimed all) → IsKept kept c)
    (each : (c : Claimed) → IsKept kept c → IsAmong c (map claimed all)) where
  pub live_only : (c : Claimed) → IsAmong c (map claimed after) → IsKept kept c
  live_only c m =
      let x = among_images claimed after c m in
      let back = among_permutation x.0 after live (IsPermutation-sym live after moved) x.1 in
      let there = among_filter (λ (d : Claim). not d.dead) all x.0
      (subst (λ (xs : List Claim). IsAmong x.0 xs) is back) in
      subst (IsKept kept) x.2 (only (claimed x.0) (among_image claimed all x.0 there.0))

  pub live_each : (c : Claimed) → IsKept kept c → c.dead ≡ false → IsAmong c (map claimed after)
  live_each c h alive =
      let x = among_images claimed all c (each c h) in
      let dead : x.0.dead ≡ false = ap (λ (d : Claimed). d.dead) x.2 ∙ alive in
      let there = filter_among (λ (d : Claim). not d.dead) all x.0 x.1 (ap not dead) in
      subst (λ (d : Claimed). IsAmong d (map claimed after)) x.2
      (among_image claimed after x.0
      (among_permutation x.0 live after moved (subst (λ (xs : List Claim). IsAmong x.0 xs) (sym is) there)))

pub replayed : (partition : ℕ) (ids : List ℕ) (gs : List Grouped) (es : Entries)
    (all cs : List Claimed) (out : Replayed)
    → AreToppedBy gs es → IsLowest ids gs None → Rises cs → ((c : Claimed) → IsAmong c all → IsKept (kept_at es) c)
    → ((c : Claimed) → IsKept (kept_at es) c → IsAmong c all)
    → ((c : Claimed) → IsAmong c cs → IsKept (kept_at es) c)
    → ((c : Claimed) → IsKept (kept_at es) c → c.dead ≡ false → IsAmong c cs)
    → out.objects ≡ objects_in (tops cs) → All IsObject out.objects
    → out.greatest + 1 ≡ max 1 (bound_of_claims all) →
    IsReplayed (record { partition = partition; ids = ids; groups = gs }) out
replayed partition ids gs es all cs out are whole up only each live_only live_each objects valid greatest =
    record {
      whole = whole;
      meaning =
          subst (λ (os : List Object). IsMeaning (among (bag_of gs)) (contents_of os)) (sym objects)
          (meant (bag_of gs) (kept_at es) are cs up live_only live_each);
      order =
          subst (λ (os : List Object). IsStrictlySortedBy key_cmp (keys_of os)) (sym objects) (tops-sorted cs up);
      valid = valid;
      greatest = greatest ∙ greatest_kept (bag_of gs) (kept_at es) are all only each;
    }
