-- A list that is loaded, object by object.
use Rattle.std.proofs.Common.{◌≡◌, ◌<◌, ℕ, suc, Bool, true, false, List, [], ◌∷◌, ◌++◌, append_assoc, refl, sym, ap}
use Rattle.std.proofs.Common.{subst, inl, inr, ◌∙◌}
use Rattle.std.proofs.lemmas.List.{append-nil}
use Rattle.std.specs.Prelude.{Option, Some, None, if◌then◌else◌, Result, Ok, Err, IfErr, IfOk, OnOk, map}
use Rattle.std.proofs.lemmas.List.Elements.{All-contains}
use Rattle.std.specs.List.Sorted.{IsStrictlySortedBy}
use Rattle.std.specs.declared.cmp.Ordering.TheVariants.{Less, Equal}
use Rattle.entry.specs.declared.entry.Entry.TheVariants as entry
use Rattle.entry.specs.declared.entry.Object.{Object}
use Rattle.entry.specs.declared.key.Key.{Key}
use Rattle.entry.specs.Bag.{IsAmong}
use Rattle.entry.specs.Meaning.{Versioned, contents_of, versioned}
use Rattle.entry.specs.Order.{key_cmp, key_eq}
use Rattle.entry.proofs.BagLemmas.{among_image, among_place}
use Rattle.entry.proofs.KeyOrder.{key_eq_decides, key_cmp_same}
use Rattle.entry.proofs.ListLemmas.{all_among}
use Rattle.driving.specs.master_core.master_state.declared.config.Config.{Config}
use Rattle.driving.specs.master_core.master_state.declared.step.Refusal.{Refusal}
use Rattle.driving.specs.master_core.master_state.declared.step.Refusal.TheVariants as refusal
use Rattle.driving.specs.master_core.master_state.Data.{MasterData}
use Rattle.driving.specs.master_core.master_state.Loading.{restored_data, IsNewObject, Loads}
use Rattle.driving.specs.master.Loading.{DeclinesLoad}
use Rattle.driving.specs.master.World.{World}
use Rattle.claims.specs.declared.rebuilt.Rebuilt.{Rebuilt}
use Rattle.driving.specs.Rolls.{PushesUntil, IsRolled, IsNotRolled}
use Rattle.replay.specs.Adopting.{HasToWait, HasRoomMade, LoadsOne, HasLoaded, LoadsAll, IsStuck, IsFinal, Stops}
use Rattle.replay.specs.Fresh.{AreNew}
use Rattle.claims.specs.Listed.{AreOrdered}
use Rattle.replay.proofs.LoadRoom.{push_final, roll_final}
use Rattle.replay.proofs.LoadSteps.{KeepsLoaded, stacked, room_keeps}

-- ---- keys

key_other : (a b : Key) → (a ≡ b → ⊥) → key_eq a b ≡ false
key_other a b apart = go (key_eq a b) refl
  where
    go : (t : Bool) → key_eq a b ≡ t → key_eq a b ≡ false
    go true e = absurd (apart ((key_eq_decides a b).0 e))
    go false e = e

-- in order the first key comes no more
keys_apart : (o p : Object) (os : List Object) → AreOrdered (o ∷ os) → IsAmong p os → o.key ≡ p.key → ⊥
unfolding IsStrictlySortedBy
keys_apart o p os sorted m same =
    let less : key_cmp o.key p.key ≡ Less =
    all_among (λ k. key_cmp o.key k ≡ Less) (map (λ (z : Object). z.key) os) p.key sorted.0
    (among_image (λ (z : Object). z.key) os p m) in
    let equal : key_cmp o.key p.key ≡ Equal = key_cmp_same o.key p.key same in
    cc

ordered_rest : (o : Object) (os : List Object) → AreOrdered (o ∷ os) → AreOrdered os
unfolding IsStrictlySortedBy
ordered_rest o os sorted = sorted.1

none_of : (k : Key) (os : List Object) → ((p : Object) → IsAmong p os → key_eq k p.key ≡ false)
    → contents_of os k ≡ None
none_of k [] each = refl
none_of k (p ∷ os) each =
    let here = each p (inl refl) in
    let rest = none_of k os (λ q m. each q (inr m)) in
    rw here rest

-- what the first has, or else the second
abbrev either : Option Versioned → Option Versioned → Option Versioned
either (Some x) y = Some x
either None y = y

either_none : (x : Option Versioned) → either x None ≡ x
either_none (Some x) = refl
either_none None = refl

contents_stacked : (os base : List Object) (k : Key) → AreOrdered os
    → contents_of (stacked os base) k ≡ either (contents_of os k) (contents_of base k)
contents_stacked [] base k sorted = refl
contents_stacked (o ∷ os) base k sorted =
    contents_stacked os (o ∷ base) k (ordered_rest o os sorted) ∙ by_test (key_eq k o.key) refl
  where
    by_test : (t : Bool) → key_eq k o.key ≡ t
        → either (contents_of os k) (if t then Some (versioned o) else contents_of base k)
        ≡ either (if t then Some (versioned o) else contents_of os k) (contents_of base k)
    by_test true e =
        let same : k ≡ o.key = (key_eq_decides k o.key).0 e in
        let none : contents_of os k ≡ None =
        none_of k os (λ p m. key_other k p.key (λ is. keys_apart o p os sorted m (sym same ∙ is))) in
        ap (λ (x : Option Versioned). either x (Some (versioned o))) none
    by_test false e = refl

-- loaded from the first on, an ordered list has what it has
pub contents_loaded : (os : List Object) (k : Key) → AreOrdered os → contents_of (stacked os []) k ≡ contents_of os k
contents_loaded os k sorted = contents_stacked os [] k sorted ∙ either_none (contents_of os k)

-- ---- objects that may be loaded

pub new_still : (o : Object) (old new : World) → KeepsLoaded [] old new → IsNewObject old.knows o
    → IsNewObject new.knows o
new_still o old new kept is = record {
  absent = ap (λ (os : List Object). contents_of os o.key) kept.objects ∙ is.absent;
  low = subst (λ (n : ℕ). o.version < n) (sym kept.safe) is.low;
}

pub new_first : (d : MasterData) (o : Object) (os rest : List Object) → os ≡ o ∷ rest → AreNew d os → IsNewObject d o
new_first d o os rest is new = (subst (AreNew d) is new).each o (inl refl)

pub new_rest : (o : Object) (os rest : List Object) (old new : World) → os ≡ o ∷ rest → KeepsLoaded (o ∷ []) old new
    → AreNew old.knows os → AreNew new.knows rest
new_rest o os rest old new is kept before = record {
  ordered = ordered_rest o rest all.ordered;
  each = λ p m. record {
    absent = none p m;
    low = subst (λ (n : ℕ). p.version < n) (sym kept.safe) (all.each p (inr m)).low;
  };
}
  where
    all : AreNew old.knows (o ∷ rest)
    all = subst (AreNew old.knows) is before

    none : (p : Object) → IsAmong p rest → contents_of new.knows.origin.objects p.key ≡ None
    none p m =
        let other : key_eq p.key o.key ≡ false = key_other p.key o.key
        (λ same. keys_apart o p rest all.ordered m (sym same)) in
        let was : contents_of old.knows.origin.objects p.key ≡ None = (all.each p (inr m)).absent in
        let now : contents_of (o ∷ old.knows.origin.objects) p.key ≡ None = rw other was in
        ap (λ (os : List Object). contents_of os p.key) kept.objects ∙ now

-- a rebuilt list may be loaded
pub new_list : (c : Config) (r : Rebuilt) (d : MasterData) (os : List Object) → d ≡ restored_data c r.safe
    → os ≡ r.objects → AreNew d os
new_list c r d os made listed =
    subst (λ (e : MasterData). AreNew e os) (sym made) (subst (AreNew (restored_data c r.safe)) (sym listed) (record {
      ordered = r.ordered;
      each = λ o m. record {
        absent = refl;
        low = All-contains (λ (p : Object). p.version < r.safe) r.objects o r.below (among_place o r.objects m);
      };
    }))

-- ---- one object

-- a load that is refused changes nothing
pub load_same : (o : Object) (old new : World) (r : Refusal) → DeclinesLoad old.knows (entry.Object o) r new.knows
    → new.fleet ≡ old.fleet → new ≡ old
load_same o old new r h fleet = λ i. record { knows = h.0 i; fleet = fleet i }

pub load_not_nothing : (o : Object) (d e : MasterData) (r : Refusal) → DeclinesLoad d (entry.Object o) r e
    → r ≡ refusal.Nothing → ⊥
load_not_nothing o d e r h is = go (subst (λ (x : Refusal). DeclinesLoad d (entry.Object o) x e) is h)
  where
    tested : (big tablet full room : Bool) → (if big then Some refusal.TooBig else if tablet then Some refusal.NoTablet
        else if full then Some refusal.Full else if room then Some refusal.Rolling else None) ≡ Some refusal.Nothing → ⊥
    tested true tablet full room e = cc
    tested false true full room e = cc
    tested false false true room e = cc
    tested false false false true e = cc
    tested false false false false e = cc

    go : DeclinesLoad d (entry.Object o) refusal.Nothing e → ⊥
    go (same, inl test) = tested _ _ _ _ test
    go (same, inr memory) = let none = memory.1 in cc

-- the load of the object has to wait
waits_now : (o : Object) (old new : World) (r : Refusal) → DeclinesLoad old.knows (entry.Object o) r new.knows
    → r ≡ refusal.Rolling
    → HasToWait o old
waits_now o old new r (same, inl test) is = test ∙ ap (λ (x : Refusal). Some x) is
waits_now o old new r (same, inr memory) is = absurd (let other = sym memory.1 ∙ is in cc)

-- room was made for the object
abbrev pub HasRoom : Object → World → World → Type 0
HasRoom o old new = (rooms : ℕ) × HasRoomMade rooms o old new

pub room_kept : (o : Object) (old new : World) → HasRoom o old new → KeepsLoaded [] old new
room_kept o old new (rooms, made) = room_keeps rooms o old new made

pub one_loaded : (o : Object) (a b c : World) → HasRoom o a b → Loads b.knows o c.knows → c.fleet ≡ b.fleet
    → LoadsOne o a c
one_loaded o a b c (rooms, made) loads fleet = (rooms, b, made, loads, fleet)

pub one_declined : (o : Object) (a b c : World) (r : Refusal) → HasRoom o a b
    → DeclinesLoad b.knows (entry.Object o) r c.knows
    → c.fleet ≡ b.fleet → IsStuck (o ∷ []) a r c
one_declined o a b c r (rooms, made) declines fleet = (rooms, b, made, inl (declines, fleet))

-- what becomes of a load that has to wait
module _ (o : Object) (a b m c : World) (r : Refusal) (made : HasRoom o a b)
    (declines : DeclinesLoad b.knows (entry.Object o) r m.knows)
    (fleet : m.fleet ≡ b.fleet) (is : r ≡ refusal.Rolling) where
  pub more_room : IsRolled m c.knows.head.id c → HasRoom o a c
  more_room rolled =
      let again = subst (λ (w : World). IsRolled w c.knows.head.id c) (load_same o b m r declines fleet) rolled in
      (suc made.0, (b, made.1, waits_now o b m r declines is, again))

  pub no_room : (why : Refusal) → IsNotRolled m why c → IsStuck (o ∷ []) a why c × IsFinal why
  no_room why h =
      let again = subst (λ (w : World). IsNotRolled w why c) (load_same o b m r declines fleet) h in
      ((made.0, b, made.1, inr (waits_now o b m r declines is, again)), roll_final m c why h)

-- ---- a list

pub done_more : (done left rest os : List Object) (o : Object) → left ≡ o ∷ rest → done ++ left ≡ os
    → (done ++ o ∷ []) ++ rest ≡ os
done_more done left rest os o is whole =
    append_assoc done (o ∷ []) rest ∙ ap (λ (ps : List Object). done ++ ps) (sym is) ∙ whole

pub stops_in_list : (os done left rest : List Object) (o : Object) (a b c : World) (r : Refusal) → left ≡ o ∷ rest
    → done ++ left ≡ os
    → HasLoaded done a b → IsStuck (o ∷ []) b r c × IsFinal r → Stops os a r c
stops_in_list os done left rest o a b c r is whole before (stuck, final) = record {
  loaded = done;
  left = o ∷ rest;
  parts = sym whole ∙ ap (λ (ps : List Object). done ++ ps) is;
  mid = b;
  steps = before;
  cause = stuck;
  final = final;
}

module _ (os done left : List Object) (a b c : World) (past : left ≡ []) (whole : done ++ left ≡ os)
    (before : HasLoaded done a b) where
  all_done : done ≡ os
  all_done = sym (append-nil done) ∙ ap (λ (ps : List Object). done ++ ps) (sym past) ∙ whole

  loaded_whole : HasLoaded os a b
  loaded_whole = subst (λ (ps : List Object). HasLoaded ps a b) all_done before

  pub list_loaded : (result : Result (Unit {0}) Refusal) → IfOk result (λ _. PushesUntil b refusal.Nothing c)
      → OnOk result (LoadsAll os a c)
  list_loaded (Ok u) pushes = (b, loaded_whole, pushes)
  list_loaded (Err r) pushes = tt

  pub list_stopped : (result : Result (Unit {0}) Refusal) → IfErr result (λ r. PushesUntil b r c)
      → IfErr result (λ r. r ≡ refusal.Nothing → ⊥) → IfErr result (λ r. Stops os a r c)
  list_stopped (Ok u) until not_nothing = tt
  list_stopped (Err r) until not_nothing = record {
    loaded = os;
    left = [];
    parts = sym (append-nil os);
    mid = b;
    steps = loaded_whole;
    cause = until;
    final = push_final b c r until not_nothing;
  }
