-- What a change does to an index, and to the objects that the index leads to.
use Rattle.std.proofs.Common.{◌≡◌, ℕ, ◌+◌, inl, inr, Bool, true, false, cond, List, [], ◌∷◌, ◌++◌, length, refl, sym}
use Rattle.std.proofs.Common.{ap, subst, ◌∙◌, append_assoc}
use Rattle.std.specs.Prelude.{Option, Some, None, if◌then◌else◌}
use Rattle.std.specs.List.{AllByRecursion}
use Rattle.std.proofs.lemmas.Option.{same_Some}
use Rattle.entry.specs.declared.key.Key.{Key}
use Rattle.entry.specs.declared.entry.Object.{Object}
use Rattle.entry.specs.declared.entry.Entry.{Entry}
use Rattle.entry.specs.declared.entry.Entry.TheVariants as entry
use Rattle.entry.specs.Format.{IsEntry}
use Rattle.entry.specs.Text.{text_of}
use Rattle.entry.specs.Meaning.{Versioned, Contents, version_of, object_at}
use Rattle.places.specs.declared.place.Place.{Place}
use Rattle.places.specs.Map.{Places, found, AreKept, IsSet}
use Rattle.places.specs.Relocation.{names}
use Rattle.places.proofs.Words.{set_finds, set_names}
use Rattle.master_state.specs.Index.{LiesFound}
use Rattle.versioned_map.specs.declared.command.Command.{Command}
use Rattle.versioned_map.specs.declared.command.Command.TheVariants.{Get, Put, Delete}
use Rattle.versioned_map.specs.declared.command.If.{If}
use Rattle.versioned_map.specs.Command.{command_key}
use Rattle.versioned_map.specs.Units.{object_entry, tombstone_entry, put_unit, safe_given, safe_after_put}
use Rattle.versioned_map.specs.Versioned.{State, is_met, put_version, with_contents, after_command, after_put}
use Rattle.versioned_map.specs.Versioned.{after_delete}
use Rattle.versioned_map.proofs.Keys.{key_eq-tells}
use Rattle.master_commands.specs.declared.change.Change.{Change}
use Rattle.master_commands.specs.declared.change.Change.TheVariants as change
use Rattle.master_commands.specs.Change.{unit_of_change, IsChangeOf}
use Rattle.master_state.specs.compactor.Places.{IsAtPlace, keys_in}
use Rattle.master_commands.specs.Index.{IsMoved}
use Rattle.master_commands.proofs.Changes.{unmet, undeleted, clashes}
use Rattle.master_state.proofs.Indexing.{Grow, Indexes, key_seen, kept_grown, found_grown, index_grown, index_set}

-- ---- the state after a command, by what it leaves its key

-- what the key has then
abbrev pub given : ℕ → Option Versioned → Command → Option Versioned
given safe x (Get k) = x
given safe x (Put k value when) = if is_met when x then Some
    (record { version = put_version safe x; value = value }) else x
given safe x (Delete k) = None

same_contents : (contents : Contents) (k : Key) (x : Option Versioned) → contents k ≡ x
    → contents ≡ with_contents contents k x
same_contents contents k x has = λ i q. at q i
  where
    at : (q : Key) → contents q ≡ with_contents contents k x q
    at q = elim (key_eq-tells q k) as (λ _. contents q ≡ with_contents contents k x q) [
      | inl t ↦ (let e = t.0 in rw e (ap contents t.1 ∙ has))
      | inr f ↦ (let e = f.0 in rw e refl)
    ]

abbrev with_key : State → Key → Option Versioned → ℕ → State
with_key st k x safe = record { contents = with_contents st.contents k x; safe = safe }

unchanged : (st : State) (k : Key) (x : Option Versioned) → st.contents k ≡ x → st ≡ with_key st k x st.safe
unchanged st k x has = λ i. record { contents = same_contents st.contents k x has i; safe = st.safe }

put_at : (st : State) (k : Key) (value : List ℕ) (x : Option Versioned) (b : Bool) → st.contents k ≡ x
    → cond b (after_put st k value x) st ≡ with_key st k (cond b
    (Some (record { version = put_version st.safe x; value = value })) x)
    (cond b (safe_after_put st.safe x) st.safe)
put_at st k value None true has = refl
put_at st k value (Some x) true has = refl
put_at st k value x false has = unchanged st k x has

delete_at : (st : State) (k : Key) (x : Option Versioned) → st.contents k ≡ x
    → after_delete st k x ≡ with_key st k None (safe_given st.safe x (Delete k))
delete_at st k None has = unchanged st k None has
delete_at st k (Some x) has = refl

pub command_at : (st : State) (c : Command)
    → after_command st c ≡ with_key st (command_key c) (given st.safe (st.contents (command_key c)) c)
    (safe_given st.safe (st.contents (command_key c)) c)
command_at st (Get k) = unchanged st k (st.contents k) refl
command_at st (Put k value when) = put_at st k value (st.contents k) (is_met when (st.contents k)) refl
command_at st (Delete k) = delete_at st k (st.contents k) refl

-- ---- what a change says of its key

abbrev now : ℕ → List ℕ → Option Versioned
now version value = Some (record { version = version; value = value })

kept_put : (safe : ℕ) (x : Option Versioned) (k : Key) (value : List ℕ) (when : If)
    → IsChangeOf safe x (Put k value when) change.Nothing
    → given safe x (Put k value when) ≡ x
kept_put safe x k value when c = rw (unmet safe x k value when c) refl

created_at : (safe : ℕ) (x : Option Versioned) (k : Key) (value : List ℕ) (when : If) (version : ℕ)
    → IsChangeOf safe x (Put k value when) (change.Create version)
    → (x ≡ None) × (given safe x (Put k value when) ≡ now version value)
created_at safe None k value when version c = (refl, go (is_met when None) (c.unit 0)) where
  go : (b : Bool) → object_entry k version value ∷ [] ≡ (if b then put_unit safe 0 k value None else [])
      → (if b then now (put_version safe None) value else None) ≡ now version value
  go true e = let same : object_entry k version value ≡ object_entry k safe value = cc in
      ap (λ (n : ℕ). now n value) (sym (ap version_of same))
  go false e = absurd (cc)
created_at safe (Some x) k value when version c = absurd (go (is_met when (Some x)) (c.unit 0)) where
  go : (b : Bool) → object_entry k version value ∷ [] ≡ (if b then put_unit safe 0 k value (Some x) else []) → ⊥
  go true e = cc
  go false e = cc

replaced_at : (safe : ℕ) (x : Option Versioned) (k : Key) (value : List ℕ) (when : If) (dead version : ℕ)
    → IsChangeOf safe x (Put k value when) (change.Replace dead version)
    → (x ≡ None → ⊥) × (given safe x (Put k value when) ≡ now version value)
replaced_at safe None k value when dead version c = absurd (go (is_met when None) (c.unit 0)) where
  go : (b : Bool) → tombstone_entry k dead 0 ∷ object_entry k version value ∷ []
      ≡ (if b then put_unit safe 0 k value None else []) → ⊥
  go true e = cc
  go false e = cc
replaced_at safe (Some x) k value when dead version c = (λ e. cc, go (is_met when (Some x)) (c.unit 0)) where
  go : (b : Bool) → tombstone_entry k dead 0 ∷ object_entry k version value ∷ []
      ≡ (if b then put_unit safe 0 k value (Some x) else [])
      → (if b then now (x.version + 1) value else Some x) ≡ now version value
  go true e =
      let same : object_entry k version value ≡ object_entry k (x.version + 1) value = cc in
      ap (λ (n : ℕ). now n value) (sym (ap version_of same))
  go false e = absurd (cc)

-- ---- where the key was found

-- a change of the key's object, as this resolver tells the keys
abbrev pub IsMovedBy : (Place → Option Key) → Places → Change → Key → Place → Places → Type 0
IsMovedBy keys old change.Nothing k p new = new ≡ old
IsMovedBy keys old (change.Create version) k p new = AreKept keys old → keys p ≡ Some k → IsSet keys old k (Some p) new
IsMovedBy keys old (change.Replace dead version) k p new = AreKept keys old → keys p ≡ Some k
    → IsSet keys old k (Some p) new
IsMovedBy keys old (change.Delete dead) k p new = AreKept keys old → IsSet keys old k None new

-- where the key was found, as the change has it
abbrev pub WasFound : (Place → Option Key) → Places → Change → Key → Place → Type 0
WasFound keys old change.Nothing k was = Unit {0}
WasFound keys old (change.Create version) k was = found keys k old ≡ None
WasFound keys old (change.Replace dead version) k was = found keys k old ≡ Some was
WasFound keys old (change.Delete dead) k was = found keys k old ≡ Some was

pub moved_by : (keys : Place → Option Key) (old : Places) (c : Change) (k : Key) (was p : Place) (new : Places)
    → IsMoved old c k was p new → WasFound keys old c k was → IsMovedBy keys old c k p new
moved_by keys old change.Nothing k was p new moved there = moved
moved_by keys old (change.Create version) k was p new moved there = λ all is. moved keys all there is
moved_by keys old (change.Replace dead version) k was p new moved there = λ all is. moved keys all there is
moved_by keys old (change.Delete dead) k was p new moved there = λ all. moved keys all there

-- what the index finds, by what the key has
pub absent_found : (images : ℕ → List Entry) (k : Key) (f : Option Place) (x : Option Versioned)
    → LiesFound images k f x → x ≡ None
    → f ≡ None
absent_found images k None x lies none = refl
absent_found images k (Some p) None lies none = absurd lies
absent_found images k (Some p) (Some v) lies none = absurd (cc)

present_found : (images : ℕ → List Entry) (k : Key) (f : Option Place) (x : Option Versioned) (was : Place)
    → LiesFound images k f x
    → (x ≡ None → ⊥) → ((p : Place) → f ≡ Some p → was ≡ p) → f ≡ Some was
present_found images k None None was lies some there = absurd (some refl)
present_found images k None (Some v) was lies some there = absurd lies
present_found images k (Some p) x was lies some there = ap (λ (q : Place). Some q) (sym (there p refl))

deleted_at : (safe : ℕ) (x : Option Versioned) (k : Key) (dead : ℕ)
    → IsChangeOf safe x (Delete k) (change.Delete dead) → x ≡ None → ⊥
deleted_at safe None k dead c none = let e = c.nothing 0 in cc
deleted_at safe (Some v) k dead c none = cc

module _ (images grown : ℕ → List Entry) (grow : Grow images grown) (each : (s : ℕ) → AllByRecursion IsEntry (grown s))
    (hs : Places) (contents : Contents) (index : Indexes images hs contents) where
  -- what was found before is found in the images that grew
  pub absent_grown : (k : Key) → contents k ≡ None → found (keys_in grown) k hs ≡ None
  absent_grown k none =
      found_grown images grown grow each hs contents index k
      ∙ absent_found images k (found (keys_in images) k hs) (contents k) (index.lies k) none

  present_grown : (k : Key) (was : Place) → (contents k ≡ None → ⊥)
      → ((p : Place) → found (keys_in images) k hs ≡ Some p → was ≡ p)
      → found (keys_in grown) k hs ≡ Some was
  present_grown k was some there =
      found_grown images grown grow each hs contents index k
      ∙ present_found images k (found (keys_in images) k hs) (contents k) was (index.lies k) some there

  pub was_found : (safe : ℕ) (command : Command) (c : Change) (was : Place)
      → IsChangeOf safe (contents (command_key command)) command c
      → ((p : Place) → found (keys_in images) (command_key command) hs ≡ Some p → was ≡ p)
      → WasFound (keys_in grown) hs c (command_key command) was
  was_found safe command change.Nothing was of there = tt
  was_found safe (Get k) (change.Create version) was of there = absurd (clashes refl (of.nothing 0))
  was_found safe (Get k) (change.Replace dead version) was of there = absurd (clashes refl (of.nothing 0))
  was_found safe (Get k) (change.Delete dead) was of there = absurd (clashes refl (of.nothing 0))
  was_found safe (Put k value when) (change.Create version) was of there =
      absent_grown k (created_at safe (contents k) k value when version of).0
  was_found safe (Put k value when) (change.Replace dead version) was of there =
      present_grown k was (replaced_at safe (contents k) k value when dead version of).0 there
  was_found safe (Put k value when) (change.Delete dead) was of there = absurd (clashes (of.unit 0) (of.nothing 0))
  was_found safe (Delete k) (change.Create version) was of there = absurd (clashes (of.unit 0) (of.nothing 0))
  was_found safe (Delete k) (change.Replace dead version) was of there = absurd (clashes (of.unit 0) (of.nothing 0))
  was_found safe (Delete k) (change.Delete dead) was of there =
      present_grown k was (deleted_at safe (contents k) k dead of) there

-- ---- an index

-- the new object of a change, if it makes one, begins at this offset
abbrev pub IsPut : List Entry → ℕ → Command → Change → ℕ → Type 0
IsPut image segment command c at = (front : List Entry) (o : Object)
    → unit_of_change segment command c ≡ front ++ entry.Object o ∷ [] → at ≡ length (text_of (image ++ front))

module _ (images grown : ℕ → List Entry) (grow : Grow images grown) (each : (s : ℕ) → AllByRecursion IsEntry (grown s))
    (p : Place) (segment : ℕ) (hs new : Places) (contents : Contents) (safe : ℕ)
    (index : Indexes images hs contents) where
  -- the image of the place's segment has this more
  abbrev Ends : List Entry → Type 0
  Ends more = grown p.segment ≡ images p.segment ++ more

  abbrev kept : AreKept (keys_in grown) hs
  kept = kept_grown images grown grow each hs contents index

  -- the index is as it was, and the key has what it had
  kept_index : (k : Key) (x : Option Versioned) → contents k ≡ x → new ≡ hs
      → Indexes grown new (with_contents contents k x)
  kept_index k x has same =
      subst (λ (c : Contents). Indexes grown new c) (same_contents contents k x has)
      (subst (λ (l : Places). Indexes grown l contents) (sym same)
      (index_grown images grown grow each hs contents index))

  pub put_stands : (front : List Entry) (o : Object) → p.at ≡ length (text_of (images p.segment ++ front))
      → Ends (front ++ entry.Object o ∷ []) → IsAtPlace grown p (entry.Object o)
  put_stands front o e ends = record {
    before = images p.segment ++ front;
    after = [];
    split = ends ∙ sym (append_assoc (images p.segment) front (entry.Object o ∷ []));
    offset = e;
  }

  -- the key's new object stands at the place
  pub set_index : (k : Key) (x : Versioned) → IsAtPlace grown p (object_at k x)
      → (AreKept (keys_in grown) hs → keys_in grown p ≡ Some k → IsSet (keys_in grown) hs k (Some p) new)
      → Indexes grown new (with_contents contents k (Some x))
  set_index k x stands set =
      index_set images grown grow each hs contents index new k (Some p) (Some x) stands
      (set kept (key_seen grown each p k x stands))

  removed_index : (k : Key) → (AreKept (keys_in grown) hs → IsSet (keys_in grown) hs k None new)
      → Indexes grown new (with_contents contents k None)
  removed_index k set = index_set images grown grow each hs contents index new k None None tt (set kept)

  pub goes_on : (command : Command) (c : Change) → IsChangeOf safe (contents (command_key command)) command c
      → IsPut (images p.segment) segment command c p.at → Ends (unit_of_change segment command c)
      → IsMovedBy (keys_in grown) hs c (command_key command) p new
      → Indexes grown new
      (with_contents contents (command_key command) (given safe (contents (command_key command)) command))
  goes_on (Get k) change.Nothing of is_put ends moved = kept_index k (contents k) refl moved
  goes_on (Get k) (change.Create version) of is_put ends moved = absurd (clashes refl (of.nothing 0))
  goes_on (Get k) (change.Replace dead version) of is_put ends moved = absurd (clashes refl (of.nothing 0))
  goes_on (Get k) (change.Delete dead) of is_put ends moved = absurd (clashes refl (of.nothing 0))
  goes_on (Put k value when) change.Nothing of is_put ends moved =
      kept_index k _ (sym (kept_put safe (contents k) k value when of)) moved
  goes_on (Put k value when) (change.Create version) of is_put ends moved =
      let at_key = created_at safe (contents k) k value when version of in
      let o : Object = record { key = k; version = version; value = value } in
      subst (λ (x : Option Versioned). Indexes grown new (with_contents contents k x)) (sym at_key.1)
      (set_index k (record { version = version; value = value }) (put_stands [] o (is_put [] o refl) ends) moved)
  goes_on (Put k value when) (change.Replace dead version) of is_put ends moved =
      let at_key = replaced_at safe (contents k) k value when dead version of in
      let o : Object = record { key = k; version = version; value = value } in
      let front = tombstone_entry k dead segment ∷ [] in
      subst (λ (x : Option Versioned). Indexes grown new (with_contents contents k x)) (sym at_key.1)
      (set_index k (record { version = version; value = value }) (put_stands front o (is_put front o refl) ends) moved)
  goes_on (Put k value when) (change.Delete dead) of is_put ends moved = absurd (clashes (of.unit 0) (of.nothing 0))
  goes_on (Delete k) change.Nothing of is_put ends moved = kept_index k None (undeleted safe (contents k) k of) moved
  goes_on (Delete k) (change.Create version) of is_put ends moved = absurd (clashes (of.unit 0) (of.nothing 0))
  goes_on (Delete k) (change.Replace dead version) of is_put ends moved = absurd (clashes (of.unit 0) (of.nothing 0))
  goes_on (Delete k) (change.Delete dead) of is_put ends moved = removed_index k moved

  -- ---- other places

  -- What is named and found elsewhere was named and found before, by hashes of the same seed.
  pub record KeepsOthers : Type 0 where
    pub seed : new.seed ≡ hs.seed
    pub named_on : (q : Key) (r : Place) → (r ≡ p → ⊥) → names new q r ≡ true → names hs q r ≡ true
    pub found_on : (q : Key) (r : Place) → (r ≡ p → ⊥) → found (keys_in grown) q new ≡ Some r
        → found (keys_in images) q hs ≡ Some r

  found_before : (q : Key) → found (keys_in grown) q hs ≡ found (keys_in images) q hs
  found_before q = found_grown images grown grow each hs contents index q

  as_before : new ≡ hs → KeepsOthers
  as_before same = record {
    seed = ap (λ (l : Places). l.seed) same;
    named_on = λ q r other is. subst (λ (l : Places). names l q r ≡ true) same is;
    found_on = λ q r other is. sym (found_before q) ∙ subst
        (λ (l : Places). found (keys_in grown) q l ≡ Some r) same is;
  }

  -- the index is set to nothing or to the place
  set_to : (k : Key) (x : Option Place) → ((r : Place) → x ≡ Some r → r ≡ p)
      → IsSet (keys_in grown) hs k x new → KeepsOthers
  set_to k x here set = record {
    seed = set.seed;
    named_on = λ q r other is. set_names (keys_in grown) hs new k x set kept q r is (λ own. other (here r own));
    found_on = λ q r other is. sym (found_before q) ∙ set_finds (keys_in grown) hs new k x set q r is
        (λ own. other (here r own));
  }

  pub put_at_place : (k : Key) (x : Versioned) → IsAtPlace grown p (object_at k x)
      → (AreKept (keys_in grown) hs → keys_in grown p ≡ Some k → IsSet (keys_in grown) hs k (Some p) new) → KeepsOthers
  put_at_place k x stands set = set_to k (Some p) (λ r is. sym (same_Some p r is))
      (set kept (key_seen grown each p k x stands))

  pub keeps_others : (command : Command) (c : Change) → IsChangeOf safe (contents (command_key command)) command c
      → IsPut (images p.segment) segment command c p.at → Ends (unit_of_change segment command c)
      → IsMovedBy (keys_in grown) hs c (command_key command) p new → KeepsOthers
  keeps_others (Get k) change.Nothing of is_put ends moved = as_before moved
  keeps_others (Get k) (change.Create version) of is_put ends moved = absurd (clashes refl (of.nothing 0))
  keeps_others (Get k) (change.Replace dead version) of is_put ends moved = absurd (clashes refl (of.nothing 0))
  keeps_others (Get k) (change.Delete dead) of is_put ends moved = absurd (clashes refl (of.nothing 0))
  keeps_others (Put k value when) change.Nothing of is_put ends moved = as_before moved
  keeps_others (Put k value when) (change.Create version) of is_put ends moved =
      let o : Object = record { key = k; version = version; value = value } in
      put_at_place k (record { version = version; value = value }) (put_stands [] o (is_put [] o refl) ends) moved
  keeps_others (Put k value when) (change.Replace dead version) of is_put ends moved =
      let o : Object = record { key = k; version = version; value = value } in
      let front = tombstone_entry k dead segment ∷ [] in
      put_at_place k (record { version = version; value = value }) (put_stands front o (is_put front o refl) ends) moved
  keeps_others (Put k value when) (change.Delete dead) of is_put ends moved =
      absurd (clashes (of.unit 0) (of.nothing 0))
  keeps_others (Delete k) change.Nothing of is_put ends moved = as_before moved
  keeps_others (Delete k) (change.Create version) of is_put ends moved = absurd (clashes (of.unit 0) (of.nothing 0))
  keeps_others (Delete k) (change.Replace dead version) of is_put ends moved =
      absurd (clashes (of.unit 0) (of.nothing 0))
  keeps_others (Delete k) (change.Delete dead) of is_put ends moved = set_to k None (λ r is. absurd (cc)) (moved kept)
