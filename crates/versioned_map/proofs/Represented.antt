-- If a bag represents a state, then with a command's unit it represents the state after the command.
use Rattle.std.proofs.Common.{◌≡◌, ℕ, ◌+◌, ◌*◌, ◌<◌, ◌≤◌, inl, inr, max, Bool, true, false}
use Rattle.std.proofs.Common.{cond, zero, suc, take, List, [], ◌∷◌, ◌++◌, refl, sym}
use Rattle.std.proofs.Common.{subst, ◌∙◌, arith, append_assoc}
use Rattle.std.proofs.lemmas.List.{append-nil}
use Rattle.std.specs.Prelude.{◌↔◌, Option, Some, None}
use Rattle.entry.specs.declared.key.Key.{Key}
use Rattle.entry.specs.declared.entry.Entry.{Entry}
use Rattle.entry.specs.Meaning.{Versioned, Contents, IsOfKey, version_of, rank_of, IsMeaning, among, bound_of}
use Rattle.entry.proofs.BagLemmas.{among_push}
use Rattle.versioned_map.specs.declared.command.Command.{Command}
use Rattle.versioned_map.specs.declared.command.Command.TheVariants.{Get, Put, Delete}
use Rattle.versioned_map.specs.Versioned.{State, is_met, with_contents, after_command, after_put, after_delete, after}
use Rattle.versioned_map.specs.Units.{put_unit, delete_unit, object_entry, tombstone_entry}
use Rattle.versioned_map.specs.Represents.{Represents, unit_of, AreUnitsOf, joined, empty_state}
use Rattle.entry.proofs.KeyOrder.{key_eq_tells}
use Rattle.versioned_map.proofs.Keys.{at_key, at_other, at_twice}
use Rattle.versioned_map.proofs.Meanings.{clean_carried, meaning_carried}
use Rattle.versioned_map.proofs.Tops.{one_key, rank_bound, version_bound, Leaves, raised}
use Rattle.versioned_map.proofs.Tops.{raised_clean, object_leaves, tombstone_leaves}

pub bound-push : (bag : List Entry) (e : Entry) → bound_of (bag ++ e ∷ []) ≡ max (bound_of bag) (version_of e + 1)
bound-push [] e = omega arith
bound-push (f ∷ bag) e = let h = bound-push bag e in omega arith

pub bound_above : (e : Entry) (bag : List Entry) → among bag e → version_of e < bound_of bag
bound_above e [] h = absurd h
bound_above e (f ∷ bag) (inl p) =
    subst (λ (g : Entry). version_of g < max (version_of f + 1) (bound_of bag)) p (omega arith)
bound_above e (f ∷ bag) (inr m) = let h = bound_above e bag m in omega arith

pub nothing_yet : Represents 1 [] empty_state
nothing_yet = record {
  meaning = λ k x. (λ h. absurd (cc), λ top. absurd top.held);
  clean = λ o p a b at v. absurd a;
  below = λ k e none m at. absurd m;
  safe = omega arith;
}

-- ---- one entry above all others of its key

-- The safe version then is between the old one and the greater of it and the entry's own next. If the key is absent
-- then, the safe version is above all its versions.
record Grows (bag : List Entry) (st : State) (k : Key) (e : Entry) (x : Option Versioned) (safe : ℕ) : Type 0 where
  no_lower : st.safe ≤ safe
  own : x ≡ None → version_of e < safe
  others : (f : Entry) → among bag f → IsOfKey k f → x ≡ None → version_of f < safe
  small : safe ≤ max st.safe (version_of e + 1)

module _ (recorded : ℕ) (bag : List Entry) (st : State) (k : Key) (e : Entry) (x : Option Versioned) (safe : ℕ)
    (r : Represents recorded bag st)
    (leaves : Leaves k e x) (above : (f : Entry) → among bag f → IsOfKey k f → rank_of f < rank_of e)
    (grows : Grows bag st k e x safe) where
  below_more : (q : Key) (f : Entry) → with_contents st.contents k x q ≡ None → among (bag ++ e ∷ []) f → IsOfKey q f
      → version_of f < safe
  below_more q f gone m at = elim (key_eq_tells q k) as (λ _. version_of f < safe) [
    | inl t ↦ (let none : x ≡ None = sym (at_key st.contents k x q t.1) ∙ gone in
        elim (among_push f bag e m) as (λ _. version_of f < safe) [
          | inl l ↦ grows.others f l (subst (λ (z : Key). IsOfKey z f) t.1 at) none
          | inr p ↦ subst (λ (g : Entry). version_of g < safe) p (grows.own none)
        ])
    | inr t ↦ elim (among_push f bag e m) as (λ _. version_of f < safe) [
      | inl l ↦ (let h = r.below q f (sym (at_other st.contents k x q t.1) ∙ gone) l at in
          let le = grows.no_lower in omega arith)
      | inr p ↦ absurd (t.1 (one_key f k q (subst (λ (g : Entry). IsOfKey k g) p leaves.of_key) at))
    ]
  ]

  one_more : Represents recorded (bag ++ e ∷ []) (record { contents = with_contents st.contents k x; safe = safe })
  one_more = record {
    meaning = raised bag st.contents k e x leaves above r.meaning;
    clean = raised_clean bag st.contents k e x leaves above r.clean;
    below = below_more;
    safe = (let b = bound-push bag e in let s = r.safe in let g = grows.small in rw b (omega arith));
  }

module _ (recorded : ℕ) (bag : List Entry) (st : State) (k : Key) (r : Represents recorded bag st) where
  -- none of an absent key ranks as high as an object of the safe version
  absent_above : st.contents k ≡ None → (f : Entry) → among bag f → IsOfKey k f → rank_of f < 2 * st.safe
  absent_above none f m at = rank_bound f st.safe (r.below k f none m at)

  present_rank : (x : Versioned) → st.contents k ≡ Some x → (f : Entry) → among bag f → IsOfKey k f
      → rank_of f ≤ 2 * x.version
  present_rank x some f m at = ((r.meaning k x).0 some).highest f m at

  created : (value : List ℕ) → st.contents k ≡ None
      → Represents recorded (bag ++ object_entry k st.safe value ∷ []) (after_put st k value None)
  created value none =
      one_more recorded bag st k (object_entry k st.safe value) (Some (record { version = st.safe; value = value }))
      (st.safe + 1) r
      (object_leaves k st.safe value) (absent_above none)
      (record { no_lower = omega arith; own = λ h. absurd (cc); others = λ f m at h. absurd (cc); small = omega arith })

  ended : (x : Versioned) (segment : ℕ) → st.contents k ≡ Some x
      → Represents recorded (bag ++ tombstone_entry k x.version segment ∷ []) (after_delete st k (Some x))
  ended x segment some =
      one_more recorded bag st k (tombstone_entry k x.version segment) None (max st.safe (x.version + 1)) r
      (tombstone_leaves k x.version segment) (λ f m at. let le = present_rank x some f m at in omega arith)
      (record {
        no_lower = omega arith;
        own = λ h. omega arith;
        others = λ f m at h. let le = version_bound f x.version (present_rank x some f m at) in omega arith;
        small = omega arith;
      })

-- ---- a tombstone, and behind it a greater version

module _ (recorded : ℕ) (bag : List Entry) (st : State) (k : Key) (x : Versioned) (segment : ℕ) (value : List ℕ)
    (r : Represents recorded bag st)
    (some : st.contents k ≡ Some x) where
  abbrev dead : Entry
  dead = tombstone_entry k x.version segment

  abbrev fresh : Entry
  fresh = object_entry k (x.version + 1) value

  abbrev left : Option Versioned
  left = Some (record { version = x.version + 1; value = value })

  abbrev buried : List Entry
  buried = bag ++ dead ∷ []

  abbrev without : Contents
  without = with_contents st.contents k None

  without_represented : Represents recorded buried (after_delete st k (Some x))
  without_represented = ended recorded bag st k r x segment some

  fresh_above : (f : Entry) → among buried f → IsOfKey k f → rank_of f < 2 * (x.version + 1)
  fresh_above f m at = elim (among_push f bag dead m) as (λ _. rank_of f < 2 * (x.version + 1)) [
    | inl l ↦ (let le = present_rank recorded bag st k r x some f l at in omega arith)
    | inr p ↦ subst (λ (g : Entry). rank_of g < 2 * (x.version + 1)) p (omega arith)
  ]

  renewed_meaning : IsMeaning (among (buried ++ fresh ∷ [])) (with_contents st.contents k left)
  renewed_meaning =
      subst (λ (c : Contents). IsMeaning (among (buried ++ fresh ∷ [])) c) (at_twice st.contents k left None)
      (raised buried without k fresh left (object_leaves k (x.version + 1) value) fresh_above
      without_represented.meaning)

  renewed_below : (q : Key) (f : Entry) → with_contents st.contents k left q ≡ None → among (buried ++ fresh ∷ []) f
      → IsOfKey q f
      → version_of f < st.safe
  renewed_below q f gone m at = elim (key_eq_tells q k) as (λ _. version_of f < st.safe) [
    | inl t ↦ (let never : left ≡ None = sym (at_key st.contents k left q t.1) ∙ gone in absurd (cc))
    | inr t ↦ elim (among_push f buried fresh m) as (λ _. version_of f < st.safe) [
      | inl l ↦ elim (among_push f bag dead l) as (λ _. version_of f < st.safe) [
        | inl here ↦ r.below q f (sym (at_other st.contents k left q t.1) ∙ gone) here at
        | inr p ↦ absurd (t.1 (one_key f k q (subst (λ (g : Entry). IsOfKey k g) p refl) at))
      ]
      | inr p ↦ absurd (t.1 (one_key f k q (subst (λ (g : Entry). IsOfKey k g) p refl) at))
    ]
  ]

  renewed_all : Represents recorded (buried ++ fresh ∷ []) (after_put st k value (Some x))
  renewed_all = record {
    meaning = renewed_meaning;
    clean =
        raised_clean buried without k fresh left (object_leaves k (x.version + 1) value) fresh_above
        without_represented.clean;
    below = renewed_below;
    safe = (let a = bound-push buried fresh in let b = bound-push bag dead in let s = r.safe in omega arith);
  }

  renewed : Represents recorded (bag ++ dead ∷ fresh ∷ []) (after_put st k value (Some x))
  renewed =
      subst (λ (b : List Entry). Represents recorded b (after_put st k value (Some x)))
      (append_assoc bag (dead ∷ []) (fresh ∷ [])) renewed_all

-- ---- units

module _ (recorded : ℕ) (bag : List Entry) (st : State) (segment : ℕ) (r : Represents recorded bag st) where
  nothing_more : Represents recorded (bag ++ []) st
  nothing_more = subst (λ (b : List Entry). Represents recorded b st) (sym (append-nil bag)) r

  put_given : (k : Key) (value : List ℕ) (x : Option Versioned) → st.contents k ≡ x
      → Represents recorded (bag ++ put_unit st.safe segment k value x) (after_put st k value x)
  put_given k value None none = created recorded bag st k r value none
  put_given k value (Some x) some = renewed recorded bag st k x segment value r some

  delete_given : (k : Key) (x : Option Versioned) → st.contents k ≡ x
      → Represents recorded (bag ++ delete_unit segment k x) (after_delete st k x)
  delete_given k None none = nothing_more
  delete_given k (Some x) some = ended recorded bag st k r x segment some

  put_if : (k : Key) (value : List ℕ) (b : Bool) →
      Represents recorded (bag ++ cond b (put_unit st.safe segment k value (st.contents k)) [])
      (cond b (after_put st k value (st.contents k)) st)
  put_if k value true = put_given k value (st.contents k) refl
  put_if k value false = nothing_more

pub unit_added : (recorded : ℕ) (bag : List Entry) (st : State) (segment : ℕ) (command : Command)
    → Represents recorded bag st
    → Represents recorded (bag ++ unit_of st segment command) (after_command st command)
unit_added recorded bag st segment (Get k) r = nothing_more recorded bag st segment r
unit_added recorded bag st segment (Put k value when) r =
    put_if recorded bag st segment r k value (is_met when (st.contents k))
unit_added recorded bag st segment (Delete k) r = delete_given recorded bag st segment r k (st.contents k) refl

pub units_added : (recorded : ℕ) (bag : List Entry) (st : State) (commands : List Command) (units : List (List Entry))
    (count : ℕ)
    → Represents recorded bag st → AreUnitsOf st commands units
    → Represents recorded (bag ++ joined (take count units)) (after st (take count commands))
units_added recorded bag st commands units zero r are = nothing_more recorded bag st 0 r
units_added recorded bag st [] [] (suc count) r are = nothing_more recorded bag st 0 r
units_added recorded bag st [] (u ∷ us) (suc count) r are = absurd are
units_added recorded bag st (c ∷ cs) [] (suc count) r are = absurd are
units_added recorded bag st (c ∷ cs) (u ∷ us) (suc count) r are =
    let unit = are.0 in
    let one : Represents recorded (bag ++ u) (after_command st c) =
    subst (λ (v : List Entry). Represents recorded (bag ++ v) (after_command st c)) (sym unit.1)
    (unit_added recorded bag st unit.0 c r) in
    subst (λ (b : List Entry). Represents recorded b (after (after_command st c) (take count cs)))
    (append_assoc bag u (joined (take count us)))
    (units_added recorded (bag ++ u) (after_command st c) cs us count one are.1)

-- ---- members

pub bound_least : (bag : List Entry) (n : ℕ) → ((e : Entry) → among bag e → version_of e < n) → bound_of bag ≤ n
bound_least [] n all = omega arith
bound_least (e ∷ es) n all =
    let here = all e (inl refl) in let rest = bound_least es n (λ f m. all f (inr m)) in omega arith

module _ (recorded : ℕ) (bag other : List Entry) (st : State) (r : Represents recorded bag st)
    (same : (e : Entry) → among bag e ↔ among other e) where
  pub same_members : Represents recorded other st
  same_members = record {
    meaning = meaning_carried (among bag) (among other) st.contents same r.meaning;
    clean = clean_carried (among bag) (among other) same r.clean;
    below = λ k e none m at. r.below k e none ((same e).1 m) at;
    safe =
        (let s = r.safe in let le = bound_least bag (bound_of other) (λ e m. bound_above e other ((same e).0 m)) in
        omega arith);
  }
