-- A bag with one more loaded object represents the state with this object.
use Rattle.std.proofs.Common.{◌≡◌, ℕ, ◌<◌, inl, inr, List, [], ◌∷◌, ◌++◌, Some, refl, sym, subst, ◌∙◌, arith}
use Rattle.std.specs.Prelude.{Option, None}
use Rattle.entry.specs.declared.key.Key.{Key}
use Rattle.entry.specs.declared.entry.Object.{Object}
use Rattle.entry.specs.declared.entry.Entry.{Entry}
use Rattle.entry.specs.declared.entry.Entry.TheVariants as entry
use Rattle.entry.specs.Meaning.{Versioned, IsOfKey, version_of, rank_of, among, versioned}
use Rattle.entry.proofs.BagLemmas.{among_push}
use Rattle.versioned_map.specs.Represents.{Represents}
use Rattle.versioned_map.specs.Versioned.{State, with_contents}
use Rattle.entry.proofs.KeyOrder.{key_eq_tells}
use Rattle.versioned_map.proofs.Keys.{at_key, at_other}
use Rattle.versioned_map.proofs.Represented.{bound-push}
use Rattle.versioned_map.proofs.Tops.{one_key, raised, raised_clean, object_leaves}
use Rattle.log_laws.specs.Adopt.{with_loaded, LoadedIsRepresented}

module _ (recorded : ℕ) (bag : List Entry) (st : State) (o : Object) (r : Represents recorded bag st)
    (none : (f : Entry) → among bag f → IsOfKey o.key f → ⊥) (low : o.version < st.safe) where
  abbrev e : Entry
  e = entry.Object o

  abbrev x : Option Versioned
  x = Some (versioned o)

  above : (f : Entry) → among bag f → IsOfKey o.key f → rank_of f < rank_of e
  above f m at = absurd (none f m at)

  below_more : (q : Key) (f : Entry) → with_contents st.contents o.key x q ≡ None → among (bag ++ e ∷ []) f
      → IsOfKey q f → version_of f < st.safe
  below_more q f gone m at = elim (key_eq_tells q o.key) as (λ _. version_of f < st.safe) [
    | inl t ↦ (let never : x ≡ None = sym (at_key st.contents o.key x q t.1) ∙ gone in absurd (cc))
    | inr t ↦ elim (among_push f bag e m) as (λ _. version_of f < st.safe) [
      | inl l ↦ r.below q f (sym (at_other st.contents o.key x q t.1) ∙ gone) l at
      | inr p ↦ absurd (t.1 (one_key f o.key q (subst (λ (g : Entry). IsOfKey o.key g) p refl) at))
    ]
  ]

  all : Represents recorded (bag ++ e ∷ []) (with_loaded st o)
  all = record {
    meaning = raised bag st.contents o.key e x (object_leaves o.key o.version o.value) above r.meaning;
    clean = raised_clean bag st.contents o.key e x (object_leaves o.key o.version o.value) above r.clean;
    below = below_more;
    safe = (let b = bound-push bag e in let s = r.safe in rw b (omega arith));
  }

pub loaded_is_represented : LoadedIsRepresented
loaded_is_represented recorded bag st o r none low = all recorded bag st o r none low
