-- What commands do to a map whose objects are a list.
use Rattle.std.proofs.Common.{◌≡◌, ℕ, ◌+◌, max, true, List, [], ◌∷◌, ◌++◌, get_or, set, Some, None, refl, sym, ap, ◌∙◌}
use Rattle.std.specs.List.{remove}
use Rattle.entry.specs.declared.key.Key.{Key}
use Rattle.entry.specs.declared.entry.Object.{Object}
use Rattle.entry.specs.Meaning.{versioned, contents_of}
use Rattle.versioned_map.specs.declared.command.If.{If}
use Rattle.versioned_map.specs.declared.command.If.TheVariants.{Any, Absent, Version}
use Rattle.versioned_map.specs.declared.command.Command.TheVariants.{Put, Delete}
use Rattle.versioned_map.specs.Versioned.{is_met, after_command}
use Rattle.versioned_map.specs.Map.{AreOfDifferentKeys, IsAtSlot, map_state}
use Rattle.versioned_map.proofs.ObjectLists.{contents_of-slot, contents_of-push, contents_of-set, contents_of-remove}

pub slot_has : (os : List Object) (k : Key) (i : ℕ) (o : Object) → AreOfDifferentKeys os → IsAtSlot os k i
    → o ≡ get_or os i o
    → contents_of os k ≡ Some (versioned o)
slot_has os k i o all at is =
    let key : (get_or os i o).key ≡ k = at.of_key o in
    sym (ap (contents_of os) key) ∙ contents_of-slot os i o all at.within
    ∙ ap (λ (p : Object). Some (versioned p)) (sym is)

-- a put is done on an absent key but for a condition on its version
pub absent_is_met : (when : If) → ((w : ℕ) → when ≡ Version w → ⊥) → is_met when None ≡ true
absent_is_met Any other = refl
absent_is_met Absent other = refl
absent_is_met (Version w) other = absurd (other w refl)

-- ---- states

-- a put of an absent key
pub map_state-push : (os : List Object) (safe : ℕ) (k : Key) (value : List ℕ) (when : If) (o : Object)
    → contents_of os k ≡ None
    → is_met when None ≡ true
    → o.key ≡ k → o.version ≡ safe → o.value ≡ value
    → map_state (record { objects = os ++ o ∷ []; safe = o.version + 1 })
    ≡ after_command (map_state (record { objects = os; safe = safe })) (Put k value when)
map_state-push os safe k value when o absent met key version same =
    let none : contents_of os o.key ≡ None = ap (contents_of os) key ∙ absent in
    rw (absent, met, ← version, ← key, ← same) (λ i. record {
      contents = λ q. contents_of-push os o none q i;
      safe = o.version + 1;
    })

-- a put in a slot
pub map_state-set : (os : List Object) (safe : ℕ) (k : Key) (value : List ℕ) (when : If) (i : ℕ) (o p : Object)
    → AreOfDifferentKeys os
    → IsAtSlot os k i → o ≡ get_or os i o
    → is_met when (Some (versioned o)) ≡ true → p.key ≡ k → p.version ≡ o.version + 1 → p.value ≡ value
    → map_state (record { objects = set os i p; safe = safe })
    ≡ after_command (map_state (record { objects = os; safe = safe })) (Put k value when)
map_state-set os safe k value when i o p all at is met key next same =
    let has = slot_has os k i o all at is in
    rw (has, met, ← next, ← key, ← same) (λ j. record {
      contents = λ q. contents_of-set os i o p all at.within
          (at.of_key o ∙ sym key) q j;
      safe = safe;
    })

-- the end of the object of a slot
pub map_state-remove : (os : List Object) (safe : ℕ) (k : Key) (i : ℕ) (o : Object) → AreOfDifferentKeys os
    → IsAtSlot os k i → o ≡ get_or os i o
    → map_state (record { objects = remove os i; safe = max safe (o.version + 1) })
    ≡ after_command (map_state (record { objects = os; safe = safe })) (Delete k)
map_state-remove os safe k i o all at is =
    let has = slot_has os k i o all at is in
    rw has (λ j. record {
      contents = λ q. contents_of-remove os i o k all at.within (at.of_key o) q j;
      safe = max safe (o.version + 1);
    })
