-- Texts of objects: what is in them, what is at their front, and what one more object makes of them.
use Rattle.std.proofs.Common.{◌≡◌, ℕ, ◌+◌, ◌-◌, ◌<◌, ◌≤◌, List, [], ◌∷◌, ◌++◌, length, take, drop, refl, sym, ap}
use Rattle.std.proofs.Common.{Some, get_or, subst, ◌∙◌, arith}
use Rattle.std.specs.Prelude.{slice_get}
use Rattle.std.specs.List.{filter_map, flat_map, AllByRecursion}
use Rattle.std.proofs.lemmas.Grind.{flat_map-append}
use Rattle.std.proofs.lemmas.List.{length-append, map-append, append-nil, take_all, take_at, take_more}
use Rattle.std.proofs.lemmas.List.{take_rest, drop_at}
use Rattle.std.proofs.lemmas.Option.{same_Some}
use Rattle.entry.specs.declared.entry.Object.{Object}
use Rattle.entry.specs.declared.entry.Entry.{Entry}
use Rattle.entry.specs.declared.entry.Entry.TheVariants as entry
use Rattle.entry.specs.declared.view.EntryRef.{EntryRef}
use Rattle.entry.specs.declared.view.EntryRef.TheVariants as view
use Rattle.entry.specs.declared.view.ObjectRef.{ObjectRef}
use Rattle.entry.specs.Format.{spelling, IsEntry, IsObject}
use Rattle.entry.specs.View.{shown, shown_object}
use Rattle.entry.proofs.ListLemmas.{all_push, all_split}
use Rattle.entry.proofs.TextLemmas.{entries_in-text, spelling-some}
use Rattle.object_list.specs.Spelled.{as_object, objects_in, as_entries, text_of_objects, IsObjectText, but_last}
use Rattle.object_list.specs.Spelled.{IsObjectList}

-- ---- the objects of a text

valid_entries : (os : List Object) → AllByRecursion IsObject os → AllByRecursion IsEntry (as_entries os)
valid_entries [] each = tt
valid_entries (o ∷ os) each = (each.0, valid_entries os each.1)

objects_of_entries : (os : List Object) → filter_map as_object (as_entries os) ≡ os
objects_of_entries [] = refl
objects_of_entries (o ∷ os) = ap (λ (ps : List Object). o ∷ ps) (objects_of_entries os)

-- the objects in a text are those that it was made of
pub objects_are : (bytes : List ℕ) (os : List Object) → AllByRecursion IsObject os → bytes ≡ text_of_objects os
    → objects_in bytes ≡ os
objects_are bytes os each is =
    ap objects_in is
    ∙ ap (λ (es : List Entry). filter_map as_object es) (entries_in-text (as_entries os) (valid_entries os each))
    ∙ objects_of_entries os

pub IsObjectText-from : (bytes : List ℕ) (os : List Object) → AllByRecursion IsObject os → bytes ≡ text_of_objects os
    → IsObjectText bytes
IsObjectText-from bytes os each is =
    let are = sym (objects_are bytes os each is) in
    record {
      each = subst (λ (ps : List Object). AllByRecursion IsObject ps) are each;
      text = is ∙ ap (λ (ps : List Object). text_of_objects ps) are;
    }

-- ---- none

pub none_in : (bytes : List ℕ) → bytes ≡ [] → objects_in bytes ≡ []
none_in bytes none = objects_are bytes [] tt none

pub listed_none : (bytes : List ℕ) → bytes ≡ [] → IsObjectList bytes 0 0
listed_none bytes none =
    let are = sym (none_in bytes none) in
    record {
      spelled = IsObjectText-from bytes [] tt none;
      many = ap (λ (os : List Object). length os) are;
      place = ap (λ (os : List Object). length (text_of_objects (but_last os))) are;
    }

-- ---- one more

text_of-append : (os ps : List Object) → text_of_objects (os ++ ps) ≡ text_of_objects os ++ text_of_objects ps
text_of-append os ps =
    ap (λ (es : List Entry). flat_map spelling es) (map-append (λ (o : Object). entry.Object o) os ps)
    ∙ flat_map-append spelling (as_entries os) (as_entries ps)

but_last-push : (os : List Object) (o : Object) → but_last (os ++ o ∷ []) ≡ os
but_last-push os o =
    let long = length-append os (o ∷ []) in
    take_at os (o ∷ []) (length (os ++ o ∷ []) - 1) (omega (arith, long))

module _ (bytes new : List ℕ) (o : Object) (is : IsObjectText bytes) (valid : IsObject o)
    (longer : new ≡ bytes ++ spelling (entry.Object o)) where
  each_more : AllByRecursion IsObject (objects_in bytes ++ o ∷ [])
  each_more = all_push IsObject (objects_in bytes) o is.each valid

  text_more : new ≡ text_of_objects (objects_in bytes ++ o ∷ [])
  text_more =
      longer ∙ ap (λ (t : List ℕ). t ++ spelling (entry.Object o)) is.text
      ∙ ap (λ (t : List ℕ). text_of_objects (objects_in bytes) ++ t) (sym (append-nil (spelling (entry.Object o))))
      ∙ sym (text_of-append (objects_in bytes) (o ∷ []))

  -- behind what was there lies one more object
  pub objects_more : objects_in new ≡ objects_in bytes ++ o ∷ []
  objects_more = objects_are new (objects_in bytes ++ o ∷ []) each_more text_more

  pub listed_more : (count last at : ℕ) → IsObjectList bytes count last → at ≡ length bytes
      → IsObjectList new (count + 1) at
  listed_more count last at listed end =
      let many = listed.many in
      let long = length-append (objects_in bytes) (o ∷ []) in
      let counted : count + 1 ≡ length (objects_in bytes ++ o ∷ []) = omega (arith, many, long) in
      record {
        spelled = IsObjectText-from new (objects_in bytes ++ o ∷ []) each_more text_more;
        many = counted ∙ ap (λ (os : List Object). length os) (sym objects_more);
        place =
            end ∙ ap (λ (t : List ℕ). length t) is.text
            ∙ ap (λ (os : List Object). length (text_of_objects os))
            (sym (but_last-push (objects_in bytes) o) ∙ ap (λ (os : List Object). but_last os) (sym objects_more));
      }

-- there are no more objects than bytes
pub count_within : (bytes : List ℕ) (count last : ℕ) → IsObjectList bytes count last → count ≤ length bytes
count_within bytes count last listed =
    let many = listed.many in
    let long = ap (λ (t : List ℕ). length t) listed.spelled.text in
    omega (arith, many, long, within (objects_in bytes))
  where
    within : (os : List Object) → length os ≤ length (text_of_objects os)
    within [] = omega arith
    within (o ∷ os) =
        omega (
          arith,
          length-append (spelling (entry.Object o)) (text_of_objects os),
          within os,
          spelling-some (entry.Object o),
        )

-- ---- the front

-- an object is at the front, and the text of others behind it
pub record HasFirst (bytes : List ℕ) : Type 0 where
  pub object : Object
  pub others : List Object
  pub valid : IsObject object
  pub each : AllByRecursion IsObject others
  pub text : bytes ≡ spelling (entry.Object object) ++ text_of_objects others

pub first_of : (bytes : List ℕ) → 0 < length bytes → IsObjectText bytes → HasFirst bytes
first_of bytes some is = go (objects_in bytes) is.each is.text where
  go : (os : List Object) → AllByRecursion IsObject os → bytes ≡ text_of_objects os → HasFirst bytes
  go [] each text = let none = ap (λ (t : List ℕ). length t) text in absurd (omega (arith, some, none))
  go (o ∷ os) each text = record { object = o; others = os; valid = each.0; each = each.1; text = text }

module _ (bytes : List ℕ) (first : HasFirst bytes) (taken : ℕ)
    (is : taken ≡ length (spelling (entry.Object first.object))) where
  behind_first : drop taken bytes ≡ text_of_objects first.others
  behind_first =
      ap (λ (t : List ℕ). drop taken t) first.text
      ∙ drop_at (spelling (entry.Object first.object)) (text_of_objects first.others) taken (sym is)

  pub rest_text : IsObjectText (drop taken bytes)
  rest_text = IsObjectText-from (drop taken bytes) first.others first.each behind_first

  pub first_in : objects_in bytes ≡ first.object ∷ objects_in (drop taken bytes)
  first_in =
      objects_are bytes (first.object ∷ first.others) (first.valid, first.each) first.text
      ∙ ap (λ (os : List Object). first.object ∷ os)
      (sym (objects_are (drop taken bytes) first.others first.each behind_first))

  pub first_within : taken ≤ length bytes
  first_within =
      let long = ap (λ (t : List ℕ). length t) first.text in
      omega (arith, is, long, length-append (spelling (entry.Object first.object)) (text_of_objects first.others))

-- a borrowed entry that shows an object is a borrowed object
pub object_shown : (e : EntryRef) (o : Object) → shown e ≡ entry.Object o → (x : ObjectRef) × (e ≡ view.Object x)
object_shown (view.Header h) o is = absurd (cc)
object_shown (view.Digest d) o is = absurd (cc)
object_shown (view.Safe version) o is = absurd (cc)
object_shown (view.Object x) o is = (x, refl)
object_shown (view.Tombstone t) o is = absurd (cc)

pub shown_same : (e : EntryRef) (x : ObjectRef) (o : Object) → e ≡ view.Object x → shown e ≡ entry.Object o
    → o ≡ shown_object x
shown_same e x o at is =
    let same : Some o ≡ Some (shown_object x) = ap as_object (sym is ∙ ap (λ (d : EntryRef). shown d) at) in
    same_Some o (shown_object x) same

-- ---- the last

-- one object begins at the offset, and behind it is nothing
pub record HasLast (bytes : List ℕ) (last : ℕ) : Type 0 where
  pub front : List Object
  pub object : Object
  pub valid : IsObject object
  pub objects : objects_in bytes ≡ front ++ object ∷ []
  pub within : last ≤ length bytes
  pub behind : take (length bytes - last) (drop last bytes) ≡ text_of_objects (object ∷ [])

split_last : (os : List Object) → 0 < length os → (o : Object) × (os ≡ but_last os ++ o ∷ [])
split_last [] some = absurd (omega arith)
split_last (o ∷ os) some =
    let xs = o ∷ os in (
      get_or xs (length xs - 1) o,
      sym (take_all (length xs - 1 + 1) xs (omega arith)) ∙ take_more xs (length xs - 1) o (omega arith),
    )

pub last_of : (bytes : List ℕ) (count last : ℕ) → IsObjectList bytes count last → 0 < count → HasLast bytes last
last_of bytes count last listed some =
    let os = objects_in bytes in
    let many = listed.many in
    let split = split_last os (omega (arith, some, many)) in
    let each = subst (λ (ps : List Object). AllByRecursion IsObject ps) split.1 listed.spelled.each in
    let text : bytes ≡ text_of_objects (but_last os) ++ text_of_objects (split.0 ∷ []) =
    listed.spelled.text ∙ ap (λ (ps : List Object). text_of_objects ps) split.1
    ∙ text_of-append (but_last os) (split.0 ∷ []) in
    let long = ap (λ (t : List ℕ). length t) text in
    let place = listed.place in
    record {
      front = but_last os;
      object = split.0;
      valid = (all_split IsObject (but_last os) (split.0 ∷ []) each).1.0;
      objects = split.1;
      within =
          omega (
            arith,
            place,
            long,
            length-append (text_of_objects (but_last os)) (text_of_objects (split.0 ∷ [])),
          );
      behind =
          take_rest bytes last ∙ ap (λ (t : List ℕ). drop last t) text
          ∙ drop_at (text_of_objects (but_last os)) (text_of_objects (split.0 ∷ [])) last (sym place);
    }

module _ (bytes : List ℕ) (last : ℕ) (ends : HasLast bytes last) where
  pub last_some : 0 < length (take (length bytes - last) (drop last bytes))
  last_some =
      let long = ap (λ (t : List ℕ). length t) ends.behind in
      omega (
        arith,
        long,
        length-append (spelling (entry.Object ends.object)) [],
        spelling-some (entry.Object ends.object),
      )

  pub last_text : IsObjectText (take (length bytes - last) (drop last bytes))
  last_text =
      IsObjectText-from (take (length bytes - last) (drop last bytes)) (ends.object ∷ []) (ends.valid, tt) ends.behind

  pub last_read : (o : Object) (rest : List Object)
      → objects_in (take (length bytes - last) (drop last bytes)) ≡ o ∷ rest → objects_in bytes ≡ ends.front ++ o ∷ []
  last_read o rest is =
      let only =
      objects_are (take (length bytes - last) (drop last bytes)) (ends.object ∷ []) (ends.valid, tt) ends.behind in
      let same : ends.object ≡ o =
      same_Some ends.object o (ap (λ (os : List Object). slice_get os 0) (sym only ∙ is)) in
      ends.objects ∙ ap (λ (p : Object). ends.front ++ p ∷ []) same
