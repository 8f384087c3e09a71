-- The change that a command makes: its reply, the length of its unit, and the segment that its tombstone names.
use Rattle.std.proofs.Common.{◌≡◌, ℕ, ◌+◌, ◌<◌, List, [], ◌∷◌, ◌++◌, length, Bool, true, false, Option, Some, None}
use Rattle.std.proofs.Common.{if◌then◌else◌, refl, sym, ap, ◌∙◌}
use Rattle.std.proofs.Common.{arith, inl, inr}
use Rattle.std.specs.Prelude.{Result, Ok, Err, IfOk, IfErr}
use Rattle.std.proofs.lemmas.List.{length-append}
use Rattle.entry.specs.declared.key.Key.{Key}
use Rattle.entry.specs.declared.entry.Object.{Object}
use Rattle.entry.specs.declared.entry.Entry.{Entry}
use Rattle.entry.specs.declared.entry.Entry.TheVariants as entry
use Rattle.entry.specs.declared.entry.Tombstone.{Tombstone}
use Rattle.entry.specs.Bag.{IsAmong}
use Rattle.entry.specs.Meaning.{Versioned, version_of}
use Rattle.entry.specs.Format.{spelling}
use Rattle.entry.specs.Text.{text_of}
use Rattle.entry.proofs.SpellingLemmas.{length-object, length-tombstone}
use Rattle.master_commands.specs.declared.change.Change.{Change}
use Rattle.master_commands.specs.declared.change.Change.TheVariants as change
use Rattle.master_commands.specs.declared.change.VersionsSpent.{VersionsSpent}
use Rattle.versioned_map.specs.declared.command.If.{If}
use Rattle.versioned_map.specs.declared.command.Command.{Command}
use Rattle.versioned_map.specs.declared.command.Command.TheVariants.{Get, Put, Delete}
use Rattle.versioned_map.specs.declared.command.Reply.TheVariants as reply
use Rattle.versioned_map.specs.Versioned.{is_met, reply_given}
use Rattle.versioned_map.specs.Units.{object_entry, tombstone_entry, put_unit}
use Rattle.versioned_map.specs.Command.{command_key}
use Rattle.versioned_map.specs.Versioned.{is_spent}
use Rattle.master_commands.specs.Change.{unit_of_change, version_in, is_nothing, puts, IsChangeOf}
use Rattle.master_state.specs.Causes.{is_empty}

-- ---- lengths of units

length_one : (e : Entry) → length (text_of (e ∷ [])) ≡ length (spelling e)
length_one e = simp length-append (omega arith)

length_two : (d e : Entry) → length (text_of (d ∷ e ∷ [])) ≡ length (spelling d) + length (spelling e)
length_two d e = simp length-append (omega arith)

pub length_object_entry : (k : Key) (version : ℕ) (value : List ℕ)
    → length (text_of (object_entry k version value ∷ [])) ≡ 23 + length k.bytes + length value
length_object_entry k version value = length_one (object_entry k version value)
    ∙ length-object (record { key = k; version = version; value = value })

pub length_tombstone_entry : (k : Key) (version segment : ℕ)
    → length (text_of (tombstone_entry k version segment ∷ [])) ≡ 27 + length k.bytes
length_tombstone_entry k version segment =
    length_one (tombstone_entry k version segment) ∙ length-tombstone
    (record { key = k; version = version; segment = segment })

pub length_replacing : (k : Key) (dead version segment : ℕ) (value : List ℕ) →
    length (text_of (tombstone_entry k dead segment ∷ object_entry k version value ∷ []))
    ≡ 27 + length k.bytes + (23 + length k.bytes + length value)
length_replacing k dead version segment value =
    length_two (tombstone_entry k dead segment) (object_entry k version value)
    ∙ ap (λ n. n + length (spelling (object_entry k version value)))
    (length-tombstone (record { key = k; version = dead; segment = segment }))
    ∙ ap (λ n. 27 + length k.bytes + n) (length-object (record { key = k; version = version; value = value }))

-- the front of a unit that ends in an object
front_of_two : (k : Key) (dead segment : ℕ) (e : Entry) (front : List Entry) (o : Object)
    → tombstone_entry k dead segment ∷ e ∷ [] ≡ front ++ entry.Object o ∷ []
    → length (text_of front) ≡ 27 + length k.bytes
front_of_two k dead segment e [] o is = cc
front_of_two k dead segment e (t ∷ []) o is =
    let first : t ≡ tombstone_entry k dead segment = cc in
    rw first (length_tombstone_entry k dead segment)
front_of_two k dead segment e (t ∷ u ∷ []) o is = cc
front_of_two k dead segment e (t ∷ u ∷ v ∷ front) o is = cc

pub front_of_none : (front : List Entry) (e : Entry) → [] ≡ front ++ e ∷ [] → ⊥
front_of_none [] e is = cc
front_of_none (d ∷ front) e is = cc

pub front_of_replacing : (segment : ℕ) (command : Command) (dead version : ℕ) (front : List Entry) (o : Object)
    → unit_of_change segment command (change.Replace dead version) ≡ front ++ entry.Object o ∷ []
    → length (text_of front) ≡ 27 + length (command_key command).bytes
front_of_replacing segment (Get k) dead version front o is = absurd (front_of_none front (entry.Object o) is)
front_of_replacing segment (Put k value when) dead version front o is =
    front_of_two k dead segment (object_entry k version value) front o is
front_of_replacing segment (Delete k) dead version front o is = absurd (front_of_none front (entry.Object o) is)

-- the object of a unit begins before the unit ends
pub object_within : (segment : ℕ) (command : Command) (c : Change) (at : ℕ) → puts c ≡ true
    → is_empty (unit_of_change segment command c) ≡ false
    → ((front : List Entry) (o : Object) → unit_of_change segment command c ≡ front ++ entry.Object o ∷ []
    → at ≡ length (text_of front))
    → at < length (text_of (unit_of_change segment command c))
object_within segment command change.Nothing at of_put some begins = absurd (cc)
object_within segment command (change.Delete dead) at of_put some begins = absurd (cc)
object_within segment (Get k) (change.Create version) at of_put some begins = absurd (cc)
object_within segment (Get k) (change.Replace dead version) at of_put some begins = absurd (cc)
object_within segment (Delete k) (change.Create version) at of_put some begins = absurd (cc)
object_within segment (Delete k) (change.Replace dead version) at of_put some begins = absurd (cc)
object_within segment (Put k value when) (change.Create version) at of_put some begins =
    let o : Object = record { key = k; version = version; value = value } in
    let start : at ≡ 0 = begins [] o refl in
    let len = length_object_entry k version value in
    omega arith
object_within segment (Put k value when) (change.Replace dead version) at of_put some begins =
    let o : Object = record { key = k; version = version; value = value } in
    let start = begins (tombstone_entry k dead segment ∷ []) o refl in
    let front = length_tombstone_entry k dead segment in
    let len = length_replacing k dead version segment value in
    omega arith

-- a change that puts an object is one
pub put_is_some : (c : Change) → puts c ≡ true → is_nothing c ≡ false
put_is_some change.Nothing of_put = absurd (cc)
put_is_some (change.Create version) of_put = refl
put_is_some (change.Replace dead version) of_put = refl
put_is_some (change.Delete dead) of_put = refl

-- ---- the tombstone of a unit

abbrev named_in : Entry → ℕ
named_in (entry.Header h) = 0
named_in (entry.Digest l) = 0
named_in (entry.Safe version) = 0
named_in (entry.Object o) = 0
named_in (entry.Tombstone t) = t.segment

-- it names the segment of the dead object
pub unit_names : (dead : ℕ) (command : Command) (c : Change) (t : Tombstone)
    → IsAmong (entry.Tombstone t) (unit_of_change dead command c) → t.segment ≡ dead
unit_names dead (Get k) c t m = absurd m
unit_names dead (Put k value when) change.Nothing t m = absurd m
unit_names dead (Put k value when) (change.Create version) t (inl is) = absurd (cc)
unit_names dead (Put k value when) (change.Create version) t (inr m) = absurd m
unit_names dead (Put k value when) (change.Replace old version) t (inl is) = sym (ap named_in is)
unit_names dead (Put k value when) (change.Replace old version) t (inr (inl is)) = absurd (cc)
unit_names dead (Put k value when) (change.Replace old version) t (inr (inr m)) = absurd m
unit_names dead (Put k value when) (change.Delete old) t m = absurd m
unit_names dead (Delete k) change.Nothing t m = absurd m
unit_names dead (Delete k) (change.Create version) t m = absurd m
unit_names dead (Delete k) (change.Replace old version) t m = absurd m
unit_names dead (Delete k) (change.Delete old) t (inl is) = sym (ap named_in is)
unit_names dead (Delete k) (change.Delete old) t (inr m) = absurd m

-- ---- what a key has

absent : (P : Option Versioned → Type 0) → P None → (x : Option Versioned) → version_in x ≡ None → P x
absent P p None is = p
absent P p (Some x) is = absurd (cc)

present : (P : Option Versioned → Type 0) (dead : ℕ) → ((x : Versioned) → x.version ≡ dead → P (Some x))
    → (x : Option Versioned)
    → version_in x ≡ Some dead → P x
present P dead p None is = absurd (cc)
present P dead p (Some x) is = p x (cc)

pub create_done : (safe : ℕ) (k : Key) (value : List ℕ) (when : If) (r : Result Change VersionsSpent)
    → IfOk r (λ change. (k : Key) (value : List ℕ) → IsChangeOf safe None (Put k value when) change)
    → IfOk r (λ change. (x : Option Versioned) → version_in x ≡ None → IsChangeOf safe x (Put k value when) change)
create_done safe k value when (Ok c) done = absent (λ x. IsChangeOf safe x (Put k value when) c) (done k value)
create_done safe k value when (Err e) done = tt

pub create_spent : (safe : ℕ) (k : Key) (value : List ℕ) (when : If) (r : Result Change VersionsSpent)
    → IfErr r (λ _. (k : Key) (value : List ℕ) → is_spent safe None (Put k value when) ≡ true)
    → IfErr r (λ _. (x : Option Versioned) → version_in x ≡ None → is_spent safe x (Put k value when) ≡ true)
create_spent safe k value when (Ok c) spent = tt
create_spent safe k value when (Err e) spent = absent (λ x. is_spent safe x (Put k value when) ≡ true) (spent k value)

pub replace_done : (safe dead : ℕ) (k : Key) (value : List ℕ) (when : If) (r : Result Change VersionsSpent)
    → IfOk r (λ change. (safe : ℕ) (x : Versioned) (k : Key) (value : List ℕ) → x.version ≡ dead
    → IsChangeOf safe (Some x) (Put k value when) change)
    → IfOk r (λ change. (x : Option Versioned) → version_in x ≡ Some dead → IsChangeOf safe x (Put k value when) change)
replace_done safe dead k value when (Ok c) done = present (λ x. IsChangeOf safe x (Put k value when) c) dead
    (λ (x : Versioned). done safe x k value)
replace_done safe dead k value when (Err e) done = tt

pub replace_spent : (safe dead : ℕ) (k : Key) (value : List ℕ) (when : If) (r : Result Change VersionsSpent)
    → IfErr r (λ _. (safe : ℕ) (x : Versioned) (k : Key) (value : List ℕ) → x.version ≡ dead
    → is_spent safe (Some x) (Put k value when) ≡ true)
    → IfErr r (λ _. (x : Option Versioned) → version_in x ≡ Some dead → is_spent safe x (Put k value when) ≡ true)
replace_spent safe dead k value when (Ok c) spent = tt
replace_spent safe dead k value when (Err e) spent =
    present (λ x. is_spent safe x (Put k value when) ≡ true) dead (λ (x : Versioned). spent safe x k value)

-- ---- replies

pub unmet : (safe : ℕ) (x : Option Versioned) (k : Key) (value : List ℕ) (when : If)
    → IsChangeOf safe x (Put k value when) change.Nothing
    → is_met when x ≡ false
unmet safe None k value when c = go (is_met when None) (c.nothing 0) where
  go : (b : Bool) → true ≡ is_empty (if b then put_unit safe 0 k value None else []) → b ≡ false
  go true e = cc
  go false e = refl
unmet safe (Some x) k value when c = go (is_met when (Some x)) (c.nothing 0) where
  go : (b : Bool) → true ≡ is_empty (if b then put_unit safe 0 k value (Some x) else []) → b ≡ false
  go true e = cc
  go false e = refl

pub undeleted : (safe : ℕ) (x : Option Versioned) (k : Key) → IsChangeOf safe x (Delete k) change.Nothing → x ≡ None
undeleted safe None k c = refl
undeleted safe (Some x) k c = let e = c.nothing 0 in cc

pub not_deleted : (safe : ℕ) (x : Option Versioned) (k : Key) → IsChangeOf safe x (Delete k) change.Nothing
    → reply_given safe x (Delete k) ≡ reply.None
not_deleted safe x k c = rw (undeleted safe x k c) refl

pub not_put : (safe : ℕ) (x : Option Versioned) (k : Key) (value : List ℕ) (when : If)
    → IsChangeOf safe x (Put k value when) change.Nothing
    → reply_given safe x (Put k value when) ≡ reply.Mismatch (version_in x)
not_put safe x k value when c = rw (unmet safe x k value when c) refl

pub created : (safe : ℕ) (x : Option Versioned) (command : Command) (version : ℕ)
    → IsChangeOf safe x command (change.Create version)
    → reply_given safe x command ≡ reply.Ok version
created safe x (Get k) version c = let e = c.nothing 0 in cc
created safe None (Put k value when) version c = go (is_met when None) (c.unit 0) where
  go : (b : Bool) → object_entry k version value ∷ [] ≡ (if b then put_unit safe 0 k value None else [])
      → (if b then reply.Ok safe else reply.Mismatch None) ≡ reply.Ok version
  go true e = let same : object_entry k version value ≡ object_entry k safe value = cc in
      ap reply.Ok (sym (ap version_of same))
  go false e = cc
created safe (Some x) (Put k value when) version c = go (is_met when (Some x)) (c.unit 0) where
  go : (b : Bool) → object_entry k version value ∷ [] ≡ (if b then put_unit safe 0 k value (Some x) else [])
      → (if b then reply.Ok (x.version + 1) else reply.Mismatch (Some x.version)) ≡ reply.Ok version
  go true e = cc
  go false e = cc
created safe None (Delete k) version c = let e = c.nothing 0 in cc
created safe (Some x) (Delete k) version c = let e = c.unit 0 in cc

pub replaced : (safe : ℕ) (x : Option Versioned) (command : Command) (dead version : ℕ)
    → IsChangeOf safe x command (change.Replace dead version)
    → reply_given safe x command ≡ reply.Ok version
replaced safe x (Get k) dead version c = let e = c.nothing 0 in cc
replaced safe None (Put k value when) dead version c = go (is_met when None) (c.unit 0) where
  go : (b : Bool) → tombstone_entry k dead 0 ∷ object_entry k version value ∷ []
      ≡ (if b then put_unit safe 0 k value None else [])
      → (if b then reply.Ok safe else reply.Mismatch None) ≡ reply.Ok version
  go true e = cc
  go false e = cc
replaced safe (Some x) (Put k value when) dead version c = go (is_met when (Some x)) (c.unit 0) where
  go : (b : Bool) → tombstone_entry k dead 0 ∷ object_entry k version value ∷ []
      ≡ (if b then put_unit safe 0 k value (Some x) else [])
      → (if b then reply.Ok (x.version + 1) else reply.Mismatch (Some x.version)) ≡ reply.Ok version
  go true e = let same : object_entry k version value ≡ object_entry k (x.version + 1) value = cc in
      ap reply.Ok (sym (ap version_of same))
  go false e = cc
replaced safe None (Delete k) dead version c = let e = c.nothing 0 in cc
replaced safe (Some x) (Delete k) dead version c = let e = c.unit 0 in cc

-- no unit and some unit
pub clashes : {es : List Entry} → [] ≡ es → false ≡ is_empty es → ⊥
clashes is some = cc

pub deletes : (safe : ℕ) (x : Option Versioned) (command : Command) (dead : ℕ)
    → IsChangeOf safe x command (change.Delete dead)
    → reply_given safe x command ≡ reply.Ok dead
deletes safe x (Get k) dead c = let e = c.nothing 0 in cc
deletes safe x (Put k value when) dead c = absurd (clashes (c.unit 0) (c.nothing 0))
deletes safe None (Delete k) dead c = let e = c.nothing 0 in cc
deletes safe (Some x) (Delete k) dead c =
    let e = c.unit 0 in
    let same : tombstone_entry k dead 0 ≡ tombstone_entry k x.version 0 = cc in
    ap reply.Ok (sym (ap version_of same))
