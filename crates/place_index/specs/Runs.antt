-- A map from keys to places, and what calls do to it.
use Rattle.std.specs.Prelude.{◌≡◌, ℕ, ◌<◌, List, [], ◌∷◌, Option, Some, None, is_some, if◌then◌else◌}
use Rattle.std.specs.List.{AllByRecursion}
use Rattle.entry.specs.declared.key.Key.{Key}
use Rattle.entry.specs.Order.{key_eq}
use Rattle.places.specs.declared.place.Place.{Place}
use Rattle.places.specs.Map.{Places, found, AreKeptBy}
use Rattle.place_index.specs.declared.call.MapAnswer.{MapAnswer}
use Rattle.place_index.specs.declared.call.MapAnswer.TheVariants as said
use Rattle.place_index.specs.declared.call.MapCall.{MapCall}
use Rattle.place_index.specs.declared.call.MapCall.TheVariants as asked

-- a map gives each key its place, or none
abbrev pub MapValue : Type 0
MapValue = Key → Option Place

-- the map in which the key has this place, or none, and every other key the place that it had
abbrev pub given : Key → Option Place → MapValue → MapValue
given k x m q = if key_eq q k then x else m q

-- the map after a call
abbrev pub after : MapCall → MapValue → MapValue
after (asked.Get k) m = m
after (asked.Set k p) m = given k (Some p) m
after (asked.Remove k) m = given k None m
after (asked.MoveTo k p) m = given k (if is_some (m k) then Some p else None) m

-- the answer to a call
abbrev pub answer : MapCall → MapValue → MapAnswer
answer (asked.Get k) m = said.Found (m k)
answer (asked.Set k p) m = said.Set
answer (asked.Remove k) m = said.Found (m k)
answer (asked.MoveTo k p) m = said.Moved (is_some (m k))

-- ---- calls one after another

-- the answers to the calls
abbrev pub answers_to : List MapCall → MapValue → List MapAnswer
answers_to [] m = []
answers_to (c ∷ cs) m = answer c m ∷ answers_to cs (after c m)

-- the map after the calls
abbrev pub left_by : List MapCall → MapValue → MapValue
left_by [] m = m
left_by (c ∷ cs) m = left_by cs (after c m)

-- ---- conditions on the places of calls

-- if the call gives a key a place, then the key stands at this place
abbrev pub IsToldBy : (Place → Option Key) → MapCall → Type 0
IsToldBy keys (asked.Get k) = Unit {0}
IsToldBy keys (asked.Set k p) = keys p ≡ Some k
IsToldBy keys (asked.Remove k) = Unit {0}
IsToldBy keys (asked.MoveTo k p) = keys p ≡ Some k

abbrev pub AreTold : (Place → Option Key) → List MapCall → Type 0
AreTold keys calls = AllByRecursion (IsToldBy keys) calls

-- the offset of the call's place, if it has one, is below 8 MiB, the most bytes of an image
abbrev pub IsWithin : MapCall → Type 0
IsWithin (asked.Get k) = Unit {0}
IsWithin (asked.Set k p) = p.at < 8388608
IsWithin (asked.Remove k) = Unit {0}
IsWithin (asked.MoveTo k p) = p.at < 8388608

abbrev pub AreWithin : List MapCall → Type 0
AreWithin calls = AllByRecursion IsWithin calls

-- ---- calls of an index

-- The index carried out the call and gave this answer: its places are still a map, and this map is the one after the
-- call.
pub record Carries (hash : List ℕ → Key → ℕ) (keys : Place → Option Key) (old : Places) (c : MapCall) (new : Places)
    (a : MapAnswer) : Type 0 where
  pub kept : AreKeptBy hash keys new
  pub gives : a ≡ answer c (λ (k : Key). found keys k old)
  pub finds : (q : Key) → found keys q new ≡ after c (λ (k : Key). found keys k old) q
