-- Places that have all moved to other places at which the same keys stand.
use Rattle.std.proofs.Common.{◌≡◌, Bool, true, false, List, [], ◌∷◌, refl, sym, ap, subst, ◌∙◌, if◌then◌else◌, ℕ}
use Rattle.std.specs.Prelude.{Option, Some}
use Rattle.std.specs.List.{AllByRecursion}
use Rattle.std.specs.Option.{option_map, option_map_or}
use Rattle.std.proofs.lemmas.Option.{same_Some}
use Rattle.entry.specs.declared.key.Key.{Key}
use Rattle.entry.specs.Order.{key_eq}
use Rattle.places.specs.declared.place.Place.{Place}
use Rattle.places.specs.declared.place.Held.{Held}
use Rattle.places.proofs.Finding.{found_here, found_later}
use Rattle.places.specs.Lists.{tells, found_in, IsTold, AreApart, AreKeptIn}
use Rattle.places.proofs.Listed.{goes_all_in, AllHeld}

if_mapped : (f : Place → Place) (t : Bool) (p : Place) (o : Option Place)
    → (if t then Some (f p) else option_map f o) ≡ option_map f (if t then Some p else o)
if_mapped f true p o = refl
if_mapped f false p o = refl

module _ (goes : Place → Place) (keys again : Place → Option Key) where
  -- the same key stands where the place has gone
  abbrev pub IsToldThere : Place → Type 0
  IsToldThere p = again (goes p) ≡ keys p

  pub found_gone : (hs : List Held) → AllHeld IsToldThere hs → (q : Key)
      → found_in again q (goes_all_in goes hs) ≡ option_map goes (found_in keys q hs)
  found_gone [] seen q = refl
  found_gone (h ∷ hs) seen q =
      ap (λ (o : Option Key). if option_map_or (key_eq q) o false then Some (goes h.place)
      else found_in again q (goes_all_in goes hs)) seen.0
      ∙ ap (λ (f : Option Place). if tells keys q h.place then Some (goes h.place) else f) (found_gone hs seen.1 q)
      ∙ if_mapped goes (tells keys q h.place) h.place (found_in keys q hs)

  told_gone : (hash_of : Key → ℕ) (hs : List Held) → AllHeld IsToldThere hs → AllByRecursion (IsTold hash_of keys) hs
      → AllByRecursion (IsTold hash_of again) (goes_all_in goes hs)
  told_gone hash_of [] seen told = tt
  told_gone hash_of (h ∷ hs) seen told =
      ((told.0.0, seen.0 ∙ told.0.1, told.0.2), told_gone hash_of hs seen.1 told.1)

  apart_gone : (hs : List Held) → AllHeld IsToldThere hs → AreApart keys hs → AreApart again (goes_all_in goes hs)
  apart_gone [] seen apart = tt
  apart_gone (h ∷ hs) seen apart = (
    λ q is. found_gone hs seen.1 q ∙ ap (λ (o : Option Place). option_map goes o) (apart.0 q (sym seen.0 ∙ is)),
    apart_gone hs seen.1 apart.1,
  )

  pub kept_gone : {hash_of : Key → ℕ} → (hs : List Held) → AllHeld IsToldThere hs → AreKeptIn hash_of keys hs
      → AreKeptIn hash_of again (goes_all_in goes hs)
  kept_gone hs seen all = record {
    told = told_gone _ hs seen all.told;
    apart = apart_gone hs seen all.apart;
  }

-- what holds of each place where it has gone
pub all_gone : (goes : Place → Place) (P : Place → Type 0) (hs : List Held)
    → AllHeld (λ (p : Place). P (goes p)) hs → AllHeld P (goes_all_in goes hs)
all_gone goes P [] all = tt
all_gone goes P (h ∷ hs) all = (all.0, all_gone goes P hs all.1)

-- what holds of each place holds where a key is found
pub found_holds : (keys : Place → Option Key) (P : Place → Type 0) (k : Key) (hs : List Held) (p : Place)
    → AllHeld P hs → found_in keys k hs ≡ Some p → P p
found_holds keys P k [] p all is = absurd (cc)
found_holds keys P k (h ∷ hs) p all is = go (tells keys k h.place) refl (found_holds keys P k hs p all.1)
  where
    go : (t : Bool) → tells keys k h.place ≡ t → (found_in keys k hs ≡ Some p → P p) → P p
    go true so rest = subst P (same_Some h.place p (sym (found_here keys k h hs so) ∙ is)) all.0
    go false isnt rest = rest (sym (found_later keys k h hs isnt) ∙ is)

-- what follows at each place from what holds there
pub all_then : (P Q : Place → Type 0) (hs : List Held) → ((p : Place) → P p → Q p) → AllHeld P hs → AllHeld Q hs
all_then P Q [] follows all = tt
all_then P Q (h ∷ hs) follows all = (follows h.place all.0, all_then P Q hs follows all.1)

pub all_both : (P Q : Place → Type 0) (hs : List Held) → AllHeld P hs → AllHeld Q hs
    → AllHeld (λ (p : Place). P p × Q p) hs
all_both P Q [] all also = tt
all_both P Q (h ∷ hs) all also = ((all.0, also.0), all_both P Q hs all.1 also.1)
