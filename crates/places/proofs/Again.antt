-- Another resolver that gives the same key at each held place.
use Rattle.std.proofs.Common.{◌≡◌, false, List, [], ◌∷◌, refl, sym, ap, ◌∙◌, if◌then◌else◌, ℕ}
use Rattle.std.specs.Prelude.{Option, Some}
use Rattle.std.specs.List.{AllByRecursion}
use Rattle.std.specs.Option.{option_map_or}
use Rattle.entry.specs.declared.key.Key.{Key}
use Rattle.entry.specs.Order.{key_eq}
use Rattle.places.specs.declared.place.Place.{Place}
use Rattle.places.specs.declared.place.Held.{Held}
use Rattle.places.specs.Lists.{tells, found_in, IsTold, AreApart, AreKeptIn}

module _ (keys again : Place → Option Key) where
  pub found_again : (hs : List Held) → AllByRecursion (λ (h : Held). again h.place ≡ keys h.place) hs → (q : Key)
      → found_in again q hs ≡ found_in keys q hs
  found_again [] same q = refl
  found_again (h ∷ hs) same q =
      ap (λ (o : Option Key). if option_map_or (key_eq q) o false then Some h.place else found_in again q hs) same.0
      ∙ ap (λ (f : Option Place). if tells keys q h.place then Some h.place else f) (found_again hs same.1 q)

  told_again : (hash_of : Key → ℕ) (hs : List Held) → AllByRecursion (λ (h : Held). again h.place ≡ keys h.place) hs
      → AllByRecursion (IsTold hash_of keys) hs → AllByRecursion (IsTold hash_of again) hs
  told_again hash_of [] same told = tt
  told_again hash_of (h ∷ hs) same told = ((told.0.0, same.0 ∙ told.0.1, told.0.2), told_again hash_of hs same.1 told.1)

  apart_again : (hs : List Held) → AllByRecursion (λ (h : Held). again h.place ≡ keys h.place) hs → AreApart keys hs
      → AreApart again hs
  apart_again [] same apart = tt
  apart_again (h ∷ hs) same apart =
      (λ k is. found_again hs same.1 k ∙ apart.0 k (sym same.0 ∙ is), apart_again hs same.1 apart.1)

  pub kept_again : {hash_of : Key → ℕ} → (hs : List Held) → AreKeptIn hash_of keys hs
      → AllByRecursion (λ (h : Held). again h.place ≡ keys h.place) hs
      → AreKeptIn hash_of again hs
  kept_again hs all same = record { told = told_again _ hs same all.told; apart = apart_again hs same all.apart }
