-- Keys beside their places.
use Rattle.std.specs.Prelude.{◌≡◌, ℕ, List, [], ◌∷◌, ◌++◌, true}
use Rattle.std.specs.Hash as fed
use Rattle.std.specs.Cmp.{IsEquivalence, on_equiv, nat_eq_equiv, and_equiv}
use Rattle.std.specs.Cmp.Lexicographic.{nat_list_eq_equiv}
use Rattle.std.proofs.lemmas.Bool.Decides.{Decides-eqb}
use Rattle.std.proofs.lemmas.Slice.Eq.{bytes_eq-Decides}
use Rattle.entry.specs.declared.key.Key.{Key}
use Rattle.entry.specs.Order.{key_eq}
use Rattle.entry.specs.View.{shown_key}
use Rattle.claims.specs.declared.placed.PlacedKey.{PlacedKey}

abbrev pub placed_key : PlacedKey → Key
placed_key k = shown_key k.key

-- being the same key is an equivalence
pub key_eq_equiv : IsEquivalence key_eq
key_eq_equiv = and_equiv (on_equiv (λ (k : Key). k.table) nat_eq_equiv)
    (on_equiv (λ (k : Key). k.bytes) nat_list_eq_equiv)

-- what a hasher is given of a key: its table, and then its bytes in one write
abbrev pub key_writes : Key → List (List ℕ)
key_writes k = fed.u64 k.table ++ k.bytes ∷ []

-- a hasher is given the same of equal keys
pub key_writes_alike : (a b : Key) → key_eq a b ≡ true → key_writes a ≡ key_writes b
key_writes_alike =
    (fed.and-Alike (fed.on_Alike (λ (k : Key). k.table) (fed.same_Alike fed.u64 Decides-eqb))
    (fed.on_Alike (λ (k : Key). k.bytes) (fed.same_Alike (λ bs. bs ∷ []) bytes_eq-Decides))).fed
