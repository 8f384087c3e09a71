-- The table and the waiting places as one map.
use Rattle.std.proofs.Common.{◌≡◌, true, false, List, ◌++◌, ap, ◌∙◌}
use Rattle.std.specs.Prelude.{Option, Some, None, Result, Ok, Err, OnOk, OnErr, is_ok, is_err}
use Rattle.std.specs.Option.{option_or}
use Rattle.entry.specs.declared.key.Key.{Key}
use Rattle.places.specs.declared.place.Place.{Place}
use Rattle.places.specs.declared.place.Held.{Held}
use Rattle.place_index.proofs.Joining.{found_append, found_right}
use Rattle.places.specs.Lists.{found_in}

pub on_ok : {T E : Type 0} {P : Type 0} (r : Result T E) → OnOk r P → is_ok r ≡ true → P
on_ok (Ok x) p so = p
on_ok (Err e) p so = absurd (cc)

pub on_err : {T E : Type 0} {P : Type 0} (r : Result T E) → OnErr r P → is_err r ≡ true → P
on_err (Ok x) p so = absurd (cc)
on_err (Err e) p so = p

pub on_not_err : {T E : Type 0} {P : Type 0} (r : Result T E) → OnOk r P → is_err r ≡ false → P
on_not_err (Ok x) p so = p
on_not_err (Err e) p so = absurd (cc)

module _ (keys : Place → Option Key) (k : Key) (table waiting : List Held) where
  pub found_table : (p : Place) → found_in keys k table ≡ Some p → found_in keys k (table ++ waiting) ≡ Some p
  found_table p is =
      found_append keys k table waiting
      ∙ ap (λ (o : Option Place). option_or o (found_in keys k waiting)) is

  pub found_waiting : found_in keys k table ≡ None → found_in keys k (table ++ waiting) ≡ found_in keys k waiting
  found_waiting none = found_right keys k table waiting none
