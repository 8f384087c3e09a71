-- Each entry of a command's unit is of the command's key.
use Rattle.std.proofs.Common.{◌≡◌, ℕ, inl, inr, Bool, true, false, cond, List, [], refl, subst}
use Rattle.std.specs.Prelude.{Option, Some, None}
use Rattle.entry.specs.declared.key.Key.{Key}
use Rattle.entry.specs.declared.entry.Entry.{Entry}
use Rattle.entry.specs.Meaning.{Versioned, IsOfKey, among}
use Rattle.versioned_map.specs.declared.command.Command.{Command}
use Rattle.versioned_map.specs.declared.command.Command.TheVariants.{Get, Put, Delete}
use Rattle.versioned_map.specs.Command.{command_key}
use Rattle.versioned_map.specs.Represents.{unit_of}
use Rattle.versioned_map.specs.Units.{put_unit, delete_unit}
use Rattle.versioned_map.specs.Versioned.{State, is_met}
use Rattle.versioned_map.proofs.Tops.{one_key}

same_key : (f e : Entry) (k q : Key) → f ≡ e → IsOfKey k f → IsOfKey q e → q ≡ k
same_key f e k q is own at = one_key e k q (subst (λ (g : Entry). IsOfKey k g) is own) at

module _ (e : Entry) (q : Key) (at : IsOfKey q e) where
  put_key : (safe segment : ℕ) (k : Key) (value : List ℕ) (x : Option Versioned)
      → among (put_unit safe segment k value x) e → q ≡ k
  put_key safe segment k value None (inl p) = same_key _ e k q p refl at
  put_key safe segment k value None (inr m) = absurd m
  put_key safe segment k value (Some x) (inl p) = same_key _ e k q p refl at
  put_key safe segment k value (Some x) (inr (inl p)) = same_key _ e k q p refl at
  put_key safe segment k value (Some x) (inr (inr m)) = absurd m

  delete_key : (segment : ℕ) (k : Key) (x : Option Versioned) → among (delete_unit segment k x) e → q ≡ k
  delete_key segment k None m = absurd m
  delete_key segment k (Some x) (inl p) = same_key _ e k q p refl at
  delete_key segment k (Some x) (inr m) = absurd m

  if_key : (k : Key) (met : Bool) (unit : List Entry) → (among unit e → q ≡ k) → among (cond met unit []) e → q ≡ k
  if_key k true unit own m = own m
  if_key k false unit own m = absurd m

  -- a unit's entries are of its command's key
  pub unit_key : (st : State) (segment : ℕ) (c : Command) → among (unit_of st segment c) e → q ≡ command_key c
  unit_key st segment (Get k) m = absurd m
  unit_key st segment (Put k value when) m =
      if_key k (is_met when (st.contents k)) _ (put_key st.safe segment k value (st.contents k)) m
  unit_key st segment (Delete k) m = delete_key segment k (st.contents k) m
