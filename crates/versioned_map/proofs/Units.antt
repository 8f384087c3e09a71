-- The entries of units, and the units and states of one more command.
use Rattle.std.proofs.Common.{◌≡◌, ℕ, Bool, true, false, cond, suc, List, [], ◌∷◌, ◌++◌, length, refl, sym, ap, subst}
use Rattle.std.specs.Prelude.{filter, Option, Some, None}
use Rattle.entry.specs.declared.key.Key.{Key}
use Rattle.entry.specs.declared.entry.Entry.{Entry}
use Rattle.entry.specs.declared.entry.Entry.TheVariants as entry
use Rattle.entry.specs.Text.{is_data, are_data}
use Rattle.entry.specs.Meaning.{Versioned}
use Rattle.versioned_map.specs.declared.command.Command.{Command}
use Rattle.versioned_map.specs.declared.command.Command.TheVariants.{Get, Put, Delete}
use Rattle.versioned_map.specs.declared.command.Reply.{Reply}
use Rattle.versioned_map.specs.Versioned.{State, is_met, after_command, after, reply_to, replies}
use Rattle.versioned_map.specs.Units.{put_unit, delete_unit}
use Rattle.versioned_map.specs.Represents.{unit_of, AreUnitsOf, joined}

-- ---- data

are_data-append : (xs ys : List Entry) → are_data xs ≡ true → are_data ys ≡ true → are_data (xs ++ ys) ≡ true
are_data-append [] ys a b = b
are_data-append (entry.Header h ∷ xs) ys a b = absurd (cc)
are_data-append (entry.Digest ids ∷ xs) ys a b = absurd (cc)
are_data-append (entry.Safe version ∷ xs) ys a b = absurd (cc)
are_data-append (entry.Object o ∷ xs) ys a b = are_data-append xs ys a b
are_data-append (entry.Tombstone t ∷ xs) ys a b = are_data-append xs ys a b

filter_data : (es : List Entry) → are_data es ≡ true → filter is_data es ≡ es
filter_data [] a = refl
filter_data (entry.Header h ∷ es) a = absurd (cc)
filter_data (entry.Digest ids ∷ es) a = absurd (cc)
filter_data (entry.Safe version ∷ es) a = absurd (cc)
filter_data (entry.Object o ∷ es) a = ap (λ (fs : List Entry). entry.Object o ∷ fs) (filter_data es a)
filter_data (entry.Tombstone t ∷ es) a = ap (λ (fs : List Entry). entry.Tombstone t ∷ fs) (filter_data es a)

put_data : (safe segment : ℕ) (k : Key) (value : List ℕ) (x : Option Versioned)
    → are_data (put_unit safe segment k value x) ≡ true
put_data safe segment k value None = refl
put_data safe segment k value (Some x) = refl

delete_data : (segment : ℕ) (k : Key) (x : Option Versioned) → are_data (delete_unit segment k x) ≡ true
delete_data segment k None = refl
delete_data segment k (Some x) = refl

if_data : (met : Bool) (unit : List Entry) → are_data unit ≡ true → are_data (cond met unit []) ≡ true
if_data true unit a = a
if_data false unit a = refl

unit_data : (st : State) (segment : ℕ) (command : Command) → are_data (unit_of st segment command) ≡ true
unit_data st segment (Get k) = refl
unit_data st segment (Put k value when) =
    if_data (is_met when (st.contents k)) _ (put_data st.safe segment k value (st.contents k))
unit_data st segment (Delete k) = delete_data segment k (st.contents k)

joined_data : (st : State) (commands : List Command) (units : List (List Entry)) → AreUnitsOf st commands units
    → are_data (joined units) ≡ true
joined_data st [] [] are = refl
joined_data st [] (u ∷ us) are = absurd are
joined_data st (c ∷ cs) [] are = absurd are
joined_data st (c ∷ cs) (u ∷ us) are =
    let unit = are.0 in
    are_data-append u (joined us) (subst (λ (es : List Entry). are_data es ≡ true) (sym unit.1) (unit_data st unit.0 c))
    (joined_data (after_command st c) cs us are.1)

pub units_data : (st : State) (commands : List Command) (units : List (List Entry)) → AreUnitsOf st commands units
    → (are_data (joined units) ≡ true) × (filter is_data (joined units) ≡ joined units)
units_data st commands units are =
    let data_only = joined_data st commands units are in (data_only, filter_data (joined units) data_only)

-- ---- one more command

after-push : (st : State) (commands : List Command) (c : Command)
    → after st (commands ++ c ∷ []) ≡ after_command (after st commands) c
after-push st [] c = refl
after-push st (b ∷ bs) c = after-push (after_command st b) bs c

replies-push : (st : State) (commands : List Command) (c : Command)
    → replies st (commands ++ c ∷ []) ≡ replies st commands ++ reply_to (after st commands) c ∷ []
replies-push st [] c = refl
replies-push st (b ∷ bs) c = ap (λ (rs : List Reply). reply_to st b ∷ rs) (replies-push (after_command st b) bs c)

pub states_pushed : (st : State) (commands : List Command) (c : Command)
    → (after st (commands ++ c ∷ []) ≡ after_command (after st commands) c)
    × (replies st (commands ++ c ∷ []) ≡ replies st commands ++ reply_to (after st commands) c ∷ [])
states_pushed st commands c = (after-push st commands c, replies-push st commands c)

pub units_pushed : (st : State) (commands : List Command) (units : List (List Entry)) (segment : ℕ) (command : Command)
    → AreUnitsOf st commands units
    → AreUnitsOf st (commands ++ command ∷ []) (units ++ unit_of (after st commands) segment command ∷ [])
units_pushed st [] [] segment command are = ((segment, refl), tt)
units_pushed st [] (u ∷ us) segment command are = absurd are
units_pushed st (c ∷ cs) [] segment command are = absurd are
units_pushed st (c ∷ cs) (u ∷ us) segment command are =
    (are.0, units_pushed (after_command st c) cs us segment command are.1)

-- there are as many units as commands
pub length-units : (st : State) (commands : List Command) (units : List (List Entry)) → AreUnitsOf st commands units
    → length units ≡ length commands
length-units st [] [] are = refl
length-units st [] (u ∷ us) are = absurd are
length-units st (c ∷ cs) [] are = absurd are
length-units st (c ∷ cs) (u ∷ us) are = ap suc (length-units (after_command st c) cs us are.1)
