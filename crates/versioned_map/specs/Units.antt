-- The unit of a command: the entries that it appends to the log.
use Rattle.std.specs.Prelude.{ℕ, ◌+◌, max, List, [], ◌∷◌, Option, Some, None, if◌then◌else◌}
use Rattle.entry.specs.declared.key.Key.{Key}
use Rattle.entry.specs.declared.entry.Entry.{Entry}
use Rattle.entry.specs.declared.entry.Entry.TheVariants as entry
use Rattle.entry.specs.Meaning.{Versioned}
use Rattle.versioned_map.specs.declared.command.Command.{Command}
use Rattle.versioned_map.specs.declared.command.Command.TheVariants.{Get, Put, Delete}
use Rattle.versioned_map.specs.Versioned.{is_met}

abbrev pub object_entry : Key → ℕ → List ℕ → Entry
object_entry k version value = entry.Object (record { key = k; version = version; value = value })

abbrev pub tombstone_entry : Key → ℕ → ℕ → Entry
tombstone_entry k version segment = entry.Tombstone (record { key = k; version = version; segment = segment })

-- The unit of a put: the new object. If it replaces an object, then a tombstone of that object stands before it and
-- names the segment where that object lies.
abbrev pub put_unit : ℕ → ℕ → Key → List ℕ → Option Versioned → List Entry
put_unit safe segment k value None = object_entry k safe value ∷ []
put_unit safe segment k value (Some x) = tombstone_entry k x.version segment ∷ object_entry k (x.version + 1) value ∷ []

abbrev pub delete_unit : ℕ → Key → Option Versioned → List Entry
delete_unit segment k None = []
delete_unit segment k (Some x) = tombstone_entry k x.version segment ∷ []

-- the unit of a command, given the safe version, the segment of the key's object, and what the key has
abbrev pub unit_given : ℕ → ℕ → Option Versioned → Command → List Entry
unit_given safe segment x (Get k) = []
unit_given safe segment x (Put k value when) = if is_met when x then put_unit safe segment k value x else []
unit_given safe segment x (Delete k) = delete_unit segment k x

abbrev pub safe_after_put : ℕ → Option Versioned → ℕ
safe_after_put safe None = safe + 1
safe_after_put safe (Some x) = safe

abbrev pub safe_after_delete : ℕ → Option Versioned → ℕ
safe_after_delete safe None = safe
safe_after_delete safe (Some x) = max safe (x.version + 1)

-- the safe version after a command, given the safe version before it and what the key has
abbrev pub safe_given : ℕ → Option Versioned → Command → ℕ
safe_given safe x (Get k) = safe
safe_given safe x (Put k value when) = if is_met when x then safe_after_put safe x else safe
safe_given safe x (Delete k) = safe_after_delete safe x
