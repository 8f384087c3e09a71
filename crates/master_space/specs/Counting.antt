-- What the steps of a pass make of the tallies.
use Rattle.std.specs.Prelude.{◌≡◌, ◌⊎◌, ℕ, List, get_or}
use Rattle.cleaner.specs.declared.pass.Copied.{Copied}
use Rattle.cleaner.specs.declared.pass.Copied.TheVariants.{Moved, Carried, Dropped}
use Rattle.cleaner.specs.declared.pass.Pass.{Pass}
use Rattle.entry.specs.Bag.{IsAmong}
use Rattle.tally.specs.declared.tallies.Tally.{Tally}
use Rattle.tally.specs.Rows.{more, less, of_nothing, IsChangedAt}

-- the victim in which the next entry of a pass lies
abbrev pub next_victim : Pass → ℕ
next_victim p = get_or p.victims p.cursor.victim 0

-- What became of an entry of so many bytes of a victim is counted. An object that was moved lives in the survivor, and
-- no longer in the victim. A tombstone that was carried is kept in the survivor, too.
abbrev pub IsCopyCounted : Copied → ℕ → ℕ → ℕ → List Tally → List Tally → Type 0
IsCopyCounted Moved victim survivor len old new =
    (mid : List Tally) × IsChangedAt victim (less len) old mid × IsChangedAt survivor (more len 0) mid new
IsCopyCounted Carried victim survivor len old new = IsChangedAt survivor (more 0 len) old new
IsCopyCounted Dropped victim survivor len old new = new ≡ old

-- Each tally is an old one, or that of a segment among these, which has neither objects nor tombstones.
abbrev pub WithBegun : List ℕ → List Tally → List Tally → Type 0
WithBegun ids old new = (row : Tally) → IsAmong row new
    → IsAmong row old ⊎ ((s : ℕ) × IsAmong s ids × (row ≡ of_nothing s))
