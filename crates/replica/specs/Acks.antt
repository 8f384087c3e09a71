-- Which bytes of a segment a backup has answered Ok to.
use Rattle.std.specs.Prelude.{◌≡◌, ℕ, List, [], ◌∷◌, ◌++◌, if◌then◌else◌}
use Rattle.replica.specs.Op.{ActValue, Open, Extend, Close, Seal, Free}
use Rattle.entry.specs.Bag.{IsAmong}
use Rattle.replica.specs.Picture.{Ack, is_same_place}

-- the acked bytes after an ack of this act, if these were acked before it; Close and Free leave them as they are
abbrev pub bytes_after : ActValue → List ℕ → List ℕ
bytes_after (Open bytes) before = bytes
bytes_after (Extend at bytes) before = before ++ bytes
bytes_after Close before = before
bytes_after (Seal bytes) before = bytes
bytes_after Free before = before

-- the bytes that this backup answered Ok to, of this master's segment: those of the last Open or Seal, and of each
-- Extend after it
abbrev pub acked : List Ack → ℕ → ℕ → ℕ → List ℕ
acked [] b m s = []
acked (a ∷ before) b m s =
    if is_same_place a.backup a.op.master a.op.segment b m s then bytes_after a.op.act (acked before b m s)
    else acked before b m s

-- the newer list has all acks of the older one, behind those that came later
abbrev pub Grows : List Ack → List Ack → Type 0
Grows old new = (more : List Ack) × (new ≡ more ++ old)

-- at some time the backup had answered Ok to exactly these bytes
abbrev pub WasAcked : List Ack → ℕ → ℕ → ℕ → List ℕ → Type 0
WasAcked acks b m s bytes = (old : List Ack) × Grows old acks × (acked old b m s ≡ bytes)

-- the act makes a replica where there was none
abbrev pub IsPut : ActValue → Type 0
IsPut (Open bytes) = Unit {0}
IsPut (Extend at bytes) = ⊥
IsPut Close = ⊥
IsPut (Seal bytes) = Unit {0}
IsPut Free = ⊥

-- the backup answered Ok to an Open or a Seal of the segment
abbrev pub HasPut : List Ack → ℕ → ℕ → ℕ → Type 0
HasPut acks b m s = (act : ActValue) × IsPut act
    × IsAmong (record { backup = b; op = record { master = m; segment = s; act = act } }) acks
