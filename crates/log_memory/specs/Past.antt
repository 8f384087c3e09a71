-- The earlier heads of a log.
use Rattle.std.specs.Prelude.{◌≡◌, ℕ, ◌<◌, ◌==◌, List, length, map, if◌then◌else◌}
use Rattle.std.specs.List.Sorted.{IsStrictlySortedBy}
use Rattle.std.specs.Ordering.{nat_cmp}
use Rattle.entry.specs.Bag.{IsAmong}
use Rattle.log_bytes.specs.log_laws.Data.{FailData, front}
use Rattle.log_bytes.specs.log_laws.Durable.{TakenHead, heads_of, IsPast}
use Rattle.log_bytes.specs.log_laws.Log.{Texts}

-- the ids of heads, in order
abbrev pub past_ids : List TakenHead → List ℕ
past_ids past = map (λ (h : TakenHead). h.head.start.id) past

-- These are the heads before the one in force. They have the earlier units of the history, and as many backups as a
-- segment has replicas took each of these units. Their ids rise. The text of each is its segment's whole text.
pub record ArePast (d : FailData) (texts : Texts) (past : List TakenHead) : Type 0 where
  pub counted : IsPast d past
  pub rising : IsStrictlySortedBy nat_cmp (past_ids past)
  pub older : (h : TakenHead) → IsAmong h past → h.head.start.id < d.head.start.id
  pub text : (h : TakenHead) → IsAmong h past → texts.text h.head.start.id ≡ front h.head (length h.head.units)

-- the earlier heads once a roll has ended: the old head, if there was one, comes last
abbrev pub past_after : FailData → List TakenHead → List TakenHead
past_after d past = if d.head.start.id == 0 then past else heads_of past d
