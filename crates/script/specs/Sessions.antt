-- What a session stands for, and what its lines do to it.
use Rattle.std.specs.Prelude.{◌≡◌, ◌⊎◌, ◌<◌, ℕ, true, false, Some, IfSome, max}
use Rattle.backup.specs.State.{new_fleet}
use Rattle.command_line.specs.declared.settings.Options.{Options}
use Rattle.lines.specs.Grammar.{LineValue, Will, Recover, Clients, Format, Needs, Seglets}
use Rattle.replica.specs.Picture.{FleetState}
use Rattle.versioned_map.specs.declared.command.Command.{Command}
use Rattle.versioned_map.specs.declared.command.Reply.{Reply}
use Rattle.next_master.specs.master.log_head.Head.{is_open}
use Rattle.next_master.specs.master.master_state.declared.config.Config.{Config}
use Rattle.next_master.specs.master.master_state.declared.step.Refusal.TheVariants.{Nothing}
use Rattle.next_master.specs.master.master_state.Data.{MasterData, fresh_data, no_origin}
use Rattle.next_master.specs.master.Registry.{AreUnraisedAbove}
use Rattle.next_master.specs.master.World.{World}
use Rattle.next_master.specs.answers.declared.answer.Answer.{Answer}
use Rattle.next_master.specs.answers.declared.answer.Answer.TheVariants.{Counted, NumbersSpent}
use Rattle.next_master.specs.answers.declared.answer.Answer.TheVariants as answers
use Rattle.next_master.specs.cluster.declared.node.Node.{Node}
use Rattle.script.specs.declared.outcome.Outcome.{Outcome}
use Rattle.script.specs.declared.outcome.Outcome.TheVariants as outcome
use Rattle.script.specs.declared.session.Session.{Session}
use Rattle.next_master.specs.Configuration.{config_of, later_options, tables_to, one_partition, no_later, MayBegin}
use Rattle.next_master.specs.declared.later.Later.{Later}
use Rattle.next_master.specs.cluster.Lives.{Position, at_start}
use Rattle.next_master.specs.recovery.Orders.{Covers}
use Rattle.next_master.specs.driving.Rolls.{PushesUntil}
use Rattle.next_master.specs.cluster.Told.{command_of}
use Rattle.next_master.specs.cluster.Looks.{HasLimits}
use Rattle.next_master.specs.answers.declared.limits.Limits.{Limits}
use Rattle.next_master.specs.cluster.Served.{AnswersLine, IsNodeAt, world_of, fleet_of, is_up, HandsOver}
use Rattle.cluster_lines.specs.Lines.{MakesLine}
use Rattle.lines.specs.declared.line.ReplayOrder.{ReplayOrder}
use Rattle.lines.specs.declared.line.ReplayOrder.TheVariants.{Forward}
use Rattle.next_master.specs.Numbers.{AreSpent, IsNextNumber, Renumbers}
use Rattle.next_master.specs.cluster.declared.tried.Tried.{Tried}
use Rattle.next_master.specs.cluster.Forgetting.{ForgetsDurable}
use Rattle.next_master.specs.cluster.Tended.{StaysOn, steps_behind}
use Rattle.next_master.specs.cluster.Waits.{IsReplyAt, MakesTryAfterRoll, TriesLine, WaitsForRoll}
use Rattle.next_master.specs.Recoveries.{Asked, Ends, MakesLimit, Recovers, ShowsNeeds, ask, order_named}

-- ---- where a session stands

-- the session's will has a partition for each place of the tablets
abbrev pub IsCovered : Session → Type 0
IsCovered s = Covers (tables_to s.options.tables) s.will

-- if the number of a master is above all that were used, any of its heads may be used
abbrev pub AreLaterUnraised : Session → Type 0
AreLaterUnraised s = IfSome (fleet_of s.node) (AreUnraisedAbove s.used)

-- the session stands for some master, at some position, and a later one may begin, within its limits
abbrev pub Stands : Session → Type 0
Stands s = IsCovered s
    × ((d : MasterData) × (at : Position) × IsNodeAt s.node (config_of s.options s.master) d at)
    × AreLaterUnraised s × MayBegin s.later s.options

-- a new master of this configuration, over an empty fleet of as many backups as it says
abbrev pub new_world : Config → World
new_world config = record { knows = fresh_data config; fleet = new_fleet config.backups }

-- A session at its start: master 1 has this configuration, an open head and no keys, and nothing is told of it yet.
pub record BeginsSession (options : Options) (s : Session) : Type 0 where
  pub stands : (d : MasterData) × IsNodeAt s.node (config_of options 1) d at_start × (is_open d.head ≡ true)
      × (d.origin ≡ no_origin)
  -- a new master was pushed until nothing waited, and made no other step
  pub begins : (w : World) × (world_of s.node ≡ Some w) × PushesUntil (new_world (config_of options 1)) Nothing w
  pub number : s.master ≡ 1
  pub used : s.used ≡ 1
  pub set : s.options ≡ options
  pub covers : IsCovered s
  pub will : s.will ≡ one_partition (tables_to options.tables)
  pub known : s.is_known ≡ true
  -- no line asked for a format, or for a number of seglets
  pub later : s.later ≡ no_later

-- ---- wills

-- the limits of the wills that these options ask for
abbrev pub limits_of : Options → Limits
limits_of options = record { bytes = options.bytes; objects = options.objects }

-- what a line makes of the coordinator's will: the line `will` makes it anew, and no other line changes it
abbrev pub MakesWill : Session → LineValue → Session → Answer → Type 0
MakesWill old Will new answer = HandsOver old.will answer new.will × HasLimits (limits_of old.options) answer
MakesWill old line new answer = new.will ≡ old.will

-- ---- lines

-- What a line makes of `is_known`, which says that each store of clients could tell whose its records were. Only a
-- line of clients may make it false, and only if the answer is no count of calls. It never becomes true again.
abbrev pub KeepsWord : Session → LineValue → Session → Answer → Type 0
KeepsWord old (Clients clients rounds passes) new answer = (old.is_known ≡ false → new.is_known ≡ false)
    × ((calls : ℕ) → answer ≡ Counted clients rounds calls → new.is_known ≡ old.is_known)
KeepsWord old line new answer = new.is_known ≡ old.is_known

-- what a line makes of what later masters have: `format 2` sets their format, `seglets` sets how many seglets they
-- have, and no other line changes anything
abbrev pub later_after : LineValue → Later → Later
later_after Format later = record later { lists_lengths = true }
later_after (Seglets seglets) later = record later { seglets = Some seglets }
later_after line later = later

-- the line sets something for masters that start later
abbrev pub SetsLater : LineValue → Type 0
SetsLater Format = Unit {0}
SetsLater (Seglets seglets) = Unit {0}
SetsLater _ = ⊥

-- Whose life the answer of a line is told of: that of a master with the session's number, whatever else its
-- configuration says. What a new master needs is told of the session's own master.
abbrev pub IsToldOf : Session → LineValue → Config → Type 0
IsToldOf s Needs config = config ≡ config_of s.options s.master
IsToldOf s line config = config.master ≡ s.master

-- a recovery is of the session's master, by the session's will, in the order that the line names
abbrev pub asked_of : Session → ReplayOrder → Asked
asked_of s order = ask s.master s.used s.will (order_named order)

-- What the line `needs` shows. If the session has a master, or if each store of clients could tell whose its records
-- were, it shows what a recovery of the node in the order of the log would find. Otherwise nothing is recovered any
-- more.
abbrev pub SessionShows : Session → LineValue → Answer → Type 0
SessionShows s Needs answer =
    (((is_up s.node ≡ true) ⊎ (s.is_known ≡ true))
    × ShowsNeeds s.node (later_options s.later s.options) (asked_of s Forward) answer)
    ⊎ ((is_up s.node ≡ false) × (s.is_known ≡ false) × (answer ≡ answers.SeatUnknown))
SessionShows s line answer = Unit {0}

-- What a line makes of a session that goes on with the life of its master.
pub record SessionAnswers (old : Session) (line : LineValue) (new : Session) (answer : Answer) : Type 0 where
  pub number : new.master ≡ old.master
  pub options : new.options ≡ old.options
  pub used : new.used ≡ old.used
  pub covers : Stands old → IsCovered new
  pub answers : (config : Config) → IsToldOf old line config → AnswersLine old.node config line new.node answer
  pub makes : MakesLine old.options.tend old.node line new.node answer
  pub wills : MakesWill old line new answer
  pub word : KeepsWord old line new answer
  pub later : new.later ≡ later_after line old.later
  pub begins : Stands old → MayBegin new.later new.options
  pub shows : SessionShows old line answer

-- The answer of a line whose command waited for a roll. It tells of what the node stood for before the command waited.
pub record AnswersAfterRoll (mid : Session) (line : LineValue) (new : Session) (answer : Answer) : Type 0 where
  pub number : new.master ≡ mid.master
  pub options : new.options ≡ mid.options
  pub used : new.used ≡ mid.used
  pub covers : IsCovered mid → IsCovered new
  pub answers : (old : Node) (config : Config) (command : Command) → command_of line ≡ Some command
      → WaitsForRoll old config command mid.node → AnswersLine old config line new.node answer
  pub makes : (command : Command) → command_of line ≡ Some command → MakesTryAfterRoll mid.node command new.node answer
  pub will : new.will ≡ mid.will
  pub known : new.is_known ≡ mid.is_known
  pub later : new.later ≡ mid.later

-- ---- recoveries

-- A recovery of a session ended. If the session has a master, or if each store of clients could tell whose its records
-- were, it ended as a recovery of its node does. Otherwise nothing is recovered any more.
abbrev pub EndsFor : Session → ReplayOrder → Session → Answer → Type 0
EndsFor old order new answer =
    (((is_up old.node ≡ true) ⊎ (old.is_known ≡ true))
    × Ends old.node (later_options old.later old.options) (asked_of old order) new.used new.node answer
    new.master)
    ⊎ ((is_up old.node ≡ false) × (old.is_known ≡ false) × (answer ≡ answers.SeatUnknown) × (new ≡ old))

-- The coordinator's will stays until a master has adopted the table. Then a later recovery is for that master, and the
-- will is one partition over all tablets.
abbrev pub RenewsWill : Session → Session → Type 0
RenewsWill old new = ((new.master ≡ old.master) × (new.will ≡ old.will))
    ⊎ ((new.master ≡ old.master → ⊥) × (new.will ≡ one_partition (tables_to old.options.tables)))

-- The options are those of the master that a later recovery is for. Once a master has adopted the table, they are
-- those of later masters.
abbrev pub RenewsOptions : Session → Session → Type 0
RenewsOptions old new = ((new.master ≡ old.master) × (new.options ≡ old.options))
    ⊎ ((new.master ≡ old.master → ⊥) × (new.options ≡ later_options old.later old.options))

-- what a recovery makes of a session
pub record SessionRecovers (old : Session) (line : LineValue) (new : Session) (answer : Answer) : Type 0 where
  pub order : ReplayOrder
  pub asks : line ≡ Recover order
  pub options : RenewsOptions old new
  pub later : new.later ≡ old.later
  pub known : new.is_known ≡ old.is_known
  pub covers : Stands old → IsCovered new
  pub numbers : Renumbers old.master old.used new.master new.used
  pub recovers : Recovers old.node old.options old.later old.master order new.node answer new.master
  pub ends : EndsFor old order new answer
  pub limit : MakesLimit old.node new.node answer
  pub will : RenewsWill old new
  pub least : (new.used ≡ old.used)
      ⊎ IfSome (fleet_of old.node) (λ (f : FleetState). IsNextNumber (max old.master old.used) f.picture new.used)
  pub spent : answer ≡ NumbersSpent
      → IfSome (fleet_of old.node) (λ (f : FleetState). AreSpent (max old.master old.used) f.picture)

-- ---- any line

-- what a line makes of a session
abbrev pub RunsLine : Session → LineValue → Session → Answer → Type 0
RunsLine old line new answer = SessionAnswers old line new answer ⊎ SessionRecovers old line new answer

-- ---- what is forgotten

-- If the options say so, the session's master forgets its durable records, and nothing else of the session changes.
-- Otherwise nothing changes. The session stands where it stood.
pub record Forgets (old new : Session) : Type 0 where
  pub rest : new ≡ record old { node = new.node }
  pub forgets : old.options.forget ≡ true → ForgetsDurable old.node new.node
  pub keeps : old.options.forget ≡ false → new ≡ old
  pub stays : StaysOn old.node new.node

-- A line was run, and behind its answer the session's master forgot.
abbrev pub RunsTurn : Session → LineValue → Session → Answer → Type 0
RunsTurn old line new answer = (mid : Session) × RunsLine old line mid answer × Forgets mid new

-- an outcome is printed as this answer; if it is the place of a record, the answer is the record's reply
abbrev pub IsPrintedAs : Session → Outcome → Answer → Type 0
IsPrintedAs s (outcome.Answered a) answer = a ≡ answer
IsPrintedAs s (outcome.Replied place) answer =
    (reply : Reply) × IsReplyAt s.node place reply × (answers.Reply reply ≡ answer)

-- The command of a line was tried on the session's node, and nothing else of the session changed.
pub record TriesCommand (old : Session) (line : LineValue) (new : Session) (tried : Tried) : Type 0 where
  pub command : Command
  pub asks : command_of line ≡ Some command
  -- the cleaner makes no step behind it
  pub plain : steps_behind old.options.tend command ≡ 0
  pub tries : TriesLine old.node command new.node tried
  pub rest : new ≡ record old { node = new.node }

-- the cleaner makes no step behind the line's command
abbrev pub IsPlain : Session → LineValue → Type 0
IsPlain s line = (command : Command) → command_of line ≡ Some command → steps_behind s.options.tend command ≡ 0

-- the cleaner makes so many steps behind the line's command, and more than none
abbrev pub IsTended : Session → LineValue → ℕ → Type 0
IsTended s line steps = (0 < steps) × ((command : Command) → command_of line ≡ Some command
    → steps_behind s.options.tend command ≡ steps)
