-- What is told of a session.
use Rattle.std.proofs.Common.{◌≡◌, ◌∙◌, ◌⊎◌, ℕ, List, Bool, true, false, refl, sym, ap, subst, inl, inr}
use Rattle.std.specs.Prelude.{Option, Some, None, Result, Ok, Err, ◌&&◌, true, false, IfOk, is_err}
use Rattle.versioned_map.specs.declared.command.Command.{Command}
use Rattle.tablet_will.specs.Parts.{Divides}
use Rattle.lines.specs.Grammar.{LineValue, Will, Clients, Recover, Format, Needs, Seglets}
use Rattle.next_master.specs.master.master_state.declared.config.Config.{Config}
use Rattle.next_master.specs.master.master_state.Data.{MasterData}
use Rattle.tablet_will.specs.declared.part.Part.{Part}
use Rattle.next_master.specs.answers.declared.answer.Answer.{Answer}
use Rattle.next_master.specs.cluster.declared.node.Node.{Node}
use Rattle.command_line.specs.declared.settings.Options.{Options}
use Rattle.script.specs.declared.session.LineFault.{LineFault}
use Rattle.script.specs.declared.session.Session.{Session}
use Rattle.next_master.specs.recovery.Orders.{Covers}
use Rattle.next_master.specs.Configuration.{config_of, later_options, tables_to, no_later, MayBegin}
use Rattle.next_master.specs.declared.later.Later.{Later}
use Rattle.next_master.specs.master.master_state.Config.{config_fault}
use Rattle.next_master.specs.cluster.Lives.{Left, at_start}
use Rattle.next_master.specs.cluster.Served.{DividesAnew, AnswersLine, IsOf, is_up}
use Rattle.cluster_lines.specs.Lines.{MakesLine}
use Rattle.script.specs.Sessions.{IsToldOf, KeepsWord, RenewsOptions, SessionAnswers, SessionShows, Stands}
use Rattle.script.specs.Sessions.{BeginsSession, MakesWill as MakesWillOf, later_after}
use Rattle.next_master.specs.cluster.Told.{command_of}
use Rattle.next_master.specs.cluster.Found.{AsksTable}
use Rattle.backup.specs.declared.fleet.MemoryFleet.{MemoryFleet}
use Rattle.next_master.specs.master.World.{MasterValue}
use Rattle.next_master.specs.master.master_state.declared.step.Refusal.{Refusal}
use Rattle.next_master.specs.answers.declared.answer.Answer.TheVariants as answer
use Rattle.next_master.specs.cluster.declared.node.Node.TheVariants.{Up, Down, Changing}
use Rattle.next_master.proofs.NextConfig.{checked_as, later_twice}
use Rattle.next_master.proofs.of_cluster.Standing.{is_down_some, stays_told}
use Rattle.lines.specs.declared.line.ReplayOrder.{ReplayOrder}
use Rattle.next_master.specs.recovery.declared.recovery.RecoveryFault.TheVariants as fault
use Rattle.next_master.specs.recovery.recovery_plan.declared.fault.PlanFault.TheVariants as plan_fault

-- ---- at its start

pub ok_of_no_err : (r : Result (Unit {0}) Refusal) (P : Type 0) → is_err r ≡ false → IfOk r (λ u. P) → P
ok_of_no_err (Ok u) P none all = all
ok_of_no_err (Err e) P none all = absurd (cc)

-- what is said of each answer of a line
pub ok_runs : (r : Result Answer LineFault) (P Q : Answer → Type 0) → ((a : Answer) → P a → Q a) → IfOk r P → IfOk r Q
ok_runs (Ok a) P Q more all = more a all
ok_runs (Err e) P Q more all = tt

-- ---- its will

-- a will that stays, or divides the tablets of the node's master, covers the session's tablets
pub covered_anew : (s : Session) (new : List Part) → DividesAnew s.node s.will new → Stands s
    → Covers (tables_to s.options.tables) new
covered_anew s new anew (covers, (d, at, stands), later, begins) = go (anew (config_of s.options s.master) d at stands)
  where
    go : (new ≡ s.will) ⊎ Divides (tables_to s.options.tables) new → Covers (tables_to s.options.tables) new
    go (inl same) = subst (λ (w : List Part). Covers (tables_to s.options.tables) w) (sym same) covers
    go (inr divides) = λ table place within. divides.covered table place ∙ within

-- a command's line makes no will
pub command_keeps : (old : Session) (line : LineValue) (new : Session) (a : Answer) → new.will ≡ old.will
    → (command : Command) → command_of line ≡ Some command → MakesWillOf old line new a
command_keeps old Will new a same command asks = absurd (cc)
command_keeps old line new a same command asks = same

-- ---- its word

-- and nothing of the session's word
pub command_keeps_word : (old : Session) (line : LineValue) (new : Session) (a : Answer) → new.is_known ≡ old.is_known
    → (command : Command) → command_of line ≡ Some command → KeepsWord old line new a
command_keeps_word old (Clients clients rounds passes) new a same command asks = absurd (cc)
command_keeps_word old line new a same command asks = same

-- and nothing of what later masters have
pub command_keeps_later : (line : LineValue) (later : Later) (command : Command) → command_of line ≡ Some command
    → later_after line later ≡ later
command_keeps_later Format later command asks = absurd (cc)
command_keeps_later (Seglets seglets) later command asks = absurd (cc)
command_keeps_later line later command asks = refl

-- and shows nothing of a recovery
pub command_shows : (s : Session) (line : LineValue) (a : Answer) (command : Command) → command_of line ≡ Some command
    → SessionShows s line a
command_shows s Needs a command asks = absurd (cc)
command_shows s line a command asks = tt

-- its master's history may have as many records as the options say
pub has_records : (s : Session) → Stands s → (m : MasterValue MemoryFleet) → s.node ≡ Up m
    → m.knows.config.history ≡ s.options.history
has_records s (covers, (d, at, stands), later, begins) m up =
    let of : IsOf (Up m) at.left d = subst (λ (n : Node). IsOf n at.left d) up stands.node_of in
    ap (λ (x : MasterData). x.config.history) of.1 ∙ ap (λ (c : Config). c.history) stands.configured

-- what it knows stays known if a count is answered, and what it doesn't know stays so
pub word_kept : (was known : Bool) (clients rounds : ℕ) (a : Answer)
    → ((calls : ℕ) → a ≡ answer.Counted clients rounds calls → known ≡ true)
    → (was ≡ false → (was && known) ≡ false) × ((calls : ℕ) → a ≡ answer.Counted clients rounds calls
    → (was && known) ≡ was)
word_kept true known clients rounds a tells = (λ is. absurd (cc), tells)
word_kept false known clients rounds a tells = (λ is. refl, λ calls is. refl)

-- ---- its options

-- while a recovery is for the same master they stay
pub options_stay : (old new : Session) → RenewsOptions old new → new.master ≡ old.master → new.options ≡ old.options
options_stay old new (inl (number, same)) is = same
options_stay old new (inr (other, later)) is = absurd (other is)

-- for another master they are those of later masters
pub options_renewed : (old new : Session) → RenewsOptions old new → (new.master ≡ old.master → ⊥)
    → new.options ≡ later_options old.later old.options
options_renewed old new (inl (number, same)) other = absurd (other number)
options_renewed old new (inr (is, later)) other = later

-- but for the format and the seglets they stay in any case
pub options_kept : (old new : Session) (format seglets : ℕ) → RenewsOptions old new
    → record new.options { format = format; seglets = seglets }
    ≡ record old.options { format = format; seglets = seglets }
options_kept old new format seglets (inl (number, same)) =
    ap (λ (o : Options). record o { format = format; seglets = seglets }) same
options_kept old new format seglets (inr (other, later)) =
    ap (λ (o : Options). record o { format = format; seglets = seglets }) later

-- ---- later masters

-- the configuration of what a node stands for is within its limits
of_checked : (node : Node) (left : Option Left) (d : MasterData) → IsOf node left d → config_fault d.config ≡ None
of_checked (Up m) left d of = of.2.config
of_checked (Down fleet) left d of = of.2.valid.config
of_checked Changing left d of = absurd of

-- so are the session's options
pub stands_checked : (s : Session) → Stands s → config_fault (config_of s.options 1) ≡ None
stands_checked s (covers, (d, at, stands), later, begins) =
    checked_as s.options s.master 1 (ap config_fault (sym stands.configured)
    ∙ of_checked s.node at.left d stands.node_of)

-- at the start later masters have these options
pub begins_later : (options : Options) (s : Session) → BeginsSession options s → MayBegin s.later s.options
begins_later options s begins =
    let d = begins.stands.0 in
    let stands = begins.stands.1 in
    let checked : config_fault (config_of options 1) ≡ None =
    ap config_fault (sym stands.configured) ∙ of_checked s.node at_start.left d stands.node_of in
    subst (λ (l : Later). MayBegin l s.options) (sym begins.later)
    (subst (λ (o : Options). MayBegin no_later o) (sym begins.set) checked)

-- after a recovery the next one may begin as this one did
pub renewed_begins : (old new : Session) → RenewsOptions old new → new.later ≡ old.later
    → MayBegin old.later old.options → MayBegin new.later new.options
renewed_begins old new (inl (number, same)) kept may =
    subst (λ (l : Later). MayBegin l new.options) (sym kept)
    (subst (λ (o : Options). MayBegin old.later o) (sym same) may)
renewed_begins old new (inr (other, later)) kept may =
    subst (λ (l : Later). MayBegin l new.options) (sym kept)
    (subst (λ (o : Options). MayBegin old.later o) (sym later)
    (subst (λ (o : Options). config_fault (config_of o 1) ≡ None) (sym (later_twice old.later old.options)) may))

-- a line that changes just the node
pub node_answers : (s : Session) (line : LineValue) (node : Node) (a : Answer)
    → ((config : Config) → IsToldOf s line config → AnswersLine s.node config line node a)
    → MakesLine s.options.tend s.node line node a → MakesWillOf s line (record s { node = node }) a
    → KeepsWord s line (record s { node = node }) a → s.later ≡ later_after line s.later → SessionShows s line a
    → SessionAnswers s line (record s { node = node }) a
node_answers s line node a told makes wills word later shows = record {
  number = refl;
  options = refl;
  used = refl;
  covers = λ all. all.0;
  answers = told;
  makes = makes;
  wills = wills;
  word = word;
  later = later;
  begins = λ all. all.3;
  shows = shows;
}

-- a line that sets what later masters have
pub format_answers : (s : Session) → MayBegin (later_after Format s.later) s.options
    → SessionAnswers s Format (record s { later = later_after Format s.later }) answer.Format
format_answers s may = record {
  number = refl;
  options = refl;
  used = refl;
  covers = λ all. all.0;
  answers = λ config number. stays_told s.node config Format answer.Format (λ d at x. (refl, refl));
  makes = refl;
  wills = refl;
  word = refl;
  later = refl;
  begins = λ all. may;
  shows = tt;
}

pub seglets_answers : (s : Session) (seglets : ℕ) → MayBegin (later_after (Seglets seglets) s.later) s.options
    → SessionAnswers s (Seglets seglets) (record s { later = later_after (Seglets seglets) s.later })
    (answer.Seglets seglets)
seglets_answers s seglets may = record {
  number = refl;
  options = refl;
  used = refl;
  covers = λ all. all.0;
  answers = λ config number. stays_told s.node config (Seglets seglets) (answer.Seglets seglets)
      (λ d at x. (refl, refl));
  makes = refl;
  wills = refl;
  word = refl;
  later = refl;
  begins = λ all. may;
  shows = tt;
}

-- ---- whose life is told

-- a line is told of the session's own master
pub told_of : (s : Session) (line : LineValue) → IsToldOf s line (config_of s.options s.master)
told_of s Needs = refl
told_of s line = refl

-- a line that asks what a new master needs
pub needs_answers : (s : Session) (a : Answer)
    → AnswersLine s.node (config_of s.options s.master) Needs s.node a → SessionShows s Needs a
    → SessionAnswers s Needs s a
needs_answers s a told shown = node_answers s Needs s.node a
    (λ config is. subst (λ (k : Config). AnswersLine s.node k Needs s.node a) (sym is) told) refl refl refl refl shown

-- ---- recoveries that are not made

-- memory ran out before a recovery of what is left
pub want_at : (node : Node) (config : Config) (order : ReplayOrder) → is_up node ≡ false
    → AnswersLine node config (Recover order) node (answer.NotRecovered (fault.Plan plan_fault.NoMemory))
want_at node config order down =
    stays_told node config (Recover order) (answer.NotRecovered (fault.Plan plan_fault.NoMemory))
    (λ d at s. let l = is_down_some node d at.left down s.node_of in
    (inl (order, refl), l.0, l.1, (inr tt, inl tt, λ both. tt), refl))

-- a store couldn't tell whose its records were, so what is left isn't recovered
pub unknown_at : (node : Node) (config : Config) (line : LineValue) → is_up node ≡ false → AsksTable line
    → AnswersLine node config line node answer.SeatUnknown
unknown_at node config line down asks =
    stays_told node config line answer.SeatUnknown
    (λ d at s. inr (asks, is_down_some node d at.left down s.node_of, refl))
