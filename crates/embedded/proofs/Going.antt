-- A master that goes on, over several steps.
use Rattle.std.proofs.Common.{[], ◌≡◌, ◌≤◌, ◌<◌, ◌∷◌, ◌++◌, ℕ, List, length, false, refl, sym, ap, subst}
use Rattle.std.proofs.Common.{inl, inr, ◌∙◌, arith}
use Rattle.std.specs.Prelude.{Bool, true, Option, Some, None, slice_get, nat_lt, if◌then◌else◌}
use Rattle.std.specs.Option.{option_map}
use Rattle.std.proofs.Math.Nat.{le_trans}
use Rattle.std.proofs.lemmas.List.{append-nil, length-append}
use Rattle.std.proofs.lemmas.Bool.Decides.{nat_tests}
use Rattle.history.specs.Records.{HistoryValue, kept_at}
use Rattle.versioned_map.specs.declared.command.Command.{Command}
use Rattle.versioned_map.specs.declared.command.Record.{Record}
use Rattle.versioned_map.specs.declared.command.Reply.{Reply as MapReply}
use Rattle.versioned_map.specs.declared.command.Reply.TheVariants as said
use Rattle.recovery.specs.driving.Served.{LivesOn, IsServedAt, IsUnserved, record_of}
use Rattle.recovery.specs.master.World.{World}
use Rattle.recovery.specs.master.log_laws.Data.{durable_of}
use Rattle.recovery.specs.master.master_state.Data.{MasterData}
use Rattle.recovery.specs.master.master_state.Log.{log_of}
use Rattle.recovery.specs.master.master_state.declared.step.Refusal.{Refusal}
use Rattle.embedded.specs.Replies.{GoesOn, IsAnswered, IsReadAt, Means, MeansBy, answered, kept_reply}
use Rattle.embedded.specs.Replies.{refused, unsure}
use Rattle.embedded.specs.Tries.{HasTried, IsApplied, MayForget}
use Rattle.embedded.specs.declared.carrying.Tried.{Tried}
use Rattle.embedded.specs.declared.carrying.Tried.TheVariants as tried
use Rattle.embedded.specs.declared.reply.Reply.{Reply}
use Rattle.embedded.specs.declared.reply.Status.{Status}
use Rattle.embedded.specs.declared.reply.Status.TheVariants as status

-- ---- steps without records

pub same_history : (a b : MasterData) → LivesOn a b [] → b.history ≡ a.history
same_history a b lives = lives.history ∙ append-nil a.history

pub lives_same : (a b c : MasterData) (more : List Record) → LivesOn a b [] → LivesOn b c more → LivesOn a c more
lives_same a b c more before after = record {
  config = after.config ∙ before.config;
  origin = after.origin ∙ before.origin;
  durable = le_trans before.durable after.durable;
  history = after.history ∙ ap (λ (rs : List Record). rs ++ more) (same_history a b before);
  forgotten = after.forgotten ∙ before.forgotten;
}

pub lives_then : (a b c : MasterData) (more : List Record) → LivesOn a b more → LivesOn b c [] → LivesOn a c more
lives_then a b c more before after = record {
  config = after.config ∙ before.config;
  origin = after.origin ∙ before.origin;
  durable = le_trans before.durable after.durable;
  history = same_history b c after ∙ before.history;
  forgotten = after.forgotten ∙ before.forgotten;
}

-- ---- tries

pub served_tried : (a : World) (command : Command) (place : ℕ) (b : World) → IsServedAt a command place b
    → HasTried a.knows command (tried.Done place) b.knows
served_tried a command place b s = (record { reply = s.reply; lives = s.served.0; last = s.place }, s.served.1)

-- the history of a command that has no reply is as it was, or longer by its record
pub unserved_same : (a : MasterData) (command : Command) (r : Refusal) (b : World) → IsUnserved a command r b
    → length b.knows.history ≤ length a.history → LivesOn a b.knows []
unserved_same a command r b (inl (lives, why)) few = lives
unserved_same a command r b (inr u) few =
    let longer = ap length (same_history u.mid.knows b.knows u.goes_on ∙ u.applied.history)
    ∙ length-append a.history _ in
    absurd (omega (arith, few, longer))

pub unserved_more : (a : MasterData) (command : Command) (r : Refusal) (b : World) (place : ℕ)
    → IsUnserved a command r b → place ≡ length a.history → length a.history < length b.knows.history
    → IsApplied a command place b.knows
unserved_more a command r b place (inl (lives, why)) last many =
    let same = ap length (same_history a b.knows lives) in
    absurd (omega (arith, same, many))
unserved_more a command r b place (inr u) last many = record {
  reply = u.reply;
  lives = lives_then a u.mid.knows b.knows (record_of command u.reply) u.applied u.goes_on;
  last = last;
}

applied_after : (a b : MasterData) (command : Command) (place : ℕ) (c : MasterData) → LivesOn a b []
    → IsApplied b command place c → IsApplied a command place c
applied_after a b command place c before is = record {
  reply = is.reply;
  lives = lives_same a b c (record_of command is.reply) before is.lives;
  last = is.last ∙ ap length (same_history a b before);
}

pub tried_after : (a b : MasterData) (command : Command) (t : Tried) (c : MasterData) → LivesOn a b []
    → HasTried b command t c → HasTried a command t c
tried_after a b command (tried.Done place) c before (is, durable) = (
  applied_after a b command place c before is,
  subst (λ (n : ℕ). n < durable_of (log_of c)) (ap length (same_history a b before)) durable,
)
tried_after a b command (tried.Refused why) c before lives = lives_same a b c [] before lives
tried_after a b command (tried.Unsure place why) c before is = applied_after a b command place c before is

-- ---- replies

goes_of : (a b : MasterData) (more : List Record) → LivesOn a b more → GoesOn a b more
goes_of a b more lives = record {
  config = lives.config;
  origin = lives.origin;
  durable = lives.durable;
  history = lives.history;
}

last_there : (rs : List Record) (r : Record) → slice_get (rs ++ r ∷ []) (length rs) ≡ Some r
last_there [] r = refl
last_there (x ∷ rs) r = last_there rs r

not_below : (n m : ℕ) → n ≤ m → nat_lt m n ≡ false
not_below n m within = grind (arith, nat_tests)

-- what a history lends of a place is what is kept of it
pub kept_alike : (h : HistoryValue) (d : MasterData) (place : ℕ) → h.records ≡ d.history → h.forgotten ≡ d.forgotten
    → option_map (λ (r : Record). r.reply) (kept_at h place) ≡ kept_reply d place
kept_alike h d place records forgotten =
    rw (records, forgotten) (through (nat_lt place d.forgotten) (slice_get d.history place))
  where
    through : (b : Bool) (o : Option Record)
        → option_map (λ (r : Record). r.reply) (if b then None else o)
        ≡ (if b then None else option_map (λ (r : Record). r.reply) o)
    through true o = refl
    through false o = refl

-- the record of a command that was applied can be read
pub read_last : (a : MasterData) (command : Command) (place : ℕ) (b : MasterData) → a.forgotten ≤ length a.history
    → (is : IsApplied a command place b) → IsReadAt b place is.reply
read_last a command place b within is =
    let last : Record = record { seat = 0; command = command; reply = is.reply } in
    let same = is.lives.forgotten in
    let at = is.last in
    rw (not_below b.forgotten place (omega (arith, same, at, within)))
    (ap (option_map (λ (r : Record). r.reply))
    (ap (λ (rs : List Record). slice_get rs place) is.lives.history
    ∙ ap (slice_get (a.history ++ last ∷ [])) at
    ∙ last_there a.history last))

answered_means : (reply : MapReply) (a : MasterData) (command : Command) (place : ℕ) (b : MasterData)
    → IsAnswered a command (answered place reply) b → Means a command (answered place reply) b
answered_means (said.Found version value) a command place b is = is
answered_means said.None a command place b is = is
answered_means (said.Ok version) a command place b is = is
answered_means (said.Mismatch version) a command place b is = is

pub done_means : (a : MasterData) (command : Command) (place : ℕ) (b : MasterData) (r : Reply)
    → a.forgotten ≤ length a.history → (is : HasTried a command (tried.Done place) b)
    → r ≡ answered place is.0.reply → Means a command r b
done_means a command place b r within (is, durable) told =
    let same = is.lives.forgotten in
    subst (λ (x : Reply). Means a command x b) (sym told)
    (answered_means is.reply a command place b (record {
      reply = is.reply;
      told = ap (λ (n : ℕ). answered n is.reply) is.last;
      goes_on = goes_of a b (record_of command is.reply) is.lives;
      durable = durable;
      kept = omega (arith, same, within);
    }))

pub refused_means : (a : MasterData) (command : Command) (why : Refusal) (b : MasterData) (r : Reply)
    → LivesOn a b [] → r ≡ refused why → Means a command r b
refused_means a command why b r lives told =
    subst (λ (x : Reply). Means a command x b) (sym told)
    (record { why = why; told = refl; goes_on = goes_of a b [] lives })

pub unsure_means : (a : MasterData) (command : Command) (place : ℕ) (why : Refusal) (b : MasterData) (r : Reply)
    → IsApplied a command place b → r ≡ unsure place why → Means a command r b
unsure_means a command place why b r is told =
    subst (λ (x : Reply). Means a command x b) (sym told) (record {
      why = why;
      reply = is.reply;
      told = ap (λ (n : ℕ). unsure n why) is.last;
      goes_on = goes_of a b (record_of command is.reply) is.lives;
    })

-- ---- before a command and behind it

goes_then : (a b c : MasterData) (more : List Record) → GoesOn a b more → LivesOn b c [] → GoesOn a c more
goes_then a b c more before after = record {
  config = after.config ∙ before.config;
  origin = after.origin ∙ before.origin;
  durable = le_trans before.durable after.durable;
  history = same_history b c after ∙ before.history;
}

answered_then : (a b c : MasterData) (command : Command) (r : Reply) → LivesOn b c [] → IsAnswered a command r b
    → IsAnswered a command r c
answered_then a b c command r after is =
    let same = after.forgotten in
    let kept = is.kept in
    record {
      reply = is.reply;
      told = is.told;
      goes_on = goes_then a b c (record_of command is.reply) is.goes_on after;
      durable = le_trans is.durable after.durable;
      kept = omega (arith, same, kept);
    }

pub means_then : (s : Status) (a b c : MasterData) (command : Command) (r : Reply) → MeansBy s a command r b
    → LivesOn b c [] → MeansBy s a command r c
means_then status.Ok a b c command r is after = answered_then a b c command r after is
means_then status.None a b c command r is after = answered_then a b c command r after is
means_then status.Mismatch a b c command r is after = answered_then a b c command r after is
means_then status.Refused a b c command r is after =
    record { why = is.why; told = is.told; goes_on = goes_then a b c [] is.goes_on after }
means_then status.Unsure a b c command r is after = record {
  why = is.why;
  reply = is.reply;
  told = is.told;
  goes_on = goes_then a b c (record_of command is.reply) is.goes_on after;
}

goes_forgot : (a b : MasterData) (n : ℕ) (more : List Record) → GoesOn (record a { forgotten = n }) b more
    → GoesOn a b more
goes_forgot a b n more is = record {
  config = is.config;
  origin = is.origin;
  durable = is.durable;
  history = is.history;
}

answered_forgot : (a b : MasterData) (n : ℕ) (command : Command) (r : Reply)
    → IsAnswered (record a { forgotten = n }) command r b → IsAnswered a command r b
answered_forgot a b n command r is = record {
  reply = is.reply;
  told = is.told;
  goes_on = goes_forgot a b n (record_of command is.reply) is.goes_on;
  durable = is.durable;
  kept = is.kept;
}

forgot_by : (s : Status) (a b : MasterData) (n : ℕ) (command : Command) (r : Reply)
    → MeansBy s (record a { forgotten = n }) command r b → MeansBy s a command r b
forgot_by status.Ok a b n command r is = answered_forgot a b n command r is
forgot_by status.None a b n command r is = answered_forgot a b n command r is
forgot_by status.Mismatch a b n command r is = answered_forgot a b n command r is
forgot_by status.Refused a b n command r is =
    record { why = is.why; told = is.told; goes_on = goes_forgot a b n [] is.goes_on }
forgot_by status.Unsure a b n command r is = record {
  why = is.why;
  reply = is.reply;
  told = is.told;
  goes_on = goes_forgot a b n (record_of command is.reply) is.goes_on;
}

-- a master that forgot records before means the same
pub means_forgot : (a b c : MasterData) (command : Command) (r : Reply) → MayForget a b → Means b command r c
    → Means a command r c
means_forgot a b c command r (inl same) is = subst (λ (x : MasterData). Means x command r c) same is
means_forgot a b c command r (inr forgets) is =
    forgot_by r.status a c b.forgotten command r
    (subst (λ (x : MasterData). Means x command r c) forgets.rest is)

-- ---- upkeep

pub goes_same : (a b : MasterData) → LivesOn a b [] → GoesOn a b []
goes_same a b lives = goes_of a b [] lives
