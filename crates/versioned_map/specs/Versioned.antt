-- A map from keys to versions and values, and what a command does to it.
use Rattle.std.specs.Prelude.{◌≡◌, ℕ, ◌+◌, ◌<◌, ◌≤◌, ◌==◌, ◌&&◌, ◌^◌, max, List, [], ◌∷◌, take, length}
use Rattle.std.specs.Prelude.{Bool, true, false, nat_lt, Option, Some, None, if◌then◌else◌}
use Rattle.std.specs.Option.{option_map}
use Rattle.entry.specs.declared.key.Key.{Key}
use Rattle.entry.specs.Order.{key_eq}
use Rattle.entry.specs.Meaning.{Versioned, Contents}
use Rattle.versioned_map.specs.declared.command.If.{If}
use Rattle.versioned_map.specs.declared.command.If.TheVariants.{Any, Absent, Version}
use Rattle.versioned_map.specs.declared.command.Command.{Command}
use Rattle.versioned_map.specs.declared.command.Command.TheVariants.{Get, Put, Delete}
use Rattle.versioned_map.specs.declared.command.Reply.{Reply}
use Rattle.versioned_map.specs.declared.command.Reply.TheVariants as reply
use Rattle.versioned_map.specs.Command.{command_key}

-- the state of the map: what each key has, and the safe version, which the next new key gets
pub record State : Type 0 where
  pub contents : Contents
  pub safe : ℕ

-- the contents, changed at one key only
abbrev pub with_contents : Contents → Key → Option Versioned → Contents
with_contents contents k x = λ q. if key_eq q k then x else contents q

-- the condition of a put is met, given what the key has
abbrev pub is_met : If → Option Versioned → Bool
is_met Any x = true
is_met Absent None = true
is_met Absent (Some x) = false
is_met (Version w) None = false
is_met (Version w) (Some x) = x.version == w

-- ---- one command

abbrev pub after_put : State → Key → List ℕ → Option Versioned → State
after_put st k value None = record {
  contents = with_contents st.contents k (Some (record { version = st.safe; value = value }));
  safe = st.safe + 1;
}
after_put st k value (Some x) = record {
  contents = with_contents st.contents k (Some (record { version = x.version + 1; value = value }));
  safe = st.safe;
}

abbrev pub after_delete : State → Key → Option Versioned → State
after_delete st k None = st
after_delete st k (Some x) =
    record { contents = with_contents st.contents k None; safe = max st.safe (x.version + 1) }

abbrev pub after_command : State → Command → State
after_command st (Get k) = st
after_command st (Put k value when) =
    if is_met when (st.contents k) then after_put st k value (st.contents k) else st
after_command st (Delete k) = after_delete st k (st.contents k)

abbrev pub found : Option Versioned → Reply
found None = reply.None
found (Some x) = reply.Found x.version x.value

abbrev pub put_version : ℕ → Option Versioned → ℕ
put_version safe None = safe
put_version safe (Some x) = x.version + 1

abbrev pub deleted : Option Versioned → Reply
deleted None = reply.None
deleted (Some x) = reply.Ok x.version

-- the reply to a command, given the safe version and what the key has
abbrev pub reply_given : ℕ → Option Versioned → Command → Reply
reply_given safe x (Get k) = found x
reply_given safe x (Put k value when) =
    if is_met when x then reply.Ok (put_version safe x)
    else reply.Mismatch (option_map (λ (v : Versioned). v.version) x)
reply_given safe x (Delete k) = deleted x

abbrev pub reply_to : State → Command → Reply
reply_to st command = reply_given st.safe (st.contents (command_key command)) command

-- the command is a put whose condition is met, and which would need a version above 2 ^ 62
abbrev pub is_spent : ℕ → Option Versioned → Command → Bool
is_spent safe x (Get k) = false
is_spent safe x (Put k value when) = is_met when x && nat_lt (2 ^ 62) (put_version safe x)
is_spent safe x (Delete k) = false

-- ---- many commands

-- the state after commands in order; *replies* gives the reply to each
abbrev pub after : State → List Command → State
after st [] = st
after st (c ∷ cs) = after (after_command st c) cs

abbrev pub replies : State → List Command → List Reply
replies st [] = []
replies st (c ∷ cs) = reply_to st c ∷ replies (after_command st c) cs

-- A safe version after the commands: it isn't below the safe version of the opening state, and is above each version
-- that a key had at any time.
pub record IsSafeAfter (opening : State) (commands : List Command) (safe : ℕ) : Type 0 where
  pub no_lower : opening.safe ≤ safe
  pub above : (i : ℕ) → i ≤ length commands → (k : Key) (x : Versioned)
      → (after opening (take i commands)).contents k ≡ Some x → x.version < safe
