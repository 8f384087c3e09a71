-- A log whose tables are within a limit, with one record more.
use Rattle.std.proofs.Common.{◌≡◌, ◌⊎◌, ◌<◌, ◌≤◌, ℕ, List, [], ◌∷◌, ◌++◌, length, take, sym, ap, inl, inr, ◌∙◌, arith}
use Rattle.std.proofs.lemmas.Bool.{cases_lt}
use Rattle.std.proofs.lemmas.List.{length-append, length-map, take_all}
use Rattle.entry.specs.declared.entry.Object.{Object}
use Rattle.entry.specs.Meaning.{contents_of}
use Rattle.packing.specs.Limits.{unlimited}
use Rattle.versioned_map.specs.declared.command.Record.{Record}
use Rattle.versioned_map.specs.Command.{command_key}
use Rattle.versioned_map.specs.History.{commands_of}
use Rattle.versioned_map.specs.Versioned.{State, after}
use Rattle.replay.specs.master.master_state.declared.config.Config.{Config}
use Rattle.replay.specs.master.master_state.Live.{live_after}
use Rattle.replay.specs.master.master_state.Sizes.{AreOnce}
use Rattle.replay.proofs.of_driving.of_master.log_laws.Fronts.{state_front, state_next}
use Rattle.adoptable.specs.Limit.{IsSum, IsAllowed, IsWithin}
use Rattle.adoptable.proofs.Sums.{IsCounted, command_counted}

-- each table after a count of these records is within the limit
abbrev pub Admits : Config → State → List Record → Type 0
Admits c opening history = (count : ℕ) (os : List Object) → count ≤ length history → AreOnce os
    → contents_of os ≡ (after opening (take count (commands_of history))).contents → IsWithin c os

module _ (c : Config) (limited : c.most_live < unlimited) (n : ℕ) (opening : State) (history : List Record)
    (admitted : Admits c opening history) (is : IsSum (after opening (commands_of history)).contents n)
    (r : Record) (allowed : IsAllowed c r.command) where
  -- the state, and the bytes that are counted once the record is there
  abbrev now : State
  now = after opening (commands_of history)

  abbrev pub live_then : ℕ
  live_then = live_after n (now.contents (command_key r.command)) r.command

  whole : after opening (take (length history) (commands_of history)) ≡ now
  whole = ap (after opening) (take_all (length history) (commands_of history)
      (let same = length-map history (λ (x : Record). x.command) in omega arith))

  within_now : (os : List Object) → AreOnce os → contents_of os ≡ now.contents → IsWithin c os
  within_now os once has =
      admitted (length history) os (omega arith) once (has ∙ ap (λ (s : State). s.contents) (sym whole))

  module _ (may : (live_then ≤ c.most_live) ⊎ (live_then ≤ n)) where
    then_counted : (os : List Object) → AreOnce os
        → contents_of os ≡ (after opening (commands_of (history ++ r ∷ []))).contents → IsCounted c os live_then
    then_counted os once has =
        command_counted c limited n now is within_now r.command allowed may os once
        (has ∙ ap (λ (s : State). s.contents) (state_next opening history r))

    pub sum_goes_on : IsSum (after opening (commands_of (history ++ r ∷ []))).contents live_then
    sum_goes_on os once has = (then_counted os once has).counted

    pub admits_more : Admits c opening (history ++ r ∷ [])
    admits_more count os le once has = go (cases_lt (length history) count)
      where
        go : (length history < count) ⊎ (count ≤ length history) → IsWithin c os
        go (inl lt) =
            let many = length-map (history ++ r ∷ []) (λ (x : Record). x.command) in
            let more = length-append history (r ∷ []) in
            let all = ap (after opening) (take_all count (commands_of (history ++ r ∷ [])) (omega arith)) in
            (then_counted os once (has ∙ ap (λ (s : State). s.contents) all)).within
        go (inr low) =
            admitted count os low once
            (has ∙ ap (λ (s : State). s.contents) (state_front opening history r count low))
