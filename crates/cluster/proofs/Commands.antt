-- A command's line, told of a master's life.
use Rattle.std.proofs.Common.{[], ◌≡◌, ℕ, suc, length, take, refl, sym, ap, inl, inr, ◌∙◌, arith}
use Rattle.std.proofs.lemmas.List.{append-nil}
use Rattle.std.proofs.Math.Seq.{take-length}
use Rattle.std.specs.Prelude.{Some, None}
use Rattle.lines.specs.Grammar.{LineValue}
use Rattle.replica.specs.Picture.{FleetState}
use Rattle.versioned_map.specs.declared.command.Command.{Command}
use Rattle.versioned_map.specs.declared.command.Reply.{Reply}
use Rattle.answers.specs.driving.master.master_state.declared.config.Config.{Config}
use Rattle.answers.specs.driving.master.master_state.declared.step.Refusal.{Refusal}
use Rattle.answers.specs.driving.master.master_state.declared.step.Refusal.TheVariants as refusal
use Rattle.answers.specs.driving.master.master_state.Data.{MasterData}
use Rattle.answers.specs.driving.master.Valid.{IsValid}
use Rattle.answers.specs.declared.answer.Answer.TheVariants as answer
use Rattle.cluster.specs.declared.node.Node.{Node}
use Rattle.cluster.specs.Lives.{HasLived, life_to, left_now, Position}
use Rattle.answers.specs.driving.Served.{LivesOn, IsServed, IsUnserved, IsSpent, record_of}
use Rattle.cluster.specs.Served.{IsOf, IsNodeAt, life_of}
use Rattle.cluster.specs.Told.{command_of}
use Rattle.answers.proofs.of_driving.Pushes.{stops_until}
use Rattle.cluster.proofs.Standing.{Answered, same_opening, still_stands, stands_longer, record_there, lived}
use Rattle.cluster.proofs.Standing.{lived_longer}

-- ---- a record that was added, and what followed

added_before : (d mid e : MasterData) (command : Command) (reply : Reply) → LivesOn d mid (record_of command reply)
    → LivesOn mid e []
    → LivesOn d e (record_of command reply)
added_before d mid e command reply added on =
    let up = added.durable in
    let more = on.durable in
    record {
      config = on.config ∙ added.config;
      origin = on.origin ∙ added.origin;
      durable = omega arith;
      history = on.history ∙ append-nil mid.history ∙ added.history;
      forgotten = on.forgotten ∙ added.forgotten;
    }

-- a master that has lived all that a later one has
lived_so_far : (mid e : MasterData) (config : Config) (f : FleetState) → IsValid mid f → LivesOn mid e [] → (count : ℕ)
    → e.config ≡ config
    → count ≡ length e.history → HasLived config (life_to (life_of e) count) mid f
lived_so_far mid e config f valid on count configured whole = record {
  configured = sym on.config ∙ configured;
  opening = same_opening mid e on.origin;
  history = sym (ap (λ (n : ℕ). take n e.history) whole ∙ take-length e.history ∙ on.history ∙ append-nil mid.history);
  valid = valid;
}

-- ---- a command's line

module _ (d e : MasterData) (old new : Node) (config : Config) (at : Position) (s : IsNodeAt old config d at)
    (none : at.left ≡ None)
    (line : LineValue) (command : Command) (asks : command_of line ≡ Some command) where
  -- a reply is that of the record that was added
  pub reply_told : (reply : Reply) → IsOf new None e → IsServed d e command reply
      → Answered d new config at line (answer.Reply reply)
  reply_told reply of served =
      let g = served.0 in
      let lasts = served.1 in
      let before = s.made in (
        e,
        record { made = suc at.made; acknowledged = suc at.made; left = None },
        stands_longer d e old new config at None of s command reply (suc at.made) g (omega arith),
        (record_of command reply, g.origin, g.history),
        (none, ((command, asks, record_there d e old new config at None of s command reply g), refl)),
      )

  -- what was made of a command that wasn't answered
  pub refused_told : (r : Refusal) → (r ≡ refusal.Spent → ⊥) → (f h : FleetState) → IsValid d f
      → IsOf new None e → IsValid e h
      → IsUnserved d command r (record { knows = e; fleet = h }) → Answered d new config at line (answer.Refused r)
  refused_told r unspent f h valid of now (inl (g, why)) = (
    e,
    record { made = at.made; acknowledged = at.acknowledged; left = None },
    still_stands d e old new config at None of s g,
    ([], g.origin, g.history),
    inl (
      none,
      inl (
        unspent,
        inl (
          (command, asks, refl),
          elim why [
            | inl memory ↦ inl memory
            | inr test ↦ inr (
              command,
              asks,
              inl (
                d,
                f,
                lived d e old new config at None of s f valid g.origin
                    [] g.history,
                test,
              ),
            )
          ],
        ),
      ),
    ),
  )
  refused_told r unspent f h valid of now (inr left) =
      let reply = left.reply in
      let g = added_before d left.mid.knows e command reply left.applied left.goes_on in
      let up = g.durable in
      let kept = s.acknowledged in
      let stands = stands_longer d e old new config at None of s command reply at.acknowledged g (omega arith) in (
        e,
        record { made = suc at.made; acknowledged = at.acknowledged; left = None },
        stands,
        (record_of command reply, g.origin, g.history),
        inl (
          none,
          inl (
            unspent,
            inr (
              (reply, (command, asks, record_there d e old new config at None of s command reply g), refl),
              (
                left.mid,
                record { knows = e; fleet = h },
                lived_so_far left.mid.knows e config left.mid.fleet left.valid left.goes_on
                    (suc at.made) stands.configured stands.made,
                lived_longer d e old new config at None of s h now (suc at.made) stands.configured stands.made,
                stops_until left.place left.mid (record { knows = e; fleet = h }) r left.pushed,
              ),
              left.waits,
            ),
          ),
        ),
      )

  -- it was dropped, with a fleet that took no more ops
  pub stopped_told : (r : Refusal) (f : FleetState) → IsValid e f → IsSpent f → IsOf new (Some (left_now e f)) e
      → IsUnserved d command r (record { knows = e; fleet = f }) → Answered d new config at line answer.Stopped
  stopped_told r f valid spent of (inl (g, why)) =
      let stands = still_stands d e old new config at (Some (left_now e f)) of s g in (
        e,
        record { made = at.made; acknowledged = at.acknowledged; left = Some (left_now e f) },
        stands,
        ([], g.origin, g.history),
        inl (
          none,
          left_now e f,
          (
            e,
            f,
            lived_longer d e old new config at (Some (left_now e f)) of s f valid at.made stands.configured
                stands.made,
            refl,
            spent,
          ),
          inl (command, asks, refl),
        ),
      )
  stopped_told r f valid spent of (inr left) =
      let reply = left.reply in
      let g = added_before d left.mid.knows e command reply left.applied left.goes_on in
      let up = g.durable in
      let kept = s.acknowledged in
      let stands = stands_longer d e old new config at (Some (left_now e f)) of s command reply at.acknowledged g
      (omega arith) in (
        e,
        record { made = suc at.made; acknowledged = at.acknowledged; left = Some (left_now e f) },
        stands,
        (record_of command reply, g.origin, g.history),
        inl (
          none,
          left_now e f,
          (
            e,
            f,
            lived_longer d e old new config at (Some (left_now e f)) of s f valid
                (suc at.made) stands.configured stands.made,
            refl,
            spent,
          ),
          inr (inl (
            reply,
            (
              command,
              asks,
              record_there d e old new config at
                  (Some (left_now e f)) of s command reply g,
            ),
            refl,
          )),
        ),
      )
