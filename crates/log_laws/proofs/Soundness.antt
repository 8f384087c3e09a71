-- What the backups show of a kept log is sound.
use Rattle.std.proofs.Common.{take, sym, ◌∙◌}
use Rattle.versioned_map.specs.History.{commands_of}
use Rattle.versioned_map.proofs.Versions.{safe_after}
use Rattle.log_laws.specs.Choice.{bag_of}
use Rattle.log_laws.specs.Laws.{KeptIsSound}
use Rattle.log_laws.proofs.Choices.{choice_stands}
use Rattle.log_laws.proofs.Replicas.{any_opening}
use Rattle.log_laws.proofs.Survivors.{surviving_choice}

pub kept_is_sound : KeptIsSound
kept_is_sound d p kept =
    let t = kept.texts in
    let mir = kept.held.mirrored in
    record {
      digests = λ b c s r q here there.
          any_opening d t kept.held.logged p.least b s r (mir.each b s r here)
          ∙ sym (any_opening d t kept.held.logged p.least c s q (mir.each c s q there));
      clean = λ keep c choice. (choice_stands d t p kept.held.logged mir kept.standing keep c choice).represents.clean;
      keys = λ keep c choice. (choice_stands d t p kept.held.logged mir kept.standing keep c choice).keys;
      prefix = λ keep c choice. let stands = choice_stands d t p kept.held.logged mir kept.standing keep c choice in (
        stands.count,
        record {
          durable = stands.durable;
          within = stands.within;
          meaning = stands.represents.meaning;
          safe = safe_after c.opening.safe (bag_of c) d.opening (take stands.count (commands_of d.history))
              stands.represents;
        },
      );
      choice = λ keep survive. surviving_choice d t p kept.held.some kept.held.logged mir keep survive;
    }
