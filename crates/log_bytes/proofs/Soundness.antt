-- A picture that spells a sound picture of the model is sound.
use Rattle.std.proofs.Common.{List, take, max, sym, ap}
use Rattle.std.proofs.Common.{subst, ◌∙◌}
use Rattle.entry.specs.declared.entry.Entry.{Entry}
use Rattle.entry.specs.Text.{opening_in}
use Rattle.entry.specs.Meaning.{IsClean, IsMeaning, among, bound_of}
use Rattle.replica.specs.Choice.{Choice}
use Rattle.replica.specs.Picture.{Replica}
use Rattle.versioned_map.specs.History.{commands_of}
use Rattle.versioned_map.specs.Versioned.{IsSafeAfter}
use Rattle.log_laws.specs.Data.{state_after}
use Rattle.log_laws.specs.Log.{AreOfTablets}
use Rattle.log_bytes.specs.Choice.{choice_for}
use Rattle.log_bytes.specs.Laws.{SpelledIsSound}
use Rattle.log_bytes.proofs.Texts.{reads_opening}
use Rattle.log_bytes.proofs.Reading.{held_spelled, texts_held}
use Rattle.log_bytes.proofs.Choosing.{choice_is_spelled, spelled_is_choice}
use Rattle.log_bytes.proofs.Surviving.{survives_in_model}

pub spelled_is_sound : SpelledIsSound
spelled_is_sound master d shown p spelled sound = record {
  texts = texts_held master shown p spelled;
  digests = λ b c s r q here there.
      let x = held_spelled master shown p spelled b s r here in
      let y = held_spelled master shown p spelled c s q there in
      ap (λ (z : Replica). opening_in z.bytes) x.2
      ∙ reads_opening master s x.0.text (spelled.segments b s x.0 x.1) ∙ sound.digests b c s x.0 y.0 x.1 y.1
      ∙ sym (reads_opening master s y.0.text (spelled.segments c s y.0 y.1))
      ∙ sym (ap (λ (z : Replica). opening_in z.bytes) y.2);
  clean = λ keep c choice.
      let m = choice_is_spelled master shown p keep c spelled choice in
      subst (λ (es : List Entry). IsClean (among es)) (sym m.3) (sound.clean keep m.0 m.1);
  keys = λ keep c choice.
      let m = choice_is_spelled master shown p keep c spelled choice in
      subst (AreOfTablets d.config) (sym m.3) (sound.keys keep m.0 m.1);
  prefix = λ keep c choice.
      let m = choice_is_spelled master shown p keep c spelled choice in
      let stands = sound.prefix keep m.0 m.1 in
      let is = stands.1 in (
        stands.0,
        record {
          durable = is.durable;
          within = is.within;
          meaning = subst (λ (es : List Entry). IsMeaning (among es) (state_after d stands.0).contents) (sym m.3)
              is.meaning;
          safe = subst (IsSafeAfter d.opening (take stands.0 (commands_of d.history)))
              (λ i. max (sym (ap (λ (x : Choice). x.opening.safe) m.2) i) (bound_of (sym m.3 i))) is.safe;
        },
      );
  choice = λ keep newest is survive.
      let m = sound.choice keep (survives_in_model master d shown p keep newest spelled is survive) in
      (choice_for master m.0, spelled_is_choice master shown p keep m.0 spelled m.1);
}
