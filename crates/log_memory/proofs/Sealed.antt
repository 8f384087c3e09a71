-- What backups hold of survivors, through steps that leave these as they are.
use Rattle.std.proofs.Common.{◌≡◌, ℕ, Bool, sym, ap, subst, ◌∙◌}
use Rattle.std.specs.Prelude.{Option, IsSome, filter}
use Rattle.entry.specs.Bag.{IsAmong}
use Rattle.entry.specs.Text.{is_data}
use Rattle.log_bytes.specs.log_laws.Memory.{Images, Index}
use Rattle.log_bytes.specs.log_laws.Text.{Text, Replica}
use Rattle.log_bytes.specs.log_laws.Shown.{Shown}
use Rattle.log_bytes.specs.log_laws.Data.{FailData, HasTaken}
use Rattle.log_bytes.specs.log_laws.Log.{Texts}
use Rattle.log_memory.specs.Intact.{AreSealed}
use Rattle.log_memory.specs.Memory.{FailMemory}

-- with images, texts and replicas of survivors as they were
pub still_sealed : (d e : FailData) (m : FailMemory) (texts other : Texts) (p q : Shown) (image : Images)
    (index : Index) (commits : Bool) → AreSealed d m texts p
    → ((s : ℕ) → IsAmong s m.pass.survivors → image s ≡ m.images s)
    → ((s : ℕ) → IsAmong s m.pass.survivors → other.text s ≡ texts.text s)
    → ((s : ℕ) → IsAmong s m.pass.survivors → other.images s ≡ texts.images s)
    → ((b s : ℕ) → IsAmong s m.pass.survivors → q.holds b s ≡ p.holds b s)
    → ((s b : ℕ) → IsAmong s m.pass.survivors → HasTaken e s b → HasTaken d s b)
    → AreSealed e (record m { images = image; index = index; commits = commits }) other q
still_sealed d e m texts other p q image index commits is image_same text_same one_same held_same took = record {
  bare = λ s survivor. ap (λ (t : Text). t.opening) (text_same s survivor) ∙ is.bare s survivor;
  one = λ s survivor. one_same s survivor ∙ is.one s survivor;
  each = λ s b r survivor there.
      let at = is.each s b r survivor (sym (held_same b s survivor) ∙ there) in
      record {
        done = at.done;
        image = ap (λ (t : Text). t.entries) (text_same s survivor) ∙ at.image
            ∙ sym (ap (filter is_data) (image_same s survivor));
        text = at.text ∙ sym (text_same s survivor);
        closed = at.closed;
      };
  held = λ s b survivor has_it.
      subst (λ (o : Option Replica). IsSome o) (sym (held_same b s survivor))
      (is.held s b survivor (took s b survivor has_it));
}
