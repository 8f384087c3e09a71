-- A head that is settled.
use Rattle.std.proofs.Common.{◌≡◌, ℕ, List, ◌++◌, length, sym, ap, subst, ◌∙◌, refl, arith}
use Rattle.std.specs.Prelude.{IfSome}
use Rattle.std.proofs.lemmas.List.{append-nil}
use Rattle.entry.specs.declared.entry.Entry.{Entry}
use Rattle.entry.specs.Text.{text_of, IsSegment}
use Rattle.log_laws.specs.Heads.{Head, start_entries, front_entries, head_entries}
use Rattle.log_laws.specs.HeadSteps.{no_units}
use Rattle.log_head.specs.Head.{HeadValue, IsHeadValue, IsRollValue}
use Rattle.log_head.specs.Steps.{settled}
use Rattle.log_head.specs.Log.{head_of, settled_head, IsImageOf}
use Rattle.log_head.proofs.HeadLog.{head_is}
use Rattle.log_head.proofs.Rolls.{zeros_length, zeros_few}

pub settled_valid : (h : HeadValue) → IsHeadValue h → IsHeadValue (settled h)
settled_valid h valid = record {
  segment = valid.segment;
  limit = valid.limit;
  units = refl;
  opened = (let size = zeros_length (length h.taken) in let few = valid.opened in omega arith);
  few = valid.few;
  taken = zeros_few (length h.taken);
  roll = subst (λ (n : ℕ). IfSome h.roll (IsRollValue h.replicas n)) (sym (zeros_length (length h.taken))) valid.roll;
}

module _ (master : ℕ) (h : HeadValue) (l : Head) (is : IsImageOf master h l) (segment : IsSegment h.image)
    (opened : length h.taken ≡ h.replicas) where
  settled_image : IsImageOf master (settled h) (settled_head h.replicas l)
  settled_image =
      let loaded = front_entries l (length l.units) in
      let image : h.image ≡ head_entries master (settled_head h.replicas l) 0 =
      is.image ∙ ap (λ (es : List Entry). start_entries master l.start ++ es) (sym (append-nil loaded)) in
      record {
        id = is.id;
        lens = is.lens;
        image = image;
        base = ap (λ (es : List Entry). length (text_of es)) image;
        ends = tt;
        taken = ap no_units (sym opened);
      }

  pub settled_is : head_of (settled h) ≡ settled_head h.replicas l
  settled_is = head_is master (settled h) (settled_head h.replicas l) settled_image segment

  pub image_settled : IsImageOf master (settled h) (head_of (settled h))
  image_settled = subst (λ (m : Head). IsImageOf master (settled h) m) (sym settled_is) settled_image
