-- A roll of a head is a roll of the log's head.
use Rattle.std.proofs.Common.{◌≡◌, ℕ, suc, Bool, true, false, List, [], ◌∷◌, length, refl, sym, ap, subst, ◌∙◌}
use Rattle.std.specs.Prelude.{Option, Some, None, IfSome, map, if◌then◌else◌}
use Rattle.std.proofs.lemmas.List.{append-nil}
use Rattle.entry.specs.declared.digest.Listed.{Listed}
use Rattle.entry.specs.declared.entry.Entry.{Entry}
use Rattle.entry.specs.Limits.{ids_in}
use Rattle.entry.specs.Text.{Opening, text_of, opening_of, lists_lengths, IsSegment}
use Rattle.log_laws.specs.Heads.{Start, Head, ids_of, start_entries}
use Rattle.log_laws.specs.Ids.{all_inserted, without}
use Rattle.log_laws.specs.HeadSteps.{new_head}
use Rattle.log_laws.proofs.ListedIds.{ids_listed}
use Rattle.log_head.specs.declared.head.Roll.{Roll}
use Rattle.log_head.specs.Head.{HeadValue, digest_in, digest_of}
use Rattle.log_head.specs.Log.{start_in, start_of, HasLens, head_of, IsImageOf, IsNewImage}
use Rattle.log_head.specs.Steps.{len_after, lens_after, start_after, fresh_roll, in_force}
use Rattle.log_head.proofs.HeadLog.{start_read, read_has, head_is}

-- ---- a roll begins

pub start_is : (master : ℕ) (n : Start) → HasLens n → start_of (fresh_roll master n) ≡ n
start_is master n has = start_read n has

pub opening_is : (master : ℕ) (n : Start) → HasLens n → IsNewImage master (fresh_roll master n)
opening_is master n has = ap (start_entries master) (sym (start_is master n has))

-- the digest lists as many lengths as ids
lens_any : (b : Bool) (len : ℕ → ℕ) (ids : List ℕ)
    → IfSome (if b then Some (map len ids) else None) (λ (ns : List ℕ). length ns ≡ length ids)
lens_any true len [] = refl
lens_any true len (s ∷ ids) = ap suc (lens_any true len ids)
lens_any false len ids = tt

pub lens_after_has : (head : ℕ) (image : List Entry) (survivors : List Listed) (others : List ℕ)
    → IfSome (lens_after head image survivors others) (λ (ns : List ℕ). length ns ≡ length others)
lens_after_has head image survivors others =
    lens_any (lists_lengths (digest_in image)) (len_after head image survivors) others

pub start_after_has : (h : HeadValue) (victims : List ℕ) (survivors : List Listed) (id safe : ℕ)
    → HasLens (start_after h victims survivors id safe)
start_after_has h victims survivors id safe =
    lens_after_has h.id h.image survivors (all_inserted (ids_in survivors) (without victims (digest_of h.image)))

-- an image of the log bears the digest of its head
pub digest_is : (master : ℕ) (h : HeadValue) (l : Head) → IsImageOf master h l → digest_of h.image ≡ ids_of l.start
digest_is master h l is = ap digest_of is.image ∙ ids_listed l.start

-- ---- the new head is in force

start_in_id : (id : ℕ) (o : Option Opening) → (start_in id o).id ≡ id
start_in_id id None = refl
start_in_id id (Some o) = refl

module _ (master : ℕ) (h : HeadValue) (r : Roll) (new : IsNewImage master r) (segment : IsSegment r.image) where
  in_force_image : IsImageOf master (in_force h r) (new_head h.replicas (start_of r))
  in_force_image = record {
    id = start_in_id r.id (opening_of r.image);
    lens = read_has r.id (opening_of r.image);
    image = new ∙ sym (append-nil (start_entries master (start_of r)));
    base = ap (λ (es : List Entry). length (text_of es)) new;
    ends = tt;
    taken = refl;
  }

  pub head_in_force : head_of (in_force h r) ≡ new_head h.replicas (start_of r)
  head_in_force = head_is master (in_force h r) (new_head h.replicas (start_of r)) in_force_image segment

  pub image_in_force : IsImageOf master (in_force h r) (head_of (in_force h r))
  image_in_force = subst (λ (l : Head). IsImageOf master (in_force h r) l) (sym head_in_force) in_force_image
