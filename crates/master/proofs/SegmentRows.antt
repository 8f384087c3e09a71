-- What the rows of a core say of its segments.
use Rattle.std.proofs.Common.{◌≡◌, ℕ, ◌<◌, Bool, true, false, cond, List, [], length, get_or, refl, sym, ap, subst}
use Rattle.std.proofs.Common.{◌∙◌, arith}
use Rattle.std.specs.Prelude.{Option, Some, IfSome, unwrap_or}
use Rattle.std.specs.Option.{option_map}
use Rattle.entry.specs.declared.entry.Entry.{Entry}
use Rattle.entry.specs.Text.{text_of}
use Rattle.images.specs.Image.{Image}
use Rattle.images.specs.Sorted.{AreRising, segment_of}
use Rattle.images.proofs.Counts.{image_read}
use Rattle.images.proofs.Fronts.{own_place}
use Rattle.log_head.specs.declared.head.Roll.{Roll}
use Rattle.master_core.specs.cleaner.declared.pass.Pass.{Pass}
use Rattle.master_core.specs.cleaner.Passes.{survivor_ids}
use Rattle.compactor.specs.Kept.{has_id}
use Rattle.tally.specs.Fills.{kept_len}
use Rattle.master_core.specs.master_state.Data.{MasterData}
use Rattle.master_core.specs.master_state.Images.{new_image_or}
use Rattle.master_core.specs.master_state.Invariant.{IsCore, IsRollOf}
use Rattle.master_core.specs.master_state.Log.{images_of, log_set_ids}
use Rattle.master_core.proofs.master_state.Imaging.{same_id, other_id}
use Rattle.master.specs.declared.segments.Role.{Role}
use Rattle.master.specs.declared.segments.Role.TheVariants as role
use Rattle.master.specs.Segments.{role_of, image_row, head_row, opening_row}

-- ---- what a segment is

module _ (pass : Option Pass) (p : Pass) (id : ℕ) (is : pass ≡ Some p) where
  pub victim_role : has_id p.victims id ≡ true → role.Victim ≡ role_of pass id
  victim_role victim =
      ap (λ (b : Bool). cond b role.Victim (cond (has_id (survivor_ids p.survivors) id) role.Survivor role.Closed))
      (sym victim)
      ∙ ap (λ (o : Option Pass). role_of o id) (sym is)

  other_role : (b : Bool) → has_id p.victims id ≡ false → has_id (survivor_ids p.survivors) id ≡ b
      → cond b role.Survivor role.Closed ≡ role_of pass id
  other_role b none survivor =
      ap (λ (s : Bool). cond s role.Survivor role.Closed) (sym survivor)
      ∙ ap (λ (v : Bool). cond v role.Victim (cond (has_id (survivor_ids p.survivors) id) role.Survivor role.Closed))
      (sym none)
      ∙ ap (λ (o : Option Pass). role_of o id) (sym is)

  pub survivor_role : has_id p.victims id ≡ false → has_id (survivor_ids p.survivors) id ≡ true
      → role.Survivor ≡ role_of pass id
  survivor_role none survivor = other_role true none survivor

  pub closed_role : has_id p.victims id ≡ false → has_id (survivor_ids p.survivors) id ≡ false
      → role.Closed ≡ role_of pass id
  closed_role none survivor = other_role false none survivor

-- ---- images

-- memory has of the head its image
head_image : (d : MasterData) → images_of d d.head.id ≡ d.head.image
head_image d =
    ap (λ (b : Bool). unwrap_or (cond b (Some d.head.image) (new_image_or d.head.roll d.head.id (segment_of d.closed
    d.head.id))) []) (same_id d.head.id)

-- memory has of the head that a roll is opening its image
opening_image : (d : MasterData) (r : Roll) → IsCore d → d.head.roll ≡ Some r → images_of d r.id ≡ r.image
opening_image d r core is =
    let newer = (subst (λ (o : Option Roll). IfSome o (IsRollOf d)) is core.roll).newer in
    ap (λ (b : Bool). unwrap_or (cond b (Some d.head.image) (new_image_or d.head.roll r.id (segment_of d.closed r.id)))
    []) (other_id d.head.id r.id (λ same. omega arith))
    ∙ ap (λ (o : Option Roll). unwrap_or (new_image_or o r.id (segment_of d.closed r.id)) []) is
    ∙ ap (λ (b : Bool). unwrap_or (cond b (Some r.image) (segment_of d.closed r.id)) []) (same_id r.id)

-- what is read among the images is found by its id
pub read_there : (cs : List Image) (at : ℕ) (x : Image) → AreRising cs → at < length cs → x ≡ get_or cs at x
    → segment_of cs x.id ≡ Some x.segment
read_there cs at x rising lt read =
    ap (λ (o : Option Image). option_map (λ (y : Image). y.segment) o)
    (image_read cs x.id at x rising (own_place cs at x lt read) read)

-- ---- rows

module _ (d : MasterData) (what : Role) (id len kept replicas now : ℕ) (es : List Entry) (there : images_of d id ≡ es)
    (bytes : len ≡ length (text_of es)) (counted : kept ≡ kept_len (log_set_ids d) d.index id es)
    (held : replicas ≡ now) where
  row_is : record { id = id; role = what; len = len; kept = kept; replicas = replicas } ≡ image_row d what id es now
  row_is =
      let kept_is = counted ∙ ap (λ (xs : List Entry). kept_len (log_set_ids d) d.index id xs) (sym there) in
      λ i. record { id = id; role = what; len = bytes i; kept = kept_is i; replicas = held i }

pub head_row_is : (d : MasterData) (id len kept replicas : ℕ) (es : List Entry) → id ≡ d.head.id
    → es ≡ d.head.image → len ≡ length (text_of es) → kept ≡ kept_len (log_set_ids d) d.index id es
    → replicas ≡ length d.head.taken
    → record { id = id; role = role.Head; len = len; kept = kept; replicas = replicas } ≡ head_row d
head_row_is d id len kept replicas es own image bytes counted held =
    row_is d role.Head id len kept replicas (length d.head.taken) es
    (ap (images_of d) own ∙ head_image d ∙ sym image) bytes counted held
    ∙ (λ i. image_row d role.Head (own i) (image i) (length d.head.taken))

pub opening_row_is : (d : MasterData) (r : Roll) (len kept : ℕ) (es : List Entry) → IsCore d
    → d.head.roll ≡ Some r → es ≡ r.image → len ≡ length (text_of es)
    → kept ≡ kept_len (log_set_ids d) d.index r.id es
    → record { id = r.id; role = role.Opening; len = len; kept = kept; replicas = r.opened } ≡ opening_row d r
opening_row_is d r len kept es core under_way image bytes counted =
    row_is d role.Opening r.id len kept r.opened r.opened es (opening_image d r core under_way ∙ sym image) bytes
    counted refl
    ∙ (λ i. image_row d role.Opening r.id (image i) r.opened)
