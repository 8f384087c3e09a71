-- The survivors that the digest of a commit takes in, each with its length in bytes.
use Rattle.std.proofs.Common.{◌≡◌, ℕ, zero, suc, ◌≤◌, Bool, true, false, List, [], ◌∷◌, length, refl, sym, ap, subst}
use Rattle.std.proofs.Common.{◌∙◌, arith}
use Rattle.std.specs.Prelude.{Option, Some, None, IfSome, ◌==◌, unwrap_or, if◌then◌else◌}
use Rattle.std.specs.List.{AllByRecursion, slice_get}
use Rattle.std.proofs.lemmas.Bool.{eqb-true}
use Rattle.std.proofs.lemmas.List.{length-append}
use Rattle.std.proofs.lemmas.Option.{same_Some}
use Rattle.cleaner.specs.declared.pass.Pass.{Pass}
use Rattle.cleaner.specs.Passes.{images_in}
use Rattle.log_memory.specs.log_laws.Intact.{BeginAsSurvivor}
use Rattle.entry.specs.declared.digest.Listed.{Listed}
use Rattle.entry.specs.declared.entry.Entry.{Entry}
use Rattle.entry.specs.declared.entry.Entry.TheVariants.{Header}
use Rattle.entry.specs.declared.entry.Role.TheVariants.{Survivor}
use Rattle.entry.specs.Bag.{IsAmong}
use Rattle.entry.specs.Format.{spelling}
use Rattle.entry.specs.Limits.{ids_in, IsListed, AreLengths}
use Rattle.entry.specs.Text.{text_of, len_in}
use Rattle.entry.proofs.LengthLemmas.{length-ids_in}
use Rattle.entry.proofs.ListLemmas.{all_from_among}
use Rattle.entry.proofs.SpellingLemmas.{length-header}
use Rattle.images.specs.Image.{Image}
use Rattle.images.specs.Sorted.{segment_of}
use Rattle.log_head.specs.declared.head.Roll.{Roll}
use Rattle.log_head.specs.log_laws.Ids.{has}
use Rattle.master_state.specs.Budget.{survivors_of}
use Rattle.master_state.specs.Data.{MasterData}
use Rattle.master_state.specs.Images.{new_image_or}
use Rattle.master_state.specs.Invariant.{IsOpenPass, IsSurvivor, IsCore}
use Rattle.master_state.specs.Log.{images_of}
use Rattle.master_state.specs.Steps.{listed_in}
use Rattle.master_state.proofs.Imaging.{other_id}
use Rattle.master_state.proofs.LogIds.{apart, survivors_rise, few_survivors}
use Rattle.master_state.proofs.Refusals.{sizes_of}
use Rattle.master_state.proofs.Rising.{Rise, increasing}

-- ---- segments with the bytes that they have

pub ids_listed_in : (closed : List Image) (ids : List ℕ) → ids_in (listed_in closed ids) ≡ ids
ids_listed_in closed [] = refl
ids_listed_in closed (s ∷ ids) = ap (λ (zs : List ℕ). s ∷ zs) (ids_listed_in closed ids)

pub len_listed_in : (closed : List Image) (ids : List ℕ) (s : ℕ) → len_in s (listed_in closed ids)
    ≡ (if has ids s then Some (length (text_of (images_in closed s))) else None)
len_listed_in closed [] s = refl
len_listed_in closed (z ∷ ids) s = go (z == s) refl (len_listed_in closed ids s) where
  go : (t : Bool) → (z == s) ≡ t
      → len_in s (listed_in closed ids) ≡ (if has ids s then Some (length (text_of (images_in closed s))) else None)
      → len_in s (listed_in closed (z ∷ ids))
      ≡ (if has (z ∷ ids) s then Some (length (text_of (images_in closed s))) else None)
  go true is later = rw is (ap (λ (x : ℕ). Some (length (text_of (images_in closed x)))) (eqb-true z s is))
  go false is later = rw is later

-- each of them is as a digest wants it
each_listed : (closed : List Image) (ids : List ℕ)
    → AllByRecursion (λ (s : ℕ). IsListed (record { id = s; len = length (text_of (images_in closed s)) })) ids
    → (i : ℕ) (x : Listed) → slice_get (listed_in closed ids) i ≡ Some x → IsListed x
each_listed closed [] all i x is = absurd (cc)
each_listed closed (s ∷ ids) all zero x is =
    subst IsListed (same_Some (record { id = s; len = length (text_of (images_in closed s)) }) x is) all.0
each_listed closed (s ∷ ids) all (suc i) x is = each_listed closed ids all.1 i x is

-- ---- survivors

-- a survivor has a header at least
begun_len : (master s : ℕ) (es : List Entry) → BeginAsSurvivor master s es → 18 ≤ length (text_of es)
begun_len master s es begins =
    let first = length-header (record { master = master; segment = s; role = Survivor }) in
    let parts = ap (λ (l : List Entry). length (text_of l)) begins.1
    ∙ length-append (spelling (Header (record { master = master; segment = s; role = Survivor }))) (text_of begins.0) in
    omega (arith, first, parts)

module _ (d : MasterData) (core : IsCore d) where
  pub survivor_of : (s : ℕ) → IsAmong s (survivors_of d.pass) → IsSurvivor d s
  survivor_of s m = go d.pass core.pass m where
    go : (o : Option Pass) → IfSome o (IsOpenPass d) → IsAmong s (survivors_of o) → IsSurvivor d s
    go None is m = absurd m
    go (Some p) is m = is.survivors.each s m

  -- it is no head, so its image is a closed one
  pub survivor_there : (s : ℕ) → IsAmong s (survivors_of d.pass) → images_of d s ≡ images_in d.closed s
  survivor_there s m =
      let away = other_id d.head.id s (apart d core s m).1 in
      rw away (go d.head.roll (survivor_of s m).not_new)
    where
      go : (o : Option Roll) → IfSome o (λ (r : Roll). (r.id == s) ≡ false)
          → unwrap_or (new_image_or o s (segment_of d.closed s)) [] ≡ images_in d.closed s
      go None not = refl
      go (Some r) not = rw not refl

  survivor_fits : (s : ℕ) → IsAmong s (survivors_of d.pass)
      → IsListed (record { id = s; len = length (text_of (images_in d.closed s)) })
  survivor_fits s m =
      let own = survivor_of s m in
      let used = own.used in
      let within = own.within in
      let next = core.next in
      let most = (sizes_of d.config core.config).most_segment in
      record {
        id = omega arith;
        least = begun_len d.config.master s (images_in d.closed s) own.begins;
        greatest = omega arith;
      }

  -- the survivors of the open pass, as a digest takes them in
  survivors_listed : AreLengths (listed_in d.closed (survivors_of d.pass))
  survivors_listed =
      let same = ids_listed_in d.closed (survivors_of d.pass) in
      let few = few_survivors d core in
      let count = sym (length-ids_in (listed_in d.closed (survivors_of d.pass))) ∙ ap length same in
      record {
        rise = increasing (ids_in (listed_in d.closed (survivors_of d.pass)))
            (subst Rise (sym same) (survivors_rise d core));
        count = omega arith;
        each = each_listed d.closed (survivors_of d.pass)
            (all_from_among (λ (s : ℕ). IsListed (record { id = s; len = length (text_of (images_in d.closed s)) }))
            (survivors_of d.pass) survivor_fits);
      }

  -- what a roll's digest takes in, if it is a commit's or isn't
  pub entering_listed : (b : Bool) → AreLengths (if b then listed_in d.closed (survivors_of d.pass) else [])
  entering_listed true = survivors_listed
  entering_listed false = record {
    rise = increasing [] tt;
    count = omega arith;
    each = λ i s is. absurd (cc);
  }
