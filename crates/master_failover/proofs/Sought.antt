-- A segment that is found to lack a replica has an image, and fewer replicas than it should have.
use Rattle.std.proofs.Common.{◌≡◌, inl, inr, ℕ, ◌<◌, Bool, true, false, List, [], ◌∷◌, refl, sym, ap, subst, ◌∙◌}
use Rattle.std.proofs.Common.{arith}
use Rattle.std.specs.Prelude.{Option, Some, None, IsSome, ◌==◌}
use Rattle.std.specs.Option.{option_map}
use Rattle.master_state.proofs.cleaner.Lacking.{lacking_is_one}
use Rattle.master_state.proofs.log_laws.CommitDigest.{all_in}
use Rattle.entry.specs.declared.entry.Entry.{Entry}
use Rattle.entry.specs.Bag.{IsAmong}
use Rattle.entry.proofs.ListLemmas.{all_among}
use Rattle.images.specs.Image.{Image}
use Rattle.images.specs.Sorted.{image_of, segment_of, replicas_of}
use Rattle.log_head.specs.declared.head.Roll.{Roll}
use Rattle.log_head.specs.Log.{head_of}
use Rattle.master_state.specs.Budget.{survivors_of}
use Rattle.master_state.specs.Data.{MasterData}
use Rattle.master_state.specs.Images.{new_image_or}
use Rattle.master_state.specs.Invariant.{IsCore, IsFailover}
use Rattle.master_state.specs.Log.{image_of as image_now}
use Rattle.master_state.proofs.Imaging.{ids_in, same_id, other_id}
use Rattle.master_state.proofs.LogIds.{others_below}
use Rattle.master_failover.specs.declared.push.Push.TheVariants as push
use Rattle.master_failover.specs.Mending.{IsNextMend}
use Rattle.master_failover.proofs.Changed.{own}

-- what has an id among theirs has an image
pub there : (cs : List Image) (s : ℕ) → IsAmong s (ids_in cs) → IsSome (image_of cs s)
there [] s m = absurd m
there (c ∷ cs) s m = go (c.id == s) refl m (there cs s) where
  go : (t : Bool) → (c.id == s) ≡ t → IsAmong s (c.id ∷ ids_in cs) → (IsAmong s (ids_in cs) → IsSome (image_of cs s))
      → IsSome (image_of (c ∷ cs) s)
  go true is m later = rw is refl
  go false is (inl same) later = absurd (let test = ap (λ (z : ℕ). z == s) same ∙ same_id s in cc)
  go false is (inr m) later = rw is (later m)

pub segment_there : (cs : List Image) (s : ℕ) → IsSome (image_of cs s) → IsSome (segment_of cs s)
segment_there cs s some = go (image_of cs s) some where
  go : (o : Option Image) → IsSome o → IsSome (option_map (λ (x : Image). x.segment) o)
  go None some = absurd (cc)
  go (Some x) some = refl

module _ (d : MasterData) (core : IsCore d) (s j : ℕ) (next : IsNextMend d (push.Repair s j)) where
  fails : IsFailover d next.0.0
  fails = own d core next.0.0 next.0.1

  pub is_other : IsAmong s (head_of d.head).start.others
  is_other = (lacking_is_one d.config.replicas d.closed (head_of d.head).start.others s j next.1).0

  pub held : j ≡ replicas_of d.closed s
  held = (lacking_is_one d.config.replicas d.closed (head_of d.head).start.others s j next.1).1

  pub fewer : j < d.config.replicas
  fewer = (lacking_is_one d.config.replicas d.closed (head_of d.head).start.others s j next.1).2

  pub older : s < d.head.id
  older = all_among (λ (z : ℕ). z < d.head.id) (head_of d.head).start.others s (others_below d core) is_other

  pub has_image : IsSome (image_of d.closed s)
  has_image =
      there d.closed s (subst (λ (ids : List ℕ). IsAmong s ids) (sym core.closed)
      (all_in (survivors_of d.pass) (head_of d.head).start.others s (inl is_other)))

  pub no_roll : d.head.roll ≡ None
  no_roll = (fails.repairs next.0.2).2

  pub image_is : image_now d s ≡ segment_of d.closed s
  image_is =
      (let lt = older in let away = other_id d.head.id s (λ same. omega arith) in rw away refl)
      ∙ ap (λ (o : Option Roll). new_image_or o s (segment_of d.closed s)) no_roll

  pub image_some : image_now d s ≡ None → ⊥
  image_some none =
      let some = segment_there d.closed s has_image in
      let never : IsSome {T = List Entry} None = subst IsSome (sym image_is ∙ none) some in
      cc
