-- A walk over the closed segments finds just the candidates, and the best of them.
use Rattle.std.proofs.Common.{◌≡◌, ℕ, ◌+◌, ◌-◌, ◌<◌, ◌≤◌, Bool, true, false, cond, List, [], ◌∷◌, ◌++◌, map, length}
use Rattle.std.proofs.Common.{take, drop, get_or, refl, sym, ap, subst, ◌∙◌, inl, inr, add-one, drop-cons, arith}
use Rattle.std.specs.Prelude.{Option, Some, None, IfSome, unwrap_or, filter, not, nat_lt, ◌==◌, ◌||◌, if◌then◌else◌}
use Rattle.std.specs.List.{AllByRecursion}
use Rattle.std.specs.Option.{option_map_or}
use Rattle.entry.specs.declared.entry.Entry.{Entry}
use Rattle.entry.specs.Bag.{IsAmong}
use Rattle.entry.specs.Text.{text_of, is_data}
use Rattle.entry.proofs.BagLemmas.{among_image}
use Rattle.entry.proofs.ListLemmas.{all_among, all_from_among}
use Rattle.compactor.specs.Kept.{has_id, kept_of}
use Rattle.images.specs.Image.{Image}
use Rattle.images.specs.Sorted.{AreRising, segment_of}
use Rattle.master_state.proofs.log_laws.KeptEntries.{is_has, has_is}
use Rattle.log_head.specs.declared.head.Roll.{Roll}
use Rattle.log_head.specs.Log.{head_of}
use Rattle.log_head.proofs.RollLog.{digest_is}
use Rattle.log_head.specs.log_laws.Ids.{has, inserted, all_inserted}
use Rattle.master_space.specs.declared.candidates.Candidate.{Candidate}
use Rattle.master_state.specs.Budget.{survivors_of}
use Rattle.master_state.specs.Causes.{is_head}
use Rattle.master_space.specs.Choosing.{placed, sorted, older_ids, kept_bytes, candidates}
use Rattle.master_state.specs.Data.{MasterData}
use Rattle.master_state.specs.Invariant.{IsCore, IsRollOf}
use Rattle.master_state.specs.Log.{log_set_ids, images_of}
use Rattle.master_state.proofs.Imaging.{same_id, other_id}
use Rattle.master_state.proofs.LogIds.{apart}
use Rattle.master_state.proofs.Rising.{has_all}
use Rattle.master_state.proofs.FreeVictims.{has_id_is}
use Rattle.master_space.proofs.Ordering.{best_placed}
use Rattle.master_state.proofs.PassIds.{IsNotNew, closed_only, others, others_below}

-- ---- the walk

-- what a closed segment keeps
abbrev pub candidate_of : MasterData → Image → Candidate
candidate_of d c =
    record { id = c.id; kept = length (text_of (filter is_data (kept_of (log_set_ids d) d.index c.id c.segment))) }

-- the candidates among some closed segments: all but the survivors
abbrev pub of_images : MasterData → List Image → List Candidate
of_images d [] = []
of_images d (c ∷ cs) = if has_id (survivors_of d.pass) c.id then of_images d cs else candidate_of d c ∷ of_images d cs

-- the best of those from a place on
abbrev pub best_from : MasterData → List Image → ℕ → List Candidate
best_from d cs i = take 32 (sorted (of_images d (drop i cs)))

-- one more of them, a place before
module _ (d : MasterData) (cs : List Image) (i : ℕ) (z : Image) (lt : i < length cs) where
  abbrev c : Image
  c = get_or cs i z

  split : drop i cs ≡ c ∷ drop (i + 1) cs
  split = rw add-one (drop-cons cs i z lt)

  best_passed : has_id (survivors_of d.pass) c.id ≡ true → best_from d cs (i + 1) ≡ best_from d cs i
  best_passed is =
      ap (λ (b : Bool). take 32 (sorted (cond b (of_images d (drop (i + 1) cs))
      (candidate_of d c ∷ of_images d (drop (i + 1) cs))))) (sym is)
      ∙ ap (λ (xs : List Image). take 32 (sorted (of_images d xs))) (sym split)

  best_with : has_id (survivors_of d.pass) c.id ≡ false → take 32 (placed (candidate_of d c) (best_from d cs (i + 1)))
      ≡ best_from d cs i
  best_with isnt =
      best_placed 32 (candidate_of d c) (sorted (of_images d (drop (i + 1) cs)))
      ∙ ap (λ (b : Bool). take 32 (sorted (cond b (of_images d (drop (i + 1) cs))
      (candidate_of d c ∷ of_images d (drop (i + 1) cs))))) (sym isnt)
      ∙ ap (λ (xs : List Image). take 32 (sorted (of_images d xs))) (sym split)

-- nothing is taken at the end
pub best_end : (d : MasterData) (cs : List Image) → best_from d cs (length cs) ≡ []
best_end d cs = ap (λ (xs : List Image). take 32 (sorted (of_images d xs))) (none_left cs) where
  none_left : (xs : List Image) → drop (length xs) xs ≡ []
  none_left [] = refl
  none_left (x ∷ xs) = none_left xs

-- a walk from the end
module _ (d : MasterData) (cs : List Image) (n : ℕ) (z : Image) (some : 0 < n) (le : n ≤ length cs)
    (at : z ≡ get_or cs (n - 1) z) where
  again : (n - 1) + 1 ≡ n
  again = omega arith

  pub walk_passed : has_id (survivors_of d.pass) z.id ≡ true → best_from d cs n ≡ best_from d cs (n - 1)
  walk_passed is =
      ap (best_from d cs) (sym again)
      ∙ best_passed d cs (n - 1) z (omega arith) (subst (λ (x : Image). has_id (survivors_of d.pass) x.id ≡ true) at is)

  pub walk_placed : (x : Candidate) → x ≡ candidate_of d z → has_id (survivors_of d.pass) z.id ≡ false
      → take 32 (placed x (best_from d cs n)) ≡ best_from d cs (n - 1)
  walk_placed x is isnt =
      (λ i. take 32 (placed ((is ∙ ap (candidate_of d) at) i) (best_from d cs (sym again i))))
      ∙ best_with d cs (n - 1) z (omega arith) (subst (λ (y : Image). has_id
      (survivors_of d.pass) y.id ≡ false) at isnt)

-- ---- which they are

-- each closed segment is found by its id
each_found : (cs : List Image) → AreRising cs → AllByRecursion (λ (c : Image). segment_of cs c.id ≡ Some c.segment) cs
each_found [] rising = tt
each_found (c ∷ cs) rising = (
  (let own = same_id c.id in rw own refl),
  all_from_among (λ (x : Image). segment_of (c ∷ cs) x.id ≡ Some x.segment) cs (λ x m. (
      let lt = all_among (λ (y : Image). c.id < y.id) cs x rising.0 m in
      let away : (c.id == x.id) ≡ false = other_id c.id x.id (λ same. omega arith) in
      let found = all_among (λ (y : Image). segment_of cs y.id ≡ Some y.segment) cs x (each_found cs rising.1) m in
      rw away found)),
)

-- ids without the survivors'
module _ (stays : ℕ → Bool) where
  one_out : (s : ℕ) (ids : List ℕ) → stays s ≡ false → filter stays (inserted s ids) ≡ filter stays ids
  one_out s [] goes = ap (λ (b : Bool). cond b (s ∷ []) []) goes
  one_out s (z ∷ ids) goes = go (nat_lt s z) (one_out s ids goes)
    where
      go : (b : Bool) → filter stays (inserted s ids) ≡ filter stays ids
          → filter stays (cond b (s ∷ z ∷ ids) (z ∷ inserted s ids)) ≡ filter stays (z ∷ ids)
      go true later = ap (λ (t : Bool). cond t (s ∷ filter stays (z ∷ ids)) (filter stays (z ∷ ids))) goes
      go false later = ap (λ (zs : List ℕ). cond (stays z) (z ∷ zs) zs) later

  more_out : (more ids : List ℕ) → ((s : ℕ) → IsAmong s more → stays s ≡ false)
      → filter stays (all_inserted more ids) ≡ filter stays ids
  more_out [] ids go = refl
  more_out (s ∷ more) ids go =
      one_out s (all_inserted more ids) (go s (inl refl)) ∙ more_out more ids (λ x m. go x (inr m))

  all_stay : (ids : List ℕ) → ((s : ℕ) → IsAmong s ids → stays s ≡ true) → filter stays ids ≡ ids
  all_stay [] stay = refl
  all_stay (z ∷ ids) stay =
      ap (λ (b : Bool). cond b (z ∷ filter stays ids) (filter stays ids)) (stay z (inl refl))
      ∙ ap (λ (zs : List ℕ). z ∷ zs) (all_stay ids (λ s m. stay s (inr m)))

among_has : (ids : List ℕ) (s : ℕ) → IsAmong s ids → has_id ids s ≡ true
among_has ids s m = has_id_is ids s ∙ has_is ids s m

-- none of the survivors is one of the others
not_both : (more ids : List ℕ) → ((s : ℕ) → IsAmong s more → has ids s ≡ false) → (s : ℕ) → IsAmong s ids
    → has_id more s ≡ false
not_both more ids out s m = go (has_id more s) refl
  where
    go : (b : Bool) → has_id more s ≡ b → b ≡ false
    go false is = refl
    go true is =
        let there = is_has more s (sym (has_id_is more s) ∙ is) in
        let never : false ≡ true = sym (out s there) ∙ sym (has_id_is ids s) ∙ among_has ids s m in
        absurd (cc)

survivors_out : (more ids : List ℕ) → ((s : ℕ) → IsAmong s more → has ids s ≡ false)
    → filter (λ (id : ℕ). not (has_id more id)) (all_inserted more ids) ≡ ids
survivors_out more ids out =
    more_out (λ (id : ℕ). not (has_id more id)) more ids (λ s m. ap (λ (b : Bool). not b) (among_has more s m))
    ∙ all_stay (λ (id : ℕ). not (has_id more id)) ids (λ s m. ap (λ (b : Bool). not b) (not_both more ids out s m))

-- what is there but is no survivor is one of the others
among_rest : (more ids : List ℕ) (s : ℕ) → IsAmong s (all_inserted more ids) → has_id more s ≡ false → IsAmong s ids
among_rest more ids s m away =
    is_has ids s (sym (ap (λ (b : Bool). b || has ids s) (sym (has_id_is more s) ∙ away)) ∙ sym (has_all more ids s)
    ∙ sym (has_id_is (all_inserted more ids) s) ∙ among_has (all_inserted more ids) s m)

module _ (d : MasterData) (core : IsCore d) (rising : AreRising d.closed) where
  -- the closed segments but the survivors are the older ones of the digest
  closed_others : filter (λ (id : ℕ). not (has_id (survivors_of d.pass) id))
      (map (λ (c : Image). c.id) d.closed) ≡ others d core
  closed_others =
      ap (filter (λ (id : ℕ). not (has_id (survivors_of d.pass) id))) core.closed
      ∙ survivors_out (survivors_of d.pass) (others d core) (λ s m. (apart d core s m).0)

  no_head : (s : ℕ) → s < d.head.id → is_head d.head s ≡ false
  no_head s lt = let away : (d.head.id == s) ≡ false = other_id d.head.id s (λ same. omega arith) in
      rw away (go d.head.roll core.roll)
    where
      go : (o : Option Roll) → IfSome o (IsRollOf d) → option_map_or (λ (r : Roll). r.id == s) o false ≡ false
      go None rolls = refl
      go (Some r) rolls = let newer = rolls.newer in other_id r.id s (λ same. omega arith)

  not_new : (s : ℕ) → s < d.head.id → IsNotNew d.head.roll s
  not_new s lt = go d.head.roll core.roll where
    go : (o : Option Roll) → IfSome o (IsRollOf d) → IsNotNew o s
    go None rolls = tt
    go (Some r) rolls = let newer = rolls.newer in other_id r.id s (λ same. omega arith)

  older_are : older_ids d ≡ others d core
  older_are =
      ap (filter (λ (id : ℕ). not (is_head d.head id))) (digest_is d.config.master d.head (head_of d.head) core.image)
      ∙ front (others d core) (others_below d core)
    where
      front : (ids : List ℕ) → AllByRecursion (λ (id : ℕ). id < d.head.id) ids
          → filter (λ (id : ℕ). not (is_head d.head id)) (ids ++ (head_of d.head).start.id ∷ []) ≡ ids
      front [] all =
          let own : (d.head.id == (head_of d.head).start.id) ≡ true =
          ap (λ (z : ℕ). d.head.id == z) core.image.id ∙ same_id d.head.id in rw own refl
      front (z ∷ ids) all =
          let away = no_head z all.0 in rw away (ap (λ (xs : List ℕ). z ∷ xs) (front ids all.1))

  -- what memory has of a segment that is no survivor
  kept_is : (c : Image) → IsAmong c d.closed → has_id (survivors_of d.pass) c.id ≡ false
      → kept_bytes d c.id ≡ (candidate_of d c).kept
  kept_is c m away =
      ap (λ (es : List Entry). length (text_of (filter is_data (kept_of (log_set_ids d) d.index c.id es)))) image
    where
      below : c.id < d.head.id
      below =
          all_among (λ (id : ℕ). id < d.head.id) (others d core) c.id (others_below d core)
          (among_rest (survivors_of d.pass) (others d core) c.id
          (subst (λ (ids : List ℕ). IsAmong c.id ids) core.closed
          (among_image (λ (x : Image). x.id) d.closed c m)) away)

      image : images_of d c.id ≡ c.segment
      image =
          closed_only d c.id (other_id d.head.id c.id (λ same. omega (arith, below))) (not_new c.id below) d.closed
          ∙ ap (λ (o : Option (List Entry)). unwrap_or o [])
          (all_among (λ (x : Image). segment_of d.closed x.id ≡ Some x.segment) d.closed c
          (each_found d.closed rising) m)

  pub candidates_are : candidates d ≡ of_images d d.closed
  candidates_are =
      ap (map (λ (id : ℕ). record { id = id; kept = kept_bytes d id })) (older_are ∙ sym closed_others)
      ∙ each d.closed (λ c m. m)
    where
      one : (t : Bool) (c : Image) (ids : List ℕ) (xs : List Candidate)
          → (t ≡ false → kept_bytes d c.id ≡ (candidate_of d c).kept)
          → map (λ (id : ℕ). record { id = id; kept = kept_bytes d id }) ids ≡ xs
          → map (λ (id : ℕ). record { id = id; kept = kept_bytes d id }) (cond (not t) (c.id ∷ ids) ids)
          ≡ cond t xs (candidate_of d c ∷ xs)
      one true c ids xs kept later = later
      one false c ids xs kept later = λ i. record { id = c.id; kept = kept refl i } ∷ later i

      each : (cs : List Image) → ((c : Image) → IsAmong c cs → IsAmong c d.closed)
          → map (λ (id : ℕ). record { id = id; kept = kept_bytes d id })
          (filter (λ (id : ℕ). not (has_id (survivors_of d.pass) id)) (map (λ (c : Image). c.id) cs)) ≡ of_images d cs
      each [] among = refl
      each (c ∷ cs) among =
          one (has_id (survivors_of d.pass) c.id) c
          (filter (λ (id : ℕ). not (has_id (survivors_of d.pass) id)) (map (λ (x : Image). x.id) cs)) (of_images d cs)
          (λ away. kept_is c (among c (inl refl)) away) (each cs (λ x m. among x (inr m)))
