-- How many ids and images are left when the victims are removed, and which of them are found.
use Rattle.std.proofs.Common.{◌≡◌, ℕ, ◌+◌, ◌<◌, ◌≤◌, Bool, true, false, List, [], ◌∷◌, length, refl, sym, ap, subst}
use Rattle.std.proofs.Common.{◌∙◌, arith}
use Rattle.std.specs.Prelude.{◌==◌, filter, nat_lt, sum_by, None}
use Rattle.std.specs.List.{AllByRecursion}
use Rattle.std.proofs.lemmas.Bool.{eqb-true, ltb-true}
use Rattle.std.proofs.lemmas.List.Sums.{sum_by-cons}
use Rattle.images.specs.Image.{Image}
use Rattle.images.specs.Sorted.{image_of}
use Rattle.log_head.specs.log_laws.Ids.{has, without}
use Rattle.master_state.specs.declared.waiting.Waiting.{Waiting}
use Rattle.master_state.specs.Images.{staying, leaving}
use Rattle.master_state.specs.Invariant.{AreApart}
use Rattle.master_state.proofs.Imaging.{ids_in, same_id, other_id}
use Rattle.master_state.proofs.Rising.{Rise}

-- ---- one victim

-- all but this id
abbrev pub but : ℕ → List ℕ → List ℕ
but v ids = without (v ∷ []) ids

-- it leaves one place at least if it is there
but_short : (v : ℕ) (ids : List ℕ) → length (but v ids) ≤ length ids
but_short v [] = omega arith
but_short v (z ∷ ids) = go (v == z) refl (but_short v ids) where
  go : (t : Bool) → (v == z) ≡ t → length (but v ids) ≤ length ids → length (but v (z ∷ ids)) ≤ length (z ∷ ids)
  go true is later = rw is (omega arith)
  go false is later = rw is (omega arith)

but_shorter : (v : ℕ) (ids : List ℕ) → has ids v ≡ true → length (but v ids) + 1 ≤ length ids
but_shorter v [] is = absurd (cc)
but_shorter v (z ∷ ids) is = go (v == z) refl (but_short v ids) (but_shorter v ids) where
  go : (t : Bool) → (v == z) ≡ t → length (but v ids) ≤ length ids
      → (has ids v ≡ true → length (but v ids) + 1 ≤ length ids)
      → length (but v (z ∷ ids)) + 1 ≤ length (z ∷ ids)
  go true here short later = rw here (omega arith)
  go false away short later =
      let other : (z == v) ≡ false = other_id z v (λ e. (let same : (v == z) ≡ true = ap (λ (n : ℕ). v == n) e
      ∙ same_id v in cc)) in
      let there : has ids v ≡ true = rw other at is in
      let less = later there in
      rw away (omega arith)

-- ---- several

without_both : (v : ℕ) (vs ids : List ℕ) → without (v ∷ vs) ids ≡ but v (without vs ids)
without_both v vs [] = refl
without_both v vs (z ∷ ids) = go (v == z) refl (has vs z) refl (without_both v vs ids) where
  go : (t : Bool) → (v == z) ≡ t → (u : Bool) → has vs z ≡ u → without (v ∷ vs) ids ≡ but v (without vs ids)
      → without (v ∷ vs) (z ∷ ids) ≡ but v (without vs (z ∷ ids))
  go true is true is' later = rw (is, is') later
  go true is false is' later = rw (is, is') (rw is later)
  go false is true is' later = rw (is, is') later
  go false is false is' later = rw (is, is') (rw is (ap (λ (zs : List ℕ). z ∷ zs) later))

still_has : (v : ℕ) (vs ids : List ℕ) → has vs v ≡ false → has ids v ≡ true → has (without vs ids) v ≡ true
still_has v vs [] out is = is
still_has v vs (z ∷ ids) out is = go (z == v) refl (has vs z) refl (still_has v vs ids out) where
  go : (t : Bool) → (z == v) ≡ t → (u : Bool) → has vs z ≡ u → (has ids v ≡ true → has (without vs ids) v ≡ true)
      → has (without vs (z ∷ ids)) v ≡ true
  go true here true goes later =
      let same = ap (has vs) (sym (eqb-true z v here)) ∙ goes in
      let never : false ≡ true = sym out ∙ same in
      absurd (cc)
  go true here false goes later = rw (goes, here) refl
  go false away true goes later = (let rest : has ids v ≡ true = rw away at is in rw goes (later rest))
  go false away false goes later = (let rest : has ids v ≡ true = rw away at is in rw (goes, away) (later rest))

-- victims, each there and told once, leave as many places
pub length_left : (vs ids : List ℕ) → AreApart vs → AllByRecursion (λ (s : ℕ). has ids s ≡ true) vs
    → length (without vs ids) + length vs ≤ length ids
length_left [] ids apart there = whole ids where
  whole : (zs : List ℕ) → length (without [] zs) + 0 ≤ length zs
  whole [] = omega arith
  whole (z ∷ zs) = (let later = whole zs in omega arith)
length_left (v ∷ vs) ids apart there =
    let all = length_left vs ids apart.1 there.1 in
    let less = but_shorter v (without vs ids) (still_has v vs ids apart.0 there.0) in
    let both : length (without (v ∷ vs) ids) ≡ length (but v (without vs ids)) = ap length (without_both v vs ids) in
    omega arith

-- ---- victims among ids that rise

-- those of the ids that are victims
abbrev pub only : List ℕ → List ℕ → List ℕ
only vs ids = filter (λ (id : ℕ). has vs id) ids

only_none : (ids : List ℕ) → only [] ids ≡ []
only_none [] = refl
only_none (z ∷ ids) = only_none ids

only_more : (v : ℕ) (vs ids : List ℕ) → length (only (v ∷ vs) ids) ≤ length (only (v ∷ []) ids) + length (only vs ids)
only_more v vs [] = omega arith
only_more v vs (z ∷ ids) = go (v == z) refl (has vs z) refl (only_more v vs ids) where
  go : (t : Bool) → (v == z) ≡ t → (u : Bool) → has vs z ≡ u
      → length (only (v ∷ vs) ids) ≤ length (only (v ∷ []) ids) + length (only vs ids)
      → length (only (v ∷ vs) (z ∷ ids)) ≤ length (only (v ∷ []) (z ∷ ids)) + length (only vs (z ∷ ids))
  go true is true is' later = rw (is, is') (omega arith)
  go true is false is' later = rw (is, is') (omega arith)
  go false is true is' later = rw (is, is') (omega arith)
  go false is false is' later = rw (is, is') (omega arith)

only_never : (v : ℕ) (ids : List ℕ) → AllByRecursion (λ (z : ℕ). v < z) ids → only (v ∷ []) ids ≡ []
only_never v [] all = refl
only_never v (z ∷ ids) all =
    let lt = all.0 in
    let test : (v == z) ≡ false = other_id v z (λ (e : v ≡ z). omega arith) in
    rw test (only_never v ids all.1)

only_once : (v : ℕ) (ids : List ℕ) → Rise ids → length (only (v ∷ []) ids) ≤ 1
only_once v [] rise = omega arith
only_once v (z ∷ ids) rise = go (v == z) refl (only_once v ids rise.1) where
  go : (t : Bool) → (v == z) ≡ t → length (only (v ∷ []) ids) ≤ 1 → length (only (v ∷ []) (z ∷ ids)) ≤ 1
  go true is later =
      let same : v ≡ z = eqb-true v z is in
      let none = only_never v ids (subst (λ (n : ℕ). AllByRecursion (λ (x : ℕ). n < x) ids) (sym same) rise.0) in
      let count : length (only (v ∷ []) ids) ≡ 0 = ap length none in
      rw is (omega arith)
  go false is later = rw is later

-- no more of them are there than were told
pub only_few : (vs ids : List ℕ) → Rise ids → length (only vs ids) ≤ length vs
only_few [] ids rise = (let none : length (only [] ids) ≡ 0 = ap length (only_none ids) in omega arith)
only_few (v ∷ vs) ids rise =
    let more = only_more v vs ids in
    let once = only_once v ids rise in
    let few = only_few vs ids rise in
    omega arith

-- ---- images

pub staying_ids : (victims : List ℕ) (cs : List Image) → ids_in (staying victims cs) ≡ without victims (ids_in cs)
staying_ids victims [] = refl
staying_ids victims (c ∷ cs) = go (has victims c.id) refl (staying_ids victims cs) where
  go : (t : Bool) → has victims c.id ≡ t → ids_in (staying victims cs) ≡ without victims (ids_in cs)
      → ids_in (staying victims (c ∷ cs)) ≡ without victims (ids_in (c ∷ cs))
  go true is later = rw is later
  go false is later = rw is (ap (λ (zs : List ℕ). c.id ∷ zs) later)

pub staying_all : (P : Image → Type 0) (victims : List ℕ) (cs : List Image) → AllByRecursion P cs
    → AllByRecursion P (staying victims cs)
staying_all P victims [] all = tt
staying_all P victims (c ∷ cs) all = go (has victims c.id) refl (staying_all P victims cs all.1) where
  go : (t : Bool) → has victims c.id ≡ t → AllByRecursion P (staying victims cs)
      → AllByRecursion P (staying victims (c ∷ cs))
  go true is later = rw is later
  go false is later = rw is (all.0, later)

pub staying_sum : (f : Image → ℕ) (victims : List ℕ) (cs : List Image) → sum_by f (staying victims cs) ≤ sum_by f cs
staying_sum f victims [] = omega arith
staying_sum f victims (c ∷ cs) = go (has victims c.id) refl (staying_sum f victims cs) where
  go : (t : Bool) → has victims c.id ≡ t → sum_by f (staying victims cs) ≤ sum_by f cs
      → sum_by f (staying victims (c ∷ cs)) ≤ sum_by f (c ∷ cs)
  go true is later = rw is (let whole = sum_by-cons f c cs in omega arith)
  go false is later = rw is (let whole = sum_by-cons f c cs in
      let left = sum_by-cons f c (staying victims cs) in omega arith)

-- a victim isn't found any more, and any other is found as before
pub stays_found : (victims : List ℕ) (s : ℕ) (cs : List Image) → has victims s ≡ false
    → image_of (staying victims cs) s ≡ image_of cs s
stays_found victims s [] stays = refl
stays_found victims s (c ∷ cs) stays = go (has victims c.id) refl (c.id == s) refl
    (stays_found victims s cs stays) where
      go : (t : Bool) → has victims c.id ≡ t → (u : Bool) → (c.id == s) ≡ u
          → image_of (staying victims cs) s ≡ image_of cs s
          → image_of (staying victims (c ∷ cs)) s ≡ image_of (c ∷ cs) s
      go true is true same later =
          let gone = ap (has victims) (sym (eqb-true c.id s same)) ∙ is in
          let never : false ≡ true = sym stays ∙ gone in
          absurd (cc)
      go true is false other later = rw (is, other) later
      go false is true same later = rw (is, same) refl
      go false is false other later = rw (is, other) later

pub leaves_gone : (victims : List ℕ) (s : ℕ) (cs : List Image) → has victims s ≡ true
    → image_of (staying victims cs) s ≡ None
leaves_gone victims s [] goes = refl
leaves_gone victims s (c ∷ cs) goes = go (has victims c.id) refl (leaves_gone victims s cs goes) where
  go : (t : Bool) → has victims c.id ≡ t → image_of (staying victims cs) s ≡ None
      → image_of (staying victims (c ∷ cs)) s ≡ None
  go true is later = rw is later
  go false is later =
      let other : (c.id == s) ≡ false = other_id c.id s (λ e.
      (let same : has victims c.id ≡ true = ap (has victims) e ∙ goes in cc)) in
      rw (is, other) later

-- no more wait than victims are there
leaving_held : (victims : List ℕ) (cs : List Image)
    → length (leaving victims cs) ≤ length (only victims (ids_in cs))
leaving_held victims [] = omega arith
leaving_held victims (c ∷ cs) = go (has victims c.id) refl (nat_lt 0 c.replicas) refl (leaving_held victims cs) where
  go : (t : Bool) → has victims c.id ≡ t → (u : Bool) → nat_lt 0 c.replicas ≡ u
      → length (leaving victims cs) ≤ length (only victims (ids_in cs))
      → length (leaving victims (c ∷ cs)) ≤ length (only victims (ids_in (c ∷ cs)))
  go true is true held later = rw (is, held) (omega arith)
  go true is false held later = rw (is, held) (omega arith)
  go false is u held later = rw is later

pub leaving_few : (victims : List ℕ) (cs : List Image) → Rise (ids_in cs) → length (leaving victims cs) ≤ length victims
leaving_few victims cs rise =
    let held = leaving_held victims cs in let few = only_few victims (ids_in cs) rise in omega arith

-- each of them has a replica that is to be freed, and no more than images have
pub leaving_valid : (victims : List ℕ) (most : ℕ) (cs : List Image)
    → AllByRecursion (λ (c : Image). c.replicas ≤ most) cs
    → AllByRecursion (λ (w : Waiting). (w.freed < w.replicas) × (w.replicas ≤ most)) (leaving victims cs)
leaving_valid victims most [] all = tt
leaving_valid victims most (c ∷ cs) all =
    go (has victims c.id) refl (nat_lt 0 c.replicas) refl (leaving_valid victims most cs all.1)
  where
    go : (t : Bool) → has victims c.id ≡ t → (u : Bool) → nat_lt 0 c.replicas ≡ u
        → AllByRecursion (λ (w : Waiting). (w.freed < w.replicas) × (w.replicas ≤ most)) (leaving victims cs)
        → AllByRecursion (λ (w : Waiting). (w.freed < w.replicas) × (w.replicas ≤ most)) (leaving victims (c ∷ cs))
    go true is true held later = rw (is, held) ((ltb-true 0 c.replicas held, all.0), later)
    go true is false held later = rw (is, held) later
    go false is u held later = rw is later
