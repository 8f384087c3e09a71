-- Which segments may be the victims of a pass.
use Rattle.std.proofs.Common.{◌≡◌, ℕ, take, drop, get_or, add-one, drop-cons, ◌+◌, ◌<◌, ◌≤◌, Bool, true, false, cond}
use Rattle.std.proofs.Common.{List, [], ◌∷◌, ◌++◌, length, refl, sym, ap, ◌∙◌, arith}
use Rattle.std.specs.Prelude.{Option, Some, None, is_some, not, nat_le, nat_lt, ◌==◌, ◌||◌, ◌^◌, if◌then◌else◌}
use Rattle.std.specs.List.{AllByRecursion}
use Rattle.std.specs.Option.{option_map, option_map_or}
use Rattle.std.proofs.lemmas.Bool.{eqb-true, not-false, ltb-false, or_right, leb-true, leb-false, lt-ltb, le-ltb}
use Rattle.std.proofs.lemmas.Bool.Decides.{nat_tests}
use Rattle.std.proofs.lemmas.List.{take_more, drop_all}
use Rattle.std.proofs.lemmas.List.Folds.{list_any-append}
use Rattle.std.proofs.lemmas.Option.{same_Some}
use Rattle.cleaner.specs.declared.fault.PassFault.{PassFault}
use Rattle.cleaner.specs.declared.fault.PassFault.TheVariants.{IsHead, NotInLog, PassOpen, NoVictims, TooMany, TooMuch}
use Rattle.cleaner.specs.declared.fault.PassFault.TheVariants.{Twice}
use Rattle.cleaner.specs.declared.fitting.PassSize.{PassSize}
use Rattle.cleaner.specs.declared.pass.Pass.{Pass as OpenPass}
use Rattle.cleaner.specs.compactor.Kept.{has_id}
use Rattle.log_head.specs.Head.{digest_of}
use Rattle.log_head.specs.log_laws.Ids.{has}
use Rattle.master_state.specs.declared.step.Refusal.{Refusal}
use Rattle.master_state.specs.declared.step.Refusal.TheVariants.{Full, SegmentsSpent, Pass}
use Rattle.master_state.specs.Budget.{may_clean}
use Rattle.master_state.specs.Causes.{is_head, victim_fault, victims_fault, survivors_for, space_refusal, clean_refusal}
use Rattle.master_state.specs.Causes.{step_refusal}
use Rattle.master_state.specs.Data.{MasterData}
use Rattle.master_state.specs.Invariant.{AreApart}
use Rattle.master_state.proofs.Imaging.{same_id}
use Rattle.master_state.proofs.Refusals.{passes}
use Rattle.master_state.proofs.Calm.{passes_first}

-- ---- lists of ids

pub has_id_is : (ids : List ℕ) (s : ℕ) → has_id ids s ≡ has ids s
has_id_is [] s = refl
has_id_is (z ∷ ids) s = ap (λ (b : Bool). (z == s) || b) (has_id_is ids s)

-- one more id in front, or at the end
pub front_or_end : (ids : List ℕ) (id z : ℕ) → has_id (id ∷ ids) z ≡ has_id (ids ++ id ∷ []) z
front_or_end ids id z = go (id == z) (has_id ids z) ∙ sym (list_any-append (λ (x : ℕ). x == z) ids (id ∷ [])) where
  go : (a b : Bool) → (a || b) ≡ (b || (a || false))
  go true true = refl
  go true false = refl
  go false true = refl
  go false false = refl

-- ---- one segment after the other

module _ (d : MasterData) where
  abbrev head_test : ℕ → Bool
  head_test id = is_head d.head id

  abbrev log_test : ℕ → Bool
  log_test id = not (has_id (digest_of d.head.image) id)

  abbrev tests : Bool → Bool → Bool → ℕ → Option PassFault → Option PassFault
  tests twice head out id rest = cond twice (Some (Twice id))
      (cond head (Some (IsHead id)) (cond out (Some (NotInLog id)) rest))

  -- what the tests of one segment leave to the others
  first_fault : (a b c : Bool) (id : ℕ) (f : PassFault) (rest : Option PassFault) → tests a b c id None ≡ Some f
      → tests a b c id rest ≡ Some f
  first_fault true b c id f rest is = is
  first_fault false true c id f rest is = is
  first_fault false false true id f rest is = is
  first_fault false false false id f rest is = absurd (cc)

  no_fault : (a b c : Bool) (id : ℕ) (rest : Option PassFault) → tests a b c id None ≡ None → tests a b c id rest ≡ rest
  no_fault true b c id rest is = absurd (cc)
  no_fault false true c id rest is = absurd (cc)
  no_fault false false true id rest is = absurd (cc)
  no_fault false false false id rest is = refl

  pub fault_first : (before : List ℕ) (id : ℕ) (ids : List ℕ) (f : PassFault) → victim_fault d before (id ∷ []) ≡ Some f
      → victim_fault d before (id ∷ ids) ≡ Some f
  fault_first before id ids f is =
      first_fault (has_id before id) (head_test id) (log_test id) id f (victim_fault d (id ∷ before) ids) is

  pub fault_later : (before : List ℕ) (id : ℕ) (ids : List ℕ) → victim_fault d before (id ∷ []) ≡ None
      → victim_fault d before (id ∷ ids) ≡ victim_fault d (id ∷ before) ids
  fault_later before id ids is =
      no_fault (has_id before id) (head_test id) (log_test id) id (victim_fault d (id ∷ before) ids) is

  -- it doesn't matter in which order the earlier ones come
  pub fault_same : (b c ids : List ℕ) → ((z : ℕ) → has_id b z ≡ has_id c z)
      → victim_fault d b ids ≡ victim_fault d c ids
  fault_same b c [] same = refl
  fault_same b c (id ∷ ids) same =
      ap (λ (t : Bool). tests t (head_test id) (log_test id) id (victim_fault d (id ∷ b) ids)) (same id)
      ∙ ap (tests (has_id c id) (head_test id) (log_test id) id)
      (fault_same (id ∷ b) (id ∷ c) ids (λ z. ap (λ (t : Bool). (id == z) || t) (same z)))

  -- the tests of the next segment
  module _ (ids : List ℕ) (i : ℕ) (lt : i < length ids)
      (so_far : victim_fault d [] ids ≡ victim_fault d (take i ids) (drop i ids)) where
    abbrev id : ℕ
    id = get_or ids i 0

    front : victim_fault d (take i ids) (drop i ids) ≡ victim_fault d (take i ids) (id ∷ drop (i + 1) ids)
    front = rw add-one (ap (victim_fault d (take i ids)) (drop-cons ids i 0 lt))

    pub found_fault : (f : PassFault) → victim_fault d (take i ids) (id ∷ []) ≡ Some f → victim_fault d [] ids ≡ Some f
    found_fault f is = so_far ∙ front ∙ fault_first (take i ids) id (drop (i + 1) ids) f is

    pub next_fault : victim_fault d (take i ids) (id ∷ []) ≡ None
        → victim_fault d [] ids ≡ victim_fault d (take (i + 1) ids) (drop (i + 1) ids)
    next_fault is =
        so_far ∙ front ∙ fault_later (take i ids) id (drop (i + 1) ids) is
        ∙ fault_same (id ∷ take i ids) (take i ids ++ id ∷ []) (drop (i + 1) ids) (front_or_end (take i ids) id)
        ∙ ap (λ (xs : List ℕ). victim_fault d xs (drop (i + 1) ids)) (sym (take_more ids i 0 lt))

  -- those of all segments
  pub no_fault_left : (ids : List ℕ) (i : ℕ) → length ids ≤ i
      → victim_fault d [] ids ≡ victim_fault d (take i ids) (drop i ids) → victim_fault d [] ids ≡ None
  no_fault_left ids i le so_far = so_far ∙ ap (victim_fault d (take i ids)) (drop_all i ids le)

  -- ---- none is there twice, is a head, or is out of the log

  abbrev pub IsOlder : ℕ → Type 0
  IsOlder s = (is_head d.head s ≡ false) × (has_id (digest_of d.head.image) s ≡ true)

  none_again : (before ids : List ℕ) (z : ℕ) → victim_fault d before ids ≡ None → has_id before z ≡ true
      → has ids z ≡ false
  none_again before [] z ok earlier = refl
  none_again before (id ∷ ids) z ok earlier =
      let t = passes (has_id before id) (Twice id) _ ok in
      let h = passes (head_test id) (IsHead id) _ t.1 in
      let l = passes (log_test id) (NotInLog id) _ h.1 in
      go t.0 (id == z) refl (none_again (id ∷ before) ids z l.1 (or_right (id == z) (has_id before z) earlier))
    where
      go : has_id before id ≡ false → (b : Bool) → (id == z) ≡ b → has ids z ≡ false → ((id == z) || has ids z) ≡ false
      go not_before true same later =
          let again : has_id before z ≡ false = ap (has_id before) (sym (eqb-true id z same))
          ∙ not_before in absurd (cc)
      go not_before false other later = rw other later

  pub all_older : (before ids : List ℕ) → victim_fault d before ids ≡ None → AreApart ids × AllByRecursion IsOlder ids
  all_older before [] ok = (tt, tt)
  all_older before (id ∷ ids) ok =
      let t = passes (has_id before id) (Twice id) _ ok in
      let h = passes (head_test id) (IsHead id) _ t.1 in
      let l = passes (log_test id) (NotInLog id) _ h.1 in
      let rest = all_older (id ∷ before) ids l.1 in
      let own = same_id id in
      let here : has_id (id ∷ before) id ≡ true = rw own refl in
      ((none_again (id ∷ before) ids id l.1 here, rest.0), ((h.0, not-false _ l.0), rest.1))

-- ---- what the tests of a pass say

-- The segments may be the victims of a pass, their bytes apart.
pub record AreFree (d : MasterData) (ids : List ℕ) : Type 0 where
  pub none : d.pass ≡ None
  pub some : 0 < length ids
  pub few : length ids ≤ 32
  pub apart : AreApart ids
  pub older : AllByRecursion (IsOlder d) ids

no_pass : (o : Option OpenPass) → is_some o ≡ false → o ≡ None
no_pass None is = refl
no_pass (Some p) is = absurd (cc)

pub are_free : (d : MasterData) (ids : List ℕ) → victims_fault d ids ≡ None → AreFree d ids
are_free d ids ok =
    let p = passes (is_some d.pass) PassOpen _ ok in
    let n = passes (length ids == 0) NoVictims _ p.1 in
    let m = passes (nat_lt 32 (length ids)) TooMany _ n.1 in
    let all = all_older d [] ids m.1 in
    let nonempty = n.0 in
    record {
      none = no_pass d.pass p.0;
      some = grind (arith, nat_tests);
      few = ltb-false 32 (length ids) m.0;
      apart = all.0;
      older = all.1;
    }

-- A pass may begin.
pub record MayBegin (d : MasterData) (ids : List ℕ) : Type 0 where
  pub step : step_refusal d ≡ None
  pub victims : AreFree d ids
  pub few : survivors_for d ids ≤ 4
  pub rule : may_clean d (length ids) (survivors_for d ids) ≡ true
  pub next : d.next + survivors_for d ids ≤ 2 ^ 62 + 1

no_victims_fault : (o : Option PassFault) (rest : Option Refusal)
    → option_map_or (λ (fault : PassFault). Some (Pass fault)) o rest ≡ None → (o ≡ None) × (rest ≡ None)
no_victims_fault None rest is = (refl, is)
no_victims_fault (Some f) rest is = absurd (cc)

pub may_begin_pass : (d : MasterData) (ids : List ℕ) → clean_refusal d ids ≡ None → MayBegin d ids
may_begin_pass d ids ok =
    let a = passes_first (step_refusal d) _ ok in
    let v = no_victims_fault (victims_fault d ids) (space_refusal d ids) a.1 in
    let b = passes (nat_lt 4 (survivors_for d ids)) (Pass TooMuch) _ v.1 in
    let f = passes (not (may_clean d (length ids) (survivors_for d ids))) Full _ b.1 in
    let n = passes (nat_lt (2 ^ 62 + 1) (d.next + survivors_for d ids)) SegmentsSpent None f.1 in
    record {
      step = a.0;
      victims = are_free d ids v.0;
      few = ltb-false 4 (survivors_for d ids) b.0;
      rule = not-false _ f.0;
      next = ltb-false (2 ^ 62 + 1) (d.next + survivors_for d ids) n.0;
    }

-- ---- the tests of space, one after the other

-- how many survivors there are, if they are at most four
pub at_most_four : (m x : ℕ) → Some x ≡ (if nat_le m 4 then Some m else None) → (x ≡ m) × (nat_lt 4 m ≡ false)
at_most_four m x is = go (nat_le m 4) refl is where
  go : (t : Bool) → nat_le m 4 ≡ t → Some x ≡ (if t then Some m else None) → (x ≡ m) × (nat_lt 4 m ≡ false)
  go true few is = (same_Some x m is, le-ltb 4 m (leb-true m 4 few))
  go false many is = absurd (cc)

-- and there are more, if none was told
pub more_than_four : (r : Option PassSize) (m n : ℕ) → r ≡ None
    → option_map (λ (size : PassSize). size.survivors) r ≡ (if nat_le m 4 then Some m else None) → m ≡ n
    → nat_lt 4 n ≡ true
more_than_four r m n none told same =
    go (nat_le m 4) refl (sym (ap (option_map (λ (size : PassSize). size.survivors)) none) ∙ told)
  where
    go : (t : Bool) → nat_le m 4 ≡ t → None ≡ (if t then Some m else None) → nat_lt 4 n ≡ true
    go true few is = absurd (cc)
    go false many is = ap (nat_lt 4) (sym same) ∙ lt-ltb 4 m (leb-false m 4 many)

pub much_refused : (d : MasterData) (ids : List ℕ) → nat_lt 4 (survivors_for d ids) ≡ true
    → Some (Pass TooMuch) ≡ space_refusal d ids
much_refused d ids many = rw many refl

module _ (d : MasterData) (ids : List ℕ) (few : nat_lt 4 (survivors_for d ids) ≡ false) where
  pub full_refused : may_clean d (length ids) (survivors_for d ids) ≡ false → Some Full ≡ space_refusal d ids
  full_refused mayn = rw (few, mayn) refl

  module _ (may : may_clean d (length ids) (survivors_for d ids) ≡ true) where
    pub spent_refused : 2 ^ 62 + 1 < d.next + survivors_for d ids → Some SegmentsSpent ≡ space_refusal d ids
    spent_refused over =
        let test = lt-ltb (2 ^ 62 + 1) (d.next + survivors_for d ids) over in rw (few, may, test) refl

    pub none_refused : d.next + survivors_for d ids ≤ 2 ^ 62 + 1 → None ≡ space_refusal d ids
    none_refused within =
        let test = le-ltb (2 ^ 62 + 1) (d.next + survivors_for d ids) within in rw (few, may, test) refl

-- ---- by the tests of one segment

module _ (d : MasterData) (before : List ℕ) (id : ℕ) (other : has_id before id ≡ false)
    (older : is_head d.head id ≡ false) where
  pub out_of_log : has_id (digest_of d.head.image) id ≡ false → victim_fault d before (id ∷ []) ≡ Some (NotInLog id)
  out_of_log out = rw (other, older, out) refl

  pub one_free : has_id (digest_of d.head.image) id ≡ true → victim_fault d before (id ∷ []) ≡ None
  one_free listed = rw (other, older, listed) refl
