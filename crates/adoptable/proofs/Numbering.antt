-- How far the ids of segments have come in a master that is loaded, as long as no failover is open.
use Rattle.std.proofs.Common.{◌≡◌, ◌≤◌, ◌+◌, ◌/◌, ◌^◌, ℕ, suc, Bool, true, false, List, [], ◌∷◌, ◌++◌}
use Rattle.std.proofs.Common.{length, refl, sym, ap, subst, ◌∙◌, append_assoc, arith}
use Rattle.std.specs.Prelude.{Option, Some, None, nat_lt, ◌==◌, if◌then◌else◌}
use Rattle.std.specs.Option.{option_map_or}
use Rattle.std.proofs.lemmas.Bool.{and_parts, leb-true, ltb-true}
use Rattle.std.proofs.lemmas.List.{length-append}
use Rattle.entry.specs.declared.entry.Entry.{Entry}
use Rattle.entry.specs.declared.entry.Object.{Object}
use Rattle.replay.specs.master.cleaner.declared.pass.Pass.{Pass}
use Rattle.replay.specs.master.cleaner.Passes.{is_ready as is_ready_pass}
use Rattle.replay.specs.master.log_head.declared.head.Roll.{Roll}
use Rattle.replay.specs.master.log_head.declared.next.Next.{Next}
use Rattle.replay.specs.master.log_head.declared.next.Next.TheVariants as next
use Rattle.replay.specs.master.log_head.Head.{HeadValue, digest_of}
use Rattle.replay.specs.master.log_head.Steps.{in_force, lone_start, with_closed_replica, with_new_replica}
use Rattle.replay.specs.master.log_laws.Heads.{Start, ids_of, start_entries}
use Rattle.replay.specs.master.master_rolls.Ends.{pass_left}
use Rattle.replay.specs.master.master_state.declared.config.Config.{Config}
use Rattle.replay.specs.master.master_state.declared.step.StepAnswer.{StepAnswer}
use Rattle.replay.specs.master.master_state.Budget.{is_working, may_roll, has_space}
use Rattle.replay.specs.master.master_state.Config.{config_fault}
use Rattle.replay.specs.master.master_state.Data.{MasterData}
use Rattle.replay.specs.master.master_state.Loading.{Loads, loaded_unit, restored_data}
use Rattle.replay.specs.master.master_state.Steps.{BeginsRoll, pushed_data, rolling_data, start_now}
use Rattle.replay.proofs.LoadTests.{rolls_tell}
use Rattle.replay.proofs.of_driving.Digests.{ids_next, start_digest}
use Rattle.replay.proofs.of_driving.Heads.{no_roll, works_parts}
use Rattle.replay.proofs.of_driving.Outlines.{Outline, outline, push_outline, pushed_outline}
use Rattle.replay.proofs.of_driving.of_master.log_laws.ListedIds.{ids_listed}
use Rattle.replay.proofs.of_driving.of_master.master_state.Refusals.{sizes_of as config_sizes}

module _ (c : Config) where
  -- The next id is at most 2 above the count of ids that the head's digest lists beside its own. A roll that is under
  -- way took one id more, and its digest lists one id more.
  abbrev pub IsLowId : ℕ → ℕ → Option Roll → Type 0
  IsLowId others next None = next ≤ others + 2
  IsLowId others next (Some r) =
      (to : Start) × (r.image ≡ start_entries c.master to) × (length to.others ≡ others + 1) × (next ≤ others + 3)

  -- The head's image begins with an opening, and the next id is that low for its digest.
  pub record HasLowIds (h : HeadValue) (next : ℕ) : Type 0 where
    pub start : Start
    pub more : List Entry
    pub image : h.image ≡ start_entries c.master start ++ more
    pub low : IsLowId (length start.others) next h.roll

  -- No failover or pass is open. The next id is low for the head's digest, and at most 2 above the number of places
  -- that a digest has.
  pub record IsNumbered (o : Outline) : Type 0 where
    pub config : o.config ≡ c
    pub calm : o.failover ≡ None
    pub passless : o.pass ≡ None
    pub ids : HasLowIds o.head o.next
    pub few : o.next ≤ c.segment / 32 + 2

  -- ---- a push

  -- a head with the same image and roll
  same_ids : (h k : HeadValue) (n : ℕ) → k.image ≡ h.image → k.roll ≡ h.roll → HasLowIds h n → HasLowIds k n
  same_ids h k n image roll ids = record {
    start = ids.start;
    more = ids.more;
    image = image ∙ ids.image;
    low = subst (IsLowId (length ids.start.others) n) (sym roll) ids.low;
  }

  -- a head with the same image, and with the same roll at another count of replicas
  same_roll : (h k : HeadValue) (n : ℕ) (r q : Roll) → k.image ≡ h.image → h.roll ≡ Some r → k.roll ≡ Some q
      → q.image ≡ r.image → HasLowIds h n → HasLowIds k n
  same_roll h k n r q image from to same ids =
      let (start, opening, one, most) = subst (IsLowId (length ids.start.others) n) from ids.low in
      record {
        start = ids.start;
        more = ids.more;
        image = image ∙ ids.image;
        low = subst (IsLowId (length ids.start.others) n) (sym to) (start, same ∙ opening, one, most);
      }

  -- the new head is in force
  next_ids : (h : HeadValue) (n : ℕ) (r : Roll) → h.roll ≡ Some r → HasLowIds h n → HasLowIds (in_force h r) n
  next_ids h n r is ids =
      let (start, opening, one, most) = subst (IsLowId (length ids.start.others) n) is ids.low in
      record { start = start; more = []; image = opening; low = omega arith }

  closed_ids : (h : HeadValue) (n : ℕ) (r : Roll) → h.roll ≡ Some r → HasLowIds h n
      → HasLowIds (with_closed_replica h r) n
  closed_ids h n r is ids = go (suc r.closed == h.replicas)
    where
      go : (last : Bool) → HasLowIds
          (if last then in_force h r else record h { roll = Some (record r { closed = suc r.closed }) }) n
      go true = next_ids h n r is ids
      go false = same_roll h _ n r (record r { closed = suc r.closed }) refl is refl refl ids

  -- it stays numbered with another head of the same next id
  with_head : (o : Outline) (h : HeadValue) (pass : Option Pass) → HasLowIds h o.next → pass ≡ None → IsNumbered o
      → IsNumbered (record o { head = h; pass = pass })
  with_head o h pass ids passless is =
      record { config = is.config; calm = is.calm; passless = passless; ids = ids; few = is.few }

  with_same : (o : Outline) (h : HeadValue) → h.image ≡ o.head.image → h.roll ≡ o.head.roll → IsNumbered o
      → IsNumbered (record o { head = h })
  with_same o h image roll is = with_head o h o.pass (same_ids o.head h o.next image roll is.ids) is.passless is

  outline_pushed : (o : Outline) (push : Next) → IsNumbered o → IsNumbered (pushed_outline o push)
  outline_pushed o (next.OpenFirst j) is = with_same o _ refl refl is
  outline_pushed o (next.Extend j) is = with_same o _ refl refl is
  outline_pushed o (next.OpenWhole j) is = with_same o _ refl refl is
  outline_pushed o (next.OpenNew j) is = go o.head.roll refl
    where
      go : (x : Option Roll) → o.head.roll ≡ x
          → IsNumbered (record o { head = option_map_or (with_new_replica o.head) x o.head })
      go None has = is
      go (Some r) has = with_head o _ o.pass
          (same_roll o.head _ o.next r (record r { opened = suc r.opened }) refl has refl refl is.ids) is.passless is
  outline_pushed o (next.CloseOld j) is = go o.head.roll refl
    where
      left : (last : Bool) → (if last then pass_left o.pass else o.pass) ≡ None
      left true = ap pass_left is.passless
      left false = is.passless

      go : (x : Option Roll) → o.head.roll ≡ x → IsNumbered (record o {
        head = option_map_or (with_closed_replica o.head) x o.head;
        pass =
            option_map_or (λ (r : Roll). if suc r.closed == o.head.replicas then pass_left o.pass else o.pass) x o.pass;
      })
      go None has = is
      go (Some r) has =
          with_head o _ _ (closed_ids o.head o.next r has is.ids) (left (suc r.closed == o.head.replicas)) is

  pub numbered_pushed : (d : MasterData) (push : Next) → IsNumbered (outline d)
      → IsNumbered (outline (pushed_data d push))
  numbered_pushed d push is = subst IsNumbered (sym (push_outline d push)) (outline_pushed (outline d) push is)

  -- ---- a load

  pub numbered_loaded : (d e : MasterData) (o : Object) → Loads d o e → IsNumbered (outline d)
      → IsNumbered (outline e)
  numbered_loaded d e o loads is = subst (λ (x : MasterData). IsNumbered (outline x)) (sym loads.rest)
      (record {
        config = is.config;
        calm = is.calm;
        passless = is.passless;
        ids = record {
          start = is.ids.start;
          more = is.ids.more ++ loaded_unit o;
          image = ap (λ (es : List Entry). es ++ loaded_unit o) is.ids.image
              ∙ append_assoc (start_entries c.master is.ids.start) is.ids.more (loaded_unit o);
          low = is.ids.low;
        };
        few = is.few;
      })

  -- ---- a roll

  -- If no roll is under way and no pass is open, a roll may begin only if the digest has a place for its id.
  places_left : (d : MasterData) → d.pass ≡ None → d.head.roll ≡ None → may_roll d 2 ≡ true
      → length (digest_of d.head.image) + 1 ≤ d.config.segment / 32
  places_left d passless roll may = leb-true _ _ (and_parts _ _ (and_parts _ _ (sym plain ∙ may)).0).0
    where
      free : MasterData
      free = record d { head = record d.head { roll = None }; pass = None }

      plain : may_roll d 2 ≡ has_space free 2
      plain i = may_roll (record d { head = record d.head { roll = roll i }; pass = passless i }) 2

  module _ (d : MasterData) (is : IsNumbered (outline d)) (roll : d.head.roll ≡ None) where
    listed_is : length (digest_of d.head.image) ≡ length is.ids.start.others + 1
    listed_is =
        let ids : digest_of d.head.image ≡ ids_of is.ids.start = ap digest_of is.ids.image ∙ ids_listed is.ids.start in
        let count = ap (λ (xs : List ℕ). length xs) ids in
        let all = length-append is.ids.start.others (is.ids.start.id ∷ []) in
        omega arith

    more_listed : length (start_now d).others ≡ length is.ids.start.others + 1
    more_listed =
        let ids = ap (λ (xs : List ℕ). length xs) (start_digest d) in
        let own = length-append (start_now d).others ((start_now d).id ∷ []) in
        let next = length-append (digest_of d.head.image) (d.next ∷ []) in
        let same : length (ids_next (option_map_or (is_ready_pass d.config.replicas d.closed) d.pass false) d.pass
        (digest_of d.head.image) ++ d.next ∷ []) ≡ length (digest_of d.head.image ++ d.next ∷ []) =
        ap (λ (o : Option Pass). length (ids_next (option_map_or (is_ready_pass d.config.replicas d.closed) o false)
        o (digest_of d.head.image) ++ d.next ∷ [])) is.passless in
        let listed = listed_is in
        omega arith

    low_now : d.next ≤ length is.ids.start.others + 2
    low_now = subst (IsLowId (length is.ids.start.others) d.next) roll is.ids.low

    rolling : may_roll d 2 ≡ true → IsNumbered (outline (rolling_data d))
    rolling may = record {
      config = is.config;
      calm = is.calm;
      passless = ap (λ (o : Option Pass). (rolling_data (record d { pass = o })).pass) is.passless;
      ids = record {
        start = is.ids.start;
        more = is.ids.more;
        image = is.ids.image;
        low = (
          start_now d,
          ap (λ (k : Config). start_entries k.master (start_now d)) is.config,
          more_listed,
          (let most = low_now in omega arith),
        );
      };
      few =
          let places = subst (λ (k : Config). length (digest_of d.head.image) + 1 ≤ k.segment / 32) is.config
          (places_left d is.passless roll may) in
          let listed = listed_is in
          let most = low_now in
          omega arith;
    }

  pub numbered_rolling : (d e : MasterData) (answer : StepAnswer) → BeginsRoll d answer e → IsNumbered (outline d)
      → IsNumbered (outline e)
  numbered_rolling d e answer begins is =
      let tests = rolls_tell d.is_halted (is_working d) _ _ begins.passed in
      let roll = no_roll _ d.head.roll (works_parts d tests.0).0 in
      subst (λ (x : MasterData). IsNumbered (outline x)) (sym begins.rest) (rolling d is roll tests.1)

  -- ---- the first head, and the last id

  pub first_numbered : (safe : ℕ) → IsNumbered (outline (restored_data c safe))
  first_numbered safe = record {
    config = refl;
    calm = refl;
    passless = refl;
    ids = record { start = lone_start 1 c.format safe; more = []; image = refl; low = omega arith };
    few = omega arith;
  }

  -- some id is left
  pub ids_left : (d : MasterData) → config_fault c ≡ None → IsNumbered (outline d) → nat_lt (2 ^ 62) d.next ≡ true → ⊥
  ids_left d ok is spent =
      let most = (config_sizes c ok).most_segment in
      let few = is.few in
      let more = ltb-true (2 ^ 62) d.next spent in
      omega arith
