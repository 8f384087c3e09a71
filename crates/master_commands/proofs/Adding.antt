-- A command that no test refuses is added to a core.
use Rattle.std.proofs.Common.{◌≡◌, ◌⊎◌, ℕ, ◌+◌, ◌≤◌, inl, inr, Bool, true, false, ◌==◌, List, [], ◌∷◌, ◌++◌, length}
use Rattle.std.proofs.Common.{refl, sym, ap, subst, ◌∙◌, arith}
use Rattle.std.specs.Prelude.{Option, Some, None, IfSome, IsSome, ◌<◌, sum_by, if◌then◌else◌}
use Rattle.std.specs.Option.{option_map, option_map_or}
use Rattle.std.proofs.lemmas.Bool.{eqb-true}
use Rattle.versioned_map.specs.Represents.{unit_of}
use Rattle.std.proofs.lemmas.List.{append-nil, length-append, map-append}
use Rattle.entry.specs.declared.entry.Object.{Object}
use Rattle.entry.specs.declared.key.Key.{Key}
use Rattle.entry.specs.declared.entry.Entry.{Entry}
use Rattle.entry.specs.declared.entry.Entry.TheVariants as entry
use Rattle.entry.specs.Bag.{IsAmong}
use Rattle.entry.specs.Text.{text_of}
use Rattle.entry.proofs.BagLemmas.{among_either}
use Rattle.places.specs.declared.place.Held.{Held}
use Rattle.places.specs.declared.place.Place.{Place}
use Rattle.places.specs.Map.{Places}
use Rattle.master_state.specs.cleaner.declared.pass.Pass.{Pass as OpenPass}
use Rattle.master_state.specs.cleaner.Laws.{KeepsNoMore}
use Rattle.master_state.specs.cleaner.Passes.{images_in, rest_of, ids_in as log_ids, IsPass}
use Rattle.segment.proofs.RowLemmas.{text_of-append}
use Rattle.versioned_map.specs.declared.command.Command.{Command}
use Rattle.versioned_map.specs.declared.command.Record.{Record}
use Rattle.versioned_map.specs.declared.command.Reply.{Reply}
use Rattle.versioned_map.specs.Command.{command_key}
use Rattle.versioned_map.specs.History.{commands_of, IsLegal}
use Rattle.versioned_map.specs.Versioned.{State, with_contents, replies, after, after_command}
use Rattle.versioned_map.proofs.Units.{states_pushed}
use Rattle.log_head.specs.declared.head.Roll.{Roll}
use Rattle.log_head.specs.Head.{HeadValue, IsHeadValue, is_open, digest_of}
use Rattle.log_head.specs.Log.{head_of, IsImageOf}
use Rattle.log_head.proofs.HeadLog.{head_is, image_with_unit}
use Rattle.log_head.proofs.RollLog.{digest_is}
use Rattle.log_head.specs.log_laws.Heads.{Head, ids_of}
use Rattle.log_head.specs.log_laws.Ids.{all_inserted, without}
use Rattle.log_head.specs.log_laws.Rising.{AreBelow}
use Rattle.log_head.specs.log_laws.HeadSteps.{with_unit}
use Rattle.master_state.specs.log_laws.Data.{Calm}
use Rattle.master_state.specs.log_laws.Steps.{applied}
use Rattle.master_commands.specs.declared.change.Change.{Change}
use Rattle.master_state.specs.declared.step.StepAnswer.TheVariants.{Applied}
use Rattle.images.specs.Images.{count_of}
use Rattle.master_state.specs.cleaner.Seals.{first_lacking}
use Rattle.master_state.specs.declared.failover.Failover.{Failover}
use Rattle.master_state.specs.Budget.{head_seglets, used_seglets, newest_digest, is_working}
use Rattle.master_state.specs.Budget.{victims_of, survivors_of, is_committing}
use Rattle.master_state.specs.Causes.{live_now, command_refusal, dead_segment, unit_now, is_empty}
use Rattle.master_commands.specs.Change.{unit_of_change, safe_of_change, IsJudged, IsSought}
use Rattle.master_state.specs.Steps.{appended, reply_now, record_now, Applies, Fits, MayApplyNow}
use Rattle.master_state.specs.Data.{MasterData}
use Rattle.master_state.specs.Images.{images_among}
use Rattle.master_state.specs.compactor.Places.{keys_in}
use Rattle.master_state.specs.Index.{LiesFound}
use Rattle.master_state.specs.Invariant.{IsIndex, IsFirst, IsRollOf, IsOpenPass, IsFailover, NameBelow, IsCore}
use Rattle.master_state.specs.Log.{opening_of, is_headless, in_force, mode_of, log_of, state_now, held_now}
use Rattle.master_state.specs.Log.{images_of, find, log_set_ids}
use Rattle.master_state.proofs.Finding.{each_among, index_of}
use Rattle.master_state.proofs.Imaging.{same_id, head_images, appended_grow, appended_own, appended_other}
use Rattle.master_state.proofs.Indexing.{Grow, Indexes}
use Rattle.master_commands.proofs.Changes.{unit_names}
use Rattle.master_commands.proofs.HeadsInForce.{open_headed, open_calm, headless_same, mode_same, force_unit}
use Rattle.master_commands.proofs.Indexed.{IsMovedBy, WasFound, was_found, given, command_at, goes_on, KeepsOthers}
use Rattle.master_commands.proofs.Indexed.{keeps_others}
use Rattle.master_state.proofs.Holding.{kept_again}
use Rattle.master_state.proofs.Naming.{dead_below}
use Rattle.master_state.proofs.Passing.{GoesOn, goes_on as goes_on_pass, victim_below}
use Rattle.master_state.proofs.cleaner.Ends.{rest_segment}
use Rattle.master_state.proofs.Refusals.{IsAdmitted, is_admitted, passed_early, unit_fits, unit_working, working_parts}
use Rattle.master_state.proofs.Refusals.{open_parts}

-- ---- the head with a unit, where there is one

pub same_appended : (h : HeadValue) (n : ℕ) (u : List Entry)
    → ((appended h n u).id ≡ h.id) × ((appended h n u).replicas ≡ h.replicas) × ((appended h n u).roll ≡ h.roll)
same_appended h n [] = (refl, refl, refl)
same_appended h n (e ∷ es) = (refl, refl, refl)

pub taken_appended : (h : HeadValue) (n : ℕ) (u : List Entry) → (appended h n u).taken ≡ h.taken
taken_appended h n [] = refl
taken_appended h n (e ∷ es) = refl

pub image_appended : (h : HeadValue) (n : ℕ) (u : List Entry) → (appended h n u).image ≡ h.image ++ u
image_appended h n [] = sym (append-nil h.image)
image_appended h n (e ∷ es) = refl

-- the head of the log has that unit, too
pub head_appended : (master : ℕ) (h : HeadValue) (n : ℕ) (u : List Entry) → IsImageOf master h (head_of h)
    → IsHeadValue (appended h n u)
    → (head_of (appended h n u) ≡ record (head_of h) { units = with_unit (head_of h).units n u })
    × IsImageOf master (appended h n u) (head_of (appended h n u))
head_appended master h n [] is head = (refl, is)
head_appended master h n (e ∷ es) is head =
    let more = image_with_unit master h (head_of h) is n (e ∷ es) in
    let same = head_is master (appended h n (e ∷ es)) (record
    (head_of h) { units = with_unit (head_of h).units n (e ∷ es) }) more head.segment in
    (same, subst (λ (l : Head). IsImageOf master (appended h n (e ∷ es)) l) (sym same) more)

-- it fits
pub fits_then : (d : MasterData) (n : ℕ) (u : List Entry) → (is_empty u ≡ false → is_open d.head ≡ true)
    → IsHeadValue (appended d.head n u) → (u ≡ []) ⊎ Fits d u
fits_then d n [] opened head = inl refl
fits_then d n (e ∷ es) opened head =
    inr (record { opened = opened refl; segment = head.segment; limit = head.limit })

-- a head with a unit that fits is within the segment
pub within_then : (h : HeadValue) (n most : ℕ) (u : List Entry) → length (text_of h.image) ≤ most
    → (is_empty u ≡ false → length (text_of h.image) + length (text_of u) ≤ most)
    → length (text_of (appended h n u).image) ≤ most
within_then h n most [] within fits = within
within_then h n most (e ∷ es) within fits =
    let le = fits refl in
    let text = ap length (text_of-append h.image (e ∷ es)) in
    let len = length-append (text_of h.image) (text_of (e ∷ es)) in
    omega arith

-- a unit changes no count: a head that takes one has no roll, and no failover is open
pub counts_then : (d : MasterData) (n : ℕ) (u : List Entry) → (is_empty u ≡ false → is_working d ≡ true)
    → head_seglets (record d { head = appended d.head n u }) ≡ head_seglets d
counts_then d n [] works = refl
counts_then d n (e ∷ es) works =
    let parts = working_parts d (works refl) in
    let calm = parts.1 in
    let none = (open_parts d.head parts.0).1 in
    rw (none, calm) refl

-- where a change puts its object, if it makes one
abbrev pub IsPlaced : MasterData → Command → Change → ℕ → Type 0
IsPlaced d command change at =
    (segment : ℕ) (front : List Entry) (o : Object) → unit_of_change segment command change
    ≡ front ++ entry.Object o ∷ []
    → at ≡ length (text_of d.head.image) + length (text_of front)

module _ (d : MasterData) (core : IsCore d) (command : Command) (change : Change) (dead : ℕ)
    (judged : IsJudged d command change dead) where
  unit_is : unit_of_change dead command change ≡ unit_now d command
  unit_is = judged.change_of.unit dead ∙ ap (λ (s : ℕ). unit_of (state_now d) s command) judged.lies

  -- a unit that is appended is within the segment
  pub fits : command_refusal d command ≡ None → is_empty (unit_of_change dead command change) ≡ false
      → length (text_of d.head.image) + length (text_of (unit_of_change dead command change)) ≤ d.config.segment
  fits passed some =
      subst (λ (u : List Entry). length (text_of d.head.image) + length (text_of u) ≤ d.config.segment) (sym unit_is)
      (unit_fits d command passed (ap is_empty (sym unit_is) ∙ some))

  -- where the key is found once the unit is appended
  pub found_then : (held : Held) → IsSought d (command_key command) held
      → IsHeadValue (appended d.head (length d.history) (unit_of_change dead command change))
      → WasFound (keys_in (images_among (appended d.head (length d.history) (unit_of_change dead command change))
      d.closed)) d.index
      change (command_key command) held.place
  found_then held sought head =
      let unit = unit_of_change dead command change in
      let h = appended d.head (length d.history) unit in
      let same = same_appended d.head (length d.history) unit in
      was_found (images_of d) (images_among h d.closed)
      (appended_grow d.head h d.closed unit same.0 same.2 (image_appended d.head (length d.history) unit))
      (each_among h d.closed head core.segments) d.index (state_now d).contents (index_of d core) (state_now d).safe
      command change held.place judged.change_of sought.place

  module _ (seat at : ℕ) (new : Places) (passed : command_refusal d command ≡ None)
      (is_placed : IsPlaced d command change at)
      (moved : IsMovedBy (keys_in (images_among (appended d.head (length d.history)
      (unit_of_change dead command change)) d.closed)) d.index
      change (command_key command) (record { segment = d.head.id; at = at }) new)
      (head : IsHeadValue (appended d.head (length d.history) (unit_of_change dead command change))) where
    abbrev unit : List Entry
    unit = unit_of_change dead command change

    abbrev pub added : MasterData
    added = record d {
      head = appended d.head (length d.history) (unit_of_change dead command change);
      index = new;
      safe = safe_of_change d.safe change;
      history = d.history ++ record_now d seat command ∷ [];
      live = live_now d command;
    }

    admitted : IsAdmitted d command
    admitted = is_admitted d command (passed_early d command passed)

    -- ---- the log

    head_then : head_of added.head ≡ record (head_of d.head)
        { units = with_unit (head_of d.head).units (length d.history) (unit_now d command) }
    head_then =
        (head_appended d.config.master d.head (length d.history) unit core.image head).0
        ∙ ap (λ (u : List Entry). record (head_of d.head) {
          units = with_unit (head_of d.head).units
              (length d.history) u;
        }) unit_is

    -- what appends a unit works
    works : is_empty unit ≡ false → is_working d ≡ true
    works some = unit_working d command passed (ap is_empty (sym unit_is) ∙ some)

    works_now : (unit_now d command ≡ []) ⊎ (is_working d ≡ true)
    works_now = go (unit_now d command) refl where
      go : (u : List Entry) → unit_now d command ≡ u → (u ≡ []) ⊎ (is_working d ≡ true)
      go [] is = inl refl
      go (e ∷ es) is = inr (unit_working d command passed (ap is_empty is))

    fits_now : (unit_now d command ≡ []) ⊎ Fits d (unit_now d command)
    fits_now =
        subst (λ (u : List Entry). (u ≡ []) ⊎ Fits d u) unit_is
        (fits_then d (length d.history) unit (λ some. (working_parts d (works some)).0) head)

    headless_then : is_headless added ≡ is_headless d
    headless_then =
        headless_same d added refl (same_appended d.head (length d.history) unit).1
        (taken_appended d.head (length d.history) unit)

    force_then : in_force added ≡ record (in_force d)
        { units = with_unit (in_force d).units (length d.history) (unit_now d command) }
    force_then =
        force_unit d added (length d.history) (unit_now d command) refl headless_then head_then
        (elim works_now as (λ _. (unit_now d command ≡ []) ⊎ (is_headless d ≡ false)) [
          | inl none ↦ inl none
          | inr is ↦ (let parts = working_parts d is in inr (open_headed d parts.0 parts.1))
        ])

    mode_then : mode_of added ≡ mode_of d
    mode_then =
        let same = same_appended d.head (length d.history) unit in
        mode_same d added refl same.1 (taken_appended d.head (length d.history) unit) same.2
        (ap (λ (l : Head). l.start) head_then)

    log_then : log_of added ≡ applied (log_of d) (dead_segment d command) (record_now d seat command)
    log_then = λ i. record (log_of d) {
      history = d.history ++ record_now d seat command ∷ [];
      head = force_then i;
      mode = mode_then i;
    }

    calm_now : (unit_now d command ≡ []) ⊎ (mode_of d ≡ Calm)
    calm_now = elim works_now as (λ _. (unit_now d command ≡ []) ⊎ (mode_of d ≡ Calm)) [
      | inl none ↦ inl none
      | inr is ↦ (let parts = working_parts d is in inr (open_calm d parts.0 parts.1))
    ]

    pub may : MayApplyNow d seat command
    may = (record { key = admitted.key; calm = calm_now }, fits_now)

    -- ---- the history

    commands_then : commands_of added.history ≡ commands_of d.history ++ command ∷ []
    commands_then = map-append (λ (r : Record). r.command) d.history (record_now d seat command ∷ [])

    state_then : state_now added ≡ after_command (state_now d) command
    state_then = ap (after (opening_of d)) commands_then ∙ (states_pushed (opening_of d)
        (commands_of d.history) command).0

    legal_then : IsLegal (opening_of d) added.history
    legal_then =
        map-append (λ (r : Record). r.reply) d.history (record_now d seat command ∷ [])
        ∙ ap (λ (rs : List Reply). rs ++ reply_now d command ∷ []) core.legal
        ∙ sym ((states_pushed (opening_of d) (commands_of d.history) command).1)
        ∙ ap (replies (opening_of d)) (sym commands_then)

    -- ---- the index

    grow : Grow (images_of d) (images_of added)
    grow =
        let same = same_appended d.head (length d.history) unit in
        appended_grow d.head added.head d.closed unit same.0 same.2 (image_appended d.head (length d.history) unit)

    own : images_of added d.head.id ≡ images_of d d.head.id ++ unit
    own =
        ap (images_of added) (sym (same_appended d.head (length d.history) unit).0) ∙ head_images added.head d.closed
        ∙ image_appended d.head (length d.history) unit ∙ ap (λ (es : List Entry). es ++ unit)
        (sym (head_images d.head d.closed))

    index_on : Indexes (images_of added) new
        (with_contents (state_now d).contents (command_key command)
        (given (state_now d).safe (held_now d command) command))
    index_on =
        goes_on (images_of d) (images_of added) grow (each_among added.head d.closed head core.segments)
        (record { segment = d.head.id; at = at }) dead d.index new (state_now d).contents
        (state_now d).safe (index_of d core)
        command change judged.change_of
        (λ front o is. is_placed dead front o is
        ∙ ap (λ (image : List Entry). length (text_of image) + length (text_of front))
        (sym (head_images d.head d.closed))
        ∙ sym (ap length (text_of-append (images_of d d.head.id) front)
        ∙ length-append (text_of (images_of d d.head.id)) (text_of front)))
        own moved

    others_on : KeepsOthers (images_of d) (images_of added) grow (each_among added.head d.closed head core.segments)
        (record { segment = d.head.id; at = at }) dead d.index new (state_now d).contents
        (state_now d).safe (index_of d core)
    others_on =
        keeps_others (images_of d) (images_of added) grow (each_among added.head d.closed head core.segments)
        (record { segment = d.head.id; at = at }) dead d.index new (state_now d).contents
        (state_now d).safe (index_of d core)
        command change judged.change_of
        (λ front o is. is_placed dead front o is
        ∙ ap (λ (image : List Entry). length (text_of image) + length (text_of front))
        (sym (head_images d.head d.closed))
        ∙ sym (ap length (text_of-append (images_of d d.head.id) front)
        ∙ length-append (text_of (images_of d d.head.id)) (text_of front)))
        own moved

    not_there : (q : Place) → (q.segment == d.head.id) ≡ false → (q ≡ record { segment = d.head.id; at = at }) → ⊥
    not_there q away same =
        let here : (q.segment == d.head.id) ≡ true = ap (λ (r : Place). r.segment == d.head.id) same
        ∙ same_id d.head.id in cc

    index_then : IsIndex added
    index_then =
        let next = state_then ∙ command_at (state_now d) command in record {
          kept = index_on.kept;
          lies = λ k. subst (λ (s : State). LiesFound (images_of added) k (find added k) (s.contents k)) (sym next)
              (index_on.lies k);
          safe = ap (λ (s : ℕ). safe_of_change s change) core.index.safe ∙ judged.change_of.safe_after
              ∙ ap (λ (s : State). s.safe) (sym next);
        }

    -- what the index finds, it found before or it is in the head
    still_found : (k : Key) (q : Place) → find added k ≡ Some q → (find d k ≡ Some q) ⊎ (q.segment ≡ d.head.id)
    still_found k q finds = go (q.segment == d.head.id) refl where
      go : (t : Bool) → (q.segment == d.head.id) ≡ t → (find d k ≡ Some q) ⊎ (q.segment ≡ d.head.id)
      go true here = inr (eqb-true q.segment d.head.id here)
      go false away = inl (others_on.found_on k q (λ same. not_there q away same) finds)

    -- ---- what tombstones name

    named_then : NameBelow (images_of added) added.next
    named_then s t m = go (d.head.id == s) refl where
      by_unit : IsAmong (entry.Tombstone t) (images_of d s ++ unit) → t.segment < d.next
      by_unit m =
          elim (among_either (entry.Tombstone t) (images_of d s) unit m) [
            | inl old ↦ core.named s t old
            | inr own ↦ subst (λ (n : ℕ). n < d.next) (sym (unit_names dead command change t own ∙ judged.lies))
                (dead_below d core (command_key command))
          ]

      go : (b : Bool) → (d.head.id == s) ≡ b → t.segment < d.next
      go true here =
          let same = same_appended d.head (length d.history) unit in
          by_unit (subst (λ (es : List Entry). IsAmong (entry.Tombstone t) es)
          (appended_own d.head added.head d.closed unit s same.0
          (image_appended d.head (length d.history) unit) here) m)
      go false away =
          let same = same_appended d.head (length d.history) unit in
          core.named s t (subst (λ (es : List Entry). IsAmong (entry.Tombstone t) es)
          (appended_other d.head added.head d.closed s same.0 same.2 away) m)

    -- ---- an open pass

    ids_then : log_set_ids added ≡ log_set_ids d
    ids_then =
        let same = same_appended d.head (length d.history) unit in
        λ i. log_ids d.closed (same.0 i) (option_map (λ (r : Roll). r.id) (same.2 i))

    digest_then : digest_of added.head.image ≡ digest_of d.head.image
    digest_then =
        digest_is d.config.master added.head (head_of added.head)
        (head_appended d.config.master d.head (length d.history) unit core.image head).1
        ∙ ap (λ (l : Head). ids_of l.start) head_then
        ∙ sym (digest_is d.config.master d.head (head_of d.head) core.image)

    newest_then : newest_digest added.head ≡ newest_digest d.head
    newest_then =
        let same = same_appended d.head (length d.history) unit in
        λ i. option_map_or (λ (r : Roll). digest_of r.image) (same.2 i) (digest_then i)

    used_then : used_seglets added ≡ used_seglets d
    used_then =
        ap (λ (n : ℕ). n + sum_by (count_of d.config.segment d.config.seglet) d.closed)
        (counts_then d (length d.history) unit works)

    module _ (p : OpenPass) (is : IsOpenPass d p) where
      abbrev rest : List Place
      rest = rest_of (images_in d.closed) p

      -- the new object is in no victim
      not_victim : (q : Place) → IsAmong q.segment p.victims → (q ≡ record { segment = d.head.id; at = at }) → ⊥
      not_victim q victim same =
          let below = victim_below d core p is q.segment victim in
          let own : q.segment ≡ d.head.id = ap (λ (r : Place). r.segment) same in
          omega arith

      keeps_no_more : KeepsNoMore (log_set_ids d) (log_set_ids d) d.index new (images_in d.closed) rest
      keeps_no_more q e m stands keeps =
          kept_again (log_set_ids d) d.index new q e
          (λ k is. others_on.named_on k q (not_victim q (rest_segment (images_in d.closed) p q m)) is) keeps

      passes : GoesOn d added p
      passes =
          let same = same_appended d.head (length d.history) unit in record {
            config = refl;
            start = ap (λ (l : Head). l.start) head_then;
            roll = λ s m. subst (λ (o : Option Roll). IfSome o (λ (r : Roll). (r.id == s) ≡ false))
                (sym same.2) (is.survivors.each s m).not_new;
            next = omega arith;
            pass = subst (λ (s : List ℕ). IsPass s d.closed p) (sym others_on.seed) is.pass;
            victims = λ s m. refl;
            survivors = λ s m. refl;
            keeps = subst (λ (ids : List ℕ). KeepsNoMore (log_set_ids d) ids d.index new (images_in d.closed) rest)
                (sym ids_then) keeps_no_more;
            live = λ k q finds victim. others_on.found_on k q (λ same. not_victim q victim same) finds;
            replicas = λ s m. refl;
            failed = λ none. none;
            free = λ early. (let used = used_then in omega arith);
            listed = λ early. (let ids = ap (λ (l : List ℕ). length l) newest_then in omega arith);
            rolls = λ commits some. subst (λ (o : Option Roll). IsSome o) (sym same.2) some;
          }

    pass_then : IfSome d.pass (IsOpenPass added)
    pass_then = go d.pass core.pass where
      go : (o : Option OpenPass) → IfSome o (IsOpenPass d) → IfSome o (IsOpenPass added)
      go None is = tt
      go (Some p) is = goes_on_pass d added p (passes p is) is

    -- ---- the core

    -- what a roll lists, by the ids of the log
    abbrev lists_of : List ℕ → List ℕ
    lists_of ids = if is_committing d then all_inserted (survivors_of d.pass) (without (victims_of d.pass) ids) else ids

    roll_then : IfSome added.head.roll (IsRollOf added)
    roll_then =
        subst (λ (o : Option Roll). IfSome o (IsRollOf added)) (sym (same_appended d.head (length d.history) unit).2)
        (go d.head.roll core.roll)
      where
        go : (o : Option Roll) → IfSome o (IsRollOf d) → IfSome o (IsRollOf added)
        go None is = tt
        go (Some r) is = record {
          image = is.image;
          lists = is.lists ∙ sym (ap (λ (l : Head). lists_of (ids_of l.start)) head_then);
          within = is.within;
          newer = subst (λ (id : ℕ). id < r.id) (sym (same_appended d.head (length d.history) unit).0) is.newer;
          used = is.used;
        }

    -- a head that isn't in force takes no unit
    first_then : is_headless added ≡ true → IsFirst added.head
    first_then not =
        let was = core.first (sym headless_then ∙ not) in
        elim works_now as (λ _. IsFirst added.head) [
          | inl none ↦ subst (λ (u : List Entry). IsFirst (appended d.head (length d.history) u))
              (sym (unit_is ∙ none)) was
          | inr is ↦ (let parts = working_parts d is in
              let never : true ≡ false = sym not ∙ headless_then ∙ open_headed d parts.0 parts.1 in absurd (cc))
        ]

    -- while a failover is open nothing is appended
    failover_then : IfSome d.failover (IsFailover added)
    failover_then = go d.failover refl core.failover where
      stays : (f : Failover) → IsFailover d f → unit ≡ [] → IsFailover added f
      stays f is none =
          subst (λ (u : List Entry). IsFailover (record added { head = appended d.head (length d.history) u }) f)
          (sym none) (record {
            some = is.some;
            closed = is.closed;
            mends = is.mends;
            opens = is.opens;
            first = is.first;
            closes = is.closes;
            repairs = is.repairs;
          })

      go : (o : Option Failover) → d.failover ≡ o → IfSome o (IsFailover d) → IfSome o (IsFailover added)
      go None at is = tt
      go (Some f) at is = elim works_now as (λ _. IsFailover added f) [
        | inl none ↦ stays f is (unit_is ∙ none)
        | inr working ↦ (let calm = (working_parts d working).1 in absurd (cc))
      ]

    pub added_core : IsCore added
    added_core = record {
      config = core.config;
      replicas = (same_appended d.head (length d.history) unit).1 ∙ core.replicas;
      history = (let room = admitted.room in let was = core.history in
          let within = was.within in
          let count = length-append d.history (record_now d seat command ∷ []) in
          record { within = omega arith; few = omega arith; places = was.places });
      head = head;
      image = (head_appended d.config.master d.head (length d.history) unit core.image head).1;
      within = within_then d.head (length d.history) d.config.segment unit core.within (fits passed);
      closed = core.closed ∙ sym (ap (λ (l : Head). all_inserted (survivors_of d.pass) l.start.others) head_then);
      segments = core.segments;
      below = subst (λ (l : Head). AreBelow l.start) (sym head_then) core.below;
      real = subst (λ (id : ℕ). 0 < id) (sym (same_appended d.head (length d.history) unit).0) core.real;
      first = first_then;
      used = subst (λ (id : ℕ). id < d.next) (sym (same_appended d.head (length d.history) unit).0) core.used;
      next = core.next;
      roll = roll_then;
      pass = pass_then;
      named = named_then;
      replicas_few = core.replicas_few;
      waiting = core.waiting;
      digest = (let same = ap (λ (ids : List ℕ). length ids) digest_then in let few = core.digest in omega arith);
      listed = (let same = ap (λ (ids : List ℕ). length ids) newest_then in let few = core.listed in omega arith);
      failed = (let f = core.failed in record { few = f.few; there = f.there; apart = f.apart; two = f.two });
      whole = λ calm. subst (λ (l : Head). first_lacking d.config.replicas d.closed l.start.others ≡ None)
          (sym head_then) (core.whole calm);
      failover = failover_then;
      abandoned = core.abandoned;
      budget = subst (λ (n : ℕ). n ≤ d.config.seglets) (sym used_then) core.budget;
      legal = legal_then;
      index = index_then;
    }

    pub added_applies : Applies d seat command (Applied (length d.history) (reply_now d command)) added
    added_applies = record {
      passed = passed;
      told = refl;
      config = refl;
      running = admitted.running;
      log = log_then;
      found = still_found;
      rest = ap (λ (u : List Entry). record added { head = appended d.head (length d.history) u }) unit_is;
    }
