-- The choices of the newest log, in the model and in bytes.
use Rattle.std.proofs.Common.{◌≡◌, ℕ, ◌≤◌, ◌⊎◌, Bool, true, false, cond, List, [], ◌∷◌, ◌++◌, map, Some, refl, sym, ap}
use Rattle.std.proofs.Common.{subst, ◌∙◌, append-nil, arith}
use Rattle.std.specs.Prelude.{Option, None, IfSome, IsSome, IsSomeAnd}
use Rattle.std.specs.Option.{option_map}
use Rattle.std.specs.List.{flat_map, AllByRecursion}
use Rattle.std.proofs.lemmas.Grind.{flat_map-append}
use Rattle.entry.specs.declared.entry.Entry.{Entry}
use Rattle.entry.specs.Text.{Opening, opening_in, data_in, listed_len}
use Rattle.replica.specs.declared.holding.Holding.{Holding}
use Rattle.replica.specs.Picture.{Replica, Shown, IsHeld, survivors}
use Rattle.replica.specs.Choice.{Choice, IsChoice, IsUsableHeadOf, IsUsableOf, IsUsableReplica, bag_of}
use Rattle.replica.specs.Survival.{HoldsHead}
use Rattle.log_laws.proofs.IdLists.{some_given}
use Rattle.log_laws.specs.Text.{IsUsable, Replica as ModelReplica}
use Rattle.log_laws.specs.Shown.{Shown as ModelShown, HoldsHead as ModelHoldsHead}
use Rattle.log_laws.specs.Shown.{survivors as model_survivors}
use Rattle.log_laws.specs.Choice.{Choice as ModelChoice, Holding as ModelHolding, IsChoice as IsModelChoice}
use Rattle.log_laws.specs.Choice.{IsHeld as IsModelHeld, bag_of as model_bag}
use Rattle.log_bytes.specs.Spelled.{spelled_replica, IsSpelled}
use Rattle.log_bytes.specs.Choice.{holding_for, choice_for}
use Rattle.log_bytes.specs.Laws.{UsableIsSame, ChoiceIsSpelled, SpelledIsChoice}
use Rattle.log_bytes.proofs.Texts.{length_is, reads_opening, reads_data}
use Rattle.log_bytes.proofs.Reading.{held_spelled, spelled_held}

-- ---- which replicas may be used

pub usable_is_same : UsableIsSame
usable_is_same master opening h = (there, back) where
  long : ℕ → Type 0
  long size = (h.replica.is_open ≡ false) ⊎ IfSome (listed_len h.segment opening.digest) (λ (n : ℕ). n ≤ size)

  there : IsUsable opening.digest h.segment h.replica → IsUsableReplica opening (holding_for master h)
  there is = subst long (sym (length_is master h.segment h.replica.text)) is

  back : IsUsableReplica opening (holding_for master h) → IsUsable opening.digest h.segment h.replica
  back is = subst long (length_is master h.segment h.replica.text) is

-- ---- survivors

-- what is left spells what is left
pub left_spelled : (master : ℕ) (shown : Shown) (p : ModelShown) (keep : ℕ → Bool) → IsSpelled master shown p
    → IsSpelled master (survivors keep shown) (model_survivors keep p)
left_spelled master shown p keep spelled = record {
  replicas = λ b s. either (keep b) (shown.holds b master s) (p.holds b s) s (spelled.replicas b s);
  least = spelled.least;
  segments = λ b s r is. spelled.segments b s r (was (keep b) (p.holds b s) r is);
} where
  either : (t : Bool) (x : Option Replica) (y : Option ModelReplica) (s : ℕ)
      → x ≡ option_map (spelled_replica master s) y
      → cond t x None ≡ option_map (spelled_replica master s) (cond t y None)
  either true x y s is = is
  either false x y s is = refl

  was : (t : Bool) (y : Option ModelReplica) (r : ModelReplica) → cond t y None ≡ Some r → y ≡ Some r
  was true y r is = is
  was false y r is = absurd (cc)

-- ---- a choice

module _ (master : ℕ) (shown : Shown) (p : ModelShown) (spelled : IsSpelled master shown p) where
  -- a replica of a head is one in the model
  pub head_there : (b s : ℕ) → HoldsHead shown master b s → shown.least ≤ s → ModelHoldsHead p b s
  head_there b s holds usable =
      let head = some_given (shown.holds b master s) (λ (r : Replica). IsSome (opening_in r.bytes)) holds in
      let q = held_spelled master shown p spelled b s head.0 head.1 in
      let opening = ap (λ (r : Replica). opening_in r.bytes) q.2
      ∙ reads_opening master s q.0.text (spelled.segments b s q.0 q.1) in
      let least = spelled.least in
      record {
        bears = subst (λ (o : Option ModelReplica). IsSomeAnd o (λ (r : ModelReplica). IsSome r.text.opening)) (sym q.1)
            (subst IsSome opening head.2);
        usable = omega arith;
      }

  pub head_back : (b s : ℕ) → ModelHoldsHead p b s → HoldsHead shown master b s × (shown.least ≤ s)
  head_back b s holds =
      let head = some_given (p.holds b s) (λ (r : ModelReplica). IsSome r.text.opening) holds.bears in
      let usable = holds.usable in
      let least = spelled.least in
      let opening = reads_opening master s head.0.text (spelled.segments b s head.0 head.1) in (
        subst (λ (o : Option Replica). IsSomeAnd o (λ (r : Replica). IsSome (opening_in r.bytes)))
            (sym (spelled_held master shown p spelled b s head.0 head.1)) (subst IsSome (sym opening) head.2),
        omega arith,
      )

  -- a holding of the master spells one of the model
  record Spells (h : Holding) : Type 0 where
    q : ModelReplica
    there : p.holds h.backup h.segment ≡ Some q
    same : h ≡ holding_for master (record { backup = h.backup; segment = h.segment; replica = q })

  spells : (h : Holding) → IsHeld shown.holds h → h.master ≡ master → Spells h
  spells h held of_master =
      let at = ap (λ (m : ℕ). shown.holds h.backup m h.segment) (sym of_master) ∙ held in
      let q = held_spelled master shown p spelled h.backup h.segment
      (record { bytes = h.bytes; is_open = h.is_open }) at in
      let replica = q.2 in
      record {
        q = q.0;
        there = q.1;
        same = (λ i. record {
          backup = h.backup;
          master = of_master i;
          segment = h.segment;
          bytes = (replica i).bytes;
          is_open = (replica i).is_open;
        });
      }

  abbrev Held : Opening → Holding → Type 0
  Held opening h = IsHeld shown.holds h × IsUsableOf master opening h

  abbrev ModelHeld : Opening → ModelHolding → Type 0
  ModelHeld opening h = IsModelHeld p h × IsUsable opening.digest h.segment h.replica

  abbrev ids_of : List Holding → List ℕ
  ids_of hs = map (λ (h : Holding). h.segment) hs

  abbrev model_ids : List ModelHolding → List ℕ
  model_ids ms = map (λ (m : ModelHolding). m.segment) ms

  abbrev data_of : List Holding → List Entry
  data_of hs = flat_map (λ (h : Holding). data_in h.bytes) hs

  abbrev model_data : List ModelHolding → List Entry
  model_data ms = flat_map (λ (m : ModelHolding). m.replica.text.entries) ms

  record Found (opening : Opening) (hs : List Holding) : Type 0 where
    ms : List ModelHolding
    same : hs ≡ map (holding_for master) ms
    each : AllByRecursion (ModelHeld opening) ms

  found : (opening : Opening) (hs : List Holding) → AllByRecursion (Held opening) hs → Found opening hs
  found opening [] all = record { ms = []; same = refl; each = tt }
  found opening (h ∷ hs) all =
      let is = spells h all.0.0 all.0.1.0 in
      let rest = found opening hs all.1 in
      let m : ModelHolding = record { backup = h.backup; segment = h.segment; replica = is.q } in
      let here = is.same in
      let more = rest.same in
      record {
        ms = m ∷ rest.ms;
        same = (λ i. here i ∷ more i);
        each = (
          (is.there, (usable_is_same master opening m).1 (subst (IsUsableReplica opening) here all.0.1.1)),
          rest.each,
        );
      }

  -- the others of a choice have the same ids and entries
  same_ids : (ms : List ModelHolding) → ids_of (map (holding_for master) ms) ≡ model_ids ms
  same_ids [] = refl
  same_ids (m ∷ ms) = ap (λ (l : List ℕ). m.segment ∷ l) (same_ids ms)

  same_data : (opening : Opening) (ms : List ModelHolding) → AllByRecursion (ModelHeld opening) ms
      → data_of (map (holding_for master) ms) ≡ model_data ms
  same_data opening [] all = refl
  same_data opening (m ∷ ms) all =
      let here = reads_data master m.segment m.replica.text (spelled.segments m.backup m.segment m.replica all.0.0) in
      let rest = same_data opening ms all.1 in (λ i. here i ++ rest i)

  bag_parts : (m : ModelChoice) → IsModelChoice p m → bag_of (choice_for master m) ≡ model_bag m
  bag_parts m is =
      let here = reads_data master m.head.segment m.head.replica.text
      (spelled.segments m.head.backup m.head.segment m.head.replica is.held) in
      let rest = same_data m.opening m.others is.others in
      flat_map-append (λ (h : Holding). data_in h.bytes) (map (holding_for master) m.others)
      (holding_for master m.head ∷ [])
      ∙ (λ i. rest i ++ (here i ++ []))
      ∙ ap (λ (es : List Entry). model_data m.others ++ es) (append-nil m.head.replica.text.entries)

  -- a replica that the model shows, as it is shown
  shown_as : (b s : ℕ) (r : ModelReplica) → p.holds b s ≡ Some r
      → IsHeld shown.holds (holding_for master (record { backup = b; segment = s; replica = r }))
  shown_as b s r there = spelled_held master shown p spelled b s r there

  module _ (c : Choice) (choice : IsChoice (IsHeld shown.holds) shown.least master c) where
    head : Spells c.head
    head = spells c.head choice.held choice.of_master

    others : Found c.opening c.others
    others = found c.opening c.others choice.others

    abbrev model_choice : ModelChoice
    model_choice = record {
      opening = c.opening;
      head = record { backup = c.head.backup; segment = c.head.segment; replica = head.q };
      others = others.ms;
    }

    newest : (b t : ℕ) → ModelHoldsHead p b t → t ≤ c.head.segment
    newest b t holds =
        let is = some_given (p.holds b t) (λ (r : ModelReplica). IsSome r.text.opening) holds.bears in
        let opening = reads_opening master t is.0.text (spelled.segments b t is.0 is.1) in
        choice.newest (holding_for master (record { backup = b; segment = t; replica = is.0 })) (shown_as b t is.0 is.1)
        (refl, subst IsSome (sym opening) is.2, (head_back b t holds).1)

    model_is : IsModelChoice p model_choice
    model_is = record {
      held = head.there;
      is_open = sym (ap (λ (h : Holding). h.is_open) head.same) ∙ choice.is_open;
      opening =
          sym (reads_opening master c.head.segment head.q.text
          (spelled.segments c.head.backup c.head.segment head.q head.there))
          ∙ sym (ap (λ (h : Holding). opening_in h.bytes) head.same) ∙ choice.opening;
      usable = (let least = spelled.least in let usable = choice.usable in omega arith);
      newest = newest;
      others = others.each;
      ids =
          ap (λ (l : List ℕ). l ++ c.head.segment ∷ []) (sym (same_ids others.ms) ∙ ap ids_of (sym others.same))
          ∙ choice.ids;
    }

    same_choice : c ≡ choice_for master model_choice
    same_choice =
        let first = head.same in
        let rest = others.same in (λ i. record { opening = c.opening; head = first i; others = rest i })

    same_bag : bag_of c ≡ model_bag model_choice
    same_bag = ap bag_of same_choice ∙ bag_parts model_choice model_is

  module _ (m : ModelChoice) (choice : IsModelChoice p m) where
    spelled_others : (ms : List ModelHolding) → AllByRecursion (ModelHeld m.opening) ms
        → AllByRecursion (Held m.opening) (map (holding_for master) ms)
    spelled_others [] all = tt
    spelled_others (h ∷ ms) all = (
      (shown_as h.backup h.segment h.replica all.0.0, (refl, (usable_is_same master m.opening h).0 all.0.1)),
      spelled_others ms all.1,
    )

    spelled_newest : (h : Holding) → IsHeld shown.holds h → IsUsableHeadOf shown.least master h
        → h.segment ≤ m.head.segment
    spelled_newest h held usable =
        let is = spells h held usable.0 in
        let opening =
        sym (reads_opening master h.segment is.q.text (spelled.segments h.backup h.segment is.q is.there))
        ∙ sym (ap (λ (x : Holding). opening_in x.bytes) is.same) in
        let some : IsSome is.q.text.opening = subst IsSome (sym opening) usable.1 in
        let least = spelled.least in
        let le = usable.2 in
        choice.newest h.backup h.segment (record {
          bears = subst (λ (o : Option ModelReplica). IsSomeAnd o (λ (r : ModelReplica). IsSome r.text.opening))
              (sym is.there) some;
          usable = omega arith;
        })

    real_is : IsChoice (IsHeld shown.holds) shown.least master (choice_for master m)
    real_is = record {
      held = shown_as m.head.backup m.head.segment m.head.replica choice.held;
      of_master = refl;
      is_open = choice.is_open;
      opening =
          reads_opening master m.head.segment m.head.replica.text
          (spelled.segments m.head.backup m.head.segment m.head.replica choice.held) ∙ choice.opening;
      usable = (let least = spelled.least in let usable = choice.usable in omega arith);
      newest = spelled_newest;
      others = spelled_others m.others choice.others;
      ids = ap (λ (l : List ℕ). l ++ m.head.segment ∷ []) (same_ids m.others) ∙ choice.ids;
    }

pub choice_is_spelled : ChoiceIsSpelled
choice_is_spelled master shown p keep c spelled choice =
    let left = left_spelled master shown p keep spelled in (
      model_choice master (survivors keep shown) (model_survivors keep p) left c choice,
      model_is master (survivors keep shown) (model_survivors keep p) left c choice,
      same_choice master (survivors keep shown) (model_survivors keep p) left c choice,
      same_bag master (survivors keep shown) (model_survivors keep p) left c choice,
    )

pub spelled_is_choice : SpelledIsChoice
spelled_is_choice master shown p keep m spelled choice =
    real_is master (survivors keep shown) (model_survivors keep p) (left_spelled master shown p keep spelled) m choice
