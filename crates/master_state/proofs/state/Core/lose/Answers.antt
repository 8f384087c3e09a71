use Rattle.std.proofs.Common.{◌≡◌, ◌+◌, ◌<◌, ◌≤◌, ◌∷◌, Vec, Global, List, ℕ, true, false, length, map, filter, sym, ap}
use Rattle.std.proofs.Common.{subst, ◌∙◌, arith}
use Rattle.std.specs.Prelude.{Option, Some, None, IfSome, IsSome, vec_capacity, not, nat_le, nat_lt}
use Rattle.std.specs.Option.{option_map, option_map_or}
use Rattle.std.proofs.lemmas.Bool.Decides.{nat_tests}
use Rattle.cleaner.specs.declared.pass.Pass.{Pass as OpenPass}
use Rattle.images.specs.Images.{ImagesValue}
use Rattle.log_head.specs.declared.head.Roll.{Roll}
use Rattle.log_head.specs.Head.{HeadValue}
use Rattle.log_head.specs.Steps.{lost}
use Rattle.log_head.specs.log_laws.Ids.{has}
use Rattle.master_state.specs.contracts.state.Core.{the_view}
use Rattle.master_state.specs.declared.failover.Part.TheVariants as part
use Rattle.master_state.specs.declared.state.Core.TheInside.{Inside}
use Rattle.master_state.specs.declared.waiting.Waiting.{Waiting}
use Rattle.master_state.specs.Data.{MasterData}
use Rattle.master_state.specs.Invariant.{IsCore, AreImagesOf}
use Rattle.master_state.specs.Log.{durable_now, is_opened}
use Rattle.master_state.specs.Steps.{less_by, may_lose, lost_data, lost_image, lost_waiting, new_heads_in}
use Rattle.master_state.specs.Steps.{place_of, still_waits}
use Rattle.master_state.proofs.LostCore.{loses, lost_core, none_less}
use Rattle.master_state.proofs.Refusals.{has_homes}
use Rattle.master_state.proofs.Tallying.{none_right}
use Rattle.master_state.proofs.state.Core.lose.Goals as goal
use Rattle.master_state.proofs.state.Core.lose.Goals.{in-None, in-Some, in-Some-pass, in_default}

pub add-requires : goal.add-requires
add-requires c =
    let rolled : c.match-roll.self-inside ≡ c.self.inside =
    elim c.match-roll.branch [
      | in-None w ↦ w.self-inside-is
      | in-Some w ↦ w.self-inside-is
    ] in
    let failed : c.match-self.self-inside.failed ≡ c.match-roll.self-inside.failed =
    elim c.match-self.branch [
      | in-Some-pass w ↦ ap (λ (m : Inside). m.failed) w.self-inside-is
      | in_default w ↦ ap (λ (m : Inside). m.failed) w.self-inside-is
    ] in
    let count : length c.match-self.self-inside.failed ≡ length c.self.inside.failed =
    ap (λ (bs : List ℕ). length bs) failed ∙ ap (λ (m : Inside). length m.failed) rolled in
    let may = loses (the_view c.self.inside)
    (subst (λ (m : MasterData). may_lose m ≡ true) (sym c.self.view_is) c.requires.may) in
    let homes = has_homes c.self.inside.config c.self.invariant.2.config in
    let left = may.left in
    let some = homes.some in
    let few = homes.few in
    omega arith

module _ (c : goal.Joined-self-2) where
  abbrev d : MasterData
  d = the_view c.self.inside

  abbrev b : ℕ
  b = c.args.backup

  rolled : c.match-roll.self-inside ≡ c.self.inside
  rolled = elim c.match-roll.branch [
    | in-None w ↦ w.self-inside-is
    | in-Some w ↦ w.self-inside-is
  ]

  abbrev calmed : Option OpenPass → Option OpenPass
  calmed o = option_map (λ (p : OpenPass). record p { is_committing = false }) o

  passed : c.match-self.self-inside ≡ record c.self.inside {
    head = c.lose-abandoned.new.self;
    closed = c.lose_replicas.new.closed;
    waiting = c.lose_waiting.new.waiting;
    pass = calmed c.self.inside.pass;
    abandoned = c.of-self-inside.result;
  }
  passed = elim c.match-self.branch [
    | in-Some-pass w ↦
        let some : c.match-roll.self-inside.pass ≡ Some w.in-Some-pass.pass = w.in-Some-pass.is in
        let then : Some (record w.in-Some-pass.pass { is_committing = false }) ≡ calmed c.self.inside.pass =
        ap calmed (sym some) ∙ ap (λ (m : Inside). calmed m.pass) rolled in
        w.self-inside-is
        ∙ (λ i. record (rolled i) {
          head = c.lose-abandoned.new.self;
          closed = c.lose_replicas.new.closed;
          waiting = c.lose_waiting.new.waiting;
          pass = then i;
          abandoned = c.of-self-inside.result;
        })
    | in_default w ↦
        let none : c.match-roll.self-inside.pass ≡ None = w.in_default.is in
        let then : c.match-roll.self-inside.pass ≡ calmed c.self.inside.pass =
        none ∙ ap calmed (sym none) ∙ ap (λ (m : Inside). calmed m.pass) rolled in
        w.self-inside-is
        ∙ (λ i. record (rolled i) {
          head = c.lose-abandoned.new.self;
          closed = c.lose_replicas.new.closed;
          waiting = c.lose_waiting.new.waiting;
          pass = then i;
          abandoned = c.of-self-inside.result;
        })
  ]

  place : c.place_of-place.result ≡ place_of d b
  place = c.place_of-place.ensures.place ∙ ap (λ (m : MasterData). place_of m b) (sym c.self.view_is)

  head : c.lose-abandoned.new.self ≡ lost d.head (place_of d b)
  head = c.lose-abandoned.ensures.lost ∙ (λ i. lost (rolled i).head (place i))

  closed : c.lose_replicas.new.closed ≡ record c.self.inside.closed {
    images = map (lost_image d.config d.failed b) d.closed;
  }
  closed = c.lose_replicas.ensures ∙ (λ i. record (rolled i).closed {
    images = map (lost_image (rolled i).config (rolled i).failed b) (rolled i).closed.images;
  })

  waiting : c.lose_waiting.new.waiting.items ≡ filter still_waits (map (lost_waiting d.config d.failed b) d.waiting)
  waiting = c.lose_waiting.ensures
      ∙ (λ i. filter still_waits (map (lost_waiting (rolled i).config (rolled i).failed b) (rolled i).waiting.items))

  failed : c.add.new.self ≡ b ∷ d.failed
  failed = c.add.ensures ∙ ap (λ (m : Inside). b ∷ m.failed) passed

  frozen : c.durable-frozen.result ≡ durable_now d
  frozen = c.durable-frozen.ensures ∙ ap (λ (m : MasterData). durable_now m) (sym c.self.view_is)

  counted : c.match-roll.closed ≡ less_by (option_map_or (λ (r : Roll). r.closed) d.head.roll 0) (place_of d b)
  counted = elim c.match-roll.branch [
    | in-None w ↦
        let none : None ≡ d.head.roll = w.in-None.ensures in
        w.closed-is ∙ sym (none_less (place_of d b))
        ∙ ap (λ (o : Option Roll). less_by (option_map_or (λ (r : Roll). r.closed) o 0) (place_of d b)) none
    | in-Some w ↦
        let some : Some w.in-Some.roll.now ≡ d.head.roll = w.in-Some.ensures in
        w.closed-is ∙ w.less_by-closed.ensures
        ∙ (λ i. less_by (option_map_or (λ (r : Roll). r.closed) (some i) 0) (place i))
  ]

  image : c.lose-abandoned.result ≡ option_map (λ (r : Roll). r.image) d.head.roll
  image = c.lose-abandoned.ensures.image ∙ ap (λ (m : Inside). option_map (λ (r : Roll). r.image) m.head.roll) rolled

  first : nat_lt c.opened.result c.self.inside.config.replicas ≡ not (is_opened d.head)
  first =
      let same = c.self.invariant.2.replicas in
      ap (λ (n : ℕ). nat_lt n c.self.inside.config.replicas) c.opened.ensures
      ∙ ap (λ (n : ℕ). nat_lt (length d.head.taken) n) (sym same)
      ∙ go (length d.head.taken) d.head.replicas
    where
      go : (n m : ℕ) → nat_lt n m ≡ not (nat_le m n)
      go n m = grind (arith, nat_tests)

  heads : c.of-self-inside.result.heads ≡ new_heads_in d.head
  heads = c.of-self-inside.ensures ∙ ap (λ (m : Inside). new_heads_in m.head) rolled

  lost_then : the_view (record c.match-self.self-inside {
    failed = c.add.new.self;
    failover = Some (record {
      part = part.Mends;
      frozen = c.durable-frozen.result;
      closed = c.match-roll.closed;
      abandoned = c.lose-abandoned.result;
      is_first = nat_lt c.opened.result c.self.inside.config.replicas;
    });
  }) ≡ lost_data d b
  lost_then =
      (λ i. the_view (record (passed i) {
        failed = c.add.new.self;
        failover = Some (record {
          part = part.Mends;
          frozen = c.durable-frozen.result;
          closed = c.match-roll.closed;
          abandoned = c.lose-abandoned.result;
          is_first = nat_lt c.opened.result c.self.inside.config.replicas;
        });
      }))
      ∙ (λ i. record d {
        head = head i;
        closed = (closed i).images;
        pass = calmed d.pass;
        waiting = waiting i;
        failed = failed i;
        failover = Some (record {
          part = part.Mends;
          frozen = frozen i;
          closed = counted i;
          abandoned = image i;
          is_first = first i;
        });
        abandoned = heads i;
      })

  core_then : IsCore (lost_data d b)
  core_then =
      lost_core d b c.self.invariant.2 (loses d
      (subst (λ (m : MasterData). may_lose m ≡ true) (sym c.self.view_is) c.requires.may))
      (subst (λ (m : MasterData). b < m.config.backups) (sym c.self.view_is) c.requires.there)
      (subst (λ (m : MasterData). has m.failed b ≡ false) (sym c.self.view_is) c.requires.works)

none_commits : (o : Option OpenPass) (ws : Vec Waiting Global)
    → IfSome (option_map (λ (p : OpenPass). record p { is_committing = false }) o) (λ (p : OpenPass).
    p.is_committing ≡ true → length ws.items + length p.victims ≤ vec_capacity ws)
none_commits None ws = tt
none_commits (Some p) ws = λ never. absurd (cc)

pub returns-clause-lost : goal.returns-clause-lost
returns-clause-lost c = lost_then c ∙ ap (λ (m : MasterData). lost_data m c.args.backup) c.self.view_is

pub invariant_of-self : goal.invariant_of-self
invariant_of-self c = (
  λ some.
      let none : c.match-self.self-inside.head.roll ≡ None =
      ap (λ (m : Inside). m.head.roll) (passed c) ∙ ap (λ (h : HeadValue). h.roll) (head c) in
      let never = subst (λ (o : Option Roll). IsSome o) none some in
      absurd (cc),
  subst (λ (m : Inside). AreImagesOf m.config m.closed) (sym (passed c))
      (subst (λ (v : ImagesValue). AreImagesOf c.self.inside.config v) (sym (closed c))
      (let own = c.self.invariant.1 in
      record { segment = own.segment; seglet = own.seglet; seglets = own.seglets })),
  subst (λ (m : MasterData). IsCore m) (sym (lost_then c)) (core_then c),
  subst (λ (m : Inside). IfSome m.pass (λ (p : OpenPass). p.is_committing ≡ true
      → length m.waiting.items + length p.victims ≤ vec_capacity m.waiting)) (sym (passed c))
      (none_commits c.self.inside.pass c.lose_waiting.new.waiting),
  none_right _ _ _ _ c.clear.ensures,
)

pub returns-clause-valid : goal.returns-clause-valid
returns-clause-valid c = subst (λ (m : MasterData). IsCore m) (sym (lost_then c)) (core_then c)
