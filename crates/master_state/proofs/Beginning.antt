-- The core of a new master has the invariant.
use Rattle.std.proofs.Common.{◌≡◌, inl, inr, ℕ, ◌<◌, ◌≤◌, Bool, true, false, ◌==◌, List, [], length, refl, sym, ap}
use Rattle.std.proofs.Common.{subst, ◌∙◌, arith}
use Rattle.std.specs.Prelude.{Some, None, IfSome, not, nat_le, if◌then◌else◌}
use Rattle.std.proofs.lemmas.Bool.{lt-leb}
use Rattle.cleaner.specs.Seals.{first_lacking}
use Rattle.entry.specs.declared.entry.Entry.TheVariants as entry
use Rattle.entry.specs.Bag.{IsAmong}
use Rattle.log_head.specs.Head.{HeadValue, IsHeadValue, digest_of}
use Rattle.log_head.specs.Log.{head_of, HasLens, IsImageOf}
use Rattle.log_head.specs.Steps.{lone_start, fresh_head}
use Rattle.log_head.proofs.HeadLog.{head_is, image_fresh}
use Rattle.log_head.proofs.RollLog.{digest_is}
use Rattle.log_head.specs.log_laws.Heads.{Head, ids_of, digest_for, start_entries}
use Rattle.log_head.proofs.log_laws.ListedIds.{ids_listed}
use Rattle.log_head.specs.log_laws.Rising.{AreBelow}
use Rattle.log_memory.specs.log_laws.Data.{Calm, Rolls}
use Rattle.log_memory.specs.log_laws.Steps.{no_head, restored}
use Rattle.master_state.specs.declared.config.Config.{Config}
use Rattle.master_state.specs.Config.{config_fault}
use Rattle.master_state.specs.Budget.{most_segments}
use Rattle.master_state.specs.Invariant.{NameBelow, IsCore, AreTallied}
use Rattle.master_state.specs.Loading.{restored_data}
use Rattle.master_state.specs.Log.{fail_config, opening_of, log_of, images_of}
use Rattle.master_state.proofs.Refusals.{has_homes, sizes_of}
use Rattle.master_state.proofs.Tallying.{none_right, tallied_more}
use Rattle.segment.proofs.UnitLemmas.{head_few}
use Rattle.tally.specs.declared.tallies.Tally.{Tally}
use Rattle.tally.specs.Rows.{WithOne, of_nothing}

-- its digest lists no other segments, nor lengths of them
pub lone_has : (format safe : ℕ) → HasLens (lone_start 1 format safe)
lone_has format safe = go (format == 2) where
  go : (b : Bool) → IfSome (if b then Some [] else None) (λ (ns : List ℕ). length ns ≡ 0)
  go true = refl
  go false = tt

-- the opening of the first head has no tombstone
named_first : (c : Config) (safe : ℕ) → NameBelow (images_of (restored_data c safe)) 2
named_first c safe s t m = go (1 == s) refl where
  never : IsAmong (entry.Tombstone t) (start_entries c.master (lone_start 1 c.format safe)) → ⊥
  never (inl is) = cc
  never (inr (inl is)) = cc
  never (inr (inr (inl is))) = cc
  never (inr (inr (inr m))) = m

  go : (b : Bool) → (1 == s) ≡ b → t.segment < 2
  go true here = absurd (never (rw here at m))
  go false away = absurd (rw away at m)

module _ (c : Config) (safe : ℕ)
    (head : IsHeadValue (fresh_head c.master c.replicas (lone_start 1 c.format safe))) where
  abbrev first : HeadValue
  first = fresh_head c.master c.replicas (lone_start 1 c.format safe)

  pub head_first : head_of first ≡ record { start = lone_start 1 c.format safe; loaded = []; units = []; taken = [] }
  head_first =
      head_is c.master first _
      (image_fresh c.master c.replicas (lone_start 1 c.format safe) (lone_has c.format safe)) head.segment

  pub restored_core : config_fault c ≡ None → IsCore (restored_data c safe)
  restored_core ok =
      let few = head_few c.master 1 (digest_for (lone_start 1 c.format safe)) safe in
      let one = ap (λ (l : List ℕ). length l) (ids_listed (lone_start 1 c.format safe)) in
      let least = (sizes_of c ok).least_segment in
      let enough = (sizes_of c ok).least_seglets in
      let image : IsImageOf c.master first (head_of first) =
      subst (λ (l : Head). IsImageOf c.master first l) (sym head_first)
      (image_fresh c.master c.replicas (lone_start 1 c.format safe) (lone_has c.format safe)) in
      let ids = ap (λ (l : List ℕ). length l) (digest_is c.master first (head_of first) image)
      ∙ ap (λ (l : Head). length (ids_of l.start)) head_first in
      let few_ids : length (digest_of first.image) ≤ most_segments c = omega arith in
      record {
        config = ok;
        replicas = refl;
        history = record { within = omega arith; few = omega arith; places = omega arith };
        head = head;
        image = image;
        within = omega arith;
        closed = sym (ap (λ (l : Head). l.start.others) head_first);
        segments = tt;
        below = subst (λ (l : Head). AreBelow l.start) (sym head_first) tt;
        real = omega arith;
        used = omega arith;
        first = λ not. record {
          others = ap (λ (l : Head). l.start.others) head_first;
          loaded = ap (λ (l : Head). l.loaded) head_first;
          units = refl;
        };
        next = omega arith;
        roll = tt;
        pass = tt;
        named = named_first c safe;
        replicas_few = tt;
        waiting = tt;
        digest = few_ids;
        listed = few_ids;
        failed = record {
          few = (let many = (has_homes c ok).many in omega arith);
          there = tt;
          apart = tt;
          two = λ some. absurd (some refl);
        };
        whole = λ calm. ap (λ (l : Head). first_lacking c.replicas [] l.start.others) head_first;
        failover = tt;
        abandoned = λ calm. refl;
        budget = omega arith;
        legal = refl;
        index = record { kept = record { told = tt; apart = tt }; lies = λ k. tt; safe = refl };
      }

  -- no replica of the first head is open yet
  pub restored_log : config_fault c ≡ None → log_of (restored_data c safe) ≡ restored (fail_config c) safe
  restored_log ok =
      let none : nat_le c.replicas 0 ≡ false = lt-leb c.replicas 0 (has_homes c ok).some in
      λ i. record {
        config = fail_config c;
        opening = opening_of (restored_data c safe);
        history = [];
        head = if not (none i) then record { start = no_head c.format; loaded = []; units = [] } else record {
          start = (head_first i).start;
          loaded = (head_first i).loaded;
          units = (head_first i).units;
        };
        counts = λ b. 0;
        shut = [];
        mode = if none i then Calm else Rolls (head_first i).start;
        abandoned = [];
        took = λ s. [];
        failed = [];
        frozen = 0;
        next = 2;
      }

-- its tally is right: it has neither objects nor tombstones
pub tallied_first : (c : Config) (safe : ℕ) (rows : List Tally) → WithOne (of_nothing 1) [] rows
    → AreTallied (restored_data c safe) rows
tallied_first c safe rows with = tallied_more (restored_data c safe) 1 [] rows refl with (none_right _ _ _ _ refl)
