-- A new master keeps its limit, and so does one that adopted a table within it.
use Rattle.std.proofs.Common.{◌≡◌, ◌<◌, ◌+◌, ℕ, List, [], ◌∷◌, refl, sym, ap, subst, ◌∙◌, arith}
use Rattle.std.specs.Prelude.{sum}
use Rattle.entry.specs.declared.entry.Object.{Object}
use Rattle.entry.specs.Meaning.{Contents, contents_of}
use Rattle.packing.specs.Limits.{unlimited}
use Rattle.versioned_map.specs.declared.command.Record.{Record}
use Rattle.versioned_map.specs.History.{commands_of}
use Rattle.versioned_map.specs.Versioned.{State, after}
use Rattle.replay.specs.Adopting.{live_with}
use Rattle.replay.specs.Needs.{length_of, lengths_of}
use Rattle.replay.specs.master.master_state.declared.config.Config.{Config}
use Rattle.replay.specs.master.master_state.Data.{fresh_data}
use Rattle.replay.specs.master.master_state.Live.{object_bytes, with_bytes}
use Rattle.replay.specs.master.master_state.Log.{opening_of}
use Rattle.replay.specs.master.master_state.Sizes.{AreOnce}
use Rattle.adoptable.specs.Laws.{NewKeepsLimit, AdoptedKeepsLimit}
use Rattle.adoptable.specs.Limit.{HasLimit, IsSum}
use Rattle.adoptable.proofs.Dropped.{length_is, sum_first}
use Rattle.adoptable.proofs.Growing.{Admits}
use Rattle.adoptable.proofs.Listing.{sum_is, begun_admits}
use Rattle.adoptable.proofs.Ordered.{ordered_once}

pub new_keeps_limit : NewKeepsLimit
new_keeps_limit c limit = record {
  limit = limit;
  counted = sum_is c [] tt;
  admitted = begun_admits c (opening_of (fresh_data c)) [] [] refl refl tt (record { sum = omega arith; allowed = tt });
}

-- ---- a table that was adopted

-- what is counted of a list is its plain sum, as long as that is below the greatest word
live_is : (os : List Object) (n : ℕ) → n + sum (lengths_of os) < unlimited → live_with n os ≡ n + sum (lengths_of os)
live_is [] n lt = omega arith
live_is (o ∷ os) n lt =
    let first = sum_first o os in
    let own = length_is o in
    let here : with_bytes n (object_bytes o.key o.value) ≡ n + length_of o = omega arith in
    ap (λ (m : ℕ). live_with m os) here ∙ live_is os (n + length_of o) (omega arith) ∙ omega arith

pub adopted_keeps_limit : AdoptedKeepsLimit
adopted_keeps_limit c r d limit within is = record {
  limit = subst HasLimit (sym is.config) limit;
  counted = subst (λ (cs : Contents). IsSum cs d.live) (sym now) (subst (IsSum (contents_of r.objects)) (sym live)
      (sum_is c r.objects once));
  admitted = subst (λ (x : Config). Admits x (opening_of d) d.history) (sym is.config)
      (begun_admits c (opening_of d) d.history r.objects is.history (ap (λ (s : State). s.contents) is.opening) once
      within);
}
  where
    once : AreOnce r.objects
    once = ordered_once r.objects r.ordered

    live : d.live ≡ sum (lengths_of r.objects)
    live = is.live ∙ live_is r.objects 0
        (let most = within.sum in let lt = limit.limited in omega arith) ∙ omega arith

    now : (after (opening_of d) (commands_of d.history)).contents ≡ contents_of r.objects
    now = ap (λ (rs : List Record). (after (opening_of d) (commands_of rs)).contents) is.history
        ∙ ap (λ (s : State). s.contents) is.opening
