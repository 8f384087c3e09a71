-- Which entries of their texts replicas hold, and which units all backups of the head hold.
use Rattle.std.proofs.Common.{◌≡◌, ℕ, ◌<◌, inl, inr, [], length, Some, sym, subst, arith}
use Rattle.std.specs.Prelude.{slice_get}
use Rattle.std.proofs.lemmas.Bool.{cases_lt}
use Rattle.entry.specs.Meaning.{among}
use Rattle.entry.proofs.BagLemmas.{among_left}
use Rattle.log_laws.specs.Heads.{LogUnit}
use Rattle.log_laws.proofs.Counts.{before_rise, before_at}
use Rattle.log_laws.proofs.Fronts.{in_front}
use Rattle.log_laws.specs.Text.{Text, Replica}
use Rattle.log_laws.specs.Data.{FailData, everywhere, durable_of}
use Rattle.log_laws.specs.Log.{Texts, IsReplica, IsStanding}
use Rattle.log_laws.specs.Laws.{ReplicasAreTexts, HomesHoldCopies, KeptIsReplicated}
use Rattle.log_laws.proofs.Lists.{some_is}
use Rattle.log_laws.proofs.Replicas.{head_only, all_reach}
use Rattle.log_laws.proofs.States.{own_entries, front_among, durable_taken}

pub replicas_are_texts : ReplicasAreTexts
replicas_are_texts d texts p b s r e held there m = go (held.mirrored.each b s r there) where
  go : IsReplica d texts p.least b s r → among (texts.text s).entries e
  go (inl is) =
      subst (λ (t : ℕ). among (texts.text t).entries e) (sym is.0)
      (subst (λ (l : _). among l e) (sym (own_entries d texts held.logged))
      (front_among e d.head is.1.k (subst (λ (t : Text). among t.entries e) is.1.text m)))
  go (inr (inl is)) = absurd (subst (λ (q : Replica). among q.text.entries e) is.3 m)
  go (inr (inr is)) = elim is.whole as (λ _. among (texts.text s).entries e) [
    | inl copy ↦ elim copy.0 as (λ _. among (texts.text s).entries e) [
      | inl text ↦ subst (λ (l : _). among l e) text m
      | inr image ↦ held.logged.images s r.text.entries e image m
    ]
    | inr cut ↦ subst (λ (l : _). among l e) (sym cut.begins) (among_left e r.text.entries cut.rest m)
  ]

pub homes_hold_copies : HomesHoldCopies
homes_hold_copies d texts p s b held other home = held.mirrored.others s b other home

-- a unit below the durable count is among those that all backups of the head took
taken_by_all : (d : FailData) (texts : Texts) → IsStanding d texts → (place : ℕ) (u : LogUnit)
    → slice_get d.head.units place ≡ Some u → u.number < durable_of d → place < everywhere d
taken_by_all d texts standing place u at lt =
    let number_is = before_at d.head.units (length d.history) place u at in
    let le = durable_taken d texts standing in
    elim (cases_lt place (everywhere d)) as (λ _. place < everywhere d) [
      | inl less ↦ less
      | inr more ↦ (
          let up = before_rise 0 d.head.units (length d.history) (everywhere d) place standing.numbers more in
          absurd (omega arith))
    ]

pub kept_is_replicated : KeptIsReplicated
kept_is_replicated d p place b u kept at lt took =
    let there = some_is (p.holds b d.head.start.id) (kept.held.mirrored.head b took) in
    let is = head_only d kept.texts p kept.held.logged kept.held.mirrored b there.0 there.1 in
    let near = taken_by_all d kept.texts kept.standing place u at lt in
    let reach = all_reach d b there.0 is in
    let within : place < is.k = omega arith in (
      there.0,
      there.1,
      λ e m. subst (λ (t : Text). among t.entries e) (sym is.text)
          (in_front (record { start = d.head.start; loaded = d.head.loaded; units = d.head.units; taken = [] })
          place is.k u e at within m),
    )
