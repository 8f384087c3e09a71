-- The old head is closed on one of its homes.
use Rattle.std.proofs.Common.{◌≡◌, ℕ, ◌<◌, inl, inr, false, ◌∷◌, length, Some, refl, sym, ap, subst, ◌∙◌, arith}
use Rattle.std.proofs.lemmas.Option.{same_Some}
use Rattle.log_laws.specs.Heads.{Start}
use Rattle.log_laws.specs.Text.{Text, Replica}
use Rattle.log_laws.specs.Shown.{Shown, Op, taken}
use Rattle.log_laws.specs.Data.{front, bare_replica, FailData, new_of, IsNew}
use Rattle.log_laws.specs.Log.{Texts, IsLogged, IsMirrored, IsLogHeld, IsStanding}
use Rattle.log_laws.specs.Steps.{ClosesOld}
use Rattle.log_laws.specs.Laws.{ClosesHeld, ClosesStanding}
use Rattle.log_laws.proofs.Again.{recounted, logged_again, standing_again, mirrored_again}
use Rattle.log_laws.proofs.HeadOps.{head_good}
use Rattle.log_laws.proofs.Lists.{is_some, some_member, has_either}
use Rattle.log_laws.proofs.Pictures.{is_taken, closed}
use Rattle.log_laws.proofs.Placing.{IsPut, put_there}
use Rattle.log_laws.proofs.Replicas.{head_only, home_reach}

module _ (d e : FailData) (texts : Texts) (p q : Shown) (o : Op) (some : 0 < d.config.replicas) (log : IsLogged d texts)
    (mir : IsMirrored d texts p) (op : ClosesOld d o e) (took : taken p o ≡ Some q) where
  abbrev id : ℕ
  id = d.head.start.id

  abbrev b : ℕ
  b = op.b

  abbrev n : Start
  n = op.n

  abbrev units : ℕ
  units = length d.head.units

  abbrev shut_whole : Replica
  shut_whole = record { text = front d.head units; is_open = false }

  is_new : IsNew d n
  is_new = elim op.mode as (λ _. IsNew d n) [
    | inl rolls ↦ inl (ap new_of rolls)
    | inr closes ↦ inl (ap new_of closes)
  ]

  -- a replica of the new head is there, so each home of the old one has all units
  home_whole : d.counts b ≡ units
  home_whole =
      let opened = op.opened in
      let one = some_member (d.took n.id) (omega arith) in
      mir.whole n one.0 b is_new (is_some (p.holds one.0 n.id) (bare_replica n) (mir.new n one.0 is_new one.1)) op.home

  shut_it : IsPut d texts b id shut_whole q
  shut_it =
      let is = is_taken p q o b id _ op.op took in
      let was = closed (p.holds b id) is.x is.given in
      let old = head_only d texts p log mir b was.r was.had in
      let k_is = home_reach d texts p log mir b was.r old home_whole in
      let text : was.r.text ≡ front d.head units = old.text ∙ ap (front d.head) k_is in
      put_there d texts p q b id _ shut_whole mir is
      (was.now ∙ ap (λ (t : Text). Some (record { text = t; is_open = false })) text)
      (head_good d texts p log mir b shut_whole (mir.bounded b id was.r was.had) (record {
        k = units;
        within = omega arith;
        text = refl;
        reach = inl (op.home.0, omega (arith, home_whole));
        shut = λ _. (refl, record { n = n; is_new = is_new; opened = op.opened });
      }) (λ _. refl))

  shut_known : IsMirrored (recounted d d.counts (b ∷ d.shut) d.took) texts q
  shut_known =
      let mirror = shut_it.mirrored in
      mirrored_again d texts q d.counts (b ∷ d.shut) d.took log mirror (record {
        longer = λ s. omega arith;
        reach = λ c r there h. h.reach;
        head = mirror.head;
        new = mirror.new;
        others = λ s c other is works. mirror.others s c other (is, works);
        whole = λ m c f also is_there is works. mirror.whole m c f also is_there (is, works);
        is_shut = λ c r is there. elim (has_either b c d.shut is) as (λ _. r.is_open ≡ false) [
          | inl same ↦ ap (λ (x : Replica). x.is_open)
              (same_Some r shut_whole (sym there ∙ ap (λ (x : ℕ). q.holds x id) same ∙ shut_it.there))
          | inr old ↦ mirror.shut c r old there
        ];
        homes = mirror.homes;
        new_homes = mirror.new_homes;
      })

-- a Close that is taken, whether the master knows it or not
pub closes_held : ClosesHeld
closes_held d e texts p q o held op took = (
  record {
    some = held.some;
    logged = held.logged;
    mirrored = (shut_it d e texts p q o held.some held.logged held.mirrored op took).mirrored;
  },
  subst (λ (x : FailData). IsLogHeld x texts q) (sym op.gives) (record {
    some = held.some;
    logged = logged_again d texts d.counts (op.b ∷ d.shut) d.took held.logged held.logged.counted;
    mirrored = shut_known d e texts p q o held.some held.logged held.mirrored op took;
  }),
)

pub closes_standing : ClosesStanding
closes_standing d e texts p q o held standing op took =
    subst (λ (x : FailData). IsStanding x texts) (sym op.gives)
    (standing_again d texts d.counts (op.b ∷ d.shut) d.took standing (omega arith))
