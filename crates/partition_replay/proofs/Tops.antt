-- What is kept, as claims come.
use Rattle.std.proofs.Common.{◌≡◌, ◌<◌, true, false, List, [], ◌∷◌, ◌++◌}
use Rattle.std.proofs.Common.{refl, sym, ap, subst, ◌∙◌, inl, inr, append_assoc, arith}
use Rattle.std.specs.Prelude.{Option, Some, None}
use Rattle.std.proofs.lemmas.List.{append-nil}
use Rattle.std.proofs.lemmas.Option.{same_Some}
use Rattle.entry.specs.declared.key.Key.{Key}
use Rattle.entry.specs.Bag.{IsAmong}
use Rattle.entry.proofs.BagLemmas.{among_left, among_right, among_last, among_push, among_either}
use Rattle.entry.proofs.KeyOrder.{key_eq_tells}
use Rattle.claims.specs.Claims.{Claimed, rank}
use Rattle.claims.specs.declared.fault.ReplayFault.{ReplayFault}
use Rattle.claims.specs.declared.fault.ReplayFault.TheVariants as fault
use Rattle.partition_replay.specs.declared.kept.Kept.{Kept}
use Rattle.partition_replay.specs.Keeping.{kept_claim, IsOver, IsAbove, DoesClash, HaveClash, AreTops}
use Rattle.partition_replay.specs.Keeping.{AddsTops, IsUnkept}
use Rattle.partition_replay.proofs.MapLemmas.{IsPut}

-- ---- one claim more

module _ (all : List Claimed) (old : Key → Option Kept) (tops : AreTops all old) (c : Claimed) where
  -- one that does not rank above what is kept of its key
  pub passed_by : (x : Kept) → old c.key ≡ Some x → IsOver (kept_claim c.key x) c → AreTops (all ++ c ∷ []) old
  passed_by x is over =
      record {
        only = λ k y kept. among_left (kept_claim k y) all (c ∷ []) (tops.only k y kept);
        each = λ d m. elim (among_push d all c m)
            as (λ _. (y : Kept) × (old d.key ≡ Some y) × IsOver (kept_claim d.key y) d) [
              | inl before ↦ tops.each d before
              | inr last ↦ subst (λ (e : Claimed). (y : Kept) × (old e.key ≡ Some y)
                  × IsOver (kept_claim e.key y) e) last
                  (x, is, over)
            ];
      }

  -- one that does
  module _ (x : Kept) (new : Key → Option Kept) (put : IsPut old c.key x new) (says : kept_claim c.key x ≡ c)
      (above : (y : Kept) → old c.key ≡ Some y → rank (kept_claim c.key y) < rank c) where
    abbrev HasOver : Claimed → Type 0
    HasOver d = (y : Kept) × (new d.key ≡ Some y) × IsOver (kept_claim d.key y) d

    over_itself : HasOver c
    over_itself = (
      x,
      put.here,
      subst (λ (e : Claimed). IsOver e c) (sym says) (record { ranks = omega arith; same = λ alive level. refl }),
    )

    over_before : (d : Claimed) → IsAmong d all → HasOver d
    over_before d m =
        let was = tops.each d m in
        elim (key_eq_tells d.key c.key) as (λ _. HasOver d) [
          | inl both ↦
              let low = was.2.ranks in
              let mid : rank (kept_claim c.key was.0) < rank c =
              above was.0 (ap old (sym both.1) ∙ was.1) in
              let high : rank (kept_claim d.key x) ≡ rank c = ap rank says in
              let lower : rank d < rank (kept_claim d.key x) = omega (arith, low, mid, high) in (
                x,
                ap new both.1 ∙ put.here,
                record { ranks = omega (arith, lower); same = λ alive level. absurd (omega (arith, lower, level)) },
              )
          | inr both ↦ (was.0, put.others d.key both.1 ∙ was.1, was.2)
        ]

    pub put_over : AreTops (all ++ c ∷ []) new
    put_over =
        record {
          only = λ k y kept. elim (key_eq_tells k c.key) as (λ _. IsAmong (kept_claim k y) (all ++ c ∷ [])) [
            | inl both ↦
                let one : x ≡ y = same_Some x y (sym put.here ∙ ap new (sym both.1) ∙ kept) in
                let is : c ≡ kept_claim k y = sym says ∙ (λ i. kept_claim (sym both.1 i) (one i)) in
                subst (λ (e : Claimed). IsAmong e (all ++ c ∷ [])) is (among_last all c)
            | inr both ↦ among_left (kept_claim k y) all (c ∷ [])
                (tops.only k y (sym (put.others k both.1) ∙ kept))
          ];
          each = λ d m. elim (among_push d all c m) as (λ _. HasOver d) [
            | inl before ↦ over_before d before
            | inr last ↦ subst HasOver last over_itself
          ];
        }

-- as `is_above` answers
pub adds_none : (old : Key → Option Kept) (c : Claimed) → IsAbove (old c.key) c false → AddsTops old (c ∷ []) old
adds_none old c says all tops = by_kept (old c.key) refl says
  where
    by_kept : (o : Option Kept) → old c.key ≡ o → IsAbove o c false → AreTops (all ++ c ∷ []) old
    by_kept None is over = absurd (cc)
    by_kept (Some x) is over = passed_by all old tops c x is over

pub adds_one : (old new : Key → Option Kept) (c : Claimed) (x : Kept) → IsAbove (old c.key) c true
    → kept_claim c.key x ≡ c → IsPut old c.key x new → AddsTops old (c ∷ []) new
adds_one old new c x says is put all tops =
    put_over all old tops c x new put is
    (λ y kept. subst (λ (o : Option Kept). IsAbove o c true) kept says)

within : (cs ds : List Claimed) → ((c : Claimed) → IsAmong c cs → IsAmong c ds) → HaveClash cs → HaveClash ds
within cs ds h clash = (clash.0, clash.1, h clash.0 clash.2, h clash.1 clash.3, clash.4)

pub clash_one : (old : Key → Option Kept) (c : Claimed) → DoesClash (old c.key) c → IsUnkept old (c ∷ []) fault.Clash
clash_one old c says all tops = by_kept (old c.key) refl says
  where
    by_kept : (o : Option Kept) → old c.key ≡ o → DoesClash o c → HaveClash (all ++ c ∷ [])
    by_kept None is clash = absurd clash
    by_kept (Some x) is clash =
        (kept_claim c.key x, c, among_left _ all (c ∷ []) (tops.only c.key x is), among_last all c, clash)

-- ---- claims one after another

pub adds_nothing : (old : Key → Option Kept) → AddsTops old [] old
adds_nothing old all tops = subst (λ cs. AreTops cs old) (sym (append-nil all)) tops

pub adds_more : (old mid new : Key → Option Kept) (cs ds : List Claimed) → AddsTops old cs mid → AddsTops mid ds new
    → AddsTops old (cs ++ ds) new
adds_more old mid new cs ds first second all tops =
    subst (λ es. AreTops es new) (append_assoc all cs ds) (second (all ++ cs) (first all tops))

pub unkept_more : (old mid : Key → Option Kept) (cs ds rest : List Claimed) (f : ReplayFault) → AddsTops old cs mid
    → IsUnkept mid ds f → IsUnkept old (cs ++ (ds ++ rest)) f
unkept_more old mid cs ds rest fault.NoMemory first h = tt
unkept_more old mid cs ds rest fault.Clash first h =
    λ all tops. within ((all ++ cs) ++ ds) (all ++ (cs ++ (ds ++ rest)))
    (λ c m. elim (among_either c (all ++ cs) ds m) as (λ _. IsAmong c (all ++ (cs ++ (ds ++ rest)))) [
      | inl early ↦ elim (among_either c all cs early) as (λ _. IsAmong c (all ++ (cs ++ (ds ++ rest)))) [
        | inl one ↦ among_left c all (cs ++ (ds ++ rest)) one
        | inr two ↦ among_right c all (cs ++ (ds ++ rest)) (among_left c cs (ds ++ rest) two)
      ]
      | inr late ↦
          among_right c all (cs ++ (ds ++ rest)) (among_right c cs (ds ++ rest) (among_left c ds rest late))
    ]) (h (all ++ cs) (first all tops))
unkept_more old mid cs ds rest (fault.Double segment) first h = absurd h
unkept_more old mid cs ds rest fault.Stranger first h = absurd h
unkept_more old mid cs ds rest (fault.MissingGroup segment) first h = absurd h
unkept_more old mid cs ds rest (fault.Stray key) first h = absurd h
