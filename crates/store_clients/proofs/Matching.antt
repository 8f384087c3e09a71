-- Lists that match place by place.
use Rattle.std.proofs.Common.{◌≡◌, ◌≤◌, ◌++◌, ⊎_elim, ℕ, List, [], ◌∷◌, Option, Some, Result, Ok, Err}
use Rattle.std.proofs.Common.{refl, sym, ap, ◌∙◌, subst, arith, length-append}
use Rattle.std.specs.Prelude.{slice_get, IfOk, IfSome}
use Rattle.std.proofs.lemmas.Option.{IfSome_then}
use Rattle.entry.proofs.ListLemmas.{slice_get_left, slice_get_last, slice_get_push}
use Rattle.counted_calls.specs.locked_log.store_seat.Seats.{SeatValue}
use Rattle.store_clients.specs.declared.client.Client.{Client}
use Rattle.store_clients.specs.declared.client.Rounds.{Rounds}
use Rattle.store_clients.specs.Clients.{Matches, IsClient, IsAsked, IsKept}

pub matches_none : {A B : Type 0} (R : A → B → Type 0) → Matches R [] []
matches_none R = record { count = refl; each = λ k a e. absurd (cc) }

-- two that are so related, one more of each list
pub matches_push : {A B : Type 0} (R : A → B → Type 0) (xs : List A) (ys : List B) (a : A) (b : B)
    → Matches R xs ys → R a b → Matches R (xs ++ a ∷ []) (ys ++ b ∷ [])
matches_push {A} {B} R xs ys a b m r = record {
  count = omega (arith, m.count, length-append xs (a ∷ []), length-append ys (b ∷ []));
  each = λ k x e. ⊎_elim
      (λ h. let y = m.each k x h in (y.0, slice_get_left ys (b ∷ []) k y.0 y.1, y.2))
      (λ h.
      let at : slice_get (ys ++ b ∷ []) k ≡ Some b = ap (slice_get (ys ++ b ∷ [])) (h.0 ∙ sym m.count)
      ∙ slice_get_last ys b in
      (b, at, subst (λ (z : A). R z b) h.1 r))
      (slice_get_push xs a k x e);
}

-- one relation and then the other
pub matches_both : {A B C : Type 0} (R : A → B → Type 0) (S : B → C → Type 0) (T : A → C → Type 0)
    (xs : List A) (ys : List B) (zs : List C) → ((a : A) (b : B) (c : C) → R a b → S b c → T a c)
    → Matches R xs ys → Matches S ys zs → Matches T xs zs
matches_both R S T xs ys zs gives m n = record {
  count = n.count ∙ m.count;
  each = λ k a e.
      let b = m.each k a e in
      let c = n.each k b.0 b.1 in
      (c.0, c.1, gives a b.0 c.0 b.2 c.2);
}

IfOk_then : {A E : Type 0} (r : Result A E) {P Q : A → Type 0} → IfOk r P → ((a : A) → P a → Q a) → IfOk r Q
IfOk_then (Ok a) p h = h a p
IfOk_then (Err e) p h = tt

-- A client that keeps what was asked for its seat.
pub client_is : {B : Type 0} (rounds : ℕ) (m : SeatValue) (r : Rounds) (c : Client B)
    → IsAsked rounds m r → IsKept r c → IsClient rounds m c
client_is {B} rounds m r c asked kept = record {
  accepted = IfOk_then c.calls own.accepted (λ n h.
      let s : SeatValue = h.1 in
      let is = subst (λ (o : Option SeatValue). IfSome o Numbers) h.2 own.seat in
      (h.0, s, h.2, record { count = h.3; amount = omega (arith, is.3, h.3, asked.share.1) }));
  seat = IfSome_then c.seat own.seat (λ s h. record {
    number = h.0;
    parts = h.2 ∙ sym asked.share.0;
    count = h.1;
    amount = omega (arith, h.3, asked.share.1);
  });
}
  where
    Numbers : SeatValue → Type 0
    Numbers s = (s.number ≡ m.number) × (m.count ≤ s.count) × (s.parts ≡ 1) × (s.amount ≡ s.count)

    own : IsKept (record { rounds = rounds; number = m.number; count = m.count }) c
    own = subst (λ (x : Rounds). IsKept x c) asked.is kept
