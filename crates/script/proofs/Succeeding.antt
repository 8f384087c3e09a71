-- What lines tell of lives that follow one another, they tell also if the last life is longer.
use Rattle.std.proofs.Common.{[], ◌≡◌, ◌≤◌, List, ◌∷◌, ◌++◌, length, refl, sym, ap, subst, inl, inr, arith}
use Rattle.std.proofs.lemmas.List.{append-nil}
use Rattle.lines.specs.Grammar.{LineValue}
use Rattle.next_master.specs.recovery.claims.declared.rebuilt.Rebuilt.{Rebuilt}
use Rattle.replica.specs.Picture.{FleetState}
use Rattle.versioned_map.specs.declared.command.Record.{Record}
use Rattle.next_master.specs.answers.declared.answer.Answer.{Answer}
use Rattle.next_master.specs.answers.declared.answer.Answer.TheVariants as answer
use Rattle.next_master.specs.cluster.Lives.{Life}
use Rattle.script.specs.Telling.{Told, GoesOn, Moves, AreTelling}
use Rattle.next_master.specs.Succession.{Standing, EndsRecovery, Succeeds}
use Rattle.script.proofs.LongerLives.{rises, tells_longer}

-- the standing, in a life with more records
abbrev pub with_more : Standing → List Record → Standing
with_more s more = record s { life = record { opening = s.life.opening; history = s.life.history ++ more } }

pub nothing_more : (s : Standing) → with_more s [] ≡ s
nothing_more s = let same = append-nil s.life.history in
    λ i. record s { life = record { opening = s.life.opening; history = same i } }

-- ---- one line

pub goes_longer : (from next : Standing) (line : LineValue) (a : Answer) (more : List Record)
    → from.at.made ≤ length from.life.history
    → next.at.made ≤ length from.life.history → GoesOn from line a next
    → GoesOn (with_more from more) line a (with_more next more)
goes_longer from next line a more within after g = record {
  config = g.config;
  life = ap (λ (l : Life). record { opening = l.opening; history = l.history ++ more }) g.life;
  tells = tells_longer from.config from.life.opening from.life.history more from.at line a next.at within after g.tells;
}

ends_longer : (to : Standing) (f : FleetState) (table : Rebuilt) (a : Answer) (more : List Record)
    → EndsRecovery to f table a
    → EndsRecovery (with_more to more) f table a
ends_longer to f table (answer.Recovered r) more ends = ends
ends_longer to f table answer.Stopped more ends = ends
ends_longer to f table (answer.NotRetired why) more ends = ends
ends_longer to f table a more ends = absurd ends

succeeds_longer : (from next : Standing) (line : LineValue) (a : Answer) (more : List Record)
    → Succeeds from line a next
    → Succeeds from line a (with_more next more)
succeeds_longer from next line a more s = record {
  asks = s.asks;
  told = s.told;
  left = s.left;
  was = s.was;
  table = s.table;
  found = s.found;
  config = s.config;
  opening = s.opening;
  made = s.made;
  acknowledged = s.acknowledged;
  fleet = s.fleet;
  ends = ends_longer next s.fleet s.table a more s.ends;
}

-- ---- many lines

goes_inside : (from next : Standing) (line : LineValue) (a : Answer) → GoesOn from line a next
    → next.at.made ≤ length next.life.history
    → (from.at.made ≤ length from.life.history) × (next.at.made ≤ length from.life.history)
goes_inside from next line a g within =
    let up = rises from.config from.life from.at line a next.at g.tells in
    let same = ap (λ (l : Life). length l.history) g.life in
    (omega arith, omega arith)

inside : (from : Standing) (told : List Told) (last : Standing) → AreTelling from told last
    → last.at.made ≤ length last.life.history
    → from.at.made ≤ length from.life.history
inside from [] last are within = subst (λ (s : Standing). s.at.made ≤ length s.life.history) are within
inside from (t ∷ ts) last are within =
    let rest = inside are.0 ts last are.2 within in
    elim are.1 [
      | inl g ↦ (goes_inside from are.0 t.line t.answer g rest).0
      | inr s ↦ let whole = s.told.whole in omega arith
    ]

pub telling_longer : (from : Standing) (told : List Told) (last : Standing) (more : List Record)
    → last.at.made ≤ length last.life.history
    → AreTelling from told last → (before : List Record) × AreTelling (with_more from before) told (with_more last more)
telling_longer from [] last more within are = (more, ap (λ (s : Standing). with_more s more) are)
telling_longer from (t ∷ ts) last more within are =
    let rest = telling_longer are.0 ts last more within are.2 in
    let here = inside are.0 ts last are.2 within in
    elim are.1 [
      | inl g ↦
          let bounds = goes_inside from are.0 t.line t.answer g here in (
            rest.0,
            (
              with_more are.0 rest.0,
              inl (goes_longer from are.0 t.line t.answer rest.0 bounds.0
                  bounds.1 g),
              rest.1,
            ),
          )
      | inr s ↦ (
        [],
        subst (λ (f : Standing). AreTelling f (t ∷ ts) (with_more last more)) (sym (nothing_more from))
            (with_more are.0 rest.0, inr (succeeds_longer from are.0 t.line t.answer rest.0 s), rest.1),
      )
    ]

-- one line more
pub telling_more : (from : Standing) (told : List Told) (mid : Standing) (t : Told) (next : Standing)
    → AreTelling from told mid
    → Moves mid t.line t.answer next → AreTelling from (told ++ t ∷ []) next
telling_more from [] mid t next are moves = (
  next,
  subst
      (λ (s : Standing). Moves s t.line t.answer next) are moves,
  refl,
)
telling_more from (first ∷ rest) mid t next are moves = (are.0, are.1, telling_more are.0 rest mid t next are.2 moves)
