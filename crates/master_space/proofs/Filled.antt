-- How far the first victims of a pass fill survivors.
use Rattle.std.proofs.Common.{◌≡◌, ℕ, ◌+◌, ◌<◌, ◌≤◌, List, ◌∷◌, length, drop}
use Rattle.std.proofs.Common.{cond, Bool, get_or, refl, sym, ap, ◌∙◌, add-one, drop-cons, arith}
use Rattle.std.specs.Prelude.{Option, Some, None, nat_le}
use Rattle.std.specs.List.{AllByRecursion}
use Rattle.std.specs.Option.{option_map}
use Rattle.std.proofs.lemmas.Bool.{le-leb, lt-leb}
use Rattle.std.proofs.lemmas.List.{drop_all}
use Rattle.entry.specs.Text.{IsSegment}
use Rattle.images.specs.Image.{Image}
use Rattle.cleaner.specs.declared.fitting.PassSize.{PassSize}
use Rattle.cleaner.specs.declared.level.Level.{Level}
use Rattle.cleaner.specs.Filling.{first_level, filled}
use Rattle.cleaner.proofs.Fillings.{at_most, front_no_further}
use Rattle.master_state.specs.Causes.{survivors_for}
use Rattle.master_state.specs.Data.{MasterData}
use Rattle.master_space.specs.Choosing.{filled_by}
use Rattle.master_space.proofs.Ordering.{Lengths, all_filled, filled_all, filled_survivors}

-- the first so many victims were filled in
pub record IsFilledTo (d : MasterData) (victims : List ℕ) (i : ℕ) (level : Level) : Type 0 where
  pub rest : filled_all d level (drop i victims) ≡ filled_all d first_level victims
  pub few : level.survivor < 4
  pub bytes : level.len ≤ 16777216

-- so many survivors, if they are no more than four
abbrev pub At_most_four : ℕ → Option ℕ
At_most_four n = cond (nat_le n 4) (Some n) None

module _ (d : MasterData) (victims : List ℕ) where
  pub filled_start : IsFilledTo d victims 0 first_level
  filled_start = record { rest = refl; few = omega arith; bytes = omega arith }

  module _ (i : ℕ) (level : Level) (f : IsFilledTo d victims i level) (lt : i < length victims) (next : Level)
      (filled_is : next ≡ filled_by d level (get_or victims i 0)) where
    split : drop i victims ≡ get_or victims i 0 ∷ drop (i + 1) victims
    split = rw add-one (drop-cons victims i 0 lt)

    on : filled_all d next (drop (i + 1) victims) ≡ filled_all d first_level victims
    on =
        ap (λ (a : Level). filled_all d a (drop (i + 1) victims)) filled_is
        ∙ sym (ap (filled_all d level) split)
        ∙ f.rest

    pub filled_next : next.survivor < 4 → next.len ≤ 16777216 → IsFilledTo d victims (i + 1) next
    filled_next few bytes = record { rest = on; few = few; bytes = bytes }

    module _ (segments : AllByRecursion (λ (c : Image). IsSegment c.segment) d.closed) where
      -- a fifth survivor has begun
      pub filled_over : 4 ≤ next.survivor → None ≡ At_most_four (survivors_for d victims)
      filled_over le =
          let lengths = Lengths d segments (drop (i + 1) victims) in
          let further =
          at_most next (filled d.config.segment next lengths) (front_no_further d.config.segment next lengths) in
          let last = ap (λ (a : Level). a.survivor) (sym (all_filled d segments next (drop (i + 1) victims)) ∙ on) in
          let all = filled_survivors d segments victims in
          sym (ap (λ (b : Bool). cond b (Some (survivors_for d victims)) None)
          (lt-leb (survivors_for d victims) 4 (omega (arith, le, further, last, all))))

  -- all were filled in
  pub filled_end : (segments : AllByRecursion (λ (c : Image). IsSegment c.segment) d.closed) (i : ℕ) (level : Level)
      (size : PassSize) → IsFilledTo d victims i level → length victims ≤ i → size.survivors ≡ level.survivor + 1
      → option_map (λ (x : PassSize). x.survivors) (Some size) ≡ At_most_four (survivors_for d victims)
  filled_end segments i level size f past is =
      let last : level.survivor ≡ (filled_all d first_level victims).survivor =
      ap (λ (a : Level). a.survivor) (sym (ap (filled_all d level) (drop_all i victims past)) ∙ f.rest) in
      let all = filled_survivors d segments victims in
      let few = f.few in
      let same : size.survivors ≡ survivors_for d victims = omega (arith, is, last, all) in
      ap (λ (n : ℕ). Some n) same
      ∙ sym (ap (λ (b : Bool). cond b (Some (survivors_for d victims)) None)
      (le-leb (survivors_for d victims) 4 (omega (arith, same, is, few))))
