-- What is printed of a group, place by place.
use Rattle.std.proofs.Common.{[], ◌≡◌, ◌∙◌, ℕ, zero, suc, ◌+◌, ◌-◌, ◌<◌, ◌≤◌, Bool, false, List, ◌∷◌, ◌++◌, length}
use Rattle.std.proofs.Common.{arith, ap, refl, subst, sym}
use Rattle.std.proofs.lemmas.List.{append-nil}
use Rattle.std.proofs.lemmas.Bool.Decides.{nat_tests}
use Rattle.std.specs.Prelude.{Some, Result, Err, nat_lt, slice_get}
use Rattle.std.specs.Option.{option_map}
use Rattle.std.specs.Io.KnownBytes.{Appends}
use Rattle.std.proofs.KnownBytes.{Appends-trans}
use Rattle.versioned_map.specs.declared.command.Record.{Record}
use Rattle.versioned_map.specs.declared.command.Reply.{Reply as MapReply}
use Rattle.answers.specs.declared.fault.ScriptFault.{ScriptFault}
use Rattle.answers.specs.driving.Served.{LivesOn}
use Rattle.answers.specs.driving.master.master_state.Data.{MasterData}
use Rattle.embedded.specs.Replies.{GoesOn, IsReadAt}
use Rattle.disk_lines.specs.Turns.{AnswersGroup, IsPushed, IsWritten, Known, told_at, told_from}
use Rattle.disk_lines.proofs.Grouping.{told_more}
use Rattle.disk_lines.proofs.Turning.{cut_written, then_written}

not_below : (n m : ℕ) → n ≤ m → nat_lt m n ≡ false
not_below n m within = grind (arith, nat_tests)

there : (rs : List Record) (n : ℕ) → n < length rs → (r : Record) × (slice_get rs n ≡ Some r)
there [] n is = absurd (omega (arith, is))
there (x ∷ rs) zero is = (x, refl)
there (x ∷ rs) (suc n) is = there rs n (omega (arith, is))

-- a record that isn't forgotten can be read
pub read_there : (d : MasterData) (place : ℕ) → d.forgotten ≤ place → place < length d.history
    → (reply : MapReply) × IsReadAt d place reply
read_there d place kept is =
    let r = there d.history place is in
    (r.0.reply, rw (not_below d.forgotten place kept) (ap (option_map (λ (x : Record). x.reply)) r.1))

module _ (is_raw : Bool) (d : MasterData) (why : List ℕ) where
  whole : (first place end : ℕ) → first ≤ place → place < end → told_from is_raw d why first (end - first)
      ≡ told_from is_raw d why first (place - first)
      ++ (told_at is_raw d why place ++ told_from is_raw d why (suc place) (end - suc place))
  whole first place end begun more =
      let many : end - first ≡ (place - first) + suc (end - suc place) = omega (arith, begun, more) in
      let at : first + (place - first) ≡ place = omega (arith, begun) in
      ap (λ (n : ℕ). told_from is_raw d why first n) many
      ∙ told_more is_raw d why first (place - first) (suc (end - suc place))
      ∙ ap (λ (n : ℕ). told_from is_raw d why first (place - first)
      ++ told_from is_raw d why n (suc (end - suc place))) at

  -- what is printed of the record at one more place was written
  pub one_written : (first place : ℕ) (held mid holds : Known) → first ≤ place
      → Appends held mid (told_from is_raw d why first (place - first))
      → Appends mid holds (told_at is_raw d why place)
      → Appends held holds (told_from is_raw d why first (place + 1 - first))
  one_written first place held mid holds begun before here =
      let more : place < place + 1 = omega arith in
      let none : place + 1 - suc place ≡ 0 = omega arith in
      subst (Appends held holds)
      (ap (λ (l : List ℕ). told_from is_raw d why first (place - first) ++ l)
      (sym (append-nil (told_at is_raw d why place))
      ∙ ap (λ (n : ℕ). told_at is_raw d why place ++ told_from is_raw d why (suc place) n) (sym none))
      ∙ sym (whole first place (place + 1) begun more))
      (Appends-trans held mid holds (told_from is_raw d why first (place - first)) (told_at is_raw d why place)
      before here)

  -- the writer failed at what is printed of a place
  pub one_cut : (first place end : ℕ) (held mid holds : Known) (f : ScriptFault) → first ≤ place → place < end
      → Appends held mid (told_from is_raw d why first (place - first))
      → IsWritten mid holds (told_at is_raw d why place) (Err f)
      → IsWritten held holds (told_from is_raw d why first (end - first)) (Err f)
  one_cut first place end held mid holds f begun more before cut =
      let rest = told_from is_raw d why (suc place) (end - suc place) in
      subst (λ (l : List ℕ). IsWritten held holds l (Err f)) (sym (whole first place end begun more))
      (then_written held mid holds (told_from is_raw d why first (place - first)) (told_at is_raw d why place ++ rest)
      (Err f) before (cut_written mid holds (told_at is_raw d why place) rest f cut))

-- the last records were pushed for and answered
pub group_done : (is_raw : Bool) (count : ℕ) (old pushed new : MasterData) (why : List ℕ) (held holds : Known)
    (r : Result (Unit {0}) ScriptFault) (records : ℕ) → (count ≡ 0 → ⊥) → records ≡ length old.history
    → count ≤ records → LivesOn old pushed [] → IsPushed pushed why → GoesOn pushed new []
    → IsWritten held holds (told_from is_raw pushed why (records - count) (records - (records - count))) r
    → AnswersGroup is_raw count old new held holds r
group_done is_raw zero old pushed new why held holds r records some all within lives outcome goes_on written =
    absurd (some refl)
group_done is_raw (suc more) old pushed new why held holds r records some all within lives outcome goes_on written =
    let many : records - (records - suc more) ≡ suc more = omega (arith, within) in (
      why,
      pushed,
      lives,
      outcome,
      goes_on,
      subst (λ (n : ℕ). IsWritten held holds (told_from is_raw pushed why (n - suc more) (suc more)) r) all
          (subst (λ (n : ℕ). IsWritten held holds (told_from is_raw pushed why (records - suc more) n) r) many written),
    )
