-- The calls of an append, one after another, and what a crash leaves of each.
use Rattle.std.proofs.Common.{◌≡◌, ℕ, ◌+◌, ◌-◌, ◌≤◌, Bool, false, ◌||◌, List, [], ◌∷◌, ◌++◌, length, drop, sym, ◌∙◌}
use Rattle.std.proofs.Common.{ap, subst}
use Rattle.std.proofs.Common.{arith, append_assoc, length-append}
use Rattle.std.proofs.lemmas.List.{append-nil, drop_all}
use Rattle.take_journal.specs.Crash.{LeftByAppend}
use Rattle.take_journal.specs.Device.{AnyMoment, EachFrom, IsTornWrite, LeavesJust, Passes, overwritten}
use Rattle.take_journal.specs.Frames.{AreShort, at_rest, frames, recovered}
use Rattle.take_journal.specs.Journal.{IsBatch, IsSettled}
use Rattle.take_journal.proofs.Moments.{begun, further}
use Rattle.take_journal.proofs.Reading.{frames-append, recovered-at_rest, short-append}
use Rattle.take_journal.proofs.Tearing.{opened, opened_stands, over, shut_leaves, torn_from, torn_gate_leaves}

-- a call that was answered Ok is no failure
pub unfailed : (before now : Bool) → before ≡ false → now ≡ (before || false) → now ≡ false
unfailed before now was is = is ∙ ap (λ b. b || false) was

-- a file at rest, all of it on the disk
pub settled : {D : Type 0} (contents : D → List ℕ) (may_leave : D → List ℕ → Type 0) (has_failed : D
    → Bool) (device : D) (end : ℕ)
    (texts : List (List ℕ)) → AreShort texts → contents device ≡ at_rest texts → end ≡ length (frames texts)
    → LeavesJust (contents device) (may_leave device) → has_failed device ≡ false
    → IsSettled contents may_leave has_failed device end
settled contents may_leave has_failed device end texts short is size just unfailed =
    let stands : recovered (contents device) ≡ texts = ap recovered is ∙ recovered-at_rest texts short in
    record {
      file = is ∙ ap at_rest (sym stands);
      short = subst AreShort (sym stands) short;
      gate = size ∙ ap (λ (l : List (List ℕ)). length (frames l)) (sym stands);
      durable = just;
      unfailed = unfailed;
    }

module _ {D : Type 0} (contents : D → List ℕ) (may_leave : D → List ℕ → Type 0) (clock : D → ℕ)
    (left_since : D → ℕ → List ℕ → Type 0)
    (has_failed : D → Bool)
    (just_now : (device : D) (file : List ℕ) → left_since device (clock device) file → may_leave device file)
    (d0 : D) (end : ℕ) (s : IsSettled contents may_leave has_failed d0 end) (bytes : List ℕ) (b : IsBatch bytes)
    (sent : List ℕ) (sent_is : sent ≡ drop 1 bytes) where
  abbrev old : List (List ℕ)
  old = recovered (contents d0)

  abbrev more : List (List ℕ)
  more = recovered bytes

  abbrev P : List ℕ → Type 0
  P = LeftByAppend old more

  spelled : 1 ∷ b.behind ≡ at_rest more
  spelled = sym b.starts ∙ b.spelled

  rest_is : sent ≡ b.behind
  rest_is = sent_is ∙ ap (λ (l : List ℕ). drop 1 l) b.starts

  size : end + 1 ≡ length (at_rest old)
  size = omega (arith, s.gate, length-append (frames old) (0 ∷ []))

  at_start : AnyMoment clock left_since P d0 d0
  at_start =
      begun clock left_since may_leave just_now P d0 (λ file may. shut_leaves old s.short more [] file
      (s.durable file may ∙ s.file))

  -- bytes that follow the closed gate
  follow : (junk : List ℕ) → overwritten (end + 1) junk (contents d0) ≡ frames old ++ 0 ∷ junk
  follow junk =
      let is : contents d0 ≡ at_rest old ++ [] = s.file ∙ sym (append-nil (at_rest old)) in
      ap (λ (f : List ℕ). overwritten (end + 1) junk f) is
      ∙ over (at_rest old) [] junk (end + 1) size
      ∙ ap (λ (l : List ℕ). at_rest old ++ (junk ++ l)) (drop_all (length junk) [] (omega arith))
      ∙ ap (λ (l : List ℕ). at_rest old ++ l) (append-nil junk)
      ∙ append_assoc (frames old) (0 ∷ []) junk

  module _ (d1 : D) (torn1 : EachFrom (IsTornWrite (end + 1) (length sent)) (may_leave d0) (may_leave d1))
      (time1 : Passes clock left_since may_leave d0 d1) where
    leaves1 : (file : List ℕ) → may_leave d1 file → P file
    leaves1 file may =
        let le : end + 1 ≤ length (contents d0) = omega (arith, size, ap length s.file) in
        let torn = torn_from (end + 1) _ (contents d0) (may_leave d0) (may_leave d1) le s.durable torn1 file may in
        shut_leaves old s.short more torn.0 file (torn.2 ∙ follow torn.0)

    pub after_write : AnyMoment clock left_since P d0 d1
    after_write = further clock left_since may_leave just_now P d0 d0 d1 at_start time1 leaves1

    module _ (d2 : D) (fewer2 : (file : List ℕ) → may_leave d2 file → may_leave d1 file)
        (time2 : Passes clock left_since may_leave d1 d2) where
      pub after_sync : AnyMoment clock left_since P d0 d2
      after_sync =
          further clock left_since may_leave just_now P d0 d1 d2 after_write time2
          (λ file may. leaves1 file (fewer2 file may))

      module _ (written1 : contents d1 ≡ overwritten (end + 1) sent (contents d0)) (same2 : contents d2 ≡ contents d1)
          (just2 : LeavesJust (contents d2) (may_leave d2)) where
        staged : contents d2 ≡ frames old ++ 0 ∷ b.behind
        staged = same2 ∙ written1 ∙ follow sent ∙ ap (λ (l : List ℕ). frames old ++ 0 ∷ l) rest_is

        gate_over : (junk : List ℕ)
            → overwritten end junk (contents d2) ≡ frames old ++ (junk ++ drop (length junk) (0 ∷ b.behind))
        gate_over junk =
            ap (λ (f : List ℕ). overwritten end junk f) staged ∙ over (frames old) (0 ∷ b.behind) junk end s.gate

        module _ (d3 : D) (torn3 : EachFrom (IsTornWrite end 1) (may_leave d2) (may_leave d3))
            (time3 : Passes clock left_since may_leave d2 d3) where
          leaves3 : (file : List ℕ) → may_leave d3 file → P file
          leaves3 file may =
              let le : end ≤ length (contents d2) =
              omega (arith, s.gate, ap length staged, length-append (frames old) (0 ∷ b.behind)) in
              let torn = torn_from end 1 (contents d2) (may_leave d2) (may_leave d3) le just2 torn3 file may in
              torn_gate_leaves old s.short more b.short b.behind spelled torn.0 file torn.1 (torn.2
              ∙ gate_over torn.0)

          pub after_gate : AnyMoment clock left_since P d0 d3
          after_gate = further clock left_since may_leave just_now P d0 d2 d3 after_sync time3 leaves3

          module _ (d4 : D) (fewer4 : (file : List ℕ) → may_leave d4 file → may_leave d3 file)
              (time4 : Passes clock left_since may_leave d3 d4) where
            pub after_all : AnyMoment clock left_since P d0 d4
            after_all =
                further clock left_since may_leave just_now P d0 d3 d4 after_gate time4
                (λ file may. leaves3 file (fewer4 file may))

            module _ (written3 : contents d3 ≡ overwritten end (1 ∷ []) (contents d2))
                (same4 : contents d4 ≡ contents d3)
                (just4 : LeavesJust (contents d4) (may_leave d4)) where
              is_open : contents d4 ≡ frames old ++ 1 ∷ b.behind
              is_open = same4 ∙ written3 ∙ gate_over (1 ∷ [])

              pub texts_are : recovered (contents d4) ≡ old ++ more
              texts_are = ap recovered is_open ∙ opened_stands old s.short more b.short b.behind spelled

              pub is_settled : has_failed d4 ≡ false
                  → IsSettled contents may_leave has_failed d4 (end + (length bytes - 1))
              is_settled unfailed =
                  let grows : end + (length bytes - 1) ≡ length (frames (old ++ more)) = omega (
                    arith,
                    s.gate,
                    ap length (frames-append old more),
                    length-append (frames old) (frames more),
                    ap length b.starts,
                    ap length spelled,
                    length-append (frames more) (0 ∷ []),
                  ) in
                  settled contents may_leave has_failed d4 _ (old ++ more) (short-append old more s.short b.short)
                  (is_open ∙ opened old s.short more b.short b.behind spelled) grows just4 unfailed
