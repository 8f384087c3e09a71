-- The calls of mending, one after another, and what a crash leaves of each.
use Rattle.std.proofs.Common.{◌≡◌, ℕ, ◌≤◌, Bool, false, List, [], ◌∷◌, length, take, sym, ◌∙◌, ap, arith}
use Rattle.take_journal.specs.Crash.{LeftByMending, MayBeLeft}
use Rattle.take_journal.specs.Device.{AnyMoment, EachFrom, IsTornCut, IsTornWrite, LeavesJust, Passes, overwritten}
use Rattle.take_journal.specs.Frames.{at_rest, frames, recovered}
use Rattle.take_journal.specs.Journal.{IsSettled}
use Rattle.take_journal.proofs.Appending.{settled}
use Rattle.take_journal.proofs.Moments.{begun, further}
use Rattle.take_journal.proofs.Reading.{recovered-at_rest}
use Rattle.take_journal.proofs.Tearing.{as_it_is, close_leaves, close_over, cut_from, cut_leaves, cut_to, size_is}
use Rattle.take_journal.proofs.Tearing.{stands, torn_from, within}

module _ {D : Type 0} (contents : D → List ℕ) (may_leave : D → List ℕ → Type 0) (clock : D → ℕ)
    (left_since : D → ℕ → List ℕ → Type 0)
    (has_failed : D → Bool)
    (just_now : (device : D) (file : List ℕ) → left_since device (clock device) file → may_leave device file)
    (d0 : D) (just0 : LeavesJust (contents d0) (may_leave d0)) (left : MayBeLeft (contents d0)) (at : ℕ)
    (size : at ≡ length (frames (recovered (contents d0)))) where
  abbrev P : List ℕ → Type 0
  P = LeftByMending (contents d0)

  at_start : AnyMoment clock left_since P d0 d0
  at_start =
      begun clock left_since may_leave just_now P d0 (λ file may. as_it_is (contents d0) left file (just0 file may))

  module _ (d1 : D) (torn1 : EachFrom (IsTornCut at) (may_leave d0) (may_leave d1))
      (time1 : Passes clock left_since may_leave d0 d1) where
    leaves1 : (file : List ℕ) → may_leave d1 file → P file
    leaves1 file may =
        let torn =
        cut_from at (contents d0) (may_leave d0) (may_leave d1) (within (contents d0) left at size) just0 torn1 file
        may in
        cut_leaves (contents d0) left at size torn.0 file torn.1 torn.2

    pub after_cut : AnyMoment clock left_since P d0 d1
    after_cut = further clock left_since may_leave just_now P d0 d0 d1 at_start time1 leaves1

    module _ (d2 : D) (fewer2 : (file : List ℕ) → may_leave d2 file → may_leave d1 file)
        (time2 : Passes clock left_since may_leave d1 d2) where
      pub after_first_sync : AnyMoment clock left_since P d0 d2
      after_first_sync =
          further clock left_since may_leave just_now P d0 d1 d2 after_cut time2
          (λ file may. leaves1 file (fewer2 file may))

      module _ (cut1 : contents d1 ≡ take at (contents d0)) (same2 : contents d2 ≡ contents d1)
          (just2 : LeavesJust (contents d2) (may_leave d2)) where
        pub is_cut : contents d2 ≡ frames left.texts
        is_cut = same2 ∙ cut1 ∙ cut_to (contents d0) left at size

        pub at_end : at ≤ length (contents d2)
        at_end = omega (arith, size_is (contents d0) left at size, ap length is_cut)

        module _ (d3 : D) (torn3 : EachFrom (IsTornWrite at 1) (may_leave d2) (may_leave d3))
            (time3 : Passes clock left_since may_leave d2 d3) where
          leaves3 : (file : List ℕ) → may_leave d3 file → P file
          leaves3 file may =
              let torn = torn_from at 1 (contents d2) (may_leave d2) (may_leave d3) at_end just2 torn3 file may in
              close_leaves (contents d0) left at size torn.0 file torn.1 (torn.2
              ∙ ap (λ (f : List ℕ). overwritten at torn.0 f) is_cut)

          pub after_close : AnyMoment clock left_since P d0 d3
          after_close = further clock left_since may_leave just_now P d0 d2 d3 after_first_sync time3 leaves3

          module _ (d4 : D) (fewer4 : (file : List ℕ) → may_leave d4 file → may_leave d3 file)
              (time4 : Passes clock left_since may_leave d3 d4) where
            pub after_all : AnyMoment clock left_since P d0 d4
            after_all =
                further clock left_since may_leave just_now P d0 d3 d4 after_close time4
                (λ file may. leaves3 file (fewer4 file may))

            module _ (written3 : contents d3 ≡ overwritten at (0 ∷ []) (contents d2))
                (same4 : contents d4 ≡ contents d3)
                (just4 : LeavesJust (contents d4) (may_leave d4)) where
              is_closed : contents d4 ≡ at_rest left.texts
              is_closed =
                  same4 ∙ written3 ∙ ap (λ (f : List ℕ). overwritten at (0 ∷ []) f) is_cut
                  ∙ close_over (contents d0) left at size (0 ∷ [])

              pub same_texts : recovered (contents d4) ≡ recovered (contents d0)
              same_texts =
                  ap recovered is_closed ∙ recovered-at_rest left.texts left.short ∙ sym (stands (contents d0) left)

              pub is_settled : has_failed d4 ≡ false → IsSettled contents may_leave has_failed d4 at
              is_settled unfailed =
                  settled contents may_leave has_failed d4 at left.texts left.short is_closed
                  (size_is (contents d0) left at size) just4 unfailed
