-- A device in memory goes from contents to contents.
use Rattle.std.proofs.Common.{◌≡◌, ◌⊎◌, inl, inr, ℕ, ◌+◌, ◌≤◌, List, [], ◌∷◌, ◌++◌, length, take, drop, Vec, Result}
use Rattle.std.proofs.Common.{Ok, Err, OnOk, OnErr}
use Rattle.std.proofs.Common.{refl, sym, ◌∙◌, ap, subst, arith, get_or, length-append, take-append-drop}
use Rattle.std.proofs.lemmas.Bool.{cases_lt}
use Rattle.std.proofs.lemmas.Option.{slice_get_within, get_or_from_slice_get, slice_get_read}
use Rattle.std.proofs.lemmas.List.{get_or_append_left, get_or-append-add, take_all}
use Rattle.std.specs.declared.alloc.Global.{Global}
use Rattle.take_journal.specs.Device.{EachFrom, IsTornCut, IsTornWrite, Passes}
use Rattle.take_journal.specs.Memory.{memory_clock, memory_leaves, memory_left_since}
use Rattle.take_journal.specs.Past.{IsAmong, IsEither, IsTurned}
use Rattle.take_journal.specs.declared.memory.MemoryDevice.{MemoryDevice}

abbrev Contents : Type 0
Contents = List (Vec ℕ Global)

-- ---- one content more

longer : (past : Contents) (v : Vec ℕ Global) → length past + 1 ≡ length (past ++ v ∷ [])
longer past v = omega (arith, length-append past (v ∷ []))

still : (past : Contents) (v : Vec ℕ Global) (n : ℕ) (file : List ℕ) → IsAmong n past file
    → IsAmong n (past ++ v ∷ []) file
still past v n file was =
    let i = was.0 in
    let w = was.1 in
    let got = was.3 in
    let here = slice_get_within past i w got in
    let same = get_or_append_left past (v ∷ []) w i here ∙ get_or_from_slice_get past i w w got in (
      i,
      w,
      was.2,
      slice_get_read (past ++ v ∷ []) (length past + 1) i w (longer past v) (omega (arith, here))
          (sym same),
      was.4,
    )

newest : (past : Contents) (v : Vec ℕ Global) (n : ℕ) (file : List ℕ) → n ≤ length past → file ≡ v.items
    → IsAmong n (past ++ v ∷ []) file
newest past v n file le is =
    let last : length past + 0 ≡ length past = omega arith in
    let same : get_or (past ++ v ∷ []) (length past) v ≡ v =
    sym (ap (λ k. get_or (past ++ v ∷ []) k v) last) ∙ get_or-append-add past (v ∷ []) 0 v in (
      length past,
      v,
      le,
      slice_get_read (past ++ v ∷ []) (length past + 1) (length past) v (longer past v)
          (omega arith) (sym same),
      is,
    )

was_there : (past : Contents) (v : Vec ℕ Global) (n : ℕ) (file : List ℕ) → IsAmong n (past ++ v ∷ []) file
    → IsAmong n past file ⊎ (file ≡ v.items)
was_there past v n file found =
    let i = found.0 in
    let w = found.1 in
    let got = found.3 in
    let here = slice_get_within (past ++ v ∷ []) i w got in
    let at : (d : Vec ℕ Global) → get_or (past ++ v ∷ []) i d ≡ w =
    λ d. get_or_from_slice_get (past ++ v ∷ []) i w d got in
    elim (cases_lt i (length past)) [
      | inl before ↦ inl (
        i,
        w,
        found.2,
        slice_get_read past (length past) i w refl before (sym (at w)
            ∙ get_or_append_left past (v ∷ []) w i before),
        found.4,
      )
      | inr behind ↦
          let last : length past + 0 ≡ i = omega (arith, behind, here, longer past v) in
          let is : v ≡ w =
          sym (get_or-append-add past (v ∷ []) 0 v) ∙ ap (λ k. get_or (past ++ v ∷ []) k v) last ∙ at v in
          inr (found.4 ∙ ap (λ (u : Vec ℕ Global). u.items) (sym is))
    ]

-- ---- two more

module _ (past later : Contents) (bytes disk : List ℕ) (turned : IsTurned past bytes disk later) where
  abbrev both : Contents
  both = (past ++ turned.0 ∷ []) ++ turned.1 ∷ []

  is_later : later ≡ both
  is_later = turned.4

  still_later : (n : ℕ) (file : List ℕ) → IsAmong n past file → IsAmong n later file
  still_later n file was =
      subst (λ (l : Contents). IsAmong n l file) (sym is_later)
      (still (past ++ turned.0 ∷ []) turned.1 n file (still past turned.0 n file was))

  joins : (n : ℕ) (file : List ℕ) → n ≤ length past → IsEither bytes disk file → IsAmong n later file
  joins n file le either = subst (λ (l : Contents). IsAmong n l file) (sym is_later) (elim either [
    | inl is ↦ still (past ++ turned.0 ∷ []) turned.1 n file (newest past turned.0 n file le (is ∙ sym turned.2))
    | inr is ↦ newest (past ++ turned.0 ∷ []) turned.1 n file (omega (arith, le, longer past turned.0)) (is
        ∙ sym turned.3)
  ])

  was_either : (n : ℕ) (file : List ℕ) → IsAmong n later file → IsAmong n past file ⊎ IsEither bytes disk file
  was_either n file found =
      elim (was_there (past ++ turned.0 ∷ []) turned.1 n file
      (subst (λ (l : Contents). IsAmong n l file) is_later found)) [
        | inl earlier ↦ elim (was_there past turned.0 n file earlier) [
          | inl there ↦ inl there
          | inr is ↦ inr (inl (is ∙ turned.2))
        ]
        | inr is ↦ inr (inr (is ∙ turned.3))
      ]

  longer_later : length past ≤ length later
  longer_later = omega (arith, ap length is_later, longer past turned.0, longer (past ++ turned.0 ∷ []) turned.1)

pub turning : (old new : MemoryDevice) → IsTurned old.past.items old.bytes.items old.disk.items new.past.items
    → Passes memory_clock memory_left_since memory_leaves old new
turning old new turned =
    let past = old.past.items in
    let later = new.past.items in
    let bytes = old.bytes.items in
    let disk = old.disk.items in
    record {
      onward = longer_later past later bytes disk turned;
      keeps = λ n file le left. elim left [
        | inl now ↦ inr (joins past later bytes disk turned n file le now)
        | inr was ↦ inr (still_later past later bytes disk turned n file was)
      ];
      adds = λ n file le left. elim left [
        | inl now ↦ inr now
        | inr found ↦ elim (was_either past later bytes disk turned n file found) [
          | inl was ↦ inl (inr was)
          | inr either ↦ inl (inl either)
        ]
      ];
    }

pub standing : (old new : MemoryDevice) → new.past.items ≡ old.past.items → new.bytes.items ≡ old.bytes.items
    → new.disk.items ≡ old.disk.items
    → Passes memory_clock memory_left_since memory_leaves old new
standing old new past bytes disk = record {
  onward = omega (arith, ap length past);
  keeps = λ n file le left. elim left [
    | inl now ↦ inl (subst (λ b. IsEither b new.disk.items file) (sym bytes)
        (subst (λ d. IsEither old.bytes.items d file) (sym disk) now))
    | inr was ↦ inr (subst (λ (l : Contents). IsAmong n l file) (sym past) was)
  ];
  adds = λ n file le left. elim left [
    | inl now ↦ inr now
    | inr was ↦ inl (inr (subst (λ (l : Contents). IsAmong n l file) past was))
  ];
}

-- ---- what a crash leaves of it

-- a write of no bytes, and a cut of none
pub no_write : (at n : ℕ) (file : List ℕ) → IsTornWrite at n file file
no_write at n file le =
    ([], omega arith, sym (ap (λ k. take at file ++ drop k file) (e at) ∙ take-append-drop at file))
  where
    e : (at : ℕ) → at + 0 ≡ at
    e at = omega arith

pub no_cut : (len : ℕ) (file : List ℕ) → IsTornCut len file file
no_cut len file le = (length file, le, sym (take_all (length file) file (omega arith)))

pub both_from : (step : List ℕ → List ℕ → Type 0) (bytes disk next on_disk : List ℕ) → step bytes next
    → step disk on_disk
    → EachFrom step (IsEither bytes disk) (IsEither next on_disk)
both_from step bytes disk next on_disk one two file (inl is) = (bytes, inl refl, subst (step bytes) (sym is) one)
both_from step bytes disk next on_disk one two file (inr is) = (disk, inr refl, subst (step disk) (sym is) two)

-- ---- by the result of a turn

abbrev Stays : MemoryDevice → Contents → List ℕ → List ℕ → Type 0
Stays old past bytes disk = (past ≡ old.past.items) × (bytes ≡ old.bytes.items) × (disk ≡ old.disk.items)

pub passes : {T E : Type 0} (r : Result T E) (old new : MemoryDevice)
    → OnOk r (IsTurned old.past.items old.bytes.items old.disk.items new.past.items)
    → OnErr r (Stays old new.past.items new.bytes.items new.disk.items)
    → Passes memory_clock memory_left_since memory_leaves old new
passes (Ok _) old new ok err = turning old new ok
passes (Err _) old new ok err = standing old new err.0 err.1 err.2

pub each_from : {T E : Type 0} (r : Result T E) (past new_past : Contents) (step : List ℕ → List ℕ
    → Type 0) (bytes disk new_bytes new_disk next on_disk : List ℕ)
    → OnOk r (new_bytes ≡ next) → OnOk r (new_disk ≡ on_disk)
    → OnErr r ((new_past ≡ past) × (new_bytes ≡ bytes) × (new_disk ≡ disk))
    → ((file : List ℕ) → step file file) → step bytes next → step disk on_disk
    → EachFrom step (IsEither bytes disk) (IsEither new_bytes new_disk)
each_from (Ok _) past new_past step bytes disk new_bytes new_disk next on_disk b_is d_is err none one two =
    subst (λ b. EachFrom step (IsEither bytes disk) (IsEither b new_disk)) (sym b_is)
    (subst (λ d. EachFrom step (IsEither bytes disk) (IsEither next d)) (sym d_is)
    (both_from step bytes disk next on_disk one two))
each_from (Err _) past new_past step bytes disk new_bytes new_disk next on_disk b_is d_is err none one two =
    subst (λ b. EachFrom step (IsEither bytes disk) (IsEither b new_disk)) (sym err.1)
    (subst (λ d. EachFrom step (IsEither bytes disk) (IsEither bytes d)) (sym err.2)
    (both_from step bytes disk bytes disk (none bytes) (none disk)))

pub confirmed : {T E : Type 0} (r : Result T E) (old new : MemoryDevice) → OnOk r (new.bytes.items ≡ old.bytes.items)
    → OnOk r (new.disk.items ≡ old.bytes.items)
    → OnErr r (Stays old new.past.items new.bytes.items new.disk.items) → (file : List ℕ) → memory_leaves new file
    → memory_leaves old file
confirmed (Ok _) old new bytes disk err file (inl is) = inl (is ∙ bytes)
confirmed (Ok _) old new bytes disk err file (inr is) = inl (is ∙ disk)
confirmed (Err _) old new bytes disk err file (inl is) = inl (is ∙ err.1)
confirmed (Err _) old new bytes disk err file (inr is) = inr (is ∙ err.2)
