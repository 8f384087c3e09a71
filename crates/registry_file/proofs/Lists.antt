-- The lists of a registry in memory: of journals the last one counts, and of least heads the greatest.
use Rattle.std.proofs.Common.{◌≡◌, inl, inr, ℕ, zero, suc, ◌<◌, ◌≤◌, Bool, true, false, cond, eqb, List, [], ◌∷◌}
use Rattle.std.proofs.Common.{◌++◌, length, drop, max, Option, Some, None, refl, sym, ◌∙◌, ap, subst, arith, get_or}
use Rattle.std.proofs.lemmas.Bool.{cases_Bool, eqb-true, eq-eqb}
use Rattle.std.proofs.Math.ListN.{set}
use Rattle.std.proofs.Math.Nat.{le-max_left, le-max_right}
use Rattle.registry_file.specs.Kept.{file_in, journal_at, least_in, or_else, raised_at}
use Rattle.registry_file.specs.declared.registry.JournalFile.{JournalFile}
use Rattle.registry_file.specs.declared.registry.BackupJournal.{BackupJournal}
use Rattle.registry_file.specs.declared.registry.LeastHead.{LeastHead}

-- ---- journals

-- the file that one listed journal gives a backup
abbrev given : BackupJournal → ℕ → Option JournalFile
given x b = cond (eqb x.backup b) (Some x.file) None

-- the last one counts
file_push : (xs : List BackupJournal) (x : BackupJournal) (b : ℕ)
    → file_in (xs ++ x ∷ []) b ≡ journal_at (file_in xs) x.backup x.file b
file_push [] x b = refl
file_push (y ∷ ys) x b =
    ap (λ (o : Option JournalFile). or_else o (given y b)) (file_push ys x b) ∙ by_test (eqb x.backup b)
  where
    by_test : (t : Bool) → or_else (cond t (Some x.file) (file_in ys b)) (given y b)
        ≡ cond t (Some x.file) (or_else (file_in ys b) (given y b))
    by_test true = refl
    by_test false = refl

pub file_pushed : (xs : List BackupJournal) (x : BackupJournal)
    → file_in (xs ++ x ∷ []) ≡ journal_at (file_in xs) x.backup x.file
file_pushed xs x = λ i b. file_push xs x b i

-- this one is the last for its backup
file_there : (x : BackupJournal) (xs : List BackupJournal) (b : ℕ) → x.backup ≡ b → file_in xs b ≡ None
    → file_in (x ∷ xs) b ≡ Some x.file
file_there x xs b same none =
    ap (λ (o : Option JournalFile). or_else o (given x b)) none
    ∙ ap (λ (t : Bool). cond t (Some x.file) None) (eq-eqb x.backup b same)

-- one step to the front
drop_there : (xs : List BackupJournal) (i : ℕ) (d : BackupJournal) → i < length xs
    → drop i xs ≡ get_or xs i d ∷ drop (suc i) xs
drop_there [] i d lt = absurd (omega (arith, lt))
drop_there (x ∷ xs) zero d lt = refl
drop_there (x ∷ xs) (suc i) d lt = drop_there xs i d (omega (arith, lt))

-- what stands before the last one for a backup doesn't count
file_from : (xs : List BackupJournal) (i : ℕ) (b : ℕ) (file : JournalFile) → file_in (drop i xs) b ≡ Some file
    → file_in xs b ≡ Some file
file_from [] i b file is = nothing i is
  where
    nothing : (i : ℕ) → file_in (drop i []) b ≡ Some file → None ≡ Some file
    nothing zero is = is
    nothing (suc i) is = is
file_from (x ∷ xs) zero b file is = is
file_from (x ∷ xs) (suc i) b file is = ap (λ (o : Option JournalFile). or_else o (given x b)) (file_from xs i b file is)

pub file_found : (xs : List BackupJournal) (i : ℕ) (d : BackupJournal) (b : ℕ) → i < length xs
    → (get_or xs i d).backup ≡ b → file_in (drop (suc i) xs) b ≡ None → file_in xs b ≡ Some (get_or xs i d).file
file_found xs i d b lt same none =
    file_from xs i b (get_or xs i d).file
    (ap (λ (l : List BackupJournal). file_in l b) (drop_there xs i d lt)
    ∙ file_there (get_or xs i d) (drop (suc i) xs) b same none)

-- another file in the place of the last one for a backup
file_set : (xs : List BackupJournal) (i : ℕ) (x d : BackupJournal) (b : ℕ) → i < length xs
    → (get_or xs i d).backup ≡ x.backup → file_in (drop (suc i) xs) x.backup ≡ None
    → file_in (set xs i x) b ≡ journal_at (file_in xs) x.backup x.file b
file_set [] i x d b lt same none = absurd (omega (arith, lt))
file_set (y ∷ ys) zero x d b lt same none = elim (cases_Bool (eqb x.backup b)) [
  | inl here ↦
      let at = eqb-true x.backup b here in
      let gone : file_in ys b ≡ None = subst (λ (k : ℕ). file_in ys k ≡ None) at none in
      file_there x ys b at gone ∙ sym (ap (λ (t : Bool). cond t (Some x.file) (file_in (y ∷ ys) b)) here)
  | inr other ↦
      let before : eqb y.backup b ≡ false = ap (λ (k : ℕ). eqb k b) same ∙ other in
      ap (λ (t : Bool). or_else (file_in ys b) (cond t (Some x.file) None)) other
      ∙ sym (ap (λ (t : Bool). or_else (file_in ys b) (cond t (Some y.file) None)) before)
      ∙ sym (ap (λ (t : Bool). cond t (Some x.file) (file_in (y ∷ ys) b)) other)
]
file_set (y ∷ ys) (suc i) x d b lt same none =
    ap (λ (o : Option JournalFile). or_else o (given y b)) (file_set ys i x d b (omega (arith, lt)) same none)
    ∙ by_test (eqb x.backup b)
  where
    by_test : (t : Bool) → or_else (cond t (Some x.file) (file_in ys b)) (given y b)
        ≡ cond t (Some x.file) (or_else (file_in ys b) (given y b))
    by_test true = refl
    by_test false = refl

pub file_changed : (xs : List BackupJournal) (i : ℕ) (x d : BackupJournal) → i < length xs
    → (get_or xs i d).backup ≡ x.backup → file_in (drop (suc i) xs) x.backup ≡ None
    → file_in (set xs i x) ≡ journal_at (file_in xs) x.backup x.file
file_changed xs i x d lt same none = λ j b. file_set xs i x d b lt same none j

-- ---- numbers

max_turn : (a b c : ℕ) → max (max a b) c ≡ max (max a c) b
max_turn a b c = omega arith

max_over : (a b c : ℕ) → b ≤ c → max a c ≡ max (max a b) c
max_over a b c le = omega (arith, le)

max_stays : (a b : ℕ) → b ≤ a → max a b ≡ a
max_stays a b le = omega (arith, le)

-- ---- least heads

abbrev head_for : LeastHead → ℕ → ℕ
head_for x m = cond (eqb x.master m) x.head 0

least_push : (xs : List LeastHead) (x : LeastHead) (m : ℕ)
    → least_in (xs ++ x ∷ []) m ≡ raised_at (least_in xs) x.master x.head m
least_push [] x m = by_test (eqb x.master m)
  where
    by_test : (t : Bool) → max 0 (cond t x.head 0) ≡ cond t (max 0 x.head) 0
    by_test true = refl
    by_test false = refl
least_push (y ∷ ys) x m =
    ap (λ (n : ℕ). max n (head_for y m)) (least_push ys x m) ∙ by_test (eqb x.master m)
  where
    by_test : (t : Bool) → max (cond t (max (least_in ys m) x.head) (least_in ys m)) (head_for y m)
        ≡ cond t (max (max (least_in ys m) (head_for y m)) x.head) (max (least_in ys m) (head_for y m))
    by_test true = max_turn (least_in ys m) x.head (head_for y m)
    by_test false = refl

pub least_pushed : (xs : List LeastHead) (x : LeastHead)
    → least_in (xs ++ x ∷ []) ≡ raised_at (least_in xs) x.master x.head
least_pushed xs x = λ i m. least_push xs x m i

-- a greater one in the place of another
least_set : (xs : List LeastHead) (i : ℕ) (x d : LeastHead) (m : ℕ) → i < length xs
    → (get_or xs i d).master ≡ x.master → (get_or xs i d).head ≤ x.head
    → least_in (set xs i x) m ≡ raised_at (least_in xs) x.master x.head m
least_set [] i x d m lt same le = absurd (omega (arith, lt))
least_set (y ∷ ys) zero x d m lt same le = elim (cases_Bool (eqb x.master m)) [
  | inl here ↦
      let before : eqb y.master m ≡ true = ap (λ (k : ℕ). eqb k m) same ∙ here in
      ap (λ (t : Bool). max (least_in ys m) (cond t x.head 0)) here
      ∙ max_over (least_in ys m) y.head x.head le
      ∙ sym (ap (λ (t : Bool). max (max (least_in ys m) (cond t y.head 0)) x.head) before)
      ∙ sym (ap (λ (t : Bool). cond t (max (least_in (y ∷ ys) m) x.head) (least_in (y ∷ ys) m)) here)
  | inr other ↦
      let before : eqb y.master m ≡ false = ap (λ (k : ℕ). eqb k m) same ∙ other in
      ap (λ (t : Bool). max (least_in ys m) (cond t x.head 0)) other
      ∙ sym (ap (λ (t : Bool). max (least_in ys m) (cond t y.head 0)) before)
      ∙ sym (ap (λ (t : Bool). cond t (max (least_in (y ∷ ys) m) x.head) (least_in (y ∷ ys) m)) other)
]
least_set (y ∷ ys) (suc i) x d m lt same le =
    ap (λ (n : ℕ). max n (head_for y m)) (least_set ys i x d m (omega (arith, lt)) same le) ∙ by_test (eqb x.master m)
  where
    by_test : (t : Bool) → max (cond t (max (least_in ys m) x.head) (least_in ys m)) (head_for y m)
        ≡ cond t (max (max (least_in ys m) (head_for y m)) x.head) (max (least_in ys m) (head_for y m))
    by_test true = max_turn (least_in ys m) x.head (head_for y m)
    by_test false = refl

pub least_changed : (xs : List LeastHead) (i : ℕ) (x d : LeastHead) → i < length xs
    → (get_or xs i d).master ≡ x.master → (get_or xs i d).head ≤ x.head
    → least_in (set xs i x) ≡ raised_at (least_in xs) x.master x.head
least_changed xs i x d lt same le = λ j m. least_set xs i x d m lt same le j

-- none that is listed is above the greatest
least_above : (xs : List LeastHead) (i : ℕ) (d : LeastHead) (m : ℕ) → i < length xs → (get_or xs i d).master ≡ m
    → (get_or xs i d).head ≤ least_in xs m
least_above [] i d m lt same = absurd (omega (arith, lt))
least_above (x ∷ xs) zero d m lt same =
    subst (λ (t : Bool). x.head ≤ max (least_in xs m) (cond t x.head 0)) (sym (eq-eqb x.master m same))
    (le-max_right (least_in xs m) x.head)
least_above (x ∷ xs) (suc i) d m lt same =
    let rest = least_above xs i d m (omega (arith, lt)) same in
    let more = le-max_left (least_in xs m) (head_for x m) in
    omega (arith, rest, more)

pub least_kept : (xs : List LeastHead) (i : ℕ) (x : LeastHead) (m h : ℕ) → i < length xs → x ≡ get_or xs i x
    → x.master ≡ m → h ≤ x.head → least_in xs ≡ raised_at (least_in xs) m h
least_kept xs i x m h lt is same le = λ j n. at n j
  where
    below : h ≤ least_in xs m
    below =
        let above = subst (λ (y : LeastHead). y.head ≤ least_in xs m) (sym is)
        (least_above xs i x m lt (ap (λ (y : LeastHead). y.master) (sym is) ∙ same)) in
        omega (arith, le, above)

    at : (n : ℕ) → least_in xs n ≡ raised_at (least_in xs) m h n
    at n = elim (cases_Bool (eqb m n)) [
      | inl here ↦
          let le_n : h ≤ least_in xs n = subst (λ (k : ℕ). h ≤ least_in xs k) (eqb-true m n here) below in
          sym (ap (λ (t : Bool). cond t (max (least_in xs n) h) (least_in xs n)) here
          ∙ max_stays (least_in xs n) h le_n)
      | inr other ↦ sym (ap (λ (t : Bool). cond t (max (least_in xs n) h) (least_in xs n)) other)
    ]
