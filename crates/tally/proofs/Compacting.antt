-- A compaction changes neither the bytes of live objects nor those of kept tombstones.
use Rattle.std.proofs.Common.{◌≡◌, ℕ, ◌+◌, Bool, true, false, cond, ◌==◌, List, [], ◌∷◌, ◌++◌, length, refl}
use Rattle.std.proofs.Common.{sym, ap, subst, ◌∙◌, arith, if◌then◌else◌}
use Rattle.std.specs.List.{AllByRecursion}
use Rattle.std.proofs.lemmas.Bool.{eqb-true, eq-eqb, ne_eqb}
use Rattle.std.proofs.lemmas.Bool.Decides.{same_from_decides}
use Rattle.std.proofs.lemmas.List.{length-append, append-nil}
use Rattle.segment.proofs.RowLemmas.{text_of-append}
use Rattle.entry.specs.declared.key.Key.{Key}
use Rattle.entry.specs.declared.entry.Entry.{Entry}
use Rattle.entry.specs.declared.entry.Entry.TheVariants as entry
use Rattle.entry.specs.Format.{spelling, IsEntry}
use Rattle.entry.specs.Text.{text_of}
use Rattle.places.specs.declared.place.Place.{Place}
use Rattle.places.specs.Map.{Places}
use Rattle.places.specs.Relocation.{names}
use Rattle.places.proofs.Words.{named_gone}
use Rattle.compactor.specs.Kept.{kept, kept_from, kept_of, moved_at, moved_place, moved_all}
use Rattle.compactor.proofs.Cutting.{IsCut, IsCut-start, before_cut, cut_next}
use Rattle.compactor.proofs.KeptEntries.{kept_push}
use Rattle.tally.specs.Live.{live_one, live_from, stone_one, stone_bytes}
use Rattle.tally.specs.Laws.{CompactionKeeps, CompactionLeaves}
use Rattle.tally.proofs.Naming.{names_led}
use Rattle.tally.proofs.Sums.{all_same}

-- ---- tombstones

one_stone : (ids : List ℕ) (held : Places) (p : Place) (e : Entry) → kept ids held p e ≡ false → stone_one ids e ≡ 0
one_stone ids held p (entry.Header h) isnt = refl
one_stone ids held p (entry.Digest l) isnt = refl
one_stone ids held p (entry.Safe v) isnt = refl
one_stone ids held p (entry.Object o) isnt = refl
one_stone ids held p (entry.Tombstone t) isnt =
    ap (λ (b : Bool). if b then length (spelling (entry.Tombstone t)) else 0) isnt

stones_from : (ids : List ℕ) (held : Places) (segment at : ℕ) (es : List Entry)
    → stone_bytes ids (kept_from ids held segment at es) ≡ stone_bytes ids es
stones_from ids held segment at [] = refl
stones_from ids held segment at (e ∷ es) =
    go (kept ids held (record { segment = segment; at = at }) e) refl
    (stones_from ids held segment (at + length (spelling e)) es)
  where
    rest : List Entry
    rest = kept_from ids held segment (at + length (spelling e)) es

    go : (b : Bool) → kept ids held (record { segment = segment; at = at }) e ≡ b
        → stone_bytes ids (kept_from ids held segment (at + length (spelling e)) es) ≡ stone_bytes ids es
        → stone_bytes ids (cond b (e ∷ kept_from ids held segment (at + length (spelling e)) es)
        (kept_from ids held segment (at + length (spelling e)) es))
        ≡ stone_one ids e + stone_bytes ids es
    go true is later = omega (arith, later)
    go false is later =
        omega (arith, later, one_stone ids held (record { segment = segment; at = at }) e is)

-- ---- objects

module _ (ids : List ℕ) (held : Places) (segment : ℕ) (es : List Entry) (each : AllByRecursion IsEntry es) where
  abbrev after : Places
  after = moved_all ids held segment es

  abbrev At : ℕ → Place
  At n = record { segment = segment; at = n }

  abbrev goes : Place → Place
  goes = moved_place ids held segment es

  -- where a place of the segment goes
  goes_here : (n : ℕ) → goes (At n) ≡ At (moved_at ids held segment es n)
  goes_here n =
      ap (λ (b : Bool). if b then At (moved_at ids held segment es n) else At n) (eq-eqb segment segment refl)

  -- an entry that isn't kept doesn't count
  one_dropped : (p : Place) (e : Entry) → kept ids held p e ≡ false → live_one held p e ≡ 0
  one_dropped p (entry.Header h) isnt = refl
  one_dropped p (entry.Digest l) isnt = refl
  one_dropped p (entry.Safe v) isnt = refl
  one_dropped p (entry.Object o) isnt =
      ap (λ (b : Bool). if b then length (spelling (entry.Object o)) else 0) isnt
  one_dropped p (entry.Tombstone t) isnt = refl

  -- a kept one counts where it has gone
  one_kept : (n m : ℕ) (e : Entry) → kept ids held (At n) e ≡ true → m ≡ moved_at ids held segment es n
      → live_one after (At m) e ≡ live_one held (At n) e
  one_kept n m (entry.Header h) is to = refl
  one_kept n m (entry.Digest l) is to = refl
  one_kept n m (entry.Safe v) is to = refl
  one_kept n m (entry.Object o) is to =
      let there : goes (At n) ≡ At m = goes_here n ∙ ap At (sym to) in
      let led : names after o.key (At m) ≡ true =
      subst (λ (p : Place). names after o.key p ≡ true) there (names_led goes o.key (At n) held is) in
      ap (λ (b : Bool). if b then length (spelling (entry.Object o)) else 0) (led ∙ sym is)
  one_kept n m (entry.Tombstone t) is to = refl

  -- what is kept of the entries before an offset
  abbrev Front : List Entry → ℕ
  Front before = length (text_of (kept_of ids held segment before))

  front_next : (before later : List Entry) (e : Entry) (at : ℕ) (b : Bool) → IsCut es before (e ∷ later) at
      → kept ids held (At at) e ≡ b → Front (before ++ e ∷ []) ≡ Front before + cond b (length (spelling e)) 0
  front_next before later e at b cut is =
      ap (λ (xs : List Entry). length (text_of xs)) (kept_push ids held segment before e at b cut.offset is) ∙ go b
    where
      go : (b : Bool) → length (text_of (kept_of ids held segment before ++ cond b (e ∷ []) []))
          ≡ length (text_of (kept_of ids held segment before)) + cond b (length (spelling e)) 0
      go true =
          omega (
            arith,
            ap length (text_of-append (kept_of ids held segment before) (e ∷ [])),
            length-append (text_of (kept_of ids held segment before)) (text_of (e ∷ [])),
            ap length (append-nil (spelling e)),
          )
      go false =
          omega (arith, ap (λ (xs : List Entry). length (text_of xs)) (append-nil (kept_of ids held segment before)))

  walk : (before rest : List Entry) (at : ℕ) → IsCut es before rest at
      → live_from after segment (Front before) (kept_from ids held segment at rest) ≡ live_from held segment at rest
  walk before [] at cut = refl
  walk before (e ∷ later) at cut =
      go (kept ids held (At at) e) refl
      (walk (before ++ e ∷ []) later (at + length (spelling e)) (cut_next es before later e at cut))
    where
      gone : Front before ≡ moved_at ids held segment es at
      gone =
          ap (λ (xs : List Entry). length (text_of (kept_of ids held segment xs)))
          (sym (before_cut es before (e ∷ later) at cut each))

      go : (b : Bool) → kept ids held (At at) e ≡ b
          → live_from after segment (Front (before ++ e ∷ []))
          (kept_from ids held segment (at + length (spelling e)) later)
          ≡ live_from held segment (at + length (spelling e)) later
          → live_from after segment (Front before) (cond b (e ∷ kept_from ids held segment (at + length (spelling e))
          later)
          (kept_from ids held segment (at + length (spelling e)) later))
          ≡ live_one held (At at) e + live_from held segment (at + length (spelling e)) later
      go true is rest =
          let next : Front (before ++ e ∷ []) ≡ Front before + length (spelling e) =
          front_next before later e at true cut is in
          let one = one_kept at (Front before) e is gone in
          let there = ap (λ (n : ℕ). live_from after segment n
          (kept_from ids held segment (at + length (spelling e)) later)) next in
          omega (arith, rest, one, there)
      go false is rest =
          let next : Front (before ++ e ∷ []) ≡ Front before + 0 = front_next before later e at false cut is in
          let same : Front (before ++ e ∷ []) ≡ Front before = omega (arith, next) in
          let one = one_dropped (At at) e is in
          let there = ap (λ (n : ℕ). live_from after segment n
          (kept_from ids held segment (at + length (spelling e)) later)) same in
          omega (arith, rest, one, there)

pub compaction_keeps : CompactionKeeps
compaction_keeps ids held segment es valid = (
  walk ids held segment es valid.each [] es 0 (IsCut-start es),
  stones_from ids held segment 0 es,
)

-- ---- other segments

module _ (ids : List ℕ) (held : Places) (segment other : ℕ) (es : List Entry) (apart : other ≡ segment → ⊥) where
  abbrev leads : Place → Place
  leads = moved_place ids held segment es

  -- a place of another segment stays
  leads_other : (n : ℕ) → leads (record { segment = other; at = n }) ≡ record { segment = other; at = n }
  leads_other n =
      ap (λ (b : Bool). if b then record { segment = other; at = moved_at ids held segment es n }
      else record { segment = other; at = n }) (ne_eqb other segment apart)

  -- and no other goes there
  stayed : (n : ℕ) (q : Place) → leads q ≡ record { segment = other; at = n } → q ≡ record { segment = other; at = n }
  stayed n q is = go (q.segment == segment) refl is
    where
      go : (b : Bool) → (q.segment == segment) ≡ b
          → (if b then record q { at = moved_at ids held segment es q.at } else q) ≡ record { segment = other; at = n }
          → q ≡ record { segment = other; at = n }
      go true here is =
          let same : q.segment ≡ other = ap (λ (p : Place). p.segment) is in
          absurd (apart (sym same ∙ eqb-true q.segment segment here))
      go false there is = is

  same_names : (n : ℕ) (k : Key)
      → names (moved_all ids held segment es) k (record { segment = other; at = n })
      ≡ names held k (record { segment = other; at = n })
  same_names n k =
      same_from_decides (names (moved_all ids held segment es) k (record { segment = other; at = n }))
      (names held k (record { segment = other; at = n })) (
        (λ is. named_gone leads k (record { segment = other; at = n }) (stayed n) held is),
        (λ is. subst (λ (p : Place). names (moved_all ids held segment es) k p ≡ true) (leads_other n)
            (names_led leads k (record { segment = other; at = n }) held is)),
      )
      (λ is. is, λ is. is)

pub compaction_leaves : CompactionLeaves
compaction_leaves ids held segment other es others apart =
    all_same held (moved_all ids held segment es) other 0 (length (text_of others)) 0 others
    (λ n from to k. same_names ids held segment other es apart n k) (omega arith) (omega arith)
