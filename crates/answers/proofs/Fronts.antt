-- As far as a writer takes it.
use Rattle.std.proofs.Common.{[], ◌≡◌, ◌∙◌, ap, refl, sym, append_assoc, List, ◌++◌, take, drop, ℕ, subst, append-nil}
use Rattle.std.proofs.Common.{Bool, true, false}
use Rattle.std.proofs.KnownBytes.{Appends-nil, Appends-trans, Appends-kept, Keeps-refl, Keeps-trans}
use Rattle.std.proofs.Common.{◌∷◌, ◌+◌, ◌<◌, length, get_or}
use Rattle.arrayvec.specs.ArrayString.{ArrayString}
use Rattle.std.specs.Fmt.{WritesText, ◌++?◌}
use Rattle.std.proofs.lemmas.Fmt.{contents_after_writes}
use Rattle.std.proofs.lemmas.List.{flat_map_more, take-append-drop, take_more}
use Rattle.std.proofs.lemmas.List.Concat.{flat_map-append}
use Rattle.std.specs.List.{flat_map}
use Rattle.std.specs.Io.KnownBytes.{Appends, Keeps}
use Rattle.std.specs.Prelude.{Option, None, Some, IfSome, codes, Result, Ok, Err, is_err, IsErr}
use Rattle.answers.specs.Errors.{AppendsFront, Errors, IsHanded, Reports, Writes, WritesUnless}

-- what was written of some bytes is written of more
pub cut_there : (held holds : Option (List ℕ)) (bytes more : List ℕ) → AppendsFront held holds bytes
    → AppendsFront held holds (bytes ++ more)
cut_there held holds bytes more f = (f.0, f.1 ++ more, ap (λ l. l ++ more) f.2 ∙ append_assoc f.0 f.1 more, f.3)

-- all of some bytes was written, and a front of what follows
pub cut_later : (held mid holds : Option (List ℕ)) (bytes more : List ℕ) → Appends held mid bytes
    → AppendsFront mid holds more → AppendsFront held holds (bytes ++ more)
cut_later held mid holds bytes more all f = (
  bytes ++ f.0,
  f.1,
  ap (λ l. bytes ++ l) f.2 ∙ sym (append_assoc bytes f.0 f.1),
  Appends-trans held mid holds bytes f.0 all f.3,
)

-- nothing more was written of what follows
cut_before : (held mid holds : Option (List ℕ)) (bytes more : List ℕ) → AppendsFront held mid bytes → Keeps mid holds
    → AppendsFront held holds (bytes ++ more)
cut_before held mid holds bytes more f kept = cut_there held holds bytes more
    (f.0, f.1, f.2, Appends-kept held mid holds f.0 f.3 kept)

-- the output was flushed
pub nothing_written : (held holds : Option (List ℕ)) (failed : Bool) → Keeps held holds
    → WritesUnless false failed held holds []
nothing_written held holds false kept = Appends-kept held held holds [] (Appends-nil held) kept
nothing_written held holds true kept = ([], [], refl, Appends-kept held held holds [] (Appends-nil held) kept)

writes_on : (a b c : Bool) (held mid holds : Option (List ℕ)) (bytes more : List ℕ) → WritesUnless a b held mid bytes
    → WritesUnless b c mid holds more
    → WritesUnless a c held holds (bytes ++ more)
writes_on false false false held mid holds bytes more all next = Appends-trans held mid holds bytes more all next
writes_on false false true held mid holds bytes more all next = cut_later held mid holds bytes more all next
writes_on false true false held mid holds bytes more front next = absurd next
writes_on false true true held mid holds bytes more front kept = cut_before held mid holds bytes more front kept
writes_on true false c held mid holds bytes more none next = absurd none
writes_on true true false held mid holds bytes more none next = absurd next
writes_on true true true held mid holds bytes more kept next = Keeps-trans held mid holds kept next

-- some bytes were written, and then more
pub writes_more : (a b c : Errors) (bytes more : List ℕ) → Writes a b bytes → Writes b c more
    → Writes a c (bytes ++ more)
writes_more a b c bytes more first next = record {
  written = writes_on a.has_failed b.has_failed c.has_failed a.holds b.holds c.holds bytes more
      first.written next.written;
  explains = next.explains ∙ first.explains;
}

-- some bytes were written, and then the output was flushed
pub writes_all : (a b c : Errors) (bytes : List ℕ) → Writes a b bytes → Writes b c [] → Writes a c bytes
writes_all a b c bytes first next = subst (Writes a c) (append-nil bytes) (writes_more a b c bytes [] first next)

pub writes_nothing : (e : Errors) → Writes e e []
writes_nothing e = record { written = go e.has_failed; explains = refl } where
  go : (failed : Bool) → WritesUnless failed failed e.holds e.holds []
  go false = Appends-nil e.holds
  go true = Keeps-refl e.holds

-- a line was written, then perhaps another, and the output was flushed
pub writes_lines : (a b c d : Errors) (line : List ℕ) (more : Bool → List ℕ) → Writes a b line
    → Writes b c (more b.explains) → Writes c d []
    → Writes a d (line ++ more a.explains)
writes_lines a b c d line more first next flushed =
    writes_all a c d (line ++ more a.explains)
    (writes_more a b c line (more a.explains) first (subst
    (λ (e : Bool). Writes b c (more e)) first.explains next)) flushed

pub reports_explain : (a b : Errors) (bytes : List ℕ) → Reports a b bytes → b.explains ≡ a.explains
reports_explain a b [] same = ap (λ (e : Errors). e.explains) same
reports_explain a b (x ∷ xs) writes = writes.explains

-- some bytes were reported, and then more
pub reports_join : (a b c : Errors) (bytes more : List ℕ) → Reports a b bytes → Reports b c more
    → Reports a c (bytes ++ more)
reports_join a b c [] more same next = subst (λ (e : Errors). Reports e c more) same next
reports_join a b c (x ∷ xs) [] first same =
    subst (Reports a c) (sym (append-nil (x ∷ xs))) (subst (λ (e : Errors). Reports a e (x ∷ xs)) (sym same) first)
reports_join a b c (x ∷ xs) (y ∷ ys) first next = writes_more a b c (x ∷ xs) (y ∷ ys) first next

-- the pieces of a line
pub line_pieces : (before words more number after : List ℕ)
    → before ++ (words ++ (more ++ (number ++ after))) ≡ before ++ ((words ++ more ++ number) ++ after)
line_pieces before words more number after =
    ap (λ (l : List ℕ). before ++ l) (sym (append_assoc words more (number ++ after))
    ∙ sym (append_assoc (words ++ more) number after))

-- ---- what was handed to a writer

-- some bytes were written, and then more were handed over
pub hands_on : {E : Type 0} (held mid holds : Option (List ℕ)) (bytes more : List ℕ) (r : Result (Unit {0}) E)
    → Appends held mid bytes
    → IsHanded mid holds more r → IsHanded held holds (bytes ++ more) r
hands_on held mid holds bytes more (Ok done) all next = Appends-trans held mid holds bytes more all next
hands_on held mid holds bytes more (Err e) all next = cut_later held mid holds bytes more all next

-- the same, of the pieces of a text
pub hands_as : {E : Type 0} (held mid holds : Option (List ℕ)) (bytes more whole : List ℕ) (r : Result (Unit {0}) E)
    → Appends held mid bytes
    → IsHanded mid holds more r → bytes ++ more ≡ whole → IsHanded held holds whole r
hands_as held mid holds bytes more whole r all next is =
    subst (λ (l : List ℕ). IsHanded held holds l r) is (hands_on held mid holds bytes more r all next)

-- the bytes were handed over to the error output's writer
pub handed_unless : {E : Type 0} (held holds : Option (List ℕ)) (bytes : List ℕ) (r : Result (Unit {0}) E)
    → IsHanded held holds bytes r → WritesUnless false (is_err r) held holds bytes
handed_unless held holds bytes (Ok done) h = h
handed_unless held holds bytes (Err e) h = h

-- the same bytes were handed over
pub handed_as : {E : Type 0} (held holds : Option (List ℕ)) (bytes whole : List ℕ) (r : Result (Unit {0}) E)
    → IsHanded held holds bytes r → bytes ≡ whole → IsHanded held holds whole r
handed_as held holds bytes whole r handed is = subst (λ (l : List ℕ). IsHanded held holds l r) is handed

-- the line of what was refused was handed over, if its text is known
pub refused_handed : {E : Type 0} (output : Option (List ℕ)) (held holds : Option (List ℕ)) (line bytes : List ℕ)
    (r : Result (Unit {0}) E)
    → IfSome output (λ text. line ≡ codes "refused " ++ text ++ 10 ∷ []) → IsHanded held holds bytes r
    → bytes ≡ line → IfSome output (λ text. IsHanded held holds (codes "refused " ++ text ++ 10 ∷ []) r)
refused_handed None held holds line bytes r known handed is = tt
refused_handed (Some text) held holds line bytes r known handed is =
    handed_as held holds bytes (codes "refused " ++ text ++ 10 ∷ []) r handed (is ∙ known)

-- what a line in an array holds, if the text of what was refused is known
pub refused_held : (took : ArrayString → List ℕ → ArrayString → Type 0)
    → ((line : ArrayString) (bytes : List ℕ) (next : ArrayString) → took line bytes next
    → next.bytes ≡ line.bytes ++ bytes)
    → (output : Option (List ℕ)) (old new : ArrayString) → old.bytes ≡ []
    → WritesText took old (Some (codes "refused ") ++? output ++? Some (10 ∷ [])) new
    → IfSome output (λ text. new.bytes ≡ codes "refused " ++ text ++ 10 ∷ [])
refused_held took appends None old new none written = tt
refused_held took appends (Some text) old new none written =
    contents_after_writes took (λ (line : ArrayString). line.bytes) appends old
    (codes "refused " ++ text ++ 10 ∷ []) new written
    ∙ ap (λ (l : List ℕ). l ++ (codes "refused " ++ text ++ 10 ∷ [])) none

-- nothing of it was written
pub refused_not : (output : Option (List ℕ)) (held : Option (List ℕ))
    → IfSome output (λ text. AppendsFront held held (codes "refused " ++ text ++ 10 ∷ []))
refused_not None held = tt
refused_not (Some text) held = ([], codes "refused " ++ text ++ 10 ∷ [], refl, Appends-nil held)

-- a fault was handed on
pub fails_out : {E : Type 0} (held holds : Option (List ℕ)) (whole : List ℕ)
    (r : Result (Unit {0}) E) → IsErr r → AppendsFront held holds whole → IsHanded held holds whole r
fails_out held holds whole (Ok done) failed front = absurd (cc)
fails_out held holds whole (Err e) failed front = front

-- the writer failed at the first piece of a text
pub out_first : {E : Type 0} (held holds : Option (List ℕ)) (bytes after whole : List ℕ)
    (r : Result (Unit {0}) E)
    → IsErr r → AppendsFront held holds bytes → bytes ++ after ≡ whole → IsHanded held holds whole r
out_first held holds bytes after whole r failed front is =
    fails_out held holds whole r failed (subst (AppendsFront held holds) is (cut_there held holds bytes after front))

-- the writer failed at a later piece
pub out_later : {E : Type 0} (held mid holds : Option (List ℕ)) (bytes more after whole : List ℕ)
    (r : Result (Unit {0}) E)
    → IsErr r → Appends held mid bytes → AppendsFront mid holds more → (bytes ++ more) ++ after ≡ whole
    → IsHanded held holds whole r
out_later held mid holds bytes more after whole r failed all front is =
    out_first held holds (bytes ++ more) after whole r failed (cut_later held mid holds bytes more all front) is

-- the front of the bytes that was written so far, where `rest` is left
abbrev pub Wrote : Option (List ℕ) → Option (List ℕ) → List ℕ → List ℕ → Type 0
Wrote held holds bytes rest = (front : List ℕ) × (bytes ≡ front ++ rest) × Appends held holds front

pub wrote_more : (held mid holds : Option (List ℕ)) (bytes rest : List ℕ) (n : ℕ) → Wrote held mid bytes rest
    → Appends mid holds (take n rest)
    → Wrote held holds bytes (drop n rest)
wrote_more held mid holds bytes rest n w more = (
  w.0 ++ take n rest,
  w.1 ∙ ap (λ l. w.0 ++ l) (sym (take-append-drop n rest)) ∙ sym (append_assoc w.0 (take n rest) (drop n rest)),
  Appends-trans held mid holds w.0 (take n rest) w.2 more,
)

pub wrote_same : (held mid holds : Option (List ℕ)) (bytes rest : List ℕ) → Wrote held mid bytes rest → Keeps mid holds
    → Wrote held holds bytes rest
wrote_same held mid holds bytes rest w kept = (w.0, w.1, Appends-kept held mid holds w.0 w.2 kept)

-- all was written
pub wrote_all : (held holds : Option (List ℕ)) (bytes rest : List ℕ) → Wrote held holds bytes rest → rest ≡ []
    → Appends held holds bytes
wrote_all held holds bytes rest w none =
    subst (Appends held holds) (sym (append-nil w.0) ∙ ap (λ l. w.0 ++ l) (sym none) ∙ sym w.1) w.2

-- no more was written
pub wrote_front : (held holds : Option (List ℕ)) (bytes rest : List ℕ) → Wrote held holds bytes rest
    → AppendsFront held holds bytes
wrote_front held holds bytes rest w = (w.0, rest, w.1, w.2)

-- ---- lists

-- the writer failed at one element of a list
pub one_cut : {X : Type 0} (text : X → List ℕ) (xs : List X) (i : ℕ) (default : X)
    (old mid new : Option (List ℕ)) → i < length xs
    → Appends old mid (flat_map text (take i xs)) → AppendsFront mid new (text (get_or xs i default))
    → AppendsFront old new (flat_map text xs)
one_cut text xs i default old mid new below before front =
    let grown = flat_map_more text [] (take i xs) (get_or xs i default)
    ∙ ap (flat_map text) (sym (take_more xs i default below)) in
    let so_far = subst (AppendsFront old new) grown
    (cut_later old mid new (flat_map text (take i xs)) (text (get_or xs i default)) before front) in
    subst (AppendsFront old new)
    (sym (flat_map-append text (take (i + 1) xs) (drop (i + 1) xs))
    ∙ ap (flat_map text) (take-append-drop (i + 1) xs))
    (cut_there old new (flat_map text (take (i + 1) xs)) (flat_map text (drop (i + 1) xs)) so_far)

-- the writer failed at the element that comes next
pub next_of_cut : {X : Type 0} (text : X → List ℕ) (done : List X) (x : X) (left all : List X)
    (old mid new : Option (List ℕ)) → done ++ (x ∷ left) ≡ all
    → Appends old mid (flat_map text done) → AppendsFront mid new (text x) → AppendsFront old new (flat_map text all)
next_of_cut text done x left all old mid new is before front =
    let whole : (flat_map text done ++ text x) ++ flat_map text left ≡ flat_map text all =
    append_assoc (flat_map text done) (text x) (flat_map text left)
    ∙ sym (flat_map-append text done (x ∷ left)) ∙ ap (flat_map text) is in
    subst (AppendsFront old new) whole
    (cut_there old new (flat_map text done ++ text x) (flat_map text left)
    (cut_later old mid new (flat_map text done) (text x) before front))
