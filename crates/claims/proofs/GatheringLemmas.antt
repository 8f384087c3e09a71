-- The claims of segments, one segment after the other.
use Rattle.std.proofs.Common.{◌≡◌, ℕ, ◌+◌, ◌<◌, List, [], ◌∷◌, ◌++◌, length, drop}
use Rattle.std.proofs.Common.{get_or, map, refl, sym, ap, ◌∙◌, append_assoc}
use Rattle.std.specs.Prelude.{filter, Option, Some, None, Result, Ok, Err, false, if◌then◌else◌}
use Rattle.std.specs.Result.{is_ok, is_err}
use Rattle.std.specs.List.{cons_option}
use Rattle.std.proofs.lemmas.List.{append-nil, map-append, at_drop_more}
use Rattle.entry.specs.declared.entry.Entry.{Entry}
use Rattle.entry.specs.declared.entry.Entry.TheVariants as entry
use Rattle.entry.specs.Text.{is_data}
use Rattle.claims.specs.declared.claim.Claim.{Claim}
use Rattle.claims.specs.Bags.{segments_bag}
use Rattle.claims.specs.Claims.{Claimed, claimed, claim_of, claims_of}

pub claims_of-append : (es fs : List Entry) → claims_of (es ++ fs) ≡ claims_of es ++ claims_of fs
claims_of-append [] fs = refl
claims_of-append (entry.Header h ∷ es) fs = claims_of-append es fs
claims_of-append (entry.Digest ids ∷ es) fs = claims_of-append es fs
claims_of-append (entry.Safe version ∷ es) fs = claims_of-append es fs
claims_of-append (entry.Object o ∷ es) fs = (let rest = claims_of-append es fs in cc)
claims_of-append (entry.Tombstone t ∷ es) fs = (let rest = claims_of-append es fs in cc)

pub claims_of-data : (es : List Entry) → claims_of (filter is_data es) ≡ claims_of es
claims_of-data [] = refl
claims_of-data (entry.Header h ∷ es) = claims_of-data es
claims_of-data (entry.Digest ids ∷ es) = claims_of-data es
claims_of-data (entry.Safe version ∷ es) = claims_of-data es
claims_of-data (entry.Object o ∷ es) = (let rest = claims_of-data es in cc)
claims_of-data (entry.Tombstone t ∷ es) = (let rest = claims_of-data es in cc)

pub gathered_more : (segments : List (List Entry)) (i : ℕ) (es left : List Entry) (was now : List Claimed)
    → i < length segments →
    es ≡ get_or segments i es → left ≡ [] →
    now ++ claims_of left ≡ was ++ claims_of es
    → was ++ claims_of (segments_bag (drop i segments)) ≡ claims_of (segments_bag segments) →
    now ++ claims_of (segments_bag (drop (i + 1) segments)) ≡ claims_of (segments_bag segments)
gathered_more segments i es left was now lt at none inner outer =
    let rest : List (List Entry) = drop (i + 1) segments in
    let front : claims_of (segments_bag (drop i segments)) ≡ claims_of es ++ claims_of (segments_bag rest) =
    at_drop_more (λ ss. claims_of (segments_bag ss)) segments i es lt
    ∙ ap (λ (fs : List Entry). claims_of (segments_bag (fs ∷ rest))) (sym at)
    ∙ claims_of-append (filter is_data es) (segments_bag rest)
    ∙ ap (λ (cs : List Claimed). cs ++ claims_of (segments_bag rest)) (claims_of-data es) in
    let whole : now ≡ was ++ claims_of es =
    sym (append-nil now) ∙ ap (λ (fs : List Entry). now ++ claims_of fs) (sym none) ∙ inner in
    ap (λ (cs : List Claimed). cs ++ claims_of (segments_bag rest)) whole
    ∙ append_assoc was (claims_of es) (claims_of (segments_bag rest))
    ∙ ap (λ (cs : List Claimed). was ++ cs) (sym front)
    ∙ outer

pub entry_passed : (e : Entry) (es left : List Entry) (was total : List Claimed) → es ≡ e ∷ left → None ≡ claim_of e →
    was ++ claims_of es ≡ total → was ++ claims_of left ≡ total
entry_passed e es left was total first none held =
    ap (λ (cs : List Claimed). was ++ cs)
    (sym (ap claims_of first ∙ ap (λ (c : Option Claimed). cons_option c (claims_of left)) (sym none))) ∙ held

pub entry_claimed : (e : Entry) (es left : List Entry) (x : Claim) (old new : List Claim) (total : List Claimed)
    → es ≡ e ∷ left →
    Some (claimed x) ≡ claim_of e → new ≡ old ++ x ∷ [] →
    map claimed old ++ claims_of es ≡ total →
    map claimed new ++ claims_of left ≡ total
entry_claimed e es left x old new total first some pushed held =
    ap (λ (cs : List Claimed). cs ++ claims_of left) (ap (map claimed) pushed ∙ map-append claimed old (x ∷ []))
    ∙ append_assoc (map claimed old) (claimed x ∷ []) (claims_of left)
    ∙ ap (λ (cs : List Claimed). map claimed old ++ cs)
    (sym (ap claims_of first ∙ ap (λ (c : Option Claimed). cons_option c (claims_of left)) (sym some)))
    ∙ held

pub pushed_by : {T E X : Type 0} (r : Result T E) (new more old : List X) → false ≡ is_err r
    → new ≡ if is_ok r then more else old → new ≡ more
pushed_by (Ok x) new more old fine is = is
pushed_by (Err y) new more old fine is = absurd (cc)
