use Rattle.std.proofs.Common.{◌≡◌, ◌+◌, ◌-◌, [], ◌∷◌, ℕ, List, take, drop, sym, subst}
use Rattle.std.specs.Prelude.{Option, IfSome}
use Rattle.entry.specs.declared.entry.Entry.{Entry}
use Rattle.entry.specs.Text.{entries_in}
use Rattle.segment.specs.Bytes.{standing_at}
use Rattle.images.specs.Steps.{StandsData}
use Rattle.images.proofs.Copies.{part_entry, part_data, stood}
use Rattle.images.proofs.copying.text_at.Goals as goal

pub returns-clause-data : goal.returns-clause-data
returns-clause-data c =
    let text = c.bytes.result.now in
    let at = c.args.at in
    let n = c.args.len in
    let s = stood text at n (subst (λ (l : List ℕ). StandsData l at n) (sym c.bytes.ensures.text) c.requires) in
    part_data text at n s.0 s.3 s.2

pub returns-clause-entry : goal.returns-clause-entry
returns-clause-entry c =
    let text = c.bytes.result.now in
    let at = c.args.at in
    let n = c.args.len in
    let s = stood text at n (subst (λ (l : List ℕ). StandsData l at n) (sym c.bytes.ensures.text) c.requires) in
    subst (λ (l : List ℕ). IfSome (standing_at at l) (λ (e : Entry). entries_in
    (take (at + n - at) (drop at text)) ≡ e ∷ []))
    c.bytes.ensures.text
    (subst (λ (o : Option Entry). IfSome o (λ (e : Entry). entries_in (take (at + n - at) (drop at text)) ≡ e ∷ []))
    (sym s.1) (part_entry text at n s.0 s.3))
