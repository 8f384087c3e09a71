use Rattle.std.proofs.Common.{◌≡◌, ℕ, ◌<◌, List, ap, sym, ◌∙◌, length, arith}
use Rattle.places.specs.declared.place.Held.{Held}
use Rattle.places.specs.Lists.{holds_in}
use Rattle.place_index.proofs.Parted.{holds_part}
use Rattle.chain_index.specs.Chains.{chain_of}
use Rattle.chain_index.proofs.table.ChainTableTable.holds_first.Goals as goal

pub returns : goal.returns
returns c first =
    let h = c.args.held in
    let cs = c.self.inside.chains.items in
    let t = c.chain_at-at.result in
    let d = c.index-chain.result.now in
    let count : c.len.result ≡ length cs = omega (arith, c.len.ensures, c.self.inside.chains.ok.0) in
    let at : t ≡ chain_of (length cs) h.hash = c.chain_at-at.ensures.chain ∙ ap (λ (n : ℕ). chain_of n h.hash) count in
    let below : t < length cs = omega (arith, c.chain_at-at.ensures.within, count) in
    ap (λ (xs : List Held). holds_in xs h) (sym c.self.view_is)
    ∙ holds_part h (chain_of (length cs)) t at cs c.self.invariant below d
    ∙ ap (λ (x : List Held). holds_in x h) (sym c.index-chain.ensures)
    ∙ c.holds_first.ensures first
