use Rattle.std.proofs.Common.{◌≡◌, ℕ, ◌+◌, ◌*◌, ◌%◌, sym, ap, ◌∙◌}
use Rattle.std.proofs.lemmas.Nat.{mul-mod_first}
use Rattle.std.proofs.Math.Nat.{add-mod}
use Rattle.master_state.proofs.config.Config.backup_at.Goals as goal

-- the first factor of a sum's first part may be cut to its remainder
cut_first : (s step j b : ℕ) → ((s % b) * step + j) % b ≡ (s * step + j) % b
cut_first s step j b =
    add-mod ((s % b) * step) j b ∙ ap (λ (x : ℕ). (x + j % b) % b) (mul-mod_first s step b)
    ∙ sym (add-mod (s * step) j b)

pub returns : goal.returns
returns c =
    let step = c.args.self.now.step in
    let backups = c.args.self.now.backups in
    c.rest-2.ensures ∙ ap (λ (r : ℕ). (r * step + c.args.place) % backups) c.rest.ensures
    ∙ cut_first c.args.segment step c.args.place backups
