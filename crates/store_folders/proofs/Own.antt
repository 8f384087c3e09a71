-- A file that begins with a text of these numbers.
use Rattle.std.proofs.Common.{◌≡◌, ℕ, List, subst}
use Rattle.fleet_start.specs.First.{BeginsWith, first_text}

pub begins_own : (store named backup id own : ℕ) (read bytes : List ℕ) → store ≡ named → id ≡ own → read ≡ bytes
    → BeginsWith (first_text store backup id) read → BeginsWith (first_text named backup own) bytes
begins_own store named backup id own read bytes of with_id same begins =
    subst (λ (f : List ℕ). BeginsWith (first_text named backup own) f) same
    (subst (λ (n : ℕ). BeginsWith (first_text named backup n) read) with_id
    (subst (λ (n : ℕ). BeginsWith (first_text n backup id) read) of begins))
