-- The order of keys: by table, then by bytes.
use Rattle.std.specs.Prelude.{◌≡◌, Bool, ◌==◌, ◌&&◌, nat_eq}
use Rattle.std.specs.Ordering.{nat_cmp, on, then_cmp, eq_by_cmp}
use Rattle.std.specs.declared.cmp.Ordering.{Ordering}
use Rattle.std.specs.Cmp.{IsTotalOrder, nat_cmp_total, on_total, then_total, both_tied, unsigned_ties}
use Rattle.std.specs.Cmp.Lexicographic.{pointwise, slice_cmp, nat_list_cmp_total, texts_ties}
use Rattle.entry.specs.declared.key.Key.{Key}

abbrev pub key_cmp : Key → Key → Ordering
key_cmp a b = then_cmp (on (λ (k : Key). k.table) nat_cmp) (on (λ (k : Key). k.bytes) (slice_cmp nat_cmp)) a b

-- the same table and the same bytes
abbrev pub key_eq : Key → Key → Bool
key_eq a b = (a.table == b.table) && pointwise nat_eq a.bytes b.bytes

-- ---- laws of the order

pub key_cmp_total : IsTotalOrder key_cmp
key_cmp_total =
    then_total (on_total (λ (k : Key). k.table) nat_cmp_total) (on_total (λ (k : Key). k.bytes) nat_list_cmp_total)

-- two keys are the same exactly if neither comes before the other
pub key_eq_ties : (a b : Key) → key_eq a b ≡ eq_by_cmp key_cmp a b
key_eq_ties a b = both_tied _ _ _ _ (unsigned_ties a.table b.table) (texts_ties a.bytes b.bytes)
