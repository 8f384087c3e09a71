use Rattle.std.proofs.Common.{◌≡◌, ℕ, ◌+◌, List, [], ◌∷◌, ◌++◌, length, refl, sym, ap, ◌∙◌, arith}
use Rattle.std.specs.List.{range_with_len}
use Rattle.std.proofs.lemmas.List.FromFn.{map-range_with_len_more}
use Rattle.cleaner.specs.Passes.{images_in}
use Rattle.entry.specs.Text.{text_of}
use Rattle.images.specs.Image.{Image}
use Rattle.master_state.specs.Steps.{listed_in}
use Rattle.master_rolls.proofs.rolling.list_survivors.Goals as goal

-- one survivor more
listed_more : (closed : List Image) (first n : ℕ) → listed_in closed (range_with_len first (n + 1))
    ≡ listed_in closed (range_with_len first n)
    ++ record { id = first + n; len = length (text_of (images_in closed (first + n))) } ∷ []
listed_more closed first n =
    map-range_with_len_more (λ (s : ℕ). record { id = s; len = length (text_of (images_in closed s)) }) first n
    (first + n) refl

pub loop-at-preserved : goal.loop-at-preserved
loop-at-preserved c =
    let closed = c.args.closed.now.images in
    record {
      so_far = c.push_reserved.ensures.items
          ∙ (λ i. c.loop-at.invariant.so_far i
          ++ record {
            id = c.id-id.ensures i;
            len = (c.len_of.ensures ∙ ap (λ (s : ℕ). length (text_of (images_in closed s))) c.id-id.ensures) i;
          } ∷ [])
          ∙ sym (listed_more closed c.args.survivors.first c.loop-at.at);
      count = omega (arith, c.push_reserved.ensures.len, c.loop-at.invariant.count);
      room = omega (arith, c.push_reserved.ensures.capacity, c.loop-at.invariant.room);
    }
