-- What a line shows of a node's own master.
use Rattle.std.specs.Prelude.{◌≡◌, ◌⊎◌, ℕ, List, IsSome, Option, Some, None}
use Rattle.std.specs.Option.{option_map}
use Rattle.entry.specs.declared.entry.Object.{Object}
use Rattle.entry.specs.Text.{text_of}
use Rattle.answers.specs.driving.master.log_head.Head.{digest_of}
use Rattle.answers.specs.driving.master.master_state.declared.step.Refusal.TheVariants.{NoMemory}
use Rattle.answers.specs.driving.master.master_state.Budget.{used_seglets, free_seglets}
use Rattle.answers.specs.driving.master.master_state.Log.{image_of, state_now}
use Rattle.answers.specs.driving.master.master_space.Objects.{AreObjectsOf}
use Rattle.answers.specs.driving.master.Segments.{segment_rows}
use Rattle.answers.specs.declared.answer.Answer.{Answer}
use Rattle.answers.specs.declared.answer.Answer.TheVariants as answers
use Rattle.cluster.specs.declared.node.Node.{Node}
use Rattle.cluster.specs.declared.node.Node.TheVariants.{Up}

-- the digest that the node's master has in force; or memory ran out
abbrev pub ShowsDigest : Node → Answer → Type 0
ShowsDigest (Up m) answer =
    (answer ≡ answers.Log (digest_of m.knows.head.image)) ⊎ (answer ≡ answers.Refused NoMemory)
ShowsDigest node answer = answer ≡ answers.Down

-- how many seglets of memory the node's master counts, and how many it has free
abbrev pub ShowsRoom : Node → Answer → Type 0
ShowsRoom (Up m) answer = answer ≡ answers.Room (used_seglets m.knows) (free_seglets m.knows)
ShowsRoom node answer = answer ≡ answers.Down

-- the segments of the node's master; or memory ran out
abbrev pub ShowsSegments : Node → Answer → Type 0
ShowsSegments (Up m) answer =
    (answer ≡ answers.Segments (segment_rows m.knows)) ⊎ (answer ≡ answers.Refused NoMemory)
ShowsSegments node answer = answer ≡ answers.Down

-- the live objects that the node's master has of the table; or memory ran out
abbrev pub ShowsObjects : Node → ℕ → Answer → Type 0
ShowsObjects (Up m) table answer =
    ((objects : List Object) × AreObjectsOf (state_now m.knows).contents table objects
    × (answer ≡ answers.Listed objects))
    ⊎ (answer ≡ answers.Refused NoMemory)
ShowsObjects node table answer = answer ≡ answers.Down

-- how many bytes the live objects of the node's master have together, and how many puts may make them
abbrev pub ShowsLive : Node → Answer → Type 0
ShowsLive (Up m) answer = answer ≡ answers.Live m.knows.live m.knows.config.most_live
ShowsLive node answer = answer ≡ answers.Down

-- the answer with the bytes of a segment's image, if there is one
abbrev pub image_answer : ℕ → Option (List ℕ) → Answer
image_answer segment (Some bytes) = answers.Hex bytes
image_answer segment None = answers.NotInLog segment

-- the image that the node's master has of the segment; or there is one, and memory ran out
abbrev pub ShowsImage : Node → ℕ → Answer → Type 0
ShowsImage (Up m) segment answer =
    (answer ≡ image_answer segment (option_map text_of (image_of m.knows segment)))
    ⊎ (IsSome (image_of m.knows segment) × (answer ≡ answers.Refused NoMemory))
ShowsImage node segment answer = answer ≡ answers.Down
