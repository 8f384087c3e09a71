-- What is printed in a script with raw bytes. Each line ends with a line feed, byte 10, behind its raw bytes.
use Rattle.std.specs.Prelude.{[], ℕ, List, ◌∷◌, ◌++◌, length, Bool, true, false, codes}
use Rattle.std.specs.List.{flat_map}
use Rattle.std.specs.Fmt.{decimal}
use Rattle.entry.specs.declared.entry.Object.{Object}
use Rattle.versioned_map.specs.declared.command.Reply.{Reply}
use Rattle.versioned_map.specs.declared.command.Reply.TheVariants as reply
use Rattle.answers.specs.claims.declared.rebuilt.Rebuilt.{Rebuilt}
use Rattle.answers.specs.declared.answer.Answer.{Answer}
use Rattle.answers.specs.declared.answer.Answer.TheVariants as answer
use Rattle.answers.specs.Texts.{answer_text, objects_text, rebuilt_text, reply_text}
use Rattle.raw_lines.specs.Raw.{counted}

-- a reply, whose value is counted bytes
abbrev pub raw_reply_text : Reply → List ℕ
raw_reply_text (reply.Found version value) = decimal version ++ 32 ∷ (counted value ++ 10 ∷ [])
raw_reply_text r = reply_text r

-- table, key, version and value, of which key and value are counted bytes
abbrev pub raw_object_text : Object → List ℕ
raw_object_text o =
    decimal o.key.table ++ 32 ∷ (counted o.key.bytes ++ 32 ∷ (decimal o.version ++ 32 ∷ (counted o.value ++ 10 ∷ [])))

-- a line for each object, in order, and a line with these words and their number
abbrev pub raw_objects_text : List ℕ → List Object → List ℕ
raw_objects_text words os = flat_map raw_object_text os ++ words ++ decimal (length os) ++ 10 ∷ []

abbrev pub raw_rebuilt_text : Rebuilt → List ℕ
raw_rebuilt_text r = raw_objects_text (codes "recovered ") r.objects

-- a reply, in a script with raw bytes or in one of words alone
abbrev pub reply_in : Bool → Reply → List ℕ
reply_in true r = raw_reply_text r
reply_in false r = reply_text r

-- a table that was recovered
abbrev pub rebuilt_in : Bool → Rebuilt → List ℕ
rebuilt_in true r = raw_rebuilt_text r
rebuilt_in false r = rebuilt_text r

-- the objects of a table
abbrev pub listed_in : Bool → List Object → List ℕ
listed_in true os = raw_objects_text (codes "listed ") os
listed_in false os = objects_text (codes "listed ") os

-- an answer; only a value, a key or both are written in another way
abbrev pub told_text : Bool → Answer → List ℕ
told_text is_raw (answer.Reply r) = reply_in is_raw r
told_text is_raw (answer.Recovered r) = rebuilt_in is_raw r
told_text is_raw (answer.Listed os) = listed_in is_raw os
told_text is_raw a = answer_text a
