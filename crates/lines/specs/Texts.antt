-- What is printed of a reason.
use Rattle.std.specs.Prelude.{ℕ, List, [], ◌++◌, codes, Option, None, Some}
use Rattle.std.specs.Fmt.{decimal}
use Rattle.lines.specs.declared.reason.Reason.{Reason}
use Rattle.lines.specs.declared.reason.Reason.TheVariants as reason
use Rattle.lines.specs.declared.reason.Shape.{Shape}
use Rattle.lines.specs.declared.reason.Shape.TheVariants as shape

-- the number behind a text, if there is one
abbrev pub number_text : Option ℕ → List ℕ
number_text None = []
number_text (Some number) = decimal number

-- what a command has behind its name
abbrev pub shape_text : Shape → List ℕ
shape_text shape.Key = codes " has a table and a key"
shape_text shape.Value = codes " has a table, a key and a value"
shape_text shape.Version = codes " has a table, a key, a version and a value"
shape_text shape.Table = codes " has the number of a table"
shape_text shape.Segment = codes " has the number of a segment"
shape_text shape.Segments = codes " has the numbers of one segment or more"
shape_text shape.Ops = codes " has a number of ops"
shape_text shape.Fault = codes " has the number of a take, counted from 1, and taken or lost"
shape_text shape.Backup = codes " has the number of a backup"
shape_text shape.Order = codes " has nothing behind it, or reverse, or threads and a number of workers (1 to 64)"
shape_text shape.Alone = codes " has nothing behind it"
shape_text shape.Clients = codes " has a number of clients (1 to 63), of rounds (1 to 1000000) and of passes"
shape_text shape.Format = codes " has the word 2"
shape_text shape.Seglets = codes " has a number of seglets (1 to 4294967296)"
shape_text shape.Steps = codes " has a number of steps (1 to 65536)"

abbrev pub reason_text : Reason → List ℕ
reason_text reason.CarriageReturn = codes "a carriage return ends the line"
reason_text (reason.Byte byte) = codes "a word has visible characters, and not the byte " ++ decimal byte
reason_text reason.Spaces = codes "one space stands between two words, and none at an end"
reason_text reason.Capital = codes "the name of a command has lower case letters"
reason_text reason.Unknown = codes "the first word is no command"
reason_text (reason.Shape name s) = name.now ++ shape_text s
reason_text reason.Number = codes "a number has digits, no sign and no leading zero, and is below 2^64"
reason_text reason.LongKey = codes "a key has at most 1024 bytes"
reason_text reason.Uncounted = codes "with --raw a key or a value is its length, a colon and so many bytes"
reason_text reason.TooLong = codes "a line has at most 4096 bytes"
reason_text reason.TooMany = codes "a script has at most 2^64 - 2 lines"
reason_text reason.NoLaterMaster = codes "masters that start later need memory for four segments, and sizes that --live fits"
reason_text (reason.NoBackup count) = codes "backups count from 0, and there are " ++ decimal count
