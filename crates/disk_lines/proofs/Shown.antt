-- What is printed of a command.
use Rattle.std.proofs.Common.{[], ◌≡◌, ◌≤◌, ◌∷◌, ◌++◌, ◌∙◌, ℕ, List, length, false, refl, sym, ap, subst, arith}
use Rattle.std.proofs.Common.{inl, inr}
use Rattle.std.specs.Prelude.{Bool, Some, slice_get, nat_lt, codes}
use Rattle.std.specs.Option.{option_map}
use Rattle.std.proofs.lemmas.Bool.Decides.{nat_tests}
use Rattle.lines.specs.Grammar.{LineValue, Put, New, Cas, Get, Del}
use Rattle.versioned_map.specs.declared.command.Command.{Command}
use Rattle.versioned_map.specs.declared.command.Record.{Record}
use Rattle.versioned_map.specs.declared.command.Reply.{Reply as MapReply}
use Rattle.answers.specs.driving.master.master_state.Data.{MasterData}
use Rattle.raw_answers.specs.Texts.{reply_in}
use Rattle.embedded.specs.Replies.{IsAnswered, IsReadAt, MeansBy}
use Rattle.embedded.specs.declared.reply.Reply.{Reply}
use Rattle.embedded.specs.declared.reply.Status.{Status}
use Rattle.embedded.specs.declared.reply.Status.TheVariants as status
use Rattle.file_store.specs.Started.{CarriesOutIf}
use Rattle.disk_lines.specs.Lines.{CarriesOutLine, IsShown, IsShownAs, word_of}

last_there : (rs : List Record) (r : Record) → slice_get (rs ++ r ∷ []) (length rs) ≡ Some r
last_there [] r = refl
last_there (x ∷ rs) r = last_there rs r

not_below : (n m : ℕ) → n ≤ m → nat_lt m n ≡ false
not_below n m within = grind (arith, nat_tests)

-- the record of a command that was answered can be read
answered_read : (old : MasterData) (command : Command) (r : Reply) (new : MasterData)
    → (is : IsAnswered old command r new) → IsReadAt new r.place is.reply
answered_read old command r new is =
    let last : Record = record { seat = 0; command = command; reply = is.reply } in
    let place : r.place ≡ length old.history = ap (λ (x : Reply). x.place) is.told in
    let kept = is.kept in
    rw (not_below new.forgotten r.place (omega (arith, place, kept)))
    (ap (option_map (λ (x : Record). x.reply))
    (ap (λ (rs : List Record). slice_get rs r.place) is.goes_on.history
    ∙ ap (slice_get (old.history ++ last ∷ [])) place
    ∙ last_there old.history last))

-- something is printed of each reply
means_shown : (is_raw : Bool) (s : Status) (old : MasterData) (command : Command) (r : Reply) (new : MasterData)
    → MeansBy s old command r new → (printed : List ℕ) × IsShownAs s is_raw new r printed
means_shown is_raw status.Ok old command r new is =
    (reply_in is_raw is.reply, (is.reply, answered_read old command r new is, refl))
means_shown is_raw status.None old command r new is =
    (reply_in is_raw is.reply, (is.reply, answered_read old command r new is, refl))
means_shown is_raw status.Mismatch old command r new is =
    (reply_in is_raw is.reply, (is.reply, answered_read old command r new is, refl))
means_shown is_raw status.Refused old command r new is = (codes "refused " ++ word_of r.refusal ++ 10 ∷ [], refl)
means_shown is_raw status.Unsure old command r new is = (codes "unsure " ++ word_of r.refusal ++ 10 ∷ [], refl)

carried_if : {Fits : Type 0} (is_raw : Bool) (old : MasterData) (command : Command) (r : Reply) (new : MasterData)
    → CarriesOutIf Fits old command r new → (printed : List ℕ) × IsShown is_raw new r printed
carried_if is_raw old command r new (inl (fits, means)) = means_shown is_raw r.status old command r new means
carried_if is_raw old command r new (inr (none, told, same)) =
    subst (λ (x : Reply). (printed : List ℕ) × IsShown is_raw new x printed) (sym told)
    (codes "refused " ++ word_of 1 ++ 10 ∷ [], refl)

pub carried_shown : (is_raw : Bool) (old : MasterData) (line : LineValue) (r : Reply) (new : MasterData)
    → CarriesOutLine old line r new → (printed : List ℕ) × IsShown is_raw new r printed
carried_shown is_raw old (Put table key value) r new is = carried_if is_raw old _ r new is
carried_shown is_raw old (New table key value) r new is = carried_if is_raw old _ r new is
carried_shown is_raw old (Cas table key version value) r new is = carried_if is_raw old _ r new is
carried_shown is_raw old (Get table key) r new is = carried_if is_raw old _ r new is
carried_shown is_raw old (Del table key) r new is = carried_if is_raw old _ r new is
carried_shown is_raw old _ r new is = absurd is

-- of a command with a record that record's reply is printed
pub has_record : (is_raw : Bool) (d : MasterData) (r : Reply) (printed : List ℕ) (s : Status)
    → (s ≡ status.Refused → ⊥) → (s ≡ status.Unsure → ⊥) → IsShownAs s is_raw d r printed
    → (reply : MapReply) × IsReadAt d r.place reply × (printed ≡ reply_in is_raw reply)
has_record is_raw d r printed status.Ok none unsure shown = shown
has_record is_raw d r printed status.None none unsure shown = shown
has_record is_raw d r printed status.Mismatch none unsure shown = shown
has_record is_raw d r printed status.Refused none unsure shown = absurd (none refl)
has_record is_raw d r printed status.Unsure none unsure shown = absurd (unsure refl)
