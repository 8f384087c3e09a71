-- What a crash in a put leaves is opened.
use Rattle.std.proofs.Common.{◌≡◌, ◌⊎◌, inl, inr, List, ℕ, [], sym, ◌∙◌, ap}
use Rattle.std.proofs.lemmas.Option.{none-some, same_Some}
use Rattle.take_journal.specs.Frames.{recovered}
use Rattle.registry_file.specs.File.{CrashesAreOpened, IsNoDamage, LeftByPut, Shows, TellsWhy}
use Rattle.registry_file.specs.Kept.{Kept, after, kept_of}
use Rattle.registry_file.specs.declared.fault.RegistryFault.{RegistryFault}
use Rattle.registry_file.specs.declared.fault.RegistryFault.TheVariants as fault
use Rattle.registry_text.specs.declared.record.Record.{Record}

-- a file that keeps something has a text
has_text : (k : Kept) (file : List ℕ) → Shows k file → recovered file ≡ [] → ⊥
has_text k file shows none = none-some k (sym (ap (λ (l : List (List ℕ)). kept_of l) none) ∙ shows)

-- the file keeps something
shows_some : (k : Kept) (r : Record) (file : List ℕ) → LeftByPut k r file → (j : Kept) × Shows j file
shows_some k r file left = by_shows left.shows
  where
    by_shows : Shows k file ⊎ Shows (after k r) file → (j : Kept) × Shows j file
    by_shows (inl same) = (k, same)
    by_shows (inr more) = (after k r, more)

opened : (k : Kept) (r : Record) (file : List ℕ) (f : RegistryFault) → LeftByPut k r file → TellsWhy f file
    → IsNoDamage f
opened k r file fault.NoMemory left tells = tt
opened k r file fault.OtherVersion left tells = tells left.opens.version
opened k r file fault.NotBegun left tells = let some = shows_some k r file left in has_text some.0 file some.1 tells
opened k r file (fault.Damaged at) left tells = tells.1 left.opens.left
opened k r file (fault.WrongRecord i) left tells = let some = shows_some k r file left in tells.1 some.0 some.1
opened k r file fault.Full left tells = tells
opened k r file fault.Failed left tells = tt

one_of_both : (k : Kept) (r : Record) (file : List ℕ) (found : Kept) → LeftByPut k r file → Shows found file
    → (found ≡ k) ⊎ (found ≡ after k r)
one_of_both k r file found left shows = by_shows left.shows
  where
    by_shows : Shows k file ⊎ Shows (after k r) file → (found ≡ k) ⊎ (found ≡ after k r)
    by_shows (inl same) = inl (same_Some found k (sym shows ∙ same))
    by_shows (inr more) = inr (same_Some found (after k r) (sym shows ∙ more))

pub crashes_opened : CrashesAreOpened
crashes_opened = record { opened = opened; kept = one_of_both }
