-- A new master's log is intact if the backups hold nothing of the master.
use Rattle.std.proofs.Common.{◌≡◌, ℕ, inl, inr, List, [], Some, refl, sym, ap, subst, ◌∙◌, arith}
use Rattle.std.proofs.lemmas.Option.{same_Some}
use Rattle.entry.specs.declared.key.Key.{Key}
use Rattle.entry.specs.declared.entry.Entry.{Entry}
use Rattle.entry.specs.declared.entry.Entry.TheVariants.{Object, Tombstone}
use Rattle.entry.specs.Bag.{IsAmong}
use Rattle.entry.specs.Meaning.{IsOfKey}
use Rattle.log_bytes.specs.log_laws.Heads.{Start}
use Rattle.log_bytes.specs.log_laws.Memory.{SegmentHas}
use Rattle.log_bytes.proofs.log_laws.NoPass.{none_passing, none_chosen}
use Rattle.log_bytes.specs.log_laws.Text.{Text}
use Rattle.log_bytes.specs.log_laws.Shown.{Shown}
use Rattle.log_bytes.specs.log_laws.Data.{opening_for, bare, FailConfig}
use Rattle.log_bytes.specs.log_laws.Log.{IsKept}
use Rattle.log_bytes.specs.log_laws.Steps.{restored_start, fresh, MayBegin}
use Rattle.log_bytes.proofs.log_laws.NewMaster.{texts_of, first_held, fresh_standing}
use Rattle.log_memory.specs.Laws.{FreshIsIntact}
use Rattle.log_memory.specs.Memory.{FailMemory, entries_in, log_ids, log_set_of}
use Rattle.log_memory.specs.Steps.{first_memory}
use Rattle.log_memory.proofs.Openings.{IsImage, no_keys, image_bare}
use Rattle.log_memory.proofs.Pasts.{fresh_past}

module _ (c : FailConfig) (p : Shown) (may : MayBegin c p) where
  abbrev first : Start
  first = restored_start c.format 1

  abbrev log : IsKept (fresh c) p
  log = record { texts = texts_of c 1; held = first_held c 1 p may; standing = fresh_standing c p may }

  abbrev memory : FailMemory
  memory = first_memory c 1

  one : (s : ℕ) → IsAmong s (log_ids (fresh c) memory) → 1 ≡ s
  one s l = elim l [ inl same ↦ same | inr never ↦ absurd never ]

  -- the first head has nothing behind its opening
  no_entry : (s : ℕ) (e : Entry) (k : Key) → SegmentHas (log_set_of (fresh c) memory log.texts) s e → IsOfKey k e → ⊥
  no_entry s e k m at = elim m.among as (λ _. ⊥) [
    | inl a ↦ no_keys c.master 1 (Some (opening_for first)) e k a at
    | inr t ↦ subst (λ (es : List Entry). IsAmong e es)
        (ap (entries_in log.texts) (sym (one s m.counts))
        ∙ ap (λ (x : Text). x.entries) (log.held.logged.new_text first (inl refl))) t
  ]

  others_none : (n : Start) → Some (restored_start c.format 1) ≡ Some n → n.others ≡ []
  others_none n is = sym (ap (λ (x : Start). x.others) (same_Some (restored_start c.format 1) n is))

pub fresh_is_intact : FreshIsIntact
fresh_is_intact c p may = (
  record {
    log = log c p may;
    tracked = record {
      clean = λ o q a b. absurd (no_entry c p may a.0 (Object o) o.key a.1 refl);
      highest = λ k x h. absurd (cc);
      found = λ k x h. absurd (cc);
      unindexed = λ k h. refl;
      lies = λ k x q h. absurd (cc);
      buried = λ s o m. absurd (no_entry c p may s (Object o) o.key m refl);
    };
    passing = none_passing _ _ _ _;
    around = record {
      below = λ s l. let same = one c p may s l in omega arith;
      named_below = λ s t l m.
          absurd (no_entry c p may s (Tombstone t) t.key (record { counts = l; among = inl m }) refl);
      versions = λ k h s f m at. absurd (no_entry c p may s f k m at);
      texted = λ s e k l not at m. absurd (no_entry c p may s e k (record { counts = l; among = inl m }) at);
    };
    images = λ s l. subst (λ (y : ℕ). IsImage c.master y ((log c p may).texts.text y) ((memory c p may).images y))
        (one c p may s l) (image_bare c.master 1 (bare (first c p may)));
    repaired = λ s es k e never. absurd never;
    whole = record { one = λ none s. refl; failed = λ never. absurd (cc) };
    chosen = none_chosen _ _;
    sealing = record {
      bare = λ s never. absurd never;
      one = λ s never. absurd never;
      each = λ s b r never. absurd never;
      held = λ s b never. absurd never;
    };
    rolling = λ n is. (λ _. others_none c p may n is, λ never. absurd (cc));
    committed = λ never. absurd (cc);
    waiting = record {
      out = λ w never. absurd never;
      below = λ w never. absurd never;
      real = λ w never. absurd never;
    };
    recorded = λ n is.
        let safe = ap (λ (x : Start). x.safe) (same_Some (restored_start c.format 1) n is) in omega arith;
    repairs = λ never. absurd (cc);
    real = λ mode none. absurd (elim mode as (λ _. ⊥) [ inl calm ↦ cc | inr repairs ↦ cc ]);
    past = [];
    before = fresh_past c (log c p may).texts;
  },
  refl,
)
