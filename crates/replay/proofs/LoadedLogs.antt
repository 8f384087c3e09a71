-- A master that is loaded, by how far its log has come: what pushes and rolls make of it.
use Rattle.std.proofs.Common.{◌≡◌, ◌⊎◌, ◌≤◌, ◌+◌, ◌-◌, ◌*◌, ◌/◌, ℕ, suc, Bool, true, false, List, [], ◌∷◌, ◌++◌}
use Rattle.std.proofs.Common.{length, refl, sym, ap, subst, inl, inr, ◌∙◌, arith}
use Rattle.std.specs.Prelude.{Option, Some, None, sum_by, nat_le, ◌==◌, ◌&&◌, if◌then◌else◌}
use Rattle.std.specs.Int.{div_ceil}
use Rattle.std.specs.Option.{option_map_or}
use Rattle.std.proofs.lemmas.Bool.{and_parts, and_from, leb-true, le-leb}
use Rattle.std.proofs.lemmas.List.{length-append, length-map}
use Rattle.entry.specs.declared.entry.Entry.{Entry}
use Rattle.entry.specs.declared.entry.Entry.TheVariants as entry
use Rattle.entry.specs.declared.entry.Header.{Header}
use Rattle.entry.specs.declared.digest.Digest.{Digest}
use Rattle.entry.specs.declared.digest.Listed.{Listed}
use Rattle.entry.specs.declared.digest.Digest.TheVariants as digest
use Rattle.entry.specs.declared.entry.Role.TheVariants as role
use Rattle.entry.specs.Text.{text_of, lists_lengths, listed_ids}
use Rattle.entry.proofs.SpellingLemmas.{length-header, length-digest, length-lengths, length-safe}
use Rattle.entry.proofs.TextLemmas.{length_first}
use Rattle.images.specs.Image.{Image, closed_image}
use Rattle.images.specs.Images.{count_of}
use Rattle.images.proofs.Adding.{sum_added}
use Rattle.packing.specs.declared.new_log.NewLog.{NewLog}
use Rattle.packing.specs.Packing.{opening_len, rolled}
use Rattle.packing.proofs.Packed.{may_roll as may_roll_at}
use Rattle.driving.specs.master.log_head.declared.head.Roll.{Roll}
use Rattle.driving.specs.master.log_head.declared.next.Next.{Next}
use Rattle.driving.specs.master.log_head.declared.next.Next.TheVariants as next
use Rattle.driving.specs.master.log_head.Head.{digest_of, digest_in}
use Rattle.driving.specs.master.log_head.Steps.{start_after, in_force}
use Rattle.driving.specs.master.log_head.Steps.{with_new_replica}
use Rattle.driving.specs.master.log_laws.Heads.{Start, start_entries, digest_for, digest_with, ids_of}
use Rattle.driving.proofs.of_master.log_laws.ListedIds.{ids_listed}
use Rattle.driving.proofs.of_master.log_head.Digests.{without_none}
use Rattle.driving.specs.master_core.cleaner.declared.pass.Pass.{Pass}
use Rattle.driving.specs.master_core.cleaner.Passes.{is_ready as is_ready_pass}
use Rattle.driving.specs.master_core.master_state.declared.config.Config.{Config}
use Rattle.driving.specs.master_core.master_state.declared.ledger.Posting.{Posting}
use Rattle.driving.specs.master_core.master_state.Budget.{may_roll, victims_of, survivors_of}
use Rattle.driving.specs.master_core.master_state.Data.{MasterData}
use Rattle.driving.specs.master_core.master_state.Images.{with_closed}
use Rattle.driving.specs.master_core.master_state.Steps.{start_now, listed_in, rolling_data, taken_data, pushed_data}
use Rattle.driving.specs.master_core.master_state.Steps.{ledger_after, roll_ended, closed_data}
use Rattle.driving.specs.master_core.master_state.Config.{sizes_of}

-- ---- openings

-- the bytes of an opening, by how many segments its digest lists
opening_text : (master : ℕ) (n : Start) → length (text_of (start_entries master n))
    ≡ 32 + (if lists_lengths (digest_for n) then 16 * (length n.others + 1) else 8 * (length n.others + 1))
opening_text master n = go (digest_for n) (ids_listed n)
  where
    header : Header
    header = record { master = master; segment = n.id; role = role.Head }

    go : (d : Digest) → listed_ids d ≡ ids_of n
        → length (text_of (entry.Header header ∷ entry.Digest d ∷ entry.Safe n.safe ∷ []))
        ≡ 32 + (if lists_lengths d then 16 * (length n.others + 1) else 8 * (length n.others + 1))
    go (digest.Ids ids) is =
        let a = length_first (entry.Header header) (entry.Digest (digest.Ids ids) ∷ entry.Safe n.safe ∷ []) in
        let b = length_first (entry.Digest (digest.Ids ids)) (entry.Safe n.safe ∷ []) in
        let c = length_first (entry.Safe n.safe) [] in
        let h = length-header header in
        let e = length-digest ids in
        let s = length-safe n.safe in
        let count : length ids ≡ length (n.others ++ n.id ∷ []) = ap (λ (xs : List ℕ). length xs) is in
        let all = length-append n.others (n.id ∷ []) in
        omega arith
    go (digest.Lengths ss) is =
        let a = length_first (entry.Header header) (entry.Digest (digest.Lengths ss) ∷ entry.Safe n.safe ∷ []) in
        let b = length_first (entry.Digest (digest.Lengths ss)) (entry.Safe n.safe ∷ []) in
        let c = length_first (entry.Safe n.safe) [] in
        let h = length-header header in
        let e = length-lengths ss in
        let s = length-safe n.safe in
        let count : length (listed_ids (digest.Lengths ss)) ≡ length (n.others ++ n.id ∷ []) =
        ap (λ (xs : List ℕ). length xs) is in
        let same = length-map ss (λ (x : Listed). x.id) in
        let all = length-append n.others (n.id ∷ []) in
        omega arith

-- those of an opening that lists so many segments, in the format of the configuration
pub opening_at : (c : Config) (n : Start) (listed : ℕ) → lists_lengths (digest_for n) ≡ (c.format == 2)
    → length n.others + 1 ≡ listed → length (text_of (start_entries c.master n)) ≡ opening_len (sizes_of c) listed
opening_at c n listed lens count =
    opening_text c.master n
    ∙ (λ i. 32 + (if lens i then 16 * count i else 8 * count i))

-- ---- states

-- No backup has failed, no failover or pass is open, and the log has come this far.
pub record IsAt (c : Config) (l : NewLog) (d : MasterData) : Type 0 where
  pub config : d.config ≡ c
  pub unfailed : d.failed ≡ []
  pub calm : d.failover ≡ None
  pub passless : d.pass ≡ None
  pub start : Start
  pub more : List Entry
  pub image : d.head.image ≡ start_entries c.master start ++ more
  pub own : length start.others ≡ l.closed
  pub lens : lists_lengths (digest_for start) ≡ (c.format == 2)
  pub len : length (text_of d.head.image) ≡ l.len
  pub used : sum_by (count_of c.segment c.seglet) d.closed ≡ l.used

-- The head that comes next has its opening alone.
pub record IsNext (c : Config) (l : NewLog) (r : Roll) : Type 0 where
  pub start : Start
  pub image : r.image ≡ start_entries c.master start
  pub own : length start.others ≡ l.closed + 1
  pub lens : lists_lengths (digest_for start) ≡ (c.format == 2)

-- no roll is under way
pub record IsQuiet (c : Config) (l : NewLog) (d : MasterData) : Type 0 where
  pub at : IsAt c l d
  pub roll : d.head.roll ≡ None

-- a roll is under way
pub record IsBusy (c : Config) (l : NewLog) (d : MasterData) : Type 0 where
  pub at : IsAt c l d
  pub to : Roll
  pub roll : d.head.roll ≡ Some to
  pub next : IsNext c l to

-- it stays so if none of these changes
pub same_at : (c : Config) (l : NewLog) (d e : MasterData) → IsAt c l d → e.config ≡ d.config → e.failed ≡ d.failed
    → e.failover ≡ d.failover → e.pass ≡ d.pass → e.head.image ≡ d.head.image → e.closed ≡ d.closed → IsAt c l e
same_at c l d e at config failed failover pass image closed = record {
  config = config ∙ at.config;
  unfailed = failed ∙ at.unfailed;
  calm = failover ∙ at.calm;
  passless = pass ∙ at.passless;
  start = at.start;
  more = at.more;
  image = image ∙ at.image;
  own = at.own;
  lens = at.lens;
  len = ap (λ (es : List Entry). length (text_of es)) image ∙ at.len;
  used = ap (λ (cs : List Image). sum_by (count_of c.segment c.seglet) cs) closed ∙ at.used;
}

-- ---- pushes

abbrev posted_as : MasterData → List Posting → MasterData
posted_as d ps = record d { ledger = ps }

quiet_taken : (c : Config) (l : NewLog) (d : MasterData) (push : Next) → IsQuiet c l d → IsQuiet c l (taken_data d push)
quiet_taken c l d (next.OpenFirst j) q =
    record { at = same_at c l d _ q.at refl refl refl refl refl refl; roll = q.roll }
quiet_taken c l d (next.Extend j) q =
    record { at = same_at c l d _ q.at refl refl refl refl refl refl; roll = q.roll }
quiet_taken c l d (next.OpenWhole j) q =
    record { at = same_at c l d _ q.at refl refl refl refl refl refl; roll = q.roll }
quiet_taken c l d (next.OpenNew j) q =
    subst (λ (o : Option Roll).
    IsQuiet c l (option_map_or (λ (r : Roll). record d { head = with_new_replica d.head r }) o d)) (sym q.roll) q
quiet_taken c l d (next.CloseOld j) q =
    subst (λ (o : Option Roll). IsQuiet c l (option_map_or (closed_data d) o d)) (sym q.roll) q

pub quiet_pushed : (c : Config) (l : NewLog) (d : MasterData) (push : Next) → IsQuiet c l d
    → IsQuiet c l (pushed_data d push)
quiet_pushed c l d push q =
    quiet_taken c l (posted_as d (ledger_after d push)) push
    (record { at = same_at c l d _ q.at refl refl refl refl refl refl; roll = q.roll })

-- one more replica of the old head is closed: the last one, or not
abbrev closed_first : MasterData → Roll → Bool → MasterData
closed_first d r t = record d {
  head = if t then in_force d.head r else record d.head { roll = Some (record r { closed = suc r.closed }) };
  closed = with_closed d.closed d.head.id d.config.replicas (if t then Some d.head.image else None);
}

abbrev closed_by : MasterData → Roll → Bool → MasterData
closed_by d r t = if t then roll_ended d.pass (closed_first d r t) else closed_first d r t

-- after a push the roll goes on, or the next head is in force
abbrev pub IsBusyOrNext : Config → NewLog → MasterData → Type 0
IsBusyOrNext c l d = IsBusy c l d ⊎ IsQuiet c (rolled (sizes_of c) l) d

module _ (c : Config) (l : NewLog) (d : MasterData) (r : Roll) (at : IsAt c l d) (to : IsNext c l r) where
  one_more : IsAt c (rolled (sizes_of c) l) (closed_first d r true)
  one_more = record {
    config = at.config;
    unfailed = at.unfailed;
    calm = at.calm;
    passless = at.passless;
    start = to.start;
    more = [];
    image = to.image;
    own = to.own;
    lens = to.lens;
    len = ap (λ (es : List Entry). length (text_of es)) to.image
        ∙ opening_at c to.start (l.closed + 2) to.lens (let own = to.own in omega arith);
    used = sum_added (count_of c.segment c.seglet) (closed_image d.head.id d.head.image d.config.replicas) d.closed
        ∙ (λ i. at.used i + div_ceil (at.len i) c.seglet);
  }

  ended : IsQuiet c (rolled (sizes_of c) l) (closed_by d r true)
  ended =
      subst (λ (o : Option Pass). IsQuiet c (rolled (sizes_of c) l) (roll_ended o (closed_first d r true)))
      (sym at.passless) (record { at = one_more; roll = refl })

  closed_on : (t : Bool) → IsBusyOrNext c l (closed_by d r t)
  closed_on true = inr ended
  closed_on false = inl (record {
    at = same_at c l d _ at refl refl refl refl refl refl;
    to = record r { closed = suc r.closed };
    roll = refl;
    next = record { start = to.start; image = to.image; own = to.own; lens = to.lens };
  })

  closes_one : IsBusyOrNext c l (closed_data d r)
  closes_one = closed_on (suc r.closed == d.head.replicas)

busy_taken : (c : Config) (l : NewLog) (d : MasterData) (push : Next) → IsBusy c l d
    → IsBusyOrNext c l (taken_data d push)
busy_taken c l d (next.OpenFirst j) q = inl (record {
  at = same_at c l d _ q.at refl refl refl refl refl refl;
  to = q.to;
  roll = q.roll;
  next = q.next;
})
busy_taken c l d (next.Extend j) q = inl (record {
  at = same_at c l d _ q.at refl refl refl refl refl refl;
  to = q.to;
  roll = q.roll;
  next = q.next;
})
busy_taken c l d (next.OpenWhole j) q = inl (record {
  at = same_at c l d _ q.at refl refl refl refl refl refl;
  to = q.to;
  roll = q.roll;
  next = q.next;
})
busy_taken c l d (next.OpenNew j) q =
    subst (λ (o : Option Roll).
    IsBusyOrNext c l (option_map_or (λ (r : Roll). record d { head = with_new_replica d.head r }) o d)) (sym q.roll)
    (inl (record {
      at = same_at c l d _ q.at refl refl refl refl refl refl;
      to = record q.to { opened = suc q.to.opened };
      roll = refl;
      next = record { start = q.next.start; image = q.next.image; own = q.next.own; lens = q.next.lens };
    }))
busy_taken c l d (next.CloseOld j) q =
    subst (λ (o : Option Roll). IsBusyOrNext c l (option_map_or (closed_data d) o d)) (sym q.roll)
    (closes_one c l d q.to q.at q.next)

pub busy_pushed : (c : Config) (l : NewLog) (d : MasterData) (push : Next) → IsBusy c l d
    → IsBusyOrNext c l (pushed_data d push)
busy_pushed c l d push q =
    busy_taken c l (posted_as d (ledger_after d push)) push (record {
      at = same_at c l d _ q.at refl refl refl refl refl refl;
      to = q.to;
      roll = q.roll;
      next = q.next;
    })

-- ---- the begin of a roll

-- the digest of the next head lists lengths if and only if this one does
pub lens_on : (b : Bool) (others ns : List ℕ) (id : ℕ)
    → lists_lengths (digest_with others (if b then Some ns else None) id) ≡ b
lens_on true others ns id = refl
lens_on false others ns id = refl

start_is : (d : MasterData) → d.pass ≡ None → start_now d ≡ start_after d.head [] [] d.next d.safe
start_is d none =
    ap (λ (o : Option Pass). if option_map_or (is_ready_pass d.config.replicas d.closed) o false
    then start_after d.head (victims_of o) (listed_in d.closed (survivors_of o)) d.next d.safe
    else start_after d.head [] [] d.next d.safe) none

module _ (c : Config) (l : NewLog) (d : MasterData) (at : IsAt c l d) where
  listed_is : length (digest_of d.head.image) ≡ l.closed + 1
  listed_is =
      let ids : digest_of d.head.image ≡ ids_of at.start = ap digest_of at.image ∙ ids_listed at.start in
      let count = ap (λ (xs : List ℕ). length xs) ids in
      let all = length-append at.start.others (at.start.id ∷ []) in
      let own = at.own in omega arith

  next_own : length (start_now d).others ≡ l.closed + 1
  next_own = ap (λ (n : Start). length n.others) (start_is d at.passless)
      ∙ ap (λ (xs : List ℕ). length xs) (without_none (digest_of d.head.image))
      ∙ listed_is

  next_lens : lists_lengths (digest_for (start_now d)) ≡ (c.format == 2)
  next_lens = ap (λ (n : Start). lists_lengths (digest_for n)) (start_is d at.passless)
      ∙ lens_on (lists_lengths (digest_in d.head.image)) _ _ d.next
      ∙ ap (λ (es : List Entry). lists_lengths (digest_in es)) at.image
      ∙ at.lens

  pub begins : IsBusy c l (rolling_data d)
  begins = record {
    at = record {
      config = at.config;
      unfailed = at.unfailed;
      calm = at.calm;
      passless = ap (λ (o : Option Pass). (rolling_data (record d { pass = o })).pass) at.passless;
      start = at.start;
      more = at.more;
      image = at.image;
      own = at.own;
      lens = at.lens;
      len = at.len;
      used = at.used;
    };
    to = _;
    roll = refl;
    next = record {
      start = start_now d;
      image = ap (λ (k : Config). start_entries k.master (start_now d)) at.config;
      own = next_own;
      lens = next_lens;
    };
  }

-- ---- the rule of a roll

-- the rule of a roll where no roll is under way, and no pass or failover is open
abbrev may_by : Config → ℕ → ℕ → ℕ → Bool
may_by c listed used len =
    nat_le (listed + 1) (c.segment / 32) && nat_le (listed + 1) (c.segment / 32 - 1 - 1 + 1)
    && nat_le ((2 - 0) * (c.segment / c.seglet) + div_ceil len c.seglet)
    (c.seglets - (c.segment / c.seglet + used))

module _ (c : Config) (l : NewLog) (d : MasterData) (q : IsQuiet c l d) where
  plain : may_roll d 2 ≡ may_by d.config (length (digest_of d.head.image))
      (sum_by (count_of d.config.segment d.config.seglet) d.closed) (length (text_of d.head.image))
  plain i = may_roll (record d {
    head = record d.head { roll = q.roll i };
    pass = q.at.passless i;
    failover = q.at.calm i;
  }) 2

  config_is : may_by d.config (length (digest_of d.head.image))
      (sum_by (count_of d.config.segment d.config.seglet) d.closed) (length (text_of d.head.image))
      ≡ may_by c (length (digest_of d.head.image)) (sum_by (count_of c.segment c.seglet) d.closed)
      (length (text_of d.head.image))
  config_is = ap (λ (k : Config). may_by k (length (digest_of d.head.image))
      (sum_by (count_of k.segment k.seglet) d.closed) (length (text_of d.head.image))) q.at.config

  level_is : may_by c (length (digest_of d.head.image)) (sum_by (count_of c.segment c.seglet) d.closed)
      (length (text_of d.head.image)) ≡ may_by c (l.closed + 1) l.used l.len
  level_is i = may_by c (listed_is c l d q.at i) (q.at.used i) (q.at.len i)

  pub may_is : may_roll d 2 ≡ may_by c (l.closed + 1) l.used l.len
  may_is = plain ∙ config_is ∙ level_is

  -- where the new log may roll, the master may
  pub may_now : may_roll_at (sizes_of c) l ≡ true → may_roll d 2 ≡ true
  may_now is = may_is ∙ and_from _ _ (and_from _ _ (le-leb _ _ first) (le-leb _ _ second)) (le-leb _ _ third)
    where
      parts : (l.closed + 2 ≤ c.segment / 32) × (l.closed + 2 ≤ c.segment / 32 - 1)
          × (2 * (c.segment / c.seglet) + div_ceil l.len c.seglet
          ≤ c.seglets - (c.segment / c.seglet + l.used))
      parts =
          let outer = and_parts (nat_le (l.closed + 2) (c.segment / 32) && nat_le (l.closed + 2) (c.segment / 32 - 1))
          (nat_le (2 * (c.segment / c.seglet) + div_ceil l.len c.seglet)
          (c.seglets - (c.segment / c.seglet + l.used))) is in
          let inner = and_parts (nat_le (l.closed + 2) (c.segment / 32)) (nat_le (l.closed + 2) (c.segment / 32 - 1))
          outer.0 in (leb-true _ _ inner.0, leb-true _ _ inner.1, leb-true _ _ outer.1)

      first : l.closed + 1 + 1 ≤ c.segment / 32
      first = let le = parts.0 in omega arith

      second : l.closed + 1 + 1 ≤ c.segment / 32 - 1 - 1 + 1
      second = let le = parts.1 in less (c.segment / 32) le
        where
          less : (most : ℕ) → l.closed + 2 ≤ most - 1 → l.closed + 1 + 1 ≤ most - 1 - 1 + 1
          less most le = omega arith

      third : (2 - 0) * (c.segment / c.seglet) + div_ceil l.len c.seglet
          ≤ c.seglets - (c.segment / c.seglet + l.used)
      third = parts.2

  -- and where the master may roll, the digest takes one more id
  pub may_listed : may_roll d 2 ≡ true → l.closed + 2 ≤ c.segment / 32
  may_listed is =
      let all = sym may_is ∙ is in
      let outer = and_parts (nat_le (l.closed + 1 + 1) (c.segment / 32)
      && nat_le (l.closed + 1 + 1) (c.segment / 32 - 1 - 1 + 1))
      (nat_le ((2 - 0) * (c.segment / c.seglet) + div_ceil l.len c.seglet)
      (c.seglets - (c.segment / c.seglet + l.used))) all in
      let inner = and_parts (nat_le (l.closed + 1 + 1) (c.segment / 32))
      (nat_le (l.closed + 1 + 1) (c.segment / 32 - 1 - 1 + 1)) outer.0 in
      let le = leb-true _ _ inner.0 in omega arith
