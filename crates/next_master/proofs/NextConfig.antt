-- The configuration of a master that starts later.
use Rattle.std.proofs.Common.{◌≡◌, ◌⊎◌, ◌<◌, ◌≤◌, ◌∙◌, ℕ, Bool, true, false, refl, sym, ap, inl, inr}
use Rattle.std.specs.Prelude.{Option, Some, None, not, ◌*◌, ◌/◌, ◌&&◌, ◌||◌, is_none, if◌then◌else◌}
use Rattle.std.proofs.lemmas.Bool.{le-leb, eq-eqb, ne_eqb}
use Rattle.command_line.specs.declared.settings.Options.{Options}
use Rattle.entry.specs.Format.{is_within}
use Rattle.packing.specs.Limits.{is_limit}
use Rattle.cluster.specs.master.master_state.declared.config.Config.{Config}
use Rattle.cluster.specs.master.master_state.declared.config.ConfigFault.{ConfigFault}
use Rattle.cluster.specs.master.master_state.declared.config.ConfigFault.TheVariants.{BadBackups, BadStep, BadSegment}
use Rattle.cluster.specs.master.master_state.declared.config.ConfigFault.TheVariants.{BadSeglet}
use Rattle.cluster.specs.master.master_state.declared.config.ConfigFault.TheVariants.{BadBudget, BadTablets, BadHistory}
use Rattle.cluster.specs.master.master_state.declared.config.ConfigFault.TheVariants.{BadFormat}
use Rattle.cluster.specs.master.master_state.declared.config.ConfigFault.TheVariants.{BadLive}
use Rattle.cluster.specs.master.master_state.Config.{config_fault, has_backups, has_budget, has_format, has_history}
use Rattle.cluster.specs.master.master_state.Config.{has_live}
use Rattle.cluster.specs.master.master_state.Config.{has_seglet, has_segment, has_step, has_tablets}
use Rattle.cluster.specs.master.master_state.Config.{sizes_of as sizes_of_config}
use Rattle.cluster.proofs.of_master.master_state.Refusals.{sizes_of}
use Rattle.next_master.specs.Configuration.{config_of, later_format, later_options, later_seglets, AreSizes}
use Rattle.next_master.specs.Configuration.{MayBegin}
use Rattle.next_master.specs.declared.later.Later.{Later}
use Rattle.cluster.specs.Found.{IsNextConfig}

-- of the same format or of format 2, with any seglets, and otherwise of the same options
pub next_config_is : (later : Later) (options : Options) (master : ℕ) (config : Config)
    → config ≡ config_of (later_options later options) config.master → master < config.master
    → IsNextConfig (config_of options master) config
next_config_is later options master config is above =
    (above, which later.lists_lengths later.seglets is, is ∙ same)
  where
    which : (l : Bool) (s : Option ℕ)
        → config ≡ config_of (record options {
          format = later_format l options.format;
          seglets = later_seglets s options.seglets;
        }) config.master
        → (config.format ≡ options.format) ⊎ (config.format ≡ 2)
    which true s made = inr (ap (λ (c : Config). c.format) made)
    which false s made = inl (ap (λ (c : Config). c.format) made)

    same : config_of (later_options later options) config.master
        ≡ record (config_of options master) {
          master = config.master;
          format = config.format;
          seglets = config.seglets;
        }
    same = λ i. record (config_of options config.master) {
      format = sym (ap (λ (c : Config). c.format) is) i;
      seglets = sym (ap (λ (c : Config). c.seglets) is) i;
    }

-- what is asked for a second time is asked for once
pub later_twice : (later : Later) (options : Options)
    → later_options later (later_options later options) ≡ later_options later options
later_twice later options = λ i. record options {
  format = formats later.lists_lengths options.format i;
  seglets = counts later.seglets options.seglets i;
} where
  formats : (l : Bool) (n : ℕ) → later_format l (later_format l n) ≡ later_format l n
  formats true n = refl
  formats false n = refl

  counts : (s : Option ℕ) (n : ℕ) → later_seglets s (later_seglets s n) ≡ later_seglets s n
  counts (Some later) n = refl
  counts None n = refl

-- ---- within the limits

-- the first of these tests that fails
abbrev first_fault : Bool → Bool → Bool → Bool → Bool → Bool → Bool → Bool → Bool → Option ConfigFault
first_fault backups step seglet segment budget tablets history format live =
    if not backups then Some BadBackups
    else if not step then Some BadStep
    else if not seglet then Some BadSeglet
    else if not segment then Some BadSegment
    else if not budget then Some BadBudget
    else if not tablets then Some BadTablets
    else if not history then Some BadHistory
    else if not format then Some BadFormat
    else if not live then Some BadLive
    else None

-- If none fails, none fails with other memory just if that has its seglets, and leaves room for the live bytes.
other_memory : (a b c d e f g h i budget format live : Bool) → (h ≡ true → format ≡ true)
    → first_fault a b c d e f g h i ≡ None
    → is_none (first_fault a b c d budget f g format live) ≡ (budget && live)
other_memory false b c d e f g h i budget format live kept is = absurd (cc)
other_memory true false c d e f g h i budget format live kept is = absurd (cc)
other_memory true true false d e f g h i budget format live kept is = absurd (cc)
other_memory true true true false e f g h i budget format live kept is = absurd (cc)
other_memory true true true true false f g h i budget format live kept is = absurd (cc)
other_memory true true true true true false g h i budget format live kept is = absurd (cc)
other_memory true true true true true true false h i budget format live kept is = absurd (cc)
other_memory true true true true true true true false i budget format live kept is = absurd (cc)
other_memory true true true true true true true true i false format live kept is = refl
other_memory true true true true true true true true i true format live kept is =
    ap (λ (x : Bool). is_none (first_fault true true true true true true true x live)) (kept refl) ∙ last live
  where
    last : (x : Bool) → is_none (first_fault true true true true true true true true x) ≡ x
    last true = refl
    last false = refl

format_kept : (l : Bool) (n : ℕ) → is_within 1 2 n ≡ true → is_within 1 2 (later_format l n) ≡ true
format_kept true n is = refl
format_kept false n is = is

-- of later masters the memory alone has to be tested
pub later_tested : (later : Later) (options : Options) → config_fault (config_of options 1) ≡ None
    → is_none (config_fault (config_of (later_options later options) 1))
    ≡ (has_budget (config_of (later_options later options) 1) && has_live (config_of (later_options later options) 1))
later_tested later options is =
    let c = config_of options 1 in
    let n = config_of (later_options later options) 1 in
    other_memory (has_backups c) (has_step c) (has_seglet c) (has_segment c) (has_budget c) (has_tablets c)
    (has_history c) (has_format c) (has_live c) (has_budget n) (has_format n) (has_live n)
    (format_kept later.lists_lengths options.format) is

module _ (o : Options) (low : 4 * (o.segment / o.seglet) ≤ o.seglets) (high : o.seglets ≤ 4294967296) where
  budget : has_budget (config_of o 1) ≡ true
  budget = λ i. le-leb (4 * (o.segment / o.seglet)) o.seglets low i && le-leb o.seglets 4294967296 high i

  -- without a limit of live bytes the memory is tested alone
  pub has_no_limit : o.live ≡ 18446744073709551615
      → true ≡ (has_budget (config_of o 1) && has_live (config_of o 1))
  unfolding has_live
  has_no_limit none = sym (λ i. budget i
      && (eq-eqb o.live 18446744073709551615 none i || is_limit (sizes_of_config (config_of o 1)) o.largest o.live))

  -- with one it has to leave room
  pub has_limit : (o.live ≡ 18446744073709551615 → ⊥)
      → is_limit (sizes_of_config (config_of o 1)) o.largest o.live
      ≡ (has_budget (config_of o 1) && has_live (config_of o 1))
  unfolding has_live
  has_limit some = sym (λ i. budget i
      && (ne_eqb o.live 18446744073709551615 some i || is_limit (sizes_of_config (config_of o 1)) o.largest o.live))

none_of : {X : Type 0} (o : Option X) → is_none o ≡ true → o ≡ None
none_of None is = refl
none_of (Some x) is = absurd (cc)

-- a test that answers as these two do tells whether they are within their limits
pub may_begin : {X : Type 0} (o : Option X) (tested result : Bool) → is_none o ≡ tested → result ≡ tested
    → (result ≡ true → o ≡ None) × (o ≡ None → result ≡ true)
may_begin o tested result is answers =
    (λ yes. none_of o (is ∙ sym answers ∙ yes), λ none. answers ∙ sym is ∙ ap is_none none)

-- whether a configuration is within its limits doesn't depend on the master's number
pub checked_as : (options : Options) (one other : ℕ) → config_fault (config_of options one) ≡ None
    → config_fault (config_of options other) ≡ None
unfolding has_live
checked_as options one other is = is

-- a configuration by the options of later masters is within its limits
pub checked_later : (later : Later) (options : Options) (config : Config)
    → config ≡ config_of (later_options later options) config.master → MayBegin later options
    → config_fault config ≡ None
checked_later later options config is may =
    ap config_fault is ∙ checked_as (later_options later options) 1 config.master may

-- the sizes of segments and seglets of later masters are those of the options
pub later_sizes : (later : Later) (options : Options) → config_fault (config_of options 1) ≡ None
    → AreSizes (later_options later options)
later_sizes later options is =
    let sizes = sizes_of (config_of options 1) is in
    record {
      seglet = sizes.least_seglet;
      most_seglet = sizes.most_seglet;
      segment = sizes.least_segment;
      most_segment = sizes.most_segment;
    }
