-- Why a failover may seal a segment's image: a replica may have anything between the segment's image and its text.
use Rattle.std.specs.Prelude.{ℕ, ◌≤◌, ◌⊎◌, List}
use Rattle.entry.specs.declared.key.Key.{Key}
use Rattle.entry.specs.declared.entry.Entry.{Entry}
use Rattle.entry.specs.Bag.{IsAmong}
use Rattle.entry.specs.Meaning.{IsOfKey}
use Rattle.versioned_map.specs.Represents.{Represents}
use Rattle.versioned_map.specs.Versioned.{State}
use Rattle.log_laws.specs.Memory.{Place, Index, LogSet, Pass}
use Rattle.log_laws.specs.Tracked.{IsTracked, IsPassing, IsAround}
use Rattle.log_laws.specs.Log.{Texts, IsVariant, IsBase}

-- Each variant of these segments has all objects and tombstones of the image, and no others than those of the text.
pub record AreBetween (log : LogSet) (texts : Texts) (ids : List ℕ) : Type 0 where
  pub counts : (s : ℕ) → IsAmong s ids → IsAmong s log.ids
  pub image : (s : ℕ) (es : List Entry) (k : Key) (e : Entry) → IsAmong s ids → IsVariant texts s es → IsOfKey k e
      → IsAmong e (log.image s) → IsAmong e es
  pub text : (s : ℕ) (es : List Entry) (k : Key) (e : Entry) → IsAmong s ids → IsVariant texts s es → IsOfKey k e
      → IsAmong e es → IsAmong e (log.text s)

-- These are all segments of the log set, but for survivors of the open pass, and for segments whose images have no
-- objects and tombstones. All victims are among them.
pub record AreAll (log : LogSet) (pass : Pass) (ids : List ℕ) : Type 0 where
  pub rest : (s : ℕ) → IsAmong s log.ids → IsAmong s ids ⊎ (IsAmong s pass.survivors
      ⊎ ((k : Key) (e : Entry) → IsOfKey k e → IsAmong e (log.image s) → ⊥))
  pub victims : (s : ℕ) → IsAmong s pass.victims → IsAmong s ids

-- ---- laws

-- While memory is tracked, variants of all segments that lie between image and text represent the present state, while
-- a pass is open too.
abbrev pub BetweenStands : Type 0
BetweenStands = (log : LogSet) (pass : Pass) (index : Index) (rest : List Place) (st : State) (next recorded : ℕ)
    (texts : Texts) (ids : List ℕ) (base : List Entry) → IsTracked log pass index st.contents
    → IsPassing log.ids log.image pass index rest → IsAround log pass st.contents st.safe next
    → AreBetween log texts ids → AreAll log pass ids → st.safe ≤ recorded → IsBase texts ids base
    → Represents recorded base st
