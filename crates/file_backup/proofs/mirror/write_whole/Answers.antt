use Rattle.std.proofs.Common.{◌≡◌, ℕ, List, [], Some, Vec, sym, ◌∙◌, ap, subst, arith}
use Rattle.std.specs.declared.alloc.Global.{Global}
use Rattle.take_journal.specs.Crash.{HasVersion}
use Rattle.take_journal.specs.Frames.{recovered, texts_of}
use Rattle.take_journal.specs.Journal.{device_of}
use Rattle.file_backup.specs.Replay.{Replicas, held_in, shown}
use Rattle.file_backup.proofs.Makes.{counted_texts, crash_in_making, crash_in_opening, journal_of_texts}
use Rattle.file_backup.proofs.Makes.{none_recovered, untouched}
use Rattle.file_backup.proofs.mirror.write_whole.Goals as goal

pub returns-in_default-clause-any_moment : goal.returns-in_default-clause-any_moment
returns-in_default-clause-any_moment g c =
    untouched g.D.Device.clock g.D.Device.left_since
    (held_in c.args.memory.now) g.D.Device.may_leave g.met.D.Device.just_now
    (device_of c.args.journal.now) c.requires.durable

pub returns-in-Err-clause-any_moment : goal.returns-in-Err-clause-any_moment
returns-in-Err-clause-any_moment g c =
    crash_in_opening g.D.Device.clock g.D.Device.left_since (held_in c.args.memory.now) (device_of c.args.journal.now)
    (device_of c.open.new.self) c.open.ensures.any_moment

pub returns-in-Ok-append_all-clause-whole : goal.returns-in-Ok-append_all-clause-whole
returns-in-Ok-append_all-clause-whole g c =
    let p : Replicas = held_in c.args.memory.now in
    let mid = c.open.new.self in
    let before : List (List ℕ) = recovered (g.D.Device.contents (device_of mid)) in
    let none : before ≡ [] = c.in_default-open.ensures.opened.texts_are ∙ none_recovered in
    let has : HasVersion (texts_of c.deref.result.now) =
    subst (λ (ts : List (Vec ℕ Global)). HasVersion (texts_of ts))
    (sym c.deref.ensures.value) c.in-Ok.ensures.version in
    let shows : shown (texts_of c.deref.result.now) ≡ Some p =
    ap (λ (ts : List (Vec ℕ Global)). shown (texts_of ts)) c.deref.ensures.value ∙ c.in-Ok.ensures.shown in
    journal_of_texts g.D.Device.contents g.D.Device.may_leave g.D.Device.has_failed p before
    (texts_of c.deref.result.now)
    c.append_all.new.self c.in-Ok-append_all.ensures.acknowledged.1 none shows has

pub returns-in-Ok-append_all-clause-any_moment : goal.returns-in-Ok-append_all-clause-any_moment
returns-in-Ok-append_all-clause-any_moment g c =
    let p : Replicas = held_in c.args.memory.now in
    let mid = c.open.new.self in
    let before : List (List ℕ) = recovered (g.D.Device.contents (device_of mid)) in
    let none : before ≡ [] = c.in_default-open.ensures.opened.texts_are ∙ none_recovered in
    let has : HasVersion (texts_of c.deref.result.now) =
    subst (λ (ts : List (Vec ℕ Global)). HasVersion (texts_of ts))
    (sym c.deref.ensures.value) c.in-Ok.ensures.version in
    let shows : shown (texts_of c.deref.result.now) ≡ Some p =
    ap (λ (ts : List (Vec ℕ Global)). shown (texts_of ts)) c.deref.ensures.value ∙ c.in-Ok.ensures.shown in
    crash_in_making g.D.Device.clock g.D.Device.left_since p before (texts_of c.deref.result.now)
    (device_of c.args.journal.now) (device_of mid) (device_of c.append_all.new.self) none shows has
    c.open.ensures.any_moment (c.append_all.ensures.any_moment c.in_default-open.ensures.opened.ready)

pub returns-clause-any_moment : goal.returns-clause-any_moment
returns-clause-any_moment g c =
    let p : Replicas = held_in c.args.memory.now in
    let mid = c.open.new.self in
    let before : List (List ℕ) = recovered (g.D.Device.contents (device_of mid)) in
    let none : before ≡ [] = c.in_default-open.ensures.opened.texts_are ∙ none_recovered in
    let has : HasVersion (texts_of c.deref.result.now) =
    subst (λ (ts : List (Vec ℕ Global)). HasVersion (texts_of ts))
    (sym c.deref.ensures.value) c.in-Ok.ensures.version in
    let shows : shown (texts_of c.deref.result.now) ≡ Some p =
    ap (λ (ts : List (Vec ℕ Global)). shown (texts_of ts)) c.deref.ensures.value ∙ c.in-Ok.ensures.shown in
    crash_in_making g.D.Device.clock g.D.Device.left_since p before (texts_of c.deref.result.now)
    (device_of c.args.journal.now) (device_of mid) (device_of c.append_all.new.self) none shows has
    c.open.ensures.any_moment (c.append_all.ensures.any_moment c.in_default-open.ensures.opened.ready)

pub returns-in-Ok-append_all-clause-counted : goal.returns-in-Ok-append_all-clause-counted
returns-in-Ok-append_all-clause-counted g c =
    let before : List (List ℕ) = recovered (g.D.Device.contents (device_of c.open.new.self)) in
    let none : before ≡ [] = c.in_default-open.ensures.opened.texts_are ∙ none_recovered in
    let all = counted_texts c.in-Ok.texts.items c.deref.result.now c.deref.ensures.value before
    (recovered (g.D.Device.contents (device_of c.append_all.new.self))) none
    c.in-Ok-append_all.ensures.acknowledged.1.texts_are in
    omega (arith, c.len.ensures, c.in-Ok.texts.ok.0, all)
