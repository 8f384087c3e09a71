use Rattle.std.proofs.Common.{◌≡◌, ℕ, subst, sym, rules}
use Rattle.std.specs.Prelude.{IfOk}
use Rattle.std.proofs.Math.Seq.{of_parts}
use Rattle.images.proofs.Copies.{places_rise, entry_is, data_is, len_here, copied_is, room_here, set_part}
use Rattle.images.proofs.copying.copy_entry.Goals as goal

pub bounds-earlier-source : goal.bounds-earlier-source
bounds-earlier-source c =
    let cut = c.split_at_mut-earlier in
    rw cut.ensures.front_len (places_rise c.args.images.now c.args.from c.args.to c.in-Some.source
    c.in-Some-place_of.target c.requires.rising
    c.in-Some.ensures.found c.in-Some-place_of.ensures.found c.requires.order)

pub append_copy-requires-clause-data : goal.append_copy-requires-clause-data
append_copy-requires-clause-data c =
    let cut = c.split_at_mut-earlier in
    data_is c.args.images.now c.args.from c.args.to c.in-Some.source c.in-Some-place_of.target c.requires.rising
    c.in-Some.ensures.found c.in-Some-place_of.ensures.found cut.result.0.now cut.result.1.now
    cut.ensures.front cut.ensures.back
    c.index-earlier-source.result c.index-later-0.result c.args.at c.args.len c.requires.order c.requires.data

pub returns-clause-place : goal.returns-clause-place
returns-clause-place c =
    let cut = c.split_at_mut-earlier in
    let len = len_here c.args.images.now c.args.from c.args.to c.in-Some.source
    c.in-Some-place_of.target c.requires.rising
    c.in-Some.ensures.found c.in-Some-place_of.ensures.found cut.result.0.now cut.result.1.now
    cut.ensures.front cut.ensures.back
    c.index-earlier-source.result c.index-later-0.result in
    subst (λ (n : ℕ). IfOk c.append_copy.result (λ (at : ℕ). at ≡ n)) (sym len) c.append_copy.ensures.place

pub returns-clause-full : goal.returns-clause-full
returns-clause-full c =
    let cut = c.split_at_mut-earlier in
    let entry = entry_is c.args.images.now c.args.from c.args.to c.in-Some.source
    c.in-Some-place_of.target c.requires.rising
    c.in-Some.ensures.found c.in-Some-place_of.ensures.found cut.result.0.now cut.result.1.now
    cut.ensures.front cut.ensures.back
    c.index-earlier-source.result c.index-later-0.result c.args.at c.requires.order in
    let len = len_here c.args.images.now c.args.from c.args.to c.in-Some.source
    c.in-Some-place_of.target c.requires.rising
    c.in-Some.ensures.found c.in-Some-place_of.ensures.found cut.result.0.now cut.result.1.now
    cut.ensures.front cut.ensures.back
    c.index-earlier-source.result c.index-later-0.result in
    rw (entry, len) c.append_copy.ensures.full

pub returns-clause-ok : goal.returns-clause-ok
returns-clause-ok c =
    let cut = c.split_at_mut-earlier in
    let entry = entry_is c.args.images.now c.args.from c.args.to c.in-Some.source
    c.in-Some-place_of.target c.requires.rising
    c.in-Some.ensures.found c.in-Some-place_of.ensures.found cut.result.0.now cut.result.1.now
    cut.ensures.front cut.ensures.back
    c.index-earlier-source.result c.index-later-0.result c.args.at c.requires.order in
    rw entry (copied_is c.args.images.now c.args.from c.args.to c.in-Some.source
    c.in-Some-place_of.target c.requires.rising
    c.in-Some.ensures.found c.in-Some-place_of.ensures.found cut.result.0.now cut.result.1.now
    cut.ensures.front cut.ensures.back
    c.index-earlier-source.result c.index-later-0.result _ c.append_copy.result c.append_copy.new.target _
    (search (rules, of_parts, set_part)) c.append_copy.ensures.ok)

pub append_copy-requires-clause-room : goal.append_copy-requires-clause-room
append_copy-requires-clause-room c =
    let cut = c.split_at_mut-earlier in
    room_here c.args.images.now c.args.from c.args.to c.in-Some.source
    c.in-Some-place_of.target c.requires.rising
    c.in-Some.ensures.found c.in-Some-place_of.ensures.found cut.result.0.now cut.result.1.now
    cut.ensures.front cut.ensures.back
    c.index-earlier-source.result c.index-later-0.result c.args.limit c.requires.room
