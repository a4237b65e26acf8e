use Rattle.std.proofs.Common.{◌≡◌, ℕ, ◌<◌, length, map, Some, sym, ap, subst, arith}
use Rattle.std.specs.Prelude.{slice_get}
use Rattle.log_model.specs.Storage.{entry_in}
use Rattle.shard_replica.specs.Lists.{Listed, Segment, segment_of, no_segment}
use Rattle.shard_replica.specs.Journals.{no_journal}
use Rattle.shard_replica.proofs.Putting.{length-seen, item-at, held-at, seen-at, payload-at}
use Rattle.shard_replica.proofs.lists.Lists.payload.Goals as goal

pub get-requires-clause-first : goal.get-requires-clause-first
get-requires-clause-first g c =
    let items = c.self.inside.journals.items in
    let at = c.args.segment.0 in
    let seen : map (λ j. segment_of (g.J.Journal.state j)) items ≡ c.args.self.now.segments = ap (λ (l : Listed). l.segments) c.self.view_is in
    let lt : at < length items = subst (λ (n : ℕ). at < n) (sym (length-seen _ items _ seen)) c.requires.segment in
    let is = item-at items c.from.result at c.index.result.now c.from.ensures c.index.ensures in
    let holds = held-at (λ j. g.J.Journal.state j) items at c.index.result.now no_journal lt is c.self.invariant.hold in
    omega (arith, holds.first)

pub returns-clause-entry : goal.returns-clause-entry
returns-clause-entry g c =
    let items = c.self.inside.journals.items in
    let at = c.args.segment.0 in
    let seen : map (λ j. segment_of (g.J.Journal.state j)) items ≡ c.args.self.now.segments = ap (λ (l : Listed). l.segments) c.self.view_is in
    let lt : at < length items = subst (λ (n : ℕ). at < n) (sym (length-seen _ items _ seen)) c.requires.segment in
    let is = item-at items c.from.result at c.index.result.now c.from.ensures c.index.ensures in
    let holds = held-at (λ j. g.J.Journal.state j) items at c.index.result.now no_journal lt is c.self.invariant.hold in
    let state = g.J.Journal.state c.index.result.now in
    subst (λ (s : Segment). slice_get s.entries c.args.offset ≡ Some (entry_in c.get.result.now))
    (sym (seen-at (λ j. segment_of (g.J.Journal.state j)) items c.args.self.now.segments at c.index.result.now no_segment seen lt is))
    (payload-at state c.args.offset c.get.result.now holds c.get.ensures.payload).0

pub returns-clause-spelled : goal.returns-clause-spelled
returns-clause-spelled g c =
    let items = c.self.inside.journals.items in
    let at = c.args.segment.0 in
    let seen : map (λ j. segment_of (g.J.Journal.state j)) items ≡ c.args.self.now.segments = ap (λ (l : Listed). l.segments) c.self.view_is in
    let lt : at < length items = subst (λ (n : ℕ). at < n) (sym (length-seen _ items _ seen)) c.requires.segment in
    let is = item-at items c.from.result at c.index.result.now c.from.ensures c.index.ensures in
    let holds = held-at (λ j. g.J.Journal.state j) items at c.index.result.now no_journal lt is c.self.invariant.hold in
    (payload-at (g.J.Journal.state c.index.result.now) c.args.offset c.get.result.now holds c.get.ensures.payload).1
