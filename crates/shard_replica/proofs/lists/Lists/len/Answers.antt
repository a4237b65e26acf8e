use Rattle.std.proofs.Common.{◌≡◌, ℕ, ◌<◌, length, map, sym, ap, subst}
use Rattle.shard_replica.specs.Lists.{Listed, Segment, segment_of, no_segment}
use Rattle.shard_replica.specs.Journals.{no_journal}
use Rattle.shard_replica.proofs.Putting.{length-seen, item-at, held-at, seen-at, length-entries}
use Rattle.shard_replica.proofs.lists.Lists.len.Goals as goal

pub returns-clause-len : goal.returns-clause-len
returns-clause-len g c =
    let items = c.self.inside.journals.items in
    let at = c.args.segment.0 in
    let seen : map (λ j. segment_of (g.J.Journal.state j)) items ≡ c.args.self.now.segments = ap (λ (l : Listed). l.segments) c.self.view_is in
    let lt : at < length items = subst (λ (n : ℕ). at < n) (sym (length-seen _ items _ seen)) c.requires in
    let is = item-at items c.from.result at c.index.result.now c.from.ensures c.index.ensures in
    let holds = held-at (λ j. g.J.Journal.state j) items at c.index.result.now no_journal lt is c.self.invariant.hold in
    let state = g.J.Journal.state c.index.result.now in
    subst (λ (s : Segment). c.len.result ≡ length s.entries)
    (sym (seen-at (λ j. segment_of (g.J.Journal.state j)) items c.args.self.now.segments at c.index.result.now no_segment seen lt is))
    (length-entries state c.len.result holds c.len.ensures.end).0

pub returns-clause-few : goal.returns-clause-few
returns-clause-few g c =
    let items = c.self.inside.journals.items in
    let at = c.args.segment.0 in
    let seen : map (λ j. segment_of (g.J.Journal.state j)) items ≡ c.args.self.now.segments = ap (λ (l : Listed). l.segments) c.self.view_is in
    let lt : at < length items = subst (λ (n : ℕ). at < n) (sym (length-seen _ items _ seen)) c.requires in
    let is = item-at items c.from.result at c.index.result.now c.from.ensures c.index.ensures in
    let holds = held-at (λ j. g.J.Journal.state j) items at c.index.result.now no_journal lt is c.self.invariant.hold in
    (length-entries (g.J.Journal.state c.index.result.now) c.len.result holds c.len.ensures.end).1
