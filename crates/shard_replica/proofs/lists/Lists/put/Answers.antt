use Rattle.std.proofs.Common.{◌≡◌, ℕ, ◌<◌, List, length, map, sym, ap, ◌∙◌, subst, arith}
use Rattle.log_model.specs.Storage.{entry_in}
use Rattle.shard_replica.specs.Lists.{Listed, Segment, segment_of, segment_at, no_segment}
use Rattle.shard_replica.specs.Journals.{no_journal, journal_at}
use Rattle.std.specs.Prelude.{is_err, slice_set}
use Rattle.std.proofs.lemmas.List.{length-map, map-set}
use Rattle.shard_replica.specs.Lists.{Medium, HoldsRecords, PutsAt, medium_of, medium_at, no_medium, after_put}
use Rattle.shard_replica.proofs.Putting.{mapped-at, all-set, length-seen, item-at, held-at, seen-at, seen-set, length-spelled, holds-after, segment-after, media-after}
use Rattle.shard_replica.proofs.lists.Lists.put.Goals as goal

pub put-requires-clause-size : goal.put-requires-clause-size
put-requires-clause-size g c = let size = length-spelled c.args.payload.now c.requires.spelled in omega (arith, size.1)

pub put-requires-clause-few : goal.put-requires-clause-few
put-requires-clause-few g c =
    let items = c.self.inside.journals.items in
    let at = c.args.segment.0 in
    let seen : map (λ j. segment_of (g.J.Journal.state j)) items ≡ c.args.self.now.segments = ap (λ (l : Listed). l.segments) c.self.view_is in
    let lt : at < length items = subst (λ (n : ℕ). at < n) (sym (length-seen _ items _ seen)) c.requires.segment in
    let is = item-at items c.from.result at c.index_mut.result.now c.from.ensures c.index_mut.ensures.value in
    let holds = held-at (λ j. g.J.Journal.state j) items at c.index_mut.result.now no_journal lt is c.self.invariant.hold in
    omega (arith, holds.first, holds.records.few)

pub invariant_of-self : goal.invariant_of-self
invariant_of-self g c =
    let items = c.self.inside.journals.items in
    let at = c.args.segment.0 in
    let seen : map (λ j. segment_of (g.J.Journal.state j)) items ≡ c.args.self.now.segments = ap (λ (l : Listed). l.segments) c.self.view_is in
    let lt : at < length items = subst (λ (n : ℕ). at < n) (sym (length-seen _ items _ seen)) c.requires.segment in
    let is = item-at items c.from.result at c.index_mut.result.now c.from.ensures c.index_mut.ensures.value in
    let holds = held-at (λ j. g.J.Journal.state j) items at c.index_mut.result.now no_journal lt is c.self.invariant.hold in
    let old = g.J.Journal.state c.index_mut.result.now in
    let same = seen-at (λ j. segment_of (g.J.Journal.state j)) items c.args.self.now.segments at c.index_mut.result.now no_segment seen lt is in
    let few : length old.payloads < 16384 =
    subst (λ (n : ℕ). n < 16384) (ap (λ (s : Segment). length s.entries) same ∙ length-map old.payloads entry_in) c.requires.few in
    let running = sym (ap (λ (s : Segment). s.halted) same) ∙ c.requires.running in
    let new = holds-after c.put.result old (g.J.Journal.state c.put.new.self) c.args.payload.now holds c.requires.spelled few running c.put.ensures.ok c.put.ensures.err in
    record {
      hold = subst (λ (k : ℕ). (n : ℕ) → HoldsRecords (journal_at (map (λ j. g.J.Journal.state j) (slice_set items k c.put.new.self)) n)) (sym c.from.ensures)
          (all-set (λ j. g.J.Journal.state j) items at c.put.new.self no_journal lt c.self.invariant.hold new);
      read = tt;
    }

pub returns-clause-segments : goal.returns-clause-segments
returns-clause-segments g c =
    let items = c.self.inside.journals.items in
    let at = c.args.segment.0 in
    let seen : map (λ j. segment_of (g.J.Journal.state j)) items ≡ c.args.self.now.segments = ap (λ (l : Listed). l.segments) c.self.view_is in
    let lt : at < length items = subst (λ (n : ℕ). at < n) (sym (length-seen _ items _ seen)) c.requires.segment in
    let is = item-at items c.from.result at c.index_mut.result.now c.from.ensures c.index_mut.ensures.value in
    let holds = held-at (λ j. g.J.Journal.state j) items at c.index_mut.result.now no_journal lt is c.self.invariant.hold in
    let after = segment-after c.put.result (g.J.Journal.state c.index_mut.result.now) (g.J.Journal.state c.put.new.self) c.args.payload.now c.put.ensures.ok c.put.ensures.err in
    let set_there = seen-set (λ j. segment_of (g.J.Journal.state j)) items at c.index_mut.result.now c.put.new.self no_segment
    (λ s. after_put s (entry_in c.args.payload.now) (is_err c.put.result)) lt is after in
    subst (λ (k : ℕ). map (λ j. segment_of (g.J.Journal.state j)) (slice_set items k c.put.new.self)
    ≡ slice_set c.args.self.now.segments at (after_put (segment_at c.args.self.now.segments at) (entry_in c.args.payload.now) (is_err c.put.result))) (sym c.from.ensures)
    (subst (λ (ss : List Segment). map (λ j. segment_of (g.J.Journal.state j)) (slice_set items at c.put.new.self)
    ≡ slice_set ss at (after_put (segment_at ss at) (entry_in c.args.payload.now) (is_err c.put.result))) seen set_there)

pub returns-clause-media : goal.returns-clause-media
returns-clause-media g c =
    let items = c.self.inside.journals.items in
    let at = c.args.segment.0 in
    let seen : map (λ j. segment_of (g.J.Journal.state j)) items ≡ c.args.self.now.segments = ap (λ (l : Listed). l.segments) c.self.view_is in
    let lt : at < length items = subst (λ (n : ℕ). at < n) (sym (length-seen _ items _ seen)) c.requires.segment in
    let is = item-at items c.from.result at c.index_mut.result.now c.from.ensures c.index_mut.ensures.value in
    let holds = held-at (λ j. g.J.Journal.state j) items at c.index_mut.result.now no_journal lt is c.self.invariant.hold in
    let told : g.row.J.Denot → Medium = λ j. medium_of (g.J.Journal.state j) (g.J.Journal.faults j) (g.J.Journal.keeps_synced j) (g.J.Journal.turns j) in
    let media : map told items ≡ c.args.self.now.media = ap (λ (l : Listed). l.media) c.self.view_is in
    let old : medium_at (map told items) at ≡ told c.index_mut.result.now = mapped-at told items at c.index_mut.result.now no_medium lt is in
    let puts = media-after (map told items) at (told c.index_mut.result.now) (told c.put.new.self) c.put.result
    (subst (λ (n : ℕ). at < n) (sym (length-map items told)) lt) old c.put.ensures.cause c.put.ensures.keeps c.put.ensures.turn in
    subst (λ (k : ℕ). PutsAt at (is_err c.put.result) c.args.self.now.media (map told (slice_set items k c.put.new.self))) (sym c.from.ensures)
    (subst (λ (ms : List Medium). PutsAt at (is_err c.put.result) ms (map told (slice_set items at c.put.new.self))) media
    (subst (λ (ms : List Medium). PutsAt at (is_err c.put.result) (map told items) ms) (sym (map-set told items at c.put.new.self)) puts))
