use Rattle.std.proofs.Common.{◌≡◌, ◌++◌, [], ◌∙◌, ◌<◌, ℕ, List, length, sym, ap, subst, arith}
use Rattle.std.specs.List.{AllByRecursion}
use Rattle.std.specs.Prelude.{slice_index}
use Rattle.std.proofs.lemmas.List.{append-nil}
use Rattle.event_letters.specs.Letters.{HasSpace}
use Rattle.history_frame.specs.declared.events.Sent.{Sent}
use Rattle.log_base.specs.Shape.{shape}
use Rattle.node_model.specs.StorageNode.{member_of}
use Rattle.node_model.specs.StorageRow.{copies}
use Rattle.peer_copy.specs.declared.span.Span.{Span}
use Rattle.peer_copy.specs.Copying.{offsets_of, span_of_note}
use Rattle.shard_replica.specs.Lists.{segment_at}
use Rattle.shard_replica.specs.Replica.{own_entries}
use Rattle.storage_node.specs.Preparing.{IsLetter, sizes_of}
use Rattle.storage_node.proofs.Sounding.{own-within}
use Rattle.storage_node.proofs.Spaces.{space-none}
use Rattle.storage_node.proofs.Telling.{copies-is, note-within}
use Rattle.storage_node.proofs.node.StorageNode.prepare_copied.Goals as goal

pub make_copies-requires-clause-span : goal.make_copies-requires-clause-span
make_copies-requires-clause-span g c = λ some.
    let own = ap (λ (k : ℕ). length (segment_at c.self.inside.replica.state.segments k).entries) (sym c.self.invariant.replica.own_is) in
    let within = note-within c.windows-acked.result.from c.args.held c.len-len.result
    (subst (λ (s : Span). s.from < s.to) c.span_after-span.ensures some) in
    let to = ap (λ (s : Span). s.to) c.span_after-span.ensures in
    omega (arith, within, to, c.len-len.ensures.len, own)

pub returns-clause-ready : goal.returns-clause-ready
returns-clause-ready g c = λ place index.
    let state = c.self.inside.replica.state in
    let config = shape c.self.inside.seat.config in
    let within = own-within _ _ _ _ _ _ c.self.inside.seat.own_in c.self.invariant in
    let all = copies config (member_of config c.self.inside.seat.shard.0 c.self.inside.seat.own.0) (own_entries state) c.args.peer.0 (offsets_of c.span_after-span.result) in
    let made = c.in_ok-make_copies.ensures.made in
    let items : c.make_copies.new.made.copies.items ≡ all = made.copies ∙ ap (λ (l : List Sent). l ++ all) c.clear.ensures.items in
    let acked = ap (λ (s : Span). s.from) c.windows-acked.ensures in
    let len : c.len-len.result ≡ length (own_entries state) = c.len-len.ensures.len ∙ ap (λ (k : ℕ). length (segment_at state.segments k).entries) (sym c.self.invariant.replica.own_is) in
    let span : c.span_after-span.result ≡ span_of_note (slice_index state.copying.acked c.args.peer.0) c.args.held (length (own_entries state)) =
    c.span_after-span.ensures ∙ ap (λ (n : ℕ). span_of_note n c.args.held c.len-len.result) acked
    ∙ ap (λ (n : ℕ). span_of_note (slice_index state.copying.acked c.args.peer.0) c.args.held n) len in
    let room = made.space [] (space-none c.self.inside.made.letters c.args.out.now.rooms) in
    record {
      copies = items ∙ copies-is config c.self.inside.seat.shard.0 c.self.inside.seat.own.0 state c.args.peer.0 c.args.held c.span_after-span.result c.self.invariant.replica within.1 span;
      letters = subst (λ (l : List Sent). AllByRecursion IsLetter l) (sym items) made.letters;
      space = subst (λ (l : List Sent). HasSpace c.make_copies.new.made.letters c.make_copies.new.out.rooms (sizes_of l ++ [])) (sym items)
          (subst (λ (l : List ℕ). HasSpace c.make_copies.new.made.letters c.make_copies.new.out.rooms l) (sym (append-nil (sizes_of all))) room);
      memory = tt;
    }
