-- The letters that tell how much a replica holds, and the rows that send what is on its way.
use Rattle.std.proofs.Common.{◌≡◌, ℕ, zero, suc, ◌+◌, ◌-◌, ◌*◌, ◌%◌, ◌<◌, ◌≤◌, Bool, true, false, cond, eqb, List, [], ◌∷◌, ◌++◌, replicate, length, Option, Some, None, refl, sym, ap, ◌∙◌, subst, arith, length-append}
use Rattle.std.specs.Prelude.{max, min, nat_lt, slice_get, slice_index}
use Rattle.std.specs.List.{AllByRecursion}
use Rattle.std.proofs.lemmas.List.{length-map, length-replicate}
use Rattle.reply_frame.specs.declared.replies.Reply.{Reply, Nothing}
use Rattle.reply_frame.specs.Replies.{reply_bytes}
use Rattle.history_frame.specs.declared.events.Sent.{Sent}
use Rattle.history_frame.specs.declared.inputs.Input.TheVariants.{Deliver, Tick}
use Rattle.history_frame.specs.declared.inputs.Mark.TheVariants.{Done}
use Rattle.log_base.specs.ClusterShape.{Shape}
use Rattle.log_base.specs.declared.numbers.Replica.{Replica as Peer}
use Rattle.log_model.specs.Storage.{Member, lengths_of, list_in, report_of}
use Rattle.message_frame.specs.declared.messages.Message.TheVariants.{CopyAck}
use Rattle.node_model.specs.Messages.{report_message, want_message}
use Rattle.node_model.specs.Nodes.{letter}
use Rattle.node_model.specs.StorageNode.{member_of as member_at}
use Rattle.node_model.specs.StorageRow.{copies, copy_letter, on_copied, on_tick, report, want, windows}
use Rattle.node_table.specs.Numbering.{gatherer_of, orderer_node, storage_node}
use Rattle.peer_copy.specs.declared.span.Span.{Span}
use Rattle.peer_copy.specs.Copying.{Copying, after_note, offsets_from, offsets_of, span_of_note, window_at}
use Rattle.record_frame.specs.declared.entries.Entry.{Entry}
use Rattle.record_frame.specs.declared.values.Lengths.{Lengths}
use Rattle.record_frame.specs.Values.{IsLengths}
use Rattle.shard_replica.specs.Lists.{Segment, no_segment, segment_at}
use Rattle.shard_replica.specs.Replica.{Replicated, ReplicaState, lists_of, member_of, own_entries}
use Rattle.shard_replica.proofs.Held.{list-of}
use Rattle.storage_node.specs.declared.node.Mode.{Mode}
use Rattle.storage_node.specs.declared.node.Mode.TheVariants.{Running}
use Rattle.history_frame.specs.declared.events.Effect.{Effect}
use Rattle.storage_node.specs.Preparing.{IsLetter, copies_for, copies_for_message}
use Rattle.storage_node.specs.StorageState.{IsFew, IsOf, IsSound, StorageState, config_of, lists_in, member_in, memory_of, mode_of}
use Rattle.storage_node.specs.Turning.{TurnsOut}
use Rattle.storage_node.proofs.Counting.{counts-same}
use Rattle.storage_node.proofs.Elements.{all-at}
use Rattle.storage_node.proofs.Rows.{as_node, turns-done}

-- a list has at most 16,384 entries
pub list-few : (state : ReplicaState) (k : ℕ) → k < length state.segments → AllByRecursion IsFew state.segments → length (list_in (lists_of state) k) ≤ 16384
list-few state k lt few =
    let here = all-at IsFew state.segments k no_segment few lt in
    let same : length (list_in (lists_of state) k) ≡ length (segment_at state.segments k).entries = ap (λ (es : List Entry). length es) (list-of state.segments k lt) in
    omega (arith, here, same)

-- ---- the lengths of a report

zeros-at : (n k : ℕ) → slice_index (replicate n 0) k ≡ 0
zeros-at zero k = refl
zeros-at (suc n) zero = refl
zeros-at (suc n) (suc k) = zeros-at n k

cells-at : (lists : List (List Entry)) (n k : ℕ) → slice_index (lengths_of lists ++ replicate n 0) k ≡ length (list_in lists k)
cells-at [] n k = zeros-at n k
cells-at (x ∷ xs) n zero = refl
cells-at (x ∷ xs) n (suc k) = cells-at xs n k

list-past : (lists : List (List Entry)) (k : ℕ) → length lists ≤ k → length (list_in lists k) ≡ 0
list-past [] k le = refl
list-past (x ∷ xs) zero le = absurd (omega arith)
list-past (x ∷ xs) (suc k) le = list-past xs k (omega arith)

pub report-lengths : (lists : List (List Entry)) → 1 ≤ length lists → length lists ≤ 5 → ((k : ℕ) → k < length lists → length (list_in lists k) ≤ 16384) → IsLengths 5 (report_of lists)
unfolding report_of
report-lengths lists some few small = record {
  some = some;
  count = few;
  cells = let zeros : List ℕ = replicate (32 - length lists) 0 in
      let size : length zeros ≡ 32 - length lists = length-replicate {A = ℕ} (32 - length lists) 0 in
      omega (arith, length-append (lengths_of lists) zeros, length-map lists (λ (es : List Entry). length es), size, few);
  small = λ k lt. let here = cells-at lists (32 - length lists) k in let le = small k lt in omega (arith, here, le);
  rest = λ k le. cells-at lists (32 - length lists) k ∙ list-past lists k le;
}

pub state-lengths : (state : ReplicaState) → 1 ≤ state.config.replicas → state.config.replicas ≤ 5 → length state.segments ≡ state.config.replicas → AllByRecursion IsFew state.segments
    → IsLengths 5 (report_of (lists_of state))
state-lengths state some few count small =
    let size : length (lists_of state) ≡ length state.segments = length-map state.segments (λ (s : Segment). s.entries) in
    report-lengths (lists_of state) (omega (arith, size, count, some)) (omega (arith, size, count, few)) (λ k lt. list-few state k (omega (arith, lt, size)) small)

-- ---- how many copies there are

length-offsets : (from count : ℕ) → length (offsets_from from count) ≡ count
length-offsets from zero = refl
length-offsets from (suc count) = ap suc (length-offsets (suc from) count)

one-copy : (config : Shape) (member : Member) (peer offset : ℕ) (entry : Option Entry) → length (copy_letter config member peer offset entry) ≤ 1
one-copy config member peer offset None = omega arith
one-copy config member peer offset (Some entry) = omega arith

length-copies : (config : Shape) (member : Member) (own : List Entry) (peer : ℕ) (offsets : List ℕ) → length (copies config member own peer offsets) ≤ length offsets
length-copies config member own peer [] = omega arith
length-copies config member own peer (offset ∷ offsets) =
    let one = one-copy config member peer offset (slice_get own offset) in
    let more = length-copies config member own peer offsets in
    omega (arith, one, more, length-append (copy_letter config member peer offset (slice_get own offset)) (copies config member own peer offsets))

span-copies : (config : Shape) (member : Member) (own : List Entry) (peer : ℕ) (span : Span) → span.to - span.from ≤ 4 → length (copies config member own peer (offsets_of span)) ≤ 4
span-copies config member own peer span le =
    let few = length-copies config member own peer (offsets_of span) in
    let size = length-offsets span.from (span.to - span.from) in
    omega (arith, few, size, le)

abbrev spanned : ℕ → ℕ → Span
spanned from to = record { from = from; to = to }

note-copies : (acked held len : ℕ) → (span_of_note acked held len).to - (span_of_note acked held len).from ≤ 4
note-copies acked held len = next (nat_lt acked held)
  where
    next : (b : Bool) → (cond b (spanned (max (acked + 4) held) (min (held + 4) len)) (spanned acked acked)).to
        - (cond b (spanned (max (acked + 4) held) (min (held + 4) len)) (spanned acked acked)).from ≤ 4
    next true = omega arith
    next false = omega arith

window-copies : (config : Shape) (member : Member) (own : List Entry) (copying : Copying) (peer : ℕ) (b : Bool)
    → length (cond b [] (copies config member own peer (offsets_of (window_at (slice_index copying.acked peer) (length own))))) ≤ 4
window-copies config member own copying peer true = omega arith
window-copies config member own copying peer false = span-copies config member own peer (window_at (slice_index copying.acked peer) (length own)) (omega arith)

length-windows : (config : Shape) (member : Member) (own : List Entry) (copying : Copying) (peer count : ℕ) → length (windows config member own copying peer count) ≤ 4 * count
length-windows config member own copying peer zero = omega arith
length-windows config member own copying peer (suc count) =
    let one = window-copies config member own copying peer (eqb peer member.own) in
    let more = length-windows config member own copying (suc peer) count in
    omega (arith, one, more, length-append (cond (eqb peer member.own) [] (copies config member own peer (offsets_of (window_at (slice_index copying.acked peer) (length own))))) (windows config member own copying (suc peer) count))

-- ---- the rows

-- a peer says how much it holds
pub turns-copied : (old new : StorageState) (place index : ℕ) (peer : Peer) (held : ℕ) (turn : Effect) → old.mode ≡ Running → new.mode ≡ Running → new.ticks ≡ old.ticks
    → new.replica.state ≡ record old.replica.state { copying = after_note old.replica.state.copying peer.0 held } → new.replica.media ≡ old.replica.media
    → old.copies ≡ copies_for_message old (CopyAck peer held) → AllByRecursion IsLetter old.copies
    → turn.mark ≡ Done → turn.outputs ≡ old.copies → turn.reply ≡ Nothing → TurnsOut old (Deliver place index (Some (CopyAck peer held))) turn new
unfolding on_copied
turns-copied old new place index peer held turn running runs ticks state media made letters mark outputs reply =
    let now : ReplicaState = record old.replica.state { copying = after_note old.replica.state.copying peer.0 held } in
    let own = list_in (lists_in old) old.replica.state.own in
    let few = span-copies (config_of old) (member_in old) own peer.0 (span_of_note (slice_index old.replica.state.copying.acked peer.0) held (length own)) (note-copies (slice_index old.replica.state.copying.acked peer.0) held (length own)) in
    let size : length turn.outputs ≤ 22 = subst (λ (l : List Sent). length l ≤ 22) (sym (outputs ∙ made)) (omega (arith, few)) in
    turns-done old new (Deliver place index (Some (CopyAck peer held))) (on_copied (config_of old) (member_in old) own (memory_of old.replica.state old.ticks) peer.0 held) turn running refl mark
    (ap (λ (m : Mode). as_node (lists_in new) (mode_of m new.replica.state new.ticks)) runs
    ∙ ap (λ (s : ReplicaState). as_node (lists_of s) (mode_of Running s new.ticks)) state
    ∙ ap (λ (n : ℕ). as_node (lists_of now) (mode_of Running now n)) ticks)
    (outputs ∙ made) reply (ap (λ (s : ReplicaState). s.config) state) (ap (λ (s : ReplicaState). member_of s) state)
    (record { few = size; letters = subst (λ (l : List Sent). AllByRecursion IsLetter l) (sym outputs) letters; reply = subst (λ (r : Reply). length (reply_bytes r) ≤ 65558) (sym reply) (omega arith) })
    tt (counts-same old.replica.media new.replica.media media)

-- time passes
pub turns-ticked : (old new : StorageState) (turn : Effect) → old.mode ≡ Running → new.mode ≡ Running → new.ticks ≡ old.ticks + 1 → new.replica ≡ old.replica
    → (config_of old).replicas ≤ 5 → old.copies ≡ copies_for old Tick → AllByRecursion IsLetter turn.outputs
    → turn.mark ≡ Done
    → turn.outputs ≡ old.copies ++ report (config_of old) (member_in old) (lists_in old) ∷ want (config_of old) (member_in old) (memory_of old.replica.state old.ticks) ∷ []
    → turn.reply ≡ Nothing → TurnsOut old Tick turn new
unfolding on_tick
turns-ticked old new turn running runs ticks replica five made letters mark outputs reply =
    let own = list_in (lists_in old) old.replica.state.own in
    let rest : List Sent = report (config_of old) (member_in old) (lists_in old) ∷ want (config_of old) (member_in old) (memory_of old.replica.state old.ticks) ∷ [] in
    let all = outputs ∙ ap (λ (l : List Sent). l ++ rest) made in
    let few = length-windows (config_of old) (member_in old) own old.replica.state.copying 0 (config_of old).replicas in
    let size : length turn.outputs ≤ 22 = subst (λ (l : List Sent). length l ≤ 22) (sym all) (omega (arith, few, five, length-append (copies_for old Tick) rest)) in
    let next : old.ticks + 1 ≡ suc old.ticks = omega arith in
    turns-done old new Tick (on_tick (config_of old) (member_in old) (lists_in old) (memory_of old.replica.state old.ticks)) turn running refl mark
    (ap (λ (m : Mode). as_node (lists_in new) (mode_of m new.replica.state new.ticks)) runs
    ∙ ap (λ (s : ReplicaState). as_node (lists_of s) (mode_of Running s new.ticks)) (ap (λ (r : Replicated). r.state) replica)
    ∙ ap (λ (n : ℕ). as_node (lists_in old) (mode_of Running old.replica.state n)) (ticks ∙ next))
    all reply (ap (λ (r : Replicated). r.state.config) replica) (ap (λ (r : Replicated). member_of r.state) replica)
    (record { few = size; letters = letters; reply = subst (λ (r : Reply). length (reply_bytes r) ≤ 65558) (sym reply) (omega arith) })
    tt (counts-same old.replica.media new.replica.media (ap (λ (r : Replicated). r.media) replica))

-- the length of a list of a node
pub few-at : (inside node : StorageState) (segment len : ℕ) → inside ≡ node → segment < (config_of node).replicas → IsSound inside.mode inside.replica.state
    → len ≡ length (list_in (lists_in node) segment) → len ≤ 16384
few-at inside node segment len e lt sound is =
    let replicas : (config_of inside).replicas ≡ (config_of node).replicas = ap (λ (v : StorageState). (config_of v).replicas) e in
    let here : len ≡ length (list_in (lists_in inside) segment) = is ∙ ap (λ (v : StorageState). length (list_in (lists_in v) segment)) (sym e) in
    let few = list-few inside.replica.state segment (omega (arith, lt, replicas, sound.count)) sound.few in
    omega (arith, here, few)

-- ---- the letters as the rules have them

pub report-is : (config : Shape) (shard own : ℕ) (state : ReplicaState) (lengths : Lengths) → IsOf config shard own state → lengths ≡ report_of (lists_of state)
    → letter (gatherer_of config shard) (report_message shard own lengths) ≡ report state.config (member_of state) (lists_of state)
report-is config shard own state lengths of is =
    ap (λ (c : Shape). letter (gatherer_of c shard) (report_message shard own lengths)) (sym of.config_is)
    ∙ ap (λ (n : ℕ). letter (gatherer_of state.config n) (report_message n own lengths)) (sym of.shard_is)
    ∙ ap (λ (n : ℕ). letter (gatherer_of state.config state.shard) (report_message state.shard n lengths)) (sym of.own_is)
    ∙ ap (λ (l : Lengths). letter (gatherer_of state.config state.shard) (report_message state.shard state.own l)) is

pub want-is : (config : Shape) (shard own : ℕ) (state : ReplicaState) (known ticks : ℕ) → IsOf config shard own state → known ≡ state.known.count
    → letter (orderer_node config (ticks % config.orderers)) (want_message known (storage_node config shard own)) ≡ want state.config (member_of state) (memory_of state ticks)
want-is config shard own state known ticks of is =
    ap (λ (c : Shape). letter (orderer_node c (ticks % c.orderers)) (want_message known (storage_node c shard own))) (sym of.config_is)
    ∙ ap (λ (n : ℕ). letter (orderer_node state.config (ticks % state.config.orderers)) (want_message known (storage_node state.config n own))) (sym of.shard_is)
    ∙ ap (λ (n : ℕ). letter (orderer_node state.config (ticks % state.config.orderers)) (want_message known (storage_node state.config state.shard n))) (sym of.own_is)
    ∙ ap (λ (n : ℕ). letter (orderer_node state.config (ticks % state.config.orderers)) (want_message n (storage_node state.config state.shard state.own))) is

pub member-is : (config : Shape) (shard own : ℕ) (state : ReplicaState) → IsOf config shard own state → member_at config shard own ≡ member_of state
member-is config shard own state of =
    ap (λ (c : Shape). member_at c shard own) (sym of.config_is) ∙ ap (λ (n : ℕ). member_at state.config n own) (sym of.shard_is)
    ∙ ap (λ (n : ℕ). member_at state.config state.shard n) (sym of.own_is)

pub windows-is : (config : Shape) (shard own : ℕ) (state : ReplicaState) → IsOf config shard own state → state.own < length state.segments
    → windows config (member_at config shard own) (own_entries state) state.copying 0 config.replicas
    ≡ windows state.config (member_of state) (list_in (lists_of state) state.own) state.copying 0 state.config.replicas
windows-is config shard own state of lt =
    ap (λ (m : Member). windows config m (own_entries state) state.copying 0 config.replicas) (member-is config shard own state of)
    ∙ ap (λ (c : Shape). windows c (member_of state) (own_entries state) state.copying 0 c.replicas) (sym of.config_is)
    ∙ ap (λ (es : List Entry). windows state.config (member_of state) es state.copying 0 state.config.replicas) (sym (list-of state.segments state.own lt))

pub copies-is : (config : Shape) (shard own : ℕ) (state : ReplicaState) (peer held : ℕ) (span : Span) → IsOf config shard own state → state.own < length state.segments
    → span ≡ span_of_note (slice_index state.copying.acked peer) held (length (own_entries state))
    → copies config (member_at config shard own) (own_entries state) peer (offsets_of span)
    ≡ copies state.config (member_of state) (list_in (lists_of state) state.own) peer
    (offsets_of (span_of_note (slice_index state.copying.acked peer) held (length (list_in (lists_of state) state.own))))
copies-is config shard own state peer held span of lt is =
    ap (λ (s : Span). copies config (member_at config shard own) (own_entries state) peer (offsets_of s)) is
    ∙ ap (λ (m : Member). copies config m (own_entries state) peer (offsets_of (span_of_note (slice_index state.copying.acked peer) held (length (own_entries state))))) (member-is config shard own state of)
    ∙ ap (λ (c : Shape). copies c (member_of state) (own_entries state) peer (offsets_of (span_of_note (slice_index state.copying.acked peer) held (length (own_entries state))))) (sym of.config_is)
    ∙ ap (λ (es : List Entry). copies state.config (member_of state) es peer (offsets_of (span_of_note (slice_index state.copying.acked peer) held (length es)))) (sym (list-of state.segments state.own lt))

-- what is sent is of the list
pub note-within : (acked held len : ℕ) → (span_of_note acked held len).from < (span_of_note acked held len).to → (span_of_note acked held len).to ≤ len
note-within acked held len some = next (nat_lt acked held) some
  where
    next : (b : Bool) → (cond b (spanned (max (acked + 4) held) (min (held + 4) len)) (spanned acked acked)).from
        < (cond b (spanned (max (acked + 4) held) (min (held + 4) len)) (spanned acked acked)).to
        → (cond b (spanned (max (acked + 4) held) (min (held + 4) len)) (spanned acked acked)).to ≤ len
    next true some = omega arith
    next false some = absurd (omega (arith, some))
