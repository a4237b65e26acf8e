-- A tick of a replica in a round: the letters that it puts out.
use Rattle.std.proofs.Common.{◌≡◌, ◌≢◌, ◌+◌, ◌%◌, ◌<◌, ◌≤◌, ℕ, zero, suc, cond, ◌==◌, List, [], ◌∷◌, ◌++◌, length, Some, refl, sym, ap, subst, inl, ⊎_elim, arith, ◌∙◌}
use Rattle.std.specs.Prelude.{slice_index}
use Rattle.std.proofs.lemmas.Bool.{cases_eq, cond-false, cond_both, eqb-false, ne_eqb}
use Rattle.std.proofs.lemmas.List.{length-set}
use Rattle.reply_frame.specs.declared.replies.Reply.{Nothing}
use Rattle.history_frame.specs.declared.events.Sent.{Sent}
use Rattle.history_frame.specs.declared.inputs.Input.TheVariants.{Tick}
use Rattle.history_frame.specs.declared.inputs.Mark.TheVariants.{Done}
use Rattle.log_base.specs.ClusterShape.{InRange}
use Rattle.log_model.specs.Storage.{Knowledge, list_in, report_of}
use Rattle.node_table.specs.Numbering.{gatherer_of, storage_node}
use Rattle.peer_copy.specs.Copying.{offsets_of, window_at}
use Rattle.record_frame.specs.declared.entries.Entry.{Entry}
use Rattle.node_model.specs.Marks.{Running}
use Rattle.node_model.specs.Messages.{copy_message}
use Rattle.node_model.specs.Nodes.{letter}
use Rattle.node_model.specs.NodeState.{NodeOutcome, Storing, node_outcome}
use Rattle.node_model.specs.StorageNode.{Replica, StorageChange, StorageNode, member_of}
use Rattle.node_model.specs.StorageRow.{copies, on_tick, report, told, want, windows}
use Rattle.node_model.proofs.Letters.{all_append}
use Rattle.quiet_model.specs.Ahead.{IsAsOrMore, Same, More, own_ahead}
use Rattle.quiet_model.specs.Settled.{IsReplica, list_at}
use Rattle.quiet_model.proofs.Lists.{list_here, list_other, report_at}
use Rattle.quiet_model.proofs.Outcomes.{replica_takes}
use Rattle.quiet_model.proofs.Round.{Round, AreGoodLetters, IsCopyTo, IsGoodLetter, IsGoodReport, IsReportTo, IsRoundOf, goal_of}
use Rattle.quiet_model.proofs.Rows.{no_copies, one_copy}
use Rattle.quiet_model.proofs.StorageTaken.{not_shorter, report_heard}
use Rattle.quiet_model.proofs.Waiting.{Waits, waits_left, waits_right}

module _ (round : Round) (lists : IsRoundOf round) (s r : ℕ) (a : s < round.config.shards) (b : r < round.config.replicas) where
  -- the lists of a replica that is ahead
  pub own_list : list_in (own_ahead round.from round.to s r) r ≡ list_at round.to s r
  own_list = list_here (round.from s) r (list_at round.to s r) (omega (arith, lists.old_sizes s a))

  pub other_list : (p : ℕ) → p ≢ r → list_in (own_ahead round.from round.to s r) p ≡ list_at round.from s p
  other_list p differ = list_other (round.from s) r p (list_at round.to s r) differ

-- what a tick puts out
pub record Ticks (round : Round) (s r : ℕ) (node : StorageNode) : Type 0 where
  pub made : NodeOutcome
  pub rule : node_outcome round.config (storage_node round.config s r) (Storing node) Tick Done ≡ Some made
  pub after : StorageNode
  pub state : made.state ≡ Storing after
  pub stands : IsReplica round.config s r (own_ahead round.from round.to s r) (length (list_at round.from s r)) round.agreed.values after
  pub letters : AreGoodLetters round made.outputs
  pub copies : (p : ℕ) → p < round.config.replicas → p ≢ r → (entry : Entry) → list_at round.to s r ≡ list_at round.from s r ++ entry ∷ [] → Waits (IsCopyTo round s r p) made.outputs
  pub reports : (p : ℕ) → length (list_in (own_ahead round.from round.to s r) p) ≡ goal_of round s p → Waits (IsReportTo round s r p) made.outputs

module _ (round : Round) (range : InRange round.config) (lists : IsRoundOf round) (s r : ℕ) (a : s < round.config.shards) (b : r < round.config.replicas)
    (node : StorageNode) (h : IsReplica round.config s r (own_ahead round.from round.to s r) (length (list_at round.from s r)) round.agreed.values node) where
  own : list_in node.durable r ≡ list_at round.to s r
  own = ap (λ (held : List (List Entry)). list_in held r) h.holds ∙ own_list round lists s r a b

  abbrev window_of : ℕ → List Sent
  window_of peer =
      copies round.config (member_of round.config s r) (list_in node.durable r) peer
      (offsets_of (window_at (slice_index h.memory.copying.acked peer) (length (list_in node.durable r))))

  one_sent : (peer : ℕ) → peer < round.config.replicas → peer ≢ r → (entry : Entry) → list_at round.to s r ≡ list_at round.from s r ++ entry ∷ []
      → window_of peer ≡ letter (storage_node round.config s peer) (copy_message r (length (list_at round.from s r)) entry) ∷ []
  one_sent peer below other entry more =
      one_copy round.config (member_of round.config s r) (list_at round.from s r) (list_in node.durable r) peer (slice_index h.memory.copying.acked peer)
      (h.acks peer below other) entry (own ∙ more)

  peer_good : (peer : ℕ) → peer < round.config.replicas → peer ≢ r → IsAsOrMore (list_at round.from s r) (list_at round.to s r) → AreGoodLetters round (window_of peer)
  peer_good peer below other (Same e) =
      subst (AreGoodLetters round)
      (sym (no_copies round.config (member_of round.config s r) (list_at round.from s r) (list_in node.durable r) peer (slice_index h.memory.copying.acked peer)
      (h.acks peer below other) (own ∙ e)))
      tt
  peer_good peer below other (More entry e) =
      subst (AreGoodLetters round) (sym (one_sent peer below other entry e)) (
        record {
          shard = s;
          replica = peer;
          shard_below = a;
          replica_below = below;
          segment_below = b;
          other = λ same. other (sym same);
          at = refl;
          offset_is = refl;
          entry_is = e;
        },
        tt,
      )

  abbrev windows_of : ℕ → ℕ → List Sent
  windows_of peer count = windows round.config (member_of round.config s r) (list_in node.durable r) h.memory.copying peer count

  windows_good : (peer count : ℕ) → peer + count ≤ round.config.replicas → AreGoodLetters round (windows_of peer count)
  windows_good peer zero below = tt
  windows_good peer (suc count) below =
      all_append (IsGoodLetter round) (cond (peer == r) [] (window_of peer)) (windows_of (suc peer) count)
      (cond_both (peer == r) [] (window_of peer) (AreGoodLetters round)
      (λ e. tt)
      (λ e. peer_good peer (omega arith) (eqb-false peer r e) (lists.more s r a b)))
      (windows_good (suc peer) count (omega arith))

  module _ (p : ℕ) (below : p < round.config.replicas) (other : p ≢ r) (entry : Entry) (more : list_at round.to s r ≡ list_at round.from s r ++ entry ∷ []) where
    here_sent : Waits (IsCopyTo round s r p) (cond (p == r) [] (window_of p))
    here_sent = subst (Waits (IsCopyTo round s r p)) (sym (cond-false (p == r) [] (window_of p) (ne_eqb p r other) ∙ one_sent p below other entry more)) (inl (refl, refl))

    windows_sent : (peer count : ℕ) → peer ≤ p → p < peer + count → Waits (IsCopyTo round s r p) (windows_of peer count)
    windows_sent peer zero low high = absurd (omega arith)
    windows_sent peer (suc count) low high =
        ⊎_elim
        (λ e. waits_left (IsCopyTo round s r p) (cond (peer == r) [] (window_of peer)) (windows_of (suc peer) count)
        (subst (λ (q : ℕ). Waits (IsCopyTo round s r p) (cond (q == r) [] (window_of q))) e here_sent))
        (λ differ. waits_right (IsCopyTo round s r p) (cond (peer == r) [] (window_of peer)) (windows_of (suc peer) count)
        (windows_sent (suc peer) count (omega arith) (omega arith)))
        (cases_eq p peer)

  abbrev ticked : Replica
  ticked = record h.memory { ticks = suc h.memory.ticks }

  abbrev last_letters : List Sent
  last_letters = report round.config (member_of round.config s r) node.durable ∷ want round.config (member_of round.config s r) h.memory ∷ []

  abbrev tick_change : StorageChange
  tick_change = told ticked (windows_of 0 round.config.replicas ++ last_letters)

  tick_row : on_tick round.config (member_of round.config s r) node.durable h.memory ≡ tick_change
  unfolding on_tick
  tick_row = refl

  held_fits : (p : ℕ) → p < round.config.replicas → length (list_in node.durable p) ≤ goal_of round s p
  held_fits p below =
      ⊎_elim
      (λ e. subst (λ (q : ℕ). length (list_in node.durable q) ≤ goal_of round s q) (sym e) (omega (arith, ap length own)))
      (λ differ.
      let old = ap (λ (held : List (List Entry)). length (list_in held p)) h.holds ∙ ap length (other_list round lists s r a b p differ) in
      let more = not_shorter (list_at round.from s p) (list_at round.to s p) (lists.more s p a below) in
      omega (arith, old, more.0))
      (cases_eq p r)

  report_good : IsGoodReport round (gatherer_of round.config s) s r (report_of node.durable)
  report_good = record {
    shard_below = a;
    replica_below = b;
    at = refl;
    heard = report_heard round range lists s r a b node.durable size held_fits;
  }
    where
      size : length node.durable ≡ round.config.replicas
      size = ap length h.holds ∙ length-set (round.from s) r (list_at round.to s r) ∙ lists.old_sizes s a

  want_good : IsGoodLetter round (want round.config (member_of round.config s r) h.memory)
  want_good =
      let odd = range.odd in
      let some : 1 ≤ round.config.orderers = omega arith in
      record {
        index = h.memory.ticks % round.config.orderers;
        below = omega arith;
        at = refl;
        past = omega (arith, ap (λ (known : Knowledge). known.count) h.knows);
      }

  pub ticks : Ticks round s r node
  ticks = record {
    made = record { state = Storing (record { durable = node.durable; mode = Running ticked }); outputs = tick_change.outputs; reply = Nothing };
    rule = replica_takes round.config s r a b node h.memory tick_change h.runs Tick refl (ap Some tick_row);
    after = record { durable = node.durable; mode = Running ticked };
    state = refl;
    stands = record { memory = ticked; runs = refl; holds = h.holds; knows = h.knows; peers = h.peers; acks = h.acks };
    letters = all_append (IsGoodLetter round) (windows_of 0 round.config.replicas) last_letters (windows_good 0 round.config.replicas (omega arith)) (report_good, (want_good, tt));
    copies = λ p below other entry more.
        waits_left (IsCopyTo round s r p) (windows_of 0 round.config.replicas) last_letters (windows_sent p below other entry more 0 round.config.replicas (omega arith) (omega arith));
    reports = λ p e.
        waits_right (IsReportTo round s r p) (windows_of 0 round.config.replicas) last_letters
        (inl (refl, (refl, refl, report_at node.durable p ∙ ap (λ (held : List (List Entry)). length (list_in held p)) h.holds ∙ e)));
  }
