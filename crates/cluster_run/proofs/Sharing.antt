-- The work on a cluster may be shared by threads, where the journals and the places of its nodes may cross them.
use denote.RattleType.{RattleType}
use denote.Param.Send.{IsSend, IsSync, sendable}
use denote.Param.SendFields.{as_row_send, as_row_sync, declared_send, declared_sync, variants_send}
use Rattle.std.proofs.Crossing.{crosses}
use Rattle.std.proofs.alloc.Global.TheSendSync as memory
use Rattle.cut_chain.specs.declared.sequence.Places.{Ghosts as PlacesGhosts}
use Rattle.segment_journal.specs.declared.journal.Journal.{Ghosts as JournalGhosts}
use Rattle.cluster.specs.contracts.cluster.Cluster as cluster_of
use Rattle.command_frame.proofs.items.Item.TheSendSync as item
use Rattle.core_step.proofs.node.Node.TheSendSync as node
use Rattle.history_frame.proofs.events.Kept.TheSendSync as kept
use Rattle.history_frame.proofs.events.Sent.TheSendSync as sent
use Rattle.history_frame.proofs.inputs.Input.TheSendSync as input
use Rattle.history_frame.proofs.inputs.Mark.TheSendSync as mark
use Rattle.history_frame.specs.contracts.events.Happened as happened_of
use Rattle.lane_work.specs.contracts.work.LaneWork as work_of
use Rattle.log_base.proofs.cluster_shape.Config.TheSendSync as config
use Rattle.log_base.proofs.owned.List.TheSendSync as list
use Rattle.record_frame.proofs.entries.Entry.TheSendSync as entry
use Rattle.reply_frame.specs.contracts.replies.Reply as reply_of
use Rattle.reply_frame.proofs.replies.Reply.TheLaws.TheKnot as knot
use Rattle.tied_cells.proofs.cells.Cells.TheSendSync as cells

-- a reply holds another in a box at most
reply_send : IsSend reply_of.the_row
reply_send = search (knot.send-Reply, sendable, crosses, declared_send, as_row_send, entry.the_send) depth 40

happened_send : IsSend happened_of.the_row
happened_send = search (sendable, crosses, variants_send, declared_send, as_row_send, list.the_send, sent.the_send, input.the_send, mark.the_send, reply_send) depth 40

module _ (J P : RattleType) (gj : JournalGhosts J.Denot) (gp : PlacesGhosts P.Denot) (sj : IsSend J) (sp : IsSend P) where
  cluster_sync : IsSync (cluster_of.the_row J P gj gp)
  cluster_sync = search (sendable, crosses, declared_sync, as_row_sync, cells.the_sync, node.the_send, happened_send, config.the_sync, list.the_sync, kept.the_sync, memory.the_sync) depth 40

  pub work_sync : IsSync (work_of.the_row J P gj gp)
  work_sync = search (sendable, declared_sync, as_row_sync, cluster_sync, list.the_sync, item.the_sync) depth 40
