use Rattle.std.proofs.Common.{◌<◌, ℕ, map, sym, ap, ◌∙◌, subst, arith}
use Rattle.std.specs.List.{AllByRecursion}
use Rattle.cluster.specs.Clusters.{IsPassOf}
use Rattle.cluster.specs.History.{IsClosed, StandAfter}
use Rattle.core_step.specs.Standing.{cluster_node}
use Rattle.counted_node.specs.Causes.{BeginWithStarts, HaveCauses, StartsAreClean, node_media}
use Rattle.counted_node.specs.Counted.{counted_node, first_in}
use Rattle.history_frame.specs.Spelling.{DisksRise, IsHistory, IsKept}
use Rattle.log_base.specs.Shape.{shape}
use Rattle.node_model.specs.Durable.{IsFounded}
use Rattle.node_model.specs.Sound.{payloads_on}
use Rattle.reply_frame.specs.Replies.{HasSpelling}
use Rattle.sequence_law.specs.Safe.{IsSafe}
use Rattle.tied_cells.proofs.Closes.{from_map}
use Rattle.tied_cells.specs.Rule.{deal_of}
use Rattle.cluster_run.specs.Makers.{Counts, maker_of}
use Rattle.cluster_run.specs.Ordering.{AreGathered, HaveReplies}
use Rattle.cluster_run.specs.Runs.{IsClusterRun, IsHaltedWith}
use Rattle.cluster_run.proofs.Assembled.{counts_so, halted_so, run_so, spelled_so, starts_stand, stops_so}
use Rattle.cluster_run.proofs.Full.{few_known}
use Rattle.cluster_run.proofs.Handing.{there_is}
use Rattle.cluster_run.proofs.Made.{have_replies}
use Rattle.cluster_run.proofs.Results.{came, err_at, ok_at, some_so, with_err, with_ok}
use Rattle.cluster_run.proofs.SameConfig.{same_config}
use Rattle.cluster_run.proofs.serving.serve_on.Goals as goal

pub gather_all-replies-requires-clause-replied : goal.gather_all-replies-requires-clause-replied
gather_all-replies-requires-clause-replied g c =
    with_ok _ c.run_all-cluster.result.2 (λ answers is.
    subst (λ l. HaveReplies l answers.lanes.items) (sym (c.deref.ensures.value ∙ c.requires.lanes.0))
    (have_replies (shape c.args.cluster.config) c.args.cluster.run (payloads_on c.args.cluster.kept) c.args.cluster.cells.table.shared.table_id c.args.items.items c.args.prepared.count c.args.workers
    (map (λ p. (p.seat, p.account)) c.args.passes.items) (map (λ p. (p.seat, p.account)) c.run_all-cluster.result.1.items) answers.lanes.items answers.workers.items
    c.requires.new (ok_at _ c.run_all-cluster.result.2 answers c.run_all-cluster.ensures.ran is) c.requires.lanes.1))

pub close-requires-clause-all : goal.close-requires-clause-all
close-requires-clause-all g c number below =
    let count = subst (λ w. number < w.cells.table.shared.key.passes) c.run_all-cluster.ensures.cluster below in
    let all = c.requires.count in let size = c.run_all-cluster.ensures.count in
    let pass = there_is c.run_all-cluster.result.1.items number (omega arith) in
    (number, pass.0, pass.1, sym pass.0.number_is ∙ (c.run_all-cluster.ensures.passes number pass.0 pass.1).number_is)

pub close-requires-clause-passes : goal.close-requires-clause-passes
close-requires-clause-passes g c k pass there =
    let still = c.run_all-cluster.ensures.passes k pass there in
    let number = sym pass.number_is ∙ still.number_is in
    subst (λ w. IsPassOf (shape w.config) w.run (payloads_on w.kept) w.cells.table.shared.table_id pass.account.number pass.seat) (sym c.run_all-cluster.ensures.cluster)
    (subst (λ (n : ℕ). IsPassOf (shape c.args.cluster.config) c.args.cluster.run (payloads_on c.args.cluster.kept) c.args.cluster.cells.table.shared.table_id n pass.seat) (sym number) still)

pub returns-in-Ok-clause-given : goal.returns-in-Ok-clause-given
returns-in-Ok-clause-given g c = with_ok _ c.end.result (λ served is.
    let closed = subst (λ w. IsClosed (shape w.config) w.run w.kept (map (λ p. (p.seat, p.account)) c.run_all-cluster.result.1.items) (map (cluster_node g.J.Journal.state) c.in-Ok.nodes.items) c.in-Ok.history) c.run_all-cluster.ensures.cluster c.in-Ok.ensures.closed in
    let are = ok_at _ c.end.result served c.end.ensures.served is in
    (ap (λ h. h.config) are.0 ∙ same_config c.in-Ok.history.config c.args.cluster.config closed.config_is, ap (λ h. h.run) are.0 ∙ closed.run_is, ap (λ h. h.kept) are.0 ∙ closed.kept_is))

pub returns-in-Ok-clause-run : goal.returns-in-Ok-clause-run
returns-in-Ok-clause-run g c = with_ok _ c.end.result (λ served is.
    let closed = subst (λ w. IsClosed (shape w.config) w.run w.kept (map (λ p. (p.seat, p.account)) c.run_all-cluster.result.1.items) (map (cluster_node g.J.Journal.state) c.in-Ok.nodes.items) c.in-Ok.history) c.run_all-cluster.ensures.cluster c.in-Ok.ensures.closed in
    let are = ok_at _ c.end.result served c.end.ensures.served is in
    let list = came c.gather_all-replies.result (ok_at _ c.end.result served c.end.ensures.come is) in
    let answers = came c.run_all-cluster.result.2 (ok_at _ c.gather_all-replies.result list.0 c.gather_all-replies.ensures.come list.1) in
    let ran = ok_at _ c.run_all-cluster.result.2 answers.0 c.run_all-cluster.ensures.ran answers.1 in
    let gathered = subst (λ l. AreGathered l answers.0.lanes.items answers.0.workers.items list.0.items) (c.deref.ensures.value ∙ c.requires.lanes.0)
    (ok_at _ c.run_all-cluster.result.2 answers.0 (ok_at _ c.gather_all-replies.result list.0 c.gather_all-replies.ensures.gathered list.1) answers.1) in
    let replies = ok_at _ c.gather_all-replies.result list.0 are.2 list.1 in
    subst (λ h. IsClusterRun (shape c.args.cluster.config) c.args.cluster.run c.args.items.items c.args.workers c.args.cluster.kept h served.replies) (sym are.0)
    (subst (λ l. IsClusterRun (shape c.args.cluster.config) c.args.cluster.run c.args.items.items c.args.workers c.args.cluster.kept c.in-Ok.history l) (sym replies)
    (run_so (shape c.args.cluster.config) c.args.cluster.run c.args.cluster.kept (map (λ p. (p.seat, p.account)) c.run_all-cluster.result.1.items) (map (cluster_node g.J.Journal.state) c.in-Ok.nodes.items) c.in-Ok.history closed
    c.args.cluster.cells.table.shared.table_id c.args.items.items c.args.prepared.count c.args.workers (map (λ p. (p.seat, p.account)) c.args.passes.items) answers.0.lanes.items answers.0.workers.items c.requires.new ran
    c.requires.lanes.1
    (λ k pass there.
    let p = from_map (λ p. (p.seat, p.account)) c.run_all-cluster.result.1.items k pass there in let n = c.close.ensures.counted k p.0 p.1 in
    subst (λ x. Counts (maker_of x)) p.2 (counts_so (p.0.seat, p.0.account) n.0 n.1))
    list.0.items gathered
    (subst (λ w. IsFounded (shape w.config) w.run (payloads_on w.kept) → IsSafe (shape w.config) (payloads_on w.kept) c.in-Ok.history.events) c.run_all-cluster.ensures.cluster c.in-Ok.ensures.safe)
    (few_known (cluster_node g.J.Journal.state) (shape c.args.cluster.config) (payloads_on c.args.cluster.kept) c.in-Ok.history.events c.in-Ok.nodes.items closed.stand (ok_at _ c.end.result served c.end.ensures.few is)))))

pub returns-in-Ok-clause-stand : goal.returns-in-Ok-clause-stand
returns-in-Ok-clause-stand g c = with_ok _ c.end.result (λ served is.
    let closed = subst (λ w. IsClosed (shape w.config) w.run w.kept (map (λ p. (p.seat, p.account)) c.run_all-cluster.result.1.items) (map (cluster_node g.J.Journal.state) c.in-Ok.nodes.items) c.in-Ok.history) c.run_all-cluster.ensures.cluster c.in-Ok.ensures.closed in
    let are = ok_at _ c.end.result served c.end.ensures.served is in
    subst (λ h. StandAfter (shape c.args.cluster.config) (payloads_on c.args.cluster.kept) h.events (map (cluster_node g.J.Journal.state) served.nodes.items)) (sym are.0)
    (subst (λ l. StandAfter (shape c.args.cluster.config) (payloads_on c.args.cluster.kept) c.in-Ok.history.events (map (cluster_node g.J.Journal.state) l)) (sym are.1) closed.stand))

pub returns-in-Ok-clause-spelled : goal.returns-in-Ok-clause-spelled
returns-in-Ok-clause-spelled g c = with_ok _ c.end.result (λ served is.
    let are = ok_at _ c.end.result served c.end.ensures.served is in
    subst (λ h. DisksRise 0 c.args.cluster.kept → AllByRecursion IsKept c.args.cluster.kept → IsHistory h) (sym are.0)
    (subst (λ w. DisksRise 0 w.kept → AllByRecursion IsKept w.kept → IsHistory c.in-Ok.history) c.run_all-cluster.ensures.cluster c.in-Ok.ensures.spelled))

pub returns-in-Ok-clause-replies_spelled : goal.returns-in-Ok-clause-replies_spelled
returns-in-Ok-clause-replies_spelled g c = with_ok _ c.end.result (λ served is.
    let closed = subst (λ w. IsClosed (shape w.config) w.run w.kept (map (λ p. (p.seat, p.account)) c.run_all-cluster.result.1.items) (map (cluster_node g.J.Journal.state) c.in-Ok.nodes.items) c.in-Ok.history) c.run_all-cluster.ensures.cluster c.in-Ok.ensures.closed in
    let are = ok_at _ c.end.result served c.end.ensures.served is in
    let list = came c.gather_all-replies.result (ok_at _ c.end.result served c.end.ensures.come is) in
    let answers = came c.run_all-cluster.result.2 (ok_at _ c.gather_all-replies.result list.0 c.gather_all-replies.ensures.come list.1) in
    let ran = ok_at _ c.run_all-cluster.result.2 answers.0 c.run_all-cluster.ensures.ran answers.1 in
    let gathered = subst (λ l. AreGathered l answers.0.lanes.items answers.0.workers.items list.0.items) (c.deref.ensures.value ∙ c.requires.lanes.0)
    (ok_at _ c.run_all-cluster.result.2 answers.0 (ok_at _ c.gather_all-replies.result list.0 c.gather_all-replies.ensures.gathered list.1) answers.1) in
    let replies = ok_at _ c.gather_all-replies.result list.0 are.2 list.1 in
    subst (AllByRecursion HasSpelling) (sym replies)
    (spelled_so (shape c.args.cluster.config) c.args.cluster.run c.args.cluster.kept (map (λ p. (p.seat, p.account)) c.run_all-cluster.result.1.items) (map (cluster_node g.J.Journal.state) c.in-Ok.nodes.items) c.in-Ok.history closed
    c.args.cluster.cells.table.shared.table_id c.args.items.items c.args.prepared.count c.args.workers (map (λ p. (p.seat, p.account)) c.args.passes.items) answers.0.lanes.items answers.0.workers.items c.requires.new ran
    c.requires.lanes.1
    (λ k pass there.
    let p = from_map (λ p. (p.seat, p.account)) c.run_all-cluster.result.1.items k pass there in let n = c.close.ensures.counted k p.0 p.1 in
    subst (λ x. Counts (maker_of x)) p.2 (counts_so (p.0.seat, p.0.account) n.0 n.1))
    list.0.items gathered c.requires.items))

pub returns-in-Ok-clause-opened : goal.returns-in-Ok-clause-opened
returns-in-Ok-clause-opened g c = with_ok _ c.end.result (λ served is.
    let closed = subst (λ w. IsClosed (shape w.config) w.run w.kept (map (λ p. (p.seat, p.account)) c.run_all-cluster.result.1.items) (map (cluster_node g.J.Journal.state) c.in-Ok.nodes.items) c.in-Ok.history) c.run_all-cluster.ensures.cluster c.in-Ok.ensures.closed in
    let are = ok_at _ c.end.result served c.end.ensures.served is in
    let list = came c.gather_all-replies.result (ok_at _ c.end.result served c.end.ensures.come is) in
    let answers = came c.run_all-cluster.result.2 (ok_at _ c.gather_all-replies.result list.0 c.gather_all-replies.ensures.come list.1) in
    let ran = ok_at _ c.run_all-cluster.result.2 answers.0 c.run_all-cluster.ensures.ran answers.1 in
    subst (λ h. StartsAreClean (shape c.args.cluster.config) h.events (map first_in (deal_of (counted_node g.J.Journal.state) c.args.cluster.cells.table.shared.key).starts) (map (node_media g.J.Journal.state g.J.Journal.faults g.J.Journal.keeps_synced g.J.Journal.turns) served.nodes.items)) (sym are.0)
    (subst (λ l. StartsAreClean (shape c.args.cluster.config) c.in-Ok.history.events (map first_in (deal_of (counted_node g.J.Journal.state) c.args.cluster.cells.table.shared.key).starts) (map (node_media g.J.Journal.state g.J.Journal.faults g.J.Journal.keeps_synced g.J.Journal.turns) l)) (sym are.1)
    (subst (λ w. BeginWithStarts (shape w.config) c.in-Ok.history.events
    → StartsAreClean (shape w.config) c.in-Ok.history.events (map first_in (deal_of (counted_node g.J.Journal.state) w.cells.table.shared.key).starts) (map (node_media g.J.Journal.state g.J.Journal.faults g.J.Journal.keeps_synced g.J.Journal.turns) c.in-Ok.nodes.items)) c.run_all-cluster.ensures.cluster c.in-Ok.ensures.opened
    (starts_stand (shape c.args.cluster.config) c.args.cluster.run c.args.cluster.kept (map (λ p. (p.seat, p.account)) c.run_all-cluster.result.1.items) (map (cluster_node g.J.Journal.state) c.in-Ok.nodes.items) c.in-Ok.history closed
    c.args.cluster.cells.table.shared.table_id c.args.items.items c.args.prepared.count c.args.workers (map (λ p. (p.seat, p.account)) c.args.passes.items) answers.0.lanes.items answers.0.workers.items c.requires.new ran))))

pub returns-in-Ok-clause-causes : goal.returns-in-Ok-clause-causes
returns-in-Ok-clause-causes g c = with_ok _ c.end.result (λ served is.
    let are = ok_at _ c.end.result served c.end.ensures.served is in
    subst (λ h. HaveCauses (shape c.args.cluster.config) h.events (map first_in (deal_of (counted_node g.J.Journal.state) c.args.cluster.cells.table.shared.key).starts) (map (node_media g.J.Journal.state g.J.Journal.faults g.J.Journal.keeps_synced g.J.Journal.turns) served.nodes.items)) (sym are.0)
    (subst (λ l. HaveCauses (shape c.args.cluster.config) c.in-Ok.history.events (map first_in (deal_of (counted_node g.J.Journal.state) c.args.cluster.cells.table.shared.key).starts) (map (node_media g.J.Journal.state g.J.Journal.faults g.J.Journal.keeps_synced g.J.Journal.turns) l)) (sym are.1)
    (subst (λ w. HaveCauses (shape w.config) c.in-Ok.history.events (map first_in (deal_of (counted_node g.J.Journal.state) w.cells.table.shared.key).starts) (map (node_media g.J.Journal.state g.J.Journal.faults g.J.Journal.keeps_synced g.J.Journal.turns) c.in-Ok.nodes.items)) c.run_all-cluster.ensures.cluster c.in-Ok.ensures.causes)))

pub returns-in-Ok-clause-stop_causes : goal.returns-in-Ok-clause-stop_causes
returns-in-Ok-clause-stop_causes g c = with_err _ c.end.result (λ stop is.
    let closed = subst (λ w. IsClosed (shape w.config) w.run w.kept (map (λ p. (p.seat, p.account)) c.run_all-cluster.result.1.items) (map (cluster_node g.J.Journal.state) c.in-Ok.nodes.items) c.in-Ok.history) c.run_all-cluster.ensures.cluster c.in-Ok.ensures.closed in
    let stopped = err_at _ c.end.result stop c.end.ensures.stopped is in
    let causes = subst (λ w. HaveCauses (shape w.config) c.in-Ok.history.events (map first_in (deal_of (counted_node g.J.Journal.state) w.cells.table.shared.key).starts) (map (node_media g.J.Journal.state g.J.Journal.faults g.J.Journal.keeps_synced g.J.Journal.turns) c.in-Ok.nodes.items)) c.run_all-cluster.ensures.cluster c.in-Ok.ensures.causes in
    some_so _ _ stop.nodes stopped.0 (λ left same.
    subst (λ l. IsHaltedWith (shape c.args.cluster.config) c.args.cluster.run (payloads_on c.args.cluster.kept) (map (cluster_node g.J.Journal.state) l) (map first_in (deal_of (counted_node g.J.Journal.state) c.args.cluster.cells.table.shared.key).starts) (map (node_media g.J.Journal.state g.J.Journal.faults g.J.Journal.keeps_synced g.J.Journal.turns) l) stop.stop) (sym same)
    (halted_so (shape c.args.cluster.config) c.args.cluster.run c.args.cluster.kept (map (λ p. (p.seat, p.account)) c.run_all-cluster.result.1.items) (map (cluster_node g.J.Journal.state) c.in-Ok.nodes.items) c.in-Ok.history closed (map first_in (deal_of (counted_node g.J.Journal.state) c.args.cluster.cells.table.shared.key).starts) (map (node_media g.J.Journal.state g.J.Journal.faults g.J.Journal.keeps_synced g.J.Journal.turns) c.in-Ok.nodes.items) stop.stop causes
    (stops_so (cluster_node g.J.Journal.state) (shape c.args.cluster.config) c.args.cluster.run c.args.cluster.kept (map (λ p. (p.seat, p.account)) c.run_all-cluster.result.1.items) c.in-Ok.nodes.items c.in-Ok.history closed stop.stop stopped.2))))

pub returns-in-Ok-clause-gone : goal.returns-in-Ok-clause-gone
returns-in-Ok-clause-gone g c = with_err _ c.end.result (λ stop is none. absurd ((err_at _ c.end.result stop c.end.ensures.stopped is).1 none))
