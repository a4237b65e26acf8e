use denote.Exit.{yes}
use denote.Param.{param}
use denote.Param.Send.{arg_sync, param_sync}
use Rattle.std.proofs.Common.{◌+◌, List, [], ◌∷◌, ◌++◌, length, map, take, get_or, slice_get, sym, ap, ◌∙◌, subst, arith}
use Rattle.std.proofs.lemmas.List.{length-map}
use Rattle.cluster.specs.Clusters.{IsPassOf}
use Rattle.command_frame.specs.declared.items.Item.{Item}
use Rattle.lane_work.specs.Lanes.{FitsLane, LaneGoes}
use Rattle.lane_work.specs.Workers.{WorkerGoes}
use Rattle.log_base.specs.Shape.{shape}
use Rattle.node_model.specs.Sound.{payloads_on}
use Rattle.node_threads.specs.Runs.{AllRan}
use Rattle.cluster_run.specs.Numbers.{numbered_from}
use Rattle.cluster_run.proofs.Handed.{have_run}
use Rattle.cluster_run.proofs.Handing.{lane_count, lanes_fit, mapped_at, number_is, pass_count, passes_still, put_back, worker_count, workers_fit}
use Rattle.cluster_run.proofs.Sharing.{work_sync}
use Rattle.cluster_run.proofs.running.run_all.Goals as goal

pub fan_out-requires-sync-W : goal.fan_out-requires-sync-W
fan_out-requires-sync-W g c κs within =
    param_sync 1 _ (arg_sync _ yes _ (work_sync (param 1 g.row.J) (param 2 g.row.P) g.J.Journal g.P.Places c.type_bounds.send-J c.type_bounds.send-P))

pub fan_out-requires-clause-lanes : goal.fan_out-requires-clause-lanes
fan_out-requires-clause-lanes g c κs within k d below =
    subst (λ w. FitsLane (shape w.config) w.run (payloads_on w.kept) w.cells.table.shared.table_id (get_or c.split-numbered.result.0.items k d).0 (get_or c.split-numbered.result.0.items k d).1.seat)
    (sym c.new-work.ensures.cluster)
    (lanes_fit (λ p. (p.seat, p.account)) (shape c.args.cluster.config) c.args.cluster.run (payloads_on c.args.cluster.kept) c.args.cluster.cells.table.shared.table_id (c.args.lanes + c.args.workers)
    c.args.passes.items c.requires.new c.args.lanes (omega arith) c.split-numbered.result.0.items c.split-numbered.ensures.first k d below)

pub fan_out-requires-clause-workers : goal.fan_out-requires-clause-workers
fan_out-requires-clause-workers g c κs within k d below =
    subst (λ w. IsPassOf (shape w.config) w.run (payloads_on w.kept) w.cells.table.shared.table_id (get_or c.pop.new.self.items k d).account.number (get_or c.pop.new.self.items k d).seat)
    (sym c.new-work.ensures.cluster)
    (workers_fit (λ p. (p.seat, p.account)) (shape c.args.cluster.config) c.args.cluster.run (payloads_on c.args.cluster.kept) c.args.cluster.cells.table.shared.table_id (c.args.lanes + c.args.workers)
    c.args.passes.items c.requires.new (λ x. x.number_is) c.args.lanes (omega arith) c.pop.new.self.items c.in-Some.last (sym c.split-numbered.ensures.others ∙ c.in-Some.ensures.items) k d below)

pub join-requires : goal.join-requires
join-requires g c =
    let none = ap length c.requires.empty.2 in let all = c.args.room.all.ok in let lanes_ok = c.in-Ok.gathered.lanes.ok in let workers_ok = c.in-Ok.gathered.workers.ok in let room = c.requires.room.2 in
    let size = pass_count (λ p. (p.seat, p.account)) _ _ _ _ (c.args.lanes + c.args.workers) c.args.passes.items c.requires.new in
    let lanes = lane_count c.args.passes.items c.args.lanes c.split-numbered.result.0.items (omega arith) c.split-numbered.ensures.first in
    let workers = worker_count c.args.passes.items c.args.lanes c.args.workers c.pop.new.self.items c.in-Some.last size (sym c.split-numbered.ensures.others ∙ c.in-Some.ensures.items) in
    let ran = c.in-Ok.ensures.lanes.tokens in let turned = c.in-Ok.ensures.workers.tokens in
    record { room = omega arith }

pub join-passes-requires : goal.join-passes-requires
join-passes-requires g c =
    let none = ap length c.requires.empty.2 in let all = c.args.room.all.ok in let lanes_ok = c.in-Ok.gathered.lanes.ok in let workers_ok = c.in-Ok.gathered.workers.ok in let room = c.requires.room.2 in
    let size = pass_count (λ p. (p.seat, p.account)) _ _ _ _ (c.args.lanes + c.args.workers) c.args.passes.items c.requires.new in
    let lanes = lane_count c.args.passes.items c.args.lanes c.split-numbered.result.0.items (omega arith) c.split-numbered.ensures.first in
    let workers = worker_count c.args.passes.items c.args.lanes c.args.workers c.pop.new.self.items c.in-Some.last size (sym c.split-numbered.ensures.others ∙ c.in-Some.ensures.items) in
    let ran = c.in-Ok.ensures.lanes.tokens in let turned = c.in-Ok.ensures.workers.tokens in
    let first = c.join.ensures.len in let capacity = c.join.ensures.capacity in
    record { room = omega arith }

pub join_last-requires : goal.join_last-requires
join_last-requires g c =
    let none = ap length c.requires.empty.2 in let all = c.args.room.all.ok in let lanes_ok = c.in-Ok.gathered.lanes.ok in let workers_ok = c.in-Ok.gathered.workers.ok in let room = c.requires.room.2 in
    let size = pass_count (λ p. (p.seat, p.account)) _ _ _ _ (c.args.lanes + c.args.workers) c.args.passes.items c.requires.new in
    let lanes = lane_count c.args.passes.items c.args.lanes c.split-numbered.result.0.items (omega arith) c.split-numbered.ensures.first in
    let workers = worker_count c.args.passes.items c.args.lanes c.args.workers c.pop.new.self.items c.in-Some.last size (sym c.split-numbered.ensures.others ∙ c.in-Some.ensures.items) in
    let ran = c.in-Ok.ensures.lanes.tokens in let turned = c.in-Ok.ensures.workers.tokens in
    let first = c.join.ensures.len in let capacity = c.join.ensures.capacity in let second = c.join-passes.ensures.len in let kept = c.join-passes.ensures.capacity in
    record { room = omega arith }

pub join_numbered-requires : goal.join_numbered-requires
join_numbered-requires g c =
    let none = ap length c.requires.empty.2 in let all = c.args.room.all.ok in let lanes_ok = c.in-Err.numbered.ok in let workers_ok = c.in-Err.others.ok in let room = c.requires.room.2 in
    let size = pass_count (λ p. (p.seat, p.account)) _ _ _ _ (c.args.lanes + c.args.workers) c.args.passes.items c.requires.new in
    let lanes = lane_count c.args.passes.items c.args.lanes c.split-numbered.result.0.items (omega arith) c.split-numbered.ensures.first in
    let workers = worker_count c.args.passes.items c.args.lanes c.args.workers c.pop.new.self.items c.in-Some.last size (sym c.split-numbered.ensures.others ∙ c.in-Some.ensures.items) in
    let ran = ap (λ v. length v.items) c.in-Err.ensures.back.0 in let turned = ap (λ v. length v.items) c.in-Err.ensures.back.1 in
    record { room = omega arith }

pub join-passes-requires-in-Err : goal.join-passes-requires-in-Err
join-passes-requires-in-Err g c =
    let none = ap length c.requires.empty.2 in let all = c.args.room.all.ok in let lanes_ok = c.in-Err.numbered.ok in let workers_ok = c.in-Err.others.ok in let room = c.requires.room.2 in
    let size = pass_count (λ p. (p.seat, p.account)) _ _ _ _ (c.args.lanes + c.args.workers) c.args.passes.items c.requires.new in
    let lanes = lane_count c.args.passes.items c.args.lanes c.split-numbered.result.0.items (omega arith) c.split-numbered.ensures.first in
    let workers = worker_count c.args.passes.items c.args.lanes c.args.workers c.pop.new.self.items c.in-Some.last size (sym c.split-numbered.ensures.others ∙ c.in-Some.ensures.items) in
    let ran = ap (λ v. length v.items) c.in-Err.ensures.back.0 in let turned = ap (λ v. length v.items) c.in-Err.ensures.back.1 in
    let first = c.join_numbered.ensures.len in let capacity = c.join_numbered.ensures.capacity in
    record { room = omega arith }

pub join_last-requires-in-Err : goal.join_last-requires-in-Err
join_last-requires-in-Err g c =
    let none = ap length c.requires.empty.2 in let all = c.args.room.all.ok in let lanes_ok = c.in-Err.numbered.ok in let workers_ok = c.in-Err.others.ok in let room = c.requires.room.2 in
    let size = pass_count (λ p. (p.seat, p.account)) _ _ _ _ (c.args.lanes + c.args.workers) c.args.passes.items c.requires.new in
    let lanes = lane_count c.args.passes.items c.args.lanes c.split-numbered.result.0.items (omega arith) c.split-numbered.ensures.first in
    let workers = worker_count c.args.passes.items c.args.lanes c.args.workers c.pop.new.self.items c.in-Some.last size (sym c.split-numbered.ensures.others ∙ c.in-Some.ensures.items) in
    let ran = ap (λ v. length v.items) c.in-Err.ensures.back.0 in let turned = ap (λ v. length v.items) c.in-Err.ensures.back.1 in
    let first = c.join_numbered.ensures.len in let capacity = c.join_numbered.ensures.capacity in let second = c.join-passes-in-Err.ensures.len in let kept = c.join-passes-in-Err.ensures.capacity in
    record { room = omega arith }

pub returns-in-Ok-clause-ran : goal.returns-in-Ok-clause-ran
returns-in-Ok-clause-ran g c =
    let size = pass_count (λ p. (p.seat, p.account)) _ _ _ _ (c.args.lanes + c.args.workers) c.args.passes.items c.requires.new in
    have_run (λ p. (p.seat, p.account)) (shape c.args.cluster.config) c.args.cluster.run (payloads_on c.args.cluster.kept) c.args.cluster.cells.table.shared.table_id c.args.items.items
    c.args.passes.items c.args.lanes c.args.workers size
    (number_is (λ p. (p.seat, p.account)) (shape c.args.cluster.config) c.args.cluster.run (payloads_on c.args.cluster.kept) c.args.cluster.cells.table.shared.table_id (c.args.lanes + c.args.workers)
    c.args.passes.items c.requires.new (λ x. x.number_is))
    c.pop.new.self.items c.in-Some.last (sym c.split-numbered.ensures.others ∙ c.in-Some.ensures.items)
    c.in-Ok.gathered.lanes.items c.in-Ok.gathered.workers.items c.in-Ok.gathered.answers.items c.in-Ok.gathered.turned.items
    (subst (λ w. AllRan (λ h t a. LaneGoes (shape w.config) w.run (payloads_on w.kept) w.cells.table.shared.table_id h.0 c.args.items.items h.1.seat t.seat t.account a)
    (numbered_from 0 (take c.args.lanes c.args.passes.items)) c.in-Ok.gathered.lanes.items c.in-Ok.gathered.answers.items) c.new-work.ensures.cluster
    (subst (λ (l : List Item). AllRan (λ h t a. LaneGoes (shape c.new-work.result.cluster.config) c.new-work.result.cluster.run (payloads_on c.new-work.result.cluster.kept) c.new-work.result.cluster.cells.table.shared.table_id h.0 l h.1.seat t.seat t.account a)
    (numbered_from 0 (take c.args.lanes c.args.passes.items)) c.in-Ok.gathered.lanes.items c.in-Ok.gathered.answers.items) c.new-work.ensures.items
    (subst (λ l. AllRan (λ h t a. LaneGoes (shape c.new-work.result.cluster.config) c.new-work.result.cluster.run (payloads_on c.new-work.result.cluster.kept) c.new-work.result.cluster.cells.table.shared.table_id h.0 c.new-work.result.items h.1.seat t.seat t.account a)
    l c.in-Ok.gathered.lanes.items c.in-Ok.gathered.answers.items) c.split-numbered.ensures.first c.in-Ok.ensures.lanes)))
    (subst (λ w. AllRan (λ h t a. WorkerGoes (shape w.config) w.run (payloads_on w.kept) w.cells.table.shared.table_id h.account.number h.seat t.seat t.account a) c.pop.new.self.items c.in-Ok.gathered.workers.items c.in-Ok.gathered.turned.items)
    c.new-work.ensures.cluster c.in-Ok.ensures.workers)
    c.join_last.result.items
    (c.join_last.ensures ∙ ap (λ l. l ++ c.in-Some.last ∷ []) (c.join-passes.ensures.items ∙ ap (λ l. l ++ c.in-Ok.gathered.workers.items) (c.join.ensures.items ∙ ap (λ l. l ++ c.in-Ok.gathered.lanes.items) c.requires.empty.2)))

pub returns-in-Ok-clause-passes : goal.returns-in-Ok-clause-passes
returns-in-Ok-clause-passes g c k pass there =
    passes_still (shape c.args.cluster.config) c.args.cluster.run (payloads_on c.args.cluster.kept) c.args.cluster.cells.table.shared.table_id c.args.items.items c.args.lanes c.args.workers
    (map (λ p. (p.seat, p.account)) c.args.passes.items) (map (λ p. (p.seat, p.account)) c.join_last.result.items) c.in-Ok.gathered.answers.items c.in-Ok.gathered.turned.items
    c.requires.new (returns-in-Ok-clause-ran g c) k (pass.seat, pass.account) (mapped_at (λ p. (p.seat, p.account)) c.join_last.result.items k pass there)

pub returns-in-Ok-clause-count : goal.returns-in-Ok-clause-count
returns-in-Ok-clause-count g c =
    sym (length-map c.join_last.result.items (λ p. (p.seat, p.account))) ∙ (returns-in-Ok-clause-ran g c).as_many

pub returns-in-Err-clause-passes : goal.returns-in-Err-clause-passes
returns-in-Err-clause-passes g c k pass there =
    let items = c.join_last-in-Err.ensures ∙ (ap (λ l. l ++ c.in-Some.last ∷ []) (c.join-passes-in-Err.ensures.items
    ∙ (λ i. (c.join_numbered.ensures.items ∙ ((λ j. c.requires.empty.2 j ++ map (λ one. one.1) (c.in-Err.ensures.back.0 j).items) ∙ ap (map (λ one. one.1)) c.split-numbered.ensures.first)) i ++ (c.in-Err.ensures.back.1 i).items))
    ∙ put_back c.args.lanes c.args.passes.items c.pop.new.self.items c.in-Some.last (sym c.split-numbered.ensures.others ∙ c.in-Some.ensures.items)) in
    c.requires.new.each k (pass.seat, pass.account) (mapped_at (λ p. (p.seat, p.account)) c.args.passes.items k pass (ap (λ l. slice_get l k) (sym items) ∙ there))

pub returns-in-Err-clause-count : goal.returns-in-Err-clause-count
returns-in-Err-clause-count g c =
    let size = pass_count (λ p. (p.seat, p.account)) _ _ _ _ (c.args.lanes + c.args.workers) c.args.passes.items c.requires.new in
    let items = c.join_last-in-Err.ensures ∙ (ap (λ l. l ++ c.in-Some.last ∷ []) (c.join-passes-in-Err.ensures.items
    ∙ (λ i. (c.join_numbered.ensures.items ∙ ((λ j. c.requires.empty.2 j ++ map (λ one. one.1) (c.in-Err.ensures.back.0 j).items) ∙ ap (map (λ one. one.1)) c.split-numbered.ensures.first)) i ++ (c.in-Err.ensures.back.1 i).items))
    ∙ put_back c.args.lanes c.args.passes.items c.pop.new.self.items c.in-Some.last (sym c.split-numbered.ensures.others ∙ c.in-Some.ensures.items)) in
    ap length items ∙ size
