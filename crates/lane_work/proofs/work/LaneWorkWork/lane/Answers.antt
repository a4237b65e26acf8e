use Rattle.std.proofs.Common.{◌≡◌, ℕ, ◌+◌, ◌≤◌, List, [], ◌∷◌, ◌++◌, sym, ap, ◌∙◌, subst, take, arith}
use Rattle.log_base.specs.Shape.{shape}
use Rattle.node_model.specs.Sound.{payloads_on}
use Rattle.cluster.specs.Clusters.{IsPassOf}
use Rattle.client_session.specs.Sessions.{Drawing}
use Rattle.command_frame.specs.declared.items.Item.{Item}
use Rattle.lane_work.specs.Items.{items_of}
use Rattle.lane_work.specs.Keeping.{IsBetween}
use Rattle.lane_work.specs.Stages.{after_item}
use Rattle.lane_work.proofs.ItemsLaw.{HaveGone, gone_more, taken_one}
use Rattle.lane_work.proofs.ServedItem.{one_draw}
use Rattle.lane_work.proofs.LaneEnds.{answers_stop, stops_behind, stops_later}
use Rattle.lane_work.proofs.work.LaneWorkWork.lane.Goals as goal

drawn_few : (next after before index : ℕ) → next ≡ after → after ≤ before + 1 → before ≤ index → next ≤ index + 1
drawn_few next after before index same one few = omega arith

pub returns-in_err-reply : goal.returns-in_err-reply
returns-in_err-reply g c =
    let cluster = c.args.self.now.cluster in
    let config = shape cluster.config in
    let t = c.loop-item in
    let after = c.serve_item.new.pass.seat.me.0.own in
    let before = c.args.token.now.seat.me.0.own in
    let more = stops_later config c.args.lane cluster.run t.token.account before t.token.seat.me.0.own after t.session (take t.item-index c.args.self.now.items) t.replies.items
    t.invariant.gone c.in_err-reply.ensures.answer in
    record {
      pass = subst (λ (n : ℕ). IsPassOf config cluster.run (payloads_on cluster.kept) cluster.cells.table.shared.table_id n c.serve_item.new.pass.seat) t.invariant.number c.in_err-reply.ensures.pass;
      went = answers_stop config cluster.run c.args.lane c.args.self.now.items c.serve_item.new.pass.account before after c.from_residual.result c.from_residual.ensures.0 more;
    }

pub returns-in_err-push : goal.returns-in_err-push
returns-in_err-push g c =
    let cluster = c.args.self.now.cluster in
    let config = shape cluster.config in
    let t = c.loop-item in
    let after = c.serve_item.new.pass.seat.me.0.own in
    let before = c.args.token.now.seat.me.0.own in
    let more = stops_behind config c.args.lane cluster.run t.token.account before t.token.seat.me.0.own after t.session (take t.item-index c.args.self.now.items) t.replies.items
    t.invariant.gone c.item-item.result c.serve_item.new.pass.account c.in_ok-reply.reply c.in_ok-reply.ensures.answer in
    record {
      pass = subst (λ (n : ℕ). IsPassOf config cluster.run (payloads_on cluster.kept) cluster.cells.table.shared.table_id n c.serve_item.new.pass.seat) t.invariant.number c.in_ok-reply.ensures.pass;
      went = answers_stop config cluster.run c.args.lane c.args.self.now.items c.serve_item.new.pass.account before after c.from_residual-in_err-push.result c.from_residual-in_err-push.ensures.0 more;
    }

pub loop-item-preserved : goal.loop-item-preserved
loop-item-preserved g c =
    let cluster = c.args.self.now.cluster in
    let config = shape cluster.config in
    let lane = c.args.lane in
    let t = c.loop-item in
    let new = c.serve_item.new.pass in
    let next = c.serve_item.new.session in
    let before = c.args.token.now.seat.me.0.own in
    let own = t.token.seat.me.0.own in
    let items = c.args.self.now.items in
    let item = c.item-item.result in
    let w = c.in_ok-reply.ensures in
    let is = sym c.lane_of.ensures ∙ c.if-lane_of-lane.false in
    let same = subst (λ (l : List Item). items_of lane (take (t.item-index + 1) l) ≡ items_of lane (take t.item-index l) ++ item ∷ []) c.get-item-items.ensures
    (taken_one lane c.get-item-items.result.now t.item-index item c.item-item.is c.loop-item-test.true is) in
    let one = one_draw config t.session item in
    record {
      pass = subst (λ (n : ℕ). IsPassOf config cluster.run (payloads_on cluster.kept) cluster.cells.table.shared.table_id n new.seat) t.invariant.number w.pass;
      number = sym new.number_is ∙ (w.pass.number_is ∙ t.invariant.number);
      between = subst (λ (n : ℕ). IsBetween config cluster.run n next new.seat.me.0.own) t.invariant.number w.between;
      few = drawn_few next.draws (after_item config t.session item).draws t.session.draws t.item-index (ap (λ (s : Drawing). s.draws) w.session) one t.invariant.few;
      count = let before_it = t.invariant.count in omega arith;
      gone = subst (HaveGone config lane cluster.run new.account before new.seat.me.0.own next (take (t.item-index + 1) items)) (sym c.in_ok-push.ensures.items)
          (gone_more config lane cluster.run t.token.account new.account before own new.seat.me.0.own t.session next (take t.item-index items) (take (t.item-index + 1) items)
          t.replies.items item c.in_ok-reply.reply same w.session w.answer t.invariant.gone);
    }
