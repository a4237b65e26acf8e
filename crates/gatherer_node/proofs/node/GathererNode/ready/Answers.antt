use Rattle.std.proofs.Common.{None, rules}
use Rattle.log_base.specs.Shape.{shape}
use Rattle.gatherer_node.proofs.Due.{ready_down, ready_running}
use Rattle.gatherer_node.proofs.node.GathererNode.ready.Goals as goal

pub returns-in-Running-default : goal.returns-in-Running-default
returns-in-Running-default c = record {
  same = search rules;
  letters = search rules;
  ready =
      let ready = ready_running (shape c.self.inside.config) c.self.inside.index c.self.inside.reports c.take.new.self c.args.out.now.rooms c.args.input.now c.take.ensures.empty (search rules) in
      search (rules, ready);
}

pub returns-in-Running-default-2-clause-ready : goal.returns-in-Running-default-2-clause-ready
returns-in-Running-default-2-clause-ready c =
    let ready = ready_down (shape c.self.inside.config) c.self.inside.index None c.take.new.self c.args.out.now.rooms c.args.input.now c.take.ensures.empty in
    search (rules, ready)
