use Rattle.std.proofs.Common.{arith, refl}
use Rattle.tied_cells.proofs.Layouts.{took_home, took_else}
use Rattle.tied_cells.proofs.layout.+take_machines.Goals as goal

pub returns-in-Home-clause-machines : goal.returns-in-Home-clause-machines
returns-in-Home-clause-machines g t c =
    took_home c.args.machines.now.items c.take_machines.new.machines.items c.push_reserved.new.self.items c.args.slots.now.items c.pop.new.self.items c.in-Some.stored c.in-Home.field-0 c.in-Home.field-0.machine
    c.in-Some.ensures.items c.in-Home.is refl c.take_machines.ensures.machines c.push_reserved.ensures.items

pub returns-in-Some : goal.returns-in-Some
returns-in-Some g t c = record {
  machines = took_else c.args.machines.now.items c.take_machines.new.machines.items c.args.slots.now.items c.pop.new.self.items c.in-Some.stored
      c.in-Some.ensures.items c.in_default-stored.not-Home c.take_machines.ensures.machines;
  len = let one = c.in-Some.ensures.len in let rest = c.take_machines.ensures.len in omega arith;
  capacity = c.take_machines.ensures.capacity;
}
