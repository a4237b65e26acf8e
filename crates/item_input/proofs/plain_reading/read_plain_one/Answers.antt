use Rattle.std.proofs.Common.{ap, ◌∙◌}
use Rattle.command_frame.specs.Items.{passed_limit}
use Rattle.command_frame.specs.Reader.{ItemReading}
use Rattle.item_input.proofs.plain_reading.read_plain_one.Goals as goal

-- an item is read that is no line of the fault script
pub returns-in-Ok-clause-steps : goal.returns-in-Ok-clause-steps
returns-in-Ok-clause-steps g c =
    let answers = rw c.in-Item.is at (c.in_ok-item.ensures.answers c.requires.fresh) in
    let moves = rw c.in-Item.is at (c.in_ok-item.ensures.moves c.requires.fresh) in
    record {
      takes = record {
        item = c.in-Item.item;
        is_item = answers.0;
        used = answers.1;
        counts = ap (λ (r : ItemReading). r.counts) moves;
        within = ap (λ (r : ItemReading). passed_limit r.counts) moves ∙ answers.2;
        items = c.in-Ok.ensures.items;
        place = ap (λ (r : ItemReading). r.offset) moves;
      };
      plain = c.is_fault.ensures.none c.if-is_fault.false;
    }
