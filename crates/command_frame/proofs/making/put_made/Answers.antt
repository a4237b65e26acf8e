use Rattle.std.proofs.Common.{◌≡◌, ℕ, ◌/◌, ◌^◌, ◌++◌, List, ◌∙◌, ap, arith}
use Rattle.std.specs.List.{flat_map, range_with_len}
use Rattle.log_base.specs.Shape.{shape}
use Rattle.command_frame.specs.Making.{drawn, made_item, made_items}
use Rattle.command_frame.proofs.MadeItems.{number_next, place_put}
use Rattle.command_frame.proofs.making.put_made.Goals as goal

pub loop-place-preserved : goal.loop-place-preserved
loop-place-preserved c =
    let bytes : ℕ → List ℕ = λ place. made_item (shape c.args.config.now) place (drawn c.args.seed place) in
    let number = number_next c.args.seed c.loop-place.place c.loop-place.number c.next-number.result c.loop-place.invariant.number c.next-number.ensures in
    record {
      items = place_put c.args.out.now.items bytes c.loop-place.place c.loop-place.out.items c.put_item.new.out.items c.loop-place.invariant.items
          (c.put_item.ensures.items
          ∙ ap (λ (n : ℕ). c.loop-place.out.items ++ made_item (shape c.args.config.now) c.loop-place.place (n / 2 ^ 33)) number);
      number = number;
      len = omega arith;
      capacity = omega arith;
    }

pub returns : goal.returns
unfolding made_items
returns c =
    let all : c.loop-place.place ≡ c.args.count = omega arith in
    c.loop-place.invariant.items
    ∙ ap (λ (n : ℕ). c.args.out.now.items ++ flat_map (λ place. made_item (shape c.args.config.now) place (drawn c.args.seed place)) (range_with_len 0 n)) all
