use Rattle.std.proofs.Common.{◌≡◌, ◌+◌, ◌*◌, ◌≤◌, ◌++◌, vec_len, vec_capacity}
use Rattle.std.specs.List.{flat_map, range_with_len}
use Rattle.log_base.specs.Shape.{shape}
use Rattle.command_frame.specs.Making.{drawn, made_item, number_after}
use Rattle.command_frame.proofs.making.put_made.Given as goal

abbrev pub invariant-loop-place : goal.invariant-loop-place
invariant-loop-place l = record {
  items : l.out.items ≡ l.initial.out.items ++ flat_map (λ place. made_item (shape l.config) place (drawn l.seed place)) (range_with_len 0 l.place);
  number : l.number ≡ number_after l.seed l.place;
  len : vec_len l.out ≤ vec_len l.initial.out + 33 * l.place;
  capacity : vec_capacity l.initial.out ≤ vec_capacity l.out;
}
