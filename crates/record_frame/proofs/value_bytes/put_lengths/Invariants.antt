use Rattle.std.proofs.Common.{◌≡◌, ◌+◌, ◌*◌, ◌≤◌, ◌∷◌, ◌++◌, take, vec_len, vec_capacity}
use Rattle.std.specs.List.{flat_map}
use Rattle.log_base.specs.Wide.{be4}
use Rattle.record_frame.proofs.value_bytes.put_lengths.Given as goal

abbrev pub invariant-loop-length : goal.invariant-loop-length
invariant-loop-length l = record {
  items : l.out.items ≡ l.fn.out.items ++ l.lengths.count ∷ flat_map be4 (take l.length-index l.length-items);
  len : vec_len l.out ≡ vec_len l.fn.out + (1 + 4 * l.length-index);
  capacity : vec_capacity l.fn.out ≤ vec_capacity l.out;
}
