use Rattle.std.proofs.Common.{◌+◌, get_or, sym, arith}
use Rattle.kept_lists.proofs.Places.{counted_all, start_le}
use Rattle.kept_lists.proofs.lists.Lists.count.Goals as goal

pub overflow_sub-result : goal.overflow_sub-result
overflow_sub-result c =
    let lists = c.args.self.now in
    let disk = c.args.disk in
    start_le lists.kept.now disk (get_or lists.starts disk 0) (get_or lists.starts (disk + 1) 0) (lists.are_starts disk (omega arith)) (lists.are_starts (disk + 1) (omega arith))

pub returns : goal.returns
returns c =
    let lists = c.args.self.now in
    let disk = c.args.disk in
    sym (counted_all lists.kept.now disk (get_or lists.starts disk 0) (get_or lists.starts (disk + 1) 0) (lists.are_starts disk (omega arith)) (lists.are_starts (disk + 1) (omega arith)))
