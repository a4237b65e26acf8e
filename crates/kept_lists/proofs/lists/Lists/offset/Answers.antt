use Rattle.std.proofs.Common.{◌+◌, get_or, arith}
use Rattle.kept_lists.proofs.Places.{offset_at}
use Rattle.kept_lists.proofs.lists.Lists.offset.Goals as goal

pub overflow_sub-result : goal.overflow_sub-result
overflow_sub-result c =
    let lists = c.args.self.now in
    let disk = c.args.disk in
    (offset_at lists.kept.now disk (get_or lists.starts disk 0) (get_or lists.starts (disk + 1) 0) (lists.are_starts disk (omega (arith, c.requires.disk))) (lists.are_starts (disk + 1) (omega (arith, c.requires.disk)))
    c.args.index c.requires.index c.requires.on).0

pub returns : goal.returns
returns c =
    let lists = c.args.self.now in
    let disk = c.args.disk in
    (offset_at lists.kept.now disk (get_or lists.starts disk 0) (get_or lists.starts (disk + 1) 0) (lists.are_starts disk (omega (arith, c.requires.disk))) (lists.are_starts (disk + 1) (omega (arith, c.requires.disk)))
    c.args.index c.requires.index c.requires.on).1
