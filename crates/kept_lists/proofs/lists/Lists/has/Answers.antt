use Rattle.std.proofs.Common.{◌+◌, ◌≡◌, ℕ, List, get_or, length, refl, sym, ap, subst, ◌∙◌, arith, rules}
use Rattle.std.specs.Prelude.{IsTrue, ◌↔◌}
use Rattle.std.proofs.lemmas.Option.{slice_get_read}
use Rattle.history_frame.specs.declared.events.Kept.{Kept}
use Rattle.kept_lists.proofs.Places.{has_here, within_here}
use Rattle.kept_lists.proofs.lists.Lists.has.Goals as goal

pub overflow_add-index : goal.overflow_add-index
overflow_add-index c =
    let lists = c.args.self.now in
    let disk = c.args.disk in
    let inside = within_here lists.kept.now disk (get_or lists.starts disk 0) (get_or lists.starts (disk + 1) 0) (lists.are_starts disk (omega arith)) (lists.are_starts (disk + 1) (omega arith))
    c.args.offset c.count.result c.count.ensures c.if-offset-count.false in
    search (rules, inside)

pub offset_bounds-self-index : goal.offset_bounds-self-index
offset_bounds-self-index c =
    let lists = c.args.self.now in
    let disk = c.args.disk in
    let inside = within_here lists.kept.now disk (get_or lists.starts disk 0) (get_or lists.starts (disk + 1) 0) (lists.are_starts disk (omega arith)) (lists.are_starts (disk + 1) (omega arith))
    c.args.offset c.count.result c.count.ensures c.if-offset-count.false in
    search (rules, inside)

pub bounds-self-index : goal.bounds-self-index
bounds-self-index c =
    let lists = c.args.self.now in
    let disk = c.args.disk in
    (within_here lists.kept.now disk (get_or lists.starts disk 0) (get_or lists.starts (disk + 1) 0) (lists.are_starts disk (omega arith)) (lists.are_starts (disk + 1) (omega arith))
    c.args.offset c.count.result c.count.ensures c.if-offset-count.false).1

pub returns : goal.returns
returns c =
    let lists = c.args.self.now in
    let disk = c.args.disk in
    let start = get_or lists.starts disk 0 in
    let end = get_or lists.starts (disk + 1) 0 in
    let first = lists.are_starts disk (omega arith) in
    let next = lists.are_starts (disk + 1) (omega arith) in
    let inside = within_here lists.kept.now disk start end first next c.args.offset c.count.result c.count.ensures c.if-offset-count.false in
    let one = c.index-self-index.result in
    let there = slice_get_read lists.kept.now (length lists.kept.now) (start + c.args.offset) one refl inside.1 c.index-self-index.is in
    has_here lists.kept.now disk start end first next c.args.offset one c.args.payload.now c.is_same.result inside.0 there
    (subst (λ (p : List ℕ). IsTrue c.is_same.result ↔ (p ≡ c.args.payload.now)) (c.get.ensures ∙ ap (λ (k : Kept). k.payload) (sym c.index-self-index.is)) c.is_same.ensures)
