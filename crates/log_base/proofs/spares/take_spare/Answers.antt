use Rattle.std.proofs.Common.{◌≡◌, ◌<◌, ◌≤◌, length, get_or, ap, ◌∙◌, arith}
use Rattle.std.specs.List.{remove}
use Rattle.log_base.proofs.Rooms.{first_with_room, first-within, first-room, first-removed}
use Rattle.log_base.proofs.spares.take_spare.Goals as goal

pub remove-spare-requires : goal.remove-spare-requires
remove-spare-requires c =
    let within : first_with_room c.args.bytes c.args.spares.now.items < length c.args.spares.now.items = first-within c.args.bytes c.args.spares.now.items c.requires in
    let same = ap (λ l. length l) c.deref.ensures.value in
    let at = c.oldest_with_room-at.ensures ∙ ap (λ l. first_with_room c.args.bytes l) c.deref.ensures.value in
    omega (arith, within, same, at)

pub returns-clause-room : goal.returns-clause-room
returns-clause-room c =
    let room : c.args.bytes ≤ get_or c.args.spares.now.items (first_with_room c.args.bytes c.args.spares.now.items) c.remove-spare.result = first-room c.args.bytes c.args.spares.now.items c.remove-spare.result c.requires in
    let at = c.oldest_with_room-at.ensures ∙ ap (λ l. first_with_room c.args.bytes l) c.deref.ensures.value in
    let same : c.remove-spare.result ≡ get_or c.args.spares.now.items (first_with_room c.args.bytes c.args.spares.now.items) c.remove-spare.result = c.remove-spare.ensures.value ∙ ap (λ k. get_or c.args.spares.now.items k c.remove-spare.result) at in
    omega (arith, room, same, c.into_buffer-buffer.ensures, c.clear.ensures.capacity)

pub returns-clause-rest : goal.returns-clause-rest
returns-clause-rest c =
    let at = c.oldest_with_room-at.ensures ∙ ap (λ l. first_with_room c.args.bytes l) c.deref.ensures.value in
    c.remove-spare.ensures.items
    ∙ ap (λ k. remove c.args.spares.now.items k) at
    ∙ first-removed c.args.bytes c.args.spares.now.items
