-- Items answered one after another: those that follow go on from the state of those before.
use Rattle.std.proofs.Common.{◌≡◌, ℕ, suc, List, [], ◌∷◌, ◌++◌, length, take, drop, length-append, Option, Some, None, refl, ap, arith}
use Rattle.std.proofs.lemmas.List.{length-take, length-drop}
use Rattle.std.proofs.lemmas.Option.{slice_get_within}
use Rattle.log_base.specs.ClusterShape.{Shape}
use Rattle.command_frame.specs.declared.items.Item.{Item}
use Rattle.reply_frame.specs.declared.replies.Reply.{Reply}
use Rattle.plain_log.specs.Log.{LogState, start, after, log_of, replies_from, reply_to, state_after}
use Rattle.plain_log.specs.Halting.{replies_down, replies_halted, after_down, state_before, log_with_halt, IsHaltOf}

pub length-replies_from : (shape : Shape) (run : ℕ) (state : LogState) (items : List Item)
    → length (replies_from shape run state items) ≡ length items
length-replies_from shape run state [] = refl
length-replies_from shape run state (item ∷ items) = ap suc (length-replies_from shape run (after shape run state item) items)

pub replies_from-append : (shape : Shape) (run : ℕ) (state : LogState) (items more : List Item)
    → replies_from shape run state (items ++ more)
    ≡ replies_from shape run state items ++ replies_from shape run (state_after shape run state items) more
replies_from-append shape run state [] more = refl
replies_from-append shape run state (item ∷ items) more =
    ap (λ (replies : List Reply). reply_to shape run state item ∷ replies) (replies_from-append shape run (after shape run state item) items more)

pub state_after-append : (shape : Shape) (run : ℕ) (state : LogState) (items more : List Item)
    → state_after shape run state (items ++ more) ≡ state_after shape run (state_after shape run state items) more
state_after-append shape run state [] more = refl
state_after-append shape run state (item ∷ items) more = state_after-append shape run (after shape run state item) items more

pub length-replies_down : (shape : Shape) (run : ℕ) (state : LogState) (items : List Item) → length (replies_down shape run state items) ≡ length items
length-replies_down shape run state [] = refl
length-replies_down shape run state (item ∷ items) = ap suc (length-replies_down shape run (after_down shape run state item) items)

length-replies_halted : (shape : Shape) (run : ℕ) (state : LogState) (items : List Item) → length (replies_halted shape run state items) ≡ length items
length-replies_halted shape run state [] = refl
length-replies_halted shape run state (item ∷ items) = ap suc (length-replies_down shape run (after_down shape run state item) items)

pub length-log_with_halt : (shape : Shape) (run : ℕ) (items : List Item) (halt : Option ℕ) → IsHaltOf shape run items halt
    → length (log_with_halt shape run items halt) ≡ length items
length-log_with_halt shape run items None is = length-replies_from shape run (start shape) items
length-log_with_halt shape run items (Some at) is =
    let state = state_before shape run items at in
    let within = slice_get_within items at is.0 is.1 in
    omega (
      arith,
      within,
      length-append (log_of shape run (take at items)) (replies_halted shape run state (drop at items)),
      length-replies_from shape run (start shape) (take at items),
      length-replies_halted shape run state (drop at items),
      length-take at items,
      length-drop at items,
    )
