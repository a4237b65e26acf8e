use Rattle.std.proofs.Common.{List, ◌∷◌, ◌++◌, length, ap, sym, ◌∙◌}
use Rattle.std.specs.List.{flat_map}
use Rattle.log_base.specs.Wide.{be2, be8}
use Rattle.record_frame.specs.declared.entries.Entry.{Entry}
use Rattle.reply_frame.specs.declared.replies.Reply.{Reply}
use Rattle.reply_frame.specs.Replies.{entry_bytes, reply_bytes}
use Rattle.reply_frame.proofs.Puts.{four_puts}
use Rattle.reply_frame.proofs.writing.+put_reply.Goals as goal

pub returns-in-Stream : goal.returns-in-Stream
unfolding be2 be8
returns-in-Stream t c =
    let old = c.args.out.now.items in
    let front = 21 ∷ be8 c.in-Stream.from.0 in
    let put = four_puts old front (be2 (length c.get.result.now)) (flat_map entry_bytes c.get-in-Stream.result.now) (reply_bytes c.deref.result.now) _ _ _ _
    c.put_kind_u64-in-Stream.ensures.items c.put_u16.ensures.items c.put_entries.ensures.items c.put_reply.ensures in
    put
    ∙ ap (λ (l : List Entry). old ++ (front ++ (be2 (length l) ++ (flat_map entry_bytes c.get-in-Stream.result.now ++ reply_bytes c.deref.result.now)))) c.get.ensures
    ∙ ap (λ (l : List Entry). old ++ (front ++ (be2 (length c.in-Stream.entries) ++ (flat_map entry_bytes l ++ reply_bytes c.deref.result.now)))) c.get-in-Stream.ensures
    ∙ ap (λ (r : Reply). old ++ (front ++ (be2 (length c.in-Stream.entries) ++ (flat_map entry_bytes c.in-Stream.entries ++ reply_bytes r)))) c.deref.ensures
    ∙ ap (λ (r : Reply). old ++ reply_bytes r) (sym c.in-Stream.is)
