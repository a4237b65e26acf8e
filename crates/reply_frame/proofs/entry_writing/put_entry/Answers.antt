use Rattle.std.proofs.Common.{ℕ, List, ◌++◌, length, ap, ◌∙◌}
use Rattle.log_base.specs.Wide.{be2, be4, be8}
use Rattle.reply_frame.proofs.Puts.{four_puts}
use Rattle.reply_frame.proofs.entry_writing.put_entry.Goals as goal

pub returns-clause-items : goal.returns-clause-items
unfolding be2 be4 be8
returns-clause-items c =
    let old = c.args.out.now.items in
    let client = be2 c.args.entry.now.client.0 in
    let number = be8 c.args.entry.now.number.0 in
    let bytes = c.get-bytes.result.now in
    four_puts old client number (be4 (length bytes)) bytes _ _ _ _ c.put_u16.ensures.items c.put_u64.ensures.items c.put_u32.ensures.items c.put_bytes.ensures.items
    ∙ ap (λ (l : List ℕ). old ++ (client ++ (number ++ (be4 (length l) ++ l)))) c.get-bytes.ensures
