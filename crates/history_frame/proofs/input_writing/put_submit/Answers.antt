use Rattle.std.proofs.Common.{◌∷◌, ◌++◌, [], length}
use Rattle.log_base.specs.Wide.{be2, be4, be8}
use Rattle.reply_frame.proofs.Puts.{two_puts, four_puts}
use Rattle.history_frame.proofs.input_writing.put_submit.Goals as goal

pub returns-clause-items : goal.returns-clause-items
unfolding be2 be4 be8
returns-clause-items c =
    let client = be2 c.args.client.0 in
    let number = be8 c.args.number.0 in
    let size = be4 (length c.args.bytes.now) in
    two_puts c.args.out.now.items (1 ∷ []) (client ++ (number ++ (size ++ c.args.bytes.now))) _ _ c.put_u8.ensures.items
    (four_puts _ client number size c.args.bytes.now _ _ _ _ c.put_u16.ensures.items c.put_u64.ensures.items c.put_u32.ensures.items c.put_bytes.ensures.items)
