use Rattle.std.proofs.Common.{◌≡◌, ◌++◌, ◌∷◌, [], arith, rules}
use Rattle.std.proofs.lemmas.Result.{err_from_is_err_and}
use Rattle.history_frame.specs.ReplyReading.{plain_entry_at, plain_entries_at}
use Rattle.history_frame.proofs.Loops.{goes_on, stops, is_done, refused, plain_entries_many}
use Rattle.history_frame.proofs.reply_reading.read_plain_entries.Goals as goal

pub returns-in_err-entry-clause-read : goal.returns-in_err-entry-clause-read
returns-in_err-entry-clause-read c =
    let p = err_from_is_err_and c.from_residual.result c.from_residual.ensures.1 in
    refused _ c.from_residual.result c.in_err-entry.field-0.0 (plain_entry_at c.args.bytes.now c.loop-i.place) _ (rw p.2 at p.1) c.in_err-entry.ensures.read
    (λ first. stops plain_entries_many c.in_err-entry.field-0.0 c.loop-i.entries.items c.args.bytes.now c.args.count c.loop-i.i c.loop-i.place (plain_entries_at c.args.count c.args.bytes.now c.args.at) c.loop-i-test.true first c.loop-i.invariant.read)

pub loop-i-preserved : goal.loop-i-preserved
loop-i-preserved c = record {
  read =
      let items : c.push.new.self.items ≡ c.loop-i.entries.items ++ c.in_ok-entry.entry ∷ [] = search rules in
      let all = goes_on plain_entries_many c.loop-i.entries.items c.args.bytes.now c.args.count c.loop-i.i c.loop-i.place c.in_ok-entry.entry c.in_ok-entry.next (plain_entries_at c.args.count c.args.bytes.now c.args.at)
      c.loop-i-test.true c.in_ok-entry.ensures.read c.loop-i.invariant.read in
      rw items all;
  within = c.in_ok-entry.ensures.within;
}

pub returns-clause-read : goal.returns-clause-read
returns-clause-read c =
    is_done plain_entries_many c.loop-i.entries.items c.args.bytes.now c.args.count c.loop-i.i c.loop-i.place (plain_entries_at c.args.count c.args.bytes.now c.args.at) (omega arith) c.loop-i.invariant.read
