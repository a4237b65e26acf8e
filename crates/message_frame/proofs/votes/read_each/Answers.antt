use Rattle.std.proofs.Common.{◌≡◌, ◌++◌, ◌∷◌, [], sym, arith, rules}
use Rattle.std.proofs.lemmas.Result.{err_from_is_err_and}
use Rattle.message_frame.specs.Reading.{votes_at}
use Rattle.message_frame.proofs.VoteLoop.{goes_on, stops, is_done, refused}
use Rattle.message_frame.proofs.votes.read_each.Goals as goal

pub returns-in_err-vote-clause-read : goal.returns-in_err-vote-clause-read
returns-in_err-vote-clause-read c =
    let p = err_from_is_err_and c.from_residual-in_err-vote.result c.from_residual-in_err-vote.ensures.1 in
    let all = stops c.in_err-vote.field-0.0 c.loop-i.votes.items c.args.bytes.now c.args.count c.loop-i.i c.loop-i.least c.args.greatest c.loop-i.place (votes_at c.args.count c.args.start c.args.greatest c.args.bytes.now c.args.at)
    c.loop-i-test.true (sym c.in_err-vote.ensures.read) c.loop-i.invariant.read in
    refused _ c.from_residual-in_err-vote.result c.in_err-vote.field-0.0 _ (rw p.2 at p.1) all

pub loop-i-preserved : goal.loop-i-preserved
loop-i-preserved c = record {
  read =
      let items : c.push.new.self.items ≡ c.loop-i.votes.items ++ c.in_ok-vote.vote ∷ [] = search rules in
      let all = goes_on c.loop-i.votes.items c.args.bytes.now c.args.count c.loop-i.i c.loop-i.least c.args.greatest c.loop-i.place c.in_ok-vote.vote c.in_ok-vote.next (votes_at c.args.count c.args.start c.args.greatest c.args.bytes.now c.args.at)
      c.loop-i-test.true (sym c.in_ok-vote.ensures.read) c.loop-i.invariant.read in
      rw items all;
  within = c.in_ok-vote.ensures.within.1;
}

pub returns-clause-read : goal.returns-clause-read
returns-clause-read c =
    is_done c.loop-i.votes.items c.args.bytes.now c.args.count c.loop-i.i c.loop-i.least c.args.greatest c.loop-i.place (votes_at c.args.count c.args.start c.args.greatest c.args.bytes.now c.args.at) (omega arith) c.loop-i.invariant.read
