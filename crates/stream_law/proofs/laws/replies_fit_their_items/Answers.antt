use Rattle.std.proofs.Common.{[]}
use Rattle.stream_law.proofs.Finding.{singles}
use Rattle.stream_law.proofs.Serving.{replies-served}
use Rattle.stream_law.proofs.laws.replies_fit_their_items.Goals as goal

pub returns : goal.returns
returns c config run kept items events each legal = replies-served config run items events each (singles config run kept [] events legal.follow)
