-- An answer of a node is no stream.
use Rattle.reply_frame.specs.declared.replies.Reply.{Reply, Stream'}
use Rattle.reply_frame.specs.Replies.{IsNodeAnswer}
use Rattle.schedule_model.specs.Streams.{IsSingle}

pub answer_is_single : (reply : Reply) → IsNodeAnswer reply → IsSingle reply
answer_is_single (Stream' from entries at last) h = h
answer_is_single _ h = tt
