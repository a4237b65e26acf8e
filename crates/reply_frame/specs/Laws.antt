-- What the spellings of replies promise.
use Rattle.std.specs.Prelude.{◌≡◌, ℕ, List, ◌++◌}
use Rattle.reply_frame.specs.declared.replies.Reply.{Reply}
use Rattle.reply_frame.specs.Replies.{HasSpelling, IsReply, reply_bytes, reply_spelling}

-- no frame of a reply begins another
abbrev pub OneReplyFrame : Type 0
OneReplyFrame = (lane other : ℕ) (reply answer : Reply) (rest more : List ℕ) → HasSpelling reply → HasSpelling answer
    → reply_spelling lane reply ++ rest ≡ reply_spelling other answer ++ more
    → (lane ≡ other) × (reply_bytes reply ≡ reply_bytes answer) × (rest ≡ more)

-- no bytes of a reply begin another's
abbrev pub OneReply : Type 0
OneReply = (reply answer : Reply) (rest more : List ℕ) → IsReply reply → IsReply answer
    → reply_bytes reply ++ rest ≡ reply_bytes answer ++ more → (reply_bytes reply ≡ reply_bytes answer) × (rest ≡ more)
