-- No frame begins another.
use Rattle.std.proofs.Common.{◌≡◌, ℕ, ◌+◌, ◌<◌, ◌^◌, List, [], ◌∷◌, ◌++◌, length, take, drop, refl, sym, ap, ◌∙◌, append_assoc, arith}
use Rattle.std.proofs.lemmas.List.{take_at, drop_at}
use Rattle.log_base.specs.Wide.{be4, number4}
use Rattle.log_base.proofs.Wide.{number4-be4}
use Rattle.reply_frame.specs.Frames.{frame}
use Rattle.reply_frame.specs.declared.replies.Reply.{Reply}
use Rattle.reply_frame.specs.Replies.{HasSpelling, reply_bytes, reply_spelling}

-- ---- the parts of a frame, whatever follows it

pub frame-number : (kind : ℕ) (body rest : List ℕ) → length body + 1 < 2 ^ 32 → number4 (frame kind body ++ rest) 0 ≡ length body + 1
frame-number kind body rest fits =
    ap (λ (l : List ℕ). number4 l 0) (append_assoc (be4 (length body + 1)) (kind ∷ body) rest)
    ∙ number4-be4 (length body + 1) 0 [] (kind ∷ body ++ rest) refl fits

pub frame-behind : (kind : ℕ) (body rest : List ℕ) → drop 4 (frame kind body ++ rest) ≡ kind ∷ body ++ rest
unfolding be4
frame-behind kind body rest = refl

pub record SameFrame (k m : ℕ) (a b x y : List ℕ) : Type 0 where
  pub kind : k ≡ m
  pub body : a ≡ b
  pub rest : x ≡ y

pub one_frame : (k m : ℕ) (a b x y : List ℕ) → length a + 1 < 2 ^ 32 → length b + 1 < 2 ^ 32
    → frame k a ++ x ≡ frame m b ++ y → SameFrame k m a b x y
one_frame k m a b x y fits also e =
    let number = sym (frame-number k a x fits) ∙ ap (λ (l : List ℕ). number4 l 0) e ∙ frame-number m b y also in
    let size : length b ≡ length a = omega arith in
    let behind : k ∷ a ++ x ≡ m ∷ b ++ y = sym (frame-behind k a x) ∙ ap (drop 4) e ∙ frame-behind m b y in
    let both : a ++ x ≡ b ++ y = cc in
    record {
      kind = cc;
      body = sym (take_at a x (length a) refl) ∙ ap (take (length a)) both ∙ take_at b y (length a) size;
      rest = sym (drop_at a x (length a) refl) ∙ ap (drop (length a)) both ∙ drop_at b y (length a) size;
    }

-- ---- replies

pub one_reply_frame : (lane other : ℕ) (reply answer : Reply) (rest more : List ℕ) → HasSpelling reply → HasSpelling answer
    → reply_spelling lane reply ++ rest ≡ reply_spelling other answer ++ more
    → (lane ≡ other) × (reply_bytes reply ≡ reply_bytes answer) × (rest ≡ more)
one_reply_frame lane other reply answer rest more has also e =
    let short = has.1 in
    let fits = also.1 in
    let same = one_frame 64 64 (lane ∷ reply_bytes reply) (other ∷ reply_bytes answer) rest more (omega arith) (omega arith) e in
    let body : lane ∷ reply_bytes reply ≡ other ∷ reply_bytes answer = same.body in
    (cc, cc, same.rest)
