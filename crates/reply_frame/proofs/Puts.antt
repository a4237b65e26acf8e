-- What stands after several puts.
use Rattle.std.proofs.Common.{◌≡◌, ℕ, ◌+◌, List, ◌∷◌, ◌++◌, length, ap, ◌∙◌, append_assoc, length-append, arith}
use Rattle.log_base.specs.Wide.{be4}
use Rattle.log_base.proofs.Wide.{length-be4}
use Rattle.reply_frame.specs.declared.replies.Reply.{Reply}
use Rattle.reply_frame.specs.Replies.{reply_bytes, reply_spelling}

pub two_puts : (old a b x y : List ℕ) → x ≡ old ++ a → y ≡ x ++ b → y ≡ old ++ (a ++ b)
two_puts old a b x y p q = q ∙ ap (λ (l : List ℕ). l ++ b) p ∙ append_assoc old a b

pub four_puts : (old a b c d x y z w : List ℕ) → x ≡ old ++ a → y ≡ x ++ b → z ≡ y ++ c → w ≡ z ++ d → w ≡ old ++ (a ++ (b ++ (c ++ d)))
four_puts old a b c d x y z w p q r s =
    two_puts old a (b ++ (c ++ d)) x w p (two_puts x b (c ++ d) y w q (two_puts y c d z w r s))

pub length-reply_spelling : (lane : ℕ) (reply : Reply) → length (reply_spelling lane reply) ≡ length (reply_bytes reply) + 6
length-reply_spelling lane reply =
    let number = be4 (length (lane ∷ reply_bytes reply) + 1) in
    omega (arith, length-append number (64 ∷ lane ∷ reply_bytes reply), length-be4 (length (lane ∷ reply_bytes reply) + 1))
